-- What a symbol answers, as `nlist.h` has its fields. Assumes nothing.
use Rattle.std.specs.Prelude.{ℕ, ◌-◌, Bool, true, cond, not, ◌&&◌, List, [], ◌∷◌, length, take, drop, Some, None, codes, Option, ◌==◌, bit_and, nat_le, nat_lt}
use Rattle.std.specs.Str.{bytes_eq}
use Rattle.fields.specs.declared.load_command.SymtabCommand.{SymtabCommand}
use Rattle.fields.specs.declared.symbol.Nlist.{Nlist}
use Rattle.list.specs.Contents.{Contents, got}
use Rattle.sections.specs.declared.kind.SectionKind.{SectionKind}
use Rattle.sections.specs.declared.kind.SectionKind.TheVariants.{Text as TextSection, Data as DataSection, ReadOnlyData, ReadOnlyString, UninitializedData, Tls as TlsSection, UninitializedTls, TlsVariables, Unknown as UnknownSection, Debug}
use Rattle.sections.specs.declared.record.SectionRecord.{SectionRecord}
use Rattle.sections.specs.Kinds.{meets}
use Rattle.symbols.specs.declared.symbol.Symbol.{Symbol}
use Rattle.symbols.specs.declared.symbol.SymbolKind.{SymbolKind}
use Rattle.symbols.specs.declared.symbol.SymbolScope.{SymbolScope}
use Rattle.symbols.specs.declared.symbol.SymbolScope.TheVariants.{Compilation, Linkage, Dynamic}
use Rattle.symbols.specs.declared.symbol.SymbolSection.{SymbolSection}
use Rattle.symbols.specs.declared.symbol.SymbolSection.TheVariants.{Undefined, Absolute, Common, Section}
use Rattle.symbols.specs.Names.{name_span, name_bytes}

-- N_STAB
abbrev pub is_stab : Nlist → Bool
is_stab x = meets x.n_type 0xe0

-- N_TYPE
abbrev pub typ : Nlist → ℕ
typ x = bit_and x.n_type 0x0e

-- N_UNDF is 0: with no value the symbol is undefined, and with one it is common, and the value is its size
abbrev pub is_undefined : Nlist → Bool
is_undefined x = typ x == 0x0 && x.n_value == 0

abbrev pub is_common : Nlist → Bool
is_common x = typ x == 0x0 && not (x.n_value == 0)

-- N_ABS is 0x2, and N_SECT 0xe with a section's number from 1
abbrev pub section_for : Nlist → SymbolSection
section_for x =
    cond (is_undefined x) Undefined
    (cond (is_common x) Common
    (cond (typ x == 0x2) Absolute
    (cond (typ x == 0xe && not (x.n_sect == 0)) (Section x.n_sect)
    SymbolSection.Unknown)))

-- no address: the size of a common symbol, and of an indirect one, N_INDR 0xa, the index of a name
abbrev pub address_of : Nlist → ℕ
address_of x = cond (is_common x) 0 (cond (typ x == 0xa) 0 x.n_value)

-- N_EXT is 0x01 and N_PEXT 0x10
abbrev pub scope_of : Nlist → SymbolScope
scope_of x =
    cond (is_undefined x) SymbolScope.Unknown
    (cond (not (meets x.n_type 0x01)) Compilation
    (cond (meets x.n_type 0x10) Linkage Dynamic))

-- N_WEAK_REF is 0x40 and N_WEAK_DEF 0x80
abbrev pub is_weak : Nlist → Bool
is_weak x = meets x.n_desc 0xc0

abbrev pub digits : List ℕ → Bool
digits [] = true
digits (b ∷ bs) = (nat_le 48 b && nat_le b 57) && digits bs

-- `ltmp` and a digit or more: so the assembler names the start of a section
abbrev pub is_ltmp : List ℕ → Bool
is_ltmp name = nat_lt 4 (length name) && (bytes_eq (take 4 name) (codes "ltmp") && digits (drop 4 name))

-- seen from one compilation only
abbrev pub is_local : Nlist → Bool
is_local x = not (is_undefined x) && not (meets x.n_type 0x01)

abbrev pub kind_in : SectionKind → SymbolKind
kind_in TextSection = SymbolKind.Text
kind_in DataSection = SymbolKind.Data
kind_in ReadOnlyData = SymbolKind.Data
kind_in ReadOnlyString = SymbolKind.Data
kind_in UninitializedData = SymbolKind.Data
kind_in TlsSection = SymbolKind.Tls
kind_in UninitializedTls = SymbolKind.Tls
kind_in TlsVariables = SymbolKind.Tls
kind_in UnknownSection = SymbolKind.Unknown
kind_in Debug = SymbolKind.Unknown

-- a local name of that form at its section's address stands for the section
abbrev pub stands_for_section : List ℕ → SymtabCommand → Nlist → SectionRecord → Bool
stands_for_section xs t x r = (is_local x && address_of x == r.addr) && is_ltmp (name_bytes xs (name_span xs t x.n_strx))

abbrev pub kind_by : List ℕ → SymtabCommand → Nlist → Option SectionRecord → SymbolKind
kind_by xs t x (Some r) = cond (stands_for_section xs t x r) SymbolKind.Section (kind_in r.kind)
kind_by xs t x None = cond (is_common x) SymbolKind.Data SymbolKind.Unknown

-- the record of a symbol's section, where that is listed
abbrev pub record_for : Contents SectionRecord → SymbolSection → Option SectionRecord
record_for sections (Section n) = got sections (n - 1)
record_for sections SymbolSection.Unknown = None
record_for sections Undefined = None
record_for sections Absolute = None
record_for sections Common = None

-- what a symbol answers; a stab, nothing
unfoldable pub symbol_of : List ℕ → SymtabCommand → Contents SectionRecord → Nlist → Option Symbol
symbol_of xs t sections x =
    cond (is_stab x) None
    (Some (record {
      address = address_of x;
      section = section_for x;
      kind = kind_by xs t x (record_for sections (section_for x));
      scope = scope_of x;
      weak = is_weak x;
    }))
