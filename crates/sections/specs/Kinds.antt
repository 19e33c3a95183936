-- The kind of a section, as its type, flags and segment say. Assumes nothing.
use Rattle.std.specs.Prelude.{ℕ, Bool, false, cond, not, ◌||◌, List, [], ◌∷◌, Some, None, codes, ◌==◌, bit_and, Option, nat_lt}
use Rattle.std.specs.Str.{bytes_eq}
use Rattle.sections.specs.declared.kind.SectionKind.{SectionKind}
use Rattle.sections.specs.declared.kind.SectionKind.TheVariants.{Unknown, Text, Data, ReadOnlyData, ReadOnlyString, UninitializedData, Tls, UninitializedTls, TlsVariables, Debug}

abbrev pub one_of : List ℕ → ℕ → Bool
one_of [] t = false
one_of (x ∷ xs) t = t == x || one_of xs t

-- which types have which kind; of the other types (none) the flags and the segment decide
abbrev pub class_of : ℕ → Option SectionKind
class_of t =
    cond (nat_lt 0x16 t) (Some Unknown)
    (cond (one_of (0x01 ∷ 0x0c ∷ []) t) (Some UninitializedData)
    (cond (one_of (0x02 ∷ []) t) (Some ReadOnlyString)
    (cond (one_of (0x03 ∷ 0x04 ∷ 0x05 ∷ 0x0e ∷ []) t) (Some ReadOnlyData)
    (cond (one_of (0x08 ∷ []) t) (Some Text)
    (cond (one_of (0x11 ∷ []) t) (Some Tls)
    (cond (one_of (0x12 ∷ []) t) (Some UninitializedTls)
    (cond (one_of (0x13 ∷ []) t) (Some TlsVariables)
    (cond (one_of (0x0f ∷ []) t) (Some Unknown)
    None))))))))

-- some bit of the mask is set
abbrev pub meets : ℕ → ℕ → Bool
meets flags mask = not (bit_and flags mask == 0)

-- the low 8 bits of the flags
abbrev pub type_of : ℕ → ℕ
type_of flags = bit_and flags 0xff

abbrev pub kind_by_class : Option SectionKind → ℕ → Bool → SectionKind
kind_by_class (Some k) flags read_only = k
kind_by_class None flags read_only = cond (meets flags 0x8000_0400) Text (cond read_only ReadOnlyData Data)

abbrev pub kind_of : List ℕ → ℕ → Bool → SectionKind
kind_of segname flags read_only =
    cond (bytes_eq segname (codes "__DWARF")) Debug
    (cond (meets flags 0x0200_0000) Unknown
    (kind_by_class (class_of (type_of flags)) flags read_only))
