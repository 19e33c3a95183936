-- The symbols that a walk has come upon, by their numbers. Assumes nothing.
use Rattle.std.specs.Prelude.{ℕ, ◌+◌, ◌*◌, ◌<◌, Bool, cond, List as Row, Some, None, Ok, Err, Option, Result, nat_lt}
use Rattle.source.specs.declared.refusal.Reason.TheVariants.{UnknownNumber, UnreadableName}
use Rattle.source.specs.declared.refusal.Refusal.{Refusal}
use Rattle.source.specs.declared.span.Span.{Span}
use Rattle.source.specs.Refusals.{refusal}
use Rattle.list.specs.Contents.{Contents}
use Rattle.fields.specs.declared.endian.Endianness.{Endianness}
use Rattle.fields.specs.declared.load_command.SymtabCommand.{SymtabCommand}
use Rattle.fields.specs.declared.symbol.Nlist.{Nlist}
use Rattle.fields.specs.Records.{nlist_at, nlist_size}
use Rattle.sections.specs.declared.record.SectionRecord.{SectionRecord}
use Rattle.symbols.specs.declared.symbol.Symbol.{Symbol}
use Rattle.symbols.specs.Names.{name_span}
use Rattle.symbols.specs.Symbols.{symbol_of}
use Rattle.reader.specs.declared.state.State.{State}
use Rattle.reader.specs.declared.table.TableSymbol.{TableSymbol}

-- the place of a symbol's record
abbrev pub symbol_place : Bool → SymtabCommand → ℕ → ℕ
symbol_place wide t n = t.symoff + n * nlist_size wide

abbrev pub in_table : SymtabCommand → ℕ → Option Nlist → Option TableSymbol
in_table t place (Some x) = Some (record { table = t; place = place; nlist = x })
in_table t place None = None

-- the symbol of a number, from 0: a table that was not come upon has none
abbrev pub symbol_in : Bool → Row ℕ → Endianness → Option SymtabCommand → ℕ → Option TableSymbol
symbol_in wide xs e None n = None
symbol_in wide xs e (Some t) n = cond (nat_lt n t.nsyms) (in_table t (symbol_place wide t n) (nlist_at wide xs (symbol_place wide t n) e)) None

unfoldable pub symbol_at : Bool → Row ℕ → State → ℕ → Option TableSymbol
symbol_at wide xs w n = symbol_in wide xs w.endian w.symtab n

-- a symbol that is there is one of those that its table counts
abbrev pub Counted : ℕ → Option TableSymbol → Type 0
Counted n (Some x) = n < x.table.nsyms
Counted n None = Unit {0}

abbrev pub symbol_by : Row ℕ → Contents SectionRecord → ℕ → Option TableSymbol → Result (Option Symbol) Refusal
symbol_by xs sections n (Some x) = Ok (symbol_of xs x.table sections x.nlist)
symbol_by xs sections n None = Err (refusal UnknownNumber n)

-- what a symbol answers, by its number
abbrev pub symbol_answer : Bool → Row ℕ → State → Contents SectionRecord → ℕ → Result (Option Symbol) Refusal
symbol_answer wide xs w sections n = symbol_by xs sections n (symbol_at wide xs w n)

abbrev pub readable_or : ℕ → Option Span → Result Span Refusal
readable_or place (Some s) = Ok s
readable_or place None = Err (refusal UnreadableName place)

abbrev pub name_by : Row ℕ → ℕ → Option TableSymbol → Result Span Refusal
name_by xs n (Some x) = readable_or x.place (name_span xs x.table x.nlist.n_strx)
name_by xs n None = Err (refusal UnknownNumber n)

-- where a symbol's name stands, by its number
abbrev pub name_answer : Bool → Row ℕ → State → ℕ → Result Span Refusal
name_answer wide xs w n = name_by xs n (symbol_at wide xs w n)
