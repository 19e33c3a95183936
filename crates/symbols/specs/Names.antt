-- The names of symbols, in the string table. Assumes nothing.
use Rattle.std.specs.Prelude.{ℕ, ◌+◌, ◌-◌, ◌^◌, ◌<◌, ◌≤◌, cond, ◌&&◌, List, [], length, Some, None, Option, ◌==◌, nat_le, nat_lt}
use Rattle.source.specs.declared.span.Span.{Span}
use Rattle.source.specs.Bytes.{run}
use Rattle.fields.specs.declared.load_command.SymtabCommand.{SymtabCommand}
use Rattle.fields.specs.Names.{before_zero}

abbrev pub span : ℕ → ℕ → Span
span start len = record { start = start; len = len }

-- the bytes of the string table from an index on
abbrev pub strings_from : List ℕ → SymtabCommand → ℕ → List ℕ
strings_from xs t strx = run (t.stroff + strx) (t.stroff + t.strsize - (t.stroff + strx)) xs

-- a name that is there ends before the first zero: the table lies in the source, and a zero follows
abbrev pub ends_in_table : List ℕ → SymtabCommand → ℕ → Option Span
ends_in_table xs t strx =
    cond (nat_le (t.stroff + t.strsize) (length xs) && nat_lt (length (before_zero (strings_from xs t strx))) (length (strings_from xs t strx)))
    (Some (span (t.stroff + strx) (length (before_zero (strings_from xs t strx)))))
    None

-- where the name of an index stands, if it can be read. Index 0 is the empty name.
unfoldable pub name_span : List ℕ → SymtabCommand → ℕ → Option Span
name_span xs t strx = cond (strx == 0) (Some (span 0 0)) (ends_in_table xs t strx)

-- the bytes of a name; one that cannot be read has none
abbrev pub name_bytes : List ℕ → Option Span → List ℕ
name_bytes xs (Some s) = run s.start s.len xs
name_bytes xs None = []

-- a name that is there lies in the source
abbrev pub InSource : List ℕ → Option Span → Type 0
InSource xs (Some s) = s.start + s.len ≤ length xs
InSource xs None = Unit {0}

-- and so the place after it fits 64 bits
abbrev pub EndFits : Option Span → Type 0
EndFits (Some s) = s.start + s.len < 2 ^ 64
EndFits None = Unit {0}
