-- Every worked example, as one table.
--
-- An example of offsets is a row of `Examples`. One of a split is the text of an object file's name,
-- which stands at 0, and what comes: its path and its member. One of the map is what symbols mean, in
-- their order, and what comes: the entries.
use Rattle.std.specs.Prelude.{◌≡◌, ℕ, ◌+◌, Bool, true, ◌&&◌, List, [], ◌∷◌, ◌++◌, length, Some, None, Option, map, codes}
use Prim.Native.String.{String}
use Rattle.std.specs.Str.{bytes_eq}
use Rattle.source.specs.declared.span.Span.{Span}
use Rattle.stabs.specs.declared.cursor.Addition.{Addition}
use Rattle.stabs.specs.declared.cursor.Addition.TheVariants.{File, Entry}
use Rattle.stabs.specs.declared.cursor.MapCursor.{MapCursor}
use Rattle.stabs.specs.declared.map.MapEntry.{MapEntry}
use Rattle.stabs.specs.declared.stab.Stab.{Stab}
use Rattle.stabs.specs.declared.stab.Stab.TheVariants.{Source, Object, Opening, Closing, Static}
use Rattle.stabs.specs.Cursors.{begun, entry, told, left}
use Rattle.stabs.specs.Splits.{span, split_bytes}
use Rattle.worked.specs.Examples.{Row, holds, rows, every}

pub data Example : Type 0 where
  offsets : Row → Example
  split : String → Span × Option Span → Example
  mapped : List Stab → List MapEntry → Example

-- the entry that an addition puts before others, and how many files are listed after it
abbrev pub entered : Option Addition → List MapEntry → List MapEntry
entered None rest = rest
entered (Some (File name)) rest = rest
entered (Some (Entry e)) rest = e ∷ rest

abbrev pub files_after : Option Addition → ℕ → ℕ
files_after None files = files
files_after (Some (File name)) files = files + 1
files_after (Some (Entry e)) files = files

-- the entries that stabs add, one after another
abbrev pub mapped_from : MapCursor → ℕ → List Stab → List MapEntry
mapped_from c files [] = []
mapped_from c files (x ∷ rest) = entered (told c x) (mapped_from (left c x files) (files_after (told c x) files) rest)

-- the numbers of a span, of one that may be there, and of entries
abbrev pub span_numbers : Span → List ℕ
span_numbers s = s.start ∷ s.len ∷ []

abbrev pub member_numbers : Option Span → List ℕ
member_numbers None = []
member_numbers (Some s) = span_numbers s

abbrev pub entry_numbers : List MapEntry → List ℕ
entry_numbers [] = []
entry_numbers (e ∷ es) = e.address ∷ e.size ∷ e.name.start ∷ e.name.len ∷ e.file ∷ entry_numbers es

abbrev pub same_parts : Span × Option Span → Span × Option Span → Bool
same_parts p q = bytes_eq (span_numbers p.0) (span_numbers q.0) && bytes_eq (member_numbers p.1) (member_numbers q.1)

abbrev pub example_holds : Example → Bool
example_holds (offsets r) = holds r
example_holds (split text expected) = same_parts (split_bytes (span 0 (length (codes text))) (codes text)) expected
example_holds (mapped stabs expected) = bytes_eq (entry_numbers (mapped_from begun 0 stabs)) (entry_numbers expected)

-- the names of the map's examples, by where they stand
abbrev pub a_o : Span
a_o = span 1 3

abbrev pub b_o : Span
b_o = span 5 3

abbrev pub f : Span
f = span 9 1

abbrev pub g : Span
g = span 11 1

abbrev pub examples : List Example
examples =
    map offsets rows
    ++ (split "a(b)" (span 0 1, Some (span 2 1))
    ∷ split ")" (span 0 1, None)
    ∷ split "x()" (span 0 1, Some (span 2 0))
    ∷ split "a(b)(c)" (span 0 1, Some (span 2 4))
    ∷ split "a(b" (span 0 3, None)
    ∷ mapped (Object (Some a_o) ∷ Opening f 16 ∷ Closing 8 ∷ []) (entry 16 8 f 0 ∷ [])
    ∷ mapped (Opening f 16 ∷ Closing 8 ∷ Object (Some a_o) ∷ Closing 8 ∷ []) []
    ∷ mapped (Object (Some a_o) ∷ Opening f 16 ∷ Source ∷ Object (Some b_o) ∷ Closing 8 ∷ Static g 32 ∷ []) (entry 16 8 f 1 ∷ entry 32 0 g 1 ∷ [])
    ∷ [])

abbrev pub AllExamplesHold : Type 0
AllExamplesHold = every example_holds examples ≡ true
