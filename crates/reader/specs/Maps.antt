-- What a step of the object map answers and leaves. Assumes nothing.
use Rattle.std.specs.Prelude.{ℕ, ◌+◌, Bool, true, cond, List as Row, Some, None, Ok, Err, Option, Result}
use Rattle.source.specs.declared.refusal.Reason.TheVariants.{ListFull}
use Rattle.source.specs.declared.refusal.Refusal.{Refusal}
use Rattle.source.specs.declared.span.Span.{Span}
use Rattle.source.specs.Refusals.{refusal}
use Rattle.list.specs.declared.list.List.{List}
use Rattle.list.specs.Contents.{Contents, contents_of, has_room, pushed}
use Rattle.stabs.specs.declared.cursor.Addition.{Addition}
use Rattle.stabs.specs.declared.cursor.Addition.TheVariants.{File, Entry}
use Rattle.stabs.specs.declared.cursor.MapCursor.{MapCursor}
use Rattle.stabs.specs.declared.map.MapEntry.{MapEntry}
use Rattle.stabs.specs.declared.map.MapFile.{MapFile}
use Rattle.stabs.specs.declared.stab.Stab.{Stab}
use Rattle.stabs.specs.Cursors.{begun, told_if, left_if}
use Rattle.stabs.specs.Splits.{split_of}
use Rattle.stabs.specs.Stabs.{stab_of}
use Rattle.symbols.specs.Names.{name_span}
use Rattle.reader.specs.declared.state.MapAnswer.{MapAnswer}
use Rattle.reader.specs.declared.state.MapAnswer.TheVariants.{Passed, End}
use Rattle.reader.specs.declared.state.MapState.{MapState}
use Rattle.reader.specs.declared.state.State.{State}
use Rattle.reader.specs.declared.table.TableSymbol.{TableSymbol}
use Rattle.reader.specs.Tables.{symbol_at}

-- before the first symbol
abbrev pub map_begun : MapState
map_begun = record { passed = 0; cursor = begun }

-- what a symbol means to the map
abbrev pub stab_for : Row ℕ → TableSymbol → Option Stab
stab_for xs x = stab_of x.nlist.n_type (name_span xs x.table x.nlist.n_strx) x.nlist.n_value

-- the object file of a name
abbrev pub file_of : Row ℕ → Span → MapFile
file_of xs name = record { path = (split_of xs name).0; member = (split_of xs name).1 }

-- whether there is room for what is added
abbrev pub room_for : Option Addition → Contents MapFile → Contents MapEntry → Bool
room_for None files entries = true
room_for (Some (File name)) files entries = has_room files
room_for (Some (Entry x)) files entries = has_room entries

abbrev pub add_answer : Option Addition → ℕ → Contents MapFile → Contents MapEntry → Result MapAnswer Refusal
add_answer a place files entries = cond (room_for a files entries) (Ok Passed) (Err (refusal ListFull place))

abbrev pub add_file : Row ℕ → Option Addition → Contents MapFile → Contents MapFile
add_file xs None files = files
add_file xs (Some (File name)) files = pushed files (file_of xs name)
add_file xs (Some (Entry x)) files = files

abbrev pub add_entry : Option Addition → Contents MapEntry → Contents MapEntry
add_entry None entries = entries
add_entry (Some (File name)) entries = entries
add_entry (Some (Entry x)) entries = pushed entries x

-- what a step of the map answers and leaves
pub record MapStep : Type 0 where
  pub answer : Result MapAnswer Refusal
  pub state : MapState
  pub files : Contents MapFile
  pub entries : Contents MapEntry

-- what a step of the map comes to that answered so and left this state and these lists
abbrev pub map_left : Result MapAnswer Refusal → MapState → List MapFile → List MapEntry → MapStep
map_left answer m files entries = record { answer = answer; state = m; files = contents_of files; entries = contents_of entries }

-- a symbol is passed only where there is room for what it adds
abbrev pub passed_if : Result MapAnswer Refusal → MapState → MapCursor → MapState
passed_if (Ok a) m after = record { passed = m.passed + 1; cursor = after }
passed_if (Err e) m after = m

abbrev pub map_by : Row ℕ → MapState → Contents MapFile → Contents MapEntry → Option TableSymbol → MapStep
map_by xs m files entries None = record { answer = Ok End; state = m; files = files; entries = entries }
map_by xs m files entries (Some x) =
    let a = told_if m.cursor (stab_for xs x) in
    record {
      answer = add_answer a x.place files entries;
      state = passed_if (add_answer a x.place files entries) m (left_if m.cursor (stab_for xs x) files.count);
      files = add_file xs a files;
      entries = add_entry a entries;
    }

abbrev pub map_step_of : Bool → Row ℕ → State → MapState → Contents MapFile → Contents MapEntry → MapStep
map_step_of wide xs w m files entries = map_by xs m files entries (symbol_at wide xs w m.passed)
