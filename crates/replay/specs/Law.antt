-- The law of all runs. A run opens a library and makes any calls, each on what the last left; xs are the bytes that
-- its source means. Assumes nothing.
use Rattle.std.specs.Prelude.{◌≡◌, ℕ, ◌+◌, Bool, false, List as Row, [], ◌∷◌, length, take, Some, None, Ok, Err, Option, Result}
use Rattle.source.specs.declared.refusal.Refusal.{Refusal}
use Rattle.list.specs.Contents.{records}
use Rattle.fields.specs.declared.endian.Endianness.{Endianness}
use Rattle.fields.specs.declared.load_command.SymtabCommand.{SymtabCommand}
use Rattle.fields.specs.Records.{nlist}
use Rattle.stabs.specs.declared.stab.Stab.{Stab}
use Rattle.stabs.specs.Stabs.{stab_of}
use Rattle.symbols.specs.Names.{name_span}
use Rattle.reader.specs.declared.state.MapAnswer.{MapAnswer}
use Rattle.reader.specs.declared.state.MapAnswer.TheVariants.{Passed as SymbolPassed, End as NoSymbol}
use Rattle.reader.specs.declared.state.State.{State}
use Rattle.reader.specs.Maps.{file_of, map_begun}
use Rattle.reader.specs.Tables.{symbol_place}
use Rattle.reader.specs.Walks.{opened}
use Rattle.replay.specs.declared.calls.Answer.{Answer}
use Rattle.replay.specs.declared.calls.Answer.TheVariants.{Stepped, Finished, Listed, Found, Known, Named, Mapped, Refused, Skipped}
use Rattle.replay.specs.declared.calls.Call.{Call}
use Rattle.replay.specs.Maps.{MapIsRight}
use Rattle.replay.specs.Runs.{Lists, Run, answers_of, final_of}
use Rattle.replay.specs.Walked.{command_passed, SectionsAreRight}

-- how many commands an answer tells to be passed: a step's `segment`, `symbols` or `passed`
abbrev pub command_in : Answer → ℕ
command_in (Stepped a) = command_passed (Ok a)
command_in Finished = 0
command_in (Listed r) = 0
command_in (Found r) = 0
command_in (Known s) = 0
command_in (Named s) = 0
command_in (Mapped a) = 0
command_in (Refused e) = 0
command_in Skipped = 0

abbrev pub symbol_passed : MapAnswer → ℕ
symbol_passed SymbolPassed = 1
symbol_passed NoSymbol = 0

-- and how many symbols: a map step's `passed`
abbrev pub symbol_in : Answer → ℕ
symbol_in (Stepped a) = 0
symbol_in Finished = 0
symbol_in (Listed r) = 0
symbol_in (Found r) = 0
symbol_in (Known s) = 0
symbol_in (Named s) = 0
symbol_in (Mapped a) = symbol_passed a
symbol_in (Refused e) = 0
symbol_in Skipped = 0

abbrev pub total : (Answer → ℕ) → Row Answer → ℕ
total f [] = 0
total f (a ∷ rest) = f a + total f rest

-- a walk that was opened in a state, with these lists
abbrev pub begun_at : State → Lists → Run
begun_at w l = record { done = false; state = w; map = map_begun; lists = l }

-- no list has a record
pub record Empty (l : Lists) : Type 0 where
  pub segments : l.segments.count ≡ 0
  pub sections : l.sections.count ≡ 0
  pub files : l.files.count ≡ 0
  pub entries : l.entries.count ≡ 0

module _ (wide : Bool) (xs : Row ℕ) where
  -- what symbol k of a table means to the object map, if anything
  abbrev pub stab_in : Endianness → Option SymtabCommand → ℕ → Option Stab
  stab_in e None k = None
  stab_in e (Some t) k =
      let x = nlist wide xs (symbol_place wide t k) e in
      stab_of x.n_type (name_span xs t x.n_strx) x.n_value

  module _ (before : Lists) (w : State) (calls : Row Call) where
    -- what the calls leave and answer, from a walk in this state
    abbrev pub run_left : Run
    run_left = final_of wide xs calls (begun_at w before)

    abbrev pub run_told : Row Answer
    run_told = answers_of wide xs calls (begun_at w before)

    -- the segments and sections are those of the commands that were passed
    abbrev pub SectionsOfRun : Type 0
    SectionsOfRun =
        SectionsAreRight wide xs w.endian (total command_in run_told) run_left.state
        before.segments before.sections run_left.lists.segments run_left.lists.sections

    -- and the object map is that of the symbols that were passed, in the table that the commands name
    abbrev pub MapOfRun : Type 0
    MapOfRun =
        MapIsRight (stab_in w.endian run_left.state.symtab) (file_of xs) (total symbol_in run_told)
        before.files before.entries run_left.lists.files run_left.lists.entries

  -- after every call of every run on a library that opens, with lists that are empty at first
  abbrev pub AfterEveryCall : (Lists → State → Row Call → Type 0) → Lists → Row Call → Type 0
  AfterEveryCall Right before calls = Empty before → (w : State) → Ok w ≡ opened wide xs → (n : ℕ) → Right before w (take n calls)

-- and what is right after every call of a run, its sections and its object map
pub record RunIsRight (wide : Bool) (xs : Row ℕ) (before : Lists) (calls : Row Call) : Type 0 where
  pub sections : AfterEveryCall wide xs (SectionsOfRun wide xs) before calls
  pub map : AfterEveryCall wide xs (MapOfRun wide xs) before calls

-- what a run leaves in the lists and answers, on a library that may not open
abbrev pub lists_by : Bool → Row ℕ → Row Call → Lists → Result State Refusal → Lists
lists_by wide xs calls before (Ok w) = (final_of wide xs calls (begun_at w before)).lists
lists_by wide xs calls before (Err e) = before

abbrev pub lists_after : Bool → Row ℕ → Row Call → Lists → Lists
lists_after wide xs calls before = lists_by wide xs calls before (opened wide xs)

abbrev pub answers_by : Bool → Row ℕ → Row Call → Lists → Result State Refusal → Row Answer
answers_by wide xs calls before (Ok w) = answers_of wide xs calls (begun_at w before)
answers_by wide xs calls before (Err e) = []

abbrev pub answers_after : Bool → Row ℕ → Row Call → Lists → Row Answer
answers_after wide xs calls before = answers_by wide xs calls before (opened wide xs)

-- where the calls of a run have come to, on a library that opens
pub record RunIs (wide : Bool) (xs : Row ℕ) (calls : Row Call) (before : Lists) (r : Run) : Type 0 where
  pub first : State
  pub opens : Ok first ≡ opened wide xs
  pub comes_to : r ≡ final_of wide xs calls (begun_at first before)

pub record SameCapacities (l m : Lists) : Type 0 where
  pub segments : length l.segments.slots ≡ length m.segments.slots
  pub sections : length l.sections.slots ≡ length m.sections.slots
  pub files : length l.files.slots ≡ length m.files.slots
  pub entries : length l.entries.slots ≡ length m.entries.slots

pub record SameRecords (l m : Lists) : Type 0 where
  pub segments : records l.segments ≡ records m.segments
  pub sections : records l.sections ≡ records m.sections
  pub files : records l.files ≡ records m.files
  pub entries : records l.entries ≡ records m.entries

-- open and the same calls answer alike, refusals too, and leave the same records after every call
pub record RunsAgree (wide : Bool) (xs ys : Row ℕ) (calls : Row Call) (before_left before_right : Lists) : Type 0 where
  pub open_agrees : opened wide xs ≡ opened wide ys
  pub answers_agree : (n : ℕ) → answers_after wide xs (take n calls) before_left ≡ answers_after wide ys (take n calls) before_right
  pub records_agree : (n : ℕ) → SameRecords (lists_after wide xs (take n calls) before_left) (lists_after wide ys (take n calls) before_right)

-- the law: the same calls on two sources, of bytes xs and ys. The section records, the layouts and the object map are
-- right on both after every call; and if the two mean the same bytes, they answer alike.
pub record LawOfAllRuns (wide : Bool) (xs ys : Row ℕ) (calls : Row Call) (before_left before_right : Lists) : Type 0 where
  pub left : RunIsRight wide xs before_left calls
  pub right : RunIsRight wide ys before_right calls
  pub sources : xs ≡ ys → Empty before_left → Empty before_right → SameCapacities before_left before_right →
      RunsAgree wide xs ys calls before_left before_right
