-- What a stage of a run holds. Assumes nothing.
use Rattle.std.specs.Prelude.{◌≡◌, Bool, true, false}
use Rattle.list.specs.declared.list.List.{List}
use Rattle.sections.specs.declared.record.SectionRecord.{SectionRecord}
use Rattle.sections.specs.declared.record.SegmentRecord.{SegmentRecord}
use Rattle.stabs.specs.declared.map.MapEntry.{MapEntry}
use Rattle.stabs.specs.declared.map.MapFile.{MapFile}
use Rattle.reader.specs.declared.state.MapState.{MapState}
use Rattle.reader.specs.declared.state.State.{State}
use Rattle.reader.specs.Maps.{map_begun}
use Rattle.replay.specs.declared.calls.Stage.{Stage}
use Rattle.replay.specs.declared.calls.Stage.TheVariants.{Walking, Done}
use Rattle.replay.specs.Runs.{Lists, Run}

abbrev pub done_of : {S W : Type 0} → Stage S W → Bool
done_of (Walking w) = false
done_of (Done r) = true

abbrev pub state_of : {S W : Type 0} → Stage S W → State
state_of (Walking w) = w.state
state_of (Done r) = r.state

abbrev pub source_of : {S W : Type 0} → Stage S W → S
source_of (Walking w) = w.source
source_of (Done r) = r.source

-- the object map of a walk has not begun
abbrev pub map_of : {S W : Type 0} → Stage S W → MapState
map_of (Walking w) = map_begun
map_of (Done r) = r.map

abbrev pub run_at : {S W : Type 0} → Stage S W → Lists → Run
run_at t l = record { done = done_of t; state = state_of t; map = map_of t; lists = l }

-- the lists lie in the same slices
pub record SameSlices (a : List SegmentRecord) (b : List SectionRecord) (c : List MapFile) (d : List MapEntry) (a' : List SegmentRecord) (b' : List SectionRecord) (c' : List MapFile) (d' : List MapEntry) : Type 0 where
  pub segments : a'.slots.ghost_name ≡ a.slots.ghost_name
  pub sections : b'.slots.ghost_name ≡ b.slots.ghost_name
  pub files : c'.slots.ghost_name ≡ c.slots.ghost_name
  pub entries : d'.slots.ghost_name ≡ d.slots.ghost_name
