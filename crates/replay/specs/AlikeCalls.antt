-- What a call sees of a list. Assumes nothing.
use Rattle.std.specs.Prelude.{◌≡◌, ℕ, Bool, List as Row}
use Rattle.list.specs.Contents.{Contents, records}
use Rattle.sections.specs.declared.record.SectionRecord.{SectionRecord}
use Rattle.sections.specs.declared.record.SegmentRecord.{SegmentRecord}
use Rattle.reader.specs.declared.state.State.{State}
use Rattle.reader.specs.Readings.{section_of, find_in}
use Rattle.reader.specs.Walks.{Step, step_of}
use Rattle.replay.specs.Alike.{Alike}

-- the same answer and state, and lists that are alike
pub record StepAlike (x y : Step) : Type 0 where
  pub answer : x.answer ≡ y.answer
  pub state : x.state ≡ y.state
  pub segments : Alike x.segments y.segments
  pub sections : Alike x.sections y.sections

abbrev pub AStepSeesOnlyRecordsAndCapacities : Type 0
AStepSeesOnlyRecordsAndCapacities =
    (wide : Bool) (xs : Row ℕ) (w : State) (segments segments' : Contents SegmentRecord) (sections sections' : Contents SectionRecord) →
    Alike segments segments' → Alike sections sections' → StepAlike (step_of wide xs w segments sections) (step_of wide xs w segments' sections')

-- the same section of a number, and the same first section that a query means
pub record LookUpsAlike (sections sections' : Contents SectionRecord) : Type 0 where
  pub numbered : (n : ℕ) → section_of sections n ≡ section_of sections' n
  pub named : (xs query : Row ℕ) → find_in xs query (records sections) ≡ find_in xs query (records sections')

abbrev pub ALookUpSeesOnlyRecords : Type 0
ALookUpSeesOnlyRecords = (sections sections' : Contents SectionRecord) → Alike sections sections' → LookUpsAlike sections sections'
