-- What a sequence of calls answers and leaves. Assumes nothing.
use Rattle.std.specs.Prelude.{ℕ, Bool, true, false, List as Row, [], ◌∷◌, Ok, Err, Result}
use Rattle.source.specs.declared.refusal.Reason.TheVariants.{FinishTooEarly}
use Rattle.source.specs.declared.refusal.Refusal.{Refusal}
use Rattle.source.specs.Refusals.{refusal}
use Rattle.list.specs.declared.list.List.{List}
use Rattle.list.specs.Contents.{Contents, contents_of, records, pushed}
use Rattle.sections.specs.declared.record.SectionRecord.{SectionRecord}
use Rattle.sections.specs.declared.record.SegmentRecord.{SegmentRecord}
use Rattle.stabs.specs.declared.map.MapEntry.{MapEntry}
use Rattle.stabs.specs.declared.map.MapFile.{MapFile}
use Rattle.reader.specs.declared.state.MapState.{MapState}
use Rattle.reader.specs.declared.state.State.{State}
use Rattle.reader.specs.Maps.{map_begun, map_step_of}
use Rattle.reader.specs.Readings.{section_of, find_in}
use Rattle.reader.specs.Tables.{symbol_answer, name_answer}
use Rattle.reader.specs.Walks.{step_of}
use Rattle.replay.specs.declared.calls.Answer.{Answer}
use Rattle.replay.specs.declared.calls.Answer.TheVariants.{Stepped, Finished, Listed, Found, Known, Named, Mapped, Refused, Skipped}
use Rattle.replay.specs.declared.calls.Call.{Call}
use Rattle.replay.specs.declared.calls.Call.TheVariants.{Step, Finish, Section, Find, Symbol, Name, MapStep}

pub record Lists : Type 0 where
  pub segments : Contents SegmentRecord
  pub sections : Contents SectionRecord
  pub files : Contents MapFile
  pub entries : Contents MapEntry

abbrev pub lists_of : List SegmentRecord → List SectionRecord → List MapFile → List MapEntry → Lists
lists_of a b c d = record { segments = contents_of a; sections = contents_of b; files = contents_of c; entries = contents_of d }

-- where a run is: whether the walk is finished, its state, that of the object map, and the four lists
pub record Run : Type 0 where
  pub done : Bool
  pub state : State
  pub map : MapState
  pub lists : Lists

-- the answer of a call that can be refused
abbrev pub answered : {X : Type 0} → (X → Answer) → Result X Refusal → Answer
answered answer (Ok x) = answer x
answered answer (Err e) = Refused e

abbrev pub finish_told : Bool → ℕ → Answer
finish_told true place = Finished
finish_told false place = Refused (refusal FinishTooEarly place)

-- what a call answers; one that does not fit is skipped
abbrev pub answer_in : Bool → Row ℕ → Call → Bool → State → MapState → Lists → Answer
answer_in wide xs Step false w m l = answered Stepped (step_of wide xs w l.segments l.sections).answer
answer_in wide xs Step true w m l = Skipped
answer_in wide xs Finish false w m l = finish_told w.over w.place
answer_in wide xs Finish true w m l = Skipped
answer_in wide xs (Section n) false w m l = Skipped
answer_in wide xs (Section n) true w m l = answered Listed (section_of l.sections n)
answer_in wide xs (Find q) false w m l = Skipped
answer_in wide xs (Find q) true w m l = Found (find_in xs q.now (records l.sections))
answer_in wide xs (Symbol n) false w m l = Skipped
answer_in wide xs (Symbol n) true w m l = answered Known (symbol_answer wide xs w l.sections n)
answer_in wide xs (Name n) false w m l = Skipped
answer_in wide xs (Name n) true w m l = answered Named (name_answer wide xs w n)
answer_in wide xs MapStep false w m l = Skipped
answer_in wide xs MapStep true w m l = answered Mapped (map_step_of wide xs w m l.files l.entries).answer

abbrev pub answer_of : Bool → Row ℕ → Call → Run → Answer
answer_of wide xs c r = answer_in wide xs c r.done r.state r.map r.lists

-- what a call leaves
abbrev pub next_in : Bool → Row ℕ → Call → Bool → State → MapState → Lists → Run
next_in wide xs Step false w m l =
    record {
      done = false;
      state = (step_of wide xs w l.segments l.sections).state;
      map = m;
      lists = record l { segments = (step_of wide xs w l.segments l.sections).segments; sections = (step_of wide xs w l.segments l.sections).sections };
    }
next_in wide xs Step true w m l = record { done = true; state = w; map = m; lists = l }
next_in wide xs Finish false w m l = record { done = w.over; state = w; map = map_begun; lists = l }
next_in wide xs Finish true w m l = record { done = true; state = w; map = m; lists = l }
next_in wide xs (Section n) d w m l = record { done = d; state = w; map = m; lists = l }
next_in wide xs (Find q) d w m l = record { done = d; state = w; map = m; lists = l }
next_in wide xs (Symbol n) d w m l = record { done = d; state = w; map = m; lists = l }
next_in wide xs (Name n) d w m l = record { done = d; state = w; map = m; lists = l }
next_in wide xs MapStep false w m l = record { done = false; state = w; map = m; lists = l }
next_in wide xs MapStep true w m l =
    record {
      done = true;
      state = w;
      map = (map_step_of wide xs w m l.files l.entries).state;
      lists = record l { files = (map_step_of wide xs w m l.files l.entries).files; entries = (map_step_of wide xs w m l.files l.entries).entries };
    }

abbrev pub next_of : Bool → Row ℕ → Call → Run → Run
next_of wide xs c r = next_in wide xs c r.done r.state r.map r.lists

abbrev pub answers_of : Bool → Row ℕ → Row Call → Run → Row Answer
answers_of wide xs [] r = []
answers_of wide xs (c ∷ cs) r = answer_of wide xs c r ∷ answers_of wide xs cs (next_of wide xs c r)

abbrev pub final_of : Bool → Row ℕ → Row Call → Run → Run
final_of wide xs [] r = r
final_of wide xs (c ∷ cs) r = final_of wide xs cs (next_of wide xs c r)

abbrev pub push_all : {X : Type 0} → Row X → Contents X → Contents X
push_all [] l = l
push_all (x ∷ xs) l = push_all xs (pushed l x)
