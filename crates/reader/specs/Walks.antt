-- What open and a step answer, and what a step leaves. Assumes nothing.
use Rattle.std.specs.Prelude.{ℕ, ◌+◌, ◌-◌, ◌^◌, min, Bool, true, false, cond, ◌||◌, List as Row, length, Some, None, Ok, Err, Option, Result, ◌==◌, nat_lt}
use Rattle.source.specs.declared.refusal.Reason.TheVariants.{ShortHeader, WrongMagic, ListFull}
use Rattle.source.specs.declared.refusal.Refusal.{Refusal}
use Rattle.source.specs.Refusals.{refusal}
use Rattle.list.specs.declared.list.List.{List}
use Rattle.list.specs.Contents.{Contents, contents_of, free, pushed}
use Rattle.fields.specs.declared.endian.Endianness.{Endianness}
use Rattle.fields.specs.declared.endian.Endianness.TheVariants.{Big}
use Rattle.fields.specs.declared.load_command.LoadCommand.{LoadCommand}
use Rattle.fields.specs.declared.load_command.SymtabCommand.{SymtabCommand}
use Rattle.fields.specs.Numbers.{number}
use Rattle.fields.specs.Records.{header, header_size, endian_of}
use Rattle.sections.specs.declared.record.SectionRecord.{SectionRecord}
use Rattle.sections.specs.declared.record.SegmentRecord.{SegmentRecord}
use Rattle.sections.specs.Listings.{filled}
use Rattle.reader.specs.declared.state.Damage.{Damage}
use Rattle.reader.specs.declared.state.Deed.{Deed}
use Rattle.reader.specs.declared.state.Deed.TheVariants.{List as ListIt, Remember}
use Rattle.reader.specs.declared.state.SegmentPlan.{SegmentPlan}
use Rattle.reader.specs.declared.state.State.{State}
use Rattle.reader.specs.declared.state.StepAnswer.{StepAnswer}
use Rattle.reader.specs.declared.state.StepAnswer.TheVariants.{Segment, Symbols, Passed, End, Broken}
use Rattle.reader.specs.Commands.{next_of, deed_of}

-- at the first command, which follows the header
abbrev pub at_start : Bool → Row ℕ → Endianness → State
at_start wide xs e =
    record {
      endian = e;
      filetype = (header xs e).filetype;
      place = header_size wide;
      left = (header xs e).ncmds;
      table_end = header_size wide + (header xs e).sizeofcmds;
      over = false;
      symtab = None;
    }

abbrev pub opened_as : Bool → Row ℕ → Option Endianness → Result State Refusal
opened_as wide xs None = Err (refusal WrongMagic 0)
opened_as wide xs (Some e) = Ok (at_start wide xs e)

-- the length is judged first, then the magic
abbrev pub opened : Bool → Row ℕ → Result State Refusal
opened wide xs = cond (nat_lt (length xs) (header_size wide)) (Err (refusal ShortHeader 0)) (opened_as wide xs (endian_of wide (number xs 0 4 Big)))

-- too few slots are free for a segment and its sections
abbrev pub lacks_room : SegmentPlan → Contents SegmentRecord → Contents SectionRecord → Bool
lacks_room p segments sections = free segments == 0 || nat_lt (free sections) p.table.count

abbrev pub list_answer : SegmentPlan → Contents SegmentRecord → Contents SectionRecord → Result StepAnswer Refusal
list_answer p segments sections = cond (lacks_room p segments sections) (Err (refusal ListFull p.table.command)) (Ok Segment)

-- the number that the next section will have; a number has 64 bits, and no list is so long
abbrev pub next_number : Contents SectionRecord → ℕ
next_number sections = min (sections.count + 1) (2 ^ 64 - 1)

abbrev pub segment_record : SegmentPlan → Contents SectionRecord → SegmentRecord
segment_record p sections = record { place = p.table.command; first = next_number sections; count = p.table.count; wrapped = p.wrapped }

abbrev pub listed_segments : SegmentPlan → Contents SegmentRecord → Contents SectionRecord → Contents SegmentRecord
listed_segments p segments sections = cond (lacks_room p segments sections) segments (pushed segments (segment_record p sections))

abbrev pub listed_sections : Bool → Row ℕ → SegmentPlan → Contents SegmentRecord → Contents SectionRecord → Contents SectionRecord
listed_sections wide xs p segments sections =
    cond (lacks_room p segments sections) sections (filled wide xs p.table p.table.count p.table.place p.offsets sections)

-- what a step answers and leaves
pub record Step : Type 0 where
  pub answer : Result StepAnswer Refusal
  pub state : State
  pub segments : Contents SegmentRecord
  pub sections : Contents SectionRecord

-- what a step comes to that answered so and left this state and these lists
abbrev pub step_left : Result StepAnswer Refusal → State → List SegmentRecord → List SectionRecord → Step
step_left answer w segments sections = record { answer = answer; state = w; segments = contents_of segments; sections = contents_of sections }

-- past a command
abbrev pub moved : State → LoadCommand → Option SymtabCommand → State
moved w c t = record w { place = w.place + c.cmdsize; left = w.left - 1; symtab = t }

-- the same of a command that was taken: an answer and the symbol table that is known past it, or a refusal, which
-- leaves the state as it was
abbrev pub left_by : Result (StepAnswer × Option SymtabCommand) Refusal → State → LoadCommand → List SegmentRecord → List SectionRecord → Step
left_by (Ok p) w c segments sections = step_left (Ok p.0) (moved w c p.1) segments sections
left_by (Err e) w c segments sections = step_left (Err e) w segments sections

abbrev pub ended : State → State
ended w = record w { over = true }

-- a refused command is not passed
abbrev pub moved_if : {X : Type 0} → Result X Refusal → State → State → State
moved_if (Ok a) w after = after
moved_if (Err e) w after = w

abbrev pub done_by : Bool → Row ℕ → State → LoadCommand → Contents SegmentRecord → Contents SectionRecord → Result (Option Deed) Refusal → Step
done_by wide xs w c segments sections (Ok (Some (ListIt p))) =
    record {
      answer = list_answer p segments sections;
      state = moved_if (list_answer p segments sections) w (moved w c w.symtab);
      segments = listed_segments p segments sections;
      sections = listed_sections wide xs p segments sections;
    }
done_by wide xs w c segments sections (Ok (Some (Remember t))) =
    record { answer = Ok Symbols; state = moved w c (Some t); segments = segments; sections = sections }
done_by wide xs w c segments sections (Ok None) =
    record { answer = Ok Passed; state = moved w c w.symtab; segments = segments; sections = sections }
done_by wide xs w c segments sections (Err e) = record { answer = Err e; state = w; segments = segments; sections = sections }

-- a step that has come to a command
abbrev pub taken_of : Bool → Row ℕ → State → LoadCommand → Contents SegmentRecord → Contents SectionRecord → Step
taken_of wide xs w c segments sections = done_by wide xs w c segments sections (deed_of wide xs w c)

abbrev pub stepped_by : Bool → Row ℕ → State → Contents SegmentRecord → Contents SectionRecord → Result (Option LoadCommand) Damage → Step
stepped_by wide xs w segments sections (Ok None) = record { answer = Ok End; state = ended w; segments = segments; sections = sections }
stepped_by wide xs w segments sections (Err d) = record { answer = Ok Broken; state = ended w; segments = segments; sections = sections }
stepped_by wide xs w segments sections (Ok (Some c)) = taken_of wide xs w c segments sections

abbrev pub step_of : Bool → Row ℕ → State → Contents SegmentRecord → Contents SectionRecord → Step
step_of wide xs w segments sections = stepped_by wide xs w segments sections (next_of xs w)
