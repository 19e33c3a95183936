-- What a walk has listed is what the format gives of the commands that it has passed. Assumes nothing.
use Rattle.std.specs.Prelude.{◌≡◌, ℕ, ◌+◌, ◌*◌, ◌≤◌, Bool, List as Row, length, Some, Ok, Err, Result}
use Rattle.source.specs.declared.refusal.Refusal.{Refusal}
use Rattle.list.specs.Contents.{Contents, got, records}
use Rattle.fields.specs.declared.endian.Endianness.{Endianness}
use Rattle.fields.specs.declared.load_command.SymtabCommand.{SymtabCommand}
use Rattle.fields.specs.Records.{nlist_size}
use Rattle.sections.specs.declared.record.SectionRecord.{SectionRecord}
use Rattle.sections.specs.declared.record.SegmentRecord.{SegmentRecord}
use Rattle.reader.specs.declared.state.State.{State}
use Rattle.reader.specs.declared.state.StepAnswer.{StepAnswer}
use Rattle.reader.specs.declared.state.StepAnswer.TheVariants.{Segment, Symbols, Passed as Over, End, Broken}
use Rattle.reader.specs.Layouts.{NextSegmentIsListedAsItsOnlyLayout}
use Rattle.replay.specs.Rest.{RestKept}
use Rattle.replay.specs.Segments.{Passed, LastSymtab}

-- how many commands a step that answers so has passed
abbrev pub command_passed : Result StepAnswer Refusal → ℕ
command_passed (Ok Segment) = 1
command_passed (Ok Symbols) = 1
command_passed (Ok Over) = 1
command_passed (Ok End) = 0
command_passed (Ok Broken) = 0
command_passed (Err e) = 0

module _ (wide : Bool) (xs : Row ℕ) where
  -- k commands are passed, and the lists and the symbol table are what the format gives of them; segments_before and
  -- sections_before are the lists as they were before the first step
  pub record SectionsAreRight (e : Endianness) (k : ℕ) (w : State) (segments_before : Contents SegmentRecord) (sections_before : Contents SectionRecord) (segments : Contents SegmentRecord) (sections : Contents SectionRecord) : Type 0 where
    pub passed : Passed wide xs e k w.place (records segments) (records sections)
    pub numbered : (i : ℕ) (r : SectionRecord) → got sections i ≡ Some r → r.number ≡ i + 1
    pub segments_kept : RestKept segments_before segments
    pub sections_kept : RestKept sections_before sections
    pub layout : NextSegmentIsListedAsItsOnlyLayout wide xs w segments sections
    pub symtab : LastSymtab wide xs e k w.place w.symtab
    pub symbols_inside : (t : SymtabCommand) → w.symtab ≡ Some t → t.symoff + t.nsyms * nlist_size wide ≤ length xs
