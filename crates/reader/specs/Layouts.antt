-- What a step does with a segment beyond 4 GiB, in the words of layouts. Assumes nothing.
use Rattle.std.specs.Prelude.{◌≡◌, ℕ, ◌+◌, ◌*◌, ◌<◌, ◌≤◌, Bool, false, List as Row, drop, Some, Ok}
use Rattle.list.specs.Contents.{Contents, free, got, records}
use Rattle.fields.specs.declared.load_command.LoadCommand.{LoadCommand}
use Rattle.fields.specs.declared.section.Section.{Section as SectionFields}
use Rattle.fields.specs.declared.segment.Segment.{Segment as SegmentFields}
use Rattle.fields.specs.Records.{segment, segment_size, section_size}
use Rattle.sections.specs.declared.record.SectionRecord.{SectionRecord}
use Rattle.sections.specs.declared.record.SegmentRecord.{SegmentRecord}
use Rattle.sections.specs.Layouts.{sections_from, backed_offsets, SegmentLayout}
use Rattle.reader.specs.declared.state.State.{State}
use Rattle.reader.specs.declared.state.StepAnswer.TheVariants.{Segment}
use Rattle.reader.specs.Commands.{next_of, segment_command, table_of}
use Rattle.reader.specs.Walks.{next_number, step_of}

module _ (wide : Bool) (xs : Row ℕ) (w : State) where
  -- the segment whose command stands at the walk's place, and its sections
  abbrev pub next_segment : SegmentFields
  next_segment = segment wide xs w.place w.endian

  abbrev pub own_sections : Row SectionFields
  own_sections = sections_from wide xs (table_of wide w next_segment) next_segment.nsects (w.place + segment_size wide)

  -- these are a layout of it
  abbrev pub IsLayout : Row ℕ → Type 0
  IsLayout starts = SegmentLayout next_segment.fileoff next_segment.filesize own_sections starts

  module _ (segments : Contents SegmentRecord) (sections : Contents SectionRecord) where
    -- the next step comes to a native segment beyond 4 GiB, with its records whole and slots free
    pub record ComesBeyond (c : LoadCommand) : Type 0 where
      pub next : next_of xs w ≡ Ok (Some c)
      pub native : c.cmd ≡ segment_command wide
      pub whole : segment_size wide + next_segment.nsects * section_size wide ≤ c.cmdsize
      pub segment_slot : 1 ≤ free segments
      pub section_slots : next_segment.nsects ≤ free sections
      pub beyond : 0xffff_ffff < next_segment.fileoff + next_segment.filesize

    -- the step lists it, unwrapped
    pub record ListedUnwrapped : Type 0 where
      pub answer : (step_of wide xs w segments sections).answer ≡ Ok Segment
      pub listed : got (step_of wide xs w segments sections).segments segments.count ≡ Some (record { place = w.place; first = next_number sections; count = next_segment.nsects; wrapped = false })

    -- where the step lists its file-backed sections
    abbrev pub listed_starts : Row ℕ
    listed_starts = backed_offsets wide xs w.endian (drop sections.count (records (step_of wide xs w segments sections).sections))

    -- it is listed unwrapped exactly when it has a layout, and as that layout, and it has no other
    pub record ListedAsItsOnlyLayout : Type 0 where
      pub listed_has_layout : ListedUnwrapped → (starts : Row ℕ) × IsLayout starts
      pub layout_is_listed : (starts : Row ℕ) → IsLayout starts → ListedUnwrapped
      pub as_that_layout : (starts : Row ℕ) → IsLayout starts → listed_starts ≡ starts
      pub no_other : (one other : Row ℕ) → IsLayout one → IsLayout other → one ≡ other

    abbrev pub NextSegmentIsListedAsItsOnlyLayout : Type 0
    NextSegmentIsListedAsItsOnlyLayout = (c : LoadCommand) → ComesBeyond c → ListedAsItsOnlyLayout
