-- What is listed of a segment's sections. A table is where their records are and how they are read.
-- Assumes nothing.
use Rattle.std.specs.Prelude.{◌≡◌, ℕ, zero, suc, ◌+◌, ◌-◌, ◌^◌, ◌<◌, Bool, List as Row, Some, None, Ok, Err, codes, Option, Result, MatchOption, MatchResult}
use Rattle.std.specs.Option.{unwrap_or}
use Rattle.std.specs.Str.{bytes_eq}
use Rattle.source.specs.declared.refusal.Reason.TheVariants.{SectionsPastCommand, SectionPastSegment}
use Rattle.source.specs.declared.refusal.Refusal.{Refusal}
use Rattle.source.specs.Refusals.{refusal}
use Rattle.list.specs.Contents.{Contents, pushed}
use Rattle.fields.specs.declared.section.Section.{Section}
use Rattle.fields.specs.Names.{name_at}
use Rattle.fields.specs.Records.{section_at, section_size}
use Rattle.sections.specs.declared.offset.SectionOffsets.{SectionOffsets}
use Rattle.sections.specs.declared.record.SectionRecord.{SectionRecord}
use Rattle.sections.specs.declared.record.SectionTable.{SectionTable}
use Rattle.sections.specs.declared.section_iter.SectionIter.{SectionIter}
use Rattle.sections.specs.Kinds.{kind_of}
use Rattle.sections.specs.Offsets.{next_start, next_offsets}

-- what the segment says of writing, or, where it says nothing, whether the section belongs to __TEXT
abbrev pub read_only_of : Option Bool → Row ℕ → Bool
read_only_of (Some b) segname = b
read_only_of None segname = bytes_eq segname (codes "__TEXT")

-- the record of the section at a place. The name of its segment stands 16 bytes on.
abbrev pub record_of : Row ℕ → SectionTable → ℕ → Section → ℕ → ℕ → SectionRecord
record_of xs t place x number start =
    record {
      number = number;
      kind = kind_of (name_at xs (place + 16)) x.flags (read_only_of t.read_only (name_at xs (place + 16)));
      place = place;
      addr = x.addr;
      size = x.size;
      offset = start;
    }

abbrev pub given_section : {X : Type 0} → Option Section → X → (Section → X) → X
given_section None other f = other
given_section (Some x) other f = f x

-- past one section of those that are left
abbrev pub past : {S W : Type 0} → Bool → SectionIter S W → SectionIter S W
past wide s = record { source = s.source; table = s.table; place = s.place + section_size wide; left = s.left - 1; width = s.width }

-- one turn: none where no section is left; else the section at the place, with the place, which is passed; or the
-- refusal where it is not whole
abbrev pub GivesSection : {S W : Type 0} → Bool → (S → Row ℕ) → SectionIter S W → Option (Result (ℕ × Section) Refusal) → SectionIter S W → Type 0
GivesSection wide bytes s r after =
    MatchOption r (s.left ≡ 0) (λ found. (0 < s.left) × MatchResult found
    (λ x. (section_at wide (bytes s.source.now) s.place s.table.endian ≡ Some x.1) × (x.0 ≡ s.place) × (x.0 + section_size wide < 2 ^ 64) × (after ≡ past wide s))
    (λ e. (section_at wide (bytes s.source.now) s.place s.table.endian ≡ None) × (e ≡ refusal SectionsPastCommand s.table.command)))

abbrev pub given_start : Option ℕ → Refusal → Result SectionOffsets Refusal → Result SectionOffsets Refusal
given_start None e after = Err e
given_start (Some s) e after = after

-- the offsets after n sections from a place on, or the first refusal
abbrev pub checked : Bool → Row ℕ → SectionTable → ℕ → ℕ → SectionOffsets → Result SectionOffsets Refusal
checked wide xs t zero place c = Ok c
checked wide xs t (suc n) place c =
    given_section (section_at wide xs place t.endian) (Err (refusal SectionsPastCommand t.command))
    (λ x. given_start (next_start c x) (refusal SectionPastSegment place) (checked wide xs t n (place + section_size wide) (next_offsets c x)))

-- the list after n sections from a place on; the number of each is one more than how many stand before it
abbrev pub filled : Bool → Row ℕ → SectionTable → ℕ → ℕ → SectionOffsets → Contents SectionRecord → Contents SectionRecord
filled wide xs t zero place c l = l
filled wide xs t (suc n) place c l =
    given_section (section_at wide xs place t.endian) l
    (λ x. filled wide xs t n (place + section_size wide) (next_offsets c x) (pushed l (record_of xs t place x (l.count + 1) (unwrap_or (next_start c x) 0))))
