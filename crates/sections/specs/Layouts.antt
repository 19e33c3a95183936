-- Layouts: where the file-backed sections of a segment beyond 4 GiB may begin. Nothing here speaks of how
-- they are found. Assumes nothing.
use Rattle.std.specs.Prelude.{◌≡◌, ℕ, zero, suc, ◌+◌, ◌%◌, ◌^◌, ◌<◌, ◌≤◌, Bool, true, false, cond, List, [], ◌∷◌}
use Rattle.fields.specs.declared.endian.Endianness.{Endianness}
use Rattle.fields.specs.declared.section.Section.{Section}
use Rattle.fields.specs.Records.{section, section_size}
use Rattle.sections.specs.declared.record.SectionRecord.{SectionRecord}
use Rattle.sections.specs.declared.record.SectionTable.{SectionTable}
use Rattle.sections.specs.Offsets.{file_backed}

-- the sections of a table, in order: n of them, from a place on
abbrev pub sections_from : Bool → List ℕ → SectionTable → ℕ → ℕ → List Section
sections_from wide xs t zero place = []
sections_from wide xs t (suc n) place = section wide xs place t.endian ∷ sections_from wide xs t n (place + section_size wide)

-- the offsets in those of a list of records whose sections are file-backed
abbrev pub backed_offsets : Bool → List ℕ → Endianness → List SectionRecord → List ℕ
backed_offsets wide xs e [] = []
backed_offsets wide xs e (r ∷ rs) = cond (file_backed (section wide xs r.place e).flags) (r.offset ∷ backed_offsets wide xs e rs) (backed_offsets wide xs e rs)

-- the file-backed sections of a list start at these places: each has the low 32 bits that are stored, at
-- the end before it or less than 4 GiB past it, and ends no later than the segment stops
pub data Layout (stop : ℕ) : ℕ → List Section → List ℕ → Type 0 where
  none : {before : ℕ} → Layout stop before [] []
  zero_filled : {before : ℕ} {x : Section} {rest : List Section} {starts : List ℕ} →
      file_backed x.flags ≡ false → Layout stop before rest starts → Layout stop before (x ∷ rest) starts
  backed : {before : ℕ} {x : Section} {rest : List Section} {starts : List ℕ} → (start : ℕ) →
      file_backed x.flags ≡ true →
      start % 2 ^ 32 ≡ x.offset % 2 ^ 32 → before ≤ start → start < before + 2 ^ 32 → start + x.size ≤ stop →
      Layout stop (start + x.size) rest starts → Layout stop before (x ∷ rest) (start ∷ starts)

-- a layout of a segment: true sums, and none where fileoff + filesize reaches 2^64
pub record SegmentLayout (fileoff filesize : ℕ) (rest : List Section) (starts : List ℕ) : Type 0 where
  pub fits : fileoff + filesize < 2 ^ 64
  pub laid : Layout (fileoff + filesize) fileoff rest starts
