-- The segments, the sections and the symbol table of the first load commands of a library, as the format gives
-- them. Nothing here speaks of a step. Assumes nothing.
use Rattle.std.specs.Prelude.{◌≡◌, ℕ, ◌+◌, ◌-◌, ◌*◌, ◌%◌, ◌^◌, ◌<◌, ◌≤◌, min, Bool, true, false, ◌||◌, ◌⊎◌, List, [], ◌∷◌, ◌++◌, length, Some, None, Option, ◌≢◌, nat_le, nat_lt}
use Rattle.fields.specs.declared.endian.Endianness.{Endianness}
use Rattle.fields.specs.declared.load_command.LoadCommand.{LoadCommand}
use Rattle.fields.specs.declared.load_command.SymtabCommand.{SymtabCommand}
use Rattle.fields.specs.declared.section.Section.{Section}
use Rattle.fields.specs.declared.segment.Segment.{Segment}
use Rattle.fields.specs.Names.{name_at}
use Rattle.fields.specs.Records.{header, header_size, load_command, segment, segment_size, section, section_size, symtab}
use Rattle.sections.specs.declared.record.SectionRecord.{SectionRecord}
use Rattle.sections.specs.declared.record.SegmentRecord.{SegmentRecord}
use Rattle.sections.specs.Kinds.{kind_of}
use Rattle.sections.specs.Listings.{read_only_of}
use Rattle.sections.specs.Offsets.{file_backed}
use Rattle.reader.specs.Commands.{read_only_in, segment_command}

-- s is the least number not below another with given low 32 bits
pub record Least (before low s : ℕ) : Type 0 where
  pub above : before ≤ s
  pub same_low : s % 2 ^ 32 ≡ low % 2 ^ 32
  pub least : (m : ℕ) → before ≤ m → m % 2 ^ 32 ≡ low % 2 ^ 32 → s ≤ m

module _ (wide : Bool) (xs : List ℕ) (e : Endianness) where
  abbrev pub ncmds : ℕ
  ncmds = (header xs e).ncmds

  -- where the command table ends, which follows the header
  abbrev pub end_of_table : ℕ
  end_of_table = header_size wide + (header xs e).sizeofcmds

  abbrev pub command : ℕ → LoadCommand
  command p = load_command xs p e

  abbrev pub segment_at : ℕ → Segment
  segment_at p = segment wide xs p e

  abbrev pub section_at : ℕ → Section
  section_at q = section wide xs q e

  -- command k, at p, stands: it is counted, and its 8 bytes and its own size lie in a table that lies in the source
  pub record Stands (k p : ℕ) : Type 0 where
    pub table : end_of_table ≤ length xs
    pub counted : k < ncmds
    pub eight : p + 8 ≤ end_of_table
    pub size : 8 ≤ (command p).cmdsize
    pub inside : p + (command p).cmdsize ≤ end_of_table

  -- whether the section at q of the segment at p is read-only; the name of its segment stands 16 bytes on
  abbrev pub read_only_at : ℕ → ℕ → Bool
  read_only_at p q = read_only_of (read_only_in (header xs e).filetype (segment_at p)) (name_at xs (q + 16))

  -- r is the record of the section at q of the segment at p, but for the offset
  pub record SectionIs (p q number : ℕ) (r : SectionRecord) : Type 0 where
    pub numbered : r.number ≡ number
    pub kind : r.kind ≡ kind_of (name_at xs (q + 16)) (section_at q).flags (read_only_at p q)
    pub place : r.place ≡ q
    pub addr : r.addr ≡ (section_at q).addr
    pub size : r.size ≡ (section_at q).size

  -- the records of sections from q on, with numbers from n on, in a segment at p that ends at stop. The offset of a
  -- section is the stored one where the segment does not end beyond 4 GiB or the section is zero-filled. Any other
  -- section starts at the least number not below the end before it that has the stored low bits, and ends no later
  -- than the segment; both modulo 2^64. The last tells whether a true sum reached 2^64.
  pub data Sections (p stop : ℕ) (beyond : Bool) : ℕ → ℕ → ℕ → List SectionRecord → Bool → Type 0 where
    none : {q n before : ℕ} → Sections p stop beyond q n before [] false
    stored : {q n before : ℕ} {r : SectionRecord} {rest : List SectionRecord} {reached : Bool} →
        SectionIs p q n r → (beyond ≡ false) ⊎ (file_backed (section_at q).flags ≡ false) → r.offset ≡ (section_at q).offset →
        Sections p stop beyond (q + section_size wide) (n + 1) before rest reached → Sections p stop beyond q n before (r ∷ rest) reached
    placed : {q n before : ℕ} {r : SectionRecord} {rest : List SectionRecord} {reached : Bool} → (start : ℕ) →
        SectionIs p q n r → beyond ≡ true → file_backed (section_at q).flags ≡ true →
        Least before (section_at q).offset start → r.offset ≡ start % 2 ^ 64 → (r.offset + r.size) % 2 ^ 64 ≤ stop →
        Sections p stop beyond (q + section_size wide) (n + 1) ((r.offset + r.size) % 2 ^ 64) rest reached →
        Sections p stop beyond q n before (r ∷ rest) ((nat_le (2 ^ 64) start || nat_le (2 ^ 64) (r.offset + r.size)) || reached)

  -- where a segment ends, modulo 2^64
  abbrev pub stop_of : ℕ → ℕ
  stop_of p = ((segment_at p).fileoff + (segment_at p).filesize) % 2 ^ 64

  -- the segment at p is listed as s, and its sections as rows, where so many sections are listed before it; a
  -- number has 64 bits
  pub record SegmentIs (p before : ℕ) (s : SegmentRecord) (rows : List SectionRecord) : Type 0 where
    pub whole : segment_size wide + (segment_at p).nsects * section_size wide ≤ (command p).cmdsize
    pub place : s.place ≡ p
    pub first : s.first ≡ min (before + 1) (2 ^ 64 - 1)
    pub count : s.count ≡ length rows
    pub all : length rows ≡ (segment_at p).nsects
    pub reached : Bool
    pub sections : Sections p (stop_of p) (nat_lt 0xffff_ffff (stop_of p)) (p + segment_size wide) (before + 1) (segment_at p).fileoff rows reached
    pub wrapped : s.wrapped ≡ (nat_le (2 ^ 64) ((segment_at p).fileoff + (segment_at p).filesize) || reached)

  -- the segments and sections of the first k commands, after which the next would stand at p
  pub data Passed : ℕ → ℕ → List SegmentRecord → List SectionRecord → Type 0 where
    start : Passed 0 (header_size wide) [] []
    other_command : {k p : ℕ} {ss : List SegmentRecord} {rs : List SectionRecord} →
        Passed k p ss rs → Stands k p → ((command p).cmd ≢ segment_command wide) → Passed (k + 1) (p + (command p).cmdsize) ss rs
    native_segment : {k p : ℕ} {ss : List SegmentRecord} {rs : List SectionRecord} {s : SegmentRecord} {rows : List SectionRecord} →
        Passed k p ss rs → Stands k p → (command p).cmd ≡ segment_command wide → SegmentIs p (length rs) s rows →
        Passed (k + 1) (p + (command p).cmdsize) (ss ++ s ∷ []) (rs ++ rows)

  -- the last LC_SYMTAB of the first k commands, if any; LC_SYMTAB is 2
  pub data LastSymtab : ℕ → ℕ → Option SymtabCommand → Type 0 where
    no_command : LastSymtab 0 (header_size wide) None
    another : {k p : ℕ} {t : Option SymtabCommand} →
        LastSymtab k p t → Stands k p → ((command p).cmd ≢ 0x2) → LastSymtab (k + 1) (p + (command p).cmdsize) t
    newer : {k p : ℕ} {t : Option SymtabCommand} →
        LastSymtab k p t → Stands k p → (command p).cmd ≡ 0x2 → 24 ≤ (command p).cmdsize →
        LastSymtab (k + 1) (p + (command p).cmdsize) (Some (symtab xs p e))
