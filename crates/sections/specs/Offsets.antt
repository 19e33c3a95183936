-- Where the bytes of a segment's sections begin, section by section. Assumes nothing.
use Rattle.std.specs.Prelude.{ℕ, ◌+◌, ◌*◌, ◌/◌, ◌%◌, ◌^◌, Bool, cond, not, ◌&&◌, ◌||◌, [], ◌∷◌, Some, None, Option, nat_le, nat_lt}
use Rattle.fields.specs.declared.section.Section.{Section}
use Rattle.sections.specs.declared.offset.SectionOffsets.{SectionOffsets}
use Rattle.sections.specs.Kinds.{one_of, type_of}

-- zero-filled sections have no bytes in the file
abbrev pub file_backed : ℕ → Bool
file_backed flags = not (one_of (0x01 ∷ 0x0c ∷ 0x12 ∷ []) (type_of flags))

-- before the first section: the end before is where the segment starts
abbrev pub begun : ℕ → ℕ → SectionOffsets
begun fileoff filesize =
    record {
      segment_end = (fileoff + filesize) % 2 ^ 64;
      previous_end = fileoff;
      wrapped = nat_le (2 ^ 64) (fileoff + filesize);
    }

-- the number with these low 32 bits in the 4 GiB that x lies in
abbrev pub near : ℕ → ℕ → ℕ
near x low = x / 2 ^ 32 * 2 ^ 32 + low % 2 ^ 32

-- the least number not below x with these low 32 bits
abbrev pub least_from : ℕ → ℕ → ℕ
least_from x low = near x low + cond (nat_lt (near x low) x) (2 ^ 32) 0

-- where a file-backed section begins and ends beyond 4 GiB, modulo 2^64
abbrev pub start_at : SectionOffsets → Section → ℕ
start_at c x = least_from c.previous_end x.offset % 2 ^ 64

abbrev pub end_at : SectionOffsets → Section → ℕ
end_at c x = (start_at c x + x.size) % 2 ^ 64

-- the segment ends beyond 4 GiB
abbrev pub beyond_4gib : SectionOffsets → Bool
beyond_4gib c = nat_lt 0xffff_ffff c.segment_end

-- the stored offset is not the whole of it
abbrev pub placed : SectionOffsets → Section → Bool
placed c x = beyond_4gib c && file_backed x.flags

-- past a section that was placed; a true sum may have reached 2^64
abbrev pub onward : SectionOffsets → Section → SectionOffsets
onward c x =
    record {
      segment_end = c.segment_end;
      previous_end = end_at c x;
      wrapped = c.wrapped || (nat_le (2 ^ 64) (least_from c.previous_end x.offset) || nat_le (2 ^ 64) (start_at c x + x.size));
    }

-- where the next section begins, unless it ends past the segment
unfoldable pub next_start : SectionOffsets → Section → Option ℕ
next_start c x = cond (placed c x) (cond (nat_lt c.segment_end (end_at c x)) None (Some (start_at c x))) (Some x.offset)

-- the cursor after a section
unfoldable pub next_offsets : SectionOffsets → Section → SectionOffsets
next_offsets c x = cond (placed c x) (cond (nat_lt c.segment_end (end_at c x)) c (onward c x)) c
