-- The table of worked examples. A row of offsets is a segment's fileoff and filesize, its sections by stored
-- offset and size, and what comes: the starts and whether a true sum reached 2^64, or none where a section
-- ends past the segment.
use Rattle.std.specs.Prelude.{◌≡◌, ℕ, ◌-◌, ◌^◌, Bool, true, false, ◌&&◌, List, [], ◌∷◌, Some, None, Option}
use Rattle.std.specs.Str.{bytes_eq}
use Rattle.fields.specs.declared.section.Section.{Section}
use Rattle.sections.specs.declared.offset.SectionOffsets.{SectionOffsets}
use Rattle.sections.specs.Offsets.{begun, next_start, next_offsets}

pub record Found : Type 0 where
  pub starts : List ℕ
  pub wrapped : Bool

pub record Row : Type 0 where
  pub fileoff : ℕ
  pub filesize : ℕ
  pub sections : List Section
  pub expected : Option Found

-- a regular section
abbrev pub stored : ℕ → ℕ → Section
stored offset size = record { addr = 0; size = size; offset = offset; flags = 0 }

abbrev pub zero_filled_section : ℕ → ℕ → Section
zero_filled_section offset size = record { addr = 0; size = size; offset = offset; flags = 1 }

abbrev pub before : ℕ → Option Found → Option Found
before s None = None
before s (Some f) = Some (record { starts = s ∷ f.starts; wrapped = f.wrapped })

abbrev pub given : Option ℕ → Option Found → Option Found
given None rest = None
given (Some s) rest = before s rest

-- where the sections begin, one after another
abbrev pub found_from : SectionOffsets → List Section → Option Found
found_from c [] = Some (record { starts = []; wrapped = c.wrapped })
found_from c (x ∷ rest) = given (next_start c x) (found_from (next_offsets c x) rest)

abbrev pub same_bool : Bool → Bool → Bool
same_bool true b = b
same_bool false true = false
same_bool false false = true

abbrev pub agrees : Option Found → Option Found → Bool
agrees None None = true
agrees None (Some g) = false
agrees (Some f) None = false
agrees (Some f) (Some g) = bytes_eq f.starts g.starts && same_bool f.wrapped g.wrapped

abbrev pub holds : Row → Bool
holds r = agrees (found_from (begun r.fileoff r.filesize) r.sections) r.expected

abbrev pub row : ℕ → ℕ → List Section → Option Found → Row
row fileoff filesize sections expected = record { fileoff = fileoff; filesize = filesize; sections = sections; expected = expected }

abbrev pub at : List ℕ → Bool → Option Found
at starts wrapped = Some (record { starts = starts; wrapped = wrapped })

abbrev pub rows : List Row
rows =
    row 0 0x1_0000_0100 (stored 0xffff_ff00 0x100 ∷ stored 0x10 0x20 ∷ []) (at (0xffff_ff00 ∷ 0x1_0000_0010 ∷ []) false)
    ∷ row 0 0x1_0000_0100 (stored 0xffff_ff00 0x100 ∷ stored 0x10 0x20 ∷ stored 0 0 ∷ []) None
    ∷ row 0 0x1_0000_0100 (stored 0xffff_ff00 0x100 ∷ zero_filled_section 7 0x1_0000_0000 ∷ stored 0x10 0x20 ∷ []) (at (0xffff_ff00 ∷ 7 ∷ 0x1_0000_0010 ∷ []) false)
    ∷ row 0 0xffff_ffff (stored 0x10 0x20 ∷ stored 0 (2 ^ 40) ∷ []) (at (0x10 ∷ 0 ∷ []) false)
    ∷ row 0 (2 ^ 32) (stored 0 (2 ^ 32) ∷ []) (at (0 ∷ []) false)
    ∷ row (2 ^ 32) 0 (stored 0 (2 ^ 64 - 1) ∷ []) (at (2 ^ 32 ∷ []) true)
    ∷ []

abbrev pub every : {X : Type 0} → (X → Bool) → List X → Bool
every f [] = true
every f (x ∷ xs) = f x && every f xs

abbrev pub WorkedExamplesHold : Type 0
WorkedExamplesHold = every holds rows ≡ true
