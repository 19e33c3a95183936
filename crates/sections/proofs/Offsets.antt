-- One section more of a segment, by the ways that it may go. Assumes nothing.
use Rattle.std.proofs.Common.{◌≡◌, ℕ, ◌+◌, ◌%◌, ◌^◌, ◌<◌, ◌≤◌, true, false, Some, None, ap, ◌∙◌, inl, inr, arith}
use Rattle.std.proofs.lemmas.Bool.{cases_lt, cond-true, cond-false, lt-ltb, le-ltb}
use Rattle.fields.specs.declared.section.Section.{Section}
use Rattle.sections.specs.declared.offset.SectionOffsets.{SectionOffsets}
use Rattle.sections.specs.Offsets.{near, least_from, placed, start_at, end_at, onward, next_start, next_offsets}

-- the least number with given low bits is at most 4 GiB on
pub least_is : (x low : ℕ) → (x ≤ least_from x low) × (least_from x low < x + 2 ^ 32) × (least_from x low % 2 ^ 32 ≡ low % 2 ^ 32)
least_is x low =
    elim (cases_lt (near x low) x) [
      | inl h ↦ let e : least_from x low ≡ near x low + 2 ^ 32 = ap (λ k. near x low + k) (cond-true _ _ _ (lt-ltb _ _ h)) in
          (omega arith, omega arith, omega arith)
      | inr h ↦ let e : least_from x low ≡ near x low + 0 = ap (λ k. near x low + k) (cond-false _ _ _ (le-ltb _ _ h)) in
          (omega arith, omega arith, omega arith)
    ]

-- and no other number there has them
pub least_only : (x low s : ℕ) → x ≤ s → s < x + 2 ^ 32 → s % 2 ^ 32 ≡ low % 2 ^ 32 → s ≡ least_from x low
least_only x low s a b e = let l = least_is x low in omega arith

pub at_stored : (c : SectionOffsets) (x : Section) → placed c x ≡ false → (next_start c x ≡ Some x.offset) × (next_offsets c x ≡ c)
unfolding next_start next_offsets
at_stored c x h = (cond-false _ _ _ h, cond-false _ _ _ h)

pub at_past : (c : SectionOffsets) (x : Section) → placed c x ≡ true → c.segment_end < end_at c x → next_start c x ≡ None
unfolding next_start
at_past c x h l = cond-true _ _ _ h ∙ cond-true _ _ _ (lt-ltb _ _ l)

pub at-placed : (c : SectionOffsets) (x : Section) → placed c x ≡ true → end_at c x ≤ c.segment_end → (next_start c x ≡ Some (start_at c x)) × (next_offsets c x ≡ onward c x)
unfolding next_start next_offsets
at-placed c x h l = (cond-true _ _ _ h ∙ cond-false _ _ _ (le-ltb _ _ l), cond-true _ _ _ h ∙ cond-false _ _ _ (le-ltb _ _ l))
