-- The slots that a list does not use stay as they were, and the numbers of a list's sections are their places.
-- Assumes nothing.
use Rattle.std.proofs.Common.{◌≡◌, ℕ, zero, suc, ◌+◌, ◌<◌, ◌≤◌, Bool, ltb, List as Row, [], ◌∷◌, ◌++◌, length, drop, Some, None, unwrap_or, sym, refl, ap, ◌∙◌, subst, arith, length-set}
use Rattle.std.proofs.lemmas.List.{length-take-le, drop-drop, drop-set-lt, take_more_set}
use Rattle.std.proofs.lemmas.Bool.{cond_both, cond-true, lt-ltb, ltb-true}
use Rattle.std.specs.List.{slice_get}
use Rattle.list.specs.Contents.{Contents, got, records, has_room, added, pushed}
use Rattle.fields.specs.declared.endian.Endianness.{Endianness}
use Rattle.fields.specs.Records.{section_at, section_size}
use Rattle.sections.specs.declared.offset.SectionOffsets.{SectionOffsets}
use Rattle.sections.specs.declared.record.SectionRecord.{SectionRecord}
use Rattle.sections.specs.declared.record.SectionTable.{SectionTable}
use Rattle.sections.specs.declared.record.SegmentRecord.{SegmentRecord}
use Rattle.sections.specs.Listings.{record_of, filled}
use Rattle.sections.specs.Offsets.{next_start, next_offsets}
use Rattle.replay.specs.Segments.{Sections, none, stored, placed, Passed, start, other_command, native_segment}
use Rattle.replay.specs.Rest.{RestKept}
use Rattle.replay.proofs.Alike.{given_related, nth_take}

-- a list that has grown from another in its slots
pub record Grown {X : Type 0} (before now : Contents X) : Type 0 where
  pub fits : now.count ≤ length now.slots
  pub kept : RestKept before now

pub grown_none : {X : Type 0} (l : Contents X) → l.count ≡ 0 → Grown l l
grown_none l e = record { fits = omega arith; kept = record { same_size = refl; same_rest = refl } }

-- a record more takes the first slot that is not in use, and leaves the rest
pub rest-added : {X : Type 0} (before l : Contents X) (x : X) → RestKept before l → RestKept before (added l x)
rest-added before l x h =
    record {
      same_size = length-set l.slots l.count x ∙ h.same_size;
      same_rest =
          drop-set-lt (l.count + 1) l.slots l.count x (omega arith)
          ∙ sym (drop-drop 1 l.count l.slots)
          ∙ ap (drop 1) h.same_rest
          ∙ drop-drop 1 l.count before.slots;
    }

grown_added : {X : Type 0} (before l : Contents X) (x : X) → Grown before l → l.count < length l.slots → Grown before (added l x)
grown_added before l x g h = record { fits = simp length-set (omega arith); kept = rest-added before l x g.kept }

pub grown_pushed : {X : Type 0} (before l : Contents X) (x : X) → Grown before l → Grown before (pushed l x)
grown_pushed before l x g = cond_both (has_room l) (added l x) l (Grown before) (λ e. grown_added before l x g (ltb-true _ _ e)) (λ e. g)

pub records-pushed : {X : Type 0} (l : Contents X) (x : X) → l.count < length l.slots → records (pushed l x) ≡ records l ++ x ∷ []
records-pushed l x h = ap records (cond-true (has_room l) (added l x) l (lt-ltb _ _ h)) ∙ take_more_set l.slots l.count x h

pub records-length : {X : Type 0} (l : Contents X) → l.count ≤ length l.slots → length (records l) ≡ l.count
records-length l h = length-take-le l.count l.slots h

pub grown_filled : (wide : Bool) (xs : Row ℕ) (t : SectionTable) (before : Contents SectionRecord) (n q : ℕ) (o : SectionOffsets) (l : Contents SectionRecord) →
    Grown before l → Grown before (filled wide xs t n q o l)
grown_filled wide xs t before zero q o l g = g
grown_filled wide xs t before (suc n) q o l g =
    given_related (λ a b. Grown before a) (section_at wide xs q t.endian) l l _ (λ y. l) g
    (λ y. grown_filled wide xs t before n (q + section_size wide) (next_offsets o y) (pushed l (record_of xs t q y (l.count + 1) (unwrap_or (next_start o y) 0))) (grown_pushed before l _ g))

-- the numbers of a list of sections go up from one past m
abbrev Numbered : ℕ → Row SectionRecord → Type 0
Numbered m [] = Unit {0}
Numbered m (r ∷ rs) = (r.number ≡ m + 1) × Numbered (m + 1) rs

numbered_append : (m : ℕ) (a b : Row SectionRecord) → Numbered m a → Numbered (m + length a) b → Numbered m (a ++ b)
numbered_append m [] b h k = let e : m + 0 ≡ m = omega arith in subst (λ z. Numbered z b) e k
numbered_append m (r ∷ a) b (h, hs) k =
    let e : m + suc (length a) ≡ m + 1 + length a = omega arith in
    (h, numbered_append (m + 1) a b hs (subst (λ z. Numbered z b) e k))

numbered_at : (m : ℕ) (l : Row SectionRecord) (i : ℕ) (r : SectionRecord) → Numbered m l → slice_get l i ≡ Some r → r.number ≡ m + i + 1
numbered_at m [] i r h e = cc
numbered_at m (x ∷ l) zero r (h, hs) e = let same : x.number ≡ r.number = cc in omega arith
numbered_at m (x ∷ l) (suc i) r (h, hs) e = let n = numbered_at (m + 1) l i r hs e in omega arith

module _ (wide : Bool) (xs : Row ℕ) (e : Endianness) where
  numbered_rows : (p stop : ℕ) (beyond : Bool) (rows : Row SectionRecord) (q m n before : ℕ) (reached : Bool) → n ≡ m + 1 →
      Sections wide xs e p stop beyond q n before rows reached → Numbered m rows
  numbered_rows p stop beyond [] q m n before reached h none = tt
  numbered_rows p stop beyond (r ∷ rows) q m n before reached h (stored is why at rest) =
      (is.numbered ∙ h, numbered_rows p stop beyond rows (q + section_size wide) (m + 1) (n + 1) before _ (omega arith) rest)
  numbered_rows p stop beyond (r ∷ rows) q m n before reached h (placed at_least_lem is far backed least at inside rest) =
      (is.numbered ∙ h, numbered_rows p stop beyond rows (q + section_size wide) (m + 1) (n + 1) _ _ (omega arith) rest)

  numbered_passed : (k p : ℕ) (ss : Row SegmentRecord) (rs : Row SectionRecord) → Passed wide xs e k p ss rs → Numbered 0 rs
  numbered_passed k p ss rs start = tt
  numbered_passed k p ss rs (other_command before stands not) = numbered_passed _ _ ss rs before
  numbered_passed k p ss rs (native_segment {ss = ss'} {rs = rs'} {rows = rows} before stands is segment) =
      let zero_on : length rs' ≡ 0 + length rs' = omega arith in
      numbered_append 0 rs' rows (numbered_passed _ _ ss' rs' before)
      (subst (λ z. Numbered z rows) zero_on (numbered_rows _ _ _ rows _ (length rs') _ _ _ refl segment.sections))

  pub numbered_got : (k p : ℕ) (ss : Row SegmentRecord) (l : Contents SectionRecord) → Passed wide xs e k p ss (records l) →
      (i : ℕ) (r : SectionRecord) → got l i ≡ Some r → r.number ≡ i + 1
  numbered_got k p ss l h i r =
      cond_both (ltb i l.count) (slice_get l.slots i) None (λ z. z ≡ Some r → r.number ≡ i + 1)
      (λ a b. let n = numbered_at 0 (records l) i r (numbered_passed k p ss (records l) h) (nth_take l.slots l.count i (ltb-true _ _ a) ∙ b) in omega arith)
      (λ a b. cc)
