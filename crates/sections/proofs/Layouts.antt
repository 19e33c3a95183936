-- The offsets that are found are a layout, and the only one. Assumes nothing.
use Rattle.std.proofs.Common.{◌≡◌, ℕ, zero, suc, ◌+◌, ◌*◌, ◌%◌, ◌^◌, ◌<◌, ◌≤◌, Bool, true, false, cond, leb, List, [], ◌∷◌, ◌++◌, length, Some, None, Ok, Err, Option, Result, unwrap_or, sym, refl, ap, ◌∙◌, subst, inl, inr, append_assoc, mod-eq_of_lt, suc-mul, arith, length-set}
use Rattle.std.proofs.lemmas.List.{append-nil, take_more_set}
use Rattle.std.proofs.lemmas.Bool.{cases_Bool, cases_lt, cond-true, cond-false, and_from, and_left, and_right, or_parts, or_from, leb-false, lt-leb, le-leb, lt-ltb}
use Rattle.source.specs.declared.refusal.Reason.TheVariants.{SectionsPastCommand, SectionPastSegment}
use Rattle.source.specs.declared.refusal.Refusal.{Refusal}
use Rattle.source.specs.Refusals.{refusal}
use Rattle.list.specs.Contents.{Contents, records, free, added, pushed}
use Rattle.fields.specs.declared.section.Section.{Section}
use Rattle.fields.specs.Records.{section, section_at, section_size}
use Rattle.sections.specs.declared.offset.SectionOffsets.{SectionOffsets}
use Rattle.sections.specs.declared.record.SectionRecord.{SectionRecord}
use Rattle.sections.specs.declared.record.SectionTable.{SectionTable}
use Rattle.sections.specs.Layouts.{sections_from, backed_offsets, Layout, none, zero_filled, backed}
use Rattle.sections.specs.Listings.{given_section, given_start, record_of, checked, filled}
use Rattle.sections.specs.Offsets.{file_backed, beyond_4gib, least_from, placed, start_at, end_at, onward, next_start, next_offsets}
use Rattle.sections.proofs.Offsets.{least_is, least_only, at_stored, at_past, at-placed}

module _ (wide : Bool) (xs : List ℕ) (t : SectionTable) where
  abbrev at : ℕ → Section
  at place = section wide xs place t.endian

  abbrev next : ℕ → ℕ
  next place = place + section_size wide

  -- where the file-backed ones of n sections are found
  abbrev pub starts_from : ℕ → ℕ → SectionOffsets → List ℕ
  starts_from zero place c = []
  starts_from (suc n) place c =
      cond (file_backed (at place).flags) (start_at c (at place) ∷ starts_from n (next place) (next_offsets c (at place))) (starts_from n (next place) (next_offsets c (at place)))

  one_less : (n place : ℕ) → place + suc n * section_size wide ≤ length xs → (place + section_size wide ≤ length xs) × (next place + n * section_size wide ≤ length xs)
  one_less n place h = let e = suc-mul n (section_size wide) in (omega arith, omega arith)

  -- a section that is whole is read
  pub section_is : (place : ℕ) → place + section_size wide ≤ length xs → section_at wide xs place t.endian ≡ Some (at place)
  section_is place h = cond-true _ _ _ (le-leb _ _ h)

  abbrev given : ℕ → ℕ → SectionOffsets → Option Section → Result SectionOffsets Refusal
  given n place c o =
      given_section o (Err (refusal SectionsPastCommand t.command)) (λ x. given_start (next_start c x) (refusal SectionPastSegment place) (checked wide xs t n (next place) (next_offsets c x)))

  -- one section more, that is whole and has a start, or has none
  checked_start : (n place : ℕ) (c c' : SectionOffsets) (s : ℕ) → place + section_size wide ≤ length xs → next_start c (at place) ≡ Some s → next_offsets c (at place) ≡ c' →
      checked wide xs t (suc n) place c ≡ checked wide xs t n (next place) c'
  checked_start n place c c' s h e o =
      ap (given n place c) (section_is place h)
      ∙ ap (λ k. given_start k (refusal SectionPastSegment place) (checked wide xs t n (next place) (next_offsets c (at place)))) e
      ∙ ap (checked wide xs t n (next place)) o

  checked_stop : (n place : ℕ) (c : SectionOffsets) → place + section_size wide ≤ length xs → next_start c (at place) ≡ None →
      checked wide xs t (suc n) place c ≡ Err (refusal SectionPastSegment place)
  checked_stop n place c h e =
      ap (given n place c) (section_is place h)
      ∙ ap (λ k. given_start k (refusal SectionPastSegment place) (checked wide xs t n (next place) (next_offsets c (at place)))) e

  starts_backed : (n place : ℕ) (c c' : SectionOffsets) → file_backed (at place).flags ≡ true → next_offsets c (at place) ≡ c' →
      starts_from (suc n) place c ≡ start_at c (at place) ∷ starts_from n (next place) c'
  starts_backed n place c c' b o = cond-true _ _ _ b ∙ ap (λ k. start_at c (at place) ∷ starts_from n (next place) k) o

  starts_zero_filled : (n place : ℕ) (c c' : SectionOffsets) → file_backed (at place).flags ≡ false → next_offsets c (at place) ≡ c' →
      starts_from (suc n) place c ≡ starts_from n (next place) c'
  starts_zero_filled n place c c' b o = cond-false _ _ _ b ∙ ap (starts_from n (next place)) o

  -- below 4 GiB nothing is refused, and nothing moves
  pub checked_still : (n place : ℕ) (c : SectionOffsets) → place + n * section_size wide ≤ length xs → beyond_4gib c ≡ false → checked wide xs t n place c ≡ Ok c
  checked_still zero place c h b = refl
  checked_still (suc n) place c h b =
      let k = one_less n place h in
      let p = at_stored c (at place) (and_left _ _ b) in
      checked_start n place c c _ k.0 p.0 p.1 ∙ checked_still n (next place) c k.1 b

  -- the cursor beyond 4 GiB, before the true sums reach 2^64
  pub record Far (c : SectionOffsets) : Type 0 where
    pub beyond : beyond_4gib c ≡ true
    pub low : c.segment_end < 2 ^ 64

  pub record Laid (n place : ℕ) (c : SectionOffsets) : Type 0 where
    pub unwrapped : c.wrapped ≡ false
    pub laid : Layout c.segment_end c.previous_end (sections_from wide xs t n place) (starts_from n place c)

  -- no sum of an unwrapped step reached 2^64
  true_sums : (c : SectionOffsets) (x : Section) → (onward c x).wrapped ≡ false →
      (c.wrapped ≡ false) × (start_at c x ≡ least_from c.previous_end x.offset) × (end_at c x ≡ start_at c x + x.size)
  true_sums c x e =
      let p = or_parts _ _ e in
      let q = or_parts _ _ p.1 in
      let a = leb-false _ _ q.0 in
      let b = leb-false _ _ q.1 in
      (p.0, mod-eq_of_lt a, mod-eq_of_lt b)

  never_ok : {X : Type 0} (r : Result X Refusal) (e : Refusal) (x : X) → r ≡ Err e → r ≡ Ok x → ⊥
  never_ok r e x p q = cc

  pub sound : (n place : ℕ) (c after : SectionOffsets) → place + n * section_size wide ≤ length xs → Far c → checked wide xs t n place c ≡ Ok after → after.wrapped ≡ false → Laid n place c
  sound zero place c after h f e u = record { unwrapped = ap (λ o. o.wrapped) (let same : c ≡ after = cc in same) ∙ u; laid = none }
  sound (suc n) place c after h f e u =
      let k = one_less n place h in
      elim (cases_Bool (file_backed (at place).flags)) [
        | inl b ↦ elim (cases_lt c.segment_end (end_at c (at place))) [
          | inl past ↦ absurd (never_ok _ _ _ (checked_stop n place c k.0 (at_past c (at place) (and_from _ _ f.beyond b) past)) e)
          | inr inside ↦
              let p = at-placed c (at place) (and_from _ _ f.beyond b) inside in
              let r = sound n (next place) (onward c (at place)) after k.1 (record { beyond = f.beyond; low = f.low }) (sym (checked_start n place c _ _ k.0 p.0 p.1) ∙ e) u in
              let s = true_sums c (at place) r.unwrapped in
              let l = least_is c.previous_end (at place).offset in
              let stop = c.segment_end in
              record {
                unwrapped = s.0;
                laid =
                    subst (Layout stop c.previous_end (sections_from wide xs t (suc n) place)) (sym (starts_backed n place c _ b p.1))
                    (backed (start_at c (at place)) b (rw s.1 l.2) (rw s.1 l.0) (rw s.1 l.1) (rw s.2 at inside)
                    (subst (λ q. Layout stop q (sections_from wide xs t n (next place)) (starts_from n (next place) (onward c (at place)))) s.2 r.laid));
              }
        ]
        | inr b ↦
            let p = at_stored c (at place) (and_right _ _ b) in
            let r = sound n (next place) c after k.1 f (sym (checked_start n place c _ _ k.0 p.0 p.1) ∙ e) u in
            record {
              unwrapped = r.unwrapped;
              laid = subst (Layout c.segment_end c.previous_end (sections_from wide xs t (suc n) place)) (sym (starts_zero_filled n place c _ b p.1)) (zero_filled b r.laid);
            }
      ]

  pub record Found (n place : ℕ) (c : SectionOffsets) (starts : List ℕ) : Type 0 where
    pub after : SectionOffsets
    pub accepted : checked wide xs t n place c ≡ Ok after
    pub unwrapped : after.wrapped ≡ false
    pub same : starts_from n place c ≡ starts

  -- the start that a layout has is the one that is found, and no sum reaches 2^64
  placed_as : (c : SectionOffsets) (x : Section) (s : ℕ) → Far c → c.wrapped ≡ false → s % 2 ^ 32 ≡ x.offset % 2 ^ 32 → c.previous_end ≤ s → s < c.previous_end + 2 ^ 32 → s + x.size ≤ c.segment_end →
      (start_at c x ≡ s) × (end_at c x ≡ s + x.size) × ((onward c x).wrapped ≡ false)
  placed_as c x s f u low a b e =
      let f' = f.low in
      let l : least_from c.previous_end x.offset ≡ s = sym (least_only c.previous_end x.offset s a b low) in
      let start : start_at c x ≡ s = ap (λ k. k % 2 ^ 64) l ∙ mod-eq_of_lt (omega arith) in
      let end : end_at c x ≡ s + x.size = ap (λ k. (k + x.size) % 2 ^ 64) start ∙ mod-eq_of_lt (omega arith) in
      let one : leb (2 ^ 64) (least_from c.previous_end x.offset) ≡ false = lt-leb (2 ^ 64) (least_from c.previous_end x.offset) (omega arith) in
      let two : leb (2 ^ 64) (start_at c x + x.size) ≡ false = lt-leb (2 ^ 64) (start_at c x + x.size) (omega arith) in
      (start, end, or_from _ _ u (or_from _ _ one two))

  pub complete : (n place : ℕ) (c : SectionOffsets) (starts : List ℕ) → place + n * section_size wide ≤ length xs → Far c → c.wrapped ≡ false →
      Layout c.segment_end c.previous_end (sections_from wide xs t n place) starts → Found n place c starts
  complete zero place c starts h f u none = record { after = c; accepted = refl; unwrapped = u; same = refl }
  complete (suc n) place c starts h f u (zero_filled b l) =
      let k = one_less n place h in
      let p = at_stored c (at place) (and_right _ _ b) in
      let r = complete n (next place) c starts k.1 f u l in
      record {
        after = r.after;
        accepted = checked_start n place c _ _ k.0 p.0 p.1 ∙ r.accepted;
        unwrapped = r.unwrapped;
        same = starts_zero_filled n place c _ b p.1 ∙ r.same;
      }
  complete (suc n) place c all h f u (backed {starts = starts} s b low a d e l) =
      let k = one_less n place h in
      let q = placed_as c (at place) s f u low a d e in
      let stop = c.segment_end in
      let inside : end_at c (at place) ≤ stop = rw q.1 e in
      let p = at-placed c (at place) (and_from _ _ f.beyond b) inside in
      let r = complete n (next place) (onward c (at place)) starts k.1 (record { beyond = f.beyond; low = f.low }) q.2
      (subst (λ z. Layout stop z (sections_from wide xs t n (next place)) starts) (sym q.1) l) in
      record {
        after = r.after;
        accepted = checked_start n place c _ _ k.0 p.0 p.1 ∙ r.accepted;
        unwrapped = r.unwrapped;
        same = starts_backed n place c _ b p.1 ∙ ap (λ z. z ∷ starts_from n (next place) (onward c (at place))) q.0 ∙ ap (λ z. s ∷ z) r.same;
      }

  -- a sum that reached 2^64 is not forgotten
  pub unwrapped_before : (n place : ℕ) (c after : SectionOffsets) → place + n * section_size wide ≤ length xs → checked wide xs t n place c ≡ Ok after → after.wrapped ≡ false → c.wrapped ≡ false
  unwrapped_before zero place c after h e u = ap (λ o. o.wrapped) (let same : c ≡ after = cc in same) ∙ u
  unwrapped_before (suc n) place c after h e u =
      let k = one_less n place h in
      elim (cases_Bool (placed c (at place))) [
        | inl b ↦ elim (cases_lt c.segment_end (end_at c (at place))) [
          | inl past ↦ absurd (never_ok _ _ _ (checked_stop n place c k.0 (at_past c (at place) b past)) e)
          | inr inside ↦
              let p = at-placed c (at place) b inside in
              (or_parts _ _ (unwrapped_before n (next place) (onward c (at place)) after k.1 (sym (checked_start n place c _ _ k.0 p.0 p.1) ∙ e) u)).0
        ]
        | inr b ↦ let p = at_stored c (at place) b in unwrapped_before n (next place) c after k.1 (sym (checked_start n place c _ _ k.0 p.0 p.1) ∙ e) u
      ]

  -- the records of n sections, where m stand before them
  abbrev pub rows_from : ℕ → ℕ → SectionOffsets → ℕ → List SectionRecord
  rows_from zero place c m = []
  rows_from (suc n) place c m =
      record_of xs t place (at place) (m + 1) (unwrap_or (next_start c (at place)) 0) ∷ rows_from n (next place) (next_offsets c (at place)) (m + 1)

  -- with room, the list gains those records
  pub filled-rows : (n place : ℕ) (c : SectionOffsets) (l : Contents SectionRecord) → place + n * section_size wide ≤ length xs → n ≤ free l →
      records (filled wide xs t n place c l) ≡ records l ++ rows_from n place c l.count
  filled-rows zero place c l h f = sym (append-nil (records l))
  filled-rows (suc n) place c l h f =
      let k = one_less n place h in
      let x = record_of xs t place (at place) (l.count + 1) (unwrap_or (next_start c (at place)) 0) in
      let room : l.count < length l.slots = omega arith in
      let push : pushed l x ≡ added l x = cond-true _ _ _ (lt-ltb _ _ room) in
      let more : n ≤ free (added l x) = simp length-set (omega arith) in
      ap (λ o. records (given_section o l (λ y. filled wide xs t n (next place) (next_offsets c y) (pushed l (record_of xs t place y (l.count + 1) (unwrap_or (next_start c y) 0)))))) (section_is place k.0)
      ∙ ap (λ z. records (filled wide xs t n (next place) (next_offsets c (at place)) z)) push
      ∙ filled-rows n (next place) (next_offsets c (at place)) (added l x) k.1 more
      ∙ ap (λ z. z ++ rows_from n (next place) (next_offsets c (at place)) (l.count + 1)) (take_more_set l.slots l.count x room)
      ∙ append_assoc (records l) (x ∷ []) _

  -- and their file-backed ones begin where they are found
  pub rows_starts : (n place : ℕ) (c after : SectionOffsets) (m : ℕ) → place + n * section_size wide ≤ length xs → beyond_4gib c ≡ true → checked wide xs t n place c ≡ Ok after →
      backed_offsets wide xs t.endian (rows_from n place c m) ≡ starts_from n place c
  rows_starts zero place c after m h f e = refl
  rows_starts (suc n) place c after m h f e =
      let k = one_less n place h in
      let rest : SectionOffsets → List ℕ = λ o. backed_offsets wide xs t.endian (rows_from n (next place) o (m + 1)) in
      elim (cases_Bool (file_backed (at place).flags)) [
        | inl b ↦ elim (cases_lt c.segment_end (end_at c (at place))) [
          | inl past ↦ absurd (never_ok _ _ _ (checked_stop n place c k.0 (at_past c (at place) (and_from _ _ f b) past)) e)
          | inr inside ↦
              let p = at-placed c (at place) (and_from _ _ f b) inside in
              let r = rows_starts n (next place) (onward c (at place)) after (m + 1) k.1 f (sym (checked_start n place c _ _ k.0 p.0 p.1) ∙ e) in
              cond-true _ _ _ b
              ∙ ap (λ o. unwrap_or o 0 ∷ rest (next_offsets c (at place))) p.0
              ∙ ap (λ o. start_at c (at place) ∷ rest o) p.1
              ∙ ap (λ z. start_at c (at place) ∷ z) r
              ∙ sym (starts_backed n place c _ b p.1)
        ]
        | inr b ↦
            let p = at_stored c (at place) (and_right _ _ b) in
            let r = rows_starts n (next place) c after (m + 1) k.1 f (sym (checked_start n place c _ _ k.0 p.0 p.1) ∙ e) in
            cond-false _ _ _ b ∙ ap rest p.1 ∙ r ∙ sym (starts_zero_filled n place c _ b p.1)
      ]
