-- One turn of an iterator over the sections of a table. Assumes nothing.
use Rattle.std.proofs.Common.{◌≡◌, ℕ, zero, suc, ◌+◌, ◌-◌, ◌<◌, ◌≤◌, Bool, List, length, Some, None, Ok, Err, Option, Result, unwrap_or, sym, refl, ap, ◌∙◌, arith}
use Rattle.std.proofs.lemmas.Bool.{cond-false, le-ltb}
use Rattle.source.specs.declared.refusal.Reason.TheVariants.{SectionsPastCommand, SectionPastSegment}
use Rattle.source.specs.declared.refusal.Refusal.{Refusal}
use Rattle.source.specs.Refusals.{refusal}
use Rattle.list.specs.Contents.{Contents, free, pushed}
use Rattle.fields.specs.declared.section.Section.{Section}
use Rattle.fields.specs.Records.{section_at, section_size}
use Rattle.sections.specs.declared.offset.SectionOffsets.{SectionOffsets}
use Rattle.sections.specs.declared.record.SectionRecord.{SectionRecord}
use Rattle.sections.specs.declared.record.SectionTable.{SectionTable}
use Rattle.sections.specs.declared.section_iter.SectionIter.{SectionIter}
use Rattle.sections.specs.Listings.{given_section, given_start, record_of, checked, filled, past, GivesSection}
use Rattle.sections.specs.Offsets.{next_start, next_offsets}

-- with no room, the list stays as it is
pub filled_full : (wide : Bool) (xs : List ℕ) (t : SectionTable) (n place : ℕ) (c : SectionOffsets) (l : Contents SectionRecord) → free l ≡ 0 → filled wide xs t n place c l ≡ l
filled_full wide xs t zero place c l h = refl
filled_full wide xs t (suc n) place c l h =
    let full : length l.slots ≤ l.count = omega arith in
    let f : Section → Contents SectionRecord =
    λ x. filled wide xs t n (place + section_size wide) (next_offsets c x) (pushed l (record_of xs t place x (l.count + 1) (unwrap_or (next_start c x) 0))) in
    elim (section_at wide xs place t.endian) as (λ o. given_section o l f ≡ l) [
      | None ↦ refl
      | Some x ↦
          ap (filled wide xs t n (place + section_size wide) (next_offsets c x)) (cond-false _ _ _ (le-ltb _ _ full))
          ∙ filled_full wide xs t n (place + section_size wide) (next_offsets c x) l h
    ]

module _ {S W : Type 0} (wide : Bool) (bytes : S → List ℕ) where
  -- what is left to check, and to list
  abbrev pub to_check : SectionIter S W → SectionOffsets → Result SectionOffsets Refusal
  to_check i c = checked wide (bytes i.source.now) i.table i.left i.place c

  abbrev pub to_list : SectionIter S W → SectionOffsets → Contents SectionRecord → Contents SectionRecord
  to_list i c l = filled wide (bytes i.source.now) i.table i.left i.place c l

  one_left : (i : SectionIter S W) → 0 < i.left → i.left ≡ suc (i.left - 1)
  one_left i h = omega arith

  module _ (i j : SectionIter S W) (c : SectionOffsets) where
    abbrev xs : List ℕ
    xs = bytes i.source.now

    abbrev at : Option Section
    at = section_at wide xs i.place i.table.endian

    -- of a section, the rest is checked
    check_turn : (o : Option Section) → 0 < i.left → at ≡ o →
        to_check i c ≡ given_section o (Err (refusal SectionsPastCommand i.table.command))
        (λ x. given_start (next_start c x) (refusal SectionPastSegment i.place) (checked wide xs i.table (i.left - 1) (i.place + section_size wide) (next_offsets c x)))
    check_turn o h e =
        ap (λ k. checked wide xs i.table k i.place c) (one_left i h)
        ∙ ap
        (λ o. given_section o (Err (refusal SectionsPastCommand i.table.command))
        (λ x. given_start (next_start c x) (refusal SectionPastSegment i.place) (checked wide xs i.table (i.left - 1) (i.place + section_size wide) (next_offsets c x)))) e

    pub check_refused : (e : Refusal) → GivesSection wide bytes i (Some (Err e)) j → to_check i c ≡ Err e
    check_refused e h = check_turn None h.0 h.1.0 ∙ ap Err (sym h.1.1)

    pub check_past : (p : ℕ) (x : Section) → GivesSection wide bytes i (Some (Ok (p, x))) j → next_start c x ≡ None → to_check i c ≡ Err (refusal SectionPastSegment p)
    check_past p x h n = let t = check_turn (Some x) h.0 h.1.0 in rw n at t ∙ ap (λ q. Err (refusal SectionPastSegment q)) (sym h.1.1)

    pub check_more : (p s : ℕ) (x : Section) (c' : SectionOffsets) → GivesSection wide bytes i (Some (Ok (p, x))) j → next_start c x ≡ Some s → c' ≡ next_offsets c x →
        to_check j c' ≡ to_check i c
    check_more p s x c' h n o = let t = check_turn (Some x) h.0 h.1.0 in ap (λ k. to_check k c') h.1.3 ∙ ap (to_check (past wide i)) o ∙ sym (rw n at t)

    module _ (l : Contents SectionRecord) where
      list_turn : (o : Option Section) → 0 < i.left → at ≡ o →
          to_list i c l ≡ given_section o l
          (λ x. filled wide xs i.table (i.left - 1) (i.place + section_size wide) (next_offsets c x) (pushed l (record_of xs i.table i.place x (l.count + 1) (unwrap_or (next_start c x) 0))))
      list_turn o h e =
          ap (λ k. filled wide xs i.table k i.place c l) (one_left i h)
          ∙ ap
          (λ o. given_section o l
          (λ x. filled wide xs i.table (i.left - 1) (i.place + section_size wide) (next_offsets c x) (pushed l (record_of xs i.table i.place x (l.count + 1) (unwrap_or (next_start c x) 0))))) e

      pub list_refused : (e : Refusal) → GivesSection wide bytes i (Some (Err e)) j → to_list i c l ≡ l
      list_refused e h = list_turn None h.0 h.1.0

      pub list_more : (p : ℕ) (x : Section) (c' : SectionOffsets) (l' : Contents SectionRecord) → GivesSection wide bytes i (Some (Ok (p, x))) j → c' ≡ next_offsets c x →
          l' ≡ pushed l (record_of xs i.table p x (l.count + 1) (unwrap_or (next_start c x) 0)) → to_list j c' l' ≡ to_list i c l
      list_more p x c' l' h o e =
          ap (λ k. to_list k c' l') h.1.3
          ∙ ap (λ k. to_list (past wide i) k l') o
          ∙ ap (to_list (past wide i) (next_offsets c x)) (e ∙ ap (λ q. pushed l (record_of xs i.table q x (l.count + 1) (unwrap_or (next_start c x) 0))) h.1.1)
          ∙ sym (list_turn (Some x) h.0 h.1.0)
