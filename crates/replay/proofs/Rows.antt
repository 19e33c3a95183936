-- The records that are listed of a segment's sections are those that the format gives. Assumes nothing.
use Rattle.std.proofs.Common.{◌≡◌, ℕ, zero, suc, ◌+◌, ◌*◌, ◌^◌, ◌≤◌, Bool, false, ◌||◌, leb, List, ◌∷◌, length, Some, Ok, Err, Option, unwrap_or, sym, refl, ap, ◌∙◌, subst, inl, inr, suc-mul, arith}
use Rattle.std.proofs.Math.Bool.{or_assoc, or-false}
use Rattle.std.proofs.lemmas.Bool.{cases_Bool, cases_lt, and_cases, and_parts}
use Rattle.source.specs.declared.refusal.Reason.TheVariants.{SectionsPastCommand, SectionPastSegment}
use Rattle.source.specs.Refusals.{refusal}
use Rattle.fields.specs.declared.section.Section.{Section as Fields}
use Rattle.fields.specs.Names.{name_at}
use Rattle.fields.specs.Records.{header, section, section_size}
use Rattle.sections.specs.declared.offset.SectionOffsets.{SectionOffsets}
use Rattle.sections.specs.declared.record.SectionRecord.{SectionRecord}
use Rattle.sections.specs.declared.record.SectionTable.{SectionTable}
use Rattle.sections.specs.Kinds.{kind_of}
use Rattle.sections.specs.Listings.{given_section, given_start, read_only_of, record_of, checked}
use Rattle.sections.specs.Offsets.{beyond_4gib, least_from, placed as is_placed, start_at, end_at, onward, next_start, next_offsets}
use Rattle.sections.proofs.Layouts.{section_is, rows_from}
use Rattle.sections.proofs.Offsets.{least_is, at_stored, at_past, at-placed}
use Rattle.reader.specs.Commands.{read_only_in}
use Rattle.replay.specs.Segments.{Least, SectionIs, Sections, none, stored, placed, segment_at}

least_of : (before low : ℕ) → Least before low (least_from before low)
least_of x low = let l = least_is x low in record { above = l.0; same_low = l.2; least = λ m a b. omega arith }

module _ (wide : Bool) (xs : List ℕ) (t : SectionTable) where
  abbrev at : ℕ → Fields
  at q = section wide xs q t.endian

  abbrev next : ℕ → ℕ
  next q = q + section_size wide

  one_less : (n q : ℕ) → q + suc n * section_size wide ≤ length xs → (q + section_size wide ≤ length xs) × (next q + n * section_size wide ≤ length xs)
  one_less n q h = let e = suc-mul n (section_size wide) in (omega arith, omega arith)

  -- one section more, that is whole and has a start, or has none
  checked_by : (n q : ℕ) (o : SectionOffsets) (s : Option ℕ) → q + section_size wide ≤ length xs → next_start o (at q) ≡ s →
      checked wide xs t (suc n) q o ≡ given_start s (refusal SectionPastSegment q) (checked wide xs t n (next q) (next_offsets o (at q)))
  checked_by n q o s h e =
      ap (λ k. given_section k (Err (refusal SectionsPastCommand t.command)) (λ x. given_start (next_start o x) (refusal SectionPastSegment q) (checked wide xs t n (next q) (next_offsets o x)))) (section_is wide xs t q h)
      ∙ ap (λ k. given_start k (refusal SectionPastSegment q) (checked wide xs t n (next q) (next_offsets o (at q)))) e

  pub rows-length : (n q : ℕ) (o : SectionOffsets) (m : ℕ) → length (rows_from wide xs t n q o m) ≡ n
  rows-length zero q o m = refl
  rows-length (suc n) q o m = ap suc (rows-length n (next q) (next_offsets o (at q)) (m + 1))

  module _ (p : ℕ) (says : t.read_only ≡ read_only_in (header xs t.endian).filetype (segment_at wide xs t.endian p)) where
    abbrev Listed : SectionOffsets → ℕ → ℕ → List SectionRecord → Bool → Type 0
    Listed o q m = Sections wide xs t.endian p o.segment_end (beyond_4gib o) q (m + 1) o.previous_end

    -- the sections after a cursor, and what it says in the end of true sums
    pub record Right (o : SectionOffsets) (q m : ℕ) (rows : List SectionRecord) (after : SectionOffsets) : Type 0 where
      pub reached : Bool
      pub listed : Listed o q m rows reached
      pub wrapped : after.wrapped ≡ (o.wrapped || reached)

    section_right : (q m start : ℕ) → SectionIs wide xs t.endian p q (m + 1) (record_of xs t q (at q) (m + 1) start)
    section_right q m start =
        record { numbered = refl; kind = ap (λ b. kind_of (name_at xs (q + 16)) (at q).flags (read_only_of b (name_at xs (q + 16)))) says; place = refl; addr = refl; size = refl }

    pub rows_right : (n q : ℕ) (o after : SectionOffsets) (m : ℕ) → q + n * section_size wide ≤ length xs → checked wide xs t n q o ≡ Ok after →
        Right o q m (rows_from wide xs t n q o m) after
    rows_right zero q o after m h e = record { reached = false; listed = none; wrapped = ap (λ k. k.wrapped) (let same : after ≡ o = cc in same) ∙ sym (or-false o.wrapped) }
    rows_right (suc n) q o after m h e =
        let k = one_less n q h in
        let rows_by : Option ℕ → SectionOffsets → List SectionRecord = λ s c. record_of xs t q (at q) (m + 1) (unwrap_or s 0) ∷ rows_from wide xs t n (next q) c (m + 1) in
        elim (cases_Bool (is_placed o (at q))) [
          | inl b ↦ elim (cases_lt o.segment_end (end_at o (at q))) [
            | inl past ↦ (let never = checked_by n q o _ k.0 (at_past o (at q) b past) in cc)
            | inr inside ↦
                let s = at-placed o (at q) b inside in
                let r = rows_right n (next q) (onward o (at q)) after (m + 1) k.1
                (sym (checked_by n q o _ k.0 s.0 ∙ ap (checked wide xs t n (next q)) s.1) ∙ e) in
                let both = and_parts _ _ b in
                let start = least_from o.previous_end (at q).offset in
                subst (λ z. Right o q m z after) (sym (ap (λ z. rows_by z (next_offsets o (at q))) s.0 ∙ ap (rows_by (Some (start_at o (at q)))) s.1))
                (record {
                  reached = (leb (2 ^ 64) start || leb (2 ^ 64) (start_at o (at q) + (at q).size)) || r.reached;
                  listed = placed start (section_right q m (start_at o (at q))) both.0 both.1 (least_of o.previous_end (at q).offset) refl inside r.listed;
                  wrapped = r.wrapped ∙ or_assoc o.wrapped _ r.reached;
                })
          ]
          | inr b ↦
              let s = at_stored o (at q) b in
              let r = rows_right n (next q) o after (m + 1) k.1 (sym (checked_by n q o _ k.0 s.0 ∙ ap (checked wide xs t n (next q)) s.1) ∙ e) in
              subst (λ z. Right o q m z after) (sym (ap (λ z. rows_by z (next_offsets o (at q))) s.0 ∙ ap (rows_by (Some (at q).offset)) s.1))
              (record {
                reached = r.reached;
                listed = stored (section_right q m (at q).offset) (and_cases _ _ b) refl r.listed;
                wrapped = r.wrapped;
              })
        ]
