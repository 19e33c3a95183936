-- A segment beyond 4 GiB is listed as its only layout. Assumes nothing.
use Rattle.std.proofs.Common.{◌≡◌, ℕ, ◌+◌, ◌-◌, ◌*◌, ◌%◌, ◌^◌, ◌<◌, ◌≤◌, min, Bool, false, eqb, ltb, leb, List as Row, ◌++◌, length, drop, set, Some, None, Option, Ok, Err, Result, sym, refl, ap, ◌∙◌, subst, inl, inr, mod-eq_of_lt, arith, length-set, length-take}
use Rattle.std.proofs.lemmas.List.{drop_at, drop_all, append-nil, get_or-set_same}
use Rattle.std.proofs.lemmas.Option.{slice_get-get_or}
use Rattle.std.proofs.lemmas.Bool.{cases_lt, cond-true, cond-false, cond_both, or_from, eq-eqb, ne_eqb, lt-ltb, le-ltb, lt-leb, leb-false, and_parts, leb-true, ltb-false}
use Rattle.source.specs.declared.refusal.Refusal.{Refusal}
use Rattle.list.specs.Contents.{Contents, free, got, records, added}
use Rattle.fields.specs.declared.load_command.LoadCommand.{LoadCommand}
use Rattle.fields.specs.declared.segment.Segment.{Segment as SegmentFields}
use Rattle.fields.specs.Records.{load_command, segment_size, section_size}
use Rattle.sections.specs.declared.offset.SectionOffsets.{SectionOffsets}
use Rattle.sections.specs.declared.record.SectionRecord.{SectionRecord}
use Rattle.sections.specs.declared.record.SectionTable.{SectionTable}
use Rattle.sections.specs.declared.record.SegmentRecord.{SegmentRecord}
use Rattle.sections.specs.Layouts.{backed_offsets, Layout}
use Rattle.sections.specs.Listings.{checked, filled}
use Rattle.sections.specs.Offsets.{begun}
use Rattle.sections.proofs.Layouts.{starts_from, rows_from, Far, sound, complete, unwrapped_before, filled-rows, rows_starts}
use Rattle.reader.specs.declared.state.Damage.{Damage}
use Rattle.reader.specs.declared.state.SegmentPlan.{SegmentPlan}
use Rattle.reader.specs.declared.state.State.{State}
use Rattle.reader.specs.declared.state.StepAnswer.TheVariants.{Segment}
use Rattle.reader.specs.Commands.{rest, stands, next_of, plan_of, deed_of, plan_by, list_by, table_of}
use Rattle.reader.specs.Layouts.{next_segment, own_sections, IsLayout, ComesBeyond, ListedUnwrapped, listed_starts, ListedAsItsOnlyLayout, NextSegmentIsListedAsItsOnlyLayout}
use Rattle.reader.specs.Walks.{next_number, lacks_room, segment_record, done_by, stepped_by, step_of}

-- a command that a step comes to ends inside the source
pub next_inside : (xs : Row ℕ) (w : State) (c : LoadCommand) → next_of xs w ≡ Ok (Some c) → w.place + c.cmdsize ≤ length xs
unfolding next_of
next_inside xs w c =
    let here = load_command xs w.place w.endian in
    let Ends : Result (Option LoadCommand) Damage → Type 0 = λ n. n ≡ Ok (Some c) → w.place + c.cmdsize ≤ length xs in
    cond_both w.over _ _ Ends (λ over e. absurd (cc))
    (λ on. cond_both (ltb (length xs) w.table_end) _ _ Ends (λ past e. absurd (cc))
    (λ table. cond_both (eqb w.left 0) _ _ Ends (λ none e. absurd (cc))
    (λ some. cond_both (ltb (rest w) 8) _ _ Ends (λ short e. absurd (cc))
    (λ eight. cond_both (stands w here) _ _ Ends
    (λ stand e.
    let same : here.cmdsize ≡ c.cmdsize = cc e in
    let a : w.table_end ≤ length xs = ltb-false _ _ table in
    let b : 8 ≤ rest w = ltb-false (rest w) 8 eight in
    let d : here.cmdsize ≤ rest w = leb-true here.cmdsize (rest w) (and_parts (leb 8 here.cmdsize) (leb here.cmdsize (rest w)) stand).1 in
    omega arith)
    (λ falls e. absurd (cc))))))

got-added : {X : Type 0} (l : Contents X) (x : X) → l.count < length l.slots → got (added l x) l.count ≡ Some x
got-added l x h =
    let one : l.count < l.count + 1 = omega arith in
    cond-true _ _ None (lt-ltb _ _ one)
    ∙ slice_get-get_or (set l.slots l.count x) l.count x (simp length-set h)
    ∙ ap Some (get_or-set_same l.slots l.count x x h)

module _ (wide : Bool) (xs : Row ℕ) (w : State) (segments : Contents SegmentRecord) (sections : Contents SectionRecord) (c : LoadCommand) (h : ComesBeyond wide xs w segments sections c) where
  abbrev x : SegmentFields
  x = next_segment wide xs w

  abbrev t : SectionTable
  t = table_of wide w x

  abbrev n : ℕ
  n = x.nsects

  abbrev q : ℕ
  q = w.place + segment_size wide

  abbrev o : SectionOffsets
  o = begun x.fileoff x.filesize

  abbrev found : Result SectionOffsets Refusal
  found = checked wide xs t n q o

  inside : q + n * section_size wide ≤ length xs
  inside = let k = next_inside xs w c h.next in let e = h.whole in omega arith

  plan_is : plan_of wide xs w c ≡ plan_by t o found
  unfolding plan_of
  plan_is =
      let k = h.whole in
      let a : segment_size wide ≤ c.cmdsize = omega arith in
      let b : n * section_size wide ≤ c.cmdsize - segment_size wide = omega arith in
      cond-false _ _ _ (le-ltb _ _ a) ∙ cond-false _ _ _ (le-ltb _ _ b)

  deed_is : deed_of wide xs w c ≡ list_by (plan_of wide xs w c)
  unfolding deed_of
  deed_is = cond-true _ _ _ (eq-eqb _ _ h.native)

  step_is : (r : Result SectionOffsets Refusal) → found ≡ r → step_of wide xs w segments sections ≡ done_by wide xs w c segments sections (list_by (plan_by t o r))
  step_is r e =
      ap (stepped_by wide xs w segments sections) h.next
      ∙ ap (done_by wide xs w c segments sections) (deed_is ∙ ap list_by plan_is ∙ ap (λ k. list_by (plan_by t o k)) e)

  -- with room, what a segment that is accepted is listed as
  abbrev plan_as : SectionOffsets → SegmentPlan
  plan_as after = record { table = t; offsets = o; wrapped = after.wrapped }

  room : (p : SegmentPlan) → p.table.count ≡ n → lacks_room p segments sections ≡ false
  room p e =
      let a = h.segment_slot in
      let b = h.section_slots in
      or_from _ _ (ne_eqb (free segments) 0 (λ z. omega arith)) (le-ltb (free sections) p.table.count (omega arith))

  module _ (after : SectionOffsets) (e : found ≡ Ok after) where
    answer_is : (step_of wide xs w segments sections).answer ≡ Ok Segment
    answer_is = ap (λ s. s.answer) (step_is _ e) ∙ cond-false _ _ _ (room (plan_as after) refl)

    segments_are : (step_of wide xs w segments sections).segments ≡ added segments (segment_record (plan_as after) sections)
    segments_are =
        let a = h.segment_slot in
        let slot : segments.count < length segments.slots = omega arith in
        ap (λ s. s.segments) (step_is _ e) ∙ cond-false _ _ _ (room (plan_as after) refl) ∙ cond-true _ _ _ (lt-ltb _ _ slot)

    sections_are : (step_of wide xs w segments sections).sections ≡ filled wide xs t n q o sections
    sections_are = ap (λ s. s.sections) (step_is _ e) ∙ cond-false _ _ _ (room (plan_as after) refl)

    record_is : got (step_of wide xs w segments sections).segments segments.count ≡ Some (segment_record (plan_as after) sections)
    record_is =
        let a = h.segment_slot in
        let slot : segments.count < length segments.slots = omega arith in
        ap (λ l. got l segments.count) segments_are ∙ got-added segments (segment_record (plan_as after) sections) slot

  -- an unwrapped segment has true sums
  far : o.wrapped ≡ false → Far wide xs t o
  far u =
      let b = h.beyond in
      let low : x.fileoff + x.filesize < 2 ^ 64 = leb-false (2 ^ 64) (x.fileoff + x.filesize) u in
      let same : (x.fileoff + x.filesize) % 2 ^ 64 ≡ x.fileoff + x.filesize = mod-eq_of_lt low in
      record { beyond = lt-ltb 0xffff_ffff ((x.fileoff + x.filesize) % 2 ^ 64) (omega arith); low = omega arith }

  true_end : x.fileoff + x.filesize < 2 ^ 64 → o.segment_end ≡ x.fileoff + x.filesize
  true_end low = mod-eq_of_lt low

  -- the sections that the step lists are those past the count before it
  new_rows : drop sections.count (records (filled wide xs t n q o sections)) ≡ rows_from wide xs t n q o sections.count
  new_rows =
      let m = sections.count in
      let s = h.section_slots in
      let rows = filled-rows wide xs t n q o sections inside s in
      elim (cases_lt (length sections.slots) m) [
        | inl past ↦
            let zero_left : n ≡ 0 = omega arith in
            let none = ap (λ k. rows_from wide xs t k q o m) zero_left in
            ap (drop m) (rows ∙ ap (λ k. records sections ++ k) none ∙ append-nil (records sections))
            ∙ drop_all m (records sections) (omega (arith, length-take m sections.slots))
            ∙ sym none
        | inr within ↦ ap (drop m) rows ∙ drop_at (records sections) (rows_from wide xs t n q o m) m (length-take m sections.slots ∙ (let e : min m (length sections.slots) ≡ m = omega arith in e))
      ]

  has_layout : ListedUnwrapped wide xs w segments sections → (r : Result SectionOffsets Refusal) → found ≡ r → (starts : Row ℕ) × IsLayout wide xs w starts
  has_layout u (Err e) eq =
      let a = u.answer in
      let b : (step_of wide xs w segments sections).answer ≡ Err e = ap (λ s. s.answer) (step_is (Err e) eq) in
      absurd (cc)
  has_layout u (Ok after) eq =
      let a = u.listed in
      let b = record_is after eq in
      let same : segment_record (plan_as after) sections ≡ record { place = w.place; first = next_number sections; count = n; wrapped = false } = cc in
      let unwrapped : after.wrapped ≡ false = ap (λ r. r.wrapped) same in
      let before = unwrapped_before wide xs t n q o after inside eq unwrapped in
      let s = sound wide xs t n q o after inside (far before) eq unwrapped in
      let low = leb-false (2 ^ 64) (x.fileoff + x.filesize) before in (
        starts_from wide xs t n q o,
        record { fits = low; laid = subst (λ stop. Layout stop x.fileoff (own_sections wide xs w) (starts_from wide xs t n q o)) (true_end low) s.laid },
      )

  is_listed : (starts : Row ℕ) → IsLayout wide xs w starts → ListedUnwrapped wide xs w segments sections × (listed_starts wide xs w segments sections ≡ starts)
  is_listed starts l =
      let before : o.wrapped ≡ false = lt-leb (2 ^ 64) (x.fileoff + x.filesize) l.fits in
      let f = far before in
      let laid = subst (λ stop. Layout stop x.fileoff (own_sections wide xs w) starts) (sym (true_end l.fits)) l.laid in
      let r = complete wide xs t n q o starts inside f before laid in (
        record {
          answer = answer_is r.after r.accepted;
          listed =
              record_is r.after r.accepted
              ∙ ap (λ (b : Bool). Some (record { place = w.place; first = next_number sections; count = n; wrapped = b })) r.unwrapped;
        },
        ap (λ k. backed_offsets wide xs w.endian (drop sections.count (records k))) (sections_are r.after r.accepted)
            ∙ ap (backed_offsets wide xs w.endian) new_rows
            ∙ rows_starts wide xs t n q o r.after sections.count inside f.beyond r.accepted
            ∙ r.same,
      )

  as_its_only_layout : ListedAsItsOnlyLayout wide xs w segments sections
  as_its_only_layout =
      record {
        listed_has_layout = λ u. has_layout u found refl;
        layout_is_listed = λ starts l. (is_listed starts l).0;
        as_that_layout = λ starts l. (is_listed starts l).1;
        no_other = λ one other l m. sym (is_listed one l).1 ∙ (is_listed other m).1;
      }

pub next_segment_is_listed_as_its_only_layout : (wide : Bool) (xs : Row ℕ) (w : State) (segments : Contents SegmentRecord) (sections : Contents SectionRecord) →
    NextSegmentIsListedAsItsOnlyLayout wide xs w segments sections
next_segment_is_listed_as_its_only_layout wide xs w segments sections c h = as_its_only_layout wide xs w segments sections c h
