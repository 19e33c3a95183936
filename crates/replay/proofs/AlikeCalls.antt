-- Every call answers alike on lists that are alike, and leaves them alike. Assumes nothing.
use Rattle.std.proofs.Common.{◌≡◌, ℕ, zero, suc, ◌+◌, ◌-◌, ◌^◌, min, Bool, cond, ◌||◌, eqb, ltb, List as Row, Some, None, Ok, Err, Option, Result, unwrap_or, refl, ap, ◌∙◌}
use Rattle.source.specs.declared.refusal.Reason.TheVariants.{ListFull, UnknownNumber}
use Rattle.source.specs.declared.refusal.Refusal.{Refusal}
use Rattle.source.specs.Refusals.{refusal}
use Rattle.list.specs.Contents.{Contents, records, free, pushed}
use Rattle.fields.specs.declared.load_command.LoadCommand.{LoadCommand}
use Rattle.fields.specs.declared.section.Section.{Section}
use Rattle.fields.specs.Records.{section_at, section_size}
use Rattle.sections.specs.declared.offset.SectionOffsets.{SectionOffsets}
use Rattle.sections.specs.declared.record.SectionRecord.{SectionRecord}
use Rattle.sections.specs.declared.record.SectionTable.{SectionTable}
use Rattle.sections.specs.declared.record.SegmentRecord.{SegmentRecord}
use Rattle.sections.specs.Listings.{record_of, filled}
use Rattle.sections.specs.Offsets.{next_start, next_offsets}
use Rattle.reader.specs.declared.state.Deed.{Deed}
use Rattle.reader.specs.declared.state.Deed.TheVariants.{List as ListIt, Remember}
use Rattle.reader.specs.declared.state.Damage.{Damage}
use Rattle.reader.specs.declared.state.SegmentPlan.{SegmentPlan}
use Rattle.reader.specs.declared.state.State.{State}
use Rattle.reader.specs.declared.state.StepAnswer.{StepAnswer}
use Rattle.reader.specs.declared.state.StepAnswer.TheVariants.{Segment}
use Rattle.reader.specs.Commands.{next_of, deed_of}
use Rattle.reader.specs.Readings.{known_or, section_of, find_in}
use Rattle.reader.specs.Walks.{lacks_room, list_answer, segment_record, listed_segments, listed_sections, moved, moved_if, done_by, stepped_by, step_of}
use Rattle.replay.specs.Alike.{Alike}
use Rattle.replay.specs.AlikeCalls.{StepAlike, LookUpsAlike}
use Rattle.replay.proofs.Alike.{cond_related, given_related, alike_free, alike_got, alike_pushed_both}

pub alike_filled : (wide : Bool) (xs : Row ℕ) (t : SectionTable) (n place : ℕ) (c : SectionOffsets) (a b : Contents SectionRecord) →
    Alike a b → Alike (filled wide xs t n place c a) (filled wide xs t n place c b)
alike_filled wide xs t zero place c a b h = h
alike_filled wide xs t (suc n) place c a b h =
    let made : Section → ℕ → SectionRecord = λ s k. record_of xs t place s k (unwrap_or (next_start c s) 0) in
    let next : (s : Section) → Alike (pushed a (made s (a.count + 1))) (pushed b (made s (b.count + 1))) =
    λ s. alike_pushed_both h _ _ (ap (λ k. made s (k + 1)) h.count) in
    given_related Alike (section_at wide xs place t.endian) a b
    (λ s. filled wide xs t n (place + section_size wide) (next_offsets c s) (pushed a (made s (a.count + 1))))
    (λ s. filled wide xs t n (place + section_size wide) (next_offsets c s) (pushed b (made s (b.count + 1))))
    h (λ s. alike_filled wide xs t n (place + section_size wide) (next_offsets c s) _ _ (next s))

module _ (wide : Bool) (xs : Row ℕ) (w : State) {a b : Contents SegmentRecord} {l m : Contents SectionRecord} (h : Alike a b) (k : Alike l m) where
  lacks_alike : (p : SegmentPlan) → lacks_room p a l ≡ lacks_room p b m
  lacks_alike p =
      ap (λ f. eqb f 0 || ltb (free l) p.table.count) (alike_free h)
      ∙ ap (λ f. eqb (free b) 0 || ltb f p.table.count) (alike_free k)

  same_list_answer : (p : SegmentPlan) → list_answer p a l ≡ list_answer p b m
  same_list_answer p = ap (λ (r : Bool). cond {A = Result StepAnswer Refusal} r (Err (refusal ListFull p.table.command)) (Ok Segment)) (lacks_alike p)

  same_listed_segments : (p : SegmentPlan) → Alike (listed_segments p a l) (listed_segments p b m)
  same_listed_segments p =
      cond_related Alike (lacks_room p a l) (lacks_room p b m) a (pushed a (segment_record p l)) b (pushed b (segment_record p m)) (lacks_alike p)
      (λ e. h)
      (λ e. alike_pushed_both h _ _
      (ap (λ n. record { place = p.table.command; first = min (n + 1) (2 ^ 64 - 1); count = p.table.count; wrapped = p.wrapped }) k.count))

  same_listed_sections : (p : SegmentPlan) → Alike (listed_sections wide xs p a l) (listed_sections wide xs p b m)
  same_listed_sections p =
      cond_related Alike (lacks_room p a l) (lacks_room p b m) l _ m _ (lacks_alike p)
      (λ e. k) (λ e. alike_filled wide xs p.table p.table.count p.table.place p.offsets l m k)

  done_alike : (c : LoadCommand) (d : Result (Option Deed) Refusal) → StepAlike (done_by wide xs w c a l d) (done_by wide xs w c b m d)
  done_alike c (Ok (Some (ListIt p))) =
      record {
        answer = same_list_answer p;
        state = ap (λ r. moved_if r w (moved w c w.symtab)) (same_list_answer p);
        segments = same_listed_segments p;
        sections = same_listed_sections p;
      }
  done_alike c (Ok (Some (Remember t))) = record { answer = refl; state = refl; segments = h; sections = k }
  done_alike c (Ok None) = record { answer = refl; state = refl; segments = h; sections = k }
  done_alike c (Err e) = record { answer = refl; state = refl; segments = h; sections = k }

  stepped_alike : (n : Result (Option LoadCommand) Damage) → StepAlike (stepped_by wide xs w a l n) (stepped_by wide xs w b m n)
  stepped_alike (Ok None) = record { answer = refl; state = refl; segments = h; sections = k }
  stepped_alike (Err d) = record { answer = refl; state = refl; segments = h; sections = k }
  stepped_alike (Ok (Some c)) = done_alike c (deed_of wide xs w c)

  pub step_alike : StepAlike (step_of wide xs w a l) (step_of wide xs w b m)
  step_alike = stepped_alike (next_of xs w)

module _ {l m : Contents SectionRecord} (k : Alike l m) where
  pub section_alike : (n : ℕ) → section_of l n ≡ section_of m n
  section_alike n = ap (λ o. cond {A = Result SectionRecord Refusal} (eqb n 0) (Err (refusal UnknownNumber n)) (known_or n o)) (alike_got k (n - 1))

  pub find_alike : (xs query : Row ℕ) → find_in xs query (records l) ≡ find_in xs query (records m)
  find_alike xs query = ap (find_in xs query) k.records

  pub look_ups_alike : LookUpsAlike l m
  look_ups_alike = record { numbered = section_alike; named = find_alike }
