use Rattle.std.proofs.Common.{◌≡◌, Err, sym, ◌∙◌, rules}
use Rattle.std.proofs.lemmas.Bool.{leb-true}
use Rattle.source.specs.declared.refusal.Reason.TheVariants.{SectionPastSegment}
use Rattle.source.specs.Refusals.{refusal}
use Rattle.sections.proofs.Layouts.{checked_still}
use Rattle.sections.proofs.Listings.{check_refused, check_past, check_more}
use Rattle.sections.proofs.record.SectionTable.check_sections.Goals as goal

pub returns-then-has : goal.returns-then-has
returns-then-has g c =
    let t = c.args.self.now in
    let inside = rw (c.from.ensures, c.size.ensures) at (leb-true _ _ (sym c.has.ensures.value ∙ c.if-has.true)) in
    sym (checked_still g.W.Width.wide (g.S.Source.bytes c.args.s.now) t t.count t.place c.args.offsets inside (sym c.beyond_4gib.ensures ∙ c.if-not-beyond_4gib.true))

pub returns-in_err-place : goal.returns-in_err-place
returns-in_err-place g c =
    let refused : c.from_residual.result ≡ Err c.in_err-place.field-0.0 = search rules in
    let found = rw c.in_err-place.was at c.in-Some.ensures.steps in
    refused ∙ sym (check_refused g.W.Width.wide g.S.Source.bytes c.loop-found.found-iterator c.next.new.self c.loop-found.offsets _ found) ∙ c.loop-found.invariant.2

pub returns-in_err-ok_or : goal.returns-in_err-ok_or
returns-in_err-ok_or g c =
    let refused : c.from_residual-in_err-ok_or.result ≡ Err c.in_err-ok_or.field-0.0 = search rules in
    let at : Err c.in_err-ok_or.field-0.0 ≡ Err (refusal SectionPastSegment c.in_ok-place.place) = search rules in
    let found = rw c.in_ok-place.was at c.in-Some.ensures.steps in
    let stop = sym c.next-in-loop-found.ensures.answer ∙ c.in_err-ok_or.ensures.ok_part in
    refused ∙ at ∙ sym (check_past g.W.Width.wide g.S.Source.bytes c.loop-found.found-iterator c.next.new.self c.loop-found.offsets _ _ found stop) ∙ c.loop-found.invariant.2

pub loop-found-preserved : goal.loop-found-preserved
loop-found-preserved g c =
    let found = rw c.in_ok-place.was at c.in-Some.ensures.steps in
    let start = sym c.next-in-loop-found.ensures.answer ∙ c.in_ok-ok_or.ensures.ok_part in (
      tt,
      tt,
      check_more g.W.Width.wide g.S.Source.bytes c.loop-found.found-iterator c.next.new.self c.loop-found.offsets _ _ _ _ found start c.next-in-loop-found.ensures.after
          ∙ c.loop-found.invariant.2,
    )
