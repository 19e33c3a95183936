use Rattle.std.proofs.Common.{◌≡◌, ◌+◌, sym, ap, ◌∙◌, unwrap_or}
use Rattle.list.specs.Contents.{contents_of, pushed}
use Rattle.sections.specs.Listings.{record_of}
use Rattle.sections.specs.Offsets.{next_start}
use Rattle.sections.proofs.Listings.{list_more, filled_full}
use Rattle.sections.proofs.record.SectionTable.list_sections.Goals as goal

pub returns-then-free-eq0-clause-contents : goal.returns-then-free-eq0-clause-contents
returns-then-free-eq0-clause-contents g c =
    let i = c.loop-found.found-iterator in
    sym (filled_full g.W.Width.wide (g.S.Source.bytes i.source.now) i.table i.left i.place c.loop-found.offsets (contents_of c.loop-found.sections) (sym c.free.ensures.value ∙ c.if-free-eq0.true))
    ∙ c.loop-found.invariant.4

pub loop-found-preserved : goal.loop-found-preserved
loop-found-preserved g c =
    let i = c.loop-found.found-iterator in
    let l = contents_of c.loop-found.sections in
    let found = rw c.in-Ok.is at c.in-Some.ensures.steps in
    let row : c.record_of-record.result ≡ record_of (g.S.Source.bytes i.source.now) i.table c.in-Ok.place c.in-Ok.section (l.count + 1) (unwrap_or (next_start c.loop-found.offsets c.in-Ok.section) 0) = cc in (
      tt,
      tt,
      ap (λ k. k.source.now) found.1.3 ∙ c.loop-found.invariant.2,
      ap (λ k. k.table) found.1.3 ∙ c.loop-found.invariant.3,
      list_more g.W.Width.wide g.S.Source.bytes i c.next.new.self c.loop-found.offsets l _ _ _ _ found c.next-in-loop-found.ensures.after (c.push.ensures.contents ∙ ap (pushed l) row)
          ∙ c.loop-found.invariant.4,
      c.push.ensures.owner ∙ c.loop-found.invariant.5,
    )
