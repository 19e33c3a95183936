use Rattle.std.proofs.Common.{ap, ◌∙◌}
use Rattle.source.specs.Bytes.{run}
use Rattle.source.proofs.Places.{run_window}
use Rattle.fields.specs.Kinds.{kind_of}
use Rattle.report.proofs.member.held_kind.Goals as goal

pub returns : goal.returns
returns g c =
    let a = c.args.arch in
    let w = c.in_ok-member.ensures in
    let meant =
    run_window _ c.in_ok-member.member.start c.in_ok-member.member.end a.offset a.size w.1 w.2
    ∙ ap (λ s. run a.offset a.size (g.S.Source.bytes s.now)) w.0 in
    (w.3, c.of.ensures ∙ ap kind_of meant)
