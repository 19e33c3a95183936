use Rattle.std.proofs.Common.{◌≡◌, drop}
use Rattle.list.specs.Contents.{contents_of}
use Rattle.replay.specs.Runs.{final_of, answers_of, lists_of, push_all}
use Rattle.replay.specs.Stages.{source_of, run_at, SameSlices}
use Rattle.replay.proofs.driver.go_on.Given as goal

-- what is left to be done from here comes to what is to be done in all
abbrev pub invariant-loop-call : goal.invariant-loop-call
invariant-loop-call g l =
    let wide = g.W.Width.wide in
    let xs = g.S.Source.bytes (source_of l.initial.at) in
    let was = run_at l.initial.at (lists_of l.initial.segments l.initial.sections l.initial.files l.initial.entries) in
    let is = run_at l.at (lists_of l.segments l.sections l.files l.entries) in
    let rest = drop l.call-index l.calls in
    (source_of l.at ≡ source_of l.initial.at)
    × (final_of wide xs rest is ≡ final_of wide xs l.calls was)
    × (push_all (answers_of wide xs rest is) (contents_of l.answers) ≡ push_all (answers_of wide xs l.calls was) (contents_of l.initial.answers))
    × SameSlices l.initial.segments l.initial.sections l.initial.files l.initial.entries l.segments l.sections l.files l.entries
    × (l.answers.slots.ghost_name ≡ l.initial.answers.slots.ghost_name)
