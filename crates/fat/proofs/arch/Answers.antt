use Rattle.std.proofs.Common.{◌≤◌, arith}
use Rattle.std.proofs.lemmas.Result.{err_from_is_err_and}
use Rattle.fat.specs.Members.{count_of, not_fat, unknown}
use Rattle.fat.proofs.arch.Goals as goal

pub returns-in_err-n : goal.returns-in_err-n
returns-in_err-n g c =
    let p = err_from_is_err_and c.from_residual.result c.from_residual.ensures.1 in
    rw (p.1, p.2) (not_fat _ c.in_err-n.ensures)

pub returns-then-number-from : goal.returns-then-number-from
returns-then-number-from g c =
    let e = c.in_ok-n.ensures in
    let past : count_of (g.S.Source.bytes c.args.source.now) ≤ c.args.number = omega arith in
    rw c.at.ensures (unknown e.0 past)
