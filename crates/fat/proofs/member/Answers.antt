use Rattle.std.proofs.Common.{arith}
use Rattle.std.proofs.lemmas.Result.{err_from_is_err_and, MatchResult-weaker}
use Rattle.fat.specs.Members.{no_arch, outside}
use Rattle.fat.proofs.member.Goals as goal

pub returns-in_err-arch : goal.returns-in_err-arch
returns-in_err-arch g c =
    let p = err_from_is_err_and c.from_residual.result c.from_residual.ensures.1 in
    rw (p.1, p.2) (no_arch _ c.in_err-arch.ensures)

pub returns : goal.returns
returns g c =
    let a = c.in_ok-arch.arch in
    let listed = c.in_ok-arch.ensures in
    MatchResult-weaker c.new.result c.new.ensures
    (λ w h. (h.0, record { arch = a; listed = listed; starts = h.1; ends = h.2; inside = omega arith }))
    (λ e h. rw h.0 (outside a listed h.1))
