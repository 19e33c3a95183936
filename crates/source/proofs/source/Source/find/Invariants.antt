use Rattle.std.proofs.Common.{◌≡◌, ◌-◌, ◌==◌}
use Rattle.std.specs.List.{position_from}
use Rattle.source.specs.Bytes.{run}
use Rattle.source.proofs.source.Source.find.Given as goal

-- the search of what is left finds what the search of all does
abbrev pub invariant-loop-p : goal.invariant-loop-p
invariant-loop-p g l =
    let xs = g.Self.Source.bytes l.self in
    position_from (λ b. b == l.value) (l.p - l.start) (run l.p (l.end - l.p) xs) ≡ position_from (λ b. b == l.value) 0 (run l.start (l.end - l.start) xs)
