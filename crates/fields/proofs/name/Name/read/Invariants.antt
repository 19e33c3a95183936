use Rattle.std.proofs.Common.{◌≡◌, ◌+◌, ◌-◌, ◌++◌, length, take}
use Rattle.source.specs.Bytes.{run}
use Rattle.fields.specs.Names.{before_zero, name_at}
use Rattle.fields.proofs.name.Name.read.Given as goal

-- what was read, and the name in what is left of the field
abbrev pub invariant-loop-i : goal.invariant-loop-i
invariant-loop-i g l =
    let xs = g.S.Source.bytes l.s in
    (length l.bytes ≡ 16) × (take l.i l.bytes ++ before_zero (run (l.p + l.i) (16 - l.i) xs) ≡ name_at xs l.p)
