use Rattle.std.proofs.Common.{◌≡◌, length, take}
use Rattle.source.specs.Bytes.{run}
use Rattle.fields.proofs.number.Fields.bytes_at.Given as goal

abbrev pub invariant-loop-i : goal.invariant-loop-i
invariant-loop-i g l = (length l.bytes ≡ g.row.N) × (take l.i l.bytes ≡ run l.p l.i (g.S.Source.bytes l.self.source.now))
