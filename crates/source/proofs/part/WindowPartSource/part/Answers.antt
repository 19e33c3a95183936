use Rattle.std.proofs.Common.{arith}
use Rattle.std.proofs.lemmas.Bool.Decides.{nat_tests}
use Rattle.source.proofs.Places.{handed_inner}
use Rattle.source.proofs.part.WindowPartSource.part.Goals as goal

pub returns : goal.returns
returns g c =
    handed_inner _ _ _ c.args.start c.args.count c.part.result (grind (arith, nat_tests)) (omega arith) c.part.ensures
