use Rattle.std.proofs.Common.{refl}
use Rattle.sections.specs.Offsets.{next_start, next_offsets}
use Rattle.worked.proofs.worked_examples_hold.Goals as goal

pub returns : goal.returns
unfolding next_start next_offsets
returns c = record { answer = refl; offsets = refl; all = refl }
