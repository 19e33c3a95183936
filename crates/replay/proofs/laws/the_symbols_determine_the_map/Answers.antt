use Rattle.std.proofs.Common.{refl}
use Rattle.replay.proofs.Unique.{symbols_determine_map}
use Rattle.replay.proofs.laws.the_symbols_determine_the_map.Goals as goal

pub returns : goal.returns
returns c = record { answer = refl; determined = symbols_determine_map }
