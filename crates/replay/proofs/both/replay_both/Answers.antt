use Rattle.replay.proofs.Sources.{same_bytes_answer_alike}
use Rattle.replay.proofs.both.replay_both.Goals as goal

pub returns-clause-law : goal.returns-clause-law
returns-clause-law g c = record { left = c.replay.ensures.right; right = c.replay-2.ensures.right; sources = same_bytes_answer_alike _ _ _ _ _ _ }
