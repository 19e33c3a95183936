use Rattle.replay.proofs.Lawful.{run_is_right}
use Rattle.replay.proofs.driver.replay.Goals as goal

pub returns-clause-right : goal.returns-clause-right
returns-clause-right g c = run_is_right _ _ _ _
