use Rattle.reader.proofs.Layouts.{next_segment_is_listed_as_its_only_layout}
use Rattle.reader.proofs.walk.Walk.step.Goals as goal

pub returns-in_err-answer-in-Ok-Some-clause-layout : goal.returns-in_err-answer-in-Ok-Some-clause-layout
returns-in_err-answer-in-Ok-Some-clause-layout g c = next_segment_is_listed_as_its_only_layout _ _ _ _ _

pub returns-in_ok-answer-in-Ok-Some-clause-layout : goal.returns-in_ok-answer-in-Ok-Some-clause-layout
returns-in_ok-answer-in-Ok-Some-clause-layout g c = next_segment_is_listed_as_its_only_layout _ _ _ _ _
