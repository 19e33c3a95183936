use Rattle.std.proofs.Common.{rules}
use Rattle.sections.proofs.Queries.{is_matching}
use Rattle.sections.proofs.query.name_matches.Goals as goal

pub returns-then-dotted-clause-value : goal.returns-then-dotted-clause-value
returns-then-dotted-clause-value c = is_matching c.args.query.now c.args.name.now c.if-eq.value (search rules)

pub returns-else-dotted-clause-value : goal.returns-else-dotted-clause-value
returns-else-dotted-clause-value c = is_matching c.args.query.now c.args.name.now c.zipped.result (search rules)
