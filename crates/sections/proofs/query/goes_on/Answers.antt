use Rattle.std.proofs.lemmas.Slice.Eq.{strip_prefix_is}
use Rattle.std.proofs.lemmas.Bool.Decides.{Decides-eqb}
use Rattle.std.proofs.lemmas.List.{take_min}
use Rattle.sections.proofs.Queries.{followed}
use Rattle.sections.proofs.query.goes_on.Goals as goal

pub returns : goal.returns
returns c =
    followed _ _ _ _ c.strip_prefix.result _ _ (strip_prefix_is Decides-eqb c.args.name.now c.args.has.now c.strip_prefix.result c.strip_prefix.ensures.cases)
    (rw (c.min.ensures, take_min)) c.eq.ensures
