use Rattle.std.proofs.Common.{◌-◌, refl, ◌∙◌, rules, tests}
use Rattle.std.proofs.lemmas.Iterator.{YieldsList-from_range}
use Rattle.std.proofs.lemmas.Iterator.Search.{all_from_yields_List}
use Rattle.symbols.proofs.Digits.{digit_at, digits_range}
use Rattle.symbols.proofs.symbol.are_digits.Goals as goal

pub returns : goal.returns
returns g c =
    let xs = g.S.Source.bytes c.args.s.now in
    let p = c.args.start in
    let n = c.args.end - p in
    all_from_yields_List (digit_at xs) _ _ _ c.all.ensures.ran (YieldsList-from_range p c.args.end n refl refl) (λ x b q k. search (rules, tests))
    ∙ digits_range xs p c.args.end n refl c.requires
