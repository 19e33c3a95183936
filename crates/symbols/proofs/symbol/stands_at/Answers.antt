use Rattle.std.proofs.Common.{length, ◌+◌, ◌-◌, ◌≡◌, ◌∙◌, arith, rules, tests}
use Rattle.std.proofs.lemmas.Iterator.{YieldsList-from_range, YieldsList-from_slice, YieldsList-from_zip}
use Rattle.std.proofs.lemmas.Iterator.Search.{all_from_yields_List}
use Rattle.symbols.proofs.Digits.{letter_at, word_range}
use Rattle.symbols.proofs.symbol.stands_at.Goals as goal

pub returns : goal.returns
returns g c =
    let xs = g.S.Source.bytes c.args.s.now in
    let p = c.args.start in
    let ws = c.args.word.now in
    let n : p + length ws - p ≡ length ws = omega arith in
    all_from_yields_List (letter_at xs) c.all.new.self _ _ c.all.ensures.ran
    (YieldsList-from_zip (YieldsList-from_range p (p + length ws) (length ws) c.zip.ensures.first n) (YieldsList-from_slice ws (cc))) (λ x b q k. search (rules, tests))
    ∙ word_range xs ws p c.requires.inside
