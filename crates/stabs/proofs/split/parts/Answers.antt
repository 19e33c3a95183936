use Rattle.std.proofs.Common.{◌≡◌, ◌+◌, ◌-◌, Some, None, sym, ap, ◌∙◌, arith, rules, tests}
use Rattle.source.specs.Bytes.{byte_at}
use Rattle.stabs.specs.Splits.{span, cut_at, split_of}
use Rattle.stabs.proofs.Searches.{split_at}
use Rattle.stabs.proofs.split.parts.Goals as goal

pub returns-in_err-open : goal.returns-in_err-open
returns-in_err-open g c =
    let xs = g.S.Source.bytes c.args.s.now in
    let name = c.args.name in
    let last = c.in_ok-last.last in
    let ends : byte_at xs (name.start + last) ≡ Some 41 = search (rules, tests) in
    let none : split_of xs name ≡ (name, None) = split_at name last xs (omega (arith, c.in_ok-last.ensures)) ends ∙ ap (cut_at name (last + 1)) (sym c.in_err-open.ensures.value) in
    search rules

pub returns : goal.returns
returns g c =
    let xs = g.S.Source.bytes c.args.s.now in
    let name = c.args.name in
    let last = c.in_ok-last.last in
    let i = c.in_ok-open.open in
    let ends : byte_at xs (name.start + last) ≡ Some 41 = search (rules, tests) in
    let n : last + 1 - i - 2 ≡ last - i - 1 = omega arith in
    split_at name last xs (omega (arith, c.in_ok-last.ensures)) ends ∙ ap (cut_at name (last + 1)) (sym c.in_ok-open.ensures.value)
    ∙ ap (λ k. (span name.start i, Some (span (name.start + i + 1) k))) n
