use Rattle.std.proofs.Common.{◌≡◌, ◌+◌, ◌-◌, get_or, Some, sym, ap, ◌∙◌, arith, rules}
use Rattle.source.proofs.Places.{byte_at_in, byte_at_some, found_first, found_later}
use Rattle.source.proofs.source.Source.find.Goals as goal

pub returns-then-eq-clause-value : goal.returns-then-eq-clause-value
returns-then-eq-clause-value g c =
    let xs = g.Self.Source.bytes c.args.self.now in
    let p = c.loop-p.p in
    let b = byte_at_some xs p c.args.value (search rules) in
    sym (found_first c.args.value (p - c.args.start) p (c.args.end - p) xs (omega arith) (omega arith) b.1) ∙ c.loop-p.invariant

pub loop-p-preserved : goal.loop-p-preserved
loop-p-preserved g c =
    let xs = g.Self.Source.bytes c.args.self.now in
    let p = c.loop-p.p in
    let other : get_or xs p 0 ≡ c.args.value → ⊥ = λ e. let b : c.byte.result ≡ Some c.args.value = c.byte.ensures ∙ byte_at_in xs p (omega arith) ∙ ap Some e in search rules in
    let up : p + 1 - c.args.start ≡ p - c.args.start + 1 = omega arith in
    let less : c.args.end - (p + 1) ≡ c.args.end - p - 1 = omega arith in
    rw (up, less) (sym (found_later c.args.value (p - c.args.start) p (c.args.end - p) xs (omega arith) (omega arith) other) ∙ c.loop-p.invariant)
