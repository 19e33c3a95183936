use Rattle.std.proofs.Common.{◌≡◌, ◌+◌, ◌-◌, sym, ◌∙◌, arith, length-set}
use Rattle.source.proofs.Places.{byte_or_zero}
use Rattle.fields.proofs.Names.{name_ends, name_more}
use Rattle.fields.proofs.name.Name.read.Goals as goal

pub returns-then-b-eq0 : goal.returns-then-b-eq0
returns-then-b-eq0 g c =
    let xs = g.S.Source.bytes c.args.s.now in
    let at = c.args.p + c.loop-i.i in
    let zero = sym (byte_or_zero xs at _ _ c.byte.ensures c.unwrap_or-b.ensures) ∙ c.if-b-eq0.true in
    sym (name_ends xs _ at (16 - c.loop-i.i) (omega arith) (omega arith) zero) ∙ c.loop-i.invariant.1

pub loop-i-preserved : goal.loop-i-preserved
loop-i-preserved g c =
    let xs = g.S.Source.bytes c.args.s.now in
    let i = c.loop-i.i in
    let here = sym (byte_or_zero xs (c.args.p + i) _ _ c.byte.ensures c.unwrap_or-b.ensures) in
    let less : 16 - (i + 1) ≡ 16 - i - 1 = omega arith in (
      simp length-set c.loop-i.invariant.0,
      rw less (name_more xs c.loop-i.bytes c.args.p i (16 - i) _ (omega arith) (omega arith) (omega arith) here c.if-b-eq0.false ∙ c.loop-i.invariant.1),
    )
