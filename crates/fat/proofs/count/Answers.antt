use Rattle.std.proofs.Common.{◌≡◌, ◌<◌, ◌≤◌, length, rules}
use Rattle.std.proofs.lemmas.Result.{err_from_is_err_and}
use Rattle.source.specs.declared.refusal.Reason.TheVariants.{ShortFatHeader}
use Rattle.source.specs.Refusals.{refusal}
use Rattle.fields.specs.Records.{fat_header, fat_magic}
use Rattle.fat.specs.Members.{table_end, no_header, other_magic, no_table}
use Rattle.fat.proofs.count.Goals as goal

pub returns-in_err-header : goal.returns-in_err-header
returns-in_err-header g c =
    let xs = g.S.Source.bytes c.args.source.now in
    let short : length xs < 8 = search rules in
    let p = err_from_is_err_and c.from_residual.result c.from_residual.ensures.1 in
    let e : c.in_err-header.field-0.0 ≡ refusal ShortFatHeader 0 = search rules in
    rw (p.1, p.2, e) (no_header short)

pub returns-then-header-either : goal.returns-then-header-either
returns-then-header-either g c =
    let xs = g.S.Source.bytes c.args.source.now in
    let long : 8 ≤ length xs = search rules in
    let other : (fat_header xs).magic ≡ fat_magic g.W.Width.wide → ⊥ = search rules in
    rw c.at-then-header-either.ensures (other_magic long other)

pub returns-then-not-has : goal.returns-then-not-has
returns-then-not-has g c =
    let xs = g.S.Source.bytes c.args.source.now in
    let long : 8 ≤ length xs = search rules in
    let same : (fat_header xs).magic ≡ fat_magic g.W.Width.wide = search rules in
    let past : length xs < table_end g.W.Width.wide xs = search rules in
    rw c.at-then-not-has.ensures (no_table long same past)
