use Rattle.std.proofs.Common.{◌≡◌, ℕ, ◌-◌, ◌<◌, ◌≤◌, length, get_or, take, drop, codes, rules}
use Rattle.sections.proofs.Queries.{begun, decided}
use Rattle.sections.proofs.query.zipped.Goals as goal

pub returns-in-46 : goal.returns-in-46
returns-in-46 c =
    let q = c.args.query.now in
    let long : 7 ≤ length q = search rules in
    let reads : (i : ℕ) → i < 7 → get_or q i 0 ≡ get_or (codes ".debug_") i 0 = search rules in
    decided (codes ".debug_") (codes "__zdebug_") (take (length q - 7) (drop 7 q)) 7 q c.args.name.now c.goes_on.result (begun q (codes ".debug_") long reads) c.goes_on.ensures
