use Rattle.std.proofs.Common.{◌≡◌, ℕ, ◌-◌, ◌<◌, ◌≤◌, length, get_or, take, drop, codes, rules}
use Rattle.sections.proofs.Queries.{begun, decided}
use Rattle.sections.proofs.query.dotted.Goals as goal

pub returns-in-46 : goal.returns-in-46
returns-in-46 c =
    let q = c.args.query.now in
    let long : 1 ≤ length q = search rules in
    let reads : (i : ℕ) → i < 1 → get_or q i 0 ≡ get_or (codes ".") i 0 = search rules in
    decided (codes ".") (codes "__") (take (length q - 1) (drop 1 q)) 14 q c.args.name.now c.goes_on.result (begun q (codes ".") long reads) c.goes_on.ensures
