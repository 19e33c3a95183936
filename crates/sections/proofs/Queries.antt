-- The names that a query means. Assumes nothing.
use Rattle.std.proofs.Common.{◌≡◌, ℕ, ◌-◌, ◌<◌, ◌≤◌, Bool, List, ◌++◌, length, get_or, arith, length-drop, take_all, Some, None, Option, MatchOption, ◌≢◌, Bor, take, drop, codes, Decides, sym, refl, ap, ◌∙◌}
use Rattle.std.specs.Option.{option_eq}
use Rattle.std.specs.Str.{bytes_eq}
use Rattle.std.proofs.lemmas.Slice.Eq.{bytes_eq-Decides, slice_eq-Decides}
use Rattle.std.proofs.lemmas.List.Prefix.{front_rest, front_from_reads}
use Rattle.std.proofs.lemmas.List.{append_cancel_left, take-append-drop, take_at, drop_at}
use Rattle.std.proofs.lemmas.Bool.{both_ways, and_parts, and_from}
use Rattle.std.proofs.lemmas.Bool.Decides.{Decides-eqb, Decides-or, same_from_decides}
use Rattle.sections.specs.Queries.{Led, Matching, led, matching}

-- a query that reads as a text is that text and then the rest
pub begun : (q p : List ℕ) → length p ≤ length q → ((i : ℕ) → i < length p → get_or q i 0 ≡ get_or p i 0) → q ≡ p ++ take (length q - length p) (drop (length p) q)
begun q p h r =
    front_from_reads 0 q p h r
    ∙ ap (λ x. p ++ x) (sym (take_all (length q - length p) (drop (length p) q) (omega (arith, length-drop (length p) q))))

-- a test of what follows in the name decides that it goes on so
pub followed : (has rest : List ℕ) (room : ℕ) (name : List ℕ) (tail : Option (Bor (List ℕ))) (part : Bor (List ℕ)) (r : Bool) →
    MatchOption tail ((x : List ℕ) → name ≢ has ++ x) (λ t. name ≡ has ++ t.now) → part.now ≡ take room rest →
    r ≡ option_eq (λ x y. bytes_eq x.now y.now) tail (Some part) → Decides r (name ≡ has ++ take room rest)
followed has rest room name None part r f k t = (λ u. absurd (both_ways r t u), λ h. absurd (f _ h))
followed has rest room name (Some tail) part r f k t =
    let d = slice_eq-Decides Decides-eqb tail.now part.now r t in
    (λ u. f ∙ ap (λ x. has ++ x) (d.0 u ∙ k), λ h. d.1 (append_cancel_left has _ _ (sym f ∙ h) ∙ sym k))

-- and so, that the query means the name
pub decided : (asked has rest : List ℕ) (room : ℕ) (query name : List ℕ) (r : Bool) → query ≡ asked ++ rest → Decides r (name ≡ has ++ take room rest) → Decides r (Led asked has room query name)
decided asked has rest room query name r e d = (
  λ t. (rest, e, d.0 t),
  λ h. d.1 (h.2 ∙ ap (λ x. has ++ take room x) (sym (front_rest query asked h.0 h.1) ∙ front_rest query asked rest e)),
)

led_decides : (asked has : List ℕ) (room : ℕ) (query name : List ℕ) → Decides (led asked has room query name) (Led asked has room query name)
led_decides asked has room query name = (
  λ t. let p = and_parts _ _ t in
      let front = (bytes_eq-Decides (take (length asked) query) asked).0 p.0 in (
        drop (length asked) query,
        sym (take-append-drop (length asked) query) ∙ ap (λ x. x ++ drop (length asked) query) front,
        (bytes_eq-Decides name _).0 p.1,
      ),
  λ h. let front = ap (take (length asked)) h.1 ∙ take_at asked h.0 (length asked) refl in
      let rest = ap (drop (length asked)) h.1 ∙ drop_at asked h.0 (length asked) refl in
      and_from _ _ ((bytes_eq-Decides (take (length asked) query) asked).1 front)
      ((bytes_eq-Decides name _).1 (h.2 ∙ ap (λ x. has ++ take room x) (sym rest))),
)

matching_decides : (query name : List ℕ) → Decides (matching query name) (Matching query name)
unfolding matching
matching_decides query name =
    Decides-or _ _ (bytes_eq-Decides name query) (Decides-or _ _ (led_decides (codes ".") (codes "__") 14 query name) (led_decides (codes ".debug_") (codes "__zdebug_") 7 query name))

-- a test that decides it is the test
pub is_matching : (query name : List ℕ) (r : Bool) → Decides r (Matching query name) → r ≡ matching query name
is_matching query name r d = same_from_decides r (matching query name) d (matching_decides query name)
