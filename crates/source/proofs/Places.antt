-- The byte at a place of a list that is made of others. Assumes nothing.
use Rattle.std.proofs.Common.{◌≡◌, ℕ, suc, ◌+◌, ◌-◌, ◌<◌, ◌≤◌, ◌==◌, List, [], ◌∷◌, ◌++◌, length, get_or, take, drop, replicate, Some, None, Option, unwrap_or, sym, refl, ap, ◌∙◌, inl, inr, arith, length-append, length-drop, length-take, Bor}
use lib.ListN.{length-replicate}
use Rattle.std.proofs.lemmas.List.{get_or-take, get_or-drop, get_or_append_left, get_or-append_right, get_or-replicate, get_or_past, drop-take, take-take, drop-drop, drop_more, nil_from_length}
use Rattle.std.proofs.lemmas.Bool.Decides.{nat_tests}
use Rattle.std.proofs.lemmas.Bool.{cases_lt, cond-true, cond-false, eq-eqb, ne_eqb}
use Rattle.std.specs.List.{position_from}
use Rattle.source.specs.Bytes.{byte_at, run, HandsOut}

pub byte_at_in : (xs : List ℕ) (p : ℕ) → p < length xs → byte_at xs p ≡ Some (get_or xs p 0)
byte_at_in xs p h = grind (arith, nat_tests)

pub byte_at_past : (xs : List ℕ) (p : ℕ) → length xs ≤ p → byte_at xs p ≡ None
byte_at_past xs p h = grind (arith, nat_tests)

-- two lists that agree at a place each
pub byte_at_same : (xs ys : List ℕ) (p q : ℕ) → (p < length xs → q < length ys) → (q < length ys → p < length xs) → (p < length xs → get_or xs p 0 ≡ get_or ys q 0) → byte_at xs p ≡ byte_at ys q
byte_at_same xs ys p q there back same = grind (arith, nat_tests)

pub byte_at-take : (n : ℕ) (xs : List ℕ) (p : ℕ) → p < n → byte_at (take n xs) p ≡ byte_at xs p
byte_at-take n xs p h =
    byte_at_same (take n xs) xs p p (λ l. omega (arith, length-take n xs)) (λ l. omega (arith, length-take n xs)) (λ l. get_or-take n xs p 0 h)

pub byte_at-drop : (n : ℕ) (xs : List ℕ) (p : ℕ) → byte_at (drop n xs) p ≡ byte_at xs (n + p)
byte_at-drop n xs p =
    byte_at_same (drop n xs) xs p (n + p) (λ l. omega (arith, length-drop n xs)) (λ l. omega (arith, length-drop n xs)) (λ l. get_or-drop n xs p 0)

pub byte_at_front : (xs ys : List ℕ) (p : ℕ) → p < length xs → byte_at (xs ++ ys) p ≡ byte_at xs p
byte_at_front xs ys p h =
    byte_at_same (xs ++ ys) xs p p (λ l. h) (λ l. omega (arith, length-append xs ys)) (λ l. get_or_append_left xs ys 0 p h)

pub byte_at_back : (xs ys : List ℕ) (p : ℕ) → length xs ≤ p → byte_at (xs ++ ys) p ≡ byte_at ys (p - length xs)
byte_at_back xs ys p h =
    byte_at_same (xs ++ ys) ys p (p - length xs) (λ l. omega (arith, length-append xs ys)) (λ l. omega (arith, length-append xs ys))
    (λ l. get_or-append_right xs ys (length xs) p 0 refl h)

-- the byte at p of the part of count bytes from start
pub byte_at_part : (xs : List ℕ) (start count p : ℕ) → p < count → byte_at (take count (drop start xs)) p ≡ byte_at xs (start + p)
byte_at_part xs start count p h = byte_at-take count (drop start xs) p h ∙ byte_at-drop start xs p

-- the two sides of a join that is cut at a limit
pub byte_at_join_front : (limit : ℕ) (xs ys : List ℕ) (p : ℕ) → p < limit → p < length xs → byte_at (take limit (xs ++ ys)) p ≡ byte_at xs p
byte_at_join_front limit xs ys p l h = byte_at-take limit (xs ++ ys) p l ∙ byte_at_front xs ys p h

pub byte_at_join_back : (limit : ℕ) (xs ys : List ℕ) (p n : ℕ) → n ≡ length xs → p < limit → n ≤ p → byte_at (take limit (xs ++ ys)) p ≡ byte_at ys (p - n)
byte_at_join_back limit xs ys p n e l h = byte_at-take limit (xs ++ ys) p l ∙ byte_at_back xs ys p (omega arith) ∙ ap (λ k. byte_at ys (p - k)) (sym e)

-- a zero of the padding
pub byte_at_pad : (xs : List ℕ) (n p : ℕ) → length xs ≤ p → p < length xs + n → byte_at (xs ++ replicate n 0) p ≡ Some 0
byte_at_pad xs n p h l =
    let k : p - length xs < n = omega arith in
    byte_at_back xs (replicate n 0) p h
    ∙ byte_at_in (replicate n 0) (p - length xs) (omega (arith, length-replicate {A = ℕ} n 0))
    ∙ ap Some (get_or-replicate n (p - length xs) 0 0 k)

-- a part of a part
pub part_part : (xs : List ℕ) (from most start count : ℕ) → start + count ≤ most → take count (drop start (take most (drop from xs))) ≡ take count (drop (from + start) xs)
part_part xs from most start count h =
    let m : most ≡ start + (most - start) = omega arith in
    let k : count ≤ most - start = omega arith in
    ap (λ n. take count (drop start (take n (drop from xs)))) m
    ∙ ap (take count) (drop-take start (most - start) (drop from xs))
    ∙ take-take count (most - start) (drop start (drop from xs)) k
    ∙ ap (take count) (drop-drop start from xs)

-- what the whole hands out for a part of a run, the run hands out too
pub handed_inner : (xs : List ℕ) (from most start count : ℕ) (r : Option (Bor (List ℕ))) → start + count ≤ length (run from most xs) → 0 < count → HandsOut xs (from + start) count r → HandsOut (run from most xs) start count r
handed_inner xs from most start count None h z l = omega (arith, length-take most (drop from xs), length-drop from xs)
handed_inner xs from most start count (Some x) h z l =
    let m : start + count ≤ most = omega (arith, length-take most (drop from xs)) in (h, l.1 ∙ sym (part_part xs from most start count m))

-- what a byte that was read says
pub byte_at_some : (xs : List ℕ) (p b : ℕ) → byte_at xs p ≡ Some b → (p < length xs) × (get_or xs p 0 ≡ b)
byte_at_some xs p b e = grind (arith, nat_tests)

-- a byte past the end counts as zero
pub byte_or_zero : (xs : List ℕ) (p v : ℕ) (r : Option ℕ) → r ≡ byte_at xs p → v ≡ unwrap_or r 0 → v ≡ get_or xs p 0
byte_or_zero xs p v r e f =
    elim (cases_lt p (length xs)) [
      | inl h ↦ f ∙ ap (λ o. unwrap_or o 0) (e ∙ byte_at_in xs p h)
      | inr h ↦ f ∙ ap (λ o. unwrap_or o 0) (e ∙ byte_at_past xs p h) ∙ sym (get_or_past xs p 0 h)
    ]

-- the run that a window means, from what its maker ensures of its fields
pub run_window : (xs : List ℕ) (start end from count : ℕ) → start ≡ from → end ≡ from + count → run start (end - start) xs ≡ run from count xs
run_window xs start end from count s e =
    let n : end - start ≡ count = omega arith in ap (λ k. take k (drop start xs)) n ∙ ap (λ k. take count (drop k xs)) s

-- the first byte of a run, and the rest of it
pub run_first : (xs : List ℕ) (p n : ℕ) → 0 < n → p < length xs → run p n xs ≡ get_or xs p 0 ∷ run (p + 1) (n - 1) xs
run_first xs p n z h =
    let e : n ≡ suc (n - 1) = omega arith in
    ap (take n) (drop_more xs p 0 h) ∙ ap (λ m. take m (get_or xs p 0 ∷ drop (p + 1) xs)) e

pub run_past : (xs : List ℕ) (p n : ℕ) → length xs ≤ p → run p n xs ≡ []
run_past xs p n h = nil_from_length (run p n xs) (simp (length-take, length-drop) (omega arith))

-- a search of a run finds its first byte, or goes on with the rest
module _ (v k p n : ℕ) (xs : List ℕ) (some : 0 < n) (inside : p < length xs) where
  pub found_first : get_or xs p 0 ≡ v → position_from (λ b. b == v) k (run p n xs) ≡ Some k
  found_first e = ap (position_from (λ b. b == v) k) (run_first xs p n some inside) ∙ cond-true _ _ _ (eq-eqb _ _ e)

  pub found_later : (get_or xs p 0 ≡ v → ⊥) → position_from (λ b. b == v) k (run p n xs) ≡ position_from (λ b. b == v) (k + 1) (run (p + 1) (n - 1) xs)
  found_later e = ap (position_from (λ b. b == v) k) (run_first xs p n some inside) ∙ cond-false _ _ _ (ne_eqb _ _ e)
