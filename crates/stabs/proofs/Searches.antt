-- The split that a search for a byte leads to. Assumes nothing.
use Rattle.std.proofs.Common.{◌≡◌, ℕ, zero, suc, ◌+◌, ◌-◌, min, eqb, cond, List, [], ◌∷◌, length, get_or, take, drop, Some, sym, ap, ◌∙◌, arith}
use Rattle.std.proofs.lemmas.List.{get_or-take, get_or-drop, length-take, length-drop, take-take}
use Rattle.std.proofs.lemmas.Bool.{cond-true, eq-eqb}
use Rattle.std.proofs.lemmas.Bool.Decides.{nat_tests}
use Rattle.source.specs.declared.span.Span.{Span}
use Rattle.source.specs.Bytes.{byte_at, run}
use Rattle.source.proofs.Places.{byte_at_some}
use Rattle.stabs.specs.Splits.{first_at, cut_at, split_of}

-- a search need not look at a last byte of another value
first_but_last : (k b v n : ℕ) (ys : List ℕ) → length ys ≡ n + 1 → get_or ys n 0 ≡ v → (v ≡ b → ⊥) → first_at k b (take n ys) ≡ first_at k b ys
first_but_last k b v n [] l e ne = absurd (omega arith)
first_but_last k b v zero (y ∷ []) l e ne = grind (arith, nat_tests)
first_but_last k b v zero (y ∷ z ∷ zs) l e ne = absurd (omega arith)
first_but_last k b v (suc n) (y ∷ ys) l e ne = ap (cond (eqb y b) (Some k)) (first_but_last (k + 1) b v n ys (omega arith) e ne)

-- a name of last + 1 bytes
module _ (name : Span) (last : ℕ) (xs : List ℕ) (len : min name.len (length xs - name.start) ≡ last + 1) where
  length_bytes : length (run name.start name.len xs) ≡ last + 1
  length_bytes = simp (length-take, length-drop) (omega arith)

  last_byte : byte_at xs (name.start + last) ≡ Some 41 → get_or (run name.start name.len xs) last 0 ≡ 41
  last_byte e = get_or-take name.len (drop name.start xs) last 0 (omega arith) ∙ get_or-drop name.start xs last 0 ∙ (byte_at_some xs (name.start + last) 41 e).1

  pub split_at : byte_at xs (name.start + last) ≡ Some 41 → split_of xs name ≡ cut_at name (last + 1) (first_at 0 40 (run name.start (name.start + last - name.start) xs))
  split_at e =
      let bs = run name.start name.len xs in
      let here : length bs - 1 ≡ last = omega (arith, length_bytes) in
      let n : name.start + last - name.start ≡ last = omega arith in
      let ends : get_or bs (length bs - 1) 0 ≡ 41 = ap (λ k. get_or bs k 0) here ∙ last_byte e in
      cond-true _ _ _ (eq-eqb _ _ ends)
      ∙ ap (λ k. cut_at name k (first_at 0 40 bs)) length_bytes
      ∙ ap (cut_at name (last + 1)) (sym (first_but_last 0 40 41 last bs length_bytes (last_byte e) (λ z. omega arith)))
      ∙ ap (λ ys. cut_at name (last + 1) (first_at 0 40 ys)) (take-take last name.len (drop name.start xs) (omega arith))
      ∙ ap (λ k. cut_at name (last + 1) (first_at 0 40 (run name.start k xs))) (sym n)
