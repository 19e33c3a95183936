-- How a name grows byte by byte. Assumes nothing.
use Rattle.std.proofs.Common.{◌≡◌, ℕ, ◌+◌, ◌-◌, ◌<◌, List, [], ◌∷◌, ◌++◌, length, get_or, take, set, sym, ap, ◌∙◌, append_assoc, arith}
use Rattle.std.proofs.lemmas.List.{append-nil, take_more_set}
use Rattle.std.proofs.lemmas.Bool.{eq-eqb, ne_eqb, cond-true, cond-false}
use Rattle.source.specs.Bytes.{run}
use Rattle.source.proofs.Places.{run_first}
use Rattle.fields.specs.Names.{before_zero}

-- a name ends at a zero
pub name_ends : (xs ws : List ℕ) (p n : ℕ) → 0 < n → p < length xs → get_or xs p 0 ≡ 0 → ws ++ before_zero (run p n xs) ≡ ws
name_ends xs ws p n z h e =
    ap (λ t. ws ++ before_zero t) (run_first xs p n z h) ∙ ap (λ t. ws ++ t) (cond-true _ _ _ (eq-eqb _ _ e)) ∙ append-nil ws

-- any other byte is of the name
pub name_more : (xs ws : List ℕ) (p i n b : ℕ) → 0 < n → i < length ws → p + i < length xs → get_or xs (p + i) 0 ≡ b → (b ≡ 0 → ⊥) →
    take (i + 1) (set ws i b) ++ before_zero (run (p + (i + 1)) (n - 1) xs) ≡ take i ws ++ before_zero (run (p + i) n xs)
name_more xs ws p i n b z l h e ne =
    let next : p + (i + 1) ≡ p + i + 1 = omega arith in
    let rest : List ℕ = before_zero (run (p + i + 1) (n - 1) xs) in
    ap (λ t. t ++ before_zero (run (p + (i + 1)) (n - 1) xs)) (take_more_set ws i b l)
    ∙ append_assoc (take i ws) (b ∷ []) _
    ∙ ap (λ q. take i ws ++ (b ∷ before_zero (run q (n - 1) xs))) next
    ∙ ap (λ c. take i ws ++ (c ∷ rest)) (sym e)
    ∙ ap (λ t. take i ws ++ t) (sym (cond-false _ _ _ (ne_eqb _ _ (λ q. ne (sym e ∙ q)))))
    ∙ ap (λ t. take i ws ++ before_zero t) (sym (run_first xs (p + i) n z h))
