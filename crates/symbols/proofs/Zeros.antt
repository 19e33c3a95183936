-- The first zero of a run, and the name that ends there. Assumes nothing.
use Rattle.std.proofs.Common.{◌≡◌, ℕ, ◌+◌, ◌≤◌, cond, ltb, ◌==◌, List, ◌∷◌, length, Some, None, refl, sym, ap, ◌∙◌, arith}
use Rattle.std.specs.List.{position_from}
use Rattle.std.specs.Option.{option_map}
use Rattle.std.proofs.lemmas.Bool.Decides.{nat_tests}
use Rattle.std.proofs.lemmas.Iterator.Adapters.{position_from-zero}
use Rattle.std.proofs.lemmas.List.Recursion.{is_position_or_len}
use Rattle.fields.specs.declared.load_command.SymtabCommand.{SymtabCommand}
use Rattle.fields.specs.Names.{before_zero}
use Rattle.symbols.specs.Names.{span, strings_from, name_span}

before_cons : (x : ℕ) (xs : List ℕ) → length (before_zero (x ∷ xs)) ≡ cond (x == 0) 0 (1 + length (before_zero xs))
before_cons x xs = grind (arith, nat_tests)

-- how many bytes come before the first zero, where there is one
first_zero : (xs : List ℕ) → position_from (λ b. b == 0) 0 xs ≡ cond (ltb (length (before_zero xs)) (length xs)) (Some (length (before_zero xs))) None
first_zero xs =
    sym (position_from-zero (λ b. b == 0) xs)
    ∙ ap (λ n. cond (ltb n (length xs)) (Some n) None) (sym (is_position_or_len (λ ys. length (before_zero ys)) (λ b. b == 0) refl before_cons xs))

-- a name of an index that is not 0, in a table that lies in the source
pub name_is : (xs : List ℕ) (t : SymtabCommand) (strx : ℕ) → (strx ≡ 0 → ⊥) → t.stroff + t.strsize ≤ length xs → name_span xs t strx ≡ option_map (span (t.stroff + strx)) (position_from (λ b. b == 0) 0 (strings_from xs t strx))
unfolding name_span
name_is xs t strx some table = grind (arith, nat_tests, first_zero)
