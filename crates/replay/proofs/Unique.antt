-- The symbols determine the object map. Assumes nothing.
use Rattle.std.proofs.Common.{◌≡◌, ℕ, List, [], ◌∷◌, ◌++◌, length, Some, Option, sym, refl, ap, ◌∙◌, subst, inl, inr, arith}
use Rattle.std.proofs.lemmas.Bool.{cases_order}
use Rattle.source.specs.declared.span.Span.{Span}
use Rattle.stabs.specs.declared.map.MapEntry.{MapEntry}
use Rattle.stabs.specs.declared.map.MapFile.{MapFile}
use Rattle.stabs.specs.declared.stab.Stab.{Stab}
use Rattle.stabs.specs.declared.stab.Stab.TheVariants.{Opening}
use Rattle.list.specs.Contents.{records}
use Rattle.replay.specs.Maps.{Made, none_made, same_made, more_made, OpensFile, by_named, FilesBefore, Under, OpenAt, Makes, variable, function, MakesFile}
use Rattle.replay.specs.Determined.{TheSymbolsDetermineTheMap}

-- where a symbol makes one thing at most, two lists of what the same symbols make are the same
module _ {X : Type 0} (makes : ℕ → X → Type 0) (one : (k : ℕ) (x y : X) → makes k x → makes k y → x ≡ y) where
  made_same : (i j : ℕ) (xs ys : List X) → i ≡ j → Made makes i xs → Made makes j ys → xs ≡ ys
  made_same _ _ _ _ e none_made none_made = refl
  made_same _ _ _ _ e none_made (same_made q y) = absurd (omega arith)
  made_same _ _ _ _ e none_made (more_made q y) = absurd (omega arith)
  made_same _ _ _ _ e (same_made p x) none_made = absurd (omega arith)
  made_same _ _ _ _ e (same_made {k} {xs} p x) (same_made {k = l} {xs = ys} q y) = made_same k l xs ys (omega arith) p q
  made_same _ _ _ _ e (same_made {k} p x) (more_made {k = l} {x = b} q y) = let h : l ≡ k = omega arith in absurd (x b (subst (λ t. makes t b) h y))
  made_same _ _ _ _ e (more_made p x) none_made = absurd (omega arith)
  made_same _ _ _ _ e (more_made {k} {x = a} p x) (same_made {k = l} q y) = let h : k ≡ l = omega arith in absurd (y a (subst (λ t. makes t a) h x))
  made_same _ _ _ _ e (more_made {k} {xs} {x = a} p x) (more_made {k = l} {xs = ys} {x = b} q y) =
      let h : l ≡ k = omega arith in
      ap (λ t. t ++ (a ∷ [])) (made_same k l xs ys (omega arith) p q) ∙ ap (λ t. ys ++ (t ∷ [])) (one k a b x (subst (λ t. makes t b) h y))

  made_once : (k : ℕ) (xs ys : List X) → Made makes k xs → Made makes k ys → xs ≡ ys
  made_once k xs ys p q = made_same k k xs ys refl p q

module _ (stab_at : ℕ → Option Stab) where
  opens_one : (k : ℕ) (a b : Span) → OpensFile stab_at k a → OpensFile stab_at k b → a ≡ b
  opens_one k a b p q = cc

  -- two counts of the same symbols
  counts_same : (k m n : ℕ) → FilesBefore stab_at k m → FilesBefore stab_at k n → m ≡ n
  counts_same k m n (xs, p, e) (ys, q, f) = sym e ∙ ap length (made_once (OpensFile stab_at) opens_one k xs ys p q) ∙ f

  under_one : (k f g : ℕ) → Under stab_at k f → Under stab_at k g → f ≡ g
  under_one k f g u v =
      elim (cases_order u.opener v.opener) [
        | inl e ↦ counts_same _ f g (subst (λ i. FilesBefore stab_at i f) e u.numbered) v.numbered
        | inr (inl h) ↦ absurd (u.last v.opener h v.before (by_named v.name v.opens))
        | inr (inr h) ↦ absurd (v.last u.opener h u.before (by_named u.name u.opens))
      ]

  open_one : (k i j : ℕ) (n n' : Span) (a a' : ℕ) → OpenAt stab_at i k n a → OpenAt stab_at j k n' a' → (n ≡ n') × (a ≡ a')
  open_one k i j n n' a a' u v =
      elim (cases_order i j) [
        | inl e ↦ let u' : stab_at j ≡ Some (Opening n a) = ap stab_at (sym e) ∙ u.opens in let v' = v.opens in (cc, cc)
        | inr (inl h) ↦ absurd (u.no_opening j n' a' h v.before v.opens)
        | inr (inr h) ↦ absurd (v.no_opening i n a h u.before u.opens)
      ]

  -- a symbol makes one entry at most
  makes_one : (k : ℕ) (x y : MapEntry) → Makes stab_at k x → Makes stab_at k y → x ≡ y
  makes_one k x y (variable n a f p u) (variable n' a' f' p' u') =
      let s : n ≡ n' = cc in
      let v : a ≡ a' = cc in
      let w = under_one k f f' u u' in
      cc
  makes_one k x y (variable n a f p u) (function j n' a' z f' o p' u') = cc
  makes_one k x y (function j n a z f o p u) (variable n' a' f' p' u') = cc
  makes_one k x y (function j n a z f o p u) (function j' n' a' z' f' o' p' u') =
      let s = open_one k j j' n n' a a' o o' in
      let v : z ≡ z' = cc in
      let w = under_one k f f' u u' in
      cc

  makes_one_file : (file_for : Span → MapFile) (k : ℕ) (x y : MapFile) → MakesFile stab_at file_for k x → MakesFile stab_at file_for k y → x ≡ y
  makes_one_file file_for k x y (a, p, e) (b, q, f) = e ∙ ap file_for (opens_one k a b p q) ∙ sym f

pub symbols_determine_map : TheSymbolsDetermineTheMap
symbols_determine_map stab_at file_for k f₀ f₀' fs fs' e₀ e₀' es es' p q =
    record {
      files = made_once (MakesFile stab_at file_for) (makes_one_file stab_at file_for) k (records fs) (records fs') p.files q.files;
      entries = made_once (Makes stab_at) (makes_one stab_at) k (records es) (records es') p.entries q.entries;
    }
