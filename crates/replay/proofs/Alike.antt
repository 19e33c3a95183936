-- What is made of lists that are alike is alike. Assumes nothing.
use Rattle.std.proofs.Common.{◌≡◌, ℕ, zero, suc, ◌+◌, ◌<◌, Bool, true, false, cond, ltb, List as Row, [], ◌∷◌, ◌++◌, length, take, Some, None, Option, sym, refl, ap, ◌∙◌, subst, arith, length-set}
use Rattle.std.proofs.lemmas.List.{take_more_set}
use Rattle.std.proofs.lemmas.Bool.{ltb-true}
use Rattle.std.specs.List.{slice_get}
use Rattle.list.specs.Contents.{Contents, free, has_room, added, pushed, push_answer, got}
use Rattle.fields.specs.declared.section.Section.{Section}
use Rattle.sections.specs.Listings.{given_section}
use Rattle.replay.specs.Alike.{Alike}

-- two choices by the same test
pub cond_related : {A : Type 0} (R : A → A → Type 0) (p q : Bool) (x y x' y' : A) → p ≡ q → (p ≡ true → R x x') → (p ≡ false → R y y') → R (cond p x y) (cond q x' y')
cond_related R true true x y x' y' e f g = f refl
cond_related R false false x y x' y' e f g = g refl
cond_related R true false x y x' y' e f g = cc
cond_related R false true x y x' y' e f g = cc

-- and two choices by whether there is a section
pub given_related : {A : Type 0} (R : A → A → Type 0) (o : Option Section) (x x' : A) (f f' : Section → A) → R x x' → ((s : Section) → R (f s) (f' s)) →
    R (given_section o x f) (given_section o x' f')
given_related R None x x' f f' h k = h
given_related R (Some s) x x' f f' h k = k s

pub nth_take : {X : Type 0} (xs : Row X) (n i : ℕ) → i < n → slice_get (take n xs) i ≡ slice_get xs i
nth_take xs zero i h = absurd (omega arith)
nth_take [] (suc n) i h = refl
nth_take (x ∷ xs) (suc n) zero h = refl
nth_take (x ∷ xs) (suc n) (suc i) h = nth_take xs n i (omega arith)

module _ {X : Type 0} where
  pub alike_empty : (a b : Contents X) → a.count ≡ 0 → b.count ≡ 0 → length a.slots ≡ length b.slots → Alike a b
  alike_empty a b p q e =
      record {
        count = p ∙ sym q;
        capacity = e;
        records = ap (λ n. take n a.slots) p ∙ sym (ap (λ n. take n b.slots) q);
      }

  module _ {a b : Contents X} (h : Alike a b) where
    pub alike_free : free a ≡ free b
    alike_free = rw (h.capacity, h.count) refl

    pub alike_room : has_room a ≡ has_room b
    alike_room = rw (h.capacity, h.count) refl

    pub alike_push_answer : (place : ℕ) → push_answer a place ≡ push_answer b place
    alike_push_answer place = rw alike_room refl

    pub alike_got : (i : ℕ) → got a i ≡ got b i
    alike_got i =
        cond_related ◌≡◌ (ltb i a.count) (ltb i b.count) (slice_get a.slots i) None (slice_get b.slots i) None (ap (ltb i) h.count)
        (λ e.
        let l : i < a.count = ltb-true i a.count e in
        let r : i < b.count = let c = h.count in omega arith in
        sym (nth_take a.slots a.count i l) ∙ ap (λ s. slice_get s i) h.records ∙ nth_take b.slots b.count i r)
        (λ e. refl)

    alike_added : (x : X) → a.count < length a.slots → Alike (added a x) (added b x)
    alike_added x l =
        let r : b.count < length b.slots = let c = h.count in let k = h.capacity in omega arith in
        record {
          count = ap (λ n. n + 1) h.count;
          capacity = length-set a.slots a.count x ∙ h.capacity ∙ sym (length-set b.slots b.count x);
          records = take_more_set a.slots a.count x l ∙ ap (λ s. s ++ x ∷ []) h.records ∙ sym (take_more_set b.slots b.count x r);
        }

    pub alike_pushed : (x : X) → Alike (pushed a x) (pushed b x)
    alike_pushed x =
        cond_related Alike (has_room a) (has_room b) (added a x) a (added b x) b alike_room
        (λ e. alike_added x (ltb-true a.count (length a.slots) e)) (λ e. h)

    pub alike_pushed_both : (x y : X) → x ≡ y → Alike (pushed a x) (pushed b y)
    alike_pushed_both x y e = subst (λ z. Alike (pushed a x) (pushed b z)) e (alike_pushed x)
