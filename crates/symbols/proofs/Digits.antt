-- Digits one byte after another, and the names that the assembler gives to sections. Assumes nothing.
use Rattle.std.proofs.Common.{◌≡◌, ℕ, suc, ◌+◌, ◌-◌, ◌<◌, ◌≤◌, Bool, true, false, zero, ◌&&◌, List, ◌∷◌, [], length, get_or, Some, refl, ap, ◌∙◌, arith, eqb, ltb, take, drop, codes, length-take, length-drop}
use Rattle.std.specs.Char.{is_ascii_digit}
use Rattle.std.specs.List.{list_all, range_with_len, zip}
use Rattle.std.specs.Option.{option_eq, option_map, unwrap_or}
use Rattle.source.specs.Bytes.{byte_at, run}
use Rattle.source.proofs.Places.{byte_at_in}
use Rattle.std.proofs.lemmas.List.{drop_more, drop-take, drop-drop, take-take}
use Rattle.symbols.specs.Symbols.{digits, is_ltmp}
use Rattle.std.specs.Str.{bytes_eq}
use Rattle.std.proofs.lemmas.Bool.{lt-ltb}

-- whether there is a digit at a place
abbrev pub digit_at : List ℕ → ℕ → Bool
digit_at xs p = unwrap_or (option_map is_ascii_digit (byte_at xs p)) false

-- over the places from p to an end
pub digits_range : (xs : List ℕ) (p e n : ℕ) → e - p ≡ n → e ≤ length xs → list_all (digit_at xs) (range_with_len p n) ≡ digits (run p n xs)
digits_range xs p e zero q h = refl
digits_range xs p e (suc n) q h =
    let l : p < length xs = omega arith in
    rw (byte_at_in xs p l, drop_more xs p 0 l) (ap (λ t. is_ascii_digit (get_or xs p 0) && t) (digits_range xs (p + 1) e n (omega arith) h))

-- whether a byte of a word stands at its place
abbrev pub letter_at : List ℕ → ℕ × ℕ → Bool
letter_at xs x = option_eq eqb (byte_at xs x.0) (Some x.1)

-- a word from p on
pub word_range : (xs ws : List ℕ) (p : ℕ) → p + length ws ≤ length xs → list_all (letter_at xs) (zip (range_with_len p (length ws)) ws) ≡ bytes_eq (run p (length ws) xs) ws
word_range xs [] p h = refl
word_range xs (w ∷ ws) p h =
    let l : p < length xs = omega arith in
    rw (byte_at_in xs p l, drop_more xs p 0 l) (ap (λ t. eqb (get_or xs p 0) w && t) (word_range xs ws (p + 1) (omega arith)))

pub ltmp_run : (xs : List ℕ) (p n : ℕ) → 4 < n → p + n ≤ length xs → is_ltmp (run p n xs) ≡ (bytes_eq (run p 4 xs) (codes "ltmp") && digits (run (p + 4) (p + n - (p + 4)) xs))
ltmp_run xs p n h l =
    let ys : List ℕ = drop p xs in
    let k : ℕ = p + n - (p + 4) in
    let m : n ≡ 4 + k = omega arith in
    let rest : drop 4 (take n ys) ≡ run (p + 4) k xs = ap (λ i. drop 4 (take i ys)) m ∙ drop-take 4 k ys ∙ ap (take k) (drop-drop 4 p xs) in
    let long : ltb 4 (length (run p n xs)) ≡ true = lt-ltb 4 (length (run p n xs)) (simp (length-take, length-drop) (omega arith)) in
    let same : take 4 (run p n xs) ≡ run p 4 xs = take-take 4 n ys (omega arith) in
    rw (long, same, rest)
