-- Which section names a query means. Assumes nothing.
use Rattle.std.specs.Prelude.{◌≡◌, ℕ, Bool, ◌&&◌, ◌||◌, ◌⊎◌, List, ◌++◌, length, take, drop, codes}
use Rattle.std.specs.Str.{bytes_eq}

-- a query that begins with one text means the name that begins with another, and goes on as the
-- query does for so many bytes as the sixteen of a name leave room
abbrev pub Led : List ℕ → List ℕ → ℕ → List ℕ → List ℕ → Type 0
Led asked has room query name = (rest : List ℕ) × (query ≡ asked ++ rest) × (name ≡ has ++ take room rest)

-- the name may be the query; `.text` means `__text`; `.debug_info` means `__zdebug_info` too
abbrev pub Matching : List ℕ → List ℕ → Type 0
Matching query name = (name ≡ query) ⊎ (Led (codes ".") (codes "__") 14 query name ⊎ Led (codes ".debug_") (codes "__zdebug_") 7 query name)

-- the same as tests

abbrev pub led : List ℕ → List ℕ → ℕ → List ℕ → List ℕ → Bool
led asked has room query name = bytes_eq (take (length asked) query) asked && bytes_eq name (has ++ take room (drop (length asked) query))

unfoldable pub matching : List ℕ → List ℕ → Bool
matching query name = bytes_eq name query || (led (codes ".") (codes "__") 14 query name || led (codes ".debug_") (codes "__zdebug_") 7 query name)
