-- Lists of bytes: what a source answers of its list, and the lists that the sources mean. Assumes nothing.
use Rattle.std.specs.Prelude.{◌≡◌, ℕ, ◌+◌, ◌-◌, ◌^◌, ◌<◌, ◌≤◌, cond, List, ◌++◌, length, take, drop, replicate, Some, None, Option, nat_lt, slice_index}
use Rattle.std.specs.Borrow.{Bor}

-- the byte at p, where there is one
abbrev pub byte_at : List ℕ → ℕ → Option ℕ
byte_at xs p = cond (nat_lt p (length xs)) (Some (slice_index xs p)) None

-- the count bytes from start, as far as there are so many
abbrev pub run : ℕ → ℕ → List ℕ → List ℕ
run start count xs = take count (drop start xs)

-- a head, and zeros after it up to a total length
abbrev pub padded : List ℕ → ℕ → List ℕ
padded head total = head ++ replicate (total - length head) 0

-- two lists in a row, as far as a length of 64 bits goes
abbrev pub joined : List ℕ → List ℕ → List ℕ
joined xs ys = take (2 ^ 64 - 1) (xs ++ ys)

-- a part is handed out exactly where the list has all of it, and is that run
abbrev pub HandsOut : List ℕ → ℕ → ℕ → Option (Bor (List ℕ)) → Type 0
HandsOut xs start count None = length xs < start + count
HandsOut xs start count (Some x) = (start + count ≤ length xs) × (x.now ≡ run start count xs)
