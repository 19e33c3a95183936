-- The split of an object file's name into a path and a member. Assumes nothing.
use Rattle.std.specs.Prelude.{ℕ, ◌+◌, ◌-◌, cond, List, length, Some, None, Option, ◌==◌, slice_index}
use Rattle.std.specs.List.{position_from}
use Rattle.source.specs.declared.span.Span.{Span}
use Rattle.source.specs.Bytes.{run}

-- the position of the first byte of a value, counted from k
abbrev pub first_at : ℕ → ℕ → List ℕ → Option ℕ
first_at k b xs = position_from (λ x. x == b) k xs

abbrev pub span : ℕ → ℕ → Span
span start len = record { start = start; len = len }

abbrev pub cut_at : Span → ℕ → Option ℕ → Span × Option Span
cut_at name n (Some i) = (span name.start i, Some (span (name.start + i + 1) (n - i - 2)))
cut_at name n None = (name, None)

-- a name that ends in `)`, 41, parts at its first `(`, 40
abbrev pub split_bytes : Span → List ℕ → Span × Option Span
split_bytes name bs = cond (slice_index bs (length bs - 1) == 41) (cut_at name (length bs) (first_at 0 40 bs)) (name, None)

abbrev pub split_of : List ℕ → Span → Span × Option Span
split_of xs name = split_bytes name (run name.start name.len xs)
