-- Names in fields of sixteen bytes. Assumes nothing.
use Rattle.std.specs.Prelude.{ℕ, cond, List, [], ◌∷◌, take, ◌==◌}
use Rattle.source.specs.Bytes.{run}
use Rattle.fields.specs.declared.name.Name.{Name}

-- the bytes before the first zero, or all where there is none
abbrev pub before_zero : List ℕ → List ℕ
before_zero [] = []
before_zero (b ∷ bs) = cond (b == 0) [] (b ∷ before_zero bs)

-- the name in the field at p. Where the list ends, the name does: a byte past it counts as zero.
abbrev pub name_at : List ℕ → ℕ → List ℕ
name_at xs p = before_zero (run p 16 xs)

-- the name that a value holds
abbrev pub name_of : Name → List ℕ
name_of n = take n.len n.bytes
