-- The numbers that stand at places of a list of bytes. Assumes nothing.
use Rattle.std.specs.Prelude.{ℕ, ◌+◌, ◌*◌, cond, List, [], ◌∷◌, reverse, length, Some, None, Option, nat_le}
use Rattle.source.specs.Bytes.{run}
use Rattle.fields.specs.declared.endian.Endianness.{Endianness}
use Rattle.fields.specs.declared.endian.Endianness.TheVariants.{Little, Big}

-- the number whose bytes stand least first
abbrev pub little_of : List ℕ → ℕ
little_of [] = 0
little_of (b ∷ bs) = b + 256 * little_of bs

-- the bytes of a number, least first
abbrev pub least_first : Endianness → List ℕ → List ℕ
least_first Little bs = bs
least_first Big bs = reverse bs

-- what is right in a byte order, of what is in either
abbrev pub ordered : {X : Type 0} → Endianness → X → X → X
ordered Little little big = little
ordered Big little big = big

-- the number that bytes make in a byte order
abbrev pub value_of : Endianness → List ℕ → ℕ
value_of endian bs = little_of (least_first endian bs)

-- what is read of the n bytes at p, exactly where they all stand in the list
abbrev pub whole : {X : Type 0} → List ℕ → ℕ → ℕ → X → Option X
whole xs p n x = cond (nat_le (p + n) (length xs)) (Some x) None

-- the number of n bytes at p
abbrev pub number : List ℕ → ℕ → ℕ → Endianness → ℕ
number xs p n endian = value_of endian (run p n xs)

abbrev pub field : List ℕ → ℕ → ℕ → Endianness → Option ℕ
field xs p n endian = whole xs p n (number xs p n endian)
