-- A list over a slice as a value: every slot, and how many of them are in use. Assumes nothing.
use Rattle.std.specs.Prelude.{ℕ, ◌+◌, ◌-◌, Bool, cond, List as Row, length, take, None, Ok, Err, Option, Result, nat_lt, slice_set}
use Rattle.std.specs.List.{slice_get}
use Rattle.source.specs.declared.refusal.Reason.TheVariants.{ListFull}
use Rattle.source.specs.declared.refusal.Refusal.{Refusal}
use Rattle.source.specs.Refusals.{refusal}
use Rattle.list.specs.declared.list.List.{List}

pub record Contents (X : Type 0) : Type 0 where
  pub slots : Row X
  pub count : ℕ

abbrev pub contents_of : {X : Type 0} → List X → Contents X
contents_of l = record { slots = l.slots.now; count = l.count }

-- an empty list over slots
abbrev pub empty : {X : Type 0} → Row X → Contents X
empty s = record { slots = s; count = 0 }

-- the records of a list, in order
abbrev pub records : {X : Type 0} → Contents X → Row X
records c = take c.count c.slots

-- how many slots are free
abbrev pub free : {X : Type 0} → Contents X → ℕ
free c = length c.slots - c.count

abbrev pub has_room : {X : Type 0} → Contents X → Bool
has_room c = nat_lt c.count (length c.slots)

-- one record more, in the first slot that is free
abbrev pub added : {X : Type 0} → Contents X → X → Contents X
added c x = record { slots = slice_set c.slots c.count x; count = c.count + 1 }

abbrev pub pushed : {X : Type 0} → Contents X → X → Contents X
pushed c x = cond (has_room c) (added c x) c

abbrev pub push_answer : {X : Type 0} → Contents X → ℕ → Result Unit Refusal
push_answer c place = cond (has_room c) (Ok tt) (Err (refusal ListFull place))

-- the record at a position, where there is one
abbrev pub got : {X : Type 0} → Contents X → ℕ → Option X
got c i = cond (nat_lt i c.count) (slice_get c.slots i) None
