-- Lists that have the same records and as many slots; the slots past the count may differ. Assumes nothing.
use Rattle.std.specs.Prelude.{◌≡◌, length}
use Rattle.list.specs.Contents.{Contents, records}

pub record Alike {X : Type 0} (a b : Contents X) : Type 0 where
  pub count : a.count ≡ b.count
  pub capacity : length a.slots ≡ length b.slots
  pub records : records a ≡ records b
