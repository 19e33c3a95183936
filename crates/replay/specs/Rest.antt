-- What a list keeps of the slots that are not in use. Assumes nothing.
use Rattle.std.specs.Prelude.{◌≡◌, length, drop}
use Rattle.list.specs.Contents.{Contents}

-- there are as many slots as before, and each past the count is as it was
pub record RestKept {X : Type 0} (before now : Contents X) : Type 0 where
  pub same_size : length now.slots ≡ length before.slots
  pub same_rest : drop now.count now.slots ≡ drop now.count before.slots
