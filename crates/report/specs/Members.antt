-- What the bytes of a member begin as. Assumes nothing.
use Rattle.std.specs.Prelude.{◌≡◌, ℕ, ◌+◌, ◌<◌, ◌≤◌, List, length, Ok, Err, Result}
use Rattle.source.specs.declared.refusal.Reason.TheVariants.{WindowPastSource}
use Rattle.source.specs.declared.refusal.Refusal.{Refusal}
use Rattle.source.specs.Bytes.{run}
use Rattle.source.specs.Refusals.{refusal}
use Rattle.fields.specs.declared.fat.FatArch.{FatArch}
use Rattle.fields.specs.declared.kind.FileKind.{FileKind}
use Rattle.fields.specs.Kinds.{kind_of}

-- the kind of the bytes that a record names, where they are in the file, and else why there are none
abbrev pub Holds : List ℕ → FatArch → Result FileKind Refusal → Type 0
Holds xs a (Ok kind) = (a.offset + a.size ≤ length xs) × (kind ≡ kind_of (run a.offset a.size xs))
Holds xs a (Err e) = (length xs < a.offset + a.size) × (e ≡ refusal WindowPastSource a.offset)
