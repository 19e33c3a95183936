-- The symbols that are passed determine the object map. Assumes nothing.
use Rattle.std.specs.Prelude.{◌≡◌, ℕ, Option}
use Rattle.source.specs.declared.span.Span.{Span}
use Rattle.list.specs.Contents.{Contents, records}
use Rattle.stabs.specs.declared.map.MapEntry.{MapEntry}
use Rattle.stabs.specs.declared.map.MapFile.{MapFile}
use Rattle.stabs.specs.declared.stab.Stab.{Stab}
use Rattle.replay.specs.Maps.{MapIsRight}

-- two lists that are right for the same symbols hold the same records
pub record SameMap (fs : Contents MapFile) (es : Contents MapEntry) (fs' : Contents MapFile) (es' : Contents MapEntry) : Type 0 where
  pub files : records fs ≡ records fs'
  pub entries : records es ≡ records es'

abbrev pub TheSymbolsDetermineTheMap : Type 0
TheSymbolsDetermineTheMap =
    (stab_at : ℕ → Option Stab) (file_for : Span → MapFile) (k : ℕ) (f₀ f₀' fs fs' : Contents MapFile) (e₀ e₀' es es' : Contents MapEntry) →
    MapIsRight stab_at file_for k f₀ e₀ fs es → MapIsRight stab_at file_for k f₀' e₀' fs' es' → SameMap fs es fs' es'
