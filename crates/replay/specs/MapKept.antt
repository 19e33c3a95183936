-- What every stab keeps of the cursor and the lists of the object map. Assumes nothing.
use Rattle.std.specs.Prelude.{ℕ, ◌≤◌, length, Some, None, Option}
use Rattle.source.specs.declared.span.Span.{Span}
use Rattle.list.specs.Contents.{Contents}
use Rattle.stabs.specs.declared.cursor.Function.{Function}
use Rattle.stabs.specs.declared.cursor.MapCursor.{MapCursor}
use Rattle.stabs.specs.declared.map.MapEntry.{MapEntry}
use Rattle.stabs.specs.declared.map.MapFile.{MapFile}
use Rattle.stabs.specs.declared.stab.Stab.{Stab}
use Rattle.replay.specs.Maps.{FilesBefore, Under, OpenAt, MapIsRight}

-- the function that is open at k, or that none is
abbrev pub PendingAt : (ℕ → Option Stab) → ℕ → Option Function → Type 0
PendingAt stab_at k (Some f) = (j : ℕ) × OpenAt stab_at j k f.name f.address
PendingAt stab_at k None = (j : ℕ) (name : Span) (address : ℕ) → OpenAt stab_at j k name address → ⊥

-- the number of the file that symbol k stands under, or that it stands under none
abbrev pub CurrentAt : (ℕ → Option Stab) → ℕ → Option ℕ → Type 0
CurrentAt stab_at k (Some f) = Under stab_at k f
CurrentAt stab_at k None = (f : ℕ) → Under stab_at k f → ⊥

module _ (stab_at : ℕ → Option Stab) (file_for : Span → MapFile) (files_before : Contents MapFile) (entries_before : Contents MapEntry) where
  -- after k symbols: the map is right, and the cursor has what is open and what is current
  pub record MapKept (k : ℕ) (c : MapCursor) (file_list : Contents MapFile) (entry_list : Contents MapEntry) : Type 0 where
    pub right : MapIsRight stab_at file_for k files_before entries_before file_list entry_list
    pub pending : PendingAt stab_at k c.pending
    pub current : CurrentAt stab_at k c.current
    pub counted : FilesBefore stab_at k file_list.count
    pub files_fit : file_list.count ≤ length file_list.slots
    pub entries_fit : entry_list.count ≤ length entry_list.slots
