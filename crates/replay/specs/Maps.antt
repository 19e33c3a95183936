-- The object map of the first k symbols, by what each of them means to it. Nothing here speaks of a step. Assumes nothing.
use Rattle.std.specs.Prelude.{◌≡◌, ℕ, ◌+◌, ◌<◌, List, [], ◌∷◌, ◌++◌, length, Some, None, Option, ◌≢◌}
use Rattle.source.specs.declared.span.Span.{Span}
use Rattle.list.specs.Contents.{Contents, records}
use Rattle.stabs.specs.declared.map.MapEntry.{MapEntry}
use Rattle.stabs.specs.declared.map.MapFile.{MapFile}
use Rattle.stabs.specs.declared.stab.Stab.{Stab}
use Rattle.stabs.specs.declared.stab.Stab.TheVariants.{Source, Object, Opening, Closing, Static}
use Rattle.replay.specs.Rest.{RestKept}

-- what the first k symbols make: one for each that makes one, in order, and no other
pub data Made {X : Type 0} (makes : ℕ → X → Type 0) : ℕ → List X → Type 0 where
  none_made : Made makes 0 []
  same_made : {k : ℕ} {xs : List X} → Made makes k xs → ((x : X) → makes k x → ⊥) → Made makes (k + 1) xs
  more_made : {k : ℕ} {xs : List X} {x : X} → Made makes k xs → makes k x → Made makes (k + 1) (xs ++ (x ∷ []))

-- over what symbol k means to the map, its stab, if anything
module _ (stab_at : ℕ → Option Stab) where
  -- symbol k opens an object file: an N_OSO with a name that can be read and is not empty
  abbrev pub OpensFile : ℕ → Span → Type 0
  OpensFile k name = stab_at k ≡ Some (Object (Some name))

  -- symbol k ends the file before it: an N_SO or an N_OSO
  pub data EndsFile (k : ℕ) : Type 0 where
    by_source : stab_at k ≡ Some Source → EndsFile k
    by_unnamed : stab_at k ≡ Some (Object None) → EndsFile k
    by_named : (name : Span) → OpensFile k name → EndsFile k

  -- n of the first k symbols open a file
  abbrev pub FilesBefore : ℕ → ℕ → Type 0
  FilesBefore k n = (names : List Span) × Made OpensFile k names × (length names ≡ n)

  -- symbol k stands under file f: the last N_SO or N_OSO before it opened a file, and f files were opened before that one
  pub record Under (k f : ℕ) : Type 0 where
    pub opener : ℕ
    pub name : Span
    pub before : opener < k
    pub opens : OpensFile opener name
    pub last : (m : ℕ) → opener < m → m < k → EndsFile m → ⊥
    pub numbered : FilesBefore opener f

  -- symbol j opens a function that is still open at k: an N_FUN with a name, and no N_FUN between them opens or closes one
  pub record OpenAt (j k : ℕ) (name : Span) (address : ℕ) : Type 0 where
    pub before : j < k
    pub opens : stab_at j ≡ Some (Opening name address)
    pub no_opening : (m : ℕ) (n : Span) (a : ℕ) → j < m → m < k → stab_at m ≢ Some (Opening n a)
    pub no_closing : (m size : ℕ) → j < m → m < k → stab_at m ≢ Some (Closing size)

  -- symbol k makes this entry: a static variable under a file, or the closing, under a file, of a function that is open
  pub data Makes (k : ℕ) : MapEntry → Type 0 where
    variable : (name : Span) (address f : ℕ) → stab_at k ≡ Some (Static name address) → Under k f →
        Makes k (record { address = address; size = 0; name = name; file = f })
    function : (j : ℕ) (name : Span) (address size f : ℕ) → OpenAt j k name address → stab_at k ≡ Some (Closing size) → Under k f →
        Makes k (record { address = address; size = size; name = name; file = f })

  -- the entries of the first k symbols
  abbrev pub Entries : ℕ → List MapEntry → Type 0
  Entries = Made Makes

  -- symbol k makes this file: it opens one, and file_for is the record of a name
  abbrev pub MakesFile : (Span → MapFile) → ℕ → MapFile → Type 0
  MakesFile file_for k x = (name : Span) × OpensFile k name × (x ≡ file_for name)

  -- the files of the first k symbols
  abbrev pub Files : (Span → MapFile) → ℕ → List MapFile → Type 0
  Files file_for = Made (MakesFile file_for)

-- the lists of files and of entries hold the map of the first k symbols, and past it what they held before
pub record MapIsRight (stab_at : ℕ → Option Stab) (file_for : Span → MapFile) (k : ℕ) (files_before : Contents MapFile) (entries_before : Contents MapEntry) (file_list : Contents MapFile) (entry_list : Contents MapEntry) : Type 0 where
  pub files : Files stab_at file_for k (records file_list)
  pub entries : Entries stab_at k (records entry_list)
  pub files_kept : RestKept files_before file_list
  pub entries_kept : RestKept entries_before entry_list
