-- What the cursor of the object map adds at a stab, and what it keeps after it. Assumes nothing.
use Rattle.std.specs.Prelude.{ℕ, Some, None, Option}
use Rattle.source.specs.declared.span.Span.{Span}
use Rattle.stabs.specs.declared.cursor.Addition.{Addition}
use Rattle.stabs.specs.declared.cursor.Addition.TheVariants.{File, Entry}
use Rattle.stabs.specs.declared.cursor.Function.{Function}
use Rattle.stabs.specs.declared.cursor.MapCursor.{MapCursor}
use Rattle.stabs.specs.declared.map.MapEntry.{MapEntry}
use Rattle.stabs.specs.declared.stab.Stab.{Stab}
use Rattle.stabs.specs.declared.stab.Stab.TheVariants.{Source, Object, Opening, Closing, Static}

abbrev pub entry : ℕ → ℕ → Span → ℕ → MapEntry
entry address size name file = record { address = address; size = size; name = name; file = file }

abbrev pub cursor : Option Function → Option ℕ → MapCursor
cursor pending current = record { pending = pending; current = current }

abbrev pub begun : MapCursor
begun = cursor None None

-- a closing makes an entry of the function that is open, if a file is current
abbrev pub closed : Option Function → Option ℕ → ℕ → Option Addition
closed (Some f) (Some file) size = Some (Entry (entry f.address size f.name file))
closed (Some f) None size = None
closed None (Some file) size = None
closed None None size = None

-- and a static variable makes one of itself
abbrev pub static : Option ℕ → Span → ℕ → Option Addition
static (Some file) name address = Some (Entry (entry address 0 name file))
static None name address = None

abbrev pub opened : Option Span → Option Addition
opened (Some name) = Some (File name)
opened None = None

abbrev pub told : MapCursor → Stab → Option Addition
told c Source = None
told c (Object name) = opened name
told c (Opening name address) = None
told c (Closing size) = closed c.pending c.current size
told c (Static name address) = static c.current name address

abbrev pub current_after : Option Span → ℕ → Option ℕ
current_after (Some name) files = Some files
current_after None files = None

-- the cursor after a stab, before which so many files are listed
abbrev pub left : MapCursor → Stab → ℕ → MapCursor
left c Source files = cursor c.pending None
left c (Object name) files = cursor c.pending (current_after name files)
left c (Opening name address) files = cursor (Some (record { name = name; address = address })) c.current
left c (Closing size) files = cursor None c.current
left c (Static name address) files = c

-- what a symbol adds, and the cursor past it: one that means nothing to the map adds nothing and leaves it
abbrev pub told_if : MapCursor → Option Stab → Option Addition
told_if c (Some s) = told c s
told_if c None = None

abbrev pub left_if : MapCursor → Option Stab → ℕ → MapCursor
left_if c (Some s) files = left c s files
left_if c None files = c
