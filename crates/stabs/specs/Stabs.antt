-- What a symbol means to the object map, by its n_type, name and n_value. Assumes nothing.
use Rattle.std.specs.Prelude.{ℕ, cond, Some, None, Option, ◌==◌}
use Rattle.source.specs.declared.span.Span.{Span}
use Rattle.stabs.specs.declared.stab.Stab.{Stab}
use Rattle.stabs.specs.declared.stab.Stab.TheVariants.{Source, Object, Opening, Closing, Static}

abbrev pub unless_empty : Option Span → Option Span
unless_empty (Some s) = cond (s.len == 0) None (Some s)
unless_empty None = None

-- a function opens with its name and closes without one
abbrev pub function_stab : Option Span → ℕ → Option Stab
function_stab (Some s) value = Some (cond (s.len == 0) (Closing value) (Opening s value))
function_stab None value = None

abbrev pub static_stab : Option Span → ℕ → Option Stab
static_stab (Some s) value = Some (Static s value)
static_stab None value = None

-- N_SO is 0x64, N_OSO 0x66, N_FUN 0x24 and N_STSYM 0x26; any other means nothing to the map. A name is none where it cannot be read.
unfoldable pub stab_of : ℕ → Option Span → ℕ → Option Stab
stab_of kind name value =
    cond (kind == 0x64) (Some Source)
    (cond (kind == 0x66) (Some (Object (unless_empty name)))
    (cond (kind == 0x24) (function_stab name value)
    (cond (kind == 0x26) (static_stab name value)
    None)))
