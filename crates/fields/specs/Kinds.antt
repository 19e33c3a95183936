-- What a file holds, by the magic that it begins with. Assumes nothing.
use Rattle.std.specs.Prelude.{ℕ, true, false, cond, List, Some, None, Option, ◌==◌}
use Rattle.fields.specs.declared.endian.Endianness.TheVariants.{Little, Big}
use Rattle.fields.specs.declared.kind.FileKind.{FileKind}
use Rattle.fields.specs.declared.kind.FileKind.TheVariants.{MachO32, MachO64, MachOFat32, MachOFat64, Other}
use Rattle.fields.specs.Numbers.{field}
use Rattle.fields.specs.Records.{magic, cigam, fat_magic}

abbrev pub kind_of_magic : ℕ → FileKind
kind_of_magic m =
    cond (m == magic false) (MachO32 Big)
    (cond (m == cigam false) (MachO32 Little)
    (cond (m == magic true) (MachO64 Big)
    (cond (m == cigam true) (MachO64 Little)
    (cond (m == fat_magic false) MachOFat32
    (cond (m == fat_magic true) MachOFat64
    Other)))))

abbrev pub kind_of_field : Option ℕ → FileKind
kind_of_field (Some m) = kind_of_magic m
kind_of_field None = Other

-- by the four bytes at the start, read big-endian
abbrev pub kind_of : List ℕ → FileKind
kind_of xs = kind_of_field (field xs 0 4 Big)
