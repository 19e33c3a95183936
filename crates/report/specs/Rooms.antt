-- How much a library can hold, by its header. Assumes nothing.
use Rattle.std.specs.Prelude.{ℕ, ◌+◌, ◌/◌, min, Bool, List, Some, None, Option}
use Rattle.fields.specs.declared.endian.Endianness.{Endianness}
use Rattle.fields.specs.declared.endian.Endianness.TheVariants.{Big}
use Rattle.fields.specs.declared.header.MachHeader.{MachHeader}
use Rattle.fields.specs.Numbers.{field}
use Rattle.fields.specs.Records.{header_at, endian_of}

-- the header in a byte order that was marked
abbrev pub header_in : Bool → List ℕ → Option Endianness → Option MachHeader
header_in wide xs (Some e) = header_at wide xs e
header_in wide xs None = None

-- the header after a magic that was read
abbrev pub header_after : Bool → List ℕ → Option ℕ → Option MachHeader
header_after wide xs (Some magic) = header_in wide xs (endian_of wide magic)
header_after wide xs None = None

-- the header of a library
abbrev pub header_of : Bool → List ℕ → Option MachHeader
header_of wide xs = header_after wide xs (field xs 0 4 Big)

-- the command table has so many records of 56 bytes at most, in a source of n bytes
abbrev pub record_room : ℕ → Option MachHeader → ℕ
record_room n (Some h) = min n h.sizeofcmds / 56
record_room n None = 0

-- so many steps come to the end of the commands, in a source of n bytes
abbrev pub step_room : ℕ → Option MachHeader → ℕ
step_room n (Some h) = min (n / 8) h.ncmds + 1
step_room n None = 1
