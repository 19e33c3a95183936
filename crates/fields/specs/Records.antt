-- The records of Apple's headers: their sizes, and the places of their fields. Where two figures
-- stand, the first is that of the 32-bit record and the second that of the 64-bit one. Assumes nothing.
use Rattle.std.specs.Prelude.{ℕ, ◌+◌, Bool, cond, List, Some, None, Option, ◌==◌, slice_index}
use Rattle.fields.specs.declared.endian.Endianness.{Endianness}
use Rattle.fields.specs.declared.endian.Endianness.TheVariants.{Little, Big}
use Rattle.fields.specs.declared.fat.FatHeader.{FatHeader}
use Rattle.fields.specs.declared.fat.FatArch.{FatArch}
use Rattle.fields.specs.declared.header.MachHeader.{MachHeader}
use Rattle.fields.specs.declared.load_command.LoadCommand.{LoadCommand}
use Rattle.fields.specs.declared.load_command.SymtabCommand.{SymtabCommand}
use Rattle.fields.specs.declared.section.Section.{Section}
use Rattle.fields.specs.declared.segment.Segment.{Segment}
use Rattle.fields.specs.declared.symbol.Nlist.{Nlist}
use Rattle.fields.specs.Numbers.{whole, number}

-- the first of two figures at 32 bits, the second at 64
abbrev pub at_width : {X : Type 0} → Bool → X → X → X
at_width wide narrow broad = cond wide broad narrow

abbrev pub word_size : Bool → ℕ
word_size wide = at_width wide 4 8

-- mach_header

abbrev pub header_size : Bool → ℕ
header_size wide = at_width wide 28 32

abbrev pub header : List ℕ → Endianness → MachHeader
header xs endian = record { filetype = number xs 12 4 endian; ncmds = number xs 16 4 endian; sizeofcmds = number xs 20 4 endian }

abbrev pub header_at : Bool → List ℕ → Endianness → Option MachHeader
header_at wide xs endian = whole xs 0 (header_size wide) (header xs endian)

-- MH_MAGIC and MH_MAGIC_64, as a big-endian file begins
abbrev pub magic : Bool → ℕ
magic wide = at_width wide 0xfeed_face 0xfeed_facf

-- MH_CIGAM and MH_CIGAM_64, as a little-endian file begins when it is read big-endian
abbrev pub cigam : Bool → ℕ
cigam wide = at_width wide 0xcefa_edfe 0xcffa_edfe

-- the byte order that a number marks which was read big-endian at the start of a file
abbrev pub endian_of : Bool → ℕ → Option Endianness
endian_of wide m = cond (m == magic wide) (Some Big) (cond (m == cigam wide) (Some Little) None)

-- load_command

abbrev pub load_command : List ℕ → ℕ → Endianness → LoadCommand
load_command xs p endian = record { cmd = number xs p 4 endian; cmdsize = number xs (p + 4) 4 endian }

abbrev pub load_command_at : List ℕ → ℕ → Endianness → Option LoadCommand
load_command_at xs p endian = whole xs p 8 (load_command xs p endian)

-- symtab_command

abbrev pub symtab : List ℕ → ℕ → Endianness → SymtabCommand
symtab xs p endian =
    record {
      symoff = number xs (p + 8) 4 endian;
      nsyms = number xs (p + 12) 4 endian;
      stroff = number xs (p + 16) 4 endian;
      strsize = number xs (p + 20) 4 endian;
    }

abbrev pub symtab_at : List ℕ → ℕ → Endianness → Option SymtabCommand
symtab_at xs p endian = whole xs p 24 (symtab xs p endian)

-- segment_command

abbrev pub segment_size : Bool → ℕ
segment_size wide = at_width wide 56 72

abbrev pub segment : Bool → List ℕ → ℕ → Endianness → Segment
segment wide xs p endian =
    record {
      fileoff = number xs (p + at_width wide 32 40) (word_size wide) endian;
      filesize = number xs (p + at_width wide 36 48) (word_size wide) endian;
      initprot = number xs (p + at_width wide 44 60) 4 endian;
      nsects = number xs (p + at_width wide 48 64) 4 endian;
      flags = number xs (p + at_width wide 52 68) 4 endian;
    }

abbrev pub segment_at : Bool → List ℕ → ℕ → Endianness → Option Segment
segment_at wide xs p endian = whole xs p (segment_size wide) (segment wide xs p endian)

-- section: its names stand at its place and 16 bytes on

abbrev pub section_size : Bool → ℕ
section_size wide = at_width wide 68 80

abbrev pub section : Bool → List ℕ → ℕ → Endianness → Section
section wide xs p endian =
    record {
      addr = number xs (p + 32) (word_size wide) endian;
      size = number xs (p + at_width wide 36 40) (word_size wide) endian;
      offset = number xs (p + at_width wide 40 48) 4 endian;
      flags = number xs (p + at_width wide 56 64) 4 endian;
    }

abbrev pub section_at : Bool → List ℕ → ℕ → Endianness → Option Section
section_at wide xs p endian = whole xs p (section_size wide) (section wide xs p endian)

-- nlist

abbrev pub nlist_size : Bool → ℕ
nlist_size wide = at_width wide 12 16

abbrev pub nlist : Bool → List ℕ → ℕ → Endianness → Nlist
nlist wide xs p endian =
    record {
      n_strx = number xs p 4 endian;
      n_type = slice_index xs (p + 4);
      n_sect = slice_index xs (p + 5);
      n_desc = number xs (p + 6) 2 endian;
      n_value = number xs (p + 8) (word_size wide) endian;
    }

abbrev pub nlist_at : Bool → List ℕ → ℕ → Endianness → Option Nlist
nlist_at wide xs p endian = whole xs p (nlist_size wide) (nlist wide xs p endian)

-- fat_header, always big-endian

abbrev pub fat_header : List ℕ → FatHeader
fat_header xs = record { magic = number xs 0 4 Big; nfat_arch = number xs 4 4 Big }

abbrev pub fat_header_at : List ℕ → Option FatHeader
fat_header_at xs = whole xs 0 8 (fat_header xs)

-- FAT_MAGIC and FAT_MAGIC_64
abbrev pub fat_magic : Bool → ℕ
fat_magic wide = at_width wide 0xcafe_babe 0xcafe_babf

-- fat_arch, always big-endian

abbrev pub fat_arch_size : Bool → ℕ
fat_arch_size wide = at_width wide 20 32

abbrev pub fat_arch : Bool → List ℕ → ℕ → FatArch
fat_arch wide xs p =
    record {
      cputype = number xs p 4 Big;
      offset = number xs (p + 8) (word_size wide) Big;
      size = number xs (p + at_width wide 12 16) (word_size wide) Big;
    }

abbrev pub fat_arch_at : Bool → List ℕ → ℕ → Option FatArch
fat_arch_at wide xs p = whole xs p (fat_arch_size wide) (fat_arch wide xs p)
