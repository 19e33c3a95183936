-- Universal files, their members, and why there is none. A width says which of the two kinds of file
-- is meant: that of 32-bit records, or that of 64-bit ones. Assumes nothing.
use Rattle.std.specs.Prelude.{◌≡◌, ℕ, ◌+◌, ◌*◌, ◌<◌, ◌≤◌, Bool, List, length, ◌≢◌}
use Rattle.source.specs.declared.refusal.Reason.TheVariants.{ShortFatHeader, WrongFatMagic, UnknownMember, WindowPastSource}
use Rattle.source.specs.declared.refusal.Refusal.{Refusal}
use Rattle.source.specs.Refusals.{refusal}
use Rattle.fields.specs.declared.fat.FatArch.{FatArch}
use Rattle.fields.specs.Records.{fat_header, fat_magic, fat_arch, fat_arch_size}

-- how many members the header tells of
abbrev pub count_of : List ℕ → ℕ
count_of xs = (fat_header xs).nfat_arch

-- where the table of the members ends, which follows the header of 8 bytes
abbrev pub table_end : Bool → List ℕ → ℕ
table_end wide xs = 8 + count_of xs * fat_arch_size wide

-- a universal file: a header with the magic, and the whole table after it
pub record Fat (wide : Bool) (xs : List ℕ) : Type 0 where
  pub header : 8 ≤ length xs
  pub magic : (fat_header xs).magic ≡ fat_magic wide
  pub table : table_end wide xs ≤ length xs

-- why a file is none: the first of these that holds
pub data NotFat (wide : Bool) (xs : List ℕ) : Refusal → Type 0 where
  no_header : length xs < 8 → NotFat wide xs (refusal ShortFatHeader 0)
  other_magic : 8 ≤ length xs → ((fat_header xs).magic ≢ fat_magic wide) → NotFat wide xs (refusal WrongFatMagic 0)
  no_table : 8 ≤ length xs → (fat_header xs).magic ≡ fat_magic wide → length xs < table_end wide xs → NotFat wide xs (refusal ShortFatHeader 0)

-- member n has the record a
pub record Arch (wide : Bool) (xs : List ℕ) (n : ℕ) (a : FatArch) : Type 0 where
  pub file : Fat wide xs
  pub known : n < count_of xs
  pub here : a ≡ fat_arch wide xs (8 + n * fat_arch_size wide)

-- why there is no record of member n
pub data NoArch (wide : Bool) (xs : List ℕ) (n : ℕ) : Refusal → Type 0 where
  not_fat : (e : Refusal) → NotFat wide xs e → NoArch wide xs n e
  unknown : Fat wide xs → count_of xs ≤ n → NoArch wide xs n (refusal UnknownMember n)

-- member n is the bytes from start and below end
pub record Member (wide : Bool) (xs : List ℕ) (n start end : ℕ) : Type 0 where
  pub arch : FatArch
  pub listed : Arch wide xs n arch
  pub starts : start ≡ arch.offset
  pub ends : end ≡ arch.offset + arch.size
  pub inside : end ≤ length xs

-- why there are no bytes of member n
pub data NoMember (wide : Bool) (xs : List ℕ) (n : ℕ) : Refusal → Type 0 where
  no_arch : (e : Refusal) → NoArch wide xs n e → NoMember wide xs n e
  outside : (a : FatArch) → Arch wide xs n a → length xs < a.offset + a.size → NoMember wide xs n (refusal WindowPastSource a.offset)
