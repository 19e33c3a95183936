-- The load commands of a library: which command comes next, and what it asks for. Assumes nothing.
use Rattle.std.specs.Prelude.{ℕ, ◌+◌, ◌-◌, ◌*◌, Bool, cond, not, ◌&&◌, ◌||◌, List, length, Some, None, Ok, Err, Option, Result, ◌==◌, nat_le, nat_lt}
use Rattle.source.specs.declared.refusal.Reason.TheVariants.{ShortCommand, SectionsPastCommand, SymbolsPastSource}
use Rattle.source.specs.declared.refusal.Refusal.{Refusal}
use Rattle.source.specs.Refusals.{refusal}
use Rattle.fields.specs.declared.load_command.LoadCommand.{LoadCommand}
use Rattle.fields.specs.declared.load_command.SymtabCommand.{SymtabCommand}
use Rattle.fields.specs.declared.segment.Segment.{Segment}
use Rattle.fields.specs.Records.{at_width, load_command, segment, segment_size, section_size, symtab, nlist_size}
use Rattle.sections.specs.declared.offset.SectionOffsets.{SectionOffsets}
use Rattle.sections.specs.declared.record.SectionTable.{SectionTable}
use Rattle.sections.specs.Kinds.{meets}
use Rattle.sections.specs.Listings.{checked}
use Rattle.sections.specs.Offsets.{begun}
use Rattle.reader.specs.declared.state.Damage.{Damage}
use Rattle.reader.specs.declared.state.Deed.{Deed}
use Rattle.reader.specs.declared.state.Deed.TheVariants.{List as ListIt, Remember}
use Rattle.reader.specs.declared.state.SegmentPlan.{SegmentPlan}
use Rattle.reader.specs.declared.state.State.{State}

-- what a command that does not stand is
abbrev pub damage : Damage
damage = record {}

-- the bytes of the table from the next command on
abbrev pub rest : State → ℕ
rest w = w.table_end - w.place

-- a command stands where its size is at least 8 and no more than the table has left
abbrev pub stands : State → LoadCommand → Bool
stands w c = nat_le 8 c.cmdsize && nat_le c.cmdsize (rest w)

-- the command that a step comes to: none once the walk is over or no command is left, and damage where
-- the table passes the source or the command does not stand
unfoldable pub next_of : List ℕ → State → Result (Option LoadCommand) Damage
next_of xs w =
    cond w.over (Ok None)
    (cond (nat_lt (length xs) w.table_end) (Err damage)
    (cond (w.left == 0) (Ok None)
    (cond (nat_lt (rest w) 8) (Err damage)
    (cond (stands w (load_command xs w.place w.endian)) (Ok (Some (load_command xs w.place w.endian))) (Err damage)))))

-- what a segment says of writing: in an object file nothing; else that it may not be written to at
-- first, or not after the loader has set it up
abbrev pub read_only_in : ℕ → Segment → Option Bool
read_only_in filetype x = cond (filetype == 1) None (Some (not (meets x.initprot 0x2) || meets x.flags 0x10))

-- the sections of the segment command at a place
abbrev pub table_of : Bool → State → Segment → SectionTable
table_of wide w x =
    record {
      command = w.place;
      place = w.place + segment_size wide;
      count = x.nsects;
      endian = w.endian;
      read_only = read_only_in w.filetype x;
    }

abbrev pub plan_by : SectionTable → SectionOffsets → Result SectionOffsets Refusal → Result SegmentPlan Refusal
plan_by t o (Ok after) = Ok (record { table = t; offsets = o; wrapped = after.wrapped })
plan_by t o (Err e) = Err e

-- a native segment command is refused when it is shorter than its record, when its sections pass it,
-- and when a section ends past the segment
unfoldable pub plan_of : Bool → List ℕ → State → LoadCommand → Result SegmentPlan Refusal
plan_of wide xs w c =
    let x = segment wide xs w.place w.endian in
    let o = begun x.fileoff x.filesize in
    cond (nat_lt c.cmdsize (segment_size wide)) (Err (refusal ShortCommand w.place))
    (cond (nat_lt (c.cmdsize - segment_size wide) (x.nsects * section_size wide)) (Err (refusal SectionsPastCommand w.place))
    (plan_by (table_of wide w x) o (checked wide xs (table_of wide w x) x.nsects (w.place + segment_size wide) o)))

-- a symtab command is refused when it is shorter than its record, and when the symbols pass the source
unfoldable pub symtab_of : Bool → List ℕ → State → LoadCommand → Result SymtabCommand Refusal
symtab_of wide xs w c =
    let t = symtab xs w.place w.endian in
    cond (nat_lt c.cmdsize 24) (Err (refusal ShortCommand w.place))
    (cond (nat_lt (length xs) (t.symoff + t.nsyms * nlist_size wide)) (Err (refusal SymbolsPastSource w.place)) (Ok t))

abbrev pub list_by : Result SegmentPlan Refusal → Result (Option Deed) Refusal
list_by (Ok p) = Ok (Some (ListIt p))
list_by (Err e) = Err e

abbrev pub remember_by : Result SymtabCommand Refusal → Result (Option Deed) Refusal
remember_by (Ok t) = Ok (Some (Remember t))
remember_by (Err e) = Err e

-- LC_SEGMENT and LC_SEGMENT_64
abbrev pub segment_command : Bool → ℕ
segment_command wide = at_width wide 0x1 0x19

-- what a command asks for; LC_SYMTAB is 2
unfoldable pub deed_of : Bool → List ℕ → State → LoadCommand → Result (Option Deed) Refusal
deed_of wide xs w c =
    cond (c.cmd == segment_command wide) (list_by (plan_of wide xs w c))
    (cond (c.cmd == 0x2) (remember_by (symtab_of wide xs w c)) (Ok None))
