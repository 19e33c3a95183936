-- The number and the level of each reason for which something is refused. Assumes nothing.
use Rattle.std.specs.Prelude.{ℕ}
use Rattle.source.specs.declared.refusal.Level.{Level}
use Rattle.source.specs.declared.refusal.Reason.{Reason}
use Rattle.source.specs.declared.refusal.Reason.TheVariants.{ShortHeader, WrongMagic, ShortCommand, SectionsPastCommand, SectionPastSegment, SymbolsPastSource, ListFull, FinishTooEarly, UnknownNumber, UnreadableName, ShortFatHeader, WrongFatMagic, UnknownMember, WindowPastSource, LengthOutOfRange}
use Rattle.source.specs.declared.refusal.Refusal.{Refusal}

abbrev pub number_of : Reason → ℕ
number_of ShortHeader = 1
number_of WrongMagic = 2
number_of ShortCommand = 3
number_of SectionsPastCommand = 4
number_of SectionPastSegment = 5
number_of SymbolsPastSource = 6
number_of ListFull = 7
number_of FinishTooEarly = 8
number_of UnknownNumber = 9
number_of UnreadableName = 10
number_of ShortFatHeader = 11
number_of WrongFatMagic = 12
number_of UnknownMember = 13
number_of WindowPastSource = 14
number_of LengthOutOfRange = 15

abbrev pub level_of : Reason → Level
level_of ShortHeader = Level.Record
level_of WrongMagic = Level.Record
level_of ShortCommand = Level.Record
level_of SectionsPastCommand = Level.Record
level_of SectionPastSegment = Level.Reading
level_of SymbolsPastSource = Level.Record
level_of ListFull = Level.Reading
level_of FinishTooEarly = Level.Reading
level_of UnknownNumber = Level.Reading
level_of UnreadableName = Level.Record
level_of ShortFatHeader = Level.Record
level_of WrongFatMagic = Level.Record
level_of UnknownMember = Level.Reading
level_of WindowPastSource = Level.Source
level_of LengthOutOfRange = Level.Source

-- the refusal for a reason at a place; its number and level are those of the reason
abbrev pub refusal : Reason → ℕ → Refusal
refusal r p = record { reason = r; place = p }
