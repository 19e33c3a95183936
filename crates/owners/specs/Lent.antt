-- New lists over slots that are lent. Assumes nothing.
use Rattle.std.specs.Prelude.{List as Row}
use Rattle.list.specs.Contents.{empty}
use Rattle.sections.specs.declared.record.SectionRecord.{SectionRecord}
use Rattle.sections.specs.declared.record.SegmentRecord.{SegmentRecord}
use Rattle.stabs.specs.declared.map.MapEntry.{MapEntry}
use Rattle.stabs.specs.declared.map.MapFile.{MapFile}
use Rattle.replay.specs.Runs.{Lists}

abbrev pub lists_over : Row SegmentRecord → Row SectionRecord → Row MapFile → Row MapEntry → Lists
lists_over a b c d = record { segments = empty a; sections = empty b; files = empty c; entries = empty d }
