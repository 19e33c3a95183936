-- What a finished reading answers. Assumes nothing.
use Rattle.std.specs.Prelude.{ℕ, ◌-◌, cond, find, List, Some, None, Ok, Err, Option, Result, ◌==◌}
use Rattle.source.specs.declared.refusal.Reason.TheVariants.{UnknownNumber}
use Rattle.source.specs.declared.refusal.Refusal.{Refusal}
use Rattle.source.specs.Refusals.{refusal}
use Rattle.list.specs.Contents.{Contents, got}
use Rattle.fields.specs.Names.{name_at}
use Rattle.sections.specs.declared.record.SectionRecord.{SectionRecord}
use Rattle.sections.specs.Queries.{matching}

abbrev pub known_or : ℕ → Option SectionRecord → Result SectionRecord Refusal
known_or number (Some x) = Ok x
known_or number None = Err (refusal UnknownNumber number)

-- the section of a number, from 1
abbrev pub section_of : Contents SectionRecord → ℕ → Result SectionRecord Refusal
section_of sections number = cond (number == 0) (Err (refusal UnknownNumber number)) (known_or number (got sections (number - 1)))

-- the first of the sections whose name, which stands at its record's place, the query means
abbrev pub find_in : List ℕ → List ℕ → List SectionRecord → Option SectionRecord
find_in xs query rows = find (λ x. matching query (name_at xs x.place)) rows
