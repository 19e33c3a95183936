use Rattle.std.proofs.Common.{◌≡◌}
use Rattle.sections.specs.Listings.{checked}
use Rattle.sections.proofs.Listings.{to_check}
use Rattle.sections.proofs.record.SectionTable.check_sections.Given as goal

-- what is left to check comes to what is to be checked in all
abbrev pub invariant-loop-found : goal.invariant-loop-found
invariant-loop-found g l =
    (goal.iterator-loop-found g).can_next l.found-iterator
    × (goal.iterator-loop-found g).is_finite l.found-iterator
    × (to_check g.W.Width.wide g.S.Source.bytes l.found-iterator l.offsets
    ≡ checked g.W.Width.wide (g.S.Source.bytes l.s) l.self l.self.count l.self.place l.initial.offsets)
