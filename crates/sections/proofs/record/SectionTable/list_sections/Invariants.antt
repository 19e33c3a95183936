use Rattle.std.proofs.Common.{◌≡◌}
use Rattle.list.specs.Contents.{contents_of}
use Rattle.sections.specs.Listings.{filled}
use Rattle.sections.proofs.Listings.{to_list}
use Rattle.sections.proofs.record.SectionTable.list_sections.Given as goal

-- what is left to list comes to what is to be listed in all
abbrev pub invariant-loop-found : goal.invariant-loop-found
invariant-loop-found g l =
    (goal.iterator-loop-found g).can_next l.found-iterator
    × (goal.iterator-loop-found g).is_finite l.found-iterator
    × (l.found-iterator.source.now ≡ l.s)
    × (l.found-iterator.table ≡ l.self)
    × (to_list g.W.Width.wide g.S.Source.bytes l.found-iterator l.offsets (contents_of l.sections)
    ≡ filled g.W.Width.wide (g.S.Source.bytes l.s) l.self l.self.count l.self.place l.initial.offsets (contents_of l.initial.sections))
    × (l.sections.slots.ghost_name ≡ l.initial.sections.slots.ghost_name)
