use Rattle.std.proofs.Common.{◌≤◌, ◌-◌, length}
use Rattle.bz_image.proofs.FetchLemmas.{Filling}
use Rattle.bz_image.proofs.fetch.fill.Given as goal

abbrev pub invariant-loop-piece : goal.invariant-loop-piece
invariant-loop-piece g l =
    Filling (g.S.Source.left l.initial.source) (g.S.Source.left l.source) l.initial.bytes.items l.bytes.items l.count × (g.S.Source.faults l.initial.source ≤ g.S.Source.faults l.source)

abbrev pub decreases-loop-piece : goal.decreases-loop-piece
decreases-loop-piece g l = l.count - length l.bytes.items
