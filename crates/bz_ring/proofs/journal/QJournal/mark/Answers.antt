use Rattle.std.proofs.Common.{◌<◌, length, arith}
use Rattle.bz_ring.proofs.Keeping.{mark_at-past, length-past}
use Rattle.bz_ring.proofs.journal.QJournal.mark.Goals as goal

pub returns : goal.returns
returns c =
    let within : c.args.i < length c.self.inside.marks.items = omega (arith, rw (← c.self.view_is) at c.requires, length-past c.self.inside.marks.items) in
    rw (← c.self.view_is, c.whole_mark.ensures) (mark_at-past c.self.inside.marks.items c.args.i _ within c.index-flat.ensures)
