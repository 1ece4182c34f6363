use Rattle.std.proofs.Common.{◌<◌, length, arith}
use Rattle.bz_mark.proofs.KeptLemmas.{placed_mark, mark_at-past, length-past}
use Rattle.bz_mark.proofs.journal.Journal.mark.Goals as goal

pub whole_mark-requires : goal.whole_mark-requires
whole_mark-requires c =
    let within : c.args.i < length c.self.inside.marks.items = omega (arith, rw (← c.self.view_is) at c.requires, length-past c.self.inside.calls.items c.self.inside.replies.items c.self.inside.marks.items) in
    rw (c.deref.ensures.value, c.deref-2.ensures.value) (placed_mark c.self.inside.calls.items c.self.inside.replies.items c.self.inside.marks.items c.args.i _ c.self.invariant.tables within c.index-compact.ensures)

pub returns : goal.returns
returns c =
    let within : c.args.i < length c.self.inside.marks.items = omega (arith, rw (← c.self.view_is) at c.requires, length-past c.self.inside.calls.items c.self.inside.replies.items c.self.inside.marks.items) in
    rw (← c.self.view_is, c.whole_mark.ensures, c.deref.ensures.value, c.deref-2.ensures.value) (mark_at-past c.self.inside.calls.items c.self.inside.replies.items c.self.inside.marks.items c.args.i _ within c.index-compact.ensures)
