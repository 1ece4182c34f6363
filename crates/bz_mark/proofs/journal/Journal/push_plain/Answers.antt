use Rattle.std.proofs.Common.{◌<◌, length, arith}
use Rattle.bz_mark.proofs.KeptLemmas.{plain_tables, length-past, fits_more}
use Rattle.bz_mark.proofs.journal.Journal.push_plain.Goals as goal

pub invariant_of-self : goal.invariant_of-self
invariant_of-self c =
    let marks : length c.self.inside.marks.items < c.self.inside.most_marks = omega (arith, rw (← c.self.view_is) at c.requires.place, length-past c.self.inside.calls.items c.self.inside.replies.items c.self.inside.marks.items) in
    record {
      tables = plain_tables _ _ c.self.inside.marks.items _ c.args.mark c.self.invariant.tables c.push_reserved.ensures.items c.requires.plain;
      few_marks = fits_more _ _ _ _ c.push_reserved.ensures.items marks;
      few_calls = c.self.invariant.few_calls;
      few_replies = c.self.invariant.few_replies;
      fits = c.self.invariant.fits;
      marks_room = omega (arith, c.self.invariant.marks_room, c.push_reserved.ensures.capacity);
      calls_room = c.self.invariant.calls_room;
      replies_room = c.self.invariant.replies_room;
    }
