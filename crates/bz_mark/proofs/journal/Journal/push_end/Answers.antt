use Rattle.std.proofs.Common.{◌≡◌, ◌<◌, length, refl, arith, rules}
use Rattle.bz_mark.proofs.KeptLemmas.{end_past, end_tables, length-past, fits_more}
use Rattle.bz_mark.proofs.journal.Journal.push_end.Goals as goal

pub invariant_of-self : goal.invariant_of-self
invariant_of-self c =
    let place : c.len-place.result ≡ length c.self.inside.replies.items = search rules in
    let marks : length c.self.inside.marks.items < c.self.inside.most_marks = omega (arith, rw (← c.self.view_is) at c.requires.place, length-past c.self.inside.calls.items c.self.inside.replies.items c.self.inside.marks.items) in
    let replies : length c.self.inside.replies.items < c.self.inside.most_calls = omega (arith, rw (← c.self.view_is) at c.requires.table, c.self.invariant.tables.ends) in
    record {
      tables = end_tables _ c.self.inside.replies.items _ c.self.inside.marks.items _ c.args.w c.args.n _ c.args.at c.args.reply c.self.invariant.tables c.in-Ok.ensures.items c.push_reserved.ensures.items place;
      few_marks = fits_more _ _ _ _ c.push_reserved.ensures.items marks;
      few_calls = c.self.invariant.few_calls;
      few_replies = fits_more _ _ _ _ c.in-Ok.ensures.items replies;
      fits = c.self.invariant.fits;
      marks_room = omega (arith, c.self.invariant.marks_room, c.push_reserved.ensures.capacity);
      calls_room = c.self.invariant.calls_room;
      replies_room = omega (arith, c.self.invariant.replies_room, c.in-Ok.ensures.capacity);
    }

pub returns : goal.returns
returns c =
    let place : c.len-place.result ≡ length c.self.inside.replies.items = search rules in
    rw (← c.self.view_is, end_past _ c.self.inside.replies.items _ c.self.inside.marks.items _ c.args.w c.args.n _ c.args.at c.args.reply c.self.invariant.tables c.in-Ok.ensures.items c.push_reserved.ensures.items place) refl
