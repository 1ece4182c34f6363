use Rattle.std.proofs.Common.{◌≡◌, ◌<◌, length, refl, arith, rules}
use Rattle.bz_mark.proofs.KeptLemmas.{begin_past, begin_tables, length-past, fits_more}
use Rattle.bz_mark.proofs.journal.Journal.push_begin.Goals as goal

pub invariant_of-self : goal.invariant_of-self
invariant_of-self c =
    let place : c.len-place.result ≡ length c.self.inside.calls.items = search rules in
    let marks : length c.self.inside.marks.items < c.self.inside.most_marks = omega (arith, rw (← c.self.view_is) at c.requires.place, length-past c.self.inside.calls.items c.self.inside.replies.items c.self.inside.marks.items) in
    let calls : length c.self.inside.calls.items < c.self.inside.most_calls = omega (arith, rw (← c.self.view_is) at c.requires.table, c.self.invariant.tables.begins) in
    record {
      tables = begin_tables c.self.inside.calls.items _ _ c.self.inside.marks.items _ c.args.w c.args.n _ c.args.call c.self.invariant.tables c.push_reserved.ensures.items c.push_reserved-2.ensures.items place;
      few_marks = fits_more _ _ _ _ c.push_reserved-2.ensures.items marks;
      few_calls = fits_more _ _ _ _ c.push_reserved.ensures.items calls;
      few_replies = c.self.invariant.few_replies;
      fits = c.self.invariant.fits;
      marks_room = omega (arith, c.self.invariant.marks_room, c.push_reserved-2.ensures.capacity);
      calls_room = omega (arith, c.self.invariant.calls_room, c.push_reserved.ensures.capacity);
      replies_room = c.self.invariant.replies_room;
    }

pub returns : goal.returns
returns c =
    let place : c.len-place.result ≡ length c.self.inside.calls.items = search rules in
    rw (← c.self.view_is, begin_past c.self.inside.calls.items _ _ c.self.inside.marks.items _ c.args.w c.args.n _ c.args.call c.self.invariant.tables c.push_reserved.ensures.items c.push_reserved-2.ensures.items place) refl
