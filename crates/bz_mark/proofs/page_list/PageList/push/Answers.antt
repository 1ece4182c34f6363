use Rattle.std.proofs.Common.{◌≡◌, ◌≤◌, ◌+◌, length, length-append, arith, rules, ◌∙◌, ap}
use Rattle.std.specs.Prelude.{vec_len, vec_capacity, IsOk}
use Rattle.bz_mark.proofs.PageLemmas.{bounds_count, bounds_few, bounds_pages, bounds_more}
use Rattle.bz_mark.proofs.page_list.PageList.push.Goals as goal

pub unreachable-requires : goal.unreachable-requires
unreachable-requires c =
    let few = bounds_few c.self.inside.bounds.items _ c.self.inside.pairs.items c.self.invariant.pages in
    let room = rw (← c.self.view_is) at c.requires.room in
    let fits : vec_len c.self.inside.pairs + length c.args.page.now ≤ vec_capacity c.self.inside.pairs = omega (arith, few, room, c.requires.few, c.self.invariant.pairs_room) in
    let done : IsOk c.extend_from_slice.result = c.extend_from_slice.ensures.succeeds fits in
    search rules

pub push_reserved-requires : goal.push_reserved-requires
push_reserved-requires c =
    omega (arith, rw (← c.self.view_is) at c.requires.room, bounds_count c.self.inside.bounds.items _ c.self.inside.pairs.items c.self.invariant.pages, c.self.invariant.room)

pub invariant_of-self : goal.invariant_of-self
invariant_of-self c =
    let end : c.len.result ≡ length c.extend_from_slice.new.self.items = search rules in
    let more : length c.extend_from_slice.new.self.items ≡ length c.self.inside.pairs.items + length c.args.page.now = ap length c.in-Ok.ensures.items ∙ length-append c.self.inside.pairs.items c.args.page.now in
    record {
      pages = rw (c.push_reserved.ensures.items, end) (bounds_more c.self.inside.bounds.items (length c.self.inside.pairs.items) (length c.extend_from_slice.new.self.items) c.self.invariant.pages (omega arith) (omega (arith, c.requires.few)));
      few = omega (arith, ap length c.push_reserved.ensures.items ∙ length-append c.self.inside.bounds.items _, rw (← c.self.view_is) at c.requires.room, bounds_count c.self.inside.bounds.items _ c.self.inside.pairs.items c.self.invariant.pages);
      fits = c.self.invariant.fits;
      room = omega (arith, c.self.invariant.room, c.push_reserved.ensures.capacity);
      pairs_room = omega (arith, c.self.invariant.pairs_room, c.in-Ok.ensures.capacity);
    }

pub returns-clause-pages : goal.returns-clause-pages
returns-clause-pages c =
    let end : c.len.result ≡ length c.extend_from_slice.new.self.items = search rules in
    rw (← c.self.view_is, c.push_reserved.ensures.items, c.in-Ok.ensures.items) (bounds_pages c.self.inside.bounds.items _ c.self.inside.pairs.items c.args.page.now c.self.invariant.pages (end ∙ ap length c.in-Ok.ensures.items))
