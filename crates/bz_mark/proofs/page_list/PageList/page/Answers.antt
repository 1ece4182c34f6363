use Rattle.std.proofs.Common.{◌≡◌, ◌<◌, ◌+◌, ℕ, List, length, get_or, arith, ◌∙◌}
use Rattle.std.proofs.lemmas.Grind.{get_or_default_zero}
use Rattle.bz_mark.specs.PageLists.{pages_in, ArePages}
use Rattle.bz_mark.proofs.PageLemmas.{Pairs, bounds_count, page_in, part_is, part_few}
use Rattle.bz_mark.proofs.page_list.PageList.page.Goals as goal

pub index-start-requires : goal.index-start-requires
index-start-requires c =
    omega (arith, rw (← c.self.view_is) at c.requires, bounds_count c.self.inside.bounds.items _ c.self.inside.pairs.items c.self.invariant.pages)

pub index-end-requires : goal.index-end-requires
index-end-requires c =
    omega (arith, rw (← c.self.view_is) at c.requires, bounds_count c.self.inside.bounds.items _ c.self.inside.pairs.items c.self.invariant.pages)

-- the bounds that are read are those of the page
bounds_are : (bounds : List ℕ) (p start end : ℕ) (pairs : Pairs) → ArePages bounds (length pairs) → p < length (pages_in bounds pairs)
    → start ≡ get_or bounds p start → end ≡ get_or bounds (p + 1) end → (start ≡ get_or bounds p 0) × (end ≡ get_or bounds (p + 1) 0)
bounds_are bounds p start end pairs h lt s e =
    let count = bounds_count bounds (length pairs) pairs h in
    (s ∙ get_or_default_zero bounds p start (omega arith), e ∙ get_or_default_zero bounds (p + 1) end (omega arith))

pub part-requires-clause-rises : goal.part-requires-clause-rises
part-requires-clause-rises c =
    let lt = rw (← c.self.view_is) at c.requires in
    let are = bounds_are c.self.inside.bounds.items c.args.p _ _ c.self.inside.pairs.items c.self.invariant.pages lt c.index-start.ensures c.index-end.ensures in
    let page = page_in c.self.inside.bounds.items _ c.args.p c.self.inside.pairs.items c.self.invariant.pages lt in
    omega (arith, are.0, are.1, page.rises)

pub part-requires-clause-within : goal.part-requires-clause-within
part-requires-clause-within c =
    let lt = rw (← c.self.view_is) at c.requires in
    let are = bounds_are c.self.inside.bounds.items c.args.p _ _ c.self.inside.pairs.items c.self.invariant.pages lt c.index-start.ensures c.index-end.ensures in
    let page = page_in c.self.inside.bounds.items _ c.args.p c.self.inside.pairs.items c.self.invariant.pages lt in
    omega (arith, are.1, page.within, c.deref.ensures.len)

pub returns-clause-pairs : goal.returns-clause-pairs
returns-clause-pairs c =
    let lt = rw (← c.self.view_is) at c.requires in
    let are = bounds_are c.self.inside.bounds.items c.args.p _ _ c.self.inside.pairs.items c.self.invariant.pages lt c.index-start.ensures c.index-end.ensures in
    let page = page_in c.self.inside.bounds.items _ c.args.p c.self.inside.pairs.items c.self.invariant.pages lt in
    rw (← c.self.view_is) (part_is c.self.inside.bounds.items _ c.args.p _ _ _ _ c.self.inside.pairs.items page are.0 are.1 c.deref.ensures.value c.part.ensures)

pub returns-clause-few : goal.returns-clause-few
returns-clause-few c =
    let lt = rw (← c.self.view_is) at c.requires in
    let are = bounds_are c.self.inside.bounds.items c.args.p _ _ c.self.inside.pairs.items c.self.invariant.pages lt c.index-start.ensures c.index-end.ensures in
    let page = page_in c.self.inside.bounds.items _ c.args.p c.self.inside.pairs.items c.self.invariant.pages lt in
    part_few c.self.inside.bounds.items _ c.args.p _ _ _ _ c.self.inside.pairs.items page are.0 are.1 c.part.ensures
