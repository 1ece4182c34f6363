use Rattle.std.proofs.Common.{◌≡◌, ◌-◌, ◌<◌, arith, length, get_or, IsTrue, inl, inr, [], sym, ◌∙◌, false}
use Rattle.std.proofs.lemmas.Bool.{cases_lt}
use Rattle.std.proofs.lemmas.Bool.Decides.{nat_tests}
use Rattle.std.specs.Option.{is_some}
use Rattle.std.proofs.lemmas.List.{get_or-map, get_or_default}
use Rattle.bz_node.specs.declared.child.Child.{Child}
use Rattle.bz_node.specs.Layout.{bound_of}
use Rattle.bz_test_vectors.proofs.Checks.{rise_more, bounds_of, child_checked, none_there}
use Rattle.bz_test_vectors.proofs.tests.node.make_inner.Goals as goal

pub loop-i-preserved : goal.loop-i-preserved
loop-i-preserved c =
    let children = c.args.children.now in
    let t : IsTrue c.is_bound_before.result = cc in
    let at = get_or-map (λ (x : Child). bound_of x.low) children c.loop-i.i c.index-children-i-in-loop-i.result [] (omega arith) in
    let before = get_or-map (λ (x : Child). bound_of x.low) children (c.loop-i.i - 1) c.index-children-i.result [] (omega arith) in
    record {
      rise = rise_more (bounds_of children) c.loop-i.i (omega arith) c.loop-i.invariant.rise (rw (at, before) (c.is_bound_before.ensures.before t));
      there = λ i d from below. elim (cases_lt i c.loop-i.i) [
        | inl less ↦ c.loop-i.invariant.there i d from less
        | inr last ↦ (
            let e : i ≡ c.loop-i.i = omega arith in
            rw (e, get_or_default children c.loop-i.i d c.index-children-i-in-loop-i.result (omega arith)) (c.is_bound_before.ensures.there t))
      ];
    }

pub returns : goal.returns
returns c t =
    let children = c.args.children.now in
    let some : 0 < length children = grind (arith, nat_tests, c.is_empty.ensures, c.if-is_empty.false) in
    let read : is_some (get_or children 0 c.index-children-0.result).low ≡ false = sym c.is_some.ensures ∙ c.if-is_some.false in
    let first = λ (d : Child). none_there (get_or children 0 d).low (rw (get_or_default children 0 d c.index-children-0.result some) read) in
    child_checked children c.loop-i.i some (omega arith) first c.loop-i.invariant.there c.loop-i.invariant.rise
