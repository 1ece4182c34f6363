use Rattle.std.proofs.Common.{◌≡◌, ◌<◌, ℕ, ◌∙◌, refl, ap, sym, subst, arith, length, get_or, take, List, false}
use Rattle.std.proofs.lemmas.List.{get_or-take, length-take-le, length-set, get_or-set_other}
use Rattle.bz_word.specs.declared.entry.Entry.{Entry}
use Rattle.bz_swap.specs.EntryLists.{inserted, IsEntryList}
use Rattle.bz_swap.specs.SwapMemory.{is_target}
use Rattle.bz_swap.proofs.EntryLists.{below, not-below, list-inserted}
use Rattle.bz_swap.proofs.EntrySteps.{passes, carries, ends}
use Rattle.bz_swap.proofs.entry_list.EntryList.with.Goals.{then-carried-here, else-carried-here}
use Rattle.bz_swap.proofs.entry_list.EntryList.with.Goals as goal

pub loop-i-init : goal.loop-i-init
loop-i-init c = record { long = c.self.invariant.0; rest = λ k d from. refl; part = refl }

pub loop-i-preserved : goal.loop-i-preserved
loop-i-preserved c =
    let inv = c.loop-i.invariant in
    let i : ℕ = c.loop-i.i in
    let n : ℕ = c.self.inside.count in
    let entries : List Entry = c.self.inside.entries in
    let none : Entry = record { target = 0; expected = 0; new = 0 } in
    let whole : length entries ≡ 4 = c.self.invariant.0 in
    let long : length (take n entries) ≡ n = length-take-le n entries (omega (arith, whole, c.self.invariant.1)) in
    let inside : i < length (take n entries) = omega (arith, long) in
    let here : get_or (take n entries) i none ≡ get_or c.loop-i.entries i none = get_or-take n entries i none c.loop-i-test.true ∙ sym (inv.rest i none (omega arith)) in
    elim c.if-carried-here.branch [
      | then-carried-here w ↦ rw (w.entries-is, w.carried-is) (record {
        long = length-set _ _ _ ∙ inv.long;
        rest = λ k d from. get_or-set_other c.loop-i.entries i k c.loop-i.carried d (λ same. omega (arith, from, same)) ∙ inv.rest k d (omega (arith, from));
        part = carries c.loop-i.carried none _ _ _ _ i inside (omega (arith, inv.long, long, c.self.invariant.1)) here c.self.invariant.2.rising (below _ _ w.if-carried-here.true) inv.part;
      })
      | else-carried-here w ↦ rw (w.entries-is, w.carried-is) (record {
        long = inv.long;
        rest = λ k d from. inv.rest k d (omega (arith, from));
        part = passes c.loop-i.carried none _ _ _ _ i inside (omega (arith, inv.long, long, c.self.invariant.1)) here refl (not-below _ _ w.if-carried-here.false) inv.part;
      })
    ]

pub invariant_of-result : goal.invariant_of-result
invariant_of-result c =
    let n : ℕ = c.self.inside.count in
    let entries : List Entry = c.self.inside.entries in
    let long : length (take n entries) ≡ n = length-take-le n entries (omega (arith, c.self.invariant.0, c.self.invariant.1)) in
    let room : length (take n entries) < 4 = subst (λ xs. length xs < 4) (sym c.self.view_is) c.requires.room in
    let new = subst (λ xs. is_target xs c.args.a.target ≡ false) (sym c.self.view_is) c.requires.new in
    let all = ends c.loop-i.carried (take n entries) c.loop-i.entries (inserted c.args.a (take n entries)) n c.loop-i.i (omega arith) long (omega (arith, room, long, c.loop-i.invariant.long)) c.loop-i.invariant.part in
    (length-set _ _ _ ∙ c.loop-i.invariant.long, omega (arith, room, long), subst IsEntryList (sym all) (list-inserted c.args.a (take n entries) c.self.invariant.2 room new))

pub returns : goal.returns
returns c =
    let n : ℕ = c.self.inside.count in
    let entries : List Entry = c.self.inside.entries in
    let long : length (take n entries) ≡ n = length-take-le n entries (omega (arith, c.self.invariant.0, c.self.invariant.1)) in
    let room : length (take n entries) < 4 = subst (λ xs. length xs < 4) (sym c.self.view_is) c.requires.room in
    ends c.loop-i.carried (take n entries) c.loop-i.entries (inserted c.args.a (take n entries)) n c.loop-i.i (omega arith) long (omega (arith, room, long, c.loop-i.invariant.long)) c.loop-i.invariant.part
    ∙ ap (inserted c.args.a) c.self.view_is
