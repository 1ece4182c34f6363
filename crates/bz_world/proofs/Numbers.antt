-- The table of calls says which calls are open, and by which numbers.
use Rattle.std.proofs.Common.{◌≡◌, ℕ, ◌+◌, ◌-◌, ◌<◌, ◌≤◌, List, ◌∷◌, length, slice_index, arith, refl, sym, ap, subst, ◌∙◌, Option, Some, None}
use Rattle.std.specs.Prelude.{get_or, option_map}
use Rattle.bz_mark.proofs.MomentLaws.{at_moment-next}
use Rattle.bz_mark.specs.Moments.{at_moment, mark_at}
use Rattle.bz_mark.specs.declared.marks.Mark.{Mark}
use Rattle.bz_sound.specs.Calls.{Open, open_call}
use Rattle.bz_mark.specs.declared.power.Power.{Power}
use Rattle.bz_mark.specs.declared.power.Power.TheVariants as power
use Rattle.bz_sound.specs.Power.CallLaws.{OpenCallsAreLast}
use Rattle.bz_world.specs.Inside.Kept.{IsKept, IsAwake}
use Rattle.bz_world.specs.Inside.Paid.{stock_of}
use Rattle.bz_world.specs.Inside.Serving.{IsSlot, IsServing}
use Rattle.bz_world.specs.declared.parts.Parts.{Parts}
use Rattle.bz_world.specs.declared.serving.OpenCall.{OpenCall}
use Rattle.bz_world.proofs.Powered.{awake-in, off-in, started-in}

abbrev number-in : Parts → ℕ → Option ℕ
number-in p w = option_map (λ (o : Open). o.number) (open_call w p.journal.past)

-- what is served, with the power on
slot-in : (p : Parts) (k : IsAwake p) (w : ℕ) (slot : Option OpenCall) → get_or p.workers.items w None ≡ slot → IsSlot p.config p.access p.journal k.story p.owners.items (stock_of p) w slot
slot-in p k w slot is = subst (IsSlot p.config p.access p.journal k.story p.owners.items (stock_of p) w) is (k.workers w)

-- where the table has a call of a worker, that has the number of the worker's last call
pub number-open : OpenCallsAreLast → (p : Parts) → IsKept p → (w : ℕ) (x : OpenCall) → get_or p.workers.items w None ≡ Some x → w ≤ p.config.workers → number-in p w ≡ Some (slice_index p.numbers.items w)
number-open law p kept w x some within = go p.power refl
  where
    no-call : get_or p.workers.items w None ≡ None → number-in p w ≡ Some (slice_index p.numbers.items w)
    no-call none = absurd (cc (none, some))

    in-table : w < 65
    in-table = omega (arith, within, kept.tabled.config.workers_in_range.at_most)

    go : (z : Power) → p.power ≡ z → number-in p w ≡ Some (slice_index p.numbers.items w)
    go power.On e =
        let s : IsServing p.config p.access p.journal (awake-in p kept e).story p.owners.items (stock_of p) w x = slot-in p (awake-in p kept e) w (Some x) some in
        ap (option_map (λ (o : Open). o.number)) s.call_open.is_open ∙ ap Some ((law p.config p.at_start p.journal w s.opened kept.sound s.call_open.is_open).last ∙ sym (kept.tabled.counted w in-table))
    go power.Off e = no-call ((off-in p kept e).dark.none w)
    go power.Recovering e = no-call ((started-in p kept e).dark.none w)

-- the marks before a moment but for the newest of them
pub one-back : (moment : ℕ) (mark : Mark) (past : List Mark) → 0 < moment → moment ≤ length past → mark_at (moment - 1) past ≡ Some mark → at_moment moment past ≡ mark ∷ at_moment (moment - 1) past
one-back moment mark past some within is =
    let back : moment - 1 + 1 ≡ moment = omega (arith, some) in
    subst (λ k. at_moment k past ≡ mark ∷ at_moment (moment - 1) past) back (at_moment-next (moment - 1) mark past is (omega (arith, some, within)))
