-- What a task is told lowers its weight by what the slots take that are gone then, and the start of its next act; and the round stays what it is.
use Rattle.std.proofs.Common.{◌≡◌, ◌≢◌, ◌⊎◌, ℕ, ◌+◌, ◌*◌, ◌<◌, ◌≤◌, true, false, Option, Some, None, IsSome, arith, refl, sym, ap, subst, ◌∙◌, inl, inr}
use Rattle.bz_joined.specs.FromAlone.Undisturbed.{IsUndisturbed}
use Rattle.bz_costs.specs.Solo.{one_mark}
use Rattle.bz_costs.specs.Resources.{Resource}
use Rattle.bz_costs.specs.Laws.{AskedSwapsAreCounted, HearingIsPaid}
use Rattle.bz_costs.specs.Weights.{slots_gone, start_takes, weigh}
use Rattle.bz_costs.specs.Stretches.{solo_stretch}
use Rattle.bz_layout.specs.Slots.{FreeSlots}
use Rattle.bz_rivals.specs.Rivals.{rivals}
use Rattle.bz_costs.specs.FromRunning.Duties.{asks_of, end_of, made_of}
use Rattle.bz_costs.specs.FromRunning.Hearing.{HasHeard}
use Rattle.bz_costs.specs.FromRunning.Kinds.{kind_of}
use Rattle.bz_costs.specs.FromRunning.Laws.{AreLaws}
use Rattle.bz_costs.specs.FromRunning.AnyTask.{AnyTask}
use Rattle.bz_swap.specs.SwapMemory.{SwapMemory}
use Rattle.bz_task.specs.Requests.{Hears, effects_in, swaps_in}
use Rattle.bz_task.specs.Scene.{Past}
use Rattle.bz_task.specs.declared.todo.Outcome.{Outcome}
use Rattle.bz_task.specs.declared.todo.Outcome.TheVariants.{Done, Restart}
use Rattle.bz_task.specs.declared.todo.Seen.{Seen}
use Rattle.bz_task.specs.declared.todo.Seen.TheVariants.{Start, Swapped}
use Rattle.bz_task.specs.declared.todo.Todo.{Todo}
use Rattle.bz_task.specs.declared.todo.Todo.TheVariants.{Swap, Finish}
use Rattle.bz_solo.specs.Errands.{Errand, is_read, IsLookOf, may_swap_twice, after}
use Rattle.bz_solo.specs.Prices.{coming, round_price, prices_in}
use Rattle.bz_solo.specs.Steps.{HearingsArePaid}
use Rattle.bz_solo.specs.Sum.{State, In, Disturbed, Clean, Made, IsIn, IsClean, IsMade, IsPaid, Affords, own_left, left_in, reserve, prices_of}
use Rattle.bz_solo.proofs.Spending.{hears, hears-made}

-- the laws on which it rests
pub record Laws (r : Resource) : Type 0 where
  pub hearing : HearingIsPaid r
  pub asked : AskedSwapsAreCounted

-- a task that is told something has not ended
none-heard : (asked : Option Todo) (seen : Seen) → asked ≡ Some Finish → Hears asked seen → ⊥
none-heard asked seen f h = nothing seen (subst (λ z. Hears z seen) f h)
  where
    nothing : (seen : Seen) → Hears (Some Finish) seen → ⊥
    nothing Start h = h
    nothing seen h = h

not-ended : (old : AnyTask) (seen : Seen) → AreLaws old → Hears (asks_of old) seen → end_of old ≡ None
not-ended old seen laws h = go (end_of old) refl
  where
    go : (o : Option Outcome) → end_of old ≡ o → end_of old ≡ None
    go None e = e
    go (Some o) e = absurd (none-heard (asks_of old) seen (laws.only (subst IsSome (sym e) refl)) h)

-- an effect is told by the answer to a swap
told-one : (seen : Seen) → effects_in seen ≡ 1 → seen ≡ Swapped true
told-one Start e = absurd (omega (arith, e))
told-one (Swapped true) e = refl
told-one seen e = absurd (omega (arith, e))

won-asked : (asked : Option Todo) → Hears asked (Swapped true) → swaps_in asked ≡ 1
won-asked None h = absurd h
won-asked (Some (Swap entries)) h = refl
won-asked (Some todo) h = absurd h

one-effect : (seen : Seen) → seen ≡ Swapped true → effects_in seen ≡ 1
one-effect seen e = ap effects_in e

module _ (r : Resource) (b : Laws r) (m : SwapMemory) (w : ℕ) (e : Errand) (old new : AnyTask) (seen : Seen) (moment : ℕ) (free left : FreeSlots) (todo : Todo) (used next by : ℕ) (p : Past) (h : HasHeard old seen moment free todo new left) (before : AreLaws old)
    (hears_it : Hears (asks_of old) seen) (stands : IsUndisturbed (made_of old + effects_in seen) p → end_of new ≢ Some Restart) (gone : next ≤ used + slots_gone r free left) where
  goes-on : end_of old ≡ None
  goes-on = not-ended old seen before hears_it

  pays : weigh r new + (slots_gone r free left + start_takes r todo) ≤ weigh r old
  pays = b.hearing old new seen moment free left todo h

  -- a clean round stays one: its last swap was not told of before its end
  cleanly : IsClean e old (effects_in seen) p → IsClean e new 0 p
  cleanly c = record {
    made = c.made;
    alone = c.alone;
    counts = λ n. c.counts goes-on ∙ (sym (h.goes.counted n) ∙ plus-none (made_of new));
    none = λ f. c.none (ap may_swap_twice (sym h.kind) ∙ f);
    before = λ f l. refl;
    goes = λ f d. no-end (c.before f (omega (arith, h.goes.only_last d))) (one-effect seen (h.goes.done d));
    stands = stands (subst (λ n. IsUndisturbed n p) (c.counts goes-on) c.alone);
    small = λ f k. c.small f (sym h.kind ∙ k);
  }
    where
      plus-none : (n : ℕ) → n ≡ n + 0
      plus-none n = omega arith

      no-end : effects_in seen ≡ 0 → effects_in seen ≡ 1 → ⊥
      no-end z o = omega (arith, z, o)

  -- and where its last swap has taken effect it ends
  ended : IsMade e old (effects_in seen) → IsMade e new 0
  ended c = record { quiet = c.quiet; write = c.write; silent = h.silent ∙ c.silent; last = omega (arith, h.goes.fewer, c.last); told = inr (done c.told) }
    where
      done : (effects_in seen ≡ 1) ⊎ (end_of old ≡ Some Done) → end_of new ≡ Some Done
      done (inl o) =
          let won : seen ≡ Swapped true = told-one seen o in
          let one : swaps_in (asks_of old) ≡ 1 = won-asked (asks_of old) (subst (λ z. Hears (asks_of old) z) won hears_it) in
          h.goes.last won (omega (arith, one, b.asked old, c.last))
      done (inr d) = absurd (cc (goes-on, d))

  abbrev kept : ℕ
  kept = (solo_stretch r + one_mark r) * rivals m w

  paid : (look : e.effected ≡ false → IsLookOf e.call (kind_of old)) (thawed : e.froze ≡ true → is_read e.call ≡ false) (state : State) → IsIn state e old (effects_in seen) p → Affords r m w e used by (0 + left_in r state e old p) → IsPaid r m w e new 0 (start_takes r todo) next by p
  paid look thawed (In Disturbed) c a = record {
    look = λ f. subst (IsLookOf e.call) (sym h.kind) (look f);
    thawed = thawed;
    state = In Disturbed;
    holds = tt;
    affords = record {
      enough = subst (λ k. kept + own_left r e + next + (start_takes r todo + (reserve r Disturbed + (weigh r new + coming r (prices_of r Disturbed e p) e k))) ≤ by) (sym h.kind)
          (hears kept (own_left r e) used next (slots_gone r free left) (weigh r old) (weigh r new) (start_takes r todo) (reserve r Disturbed) (coming r (prices_of r Disturbed e p) e (kind_of old)) by pays gone a.enough);
    };
  }
  paid look thawed (In Clean) c a = record {
    look = λ f. subst (IsLookOf e.call) (sym h.kind) (look f);
    thawed = thawed;
    state = In Clean;
    holds = cleanly c;
    affords = record {
      enough = subst (λ k. kept + own_left r e + next + (start_takes r todo + (reserve r Clean + (weigh r new + coming r (prices_of r Clean e p) e k))) ≤ by) (sym h.kind)
          (hears kept (own_left r e) used next (slots_gone r free left) (weigh r old) (weigh r new) (start_takes r todo) (reserve r Clean) (coming r (prices_of r Clean e p) e (kind_of old)) by pays gone a.enough);
    };
  }
  paid look thawed Made c a = record {
    look = λ f. subst (IsLookOf e.call) (sym h.kind) (look f);
    thawed = thawed;
    state = Made;
    holds = ended c;
    affords = record {
      enough = subst (λ k. kept + own_left r e + next + (start_takes r todo + (weigh r new + round_price r (prices_in r p.config (p.at p.now).image (after e k)) (after e k))) ≤ by) (sym h.kind)
          (hears-made kept (own_left r e) used next (slots_gone r free left) (weigh r old) (weigh r new) (start_takes r todo) (round_price r (prices_in r p.config (p.at p.now).image (after e (kind_of old))) (after e (kind_of old))) by pays gone a.enough);
    };
  }

pub heard-paid : (r : Resource) → Laws r → HearingsArePaid r
heard-paid r b m w e old new seen moment free left todo used next by p h before now hears_it stands gone was =
    paid r b m w e old new seen moment free left todo used next by p h before hears_it stands gone was.look was.thawed was.state was.holds was.affords
