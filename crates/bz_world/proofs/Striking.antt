-- The effect of a swap: what it is to its worker and to the others, one mark on.
use Rattle.std.proofs.Common.{◌≡◌, ◌≢◌, ◌==◌, Bool, false, not, inl, inr, Some, true, ℕ, suc, ◌+◌, ◌^◌, ◌<◌, ◌≤◌, if◌then◌else◌, List, ◌∷◌, length, slice_index, arith, refl, sym, ap, subst, ◌∙◌, None, is_some}
use Rattle.std.specs.Prelude.{get_or}
use Rattle.std.proofs.lemmas.Bool.{cases_eq, cases_lt}
use Rattle.std.proofs.lemmas.Bool.Decides.{nat_tests}
use Rattle.bz_mark.specs.Log.{with_mark}
use Rattle.bz_mark.specs.declared.marks.Mark.{Mark}
use Rattle.bz_mark.specs.declared.marks.Mark.TheVariants as mark
use Rattle.bz_mark.proofs.MomentLaws.{at_moment-now}
use Rattle.bz_any_task.specs.Duties.{end_of, facts_of, publishing_of, change_of}
use Rattle.bz_any_task.specs.Kinds.{is_look, kind_of}
use Rattle.bz_sight.specs.Effects.{TookPlace, effect_instant}
use Rattle.bz_sight.specs.Starts.{Sees}
use Rattle.bz_sound.specs.Calls.{Open, open_call}
use Rattle.bz_sound.specs.Solitary.{IsSolitary}
use Rattle.bz_sound.specs.Memory.Moments.{IsAfterFence, image_after}
use Rattle.bz_refinement.specs.Laws.{HasBegun, Strikes, strikes, opened_after}
use Rattle.bz_refinement.specs.Living.{IsLiving}
use Rattle.bz_refinement.specs.Story.{Story, scene}
use Rattle.bz_swap.specs.SwapMemory.{Doing, Idle, Reading, Swapping, Loading, Storing, Flushing, doing_of, entries_of}
use Rattle.bz_task.specs.Scene.{Scene, IsLawful, Waiting, Took, here}
use Rattle.bz_task.specs.Swaps.{IsGoodSwap, SwapsTo, Takes}
use Rattle.bz_task.specs.declared.todo.Todo.TheVariants as todo
use Rattle.bz_world.specs.Inside.Acted.{IsStriking, StepsAt}
use Rattle.bz_world.specs.Inside.Alone.{WaitsUndisturbed}
use Rattle.bz_world.specs.Inside.Kept.{IsAwake}
use Rattle.bz_world.specs.Inside.Meant.{IsMeant}
use Rattle.bz_world.specs.Inside.Serving.{IsServing, IsSlot, stage_in}
use Rattle.bz_world.specs.declared.parts.Parts.{Parts}
use Rattle.bz_world.specs.declared.serving.OpenCall.{OpenCall}
use Rattle.bz_solo.specs.Steps.{IsServing as Serves, effected_by, mark_of_effect}
use Rattle.bz_solo.specs.FromCosts.Solo.{one_mark}
use Rattle.bz_swap_machine.specs.Allowed.{counted}
use Rattle.bz_rivals.specs.Rivals.{is_own, rivals, foreign}
use Rattle.bz_world.specs.Inside.Alone.{untold}
use Rattle.bz_world.specs.Inside.Paid.{errand_of, no_extra, stock_of, IsPaidIn}
use Rattle.bz_world.specs.WorldView.{stepper}
use Rattle.bz_world.proofs.Alone.{untold-by, waits-beside, waits-struck}
use Rattle.bz_world.proofs.Due.{not-solitary}
use Rattle.bz_world.proofs.Exact.{still-asks}
use Rattle.bz_world.proofs.Solitary.{now-is}
use Rattle.bz_world.proofs.Meant.{call-meant-on, swaps-or-merges}
use Rattle.bz_world.proofs.Paid.{none-of, flush-runs, paid-here, next-is, swapless, some-moment}
use Rattle.bz_world.proofs.PaidSteps.{StepsFurther, foreign-in, less-in, own-in}
use Rattle.bz_world.proofs.Powered.{begun-in, flush-leaves}
use Rattle.bz_world.proofs.Owners.{IsOwner, is-owner}
use Rattle.bz_world.proofs.Staying.{SameFor, Leaves, none-takes-well, slot-stays}
use Rattle.bz_world.specs.Inside.Laws.{StrikeLaws}

-- a fence or an eviction opens and ends no call
pub flush-calls : (v : ℕ) (m : Mark) (past : List Mark) → IsAfterFence (m ∷ past) → open_call v (m ∷ past) ≡ open_call v past
flush-calls v (mark.Ask u line) past f = refl
flush-calls v (mark.Fence u) past f = refl
flush-calls v (mark.Evict a) past f = refl
flush-calls v (mark.Begin u n c) past f = absurd f
flush-calls v (mark.End u n r a) past f = absurd f
flush-calls v (mark.Load u a x) past f = absurd f
flush-calls v (mark.Store u a x) past f = absurd f
flush-calls v (mark.Cas u a o n x) past f = absurd f
flush-calls v (mark.Effect u n) past f = absurd f
flush-calls v mark.Cut past f = absurd f
flush-calls v mark.On past f = absurd f
flush-calls v mark.Ready past f = absurd f

module _ (b : StrikeLaws) (p : Parts) (s : ℕ) (h : IsStriking p s) where
  abbrev pub old : Parts
  old = h.before

  abbrev pub kept : IsAwake old
  kept = h.kept

  abbrev pub w : ℕ
  w = h.takes.effect.worker

  pub owner : IsOwner old kept w s (get_or old.workers.items w None)
  owner = is-owner old kept w s h.takes.effect.pending

  abbrev pub x : OpenCall
  x = owner.serving

  abbrev pub its : IsServing old.config old.access old.journal kept.story old.owners.items (stock_of old) w x
  its = owner.serves

  abbrev pub before : Scene
  before = scene old.config old.journal.past kept.story w its.call_open.look.since its.opened

  pub before-seen : Sees old.config (kept.story.at (length old.journal.past)) before
  before-seen = b.scenes old.config old.access old.journal kept.story w its.call_open.look.since its.opened kept.living (begun-in kept.living its.call_open)

  few : length old.journal.past + 1 < 2 ^ 32
  few = let r = kept.tabled.config.marks_in_range in let t : length p.journal.past ≤ p.config.marks = h.tabled.marks in
      let u : length (h.mark ∷ old.journal.past) ≤ old.config.marks = subst (λ (q : Parts). length q.journal.past ≤ q.config.marks) h.rest t in omega (arith, u, r.at_most)

  pub took-place : TookPlace old.config (kept.story.at (length old.journal.past)) old.access p.access s
  took-place = b.place old.config (kept.story.at (length old.journal.past)) old.access p.access s kept.living.seen h.takes

  -- so it leads there
  pub swaps-to : SwapsTo old.config (entries_of old.access s) (here before) (effect_instant old.config p.access (kept.story.at (length old.journal.past)))
  swaps-to = took-place.swaps (omega (arith, few, kept.living.effects))

  -- the image before and after it
  pub was-image : image_after old.journal.start old.journal.past ≡ (kept.story.at (length old.journal.past)).image
  was-image = sym (kept.living.images (length old.journal.past) kept.living.from (omega arith) ∙ ap (image_after old.journal.start) (at_moment-now old.journal.past))

  pub is-image : image_after old.journal.start (h.mark ∷ old.journal.past) ≡ slice_index p.access.durable
  is-image = ap (λ z. slice_index z.durable) (sym h.marked)

  -- its task waited for the swap
  pub waits : facts_of x.task Waiting before
  waits = subst (λ z. facts_of x.task z before) (ap (stage_in old.access) h.takes.effect.pending ∙ ap (λ z. if z then Took else Waiting) h.takes.effect.before) its.facts

  -- which has not ended, and is no look-up
  pub goes-still : end_of x.task ≡ None
  goes-still = still-asks x.task its.tasked.laws (todo.Swap (entries_of old.access s)) owner.asks (λ e. cc e)

  pub no-look : is_look (kind_of x.task) ≡ true → ⊥
  no-look looks = swapless b.paid.asked x.task (entries_of old.access s) owner.asks (its.tasked.laws.looks looks).swaps

  pub good : IsGoodSwap (publishing_of x.task) (change_of x.task) (entries_of old.access s) before (effect_instant old.config p.access (kept.story.at (length old.journal.past)))
  good = its.tasked.laws.acts.effect before (effect_instant old.config p.access (kept.story.at (length old.journal.past))) (entries_of old.access s) (sym its.tasked.config) waits before-seen.scene owner.asks took-place.stand
      (took-place.swaps (omega (arith, few, kept.living.effects)))

  pub strikes-it : Strikes old.config old.access p.access old.journal kept.story h.mark s w its.call_open.look.since its.opened (publishing_of x.task) (change_of x.task)
  strikes-it = record {
    living = kept.living;
    takes = h.takes;
    marked = h.marked;
    past = h.past;
    powered = flush-leaves h.mark old.journal.past h.flush;
    begun = begun-in kept.living its.call_open;
    list = owner.list;
    few = few;
    at_swap = λ line is. let bad : Flushing line ≡ Swapping s = sym is ∙ (h.work.doing w ∙ h.takes.effect.pending) in absurd cc;
    good = good;
  }

  abbrev pub after : Story
  after = strikes old.config old.journal kept.story p.access w (entries_of old.access s)

  pub living : IsLiving old.config p.access (with_mark old.journal h.mark) after
  living = b.told.living old.config old.access p.access old.journal kept.story h.mark s w its.call_open.look.since its.opened (publishing_of x.task) (change_of x.task) strikes-it

  -- the call, which has had its effect if the swap made its change
  abbrev pub opened : Open
  opened = opened_after (publishing_of x.task) (suc (length old.journal.past)) its.opened

  abbrev pub later : Scene
  later = scene old.config (h.mark ∷ old.journal.past) after w its.call_open.look.since opened

  pub takes-effect : Takes (publishing_of x.task) (entries_of old.access s) before later
  takes-effect = b.told.own old.config old.access p.access old.journal kept.story h.mark s w its.call_open.look.since its.opened (publishing_of x.task) (change_of x.task) (suc (length old.journal.past)) strikes-it

  pub begun : HasBegun (with_mark old.journal h.mark) after its.call_open.look.since
  begun = let l : HasBegun old.journal kept.story its.call_open.look.since = begun-in kept.living its.call_open in record { from = l.from; by_now = omega (arith, l.by_now) }

  pub later-seen : Sees old.config (after.at (suc (length old.journal.past))) later
  later-seen = b.scenes old.config p.access (with_mark old.journal h.mark) after w its.call_open.look.since opened living begun

  -- and the task knows that the swap took effect
  pub took : facts_of x.task Took later
  took = its.tasked.laws.acts.took before later (entries_of old.access s) (sym its.tasked.config) waits before-seen.scene later-seen.scene owner.asks took-place.stand takes-effect

  -- it was its own, of which it waits for the answer
  pub struck-undisturbed : WaitsUndisturbed p.access (doing_of p.access w) x.task later.past
  struck-undisturbed = waits-struck old.config old.access p.access old.journal.past h.mark kept.story after w its.call_open.look.since its.opened opened x.task (effect_instant old.config p.access (kept.story.at (length old.journal.past))) refl its.call_open.look.by_now its.alone
      s refl h.takes.effect.pending (h.work.doing w ∙ h.takes.effect.pending) h.takes.effect.before h.takes.effect.done (h.unnoted s)

  pub struck-meant : IsMeant x later.past
  struck-meant = call-meant-on x before.past later.past its.tasked.laws takes-effect.continues its.meant

  -- the call of a worker that serves one is open, so it is one of the workers
  a-worker : (v : ℕ) (y : OpenCall) (t : IsServing old.config old.access old.journal kept.story old.owners.items (stock_of old) v y) → (0 < v) × (v ≤ old.config.workers)
  a-worker v y t = (
    elim (cases_eq v 0) [
      | inl e ↦ absurd (cc (kept.tabled.strangers v (inl e), t.call_open.is_open))
      | inr ne ↦ omega (arith, ne)
    ],
    elim (cases_lt old.config.workers v) [
      | inl l ↦ absurd (cc (kept.tabled.strangers v (inr l), t.call_open.is_open))
      | inr l ↦ l
    ],
  )

  -- what it was paid before
  was-paid : (v : ℕ) (y : OpenCall) (t : IsServing old.config old.access old.journal kept.story old.owners.items (stock_of old) v y) → IsPaidIn old.config old.access old.journal.past (stock_of old) v (errand_of y) y.task (untold old.access (doing_of old.access v)) no_extra (scene old.config old.journal.past kept.story v t.call_open.look.since t.opened).past
  was-paid v y t = paid-here b.paid old kept v y t (a-worker v y t).0 (a-worker v y t).1

  -- its task serves the call as far as it has come
  serves : Serves (errand_of x) x.task before.past
  serves = record {
    once = λ publishes. ap is_some (sym its.call_open.effect) ∙ its.tasked.laws.sound.once before waits publishes;
    later = λ effected. swaps-or-merges (kind_of x.task) (let at = some-moment x.effect effected in its.meant.later at.0 at.1) (λ look. swapless b.paid.asked x.task (entries_of old.access s) owner.asks (its.tasked.laws.looks look).swaps);
    meant = λ quiet. its.meant.meant (none-of x.effect quiet);
  }

  further : (v : ℕ) → stepper (h.mark ∷ old.journal.past) ≡ Some v → StepsFurther old.access p.access v
  further v steps = record { left = (h.stepped v steps).left; taken = h.work.taken }

  -- where its worker made the act by which its own swap took effect, it is paid for, and for the mark of that if there is one
  pub own-paid : stepper (h.mark ∷ old.journal.past) ≡ Some w → IsPaidIn old.config p.access (h.mark ∷ old.journal.past) (stock_of old) w (effected_by (publishing_of x.task) (errand_of x)) x.task 1 (λ r. mark_of_effect r (publishing_of x.task)) later.past
  own-paid steps = own-in b.paid old.config old.access p.access old.journal.past h.mark (stock_of old) w (errand_of x) x.task (entries_of old.access s) before (effect_instant old.config p.access (kept.story.at (length old.journal.past))) later.past
      (record { laws = its.tasked.laws; good = before-seen.scene; config = sym its.tasked.config; knows = waits; asks = owner.asks; leads = took-place.swaps (omega (arith, few, kept.living.effects)) })
      serves its.meant.fit.words
      (next-is old.config old.journal.past h.mark kept.story after w its.call_open.look.since its.opened opened (effect_instant old.config p.access (kept.story.at (length old.journal.past))) 1 refl its.call_open.look.by_now refl takes-effect.continues)
      (now-is kept.story.at (length old.journal.past) (effect_instant old.config p.access (kept.story.at (length old.journal.past))))
      steps (further w steps) (let stepped : StepsAt old.access p.access w s = h.stepped w steps in omega (arith, stepped.rivals))
      (subst (λ u. IsPaidIn old.config old.access old.journal.past (stock_of old) w (errand_of x) x.task u no_extra before.past) (ap (untold old.access) h.takes.effect.pending ∙ ap (λ (z : Bool). if z then 1 else 0) h.takes.effect.before) (was-paid w x its))

  -- no other worker does this swap
  other-swap : (v : ℕ) → v ≢ w → (t : ℕ) → doing_of old.access v ≡ Swapping t → t ≢ s
  other-swap v ne t doing e = ne (sym (is-owner old kept v s (doing ∙ ap Swapping e)).owner ∙ owner.owner)

  same-other : (v : ℕ) → v ≢ w → SameFor old.access p.access v
  same-other v ne = record {
    doing = h.work.doing v;
    begun = h.takes.same.begun;
    taken = h.work.taken;
    size = h.work.size;
    effects = λ t d. h.takes.effect.other_swaps t (other-swap v ne t d);
  }

  -- no other does it
  not-own : (d : Doing) → ((t : ℕ) → d ≡ Swapping t → t ≢ s) → is_own d s ≡ false
  not-own Idle ne = refl
  not-own (Reading a) ne = refl
  not-own (Swapping t) ne = let other : (t == s) ≡ false = let n : t ≢ s = ne t refl in grind (arith, nat_tests) in other
  not-own (Loading a) ne = refl
  not-own (Storing a u) ne = refl
  not-own (Flushing line) ne = refl

  lawful-other : (v : ℕ) → v ≢ w → (m : ℕ) (o : Open) → HasBegun old.journal kept.story m → IsLawful (scene old.config old.journal.past kept.story v m o) (scene old.config (h.mark ∷ old.journal.past) after v m o)
  lawful-other v ne m o begins = b.told.others old.config old.access p.access old.journal kept.story h.mark s w its.call_open.look.since its.opened (publishing_of x.task) (change_of x.task) v m o strikes-it ne begins

  -- of the worker that made the act, if that is another one, the call is paid for, and the mark of this effect too
  pub other-paid : (v : ℕ) → v ≢ w → (y : OpenCall) (t : IsServing old.config old.access old.journal kept.story old.owners.items (stock_of old) v y) → stepper (h.mark ∷ old.journal.past) ≡ Some v
      → IsPaidIn old.config p.access (h.mark ∷ old.journal.past) (stock_of old) v (errand_of y) y.task (untold p.access (doing_of p.access v)) one_mark (scene old.config (h.mark ∷ old.journal.past) after v t.call_open.look.since t.opened).past
  other-paid v ne y t steps =
      subst (λ u. IsPaidIn old.config p.access (h.mark ∷ old.journal.past) (stock_of old) v (errand_of y) y.task u one_mark (scene old.config (h.mark ∷ old.journal.past) after v t.call_open.look.since t.opened).past)
      (sym (ap (untold p.access) (same-other v ne).doing ∙ untold-by old.access p.access (doing_of old.access v) (same-other v ne).effects))
      (foreign-in b.paid old.config old.access p.access old.journal.past h.mark (stock_of old) v (errand_of y) y.task (untold old.access (doing_of old.access v)) (scene old.config old.journal.past kept.story v t.call_open.look.since t.opened).past
      (scene old.config (h.mark ∷ old.journal.past) after v t.call_open.look.since t.opened).past
      (next-is old.config old.journal.past h.mark kept.story after v t.call_open.look.since t.opened t.opened (effect_instant old.config p.access (kept.story.at (length old.journal.past))) 1 refl t.call_open.look.by_now refl
      (lawful-other v ne t.call_open.look.since t.opened (begun-in kept.living t.call_open)).continues)
      steps (further v steps) fewer (was-paid v y t))
    where
      fewer : rivals p.access v + 1 ≤ rivals old.access v
      fewer = let l : rivals p.access v + foreign old.access v (Some s) ≤ rivals old.access v = (h.stepped v steps).rivals in
          let one : foreign old.access v (Some s) ≡ 1 = ap (λ (z : Bool). counted (not z) 1) (not-own (doing_of old.access v) (other-swap v ne)) in omega (arith, l, one)

  pub leaves : (v : ℕ) → v ≢ w → Leaves old.config old.access p.access old.journal h.mark kept.story after v
  leaves v ne = record {
    same = same-other v ne;
    calls = flush-calls v h.mark old.journal.past h.flush;
    from = refl;
    lawful = λ m o begins. lawful-other v ne m o begins;
    took = λ j. refl;
    filled = λ j e. e;
    alone = λ m o t l waits. waits-beside old.config old.access p.access old.journal.past h.mark kept.story after v m o o t (effect_instant old.config p.access (kept.story.at (length old.journal.past))) refl l waits refl (same-other v ne).doing (same-other v ne).effects;
  }

  -- none of the others is alone
  pub beside : (v : ℕ) → v ≢ w → IsSolitary v (h.mark ∷ old.journal.past) → ⊥
  beside v ne solitary = not-solitary b.solitary.alone w v (h.mark ∷ old.journal.past) its.opened (flush-calls w h.mark old.journal.past h.flush ∙ its.call_open.is_open) ne solitary

  pub others : (v : ℕ) → v ≢ w → IsSlot old.config p.access (with_mark old.journal h.mark) after old.owners.items (stock_of old) v (get_or old.workers.items v None)
  others v ne = slot-stays b.scenes b.stay old.config old.access p.access old.journal h.mark kept.story after old.owners.items (stock_of old) (stock_of old) v (get_or old.workers.items v None) living (leaves v ne)
      (λ y t runs. less-in b.paid old.config p.access (h.mark ∷ old.journal.past) (stock_of old) v (errand_of y) y.task (untold p.access (doing_of p.access v)) one_mark (scene old.config (h.mark ∷ old.journal.past) after v t.call_open.look.since t.opened).past (other-paid v ne y t (flush-runs old.config v (h.mark ∷ old.journal.past) h.flush runs)))
      (none-takes-well old.config old.access p.access old.journal h.mark kept.story after old.owners.items (stock_of old) (stock_of old) v (beside v ne)) (kept.workers v)
