-- An act of a worker by which a swap takes effect.
use Rattle.std.proofs.Common.{◌≡◌, ◌⊎◌, ℕ, ◌/◌, ◌<◌, ◌∷◌, length, sym, ap, subst, ◌∙◌, inl, inr, Some, None}
use Rattle.std.specs.Prelude.{get_or}
use Rattle.std.proofs.lemmas.Bool.{cases_eq}
use Rattle.bz_swap_acts.specs.declared.acted.Act.{Act}
use Rattle.bz_swap_acts.specs.declared.acted.Act.TheVariants.{Store, Fence}
use Rattle.bz_swap_machine.specs.declared.done.Done.{Done}
use Rattle.bz_swap_machine.specs.declared.done.Done.TheVariants.{Busy}
use Rattle.bz_layout.specs.Addresses.{swap_address}
use Rattle.bz_rivals.specs.Wins.{OwnSwapsWin}
use Rattle.bz_sight.specs.Acts.{EffectStepsTakePlace}
use Rattle.bz_sound.specs.Memory.Moments.{IsAfterFence, map_at_start}
use Rattle.bz_swap.specs.EffectPlaces.{EffectsByFlush, EffectsStayInside}
use Rattle.bz_swap.specs.Steps.{doing_after}
use Rattle.bz_swap.specs.SwapMemory.{doing_of}
use Rattle.bz_swap.specs.TakenStatuses.{TakenStatusesStay}
use Rattle.bz_rivals.specs.Laws.{RivalsFall}
use Rattle.bz_world.specs.Inside.Acted.{IsActed, IsStriking, StepsAt}
use Rattle.bz_world.specs.Inside.Kept.{IsAwake}
use Rattle.bz_world.specs.Inside.Laws.{BegunLaws}
use Rattle.bz_world.specs.WorldView.{mark_of, stepper}
use Rattle.bz_world.specs.declared.parts.Parts.{Parts}
use Rattle.bz_world.specs.declared.serving.OpenCall.{OpenCall}
use Rattle.bz_world.proofs.Owners.{pending-begun}
use Rattle.bz_world.proofs.Paid.{act-steps, who-steps}
use Rattle.bz_world.proofs.Marking.{act-marked, act-kept, act-follows}
use Rattle.bz_world.proofs.Powered.{may-act}
use Rattle.bz_world.proofs.Quiet.{some-worker, call-is-open}
use Rattle.bz_world.proofs.Stepped.{act-tabled, act-taken, held}

busy-by : (done : Done) (s : ℕ) → (done ≡ Busy) ⊎ (Some s ≡ None) → done ≡ Busy
busy-by done s (inl e) = e
busy-by done s (inr e) = absurd (cc)

pub act-strikes : EffectStepsTakePlace → EffectsStayInside → TakenStatusesStay → BegunLaws → OwnSwapsWin → RivalsFall → (old new : Parts) (w s : ℕ) (x : OpenCall) (made : Act) (done : Done) → IsAwake old → get_or old.workers.items w None ≡ Some x → IsActed old w made done (Some s) new
    → length old.journal.past < old.config.marks → IsStriking new s
act-strikes place inside taken begun wins rivals old new w s x made done k is-worker a room = record {
  before = old;
  mark = mark_of w made;
  kept = k;
  takes = place old.config (k.story.at (length old.journal.past)) old.access new.access w made done s k.living.seen a.step a.held;
  work = record { doing = doing; taken = a.step.one.others.taken; size = a.step.one.others.size };
  tabled = act-tabled old new w made done (Some s) k.tabled a room;
  taken = act-taken taken begun old new w made done (Some s) k.taken (held old.access k.living.seen.phase k.living.seen.holds) k.living.seen.swaps a (some-worker old k w x is-worker) (pending-begun old k) (λ d v is from. absurd (let never : Store d v ≡ Fence = sym is ∙ flushed.act in cc never));
  marked = act-marked w old.access new.access old.journal made done k.living.words k.living.past a.step.one;
  past = act-kept w old.access new.access old.journal made done k.living.words k.living.past a.step.one;
  flush = subst (λ (z : Act). IsAfterFence (mark_of w z ∷ old.journal.past)) (sym flushed.act) tt;
  decided = flushed.taken;
  follows = act-follows _ (map_at_start old.config old.journal.start) old.journal.past w made (may-act old.at_start old.journal.past w (some-worker old k w x is-worker) (call-is-open old k w x is-worker));
  unnoted = λ t well. wins.unnoted old.access new.access w made done (Some s) t a.step well;
  stepped = λ v steps. subst (λ u. StepsAt old.access new.access u s) (sym (who-steps v w (stepper (mark_of w made ∷ old.journal.past)) (act-steps w made old.journal.past) steps))
      (record { left = a.step.one.spent; rivals = rivals.step old.access new.access w made done (Some s) a.step });
  rest = a.rest;
}
  where
    flushed : EffectsByFlush old.access new.access made s
    flushed = inside.step old.access new.access w made done s (held old.access k.living.seen.phase k.living.seen.holds).memory a.step

    doing : (v : ℕ) → doing_of new.access v ≡ doing_of old.access v
    doing v = elim (cases_eq v w) [
      | inl e ↦ subst (λ u. doing_of new.access u ≡ doing_of old.access u) (sym e) (a.step.one.doing ∙ ap (doing_after (doing_of old.access w)) (busy-by done s a.step.later))
      | inr ne ↦ ap (λ z. z.doing) (a.step.one.others.workers v ne)
    ]
