-- What an event of the first pass leaves of the list.
use Rattle.std.proofs.Common.{◌≡◌, ℕ, ◌⊎◌, inl, inr, ⊎_elim, ◌∷◌, refl, sym, ap, subst, Option, Some, None}
use Rattle.std.specs.Prelude.{MatchOption}
use Rattle.bz_index.specs.Passes.{IsEventOfFirst}
use Rattle.bz_index.proofs.Leaves.{Leaves, leaves-same, leaves-trans, leaves-any, leaves-mark, leaves-struck, leaves-steps, leaves-recovers}
use Rattle.bz_mark.specs.declared.marks.Mark.TheVariants.{Evict, Cut, On}
use Rattle.bz_mark.specs.declared.power.Power.{Power}
use Rattle.bz_mark.specs.declared.power.Power.TheVariants as power
use Rattle.bz_world.specs.WorldView.{WorldView, power_in, step_refusal, evict_refusal, cut_refusal, on_refusal, StepsBy, Evicts, IsApplied}
use Rattle.bz_world.specs.declared.answers.Applied.{Applied}
use Rattle.bz_world.specs.declared.answers.Event.{Event}
use Rattle.bz_world.specs.declared.answers.Event.TheVariants as event

module _ (old : WorldView) (w : ℕ) (answer : Applied) (new : WorldView) where
  abbrev Refuses : Applied → Type 0
  Refuses refusal = (answer ≡ refusal) × (new ≡ old)

  either : {A : Type 0} (o : Option Applied) → MatchOption o A Refuses → A ⊎ (new ≡ old)
  either None h = inl h
  either (Some refusal) h = inr h.1

  same_leaves : new ≡ old → Leaves 0 old.log new.log
  same_leaves same = leaves-same 0 old.log new.log (ap (λ (lab : WorldView). lab.log) same)

  by_steps : (p : Power) → w ≡ 0 → StepsBy p old w answer new → Leaves 0 old.log new.log
  by_steps power.Off zeroth h = subst (λ (v : ℕ). Leaves v old.log new.log) zeroth (leaves-steps old w answer new h)
  by_steps power.Recovering zeroth h = leaves-recovers old answer new h
  by_steps power.On zeroth h = subst (λ (v : ℕ). Leaves v old.log new.log) zeroth (leaves-steps old w answer new h)

  pub leaves-recovery : w ≡ 0 → IsApplied old (event.Step w) answer new → Leaves 0 old.log new.log
  leaves-recovery zeroth h = ⊎_elim (by_steps (power_in old) zeroth) same_leaves (either (step_refusal old w) h)

  leaves-evicted : (a : ℕ) → Evicts old a answer new → Leaves 0 old.log new.log
  leaves-evicted a h =
      subst (λ (lab : WorldView). Leaves 0 old.log lab.log) (sym h.rest)
      (leaves-trans 0 _ _ _ (leaves-mark 0 (Evict a) old.log refl (inl refl)) (leaves-any 0 _ _ (leaves-struck old.log (Evict a ∷ old.log.past) h.past h.effect)))

  pub leaves-eviction : (a : ℕ) → IsApplied old (event.Evict a) answer new → Leaves 0 old.log new.log
  leaves-eviction a h = ⊎_elim (leaves-evicted a) same_leaves (either (evict_refusal old a) h)

  pub leaves-cut : IsApplied old event.Cut answer new → Leaves 0 old.log new.log
  leaves-cut h = ⊎_elim
      (λ made. subst (λ (lab : WorldView). Leaves 0 old.log lab.log) (sym made.1) (leaves-mark 0 Cut old.log refl (inl refl)))
      same_leaves
      (either (cut_refusal old) h)

  pub leaves-on : IsApplied old event.On answer new → Leaves 0 old.log new.log
  leaves-on h = ⊎_elim
      (λ made. subst (λ (lab : WorldView). Leaves 0 old.log lab.log) (sym made.1) (leaves-mark 0 On old.log refl (inl refl)))
      same_leaves
      (either (on_refusal old) h)

-- an event of the first pass adds entries of its own or of nobody
pub leaves-event : (old : WorldView) (e : Event) (answer : Applied) (new : WorldView) → IsEventOfFirst e → IsApplied old e answer new → Leaves 0 old.log new.log
leaves-event old (event.Step w) answer new first h = leaves-recovery old w answer new first h
leaves-event old (event.Evict a) answer new first h = leaves-eviction old 0 answer new a h
leaves-event old event.Cut answer new first h = leaves-cut old 0 answer new h
leaves-event old event.On answer new first h = leaves-on old 0 answer new h
