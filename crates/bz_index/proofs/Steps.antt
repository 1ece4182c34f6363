-- What a step of a worker does.
use Rattle.std.proofs.Common.{◌≡◌, ℕ, zero, suc, ◌<◌, ◌≤◌, ◌⊎◌, inl, inr, ⊎_elim, Bool, true, false, refl, sym, ap, subst, arith, ltb-true, Option, Some, None}
use Rattle.std.specs.Prelude.{if◌then◌else◌, is_none, nat_lt, MatchOption}
use Rattle.bz_index.proofs.Leaves.{Leaves, leaves-same, leaves-steps}
use Rattle.bz_sound.specs.Calls.{Open, open_call}
use Rattle.bz_mark.specs.declared.power.Power.{Power}
use Rattle.bz_mark.specs.declared.power.Power.TheVariants as power
use Rattle.bz_world.specs.WorldView.{WorldView, is_short, power_in, step_by, Steps, StepsBy, IsApplied}
use Rattle.bz_world.specs.declared.answers.Applied.{Applied}
use Rattle.bz_world.specs.declared.answers.Applied.TheVariants as applied
use Rattle.bz_world.specs.declared.answers.Event.TheVariants as event

-- what a refusal of a worker's step tells of the world
abbrev pub RefusalTells : WorldView → ℕ → Applied → Type 0
RefusalTells old w applied.Limit = is_short old.log ≡ true
RefusalTells old w applied.Off = power_in old ≡ power.Off
RefusalTells old w applied.Recovering = power_in old ≡ power.Recovering
RefusalTells old w applied.Idle = open_call w old.log.past ≡ None
RefusalTells old w other = ⊥

-- a step that was made, of an open call
pub record Makes (old : WorldView) (w : ℕ) (answer : Applied) (new : WorldView) : Type 0 where
  pub opened : Open
  pub is_open : open_call w old.log.past ≡ Some opened
  pub steps : Steps old w answer new

module _ (old : WorldView) (w : ℕ) (answer : Applied) (new : WorldView) where
  abbrev Read : Type 0
  Read = Makes old w answer new ⊎ ((new ≡ old) × RefusalTells old w answer)

  abbrev Refuses : Applied → Type 0
  Refuses refusal = (answer ≡ refusal) × (new ≡ old)

  refused : (refusal : Applied) → RefusalTells old w refusal → Refuses refusal → Read
  refused refusal tells (is, same) = inr (same, subst (RefusalTells old w) (sym is) tells)

  by_open : (o : Option Open) → open_call w old.log.past ≡ o → MatchOption (if is_none o then Some applied.Idle else None) (Steps old w answer new) Refuses → Read
  by_open None is h = refused applied.Idle is h
  by_open (Some opened) is h = inl (record { opened = opened; is_open = is; steps = h })

  by_power : (p : Power) → power_in old ≡ p → 0 < w → MatchOption (step_by p old w) (StepsBy p old w answer new) Refuses → Read
  by_power power.Off is some h = refused applied.Off is h
  by_power power.Recovering is some h = in_recovery w some is h
    where
      in_recovery : (v : ℕ) → 0 < v → power_in old ≡ power.Recovering → MatchOption (step_by power.Recovering old v) (StepsBy power.Recovering old w answer new) Refuses → Read
      in_recovery zero some is h = absurd (omega arith)
      in_recovery (suc v) some is h = refused applied.Recovering is h
  by_power power.On is some h = by_open (open_call w old.log.past) refl h

  by_room : (b : Bool) → is_short old.log ≡ b → 0 < w → MatchOption (if b then Some applied.Limit else step_by (power_in old) old w) (StepsBy (power_in old) old w answer new) Refuses → Read
  by_room true is some h = refused applied.Limit is h
  by_room false is some h = by_power (power_in old) refl some h

  by_worker : (b : Bool) → nat_lt old.config.workers w ≡ b → 0 < w → w ≤ old.config.workers
      → MatchOption (if b then Some applied.NoWorker else (if is_short old.log then Some applied.Limit else step_by (power_in old) old w)) (StepsBy (power_in old) old w answer new) Refuses → Read
  by_worker true is some within h = (let beyond : old.config.workers < w = ltb-true old.config.workers w is in absurd (omega arith))
  by_worker false is some within h = by_room (is_short old.log) refl some h

  pub read_step : 0 < w → w ≤ old.config.workers → IsApplied old (event.Step w) answer new → Read
  read_step some within h = by_worker (nat_lt old.config.workers w) refl some within h

  -- a step of a worker adds entries of its own or of nobody
  pub leaves-step : 0 < w → w ≤ old.config.workers → IsApplied old (event.Step w) answer new → Leaves w old.log new.log
  leaves-step some within h = ⊎_elim
      (λ made. leaves-steps old w answer new made.steps)
      (λ stays. leaves-same w old.log new.log (ap (λ (lab : WorldView). lab.log) stays.0))
      (read_step some within h)
