-- A step, as callers see it.
use Rattle.std.specs.Prelude.{◌≡◌, ◌≢◌, ◌&&◌, if◌then◌else◌, not, ℕ, ◌<◌, Bool, true, false, None, Some}
use Rattle.std.specs.declared.option.Option.{Option}
use Rattle.std.proofs.Common.{refl, ap, sym, subst, ◌∙◌, inl, inr}
use Rattle.bz_swap_machine.specs.declared.worker.Worker.{Worker}
use Rattle.bz_swap_machine.specs.declared.done.Done.{Done}
use Rattle.bz_swap_machine.specs.declared.done.Done.TheVariants.{Busy}
use Rattle.bz_swap_machine.specs.Content as machine
use Rattle.bz_swap_machine.specs.Machine.{Entries, Memory, is_succeeded}
use Rattle.bz_swap_machine.specs.Promise.{EffectIs as MachineEffectIs}
use Rattle.bz_swap_machine.specs.State.{Act}
use Rattle.bz_swap_machine.specs.Steps.{effect_of}
use Rattle.bz_swap_machine.specs.Workers.{local_of}
use Rattle.bz_swap_machine.proofs.EventLaws.{acts_atomically}
use Rattle.bz_swap_cells.specs.Store.{Store, Beside, typed, status_at}
use Rattle.bz_swap_acts.specs.Made.{made}
use Rattle.bz_swap.specs.declared.phase.Phase.TheVariants.{Recovering}
use Rattle.bz_swap.specs.Effects.{EffectIs}
use Rattle.bz_swap.specs.SwapMemory.{SwapMemory, Swapping, doing_of}
use Rattle.bz_swap.specs.Inside.Parts.{Parts, worker_at, seen}
use Rattle.bz_swap.specs.Inside.Kept.{IsRunning, state_of}
use Rattle.bz_swap.proofs.Frames.{frame-act}
use Rattle.bz_swap.proofs.Pending.{pending}
use Rattle.bz_swap.proofs.Shown.{Shows, shows, quiet-shown, effect-shown}
use Rattle.bz_swap.proofs.Stepped.{Acts, MayStep, after_step}
use Rattle.bz_swap.proofs.StepRuns.{step-running}

-- the effect that a step tells
abbrev pub told_effect : Store → Store → ℕ → Option ℕ
told_effect old new s = if is_succeeded (status_at new.swaps new.durable s) && not (is_succeeded (status_at old.swaps old.durable s)) then Some s else None

-- the swap memory after the step shows the machine's memory after the act
pub after-shows : (p : Parts) (r : IsRunning p) (w : ℕ) (store : Store) (l : Worker) (done : Done) → MayStep p w → p.phase ≢ Recovering → Acts p r.beside w store l done
    → Shows (seen (after_step p w store l)) r.entries (made p.store r.beside (worker_at p w) w).memory
after-shows p r w store l done may phase a =
    let on = step-running p r w store l done may a in
    let q : Parts = after_step p w store l in
    let all = shows q on.running phase in
    subst (Shows (seen q) r.entries) (ap (typed store) on.beside ∙ a.memory) (subst (λ e. Shows (seen q) e (typed store on.running.beside)) on.entries all)

-- the effect that is told
pub told-shown : (m n : SwapMemory) (e : ℕ → Entries) (x y : Memory) (s w : ℕ) (t : Bool) → Shows m e x → Shows n e y → MachineEffectIs e x y (if t then Some s else None)
    → (machine.TakesEffect e x y s → (s < x.taken) × (doing_of m w ≡ Swapping s)) → EffectIs m n (if t then Some s else None)
told-shown m n e x y s w true f g effect own = effect-shown m n e x y s w f g effect (own effect).0 (own effect).1
told-shown m n e x y s w false f g effect own = quiet-shown m n e x y f g effect

-- the effect of a worker's own act is that of a swap that a worker does
own-effect : (p : Parts) (r : IsRunning p) (w : ℕ) (store : Store) (l : Worker) (done : Done) → MayStep p w → Acts p r.beside w store l done
    → machine.TakesEffect r.entries (typed p.store r.beside) (made p.store r.beside (worker_at p w) w).memory (worker_at p w).current
    → ((worker_at p w).current < p.store.taken) × (doing_of (seen p) (r.beside.owner (worker_at p w).current) ≡ Swapping (worker_at p w).current)
own-effect p r w store l done may a t =
    let s : ℕ = (worker_at p w).current in
    let y : Memory = (made p.store r.beside (worker_at p w) w).memory in
    let on = step-running p r w store l done may a in
    let f = frame-act (typed p.store r.beside) w (local_of (worker_at p w)) (worker_at p w).place in
    let taken : store.taken ≡ p.store.taken = ap (λ (m : Memory). m.taken) a.memory ∙ f.taken in
    let after : is_succeeded (status_at store.swaps store.durable s) ≡ true = ap (λ (m : Memory). is_succeeded (m.durable_status s)) a.memory ∙ t.done in
    let named_effect : effect_of (typed p.store r.beside) y s ≡ Some s = effect-told (typed p.store r.beside) y s t.before t.done in
    let ends = (acts_atomically (state_of p r.entries r.beside) (Act w) tt r.state).ends in
    let busy : (made p.store r.beside (worker_at p w) w).done ≡ Busy = elim ends [
      | inl busy ↦ busy
      | inr none ↦ absurd (some-not_none s (sym named_effect ∙ none))
    ] in
    pending p (after_step p w store l) r on.running s (ap (λ (b : Beside). b.answer s) on.beside ∙ f.answer busy s) taken t.before after
  where
    effect-told : (m n : Memory) (s : ℕ) → is_succeeded (m.durable_status s) ≡ false → is_succeeded (n.durable_status s) ≡ true → effect_of m n s ≡ Some s
    effect-told m n s before after = rw (before, after) refl

    some-not_none : (s : ℕ) → ◌≡◌ {A = Option ℕ} (Some s) None → ⊥
    some-not_none s is = absurd cc

-- the effect that is told is the machine's
pub told-path : (p : Parts) (r : IsRunning p) (w : ℕ) (store : Store) (l : Worker) (done : Done) → Acts p r.beside w store l done
    → told_effect p.store store (worker_at p w).current ≡ effect_of (typed p.store r.beside) (made p.store r.beside (worker_at p w) w).memory (worker_at p w).current
told-path p r w store l done a =
    let s : ℕ = (worker_at p w).current in
    ap (λ (m : Memory). if is_succeeded (m.durable_status s) && not (is_succeeded (status_at p.store.swaps p.store.durable s)) then Some s else None) a.memory

-- the effect of a step
pub step-effect : (p : Parts) (r : IsRunning p) (w : ℕ) (store : Store) (l : Worker) (done : Done) → MayStep p w → p.phase ≢ Recovering → Acts p r.beside w store l done
    → EffectIs (seen p) (seen (after_step p w store l)) (told_effect p.store store (worker_at p w).current)
step-effect p r w store l done may phase a =
    let s : ℕ = (worker_at p w).current in
    let y : Memory = (made p.store r.beside (worker_at p w) w).memory in
    let same = told-path p r w store l done a in
    let atomic = acts_atomically (state_of p r.entries r.beside) (Act w) tt r.state in
    rw same (told-shown (seen p) (seen (after_step p w store l)) r.entries (typed p.store r.beside) y s (r.beside.owner s) _
    (shows p r phase) (after-shows p r w store l done may phase a) atomic.effect (own-effect p r w store l done may a))
