-- What steps of a worker, its starts and evictions leave of what the others do.
use Rattle.std.specs.Prelude.{◌≡◌, ◌≢◌, ℕ, length, Option, None, Some, true, false}
use Rattle.std.proofs.Common.{refl, ap, ◌∙◌, inl, inr}
use Rattle.std.proofs.lemmas.Bool.{cases_eq}
use Rattle.std.proofs.lemmas.List.{get_or-set_other, length-set}
use Rattle.bz_swap_acts.specs.declared.acted.Act.{Act}
use Rattle.bz_swap_machine.specs.declared.done.Done.{Done}
use Rattle.bz_swap.specs.declared.phase.Phase.{Phase}
use Rattle.bz_swap.specs.declared.phase.Phase.TheVariants.{Opened, Running, Recovering}
use Rattle.bz_swap.specs.Effects.{EffectIs}
use Rattle.bz_swap.specs.Evictions.{IsEviction, EvictsIn}
use Rattle.bz_swap.specs.Starts.{started}
use Rattle.bz_swap.specs.Steps.{IsOneAct}
use Rattle.bz_swap.specs.SwapMemory.{SwapMemory, Doing, Working, idle, has_effect, doing_of}

-- as many workers as before, of whom all but worker w do what they did
pub record IsFrame (old new : SwapMemory) (w : ℕ) : Type 0 where
  pub count : length new.workers ≡ length old.workers
  pub others : (v : ℕ) → v ≢ w → doing_of new v ≡ doing_of old v

pub frame-act : (old new : SwapMemory) (w : ℕ) (made : Act) (done : Done) → IsOneAct old w made done new → IsFrame old new w
frame-act old new w made done one = record {
  count = one.others.count;
  others = λ v other. ap (λ (u : Working). u.doing) (one.others.workers v other);
}

pub frame-eviction : (old new : SwapMemory) (w a : ℕ) (told : Option ℕ) → IsEviction old a told new → IsFrame old new w
frame-eviction old new w a told h = record {
  count = ap (λ (m : SwapMemory). length m.workers) h.is;
  others = λ v other. ap (λ (m : SwapMemory). doing_of m v) h.is;
}

pub frame-start : (m : SwapMemory) (w : ℕ) (doing : Doing) → IsFrame m (started m w doing) w
frame-start m w doing = record {
  count = length-set m.workers w (record { doing = doing; flush_next = false });
  others = λ v other. ap (λ (u : Working). u.doing) (get_or-set_other m.workers w v (record { doing = doing; flush_next = false }) idle other);
}

-- outside a recovery time an eviction tells its effect
evicts-in : (phase : Phase) (old new : SwapMemory) (told : Option ℕ) → phase ≢ Recovering → EvictsIn phase old told new → EffectIs old new told
evicts-in Opened old new told not effect = effect
evicts-in Running old new told not effect = effect
evicts-in Recovering old new told not effect = absurd (not refl)

pub eviction-effect : (old new : SwapMemory) (a : ℕ) (told : Option ℕ) → old.phase ≢ Recovering → IsEviction old a told new → EffectIs old new told
eviction-effect old new a told not h = evicts-in old.phase old new told not h.effect

-- an effect stays
pub effect-stays : (old new : SwapMemory) (told : Option ℕ) (s : ℕ) → EffectIs old new told → has_effect old s ≡ true → has_effect new s ≡ true
effect-stays old new None s quiet had = quiet.swaps s ∙ had
effect-stays old new (Some t) s takes had = elim (cases_eq s t) [
  | inl same ↦ rw same takes.done
  | inr other ↦ takes.other_swaps s other ∙ had
]
