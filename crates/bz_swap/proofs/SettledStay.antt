-- What is settled stays so: a swap's effect changes only while a worker does it.
use Rattle.std.specs.Prelude.{◌≡◌, ◌≢◌, ℕ, ◌<◌, true, false, List, length, None, Some}
use Rattle.std.specs.declared.option.Option.{Option}
use Rattle.std.proofs.Common.{arith, refl, ap, sym, ◌∙◌}
use Rattle.bz_word.specs.declared.entry.Entry.{Entry}
use Rattle.bz_swap_acts.specs.declared.acted.Act.{Act}
use Rattle.bz_swap_machine.specs.declared.done.Done.{Done}
use Rattle.bz_swap.specs.declared.phase.Phase.{Phase}
use Rattle.bz_swap.specs.declared.phase.Phase.TheVariants.{Opened, Running, Recovering}
use Rattle.bz_swap.specs.Effects.{EffectIs}
use Rattle.bz_swap.specs.Evictions.{IsEviction, EvictsIn}
use Rattle.bz_swap.specs.Power.{after_cut}
use Rattle.bz_swap.specs.Settled.{IsSettled, StaysSettled, SettledStay, EffectsStay}
use Rattle.bz_swap.specs.Starts.{started, swapping}
use Rattle.bz_swap.specs.Steps.{IsStep}
use Rattle.bz_swap.specs.SwapMemory.{SwapMemory, Doing, Swapping, has_effect, doing_of}
use Rattle.bz_swap.proofs.StillDone.{step-before, start-before, none-doing}

-- the effect of a settled swap is none that comes
settled-effect : (old new : SwapMemory) (told : Option ℕ) (s : ℕ) → EffectIs old new told → IsSettled old s → has_effect new s ≡ has_effect old s
settled-effect old new None s quiet settled = quiet.swaps s
settled-effect old new (Some t) s takes settled = takes.other_swaps s (λ same. settled.undone takes.worker (takes.pending ∙ ap Swapping (sym same)))

-- an effect that is there stays, and is none that comes
stays-told : (old new : SwapMemory) (told : Option ℕ) (s : ℕ) → EffectIs old new told → has_effect old s ≡ true → (has_effect new s ≡ true) × (told ≢ Some s)
stays-told old new None s quiet had = (quiet.swaps s ∙ had, λ is. absurd cc)
stays-told old new (Some t) s takes had =
    let other : s ≢ t = λ same. (let before : has_effect old s ≡ false = rw same takes.before in absurd cc) in
    (takes.other_swaps s other ∙ had, λ is. other cc)

-- outside a recovery time an eviction tells the effect
eviction-effect : (phase : Phase) (old new : SwapMemory) (told : Option ℕ) → phase ≢ Recovering → EvictsIn phase old told new → EffectIs old new told
eviction-effect Opened old new told not effect = effect
eviction-effect Running old new told not effect = effect
eviction-effect Recovering old new told not effect = absurd (not refl)

settled-step : (old new : SwapMemory) (w : ℕ) (made : Act) (done : Done) (told : Option ℕ) (s : ℕ) → IsStep old w made done told new → IsSettled old s → StaysSettled old new s
settled-step old new w made done told s step settled = record {
  settled = record {
    begun = omega (arith, settled.begun, step.one.others.taken);
    undone = λ v doing. settled.undone v (step-before old new w made done v s step.one doing);
  };
  effect = settled-effect old new told s step.effect settled;
}

settled-eviction : (old new : SwapMemory) (a : ℕ) (told : Option ℕ) (s : ℕ) → old.phase ≢ Recovering → IsEviction old a told new → IsSettled old s → StaysSettled old new s
settled-eviction old new a told s not h settled = record {
  settled = record {
    begun = omega (arith, settled.begun, ap (λ (m : SwapMemory). m.taken) h.is);
    undone = λ v doing. settled.undone v (ap (λ (m : SwapMemory). doing_of m v) (sym h.is) ∙ doing);
  };
  effect = settled-effect old new told s (eviction-effect old.phase old new told not h.effect) settled;
}

pub start-settled : (m : SwapMemory) (w : ℕ) (doing : Doing) (s : ℕ) → doing ≢ Swapping s → IsSettled m s → IsSettled (started m w doing) s
start-settled m w doing s another settled = record {
  begun = settled.begun;
  undone = λ v is. settled.undone v (start-before m w (record { doing = doing; flush_next = false }) v s another is);
}

settled-swap : (m : SwapMemory) (w : ℕ) (entries : List Entry) (s : ℕ) → IsSettled m s → StaysSettled m (swapping m w entries) s
settled-swap m w entries s settled = record {
  settled = record {
    begun = omega (arith, settled.begun);
    undone = (start-settled m w (Swapping m.taken) s next settled).undone;
  };
  effect = refl;
}
  where
    next : Swapping m.taken ≢ Swapping s
    next is = (let same : m.taken ≡ s = cc in absurd (omega (arith, same, settled.begun)))

pub cut-settled : (m : SwapMemory) (s : ℕ) → s < m.taken → IsSettled (after_cut m) s
cut-settled m s begun = record { begun = begun; undone = λ v. none-doing (length m.workers) (after_cut m) v s }

pub settled_stay : SettledStay
settled_stay = record {
  step = settled-step;
  eviction = settled-eviction;
  start = λ m w doing s another settled. record { settled = start-settled m w doing s another settled; effect = refl };
  swap = settled-swap;
  cut = λ m s begun. record { settled = cut-settled m s begun; effect = refl };
}

pub effects_stay : EffectsStay
effects_stay = record {
  step = λ old new w made done told s step had. stays-told old new told s step.effect had;
  eviction = λ old new a told s not h had. stays-told old new told s (eviction-effect old.phase old new told not h.effect) had;
}
