-- A swap takes effect in its descriptor alone.
use Rattle.std.specs.Prelude.{◌≡◌, ◌≢◌, ◌⊎◌, nat_lt, ℕ, ◌<◌, true, false, slice_index, Some}
use Rattle.std.proofs.Common.{arith, refl, ap, sym, subst, ◌∙◌, inl, inr}
use Rattle.std.proofs.lemmas.Bool.{cases_eq, cases_lt, true≢false}
use Rattle.std.proofs.lemmas.Grind.{common_steps}
use Rattle.bz_layout.specs.Addresses.{swap_address}
use Rattle.bz_swap_machine.specs.declared.done.Done.{Done}
use Rattle.bz_swap_machine.specs.Machine.{is_succeeded}
use Rattle.bz_swap_cells.specs.FromPm.Words.{IsMemory}
use Rattle.bz_swap_acts.specs.declared.acted.Act.{Act}
use Rattle.bz_swap_cells.specs.Store.{IsOutside, status_of}
use Rattle.bz_swap.specs.declared.phase.Phase.{Phase}
use Rattle.bz_swap.specs.declared.phase.Phase.TheVariants.{Opened, Running, Recovering}
use Rattle.bz_swap.specs.EffectPlaces.{EffectsByFlush, EffectsByEviction, EffectsStayInside}
use Rattle.bz_swap.specs.Effects.{TakesEffect}
use Rattle.bz_swap.specs.Evictions.{IsEviction, EvictsIn}
use Rattle.bz_swap.specs.Steps.{IsStep}
use Rattle.bz_swap.specs.SwapMemory.{SwapMemory, memory_words, has_effect}
use Rattle.bz_swap.proofs.WordActs.{set-other, set-keeps}

-- a word outside the descriptors is no status
outside-status : (swaps a s : ℕ) → IsOutside swaps a → s < swaps → a ≢ swap_address s
outside-status swaps a s (inl below) lt = omega arith
outside-status swaps a s (inr above) lt = omega arith

-- the swap is one of the memory
effect-number : (new : SwapMemory) (s : ℕ) → has_effect new s ≡ true → s < new.swaps
effect-number new s done = elim (cases_lt s new.swaps) [
  | inl below ↦ below
  | inr past ↦ (let none : nat_lt s new.swaps ≡ false = grind (arith, common_steps) in absurd (true≢false (sym done ∙ rw none refl)))
]

-- the word of a success is not 0
success-some : (x : ℕ) → is_succeeded (status_of x) ≡ true → x ≡ 0 → ⊥
unfolding status_of
success-some x done zero = (let never : is_succeeded (status_of 0) ≡ true = subst (λ y. is_succeeded (status_of y) ≡ true) zero done in true≢false (sym never))

-- where its durable status stays, it takes no effect
no-effect : (old new : SwapMemory) (s : ℕ) → new.swaps ≡ old.swaps → TakesEffect old new s → slice_index new.durable (swap_address s) ≡ slice_index old.durable (swap_address s) → ⊥
no-effect old new s swaps t same =
    let number = effect-number new s t.done in
    let before : nat_lt s old.swaps ≡ true = grind (arith, common_steps, number, swaps) in
    let after : nat_lt s new.swaps ≡ true = grind (arith, common_steps, number) in
    let succeeds : is_succeeded (status_of (slice_index new.durable (swap_address s))) ≡ true = rw after at t.done in
    let not : is_succeeded (status_of (slice_index old.durable (swap_address s))) ≡ false = rw before at t.before in
    true≢false (sym succeeds ∙ ap (λ x. is_succeeded (status_of x)) same ∙ not)

-- an act that gives a swap its effect
effect-step : (old new : SwapMemory) (w : ℕ) (made : Act) (done : Done) (s : ℕ) → IsMemory (memory_words old) → IsStep old w made done (Some s) new → EffectsByFlush old new made s
effect-step old new w made done s i step = record {
  number = rw step.one.others.swaps at (effect-number new s step.effect.done);
  act = (step.inside s refl).0;
  outside = (step.inside s refl).1;
  taken = (step.inside s refl).2;
}

-- an eviction that does
takes-effect : (phase : Phase) (old new : SwapMemory) (s : ℕ) → EvictsIn phase old (Some s) new → TakesEffect old new s
takes-effect Opened old new s t = t
takes-effect Running old new s t = t
takes-effect Recovering old new s t = absurd cc

effect-eviction : (old new : SwapMemory) (a s : ℕ) → IsEviction old a (Some s) new → EffectsByEviction old new a s
effect-eviction old new a s h = by_address (cases_eq a (swap_address s))
  where
    t : TakesEffect old new s
    t = takes-effect old.phase old new s h.effect

    swaps : new.swaps ≡ old.swaps
    swaps = ap (λ (m : SwapMemory). m.swaps) h.is

    number : s < old.swaps
    number = rw swaps at (effect-number new s t.done)

    elsewhere : (b : ℕ) → b ≢ a → slice_index new.durable b ≡ slice_index old.durable b
    elsewhere b other = ap (λ (m : SwapMemory). slice_index m.durable b) h.is ∙ set-other old.durable a (slice_index old.cached a) b other

    copied : (slice_index new.durable (swap_address s) ≡ slice_index old.cached (swap_address s)) ⊎ (slice_index new.durable (swap_address s) ≡ slice_index old.durable (swap_address s))
    copied = subst (λ (m : SwapMemory). (slice_index m.durable (swap_address s) ≡ slice_index old.cached (swap_address s)) ⊎ (slice_index m.durable (swap_address s) ≡ slice_index old.durable (swap_address s))) (sym h.is)
        (set-keeps (λ x. (x ≡ slice_index old.cached (swap_address s)) ⊎ (x ≡ slice_index old.durable (swap_address s))) old.durable a (slice_index old.cached a) (swap_address s) (λ at. inl (ap (slice_index old.cached) (sym at))) (inr refl))

    succeeded : is_succeeded (status_of (slice_index new.durable (swap_address s))) ≡ true
    succeeded = (let after : nat_lt s new.swaps ≡ true = grind (arith, common_steps, number, swaps) in rw after at t.done)

    by_address : (a ≡ swap_address s) ⊎ (a ≢ swap_address s) → EffectsByEviction old new a s
    by_address (inl here) = record {
      number = number;
      address = here;
      outside = λ b out. elsewhere b (λ is. outside-status old.swaps b s out number (is ∙ here));
      taken = elim copied [
        | inl cached ↦ (λ zero. success-some (slice_index new.durable (swap_address s)) succeeded (cached ∙ (ap (λ (m : SwapMemory). slice_index m.cached (swap_address s)) (sym h.is) ∙ zero)))
        | inr same ↦ absurd (no-effect old new s swaps t same)
      ];
    }
    by_address (inr other) = absurd (no-effect old new s swaps t (elsewhere (swap_address s) (λ is. other (sym is))))

pub effects_stay_inside : EffectsStayInside
effects_stay_inside = record { step = effect-step; eviction = effect-eviction }
