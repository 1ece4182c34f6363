-- A step and an eviction as events of the atomic swap memory.
use Rattle.std.specs.Prelude.{◌≡◌, ◌≢◌, ◌⊎◌, ◌==◌, nat_lt, ℕ, ◌<◌, Bool, true, false, slice_index, slice_set, Some, None}
use Rattle.std.specs.declared.option.Option.{Option}
use Rattle.std.proofs.Common.{arith, refl, ap, sym, subst, ◌∙◌, inl, inr}
use Rattle.std.proofs.lemmas.Bool.{cases_eq, cases_lt}
use Rattle.std.proofs.lemmas.Grind.{common_steps}
use Rattle.bz_swap_machine.specs.Pending.{Saved, fenced_value}
use Rattle.bz_swap_cells.specs.FromPm.State.{State}
use Rattle.bz_swap_cells.proofs.FromPm.Fences as memory
use Rattle.bz_swap_cells.proofs.Pasts.{settled-fence}
use Rattle.bz_swap_acts.specs.Rule.{after_act}
use Rattle.bz_swap_acts.specs.declared.acted.Act.{Act}
use Rattle.bz_swap_acts.specs.declared.acted.Act.TheVariants.{Load, Store, Cas, Ask, Fence}
use Rattle.bz_swap_cells.specs.Store.{IsOutside, word_pending}
use Rattle.bz_swap.specs.Atomic.{value_of, WasAsked, Event, Quiet, Effect, changes, Happens}
use Rattle.bz_swap.specs.Effects.{NoneTakesEffect, TakesEffect}
use Rattle.bz_swap.specs.Held.{IsHeld}
use Rattle.bz_swap.specs.Steps.{MayAct}
use Rattle.bz_swap.specs.SwapMemory.{SwapMemory, memory_state, value_at, is_named}
use Rattle.bz_swap.specs.declared.phase.Phase.TheVariants.{Recovering}
use Rattle.bz_swap.proofs.AtomicValues.{value-named, value-private, entry-named}
use Rattle.bz_swap.proofs.WordActs.{set-keeps}

-- a durable word is what it was, what stands in the caches, or what a worker had asked for
abbrev pub IsLeft : SwapMemory → SwapMemory → ℕ → Type 0
IsLeft old new a = (slice_index new.durable a ≡ slice_index old.durable a) ⊎ (slice_index new.durable a ≡ slice_index new.cached a) ⊎ WasAsked old a (slice_index new.durable a)

-- what an act and an eviction leave as it was besides their event
pub record IsFrame (old new : SwapMemory) (event : Event) : Type 0 where
  pub working : old.phase ≢ Recovering
  pub works : new.phase ≢ Recovering
  pub held : IsHeld old
  pub holds : IsHeld new
  pub swaps : new.swaps ≡ old.swaps
  pub begun : new.begun ≡ old.begun
  pub cached : (a : ℕ) → IsOutside old.swaps a → is_named old a ≡ false → changes old event a ≡ false → slice_index new.cached a ≡ slice_index old.cached a
  pub durable : (a : ℕ) → IsLeft old new a

pub same-named : (old new : SwapMemory) (event : Event) (a : ℕ) (b : Bool) → IsFrame old new event → is_named old a ≡ b → is_named new a ≡ b
same-named old new event a b f is = ap (λ begun. is_named (record new { begun = begun }) a) f.begun ∙ is

-- the values of addresses that the event does not change
pub others-kept : (old new : SwapMemory) (event : Event) → IsFrame old new event → ((a : ℕ) → is_named old a ≡ true → changes old event a ≡ false → value_at new a ≡ value_at old a)
    → (a : ℕ) → IsOutside old.swaps a → changes old event a ≡ false → value_of new a ≡ value_of old a
others-kept old new event f values a out other = by_name (is_named old a) refl
  where
    by_name : (b : Bool) → is_named old a ≡ b → value_of new a ≡ value_of old a
    by_name true named = value-named new a (same-named old new event a true f named) ∙ values a named other ∙ sym (value-named old a named)
    by_name false private = value-private new a f.works (same-named old new event a false f private) ∙ f.cached a out private other ∙ sym (value-private old a f.working private)

-- what a power cut leaves
pub left-kept : (old new : SwapMemory) (event : Event) → IsFrame old new event → (a : ℕ) → IsOutside old.swaps a → (value_at new a ≡ value_at old a) ⊎ (value_at new a ≡ value_of new a) ⊎ WasAsked old a (value_at new a)
left-kept old new event f a out = by_name (is_named old a) refl
  where
    private-left : is_named old a ≡ false → IsLeft old new a → (value_at new a ≡ value_at old a) ⊎ (value_at new a ≡ value_of new a) ⊎ WasAsked old a (value_at new a)
    private-left private was =
        let now = same-named old new event a false f private in
        let after = (f.holds.private a (subst (λ n. IsOutside n a) (sym f.swaps) out) now).1 in
        elim was [
          | inl same ↦ inl (after ∙ same ∙ sym (f.held.private a out private).1)
          | inr (inl saved) ↦ inr (inl (after ∙ saved ∙ sym (value-private new a f.works now)))
          | inr (inr asked) ↦ inr (inr (rw after asked))
        ]

    by_name : (b : Bool) → is_named old a ≡ b → (value_at new a ≡ value_at old a) ⊎ (value_at new a ≡ value_of new a) ⊎ WasAsked old a (value_at new a)
    by_name true named = inr (inl (sym (value-named new a (same-named old new event a true f named))))
    by_name false private = private-left private (f.durable a)

-- nothing, or the effect of a swap
pub quiet-happens : (old new : SwapMemory) → IsFrame old new Quiet → NoneTakesEffect old new → Happens old Quiet new
quiet-happens old new f quiet = record {
  changed = tt;
  others = others-kept old new Quiet f (λ a named other. quiet.values a named);
  effects = quiet.swaps;
  left = left-kept old new Quiet f;
}

pub effect-happens : (old new : SwapMemory) (s : ℕ) → IsFrame old new (Effect s) → TakesEffect old new s → Happens old (Effect s) new
effect-happens old new s f takes = record {
  changed = (
    takes.before,
    λ k d below. value-named old _ (entry-named old s k d below) ∙ takes.expected k d below,
    λ k d below. value-named new _ (same-named old new (Effect s) _ true f (entry-named old s k d below)) ∙ takes.value k d below,
  );
  others = others-kept old new (Effect s) f takes.others;
  effects = λ t. elim (cases_eq s t) [
    | inl same ↦ (let test : (s == t) ≡ true = grind (arith, common_steps, same) in rw test (rw (← same) takes.done))
    | inr other ↦ (let test : (s == t) ≡ false = grind (arith, common_steps, other) in rw test (takes.other_swaps t (λ is. other (sym is))))
  ];
  left = left-kept old new (Effect s) f;
}

-- the word that a fence leaves is what it was, or what the worker had asked for
fenced-left : (durable since : ℕ) (o : Option (Saved ℕ)) → (fenced_value durable since o ≡ durable) ⊎ ((q : Saved ℕ) × (o ≡ Some q) × (since < q.moment) × (fenced_value durable since o ≡ q.value))
fenced-left durable since None = inl refl
fenced-left durable since (Some q) = elim (cases_lt since q.moment) [
  | inl later ↦ (let test : nat_lt since q.moment ≡ true = grind (arith, common_steps, later) in inr (q, refl, later, rw test refl))
  | inr past ↦ (let test : nat_lt since q.moment ≡ false = grind (arith, common_steps, past) in inl (rw test refl))
]

-- the durable words after an act
pub durable-act : (old new : SwapMemory) (w : ℕ) (made : Act) (a : ℕ) → MayAct old w → memory_state new ≡ after_act w (memory_state old) made → IsLeft old new a
durable-act old new w (Load b v) a may after = inl (ap (λ (m : State). slice_index m.words.durable a) after)
durable-act old new w (Store b v) a may after = inl (ap (λ (m : State). slice_index m.words.durable a) after)
durable-act old new w (Cas b before now found) a may after = inl (ap (λ (m : State). slice_index m.words.durable a) after)
durable-act old new w (Ask line) a may after = inl (ap (λ (m : State). slice_index m.words.durable a) after)
durable-act old new w Fence a may after =
    let f = memory.fence (memory_state old) w may.state may.worker in
    let is : slice_index new.durable a ≡ fenced_value (slice_index old.durable a) (word_pending old.past a).since ((word_pending old.past a).asked w) =
    ap (λ (m : State). slice_index m.words.durable a) after ∙ settled-fence (memory_state old) _ w f a in
    elim (fenced-left (slice_index old.durable a) (word_pending old.past a).since ((word_pending old.past a).asked w)) [
      | inl same ↦ inl (is ∙ same)
      | inr (q, asked, later, value) ↦ inr (inr (w, q, asked, later, is ∙ value))
    ]

-- and after an eviction
pub durable-evicted : (m : SwapMemory) (e a : ℕ)
    → (slice_index (slice_set m.durable e (slice_index m.cached e)) a ≡ slice_index m.durable a) ⊎ (slice_index (slice_set m.durable e (slice_index m.cached e)) a ≡ slice_index m.cached a)
durable-evicted m e a = set-keeps (λ x. (x ≡ slice_index m.durable a) ⊎ (x ≡ slice_index m.cached a)) m.durable e (slice_index m.cached e) a (λ here. inr (ap (slice_index m.cached) (sym here))) (inl refl)
