-- A swap without effect at a power cut has none later, where a recovery frees descriptors only.
use Rattle.std.specs.Prelude.{◌≡◌, nat_lt, ℕ, ◌<◌, true, false, List, length, replicate, slice_index, slice_set}
use Rattle.std.specs.declared.option.Option.{Option}
use Rattle.std.proofs.Common.{arith, refl, sym, subst, inl, inr}
use Rattle.std.proofs.lemmas.Bool.{cases_lt}
use Rattle.std.proofs.lemmas.Grind.{common_steps}
use Rattle.bz_layout.specs.Addresses.{swap_address}
use Rattle.bz_swap_cells.specs.FromPm.State.{State}
use Rattle.bz_swap_cells.specs.FromPm.Words.{IsMemory}
use Rattle.bz_swap_acts.specs.declared.acted.Act.{Act}
use Rattle.bz_swap_acts.specs.declared.acted.Act.TheVariants.{Load, Store, Cas, Ask, Fence}
use Rattle.bz_swap_cells.specs.Store.{status_at, status_of}
use Rattle.bz_swap_machine.specs.declared.done.Done.{Done}
use Rattle.bz_swap_machine.specs.Machine.{is_succeeded}
use Rattle.bz_swap.specs.Evictions.{IsEviction}
use Rattle.bz_swap.specs.Settled.{IsDropped, FreesStatuses, DroppedStay}
use Rattle.bz_swap.specs.Steps.{IsRawStep}
use Rattle.bz_swap.specs.SwapMemory.{SwapMemory, memory_words, memory_state}
use Rattle.bz_swap.proofs.SettledStay.{start-settled, cut-settled}
use Rattle.bz_swap.proofs.StillDone.{step-before}
use Rattle.bz_swap.proofs.AllWords.{AllAre, WritesSo, all-after, none-asked}
use Rattle.bz_swap.proofs.WordActs.{set-keeps}

-- the word is no success that is durable as it stands
abbrev IsNone : ℕ → Type 0
IsNone x = is_succeeded (status_of x) ≡ false

none-free : IsNone 0
unfolding status_of
none-free = refl

none-word : (swaps s : ℕ) (words : List ℕ) → s < swaps → is_succeeded (status_at swaps words s) ≡ false → IsNone (slice_index words (swap_address s))
none-word swaps s words below is = (let test : nat_lt s swaps ≡ true = grind (arith, common_steps, below) in rw test at is)

-- a status whose word is none still is no success
stays-none : (swaps s : ℕ) (old new : List ℕ) → is_succeeded (status_at swaps old s) ≡ false → (s < swaps → IsNone (slice_index old (swap_address s)) → IsNone (slice_index new (swap_address s)))
    → is_succeeded (status_at swaps new s) ≡ false
stays-none swaps s old new is keeps = elim (cases_lt s swaps) [
  | inl below ↦ (let test : nat_lt s swaps ≡ true = grind (arith, common_steps, below) in rw test (keeps below (none-word swaps s old below is)))
  | inr past ↦ (let test : nat_lt s swaps ≡ false = grind (arith, common_steps, past) in rw test refl)
]

-- an act that writes free alone into statuses writes no success there
frees-so : (swaps s : ℕ) (made : Act) → s < swaps → FreesStatuses swaps made → WritesSo IsNone (swap_address s) made
frees-so swaps s (Load a v) below frees = tt
frees-so swaps s (Store a v) below frees = λ here. subst IsNone (sym (frees s below (sym here))) none-free
frees-so swaps s (Cas a before after found) below frees = λ here. subst IsNone (sym (frees s below (sym here))) none-free
frees-so swaps s (Ask line) below frees = tt
frees-so swaps s Fence below frees = tt

dropped-recovery : (old new : SwapMemory) (w : ℕ) (made : Act) (done : Done) (told : Option ℕ) (s : ℕ) → IsMemory (memory_words old) → IsRawStep old w made done told new → FreesStatuses old.swaps made
    → IsDropped old s → IsDropped new s
dropped-recovery old new w made done told s i step frees dropped = record {
  settled = record {
    begun = omega (arith, dropped.settled.begun, step.one.others.taken);
    undone = λ v doing. dropped.settled.undone v (step-before old new w made done v s step.one doing);
  };
  effect = subst (λ n. is_succeeded (status_at n new.durable s) ≡ false) (sym step.one.others.swaps) (stays-none old.swaps s old.durable new.durable dropped.effect (λ below none. (all below).durable));
  cached = subst (λ n. is_succeeded (status_at n new.cached s) ≡ false) (sym step.one.others.swaps) (stays-none old.swaps s old.cached new.cached dropped.cached (λ below none. (all below).cached));
  asked = λ v q lt is. (all (omega (arith, lt, step.one.others.swaps))).asked v q is;
}
  where
    all : s < old.swaps → AllAre IsNone (memory_state new) (swap_address s)
    all below = subst (λ (m : State). AllAre IsNone m (swap_address s)) (sym step.one.act.after) (all-after IsNone old w (swap_address s) made step.one.may step.one.within (frees-so old.swaps s made below frees) (record {
      cached = none-word old.swaps s old.cached below dropped.cached;
      durable = none-word old.swaps s old.durable below dropped.effect;
      asked = λ v q is. dropped.asked v q below is;
    }))

dropped-eviction : (old new : SwapMemory) (a : ℕ) (told : Option ℕ) (s : ℕ) → IsEviction old a told new → IsDropped old s → IsDropped new s
dropped-eviction old new a told s h dropped = subst (λ m. IsDropped m s) (sym h.is) (record {
  settled = record { begun = dropped.settled.begun; undone = dropped.settled.undone };
  effect = stays-none old.swaps s old.durable (slice_set old.durable a (slice_index old.cached a)) dropped.effect
      (λ below durable. set-keeps IsNone old.durable a (slice_index old.cached a) (swap_address s)
      (λ here. subst (λ b. IsNone (slice_index old.cached b)) here (none-word old.swaps s old.cached below dropped.cached)) durable);
  cached = dropped.cached;
  asked = dropped.asked;
})

pub dropped_stay : DroppedStay
dropped_stay = record {
  cut = λ m s begun none. record { settled = cut-settled m s begun; effect = none; cached = none; asked = λ w q lt is. absurd (none-asked (length m.past.asks) 0 (replicate (length m.past.since) 0) (swap_address s) w q is) };
  recovery = dropped-recovery;
  eviction = λ old new a told s phase h dropped. dropped-eviction old new a told s h dropped;
  start = λ m w doing s another dropped. record { settled = start-settled m w doing s another dropped.settled; effect = dropped.effect; cached = dropped.cached; asked = dropped.asked };
}
