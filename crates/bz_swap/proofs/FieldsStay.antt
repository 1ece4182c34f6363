-- The words of the descriptors after their statuses stay plain.
use Rattle.std.specs.Prelude.{◌≡◌, ◌≢◌, ◌⊎◌, ℕ, ◌+◌, ◌^◌, ◌<◌, length, replicate, slice_index}
use Rattle.std.proofs.Common.{arith, refl, sym, subst, ◌∙◌, inl, inr}
use Rattle.std.specs.declared.option.Option.{Option}
use Rattle.bz_layout.specs.Addresses.{swap_address}
use Rattle.bz_swap_cells.specs.FromPm.State.{State}
use Rattle.bz_swap_cells.specs.FromPm.Words.{IsMemory}
use Rattle.bz_swap_acts.specs.Rule.{IsWithin, after_act}
use Rattle.bz_swap_acts.specs.declared.acted.Act.{Act}
use Rattle.bz_swap_acts.specs.declared.acted.Act.TheVariants.{Load, Store, Cas, Ask, Fence}
use Rattle.bz_swap_cells.specs.Store.{IsOutside, field_address, field_count, status_word}
use Rattle.bz_swap_machine.specs.declared.done.Done.{Done}
use Rattle.bz_swap_machine.specs.declared.status.SwapStatus.TheVariants.{Undecided}
use Rattle.bz_swap.specs.Evictions.{IsEviction}
use Rattle.bz_swap.specs.PlainFields.{HavePlainFields, WritesPlain, PlainFieldsStay}
use Rattle.bz_swap.specs.Steps.{MayAct, IsStep, IsRawStep}
use Rattle.bz_swap.specs.SwapMemory.{SwapMemory, memory_words, memory_state}
use Rattle.bz_swap.specs.Writes.{StoresPrivate, StoresField, StoresOwn, ChangesStatus, WritesLawfully}
use Rattle.bz_swap.proofs.AllWords.{AllAre, WritesSo, all-after, none-asked}
use Rattle.bz_swap.proofs.WordActs.{set-below}

-- such a word is no word outside the descriptors, and no status
field-inside : (swaps a s k : ℕ) → IsOutside swaps a → s < swaps → k < field_count → field_address s k ≢ a
field-inside swaps a s k (inl below) lt less = omega arith
field-inside swaps a s k (inr above) lt less = omega arith

field-status : (s k t : ℕ) → k < field_count → field_address s k ≢ swap_address t
field-status s k t less = omega arith

-- what an act may write at such a word: a plain value
abbrev IsPlain : ℕ → Type 0
IsPlain x = x < 2 ^ 61

abbrev MayWrite : ℕ → Act → Type 0
MayWrite swaps made = (s k : ℕ) → s < swaps → k < field_count → WritesSo IsPlain (field_address s k) made

-- a step writes no more
may-store : (old : SwapMemory) (w a v : ℕ) → StoresPrivate old w a v ⊎ StoresOwn old w a v → MayWrite old.swaps (Store a v)
may-store old w a v (inl private) = λ s k lt less here. absurd (field-inside old.swaps a s k private.outside lt less here)
may-store old w a v (inr own) = by_word own.word
  where
    by_word : ((a ≡ swap_address own.swap) × (v ≡ status_word Undecided)) ⊎ StoresField own.swap a v → MayWrite old.swaps (Store a v)
    by_word (inl status) = λ s k lt less here. absurd (field-status s k own.swap less (here ∙ status.0))
    by_word (inr field) = λ s k lt less here. field.value

may-swap : (old : SwapMemory) (a before after found : ℕ) → IsOutside old.swaps a ⊎ ChangesStatus old a before after → (s k : ℕ) → s < old.swaps → k < field_count → field_address s k ≢ a
may-swap old a before after found (inl out) = λ s k lt less. field-inside old.swaps a s k out lt less
may-swap old a before after found (inr change) = λ s k lt less here. field-status s k change.swap less (here ∙ change.address)

may-write : (old : SwapMemory) (w : ℕ) (made : Act) → WritesLawfully old w made → MayWrite old.swaps made
may-write old w (Load a v) writes = λ s k lt less. tt
may-write old w (Store a v) writes = may-store old w a v (writes.stores a v refl)
may-write old w (Cas a before after found) writes = λ s k lt less here. absurd (may-swap old a before after found (writes.swaps a before after found refl) s k lt less here)
may-write old w (Ask line) writes = λ s k lt less. tt
may-write old w Fence writes = λ s k lt less. tt

-- the words after an act that writes no more
fields-after : (old new : SwapMemory) (w : ℕ) (made : Act) → MayAct old w → IsWithin (length old.cached) made → new.swaps ≡ old.swaps → memory_state new ≡ after_act w (memory_state old) made
    → MayWrite old.swaps made → HavePlainFields old → HavePlainFields new
fields-after old new w made may within swaps after writes plain =
    let all = λ (s k : ℕ) (lt : s < new.swaps) (less : k < field_count).
    (let below : s < old.swaps = omega (arith, lt, swaps) in
    subst (λ (m : State). AllAre IsPlain m (field_address s k)) (sym after) (all-after IsPlain old w (field_address s k) made may within (writes s k below less)
    (record { cached = plain.cached s k below less; durable = plain.durable s k below less; asked = λ v q is. plain.asked s k v q below less is }))) in
    record {
      cached = λ s k lt less. (all s k lt less).cached;
      durable = λ s k lt less. (all s k lt less).durable;
      asked = λ s k v q lt less is. (all s k lt less).asked v q is;
    }

fields-step : (old new : SwapMemory) (w : ℕ) (made : Act) (done : Done) (told : Option ℕ) → IsMemory (memory_words old) → IsStep old w made done told new → HavePlainFields old → HavePlainFields new
fields-step old new w made done told i step plain = fields-after old new w made step.one.may step.one.within step.one.others.swaps step.one.act.after (may-write old w made step.writes) plain

-- an act of a recovery writes plain words
plain-writes : (swaps : ℕ) (made : Act) → WritesPlain made → MayWrite swaps made
plain-writes swaps (Load a v) writes = λ s k lt less. tt
plain-writes swaps (Store a v) writes = λ s k lt less here. writes
plain-writes swaps (Cas a before after found) writes = λ s k lt less here. writes
plain-writes swaps (Ask line) writes = λ s k lt less. tt
plain-writes swaps Fence writes = λ s k lt less. tt

fields-recovery : (old new : SwapMemory) (w : ℕ) (made : Act) (done : Done) (told : Option ℕ) → IsMemory (memory_words old) → IsRawStep old w made done told new → WritesPlain made
    → HavePlainFields old → HavePlainFields new
fields-recovery old new w made done told i step writes plain = fields-after old new w made step.one.may step.one.within step.one.others.swaps step.one.act.after (plain-writes old.swaps made writes) plain

fields-eviction : (old new : SwapMemory) (a : ℕ) (told : Option ℕ) → IsEviction old a told new → HavePlainFields old → HavePlainFields new
fields-eviction old new a told h plain = subst HavePlainFields (sym h.is) (record {
  cached = plain.cached;
  durable = λ s k lt less. set-below old.durable a (slice_index old.cached a) (field_address s k) (2 ^ 61)
      (λ here. subst (λ b. slice_index old.cached b < 2 ^ 61) here (plain.cached s k lt less)) (plain.durable s k lt less);
  asked = plain.asked;
})

pub plain_fields_stay : PlainFieldsStay
plain_fields_stay = record {
  opening = λ phase start swaps workers plain. record { cached = plain; durable = plain; asked = λ s k w q lt less is. absurd (none-asked (workers + 1) 0 (replicate (length start) 0) (field_address s k) w q is) };
  step = fields-step;
  recovery = fields-recovery;
  eviction = fields-eviction;
  start = λ m w doing plain. record { cached = plain.cached; durable = plain.durable; asked = plain.asked };
  swap = λ m w entries plain. record { cached = plain.cached; durable = plain.durable; asked = plain.asked };
  cut = λ m plain. record { cached = plain.durable; durable = plain.durable; asked = λ s k w q lt less is. absurd (none-asked (length m.past.asks) 0 (replicate (length m.past.since) 0) (field_address s k) w q is) };
  renewal = λ m plain. record { cached = plain.cached; durable = plain.durable; asked = plain.asked };
}
