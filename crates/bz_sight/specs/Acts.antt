-- What the steps and evictions of a swap memory are to those who see it.
use Rattle.std.specs.Prelude.{◌≡◌, ◌≢◌, ℕ, ◌*◌, ◌<◌, true, length, Option, Some, None}
use Rattle.bz_layout.specs.Addresses.{line_of}
use Rattle.bz_layout.specs.declared.config.Config.{Config}
use Rattle.bz_swap_acts.specs.declared.acted.Act.{Act}
use Rattle.bz_swap_acts.specs.declared.acted.Act.TheVariants.{Store}
use Rattle.bz_swap_machine.specs.declared.done.Done.{Done}
use Rattle.bz_swap_machine.specs.declared.done.Done.TheVariants.{Busy, Stored, Flushed}
use Rattle.bz_swap.specs.Evictions.{IsEviction}
use Rattle.bz_swap.specs.Held.{Holds}
use Rattle.bz_swap.specs.Steps.{IsStep}
use Rattle.bz_swap.specs.SwapMemory.{SwapMemory, Storing, Flushing, doing_of, is_settled_at}
use Rattle.bz_task.specs.Instant.{Instant}
use Rattle.bz_sight.specs.Awaiting.{Awaits}
use Rattle.bz_sight.specs.Effects.{TakesPlace}
use Rattle.bz_sight.specs.Passing.{Passes, AllStay, StoresAt}
use Rattle.bz_sight.specs.Sight.{IsSeen, IsHidden}

-- a step of worker w that tells no effect; a private store goes to a hidden word
abbrev pub QuietStepsPass : Type 0
QuietStepsPass =
    (c : Config) (x : Instant) (old new : SwapMemory) (w : ℕ) (made : Act) (done : Done) → IsSeen c old x → IsStep old w made done None new → Holds new →
    ((a v : ℕ) → doing_of old w ≡ Storing a v → IsHidden c x a) → Passes c x old new

-- a step that is no private store leaves every private word in the caches
abbrev pub StepsLeaveCaches : Type 0
StepsLeaveCaches =
    (old new : SwapMemory) (w : ℕ) (made : Act) (done : Done) (told : Option ℕ) → IsStep old w made done told new → ((a v : ℕ) → doing_of old w ≢ Storing a v) → AllStay old new

-- the step of a private store, at an address of the memory
pub record IsStoring (old new : SwapMemory) (made : Act) (done : Done) (told : Option ℕ) (a v : ℕ) : Type 0 where
  pub act : made ≡ Store a v
  pub answer : done ≡ Stored
  pub quiet : told ≡ None
  pub stores : StoresAt old new a v

abbrev pub StoringStepsStore : Type 0
StoringStepsStore =
    (c : Config) (x : Instant) (old new : SwapMemory) (w : ℕ) (made : Act) (done : Done) (told : Option ℕ) (a v : ℕ) → IsSeen c old x → IsStep old w made done told new → doing_of old w ≡ Storing a v →
    a < length old.cached → IsStoring old new made done told a v

-- the last step of a private flush, which settles each word that its worker awaited
pub record HasFlushed (old new : SwapMemory) (w : ℕ) (done : Done) (line : ℕ) : Type 0 where
  pub answer : done ≡ Flushed
  pub settles : (a : ℕ) → line_of a ≡ line → Awaits old w a → is_settled_at new a ≡ true

-- the step of a private flush, of a line of the memory: it asks for the line and goes on, or it fences it
pub record IsFlushing (old new : SwapMemory) (w : ℕ) (done : Done) (told : Option ℕ) (line : ℕ) : Type 0 where
  pub quiet : told ≡ None
  pub ends : done ≢ Busy → HasFlushed old new w done line

abbrev pub FlushingStepsFlush : Type 0
FlushingStepsFlush =
    (c : Config) (x : Instant) (old new : SwapMemory) (w : ℕ) (made : Act) (done : Done) (told : Option ℕ) (line : ℕ) → IsSeen c old x → IsStep old w made done told new → doing_of old w ≡ Flushing line →
    line * 8 < length old.cached → IsFlushing old new w done told line

-- a step that tells an effect
abbrev pub EffectStepsTakePlace : Type 0
EffectStepsTakePlace =
    (c : Config) (x : Instant) (old new : SwapMemory) (w : ℕ) (made : Act) (done : Done) (s : ℕ) → IsSeen c old x → IsStep old w made done (Some s) new → Holds new → TakesPlace old new s

-- evictions
pub record EvictionsAreSeen : Type 0 where
  pub quiet : (c : Config) (x : Instant) (old new : SwapMemory) (a : ℕ) → IsSeen c old x → IsEviction old a None new → Holds new → Passes c x old new
  pub leaves : (old new : SwapMemory) (a : ℕ) (told : Option ℕ) → IsEviction old a told new → AllStay old new
  pub effect : (c : Config) (x : Instant) (old new : SwapMemory) (a s : ℕ) → IsSeen c old x → IsEviction old a (Some s) new → Holds new → TakesPlace old new s
