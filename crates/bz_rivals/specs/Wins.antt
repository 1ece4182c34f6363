-- A swap whose expected values stand is answered with true.
use Rattle.std.specs.Prelude.{◌≡◌, ◌≢◌, ℕ, Bool, true, false, List, All, Option}
use Rattle.bz_word.specs.declared.entry.Entry.{Entry}
use Rattle.bz_swap_acts.specs.declared.acted.Act.{Act}
use Rattle.bz_swap_machine.specs.declared.done.Done.{Done}
use Rattle.bz_swap_machine.specs.declared.done.Done.TheVariants.{Swapped}
use Rattle.bz_swap.specs.declared.phase.Phase.TheVariants.{Recovering}
use Rattle.bz_swap.specs.Atomic.{value_of}
use Rattle.bz_swap.specs.Evictions.{IsEviction}
use Rattle.bz_swap.specs.Held.{IsHeld}
use Rattle.bz_swap.specs.SoloRuns.{Turn, IsSoloRun}
use Rattle.bz_swap.specs.Starts.{MaySwap, swapping}
use Rattle.bz_swap.specs.Steps.{IsStep}
use Rattle.bz_swap.specs.SwapMemory.{SwapMemory, Swapping, value_at, has_effect, is_missed, entries_of, doing_of}
use Rattle.bz_rivals.specs.Notes.{AreNoted}
use Rattle.bz_rivals.specs.Rivals.{foreign}
use Rattle.bz_rivals.specs.Runs.{AllGoOn, foreign_in}

-- entries whose targets hold the expected values
abbrev pub Stand : SwapMemory → List Entry → Type 0
Stand m entries = All (λ (e : Entry). value_at m e.target ≡ e.expected) entries

-- a swap is not noted as missed, and its expected values stand unless it has had its effect
pub record GoesWell (m : SwapMemory) (s : ℕ) : Type 0 where
  pub unnoted : is_missed m s ≡ false
  pub stands : has_effect m s ≡ false → Stand m (entries_of m s)

pub record OwnSwapsWin : Type 0 where
  -- of a swap that goes well no step notes a miss, whichever worker's it is, and no eviction; its worker's answer is true
  pub unnoted : (old new : SwapMemory) (w : ℕ) (made : Act) (done : Done) (told : Option ℕ) (s : ℕ) → IsStep old w made done told new → GoesWell old s → is_missed new s ≡ false
  pub evicted : (old new : SwapMemory) (a : ℕ) (told : Option ℕ) (s : ℕ) → IsEviction old a told new → is_missed new s ≡ is_missed old s
  pub answer : (old new : SwapMemory) (w : ℕ) (made : Act) (told : Option ℕ) (s : ℕ) (won : Bool) → IsStep old w made (Swapped won) told new → doing_of old w ≡ Swapping s → GoesWell old s
      → (won ≡ true) × (has_effect new s ≡ true)
  -- while it is the worker's own, it goes well still after a step of the worker, or an eviction, without a foreign effect
  pub step : (old new : SwapMemory) (w : ℕ) (made : Act) (done : Done) (told : Option ℕ) (s : ℕ) → IsStep old w made done told new → doing_of old w ≡ Swapping s → foreign old w told ≡ 0
      → GoesWell old s → GoesWell new s
  pub eviction : (old new : SwapMemory) (w a : ℕ) (told : Option ℕ) (s : ℕ) → old.phase ≢ Recovering → IsEviction old a told new → doing_of old w ≡ Swapping s → foreign old w told ≡ 0
      → GoesWell old s → GoesWell new s
  -- so it does over a run
  pub run : (w s : ℕ) (old new : SwapMemory) (turns : List Turn) → old.phase ≢ Recovering → doing_of old w ≡ Swapping s → GoesWell old s
      → (run : IsSoloRun w old turns new) → AllGoOn turns → foreign_in w old new turns run ≡ 0 → (doing_of new w ≡ Swapping s) × GoesWell new s

-- entries whose targets have the expected values, as readers see them
abbrev pub AreExpected : SwapMemory → List Entry → Type 0
AreExpected m entries = All (λ (e : Entry). value_of m e.target ≡ e.expected) entries

-- where a swap may begin these are what the durable words stand for
abbrev pub ExpectedStand : Type 0
ExpectedStand = (m : SwapMemory) (w : ℕ) (entries : List Entry) → IsHeld m → MaySwap m w entries → AreExpected m entries → Stand m entries

-- a swap of worker w begins where its targets have the expected values; its worker steps alone from then on, with evictions between
-- the steps, and none of these turns has a foreign effect: then its answer is true
abbrev pub WholeSwapsWin : Type 0
WholeSwapsWin = (w : ℕ) (m mid new : SwapMemory) (entries : List Entry) (turns : List Turn) (made : Act) (told : Option ℕ) (won : Bool)
    → IsHeld m → AreNoted m → MaySwap m w entries → AreExpected m entries
    → (run : IsSoloRun w (swapping m w entries) turns mid) → AllGoOn turns → foreign_in w (swapping m w entries) mid turns run ≡ 0
    → IsStep mid w made (Swapped won) told new → (won ≡ true) × (has_effect new m.taken ≡ true)
