-- A swap memory outside a recovery time, and what tasks see of it.
use Rattle.std.specs.Prelude.{◌≡◌, ◌≢◌, ℕ, if◌then◌else◌, ◌≤◌, ◌+◌, ◌<◌, true, false, length, slice_index}
use Rattle.bz_layout.specs.Addresses.{node_address, words_of as size_of}
use Rattle.bz_layout.specs.Config.{IsConfig}
use Rattle.bz_layout.specs.declared.config.Config.{Config}
use Rattle.bz_layout.specs.declared.sizes.TheConstants.{NODE_WORDS}
use Rattle.bz_swap_cells.specs.Store.{is_outside}
use Rattle.bz_swap.specs.Held.{Holds}
use Rattle.bz_swap.specs.PlainFields.{HavePlainFields}
use Rattle.bz_swap.specs.SwapMemory.{SwapMemory, value_at, is_named, is_settled_at}
use Rattle.bz_swap.specs.declared.phase.Phase.TheVariants.{Recovering}
use Rattle.bz_content.specs.Lawful.{is_fixed}
use Rattle.bz_task.specs.Good.{IsGood}
use Rattle.bz_task.specs.Instant.{Instant, words}
use Rattle.bz_task.specs.Shown.{IsShown, IsRead}
use Rattle.bz_task.specs.Targets.{IsTargetAt}

-- what a read of an address answers: of a named address the value that it stands for in the memory itself, of a private one
-- the word in the caches. Descriptors are not read.
abbrev pub answer_at : SwapMemory → ℕ → ℕ
answer_at m a = if is_outside m.swaps a then (if is_named m a then value_at m a else slice_index m.cached a) else 0

pub record IsSeen (c : Config) (m : SwapMemory) (x : Instant) : Type 0 where
  pub config : IsConfig c
  pub swaps : m.swaps ≡ c.swaps
  pub size : length m.durable ≡ size_of c
  pub phase : m.phase ≢ Recovering
  pub holds : Holds m
  pub fields : HavePlainFields m
  -- what no swap and no store may change in the superblock is settled
  pub fixed : (a : ℕ) → is_fixed a ≡ true → is_settled_at m a ≡ true
  pub image : x.image ≡ slice_index m.durable
  pub value : x.value ≡ answer_at m
  pub settled : x.settled ≡ is_settled_at m
  pub good : IsGood c x
  -- what a swap named is what swaps may name
  pub targets : (a : ℕ) → is_named m a ≡ true → IsTargetAt c x a
  -- what readers read and no swap has named is settled
  pub shown : (a : ℕ) → IsRead c x a → is_named m a ≡ false → x.settled a ≡ true

-- a word of a slot that nobody reads: no link has led to the slot, or it is a word of the block of no visible record
pub record IsHidden (c : Config) (x : Instant) (a : ℕ) : Type 0 where
  pub in_slots : node_address c 0 ≤ a
  pub unread : (k i : ℕ) → x.reached k ≡ true → i < NODE_WORDS → a ≡ node_address c k + i → ¬ IsShown (words c x k) i

-- the memory one moment later, where no swap took effect
abbrev pub next_instant : SwapMemory → Instant → Instant
next_instant m x = record { image = slice_index m.durable; value = answer_at m; settled = is_settled_at m; reached = x.reached; effects = x.effects }
