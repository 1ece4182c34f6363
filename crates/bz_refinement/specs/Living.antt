-- A swap memory, its journal and its story agree.
use Rattle.std.specs.Prelude.{◌≡◌, ℕ, ◌+◌, ◌<◌, ◌≤◌, ◌⊎◌, true, false, length, Some}
use Rattle.bz_layout.specs.Addresses.{node_address}
use Rattle.bz_layout.specs.declared.config.Config.{Config}
use Rattle.bz_layout.specs.declared.sizes.TheConstants.{NODE_WORDS}
use Rattle.bz_mark.specs.Log.{Log}
use Rattle.bz_mark.specs.WordsAfter.{state_after_marks, words_after_marks}
use Rattle.bz_sight.specs.Awaiting.{Awaits}
use Rattle.bz_sight.specs.Sight.{IsSeen}
use Rattle.bz_sound.specs.Calls.{Open, open_call}
use Rattle.bz_sound.specs.Memory.Moments.{image_at}
use Rattle.bz_sound.specs.Memory.Spent.{is_reached_in, is_stored_into}
use Rattle.bz_mark.specs.Times.{since_on}
use Rattle.bz_sound.specs.Power.Times.{image_at_on}
use Rattle.bz_swap.specs.SwapMemory.{SwapMemory, memory_words, is_named}
use Rattle.bz_task.specs.Instant.{Instant, page_at}
use Rattle.bz_task.specs.Steps.{IsHistory}
use Rattle.bz_swap_marks.specs.Past.{SamePast}
use Rattle.bz_refinement.specs.Story.{Story}

-- a word of the block of a node that was reached
pub record IsInBlock (c : Config) (x : Instant) (a : ℕ) : Type 0 where
  pub slot : ℕ
  pub place : ℕ
  pub address : a ≡ node_address c slot + place
  pub within : place < NODE_WORDS
  pub reached : x.reached slot ≡ true
  pub block : NODE_WORDS ≤ place + (page_at c x slot).block

-- a word of a slot that a worker took, and to which no link has led
pub record IsInTaken (c : Config) (x : Instant) (story : Story) (w a : ℕ) : Type 0 where
  pub slot : ℕ
  pub place : ℕ
  pub address : a ≡ node_address c slot + place
  pub within : place < NODE_WORDS
  pub took : story.took w slot ≡ true
  pub unreached : x.reached slot ≡ false

-- a word that a worker holds: of such a slot, or one that it reserved
abbrev pub IsHeldBy : Config → Instant → Story → ℕ → ℕ → Type 0
IsHeldBy c x story w a = IsInTaken c x story w a ⊎ (story.reserved w a ≡ true)

pub record IsLiving (c : Config) (m : SwapMemory) (log : Log) (story : Story) : Type 0 where
  -- this life has begun, and each open call began in it
  pub from : story.from ≤ length log.past
  pub begins : (w : ℕ) (opened : Open) → open_call w log.past ≡ Some opened → story.from ≤ opened.begun
  -- the memory is seen as the story tells it now, and every moment of this life was good and led to the next by a lawful step
  pub seen : IsSeen c m (story.at (length log.past))
  pub history : IsHistory c story.at story.from (length log.past)
  -- the journal's words are the memory's, and the images of these moments the story's
  pub words : memory_words m ≡ words_after_marks log.start log.past
  pub past : SamePast m (state_after_marks log.start log.past)
  pub images : (i : ℕ) → story.from ≤ i → i ≤ length log.past → (story.at i).image ≡ image_at log.start i log.past
  -- each effect of this life has a mark of its own
  pub effects : story.from + (story.at (length log.past)).effects ≤ length log.past
  -- what a worker reserved lies in a block, and no other worker reserved it
  pub reserved : (w a : ℕ) → story.reserved w a ≡ true → IsInBlock c (story.at (length log.past)) a
  pub apart : (v w a : ℕ) → story.reserved v a ≡ true → story.reserved w a ≡ true → v ≡ w
  -- a slot that a worker took is one of the memory, and no other worker took it
  pub took : (w k : ℕ) → story.took w k ≡ true → k < c.nodes
  pub took_apart : (v w k : ℕ) → story.took v k ≡ true → story.took w k ≡ true → v ≡ w
  -- where a worker is to fence a line, it awaits each word there that it holds and no swap has named
  pub awaits : (w a : ℕ) → IsHeldBy c (story.at (length log.past)) story w a → is_named m a ≡ false → Awaits m w a
  -- a slot to which a link has led was reached when the power came on, or at the start, or a worker took it
  pub came : (k : ℕ) → (story.at (length log.past)).reached k ≡ true → (is_reached_in c (image_at_on log.start log.past) k ≡ true) ⊎ ((w : ℕ) × (story.took w k ≡ true))
  -- the journal shows a store since then into each slot that a worker has filled
  pub stored : (w k : ℕ) → story.filled w k ≡ true → is_stored_into c k (since_on log.past) ≡ true
