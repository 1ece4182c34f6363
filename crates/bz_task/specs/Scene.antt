-- What one worker's task knows of: the memory at each moment since its look-up began, and what is the worker's own. Scenes are
-- made for proofs and never stored.
use Rattle.std.specs.Prelude.{◌≡◌, ℕ, ◌+◌, ◌^◌, ◌<◌, ◌≤◌, ◌⊎◌, Bool, true, false}
use Rattle.bz_layout.specs.Addresses.{node_address, words_of}
use Rattle.bz_layout.specs.Config.{IsConfig}
use Rattle.bz_layout.specs.declared.config.Config.{Config}
use Rattle.bz_layout.specs.declared.sizes.TheConstants.{NODE_WORDS}
use Rattle.bz_task.specs.Instant.{Instant, IsDurableAt, words}
use Rattle.bz_task.specs.Shown.{IsShown}
use Rattle.bz_task.specs.Steps.{IsStep, IsHistory}

-- what has become of the act that the task asked for
pub data Stage : Type 0 where
  -- it has had no effect so far
  Waiting : Stage
  -- the swap, store or flush took effect, and the task has not been told
  Took : Stage

pub record Past : Type 0 where
  pub config : Config
  -- the memory at each moment up to now; a moment is a number of marks
  pub at : ℕ → Instant
  pub now : ℕ
  -- the moment at which the present look-up began, after the begin of the call
  pub since : ℕ
  -- at this moment the last mark is a load of this worker
  pub loads : ℕ → Bool

pub record Scene : Type 0 where
  pub past : Past
  -- the call has had its effect
  pub effected : Bool
  -- the addresses of blocks that this worker reserved for a record since power on
  pub reserved : ℕ → Bool
  -- the slots that this worker took since power on, and those into which it has stored
  pub took : ℕ → Bool
  pub filled : ℕ → Bool

-- the memory now
abbrev pub here : Scene → Instant
here s = s.past.at s.past.now

-- a word of a slot that this worker took, and to which no link has led
pub record IsOfTaken (s : Scene) (a : ℕ) : Type 0 where
  pub slot : ℕ
  pub place : ℕ
  pub address : a ≡ node_address s.past.config slot + place
  pub within : place < NODE_WORDS
  pub took : s.took slot ≡ true
  pub unreached : (here s).reached slot ≡ false

-- a word that this worker alone may store into: of a slot of its own, or reserved for its record, and no reader reads it yet.
-- So what it took is its own no longer once a link has led there, and what it reserved, once the record is visible.
pub record IsMine (s : Scene) (a : ℕ) : Type 0 where
  pub own : IsOfTaken s a ⊎ (s.reserved a ≡ true)
  pub hidden : (k i : ℕ) → (here s).reached k ≡ true → i < NODE_WORDS → a ≡ node_address s.past.config k + i → ¬ IsShown (words s.past.config (here s) k) i

-- what is stored there is durable, and settled
abbrev pub IsFlushed : Scene → ℕ → Type 0
IsFlushed s a = IsDurableAt (here s) a

-- what holds of every scene
pub record IsScene (s : Scene) : Type 0 where
  pub config : IsConfig s.past.config
  pub begun : s.past.since ≤ s.past.now
  pub history : IsHistory s.past.config s.past.at s.past.since s.past.now
  -- each word that is the worker's own is one of a slot, and holds a value
  pub mine : (a : ℕ) → IsMine s a → (node_address s.past.config 0 ≤ a) × ((a < words_of s.past.config) × ((here s).value a < 2 ^ 61))

-- every slot that this worker took has been stored into
abbrev pub HasFilled : Scene → Type 0
HasFilled s = (k : ℕ) → s.took k ≡ true → s.filled k ≡ true

-- one moment later; what was stays
pub record Continues (p q : Past) : Type 0 where
  pub config : q.config ≡ p.config
  pub now : q.now ≡ p.now + 1
  pub since : q.since ≡ p.since
  pub at : (m : ℕ) → m ≤ p.now → q.at m ≡ p.at m
  pub loads : (m : ℕ) → m ≤ p.now → q.loads m ≡ p.loads m

-- an own word is as it was, and durable if it was
pub record KeepsWord (s after : Scene) (a : ℕ) : Type 0 where
  pub mine : IsMine after a
  pub value : (here after).value a ≡ (here s).value a
  pub flushed : IsFlushed s a → IsFlushed after a

-- a step by which nothing of this worker's own changes: any lawful step of another worker, or an act of its own without
-- effect
pub record IsLawful (s after : Scene) : Type 0 where
  pub continues : Continues s.past after.past
  pub took : (k : ℕ) → after.took k ≡ s.took k
  pub step : IsStep s.past.config (here s) (here after)
  pub effected : after.effected ≡ s.effected
  pub reserved : (a : ℕ) → after.reserved a ≡ s.reserved a
  pub filled : (k : ℕ) → after.filled k ≡ s.filled k
  pub keeps : (a : ℕ) → IsMine s a → KeepsWord s after a
