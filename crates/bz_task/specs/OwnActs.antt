-- The private stores and flushes of a task, and the slots that it takes.
use Rattle.std.specs.Prelude.{◌≡◌, ◌≢◌, ℕ, ◌==◌, ◌&&◌, ◌||◌, ◌<◌, ◌≤◌, ◌⊎◌, not, Bool, true, false, length, drop}
use Rattle.bz_layout.specs.Addresses.{slot_of, line_of}
use Rattle.bz_layout.specs.Slots.{FreeSlots}
use Rattle.bz_tree.specs.Walk.{is_among}
use Rattle.bz_task.specs.Scene.{Scene, IsMine, IsFlushed, Continues, here}

-- the own private store of a value is made
pub record Stores (a v : ℕ) (s after : Scene) : Type 0 where
  pub continues : Continues s.past after.past
  pub took : (k : ℕ) → after.took k ≡ s.took k
  pub effected : after.effected ≡ s.effected
  pub reserved : (b : ℕ) → after.reserved b ≡ s.reserved b
  pub filled : (k : ℕ) → after.filled k ≡ s.filled k || (slot_of s.past.config a == k)
  pub value : (here after).value a ≡ v
  pub others : (b : ℕ) → b ≢ a → (here after).value b ≡ (here s).value b
  pub image : (b : ℕ) → (here after).image b ≡ (here s).image b
  pub mine : (b : ℕ) → IsMine s b → IsMine after b

-- the own flush of a line is made
pub record Flushes (line : ℕ) (s after : Scene) : Type 0 where
  pub continues : Continues s.past after.past
  pub took : (k : ℕ) → after.took k ≡ s.took k
  pub effected : after.effected ≡ s.effected
  pub reserved : (b : ℕ) → after.reserved b ≡ s.reserved b
  pub filled : (k : ℕ) → after.filled k ≡ s.filled k
  pub value : (b : ℕ) → (here after).value b ≡ (here s).value b
  pub flushed : (b : ℕ) → line_of b ≡ line → IsMine s b → IsFlushed after b
  pub stays : (b : ℕ) → IsMine s b → IsFlushed s b → IsFlushed after b
  pub mine : (b : ℕ) → IsMine s b → IsMine after b

-- all the slots that a task was still to take, the lowest free ones, are gone, and it is to take no more
pub record AreAllTaken (needed left : ℕ) (old new : FreeSlots) : Type 0 where
  pub some : 0 < needed
  pub enough : needed ≤ length old.free
  pub slots : new ≡ record old { free = drop needed old.free }
  pub none_left : left ≡ 0

-- none is gone
pub record AreNoneTaken (needed left : ℕ) (old new : FreeSlots) : Type 0 where
  pub fewer : left ≤ needed
  pub slots : new ≡ old

-- the slots change by one take alone, all at once
abbrev pub AreTakenFrom : ℕ → ℕ → FreeSlots → FreeSlots → Type 0
AreTakenFrom needed left old new = AreAllTaken needed left old new ⊎ AreNoneTaken needed left old new

-- no link has led to a free slot
abbrev pub AreUnreached : Scene → FreeSlots → Type 0
AreUnreached s slots = (k : ℕ) → is_among slots.free k ≡ true → (here s).reached k ≡ false

-- the slot was free and is so no more
abbrev pub is_gained : FreeSlots → FreeSlots → ℕ → Bool
is_gained old new k = is_among old.free k && not (is_among new.free k)

-- the scene once the worker took those slots
abbrev pub gained : Scene → FreeSlots → FreeSlots → Scene
gained s old new = record s { took = λ k. s.took k || is_gained old new k }
