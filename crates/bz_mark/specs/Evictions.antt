-- Which images a power cut may leave: the durable words after evictions that the journal does not show.
use Rattle.std.specs.Prelude.{◌≡◌, ◌≢◌, ◌<◌, ◌↔◌, ℕ, List, ◌∷◌, length, slice_index}
use Rattle.bz_mark.specs.Dates.{durable_word}
use Rattle.bz_mark.specs.MayHold.{MayHold}
use Rattle.bz_mark.specs.declared.marks.Mark.{Mark}
use Rattle.bz_mark.specs.declared.marks.Mark.TheVariants.{Evict, Cut}

-- the second list is the first with some Evict marks, of addresses below the number of words, added after its last Cut
pub data AddsEvictions (words : ℕ) : List Mark → List Mark → Type 0 where
  none : {past : List Mark} → AddsEvictions words past past
  added : {past more : List Mark} {a : ℕ} → a < words → AddsEvictions words past more → AddsEvictions words past (Evict a ∷ more)
  kept : {past more : List Mark} {mark : Mark} → mark ≢ Cut → AddsEvictions words past more → AddsEvictions words (mark ∷ past) (mark ∷ more)

-- an image of the start's length that has the durable words after these marks
pub record HasDurable (start : List ℕ) (past : List Mark) (image : List ℕ) : Type 0 where
  pub size : length image ≡ length start
  pub words : (a : ℕ) → a < length start → slice_index image a ≡ durable_word start past a

-- some evictions after the last Cut leave this image
abbrev pub MayBeLeft : List ℕ → List Mark → List ℕ → Type 0
MayBeLeft start past image = (more : List Mark) × AddsEvictions (length start) past more × HasDurable start more image

-- an image of the start's length, each word of which is one that it may hold
pub record HoldsEach (start : List ℕ) (past : List Mark) (image : List ℕ) : Type 0 where
  pub size : length image ≡ length start
  pub words : (a : ℕ) → a < length start → MayHold start past a (slice_index image a)

-- evictions may leave an image exactly where each word of it is one that it may hold
abbrev pub EvictionsLeaveWhatMayBeHeld : Type 0
EvictionsLeaveWhatMayBeHeld = (start image : List ℕ) (past : List Mark) → MayBeLeft start past image ↔ HoldsEach start past image
