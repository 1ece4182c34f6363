-- The viewed leaf and its neighbour, in the one order and in the other.
use Rattle.std.proofs.Common.{◌≡◌, ◌≢◌, ℕ, ◌+◌, ◌≤◌, Bool, true, false, List, Option, arith, sym}
use Rattle.bz_layout.specs.declared.thresholds.TheConstants.{SPLIT_ABOVE}
use Rattle.bz_any_task.specs.FromMerge.Merges.{WasLeafOnce}
use Rattle.bz_any_task.specs.FromMerge.Plans.{beside_leaf, first_of, second_of, viewed_leaf, IsPair, IsPlanned, Merging}
use Rattle.bz_any_task.specs.FromMerge.Siblings.{SeenLeaf, WasSeen}
use Rattle.bz_slotted.specs.Readers.{child_of, live_of}
use Rattle.bz_slotted.specs.ReadingLaws.{node_of}
use Rattle.bz_task.specs.Scene.{Past}

-- the two children are those of the pair
pub first-child : (read : List ℕ) (right : Bool) (place : ℕ) (own other : SeenLeaf) → IsPair read own.slot right place other.slot → child_of (node_of read) place ≡ (first_of right own other).slot
first-child read true place own other h = h.own.there
first-child read false place own other h = h.other

pub second-child : (read : List ℕ) (right : Bool) (place : ℕ) (own other : SeenLeaf) → IsPair read own.slot right place other.slot → child_of (node_of read) (place + 1) ≡ (second_of right own other).slot
second-child read true place own other h = h.other
second-child read false place own other h = h.own.there

-- what is so of both is so of the first and of the second one, and the other way round
pub to-first : (P : SeenLeaf → Type 0) (right : Bool) (own other : SeenLeaf) → P own → P other → P (first_of right own other)
to-first P true own other p q = p
to-first P false own other p q = q

pub to-second : (P : SeenLeaf → Type 0) (right : Bool) (own other : SeenLeaf) → P own → P other → P (second_of right own other)
to-second P true own other p q = q
to-second P false own other p q = p

pub to-own : (P : SeenLeaf → Type 0) (right : Bool) (own other : SeenLeaf) → P (first_of right own other) → P (second_of right own other) → P own
to-own P true own other p q = p
to-own P false own other p q = q

pub to-other : (P : SeenLeaf → Type 0) (right : Bool) (own other : SeenLeaf) → P (first_of right own other) → P (second_of right own other) → P other
to-other P true own other p q = q
to-other P false own other p q = p

pub apart-of : (right : Bool) (own other : SeenLeaf) → (first_of right own other).slot ≢ (second_of right own other).slot → own.slot ≢ other.slot
apart-of true own other n = n
apart-of false own other n = λ e. n (sym e)

pub room-of : (right : Bool) (own other : SeenLeaf) → live_of (node_of (first_of right own other).image) + live_of (node_of (second_of right own other).image) ≤ SPLIT_ABOVE → live_of (node_of own.image) + live_of (node_of other.image) ≤ SPLIT_ABOVE
room-of true own other l = l
room-of false own other l = omega (arith, l)

-- both were leaves
once : (l : SeenLeaf) (m : ℕ) (low high : Option (List ℕ)) (p : Past) → WasSeen l m low high p → WasLeafOnce l.slot p
once l m low high p w = record { moment = m; since = w.stood.since; now = w.stood.now; slot = w.stood.slot; inside = w.stood.inside; leaf = w.stood.leaf }

module _ (r : Merging) (p : Past) (f : IsPlanned r p) where
  abbrev IsOnce : SeenLeaf → Type 0
  IsOnce l = WasLeafOnce l.slot p

  first-once : IsOnce (first_of r.right (viewed_leaf r) (beside_leaf r))
  first-once = once _ _ _ _ p f.first

  second-once : IsOnce (second_of r.right (viewed_leaf r) (beside_leaf r))
  second-once = once _ _ _ _ p f.second

  pub own-once : WasLeafOnce r.lower.slot p
  own-once = to-own IsOnce r.right (viewed_leaf r) (beside_leaf r) first-once second-once

  pub other-once : WasLeafOnce r.beside_slot p
  other-once = to-other IsOnce r.right (viewed_leaf r) (beside_leaf r) first-once second-once
