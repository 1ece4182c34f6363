-- A walk on its way: what is behind and what is to come are together the whole walk, and no rule was broken yet.
use Rattle.std.specs.Prelude.{◌≡◌, ℕ, ◌+◌, ◌*◌, ◌<◌, ◌≤◌, if◌then◌else◌, Bool, false, List, [], ◌∷◌, ◌++◌, length, replicate, slice_index, slice_index_or, Some, None}
use Rattle.bz_content.specs.Content.{image_of, view_in}
use Rattle.bz_content.specs.Map.{records_in}
use Rattle.bz_content.specs.declared.outcomes.CheckError.{CheckError}
use Rattle.bz_content.specs.declared.outcomes.CheckError.TheVariants.{Shape, Memory}
use Rattle.bz_layout.specs.declared.config.Config.{Config}
use Rattle.bz_layout.specs.declared.sizes.TheConstants.{SHARED_WORDS}
use Rattle.bz_tree.specs.Content.{Pairs, pairs_of}
use Rattle.bz_tree.specs.Stack.{pending}
use Rattle.bz_tree.specs.View.{View}
use Rattle.bz_content.specs.declared.outcomes.Shape.{Shape as Found}
use Rattle.bz_tree.specs.Walk.{Visit, kid, start, walk, first_fault, fault_of, is_among}
use Rattle.bz_judge.specs.Inside.Stacks.{AreBelow, stack_of}
use Rattle.bz_judge.specs.declared.walk.Walk.{Walk}

-- how many slots were not seen yet
unfoldable pub unseen : List Bool → ℕ
unseen [] = 0
unseen (b ∷ bs) = (if b then 0 else 1) + unseen bs

-- the walk over a view whose top is the number of its nodes has this stack before it
pub record Goes (v : View) (records : ℕ → Pairs) (stack : List Visit) (seen : List Bool) (found met : ℕ) : Type 0 where
  -- the visits behind, and their slots
  pub behind : List Visit
  pub passed : List ℕ
  pub whole : walk v ≡ behind ++ pending v stack
  pub fault : fault_of v ≡ first_fault v passed (pending v stack)
  pub size : length seen ≡ v.top
  pub table : (k : ℕ) → k < v.top → is_among passed k ≡ slice_index_or seen k false
  pub reached : length behind ≡ met + 1
  pub left : met + unseen seen ≡ v.top
  pub pairs : length (pairs_of records behind) ≡ found
  pub few : found ≤ SHARED_WORDS * met
  pub below : AreBelow v.top stack

-- the same over an image
abbrev pub IsOnWay : Config → List ℕ → List Visit → List Bool → ℕ → ℕ → Type 0
IsOnWay c image stack seen pairs reached = Goes (view_in c (slice_index image)) (records_in c (image_of (slice_index image))) stack seen pairs reached

-- the first fault of the tree, or want of memory
abbrev pub IsTold : Config → List ℕ → CheckError → Type 0
IsTold c image (Shape fault) = fault_of (view_in c (slice_index image)) ≡ Some fault
IsTold c image Memory = Unit {0}

-- a walk before its first node
pub record IsBefore (c : Config) (root : Visit) (walk : Walk) : Type 0 where
  pub stack : stack_of walk.stack.items ≡ root ∷ []
  pub seen : walk.seen.items ≡ replicate c.nodes false
  pub pairs : walk.pairs ≡ 0
  pub reached : walk.reached ≡ 0

-- the superblock breaks no rule, and this is the visit after that to it
pub record Starts (v : View) (u : Visit) : Type 0 where
  pub fault : v.fault v.top v.height None None ≡ None
  pub walk : walk v ≡ start v ∷ pending v (u ∷ [])
  pub below : u.slot < v.top
  pub level : u.level + 1 ≡ v.height
  pub root : u ≡ kid v (start v) u.level 0

-- this is the visit to the root of an image
abbrev pub IsRoot : Config → List ℕ → Visit → Type 0
IsRoot c image u = Starts (view_in c (slice_index image)) u

-- a tree that breaks no rule has this shape
pub record IsTreeOf (c : Config) (image : List ℕ) (s : Found) : Type 0 where
  pub none : fault_of (view_in c (slice_index image)) ≡ None
  pub pairs : s.pairs ≡ length (pairs_of (records_in c (image_of (slice_index image))) (walk (view_in c (slice_index image))))
  pub levels : s.levels ≡ (view_in c (slice_index image)).height
  pub reached : s.reached + 1 ≡ length (walk (view_in c (slice_index image)))
