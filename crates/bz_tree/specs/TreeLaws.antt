-- The laws of trees: their forms, their leaves and their content.
use Rattle.std.specs.Prelude.{◌≡◌, ◌↔◌, ℕ, suc, ◌<◌, true, List, ◌∷◌, ◌++◌, Some, None}
use Rattle.std.specs.Cmp.Lexicographic.{slice_cmp}
use Rattle.std.specs.Ordering.{nat_cmp}
use Rattle.std.specs.FinMap.{get, find}
use Rattle.bz_tree.specs.View.{View}
use Rattle.bz_tree.specs.Form.{Form, Fits, Holds}
use Rattle.bz_tree.specs.Descent.{leaf_of, content}
use Rattle.bz_tree.specs.Walk.{Visit, kids, walk, fault_of, form, ComesOnce, IsTree}
use Rattle.bz_tree.specs.Content.{Pairs, map_of}
use Rattle.bz_tree.specs.Stack.{pending}
use Rattle.bz_tree.specs.Outcomes.{Agree}

-- an image that some form fits has no fault, and that form is the one that the walk shows
abbrev pub FormsFitTrees : Type 0
FormsFitTrees = (v : View) (f : Form) → Fits v f → (fault_of v ≡ None) × Agree v f (form v)

-- where there is no fault, the form that the walk shows fits
abbrev pub TreesHaveForms : Type 0
TreesHaveForms = (v : View) → v.count v.top ≡ 1 → 0 < v.height → fault_of v ≡ None → Fits v (form v)

-- where there is no fault, the walk comes to each slot once at most
abbrev pub SlotsComeOnce : Type 0
SlotsComeOnce = (v : View) → fault_of v ≡ None → ComesOnce (walk v)

-- each key is in the range of exactly one reached leaf, the leaf of that key
abbrev pub LeavesTileTheKeys : Type 0
LeavesTileTheKeys = (v : View) → IsTree v → (key : List ℕ) (k : ℕ) → Holds (form v) key k ↔ (leaf_of v key ≡ k)

-- slot k is a reached leaf and says this of the key
pub record Says (v : View) (k : ℕ) (key payload : List ℕ) : Type 0 where
  pub inside : (form v).inside k ≡ true
  pub leaf : (form v).level k ≡ 0
  pub found : v.found k key ≡ Some payload

-- the content is the union of what the reached leaves say
abbrev pub ContentIsTheUnion : Type 0
ContentIsTheUnion = (v : View) → IsTree v → (key payload : List ℕ) → (content v key ≡ Some payload) ↔ ((k : ℕ) × Says v k key payload)

-- the content as a map answers each key as the descent does, where the records of each reached leaf say of the key
-- what the leaf says
abbrev pub MapIsTheContent : Type 0
MapIsTheContent =
    (v : View) (pairs : ℕ → Pairs) (key : List ℕ) → IsTree v →
    ((k : ℕ) → (form v).inside k ≡ true → (form v).level k ≡ 0 → find (slice_cmp nat_cmp) key (pairs k) ≡ v.found k key) → get (map_of v pairs) key ≡ content v key

-- a walk is made step by step: the topmost visit of the stack is taken off, and of an inner slot its children
-- are put there
pub record WalksByStack : Type 0 where
  pub leaf : (v : View) (u : Visit) (us : List Visit) → u.level ≡ 0 → pending v (u ∷ us) ≡ u ∷ pending v us
  pub inner :
      (v : View) (l : ℕ) (u : Visit) (us : List Visit) → u.level ≡ suc l → pending v (u ∷ us) ≡ u ∷ pending v (kids v u l 0 (v.count u.slot) ++ us)
