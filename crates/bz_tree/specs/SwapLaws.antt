-- The laws of swaps: what each kind of swap makes of a tree.
use Rattle.std.specs.Prelude.{◌≡◌, ◌≢◌, ℕ, ◌==◌, if◌then◌else◌, true, List, [], ◌∷◌}
use Rattle.bz_tree.specs.View.{View}
use Rattle.bz_tree.specs.Form.{IsHonest}
use Rattle.bz_tree.specs.Descent.{leaf_of, content}
use Rattle.bz_tree.specs.Walk.{form, IsTree}
use Rattle.bz_tree.specs.Slots.{SameSlot, SameTop}
use Rattle.bz_tree.specs.LeafSwap.{LeafSwap}
use Rattle.bz_tree.specs.QuietSlots.{QuietSlots}
use Rattle.bz_tree.specs.Consolidation.{Consolidation}
use Rattle.bz_tree.specs.Split.{Split, AreThree, SaysInHalves}
use Rattle.bz_tree.specs.RootSplit.{RootSplit}
use Rattle.bz_tree.specs.Merge.{Merge, SaysOfBoth}
use Rattle.bz_tree.specs.Outcomes.{SameTree, SameContent, Regrows}

-- slots that are not reached do not matter
abbrev pub UnreachedSlotsDoNotMatter : Type 0
UnreachedSlotsDoNotMatter =
    (v w : View) → IsTree v → IsHonest w → SameTop v w → ((j : ℕ) → (form v).inside j ≡ true → SameSlot v w j) → SameTree v w × SameContent v w

-- where every reached slot says what it said, the tree and the content are the same
abbrev pub QuietSlotsKeepTheTree : Type 0
QuietSlotsKeepTheTree = (v w : View) → IsTree v → IsHonest w → QuietSlots v w (form v) → SameTree v w × SameContent v w

-- a swap on one leaf leaves the tree, and changes the content at keys of that leaf alone
abbrev pub LeafSwapsKeepTheTree : Type 0
LeafSwapsKeepTheTree =
    (v w : View) (k : ℕ) → IsTree v → IsHonest w → LeafSwap v w (form v) k →
    SameTree v w × ((key : List ℕ) → content w key ≡ if leaf_of v key == k then w.found k key else content v key)

-- a leaf made anew that says what the old one said keeps the content
abbrev pub ConsolidationsKeepTheContent : Type 0
ConsolidationsKeepTheContent =
    (v w : View) (old new : ℕ) → IsTree v → IsHonest w → Consolidation v w (form v) old new → ((key : List ℕ) → w.found new key ≡ v.found old key) →
    Regrows v w (old ∷ []) (new ∷ [])

-- a split below an inner slot keeps the content
abbrev pub SplitsKeepTheContent : Type 0
SplitsKeepTheContent =
    (v w : View) (a q l r m : ℕ) (sep : List ℕ) → IsTree v → IsHonest w → Split v w (form v) a q l r m sep → AreThree q l r →
    SaysInHalves v w (form v) a l r sep → Regrows v w (a ∷ (form v).up a ∷ []) (q ∷ l ∷ r ∷ [])

-- a split of the root keeps the content
abbrev pub RootSplitsKeepTheContent : Type 0
RootSplitsKeepTheContent =
    (v w : View) (a q l r m : ℕ) (sep : List ℕ) → IsTree v → IsHonest w → RootSplit v w (form v) a q l r m sep → AreThree q l r →
    SaysInHalves v w (form v) a l r sep → Regrows v w (a ∷ []) (q ∷ l ∷ r ∷ [])

-- a merge of two leaves keeps the content
abbrev pub MergesKeepTheContent : Type 0
MergesKeepTheContent =
    (v w : View) (a b q c : ℕ) (sep : List ℕ) → IsTree v → IsHonest w → Merge v w (form v) a b q c sep → q ≢ c →
    SaysOfBoth v w (form v) a b c → Regrows v w (a ∷ b ∷ (form v).up a ∷ []) (q ∷ c ∷ [])
