-- What the task of a call is meant for.
use Rattle.std.specs.Prelude.{◌≡◌, ℕ, ◌≤◌, Bool, true, false, List, Some, None}
use Rattle.bz_call.specs.Map.{key_of}
use Rattle.bz_content.specs.Content.{image_of, leaf_in}
use Rattle.bz_stage.specs.FromLeaves.Neighbours.{leaf_page}
use Rattle.bz_layout.specs.declared.thresholds.TheConstants.{SPLIT_ABOVE}
use Rattle.bz_solo.specs.FromCosts.Most.{IsWithinItsActs}
use Rattle.bz_solo.specs.Errands.{IsLookOf}
use Rattle.bz_solo.specs.Meant.{IsMeantFor}
use Rattle.bz_any_task.specs.Kinds as kinds
use Rattle.bz_any_task.specs.Kinds.{Kind, is_renewal, kind_of}
use Rattle.bz_solo.specs.declared.rest.Rest.TheVariants as rest
use Rattle.bz_any_task.specs.MadeFor.{IsMadeFor, IsSmallMerge}
use Rattle.bz_any_task.specs.declared.running.AnyTask.{AnyTask}
use Rattle.bz_slotted.specs.Records.{live_words}
use Rattle.bz_task.specs.Outcomes.{IsView}
use Rattle.bz_task.specs.Scene.{Past}
use Rattle.bz_task.specs.declared.view.LeafView.{LeafView}
use Rattle.bz_world.specs.Inside.Paid.{IsFit}
use Rattle.bz_world.specs.declared.serving.OpenCall.{OpenCall}

-- at a moment since the look-up began the key's leaf was the one in this slot, frozen, and with no more live words than it may keep
pub record WasSettled (key : List ℕ) (slot : ℕ) (p : Past) : Type 0 where
  pub moment : ℕ
  pub since : p.since ≤ moment
  pub now : moment ≤ p.now
  pub leaf : leaf_in p.config (p.at moment).image key ≡ slot
  pub frozen : (leaf_page p.config (image_of (p.at moment).image) key).frozen ≡ true
  pub few : live_words (leaf_page p.config (image_of (p.at moment).image) key) ≤ SPLIT_ABOVE

-- the task was made of that leaf: for what was known then, when whatever was viewed of the key was in that slot
pub record IsOfSettled (t : AnyTask) (key : List ℕ) (p : Past) : Type 0 where
  pub slot : ℕ
  pub was : WasSettled key slot p
  pub known : Past
  pub only : (view : LeafView) → IsView key view known → view.slot ≡ slot
  pub made : IsMadeFor t key 0 known

-- what is tried once the merge of a leaf is over, and the way to it
abbrev pub tries_later : Kind → Bool
tries_later kinds.Seek = true
tries_later kinds.MergeNodes = true
tries_later kinds.LowerRoot = true
tries_later other = false

-- it has no more acts left than at its begin; a call that changes nothing looks its key up, or reads its leaf; and of a call
-- without effect each task that freezes a leaf or makes a node anew was made for the key and the words of the call
pub record IsMeant (x : OpenCall) (p : Past) : Type 0 where
  pub within : IsWithinItsActs x.task
  pub look : x.effect ≡ None → IsLookOf x.call (kind_of x.task)
  pub fit : IsFit x
  pub meant : x.effect ≡ None → IsMeantFor x.call x.task p
  -- once it has had its effect, it makes nothing anew but by a merge
  pub later : (at : ℕ) → x.effect ≡ Some at → is_renewal (kind_of x.task) ≡ false
  -- a merge is one of the leaf of its key, which had too few live words to stand alone
  pub small : kind_of x.task ≡ kinds.Merge → IsSmallMerge x.task (key_of x.call) p
  -- a copy is one of the leaf of its key, which was frozen, and had no more live words than it may keep
  pub copied : kind_of x.task ≡ kinds.Copy → IsOfSettled x.task (key_of x.call) p
  -- every other task comes while the leaf of its key may still be merged
  pub first : tries_later (kind_of x.task) ≡ false → x.rest ≡ rest.Leaf
