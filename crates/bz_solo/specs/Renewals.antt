-- What is done to a leaf that has no room, and to the nodes above it, is paid for by the stage of the key.
use Rattle.std.specs.Prelude.{◌≡◌, ◌⊎◌, ℕ, ◌+◌, ◌<◌, ◌≤◌, true, false, Some}
use Rattle.bz_joined.specs.FromAlone.Undisturbed.{IsUndisturbed}
use Rattle.bz_costs.specs.FromRunning.Ascents.{IsOneUp}
use Rattle.bz_costs.specs.FromRunning.Ascent.{Ascent}
use Rattle.bz_call.specs.Map.{key_of}
use Rattle.bz_content.specs.Content.{image_of}
use Rattle.bz_joined.specs.FromStage.Neighbours.{leaf_page}
use Rattle.bz_costs.specs.Resources.{Resource}
use Rattle.bz_costs.specs.Most.{most_of, most_of_freeze, most_of_copy, most_of_merge, most_of_root, most_of_below}
use Rattle.bz_layout.specs.declared.thresholds.TheConstants.{MAX_LEVELS}
use Rattle.bz_costs.specs.FromRunning.Duties.{end_of}
use Rattle.bz_costs.specs.FromRunning.Kinds as kinds
use Rattle.bz_costs.specs.FromRunning.Kinds.{kind_of, level_of}
use Rattle.bz_costs.specs.FromRunning.AnyTask.{AnyTask}
use Rattle.bz_slotted.specs.Page.{Page}
use Rattle.bz_joined.specs.FromStage.Rooms.{is_crowded}
use Rattle.bz_swap.specs.SwapMemory.{SwapMemory}
use Rattle.bz_task.specs.Scene.{Past}
use Rattle.bz_task.specs.declared.todo.Outcome.TheVariants.{NeedsRoom}
use Rattle.bz_solo.specs.Errands.{Errand, is_read}
use Rattle.bz_solo.specs.Prices.{coming}
use Rattle.bz_solo.specs.Rounds.{stage_now}
use Rattle.bz_solo.specs.Sum.{Spares, IsSmall, IsPaid}

abbrev pub leaf_now : Errand → Past → Page
leaf_now e p = leaf_page p.config (image_of (p.at p.now).image) (key_of e.call)

-- the leaf lacks the room, and is not frozen; or is frozen, and has to be split
pub record IsLacking (e : Errand) (p : Past) : Type 0 where
  pub thawed : (leaf_now e p).frozen ≡ false
  pub lacks : 0 < stage_now e p

pub record IsLarge (e : Errand) (p : Past) : Type 0 where
  pub frozen : (leaf_now e p).frozen ≡ true
  pub many : is_crowded (leaf_now e p) ≡ true

-- a leaf that was read whole is frozen, copied, split or merged
pub record RenewalsArePaid (r : Resource) : Type 0 where
  pub freeze : (m : SwapMemory) (w : ℕ) (e : Errand) (used by : ℕ) (p : Past) → (IsUndisturbed 0 p → IsLacking e p) → Spares r m w e used by p (λ q. q.viewed) → Spares r m w e used by p (λ q. most_of_freeze r + q.froze)
  pub copy : (m : SwapMemory) (w : ℕ) (e : Errand) (used by : ℕ) (p : Past) → (IsUndisturbed 0 p → IsSmall e p) → Spares r m w e used by p (λ q. q.viewed) → Spares r m w e used by p (λ q. most_of_copy r + q.renewed)
  pub merge : (m : SwapMemory) (w : ℕ) (e : Errand) (used by : ℕ) (p : Past) → e.alone ≡ false → (IsUndisturbed 0 p → IsSmall e p) → Spares r m w e used by p (λ q. q.viewed) → Spares r m w e used by p (λ q. most_of_merge r + q.merged)
  pub root : (m : SwapMemory) (w : ℕ) (e : Errand) (used by : ℕ) (p : Past) → (IsUndisturbed 0 p → IsLarge e p) → Spares r m w e used by p (λ q. q.viewed) → Spares r m w e used by p (λ q. most_of_root r + q.renewed)
  pub below : (m : SwapMemory) (w : ℕ) (e : Errand) (used by : ℕ) (p : Past) → (IsUndisturbed 0 p → IsLarge e p) → Spares r m w e used by p (λ q. q.viewed) → Spares r m w e used by p (λ q. most_of_below r + q.below)

-- the split of the node above one whose split found no room there: below a parent, or of the root
pub record IsAbove (t next : AnyTask) (a up : Ascent) : Type 0 where
  pub one : IsOneUp a up
  pub low : a.place < a.path.depth
  pub few : a.path.depth ≤ MAX_LEVELS
  pub from : ((kind_of t ≡ kinds.SplitLeaf a) × (a.place + 1 ≡ a.path.depth)) ⊎ (kind_of t ≡ kinds.SplitNode a)
  pub to : ((kind_of next ≡ kinds.SplitNode up) × (0 < up.place)) ⊎ (kind_of next ≡ kinds.SplitRootNode up)

-- it is paid for, in a clean round where the node is one of the full ones directly above the leaf
abbrev pub AscentsArePaid : Resource → Type 0
AscentsArePaid r =
    (m : SwapMemory) (w : ℕ) (e : Errand) (t next : AnyTask) (a up : Ascent) (used by : ℕ) (p : Past) → e.effected ≡ false → is_read e.call ≡ false → IsAbove t next a up → end_of t ≡ Some NeedsRoom → (IsUndisturbed 0 p → level_of up + 1 ≤ stage_now e p) →
    IsPaid r m w e t 0 0 used by p → Spares r m w e used by p (λ q. most_of r next + coming r q e (kind_of next))
