-- While the guard of a link below a parent has the value that was read, the parent is as it was, and the link leads where it led.
use Rattle.std.specs.Prelude.{◌≡◌, ℕ, ◌<◌, true, false}
use Rattle.bz_tree.specs.Form.{Stands}
use Rattle.bz_word.specs.Statuses.{status}
use Rattle.bz_task.specs.FromContent.Content.{view_in}
use Rattle.bz_task.specs.Instant.{page_at, form_at, is_inside}
use Rattle.bz_task.specs.Outcomes.{IsUnderNode, IsGuarded}
use Rattle.bz_task.specs.Scene.{Scene, IsScene, here}
use Rattle.bz_task.specs.Shown.{SameShownNode}
use Rattle.bz_task.specs.declared.path.Link.{Link}

-- slot p is an inner node of the tree, not frozen, and as it was at this moment; the link's slot stands there as child i
pub record StillLeads (link : Link) (s : Scene) (m p i : ℕ) : Type 0 where
  pub reached : (here s).reached p ≡ true
  pub thawed : (page_at s.past.config (here s) p).frozen ≡ false
  pub inner : 0 < (page_at s.past.config (here s) p).level
  pub inside : is_inside s.past.config (here s) p ≡ true
  pub same : SameShownNode s.past.config (s.past.at m) (here s) p
  pub stands : Stands (view_in s.past.config (here s).image) (form_at s.past.config (here s)) p i link.slot

abbrev pub GuardedLinksStand : Type 0
GuardedLinksStand =
    (s : Scene) (link : Link) → IsScene s → (guard : IsGuarded s.past link) → (status link.status).frozen ≡ false → (under : IsUnderNode s.past link guard.guarded) →
    (here s).value link.guard ≡ link.status → StillLeads link s guard.guarded under.parent under.child.child
