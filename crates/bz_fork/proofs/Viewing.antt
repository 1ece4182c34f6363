-- What a path with three links from a place on shows.
use Rattle.std.proofs.Common.{◌≡◌, ℕ, ◌+◌, List, arith, refl, subst, Some}
use Rattle.std.specs.Prelude.{slice_get}
use Rattle.bz_layout.specs.Addresses.{SlotsApart}
use Rattle.bz_task.specs.Outcomes.{IsPath}
use Rattle.bz_task.specs.Scene.{Past}
use Rattle.bz_task.specs.declared.path.Link.{Link}
use Rattle.bz_task.specs.declared.path.Path.{Path}
use Rattle.bz_branch.specs.Nodes.{IsOpenLink}
use Rattle.bz_branch.proofs.Paths.{open-link}
use Rattle.bz_fork.specs.Due.{IsDue, AreDue}
use Rattle.bz_fork.specs.Facts.{HasLinks}

module _ (apart : SlotsApart) (key : List ℕ) (path : Path) (p : Past) (is : IsPath key path p) (place : ℕ) (due : IsDue path place) (upper middle lower : Link) (first : slice_get path.links place ≡ Some upper) (second : slice_get path.links (place + 1) ≡ Some middle) (third : slice_get path.links (place + 2) ≡ Some lower) where
  are : AreDue upper middle lower
  are = due.links upper middle lower first second third

  third-on : slice_get path.links (place + 1 + 1) ≡ Some lower
  third-on = let e : place + 2 ≡ place + 1 + 1 = omega arith in subst (λ z. slice_get path.links z ≡ Some lower) e third

  parent : IsOpenLink upper.slot middle p
  parent = open-link key path p is place (omega (arith, due.deep)) upper middle first second are.thawed.is

  node : IsOpenLink middle.slot lower p
  node = open-link key path p is (place + 1) (omega (arith, due.deep)) middle lower second third-on are.full.thawed.is

  pub has-links : HasLinks upper middle lower p
  has-links = record {
    down = record {
      upper_guard = (is.links place upper (omega (arith, due.deep)) first).guarded;
      upper_thawed = are.upper_thawed.is;
      guard = parent.guard;
      thawed = parent.thawed;
      under = parent.under;
      parent = parent.parent;
    };
    node = node;
    guarded = parent.guard.guarded;
    is_guarded = refl;
    child = parent.under.child.child;
    is_child = refl;
    counted = node.guard.guarded;
    is_counted = refl;
    many = are.full.many;
  }
