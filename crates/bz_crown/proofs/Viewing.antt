-- What a path with a link in the root shows.
use Rattle.std.proofs.Common.{◌≡◌, ℕ, List, arith, refl, Some}
use Rattle.std.specs.Prelude.{slice_get}
use Rattle.bz_layout.specs.Addresses.{SlotsApart}
use Rattle.bz_task.specs.Outcomes.{IsPath}
use Rattle.bz_task.specs.Scene.{Past}
use Rattle.bz_task.specs.declared.path.Link.{Link}
use Rattle.bz_task.specs.declared.path.Path.{Path}
use Rattle.bz_branch.specs.Nodes.{IsOpenLink}
use Rattle.bz_branch.proofs.Paths.{open-link}
use Rattle.bz_crown.specs.Due.{IsDue, AreDue}
use Rattle.bz_crown.specs.Facts.{HasLinks}

module _ (apart : SlotsApart) (key : List ℕ) (path : Path) (p : Past) (is : IsPath key path p) (due : IsDue path) (upper lower : Link) (first : slice_get path.links 0 ≡ Some upper) (second : slice_get path.links 1 ≡ Some lower) where
  are : AreDue upper lower
  are = due.links upper lower first second

  node : IsOpenLink upper.slot lower p
  node = open-link key path p is 0 (omega (arith, due.deep)) upper lower first second are.full.thawed.is

  pub has-links : HasLinks upper lower p
  has-links = record {
    under = is.first upper first;
    guard = (is.links 0 upper (omega (arith, due.deep)) first).guarded;
    thawed = are.thawed.is;
    node = node;
    guarded = node.guard.guarded;
    is_guarded = refl;
    many = are.full.many;
  }
