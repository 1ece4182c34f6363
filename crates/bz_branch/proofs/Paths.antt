-- Two links of a path that follow each other: the second stands in the node to which the first one leads.
use Rattle.std.proofs.Common.{◌≡◌, ℕ, ◌+◌, ◌<◌, false, List, arith, sym, ◌∙◌, inl, inr, Some}
use Rattle.std.specs.Prelude.{slice_get}
use Rattle.bz_layout.specs.Addresses.{node_address}
use Rattle.bz_layout.specs.declared.sizes.TheConstants.{STATUS_AT}
use Rattle.bz_layout.proofs.Laws.{slots_apart}
use Rattle.bz_word.specs.Statuses.{status}
use Rattle.bz_task.specs.Outcomes.{IsPath, IsLink, IsUnderNode}
use Rattle.bz_task.specs.Scene.{Past}
use Rattle.bz_task.specs.declared.path.Link.{Link}
use Rattle.bz_task.specs.declared.path.Path.{Path}
use Rattle.bz_branch.specs.Nodes.{IsOpenLink}

module _ (key : List ℕ) (path : Path) (p : Past) (is : IsPath key path p) (place : ℕ) (deep : place + 1 < path.depth) (link next : Link) (first : slice_get path.links place ≡ Some link) (second : slice_get path.links (place + 1) ≡ Some next) where
  on : IsLink key p next
  on = is.links (place + 1) next deep second

  guard-is : next.guard ≡ node_address p.config link.slot + STATUS_AT
  guard-is = is.below place link next deep first second

  down : (u : IsUnderNode p next on.guarded.guarded) × (u.parent ≡ link.slot)
  down = elim on.guarded.under [
    | inl root ↦ absurd (omega (arith, root.guard, guard-is))
    | inr u ↦ (u, (slots_apart p.config u.parent link.slot STATUS_AT STATUS_AT (omega arith) (omega arith) (sym u.guard ∙ guard-is)).0)
  ]

  -- it is one of an open node, where its guard was no frozen node's
  pub open-link : (status next.status).frozen ≡ false → IsOpenLink link.slot next p
  open-link thawed = record { guard = on.guarded; thawed = thawed; under = down.0; parent = down.1 }
