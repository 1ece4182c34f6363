-- The link to the parent and its guard are no statuses of the parent and of the node.
use Rattle.std.proofs.Common.{◌≡◌, ◌≢◌, ℕ, ◌+◌, true, List, arith, sym, ap, subst, ◌∙◌, inl, inr}
use Rattle.bz_layout.specs.Addresses.{node_address, SlotsApart}
use Rattle.bz_layout.specs.declared.config.Config.{Config}
use Rattle.bz_layout.specs.declared.sizes.TheConstants.{STATUS_AT}
use Rattle.bz_tree.specs.Form.{Form}
use Rattle.bz_task.specs.Good.{IsGood}
use Rattle.bz_task.specs.Instant.{form_at, is_inside}
use Rattle.bz_task.specs.Laws.{SamePlace, RangesStay}
use Rattle.bz_task.specs.Outcomes.{IsUnderRoot, IsUnderNode}
use Rattle.bz_task.specs.Scene.{Scene, IsScene, here}
use Rattle.bz_task.specs.declared.path.Link.{Link}
use Rattle.bz_renew.specs.Renewals.{IsTurnable, LinksMayBeTurned}
use Rattle.bz_renew.specs.Standing.{StillLeads, GuardedLinksStand}
use Rattle.bz_fork.specs.Facts.{IsPlan, AreClear}

module _ (stand : GuardedLinksStand) (ranges : RangesStay) (apart : SlotsApart) (may : LinksMayBeTurned) (upper middle lower : Link) (read above : List ℕ) (s : Scene) (good : IsScene s) (v : IsPlan upper middle lower read above s.past) (now : (here s).value upper.guard ≡ upper.status) where
  abbrev c : Config
  c = s.past.config

  turnable : IsTurnable upper s
  turnable = may s upper good v.links.down.upper_guard v.links.down.upper_thawed

  -- where the link stands in a node
  module _ (u : IsUnderNode s.past upper v.links.down.upper_guard.guarded) where
    abbrev f : Form
    f = form_at c (here s)

    leads : StillLeads upper s v.links.down.upper_guard.guarded u.parent u.child.child
    leads = stand s upper good v.links.down.upper_guard v.links.down.upper_thawed u now

    here-good : IsGood c (here s)
    here-good = good.history.good s.past.now good.begun (omega arith)

    guarded-good : IsGood c (s.past.at v.links.guarded)
    guarded-good = good.history.good v.links.guarded (omega (arith, v.links.down.guard.since, v.links.is_guarded)) (omega (arith, v.links.down.guard.order, v.links.down.guard.now, v.links.is_guarded))

    counted-good : IsGood c (s.past.at v.links.counted)
    counted-good = good.history.good v.links.counted (omega (arith, v.links.node.guard.since, v.links.is_counted)) (omega (arith, v.links.node.guard.order, v.links.node.guard.now, v.links.is_counted))

    -- the parent stands where it stood
    parent-level : f.level upper.slot ≡ v.parent.level
    parent-level =
        let place : SamePlace c (s.past.at v.links.guarded) (here s) upper.slot = ranges c s.past.at s.past.since s.past.now v.links.guarded s.past.now upper.slot good.history
        (record { since = omega (arith, v.links.down.guard.since, v.links.is_guarded); order = omega (arith, v.links.down.guard.order, v.links.down.guard.now, v.links.is_guarded); until = omega arith })
        (λ e. absurd (omega (arith, e, guarded-good.slots upper.slot v.parent.reached))) v.parent.inside leads.stands.inside in
        place.level ∙ v.parent.level_is

    -- and so does the node, where it is in the tree
    node-level : is_inside c (here s) middle.slot ≡ true → f.level middle.slot ≡ v.node.level
    node-level inside =
        let place : SamePlace c (s.past.at v.links.counted) (here s) middle.slot = ranges c s.past.at s.past.since s.past.now v.links.counted s.past.now middle.slot good.history
        (record { since = omega (arith, v.links.node.guard.since, v.links.is_counted); order = omega (arith, v.links.node.guard.order, v.links.node.guard.now, v.links.is_counted); until = omega arith })
        (λ e. absurd (omega (arith, e, counted-good.slots middle.slot v.node.reached))) v.node.inside inside in
        place.level ∙ v.node.level_is

    not-parent : u.parent ≢ upper.slot
    not-parent e = absurd (omega (arith, leads.stands.level, ap f.level e))

    not-node : u.parent ≢ middle.slot
    not-node e =
        let there : is_inside c (here s) middle.slot ≡ true = subst (λ z. is_inside c (here s) z ≡ true) e leads.inside in
        absurd (omega (arith, leads.stands.level, ap f.level e, node-level there, parent-level, v.levels))

    -- a child pointer is no status
    no-status : (k : ℕ) → upper.link ≢ node_address c k + STATUS_AT
    no-status k e =
        let at : u.place ≡ STATUS_AT = (apart c u.parent k u.place STATUS_AT u.within (omega arith) (sym u.pointer ∙ e)).1 in
        absurd (turnable.apart (u.pointer ∙ (ap (λ z. node_address c u.parent + z) at ∙ sym u.guard)))

    no-guard : (k : ℕ) → u.parent ≢ k → upper.guard ≢ node_address c k + STATUS_AT
    no-guard k ne e = ne (apart c u.parent k STATUS_AT STATUS_AT (omega arith) (omega arith) (sym u.guard ∙ e)).0

    at-node : AreClear c upper middle
    at-node = record { link_parent = no-status upper.slot; guard_parent = no-guard upper.slot not-parent; link_node = no-status middle.slot; guard_node = no-guard middle.slot not-node; two = v.two }

  at-root : IsUnderRoot upper → AreClear c upper middle
  at-root u = record {
    link_parent = λ e. absurd (omega (arith, e, u.pointer));
    guard_parent = λ e. absurd (omega (arith, e, u.guard));
    link_node = λ e. absurd (omega (arith, e, u.pointer));
    guard_node = λ e. absurd (omega (arith, e, u.guard));
    two = v.two;
  }

  pub are-clear : AreClear c upper middle
  are-clear = elim v.links.down.upper_guard.under [ inl u ↦ at-root u | inr u ↦ at-node u ]
