-- The links to a parent and to a node in it, while nobody's swap takes effect: guards have the values that were read, the node is the
-- parent's child, and the parent is as it was.
use Rattle.std.proofs.Common.{◌≡◌, ℕ, ◌+◌, ◌≤◌, arith, subst, ◌∙◌, inl, inr}
use Rattle.bz_layout.specs.declared.config.Config.{Config}
use Rattle.bz_layout.specs.declared.sizes.TheConstants.{STATUS_AT}
use Rattle.bz_task.specs.Instant.{words, durable, form_at}
use Rattle.bz_task.specs.Laws.{SamePlace}
use Rattle.bz_task.specs.Outcomes.{IsUnderNode, IsGuarded}
use Rattle.bz_task.specs.Scene.{Scene, IsScene, here}
use Rattle.bz_task.specs.Shown.{IsRead}
use Rattle.bz_task.specs.declared.path.Link.{Link}
use Rattle.bz_renew.specs.Freezings.{IsFreezable}
use Rattle.bz_renew.specs.Standing.{StillLeads}
use Rattle.bz_renew.proofs.Proved.{guarded_links_stand, links_may_be_turned}
use Rattle.bz_tally.specs.FromSplit.BelowSplits.{AreLinksDown}
use Rattle.bz_ascent.specs.FromBranch.Nodes.{IsOpenLink}
use Rattle.bz_ascent.proofs.FromBranch.Standing as open_link
use Rattle.bz_undisturbed.specs.Quiet.{IsQuietSince}
use Rattle.bz_undisturbed.proofs.Proved.{read_values_stand}

module _ (s : Scene) (good : IsScene s) (quiet : IsQuietSince s.past.since s.past) where
  abbrev c : Config
  c = s.past.config

  guard-read : (link : Link) (g : IsGuarded s.past link) → IsRead c (s.past.at g.guarded) link.guard
  guard-read link g = elim g.under [
    | inl u ↦ inr (inl u.guard)
    | inr u ↦ inr (inr (record { slot = u.parent; place = STATUS_AT; address = u.guard; within = omega arith; reached = u.reached; shown = inl (omega arith) }))
  ]

  -- a guard at any moment
  pub guard-at : (link : Link) → IsGuarded s.past link → (i : ℕ) → s.past.since ≤ i → i ≤ s.past.now → (s.past.at i).value link.guard ≡ link.status
  guard-at link g i from to =
      read_values_stand s s.past.since g.guarded link.guard good quiet (record { from = g.since; to = omega (arith, g.order, g.now) }) (guard-read link g) i g.guarded (record { from = from; to = to }) (record { from = g.since; to = omega (arith, g.order, g.now) })
      ∙ g.status

  pub guard-now : (link : Link) → IsGuarded s.past link → (here s).value link.guard ≡ link.status
  guard-now link g = guard-at link g s.past.now good.begun (omega arith)

  -- a node whose status was read, and a link in it
  module _ (k : ℕ) (link : Link) (o : IsOpenLink k link s.past) where
    pub node-leads : StillLeads link s o.guard.guarded k o.under.child.child
    node-leads = subst (λ z. StillLeads link s o.guard.guarded z o.under.child.child) o.parent (guarded_links_stand s link good o.guard o.thawed o.under (guard-now link o.guard))

    pub node-place : SamePlace c (s.past.at o.guard.guarded) (here s) k
    node-place = open_link.same-place s k link good o o.under.child.child node-leads

    pub node-words : durable c (here s) k ≡ words c (s.past.at o.guard.guarded) k
    node-words = open_link.same-words s k link good o o.under.child.child node-leads

    pub node-freezable : IsFreezable (record { slot = k; status = link.status }) s
    node-freezable = record { reached = node-leads.reached; plain = (links_may_be_turned s link good o.guard o.thawed).plain; thawed = o.thawed }

  -- a node is none of those above it
  pub not-above : (upper lower : Link) (d : AreLinksDown upper lower s.past) (under : IsUnderNode s.past upper d.upper_guard.guarded) → (form_at c (here s)).level upper.slot + 1 ≡ (form_at c (here s)).level under.parent
  not-above upper lower d under = (guarded_links_stand s upper good d.upper_guard d.upper_thawed under (guard-now upper d.upper_guard)).stands.level
