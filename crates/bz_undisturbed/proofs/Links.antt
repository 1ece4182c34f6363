-- The swaps that turn a link: link, guard and the statuses of the nodes that are frozen besides are as they were read.
use Rattle.std.proofs.Common.{◌≡◌, ℕ, ◌+◌, sym, ap, ◌∙◌}
use Rattle.bz_layout.specs.Addresses.{node_address}
use Rattle.bz_layout.specs.declared.sizes.TheConstants.{STATUS_AT}
use Rattle.bz_swap.proofs.EntryLists.{All-inserted}
use Rattle.bz_word.specs.declared.entry.Entry.{Entry}
use Rattle.bz_task.specs.Outcomes.{IsUnderNode, IsGuarded}
use Rattle.bz_task.specs.Requests.{Answers}
use Rattle.bz_task.specs.Scene.{Scene, IsScene, here}
use Rattle.bz_task.specs.Swaps.{Stand}
use Rattle.bz_task.specs.declared.path.Link.{Link}
use Rattle.bz_renew.proofs.TwoEntries.{all-two}
use Rattle.bz_renew.specs.Freezings.{freezing_entry}
use Rattle.bz_renew.specs.Renewals.{link_entry, guard_entry, renewal}
use Rattle.bz_below.specs.FromSplit.BelowSplits.{AreLinksDown, parent_freezing, below_swap}
use Rattle.bz_any_task.specs.FromBranch.InnerSplits.{inner_swap}
use Rattle.bz_any_task.specs.FromBranch.Nodes.{IsOpenLink}
use Rattle.bz_undisturbed.specs.Quiet.{IsQuietSince}
use Rattle.bz_undisturbed.proofs.Standing.{guard-stands, link-stands}

module _ (s : Scene) (good : IsScene s) (q : IsQuietSince s.past.since s.past) where
  abbrev pub Stands : Entry → Type 0
  Stands e = (here s).value e.target ≡ e.expected

  -- a guard that is looked at again is as it was read
  pub guard-same : (link : Link) (v : ℕ) → IsGuarded s.past link → Answers s link.guard v → v ≡ link.status
  guard-same link v g a = sym a.value ∙ guard-stands s good s.past.since q link g g.since

  pub renewal-stands : (link : Link) (to : ℕ) → IsGuarded s.past link → Stand (renewal link to) (here s)
  renewal-stands link to g = all-two Stands (link_entry link to) (guard_entry link) (link-stands s good s.past.since q link g g.since) (guard-stands s good s.past.since q link g g.since)

  -- the status of the node in which a link stands is the guard of the link
  parent-stands : (upper link : Link) (g : IsGuarded s.past link) (u : IsUnderNode s.past link g.guarded) → u.parent ≡ upper.slot → Stands (freezing_entry s.past.config (parent_freezing upper link))
  parent-stands upper link g u e = ap (here s).value (sym (u.guard ∙ ap (λ z. node_address s.past.config z + STATUS_AT) e)) ∙ guard-stands s good s.past.since q link g g.since

  -- the link to a parent, which is frozen with it
  pub below-stands : (upper lower : Link) (to : ℕ) → IsGuarded s.past upper → IsOpenLink upper.slot lower s.past → Stand (below_swap s.past.config upper lower to) (here s)
  below-stands upper lower to g o =
      All-inserted Stands (freezing_entry s.past.config (parent_freezing upper lower)) (renewal upper to) (parent-stands upper lower o.guard o.under o.parent) (renewal-stands upper to g)

  -- the same with a child of the parent besides
  pub inner-stands : (upper middle lower : Link) (to : ℕ) → IsGuarded s.past upper → IsOpenLink upper.slot middle s.past → IsOpenLink middle.slot lower s.past → Stand (inner_swap s.past.config upper middle lower to) (here s)
  inner-stands upper middle lower to g o p =
      All-inserted Stands (freezing_entry s.past.config (parent_freezing middle lower)) (below_swap s.past.config upper middle to) (parent-stands middle lower p.guard p.under p.parent) (below-stands upper middle to g o)

-- the lower one of two links that lead down
pub open-below : (s : Scene) (upper lower : Link) → AreLinksDown upper lower s.past → IsOpenLink upper.slot lower s.past
open-below s upper lower d = record { guard = d.guard; thawed = d.thawed; under = d.under; parent = d.parent }
