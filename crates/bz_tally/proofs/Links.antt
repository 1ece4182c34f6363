-- A link in a node whose status was read: where that is as it was read, the node is as it was, and the link leads where it led.
use Rattle.std.proofs.Common.{◌≡◌, ◌≢◌, ℕ, ◌+◌, ◌==◌, true, false, [], ◌∷◌, arith, refl, ap, subst, ◌∙◌}
use Rattle.std.proofs.lemmas.Bool.Decides.{nat_tests}
use Rattle.bz_branch.proofs.Standing.{guard-is, same-place, same-words}
use Rattle.bz_branch.specs.Nodes.{IsOpenLink}
use Rattle.bz_layout.specs.Addresses.{node_address}
use Rattle.bz_layout.specs.declared.config.Config.{Config}
use Rattle.bz_layout.specs.declared.sizes.TheConstants.{STATUS_AT}
use Rattle.bz_renew.specs.Freezings.{IsFreezable}
use Rattle.bz_renew.specs.Standing.{StillLeads}
use Rattle.bz_renew.proofs.Proved.{guarded_links_stand, links_may_be_turned}
use Rattle.bz_tree.specs.Walk.{is_among, IsTree}
use Rattle.bz_split.specs.BelowSplits.{AreLinksDown}
use Rattle.bz_content.specs.Content.{view_in, IsWellFormed}
use Rattle.bz_content.proofs.Proved.{well_formed_images_have_no_fault}
use Rattle.bz_task.specs.Instant.{words, durable, form_at, is_inside}
use Rattle.bz_task.specs.Laws.{SamePlace}
use Rattle.bz_task.specs.Scene.{Scene, IsScene, here}
use Rattle.bz_task.specs.declared.path.Link.{Link}
use Rattle.bz_tally.specs.Counts.{IsLeafNow}

module _ (s : Scene) (k : ℕ) (link : Link) (good : IsScene s) (o : IsOpenLink k link s.past) (now : (here s).value (node_address s.past.config k + STATUS_AT) ≡ link.status) where
  abbrev c : Config
  c = s.past.config

  pub node-leads : StillLeads link s o.guard.guarded k o.under.child.child
  node-leads = subst (λ z. StillLeads link s o.guard.guarded z o.under.child.child) o.parent (guarded_links_stand s link good o.guard o.thawed o.under (ap (here s).value (guard-is s k link good o) ∙ now))

  pub node-place : SamePlace c (s.past.at o.guard.guarded) (here s) k
  node-place = same-place s k link good o o.under.child.child node-leads

  pub node-words : durable c (here s) k ≡ words c (s.past.at o.guard.guarded) k
  node-words = same-words s k link good o o.under.child.child node-leads

  pub node-freezable : IsFreezable (record { slot = k; status = link.status }) s
  node-freezable = record { reached = node-leads.reached; plain = (links_may_be_turned s link good o.guard o.thawed).plain; thawed = o.thawed }

-- the lower one of two links that lead down
abbrev pub in-parent : (s : Scene) (upper lower : Link) → AreLinksDown upper lower s.past → IsOpenLink upper.slot lower s.past
in-parent s upper lower d = record { guard = d.guard; thawed = d.thawed; under = d.under; parent = d.parent }

-- a slot that is none of these
pub out-one : (x k : ℕ) → x ≢ k → is_among (x ∷ []) k ≡ false
out-one x k ne = let t : (x == k) ≡ false = grind (arith, nat_tests) in rw t refl

pub out-two : (x z k : ℕ) → x ≢ k → z ≢ k → is_among (x ∷ z ∷ []) k ≡ false
out-two x z k ne other = let t : (x == k) ≡ false = grind (arith, nat_tests) in let u : (z == k) ≡ false = grind (arith, nat_tests) in rw (t, u) refl

-- the tree that the image is now, and a leaf of it
pub tree-now : (s : Scene) → IsScene s → IsTree (view_in s.past.config (here s).image)
tree-now s good =
    let w : IsWellFormed s.past.config (here s).image = (well_formed_images_have_no_fault s.past.config (here s).image).0 (good.history.good s.past.now good.begun (omega arith)).form in
    w.tree

pub leaf-now : (s : Scene) (k : ℕ) → is_inside s.past.config (here s) k ≡ true → (form_at s.past.config (here s)).level k ≡ 0 → IsLeafNow s k
leaf-now s k i l = let z : ((form_at s.past.config (here s)).level k == 0) ≡ true = grind (arith, nat_tests) in rw (i, z) refl
