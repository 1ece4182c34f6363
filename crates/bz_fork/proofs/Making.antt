-- The three nodes are words that may be stored.
use Rattle.std.proofs.Common.{◌≡◌, ℕ, zero, suc, ◌<◌, arith, sym, subst}
use Rattle.std.specs.Prelude.{length, All}
use Rattle.bz_layout.specs.declared.limits.TheConstants.{MAX_NODES}
use Rattle.bz_layout.specs.declared.sizes.TheConstants.{NODE_WORDS}
use Rattle.bz_node.specs.Reading.{children_in}
use Rattle.bz_task.specs.Scene.{Scene, IsScene}
use Rattle.bz_halves.specs.Parents.{parted}
use Rattle.bz_halves.proofs.PartedParents.{parted-each}
use Rattle.bz_halves.proofs.Proved.{children_may_be_parted}
use Rattle.bz_renew.specs.Nodes.{ArePlain, HaveSlots}
use Rattle.bz_renew.proofs.Plainness.{IsPlain, inner-plain}
use Rattle.bz_branch.specs.FromBelow.Facts.{IsNewParent}
use Rattle.bz_branch.specs.Parts.{AreHalvesOfNode}
use Rattle.bz_fork.specs.Facts.{Fork, fork_nodes, IsPlanned, AreMadeOf, parent_words}
use Rattle.bz_fork.proofs.Uniting.{one-separator}

-- the three nodes are words that may be stored
module _ (r : Fork) (s : Scene) (good : IsScene s) (v : IsPlanned r s.past) (made : AreMadeOf s.past.config.nodes r.middle.slot r.read r.above (r.image 0) (r.image 1) (r.image 2) (r.slot 1) (r.slot 2)) (slots : HaveSlots s.past.config.nodes (fork_nodes r)) where
  found : AreHalvesOfNode s.past.config.nodes r.read (r.image 1) (r.image 2) made.sep v.node.level v.node.low v.node.high
  found = made.parts s.past.config.nodes v.node.level v.node.low v.node.high v.node.node

  -- the separator is that for which there is room
  same : made.sep ≡ v.sep
  same = one-separator s.past.config.nodes r.read (r.image 1) (r.image 2) made.sep v.left v.right v.sep v.node.level v.node.low v.node.high found v.parts

  pub halves : AreHalvesOfNode s.past.config.nodes r.read (r.image 1) (r.image 2) v.sep v.node.level v.node.low v.node.high
  halves = subst (λ z. AreHalvesOfNode s.past.config.nodes r.read (r.image 1) (r.image 2) z v.node.level v.node.low v.node.high) same found

  pub over : r.image 0 ≡ parent_words r v.sep v.links.child v.parent.level v.parent.low v.parent.high
  over =
      (subst (λ z. IsNewParent s.past.config.nodes r.middle.slot (r.slot 1) (r.slot 2) z r.above (r.image 0)) same made.over) v.parent.level v.links.child v.parent.low v.parent.high v.parent.parent

  sizes : (n : ℕ) → n < 3 → length (r.image n) ≡ NODE_WORDS
  sizes zero h = made.size
  sizes (suc zero) h = found.left_size
  sizes (suc (suc zero)) h = found.right_size
  sizes (suc (suc (suc n))) h = absurd (omega (arith, h))

  slot-small : (n : ℕ) → n < 3 → r.slot n < MAX_NODES
  slot-small n h = omega (arith, slots.within n h, good.config.nodes_in_range.at_most)

  parent-plain : All IsPlain (parent_words r v.sep v.links.child v.parent.level v.parent.low v.parent.high)
  parent-plain =
      let m = v.parent.parent.partable.may in
      inner-plain (parted (children_in r.above) v.links.child (r.slot 1) (r.slot 2) v.sep) v.parent.low v.parent.high v.parent.level
      (parted-each (children_in r.above) v.parent.low v.parent.high v.links.child (r.slot 1) (r.slot 2) v.sep m (slot-small 1 (omega arith)) (slot-small 2 (omega arith)))
      m.low_bound m.high_bound (omega (arith, v.parent.parent.lowest)) (omega (arith, v.room, (children_may_be_parted (children_in r.above) v.parent.low v.parent.high v.links.child (r.slot 1) (r.slot 2) v.sep m).words))

  plains : (n : ℕ) → n < 3 → All IsPlain (r.image n)
  plains zero h = subst (All IsPlain) (sym over) parent-plain
  plains (suc zero) h = found.left_plain
  plains (suc (suc zero)) h = found.right_plain
  plains (suc (suc (suc n))) h = absurd (omega (arith, h))

  pub are-plain : ArePlain (fork_nodes r)
  are-plain = record { size = sizes; plain = plains }
