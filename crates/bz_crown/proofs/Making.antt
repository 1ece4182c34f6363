-- The three nodes are words that may be stored, and what is known once their slots are taken.
use Rattle.std.proofs.Common.{◌≡◌, ℕ, zero, suc, ◌+◌, ◌<◌, arith, sym, subst}
use Rattle.std.specs.Prelude.{length, All, None}
use Rattle.bz_layout.specs.declared.limits.TheConstants.{MAX_NODES}
use Rattle.bz_layout.specs.declared.sizes.TheConstants.{NODE_WORDS}
use Rattle.bz_node.specs.Records.{IsChild}
use Rattle.bz_task.specs.Scene.{Scene, IsScene}
use Rattle.bz_parted.specs.FromHalves.Roots.{root_children}
use Rattle.bz_parted.proofs.FromHalves.Roots.{root-room}
use Rattle.bz_parted.specs.Roots.{tall_root_words}
use Rattle.bz_renew.specs.Nodes.{ArePlain, HaveSlots}
use Rattle.bz_renew.proofs.Plainness.{IsPlain, inner-plain}
use Rattle.bz_branch.specs.Parts.{AreHalvesOfNode}
use Rattle.bz_crown.specs.Facts.{Crown, crown_nodes, IsPlanned, AreMadeOf}

-- the three nodes are words that may be stored
module _ (r : Crown) (s : Scene) (good : IsScene s) (v : IsPlanned r s.past) (made : AreMadeOf r.read (r.image 0) (r.image 1) (r.image 2) (r.slot 1) (r.slot 2)) (slots : HaveSlots s.past.config.nodes (crown_nodes r)) where
  pub parts : AreHalvesOfNode s.past.config.nodes r.read (r.image 1) (r.image 2) made.sep v.node.level v.node.low v.node.high
  parts = made.parts s.past.config.nodes v.node.level v.node.low v.node.high v.node.node

  pub over : r.image 0 ≡ tall_root_words (r.slot 1) (r.slot 2) made.sep (v.node.level + 1)
  over = made.over s.past.config.nodes v.node.node.raw v.node.level v.node.low v.node.high v.node.node.none

  sizes : (n : ℕ) → n < 3 → length (r.image n) ≡ NODE_WORDS
  sizes zero h = made.size
  sizes (suc zero) h = parts.left_size
  sizes (suc (suc zero)) h = parts.right_size
  sizes (suc (suc (suc n))) h = absurd (omega (arith, h))

  slot-small : (n : ℕ) → n < 3 → r.slot n < MAX_NODES
  slot-small n h = omega (arith, slots.within n h, good.config.nodes_in_range.at_most)

  children : All IsChild (root_children (r.slot 1) (r.slot 2) made.sep)
  children zero d h = record { low = tt; slot = omega (arith, slot-small 1 (omega arith)) }
  children (suc zero) d h = record { low = parts.separator; slot = omega (arith, slot-small 2 (omega arith)) }
  children (suc (suc i)) d h = absurd (omega arith)

  root-plain : All IsPlain (tall_root_words (r.slot 1) (r.slot 2) made.sep (v.node.level + 1))
  root-plain = inner-plain (root_children (r.slot 1) (r.slot 2) made.sep) None None (v.node.level + 1) children tt tt (omega (arith, v.low_enough)) (omega (arith, root-room (r.slot 1) (r.slot 2) made.sep parts.separator.fits))

  plains : (n : ℕ) → n < 3 → All IsPlain (r.image n)
  plains zero h = subst (All IsPlain) (sym over) root-plain
  plains (suc zero) h = parts.left_plain
  plains (suc (suc zero)) h = parts.right_plain
  plains (suc (suc (suc n))) h = absurd (omega (arith, h))

  pub are-plain : ArePlain (crown_nodes r)
  are-plain = record { size = sizes; plain = plains }
