-- The words of the root and of the halves may be stored.
use Rattle.std.proofs.Common.{◌≡◌, ℕ, zero, suc, ◌<◌, List, arith, sym, subst, length}
use Rattle.std.specs.Prelude.{All, None}
use Rattle.bz_key.specs.Bytes.{IsKey}
use Rattle.bz_layout.specs.declared.limits.TheConstants.{MAX_NODES}
use Rattle.bz_layout.specs.declared.sizes.TheConstants.{NODE_WORDS}
use Rattle.bz_node.specs.Records.{IsChild}
use Rattle.bz_task.specs.Scene.{Scene, IsScene}
use Rattle.bz_halves.specs.Roots.{root_children, root_words}
use Rattle.bz_halves.proofs.Roots.{root-room}
use Rattle.bz_renew.specs.Nodes.{ArePlain, HaveSlots}
use Rattle.bz_renew.proofs.Plainness.{IsPlain, inner-plain}
use Rattle.bz_split.specs.Facts.{Split, nodes_in, HasParted}

root-plain : (left right : ℕ) (sep : List ℕ) → left < MAX_NODES → right < MAX_NODES → IsKey sep → All IsPlain (root_words left right sep)
root-plain left right sep l h key = inner-plain (root_children left right sep) None None 1 children tt tt (omega arith) (omega (arith, root-room left right sep key.fits))
  where
    children : All IsChild (root_children left right sep)
    children zero d k = record { low = tt; slot = omega (arith, l) }
    children (suc zero) d k = record { low = key; slot = omega (arith, h) }
    children (suc (suc i)) d k = absurd (omega arith)

module _ (r : Split) (s : Scene) (good : IsScene s) (v : HasParted r.link (r.image 1) (r.image 2) r.sep s.past) (over : r.image 0 ≡ root_words (r.slot 1) (r.slot 2) r.sep) (size : length (r.image 0) ≡ NODE_WORDS) (slots : HaveSlots s.past.config.nodes (nodes_in r)) where
  sizes : (n : ℕ) → n < 3 → length (r.image n) ≡ NODE_WORDS
  sizes zero h = size
  sizes (suc zero) h = v.left_size
  sizes (suc (suc zero)) h = v.right_size
  sizes (suc (suc (suc n))) h = absurd (omega (arith, h))

  slot-small : (n : ℕ) → n < 3 → r.slot n < MAX_NODES
  slot-small n h = omega (arith, slots.within n h, good.config.nodes_in_range.at_most)

  plains : (n : ℕ) → n < 3 → All IsPlain (r.image n)
  plains zero h = subst (All IsPlain) (sym over) (root-plain (r.slot 1) (r.slot 2) r.sep (slot-small 1 (omega arith)) (slot-small 2 (omega arith)) v.separator)
  plains (suc zero) h = v.left_plain
  plains (suc (suc zero)) h = v.right_plain
  plains (suc (suc (suc n))) h = absurd (omega (arith, h))

  pub are-plain : ArePlain (nodes_in r)
  are-plain = record { size = sizes; plain = plains }
