-- The halves of an inner node that was read, at its level and between its bounds.
use Rattle.std.proofs.Common.{◌≡◌, ℕ, ◌<◌, List, length, take, arith, sym, subst, ◌∙◌, Option}
use Rattle.std.specs.Prelude.{All, Some, None}
use Rattle.bz_key.specs.Bytes.{IsKey}
use Rattle.bz_layout.specs.declared.sizes.TheConstants.{NODE_WORDS}
use Rattle.bz_layout.specs.declared.thresholds.TheConstants.{INNER_LIMIT}
use Rattle.bz_node.specs.Reading.{children_in, HasHighFence, high_in}
use Rattle.bz_node.specs.Records.{IsAbove, IsBelow}
use Rattle.bz_node.specs.declared.child.Child.{Child}
use Rattle.bz_tree.specs.Slots.{Halves}
use Rattle.bz_slotted.specs.ReadingLaws.{node_of}
use Rattle.bz_slotted.specs.Rules.{node_fault}
use Rattle.bz_slotted.proofs.Proved.{high_fences_are_read}
use Rattle.bz_halves.specs.Parents.{children_told}
use Rattle.bz_parted.specs.Parting.{child_words, separator_of, right_half, left_words, right_words}
use Rattle.bz_parted.specs.Laws.{IsSplitInner, AreInnerHalves, AreParted}
use Rattle.bz_parted.specs.Made.{AreHalvesOf}
use Rattle.bz_parted.specs.declared.halves.InnerHalves.{InnerHalves}
use Rattle.bz_parted.proofs.Proved.{children_part_in_halves, halves_are_inner}
use Rattle.bz_renew.proofs.Plainness.{IsPlain, inner-plain}
use Rattle.bz_branch.specs.Nodes.{IsInnerNode}
use Rattle.bz_branch.specs.Parts.{IsFullNode, AreHalvesOfNode}

-- what the code reads of a node, where it breaks no rule at a level between bounds
pub record FrontIs (read : List ℕ) (level : ℕ) (low high : Option (List ℕ)) : Type 0 where
  pub level_is : (nodes : ℕ) (raw : ℕ → ℕ) (l : ℕ) (lo hi : Option (List ℕ)) → node_fault nodes raw (node_of read) l lo hi ≡ None → level ≡ l
  pub low_is : (nodes : ℕ) (raw : ℕ → ℕ) (l : ℕ) (lo hi : Option (List ℕ)) → node_fault nodes raw (node_of read) l lo hi ≡ None → low ≡ lo
  pub high_is : high ≡ high_in read

-- the children are those of a node that is split
pub is-split : (nodes : ℕ) (read : List ℕ) (level : ℕ) (low high : Option (List ℕ)) → IsInnerNode nodes read level low high → INNER_LIMIT < child_words (children_in read) → IsSplitInner (children_in read) low high
is-split nodes read level low high n many = record { each = n.node.each; low_bound = n.node.low_bound; high_bound = n.node.high_bound; list = n.node.list; many = many; room = n.node.room }

module _ (read : List ℕ) (level : ℕ) (low high : Option (List ℕ)) (front : FrontIs read level low high) where
  pub high-fence : IsFullNode read → HasHighFence read
  high-fence f = (high_fences_are_read f.nodes f.node.raw read f.level f.low f.high f.node.size f.node.none).readable

  module _ (nodes l : ℕ) (lo hi : Option (List ℕ)) (n : IsInnerNode nodes read l lo hi) where
    pub level-is : level ≡ l
    level-is = front.level_is nodes n.raw l lo hi n.none

    low-is : low ≡ lo
    low-is = front.low_is nodes n.raw l lo hi n.none

    high-is : high ≡ hi
    high-is = front.high_is ∙ (high_fences_are_read nodes n.raw read l lo hi n.size n.none).high

    pub read-split : INNER_LIMIT < child_words (children_in read) → IsSplitInner (children_in read) low high
    read-split many = subst (λ z. IsSplitInner (children_in read) z high) (sym low-is) (subst (λ z. IsSplitInner (children_in read) lo z) (sym high-is) (is-split nodes read l lo hi n many))

    pub read-halves : (halves : InnerHalves) → AreHalvesOf (children_in read) low high level halves → AreHalvesOf (children_in read) lo hi l halves
    read-halves halves h =
        subst (λ z. AreHalvesOf (children_in read) lo hi z halves) level-is
        (subst (λ z. AreHalvesOf (children_in read) lo z level halves) high-is (subst (λ z. AreHalvesOf (children_in read) z high level halves) low-is h))

module _ (nodes : ℕ) (read : List ℕ) (l : ℕ) (lo hi : Option (List ℕ)) (n : IsInnerNode nodes read l lo hi) (many : INNER_LIMIT < child_words (children_in read)) (halves : InnerHalves) (h : AreHalvesOf (children_in read) lo hi l halves)
    (left_size : length halves.left.0 ≡ NODE_WORDS) (right_size : length halves.right.0 ≡ NODE_WORDS) where
  abbrev cs : List Child
  cs = children_in read

  split : IsSplitInner cs lo hi
  split = is-split nodes read l lo hi n many

  parts : AreInnerHalves cs lo hi h.cut
  parts = children_part_in_halves cs lo hi h.cut split h.is_cut

  made : AreParted nodes (node_of read) cs lo hi l h.cut
  made = halves_are_inner nodes (node_of read) cs lo hi l h.cut split h.is_cut (record { few = n.few; slots = n.node.slots; inner = n.inner; lowest = n.lowest }) n.node.has

  left-plain : All IsPlain (left_words cs lo l h.cut)
  left-plain = inner-plain (take h.cut cs) lo (Some (separator_of cs h.cut)) l parts.left_each n.node.low_bound parts.separator (omega (arith, n.lowest)) (omega (arith, parts.left_room))

  right-plain : All IsPlain (right_words cs hi l h.cut)
  right-plain = inner-plain (right_half cs h.cut) (Some (separator_of cs h.cut)) hi l parts.right_each parts.separator n.node.high_bound (omega (arith, n.lowest)) (omega (arith, parts.right_room))

  pub halves-of-node : AreHalvesOfNode nodes read halves.left.0 halves.right.0 halves.separator l lo hi
  halves-of-node = record {
    cut = h.cut;
    is_cut = h.is_cut;
    separator_is = h.separator;
    left_is = h.left;
    right_is = h.right;
    separator = subst IsKey (sym h.separator) parts.separator;
    above = subst (IsAbove lo) (sym h.separator) parts.above;
    below = subst (IsBelow hi) (sym h.separator) parts.below;
    left_whole = (λ t. node_fault nodes (node_of (h.left t)) (node_of (h.left t)) l lo (Some (h.separator t))) ∙ made.left.none;
    right_whole = (λ t. node_fault nodes (node_of (h.right t)) (node_of (h.right t)) l (Some (h.separator t)) hi) ∙ made.right.none;
    halves = subst (λ z. Halves (children_told (node_of read)) (children_told (node_of halves.left.0)) (children_told (node_of halves.right.0)) h.cut z) (sym h.separator)
        (subst (λ z. Halves (children_told (node_of read)) (children_told (node_of z)) (children_told (node_of halves.right.0)) h.cut (separator_of cs h.cut)) (sym h.left)
        (subst (λ z. Halves (children_told (node_of read)) (children_told (node_of (left_words cs lo l h.cut))) (children_told (node_of z)) h.cut (separator_of cs h.cut)) (sym h.right) made.halves));
    left_size = left_size;
    right_size = right_size;
    left_plain = subst (All IsPlain) (sym h.left) left-plain;
    right_plain = subst (All IsPlain) (sym h.right) right-plain;
  }
