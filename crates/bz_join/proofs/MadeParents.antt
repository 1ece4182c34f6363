-- What is read of an inner node that breaks no rule is what it has: so the node with one child in the place of two may be made.
use Rattle.std.proofs.Common.{◌≡◌, ℕ, ◌+◌, ◌<◌, ◌≤◌, List, arith, sym, subst, ◌∙◌, Option}
use Rattle.bz_layout.specs.declared.thresholds.TheConstants.{MAX_LEVELS}
use Rattle.std.specs.Prelude.{None}
use Rattle.bz_node.specs.Reading.{children_in, count_in, high_in, HasHighFence}
use Rattle.bz_node.specs.Records.{IsChildList}
use Rattle.bz_slotted.specs.ReadingLaws.{node_of}
use Rattle.bz_slotted.specs.Rules.{node_fault}
use Rattle.bz_slotted.proofs.Proved.{high_fences_are_read}
use Rattle.bz_halves.proofs.PartedChildren.{children-count}
use Rattle.bz_join.specs.Parents.{joined, joined_parent, HasTwoChildren, IsJoinedParent, IsJoinedOf}
use Rattle.bz_join.proofs.JoinedParents.{children-join}

module _ (words : List ℕ) (i slot : ℕ) (h : HasTwoChildren words i slot) where
  pub is : IsJoinedParent h.nodes words h.level h.low h.high i slot
  is = children-join h.nodes h.raw words h.level h.low h.high i slot h.two h.slot_within

  pub within : i + 1 < count_in words
  within = omega (arith, h.two.within, is.has.count, children-count words)

  pub high-fence : HasHighFence words
  high-fence = (high_fences_are_read h.nodes h.raw words h.level h.low h.high h.two.size h.two.none).readable

  -- what was read
  module _ (level : ℕ) (low high : Option (List ℕ)) (low_is : (nodes : ℕ) (raw : ℕ → ℕ) (l : ℕ) (lo hi : Option (List ℕ)) → node_fault nodes raw (node_of words) l lo hi ≡ None → low ≡ lo) (high_is : high ≡ high_in words)
      (level_is : (nodes : ℕ) (raw : ℕ → ℕ) (l : ℕ) (lo hi : Option (List ℕ)) → node_fault nodes raw (node_of words) l lo hi ≡ None → level ≡ l) where
    high-read : (nodes : ℕ) (raw : ℕ → ℕ) (l : ℕ) (lo hi : Option (List ℕ)) → node_fault nodes raw (node_of words) l lo hi ≡ None → high ≡ hi
    high-read nodes raw l lo hi none = high_is ∙ (high_fences_are_read nodes raw words l lo hi h.two.size none).high

    pub list : IsChildList (joined (children_in words) i slot) low high
    list = subst (λ z. IsChildList (joined (children_in words) i slot) z high) (sym (low_is h.nodes h.raw h.level h.low h.high h.two.none))
        (subst (IsChildList (joined (children_in words) i slot) h.low) (sym (high-read h.nodes h.raw h.level h.low h.high h.two.none)) is.list)

    pub inner : 1 ≤ level
    inner = omega (arith, level_is h.nodes h.raw h.level h.low h.high h.two.none, h.two.inner)

    pub levels : level < MAX_LEVELS
    levels = omega (arith, level_is h.nodes h.raw h.level h.low h.high h.two.none, is.levels)

    pub made : (image : List ℕ) → image ≡ joined_parent (children_in words) i slot low high level → IsJoinedOf words i slot image
    made image e nodes raw l lo hi none = e ∙ (λ t. joined_parent (children_in words) i slot (low_is nodes raw l lo hi none t) (high-read nodes raw l lo hi none t) (level_is nodes raw l lo hi none t))
