-- The halves of a leaf are its parts.
use Rattle.std.proofs.Common.{◌≡◌, ℕ, ◌<◌, true, false, List, take, drop, length, arith, sym, subst, ◌∙◌, Option}
use Rattle.std.specs.Prelude.{All, Some, None}
use Rattle.std.proofs.lemmas.List.Elements.{All-take, All-drop}
use Rattle.bz_key.specs.Bytes.{IsKey}
use Rattle.bz_layout.specs.declared.sizes.TheConstants.{NODE_WORDS}
use Rattle.bz_layout.specs.declared.thresholds.TheConstants.{SPLIT_ABOVE}
use Rattle.bz_node.specs.Records.{IsPair, IsAbove, IsBelow}
use Rattle.bz_tree.specs.Order.{is_before}
use Rattle.bz_slotted.specs.Readers.{found_of, live_of}
use Rattle.bz_slotted.specs.ReadingLaws.{node_of}
use Rattle.bz_slotted.specs.Rules.{node_fault}
use Rattle.bz_halves.specs.Halves.{separator_of}
use Rattle.bz_halves.specs.Laws.{IsSplitLeaf, AreLeafHalves, AreLeaves, LeavesPartInHalves, HalvesAreLeaves}
use Rattle.bz_halves.specs.Made.{AreHalvesOf}
use Rattle.bz_halves.specs.declared.halves.Halves.{Halves}
use Rattle.bz_renew.specs.Sorted.{IsSortedLeaf}
use Rattle.bz_renew.proofs.Plainness.{IsPlain, leaf-plain}
use Rattle.bz_split.specs.Parts.{ArePartsOf}

-- a leaf that is read in the order of its keys, and has more live words than it may keep, is one to be split
pub is-split-leaf : (words : List ℕ) (records : List (List ℕ × List ℕ)) (low high : Option (List ℕ)) → IsSortedLeaf words records low high → SPLIT_ABOVE < live_of (node_of words) → IsSplitLeaf records low high
is-split-leaf words records low high r many =
    record { pairs = r.pairs; low_bound = r.low_bound; high_bound = r.high_bound; leaf = r.leaf; many = omega (arith, many, r.live); room = r.room }

module _ (part : LeavesPartInHalves) (are : HalvesAreLeaves) (words : List ℕ) (records : List (List ℕ × List ℕ)) (low high : Option (List ℕ)) (h : Halves) (r : IsSortedLeaf words records low high) (many : SPLIT_ABOVE < live_of (node_of words)) (of : AreHalvesOf records low high h) where
  whole : IsSplitLeaf records low high
  whole = is-split-leaf words records low high r many

  parts : AreLeafHalves records low high of.cut
  parts = part records low high of.cut whole of.is_cut

  leaves : (nodes : ℕ) → AreLeaves nodes records low high of.cut
  leaves nodes = are nodes records low high of.cut whole of.is_cut

  left-whole : (nodes : ℕ) (lo hi : Option (List ℕ)) → node_fault nodes (node_of words) (node_of words) 0 lo hi ≡ None → node_fault nodes (node_of h.left.0) (node_of h.left.0) 0 lo (Some h.separator) ≡ None
  left-whole nodes lo hi none =
      let f = r.fences nodes lo hi none in
      (λ t. node_fault nodes (node_of (of.left t)) (node_of (of.left t)) 0 (sym f.0 t) (Some (of.separator t))) ∙ (leaves nodes).left.none

  right-whole : (nodes : ℕ) (lo hi : Option (List ℕ)) → node_fault nodes (node_of words) (node_of words) 0 lo hi ≡ None → node_fault nodes (node_of h.right.0) (node_of h.right.0) 0 (Some h.separator) hi ≡ None
  right-whole nodes lo hi none =
      let f = r.fences nodes lo hi none in
      (λ t. node_fault nodes (node_of (of.right t)) (node_of (of.right t)) 0 (Some (of.separator t)) (sym f.1 t)) ∙ (leaves nodes).right.none

  pub are-parts : length h.left.0 ≡ NODE_WORDS → length h.right.0 ≡ NODE_WORDS → ArePartsOf words h.left.0 h.right.0 h.separator
  are-parts left_size right_size = record {
    halves = record { pairs = records; low = low; high = high; cut = of.cut; leaf = r; is_cut = of.is_cut; separator = of.separator; left_is = of.left; right_is = of.right };
    separator = subst IsKey (sym of.separator) parts.separator;
    above = λ nodes lo hi none. subst (IsAbove lo) (sym of.separator) (subst (λ z. IsAbove z (separator_of records of.cut)) (r.fences nodes lo hi none).0 parts.above);
    below = λ nodes lo hi none. subst (IsBelow hi) (sym of.separator) (subst (λ z. IsBelow z (separator_of records of.cut)) (r.fences nodes lo hi none).1 parts.below);
    left_whole = left-whole;
    right_whole = right-whole;
    before = λ key e. (λ t. found_of (node_of (of.left t)) key) ∙ ((leaves 0).before key (subst (λ z. is_before key z ≡ true) of.separator e) ∙ r.says key);
    from = λ key e. (λ t. found_of (node_of (of.right t)) key) ∙ ((leaves 0).from key (subst (λ z. is_before key z ≡ false) of.separator e) ∙ r.says key);
    left_size = left_size;
    right_size = right_size;
    left_plain = subst (All IsPlain) (sym of.left) (leaf-plain (take of.cut records) low (Some (separator_of records of.cut)) (All-take IsPair of.cut records r.pairs) r.low_bound parts.separator (omega (arith, parts.left_room)));
    right_plain = subst (All IsPlain) (sym of.right) (leaf-plain (drop of.cut records) (Some (separator_of records of.cut)) high (All-drop IsPair of.cut records r.pairs) parts.separator r.high_bound (omega (arith, parts.right_room)));
  }
