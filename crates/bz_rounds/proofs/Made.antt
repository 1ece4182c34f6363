-- The copy of a leaf, and each half of one, is a leaf that has room; and each half of an inner node takes one more separator.
use Rattle.std.proofs.Common.{◌≡◌, ℕ, ◌<◌, ◌≤◌, List, take, drop, arith, sym, subst, Option}
use Rattle.std.specs.Prelude.{Some}
use Rattle.std.proofs.lemmas.List.Elements.{All-take, All-drop}
use Rattle.bz_ascent.specs.FromBranch.Nodes.{IsInnerNode}
use Rattle.bz_ascent.specs.FromBranch.Parts.{AreHalvesOfNode}
use Rattle.bz_halves.specs.Halves.{separator_of}
use Rattle.bz_halves.specs.Laws.{AreLeafHalves}
use Rattle.bz_halves.proofs.Proved.{leaves_part_in_halves}
use Rattle.bz_layout.specs.declared.thresholds.TheConstants.{INNER_LIMIT}
use Rattle.bz_node.specs.Reading.{children_in}
use Rattle.bz_node.specs.Records.{IsPair}
use Rattle.bz_parted.specs.Laws.{AreInnerHalves}
use Rattle.bz_parted.specs.Parting.{child_words, right_half, separator_of as separator_in}
use Rattle.bz_parted.proofs.Proved.{children_part_in_halves}
use Rattle.bz_slotted.specs.Page.{page}
use Rattle.bz_slotted.specs.ReadingLaws.{node_of}
use Rattle.bz_tally.specs.FromSplit.Parts.{AreHalvesFrom}
use Rattle.bz_stage.specs.Rooms.{words_taken}
use Rattle.bz_stage.specs.Swaps.{IsRoomy}
use Rattle.bz_stage.proofs.Proved.{made_inners_take_their_entries, made_leaves_are_roomy}
use Rattle.bz_undisturbed.specs.FromRunning.MadeFor.{IsSmallCopy, AreLargeHalves}

-- a leaf with these words has room
abbrev pub HasRoom : List ℕ → Type 0
HasRoom words = IsRoomy (page (node_of words))

pub copy-has-room : (read copy : List ℕ) → IsSmallCopy read copy → HasRoom copy
copy-has-room read copy m =
    let f = m.made in subst HasRoom (sym f.is) (made_leaves_are_roomy f.pairs f.low f.high f.leaf.pairs f.leaf.low_bound f.leaf.high_bound f.leaf.leaf (omega (arith, f.leaf.live, m.few)))

module _ (read left right sep : List ℕ) (m : AreLargeHalves read left right sep) where
  abbrev h : AreHalvesFrom read left right sep
  h = m.halves

  parts : AreLeafHalves h.pairs h.low h.high h.cut
  parts = leaves_part_in_halves h.pairs h.low h.high h.cut (record { pairs = h.leaf.pairs; low_bound = h.leaf.low_bound; high_bound = h.leaf.high_bound; leaf = h.leaf.leaf; many = omega (arith, m.many, h.leaf.live); room = h.leaf.room }) h.is_cut

  pub left-has-room : HasRoom left
  left-has-room = subst HasRoom (sym h.left_is) (made_leaves_are_roomy (take h.cut h.pairs) h.low (Some (separator_of h.pairs h.cut)) (All-take IsPair h.cut h.pairs h.leaf.pairs) h.leaf.low_bound parts.separator parts.left parts.left_room)

  pub right-has-room : HasRoom right
  right-has-room = subst HasRoom (sym h.right_is) (made_leaves_are_roomy (drop h.cut h.pairs) (Some (separator_of h.pairs h.cut)) h.high (All-drop IsPair h.cut h.pairs h.leaf.pairs) parts.separator h.leaf.high_bound parts.right parts.right_room)

-- an inner node with these words takes one more separator
abbrev pub IsFew : (ℕ → ℕ) → Type 0
IsFew n = words_taken (page n) ≤ INNER_LIMIT

few-of : (a n limit : ℕ) → a ≡ n → n ≤ limit → a ≤ limit
few-of a n limit e h = omega (arith, e, h)

module _ (nodes : ℕ) (read left right sep : List ℕ) (level : ℕ) (low high : Option (List ℕ)) (n : IsInnerNode nodes read level low high) (many : INNER_LIMIT < child_words (children_in read))
    (h : AreHalvesOfNode nodes read left right sep level low high) where
  halves : AreInnerHalves (children_in read) low high h.cut
  halves = children_part_in_halves (children_in read) low high h.cut (record { each = n.node.each; low_bound = n.node.low_bound; high_bound = n.node.high_bound; list = n.node.list; many = many; room = n.node.room }) h.is_cut

  pub left-few : IsFew (node_of left)
  left-few = subst (λ w. IsFew (node_of w)) (sym h.left_is)
      (few-of _ (child_words (take h.cut (children_in read))) INNER_LIMIT
      (made_inners_take_their_entries (take h.cut (children_in read)) low (Some (separator_in (children_in read) h.cut)) level halves.left_each n.node.low_bound halves.separator n.lowest (omega (arith, halves.words, n.node.room))) halves.left_room)

  pub right-few : IsFew (node_of right)
  right-few = subst (λ w. IsFew (node_of w)) (sym h.right_is)
      (few-of _ (child_words (right_half (children_in read) h.cut)) INNER_LIMIT
      (made_inners_take_their_entries (right_half (children_in read) h.cut) (Some (separator_in (children_in read) h.cut)) high level halves.right_each halves.separator n.node.high_bound n.lowest (omega (arith, halves.words, n.node.room))) halves.right_room)
