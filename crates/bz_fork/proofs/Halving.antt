-- An inner node above its limit has halves, whoever reads its words.
use Rattle.std.proofs.Common.{◌≡◌, ℕ, zero, suc, ◌*◌, ◌<◌, ◌⊎◌, List, length, take, arith, refl, sym, ap, subst, inl, inr, Option}
use Rattle.std.specs.Prelude.{All, Some, map}
use Rattle.std.proofs.lemmas.Bool.{cases_lt, cases_eq}
use Rattle.std.proofs.lemmas.List.{take_all}
use Rattle.bz_layout.specs.declared.sizes.TheConstants.{NODE_WORDS}
use Rattle.bz_layout.specs.declared.thresholds.TheConstants.{INNER_LIMIT}
use Rattle.bz_node.specs.Reading.{children_in}
use Rattle.bz_node.specs.Records.{child_entry}
use Rattle.bz_node.specs.declared.child.Child.{Child}
use Rattle.bz_node.proofs.Made.{front_made}
use Rattle.bz_slotted.specs.ReadingLaws.{node_of}
use Rattle.bz_parted.specs.Laws.{IsSplitInner, AreInnerHalves, AreParted, ChildrenPartInHalves, HalvesAreInner}
use Rattle.bz_parted.specs.Parting.{child_words, IsParting, separator_of, right_half, left_words, right_words}
use Rattle.bz_renew.proofs.Plainness.{IsPlain, inner-plain}
use Rattle.bz_branch.specs.Nodes.{IsInnerNode}
use Rattle.bz_fork.specs.Halves.{HasHalves, FullNodesHaveHalves}

-- the first of the places up to one at which the children are parted, or none of them is such a place
part-before : (children : List Child) (n : ℕ) → ((k : ℕ) → k < n → 2 * child_words (take k children) < child_words children) ⊎ ((cut : ℕ) × IsParting children cut)
part-before children zero = inl (λ k l. absurd (omega (arith, l)))
part-before children (suc n) = elim (part-before children n) [
  | inr found ↦ inr found
  | inl fewer ↦ elim (cases_lt (2 * child_words (take n children)) (child_words children)) [
    | inl less ↦ inl (λ k l. elim (cases_eq k n) [
      | inl e ↦ subst (λ z. 2 * child_words (take z children) < child_words children) (sym e) less
      | inr ne ↦ fewer k (omega (arith, l, ne))
    ])
    | inr enough ↦ inr (n, record { enough = enough; fewest = fewer })
  ]
]

-- all of them are enough
part : (children : List Child) → (cut : ℕ) × IsParting children cut
part children = elim (part-before children (suc (length children))) [
  | inr found ↦ found
  | inl fewer ↦ (
      let all : child_words (take (length children) children) ≡ child_words children = ap child_words (take_all (length children) children (omega arith)) in
      absurd (omega (arith, all, fewer (length children) (omega arith))))
]

module _ (law : ChildrenPartInHalves) (inners : HalvesAreInner) (nodes : ℕ) (read : List ℕ) (level : ℕ) (low high : Option (List ℕ)) (n : IsInnerNode nodes read level low high) (many : INNER_LIMIT < child_words (children_in read)) where
  abbrev cs : List Child
  cs = children_in read

  split : IsSplitInner cs low high
  split = record { each = n.node.each; low_bound = n.node.low_bound; high_bound = n.node.high_bound; list = n.node.list; many = many; room = n.node.room }

  module _ (cut : ℕ) (is : IsParting cs cut) where
    parts : AreInnerHalves cs low high cut
    parts = law cs low high cut split is

    made : AreParted nodes (node_of read) cs low high level cut
    made = inners nodes (node_of read) cs low high level cut split is (record { few = n.few; slots = n.node.slots; inner = n.inner; lowest = n.lowest }) n.node.has

    left-size : length (left_words cs low level cut) ≡ NODE_WORDS
    left-size = (front_made level low (Some (separator_of cs cut)) (map child_entry (take cut cs)) (omega (arith, n.lowest)) n.node.low_bound parts.separator (omega (arith, parts.left_room))).size

    right-size : length (right_words cs high level cut) ≡ NODE_WORDS
    right-size = (front_made level (Some (separator_of cs cut)) high (map child_entry (right_half cs cut)) (omega (arith, n.lowest)) parts.separator n.node.high_bound (omega (arith, parts.right_room))).size

    left-plain : All IsPlain (left_words cs low level cut)
    left-plain = inner-plain (take cut cs) low (Some (separator_of cs cut)) level parts.left_each n.node.low_bound parts.separator (omega (arith, n.lowest)) (omega (arith, parts.left_room))

    right-plain : All IsPlain (right_words cs high level cut)
    right-plain = inner-plain (right_half cs cut) (Some (separator_of cs cut)) high level parts.right_each parts.separator n.node.high_bound (omega (arith, n.lowest)) (omega (arith, parts.right_room))

    cut-at : HasHalves nodes read level low high
    cut-at = record {
      left = left_words cs low level cut;
      right = right_words cs high level cut;
      sep = separator_of cs cut;
      halves = record {
        cut = cut;
        is_cut = is;
        separator_is = refl;
        left_is = refl;
        right_is = refl;
        separator = parts.separator;
        above = parts.above;
        below = parts.below;
        left_whole = made.left.none;
        right_whole = made.right.none;
        halves = made.halves;
        left_size = left-size;
        right_size = right-size;
        left_plain = left-plain;
        right_plain = right-plain;
      };
    }

  pub has-halves : HasHalves nodes read level low high
  has-halves = let found = part cs in cut-at found.0 found.1

pub full-nodes-have-halves : ChildrenPartInHalves → HalvesAreInner → FullNodesHaveHalves
full-nodes-have-halves law inners nodes read level low high n many = has-halves law inners nodes read level low high n many
