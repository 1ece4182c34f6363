-- Two inner nodes that were read, and the one that is made of their words.
use Rattle.std.proofs.Common.{◌≡◌, ℕ, ◌+◌, ◌<◌, ◌≤◌, List, map, arith, sym, subst, ◌∙◌, Option}
use Rattle.std.specs.Prelude.{Some, None}
use Rattle.std.proofs.lemmas.List.{length-map}
use Rattle.bz_layout.specs.declared.sizes.TheConstants.{SHARED_WORDS}
use Rattle.bz_layout.specs.declared.thresholds.TheConstants.{MAX_LEVELS}
use Rattle.bz_node.specs.Layout.{needed}
use Rattle.bz_node.specs.Reading.{children_in, count_in, high_in, HasHighFence, IsReadableInner}
use Rattle.bz_node.specs.Records.{child_entry, IsChildList}
use Rattle.bz_slotted.specs.Page.{page}
use Rattle.bz_slotted.specs.ReadingLaws.{node_of}
use Rattle.bz_slotted.specs.Rules.{node_fault}
use Rattle.bz_slotted.specs.Whole.{WholeInner}
use Rattle.bz_slotted.proofs.Proved.{high_fences_are_read, inner_rules_are_facts}
use Rattle.bz_halves.proofs.PartedChildren.{children-count}
use Rattle.bz_parted.specs.Laws.{IsReadNode}
use Rattle.bz_parted.proofs.Proved.{read_nodes_have_children}
use Rattle.bz_renew.proofs.Plainness.{inner-plain}
use Rattle.bz_united.specs.Laws.{AreNeighbours, AreUnited, IsUnitedNode}
use Rattle.bz_united.specs.Uniting.{united, united_words, MeetAt, MayUnite, IsOneOf, IsUnitedOf}
use Rattle.bz_united.proofs.Children.{are-united}
use Rattle.bz_united.proofs.Nodes.{united-inner}
use Rattle.bz_united.proofs.Rows.{count-united}

module _ (nodes : ℕ) (left right sep : List ℕ) (level : ℕ) (low high : Option (List ℕ)) (m : MeetAt nodes left right sep level low high) where
  pub left-node : IsReadNode nodes left low (Some sep)
  left-node = read_nodes_have_children nodes m.left_raw left level low (Some sep) m.few m.inner m.left_size m.left_none

  pub right-node : IsReadNode nodes right (Some sep) high
  right-node = read_nodes_have_children nodes m.right_raw right level (Some sep) high m.few m.inner m.right_size m.right_none

  whole : WholeInner nodes m.left_raw (page (node_of left)) level low (Some sep)
  whole = (inner_rules_are_facts nodes m.left_raw (node_of left) level low (Some sep) m.inner).0 m.left_none

  pub lowest : level < MAX_LEVELS
  lowest = whole.level.lowest

  neighbours : AreNeighbours (children_in left) (children_in right) low high sep
  neighbours = record {
    left_each = left-node.each;
    right_each = right-node.each;
    low_bound = left-node.low_bound;
    high_bound = right-node.high_bound;
    key = m.key;
    above = m.above;
    below = m.below;
    left_list = left-node.list;
    right_list = right-node.list;
  }

  pub together : AreUnited (children_in left) (children_in right) low high sep
  together = are-united (children_in left) (children_in right) low high sep neighbours

  pub room : needed (map child_entry (united (children_in left) (children_in right) sep)) ≤ SHARED_WORDS
  room = omega (arith, together.words, m.room)

  node : IsUnitedNode nodes (node_of left) (node_of right) (children_in left) (children_in right) low high sep level
  node = united-inner nodes (node_of left) (node_of right) (children_in left) (children_in right) low high sep level neighbours
      (record { few = m.few; left_slots = left-node.slots; right_slots = right-node.slots; inner = m.inner; lowest = lowest; room = omega (arith, m.room) }) left-node.has right-node.has

  pub is-one : (one : List ℕ) → one ≡ united_words (children_in left) (children_in right) sep low high level → IsOneOf nodes left right sep level low high one
  is-one one e = subst (IsOneOf nodes left right sep level low high) (sym e) (record {
    is = λ t. united_words (children_in left) (children_in right) sep low high level;
    whole = node.inner.none;
    halves = node.halves;
    plain = inner-plain (united (children_in left) (children_in right) sep) low high level together.each left-node.low_bound right-node.high_bound (omega (arith, lowest)) room;
  })

-- what the code reads of the two
pub record FrontsAre (left right : List ℕ) (level : ℕ) (low high : Option (List ℕ)) : Type 0 where
  pub level_is : (nodes : ℕ) (raw : ℕ → ℕ) (l : ℕ) (lo hi : Option (List ℕ)) → node_fault nodes raw (node_of left) l lo hi ≡ None → level ≡ l
  pub low_is : (nodes : ℕ) (raw : ℕ → ℕ) (l : ℕ) (lo hi : Option (List ℕ)) → node_fault nodes raw (node_of left) l lo hi ≡ None → low ≡ lo
  pub high_is : high ≡ high_in right

module _ (left right sep : List ℕ) (may : MayUnite left right sep) where
  pub high-fence : HasHighFence right
  high-fence = (high_fences_are_read may.nodes may.meet.right_raw right may.level (Some sep) may.high may.meet.right_size may.meet.right_none).readable

  pub left-readable : IsReadableInner left
  left-readable = (left-node may.nodes left right sep may.level may.low may.high may.meet).readable

  pub right-readable : IsReadableInner right
  right-readable = (right-node may.nodes left right sep may.level may.low may.high may.meet).readable

  pub right-some : 0 < count_in right
  right-some = omega (arith, (right-node may.nodes left right sep may.level may.low may.high may.meet).list.some, children-count right)

  pub all-room : needed (map child_entry (united (children_in left) (children_in right) sep)) ≤ SHARED_WORDS
  all-room = room may.nodes left right sep may.level may.low may.high may.meet

  pub few-counted : count_in left + count_in right ≤ SHARED_WORDS
  few-counted = omega (arith, all-room, length-map (united (children_in left) (children_in right) sep) child_entry, count-united left right sep right-some)

  module _ (level : ℕ) (low high : Option (List ℕ)) (front : FrontsAre left right level low high) where
    module _ (nodes l : ℕ) (lo hi : Option (List ℕ)) (m : MeetAt nodes left right sep l lo hi) where
      level-is : level ≡ l
      level-is = front.level_is nodes m.left_raw l lo (Some sep) m.left_none

      low-is : low ≡ lo
      low-is = front.low_is nodes m.left_raw l lo (Some sep) m.left_none

      high-is : high ≡ hi
      high-is = front.high_is ∙ (high_fences_are_read nodes m.right_raw right l (Some sep) hi m.right_size m.right_none).high

    pub list : IsChildList (united (children_in left) (children_in right) sep) low high
    list = subst (λ z. IsChildList (united (children_in left) (children_in right) sep) z high) (sym (low-is may.nodes may.level may.low may.high may.meet))
        (subst (IsChildList (united (children_in left) (children_in right) sep) may.low) (sym (high-is may.nodes may.level may.low may.high may.meet)) (together may.nodes left right sep may.level may.low may.high may.meet).list)

    pub inner : 1 ≤ level
    inner = omega (arith, level-is may.nodes may.level may.low may.high may.meet, may.meet.inner)

    pub levels : level < MAX_LEVELS
    levels = omega (arith, level-is may.nodes may.level may.low may.high may.meet, lowest may.nodes left right sep may.level may.low may.high may.meet)

    pub made : (one : List ℕ) → one ≡ united_words (children_in left) (children_in right) sep low high level → IsUnitedOf left right sep one
    made one e nodes l lo hi m =
        is-one nodes left right sep l lo hi m one
        (e ∙ (λ t. united_words (children_in left) (children_in right) sep (low-is nodes l lo hi m t) (high-is nodes l lo hi m t) (level-is nodes l lo hi m t)))
