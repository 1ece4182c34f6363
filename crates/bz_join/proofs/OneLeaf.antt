-- The leaf that is made of the records of two leaves is one between their outer bounds, and says what they say.
use Rattle.std.proofs.Common.{◌≡◌, ℕ, ◌+◌, ◌^◌, ◌<◌, ◌≤◌, ◌++◌, true, false, List, length, arith, sym, ap, subst, ◌∙◌, Option}
use Rattle.std.specs.Prelude.{All, Some}
use Rattle.std.proofs.lemmas.List.Elements.{All-append}
use Rattle.bz_key.specs.declared.limits.TheConstants.{PAGE_PAIRS}
use Rattle.bz_layout.specs.declared.sizes.TheConstants.{NODE_WORDS, SHARED_WORDS}
use Rattle.bz_node.specs.Records.{leaf_words, IsPair, IsAbove, IsBelow, IsLeafList}
use Rattle.bz_tree.specs.Order.{is_before}
use Rattle.bz_slotted.specs.Readers.{found_of}
use Rattle.bz_slotted.specs.ReadingLaws.{node_of}
use Rattle.bz_slotted.specs.Rules.{node_fault}
use Rattle.bz_halves.specs.Halves.{record_words}
use Rattle.bz_renew.specs.Sorted.{IsSortedLeaf}
use Rattle.bz_renew.proofs.Plainness.{leaf-plain}
use Rattle.bz_join.specs.Leaves.{AreNeighbours, AreJoined, MayJoin, IsOneOf}
use Rattle.bz_join.proofs.Joining.{two-words, join}

some-same : (a b : List ℕ) → Some a ≡ Some b → a ≡ b
some-same a b e = cc

module _ (left right : List ℕ) (xs ys : List (List ℕ × List ℕ)) (low middle from high : Option (List ℕ)) (m : MayJoin left right) (f : IsSortedLeaf left xs low middle) (s : IsSortedLeaf right ys from high) where
  low-is : low ≡ m.low
  low-is = (f.fences m.nodes m.low (Some m.sep) m.left_whole).0

  middle-is : middle ≡ Some m.sep
  middle-is = (f.fences m.nodes m.low (Some m.sep) m.left_whole).1

  from-is : from ≡ Some m.sep
  from-is = (s.fences m.nodes (Some m.sep) m.high m.right_whole).0

  high-is : high ≡ m.high
  high-is = (s.fences m.nodes (Some m.sep) m.high m.right_whole).1

  neighbours : AreNeighbours xs ys low high m.sep
  neighbours = record {
    left_pairs = f.pairs;
    right_pairs = s.pairs;
    low_bound = f.low_bound;
    high_bound = s.high_bound;
    above = subst (λ z. IsAbove z m.sep) (sym low-is) m.above;
    below = subst (λ z. IsBelow z m.sep) (sym high-is) m.below;
    left_list = subst (IsLeafList xs low) middle-is f.leaf;
    right_list = subst (λ z. IsLeafList ys z high) from-is s.leaf;
    room = omega (arith, f.live, s.live, m.room);
  }

  pub fits : length xs + length ys ≤ PAGE_PAIRS
  fits = omega (arith, f.live, s.live, m.room, two-words xs f.pairs, two-words ys s.pairs)

  joined : (nodes : ℕ) → AreJoined nodes xs ys low high m.sep
  joined nodes = join nodes xs ys low high m.sep neighbours

  pub list : IsLeafList (xs ++ ys) low high
  list = (joined 0).list

  pub room : record_words (xs ++ ys) ≤ SHARED_WORDS
  room = omega (arith, (joined 0).words, f.live, s.live, m.room)

  pub one-of : (one : List ℕ) → one ≡ leaf_words (xs ++ ys) low high → length one ≡ NODE_WORDS → IsOneOf left right one
  one-of one is size = record {
    both = record { left_pairs = xs; right_pairs = ys; low = low; high = high; left_order = f.order; right_order = s.order; is = is };
    whole = λ nodes lo hi sep a b.
        let l : low ≡ lo = (f.fences nodes lo (Some sep) a).0 in
        let h : high ≡ hi = (s.fences nodes (Some sep) hi b).1 in
        (λ t. node_fault nodes (node_of (is t)) (node_of (is t)) 0 (sym l t) (sym h t)) ∙ (joined nodes).leaf.none;
    before = λ nodes lo sep a key b.
        let same : m.sep ≡ sep = some-same m.sep sep (sym middle-is ∙ (f.fences nodes lo (Some sep) a).1) in
        ap (λ z. found_of (node_of z) key) is ∙ ((joined nodes).before key (subst (λ z. is_before key z ≡ true) (sym same) b) ∙ f.says key);
    from = λ nodes lo sep a key b.
        let same : m.sep ≡ sep = some-same m.sep sep (sym middle-is ∙ (f.fences nodes lo (Some sep) a).1) in
        ap (λ z. found_of (node_of z) key) is ∙ ((joined nodes).from key (subst (λ z. is_before key z ≡ false) (sym same) b) ∙ s.says key);
    size = size;
    plain = subst (All (λ v. v < 2 ^ 61)) (sym is) (leaf-plain (xs ++ ys) low high (All-append IsPair xs ys f.pairs s.pairs) f.low_bound s.high_bound room);
  }
