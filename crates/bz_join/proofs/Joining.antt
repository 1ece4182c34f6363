-- The records of two neighbouring leaves, one after the other, make a leaf, which says what the two say.
use Rattle.std.proofs.Common.{◌≡◌, ℕ, suc, ◌+◌, ◌*◌, ◌-◌, ◌<◌, ◌≤◌, ◌++◌, true, false, List, [], ◌∷◌, length, map, get_or, arith, refl, sym, ap, subst, ◌∙◌, inl, inr, Option}
use Rattle.std.specs.Prelude.{All, Some, None}
use Rattle.std.specs.Cmp.Lexicographic.{slice_cmp}
use Rattle.std.specs.FinMap.{find}
use Rattle.std.specs.Ordering.{nat_cmp}
use Rattle.std.proofs.lemmas.Bool.{cases_lt, true≢false}
use Rattle.std.proofs.lemmas.List.{map-append, length-append, get_or_append_left, get_or-append_right}
use Rattle.std.proofs.lemmas.List.Elements.{All-append}
use Rattle.bz_key.specs.Packing.{packed}
use Rattle.bz_key.proofs.PackingLaws.{length-packed}
use Rattle.bz_node.specs.Layout.{block, needed}
use Rattle.bz_node.specs.Records.{pair_entry, keys_of, IsPair, IsBefore, IsAtLeast, IsAbove, IsBelow, AreRising, IsLeafList}
use Rattle.bz_node.proofs.Orders.{IsBefore-trans, is_before_other}
use Rattle.bz_node.proofs.Parts.{needed-append}
use Rattle.bz_tree.specs.Order.{is_before}
use Rattle.bz_slotted.specs.ReadingLaws.{node_of, IsLeafOf}
use Rattle.bz_slotted.proofs.MadeLeaves.{before-test, test-before}
use Rattle.bz_slotted.proofs.Proved.{made_leaves_are_whole}
use Rattle.bz_halves.specs.Halves.{record_words}
use Rattle.bz_join.specs.Leaves.{AreNeighbours, joined_words, AreJoined, NeighboursJoin}
use Rattle.bz_join.proofs.Lookups.{none-of, find-left, find-right}

-- a key that is before the separator is before one that is not
pub before-later : (a sep b : List ℕ) → IsBefore a sep → ((h : IsBefore b sep) → ⊥) → IsBefore a b
before-later a sep b l from = is_before_other b a (λ e. from (subst (λ z. IsBefore z sep) e l)) (λ h. from (IsBefore-trans b a sep h l))

-- keys that rise, and others that rise from where these end
rising-append : (xs ys : List (List ℕ)) → AreRising xs → AreRising ys → ((i j : ℕ) → i < length xs → j < length ys → IsBefore (get_or xs i []) (get_or ys j [])) → AreRising (xs ++ ys)
rising-append xs ys left right between i j less inside =
    let long : length (xs ++ ys) ≡ length xs + length ys = length-append xs ys in
    elim (cases_lt j (length xs)) [
      | inl l ↦ rw (get_or_append_left xs ys [] i (omega (arith, less, l)), get_or_append_left xs ys [] j l) (left i j less l)
      | inr h ↦ elim (cases_lt i (length xs)) [
        | inl l ↦ rw (get_or_append_left xs ys [] i l, get_or-append_right xs ys (length xs) j [] refl h) (between i (j - length xs) l (omega (arith, inside, long, h)))
        | inr m ↦ rw (get_or-append_right xs ys (length xs) i [] refl m, get_or-append_right xs ys (length xs) j [] refl h) (right (i - length xs) (j - length xs) (omega (arith, less, m)) (omega (arith, inside, long, h)))
      ]
    ]

-- a key from the separator on, which is above a bound, is not before it
from-above : (low : Option (List ℕ)) (sep key : List ℕ) → IsAbove low sep → IsAtLeast (Some sep) key → IsAtLeast low key
from-above None sep key a f = tt
from-above (Some low) sep key a f = λ h. f (IsBefore-trans key low sep h a)

-- a key before the separator, which is below a bound, is below it
below-before : (high : Option (List ℕ)) (sep key : List ℕ) → IsBelow high sep → IsBefore key sep → IsBelow high key
below-before None sep key b l = tt
below-before (Some high) sep key b l = IsBefore-trans key sep high l b

module _ (left right : List (List ℕ × List ℕ)) (low high : Option (List ℕ)) (sep : List ℕ) (n : AreNeighbours left right low high sep) where
  keys : keys_of (left ++ right) ≡ keys_of left ++ keys_of right
  keys = map-append (λ (r : List ℕ × List ℕ). r.0) left right

  pub list : IsLeafList (left ++ right) low high
  list = record {
    rising = subst AreRising (sym keys) (rising-append (keys_of left) (keys_of right) n.left_list.rising n.right_list.rising (λ i j l m. before-later (get_or (keys_of left) i []) sep (get_or (keys_of right) j []) (n.left_list.below i [] l) (n.right_list.from j [] m)));
    from = subst (All (IsAtLeast low)) (sym keys) (All-append (IsAtLeast low) (keys_of left) (keys_of right) n.left_list.from (λ i d l. from-above low sep _ n.above (n.right_list.from i d l)));
    below = subst (All (IsBelow high)) (sym keys) (All-append (IsBelow high) (keys_of left) (keys_of right) (λ i d l. below-before high sep _ n.below (n.left_list.below i d l)) n.right_list.below);
  }

  pub words : record_words (left ++ right) ≡ record_words left + record_words right
  words = ap needed (map-append pair_entry left right) ∙ needed-append (map pair_entry left) (map pair_entry right)

  says-left : (key : List ℕ) → is_before key sep ≡ true → find (slice_cmp nat_cmp) key (left ++ right) ≡ find (slice_cmp nat_cmp) key left
  says-left key b = find-left key left right (none-of key right (λ i d l same. n.right_list.from i d l (subst (λ k. IsBefore k sep) (sym same) (test-before key sep b))))

  says-right : (key : List ℕ) → is_before key sep ≡ false → find (slice_cmp nat_cmp) key (left ++ right) ≡ find (slice_cmp nat_cmp) key right
  says-right key b = find-right key left right (λ i d l same. true≢false (sym (before-test key sep (subst (λ k. IsBefore k sep) same (n.left_list.below i d l))) ∙ b))

  module _ (nodes : ℕ) where
    leaf : IsLeafOf nodes (node_of (joined_words left right low high)) (left ++ right) low high
    leaf = made_leaves_are_whole nodes (left ++ right) low high (All-append IsPair left right n.left_pairs n.right_pairs) n.low_bound n.high_bound list (omega (arith, words, n.room))

    pub both : AreJoined nodes left right low high sep
    both = record {
      list = list;
      words = words;
      leaf = leaf;
      before = λ key b. leaf.says key ∙ says-left key b;
      from = λ key b. leaf.says key ∙ says-right key b;
    }

pub join : NeighboursJoin
join nodes left right low high sep n = both left right low high sep n nodes

-- each record takes two words at least
pub two-words : (rs : List (List ℕ × List ℕ)) → All IsPair rs → 2 * length rs ≤ record_words rs
unfolding block
two-words [] each = omega arith
two-words (r ∷ rs) each =
    let pair : IsPair r = each 0 r (omega arith) in
    omega (arith, two-words rs (λ i d l. each (suc i) d (omega arith)), length-append (block (map pair_entry rs)) (packed r.0 ++ packed r.1), length-append (packed r.0) (packed r.1), length-packed r.0, pair.key.some)
