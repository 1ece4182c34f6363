-- The records of a leaf that is split part in two halves, which are leaves and say what it says.
use Rattle.std.proofs.Common.{◌≡◌, ◌≢◌, ℕ, ◌+◌, ◌<◌, ◌≤◌, true, false, List, [], length, take, drop, get_or, arith, refl, sym, ap, subst, ◌∙◌, inl, inr, Option}
use Rattle.std.specs.Prelude.{All, Some, None}
use Rattle.std.specs.Cmp.Lexicographic.{slice_cmp}
use Rattle.std.specs.FinMap.{find}
use Rattle.std.specs.Ordering.{nat_cmp}
use Rattle.std.proofs.lemmas.Bool.{cases_lt, true≢false}
use Rattle.std.proofs.lemmas.List.{length-take, length-drop, get_or-take, get_or-drop, get_or_default, take-map, drop-map, take-append-drop}
use Rattle.std.proofs.lemmas.List.Elements.{All-take, All-drop}
use Rattle.bz_key.specs.Bytes.{IsKey}
use Rattle.bz_node.specs.Records.{keys_of, IsPair, IsBefore, IsAtLeast, IsAbove, IsBelow, AreRising, IsLeafList}
use Rattle.bz_node.proofs.Orders.{IsBefore-trans, IsBefore-other, is_before_other, get_or-keys_of, length-keys_of}
use Rattle.bz_slotted.specs.FromShape.Order.{is_before}
use Rattle.bz_slotted.specs.ReadingLaws.{node_of, IsLeafOf}
use Rattle.bz_slotted.proofs.MadeLeaves.{before-test, test-before}
use Rattle.bz_slotted.proofs.Proved.{made_leaves_are_whole}
use Rattle.bz_halves.specs.Halves.{IsCut, separator_of, left_words, right_words}
use Rattle.bz_halves.specs.Laws.{IsSplitLeaf, AreLeafHalves, AreLeaves, LeavesPartInHalves, HalvesAreLeaves}
use Rattle.bz_halves.proofs.Cuts.{words-parts, some, more, left-room, right-room}
use Rattle.bz_halves.proofs.Lookups.{none-of, find-left, find-right}

rising-take : (ks : List (List ℕ)) (n : ℕ) → AreRising ks → AreRising (take n ks)
rising-take ks n rising i j less inside =
    let long : length (take n ks) ≤ n × length (take n ks) ≤ length ks = (omega (arith, length-take n ks), omega (arith, length-take n ks)) in
    rw (get_or-take n ks i [] (omega (arith, less, inside, long.0)), get_or-take n ks j [] (omega (arith, inside, long.0))) (rising i j less (omega (arith, inside, long.1)))

rising-drop : (ks : List (List ℕ)) (n : ℕ) → AreRising ks → AreRising (drop n ks)
rising-drop ks n rising i j less inside = rw (get_or-drop n ks i [], get_or-drop n ks j []) (rising (n + i) (n + j) (omega (arith, less)) (omega (arith, inside, length-drop n ks)))

never-both : (a b : List ℕ) → IsBefore a b → IsBefore b a → ⊥
never-both a b p q = IsBefore-other a a (IsBefore-trans a b a p q) refl

-- what is after a key that is not before the low fence is after that
above-of : (low : Option (List ℕ)) (a b : List ℕ) → IsAtLeast low a → IsBefore a b → IsAbove low b
above-of None a b from l = tt
above-of (Some key) a b from l = is_before_other b key (λ e. from (subst (IsBefore a) (sym e) l)) (λ h. from (IsBefore-trans a b key l h))

module _ (rs : List (List ℕ × List ℕ)) (low high : Option (List ℕ)) (cut : ℕ) (s : IsSplitLeaf rs low high) (c : IsCut rs cut) where
  abbrev sep : List ℕ
  sep = separator_of rs cut

  within : cut < length (keys_of rs)
  within = omega (arith, more rs low high cut s c, length-keys_of rs)

  sep-key : IsKey sep
  sep-key =
      let m : cut < length rs = more rs low high cut s c in
      subst IsKey (sym (get_or-keys_of rs cut ([], []) m)) (s.pairs cut ([], []) m).key

  keys-left : take cut (keys_of rs) ≡ keys_of (take cut rs)
  keys-left = take-map (λ (r : List ℕ × List ℕ). r.0) cut rs

  keys-right : drop cut (keys_of rs) ≡ keys_of (drop cut rs)
  keys-right = drop-map (λ (r : List ℕ × List ℕ). r.0) cut rs

  -- the keys of the left half are before the separator
  before-sep : All (IsBelow (Some sep)) (take cut (keys_of rs))
  before-sep i d l =
      let short : i < cut = omega (arith, l, length-take cut (keys_of rs)) in
      let is : get_or (take cut (keys_of rs)) i d ≡ get_or (keys_of rs) i [] = get_or-take cut (keys_of rs) i d short ∙ get_or_default (keys_of rs) i d [] (omega (arith, short, within)) in
      subst (λ k. IsBefore k sep) (sym is) (s.leaf.rising i cut short within)

  -- those of the right half are not
  from-sep : All (IsAtLeast (Some sep)) (drop cut (keys_of rs))
  from-sep i d l =
      let inside : cut + i < length (keys_of rs) = omega (arith, l, length-drop cut (keys_of rs)) in
      let is : get_or (drop cut (keys_of rs)) i d ≡ get_or (keys_of rs) (cut + i) [] = get_or-drop cut (keys_of rs) i d ∙ get_or_default (keys_of rs) (cut + i) d [] inside in
      λ b. elim (cases_lt 0 i) [
        | inl later ↦ never-both sep (get_or (keys_of rs) (cut + i) []) (s.leaf.rising cut (cut + i) (omega (arith, later)) inside) (subst (λ k. IsBefore k sep) is b)
        | inr first ↦ (
            let same : cut + i ≡ cut = omega (arith, first) in
            let key : get_or (drop cut (keys_of rs)) i d ≡ sep = is ∙ ap (λ z. get_or (keys_of rs) z []) same in
            IsBefore-other (get_or (drop cut (keys_of rs)) i d) sep b key)
      ]

  left-list : IsLeafList (take cut rs) low (Some sep)
  left-list = record {
    rising = subst AreRising keys-left (rising-take (keys_of rs) cut s.leaf.rising);
    from = subst (All (IsAtLeast low)) keys-left (All-take (IsAtLeast low) cut (keys_of rs) s.leaf.from);
    below = subst (All (IsBelow (Some sep))) keys-left before-sep;
  }

  right-list : IsLeafList (drop cut rs) (Some sep) high
  right-list = record {
    rising = subst AreRising keys-right (rising-drop (keys_of rs) cut s.leaf.rising);
    from = subst (All (IsAtLeast (Some sep))) keys-right from-sep;
    below = subst (All (IsBelow high)) keys-right (All-drop (IsBelow high) cut (keys_of rs) s.leaf.below);
  }

  halves : AreLeafHalves rs low high cut
  halves = record {
    some = some rs low high cut s c;
    more = more rs low high cut s c;
    joined = take-append-drop cut rs;
    separator = sep-key;
    above = above-of low (get_or (keys_of rs) 0 []) sep (s.leaf.from 0 [] (omega (arith, within))) (s.leaf.rising 0 cut (some rs low high cut s c) within);
    below = s.leaf.below cut [] within;
    left = left-list;
    right = right-list;
    words = words-parts rs cut;
    left_room = left-room rs low high cut s c;
    right_room = right-room rs low high cut s c;
  }

  -- a look-up before the separator finds what is in the left half, and one from it on what is in the right half
  says-left : (key : List ℕ) → is_before key sep ≡ true → find (slice_cmp nat_cmp) key (take cut rs) ≡ find (slice_cmp nat_cmp) key rs
  says-left key b =
      let others : All (λ k. k ≢ key) (keys_of (drop cut rs)) = λ i d l same. right-list.from i d l (subst (λ k. IsBefore k sep) (sym same) (test-before key sep b)) in
      sym (find-left key (take cut rs) (drop cut rs) (none-of key (drop cut rs) others)) ∙ ap (find (slice_cmp nat_cmp) key) (take-append-drop cut rs)

  says-right : (key : List ℕ) → is_before key sep ≡ false → find (slice_cmp nat_cmp) key (drop cut rs) ≡ find (slice_cmp nat_cmp) key rs
  says-right key b =
      let others : All (λ k. k ≢ key) (keys_of (take cut rs)) = λ i d l same. true≢false (sym (before-test key sep (subst (λ k. IsBefore k sep) same (left-list.below i d l))) ∙ b) in
      sym (find-right key (take cut rs) (drop cut rs) others) ∙ ap (find (slice_cmp nat_cmp) key) (take-append-drop cut rs)

  module _ (nodes : ℕ) where
    left-leaf : IsLeafOf nodes (node_of (left_words rs low cut)) (take cut rs) low (Some sep)
    left-leaf = made_leaves_are_whole nodes (take cut rs) low (Some sep) (All-take IsPair cut rs s.pairs) s.low_bound sep-key left-list (omega (arith, left-room rs low high cut s c))

    right-leaf : IsLeafOf nodes (node_of (right_words rs high cut)) (drop cut rs) (Some sep) high
    right-leaf = made_leaves_are_whole nodes (drop cut rs) (Some sep) high (All-drop IsPair cut rs s.pairs) sep-key s.high_bound right-list (omega (arith, right-room rs low high cut s c))

    leaves : AreLeaves nodes rs low high cut
    leaves = record {
      left = left-leaf;
      right = right-leaf;
      before = λ key b. left-leaf.says key ∙ says-left key b;
      from = λ key b. right-leaf.says key ∙ says-right key b;
    }

pub part-in-halves : LeavesPartInHalves
part-in-halves rs low high cut s c = halves rs low high cut s c

pub are-leaves : HalvesAreLeaves
are-leaves nodes rs low high cut s c = leaves rs low high cut s c nodes
