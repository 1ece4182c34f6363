-- The records of a leaf that breaks no rule, in the order of their keys, make a leaf again, which has room for them.
use Rattle.std.proofs.Common.{◌≡◌, ℕ, zero, suc, ◌+◌, ◌<◌, ◌≤◌, ◌&&◌, if◌then◌else◌, Bool, true, false, List, [], ◌∷◌, ◌++◌, length, map, arith, refl, sym, ap, subst, ◌∙◌, inl, inr, Option}
use Rattle.std.specs.Prelude.{All, Some, None, IsSome, not, nat_le, bytes_eq}
use Rattle.std.specs.Cmp.Lexicographic.{slice_cmp}
use Rattle.std.specs.Ordering.{nat_cmp, is_lt}
use Rattle.std.specs.declared.cmp.Ordering.{Ordering}
use Rattle.std.specs.declared.cmp.Ordering.TheVariants.{Less, Equal, Greater}
use Rattle.std.specs.List.{sum_by}
use Rattle.std.specs.List.Sorted.{IsPermutation}
use Rattle.std.proofs.lemmas.Bool.{true≢false, cases_Bool}
use Rattle.std.proofs.lemmas.List.{length-append}
use Rattle.std.proofs.lemmas.List.Elements.{All-nil, All-cons, All-append, All-map}
use Rattle.std.proofs.lemmas.List.Sorted.{All-permutation, sum_by-IsPermutation}
use Rattle.std.proofs.lemmas.List.Sums.{sum_by-append, sum_by-cons}
use Rattle.bz_key.specs.Packing.{packed, packed_len, unpacked, unpacked_key, unpacked_payload}
use Rattle.bz_key.proofs.PackingLaws.{length-packed}
use Rattle.bz_key.proofs.UnpackingLaws.{unpacked_key-sound, unpacked_payload-sound}
use Rattle.bz_key.specs.declared.limits.TheConstants.{KEY_BYTES, PAYLOAD_BYTES}
use Rattle.bz_layout.specs.declared.sizes.TheConstants.{NODE_WORDS, LOW_FENCE_AT, HIGH_FENCE_AT}
use Rattle.bz_node.specs.Layout.{block, needed}
use Rattle.bz_node.specs.Reading.{AreInKeyOrder, pairs_in, high_in, payload_len}
use Rattle.bz_node.specs.Records.{pair_entry, IsPair, IsBound, IsBefore, IsAtLeast, IsBelow, IsLeafList}
use Rattle.bz_page.specs.Pages.{IsLeafByItself}
use Rattle.bz_page.specs.Laws.{OrderedPairsAreFound}
use Rattle.bz_tree.specs.Order.{is_before, is_at_least, is_below, is_within}
use Rattle.bz_slotted.specs.Laws.{LeafRulesAreFacts, LiveWordsFit}
use Rattle.bz_slotted.specs.Page.{visible, extent_of, page}
use Rattle.bz_slotted.specs.ReadingLaws.{node_of, ReadsAsPairs, WholeLeavesAreReadable, HighFencesAreRead}
use Rattle.bz_slotted.specs.Readers.{live_of}
use Rattle.bz_slotted.specs.Records.{key_in, payload_in, key_words, payload_words, weight, records, records_to, live_to}
use Rattle.bz_slotted.specs.Rules.{node_fault}
use Rattle.bz_slotted.specs.Whole.{IsFence, Whole}
use Rattle.bz_word.specs.declared.meta.Extent.{Extent}
use Rattle.bz_node.proofs.Unpacked.{unpacked_key-some, unpacked_payload-some}
use Rattle.bz_slotted.proofs.MadeLeaves.{before-test, test-before}
use Rattle.bz_renew.specs.Sorted.{HasFences, IsSortedLeaf}
use Rattle.bz_renew.proofs.Words.{and-left, and-right}

-- the words that a pair takes in a leaf
abbrev size_of : List ℕ × List ℕ → ℕ
size_of r = 1 + length (pair_entry r).words

-- what is needed for pairs is the sum of these
needed-sum : (rs : List (List ℕ × List ℕ)) → needed (map pair_entry rs) ≡ sum_by size_of rs
unfolding block
needed-sum [] = refl
needed-sum (r ∷ rs) = omega (arith, needed-sum rs, length-append (block (map pair_entry rs)) (pair_entry r).words, sum_by-cons size_of r rs)

-- a pair lies between bounds
abbrev IsIn : Option (List ℕ) → Option (List ℕ) → List ℕ × List ℕ → Type 0
IsIn low high r = is_within r.0 low high ≡ true

-- the pair of a record
abbrev pair-of : (ℕ → ℕ) → ℕ → List ℕ × List ℕ
pair-of n j = (key_in n (extent_of ((page n).meta j)), payload_in n (extent_of ((page n).meta j)))

module _ (raw n : ℕ → ℕ) (low high : Option (List ℕ)) (w : Whole raw (page n) low high) where
  is-pair : (j : ℕ) → j < (page n).count → visible ((page n).meta j) ≡ true → IsPair (pair-of n j) × (size_of (pair-of n j) ≡ 1 + weight ((page n).meta j))
  is-pair j l v =
      let e : Extent = extent_of ((page n).meta j) in
      let k = unpacked_key-sound e.key (key_words n e) (key_in n e) (unpacked_key-some e.key (key_words n e) (w.key j l v).packs) in
      let p = unpacked_payload-sound (payload_len e) (payload_words n e) (payload_in n e) (unpacked_payload-some (payload_len e) (payload_words n e) (w.payload j l v).packs) in
      (record { key = k.0; payload = p.0 }, omega (arith, length-append (packed (key_in n e)) (packed (payload_in n e)), length-packed (key_in n e), length-packed (payload_in n e), ap packed_len k.1, ap packed_len p.1))

  all-pairs : (k : ℕ) → k ≤ (page n).count → All IsPair (records_to n (page n).meta k)
  unfolding records_to
  all-pairs zero l = All-nil IsPair
  all-pairs (suc k) l = All-append IsPair (records_to n (page n).meta k) _ (all-pairs k (omega arith)) (one (visible ((page n).meta k)) refl)
    where
      one : (b : Bool) → visible ((page n).meta k) ≡ b → All IsPair (if b then pair-of n k ∷ [] else [])
      one true e = All-cons IsPair (pair-of n k) [] (is-pair k (omega arith) e).0 (All-nil IsPair)
      one false e = All-nil IsPair

  all-in : (k : ℕ) → k ≤ (page n).count → All (IsIn low high) (records_to n (page n).meta k)
  unfolding records_to
  all-in zero l = All-nil (IsIn low high)
  all-in (suc k) l = All-append (IsIn low high) (records_to n (page n).meta k) _ (all-in k (omega arith)) (one (visible ((page n).meta k)) refl)
    where
      one : (b : Bool) → visible ((page n).meta k) ≡ b → All (IsIn low high) (if b then pair-of n k ∷ [] else [])
      one true e = All-cons (IsIn low high) (pair-of n k) [] (w.range k (omega arith) e) (All-nil (IsIn low high))
      one false e = All-nil (IsIn low high)

  all-live : (k : ℕ) → k ≤ (page n).count → sum_by size_of (records_to n (page n).meta k) ≡ live_to (page n).meta k
  unfolding records_to live_to
  all-live zero l = refl
  all-live (suc k) l = one (visible ((page n).meta k)) refl (all-live k (omega arith))
    where
      one : (b : Bool) → visible ((page n).meta k) ≡ b → sum_by size_of (records_to n (page n).meta k) ≡ live_to (page n).meta k
          → sum_by size_of (records_to n (page n).meta k ++ (if b then pair-of n k ∷ [] else [])) ≡ live_to (page n).meta k + (if b then 1 + weight ((page n).meta k) else 0)
      one true e ih = omega (arith, ih, sum_by-append size_of (records_to n (page n).meta k) (pair-of n k ∷ []), sum_by-cons size_of (pair-of n k) [], (is-pair k (omega arith) e).1)
      one false e ih = omega (arith, ih, sum_by-append size_of (records_to n (page n).meta k) [])

live-is : (n : ℕ → ℕ) → live_to (page n).meta (page n).count ≡ live_of n
unfolding live_of
live-is n = refl

-- the laws that these proofs stand on
pub record Laws : Type 0 where
  pub rules : LeafRulesAreFacts
  pub fit : LiveWordsFit
  pub readable : WholeLeavesAreReadable
  pub ends : HighFencesAreRead
  pub found : OrderedPairsAreFound

at-least : (low : Option (List ℕ)) (key : List ℕ) → is_at_least key low ≡ true → IsAtLeast low key
at-least None key h = tt
at-least (Some low) key h = λ before. go (is_before key low) (before-test key low before) h
  where
    go : (b : Bool) → b ≡ true → not b ≡ true → ⊥
    go true e h = true≢false (sym h)
    go false e h = true≢false (sym e)

is-below : (high : Option (List ℕ)) (key : List ℕ) → is_below key high ≡ true → IsBelow high key
is-below None key h = tt
is-below (Some high) key h = test-before key high h

bound-is : (n : ℕ → ℕ) (at len : ℕ) (fence : Option (List ℕ)) → IsFence n at len fence → IsBound fence
bound-is n at len None f = tt
bound-is n at len (Some key) f = (unpacked_key-sound len _ key f).0

-- the low fence as it was read
abbrev IsLow : List ℕ → Option (List ℕ) → Type 0
IsLow words low = (nodes : ℕ) (lo hi : Option (List ℕ)) → node_fault nodes (node_of words) (node_of words) 0 lo hi ≡ None → low ≡ lo

module _ (b : Laws) (words : List ℕ) (sorted : List (List ℕ × List ℕ)) (low high : Option (List ℕ)) (size : length words ≡ NODE_WORDS) (order : AreInKeyOrder (pairs_in words) sorted) (low_is : IsLow words low) (high_is : high ≡ high_in words) (leaf : IsLeafByItself words) where
  whole : Whole (node_of words) (page (node_of words)) leaf.low leaf.high
  whole = (b.rules leaf.nodes (node_of words) (node_of words) leaf.low leaf.high).0 leaf.whole

  reads : ReadsAsPairs words
  reads = b.readable leaf.nodes (node_of words) words leaf.low leaf.high size leaf.whole

  same : IsPermutation (records (page (node_of words))) sorted
  same = subst (λ rs. IsPermutation rs sorted) reads.pairs order.same

  fences : HasFences words low high
  fences nodes lo hi none = (low_is nodes lo hi none, high_is ∙ (b.ends nodes (node_of words) words 0 lo hi size none).high)

  low-fence : low ≡ leaf.low
  low-fence = (fences leaf.nodes leaf.low leaf.high leaf.whole).0

  high-fence : high ≡ leaf.high
  high-fence = (fences leaf.nodes leaf.low leaf.high leaf.whole).1

  lawful : All IsPair sorted
  lawful = All-permutation IsPair (records (page (node_of words))) sorted same (all-pairs (node_of words) (node_of words) leaf.low leaf.high whole (page (node_of words)).count (omega arith))

  in-range : All (IsIn low high) sorted
  in-range = subst (λ z. All (IsIn z high) sorted) (sym low-fence) (subst (λ z. All (IsIn leaf.low z) sorted) (sym high-fence)
      (All-permutation (IsIn leaf.low leaf.high) (records (page (node_of words))) sorted same (all-in (node_of words) (node_of words) leaf.low leaf.high whole (page (node_of words)).count (omega arith))))

  low-bound : IsBound low
  low-bound = subst IsBound (sym low-fence) (bound-is (node_of words) LOW_FENCE_AT (page (node_of words)).low leaf.low whole.fences.low)

  high-bound : IsBound high
  high-bound = subst IsBound (sym high-fence) (bound-is (node_of words) HIGH_FENCE_AT (page (node_of words)).high leaf.high whole.fences.high)

  -- these records make a leaf
  makes-leaf : IsLeafList sorted low high
  makes-leaf = record {
    rising = order.rising;
    from = All-map (IsAtLeast low) (λ (x : List ℕ × List ℕ). x.0) sorted (λ i d l. at-least low _ (and-left _ _ (in-range i d l)));
    below = All-map (IsBelow high) (λ (x : List ℕ × List ℕ). x.0) sorted (λ i d l. is-below high _ (and-right _ _ (in-range i d l)));
  }

  -- they take the words that are live
  live : needed (map pair_entry sorted) ≡ live_of (node_of words)
  live =
      needed-sum sorted ∙ (sum_by-IsPermutation size_of (records (page (node_of words))) sorted same
      ∙ (all-live (node_of words) (node_of words) leaf.low leaf.high whole (page (node_of words)).count (omega arith) ∙ live-is (node_of words)))

  pub sorted-leaf : IsSortedLeaf words sorted low high
  sorted-leaf = record {
    order = order;
    fences = fences;
    pairs = lawful;
    low_bound = low-bound;
    high_bound = high-bound;
    leaf = makes-leaf;
    live = live;
    room = omega (arith, live, b.fit leaf.nodes (node_of words) (node_of words) leaf.low leaf.high leaf.whole);
    says = λ key. b.found key (pairs_in words) sorted order.same order.rising ∙ reads.says key;
  }
