-- The leaf that is made of two has taken the live words of both.
use Rattle.std.proofs.Common.{◌≡◌, ℕ, ◌+◌, ◌≤◌, ◌++◌, List, length, map, Option, arith, refl, sym, ap, subst, ◌∙◌}
use Rattle.std.specs.Prelude.{Some, None}
use Rattle.std.proofs.lemmas.List.{map-append}
use Rattle.bz_join.specs.Leaves.{IsOneOf, HasBoth}
use Rattle.bz_key.proofs.UnpackingLaws.{unpacked_key-sound}
use Rattle.bz_key.specs.Packing.{packed_len}
use Rattle.bz_layout.specs.declared.sizes.TheConstants.{NODE_WORDS, LOW_FENCE_AT, STATUS_AT}
use Rattle.bz_layout.specs.declared.thresholds.TheConstants.{SPLIT_ABOVE}
use Rattle.bz_node.specs.Layout.{needed, made_status}
use Rattle.bz_node.specs.Reading.{AreInKeyOrder, high_in, pairs_in}
use Rattle.bz_node.specs.Records.{leaf_words, pair_entry}
use Rattle.bz_node.proofs.Parts.{needed-append}
use Rattle.bz_renew.proofs.Sorting.{Laws as Sorting, sorted-leaf}
use Rattle.bz_slotted.specs.Page.{page, words_at}
use Rattle.bz_slotted.specs.ReadingLaws.{node_of}
use Rattle.bz_slotted.specs.Readers.{live_of}
use Rattle.bz_slotted.specs.Rules.{node_fault}
use Rattle.bz_slotted.specs.Whole.{IsFence}
use Rattle.bz_word.specs.Statements.{IsCodec}
use Rattle.bz_word.specs.Statuses.{status_word, status, IsStatus, IsStatusWord}
use Rattle.bz_word.specs.declared.status.Status.{Status}
use Rattle.bz_stage.specs.Swaps.{IsRoomy}

-- the laws on which it rests
pub record Laws : Type 0 where
  pub sorting : Sorting
  pub codec : IsCodec Status IsStatus IsStatusWord status_word status

-- a fence is one bound
fence-same : (n : ℕ → ℕ) (at len : ℕ) (a b : Option (List ℕ)) → IsFence n at len a → IsFence n at len b → a ≡ b
fence-same n at len None None f g = refl
fence-same n at len None (Some key) f g = let k = unpacked_key-sound len (words_at n at (packed_len len)) key g in absurd (omega (arith, f.0, k.0.some, k.1))
fence-same n at len (Some key) None f g = let k = unpacked_key-sound len (words_at n at (packed_len len)) key f in absurd (omega (arith, g.0, k.0.some, k.1))
fence-same n at len (Some a) (Some b) f g = sym f ∙ g

-- the records of a leaf, in the order of their keys, take its live words
module _ (b : Laws) (words : List ℕ) (sorted : List (List ℕ × List ℕ)) (nodes : ℕ) (low high : Option (List ℕ)) (size : length words ≡ NODE_WORDS) (order : AreInKeyOrder (pairs_in words) sorted) (whole : node_fault nodes (node_of words) (node_of words) 0 low high ≡ None) where
  low-is : (k : ℕ) (lo hi : Option (List ℕ)) → node_fault k (node_of words) (node_of words) 0 lo hi ≡ None → low ≡ lo
  low-is k lo hi other =
      fence-same (node_of words) LOW_FENCE_AT (page (node_of words)).low low lo
      ((b.sorting.rules nodes (node_of words) (node_of words) low high).0 whole).fences.low ((b.sorting.rules k (node_of words) (node_of words) lo hi).0 other).fences.low

  takes : needed (map pair_entry sorted) ≡ live_of (node_of words)
  takes = (sorted-leaf b.sorting words sorted low (high_in words) size order low-is refl (record { nodes = nodes; low = low; high = high; whole = whole })).live

-- a leaf made of records that take no more words than a leaf may keep, between whatever bounds
made-roomy : Laws → (records : List (List ℕ × List ℕ)) (low high : Option (List ℕ)) → needed (map pair_entry records) ≤ SPLIT_ABOVE → IsRoomy (page (node_of (leaf_words records low high)))
made-roomy b records low high few =
    let is : status (node_of (leaf_words records low high) STATUS_AT) ≡ made_status (map pair_entry records) =
    b.codec.value (made_status (map pair_entry records)) (record { count = omega (arith, few); block = omega (arith, few); dead = omega arith; stamp = omega arith }) in
    record {
      thawed = ap (λ (s : Status). s.frozen) is;
      few = omega (arith, few, ap (λ (s : Status). s.count) is, ap (λ (s : Status). s.block) is);
    }

-- the one leaf of two
pub joined-roomy : Laws → (left right one : List ℕ) (nodes : ℕ) (low middle high : Option (List ℕ)) → length left ≡ NODE_WORDS → length right ≡ NODE_WORDS → IsOneOf left right one
    → node_fault nodes (node_of left) (node_of left) 0 low middle ≡ None → node_fault nodes (node_of right) (node_of right) 0 middle high ≡ None → live_of (node_of left) + live_of (node_of right) ≤ SPLIT_ABOVE
    → IsRoomy (page (node_of one))
joined-roomy b left right one nodes low middle high left_size right_size f left_whole right_whole room =
    let h : HasBoth left right one = f.both in
    let first : needed (map pair_entry h.left_pairs) ≡ live_of (node_of left) = takes b left h.left_pairs nodes low middle left_size h.left_order left_whole in
    let second : needed (map pair_entry h.right_pairs) ≡ live_of (node_of right) = takes b right h.right_pairs nodes middle high right_size h.right_order right_whole in
    let both : needed (map pair_entry (h.left_pairs ++ h.right_pairs)) ≡ needed (map pair_entry h.left_pairs) + needed (map pair_entry h.right_pairs) =
    ap needed (map-append pair_entry h.left_pairs h.right_pairs) ∙ needed-append (map pair_entry h.left_pairs) (map pair_entry h.right_pairs) in
    subst (λ w. IsRoomy (page (node_of w))) (sym h.is) (made-roomy b (h.left_pairs ++ h.right_pairs) h.low h.high (omega (arith, both, first, second, room)))
