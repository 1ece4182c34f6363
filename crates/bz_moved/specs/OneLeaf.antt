-- A swap on one leaf by which one record goes and another becomes visible. Before, the leaf's words are `n` and as they stand `r`;
-- after, `m` and `s`.
use Rattle.std.specs.Prelude.{◌≡◌, ◌≢◌, ℕ, ◌+◌, ◌^◌, ◌<◌, ◌≤◌, ◌==◌, if◌then◌else◌, true, false, List, Option, Some, None}
use Rattle.bz_layout.specs.declared.sizes.TheConstants.{STATUS_AT, META_AT}
use Rattle.bz_tree.specs.Order.{is_within}
use Rattle.bz_word.specs.declared.meta.Meta.{Meta}
use Rattle.bz_slotted.specs.Changes.{Rewrites}
use Rattle.bz_slotted.specs.Page.{meta_of, visible, held, used, extent_of, page}
use Rattle.bz_slotted.specs.Readers.{found_of}
use Rattle.bz_slotted.specs.Records.{key_in, payload_in, key_at, weight}
use Rattle.bz_slotted.specs.Rules.{node_fault}
use Rattle.bz_slotted.specs.Whole.{IsLeafRecord, IsInBlock, IsPlainKey, IsPlainPayload, Disjoint}

-- record i was visible, and its lengths alone are left
pub record Goes (n m : ℕ → ℕ) (i : ℕ) (gone : Meta) : Type 0 where
  pub inside : i < (page n).count
  pub was : visible ((page n).meta i) ≡ true
  pub said : meta_of (m (META_AT + i)) ≡ gone
  pub taken : used gone ≡ true
  pub hidden : visible gone ≡ false
  pub loose : held gone ≡ false
  pub lengths : IsLeafRecord gone

-- record j was not visible, and is visible now, with a key that the leaf had not; it is not sorted
pub record Comes (r n m : ℕ → ℕ) (lo hi : Option (List ℕ)) (j : ℕ) (come : Meta) : Type 0 where
  pub inside : j < (page n).count
  pub was : visible ((page n).meta j) ≡ false
  pub said : meta_of (m (META_AT + j)) ≡ come
  pub taken : used come ≡ true
  pub shows : visible come ≡ true
  pub lengths : IsLeafRecord come
  pub in_block : IsInBlock (page n) come
  pub apart : (k : ℕ) → k < (page n).count → k ≢ j → held ((page n).meta k) ≡ true → Disjoint ((page n).meta k) come
  pub key : IsPlainKey r n (extent_of come)
  pub payload : IsPlainPayload r n (extent_of come)
  pub tail : (page n).sorted ≤ j
  pub range : is_within (key_in n (extent_of come)) lo hi ≡ true
  pub distinct : (k : ℕ) → k < (page n).count → k ≢ j → visible ((page n).meta k) ≡ true → key_at (page n) k ≢ key_in n (extent_of come)

-- status and both metadata words say something else, and nothing else changes
pub record Trades (r s n m : ℕ → ℕ) (lo hi : Option (List ℕ)) (i j : ℕ) (gone come : Meta) : Type 0 where
  pub others : (k : ℕ) → k ≢ STATUS_AT → k ≢ META_AT + i → k ≢ META_AT + j → m k ≡ n k
  pub raw : (k : ℕ) → META_AT + (page n).count ≤ k → s k ≡ r k
  pub status : m STATUS_AT < 2 ^ 61
  pub count : (page m).count ≡ (page n).count
  pub block : (page m).block ≡ (page n).block
  pub dead : (page m).dead + weight come ≡ (page n).dead + weight ((page n).meta i)
  pub goes : Goes n m i gone
  pub comes : Comes r n m lo hi j come

-- words that never stood: those of before, but for metadata word i as it is afterwards and this status
abbrev pub half_of : (n m : ℕ → ℕ) → ℕ → ℕ → ℕ → ℕ
half_of n m i word k = if k == STATUS_AT then word else (if k == META_AT + i then m k else n k)

-- through such words it is two changes, one after the other: the record goes, and then the other one comes
pub record TwoRewrites (r s n m : ℕ → ℕ) (lo hi : Option (List ℕ)) (i j : ℕ) (gone come : Meta) : Type 0 where
  pub word : ℕ
  pub first : Rewrites r r n (half_of n m i word) lo hi i gone
  pub second : Rewrites r s (half_of n m i word) m lo hi j come

abbrev pub TradesAreTwoRewrites : Type 0
TradesAreTwoRewrites =
    (nodes : ℕ) (r s n m : ℕ → ℕ) (lo hi : Option (List ℕ)) (i j : ℕ) (gone come : Meta) → node_fault nodes r n 0 lo hi ≡ None → Trades r s n m lo hi i j gone come →
    TwoRewrites r s n m lo hi i j gone come

-- no rule is broken; the old key is gone, the new one has its payload, and no other key is answered otherwise
pub record AnswersTraded (nodes : ℕ) (s n m : ℕ → ℕ) (lo hi : Option (List ℕ)) (i : ℕ) (come : Meta) : Type 0 where
  pub none : node_fault nodes s m 0 lo hi ≡ None
  pub other : (key : List ℕ) → key_in n (extent_of come) ≢ key → key_at (page n) i ≢ key → found_of m key ≡ found_of n key
  pub new : found_of m (key_in n (extent_of come)) ≡ Some (payload_in n (extent_of come))
  pub gone : found_of m (key_at (page n) i) ≡ None

abbrev pub TradesChangeTwoKeys : Type 0
TradesChangeTwoKeys =
    (nodes : ℕ) (r s n m : ℕ → ℕ) (lo hi : Option (List ℕ)) (i j : ℕ) (gone come : Meta) → node_fault nodes r n 0 lo hi ≡ None → Trades r s n m lo hi i j gone come →
    AnswersTraded nodes s n m lo hi i come
