-- Two leaves that break no rule and say the same of each key have as many live words: both are the sum over one map.
use Rattle.std.proofs.Common.{◌≡◌, ℕ, zero, suc, ◌+◌, ◌<◌, ◌≤◌, if◌then◌else◌, cond, Bool, true, false, List, [], ◌∷◌, ◌++◌, length, arith, refl, sym, ap, ◌∙◌, Option}
use Rattle.std.specs.Prelude.{Some, None}
use Rattle.std.specs.Cmp.Lexicographic.{slice_cmp}
use Rattle.std.specs.FinMap.{FinMap, find, put, entries, get, from_entries, len-entries, len-empty, get-entries, get-from_entries, entries-insert, from_entries_push, same_map, slice_cmp-IsAntisymmetric, nat_cmp-IsAntisymmetric}
use Rattle.std.specs.FinMap.Entries.{by_order}
use Rattle.std.specs.List.{sum_by}
use Rattle.std.specs.Ordering.{nat_cmp, is_eq}
use Rattle.std.specs.declared.cmp.Ordering.{Ordering}
use Rattle.std.specs.declared.cmp.Ordering.TheVariants.{Less, Equal, Greater}
use Rattle.std.proofs.lemmas.Cmp.{nat_list_cmp_total}
use Rattle.std.proofs.lemmas.List.{append-nil}
use Rattle.std.proofs.lemmas.List.Sums.{sum_by-cons}
use Rattle.bz_key.specs.Packing.{packed_len}
use Rattle.bz_key.proofs.UnpackingLaws.{unpacked_key-sound, unpacked_payload-sound}
use Rattle.bz_node.specs.Reading.{payload_len}
use Rattle.bz_node.proofs.Unpacked.{unpacked_key-some, unpacked_payload-some}
use Rattle.bz_slotted.specs.Page.{visible, extent_of, page}
use Rattle.bz_slotted.specs.Readers.{found_of, live_of}
use Rattle.bz_slotted.specs.Records.{key_in, payload_in, key_words, payload_words, weight, records_to, search_to, live_to}
use Rattle.bz_slotted.specs.Whole.{Whole}
use Rattle.bz_slotted.proofs.Pairs.{find-records}
use Rattle.bz_slotted.proofs.Searches.{search-none}
use Rattle.bz_word.specs.declared.meta.Extent.{Extent}

abbrev map_of : List (List ℕ × List ℕ) → FinMap (slice_cmp nat_cmp) (List ℕ)
map_of rs = from_entries rs

-- the words that a pair takes, with its metadata word
abbrev size_of : List ℕ × List ℕ → ℕ
size_of r = 1 + (packed_len (length r.0) + packed_len (length r.1))

none-sum : (rs : List (List ℕ × List ℕ)) → length rs ≡ 0 → sum_by size_of rs ≡ 0
none-sum [] e = refl
none-sum (r ∷ rs) e = absurd (omega arith)

-- where its key is not among them, a pair adds its words
put-adds : (key value : List ℕ) (rs : List (List ℕ × List ℕ)) → find (slice_cmp nat_cmp) key rs ≡ None → sum_by size_of (put (slice_cmp nat_cmp) key value rs) ≡ size_of (key, value) + sum_by size_of rs
put-adds key value [] none = sum_by-cons size_of (key, value) []
put-adds key value (r ∷ rs) none = go (slice_cmp nat_cmp key r.0) none (put-adds key value rs)
  where
    go : (o : Ordering) → cond (is_eq o) (Some r.1) (find (slice_cmp nat_cmp) key rs) ≡ None
        → (find (slice_cmp nat_cmp) key rs ≡ None → sum_by size_of (put (slice_cmp nat_cmp) key value rs) ≡ size_of (key, value) + sum_by size_of rs)
        → sum_by size_of (by_order o ((key, value) ∷ r ∷ rs) ((r.0, value) ∷ rs) (r ∷ put (slice_cmp nat_cmp) key value rs)) ≡ size_of (key, value) + sum_by size_of (r ∷ rs)
    go Less h ih = sum_by-cons size_of (key, value) (r ∷ rs)
    go Equal h ih = absurd (cc)
    go Greater h ih = omega (arith, ih h, sum_by-cons size_of r (put (slice_cmp nat_cmp) key value rs), sum_by-cons size_of r rs)

-- the pair of a record
abbrev pair-of : (ℕ → ℕ) → ℕ → List ℕ × List ℕ
pair-of n j = (key_in n (extent_of ((page n).meta j)), payload_in n (extent_of ((page n).meta j)))

search-is : (n : ℕ → ℕ) (key : List ℕ) → search_to n (page n).meta key (page n).count ≡ found_of n key
unfolding found_of
search-is n key = refl

-- the live words of a page are those of its words
pub live-is : (n : ℕ → ℕ) → live_to (page n).meta (page n).count ≡ live_of n
unfolding live_of
live-is n = refl

module _ (raw n : ℕ → ℕ) (low high : Option (List ℕ)) (w : Whole raw (page n) low high) where
  pair-size : (j : ℕ) → j < (page n).count → visible ((page n).meta j) ≡ true → size_of (pair-of n j) ≡ 1 + weight ((page n).meta j)
  pair-size j l v =
      let e : Extent = extent_of ((page n).meta j) in
      let k = unpacked_key-sound e.key (key_words n e) (key_in n e) (unpacked_key-some e.key (key_words n e) (w.key j l v).packs) in
      let p = unpacked_payload-sound (payload_len e) (payload_words n e) (payload_in n e) (unpacked_payload-some (payload_len e) (payload_words n e) (w.payload j l v).packs) in
      omega (arith, ap packed_len k.1, ap packed_len p.1)

  -- what is found among the first records
  found-to : (key : List ℕ) (k : ℕ) → k ≤ (page n).count → find (slice_cmp nat_cmp) key (records_to n (page n).meta k) ≡ search_to n (page n).meta key k
  found-to key k le = find-records n (page n).meta key k (λ i j li lj. w.distinct i j (omega (arith, li, le)) (omega (arith, lj, le)))

  none-before : (k : ℕ) → k < (page n).count → visible ((page n).meta k) ≡ true → find (slice_cmp nat_cmp) (key_in n (extent_of ((page n).meta k))) (records_to n (page n).meta k) ≡ None
  none-before k l v =
      found-to (key_in n (extent_of ((page n).meta k))) k (omega (arith, l))
      ∙ search-none n (page n).meta (key_in n (extent_of ((page n).meta k))) k (λ i li vi. w.distinct i k (omega (arith, li, l)) l (λ q. absurd (omega (arith, q, li))) vi v)

  -- one record more
  more-sum : (k : ℕ) → k < (page n).count → visible ((page n).meta k) ≡ true
      → sum_by size_of (entries (map_of (records_to n (page n).meta k ++ pair-of n k ∷ []))) ≡ size_of (pair-of n k) + sum_by size_of (entries (map_of (records_to n (page n).meta k)))
  more-sum k l v =
      let rs : List (List ℕ × List ℕ) = records_to n (page n).meta k in
      let key : List ℕ = key_in n (extent_of ((page n).meta k)) in
      let value : List ℕ = payload_in n (extent_of ((page n).meta k)) in
      ap (λ (m : FinMap (slice_cmp nat_cmp) (List ℕ)). sum_by size_of (entries m)) (from_entries_push nat_list_cmp_total (slice_cmp-IsAntisymmetric nat_cmp-IsAntisymmetric) rs key value (none-before k l v))
      ∙ (ap (sum_by size_of) (entries-insert nat_list_cmp_total (map_of rs) key value)
      ∙ put-adds key value (entries (map_of rs)) (sym (get-entries (map_of rs) key) ∙ (get-from_entries nat_list_cmp_total rs key ∙ none-before k l v)))

  live-sum : (k : ℕ) → k ≤ (page n).count → sum_by size_of (entries (map_of (records_to n (page n).meta k))) ≡ live_to (page n).meta k
  unfolding records_to live_to
  live-sum zero l = none-sum (entries (map_of [])) (sym (len-entries (map_of [])) ∙ len-empty (slice_cmp nat_cmp) (List ℕ))
  live-sum (suc k) l = one (visible ((page n).meta k)) refl (live-sum k (omega arith))
    where
      one : (b : Bool) → visible ((page n).meta k) ≡ b → sum_by size_of (entries (map_of (records_to n (page n).meta k))) ≡ live_to (page n).meta k
          → sum_by size_of (entries (map_of (records_to n (page n).meta k ++ (if b then pair-of n k ∷ [] else [])))) ≡ live_to (page n).meta k + (if b then 1 + weight ((page n).meta k) else 0)
      one true v ih = omega (arith, ih, more-sum k (omega arith) v, pair-size k (omega arith) v)
      one false v ih = ap (λ (rs : List (List ℕ × List ℕ)). sum_by size_of (entries (map_of rs))) (append-nil (records_to n (page n).meta k)) ∙ omega (arith, ih)

  all-live : sum_by size_of (entries (map_of (records_to n (page n).meta (page n).count))) ≡ live_of n
  all-live = live-sum (page n).count (omega arith) ∙ live-is n

  all-found : (key : List ℕ) → get (map_of (records_to n (page n).meta (page n).count)) key ≡ found_of n key
  all-found key = get-from_entries nat_list_cmp_total (records_to n (page n).meta (page n).count) key ∙ (found-to key (page n).count (omega arith) ∙ search-is n key)

pub live-alike : (raw_n n raw_m m : ℕ → ℕ) (low high lo hi : Option (List ℕ)) → Whole raw_n (page n) low high → Whole raw_m (page m) lo hi → ((key : List ℕ) → found_of n key ≡ found_of m key) → live_of n ≡ live_of m
live-alike raw_n n raw_m m low high lo hi w v says =
    sym (all-live raw_n n low high w)
    ∙ (ap (λ (x : FinMap (slice_cmp nat_cmp) (List ℕ)). sum_by size_of (entries x))
    (same_map nat_list_cmp_total (slice_cmp-IsAntisymmetric nat_cmp-IsAntisymmetric) (map_of (records_to n (page n).meta (page n).count)) (map_of (records_to m (page m).meta (page m).count))
    (λ key. all-found raw_n n low high w key ∙ (says key ∙ sym (all-found raw_m m lo hi v key))))
    ∙ all-live raw_m m lo hi v)
