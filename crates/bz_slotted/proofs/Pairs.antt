-- The records that a page shows as a list, and what a look-up in the list finds.
use Rattle.std.proofs.Common.{◌≡◌, ◌≢◌, ℕ, zero, suc, ◌+◌, ◌<◌, ◌≤◌, ◌&&◌, if◌then◌else◌, Bool, true, false, List, [], ◌∷◌, ◌++◌, length, map, arith, refl, sym, ap, ◌∙◌}
use Rattle.std.specs.Prelude.{bytes_eq, Some, None}
use Rattle.std.specs.List.{range_with_len, flat_map}
use Rattle.std.specs.FinMap.{find}
use Rattle.std.specs.Cmp.Lexicographic.{slice_cmp, texts_ties}
use Rattle.std.specs.Ordering.{nat_cmp, eq_by_cmp}
use Rattle.std.proofs.lemmas.Bool.{true≢false}
use Rattle.std.proofs.lemmas.Slice.Eq.{bytes_eq-Decides}
use Rattle.std.proofs.lemmas.List.{append-nil}
use Rattle.std.proofs.lemmas.List.Concat.{flat_map-append}
use Rattle.std.proofs.lemmas.List.FromFn.{map-range_with_len_more}
use Rattle.bz_node.specs.Reading.{payload_at, payload_len, extent_words, pair_in, shown}
use Rattle.bz_key.specs.Packing.{packed_len, unpacked}
use Rattle.bz_word.specs.declared.meta.Extent.{Extent}
use Rattle.bz_word.specs.declared.meta.Meta.{Meta}
use Rattle.bz_word.specs.declared.meta.Meta.TheVariants.{Unused, Reserved, Visible, Deleted}
use Rattle.bz_slotted.specs.Page.{visible, extent_of}
use Rattle.bz_slotted.specs.ReadingLaws.{node_of}
use Rattle.bz_slotted.specs.Records.{key_in, payload_in, records_to, search_to}
use Rattle.bz_slotted.proofs.KeyFacts.{same-key, other-key}
use Rattle.bz_slotted.proofs.Lists.{part-at}
use Rattle.bz_slotted.proofs.Searches.{search-none}

-- a record that lies within the words is read alike
pub pair-read : (words : List ℕ) (e : Extent) → e.offset + extent_words e ≤ length words → pair_in words e ≡ (key_in (node_of words) e, payload_in (node_of words) e)
pair-read words e within = λ i. (
  ap (unpacked e.key) (sym (part-at words e.offset (packed_len e.key) (omega arith))) i,
  ap (unpacked (payload_len e)) (sym (part-at words (payload_at e) (packed_len (payload_len e)) (omega arith))) i,
)

shown-read : (words : List ℕ) (m : Meta) → (visible m ≡ true → (extent_of m).offset + extent_words (extent_of m) ≤ length words) →
    shown words m ≡ if visible m then (key_in (node_of words) (extent_of m), payload_in (node_of words) (extent_of m)) ∷ [] else []
unfolding visible extent_of
shown-read words Unused h = refl
shown-read words (Reserved e) h = refl
shown-read words (Visible e) h = ap (λ (x : List ℕ × List ℕ). x ∷ []) (pair-read words e (h refl))
shown-read words (Deleted k t) h = refl

pub records-range : (words : List ℕ) (meta : ℕ → Meta) (n : ℕ) → ((i : ℕ) → i < n → visible (meta i) ≡ true → (extent_of (meta i)).offset + extent_words (extent_of (meta i)) ≤ length words) →
    flat_map (shown words) (map meta (range_with_len 0 n)) ≡ records_to (node_of words) meta n
unfolding records_to
records-range words meta zero h = refl
records-range words meta (suc n) h =
    ap (λ k. flat_map (shown words) (map meta (range_with_len 0 k))) (one n)
    ∙ ap (flat_map (shown words)) (map-range_with_len_more meta 0 n n (omega arith))
    ∙ flat_map-append (shown words) (map meta (range_with_len 0 n)) (meta n ∷ [])
    ∙ rw (records-range words meta n (λ i l. h i (omega arith)), append-nil (shown words (meta n)), shown-read words (meta n) (h n (omega arith))) refl
  where
    one : (k : ℕ) → suc k ≡ k + 1
    one k = omega arith

ties : (a b : List ℕ) → eq_by_cmp (slice_cmp nat_cmp) a b ≡ bytes_eq a b
ties a b = sym (texts_ties a b)

find-other : (q : List ℕ) (xs : List (List ℕ × List ℕ)) (e : List ℕ × List ℕ) → e.0 ≢ q → find (slice_cmp nat_cmp) q (xs ++ e ∷ []) ≡ find (slice_cmp nat_cmp) q xs
find-other q [] e ne = rw (ties q e.0, other-key q e.0 (λ s. ne (sym s))) refl
find-other q (x ∷ xs) e ne = ap (λ r. if eq_by_cmp (slice_cmp nat_cmp) q x.0 then Some x.1 else r) (find-other q xs e ne)

find-last : (q : List ℕ) (xs : List (List ℕ × List ℕ)) (e : List ℕ × List ℕ) → e.0 ≡ q → find (slice_cmp nat_cmp) q xs ≡ None → find (slice_cmp nat_cmp) q (xs ++ e ∷ []) ≡ Some e.1
find-last q [] e is none = rw (ties q e.0, same-key q e.0 (sym is)) refl
find-last q (x ∷ xs) e is none = go (eq_by_cmp (slice_cmp nat_cmp) q x.0) none (find-last q xs e is)
  where
    go : (b : Bool) → (if b then Some x.1 else find (slice_cmp nat_cmp) q xs) ≡ None → (find (slice_cmp nat_cmp) q xs ≡ None → find (slice_cmp nat_cmp) q (xs ++ e ∷ []) ≡ Some e.1)
        → (if b then Some x.1 else find (slice_cmp nat_cmp) q (xs ++ e ∷ [])) ≡ Some e.1
    go true h ih = absurd (cc)
    go false h ih = ih h

-- a look-up among records with different keys finds what a search answers
pub find-records : (n : ℕ → ℕ) (meta : ℕ → Meta) (key : List ℕ) (k : ℕ)
    → ((i j : ℕ) → i < k → j < k → i ≢ j → visible (meta i) ≡ true → visible (meta j) ≡ true → key_in n (extent_of (meta i)) ≢ key_in n (extent_of (meta j)))
    → find (slice_cmp nat_cmp) key (records_to n meta k) ≡ search_to n meta key k
unfolding records_to search_to
find-records n meta key zero h = refl
find-records n meta key (suc k) h = go (visible (meta k)) refl (bytes_eq (key_in n (extent_of (meta k))) key) refl (find-records n meta key k (λ i j li lj. h i j (omega arith) (omega arith)))
  where
    go : (a : Bool) → visible (meta k) ≡ a → (b : Bool) → bytes_eq (key_in n (extent_of (meta k))) key ≡ b → find (slice_cmp nat_cmp) key (records_to n meta k) ≡ search_to n meta key k
        → find (slice_cmp nat_cmp) key (records_to n meta k ++ (if a then (key_in n (extent_of (meta k)), payload_in n (extent_of (meta k))) ∷ [] else [])) ≡ (if a && b then Some (payload_in n (extent_of (meta k))) else search_to n meta key k)
    go false v b e ih = ap (find (slice_cmp nat_cmp) key) (append-nil (records_to n meta k)) ∙ ih
    go true v true e ih = let is : key_in n (extent_of (meta k)) ≡ key = (bytes_eq-Decides (key_in n (extent_of (meta k))) key).0 e in
        find-last key (records_to n meta k) (key_in n (extent_of (meta k)), payload_in n (extent_of (meta k))) is
        (ih ∙ search-none n meta key k (λ i l vi same. h i k (omega arith) (omega arith) (λ q. absurd (omega arith)) vi v (same ∙ sym is)))
    go true v false e ih = find-other key (records_to n meta k) (key_in n (extent_of (meta k)), payload_in n (extent_of (meta k))) (λ s. true≢false (sym (same-key (key_in n (extent_of (meta k))) key s) ∙ e)) ∙ ih
