-- A leaf made whole breaks no rule, and shows the records that it was made of.
use Rattle.std.proofs.Common.{◌≡◌, ◌≢◌, ℕ, zero, suc, ◌+◌, ◌<◌, ◌≤◌, Bool, true, false, List, [], length, map, get_or, arith, refl, sym, ap, ◌∙◌, inl, inr, Option}
use Rattle.std.specs.Prelude.{All, Some, None, not}
use Rattle.std.specs.List.{range_with_len, flat_map, sum_by}
use Rattle.std.specs.Cmp.Lexicographic.{slice_cmp}
use Rattle.std.specs.FinMap.{find}
use Rattle.std.specs.Ordering.{nat_cmp, is_lt}
use Rattle.std.specs.declared.cmp.Ordering.{Ordering}
use Rattle.std.specs.declared.cmp.Ordering.TheVariants.{Less, Equal, Greater}
use Rattle.std.proofs.lemmas.Bool.{cases_lt}
use Rattle.std.proofs.lemmas.List.{length-append, length-map, get_or-map}
use Rattle.std.proofs.lemmas.List.FromFn.{get_or-map-range_with_len, map-range_with_len_more}
use Rattle.bz_key.specs.Packing.{packed, packed_len}
use Rattle.bz_key.proofs.PackingLaws.{length-packed}
use Rattle.bz_node.specs.Laws.{ReadsAsLeaf}
use Rattle.bz_node.specs.Layout.{Entry, IsEntry}
use Rattle.bz_node.specs.Reading.{metas_in, payload_at, payload_len, shown, extent_words, words_shown, extent_in, HasPair}
use Rattle.bz_node.specs.Records.{pair_entry, leaf_words, keys_of, IsPair, IsBefore, IsAtLeast, IsBelow, IsLeafList}
use Rattle.bz_node.proofs.Proved.{leaves_are_read}
use Rattle.bz_tree.specs.Order.{is_before, is_at_least, is_below, is_within}
use Rattle.bz_word.specs.declared.meta.Meta.{Meta}
use Rattle.bz_slotted.specs.Page.{visible, extent_of, page}
use Rattle.bz_slotted.specs.Readers.{found_of, live_of}
use Rattle.bz_slotted.specs.ReadingLaws.{node_of, IsLeafOf, MadeLeavesAreWhole}
use Rattle.bz_slotted.specs.Records.{key_in, payload_in, key_at, records_to, records}
use Rattle.bz_slotted.specs.Whole.{IsLeafRecord, IsPlainKey, IsPlainPayload, Whole}
use Rattle.bz_slotted.proofs.Faults.{none-whole}
use Rattle.bz_slotted.proofs.KeyFacts.{is_before-other}
use Rattle.bz_slotted.proofs.Lists.{part-at, visible-used, metas-range, live-range}
use Rattle.bz_slotted.proofs.MadePages.{IsMade, ext, count-made, level-made, fences-made, shows-made, ext-made, lengths-made, filled-made, inside-made, apart-made, sorted-made}
use Rattle.bz_slotted.proofs.Pairs.{records-range, find-records}

pub before-test : (a b : List ℕ) → IsBefore a b → is_before a b ≡ true
unfolding is_before
before-test a b h = ap is_lt h

less : (o : Ordering) → is_lt o ≡ true → o ≡ Less
less Less h = refl
less Equal h = grind arith
less Greater h = grind arith

pub test-before : (a b : List ℕ) → is_before a b ≡ true → IsBefore a b
unfolding is_before
test-before a b h = less (slice_cmp nat_cmp a b) h

at-least-test : (key : List ℕ) (lo : Option (List ℕ)) → IsAtLeast lo key → is_at_least key lo ≡ true
at-least-test key None h = refl
at-least-test key (Some low) h = go (is_before key low) refl
  where
    go : (b : Bool) → is_before key low ≡ b → not b ≡ true
    go true e = absurd (h (test-before key low e))
    go false e = refl

pub below-test : (key : List ℕ) (hi : Option (List ℕ)) → IsBelow hi key → is_below key hi ≡ true
below-test key None h = refl
below-test key (Some high) h = before-test key high h

-- where all records are visible, they are a list made from the function
all-shown : (n : ℕ → ℕ) (meta : ℕ → Meta) (k : ℕ) → ((i : ℕ) → i < k → visible (meta i) ≡ true) → records_to n meta k ≡ map (λ i. (key_in n (extent_of (meta i)), payload_in n (extent_of (meta i)))) (range_with_len 0 k)
unfolding records_to
all-shown n meta zero h = refl
all-shown n meta (suc k) h =
    rw (h k (omega arith), all-shown n meta k (λ i l. h i (omega arith)))
    (sym (map-range_with_len_more (λ i. (key_in n (extent_of (meta i)), payload_in n (extent_of (meta i)))) 0 k k (omega arith)) ∙ ap (λ c. map (λ i. (key_in n (extent_of (meta i)), payload_in n (extent_of (meta i)))) (range_with_len 0 c)) (one k))
  where
    one : (c : ℕ) → c + 1 ≡ suc c
    one c = omega arith

pair-is-entry : (r : List ℕ × List ℕ) → IsPair r → IsEntry (pair_entry r)
pair-is-entry r h =
    let k = length-packed r.0 in
    let p = length-packed r.1 in
    let n = length-append (packed r.0) (packed r.1) in
    record { key = omega arith; total = omega (arith, h.key.fits, h.payload.fits); some = omega (arith, h.key.some); fits = omega (arith, h.key.fits, h.payload.fits); counted = omega arith }

pub pairs-are-entries : (rs : List (List ℕ × List ℕ)) → All IsPair rs → All IsEntry (map pair_entry rs)
pairs-are-entries rs each i d within =
    let l : i < length rs = omega (arith, within, length-map rs pair_entry) in
    rw (get_or-map pair_entry rs i ([], []) d l) (pair-is-entry (get_or rs i ([], [])) (each i ([], []) l))

module _ (rs : List (List ℕ × List ℕ)) (lo hi : Option (List ℕ)) (each : All IsPair rs) (list : IsLeafList rs lo hi) (h : IsMade 0 lo hi (map pair_entry rs)) (reads : ReadsAsLeaf (leaf_words rs lo hi) rs lo hi) where
  leaf : ℕ → ℕ
  leaf = node_of (leaf_words rs lo hi)

  size : length (map pair_entry rs) ≡ length rs
  size = length-map rs pair_entry

  count : (page leaf).count ≡ length rs
  unfolding leaf
  count = count-made 0 lo hi (map pair_entry rs) h ∙ size

  shows : (i : ℕ) → i < (page leaf).count → visible ((page leaf).meta i) ≡ true
  unfolding leaf
  shows i l = shows-made 0 lo hi (map pair_entry rs) h i (omega (arith, count, size))

  inside : (i : ℕ) → i < (page leaf).count → (extent_of ((page leaf).meta i)).offset + extent_words (extent_of ((page leaf).meta i)) ≤ length (leaf_words rs lo hi)
  unfolding leaf
  inside i l = omega (arith, h.front.size, (inside-made 0 lo hi (map pair_entry rs) h i (omega (arith, count, size))).ends)

  metas : metas_in (leaf_words rs lo hi) ≡ map (page leaf).meta (range_with_len 0 (page leaf).count)
  unfolding leaf
  metas = metas-range (leaf_words rs lo hi) h.front.size h.readable.room h.readable.metas

  shown-records : records (page leaf) ≡ rs
  unfolding leaf
  shown-records = sym (records-range (leaf_words rs lo hi) (page leaf).meta (page leaf).count (λ i l v. inside i l)) ∙ ap (flat_map (shown (leaf_words rs lo hi))) (sym metas) ∙ reads.records

  key-is : (i : ℕ) → i < (page leaf).count → key_at (page leaf) i ≡ get_or (keys_of rs) i []
  key-is i l =
      let one : get_or (records (page leaf)) i ([], []) ≡ (key_at (page leaf) i, payload_in leaf (extent_of ((page leaf).meta i))) =
      ap (λ (xs : List (List ℕ × List ℕ)). get_or xs i ([], [])) (all-shown leaf (page leaf).meta (page leaf).count shows)
      ∙ get_or-map-range_with_len (λ k. (key_in leaf (extent_of ((page leaf).meta k)), payload_in leaf (extent_of ((page leaf).meta k)))) 0 (page leaf).count i i ([], []) l (omega arith) in
      let other : get_or (keys_of rs) i [] ≡ (get_or rs i ([], [])).0 = get_or-map (λ (x : List ℕ × List ℕ). x.0) rs i ([], []) [] (omega (arith, count)) in
      sym (ap (λ (x : List ℕ × List ℕ). x.0) one) ∙ ap (λ (xs : List (List ℕ × List ℕ)). (get_or xs i ([], [])).0) shown-records ∙ sym other

  rises : (i j : ℕ) → i < j → j < (page leaf).count → is_before (key_at (page leaf) i) (key_at (page leaf) j) ≡ true
  rises i j less lj = rw (key-is i (omega arith), key-is j lj) (before-test (get_or (keys_of rs) i []) (get_or (keys_of rs) j []) (list.rising i j less (omega (arith, count, length-map rs (λ (x : List ℕ × List ℕ). x.0)))))

  lengths : (i : ℕ) → i < (page leaf).count → IsLeafRecord ((page leaf).meta i)
  unfolding leaf
  lengths i l =
      let li : i < length (map pair_entry rs) = omega (arith, count, size) in
      let lr : i < length rs = omega (arith, count) in
      let d : Entry = record { key = 0; total = 0; words = [] } in
      let s = lengths-made 0 lo hi (map pair_entry rs) h i d li in
      let e : get_or (map pair_entry rs) i d ≡ pair_entry (get_or rs i ([], [])) = get_or-map pair_entry rs i ([], []) d lr in
      let p = each i ([], []) lr in
      let key : (ext 0 lo hi (map pair_entry rs) i).key ≡ length (get_or rs i ([], [])).0 = s.key ∙ ap (λ (x : Entry). x.key) e in
      let total : (ext 0 lo hi (map pair_entry rs) i).total ≡ length (get_or rs i ([], [])).0 + length (get_or rs i ([], [])).1 = s.total ∙ ap (λ (x : Entry). x.total) e in
      let x : extent_of ((page leaf).meta i) ≡ ext 0 lo hi (map pair_entry rs) i = ext-made 0 lo hi (map pair_entry rs) h i li in record {
        some = rw x (omega (arith, key, p.key.some));
        short = rw x (omega (arith, key, p.key.fits));
        more = rw x (omega (arith, key, total));
        payload = rw x (omega (arith, key, total, p.payload.fits));
      }

  pair : (i : ℕ) → i < (page leaf).count → HasPair (leaf_words rs lo hi) (extent_in (leaf_words rs lo hi) i)
  unfolding leaf
  pair i l = reads.readable.pairs i (extent_in (leaf_words rs lo hi) i) l (h.places.visible i l)

  plain-key : (i : ℕ) → i < (page leaf).count → IsPlainKey leaf leaf (extent_of ((page leaf).meta i))
  unfolding leaf
  plain-key i l =
      let x : extent_of ((page leaf).meta i) ≡ ext 0 lo hi (map pair_entry rs) i = ext-made 0 lo hi (map pair_entry rs) h i (omega (arith, count, size)) in
      let b : (ext 0 lo hi (map pair_entry rs) i).offset + extent_words (ext 0 lo hi (map pair_entry rs) i) ≤ length (leaf_words rs lo hi) = rw x at (inside i l) in record {
        stands = refl;
        packs = rw (x, part-at (leaf_words rs lo hi) (ext 0 lo hi (map pair_entry rs) i).offset (packed_len (ext 0 lo hi (map pair_entry rs) i).key) (omega arith)) (pair i l).key;
      }

  plain-payload : (i : ℕ) → i < (page leaf).count → IsPlainPayload leaf leaf (extent_of ((page leaf).meta i))
  unfolding leaf
  plain-payload i l =
      let x : extent_of ((page leaf).meta i) ≡ ext 0 lo hi (map pair_entry rs) i = ext-made 0 lo hi (map pair_entry rs) h i (omega (arith, count, size)) in
      let b : (ext 0 lo hi (map pair_entry rs) i).offset + extent_words (ext 0 lo hi (map pair_entry rs) i) ≤ length (leaf_words rs lo hi) = rw x at (inside i l) in record {
        stands = refl;
        packs = rw (x, part-at (leaf_words rs lo hi) (payload_at (ext 0 lo hi (map pair_entry rs) i)) (packed_len (payload_len (ext 0 lo hi (map pair_entry rs) i))) (omega arith)) (pair i l).payload;
      }

  range : (i : ℕ) → i < (page leaf).count → is_within (key_at (page leaf) i) lo hi ≡ true
  range i l =
      let within : i < length (keys_of rs) = omega (arith, count, length-map rs (λ (x : List ℕ × List ℕ). x.0)) in
      rw (key-is i l) (rw (at-least-test (get_or (keys_of rs) i []) lo (list.from i [] within), below-test (get_or (keys_of rs) i []) hi (list.below i [] within)) refl)

  differ : (i j : ℕ) → i < (page leaf).count → j < (page leaf).count → i ≢ j → key_at (page leaf) i ≢ key_at (page leaf) j
  differ i j li lj ne same = elim (cases_lt i j) [
    | inl l ↦ is_before-other (key_at (page leaf) i) (key_at (page leaf) j) (rises i j l lj) same
    | inr g ↦ is_before-other (key_at (page leaf) j) (key_at (page leaf) i) (rises j i (omega (arith, ne)) li) (sym same)
  ]

  whole : Whole leaf (page leaf) lo hi
  unfolding leaf
  whole = let small = λ (i : ℕ) (l : i < (page leaf).count). (let x : i < length (map pair_entry rs) = omega (arith, count, size) in x) in record {
    level = level-made 0 lo hi (map pair_entry rs) h;
    fences = fences-made 0 lo hi (map pair_entry rs) h;
    filled = filled-made 0 lo hi (map pair_entry rs) h;
    used = λ i l. visible-used ((page leaf).meta i) (shows i l);
    lengths = lengths;
    inside = λ i l hl. inside-made 0 lo hi (map pair_entry rs) h i (small i l);
    apart = λ i j li lj ne holds held_too. apart-made 0 lo hi (map pair_entry rs) h i j (small i li) (small j lj) ne;
    key = λ i l v. plain-key i l;
    payload = λ i l v. plain-payload i l;
    order = λ i j less ls vi vj. rises i j less (omega (arith, sorted-made 0 lo hi (map pair_entry rs) h, count, size));
    range = λ i l v. range i l;
    distinct = λ i j li lj ne vi vj. differ i j li lj ne;
  }

  pub leaf-made : (nodes : ℕ) → IsLeafOf nodes (node_of (leaf_words rs lo hi)) rs lo hi
  unfolding leaf found_of live_of
  leaf-made nodes = record {
    none = none-whole nodes leaf leaf lo hi whole;
    shows = shown-records;
    says = λ key. sym (find-records leaf (page leaf).meta key (page leaf).count (λ i j li lj ne vi vj. differ i j li lj ne)) ∙ ap (find (slice_cmp nat_cmp) key) shown-records;
    live = sym (live-range (page leaf).meta (page leaf).count) ∙ ap (sum_by words_shown) (sym metas) ∙ reads.live;
  }

pub leaves-made : MadeLeavesAreWhole
leaves-made nodes rs lo hi each lo_ok hi_ok list fits =
    let reads = leaves_are_read rs lo hi each lo_ok hi_ok list fits in
    leaf-made rs lo hi each list (record { level = omega arith; low = lo_ok; high = hi_ok; each = pairs-are-entries rs each; fits = fits; front = reads.front; places = reads.places; readable = reads.readable.node }) reads nodes
