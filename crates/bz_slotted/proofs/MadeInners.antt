-- An inner node made whole breaks no rule, and has the children that it was made of.
use Rattle.std.proofs.Common.{◌≡◌, ◌≢◌, ℕ, ◌+◌, ◌-◌, ◌<◌, ◌≤◌, ◌==◌, true, false, List, [], ◌∷◌, length, map, get_or, drop, arith, refl, sym, ap, ◌∙◌, inl, inr, Option}
use Rattle.std.specs.Prelude.{All, Some, None, IsSome}
use Rattle.std.proofs.lemmas.Bool.{cases_eq}
use Rattle.std.proofs.lemmas.Bool.Decides.{nat_tests}
use Rattle.std.proofs.lemmas.List.{length-append, length-map, length-drop, get_or-map, get_or-drop, get_or_default, nil_from_length}
use Rattle.std.proofs.lemmas.List.FromFn.{get_or-map-range_with_len}
use Rattle.bz_key.specs.Packing.{packed, packed_len, unpacked}
use Rattle.bz_key.proofs.PackingLaws.{length-packed, length-unpacked}
use Rattle.bz_key.specs.declared.limits.TheConstants.{KEY_BYTES}
use Rattle.bz_node.specs.Laws.{ReadsAsInner}
use Rattle.bz_node.specs.Layout.{Entry, IsEntry, bound_of}
use Rattle.bz_node.specs.Reading.{payload_at, key_part, low_in, child_in}
use Rattle.bz_node.specs.Records.{child_entry, inner_words, separators_of, IsChild, IsBound, IsAbove, IsChildList}
use Rattle.bz_node.specs.declared.child.Child.{Child}
use Rattle.bz_node.proofs.Proved.{inner_nodes_are_read}
use Rattle.bz_tree.specs.Order.{is_before, is_above}
use Rattle.bz_word.specs.declared.meta.Extent.{Extent}
use Rattle.bz_slotted.specs.Page.{words_at, extent_of, page}
use Rattle.bz_slotted.specs.Readers.{count_of, child_of, key_of}
use Rattle.bz_slotted.specs.ReadingLaws.{node_of, IsInnerOf, MadeInnersAreWhole}
use Rattle.bz_slotted.specs.Records.{key_at, pointer_at}
use Rattle.bz_slotted.specs.Whole.{IsInnerRecord, IsPlainKey, IsPointer, WholeInner}
use Rattle.bz_slotted.proofs.Faults.{none-inner-whole}
use Rattle.bz_slotted.proofs.Honest.{lt-t}
use Rattle.bz_slotted.proofs.KeyFacts.{nil-before}
use Rattle.bz_slotted.proofs.Lists.{part-at}
use Rattle.bz_slotted.proofs.MadeLeaves.{before-test, below-test}
use Rattle.bz_slotted.proofs.MadePages.{IsMade, ext, count-made, level-made, fences-made, shows-made, ext-made, lengths-made, filled-made, inside-made, apart-made, sorted-made, dead-made, thawed-made}
use Rattle.bz_slotted.proofs.MadeWords.{bound-short}

above-test : (key : List ℕ) (lo : Option (List ℕ)) → IsAbove lo key → is_above key lo ≡ true
above-test key None h = refl
above-test key (Some low) h = before-test low key h

child-is-entry : (c : Child) → IsChild c → IsEntry (child_entry c)
child-is-entry c h =
    let k = length-packed (bound_of c.low) in
    let n = length-append (packed (bound_of c.low)) ((c.slot + 1) ∷ []) in
    let s = bound-short c.low h.low in
    record { key = omega arith; total = omega arith; some = omega arith; fits = omega arith; counted = omega arith }

none : Child
none = record { low = None; slot = 0 }

children-are-entries : (cs : List Child) → All IsChild cs → All IsEntry (map child_entry cs)
children-are-entries cs each i d within =
    let l : i < length cs = omega (arith, within, length-map cs child_entry) in
    rw (get_or-map child_entry cs i none d l) (child-is-entry (get_or cs i none) (each i none l))

-- a bound that is there is a key
bound-there : (bound : Option (List ℕ)) → IsBound bound → IsSome bound → (0 < length (bound_of bound)) × (bound ≡ Some (bound_of bound))
bound-there None h some = absurd (cc)
bound-there (Some key) h some = (h.some, refl)

module _ (cs : List Child) (l : ℕ) (lo hi : Option (List ℕ)) (nodes : ℕ) (each : All IsChild cs) (list : IsChildList cs lo hi) (slots : (i : ℕ) (d : Child) → i < length cs → (get_or cs i d).slot < nodes)
    (h : IsMade l lo hi (map child_entry cs)) (reads : ReadsAsInner (inner_words cs lo hi l) cs lo hi l) where
  inner : ℕ → ℕ
  inner = node_of (inner_words cs lo hi l)

  size : length (map child_entry cs) ≡ length cs
  size = length-map cs child_entry

  count : (page inner).count ≡ length cs
  unfolding inner
  count = count-made l lo hi (map child_entry cs) h ∙ size

  small : (i : ℕ) → i < (page inner).count → i < length (map child_entry cs)
  small i li = omega (arith, count, size)

  at : ℕ → Child
  at i = get_or cs i none

  e : ℕ → Extent
  e i = ext l lo hi (map child_entry cs) i

  ext-is : (i : ℕ) → i < (page inner).count → extent_of ((page inner).meta i) ≡ e i
  unfolding inner e
  ext-is i li = ext-made l lo hi (map child_entry cs) h i (small i li)

  -- the lengths of a record are those of its child
  lengths-are : (i : ℕ) → i < (page inner).count → ((e i).key ≡ length (bound_of (at i).low)) × ((e i).total ≡ length (bound_of (at i).low) + 7)
  unfolding inner e at
  lengths-are i li =
      let d : Entry = record { key = 0; total = 0; words = [] } in
      let s = lengths-made l lo hi (map child_entry cs) h i d (small i li) in
      let m : get_or (map child_entry cs) i d ≡ child_entry (get_or cs i none) = get_or-map child_entry cs i none d (omega (arith, count)) in
      (s.key ∙ ap (λ (x : Entry). x.key) m, s.total ∙ ap (λ (x : Entry). x.total) m)

  first-none : (i : ℕ) → i < (page inner).count → i ≡ 0 → (e i).key ≡ 0
  unfolding at
  first-none i li is = (lengths-are i li).0 ∙ ap (λ b. length (bound_of b)) (list.first i none (omega (arith, count)) (omega (arith, is)))

  later-some : (i : ℕ) → i < (page inner).count → 0 < i → (0 < length (bound_of (at i).low)) × ((at i).low ≡ Some (bound_of (at i).low))
  unfolding at
  later-some i li pos = let inside : i < length cs = omega (arith, count) in bound-there (get_or cs i none).low (each i none inside).low (list.others i none inside pos)

  short : (i : ℕ) → i < (page inner).count → length (bound_of (at i).low) ≤ KEY_BYTES
  unfolding at
  short i li = bound-short (get_or cs i none).low (each i none (omega (arith, count))).low

  lengths : (i : ℕ) → i < (page inner).count → IsInnerRecord i ((page inner).meta i)
  lengths i li = let s = lengths-are i li in record {
    pointer = rw (ext-is i li) (omega (arith, s));
    first = λ is. rw (ext-is i li) (first-none i li is);
    some = λ pos. rw (ext-is i li) (omega (arith, s.0, (later-some i li pos).0));
    short = rw (ext-is i li) (omega (arith, s.0, short i li));
  }

  -- the child that is read is the one that was written
  child-is : (i : ℕ) → i < (page inner).count → child_in (inner_words cs lo hi l) i ≡ at i
  unfolding inner at
  child-is i li =
      sym (get_or-map-range_with_len (child_in (inner_words cs lo hi l)) 0 (page inner).count i i none li (omega arith))
      ∙ ap (λ (xs : List Child). get_or xs i none) reads.children

  low-is : (i : ℕ) → i < (page inner).count → low_in (inner_words cs lo hi l) (e i) ≡ (at i).low
  unfolding e
  low-is i li = ap (λ (c : Child). c.low) (child-is i li)

  key-words : (i : ℕ) → i < (page inner).count → words_at inner (e i).offset (packed_len (e i).key) ≡ key_part (inner_words cs lo hi l) (e i)
  unfolding inner e
  key-words i li = part-at (inner_words cs lo hi l) (e i).offset (packed_len (e i).key) (omega (arith, h.front.size, h.places.ends i li))

  nil : (k : ℕ) (ws : List ℕ) → k ≡ 0 → unpacked k ws ≡ []
  nil k ws is = nil_from_length (unpacked k ws) (length-unpacked k ws ∙ is)

  key-is : (i : ℕ) → i < (page inner).count → key_at (page inner) i ≡ bound_of (at i).low
  key-is i li = rw (ext-is i li, key-words i li) (elim (cases_eq i 0) [
    | inl is ↦ nil (e i).key (key_part (inner_words cs lo hi l) (e i)) (first-none i li is) ∙ sym (nil_from_length (bound_of (at i).low) (sym (lengths-are i li).0 ∙ first-none i li is))
    | inr ne ↦ let pos : 0 < i = omega (arith, ne) in let there = later-some i li pos in
        let low : low_in (inner_words cs lo hi l) (e i) ≡ (at i).low = low-is i li in
        let there_too : ((e i).key == 0) ≡ false = positive (e i).key (omega (arith, (lengths-are i li).0, there.0)) in
        let both : Some (unpacked (e i).key (key_part (inner_words cs lo hi l) (e i))) ≡ Some (bound_of (at i).low) = (rw there_too at low) ∙ there.1 in cc
  ])
    where
      positive : (k : ℕ) → 0 < k → (k == 0) ≡ false
      positive k p = grind (arith, nat_tests)

  sep-at : (i : ℕ) → 1 + i < length cs → get_or (separators_of cs) i [] ≡ bound_of (at (1 + i)).low
  unfolding at
  sep-at i li = get_or-map (λ (c : Child). bound_of c.low) (drop 1 cs) i none [] (omega (arith, length-drop 1 cs)) ∙ ap (λ (c : Child). bound_of c.low) (get_or-drop 1 cs i none)

  length-separators : length (separators_of cs) ≡ length cs - 1
  length-separators = omega (arith, length-map (drop 1 cs) (λ (c : Child). bound_of c.low), length-drop 1 cs)

  later-sep : (i : ℕ) → 0 < i → i < (page inner).count → key_at (page inner) i ≡ get_or (separators_of cs) (i - 1) []
  later-sep i pos li = let back : 1 + (i - 1) ≡ i = omega arith in key-is i li ∙ sym (sep-at (i - 1) (omega (arith, count)) ∙ ap (λ k. bound_of (at k).low) back)

  rises : (i j : ℕ) → i < j → j < (page inner).count → is_before (key_at (page inner) i) (key_at (page inner) j) ≡ true
  rises i j less lj = elim (cases_eq i 0) [
    | inl is ↦ let li : i < (page inner).count = omega arith in
        let empty : key_at (page inner) i ≡ [] = key-is i li ∙ nil_from_length (bound_of (at i).low) (sym (lengths-are i li).0 ∙ first-none i li is) in
        rw (empty, key-is j lj) (nil-before (bound_of (at j).low) (later-some j lj (omega arith)).0)
    | inr ne ↦ rw (later-sep i (omega (arith, ne)) (omega arith), later-sep j (omega arith) lj) (before-test (get_or (separators_of cs) (i - 1) []) (get_or (separators_of cs) (j - 1) []) (list.rising (i - 1) (j - 1) (omega (arith, ne)) (omega (arith, length-separators, count))))
  ]

  plain-key : (i : ℕ) → 0 < i → i < (page inner).count → IsPlainKey inner inner (extent_of ((page inner).meta i))
  unfolding inner e
  plain-key i pos li =
      let some : (e i).key ≢ 0 = (λ is. absurd (omega (arith, is, (lengths-are i li).0, (later-some i li pos).0))) in record {
        stands = refl;
        packs = rw (ext-is i li, key-words i li) ((reads.readable.children i li).key some);
      }

  link : (i : ℕ) → i < (page inner).count → IsPointer nodes (inner (pointer_at (page inner) i))
  unfolding inner e at
  link i li =
      let some : 1 ≤ inner (payload_at (e i)) = (reads.readable.children i li).pointer in
      let slot : inner (payload_at (e i)) - 1 ≡ (at i).slot = ap (λ (c : Child). c.slot) (child-is i li) in
      let few : (at i).slot < nodes = slots i none (omega (arith, count)) in
      record { some = rw (ext-is i li) some; slot = rw (ext-is i li) (omega (arith, some, slot, few)) }

  whole : WholeInner nodes inner (page inner) l lo hi
  unfolding inner
  whole = record {
    level = level-made l lo hi (map child_entry cs) h;
    fences = fences-made l lo hi (map child_entry cs) h;
    filled = filled-made l lo hi (map child_entry cs) h;
    settled = record { thawed = thawed-made l lo hi (map child_entry cs) h; some = omega (arith, list.some, count); none_dead = dead-made l lo hi (map child_entry cs) h; all_sorted = omega (arith, sorted-made l lo hi (map child_entry cs) h, count, size) };
    shows = λ i li. shows-made l lo hi (map child_entry cs) h i (small i li);
    lengths = lengths;
    inside = λ i li. inside-made l lo hi (map child_entry cs) h i (small i li);
    apart = λ i j li lj ne. apart-made l lo hi (map child_entry cs) h i j (small i li) (small j lj) ne;
    key = plain-key;
    rise = rises;
    above = λ i pos li. rw (later-sep i pos li) (above-test (get_or (separators_of cs) (i - 1) []) lo (list.above (i - 1) [] (omega (arith, length-separators, count))));
    below = λ i pos li. rw (later-sep i pos li) (below-test (get_or (separators_of cs) (i - 1) []) hi (list.below (i - 1) [] (omega (arith, length-separators, count))));
    links = link;
  }

  any-default : (i : ℕ) (d : Child) → i < length cs → get_or cs i d ≡ at i
  unfolding at
  any-default i d li = get_or_default cs i d none li

  pub inner-made : 0 < l → IsInnerOf nodes (node_of (inner_words cs lo hi l)) cs l lo hi
  unfolding inner count_of child_of key_of e
  inner-made pos = record {
    none = none-inner-whole nodes inner inner l lo hi pos whole;
    count = count;
    child = λ i d li. let within : i < (page inner).count = omega (arith, count) in
        rw (lt-t i (page inner).count within, ext-is i within, any-default i d li) (ap (λ (c : Child). c.slot) (child-is i within));
    key = λ i d li. let within : i < (page inner).count = omega (arith, count) in rw (lt-t i (page inner).count within, any-default i d li) (key-is i within);
  }

pub inners-made : MadeInnersAreWhole
inners-made nodes cs l lo hi each lo_ok hi_ok list slots pos low_level fits =
    let reads = inner_nodes_are_read cs lo hi l each lo_ok hi_ok (omega arith) fits in
    inner-made cs l lo hi nodes each list slots (record { level = low_level; low = lo_ok; high = hi_ok; each = children-are-entries cs each; fits = fits; front = reads.front; places = reads.places; readable = reads.readable.node }) reads pos
