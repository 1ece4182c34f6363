-- An inner node made whole, read back.
use Rattle.std.specs.Prelude.{◌≡◌, ◌≢◌, ℕ, suc, ◌+◌, ◌-◌, ◌<◌, List, ◌∷◌, [], ◌++◌, length, map, get_or, All, Option, Some, None, IsSome}
use Rattle.std.proofs.Common.{arith, refl, ap, sym, ◌∙◌, subst}
use Rattle.std.proofs.lemmas.List.{length-append, append_assoc, get_or-map, length-map, get_or_at, same_lists}
use Rattle.std.proofs.lemmas.List.Elements.{All-nil, All-cons}
use Rattle.std.proofs.lemmas.List.FromFn.{length-map-range_with_len, get_or-map-range_with_len}
use Rattle.bz_key.specs.Packing.{packed, packed_len, unpacked, unpacked_key}
use Rattle.bz_key.proofs.PackingLaws.{length-packed, unpacked-packed}
use Rattle.bz_key.proofs.UnpackingLaws.{unpacked_key-complete}
use Rattle.bz_layout.specs.declared.sizes.TheConstants.{META_AT, NODE_WORDS}
use Rattle.bz_word.specs.declared.meta.Extent.{Extent}
use Rattle.bz_word.specs.declared.meta.Meta.TheVariants.{Visible}
use Rattle.bz_node.specs.declared.child.Child.{Child}
use Rattle.bz_node.specs.Layout.{IsEntry, block, bound_of}
use Rattle.bz_node.specs.Records.{child_entry, inner_words}
use Rattle.bz_node.specs.Reading.{count_in, part, key_part, payload_at, low_in, child_in, children_in, HasChild}
use Rattle.bz_node.specs.Laws.{InnerNodesAreRead}
use Rattle.bz_node.specs.Records.{IsChild, IsBound}
use Rattle.bz_node.proofs.Entries.{IsEntry-child}
use Rattle.bz_node.proofs.Unpacked.{low_in-some}
use Rattle.bz_node.proofs.MadePlaces.{extent_said, places_made}
use Rattle.bz_node.proofs.Made.{part_at, bound-fits, extents, front_made, metas_made, block_made, before_block, readable_made, count_made, meta_made, split_first, split_rest}

-- the extent of a child that begins at a place, and the child that stands there
abbrev extent_at : ℕ → Child → Extent
extent_at start c = record { offset = start; key = length (bound_of c.low); total = length (bound_of c.low) + 7 }

abbrev child_from : List ℕ → Extent → Child
child_from W e = record { low = low_in W e; slot = get_or W (payload_at e) 0 - 1 }

bound_there : (W P R : List ℕ) (c : Child) (start : ℕ) → W ≡ P ++ ((packed (bound_of c.low) ++ (c.slot + 1) ∷ []) ++ R) → length P ≡ start → key_part W (extent_at start c) ≡ packed (bound_of c.low)
bound_there W P R c start is at =
    rw (is, append_assoc (packed (bound_of c.low)) ((c.slot + 1) ∷ []) R) (part_at P (packed (bound_of c.low)) ((c.slot + 1) ∷ R) start (packed_len (length (bound_of c.low))) at (length-packed (bound_of c.low)))

slot_there : (W P R : List ℕ) (c : Child) (start : ℕ) → W ≡ P ++ ((packed (bound_of c.low) ++ (c.slot + 1) ∷ []) ++ R) → length P ≡ start → get_or W (payload_at (extent_at start c)) 0 ≡ c.slot + 1
slot_there W P R c start is at =
    let K = packed (bound_of c.low) in
    let parted : W ≡ (P ++ K) ++ ((c.slot + 1) ∷ R) = is ∙ ap (λ xs. P ++ xs) (append_assoc K ((c.slot + 1) ∷ []) R) ∙ sym (append_assoc P K ((c.slot + 1) ∷ R)) in
    ap (λ xs. get_or xs (start + packed_len (length (bound_of c.low))) 0) parted
    ∙ get_or_at (P ++ K) (c.slot + 1) R 0 (start + packed_len (length (bound_of c.low))) (omega (arith, length-append P K, length-packed (bound_of c.low)))

-- a bound read from its words
low_read : (W : List ℕ) (low : Option (List ℕ)) (start total : ℕ) → IsBound low → part W start (packed_len (length (bound_of low))) ≡ packed (bound_of low) →
    low_in W (record { offset = start; key = length (bound_of low); total = total }) ≡ low
low_read W None start total ok is = refl
low_read W (Some key) start total ok is =
    let e : Extent = record { offset = start; key = length key; total = total } in
    let other : length key ≢ 0 = λ h. omega (arith, ok.some, h) in
    low_in-some W e other ∙ ap (λ ws. Some (unpacked (length key) ws)) is ∙ ap (λ k. Some k) (unpacked-packed key ok.each)

bound_read : (low : Option (List ℕ)) (words : List ℕ) → IsBound low → words ≡ packed (bound_of low) → length (bound_of low) ≢ 0 → IsSome (unpacked_key (length (bound_of low)) words)
bound_read None words ok is other = absurd (other refl)
bound_read (Some key) words ok is other = rw (is, unpacked_key-complete key ok) refl

child_there : (W P R : List ℕ) (c : Child) (start : ℕ) → W ≡ P ++ ((packed (bound_of c.low) ++ (c.slot + 1) ∷ []) ++ R) → length P ≡ start → IsChild c → child_from W (extent_at start c) ≡ c
child_there W P R c start is at ok =
    let low = low_read W c.low start (length (bound_of c.low) + 7) ok.low (bound_there W P R c start is at) in
    let slot : get_or W (payload_at (extent_at start c)) 0 - 1 ≡ c.slot = omega (arith, slot_there W P R c start is at) in
    λ i. record { low = low i; slot = slot i }

has_there : (W P R : List ℕ) (c : Child) (start : ℕ) → length W ≡ NODE_WORDS → W ≡ P ++ ((packed (bound_of c.low) ++ (c.slot + 1) ∷ []) ++ R) → length P ≡ start → IsChild c → HasChild W (extent_at start c)
has_there W P R c start whole is at ok =
    let K = packed (bound_of c.low) in
    let slot = slot_there W P R c start is at in
    let all : length W ≡ length P + (length K + 1 + length R) =
    rw is (omega (arith, length-append P ((K ++ (c.slot + 1) ∷ []) ++ R), length-append (K ++ (c.slot + 1) ∷ []) R, length-append K ((c.slot + 1) ∷ []))) in
    record {
      inside = omega (arith, all, length-packed (bound_of c.low));
      key = bound_read c.low (key_part W (extent_at start c)) ok.low (bound_there W P R c start is at);
      pointer = omega (arith, slot);
      slot = omega (arith, slot, ok.slot);
    }

tail_each : (c : Child) (children : List Child) → All IsChild (c ∷ children) → All IsChild children
tail_each c children each k d within = each (suc k) d (omega arith)

entries_fit : (children : List Child) → All IsChild children → All IsEntry (map child_entry children)
entries_fit [] each = All-nil IsEntry
entries_fit (c ∷ children) each =
    let ok : IsChild c = each 0 c (omega arith) in
    All-cons IsEntry (child_entry c) (map child_entry children) (IsEntry-child c (bound-fits c.low ok.low)) (entries_fit children (tail_each c children each))

children_there : (children : List Child) (W A B : List ℕ) (end : ℕ) → W ≡ A ++ (block (map child_entry children) ++ B) → length A + length (block (map child_entry children)) ≡ end →
    All IsChild children → map (child_from W) (extents end (map child_entry children)) ≡ children
unfolding block extents
children_there [] W A B end is ends each = refl
children_there (c ∷ children) W A B end is ends each =
    let X = block (map child_entry children) in
    let K = packed (bound_of c.low) ++ (c.slot + 1) ∷ [] in
    let start : length (A ++ X) ≡ end - length K = omega (arith, length-append A X, length-append X K) in
    let stop : length A + length X ≡ end - length K = omega (arith, length-append X K) in
    let here = child_there W (A ++ X) B c (end - length K) (split_first W A X K B is) start (each 0 c (omega arith)) in
    let rest = children_there children W A (K ++ B) (end - length K) (split_rest W A X K B is) stop (tail_each c children each) in
    λ i. here i ∷ rest i

has_all : (children : List Child) (W A B : List ℕ) (end : ℕ) → length W ≡ NODE_WORDS → W ≡ A ++ (block (map child_entry children) ++ B) → length A + length (block (map child_entry children)) ≡ end →
    All IsChild children → All (HasChild W) (extents end (map child_entry children))
unfolding block extents
has_all [] W A B end whole is ends each = All-nil (HasChild W)
has_all (c ∷ children) W A B end whole is ends each =
    let X = block (map child_entry children) in
    let K = packed (bound_of c.low) ++ (c.slot + 1) ∷ [] in
    let start : length (A ++ X) ≡ end - length K = omega (arith, length-append A X, length-append X K) in
    let stop : length A + length X ≡ end - length K = omega (arith, length-append X K) in
    let here = has_there W (A ++ X) B c (end - length K) whole (split_first W A X K B is) start (each 0 c (omega arith)) in
    let rest = has_all children W A (K ++ B) (end - length K) whole (split_rest W A X K B is) stop (tail_each c children each) in
    All-cons (HasChild W) (extent_at (end - length K) c) (extents (end - length K) (map child_entry children)) here rest

pub inner_read : InnerNodesAreRead
inner_read children low high level each low_ok high_ok small fits =
    let es = map child_entry children in
    let W = inner_words children low high level in
    let xs = extents NODE_WORDS es in
    let A = before_block level low high es in
    let front = front_made level low high es small low_ok high_ok fits in
    let entries = entries_fit children each in
    let metas = metas_made level low high es low_ok high_ok fits entries in
    let node = readable_made level low high es low_ok high_ok fits entries in
    let parted : W ≡ A ++ (block es ++ []) = block_made level low high es in
    let ends : length A + length (block es) ≡ NODE_WORDS = omega (arith, front.size, ap length parted, length-append A (block es ++ []), length-append (block es) []) in
    let are : map (child_from W) xs ≡ children = children_there children W A [] NODE_WORDS parted ends each in
    let has = has_all children W A [] NODE_WORDS front.size parted ends each in
    let place = meta_made W xs front.size node.room metas in
    let count : count_in W ≡ length children = count_made level low high es fits ∙ length-map children child_entry in
    let none : Extent = record { offset = 0; key = 0; total = 0 } in
    let extent_is = λ (i : ℕ) (within : i < count_in W). extent_said (get_or W (META_AT + i) 0) (get_or xs i none) (place i none within).1 in
    record {
      front = front;
      places = places_made level low high es low_ok high_ok fits entries small;
      readable = record {
        node = node;
        visible = λ i within. (place i none within).1 ∙ ap (λ e. Visible e) (sym (extent_is i within));
        children = λ i within. subst (HasChild W) (sym (extent_is i within)) (has i none (place i none within).0);
      };
      children = same_lists (children_in W) children (length-map-range_with_len (child_in W) 0 (count_in W) ∙ count)
          (λ i d inside. (
          let within : i < count_in W = omega (arith, inside, length-map-range_with_len (child_in W) 0 (count_in W)) in
          get_or-map-range_with_len (child_in W) 0 (count_in W) i i d within (omega arith)
          ∙ ap (child_from W) (extent_is i within)
          ∙ sym (get_or-map (child_from W) xs i none d (place i none within).0)
          ∙ ap (λ cs. get_or cs i d) are));
    }
