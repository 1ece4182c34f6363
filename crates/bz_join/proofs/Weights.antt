-- The words that the children of an inner node need are those that it has; with one child fewer they need no more.
use Rattle.std.proofs.Common.{◌≡◌, ℕ, zero, suc, ◌+◌, ◌<◌, ◌≤◌, ◌==◌, true, false, List, [], ◌∷◌, ◌++◌, length, map, arith, refl, sym, ap, subst, ◌∙◌, inl, inr, Option}
use Rattle.std.specs.Prelude.{slice_set}
use Rattle.std.specs.List.{remove, range_with_len}
use Rattle.std.proofs.lemmas.Bool.{cases_eq}
use Rattle.std.proofs.lemmas.Bool.Decides.{nat_tests}
use Rattle.std.proofs.lemmas.List.{length-append, map-append}
use Rattle.std.proofs.lemmas.List.FromFn.{map-range_with_len_more}
use Rattle.bz_key.specs.Packing.{packed, packed_len}
use Rattle.bz_key.proofs.PackingLaws.{length-packed, length-unpacked}
use Rattle.bz_layout.specs.declared.sizes.TheConstants.{SHARED_WORDS}
use Rattle.bz_node.specs.Layout.{block, bound_of, needed}
use Rattle.bz_node.specs.Reading.{payload_len}
use Rattle.bz_node.specs.Records.{child_entry}
use Rattle.bz_node.specs.declared.child.Child.{Child}
use Rattle.bz_node.proofs.Parts.{needed-append}
use Rattle.bz_slotted.specs.Page.{extent_of, page}
use Rattle.bz_slotted.specs.Readers.{key_of}
use Rattle.bz_slotted.specs.ReadingLaws.{node_of, child_read}
use Rattle.bz_slotted.specs.Records.{key_words, weight, shown, live_block}
use Rattle.bz_slotted.specs.Whole.{WholeInner}
use Rattle.bz_slotted.proofs.Honest.{lt-t}
use Rattle.bz_halves.specs.Parents.{child_at}

pub needed-remove : (cs : List Child) (i : ℕ) → needed (map child_entry (remove cs i)) ≤ needed (map child_entry cs)
unfolding block
needed-remove [] zero = omega arith
needed-remove [] (suc i) = omega arith
needed-remove (d ∷ cs) zero = omega (arith, length-append (block (map child_entry cs)) (child_entry d).words)
needed-remove (d ∷ cs) (suc i) = omega (arith, needed-remove cs i, length-append (block (map child_entry (remove cs i))) (child_entry d).words, length-append (block (map child_entry cs)) (child_entry d).words)

pub needed-set : (cs : List Child) (i : ℕ) (c : Child) → i < length cs → length (child_entry c).words ≡ length (child_entry (child_at cs i)).words → needed (map child_entry (slice_set cs i c)) ≡ needed (map child_entry cs)
unfolding block
needed-set [] i c l e = absurd (omega (arith, l))
needed-set (d ∷ cs) zero c l e = omega (arith, e, length-append (block (map child_entry cs)) (child_entry c).words, length-append (block (map child_entry cs)) (child_entry d).words)
needed-set (d ∷ cs) (suc i) c l e = omega (arith, needed-set cs i c (omega (arith, l)) e, length-append (block (map child_entry (slice_set cs i c))) (child_entry d).words, length-append (block (map child_entry cs)) (child_entry d).words)

one : (n : ℕ) → n + 1 ≡ suc n
one n = omega arith

module _ (nodes : ℕ) (raw : ℕ → ℕ) (words : List ℕ) (level : ℕ) (low high : Option (List ℕ)) (w : WholeInner nodes raw (page (node_of words)) level low high) where
  abbrev n : ℕ → ℕ
  n = node_of words

  -- so many bytes has the lower bound of a child
  bound-length : (j : ℕ) → j < (page n).count → length (bound_of (child_read n j).low) ≡ (extent_of ((page n).meta j)).key
  unfolding key_of
  bound-length j l = elim (cases_eq j 0) [
    | inl e ↦ (let t : (j == 0) ≡ true = grind (arith, nat_tests) in rw t (sym ((w.lengths j l).first e)))
    | inr ne ↦ (let t : (j == 0) ≡ false = grind (arith, nat_tests) in rw (t, lt-t j (page n).count l) (length-unpacked (extent_of ((page n).meta j)).key (key_words n (extent_of ((page n).meta j)))))
  ]

  -- a child takes the words of its record
  child-words : (j : ℕ) → j < (page n).count → length (child_entry (child_read n j)).words ≡ weight ((page n).meta j)
  child-words j l =
      let rest : payload_len (extent_of ((page n).meta j)) ≡ 7 = omega (arith, (w.lengths j l).pointer) in
      omega (arith, length-append (packed (bound_of (child_read n j).low)) (((child_read n j).slot + 1) ∷ []), length-packed (bound_of (child_read n j).low), ap packed_len (bound-length j l), ap packed_len rest)

  shown-words : (j : ℕ) → j < (page n).count → shown ((page n).meta j) ≡ weight ((page n).meta j)
  shown-words j l = rw (w.shows j l) refl

  -- those of the first children
  needed-to : (k : ℕ) → k ≤ (page n).count → needed (map child_entry (map (child_read n) (range_with_len 0 k))) ≡ k + live_block (page n).meta k
  unfolding live_block block
  needed-to zero l = refl
  needed-to (suc k) l =
      let more : map (child_read n) (range_with_len 0 (suc k)) ≡ map (child_read n) (range_with_len 0 k) ++ child_read n k ∷ [] = subst (λ z. map (child_read n) (range_with_len 0 z) ≡ map (child_read n) (range_with_len 0 k) ++ child_read n k ∷ []) (one k) (map-range_with_len_more (child_read n) 0 k k (omega arith)) in
      let both : needed (map child_entry (map (child_read n) (range_with_len 0 (suc k)))) ≡ needed (map child_entry (map (child_read n) (range_with_len 0 k))) + needed (child_entry (child_read n k) ∷ []) =
      ap (λ z. needed (map child_entry z)) more ∙ (ap needed (map-append child_entry (map (child_read n) (range_with_len 0 k)) (child_read n k ∷ [])) ∙ needed-append (map child_entry (map (child_read n) (range_with_len 0 k))) (child_entry (child_read n k) ∷ [])) in
      omega (arith, both, needed-to k (omega (arith, l)), child-words k (omega (arith, l)), shown-words k (omega (arith, l)))

  pub all-needed : needed (map child_entry (map (child_read n) (range_with_len 0 (page n).count))) ≤ SHARED_WORDS
  all-needed = omega (arith, needed-to (page n).count (omega arith), w.filled.dead, w.filled.room)
