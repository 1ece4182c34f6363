-- A list of words as a node: its parts, its metadata words, and how many words its visible records take.
use Rattle.std.proofs.Common.{◌≡◌, ℕ, zero, suc, ◌+◌, ◌-◌, ◌<◌, ◌≤◌, if◌then◌else◌, Bool, true, false, List, length, map, take, drop, arith, refl, sym, ap, ◌∙◌}
use Rattle.std.specs.List.{range_with_len, sum_by}
use Rattle.std.proofs.lemmas.Bool.{true≢false}
use Rattle.std.proofs.lemmas.Bool.Decides.{nat_tests}
use Rattle.std.proofs.lemmas.List.{ext_get_or, get_or-take, get_or-drop, length-take, length-drop, length-map, get_or-map}
use Rattle.std.proofs.lemmas.List.FromFn.{length-map-range_with_len, get_or-map-range_with_len, fill_by_all, sum_by-map-range_with_len_more}
use Rattle.bz_layout.specs.declared.sizes.TheConstants.{NODE_WORDS, META_AT, SHARED_WORDS}
use Rattle.bz_node.specs.Reading.{count_in, metas_in, part, words_shown}
use Rattle.bz_word.specs.Metas.{meta, IsMetaWord}
use Rattle.bz_word.specs.declared.meta.Meta.{Meta}
use Rattle.bz_word.specs.declared.meta.Meta.TheVariants.{Unused, Reserved, Visible, Deleted}
use Rattle.bz_slotted.specs.Page.{words_at, is_meta_word, meta_of, visible, used, extent_of, page}
use Rattle.bz_slotted.specs.ReadingLaws.{node_of}
use Rattle.bz_slotted.specs.Records.{weight, live_to}

-- a part of a list
pub part-at : (words : List ℕ) (at count : ℕ) → at + count ≤ length words → words_at (node_of words) at count ≡ part words at count
unfolding words_at
part-at words at count within =
    let width : at + count - at ≡ count = omega arith in
    rw width (ext_get_or 0 (map (node_of words) (range_with_len at count)) (take count (drop at words))
    (omega (arith, length-map-range_with_len (node_of words) at count, length-take count (drop at words), length-drop at words))
    (λ i l. let short : i < count = omega (arith, length-map-range_with_len (node_of words) at count) in
    get_or-map-range_with_len (node_of words) at count i (at + i) 0 short refl ∙ sym (get_or-take count (drop at words) i 0 short ∙ get_or-drop at words i 0)))

-- a word that unpacks says what it unpacks to, and one that says something unpacks
pub meta-unpacks : (x : ℕ) → IsMetaWord x → meta_of x ≡ meta x
unfolding meta_of
meta-unpacks x h = let t : is_meta_word x ≡ true = grind (arith, nat_tests, h.control, h.lengths, h.offset) in rw t refl

pub used-unpacks : (x : ℕ) → used (meta_of x) ≡ true → IsMetaWord x
unfolding meta_of used
used-unpacks x h = go (is_meta_word x) refl h
  where
    lawful : is_meta_word x ≡ true → IsMetaWord x
    lawful t = record { control = grind (arith, nat_tests); lengths = grind (arith, nat_tests); offset = λ v. grind (arith, nat_tests) }

    go : (b : Bool) → is_meta_word x ≡ b → used (if b then meta x else Unused) ≡ true → IsMetaWord x
    go true t u = lawful t
    go false t u = absurd (true≢false (sym u))

pub visible-used : (m : Meta) → visible m ≡ true → used m ≡ true
unfolding visible used
visible-used Unused h = absurd (true≢false (sym h))
visible-used (Reserved e) h = refl
visible-used (Visible e) h = refl
visible-used (Deleted k t) h = refl

pub visible-is : (m : Meta) → visible m ≡ true → m ≡ Visible (extent_of m)
unfolding visible extent_of
visible-is Unused h = absurd (true≢false (sym h))
visible-is (Reserved e) h = absurd (true≢false (sym h))
visible-is (Visible e) h = refl
visible-is (Deleted k t) h = absurd (true≢false (sym h))

-- the metadata words in use, as a list made from the function
pub metas-range : (words : List ℕ) → length words ≡ NODE_WORDS → count_in words ≤ SHARED_WORDS → ((i : ℕ) → i < count_in words → IsMetaWord (node_of words (META_AT + i))) →
    metas_in words ≡ map (page (node_of words)).meta (range_with_len 0 (count_in words))
metas-range words whole room each =
    let inner : length (take (count_in words) (drop META_AT words)) ≡ count_in words = omega (arith, length-take (count_in words) (drop META_AT words), length-drop META_AT words) in
    fill_by_all (page (node_of words)).meta (metas_in words) (count_in words) Unused (length-map (take (count_in words) (drop META_AT words)) meta ∙ inner)
    (λ k l. get_or-map meta (take (count_in words) (drop META_AT words)) k 0 Unused (omega arith)
    ∙ ap meta (get_or-take (count_in words) (drop META_AT words) k 0 l ∙ get_or-drop META_AT words k 0)
    ∙ sym (meta-unpacks (node_of words (META_AT + k)) (each k l)))

words-shown : (m : Meta) → words_shown m ≡ if visible m then 1 + weight m else 0
unfolding visible extent_of
words-shown Unused = refl
words-shown (Reserved e) = refl
words-shown (Visible e) = refl
words-shown (Deleted k t) = refl

-- the words that the first records show
pub live-range : (meta : ℕ → Meta) (n : ℕ) → sum_by words_shown (map meta (range_with_len 0 n)) ≡ live_to meta n
unfolding live_to
live-range meta zero = refl
live-range meta (suc n) = ap (λ k. sum_by words_shown (map meta (range_with_len 0 k))) (one n) ∙ sum_by-map-range_with_len_more words_shown meta 0 n n (omega arith) ∙ rw (live-range meta n, words-shown (meta n)) refl
  where
    one : (k : ℕ) → suc k ≡ k + 1
    one k = omega arith
