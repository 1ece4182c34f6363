-- The visible records of a leaf, one metadata word after the other.
use Rattle.std.specs.Prelude.{◌≡◌, ◌≢◌, ℕ, zero, suc, ◌+◌, ◌*◌, ◌<◌, ◌≤◌, List, ◌∷◌, [], ◌++◌, length, take, All}
use Rattle.std.specs.List.{sum_by, flat_map}
use Rattle.std.specs.List.Sorted.{IsPermutation}
use Rattle.std.proofs.Common.{arith, refl, ap, add-one, subst}
use Rattle.std.proofs.lemmas.List.{map-append, take_more, take_all, append-nil, length-append}
use Rattle.std.proofs.lemmas.List.Elements.{All-nil, All-cons, All-append}
use Rattle.std.proofs.lemmas.List.Sums.{sum_by-take-le}
use Rattle.std.proofs.lemmas.List.Sorted.{IsPermutation-map, All-permutation, length_permutation, IsPermutation-push_more}
use Rattle.std.proofs.lemmas.Grind.{flat_map-append}
use Rattle.bz_key.specs.declared.limits.TheConstants.{PAGE_PAIRS}
use Rattle.bz_layout.specs.declared.sizes.TheConstants.{NODE_WORDS, SHARED_WORDS}
use Rattle.bz_word.specs.declared.meta.Extent.{Extent}
use Rattle.bz_word.specs.declared.meta.Meta.{Meta}
use Rattle.bz_word.specs.declared.meta.Meta.TheVariants.{Unused, Reserved, Visible, Deleted}
use Rattle.bz_node.specs.Records.{keys_of}
use Rattle.bz_node.specs.Reading.{count_in, meta_in, metas_in, shown, pair_in, words_shown, HasPair, IsReadableLeaf}
use Rattle.bz_node.proofs.ReadWords.{length-metas_in, get_or-metas_in, live_more}
use Rattle.bz_node.proofs.Unpacked.{unpacked_key-long}

-- those of the first metadata words, so many
abbrev pub pairs_to : List ℕ → ℕ → List (List ℕ × List ℕ)
pairs_to words i = flat_map (shown words) (take i (metas_in words))

pub pairs_more : (words : List ℕ) (i : ℕ) → length words ≡ NODE_WORDS → count_in words ≤ SHARED_WORDS → i < count_in words → pairs_to words (i + 1) ≡ pairs_to words i ++ shown words (meta_in words i)
pairs_more words i whole room below =
    let long = length-metas_in words whole room in
    let more = take_more (metas_in words) i Unused (omega (arith, long)) in
    let here = get_or-metas_in words i Unused whole room below in
    rw (more, here, flat_map-append (shown words) (take i (metas_in words)) (meta_in words i ∷ [])) (ap (λ r. pairs_to words i ++ r) (append-nil (shown words (meta_in words i))))

-- what holds of the key of each visible record
shown_keys : (words : List ℕ) (m : Meta) (key : List ℕ) → ((f : Extent) → m ≡ Visible f → (pair_in words f).0 ≢ key) → All (λ k. k ≢ key) (keys_of (shown words m))
shown_keys words (Visible f) key other = All-cons (λ k. k ≢ key) (pair_in words f).0 [] (other f refl) (All-nil (λ k. k ≢ key))
shown_keys words Unused key other = All-nil (λ k. k ≢ key)
shown_keys words (Reserved f) key other = All-nil (λ k. k ≢ key)
shown_keys words (Deleted a b) key other = All-nil (λ k. k ≢ key)

pub keys_differ : (words : List ℕ) (i : ℕ) (e : Extent) → length words ≡ NODE_WORDS → IsReadableLeaf words → i < count_in words → meta_in words i ≡ Visible e →
    (n : ℕ) → n ≤ i → All (λ k. k ≢ (pair_in words e).0) (keys_of (pairs_to words n))
keys_differ words i e whole leaf below is zero h = All-nil (λ k. k ≢ (pair_in words e).0)
keys_differ words i e whole leaf below is (suc n) h =
    let before = keys_differ words i e whole leaf below is n (omega arith) in
    let here = shown_keys words (meta_in words n) (pair_in words e).0 (λ f at. leaf.distinct n i f e (omega arith) below at is) in
    let more = pairs_more words n whole leaf.node.room (omega arith) in
    let key = (pair_in words e).0 in
    let joined : All (λ k. k ≢ key) (keys_of (pairs_to words (n + 1))) =
    rw (more, map-append (λ (r : List ℕ × List ℕ). r.0) (pairs_to words n) (shown words (meta_in words n))) (All-append (λ k. k ≢ key) (keys_of (pairs_to words n)) (keys_of (shown words (meta_in words n))) before here) in
    let P : ℕ → Type 0 = λ m. All (λ k. k ≢ key) (keys_of (pairs_to words m)) in
    subst P (add-one n) joined

-- a visible record takes at least two words
shown_words : (words : List ℕ) (m : Meta) → ((f : Extent) → m ≡ Visible f → HasPair words f) → 2 * length (shown words m) ≤ words_shown m
shown_words words (Visible f) has = (let some = unpacked_key-long f.key _ (has f refl).key in omega arith)
shown_words words Unused has = omega arith
shown_words words (Reserved f) has = omega arith
shown_words words (Deleted a b) has = omega arith

pub two_each : (words : List ℕ) → length words ≡ NODE_WORDS → IsReadableLeaf words → (n : ℕ) → n ≤ count_in words → 2 * length (pairs_to words n) ≤ sum_by words_shown (take n (metas_in words))
two_each words whole leaf zero h = omega arith
two_each words whole leaf (suc n) h =
    let before = two_each words whole leaf n (omega arith) in
    let here = shown_words words (meta_in words n) (λ f at. leaf.pairs n f (omega arith) at) in
    let more = pairs_more words n whole leaf.node.room (omega arith) in
    let live = live_more words n whole leaf.node.room (omega arith) in
    let joined : 2 * length (pairs_to words (n + 1)) ≤ sum_by words_shown (take (n + 1) (metas_in words)) =
    rw (more, live) (omega (arith, length-append (pairs_to words n) (shown words (meta_in words n)))) in
    let P : ℕ → Type 0 = λ m. 2 * length (pairs_to words m) ≤ sum_by words_shown (take m (metas_in words)) in
    subst P (add-one n) joined

-- there is room for one more
pub room_for : (words : List ℕ) (i : ℕ) (e : Extent) (out : List (List ℕ × List ℕ)) → length words ≡ NODE_WORDS → IsReadableLeaf words → i < count_in words → meta_in words i ≡ Visible e →
    IsPermutation (pairs_to words i) out → length out < PAGE_PAIRS
room_for words i e out whole leaf below is same =
    let two = two_each words whole leaf (i + 1) (omega arith) in
    let more = pairs_more words i whole leaf.node.room below in
    let one : shown words (meta_in words i) ≡ pair_in words e ∷ [] = ap (shown words) is in
    let long : length (pairs_to words (i + 1)) ≡ length (pairs_to words i) + 1 = rw (more, one) (omega (arith, length-append (pairs_to words i) (pair_in words e ∷ []))) in
    omega (arith, two, long, length_permutation (pairs_to words i) out same, sum_by-take-le words_shown (metas_in words) (i + 1), leaf.live)

-- no pair has the next one's key
pub key_new : (words : List ℕ) (i : ℕ) (e : Extent) (out : List (List ℕ × List ℕ)) → length words ≡ NODE_WORDS → IsReadableLeaf words → i < count_in words → meta_in words i ≡ Visible e →
    IsPermutation (pairs_to words i) out → All (λ k. k ≢ (pair_in words e).0) (keys_of out)
key_new words i e out whole leaf below is same =
    All-permutation (λ k. k ≢ (pair_in words e).0) (keys_of (pairs_to words i)) (keys_of out) (IsPermutation-map (λ (r : List ℕ × List ℕ). r.0) (pairs_to words i) out same)
    (keys_differ words i e whole leaf below is i (omega arith))

-- a visible record goes to the list, and nothing else does
pub visible_more : (words : List ℕ) (i : ℕ) (e : Extent) (out more : List (List ℕ × List ℕ)) → length words ≡ NODE_WORDS → count_in words ≤ SHARED_WORDS → i < count_in words → meta_in words i ≡ Visible e →
    IsPermutation (pairs_to words i) out → IsPermutation (pair_in words e ∷ out) more → IsPermutation (pairs_to words (i + 1)) more
visible_more words i e out more whole room below is same put =
    let one : shown words (meta_in words i) ≡ pair_in words e ∷ [] = ap (shown words) is in
    rw (pairs_more words i whole room below, one) (IsPermutation-push_more (pairs_to words i) out more (pair_in words e) same put)

hidden : (words : List ℕ) (m : Meta) → ((e : Extent) → m ≡ Visible e → ⊥) → shown words m ≡ []
hidden words (Visible e) none = absurd (none e refl)
hidden words Unused none = refl
hidden words (Reserved e) none = refl
hidden words (Deleted a b) none = refl

pub hidden_more : (words : List ℕ) (i : ℕ) → length words ≡ NODE_WORDS → count_in words ≤ SHARED_WORDS → i < count_in words → ((e : Extent) → meta_in words i ≡ Visible e → ⊥) → pairs_to words (i + 1) ≡ pairs_to words i
hidden_more words i whole room below none = rw (pairs_more words i whole room below, hidden words (meta_in words i) none) (append-nil (pairs_to words i))

-- after the last one
pub pairs_all : (words : List ℕ) → length words ≡ NODE_WORDS → count_in words ≤ SHARED_WORDS → pairs_to words (count_in words) ≡ flat_map (shown words) (metas_in words)
pairs_all words whole room = ap (flat_map (shown words)) (take_all (count_in words) (metas_in words) (omega (arith, length-metas_in words whole room)))
