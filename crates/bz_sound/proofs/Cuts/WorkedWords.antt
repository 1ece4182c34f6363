-- The words of the worked journals with power cuts.
use Rattle.std.proofs.Common.{◌≡◌, ◌≢◌, ◌≤◌, ◌<◌, ◌+◌, ◌==◌, ◌^◌, ℕ, false, List, [], ◌∷◌, ◌++◌, length, drop, refl, sym, ap, ◌∙◌, subst, inl, inr, arith, Some, None, get_or-set_other}
use Rattle.std.specs.Prelude.{if◌then◌else◌, slice_index, slice_set, bytes_eq}
use Rattle.std.proofs.lemmas.Bool.{cases_lt, cases_eq}
use Rattle.std.proofs.lemmas.Bool.Decides.{nat_tests}
use Rattle.std.proofs.lemmas.List.{get_or_past, get_or-set_same, length-set}
use Rattle.std.proofs.lemmas.List.FromFn.{get_or-map-range_with_len, length-map-range_with_len}
use Rattle.bz_layout.specs.Addresses as layout
use Rattle.bz_content.specs.Content.{content_in}
use Rattle.bz_content.specs.Image.{node}
use Rattle.bz_content.specs.Resolving.{resolve, entry_for}
use Rattle.bz_content.specs.WorkedInsert.{small, word_at, super, leaf, pair, publishing, undecided, succeeded}
use Rattle.bz_tree.specs.Descent.{descend, pick}
use Rattle.bz_slotted.specs.Readers.{level_of, count_of, child_of, key_of, found_of}
use Rattle.bz_slotted.specs.Page.{words_at, meta_of, visible, held, used, extent_of}
use Rattle.bz_slotted.specs.Records.{search_to}
use Rattle.bz_word.specs.Kinds.{kind}
use Rattle.bz_word.specs.Statuses.{status}
use Rattle.bz_word.specs.Headers.{header}
use Rattle.bz_word.specs.Metas.{meta}
use Rattle.bz_key.specs.Packing.{packed, packed_word, packed_byte, unpacked, unpacked_key, unpacked_payload}
use Rattle.bz_sound.specs.Power.Example.{words_below, start}

-- images with equal words are one
pub same-image : (f g : ℕ → ℕ) → ((a : ℕ) → f a ≡ g a) → f ≡ g
same-image f g h = λ i. λ a. h a i

pub length-below : (image : ℕ → ℕ) (n : ℕ) → length (words_below image n) ≡ n
unfolding words_below
length-below image n = length-map-range_with_len image 0 n

-- the words are those of the image, which has none from there on
pub at-below : (image : ℕ → ℕ) (n a : ℕ) → ((b : ℕ) → n ≤ b → image b ≡ 0) → slice_index (words_below image n) a ≡ image a
unfolding words_below
at-below image n a none = elim (cases_lt a n) [
  | inl within ↦ get_or-map-range_with_len image 0 n a a 0 within (omega arith)
  | inr past ↦ get_or_past _ a 0 (omega (arith, length-map-range_with_len image 0 n)) ∙ sym (none a past)
]

-- the addresses of a list of words lie below
abbrev AreBelow : ℕ → List (ℕ × ℕ) → Type 0
AreBelow n [] = Unit {0}
AreBelow n (w ∷ words) = (w.0 < n) × AreBelow n words

none-past : (words : List (ℕ × ℕ)) (n a : ℕ) → AreBelow n words → n ≤ a → word_at words a ≡ 0
unfolding word_at
none-past [] n a below past = refl
none-past (w ∷ words) n a below past =
    let first : w.0 < n = below.0 in
    let other : (a == w.0) ≡ false = grind (arith, nat_tests) in
    rw other (none-past words n a below.1 past)

-- another word in the place of one changes no other
other-word : (words rest : List (ℕ × ℕ)) (k u v a : ℕ) → (a == k) ≡ false → word_at (words ++ (k, u) ∷ rest) a ≡ word_at (words ++ (k, v) ∷ rest) a
unfolding word_at
other-word [] rest k u v a other = rw other refl
other-word (w ∷ words) rest k u v a other = ap (λ (later : ℕ). if a == w.0 then w.1 else later) (other-word words rest k u v a other)

-- the words after that of the status
abbrev after_status : List (ℕ × ℕ)
after_status = drop 1 (publishing 1) ++ leaf (2 ^ 62 + 1) (2 ^ 62 + 1) ++ pair

undecided-past : (a : ℕ) → layout.words_of small ≤ a → undecided a ≡ 0
undecided-past a past = none-past (super ++ (32, 1) ∷ after_status) (layout.words_of small) a
    (omega arith, (omega arith, (omega arith, (omega arith, (omega arith, (omega arith, (omega arith, (omega arith, (omega arith, (omega arith, (omega arith, (omega arith, (omega arith, (omega arith, (omega arith, (omega arith, tt)))))))))))))))) past

succeeded-past : (a : ℕ) → layout.words_of small ≤ a → succeeded a ≡ 0
succeeded-past a past = none-past (super ++ (32, 2) ∷ after_status) (layout.words_of small) a
    (omega arith, (omega arith, (omega arith, (omega arith, (omega arith, (omega arith, (omega arith, (omega arith, (omega arith, (omega arith, (omega arith, (omega arith, (omega arith, (omega arith, (omega arith, (omega arith, tt)))))))))))))))) past

same-but_status : (a : ℕ) → a ≢ 32 → undecided a ≡ succeeded a
same-but_status a different = let other : (a == 32) ≡ false = grind (arith, nat_tests) in other-word super after_status 32 1 2 a other

pub start-length : length start ≡ layout.words_of small
start-length = length-below undecided (layout.words_of small)

pub start-word : (a : ℕ) → slice_index start a ≡ undecided a
start-word a = at-below undecided (layout.words_of small) a undecided-past

-- the durable words once the status is evicted
abbrev pub evicted_words : List ℕ
evicted_words = slice_set start 32 (slice_index (slice_set start 32 2) 32)

pub evicted-length : length evicted_words ≡ layout.words_of small
evicted-length = length-set start 32 (slice_index (slice_set start 32 2) 32) ∙ start-length

-- three words
pub status-undecided : undecided 32 ≡ 1
unfolding word_at
status-undecided = refl

pub status-succeeded : succeeded 32 ≡ 2
unfolding word_at
status-succeeded = refl

pub root-succeeded : succeeded 1 ≡ 1
unfolding word_at
root-succeeded = refl

stored-status : slice_index (slice_set start 32 2) 32 ≡ 2
stored-status = get_or-set_same start 32 2 0 (omega (arith, start-length))

pub evicted-word : (a : ℕ) → slice_index evicted_words a ≡ succeeded a
evicted-word a = elim (cases_eq a 32) [
  | inl here ↦ subst (λ (b : ℕ). slice_index evicted_words b ≡ succeeded b) (sym here)
      (get_or-set_same start 32 (slice_index (slice_set start 32 2) 32) 0 (omega (arith, start-length)) ∙ stored-status ∙ sym status-succeeded)
  | inr different ↦ get_or-set_other start 32 a (slice_index (slice_set start 32 2) 32) 0 different ∙ start-word a ∙ same-but_status a different
]

-- what the two images say of a key
pub undecided-content : (key : List ℕ) → content_in small undecided key ≡ None
unfolding node resolve entry_for word_at descend pick level_of count_of child_of key_of found_of words_at meta_of visible held used extent_of search_to kind status header meta packed packed_word packed_byte unpacked unpacked_key unpacked_payload
undecided-content key = refl

pub succeeded-content : (key : List ℕ) → content_in small succeeded key ≡ (if bytes_eq (97 ∷ []) key then Some (49 ∷ []) else None)
unfolding node resolve entry_for word_at descend pick level_of count_of child_of key_of found_of words_at meta_of visible held used extent_of search_to kind status header meta packed packed_word packed_byte unpacked unpacked_key unpacked_payload
succeeded-content key = refl
