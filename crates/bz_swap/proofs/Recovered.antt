-- Words that need no recovery: asked address by address, and what they mean to the machine.
use Rattle.std.specs.Prelude.{◌≡◌, if◌then◌else◌, nat_lt, ℕ, ◌^◌, ◌<◌, ◌≤◌, Bool, true, false, List, length, slice_index}
use Rattle.std.proofs.Common.{arith, refl, ap, inl, inr}
use Rattle.std.proofs.lemmas.Bool.{cases_lt}
use Rattle.std.proofs.lemmas.List.{get_or_past}
use Rattle.std.proofs.lemmas.Grind.{common_steps}
use Rattle.bz_word.specs.Kinds.{kind, IsKind}
use Rattle.bz_word.proofs.Lemmas.KindWords.{kind-word, IsWord-word}
use Rattle.bz_word.specs.declared.kind.WordKind.{WordKind}
use Rattle.bz_word.specs.declared.kind.WordKind.TheVariants.{Value}
use Rattle.bz_layout.specs.Addresses.{swap_address}
use Rattle.bz_layout.specs.declared.sizes.TheConstants.{SUPERBLOCK_WORDS}
use Rattle.bz_swap_machine.specs.declared.status.SwapStatus.TheVariants.{Free}
use Rattle.bz_swap_machine.specs.Sound.{IsPlain}
use Rattle.bz_swap_cells.specs.Store.{IsOutside, is_outside, kind_at, status_at, status_of, IsStatusWord, AreWords}
use Rattle.bz_swap.specs.Power.{AreRecovered}

-- the word at this address needs no recovery
abbrev pub IsRecoveredAt : ℕ → List ℕ → ℕ → Type 0
IsRecoveredAt swaps words a = (IsOutside swaps a → slice_index words a < 2 ^ 61) × ((s : ℕ) → s < swaps → a ≡ swap_address s → slice_index words a ≡ 0)

pub recovered-at : (swaps : ℕ) (words : List ℕ) (a : ℕ) → AreRecovered swaps words → IsRecoveredAt swaps words a
recovered-at swaps words a h = (h.plain a, λ s lt is. rw is (h.free s lt))

-- past the end no word needs recovery
pub all-recovered : (swaps : ℕ) (words : List ℕ) → swap_address swaps ≤ length words → ((a : ℕ) → a < length words → IsRecoveredAt swaps words a) → AreRecovered swaps words
all-recovered swaps words room each = record {
  plain = λ a out. elim (cases_lt a (length words)) [
    | inl within ↦ (each a within).0 out
    | inr past ↦ rw (get_or_past words a 0 past) (omega arith)
  ];
  free = λ s lt. (each (swap_address s) (omega (arith, room, lt))).1 s lt refl;
}

-- the test tells addresses outside the descriptors
told-outside : (swaps a : ℕ) → is_outside swaps a ≡ true → IsOutside swaps a
told-outside swaps a told = elim (cases_lt a SUPERBLOCK_WORDS) [
  | inl below ↦ inl below
  | inr past ↦ elim (cases_lt a (swap_address swaps)) [
    | inl inside ↦ absurd (grind (arith, common_steps, told, past, inside))
    | inr above ↦ inr above
  ]
]

-- a plain word that fits
abbrev pub IsFitting : WordKind → Type 0
IsFitting x = (v : ℕ) × ((v < 2 ^ 61) × (x ≡ Value v))

fitting-if : (b : Bool) (x : ℕ) → (b ≡ true → x < 2 ^ 61) → IsFitting (if b then kind x else Value 0)
fitting-if true x fits = (x, (fits refl, kind-word (Value x) (fits refl)))
fitting-if false x fits = (0, (omega arith, refl))

pub fitting : (swaps : ℕ) (words : List ℕ) (a : ℕ) → AreRecovered swaps words → IsFitting (kind_at swaps words a)
fitting swaps words a h = fitting-if (is_outside swaps a) (slice_index words a) (λ told. h.plain a (told-outside swaps a told))

pub fitting-plain : (x : WordKind) → IsFitting x → IsPlain x
fitting-plain x f = rw f.1.1 tt

pub fitting-kind : (x : WordKind) → IsFitting x → IsKind x
fitting-kind x f = rw f.1.1 f.1.0

-- the same words outside the descriptors stand for the same
same-if : (b : Bool) (x y : ℕ) → (b ≡ true → x ≡ y) → (if b then kind x else Value 0) ≡ (if b then kind y else Value 0)
same-if true x y is = ap kind (is refl)
same-if false x y is = refl

pub same-kinds : (swaps : ℕ) (cached durable : List ℕ) → ((a : ℕ) → IsOutside swaps a → slice_index cached a ≡ slice_index durable a) → (a : ℕ) → kind_at swaps cached a ≡ kind_at swaps durable a
same-kinds swaps cached durable same a = same-if (is_outside swaps a) (slice_index cached a) (slice_index durable a) (λ told. same a (told-outside swaps a told))

-- a descriptor whose status word is zero is free
free-word : status_of 0 ≡ Free
unfolding status_of
free-word = refl

free-if : (b : Bool) (x : ℕ) → (b ≡ true → x ≡ 0) → (if b then status_of x else Free) ≡ Free
free-if true x is = rw (is refl) free-word
free-if false x is = refl

below : (s n : ℕ) → nat_lt s n ≡ true → s < n
below s n told = grind (arith, common_steps, told)

pub free-status : (swaps : ℕ) (words : List ℕ) (s : ℕ) → AreRecovered swaps words → status_at swaps words s ≡ Free
free-status swaps words s h = free-if (nat_lt s swaps) (slice_index words (swap_address s)) (λ told. h.free s (below s swaps told))

free-is_word : (x : ℕ) → x ≡ 0 → IsStatusWord x
unfolding status_of
free-is_word x is = rw is refl

pub recovered-words : (swaps : ℕ) (words : List ℕ) → AreRecovered swaps words → AreWords swaps words
recovered-words swaps words h = record {
  kinds = λ a out. IsWord-word (Value (slice_index words a)) (h.plain a out);
  statuses = λ s lt. free-is_word (slice_index words (swap_address s)) (h.free s lt);
}
