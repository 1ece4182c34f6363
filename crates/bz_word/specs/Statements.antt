-- What holds of words and their fields, as statements; the file Laws has each as a lemma.
use Rattle.std.specs.Prelude.{◌≡◌, ℕ, ◌+◌, ◌/◌, ◌%◌, ◌^◌, ◌<◌}
use Rattle.bz_word.specs.Fields.{field, at}
use Rattle.bz_word.specs.Kinds.{word, kind, IsKind}
use Rattle.bz_word.specs.declared.kind.WordKind.{WordKind}
use Rattle.bz_word.specs.declared.kind.WordKind.TheVariants.{Value, Dirty, Tag}

-- words and what they stand for: each value in range has a lawful word that reads as it, and each lawful
-- word reads as a value in range whose word it is
pub record IsCodec (A : Type 0) (IsInRange : A → Type 0) (IsLawful : ℕ → Type 0) (word_for : A → ℕ) (value_of : ℕ → A) : Type 0 where
  pub lawful : (a : A) → IsInRange a → IsLawful (word_for a)
  pub value : (a : A) → IsInRange a → value_of (word_for a) ≡ a
  pub range : (x : ℕ) → IsLawful x → IsInRange (value_of x)
  pub word : (x : ℕ) → IsLawful x → word_for (value_of x) ≡ x

-- two kinds with one word are one kind
abbrev pub KindsDifferInWords : Type 0
KindsDifferInWords = (k j : WordKind) → IsKind k → IsKind j → word k ≡ word j → k ≡ j

-- two tags with one word agree in each field
abbrev pub TagsDifferInWords : Type 0
TagsDifferInWords =
    (s e w q s' e' w' q' : ℕ) → IsKind (Tag s e w q) → IsKind (Tag s' e' w' q') → word (Tag s e w q) ≡ word (Tag s' e' w' q') →
    (s ≡ s') × (e ≡ e') × (w ≡ w') × (q ≡ q')

-- a number below 2^61 is its own word, and stands for itself
abbrev pub ValuesAreTheirWords : Type 0
ValuesAreTheirWords = (v : ℕ) → v < 2 ^ 61 → (word (Value v) ≡ v) × (kind v ≡ Value v)

-- a dirty value's word is the value's word with bit 63 set, and clearing the bit leaves the value's word
abbrev pub DirtyBitIsAdded : Type 0
DirtyBitIsAdded =
    (v : ℕ) → v < 2 ^ 61 → (word (Dirty v) ≡ word (Value v) + 2 ^ 63) × (field 63 1 (word (Dirty v)) ≡ 1) × (field 0 63 (word (Dirty v)) ≡ word (Value v))

-- a number of `width` bits put at a place stands in the field there, whatever stands above and below it
abbrev pub FieldsHoldNumbers : Type 0
FieldsHoldNumbers =
    (place width above number below : ℕ) → number < 2 ^ width → below < 2 ^ place →
    field place width (at place (at width above + number) + below) ≡ number

-- a word is what stands above a field, the field and what stands below it
abbrev pub FieldsPartWords : Type 0
FieldsPartWords =
    (place width x : ℕ) → at place (at width (x / 2 ^ place / 2 ^ width) + field place width x) + x % 2 ^ place ≡ x
