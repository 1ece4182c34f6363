-- The words of kinds tell their kinds apart, and reading one undoes writing it.
use Rattle.std.proofs.Common.{◌≡◌, ℕ, arith, refl}
use Rattle.std.proofs.lemmas.Grind.{common_steps}
use Rattle.bz_word.specs.Kinds.{word, kind, IsKind, IsWord}
use Rattle.bz_word.specs.Statements.{KindsDifferInWords, TagsDifferInWords, ValuesAreTheirWords, DirtyBitIsAdded}
use Rattle.bz_word.specs.declared.kind.WordKind.{WordKind}
use Rattle.bz_word.specs.declared.kind.WordKind.TheVariants.{Value, Dirty, Swap, Tag}

pub word-injective : KindsDifferInWords
word-injective k j p q e = grind arith

pub tag-injective : TagsDifferInWords
tag-injective s e w q s' e' w' q' p p' h = (omega arith, omega arith, omega arith, omega arith)

pub value-word : ValuesAreTheirWords
unfolding kind
value-word v small = (refl, grind (arith, common_steps))

pub dirty-word : DirtyBitIsAdded
dirty-word v small = (omega arith, omega arith, omega arith)

pub kind-word : (k : WordKind) → IsKind k → kind (word k) ≡ k
unfolding kind
kind-word (Value v) p = grind (arith, common_steps)
kind-word (Dirty v) p = grind (arith, common_steps)
kind-word (Swap s) p = grind (arith, common_steps)
kind-word (Tag s e w q) p = grind (arith, common_steps)

pub word-kind : (x : ℕ) → IsWord x → word (kind x) ≡ x
unfolding kind
word-kind x p = grind (arith, common_steps)

pub IsKind-kind : (x : ℕ) → IsWord x → IsKind (kind x)
unfolding kind
IsKind-kind x p = grind (arith, common_steps)

pub IsWord-word : (k : WordKind) → IsKind k → IsWord (word k)
IsWord-word (Value v) p = grind (arith, common_steps)
IsWord-word (Dirty v) p = grind (arith, common_steps)
IsWord-word (Swap s) p = grind (arith, common_steps)
IsWord-word (Tag s e w q) p = grind (arith, common_steps)
