-- The kind of a word that was read, or of which there is none.
use Rattle.std.proofs.Common.{◌≡◌, ℕ, Bool, true, false, if◌then◌else◌, arith, refl, sym, ap, ◌∙◌}
use Rattle.std.specs.Prelude.{◌↔◌, Option, Some, None, IsSome, IfSome}
use Rattle.std.proofs.lemmas.Bool.Decides.{nat_tests}
use Rattle.bz_content.specs.Lawful.{is_word}
use Rattle.bz_word.specs.Kinds.{kind, word, IsKind, IsWord}
use Rattle.bz_word.proofs.Lemmas.{kinds}
use Rattle.bz_word.specs.declared.kind.WordKind.{WordKind}
use Rattle.bz_judge.specs.Inside.Kinds.{kind_read}

lawful : (x : ℕ) → IsWord x → is_word x ≡ true
lawful x w = grind (arith, nat_tests, w.size, w.control, w.pointer, w.worker)

told : (x : ℕ) → is_word x ≡ true → IsWord x
told x t = record { size = grind (arith, nat_tests); control = grind (arith, nat_tests); pointer = λ p. grind (arith, nat_tests); worker = λ p. (grind (arith, nat_tests), grind (arith, nat_tests)) }

pub kind-is : (o : Option WordKind) (x : ℕ) → (IsSome o ↔ IsWord x) → IfSome o (λ k. IsKind k × (word k ≡ x)) → o ≡ kind_read x
unfolding kind_read
kind-is (Some k) x some says =
    let w : is_word x ≡ true = lawful x (some.0 refl) in
    rw w (ap Some (sym (kinds.value k says.0) ∙ ap kind says.1))
kind-is None x some says = go (is_word x) refl
  where
    go : (b : Bool) → is_word x ≡ b → None ≡ (if b then Some (kind x) else None)
    go true t = let h : IsSome {T = WordKind} None = some.1 (told x t) in cc
    go false t = refl

pub kind-lawful : (o : Option WordKind) (x : ℕ) → IfSome o (λ k. IsKind k × (word k ≡ x)) → IfSome o (λ k. IsKind k)
kind-lawful (Some k) x says = says.0
kind-lawful None x says = tt

pub none-read : (x : ℕ) → None ≡ kind_read x → is_word x ≡ false
unfolding kind_read
none-read x = go (is_word x)
  where
    go : (b : Bool) → None ≡ (if b then Some (kind x) else None) → b ≡ false
    go true e = absurd (cc)
    go false e = refl

-- a kind that was read is that of the word
pub record IsKindRead (k : WordKind) (x : ℕ) : Type 0 where
  pub word : is_word x ≡ true
  pub kind : k ≡ kind x

pub some-read : (k : WordKind) (x : ℕ) → Some k ≡ kind_read x → IsKindRead k x
unfolding kind_read
some-read k x = go (is_word x) refl
  where
    go : (b : Bool) → is_word x ≡ b → Some k ≡ (if b then Some (kind x) else None) → IsKindRead k x
    go true t e = record { word = t; kind = cc }
    go false t e = absurd (cc)
