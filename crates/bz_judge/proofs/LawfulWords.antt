-- A word is lawful by its kind and by what stands at its address.
use Rattle.std.proofs.Common.{◌≡◌, ℕ, Bool, true, false, refl}
use Rattle.bz_layout.specs.declared.config.Config.{Config}
use Rattle.bz_content.specs.Lawful.{is_word, is_value, is_named, is_in_descriptor, is_fixed, is_lawful}
use Rattle.bz_word.specs.Kinds.{kind}
use Rattle.bz_judge.specs.Inside.Kinds.{descriptor_word_test}

pub of-no-kind : (c : Config) (raw : ℕ → ℕ) (a : ℕ) → is_word (raw a) ≡ false → false ≡ is_lawful c raw a
unfolding is_lawful
of-no-kind c raw a t = rw t refl

pub in-descriptor : (c : Config) (raw : ℕ → ℕ) (a : ℕ) (b : Bool) → is_word (raw a) ≡ true → is_in_descriptor c a ≡ true → b ≡ descriptor_word_test raw a → b ≡ is_lawful c raw a
unfolding is_lawful
in-descriptor c raw a b t d e = rw (t, d) e

pub fixed : (c : Config) (raw : ℕ → ℕ) (a : ℕ) (b : Bool) → is_word (raw a) ≡ true → is_in_descriptor c a ≡ false → is_fixed a ≡ true → b ≡ is_value (raw a) → b ≡ is_lawful c raw a
unfolding is_lawful
fixed c raw a b t d f e = rw (t, d, f) e

pub elsewhere : (c : Config) (raw : ℕ → ℕ) (a : ℕ) (b : Bool) → is_word (raw a) ≡ true → is_in_descriptor c a ≡ false → is_fixed a ≡ false → b ≡ is_named c raw a (kind (raw a)) → b ≡ is_lawful c raw a
unfolding is_lawful
elsewhere c raw a b t d f e = rw (t, d, f) e
