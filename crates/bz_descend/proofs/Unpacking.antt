-- What a metadata word that was unpacked, or could not be, says.
use Rattle.std.proofs.Common.{◌≡◌, ℕ, Bool, true, false, if◌then◌else◌, arith, refl, sym, ap, ◌∙◌}
use Rattle.std.proofs.lemmas.Bool.Decides.{nat_tests}
use Rattle.bz_word.proofs.Lemmas.{metas}
use Rattle.bz_word.specs.Metas.{meta, meta_word, IsMeta, IsMetaWord}
use Rattle.bz_word.specs.declared.meta.Meta.{Meta}
use Rattle.bz_word.specs.declared.meta.Meta.TheVariants.{Unused}
use Rattle.bz_slotted.specs.Page.{is_meta_word, meta_of}

meta-unpacks : (x : ℕ) → IsMetaWord x → meta_of x ≡ meta x
unfolding meta_of
meta-unpacks x h = let t : is_meta_word x ≡ true = grind (arith, nat_tests, h.control, h.lengths, h.offset) in rw t refl

pub meta-some : (m : Meta) (x : ℕ) → IsMeta m → meta_word m ≡ x → m ≡ meta_of x
meta-some m x fits word = let h : IsMetaWord x = rw (← word) (metas.lawful m fits) in sym (metas.value m fits) ∙ ap meta word ∙ sym (meta-unpacks x h)

pub meta-none : (x : ℕ) → (IsMetaWord x → ⊥) → Unused ≡ meta_of x
unfolding meta_of
meta-none x h = go (is_meta_word x) refl
  where
    lawful : is_meta_word x ≡ true → IsMetaWord x
    lawful t = record { control = grind (arith, nat_tests); lengths = grind (arith, nat_tests); offset = λ v. grind (arith, nat_tests) }

    go : (b : Bool) → is_meta_word x ≡ b → Unused ≡ if b then meta x else Unused
    go true t = absurd (h (lawful t))
    go false t = refl
