-- A metadata word that says so of a visible record is that record's.
use Rattle.std.proofs.Common.{◌≡◌, ℕ, if◌then◌else◌, Bool, true, false, arith, refl, sym, ap, subst, ◌∙◌, Option}
use Rattle.std.specs.Prelude.{Some}
use Rattle.std.proofs.lemmas.Bool.Decides.{nat_tests}
use Rattle.bz_slotted.specs.Page.{is_meta_word, meta_of, visible, extent_of}
use Rattle.bz_word.specs.Metas.{meta_word, meta, IsMeta, IsMetaWord}
use Rattle.bz_word.specs.declared.meta.Extent.{Extent}
use Rattle.bz_word.specs.declared.meta.Meta.{Meta}
use Rattle.bz_word.specs.declared.meta.Meta.TheVariants.{Unused, Reserved, Visible, Deleted}
use Rattle.bz_word.proofs.Lemmas.{metas}

pub visible-is : (m : Meta) → visible m ≡ true → m ≡ Visible (extent_of m)
unfolding visible extent_of
visible-is (Visible e) h = refl
visible-is (Reserved e) h = absurd (cc)
visible-is (Deleted k t) h = absurd (cc)
visible-is Unused h = absurd (cc)

-- a word that passes the test is a metadata word
unpacks : (x : ℕ) → is_meta_word x ≡ true → IsMetaWord x
unpacks x t = record { control = grind (arith, nat_tests); lengths = grind (arith, nat_tests); offset = λ v. grind (arith, nat_tests) }

-- a word that says so of a visible record is its metadata word
pub visible-word : (x : ℕ) (e : Extent) → meta_of x ≡ Visible e → IsMeta (Visible e) × (meta_word (Visible e) ≡ x)
unfolding meta_of
visible-word x e h = go (is_meta_word x) refl h
  where
    go : (b : Bool) → is_meta_word x ≡ b → (if b then meta x else Unused) ≡ Visible e → IsMeta (Visible e) × (meta_word (Visible e) ≡ x)
    go true t u = (subst IsMeta u (metas.range x (unpacks x t)), ap meta_word (sym u) ∙ metas.word x (unpacks x t))
    go false t u = absurd (cc)

-- so it unpacks as that record
pub unpacks-visible : (x : ℕ) (result : Option Meta) → ((m : Meta) → IsMeta m → meta_word m ≡ x → result ≡ Some m) → visible (meta_of x) ≡ true → result ≡ Some (Visible (extent_of (meta_of x)))
unpacks-visible x result inverse h = let v = visible-word x (extent_of (meta_of x)) (visible-is (meta_of x) h) in inverse (Visible (extent_of (meta_of x))) v.0 v.1
