-- An image has no fault exactly where all its rules hold.
use Rattle.std.proofs.Common.{◌≡◌, ℕ, zero, suc, ◌+◌, ◌<◌, ◌≤◌, if◌then◌else◌, Bool, true, false, arith, refl, ap, ◌∙◌, inl, inr, Option}
use Rattle.std.specs.Prelude.{Some, None}
use Rattle.std.proofs.lemmas.Bool.{cases_eq}
use Rattle.bz_layout.specs.Addresses.{words_of}
use Rattle.bz_layout.specs.declared.config.Config.{Config}
use Rattle.bz_tree.specs.Walk.{IsTree, fault_of}
use Rattle.bz_tree.specs.declared.rule.ShapeRule.TheVariants.{Super}
use Rattle.bz_content.specs.Content.{image_fault, image_of, is_super, or_word, view_in, IsWellFormed}
use Rattle.bz_content.specs.Lawful.{is_lawful, first_unlawful}
use Rattle.bz_content.specs.Laws.{WellFormedImagesHaveNoFault}
use Rattle.bz_content.proofs.Reached.{is}
use Rattle.bz_content.proofs.Honesty.{honest}

lawful-all : (c : Config) (raw : ℕ → ℕ) (a n : ℕ) → first_unlawful c raw a n ≡ None → (i : ℕ) → a ≤ i → i < a + n → is_lawful c raw i ≡ true
unfolding first_unlawful
lawful-all c raw a zero e i from below = absurd (omega arith)
lawful-all c raw a (suc n) e i from below = go (is_lawful c raw a) refl e (lawful-all c raw (a + 1) n)
  where
    go : (b : Bool) → is_lawful c raw a ≡ b → (if b then first_unlawful c raw (a + 1) n else Some a) ≡ None
        → (first_unlawful c raw (a + 1) n ≡ None → (j : ℕ) → a + 1 ≤ j → j < a + 1 + n → is_lawful c raw j ≡ true) → is_lawful c raw i ≡ true
    go true p e rest = elim (cases_eq i a) [ inl q ↦ ap (is_lawful c raw) q ∙ p | inr ne ↦ rest e i (omega arith) (omega arith) ]
    go false p e rest = absurd (cc)

all-lawful : (c : Config) (raw : ℕ → ℕ) (a n : ℕ) → ((i : ℕ) → a ≤ i → i < a + n → is_lawful c raw i ≡ true) → first_unlawful c raw a n ≡ None
unfolding first_unlawful
all-lawful c raw a zero each = refl
all-lawful c raw a (suc n) each = rw (each a (omega arith) (omega arith)) (all-lawful c raw (a + 1) n (λ i p q. each i (omega arith) (omega arith)))

-- the tree of an image without fault
tree : (c : Config) (raw : ℕ → ℕ) → fault_of (view_in c raw) ≡ None → IsTree (view_in c raw)
tree c raw none = record { honest = honest c (image_of raw); one = rw (is c.nodes) refl; tall = omega arith; none = none }

sound : (c : Config) (raw : ℕ → ℕ) → image_fault c raw ≡ None → IsWellFormed c raw
unfolding image_fault
sound c raw e = go (is_super c raw) refl (first_unlawful c raw 0 (words_of c)) refl e
  where
    go : (b : Bool) → is_super c raw ≡ b → (o : Option ℕ) → first_unlawful c raw 0 (words_of c) ≡ o
        → (if b then or_word o (fault_of (view_in c raw)) else Some (record { rule = Super; place = 0 })) ≡ None → IsWellFormed c raw
    go true p None q e = record { super = p; lawful = λ a l. lawful-all c raw 0 (words_of c) q a (omega arith) (omega arith); tree = tree c raw e }
    go true p (Some a) q e = absurd (cc)
    go false p o q e = absurd (cc)

complete : (c : Config) (raw : ℕ → ℕ) → IsWellFormed c raw → image_fault c raw ≡ None
unfolding image_fault
complete c raw w = rw (w.super, all-lawful c raw 0 (words_of c) (λ i a b. w.lawful i (omega arith))) w.tree.none

pub well-formed : WellFormedImagesHaveNoFault
well-formed c raw = (sound c raw, complete c raw)
