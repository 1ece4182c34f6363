-- What holds of the order of keys, as lemmas for the proofs here and in the crates above.
use Rattle.std.proofs.Common.{◌≡◌, ℕ, ◌⊎◌, inl, inr, Bool, true, false, List, arith, refl, sym, ap, ◌∙◌, Option}
use Rattle.std.specs.Prelude.{not, Some, None}
use Rattle.std.specs.Cmp.Lexicographic.{slice_cmp}
use Rattle.std.specs.declared.cmp.Ordering.{Ordering}
use Rattle.std.specs.declared.cmp.Ordering.TheVariants.{Less, Equal, Greater}
use Rattle.std.specs.Ordering.{nat_cmp, is_lt, ordering_reverse}
use Rattle.std.proofs.lemmas.Cmp.{nat_list_cmp_total, tied_itself}
use Rattle.bz_tree.specs.Order.{is_above, is_at_least, is_before, is_below}

-- x ≤ y and y < z, by what the three comparisons found
late : (a b c : Ordering) → (a ≡ Less → b ≡ Less → c ≡ Less) → (a ≡ Equal → c ≡ b) → is_lt (ordering_reverse a) ≡ false → is_lt b ≡ true → is_lt c ≡ true
late Less Less c t e h g = grind (arith, t refl refl)
late Equal Less c t e h g = grind (arith, e refl)
late Greater Less c t e h g = grind arith
late Less Equal c t e h g = grind arith
late Equal Equal c t e h g = grind arith
late Greater Equal c t e h g = grind arith
late Less Greater c t e h g = grind arith
late Equal Greater c t e h g = grind arith
late Greater Greater c t e h g = grind arith

pub before-irreflexive : (a : List ℕ) → is_before a a ≡ false
unfolding is_before
before-irreflexive a = rw (tied_itself nat_list_cmp_total a) refl

-- a ≤ b, b < c
pub before-after : (a b c : List ℕ) → is_before b a ≡ false → is_before b c ≡ true → is_before a c ≡ true
unfolding is_before
before-after a b c h g = late (slice_cmp nat_cmp a b) (slice_cmp nat_cmp b c) (slice_cmp nat_cmp a c) (λ p q. nat_list_cmp_total.trans a b c p q) (λ p. nat_list_cmp_total.congr a b c p) (ap is_lt (sym (nat_list_cmp_total.antisymm b a)) ∙ h) g

less : (o : Ordering) → is_lt o ≡ true → o ≡ Less
less Less h = refl
less Equal h = grind arith
less Greater h = grind arith

pub before-trans : (a b c : List ℕ) → is_before a b ≡ true → is_before b c ≡ true → is_before a c ≡ true
unfolding is_before
before-trans a b c h g = ap is_lt (nat_list_cmp_total.trans a b c (less (slice_cmp nat_cmp a b) h) (less (slice_cmp nat_cmp b c) g))

pub before-asymmetric : (a b : List ℕ) → is_before a b ≡ true → is_before b a ≡ false
before-asymmetric a b h = elim (cases_bool (is_before b a)) [ inl e ↦ absurd (grind (arith, before-trans a b a h e, before-irreflexive a)) | inr e ↦ e ]
  where
    cases_bool : (b : Bool) → (b ≡ true) ⊎ (b ≡ false)
    cases_bool true = inl refl
    cases_bool false = inr refl

pub below-earlier : (k b : List ℕ) (hi : Option (List ℕ)) → is_before k b ≡ true → is_below b hi ≡ true → is_below k hi ≡ true
below-earlier k b None h g = refl
below-earlier k b (Some c) h g = before-trans k b c h g

pub at_least-later : (k b : List ℕ) (lo : Option (List ℕ)) → not (is_before k b) ≡ true → is_above b lo ≡ true → is_at_least k lo ≡ true
at_least-later k b None h g = refl
at_least-later k b (Some c) h g = grind (arith, before-trans k c b, g)
