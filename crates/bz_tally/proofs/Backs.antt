-- A swap that exchanges slots for fresh ones brings none back.
use Rattle.std.proofs.Common.{◌≡◌, ◌||◌, ◌&&◌, ◌<◌, ◌==◌, ℕ, Bool, true, false, List, [], ◌∷◌, arith, refl, sym, subst, ◌∙◌, inl, inr}
use Rattle.std.specs.Prelude.{not}
use Rattle.std.proofs.lemmas.Bool.Decides.{nat_tests}
use Rattle.std.proofs.lemmas.Bool.{true≢false}
use Rattle.bz_leaves.proofs.Exchanges.{one-of}
use Rattle.bz_leaves.proofs.Splits.{two-cases}
use Rattle.bz_renew.proofs.FreshSlots.{outside-tree, unreached}
use Rattle.bz_renew.specs.LinkSwaps.{IsFresh}
use Rattle.bz_tree.proofs.Trees.{three-cases}
use Rattle.bz_tree.specs.Outcomes.{Regrows}
use Rattle.bz_tree.specs.Walk.{is_among}
use Rattle.bz_content.specs.Content.{view_in}
use Rattle.bz_task.specs.Instant.{Instant, form_at, is_inside}
use Rattle.bz_task.specs.Scene.{Scene, IsScene, here}
use Rattle.bz_tally.specs.Counts.{BringsNoneBack, IsLeafNow}

neither : (a b c : Bool) → a ≡ false → c ≡ true → a || (b && not c) ≡ false
neither false true true e h = refl
neither false false true e h = refl
neither true b c e h = absurd (true≢false e)
neither false b false e h = absurd (true≢false (sym h))

stays-in : (a b c : Bool) → b ≡ true → c ≡ false → a || (b && not c) ≡ true
stays-in true b c e h = refl
stays-in false true false e h = refl
stays-in false false c e h = absurd (true≢false (sym e))
stays-in false true true e h = absurd (true≢false h)

-- a leaf now is in the tree, at level 0
and-first : (a b : Bool) → a && b ≡ true → a ≡ true
and-first true b e = refl
and-first false b e = absurd (true≢false (sym e))

and-second : (a b : Bool) → a && b ≡ true → b ≡ true
and-second true b e = e
and-second false b e = absurd (true≢false (sym e))

pub leaf-inside : (s : Scene) (k : ℕ) → IsLeafNow s k → is_inside s.past.config (here s) k ≡ true
leaf-inside s k l = and-first (is_inside s.past.config (here s) k) ((form_at s.past.config (here s)).level k == 0) l

pub leaf-level : (s : Scene) (k : ℕ) → IsLeafNow s k → (form_at s.past.config (here s)).level k ≡ 0
leaf-level s k l = let e : ((form_at s.past.config (here s)).level k == 0) ≡ true = and-second (is_inside s.past.config (here s) k) ((form_at s.past.config (here s)).level k == 0) l in grind (arith, nat_tests, e)

-- these slots are fresh
abbrev pub AreFresh : Scene → List ℕ → Type 0
AreFresh s new = (k : ℕ) → is_among new k ≡ true → IsFresh s k

-- two of them, and three
pub two-fresh : (s : Scene) (q m : ℕ) → IsFresh s q → IsFresh s m → AreFresh s (q ∷ m ∷ [])
two-fresh s q m above merged k e = elim (two-cases q m k e) [ inl p ↦ subst (IsFresh s) (sym p) above | inr p ↦ subst (IsFresh s) (sym p) merged ]

pub three-fresh : (s : Scene) (q l r : ℕ) → IsFresh s q → IsFresh s l → IsFresh s r → AreFresh s (q ∷ l ∷ r ∷ [])
three-fresh s q l r above left right k e = elim (three-cases q l r k e) [
  | inl p ↦ subst (IsFresh s) (sym p) above
  | inr o ↦ elim o [ inl p ↦ subst (IsFresh s) (sym p) left | inr p ↦ subst (IsFresh s) (sym p) right ]
]

module _ (s : Scene) (y : Instant) (gone new : List ℕ) (good : IsScene s) (r : Regrows (view_in s.past.config (here s).image) (view_in s.past.config y.image) gone new) (fresh : AreFresh s new) where
  pub none-back : BringsNoneBack s y
  none-back k i = elim (one-of (is_among new k) (is_inside s.past.config (here s) k) (is_among gone k) (sym (r.slots.reached k) ∙ i)) [
    | inl n ↦ inr (unreached s k good (fresh k n))
    | inr was ↦ inl was.0
  ]

  -- a slot of the tree is none of those that come
  old : (k : ℕ) → is_inside s.past.config (here s) k ≡ true → is_among new k ≡ false
  old k i = go (is_among new k) refl
    where
      go : (t : Bool) → is_among new k ≡ t → is_among new k ≡ false
      go false e = e
      go true e = absurd (true≢false (sym i ∙ outside-tree s k good (fresh k e)))

  -- and the tree leaves none but those that go
  pub still-in : (k : ℕ) → is_inside s.past.config (here s) k ≡ true → is_among gone k ≡ false → is_inside s.past.config y k ≡ true
  still-in k i g = r.slots.reached k ∙ stays-in (is_among new k) (is_inside s.past.config (here s) k) (is_among gone k) i g

  pub among-gone : (k : ℕ) → is_inside s.past.config (here s) k ≡ true → is_inside s.past.config y k ≡ false → is_among gone k ≡ true
  among-gone k i out = go (is_among gone k) refl
    where
      go : (t : Bool) → is_among gone k ≡ t → is_among gone k ≡ true
      go true e = e
      go false e = absurd (true≢false (sym (still-in k i e) ∙ out))

  -- where all of those stand above leaves, each leaf stays
  pub leaves-stay : ((k : ℕ) → is_among gone k ≡ true → 0 < (form_at s.past.config (here s)).level k) → (k : ℕ) → IsLeafNow s k → is_inside s.past.config y k ≡ true
  leaves-stay high k leaf = go (is_among gone k) refl
    where
      go : (t : Bool) → is_among gone k ≡ t → is_inside s.past.config y k ≡ true
      go false e = still-in k (leaf-inside s k leaf) e
      go true e = absurd (omega (arith, high k e, leaf-level s k leaf))

  pub is-gone : (k : ℕ) → is_inside s.past.config (here s) k ≡ true → is_among gone k ≡ true → is_inside s.past.config y k ≡ false
  is-gone k i g = r.slots.reached k ∙ neither (is_among new k) (is_inside s.past.config (here s) k) (is_among gone k) (old k i) g
