-- Records that rise do so where each rises above the last visible one before it, and have different keys.
use Rattle.std.proofs.Common.{◌≡◌, ℕ, zero, suc, ◌+◌, ◌<◌, ◌≤◌, ◌&&◌, Bool, true, false, arith, refl, sym, ap, subst, ◌∙◌, inl, inr}
use Rattle.std.proofs.lemmas.Bool.{true≢false, cases_eq, cases_lt}
use Rattle.bz_tree.proofs.OrderLaws.{before-irreflexive, before-trans}
use Rattle.bz_tree.specs.Order.{is_before}
use Rattle.std.specs.Prelude.{◌||◌, nat_le}
use Rattle.std.proofs.lemmas.Bool.Decides.{nat_tests}
use Rattle.bz_slotted.specs.Page.{visible, held, extent_of, Page}
use Rattle.bz_slotted.specs.Records.{key_at, weight}
use Rattle.bz_slotted.specs.Rules.{order_test, distinct_test, apart_test}
use Rattle.bz_slotted.specs.Reads.{BeginsAbove}
use Rattle.bz_slotted.specs.Tests.{every, every_two, implies}
use Rattle.bz_slotted.proofs.KeyTests.{Decides-order, Decides-distinct}
use Rattle.bz_slotted.proofs.Loops.{every-fails}

pub every-all : (p : ℕ → Bool) (n : ℕ) → ((k : ℕ) → k < n → p k ≡ true) → every n p ≡ true
unfolding every
every-all p zero each = refl
every-all p (suc n) each = rw (each n (omega arith), every-all p n (λ k l. each k (omega arith))) refl

pub every-at : (p : ℕ → Bool) (n k : ℕ) → every n p ≡ true → k < n → p k ≡ true
unfolding every
every-at p zero k t l = absurd (omega arith)
every-at p (suc n) k t l = go (p n) refl t (every-at p n k)
  where
    go : (b : Bool) → p n ≡ b → b && every n p ≡ true → (every n p ≡ true → k < n → p k ≡ true) → p k ≡ true
    go true e r rest = elim (cases_eq k n) [ inl q ↦ ap p q ∙ e | inr ne ↦ rest r (omega (arith, ne)) ]
    go false e r rest = absurd (true≢false (sym r))

-- two records that rise, with the later one given
pub rises : (p : Page) (n i j : ℕ) → every_two n (order_test p) ≡ true → i < j → j < n → order_test p i j ≡ true
rises p n i j t less within = every-at (λ k. order_test p k j) j i (every-at (λ m. every m (λ k. order_test p k m)) n j t within) less

-- one that is not visible rises above all, and all above it
hidden : (p : Page) (k j : ℕ) → visible (p.meta k) ≡ false → order_test p k j ≡ true
hidden p k j v = (Decides-order p k j).1 (λ a b. absurd (true≢false (sym a ∙ v)))

pub after-none : (p : Page) (j : ℕ) → ((k : ℕ) → k < j → visible (p.meta k) ≡ false) → every j (λ i. order_test p i j) ≡ true
after-none p j each = every-all (λ i. order_test p i j) j (λ k l. hidden p k j (each k l))

pub after-last : (p : Page) (i j : ℕ) (b : Bool) → every_two j (order_test p) ≡ true → i < j → visible (p.meta i) ≡ true → ((k : ℕ) → i + 1 ≤ k → k < j → visible (p.meta k) ≡ false) → b ≡ order_test p i j →
    b ≡ every j (λ k. order_test p k j)
after-last p i j b rise less shown each is = go b is
  where
    through : order_test p i j ≡ true → (k : ℕ) → k < j → order_test p k j ≡ true
    through t k l = elim (cases_lt k i) [
      | inl below ↦ (Decides-order p k j).1 (λ a v. before-trans (key_at p k) (key_at p i) (key_at p j) ((Decides-order p k i).0 (rises p j k i rise below less) a shown) ((Decides-order p i j).0 t shown v))
      | inr past ↦ elim (cases_eq k i) [ inl e ↦ ap (λ m. order_test p m j) e ∙ t | inr ne ↦ hidden p k j (each k (omega (arith, ne)) l) ]
    ]

    go : (a : Bool) → a ≡ order_test p i j → a ≡ every j (λ k. order_test p k j)
    go true e = sym (every-all (λ k. order_test p k j) j (through (sym e)))
    go false e = sym (every-fails (λ k. order_test p k j) j i less (sym e))

-- keys that rise differ
pub rising-differ : (p : Page) (n : ℕ) → every_two n (order_test p) ≡ true → every n (λ j. every j (λ i. distinct_test p i j)) ≡ true
rising-differ p n rise = every-all (λ j. every j (λ i. distinct_test p i j)) n (λ j l. every-all (λ i. distinct_test p i j) j (λ i less. (Decides-distinct p i j).1 (λ a b same.
    true≢false (sym ((Decides-order p i j).0 (rises p n i j rise less l) a b) ∙ (ap (λ k. is_before k (key_at p j)) same ∙ before-irreflexive (key_at p j))))))

-- a record that ends where those before it begin shares no word with them
pub ends-apart : (p : Page) (j place : ℕ) → BeginsAbove p j place → (held (p.meta j) ≡ true → (extent_of (p.meta j)).offset + weight (p.meta j) ≤ place) → true ≡ every j (λ i. apart_test p i j)
ends-apart p j place above ends = sym (every-all (λ i. apart_test p i j) j each)
  where
    later : (a b : Bool) → b ≡ true → a || b ≡ true
    later true b e = refl
    later false b e = e

    go : (i : ℕ) → i < j → (a : Bool) → held (p.meta i) ≡ a → (b : Bool) → held (p.meta j) ≡ b → implies a (implies b (nat_le ((extent_of (p.meta i)).offset + weight (p.meta i)) (extent_of (p.meta j)).offset
        || nat_le ((extent_of (p.meta j)).offset + weight (p.meta j)) (extent_of (p.meta i)).offset)) ≡ true
    go i less false e b f = refl
    go i less true e false f = refl
    go i less true e true f =
        let x : (extent_of (p.meta j)).offset + weight (p.meta j) ≤ place = ends f in
        let y : place ≤ (extent_of (p.meta i)).offset = above i less e in
        later _ _ (below _ place _ x y)
      where
        below : (a m b : ℕ) → a ≤ m → m ≤ b → nat_le a b ≡ true
        below a m b h g = grind (arith, nat_tests)

    each : (i : ℕ) → i < j → apart_test p i j ≡ true
    each i less = go i less (held (p.meta i)) refl (held (p.meta j)) refl

pub begins-more : (p : Page) (j place next : ℕ) → BeginsAbove p j place → next ≤ place → (held (p.meta j) ≡ true → next ≤ (extent_of (p.meta j)).offset) → BeginsAbove p (j + 1) next
begins-more p j place next above less own k l h = elim (cases_eq k j) [
  | inl e ↦ subst (λ m. next ≤ (extent_of (p.meta m)).offset) (sym e) (own (ap (λ m. held (p.meta m)) (sym e) ∙ h))
  | inr ne ↦ let y : place ≤ (extent_of (p.meta k)).offset = above k (omega (arith, ne)) h in omega arith
]
