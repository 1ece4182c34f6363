-- The descent for a key ends at the one reached leaf in whose range the key is.
use Rattle.std.proofs.Common.{◌≡◌, ◌≢◌, ℕ, zero, suc, ◌+◌, ◌-◌, ◌<◌, ◌≤◌, ◌==◌, if◌then◌else◌, Bool, true, false, List, arith, refl, sym, ap, subst, ◌∙◌, inl, inr, Option}
use Rattle.std.specs.Prelude.{Some, None}
use Rattle.std.proofs.lemmas.Bool.Decides.{nat_tests}
use Rattle.std.proofs.lemmas.Bool.{cases_eq, cases_lt}
use Rattle.bz_tree.proofs.OrderLaws.{before-trans}
use Rattle.bz_tree.specs.Descent.{choice, descend, leaf_of, pick}
use Rattle.bz_tree.specs.Form.{Fits, Form, Hangs, Holds, IsHonest, Rises, Stands}
use Rattle.bz_tree.specs.Order.{is_above, is_at_least, is_before, is_below}
use Rattle.bz_tree.specs.View.{View, high_at, low_at}

pub pick-le : (v : View) (k : ℕ) (key : List ℕ) (n : ℕ) → pick v k key n ≤ n
unfolding pick
pick-le v k key zero = omega arith
pick-le v k key (suc n) = grind (arith, pick-le v k key n)

pub pick-low : (v : View) (k : ℕ) (key : List ℕ) (n : ℕ) → 0 < pick v k key n → is_before key (v.key k (pick v k key n)) ≡ false
unfolding pick
pick-low v k key zero h = absurd (omega arith)
pick-low v k key (suc n) h = go (is_before key (v.key k (suc n))) refl (pick-low v k key n) h
  where
    go : (b : Bool) → is_before key (v.key k (suc n)) ≡ b → (0 < pick v k key n → is_before key (v.key k (pick v k key n)) ≡ false) → 0 < (if b then pick v k key n else suc n) → is_before key (v.key k (if b then pick v k key n else suc n)) ≡ false
    go true e ih h = ih h
    go false e ih h = e

pub pick-high : (v : View) (k : ℕ) (key : List ℕ) (n j : ℕ) → pick v k key n < j → j ≤ n → is_before key (v.key k j) ≡ true
unfolding pick
pick-high v k key zero j h g = absurd (omega arith)
pick-high v k key (suc n) j h g = go (is_before key (v.key k (suc n))) refl (pick-high v k key n j) h
  where
    go : (b : Bool) → is_before key (v.key k (suc n)) ≡ b → (pick v k key n < j → j ≤ n → is_before key (v.key k j) ≡ true) → (if b then pick v k key n else suc n) < j → is_before key (v.key k j) ≡ true
    go true e ih h = elim (cases_eq j (suc n)) [ inl q ↦ rw q e | inr ne ↦ ih h (omega arith) ]
    go false e ih h = absurd (omega arith)

-- the child that is chosen for a key holds it
pub chosen-low : (v : View) (k : ℕ) (key : List ℕ) (lo : Option (List ℕ)) → is_at_least key lo ≡ true → is_at_least key (low_at v k lo (choice v k key)) ≡ true
chosen-low v k key lo h = go (choice v k key) (pick-low v k key (v.count k - 1))
  where
    go : (i : ℕ) → (0 < i → is_before key (v.key k i) ≡ false) → is_at_least key (low_at v k lo i) ≡ true
    go zero e = h
    go (suc i) e = grind (arith, e (omega arith))

pub chosen-high : (v : View) (k : ℕ) (key : List ℕ) (hi : Option (List ℕ)) → 0 < v.count k → is_below key hi ≡ true → is_below key (high_at v k hi (choice v k key)) ≡ true
chosen-high v k key hi some h = go (choice v k key + 1 == v.count k) refl
  where
    go : (b : Bool) → (choice v k key + 1 == v.count k) ≡ b → is_below key (if b then hi else Some (v.key k (choice v k key + 1))) ≡ true
    go true e = h
    go false e = pick-high v k key (v.count k - 1) (choice v k key + 1) (omega arith) (grind (arith, nat_tests, pick-le v k key (v.count k - 1)))

-- a reached slot is the superblock, or an inner slot, or a leaf, and keys rise in inner slots
pub rises : (v : View) (f : Form) (k : ℕ) → IsHonest v → Fits v f → f.inside k ≡ true → 0 < f.level k → Rises v k (f.low k) (f.high k)
rises v f k ho g i l = elim (cases_eq k v.top) [ inl e ↦ only e | inr ne ↦ ho.rises k (f.level k) (f.low k) (f.high k) ne l (g.whole k i ne) ]
  where
    only : k ≡ v.top → Rises v k (f.low k) (f.high k)
    only e = record {
      some = rw e (omega (arith, g.top_one));
      rise = λ i j a b c. absurd (omega (arith, g.top_one, subst (λ t. j < v.count t) e c));
      first = λ i a c. absurd (omega (arith, g.top_one, subst (λ t. i < v.count t) e c));
      last = λ i a c. absurd (omega (arith, g.top_one, subst (λ t. i < v.count t) e c));
    }

pub descends : (v : View) (f : Form) (key : List ℕ) (l k : ℕ) → IsHonest v → Fits v f → f.inside k ≡ true → f.level k ≡ l → is_at_least key (f.low k) ≡ true → is_below key (f.high k) ≡ true → Holds f key (descend v key l k)
unfolding descend
descends v f key zero k ho g i l a b = record { inside = i; leaf = l; low = a; high = b }
descends v f key (suc n) k ho g i l a b =
    let inner : 0 < f.level k = omega arith in
    let r = rises v f k ho g i inner in
    let some : 0 < v.count k = r.some in
    let s : Stands v f k (choice v k key) (v.child k (choice v k key)) = g.down k (choice v k key) i inner (omega (arith, pick-le v k key (v.count k - 1))) in
    descends v f key n (v.child k (choice v k key)) ho g s.inside (omega (arith, s.level))
    (rw s.low (chosen-low v k key (f.low k) a)) (rw s.high (chosen-high v k key (f.high k) some b))

-- the leaf of a key is reached, and its range holds the key
pub leaf-found : (v : View) (f : Form) (key : List ℕ) → IsHonest v → Fits v f → Holds f key (leaf_of v key)
leaf-found v f key ho g = descends v f key v.height v.top ho g g.top g.height (rw g.top_low refl) (rw g.top_high refl)

from-low : (v : View) (k : ℕ) (key : List ℕ) (lo : Option (List ℕ)) (i : ℕ) → (0 < i → is_above (v.key k i) lo ≡ true) → is_at_least key (low_at v k lo i) ≡ true → is_at_least key lo ≡ true
from-low v k key None i h a = refl
from-low v k key (Some b) zero h a = a
from-low v k key (Some b) (suc i) h a = grind (arith, before-trans key b (v.key k (suc i)), h (omega arith))

from-high : (v : View) (k : ℕ) (key : List ℕ) (hi : Option (List ℕ)) (i : ℕ) → (i + 1 < v.count k → is_below (v.key k (i + 1)) hi ≡ true) → i < v.count k → is_below key (high_at v k hi i) ≡ true → is_below key hi ≡ true
from-high v k key None i h l a = refl
from-high v k key (Some b) i h l a = go (i + 1 == v.count k) refl a
  where
    go : (t : Bool) → (i + 1 == v.count k) ≡ t → is_below key (if t then Some b else Some (v.key k (i + 1))) ≡ true → is_before key b ≡ true
    go true e a = a
    go false e a = before-trans key (v.key k (i + 1)) b a (h (grind (arith, nat_tests)))

-- of two children of a slot the left one does not hold a key that the right one holds
apart : (v : View) (k : ℕ) (key : List ℕ) (lo hi : Option (List ℕ)) (i j : ℕ) → Rises v k lo hi → j < v.count k → is_at_least key (low_at v k lo j) ≡ true → is_below key (high_at v k hi i) ≡ true → j ≤ i
apart v k key lo hi i j r lj a b = elim (cases_lt i j) [ inl lt ↦ absurd (go lt (j == 0) (i + 1 == v.count k) refl refl a b) | inr le ↦ le ]
  where
    go : i < j → (s t : Bool) → (j == 0) ≡ s → (i + 1 == v.count k) ≡ t → is_at_least key (if s then lo else Some (v.key k j)) ≡ true → is_below key (if t then hi else Some (v.key k (i + 1))) ≡ true → ⊥
    go l true t e d a b = grind (arith, nat_tests)
    go l false true e d a b = grind (arith, nat_tests)
    go l false false e d a b = elim (cases_eq (i + 1) j) [ inl q ↦ grind (arith, ap (λ (x : ℕ). is_before key (v.key k x)) q) | inr ne ↦ grind (arith, before-trans key (v.key k (i + 1)) (v.key k j) b (r.rise (i + 1) j (omega arith) (omega arith) lj)) ]

pub record Home (v : View) (f : Form) (k : ℕ) : Type 0 where
  pub hangs : Hangs v f k
  pub stands : Stands v f (f.up k) (f.index k) k

pub home : (v : View) (f : Form) (k : ℕ) → Fits v f → f.inside k ≡ true → k ≢ v.top → Home v f k
home v f k g i ne =
    let h : Hangs v f k = g.hangs k i ne in
    record { hangs = h; stands = subst (λ c. Stands v f (f.up k) (f.index k) c) h.child (g.down (f.up k) (f.index k) h.inside h.inner h.within) }

up-low : (v : View) (f : Form) (key : List ℕ) (k : ℕ) → IsHonest v → Fits v f → f.inside k ≡ true → k ≢ v.top → is_at_least key (f.low k) ≡ true → is_at_least key (f.low (f.up k)) ≡ true
up-low v f key k ho g i ne a =
    let h : Home v f k = home v f k g i ne in
    let r : Rises v (f.up k) (f.low (f.up k)) (f.high (f.up k)) = rises v f (f.up k) ho g h.hangs.inside h.hangs.inner in
    from-low v (f.up k) key (f.low (f.up k)) (f.index k) (λ p. r.first (f.index k) p h.hangs.within) (rw (← h.stands.low) a)

up-high : (v : View) (f : Form) (key : List ℕ) (k : ℕ) → IsHonest v → Fits v f → f.inside k ≡ true → k ≢ v.top → is_below key (f.high k) ≡ true → is_below key (f.high (f.up k)) ≡ true
up-high v f key k ho g i ne a =
    let h : Home v f k = home v f k g i ne in
    let r : Rises v (f.up k) (f.low (f.up k)) (f.high (f.up k)) = rises v f (f.up k) ho g h.hangs.inside h.hangs.inner in
    from-high v (f.up k) key (f.high (f.up k)) (f.index k) (λ p. r.last (f.index k + 1) (omega arith) p) h.hangs.within (rw (← h.stands.high) a)

-- two reached slots of one level that hold a key are one
pub unique : (v : View) (f : Form) (key : List ℕ) (d a b : ℕ) → IsHonest v → Fits v f → f.inside a ≡ true → f.inside b ≡ true → f.level a + d ≡ v.height → f.level b + d ≡ v.height
    → is_at_least key (f.low a) ≡ true → is_below key (f.high a) ≡ true → is_at_least key (f.low b) ≡ true → is_below key (f.high b) ≡ true → a ≡ b
unique v f key zero a b ho g ia ib la lb al ah bl bh = is_top a ia (omega arith) ∙ sym (is_top b ib (omega arith))
  where
    is_top : (k : ℕ) → f.inside k ≡ true → f.level k ≡ v.height → k ≡ v.top
    is_top k i l = elim (cases_eq k v.top) [ inl e ↦ e | inr ne ↦ absurd (omega (arith, (g.hangs k i ne).lower)) ]
unique v f key (suc d) a b ho g ia ib la lb al ah bl bh =
    let na : a ≢ v.top = λ e. absurd (omega (arith, g.height, ap f.level e)) in
    let nb : b ≢ v.top = λ e. absurd (omega (arith, g.height, ap f.level e)) in
    let ha : Home v f a = home v f a g ia na in
    let hb : Home v f b = home v f b g ib nb in
    let same : f.up a ≡ f.up b = unique v f key d (f.up a) (f.up b) ho g ha.hangs.inside hb.hangs.inside (omega (arith, ha.stands.level)) (omega (arith, hb.stands.level))
    (up-low v f key a ho g ia na al) (up-high v f key a ho g ia na ah) (up-low v f key b ho g ib nb bl) (up-high v f key b ho g ib nb bh) in
    let r : Rises v (f.up a) (f.low (f.up a)) (f.high (f.up a)) = rises v f (f.up a) ho g ha.hangs.inside ha.hangs.inner in
    let sb : Stands v f (f.up a) (f.index b) b = subst (λ p. Stands v f p (f.index b) b) (sym same) hb.stands in
    let wb : f.index b < v.count (f.up a) = subst (λ p. f.index b < v.count p) (sym same) hb.hangs.within in
    let le : f.index b ≤ f.index a = apart v (f.up a) key _ (f.high (f.up a)) (f.index a) (f.index b) r wb (rw (← sb.low) bl) (rw (← ha.stands.high) ah) in
    let ge : f.index a ≤ f.index b = apart v (f.up a) key (f.low (f.up a)) (f.high (f.up a)) (f.index b) (f.index a) r ha.hangs.within (rw (← ha.stands.low) al) (rw (← sb.high) bh) in
    let i : f.index a ≡ f.index b = omega arith in
    sym ha.hangs.child ∙ (λ t. v.child (same t) (i t)) ∙ hb.hangs.child

-- the leaf of a key is the one reached leaf that holds it
pub leaf-unique : (v : View) (f : Form) (key : List ℕ) (k : ℕ) → IsHonest v → Fits v f → Holds f key k → leaf_of v key ≡ k
leaf-unique v f key k ho g h =
    let l : Holds f key (leaf_of v key) = leaf-found v f key ho g in
    unique v f key v.height (leaf_of v key) k ho g l.inside h.inside (omega (arith, l.leaf)) (omega (arith, h.leaf)) l.low l.high h.low h.high
