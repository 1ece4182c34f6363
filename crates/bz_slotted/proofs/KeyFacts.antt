-- Keys that rise differ, and the test of two keys tells whether they are one.
use Rattle.std.proofs.Common.{◌<◌, [], ◌∷◌, length, arith, ◌≡◌, ◌≢◌, ℕ, Bool, true, false, List, refl, sym, ap, ◌∙◌}
use Rattle.std.specs.Prelude.{bytes_eq}
use Rattle.std.proofs.lemmas.Bool.{true≢false}
use Rattle.std.proofs.lemmas.Cmp.{nat_list_cmp_total, tied_itself}
use Rattle.std.proofs.lemmas.Slice.Eq.{bytes_eq-Decides}
use Rattle.bz_tree.specs.Order.{is_before}

pub is_before-itself : (a : List ℕ) → is_before a a ≡ false
unfolding is_before
is_before-itself a = rw (tied_itself nat_list_cmp_total a) refl

pub is_before-other : (a b : List ℕ) → is_before a b ≡ true → a ≢ b
is_before-other a b h e = true≢false (sym h ∙ ap (is_before a) (sym e) ∙ is_before-itself a)

pub same-key : (a b : List ℕ) → a ≡ b → bytes_eq a b ≡ true
same-key a b e = (bytes_eq-Decides a b).1 e

pub other-key : (a b : List ℕ) → a ≢ b → bytes_eq a b ≡ false
other-key a b n = go (bytes_eq a b) refl
  where
    go : (t : Bool) → bytes_eq a b ≡ t → bytes_eq a b ≡ false
    go true q = absurd (n ((bytes_eq-Decides a b).0 q))
    go false q = q

-- no bytes are before some bytes, and none are before no bytes
pub nil-before : (key : List ℕ) → 0 < length key → is_before [] key ≡ true
unfolding is_before
nil-before [] h = absurd (omega arith)
nil-before (b ∷ bs) h = refl

pub before-nil : (key : List ℕ) → is_before key [] ≡ false
unfolding is_before
before-nil [] = refl
before-nil (b ∷ bs) = refl
