-- Records in the order of their keys that lie between two bounds, and two such lists that a bound parts.
use Rattle.std.proofs.Common.{◌≡◌, ℕ, Bool, true, false, not, List, [], ◌∷◌, ◌++◌, refl, Option}
use Rattle.std.specs.Prelude.{Some}
use Rattle.std.specs.Cmp.Lexicographic.{slice_cmp}
use Rattle.std.specs.FinMap.{is_sorted}
use Rattle.std.specs.FinMap.Entries.{below_all}
use Rattle.std.specs.Ordering.{nat_cmp, is_lt}
use Rattle.bz_tree.specs.Content.{Pairs}
use Rattle.bz_tree.specs.Order.{is_before, is_at_least, is_above, is_below}
use Rattle.bz_tree.proofs.OrderLaws.{before-after, below-earlier, at_least-later}
use Rattle.bz_judge.proofs.AllKeys.{KeysAre, keys-join, keys-so}
use Rattle.bz_judge.proofs.Scanned.{Both, both}

-- a key before a bound is before each key that is not
before-late : (a b c : List ℕ) → is_before a b ≡ true → not (is_before c b) ≡ true → is_before a c ≡ true
before-late a b c less late = go (is_before a c) refl (is_before c b) refl late
  where
    go : (x : Bool) → is_before a c ≡ x → (y : Bool) → is_before c b ≡ y → not y ≡ true → is_before a c ≡ true
    go true e y f h = e
    go false e true f h = absurd (cc)
    go false e false f h = let t : is_before c b ≡ true = before-after c a b e less in absurd (cc)

below-join : (b key : List ℕ) (xs ys : Pairs) → is_before key b ≡ true → below_all (slice_cmp nat_cmp) key xs ≡ true → KeysAre (λ k. is_at_least k (Some b) ≡ true) ys → below_all (slice_cmp nat_cmp) key (xs ++ ys) ≡ true
unfolding is_before
below-join b key [] [] less h late = refl
below-join b key [] (y ∷ ys) less h late = rw (before-late key b y.0 less late.0, below-join b key [] ys less refl late.1) refl
below-join b key (x ∷ xs) ys less h late =
    let t : Both (is_lt (slice_cmp nat_cmp key x.0)) (below_all (slice_cmp nat_cmp) key xs) = both _ _ h in
    rw (t.first, below-join b key xs ys less t.second late) refl

sorted-join : (b : List ℕ) (xs ys : Pairs) → is_sorted (slice_cmp nat_cmp) xs ≡ true → is_sorted (slice_cmp nat_cmp) ys ≡ true → KeysAre (λ k. is_below k (Some b) ≡ true) xs → KeysAre (λ k. is_at_least k (Some b) ≡ true) ys →
    is_sorted (slice_cmp nat_cmp) (xs ++ ys) ≡ true
sorted-join b [] ys h g early late = g
sorted-join b (x ∷ xs) ys h g early late =
    let t : Both (below_all (slice_cmp nat_cmp) x.0 xs) (is_sorted (slice_cmp nat_cmp) xs) = both _ _ h in
    rw (below-join b x.0 xs ys early.0 t.first late, sorted-join b xs ys t.second g early.1 late) refl

-- records in the order of their keys, which lie between two bounds
pub record Lies (lo hi : Option (List ℕ)) (xs : Pairs) : Type 0 where
  pub sorted : is_sorted (slice_cmp nat_cmp) xs ≡ true
  pub low : KeysAre (λ key. is_at_least key lo ≡ true) xs
  pub high : KeysAre (λ key. is_below key hi ≡ true) xs

pub lies-join : (low high : Option (List ℕ)) (b : List ℕ) (xs ys : Pairs) → Lies low (Some b) xs → Lies (Some b) high ys → is_above b low ≡ true → is_below b high ≡ true → Lies low high (xs ++ ys)
lies-join low high b xs ys h g above below = record {
  sorted = sorted-join b xs ys h.sorted g.sorted h.high g.low;
  low = keys-join _ xs ys h.low (keys-so _ _ ys (λ key late. at_least-later key b low late above) g.low);
  high = keys-join _ xs ys (keys-so _ _ xs (λ key early. below-earlier key b high early below) h.high) g.high;
}
