-- What a comparison of two keys says.
use Rattle.std.proofs.Common.{◌≡◌, ℕ, true, false, List, refl}
use Rattle.std.specs.Cmp.Lexicographic.{slice_cmp}
use Rattle.std.specs.Ordering.{nat_cmp}
use Rattle.std.specs.declared.cmp.Ordering.TheVariants.{Less, Equal, Greater}
use Rattle.std.proofs.lemmas.Cmp.{nat_list_cmp_total, tied_back}
use Rattle.bz_tree.specs.Order.{is_before}

module _ (a b : List ℕ) where
  pub less-before : slice_cmp nat_cmp a b ≡ Less → is_before a b ≡ true
  unfolding is_before
  less-before e = rw e refl

  pub greater-after : slice_cmp nat_cmp a b ≡ Greater → is_before b a ≡ true
  unfolding is_before
  greater-after e = rw (nat_list_cmp_total.antisymm b a, e) refl

  pub equal-not-before : slice_cmp nat_cmp a b ≡ Equal → is_before a b ≡ false
  unfolding is_before
  equal-not-before e = rw e refl

  pub equal-not-after : slice_cmp nat_cmp a b ≡ Equal → is_before b a ≡ false
  unfolding is_before
  equal-not-after e = rw (tied_back nat_list_cmp_total a b e) refl
