-- The laws of a swap on an inner node, and of how a node's words stand.
use Rattle.std.proofs.Common.{◌≡◌, ◌≢◌, ℕ, ◌+◌, ◌<◌, ◌≤◌, false, List, arith, refl, inl, inr, Option}
use Rattle.std.specs.Prelude.{nat_lt, None}
use Rattle.std.proofs.lemmas.Bool.Decides.{nat_tests}
use Rattle.std.proofs.lemmas.Bool.{cases_lt}
use Rattle.bz_layout.specs.declared.sizes.TheConstants.{META_AT}
use Rattle.bz_slotted.specs.InnerChanges.{PointerSwap, ChangesChild, PointerSwapChangesChild, StandingIsQuiet}
use Rattle.bz_slotted.specs.Page.{extent_of, page}
use Rattle.bz_slotted.specs.Readers.{count_of, child_of, key_of}
use Rattle.bz_slotted.specs.Records.{pointer_at}
use Rattle.bz_slotted.specs.Rules.{node_fault}
use Rattle.bz_slotted.specs.Whole.{Whole, WholeInner}
use Rattle.bz_slotted.proofs.Faults.{whole-none, none-whole, inner-whole-none, none-inner-whole, held-visible}
use Rattle.bz_slotted.proofs.Honest.{lt-t}
use Rattle.bz_slotted.proofs.Pointers.{plain_key-kept, stands-inner, key-stays, pointer-new, pointer-other, whole-stays}
use Rattle.bz_slotted.proofs.Words.{plain_key-same, plain_payload-same}

pub ge-t : (a b : ℕ) → b ≤ a → nat_lt a b ≡ false
ge-t a b h = grind (arith, nat_tests)

module _ (nodes : ℕ) (r s n m : ℕ → ℕ) (l : ℕ) (lo hi : Option (List ℕ)) (i c : ℕ) (w : WholeInner nodes r (page n) l lo hi) (x : PointerSwap nodes r s n m i c) where
  child-new : child_of m i ≡ c
  unfolding child_of
  child-new = rw (lt-t i (page m).count (omega (arith, x.inside, x.count)), pointer-new nodes r n l lo hi w s m i c x) (omega arith)

  child-other : (j : ℕ) → j ≢ i → child_of m j ≡ child_of n j
  unfolding child_of
  child-other j ne = elim (cases_lt j (page n).count) [
    | inl less ↦ rw (lt-t j (page m).count (omega (arith, x.count)), lt-t j (page n).count less, pointer-other nodes r n l lo hi w s m i c x j less ne) refl
    | inr more ↦ rw (ge-t j (page m).count (omega (arith, x.count)), ge-t j (page n).count more) refl
  ]

  key-kept : (j : ℕ) → key_of m j ≡ key_of n j
  unfolding key_of
  key-kept j = elim (cases_lt j (page n).count) [
    | inl less ↦ rw (lt-t j (page m).count (omega (arith, x.count)), lt-t j (page n).count less) (key-stays nodes r n l lo hi w s m i c x j less)
    | inr more ↦ rw (ge-t j (page m).count (omega (arith, x.count)), ge-t j (page n).count more) refl
  ]

  pub child-changes : 0 < l → ChangesChild nodes s n m l lo hi i c
  unfolding count_of
  child-changes pos = record {
    none = none-inner-whole nodes s m l lo hi pos (whole-stays nodes r n l lo hi w s m i c x);
    count = x.count;
    child = child-new;
    others = child-other;
    keys = key-kept;
  }

pub pointer-swap-changes : PointerSwapChangesChild
pointer-swap-changes nodes r s n m l lo hi i c pos fault x = child-changes nodes r s n m l lo hi i c (inner-whole-none nodes r n l lo hi pos fault) x pos

leaf-stands : (r s n : ℕ → ℕ) (lo hi : Option (List ℕ)) → Whole r (page n) lo hi → ((k : ℕ) → META_AT + (page n).count ≤ k → s k ≡ r k) → Whole s (page n) lo hi
leaf-stands r s n lo hi w h = record {
  level = w.level;
  fences = w.fences;
  filled = w.filled;
  used = w.used;
  lengths = w.lengths;
  inside = w.inside;
  apart = w.apart;
  order = w.order;
  range = w.range;
  distinct = w.distinct;
  key = λ j lj v. plain_key-same r s n n (extent_of ((page n).meta j)) (λ k a b. h k (omega (arith, w.filled.room, (w.inside j lj (held-visible ((page n).meta j) v)).starts))) (λ k a b. refl) (w.key j lj v);
  payload = λ j lj v. plain_payload-same r s n n (extent_of ((page n).meta j)) (λ k a b. h k (omega (arith, w.filled.room, (w.inside j lj (held-visible ((page n).meta j) v)).starts))) (λ k a b. refl) (w.payload j lj v);
}

inner-stands : (nodes : ℕ) (r s n : ℕ → ℕ) (l : ℕ) (lo hi : Option (List ℕ)) → WholeInner nodes r (page n) l lo hi → ((k : ℕ) → META_AT + (page n).count ≤ k → ((j : ℕ) → j < (page n).count → k ≢ pointer_at (page n) j) → s k ≡ r k) → WholeInner nodes s (page n) l lo hi
inner-stands nodes r s n l lo hi w h = record {
  level = w.level;
  fences = w.fences;
  filled = w.filled;
  settled = w.settled;
  shows = w.shows;
  lengths = w.lengths;
  inside = w.inside;
  apart = w.apart;
  rise = w.rise;
  above = w.above;
  below = w.below;
  links = w.links;
  key = λ j pos lj. plain_key-kept r s n n (extent_of ((page n).meta j)) (stands-inner nodes r n l lo hi w s h j lj) (λ k a b. refl) (w.key j pos lj);
}

pub standing-quiet : StandingIsQuiet
standing-quiet nodes r s n l lo hi fault h = elim (cases_lt 0 l) [
  | inl pos ↦ none-inner-whole nodes s n l lo hi pos (inner-stands nodes r s n l lo hi (inner-whole-none nodes r n l lo hi pos fault) (λ k a off. h k a (λ p. off)))
  | inr none ↦ let e : l ≡ 0 = omega arith in
      let f : node_fault nodes r n 0 lo hi ≡ None = rw e at fault in
      rw e (none-whole nodes s n lo hi (leaf-stands r s n lo hi (whole-none nodes r n lo hi f) (λ k a. h k a (λ p. absurd (omega arith)))))
]
