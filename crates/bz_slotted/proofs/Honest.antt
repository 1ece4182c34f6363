-- What no fault means for keys.
use Rattle.std.proofs.Common.{◌≡◌, ◌≢◌, ℕ, zero, suc, ◌<◌, ◌≤◌, ◌&&◌, if◌then◌else◌, Bool, true, false, List, arith, refl, subst, Option}
use Rattle.std.specs.Prelude.{nat_lt, bytes_eq, Some, None}
use Rattle.std.proofs.lemmas.Bool.Decides.{nat_tests}
use Rattle.std.proofs.lemmas.Slice.Eq.{bytes_eq-Decides}
use Rattle.bz_layout.specs.declared.sizes.TheConstants.{SHARED_WORDS}
use Rattle.bz_slotted.proofs.Lives.{live_to-le}
use Rattle.bz_tree.specs.Order.{is_within}
use Rattle.bz_word.specs.declared.meta.Meta.{Meta}
use Rattle.bz_slotted.specs.Laws.{RisesBetween}
use Rattle.bz_slotted.specs.Page.{visible, extent_of, page}
use Rattle.bz_slotted.specs.Readers.{count_of, child_of, key_of, found_of, live_of}
use Rattle.bz_slotted.specs.Records.{key_in, payload_in, search_to}
use Rattle.bz_slotted.specs.Rules.{node_fault}
use Rattle.bz_slotted.specs.Whole.{WholeInner}
use Rattle.bz_slotted.proofs.Faults.{whole-none, inner-whole-none}

pub lt-t : (a b : ℕ) → a < b → nat_lt a b ≡ true
lt-t a b h = grind (arith, nat_tests)

rises : (nodes : ℕ) (raw n : ℕ → ℕ) (l : ℕ) (lo hi : Option (List ℕ)) → WholeInner nodes raw (page n) l lo hi → RisesBetween nodes n lo hi
unfolding count_of key_of child_of
rises nodes raw n l lo hi w = record {
  some = w.settled.some;
  rise = λ i j pos less lj. rw (lt-t i (page n).count (omega arith), lt-t j (page n).count lj) (w.rise i j less lj);
  first = λ i pos li. rw (lt-t i (page n).count li) (w.above i pos li);
  last = λ i pos li. rw (lt-t i (page n).count li) (w.below i pos li);
  slots = λ i li. rw (lt-t i (page n).count li) (omega (arith, (w.links i li).some, (w.links i li).slot));
}

pub inner-rises : (nodes : ℕ) (raw n : ℕ → ℕ) (l : ℕ) (lo hi : Option (List ℕ)) → 0 < l → node_fault nodes raw n l lo hi ≡ None → RisesBetween nodes n lo hi
inner-rises nodes raw n l lo hi pos none = rises nodes raw n l lo hi (inner-whole-none nodes raw n l lo hi pos none)

-- a key that is found is in range, where the keys of all visible records are
finds : (n : ℕ → ℕ) (meta : ℕ → Meta) (key : List ℕ) (lo hi : Option (List ℕ)) (k : ℕ) → ((i : ℕ) → i < k → visible (meta i) ≡ true → is_within (key_in n (extent_of (meta i))) lo hi ≡ true) → search_to n meta key k ≢ None → is_within key lo hi ≡ true
unfolding search_to
finds n meta key lo hi zero h some = absurd (some refl)
finds n meta key lo hi (suc k) h some = go (visible (meta k)) refl (bytes_eq (key_in n (extent_of (meta k))) key) refl some (finds n meta key lo hi k (λ i l. h i (omega arith)))
  where
    go : (a : Bool) → visible (meta k) ≡ a → (b : Bool) → bytes_eq (key_in n (extent_of (meta k))) key ≡ b → ((if a && b then Some (payload_in n (extent_of (meta k))) else search_to n meta key k) ≢ None)
        → (search_to n meta key k ≢ None → is_within key lo hi ≡ true) → is_within key lo hi ≡ true
    go true v true e some ih = subst (λ x. is_within x lo hi ≡ true) ((bytes_eq-Decides (key_in n (extent_of (meta k))) key).0 e) (h k (omega arith) v)
    go true v false e some ih = ih some
    go false v b e some ih = ih some

pub found-holds : (nodes : ℕ) (raw n : ℕ → ℕ) (lo hi : Option (List ℕ)) (key : List ℕ) → node_fault nodes raw n 0 lo hi ≡ None → found_of n key ≢ None → is_within key lo hi ≡ true
unfolding found_of
found-holds nodes raw n lo hi key none some = finds n (page n).meta key lo hi (page n).count (whole-none nodes raw n lo hi none).range some

pub live-fits : (nodes : ℕ) (raw n : ℕ → ℕ) (lo hi : Option (List ℕ)) → node_fault nodes raw n 0 lo hi ≡ None → live_of n ≤ SHARED_WORDS
unfolding live_of
live-fits nodes raw n lo hi none = let w = whole-none nodes raw n lo hi none in omega (arith, live_to-le (page n).meta (page n).count, w.filled.room, w.filled.dead)
