-- No fault, and the rules as facts: both ways, for a leaf and for an inner node.
use Rattle.std.proofs.Common.{◌≡◌, ◌≢◌, ℕ, ◌<◌, ◌==◌, ◌&&◌, true, false, List, arith, refl, sym, inl, inr, Option}
use Rattle.std.specs.Prelude.{None}
use Rattle.std.specs.Bool.{Decides}
use Rattle.std.proofs.lemmas.Bool.{true≢false}
use Rattle.std.proofs.lemmas.Bool.Decides.{nat_tests, Decides-and}
use Rattle.bz_tree.specs.Order.{is_before, is_above, is_below, is_within}
use Rattle.bz_word.specs.declared.meta.Meta.{Meta}
use Rattle.bz_word.specs.declared.meta.Meta.TheVariants.{Unused, Reserved, Visible, Deleted}
use Rattle.bz_slotted.specs.Page.{visible, held, Page, page}
use Rattle.bz_slotted.specs.Records.{key_at, pointer_at}
use Rattle.bz_slotted.specs.Rules.{filled_test, settled_test, apart_test, leaf_record_test, inner_record_test, order_test, leaf_key_test, inner_key_test, distinct_test, child_test, leaf_tests, inner_tests, node_fault}
use Rattle.bz_slotted.specs.Tests.{first_of, every, every_two}
use Rattle.bz_slotted.specs.Whole.{Disjoint, IsPointer, Whole, WholeInner}
use Rattle.bz_slotted.proofs.KeyFacts.{is_before-other}
use Rattle.bz_slotted.proofs.Deciding.{Decides-every, Decides-every_two, any-two, passes, pass, at_end}
use Rattle.bz_slotted.proofs.FrontTests.{Decides-level, Decides-fences, Decides-filled, Decides-settled}
use Rattle.bz_slotted.proofs.RecordTests.{LeafRecord, Decides-leaf_record, InnerRecord, Decides-inner_record, Decides-apart}
use Rattle.bz_slotted.proofs.KeyTests.{Decides-order, Decides-leaf_key, Decides-inner_key, Decides-distinct, Decides-child}

pub held-visible : (m : Meta) → visible m ≡ true → held m ≡ true
unfolding held visible
held-visible Unused h = absurd (true≢false (sym h))
held-visible (Reserved e) h = absurd (true≢false (sym h))
held-visible (Visible e) h = refl
held-visible (Deleted k t) h = absurd (true≢false (sym h))

Apart : Page → ℕ → ℕ → Type 0
Apart p i j = held (p.meta i) ≡ true → held (p.meta j) ≡ true → Disjoint (p.meta i) (p.meta j)

apart-flip : (p : Page) (i j : ℕ) → Apart p i j → Apart p j i
unfolding Apart
apart-flip p i j h hj hi = elim (h hi hj) [ inl d ↦ inr d | inr d ↦ inl d ]

Decides-records : (raw : ℕ → ℕ) (p : Page) → Decides (every p.count (leaf_record_test raw p) && every_two p.count (apart_test p)) (((j : ℕ) → j < p.count → LeafRecord raw p j) × ((j : ℕ) → j < p.count → (i : ℕ) → i < j → Apart p i j))
unfolding Apart
Decides-records raw p = Decides-and (every p.count (leaf_record_test raw p)) (every_two p.count (apart_test p)) (Decides-every (leaf_record_test raw p) (LeafRecord raw p) (Decides-leaf_record raw p) p.count) (Decides-every_two (apart_test p) (Apart p) (Decides-apart p) p.count)

Decides-inner_records : (raw : ℕ → ℕ) (p : Page) → Decides (every p.count (inner_record_test raw p) && every_two p.count (apart_test p)) (((j : ℕ) → j < p.count → InnerRecord raw p j) × ((j : ℕ) → j < p.count → (i : ℕ) → i < j → Apart p i j))
unfolding Apart
Decides-inner_records raw p = Decides-and (every p.count (inner_record_test raw p)) (every_two p.count (apart_test p)) (Decides-every (inner_record_test raw p) (InnerRecord raw p) (Decides-inner_record raw p) p.count) (Decides-every_two (apart_test p) (Apart p) (Decides-apart p) p.count)

Rise : Page → ℕ → ℕ → Type 0
Rise p i j = visible (p.meta i) ≡ true → visible (p.meta j) ≡ true → is_before (key_at p i) (key_at p j) ≡ true

Decides-orders : (p : Page) → Decides (every_two p.sorted (order_test p)) ((j : ℕ) → j < p.sorted → (i : ℕ) → i < j → Rise p i j)
unfolding Rise
Decides-orders p = Decides-every_two (order_test p) (Rise p) (Decides-order p) p.sorted

Differ : Page → ℕ → ℕ → Type 0
Differ p i j = visible (p.meta i) ≡ true → visible (p.meta j) ≡ true → key_at p i ≢ key_at p j

differ-flip : (p : Page) (i j : ℕ) → Differ p i j → Differ p j i
unfolding Differ
differ-flip p i j h vj vi e = h vi vj (sym e)

Decides-keys : (p : Page) (lo hi : Option (List ℕ)) → Decides (every p.count (leaf_key_test p lo hi) && every_two p.count (distinct_test p))
    (((j : ℕ) → j < p.count → visible (p.meta j) ≡ true → is_within (key_at p j) lo hi ≡ true) × ((j : ℕ) → j < p.count → (i : ℕ) → i < j → Differ p i j))
unfolding Differ
Decides-keys p lo hi = Decides-and (every p.count (leaf_key_test p lo hi)) (every_two p.count (distinct_test p)) (Decides-every (leaf_key_test p lo hi) (λ j. visible (p.meta j) ≡ true → is_within (key_at p j) lo hi ≡ true) (Decides-leaf_key p lo hi) p.count) (Decides-every_two (distinct_test p) (Differ p) (Decides-distinct p) p.count)

Decides-inner_keys : (p : Page) (lo hi : Option (List ℕ)) → Decides (every p.count (inner_key_test p lo hi) && every_two p.count (distinct_test p))
    (((j : ℕ) → j < p.count → 0 < j → (is_above (key_at p j) lo ≡ true) × (is_below (key_at p j) hi ≡ true)) × ((j : ℕ) → j < p.count → (i : ℕ) → i < j → Differ p i j))
unfolding Differ
Decides-inner_keys p lo hi = Decides-and (every p.count (inner_key_test p lo hi)) (every_two p.count (distinct_test p)) (Decides-every (inner_key_test p lo hi) (λ j. 0 < j → (is_above (key_at p j) lo ≡ true) × (is_below (key_at p j) hi ≡ true)) (Decides-inner_key p lo hi) p.count) (Decides-every_two (distinct_test p) (Differ p) (Decides-distinct p) p.count)

leaf-none : (raw : ℕ → ℕ) (p : Page) (lo hi : Option (List ℕ)) → first_of (leaf_tests raw p lo hi) ≡ None → Whole raw p lo hi
unfolding Apart Rise Differ
leaf-none raw p lo hi none =
    let t1 = passes _ _ none in
    let t2 = passes _ _ t1.1 in
    let t3 = passes _ _ t2.1 in
    let t4 = passes _ _ t3.1 in
    let t5 = passes _ _ t4.1 in
    let t6 = passes _ _ t5.1 in
    let r = (Decides-records raw p).0 t4.0 in
    let k = (Decides-keys p lo hi).0 t6.0 in record {
      level = (Decides-level p 0).0 t1.0;
      fences = (Decides-fences p lo hi).0 t2.0;
      filled = (Decides-filled p).0 t3.0;
      used = λ j l. (r.0 j l).taken;
      lengths = λ j l. (r.0 j l).lengths;
      inside = λ j l. (r.0 j l).inside;
      apart = any-two (Apart p) p.count (apart-flip p) r.1;
      key = λ j l. (r.0 j l).key;
      payload = λ j l. (r.0 j l).payload;
      order = λ i j less l. (Decides-orders p).0 t5.0 j l i less;
      range = k.0;
      distinct = any-two (Differ p) p.count (differ-flip p) k.1;
    }

none-leaf : (raw : ℕ → ℕ) (p : Page) (lo hi : Option (List ℕ)) → Whole raw p lo hi → first_of (leaf_tests raw p lo hi) ≡ None
unfolding Apart Rise Differ
none-leaf raw p lo hi w =
    pass _ _ ((Decides-level p 0).1 w.level)
    (pass _ _ ((Decides-fences p lo hi).1 w.fences)
    (pass _ _ ((Decides-filled p).1 w.filled)
    (pass _ _ ((Decides-records raw p).1 (λ j l. record { taken = w.used j l; lengths = w.lengths j l; inside = w.inside j l; key = w.key j l; payload = w.payload j l }, λ j l i less. w.apart i j (omega arith) l (λ e. absurd (omega arith))))
    (pass _ _ ((Decides-orders p).1 (λ j l i less. w.order i j less l))
    (pass _ _ ((Decides-keys p lo hi).1 (w.range, λ j l i less. w.distinct i j (omega arith) l (λ e. absurd (omega arith))))
    at_end)))))

pub whole-none : (nodes : ℕ) (raw n : ℕ → ℕ) (lo hi : Option (List ℕ)) → node_fault nodes raw n 0 lo hi ≡ None → Whole raw (page n) lo hi
unfolding node_fault
whole-none nodes raw n lo hi h = leaf-none raw (page n) lo hi h

pub none-whole : (nodes : ℕ) (raw n : ℕ → ℕ) (lo hi : Option (List ℕ)) → Whole raw (page n) lo hi → node_fault nodes raw n 0 lo hi ≡ None
unfolding node_fault
none-whole nodes raw n lo hi w = none-leaf raw (page n) lo hi w

inner-none : (nodes : ℕ) (raw : ℕ → ℕ) (p : Page) (l : ℕ) (lo hi : Option (List ℕ)) → first_of (inner_tests nodes raw p l lo hi) ≡ None → WholeInner nodes raw p l lo hi
unfolding Apart Rise Differ
inner-none nodes raw p l lo hi none =
    let t1 = passes _ _ none in
    let t2 = passes _ _ t1.1 in
    let t3 = passes _ _ t2.1 in
    let t4 = passes _ _ t3.1 in
    let t5 = passes _ _ t4.1 in
    let t6 = passes _ _ t5.1 in
    let t7 = passes _ _ t6.1 in
    let s = (Decides-and (filled_test p) (settled_test p) (Decides-filled p) (Decides-settled p)).0 t3.0 in
    let r = (Decides-inner_records raw p).0 t4.0 in
    let k = (Decides-inner_keys p lo hi).0 t6.0 in
    let held_at = λ (j : ℕ) (lj : j < p.count). held-visible (p.meta j) (r.0 j lj).shows in record {
      level = (Decides-level p l).0 t1.0;
      fences = (Decides-fences p lo hi).0 t2.0;
      filled = s.0;
      settled = s.1;
      shows = λ j lj. (r.0 j lj).shows;
      lengths = λ j lj. (r.0 j lj).lengths;
      inside = λ j lj. (r.0 j lj).inside (held_at j lj);
      apart = λ i j li lj ne. any-two (Apart p) p.count (apart-flip p) r.1 i j li lj ne (held_at i li) (held_at j lj);
      key = λ j pos lj. (r.0 j lj).key pos;
      rise = λ i j less lj. (Decides-orders p).0 t5.0 j (omega (arith, s.1.all_sorted)) i less (r.0 i (omega arith)).shows (r.0 j lj).shows;
      above = λ j pos lj. (k.0 j lj pos).0;
      below = λ j pos lj. (k.0 j lj pos).1;
      links = (Decides-every (child_test nodes p) (λ i. IsPointer nodes (p.word (pointer_at p i))) (Decides-child nodes p) p.count).0 t7.0;
    }

none-inner : (nodes : ℕ) (raw : ℕ → ℕ) (p : Page) (l : ℕ) (lo hi : Option (List ℕ)) → WholeInner nodes raw p l lo hi → first_of (inner_tests nodes raw p l lo hi) ≡ None
unfolding Apart Rise Differ
none-inner nodes raw p l lo hi w =
    let s = (Decides-and (filled_test p) (settled_test p) (Decides-filled p) (Decides-settled p)).1 in
    pass _ _ ((Decides-level p l).1 w.level)
    (pass _ _ ((Decides-fences p lo hi).1 w.fences)
    (pass _ _ (s (w.filled, w.settled))
    (pass _ _ ((Decides-inner_records raw p).1 (λ j lj. record { shows = w.shows j lj; lengths = w.lengths j lj; inside = λ h. w.inside j lj; key = λ pos. w.key j pos lj }, λ j lj i less hi hj. w.apart i j (omega arith) lj (λ e. absurd (omega arith))))
    (pass _ _ ((Decides-orders p).1 (λ j lj i less vi vj. w.rise i j less (omega (arith, w.settled.all_sorted))))
    (pass _ _ ((Decides-inner_keys p lo hi).1 (λ j lj pos. (w.above j pos lj, w.below j pos lj), λ j lj i less vi vj. is_before-other (key_at p i) (key_at p j) (w.rise i j less lj)))
    (pass _ _ ((Decides-every (child_test nodes p) (λ i. IsPointer nodes (p.word (pointer_at p i))) (Decides-child nodes p) p.count).1 w.links)
    at_end))))))

pub inner-whole-none : (nodes : ℕ) (raw n : ℕ → ℕ) (l : ℕ) (lo hi : Option (List ℕ)) → 0 < l → node_fault nodes raw n l lo hi ≡ None → WholeInner nodes raw (page n) l lo hi
unfolding node_fault
inner-whole-none nodes raw n l lo hi pos h = let a : (l == 0) ≡ false = grind (arith, nat_tests) in inner-none nodes raw (page n) l lo hi (rw a at h)

pub none-inner-whole : (nodes : ℕ) (raw n : ℕ → ℕ) (l : ℕ) (lo hi : Option (List ℕ)) → 0 < l → WholeInner nodes raw (page n) l lo hi → node_fault nodes raw n l lo hi ≡ None
unfolding node_fault
none-inner-whole nodes raw n l lo hi pos w = let a : (l == 0) ≡ false = grind (arith, nat_tests) in rw a (none-inner nodes raw (page n) l lo hi w)
