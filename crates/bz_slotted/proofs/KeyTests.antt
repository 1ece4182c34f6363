-- What the tests of keys, and of child pointers, decide.
use Rattle.std.proofs.Common.{◌≡◌, ◌≢◌, ℕ, ◌<◌, ◌==◌, true, List, Option}
use Rattle.std.specs.Prelude.{not, nat_lt, nat_le, bytes_eq}
use Rattle.std.specs.Bool.{Decides}
use Rattle.std.proofs.lemmas.Bool.Decides.{Decides-ltb, Decides-and, Decides-like, Decides-not}
use Rattle.std.proofs.lemmas.Slice.Eq.{bytes_eq-Decides}
use Rattle.bz_tree.specs.Order.{is_before, is_above, is_below, is_within}
use Rattle.bz_slotted.specs.Page.{visible, Page}
use Rattle.bz_slotted.specs.Records.{key_at, pointer_at}
use Rattle.bz_slotted.specs.Rules.{order_test, leaf_key_test, inner_key_test, distinct_test, child_test}
use Rattle.bz_slotted.specs.Whole.{IsPointer}
use Rattle.bz_slotted.proofs.Deciding.{Decides-self, Decides-le, Decides-implies}
use Rattle.bz_slotted.proofs.RecordTests.{Decides-later}

pub Decides-order : (p : Page) (i j : ℕ) → Decides (order_test p i j) (visible (p.meta i) ≡ true → visible (p.meta j) ≡ true → is_before (key_at p i) (key_at p j) ≡ true)
Decides-order p i j = Decides-implies (visible (p.meta i)) _ (Decides-self (visible (p.meta i))) (Decides-implies (visible (p.meta j)) (is_before (key_at p i) (key_at p j)) (Decides-self (visible (p.meta j))) (Decides-self (is_before (key_at p i) (key_at p j))))

pub Decides-leaf_key : (p : Page) (lo hi : Option (List ℕ)) (j : ℕ) → Decides (leaf_key_test p lo hi j) (visible (p.meta j) ≡ true → is_within (key_at p j) lo hi ≡ true)
Decides-leaf_key p lo hi j = Decides-implies (visible (p.meta j)) (is_within (key_at p j) lo hi) (Decides-self (visible (p.meta j))) (Decides-self (is_within (key_at p j) lo hi))

pub Decides-inner_key : (p : Page) (lo hi : Option (List ℕ)) (j : ℕ) → Decides (inner_key_test p lo hi j) (0 < j → (is_above (key_at p j) lo ≡ true) × (is_below (key_at p j) hi ≡ true))
Decides-inner_key p lo hi j = Decides-implies (not (j == 0)) _ (Decides-later j) (Decides-and (is_above (key_at p j) lo) (is_below (key_at p j) hi) (Decides-self (is_above (key_at p j) lo)) (Decides-self (is_below (key_at p j) hi)))

pub Decides-distinct : (p : Page) (i j : ℕ) → Decides (distinct_test p i j) (visible (p.meta i) ≡ true → visible (p.meta j) ≡ true → key_at p i ≢ key_at p j)
Decides-distinct p i j = Decides-implies (visible (p.meta i)) _ (Decides-self (visible (p.meta i))) (Decides-implies (visible (p.meta j)) (not (bytes_eq (key_at p i) (key_at p j))) (Decides-self (visible (p.meta j)))
    (Decides-not (bytes_eq (key_at p i) (key_at p j)) (bytes_eq-Decides (key_at p i) (key_at p j))))

pub Decides-child : (nodes : ℕ) (p : Page) (i : ℕ) → Decides (child_test nodes p i) (IsPointer nodes (p.word (pointer_at p i)))
Decides-child nodes p i = Decides-like (child_test nodes p i) (λ t. record { some = t.0; slot = t.1 }) (λ r. (r.some, r.slot))
    (Decides-and (nat_lt 0 (p.word (pointer_at p i))) (nat_le (p.word (pointer_at p i)) nodes) (Decides-ltb 0 (p.word (pointer_at p i))) (Decides-le (p.word (pointer_at p i)) nodes))
