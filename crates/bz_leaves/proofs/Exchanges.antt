-- How many leaves there are after a swap that exchanges slots: as many as there were, without the leaves that went and with those that came.
use Rattle.std.proofs.Common.{◌≡◌, ◌≢◌, ℕ, ◌+◌, ◌<◌, ◌==◌, ◌||◌, ◌&&◌, ◌⊎◌, Bool, true, false, List, length, arith, refl, sym, ap, ◌∙◌, inl, inr}
use Rattle.std.specs.Prelude.{not}
use Rattle.std.proofs.lemmas.Bool.{true≢false}
use Rattle.std.proofs.lemmas.Bool.Decides.{nat_tests}
use Rattle.bz_layout.specs.declared.config.Config.{Config}
use Rattle.bz_tree.proofs.SameForms.{same-test}
use Rattle.bz_tree.proofs.TreeForms.{fits}
use Rattle.bz_tree.specs.Form.{Form}
use Rattle.bz_tree.specs.Outcomes.{Moved, Regrows}
use Rattle.bz_tree.specs.Walk.{is_among, IsTree}
use Rattle.bz_slotted.specs.Readers.{level_of}
use Rattle.bz_content.proofs.Reached.{level-at}
use Rattle.bz_content.specs.Image.{Image, node}
use Rattle.bz_content.specs.Swaps.{form_in}
use Rattle.bz_content.specs.View.{view_of}
use Rattle.bz_leaves.proofs.Counts.{AreOf, count-exchanged}
use Rattle.bz_leaves.proofs.Slots.{slot-below}
use Rattle.bz_leaves.specs.Leaves.{is_leaf, leaf_count}

first : (a b : Bool) → (a && b) ≡ true → a ≡ true
first true b e = refl
first false b e = absurd (cc)

second : (a b : Bool) → (a && b) ≡ true → b ≡ true
second true b e = e
second false b e = absurd (cc)

both : (a b : Bool) → a ≡ true → b ≡ true → (a && b) ≡ true
both true b e h = h
both false b e h = absurd (cc)

either : (a b : Bool) → a ≡ true → a || b ≡ true
either true b e = refl
either false b e = absurd (cc)

other : (a b : Bool) → b ≡ true → a || b ≡ true
other true b e = refl
other false b e = e

pub one-of : (a b c : Bool) → a || (b && not c) ≡ true → (a ≡ true) ⊎ ((b ≡ true) × (c ≡ false))
one-of true b c e = inl refl
one-of false true false e = inr (refl, refl)
one-of false true true e = absurd (cc)
one-of false false c e = absurd (cc)

-- a test that passes only where one that fails passes
fails : (a b : Bool) → (a ≡ true → b ≡ true) → b ≡ false → a ≡ false
fails true b h e = absurd (true≢false (sym (h refl) ∙ e))
fails false b h e = refl

-- what is told of a leaf
pub leaf-level : (c : Config) (x : Image) (k : ℕ) → is_leaf (view_of c x) k ≡ true → (form_in c x).level k ≡ 0
leaf-level c x k e = let z : ((form_in c x).level k == 0) ≡ true = second ((form_in c x).inside k) ((form_in c x).level k == 0) e in grind (arith, nat_tests)

pub leaf-inside : (c : Config) (x : Image) (k : ℕ) → is_leaf (view_of c x) k ≡ true → (form_in c x).inside k ≡ true
leaf-inside c x k e = first ((form_in c x).inside k) ((form_in c x).level k == 0) e

pub leaf-is : (c : Config) (x : Image) (k : ℕ) → (form_in c x).inside k ≡ true → (form_in c x).level k ≡ 0 → is_leaf (view_of c x) k ≡ true
leaf-is c x k i l = let z : ((form_in c x).level k == 0) ≡ true = grind (arith, nat_tests) in both ((form_in c x).inside k) ((form_in c x).level k == 0) i z

pub no-leaf : (c : Config) (x : Image) (k : ℕ) → (form_in c x).inside k ≡ false → is_leaf (view_of c x) k ≡ false
no-leaf c x k i = ap (λ b. b && ((form_in c x).level k == 0)) i

-- the superblock is no leaf
pub not-top : (c : Config) (x : Image) (k : ℕ) → IsTree (view_of c x) → (form_in c x).level k ≡ 0 → k ≢ c.nodes
not-top c x k t l e = absurd (omega (arith, (fits (view_of c x) t).height, t.tall, l, ap (form_in c x).level e))

-- slots that go and slots that come, and the leaves among them
pub record AreTheLeaves (f h : Form) (gone new gone_leaves new_leaves : List ℕ) : Type 0 where
  pub out : (j : ℕ) → is_among gone_leaves j ≡ true → is_among gone j ≡ true
  pub out_all : (j : ℕ) → is_among gone j ≡ true → f.level j ≡ 0 → is_among gone_leaves j ≡ true
  pub come : (j : ℕ) → is_among new_leaves j ≡ true → is_among new j ≡ true
  pub come_flat : (j : ℕ) → is_among new_leaves j ≡ true → h.level j ≡ 0
  pub come_all : (j : ℕ) → is_among new j ≡ true → h.level j ≡ 0 → is_among new_leaves j ≡ true

module _ (c : Config) (x y : Image) (gone new : List ℕ) (t : IsTree (view_of c x)) (r : Regrows (view_of c x) (view_of c y) gone new) where
  abbrev f : Form
  f = form_in c x

  abbrev h : Form
  h = form_in c y

  -- a slot that was not reached is not the superblock
  pub fresh-below : (k : ℕ) → f.inside k ≡ false → k ≢ c.nodes
  fresh-below k fresh e = absurd (true≢false (sym (ap f.inside e ∙ (fits (view_of c x) t).top) ∙ fresh))

  pub new-inside : (k : ℕ) → is_among new k ≡ true → h.inside k ≡ true
  new-inside k e = r.slots.reached k ∙ either (is_among new k) (f.inside k && not (is_among gone k)) e

  -- a new slot stands at the level that its words say
  pub new-level : (k : ℕ) → is_among new k ≡ true → f.inside k ≡ false → h.level k ≡ level_of (node c y.words k)
  new-level k e fresh = sym (level-at c y k (fits (view_of c y) r.content.tree) (new-inside k e) (fresh-below k fresh))

  pub new-slot : (k : ℕ) → is_among new k ≡ true → f.inside k ≡ false → k < c.nodes
  new-slot k e fresh = slot-below c y r.content.tree k (new-inside k e) (fresh-below k fresh)

  pub old-slot : (k : ℕ) → f.inside k ≡ true → k ≢ c.nodes → k < c.nodes
  old-slot k i ne = slot-below c x t k i ne

  module _ (gone_leaves new_leaves : List ℕ) (s : AreTheLeaves f h gone new gone_leaves new_leaves) where
    stayed : (j : ℕ) → f.inside j ≡ true → f.level j ≡ 0 → is_among gone j ≡ false → Moved f h j
    stayed j i flat far = r.slots.stays j i far (not-top c x j t flat)

    was-leaf : (j : ℕ) → is_leaf (view_of c y) j ≡ true → f.inside j ≡ true → is_among gone j ≡ false → j ≢ c.nodes → is_leaf (view_of c x) j ≡ true
    was-leaf j e i far below = leaf-is c x j i (sym (r.slots.stays j i far below).level ∙ leaf-level c y j e)

    to : (j : ℕ) → j < c.nodes → is_leaf (view_of c y) j ≡ true → is_among new_leaves j || (is_leaf (view_of c x) j && not (is_among gone_leaves j)) ≡ true
    to j below e = elim (one-of (is_among new j) (f.inside j) (is_among gone j) (sym (r.slots.reached j) ∙ leaf-inside c y j e)) [
      | inl n ↦ either (is_among new_leaves j) _ (s.come_all j n (leaf-level c y j e))
      | inr (was, far) ↦ other (is_among new_leaves j) (is_leaf (view_of c x) j && not (is_among gone_leaves j))
          (both (is_leaf (view_of c x) j) (not (is_among gone_leaves j)) (was-leaf j e was far (λ q. absurd (omega (arith, q, below)))) (ap not (fails (is_among gone_leaves j) (is_among gone j) (s.out j) far)))
    ]

    kept : (j : ℕ) → is_leaf (view_of c x) j ≡ true → is_among gone_leaves j ≡ false → is_among gone j ≡ false
    kept j e far = fails (is_among gone j) (is_among gone_leaves j) (λ q. s.out_all j q (leaf-level c x j e)) far

    from : (j : ℕ) → is_among new_leaves j || (is_leaf (view_of c x) j && not (is_among gone_leaves j)) ≡ true → is_leaf (view_of c y) j ≡ true
    from j e = elim (one-of (is_among new_leaves j) (is_leaf (view_of c x) j) (is_among gone_leaves j) e) [
      | inl n ↦ leaf-is c y j (new-inside j (s.come j n)) (s.come_flat j n)
      | inr (was, far) ↦ (
          let m : Moved f h j = stayed j (leaf-inside c x j was) (leaf-level c x j was) (kept j was far) in
          leaf-is c y j m.inside (m.level ∙ leaf-level c x j was))
    ]

    pub leaves-exchanged : AreOf (is_leaf (view_of c x)) true c.nodes gone_leaves → AreOf (is_leaf (view_of c x)) false c.nodes new_leaves
        → leaf_count c y + length gone_leaves ≡ leaf_count c x + length new_leaves
    unfolding leaf_count
    leaves-exchanged out come =
        count-exchanged (is_leaf (view_of c x)) (is_leaf (view_of c y)) c.nodes gone_leaves new_leaves out come
        (λ j below. same-test (is_leaf (view_of c y) j) (is_among new_leaves j || (is_leaf (view_of c x) j && not (is_among gone_leaves j))) (to j below) (from j))
