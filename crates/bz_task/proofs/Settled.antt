-- A memory in which nothing goes on is good.
use Rattle.std.proofs.Common.{◌≡◌, ◌≢◌, ℕ, ◌-◌, ◌<◌, ◌≤◌, ◌==◌, ◌&&◌, Bool, true, false, arith, refl, subst, inl, inr}
use Rattle.std.specs.Prelude.{nat_lt, None}
use Rattle.std.proofs.lemmas.Bool.{cases_eq}
use Rattle.std.proofs.lemmas.Bool.Decides.{nat_tests}
use Rattle.bz_layout.specs.declared.config.Config.{Config}
use Rattle.bz_layout.specs.declared.sizes.TheConstants.{ROOT_AT, ROOT_STATUS_AT}
use Rattle.bz_tree.specs.Form.{Fits, Hangs}
use Rattle.bz_tree.specs.Walk.{form}
use Rattle.bz_tree.proofs.Proved.{trees_have_forms}
use Rattle.bz_content.specs.FromSlotted.Laws.{RisesBetween}
use Rattle.bz_content.specs.FromSlotted.Readers.{count_of, child_of}
use Rattle.bz_content.specs.FromSlotted.Rules.{node_fault}
use Rattle.bz_content.specs.Content.{image_fault, view_in, IsWellFormed}
use Rattle.bz_content.specs.Image.{node}
use Rattle.bz_content.specs.Resolving.{resolve}
use Rattle.bz_content.specs.View.{root_fault}
use Rattle.bz_content.proofs.FromSlotted.Proved.{inner_keys_rise}
use Rattle.bz_content.proofs.Proved.{well_formed_images_have_no_fault}
use Rattle.bz_task.specs.Good.{IsGood}
use Rattle.bz_task.proofs.Roots.{pointer-tested}
use Rattle.bz_task.specs.Settled.{settled, SettledMemoriesAreGood}

no : (a b : ℕ) → a ≢ b → (a == b) ≡ false
no a b ne = grind (arith, nat_tests)

is : (a : ℕ) → (a == a) ≡ true
is a = grind (arith, nat_tests)

both : (a b : Bool) → a ≡ true → b ≡ true → (a && b) ≡ true
both true b e h = h
both false b e h = absurd (cc)

second : (a b : Bool) → (a && b) ≡ true → b ≡ true
second true b e = e
second false b e = absurd (cc)

first : (a b : Bool) → (a && b) ≡ true → a ≡ true
first true b e = refl
first false b e = absurd (cc)

module _ (c : Config) (image : ℕ → ℕ) (none : image_fault c image ≡ None) where
  well : IsWellFormed c image
  well = (well_formed_images_have_no_fault c image).0 none

  fits : Fits (view_in c image) (form (view_in c image))
  fits = trees_have_forms (view_in c image) well.tree.one well.tree.tall well.tree.none

  -- the root is a slot
  root-slot : (k : ℕ) → resolve image ROOT_AT - 1 ≡ k → k < c.nodes
  root-slot k e =
      let t : root_fault c.nodes (resolve image ROOT_AT) (resolve image ROOT_STATUS_AT) ≡ None = rw (is c.nodes) at fits.super in
      let p : (0 < resolve image ROOT_AT) × (resolve image ROOT_AT ≤ c.nodes) = pointer-tested c.nodes (resolve image ROOT_AT) (resolve image ROOT_STATUS_AT) t in
      omega (arith, p.0, p.1, e)

  -- and so is every child of an inner node
  child-slot : (k : ℕ) (h : Hangs (view_in c image) (form (view_in c image)) k) → (form (view_in c image)).up k ≢ c.nodes → k < c.nodes
  child-slot k h ne =
      let u : ℕ = (form (view_in c image)).up k in
      let e : node_fault c.nodes (node c image u) (node c (resolve image) u) ((form (view_in c image)).level u) ((form (view_in c image)).low u) ((form (view_in c image)).high u) ≡ None =
      rw (no u c.nodes ne) at (fits.whole u h.inside ne) in
      let r : RisesBetween c.nodes (node c (resolve image) u) ((form (view_in c image)).low u) ((form (view_in c image)).high u) = inner_keys_rise c.nodes (node c image u) (node c (resolve image) u) _ _ _ h.inner e in
      let l : (form (view_in c image)).index k < count_of (node c (resolve image) u) = rw (no u c.nodes ne) at h.within in
      let s : child_of (node c (resolve image) u) ((form (view_in c image)).index k) ≡ k = rw (no u c.nodes ne) at h.child in
      subst (λ z. z < c.nodes) s (r.slots ((form (view_in c image)).index k) l)

  slot : (k : ℕ) → (form (view_in c image)).inside k ≡ true → k ≢ c.nodes → k < c.nodes
  slot k i ne =
      let h : Hangs (view_in c image) (form (view_in c image)) k = fits.hangs k i ne in
      elim (cases_eq ((form (view_in c image)).up k) c.nodes) [
        | inl e ↦ (
            let l : (form (view_in c image)).index k < 1 = rw (e, is c.nodes) at h.within in
            let z : (form (view_in c image)).index k ≡ 0 = omega (arith, l) in
            root-slot k (rw (e, is c.nodes, z) at h.child))
        | inr other ↦ child-slot k h other
      ]

  good : IsGood c (settled c image)
  good = record {
    few = omega arith;
    form = none;
    inside = λ k i ne. both (nat_lt k c.nodes) ((form (view_in c image)).inside k) (lt k (slot k i ne)) i;
    placed = λ k r. inl (second (nat_lt k c.nodes) ((form (view_in c image)).inside k) r);
    slots = λ k r. let l : nat_lt k c.nodes ≡ true = first (nat_lt k c.nodes) ((form (view_in c image)).inside k) r in grind (arith, nat_tests);
    shown = λ k i r h. refl;
    root = refl;
    root_status = refl;
  }
    where
      lt : (k : ℕ) → k < c.nodes → nat_lt k c.nodes ≡ true
      lt k l = grind (arith, nat_tests)

pub settled-good : SettledMemoriesAreGood
settled-good c image none = good c image none
