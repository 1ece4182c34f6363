-- Each reached node of a tree stands in a slot of the memory, and says the level at which it stands.
use Rattle.std.proofs.Common.{◌≡◌, ◌≢◌, ℕ, ◌^◌, ◌<◌, ◌≤◌, ◌&&◌, if◌then◌else◌, Bool, true, false, arith, refl, subst, inl, inr}
use Rattle.std.specs.Prelude.{nat_lt, nat_le, Some, None}
use Rattle.std.proofs.lemmas.Bool.{cases_eq}
use Rattle.std.proofs.lemmas.Bool.Decides.{nat_tests}
use Rattle.bz_layout.specs.declared.config.Config.{Config}
use Rattle.bz_layout.specs.declared.sizes.TheConstants.{ROOT_AT, ROOT_STATUS_AT}
use Rattle.bz_tree.proofs.TreeForms.{fits}
use Rattle.bz_tree.specs.Form.{Fits, Form, Hangs}
use Rattle.bz_tree.specs.Walk.{IsTree}
use Rattle.bz_tree.specs.declared.rule.ShapeRule.TheVariants.{Root}
use Rattle.bz_slotted.specs.Laws.{RisesBetween}
use Rattle.bz_slotted.specs.Readers.{count_of, child_of}
use Rattle.bz_slotted.specs.Rules.{node_fault}
use Rattle.bz_slotted.proofs.Proved.{inner_keys_rise}
use Rattle.bz_content.proofs.Honesty.{no}
use Rattle.bz_content.proofs.Reached.{is}
use Rattle.bz_content.specs.Image.{Image, node, root}
use Rattle.bz_content.specs.Swaps.{form_in}
use Rattle.bz_content.specs.View.{root_fault, view_of}

pointer-tested : (nodes pointer status : ℕ) → root_fault nodes pointer status ≡ None → (0 < pointer) × (pointer ≤ nodes)
unfolding root_fault
pointer-tested nodes pointer status e = go (nat_lt 0 pointer) refl (nat_le pointer nodes) refl (nat_lt status (2 ^ 32)) e
  where
    go : (a : Bool) → nat_lt 0 pointer ≡ a → (b : Bool) → nat_le pointer nodes ≡ b → (d : Bool) → (if a && (b && d) then None else Some Root) ≡ None → (0 < pointer) × (pointer ≤ nodes)
    go true p true q d e = (grind (arith, nat_tests), grind (arith, nat_tests))
    go true p false q d e = absurd (cc)
    go false p b q d e = absurd (cc)

module _ (c : Config) (x : Image) (t : IsTree (view_of c x)) where
  abbrev f : Form
  f = form_in c x

  g : Fits (view_of c x) f
  g = fits (view_of c x) t

  -- the root is a slot
  root-slot : (k : ℕ) → root x.words ≡ k → k < c.nodes
  root-slot k e =
      let t : root_fault c.nodes (x.words ROOT_AT) (x.words ROOT_STATUS_AT) ≡ None = rw (is c.nodes) at g.super in
      let p : (0 < x.words ROOT_AT) × (x.words ROOT_AT ≤ c.nodes) = pointer-tested c.nodes (x.words ROOT_AT) (x.words ROOT_STATUS_AT) t in
      omega (arith, p.0, p.1, e)

  -- and so is every child of an inner node
  child-slot : (k : ℕ) (h : Hangs (view_of c x) f k) → f.up k ≢ c.nodes → k < c.nodes
  child-slot k h ne =
      let u : ℕ = f.up k in
      let e : node_fault c.nodes (node c x.raw u) (node c x.words u) (f.level u) (f.low u) (f.high u) ≡ None = rw (no u c.nodes ne) at (g.whole u h.inside ne) in
      let r : RisesBetween c.nodes (node c x.words u) (f.low u) (f.high u) = inner_keys_rise c.nodes (node c x.raw u) (node c x.words u) _ _ _ h.inner e in
      let l : f.index k < count_of (node c x.words u) = rw (no u c.nodes ne) at h.within in
      let s : child_of (node c x.words u) (f.index k) ≡ k = rw (no u c.nodes ne) at h.child in
      subst (λ z. z < c.nodes) s (r.slots (f.index k) l)

  pub slot-below : (k : ℕ) → f.inside k ≡ true → k ≢ c.nodes → k < c.nodes
  slot-below k i ne =
      let h : Hangs (view_of c x) f k = g.hangs k i ne in
      elim (cases_eq (f.up k) c.nodes) [
        | inl e ↦ (
            let l : f.index k < 1 = rw (e, is c.nodes) at h.within in
            let z : f.index k ≡ 0 = omega (arith, l) in
            root-slot k (rw (e, is c.nodes, z) at h.child))
        | inr other ↦ child-slot k h other
      ]
