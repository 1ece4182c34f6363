-- The root is in the tree.
use Rattle.std.proofs.Common.{◌≡◌, ℕ, ◌-◌, ◌^◌, ◌<◌, ◌≤◌, ◌==◌, ◌&&◌, if◌then◌else◌, Bool, true, false, arith, refl, ap, subst, ◌∙◌}
use Rattle.std.specs.Prelude.{nat_lt, nat_le, Some, None}
use Rattle.std.proofs.lemmas.Bool.Decides.{nat_tests}
use Rattle.bz_layout.specs.declared.config.Config.{Config}
use Rattle.bz_layout.specs.declared.sizes.TheConstants.{ROOT_AT, ROOT_STATUS_AT}
use Rattle.bz_tree.specs.Form.{Fits, Stands}
use Rattle.bz_tree.specs.View.{high_at}
use Rattle.bz_tree.specs.declared.rule.ShapeRule.TheVariants.{Root}
use Rattle.bz_tree.proofs.Proved.{trees_have_forms}
use Rattle.bz_content.specs.Content.{IsWellFormed, view_in}
use Rattle.bz_content.specs.Resolving.{resolve}
use Rattle.bz_content.specs.View.{root_fault}
use Rattle.bz_content.proofs.Proved.{well_formed_images_have_no_fault}
use Rattle.bz_task.specs.Good.{IsGood}
use Rattle.bz_word.specs.Statuses.{status}
use Rattle.bz_task.specs.Instant.{Instant, form_at}
use Rattle.bz_task.specs.Laws.{RootsAreReached}

is : (a : ℕ) → (a == a) ≡ true
is a = grind (arith, nat_tests)

-- a tree has a form
pub fits : (c : Config) (x : Instant) → IsGood c x → Fits (view_in c x.image) (form_at c x)
fits c x g =
    let w : IsWellFormed c x.image = (well_formed_images_have_no_fault c x.image).0 g.form in
    trees_have_forms (view_in c x.image) w.tree.one w.tree.tall w.tree.none

pub pointer-tested : (nodes pointer status : ℕ) → root_fault nodes pointer status ≡ None → (0 < pointer) × (pointer ≤ nodes)
unfolding root_fault
pointer-tested nodes pointer status e = go (nat_lt 0 pointer) refl (nat_le pointer nodes) refl (nat_lt status (2 ^ 32)) e
  where
    go : (a : Bool) → nat_lt 0 pointer ≡ a → (b : Bool) → nat_le pointer nodes ≡ b → (d : Bool) → (if a && (b && d) then None else Some Root) ≡ None → (0 < pointer) × (pointer ≤ nodes)
    go true p true q d e = (grind (arith, nat_tests), grind (arith, nat_tests))
    go true p false q d e = absurd (cc)
    go false p b q d e = absurd (cc)

pub roots-reached : RootsAreReached
roots-reached c x g =
    let f : Fits (view_in c x.image) (form_at c x) = fits c x g in
    let e : root_fault c.nodes (resolve x.image ROOT_AT) (resolve x.image ROOT_STATUS_AT) ≡ None = rw (is c.nodes) at f.super in
    let p : (0 < resolve x.image ROOT_AT) × (resolve x.image ROOT_AT ≤ c.nodes) = pointer-tested c.nodes (resolve x.image ROOT_AT) (resolve x.image ROOT_STATUS_AT) e in
    let down : Stands (view_in c x.image) (form_at c x) c.nodes 0 ((view_in c x.image).child c.nodes 0) =
    f.down c.nodes 0 f.top (omega (arith, f.height, f.tall)) (omega (arith, f.top_one)) in
    let child : (view_in c x.image).child c.nodes 0 ≡ x.value ROOT_AT - 1 = rw (is c.nodes) (ap (λ w. w - 1) g.root) in
    let stands : Stands (view_in c x.image) (form_at c x) c.nodes 0 (x.value ROOT_AT - 1) = subst (λ k. Stands (view_in c x.image) (form_at c x) c.nodes 0 k) child down in
    let slot : x.value ROOT_AT - 1 < c.nodes = omega (arith, p.0, p.1, g.root) in
    record {
      pointer = omega (arith, p.0, g.root);
      slot = slot;
      inside = stands.inside;
      reached = g.inside (x.value ROOT_AT - 1) stands.inside (λ e. omega (arith, slot, e));
      low = stands.low ∙ f.top_low;
      high = stands.high ∙ (last ∙ f.top_high);
    }
  where
    last : high_at (view_in c x.image) c.nodes ((form_at c x).high c.nodes) 0 ≡ (form_at c x).high c.nodes
    last = rw (is c.nodes) refl
