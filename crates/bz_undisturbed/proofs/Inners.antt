-- An inner node of the tree is not frozen, and the root status is never that of a frozen node: both are rules of images.
use Rattle.std.proofs.Common.{◌≡◌, ◌≢◌, ℕ, ◌^◌, ◌<◌, ◌==◌, ◌/◌, ◌%◌, ◌&&◌, if◌then◌else◌, Bool, true, false, None, Some, arith, refl, subst, inl}
use Rattle.std.specs.Prelude.{nat_lt, nat_le}
use Rattle.std.proofs.lemmas.Bool.Decides.{nat_tests}
use Rattle.bz_layout.specs.declared.config.Config.{Config}
use Rattle.bz_layout.specs.declared.sizes.TheConstants.{STATUS_AT, ROOT_AT, ROOT_STATUS_AT}
use Rattle.bz_tree.specs.Form.{Fits}
use Rattle.bz_tree.specs.declared.rule.ShapeRule.TheVariants.{Root}
use Rattle.bz_tree.proofs.Proved.{trees_have_forms}
use Rattle.bz_slotted.specs.Page.{page}
use Rattle.bz_slotted.specs.Rules.{node_fault}
use Rattle.bz_slotted.specs.Whole.{WholeInner}
use Rattle.bz_slotted.proofs.Proved.{inner_rules_are_facts}
use Rattle.bz_word.specs.Statuses.{status}
use Rattle.bz_content.specs.Content.{IsWellFormed, view_in}
use Rattle.bz_content.specs.Image.{node}
use Rattle.bz_content.specs.Resolving.{resolve}
use Rattle.bz_content.specs.View.{root_fault}
use Rattle.bz_content.proofs.Proved.{well_formed_images_have_no_fault}
use Rattle.bz_task.specs.Good.{IsGood}
use Rattle.bz_task.specs.Instant.{Instant, words, durable, page_at, form_at, is_inside}
use Rattle.bz_task.proofs.Proved.{headers_say_the_level}

is : (a : ℕ) → (a == a) ≡ true
is a = grind (arith, nat_tests)

apart : (a b : ℕ) → a ≢ b → (a == b) ≡ false
apart a b ne = grind (arith, nat_tests)

-- a good memory is a tree, which has a form
pub fits : (c : Config) (x : Instant) → IsGood c x → Fits (view_in c x.image) (form_at c x)
fits c x g =
    let w : IsWellFormed c x.image = (well_formed_images_have_no_fault c x.image).0 g.form in
    trees_have_forms (view_in c x.image) w.tree.one w.tree.tall w.tree.none

module _ (c : Config) (x : Instant) (k : ℕ) (g : IsGood c x) (l : k < c.nodes) (i : is_inside c x k ≡ true) (high : 0 < (page_at c x k).level) where
  below : k ≢ c.nodes
  below e = absurd (omega (arith, e, l))

  no-fault : node_fault c.nodes (node c x.image k) (durable c x k) ((form_at c x).level k) ((form_at c x).low k) ((form_at c x).high k) ≡ None
  no-fault = rw (apart k c.nodes below) at ((fits c x g).whole k i below)

  whole : WholeInner c.nodes (node c x.image k) (page (durable c x k)) ((form_at c x).level k) ((form_at c x).low k) ((form_at c x).high k)
  whole = (inner_rules_are_facts c.nodes (node c x.image k) (durable c x k) ((form_at c x).level k) ((form_at c x).low k) ((form_at c x).high k) (omega (arith, (headers_say_the_level c x k g below i).level, high))).0 no-fault

  pub inner-thawed : (status (words c x k STATUS_AT)).frozen ≡ false
  inner-thawed = subst (λ z. (status z).frozen ≡ false) (g.shown k STATUS_AT (g.inside k i below) (inl (omega arith))) whole.settled.thawed

root-tested : (nodes pointer st : ℕ) → root_fault nodes pointer st ≡ None → st < 2 ^ 32
unfolding root_fault
root-tested nodes pointer st e = go (nat_lt 0 pointer) (nat_le pointer nodes) (nat_lt st (2 ^ 32)) refl e
  where
    go : (a t d : Bool) → nat_lt st (2 ^ 32) ≡ d → (if a && (t && d) then None else Some Root) ≡ None → st < 2 ^ 32
    go true true true q e = grind (arith, nat_tests)
    go a t false q e = absurd (none-of a t e)
      where
        none-of : (a t : Bool) → (if a && (t && false) then None else Some Root) ≡ None → ⊥
        none-of true true e = cc
        none-of true false e = cc
        none-of false t e = cc
    go true false true q e = absurd (cc)
    go false t true q e = absurd (cc)

stamp-alone : (st : ℕ) → st < 2 ^ 32 → (status st).frozen ≡ false
unfolding status
stamp-alone st l = let e : st / 2 ^ 60 % 2 ^ 1 ≡ 0 = omega (arith, l) in rw e refl

pub root-thawed : (c : Config) (x : Instant) → IsGood c x → (status (x.value ROOT_STATUS_AT)).frozen ≡ false
root-thawed c x g =
    let e : root_fault c.nodes (resolve x.image ROOT_AT) (resolve x.image ROOT_STATUS_AT) ≡ None = rw (is c.nodes) at (fits c x g).super in
    stamp-alone (x.value ROOT_STATUS_AT) (subst (λ z. z < 2 ^ 32) g.root_status (root-tested c.nodes (resolve x.image ROOT_AT) (resolve x.image ROOT_STATUS_AT) e))
