-- The root status is a stamp alone, so that it is no frozen node's.
use Rattle.std.proofs.Common.{◌≡◌, ℕ, ◌^◌, ◌<◌, ◌==◌, ◌&&◌, ◌/◌, ◌%◌, if◌then◌else◌, Bool, true, false, arith, refl, sym, ap, subst, ◌∙◌}
use Rattle.std.specs.Prelude.{nat_lt, nat_le, Some, None}
use Rattle.std.proofs.lemmas.Bool.Decides.{nat_tests}
use Rattle.bz_layout.specs.declared.config.Config.{Config}
use Rattle.bz_layout.specs.declared.sizes.TheConstants.{ROOT_AT, ROOT_STATUS_AT}
use Rattle.bz_tree.specs.Form.{Fits}
use Rattle.bz_tree.specs.declared.rule.ShapeRule.TheVariants.{Root}
use Rattle.bz_word.specs.Statuses.{status}
use Rattle.bz_content.specs.Content.{image_of, view_in, IsWellFormed}
use Rattle.bz_content.specs.Resolving.{resolve}
use Rattle.bz_content.specs.View.{root_fault}
use Rattle.bz_content.proofs.Proved.{well_formed_images_have_no_fault}
use Rattle.bz_content.proofs.Reached.{fits}
use Rattle.bz_task.specs.Good.{IsGood}
use Rattle.bz_task.specs.Instant.{Instant, form_at}
use Rattle.bz_task.specs.Outcomes.{IsUnderRoot, IsGuarded}
use Rattle.bz_task.specs.Scene.{Scene, IsScene}
use Rattle.bz_task.specs.declared.path.Link.{Link}

is : (a : ℕ) → (a == a) ≡ true
is a = grind (arith, nat_tests)

-- a good memory is a tree, which has a form
pub form-fits : (c : Config) (x : Instant) → IsGood c x → Fits (view_in c x.image) (form_at c x)
form-fits c x g = let w : IsWellFormed c x.image = (well_formed_images_have_no_fault c x.image).0 g.form in fits c (image_of x.image) w.tree

tested : (nodes pointer st : ℕ) → root_fault nodes pointer st ≡ None → st < 2 ^ 32
unfolding root_fault
tested nodes pointer st e = go (nat_lt 0 pointer) (nat_le pointer nodes) (nat_lt st (2 ^ 32)) refl e
  where
    go : (a b d : Bool) → nat_lt st (2 ^ 32) ≡ d → (if a && (b && d) then None else Some Root) ≡ None → st < 2 ^ 32
    go true true true q e = grind (arith, nat_tests)
    go true true false q e = absurd (cc)
    go true false d q e = absurd (cc)
    go false b d q e = absurd (cc)

pub root-stamp : (c : Config) (x : Instant) → IsGood c x → x.value ROOT_STATUS_AT < 2 ^ 32
root-stamp c x g =
    let e : root_fault c.nodes (resolve x.image ROOT_AT) (resolve x.image ROOT_STATUS_AT) ≡ None = rw (is c.nodes) at (form-fits c x g).super in
    subst (λ w. w < 2 ^ 32) g.root_status (tested c.nodes (resolve x.image ROOT_AT) (resolve x.image ROOT_STATUS_AT) e)

stamp-thawed : (st : ℕ) → st < 2 ^ 32 → (status st).frozen ≡ false
unfolding status
stamp-thawed st l = let e : st / 2 ^ 60 % 2 ^ 1 ≡ 0 = omega (arith, l) in rw e refl

pub root-thawed : (s : Scene) (link : Link) → IsScene s → IsUnderRoot link → IsGuarded s.past link → (status link.status).frozen ≡ false
root-thawed s link good under g =
    let was : (s.past.at g.guarded).value ROOT_STATUS_AT ≡ link.status = ap (s.past.at g.guarded).value (sym under.guard) ∙ g.status in
    stamp-thawed link.status (subst (λ w. w < 2 ^ 32) was (root-stamp s.past.config (s.past.at g.guarded) (good.history.good g.guarded g.since (omega (arith, g.order, g.now)))))
