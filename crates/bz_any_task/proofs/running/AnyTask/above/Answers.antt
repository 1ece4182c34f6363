use Rattle.std.proofs.Common.{◌≡◌, arith, sym, ap, subst, ◌∙◌, Option, Some, None}
use Rattle.std.specs.Prelude.{IfSome}
use Rattle.bz_ascent.specs.Ascents.{IsOneUp}
use Rattle.bz_ascent.specs.declared.ascent.Ascent.{Ascent}
use Rattle.bz_task.specs.declared.path.Path.{Path}
use Rattle.bz_any_task.specs.Duties.{config_of, ascent_of}
use Rattle.bz_any_task.specs.GoingUp.{IsSplitAt, GoesUp}
use Rattle.bz_any_task.specs.declared.running.AnyTask.{AnyTask}
use Rattle.bz_any_task.proofs.Ascending.{same-ascent}
use Rattle.bz_any_task.proofs.Rising.{goes-up, is-rising, still-due}
use Rattle.bz_any_task.proofs.Statements.{Ends}
use Rattle.bz_any_task.proofs.running.AnyTask.above.Goals as goal

-- where the split of the node above may begin, it goes on from this one
up : (t : AnyTask) (a next : Ascent) → Ends t → ascent_of t ≡ Some a → IsOneUp a next → (found : Option AnyTask) → IfSome found (IsSplitAt (config_of t) next) → IfSome found (GoesUp t)
up t a next ends is one None it = tt
up t a next ends is one (Some other) it = goes-up t other a next ends is one it

pub one_up-requires-clause-few : goal.one_up-requires-clause-few
one_up-requires-clause-few c =
    let k = (is-rising c.args.self.now c.in_ok-ascent.ascent (sym c.ascent.ensures ∙ c.in_ok-ascent.was)).knows c.requires.known.scene c.requires.known.facts in
    omega (arith, k.0.within, k.0.path.few)

pub split_at-requires-clause-few : goal.split_at-requires-clause-few
split_at-requires-clause-few c =
    let k = (is-rising c.args.self.now c.in_ok-ascent.ascent (sym c.ascent.ensures ∙ c.in_ok-ascent.was)).knows c.requires.known.scene c.requires.known.facts in
    omega (arith, k.0.path.few, ap (λ (z : Path). z.depth) c.one_up.ensures.path_is)

pub split_at-requires-clause-within : goal.split_at-requires-clause-within
split_at-requires-clause-within c =
    let k = (is-rising c.args.self.now c.in_ok-ascent.ascent (sym c.ascent.ensures ∙ c.in_ok-ascent.was)).knows c.requires.known.scene c.requires.known.facts in
    omega (arith, k.0.within, k.0.path.few, c.one_up.ensures.before)

pub returns-clause-up : goal.returns-clause-up
returns-clause-up c = up c.args.self.now c.in_ok-ascent.ascent c.one_up.result c.learnt.ensures.ends (sym c.ascent.ensures ∙ c.in_ok-ascent.was) c.one_up.ensures c.split_at.result (subst (λ z. IfSome c.split_at.result (IsSplitAt z c.one_up.result)) (sym c.requires.config) c.split_at.ensures.split)

pub returns-clause-due : goal.returns-clause-due
returns-clause-due c a next is one may =
    let same : a ≡ c.in_ok-ascent.ascent = same-ascent a c.in_ok-ascent.ascent (sym is ∙ (sym c.ascent.ensures ∙ c.in_ok-ascent.was)) in
    c.split_at.ensures.due (still-due a next c.one_up.result one (subst (λ z. IsOneUp z c.one_up.result) (sym same) c.one_up.ensures) may)

pub returns-clause-stands : goal.returns-clause-stands
returns-clause-stands c a is below =
    let same : a ≡ c.in_ok-ascent.ascent = same-ascent a c.in_ok-ascent.ascent (sym is ∙ (sym c.ascent.ensures ∙ c.in_ok-ascent.was)) in
    record { up = c.one_up.result; one = subst (λ z. IsOneUp z c.one_up.result) (sym same) c.one_up.ensures }
