use Rattle.std.proofs.Common.{◌≡◌, true, sym, subst, ◌∙◌}
use Rattle.bz_word.specs.Statuses.{status}
use Rattle.bz_any_task.specs.MadeFor.{IsMergeFor, IsSmallMerge}
use Rattle.bz_any_task.proofs.running.AnyTask.merge.Goals as goal

pub returns-clause-merge_for : goal.returns-clause-merge_for
unfolding IsMergeFor
returns-clause-merge_for c key p is frozen = record {
  leaf = record { moment = c.args.view.at; since = is.since; now = is.now; leaf = is.leaf ∙ sym c.new.ensures.slot };
  frozen = subst (λ z. (status z).frozen ≡ true) (sym c.new.ensures.status) frozen;
}

pub returns-clause-small_for : goal.returns-clause-small_for
unfolding IsSmallMerge
returns-clause-small_for c key p is = record { view = c.args.view; is = is; at = sym c.new.ensures.slot; few = c.requires.small }
