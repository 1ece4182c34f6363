-- Tasks that ask for one swap at most go on where their worker is alone.
use Rattle.bz_below.specs.Duties.{asks_below, facts_below, differs_below}
use Rattle.bz_below.specs.declared.split_below.SplitBelow.{SplitBelow}
use Rattle.bz_any_task.specs.FromConsol.Duties as consol
use Rattle.bz_any_task.specs.FromConsol.Consolidate.{Consolidate}
use Rattle.bz_any_task.specs.FromCrown.Duties.{asks_crown, facts_crown, differs_crown}
use Rattle.bz_any_task.specs.FromCrown.SplitInnerRoot.{SplitInnerRoot}
use Rattle.bz_any_task.specs.FromFork.Duties.{asks_fork, facts_fork, differs_fork}
use Rattle.bz_any_task.specs.FromFork.SplitInner.{SplitInner}
use Rattle.bz_any_task.specs.FromInner.JoinDuties.{asks_joining, joining_of}
use Rattle.bz_any_task.specs.FromInner.JoinFacts.{joining_facts, joining_differs}
use Rattle.bz_any_task.specs.FromInner.Lower.{Lower}
use Rattle.bz_any_task.specs.FromInner.LowerDuties.{asks_lower, lowering_of}
use Rattle.bz_any_task.specs.FromInner.LowerFacts.{lower_facts, lower_differs}
use Rattle.bz_any_task.specs.FromInner.MergeInner.{MergeInner}
use Rattle.bz_freeze.specs.Facts.{freeze_asks, freeze_facts}
use Rattle.bz_freeze.specs.declared.freeze.Freeze.{Freeze}
use Rattle.bz_mutate.specs.DeleteDuties as delete
use Rattle.bz_mutate.specs.declared.delete.Delete.{Delete}
use Rattle.bz_below.specs.FromSplit.Duties as split
use Rattle.bz_below.specs.FromSplit.SplitRoot.{SplitRoot}
use Rattle.bz_undisturbed.specs.Undisturbed.{GoesOnUndisturbed}

abbrev pub FreezesGoOn : Type 0
FreezesGoOn = (t : Freeze) → GoesOnUndisturbed 0 t.config (freeze_asks t.config t.slot t.status t.phase) (freeze_facts t.slot t.status t.phase) (λ seen. ⊥)

abbrev pub DeletesGoOn : Type 0
DeletesGoOn = (t : Delete) → GoesOnUndisturbed 0 t.config (delete.asks_of t) (delete.facts_of t) (λ seen. ⊥)

abbrev pub ConsolidationsGoOn : Type 0
ConsolidationsGoOn = (t : Consolidate) → GoesOnUndisturbed 0 t.config (consol.asks_of t) (consol.facts_of t) (consol.differs_of t)

-- the splits: of a root leaf, of a leaf below a parent, of an inner node below a parent, of an inner root
abbrev pub RootSplitsGoOn : Type 0
RootSplitsGoOn = (t : SplitRoot) → GoesOnUndisturbed 0 t.config (split.asks_of t) (split.facts_of t) (split.differs_of t)

abbrev pub SplitsBelowGoOn : Type 0
SplitsBelowGoOn = (t : SplitBelow) → GoesOnUndisturbed 0 t.config (asks_below t) (facts_below t) (differs_below t)

abbrev pub InnerSplitsGoOn : Type 0
InnerSplitsGoOn = (t : SplitInner) → GoesOnUndisturbed 0 t.config (asks_fork t) (facts_fork t) (differs_fork t)

abbrev pub InnerRootSplitsGoOn : Type 0
InnerRootSplitsGoOn = (t : SplitInnerRoot) → GoesOnUndisturbed 0 t.config (asks_crown t) (facts_crown t) (differs_crown t)

-- the merge of two inner nodes under the root, and the lowering of the root
abbrev pub InnerMergesGoOn : Type 0
InnerMergesGoOn = (t : MergeInner) → GoesOnUndisturbed 0 t.config (asks_joining t) (joining_facts (joining_of t) t.phase) (joining_differs (joining_of t) t.phase)

abbrev pub LoweringsGoOn : Type 0
LoweringsGoOn = (t : Lower) → GoesOnUndisturbed 0 t.config (asks_lower t) (lower_facts (lowering_of t) t.phase) (lower_differs t.lower.status t.phase)
