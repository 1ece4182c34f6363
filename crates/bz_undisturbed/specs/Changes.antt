-- Tasks that ask for more than one swap go on where their worker is alone; after their first one too, as what they know of the words that
-- they still name is of a moment after its effect.
use Rattle.bz_insert.specs.Duties as insert
use Rattle.bz_insert.specs.declared.insert.Insert.{Insert}
use Rattle.bz_any_task.specs.FromMerge.Duties as merge
use Rattle.bz_any_task.specs.FromMerge.Merge.{Merge}
use Rattle.bz_mutate.specs.UpdateDuties as update
use Rattle.bz_mutate.specs.declared.update.Update.{Update}
use Rattle.bz_undisturbed.specs.Undisturbed.{GoesOnUndisturbed}

abbrev pub InsertsGoOn : Type 0
InsertsGoOn = (t : Insert) → GoesOnUndisturbed (insert.made_of t) t.config (insert.asks_of t) (insert.facts_of t) (λ seen. ⊥)

abbrev pub UpdatesGoOn : Type 0
UpdatesGoOn = (t : Update) → GoesOnUndisturbed (update.made_of t) t.config (update.asks_of t) (update.facts_of t) (λ seen. ⊥)

-- a merge, which may freeze the two leaves before its swap
abbrev pub MergesGoOn : Type 0
MergesGoOn = (t : Merge) → GoesOnUndisturbed (merge.made_of t) t.config (merge.asks_of t) (merge.facts_of t) (merge.differs_of t)
