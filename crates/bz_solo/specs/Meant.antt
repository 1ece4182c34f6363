-- What a task of a call that has had no effect is meant for.
use Rattle.std.specs.Prelude.{◌≡◌, ◌⊎◌, ◌<◌, true}
use Rattle.bz_call.specs.Map.{key_of}
use Rattle.bz_call.specs.declared.calls.Call.{Call}
use Rattle.bz_costs.specs.FromRunning.Duties.{change_swaps, wants_of}
use Rattle.bz_costs.specs.FromRunning.Kinds.{is_look, kind_of}
use Rattle.bz_costs.specs.FromRunning.MadeFor.{IsMadeFor, IsMergeFor}
use Rattle.bz_costs.specs.FromRunning.AnyTask.{AnyTask}
use Rattle.bz_task.specs.Scene.{Past}
use Rattle.bz_solo.specs.Errands.{words_asked}

-- a task that takes no slot, and either looks up alone or makes a change
pub record TakesNone (t : AnyTask) : Type 0 where
  pub slots : wants_of t ≡ 0
  pub swaps : (is_look (kind_of t) ≡ true) ⊎ (0 < change_swaps t)

-- it is such a task, or a merge of the key's leaf, which is frozen; or the freeze, the copy or the split that was made for the call's key and
-- for the words that it asks for
abbrev pub IsMeantFor : Call → AnyTask → Past → Type 0
IsMeantFor called t p = TakesNone t ⊎ (IsMergeFor t (key_of called) p ⊎ IsMadeFor t (key_of called) (words_asked called) p)
