-- Which scripts ask for threads.
use Rattle.std.specs.Prelude.{◌≡◌, Bool, true, false, ◌||◌, List, [], ◌∷◌}
use Rattle.bz_script.specs.declared.item.Item.{Item}
use Rattle.bz_script.specs.declared.item.Item.TheVariants.{Run}
use Rattle.bz_script.specs.declared.item.Plan.{Plan}
use Rattle.bz_script.specs.declared.item.Plan.TheVariants.{Threads}

-- the plan is that of `run threads`
abbrev pub asks_threads : Plan → Bool
asks_threads Threads = true
asks_threads other = false

-- the item is `run threads`
abbrev pub needs_threads : Item → Bool
needs_threads (Run plan) = asks_threads plan
needs_threads other = false

-- one of the items is
abbrev pub has_threads : List Item → Bool
has_threads [] = false
has_threads (item ∷ items) = needs_threads item || has_threads items

-- each run of the items is by a plan that passes a test
abbrev pub RunBy : (Plan → Bool) → Item → Type 0
RunBy runs (Run plan) = runs plan ≡ true
RunBy runs other = Unit {0}

abbrev pub AreRunBy : (Plan → Bool) → List Item → Type 0
AreRunBy runs [] = Unit {0}
AreRunBy runs (item ∷ items) = RunBy runs item × AreRunBy runs items
