-- A walk that is still to be made: a stack of visits, the topmost first, each with all that is below it.
use Rattle.std.specs.Prelude.{List, [], ◌∷◌, ◌++◌}
use Rattle.bz_tree.specs.View.{View}
use Rattle.bz_tree.specs.Walk.{Visit, visits}

-- what a walk from this stack still comes to
unfoldable pub pending : View → List Visit → List Visit
pending v [] = []
pending v (u ∷ us) = visits v u.level u ++ pending v us
