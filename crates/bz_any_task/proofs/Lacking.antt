-- A merge that ends because no neighbour has room has frozen nothing: all its swaps are left then.
use Rattle.std.proofs.Common.{◌≡◌, ◌+◌, ◌≤◌, Bool, true, false, Option, Some, arith, refl, sym, ap, ◌∙◌}
use Rattle.bz_merge.specs.Counts.{merge_swaps, merge_made}
use Rattle.bz_merge.specs.Duties as merge
use Rattle.bz_merge.specs.Facts.{merge_end}
use Rattle.bz_merge.specs.Plans.{Merging as Plan}
use Rattle.bz_merge.specs.declared.merge.Merge.{Merge}
use Rattle.bz_merge.specs.declared.phase.MergePhase.{MergePhase}
use Rattle.bz_merge.specs.declared.phase.MergePhase.TheVariants.{FreezeBeside, Guard, Store, Flush, Swap, Done, NoNeighbour}
use Rattle.bz_task.specs.Requests.{Hears, swaps_in, effects_in}
use Rattle.bz_task.specs.declared.todo.Outcome.TheVariants.{NeedsRoom}
use Rattle.bz_task.specs.declared.todo.Seen.{Seen}
use Rattle.bz_task.specs.declared.todo.Seen.TheVariants as seen
use Rattle.bz_task.specs.declared.todo.Todo.{Todo}
use Rattle.bz_task.specs.declared.todo.Todo.TheVariants as todo
use Rattle.bz_any_task.specs.Kinds.{Kind}
use Rattle.bz_any_task.specs.Kinds as kind

-- a task of another kind is no merge
abbrev pub merges : Kind → Bool
merges kind.Merge = true
merges k = false

pub no-merge : (k : Kind) → merges k ≡ false → k ≡ kind.Merge → ⊥
no-merge k other is = let e = sym other ∙ ap merges is in cc

-- a change is not silent
pub no-change : false ≡ true → ⊥
no-change e = cc

all-left : (p : MergePhase) → merge_end p ≡ Some NeedsRoom → merge_swaps p ≡ 3
all-left NoNeighbour e = refl
all-left p e = absurd (cc)

few-left : (p : MergePhase) → merge_swaps p ≤ 3
few-left Done = omega arith
few-left p = omega arith

none-made : (r : Plan) (p : MergePhase) → merge_swaps p ≡ 3 → merge_made r p ≡ 0
none-made r FreezeBeside e = absurd (omega (arith, e))
none-made r Guard e = absurd (omega (arith, e))
none-made r (Store j) e = absurd (omega (arith, e))
none-made r (Flush j) e = absurd (omega (arith, e))
none-made r Swap e = absurd (omega (arith, e))
none-made r p e = refl

-- where no swap is asked for, none is told to have taken effect
none-told : (o : Option Todo) (what : Seen) → Hears o what → swaps_in o ≡ 0 → effects_in what ≡ 0
none-told (Some (todo.Swap entries)) (seen.Swapped won) h e = absurd (omega (arith, e))
none-told o (seen.Swapped won) h e = absurd h
none-told o what h e = refl

pub merge-lacks : (t u : Merge) (what : Seen) → merge.swaps_of u + swaps_in (merge.asks_of t) ≤ merge.swaps_of t → Hears (merge.asks_of t) what → merge.end_of u ≡ Some NeedsRoom → merge.made_of t + effects_in what ≡ 0
merge-lacks t u what fewer h lacks =
    let all : merge_swaps u.phase ≡ 3 = all-left u.phase lacks in
    let none : swaps_in (merge.asks_of t) ≡ 0 = omega (arith, fewer, all, few-left t.phase) in
    omega (arith, none-made (merge.merging_of t) t.phase (omega (arith, fewer, all, few-left t.phase)), none-told (merge.asks_of t) what h none)
