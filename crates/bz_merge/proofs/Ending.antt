-- How the phases end the task.
use Rattle.std.proofs.Common.{◌≡◌, refl}
use Rattle.std.specs.Prelude.{Some}
use Rattle.bz_call.specs.declared.replies.Spent.TheVariants.{Nodes as NoNodes, Swaps as NoSwaps}
use Rattle.bz_task.specs.declared.todo.Outcome.TheVariants.{Done as IsDone, Restart as Restarts, Full as IsFull}
use Rattle.bz_merge.specs.Facts.{merge_end}
use Rattle.bz_merge.specs.declared.phase.MergePhase.{MergePhase}
use Rattle.bz_merge.specs.declared.phase.MergePhase.TheVariants.{Fresh, Word, Again, Beside, Parent, Still, Freeze, FreezeBeside, Guard, Store, Flush, Swap, Done, Restart, NoNeighbour, NoSlot, NoSwap}

pub ends-done : (p : MergePhase) → merge_end p ≡ Some IsDone → p ≡ Done
ends-done Done e = refl
ends-done Fresh e = absurd (cc)
ends-done (Word i) e = absurd (cc)
ends-done Again e = absurd (cc)
ends-done (Beside i) e = absurd (cc)
ends-done Parent e = absurd (cc)
ends-done Still e = absurd (cc)
ends-done Freeze e = absurd (cc)
ends-done FreezeBeside e = absurd (cc)
ends-done Guard e = absurd (cc)
ends-done (Store j) e = absurd (cc)
ends-done (Flush j) e = absurd (cc)
ends-done Swap e = absurd (cc)
ends-done Restart e = absurd (cc)
ends-done NoNeighbour e = absurd (cc)
ends-done NoSlot e = absurd (cc)
ends-done NoSwap e = absurd (cc)

pub ends-restart : (p : MergePhase) → merge_end p ≡ Some Restarts → p ≡ Restart
ends-restart Restart e = refl
ends-restart Fresh e = absurd (cc)
ends-restart (Word i) e = absurd (cc)
ends-restart Again e = absurd (cc)
ends-restart (Beside i) e = absurd (cc)
ends-restart Parent e = absurd (cc)
ends-restart Still e = absurd (cc)
ends-restart Freeze e = absurd (cc)
ends-restart FreezeBeside e = absurd (cc)
ends-restart Guard e = absurd (cc)
ends-restart (Store j) e = absurd (cc)
ends-restart (Flush j) e = absurd (cc)
ends-restart Swap e = absurd (cc)
ends-restart Done e = absurd (cc)
ends-restart NoNeighbour e = absurd (cc)
ends-restart NoSlot e = absurd (cc)
ends-restart NoSwap e = absurd (cc)

pub ends-no-swap : (p : MergePhase) → merge_end p ≡ Some (IsFull NoSwaps) → p ≡ NoSwap
ends-no-swap NoSwap e = refl
ends-no-swap Fresh e = absurd (cc)
ends-no-swap (Word i) e = absurd (cc)
ends-no-swap Again e = absurd (cc)
ends-no-swap (Beside i) e = absurd (cc)
ends-no-swap Parent e = absurd (cc)
ends-no-swap Still e = absurd (cc)
ends-no-swap Freeze e = absurd (cc)
ends-no-swap FreezeBeside e = absurd (cc)
ends-no-swap Guard e = absurd (cc)
ends-no-swap (Store j) e = absurd (cc)
ends-no-swap (Flush j) e = absurd (cc)
ends-no-swap Swap e = absurd (cc)
ends-no-swap Done e = absurd (cc)
ends-no-swap Restart e = absurd (cc)
ends-no-swap NoNeighbour e = absurd (cc)
ends-no-swap NoSlot e = absurd (cc)

pub ends-no-slot : (p : MergePhase) → merge_end p ≡ Some (IsFull NoNodes) → p ≡ NoSlot
ends-no-slot NoSlot e = refl
ends-no-slot Fresh e = absurd (cc)
ends-no-slot (Word i) e = absurd (cc)
ends-no-slot Again e = absurd (cc)
ends-no-slot (Beside i) e = absurd (cc)
ends-no-slot Parent e = absurd (cc)
ends-no-slot Still e = absurd (cc)
ends-no-slot Freeze e = absurd (cc)
ends-no-slot FreezeBeside e = absurd (cc)
ends-no-slot Guard e = absurd (cc)
ends-no-slot (Store j) e = absurd (cc)
ends-no-slot (Flush j) e = absurd (cc)
ends-no-slot Swap e = absurd (cc)
ends-no-slot Done e = absurd (cc)
ends-no-slot Restart e = absurd (cc)
ends-no-slot NoNeighbour e = absurd (cc)
ends-no-slot NoSwap e = absurd (cc)
