-- The lowering of the root goes on: the root's own status is as it was read, and no frozen node's, and so are the words of its swap.
use Rattle.std.proofs.Common.{subst}
use Rattle.bz_any_task.specs.FromBranch.Nodes.{IsOpenLink}
use Rattle.bz_any_task.specs.FromInner.LowerDuties.{lowering_of}
use Rattle.bz_any_task.specs.FromInner.LowerFacts.{Lowering, lower_asks, lower_facts, lower_differs}
use Rattle.bz_any_task.specs.FromInner.LowerPhase.{LowerPhase}
use Rattle.bz_any_task.specs.FromInner.LowerPhase.TheVariants.{Status, Swap}
use Rattle.bz_below.specs.FromSplit.BelowSplits.{below_swap}
use Rattle.bz_task.specs.Scene.{Scene, Waiting, IsScene}
use Rattle.bz_undisturbed.specs.Undisturbed.{GoesOn}
use Rattle.bz_undisturbed.specs.Laws.{LoweringsGoOn}
use Rattle.bz_undisturbed.specs.Quiet.{IsQuietSince}
use Rattle.bz_undisturbed.proofs.Going.{idles, reads, swaps}
use Rattle.bz_undisturbed.proofs.Links.{below-stands}
use Rattle.bz_undisturbed.proofs.Quiet.{undisturbed}
use Rattle.bz_undisturbed.proofs.Thawed.{root-as-read}

goes : (s : Scene) → IsScene s → IsQuietSince s.past.since s.past → (r : Lowering) (phase : LowerPhase) → lower_facts r phase Waiting s → GoesOn (lower_asks s.past.config r phase) (lower_differs r.lower.status phase) s
goes s good q r Status f = let v = f.1.1 in reads r.lower.guard (lower_differs r.lower.status Status) s (root-as-read s good q r.upper r.lower v.under v.guard v.node)
goes s good q r Swap f =
    let v = f.1.1.0 in
    let node : IsOpenLink r.upper.slot r.lower s.past = record { guard = v.node.guard; thawed = f.1.1.1; under = v.node.under; parent = v.node.parent } in
    swaps (below_swap s.past.config r.upper r.lower r.lower.slot) (lower_differs r.lower.status Swap) s (below-stands s good q r.upper r.lower r.lower.slot v.guard node) (λ seen d. d)
goes s good q r phase f = idles _ (lower_differs r.lower.status phase) s (λ entries e. absurd (cc)) (λ seen d. d)

pub lowerings-go-on : LoweringsGoOn
lowerings-go-on t s same good f a = subst (λ z. GoesOn (lower_asks z (lowering_of t) t.phase) (lower_differs t.lower.status t.phase) s) same (goes s good (undisturbed.whole s good a) (lowering_of t) t.phase f)
