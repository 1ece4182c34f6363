-- The split of an inner node below a parent goes on: the three guards that it looks at again are as they were read, and so are the words
-- of its swap.
use Rattle.std.proofs.Common.{subst}
use Rattle.bz_task.specs.Scene.{Scene, Waiting, IsScene}
use Rattle.bz_any_task.specs.FromBranch.InnerSplits.{inner_swap}
use Rattle.bz_any_task.specs.FromFork.Duties.{fork_of}
use Rattle.bz_any_task.specs.FromFork.Facts.{Fork, fork_asks, fork_facts, fork_differs}
use Rattle.bz_any_task.specs.FromFork.ForkPhase.{ForkPhase}
use Rattle.bz_any_task.specs.FromFork.ForkPhase.TheVariants.{Unread, Tight, Again, Room, Check, Writing}
use Rattle.bz_writer.specs.declared.phase.WritePhase.TheVariants.{Guard, Swap}
use Rattle.bz_undisturbed.specs.Undisturbed.{GoesOn}
use Rattle.bz_undisturbed.specs.Laws.{InnerSplitsGoOn}
use Rattle.bz_undisturbed.specs.Quiet.{IsQuietSince}
use Rattle.bz_undisturbed.proofs.Going.{idles, reads, swaps}
use Rattle.bz_undisturbed.proofs.Links.{guard-same, inner-stands, open-below}
use Rattle.bz_undisturbed.proofs.Quiet.{undisturbed}

goes : (s : Scene) → IsScene s → IsQuietSince s.past.since s.past → (r : Fork) (phase : ForkPhase) → fork_facts r phase Waiting s → GoesOn (fork_asks s.past.config r phase) (fork_differs r.upper r.middle r.lower phase) s
goes s good q r Unread f = reads r.lower.guard (fork_differs r.upper r.middle r.lower Unread) s (λ v a d. d (guard-same s good q r.lower v f.1.0.links.node.guard a))
goes s good q r Tight f = reads r.middle.guard (fork_differs r.upper r.middle r.lower Tight) s (λ v a d. d (guard-same s good q r.middle v f.1.links.down.guard a))
goes s good q r Again f = reads r.lower.guard (fork_differs r.upper r.middle r.lower Again) s (λ v a d. d (guard-same s good q r.lower v f.1.links.node.guard a))
goes s good q r Room f = reads r.middle.guard (fork_differs r.upper r.middle r.lower Room) s (λ v a d. d (guard-same s good q r.middle v f.1.links.down.guard a))
goes s good q r Check f = reads r.middle.guard (fork_differs r.upper r.middle r.lower Check) s (λ v a d. d (guard-same s good q r.middle v f.1.links.down.guard a))
goes s good q r (Writing Guard) f = reads r.upper.guard (fork_differs r.upper r.middle r.lower (Writing Guard)) s (λ v a d. d (guard-same s good q r.upper v f.1.links.down.upper_guard a))
goes s good q r (Writing Swap) f =
    let l = f.1.ready.planned.links in
    swaps (inner_swap s.past.config r.upper r.middle r.lower (r.slot 0)) (fork_differs r.upper r.middle r.lower (Writing Swap)) s
    (inner-stands s good q r.upper r.middle r.lower (r.slot 0) l.down.upper_guard (open-below s r.upper r.middle l.down) l.node) (λ seen d. d)
goes s good q r phase f = idles _ (fork_differs r.upper r.middle r.lower phase) s (λ entries e. absurd (cc)) (λ seen d. d)

pub inner-splits-go-on : InnerSplitsGoOn
inner-splits-go-on t s same good f a = subst (λ z. GoesOn (fork_asks z (fork_of t) t.phase) (fork_differs t.upper t.middle t.lower t.phase) s) same (goes s good (undisturbed.whole s good a) (fork_of t) t.phase f)
