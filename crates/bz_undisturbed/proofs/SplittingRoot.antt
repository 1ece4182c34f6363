-- The split of an inner root goes on: both guards that it looks at again are as they were read, and so are the words of its swap.
use Rattle.std.proofs.Common.{subst}
use Rattle.bz_task.specs.Scene.{Scene, Waiting, IsScene}
use Rattle.bz_any_task.specs.FromCrown.Duties.{crown_of}
use Rattle.bz_any_task.specs.FromCrown.Facts.{Crown, crown_asks, crown_facts, crown_differs}
use Rattle.bz_any_task.specs.FromCrown.CrownPhase.{CrownPhase}
use Rattle.bz_any_task.specs.FromCrown.CrownPhase.TheVariants.{Again, Writing}
use Rattle.bz_writer.specs.declared.phase.WritePhase.TheVariants.{Guard, Swap}
use Rattle.bz_below.specs.FromSplit.BelowSplits.{below_swap}
use Rattle.bz_undisturbed.specs.Undisturbed.{GoesOn}
use Rattle.bz_undisturbed.specs.Laws.{InnerRootSplitsGoOn}
use Rattle.bz_undisturbed.specs.Quiet.{IsQuietSince}
use Rattle.bz_undisturbed.proofs.Going.{idles, reads, swaps}
use Rattle.bz_undisturbed.proofs.Links.{guard-same, below-stands}
use Rattle.bz_undisturbed.proofs.Quiet.{undisturbed}

goes : (s : Scene) → IsScene s → IsQuietSince s.past.since s.past → (r : Crown) (phase : CrownPhase) → crown_facts r phase Waiting s → GoesOn (crown_asks s.past.config r phase) (crown_differs r.upper r.lower phase) s
goes s good q r Again f = reads r.lower.guard (crown_differs r.upper r.lower Again) s (λ v a d. d (guard-same s good q r.lower v f.1.links.node.guard a))
goes s good q r (Writing Guard) f = reads r.upper.guard (crown_differs r.upper r.lower (Writing Guard)) s (λ v a d. d (guard-same s good q r.upper v f.1.links.guard a))
goes s good q r (Writing Swap) f =
    let l = f.1.ready.planned.links in
    swaps (below_swap s.past.config r.upper r.lower (r.slot 0)) (crown_differs r.upper r.lower (Writing Swap)) s (below-stands s good q r.upper r.lower (r.slot 0) l.guard l.node) (λ seen d. d)
goes s good q r phase f = idles _ (crown_differs r.upper r.lower phase) s (λ entries e. absurd (cc)) (λ seen d. d)

pub inner-root-splits-go-on : InnerRootSplitsGoOn
inner-root-splits-go-on t s same good f a = subst (λ z. GoesOn (crown_asks z (crown_of t) t.phase) (crown_differs t.upper t.lower t.phase) s) same (goes s good (undisturbed.whole s good a) (crown_of t) t.phase f)
