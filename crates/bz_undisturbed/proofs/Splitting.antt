-- The split of a root leaf goes on: the root status that it looks at again is as it was read, and so are both words of its swap.
use Rattle.std.proofs.Common.{subst}
use Rattle.bz_task.specs.Scene.{Scene, Waiting, IsScene}
use Rattle.bz_renew.specs.Renewals.{renewal}
use Rattle.bz_below.specs.FromSplit.Duties.{split_of}
use Rattle.bz_below.specs.FromSplit.Facts.{Split, split_asks, split_facts, split_differs}
use Rattle.bz_writer.specs.declared.phase.WritePhase.{WritePhase}
use Rattle.bz_writer.specs.declared.phase.WritePhase.TheVariants.{Guard, Swap}
use Rattle.bz_undisturbed.specs.Undisturbed.{GoesOn}
use Rattle.bz_undisturbed.specs.Laws.{RootSplitsGoOn}
use Rattle.bz_undisturbed.specs.Quiet.{IsQuietSince}
use Rattle.bz_undisturbed.proofs.Going.{idles, reads, swaps}
use Rattle.bz_undisturbed.proofs.Links.{guard-same, renewal-stands}
use Rattle.bz_undisturbed.proofs.Quiet.{undisturbed}

goes : (s : Scene) → IsScene s → IsQuietSince s.past.since s.past → (r : Split) (phase : WritePhase) → split_facts r phase Waiting s → GoesOn (split_asks s.past.config r phase) (split_differs r.link phase) s
goes s good q r Guard f = reads r.link.guard (split_differs r.link Guard) s (λ v a d. d (guard-same s good q r.link v f.1.guard a))
goes s good q r Swap f = swaps (renewal r.link (r.slot 0)) (split_differs r.link Swap) s (renewal-stands s good q r.link (r.slot 0) f.1.ready.parted.guard) (λ seen d. d)
goes s good q r phase f = idles _ (split_differs r.link phase) s (λ entries e. absurd (cc)) (λ seen d. d)

pub root-splits-go-on : RootSplitsGoOn
root-splits-go-on t s same good f a = subst (λ z. GoesOn (split_asks z (split_of t) t.phase) (split_differs t.link t.phase) s) same (goes s good (undisturbed.whole s good a) (split_of t) t.phase f)
