-- A consolidation goes on: the guard that it looks at again is as it was read, and so are both words of its swap.
use Rattle.std.proofs.Common.{subst}
use Rattle.bz_task.specs.Scene.{Scene, Waiting, IsScene}
use Rattle.bz_any_task.specs.FromConsol.Duties.{renewal_of}
use Rattle.bz_any_task.specs.FromConsol.Facts.{Renewal, consol_asks, consol_facts, consol_differs}
use Rattle.bz_writer.specs.declared.phase.WritePhase.{WritePhase}
use Rattle.bz_writer.specs.declared.phase.WritePhase.TheVariants.{Guard, Swap}
use Rattle.bz_renew.specs.Renewals.{renewal}
use Rattle.bz_undisturbed.specs.Undisturbed.{GoesOn}
use Rattle.bz_undisturbed.specs.Laws.{ConsolidationsGoOn}
use Rattle.bz_undisturbed.specs.Quiet.{IsQuietSince}
use Rattle.bz_undisturbed.proofs.Going.{idles, reads, swaps}
use Rattle.bz_undisturbed.proofs.Links.{guard-same, renewal-stands}
use Rattle.bz_undisturbed.proofs.Quiet.{undisturbed}

goes : (s : Scene) → IsScene s → IsQuietSince s.past.since s.past → (r : Renewal) (phase : WritePhase) → consol_facts r phase Waiting s → GoesOn (consol_asks s.past.config r phase) (consol_differs r.link phase) s
goes s good q r Guard f = reads r.link.guard (consol_differs r.link Guard) s (λ v a d. d (guard-same s good q r.link v f.1.guard a))
goes s good q r Swap f = swaps (renewal r.link (r.slot 0)) (consol_differs r.link Swap) s (renewal-stands s good q r.link (r.slot 0) f.1.ready.viewed.guard) (λ seen d. d)
goes s good q r phase f = idles _ (consol_differs r.link phase) s (λ entries e. absurd (cc)) (λ seen d. d)

pub consolidations-go-on : ConsolidationsGoOn
consolidations-go-on t s same good f a = subst (λ z. GoesOn (consol_asks z (renewal_of t) t.phase) (consol_differs t.link t.phase) s) same (goes s good (undisturbed.whole s good a) (renewal_of t) t.phase f)
