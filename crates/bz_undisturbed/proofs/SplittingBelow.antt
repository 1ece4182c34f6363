-- The split of a leaf below a parent goes on: the guards that it looks at again are as they were read, and so are the words of its swap.
use Rattle.std.proofs.Common.{◌≡◌, ℕ, true, false, sym, ◌∙◌, subst}
use Rattle.bz_word.specs.Statuses.{status}
use Rattle.bz_task.specs.Outcomes.{IsGuarded}
use Rattle.bz_task.specs.Requests.{Answers}
use Rattle.bz_task.specs.Scene.{Scene, Waiting, IsScene, here}
use Rattle.bz_task.specs.Swaps.{Stand}
use Rattle.bz_task.specs.declared.path.Link.{Link}
use Rattle.bz_renew.specs.Nodes.{Nodes}
use Rattle.bz_below.specs.Duties.{below_of}
use Rattle.bz_below.specs.Facts.{Below, below_nodes, below_asks, below_facts, below_differs}
use Rattle.bz_below.specs.Guards.{with_guard, WasNamed}
use Rattle.bz_below.specs.declared.phase.BelowPhase.{BelowPhase}
use Rattle.bz_below.specs.declared.phase.BelowPhase.TheVariants.{Room, Again, Guard, Named, Swap}
use Rattle.bz_below.specs.FromSplit.BelowSplits.{below_swap}
use Rattle.bz_undisturbed.specs.Undisturbed.{GoesOn}
use Rattle.bz_undisturbed.specs.Laws.{SplitsBelowGoOn}
use Rattle.bz_undisturbed.specs.Quiet.{IsQuietSince}
use Rattle.bz_undisturbed.proofs.Going.{idles, reads, swaps}
use Rattle.bz_undisturbed.proofs.Links.{guard-same, below-stands, open-below}
use Rattle.bz_undisturbed.proofs.Standing.{guard-stood}
use Rattle.bz_undisturbed.proofs.Quiet.{undisturbed}

-- the guard that was loaded last is the one that the path names
named-guard : (s : Scene) → IsScene s → IsQuietSince s.past.since s.past → (link : Link) (word : ℕ) (nodes : Nodes) → IsGuarded s.past link → WasNamed link word nodes s.past → word ≡ link.status
named-guard s good q link word nodes g n = sym n.value ∙ guard-stood s good s.past.since q link g g.since n.named n.since n.now

-- a guard that is looked at again is no frozen node's
thawed-still : (s : Scene) → IsScene s → IsQuietSince s.past.since s.past → (link : Link) → IsGuarded s.past link → (status link.status).frozen ≡ false → (v : ℕ) → Answers s link.guard v → (status v).frozen ≡ true → ⊥
thawed-still s good q link g t v a d = let e = guard-same s good q link v g a in absurd (cc (e, t, d))

goes : (s : Scene) → IsScene s → IsQuietSince s.past.since s.past → (r : Below) (phase : BelowPhase) → below_facts r phase Waiting s → GoesOn (below_asks s.past.config r phase) (below_differs r.lower phase) s
goes s good q r Room f = reads r.lower.guard (below_differs r.lower Room) s (λ v a d. d (guard-same s good q r.lower v f.1.parted.links.guard a))
goes s good q r Again f = reads r.lower.guard (below_differs r.lower Again) s (λ v a d. d (guard-same s good q r.lower v f.1.parted.links.guard a))
goes s good q r Guard f = let d = f.1.parted.links in reads r.upper.guard (below_differs r.lower Guard) s (thawed-still s good q r.upper d.upper_guard d.upper_thawed)
goes s good q r Named f = let d = f.1.planned.parted.links in reads r.upper.guard (below_differs r.lower Named) s (thawed-still s good q r.upper d.upper_guard d.upper_thawed)
goes s good q r Swap f =
    let d = f.1.0.planned.parted.links in
    let e = named-guard s good q r.upper r.guard (below_nodes r) d.upper_guard f.1.1 in
    swaps (below_swap s.past.config (with_guard r.upper r.guard) r.lower (r.slot 0)) (below_differs r.lower Swap) s
    (subst (λ z. Stand (below_swap s.past.config (with_guard r.upper z) r.lower (r.slot 0)) (here s)) (sym e) (below-stands s good q r.upper r.lower (r.slot 0) d.upper_guard (open-below s r.upper r.lower d))) (λ seen d. d)
goes s good q r phase f = idles _ (below_differs r.lower phase) s (λ entries e. absurd (cc)) (λ seen d. d)

pub splits-below-go-on : SplitsBelowGoOn
splits-below-go-on t s same good f a = subst (λ z. GoesOn (below_asks z (below_of t) t.phase) (below_differs t.lower t.phase) s) same (goes s good (undisturbed.whole s good a) (below_of t) t.phase f)
