-- What a validating load that differs says.
use Rattle.std.proofs.Common.{◌≡◌, ℕ, ◌∙◌, inl, inr}
use Rattle.bz_layout.specs.declared.sizes.TheConstants.{NODE_WORDS}
use Rattle.bz_task.specs.Requests.{IsCause}
use Rattle.bz_task.specs.Scene.{Scene, Waiting}
use Rattle.bz_task.specs.declared.todo.Seen.{Seen}
use Rattle.bz_task.specs.declared.todo.Seen.TheVariants.{Read as Was}
use Rattle.bz_leaf.proofs.Causes.{other-status, other-link, guard-read}
use Rattle.bz_find.specs.Facts.{find_facts, find_differs}
use Rattle.bz_find.specs.Phases.{find_asks}
use Rattle.bz_find.specs.declared.find.Find.{Find}
use Rattle.bz_find.specs.declared.phase.FindPhase.{FindPhase}
use Rattle.bz_find.specs.declared.phase.FindPhase.TheVariants.{Again, Link as Of_link, Guard}

-- the answer is one to a read
differs-by-read : (P : Seen → Type 0) (t : Find) (phase : FindPhase) → ((v : ℕ) → find_differs t phase (Was v) → P (Was v)) → (seen : Seen) → find_differs t phase seen → P seen
differs-by-read P t Again h (Was v) d = h v d
differs-by-read P t Of_link h (Was v) d = h v d
differs-by-read P t (Guard at) h (Was v) d = h v d
differs-by-read P t phase h seen d = absurd (d)

pub cause : (t : Find) (phase : FindPhase) (s : Scene) (seen : Seen) → s.past.config ≡ t.config → find_facts t phase Waiting s → find_differs t phase seen → IsCause (find_asks t phase) seen s
cause t Again s (Was v) same f d = inl (other-status t.config t.key t.link f.1.opened.ws v s same f.1.opened.reading (λ e. d (e ∙ f.1.opened.status)))
cause t Of_link s (Was v) same f d = inl (other-link t.key t.link f.1.opened.ws v s f.1.opened.reading d)
cause t (Guard at) s (Was v) same f d = inr (record { guard = guard-read t.key t.link f.1.ws NODE_WORDS s f.1.led.leaf.all; frozen = d })
cause t phase s seen same f d = absurd (d)
