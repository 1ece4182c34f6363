-- How a phase after an answer ends the task, if it does, and what answers to loads are.
use Rattle.std.proofs.Common.{◌≡◌, ◌≢◌, ℕ, ◌<◌, ◌⊎◌, true, false, refl, sym, ap, ◌∙◌, inr}
use Rattle.std.specs.Prelude.{◌≤◌, length, Some, None}
use Rattle.bz_call.specs.declared.replies.Spent.TheVariants.{Nodes as NoNodes, Swaps as NoSwaps}
use Rattle.bz_layout.specs.Slots.{FreeSlots}
use Rattle.bz_layout.specs.declared.config.Config.{Config}
use Rattle.bz_task.specs.OwnActs.{AreTakenFrom}
use Rattle.bz_task.specs.Requests.{Answers, Hears, Tells}
use Rattle.bz_task.specs.Scene.{Scene, Stage, Waiting, Took}
use Rattle.bz_task.specs.declared.path.Link.{Link}
use Rattle.bz_task.specs.declared.todo.Seen.{Seen}
use Rattle.bz_task.specs.declared.todo.Todo.TheVariants.{Read as Reads}
use Rattle.bz_task.specs.declared.todo.Outcome.TheVariants.{Done as IsDone, Restart as Restarts, Full as IsFull}
use Rattle.bz_task.specs.declared.todo.Seen.TheVariants.{Start, Read as Was, Stored, Flushed, Swapped, NoSwap as NoneLeft}
use Rattle.bz_fork.specs.Facts.{Fork, fork_asks, fork_differs, fork_end, fork_needs}
use Rattle.bz_fork.specs.declared.phase.ForkPhase.{ForkPhase}
use Rattle.bz_fork.specs.declared.phase.ForkPhase.TheVariants.{Fresh, Unread, Tight, Again, Room, Check}

-- a phase after another one, told of how it ends
pub record EndsWell (upper middle lower : Link) (seen : Seen) (o p : ForkPhase) (free : FreeSlots) : Type 0 where
  pub done : fork_end p ≡ Some IsDone → seen ≡ Swapped true
  pub restart : fork_end p ≡ Some Restarts → (seen ≡ Swapped false) ⊎ fork_differs upper middle lower o seen
  pub no_swap : seen ≡ NoneLeft → fork_end p ≡ Some (IsFull NoSwaps)
  pub full_swaps : fork_end p ≡ Some (IsFull NoSwaps) → seen ≡ NoneLeft
  pub full_nodes : fork_end p ≡ Some (IsFull NoNodes) → length free.free < fork_needs o

-- an answer to a load
pub was-read : (a : ℕ) (seen : Seen) → Hears (Some (Reads a)) seen → (v : ℕ) × (seen ≡ Was v)
was-read a (Was v) h = (v, refl)
was-read a Start h = absurd (h)
was-read a Stored h = absurd (h)
was-read a Flushed h = absurd (h)
was-read a (Swapped won) h = absurd (h)
was-read a NoneLeft h = absurd (h)

pub read-answers : (a v : ℕ) (stage : Stage) (s : Scene) → Tells (Some (Reads a)) stage (Was v) s → (stage ≡ Waiting) × Answers s a v
read-answers a v Waiting s t = (refl, t)
read-answers a v Took s t = absurd (t)

pub takes-none : (o p : ForkPhase) (free : FreeSlots) → fork_needs p ≤ fork_needs o → AreTakenFrom (fork_needs o) (fork_needs p) free free
takes-none o p free fewer = inr (record { fewer = fewer; slots = refl })

-- no end
pub goes-on : (upper middle lower : Link) (seen : Seen) (o p : ForkPhase) (free : FreeSlots) → fork_end p ≡ None → seen ≢ NoneLeft → EndsWell upper middle lower seen o p free
goes-on upper middle lower seen o p free none heard = record {
  done = λ e. absurd (let h = sym none ∙ e in cc);
  restart = λ e. absurd (let h = sym none ∙ e in cc);
  no_swap = λ e. absurd (heard e);
  full_swaps = λ e. absurd (let h = sym none ∙ e in cc);
  full_nodes = λ e. absurd (let h = sym none ∙ e in cc);
}

pub was-no-swap : (a : ℕ) (seen : Seen) → Hears (Some (Reads a)) seen → seen ≢ NoneLeft
was-no-swap a seen h e = let w = was-read a seen h in let q = sym w.1 ∙ e in absurd (cc)

-- an answer that is not the value wanted is another one
pub other-lower : (upper middle lower : Link) (seen : Seen) → Hears (Some (Reads lower.guard)) seen → seen ≢ Was lower.status → fork_differs upper middle lower Again seen
other-lower upper middle lower (Was v) h ne = λ e. ne (ap Was e)
other-lower upper middle lower Start h ne = absurd (h)
other-lower upper middle lower Stored h ne = absurd (h)
other-lower upper middle lower Flushed h ne = absurd (h)
other-lower upper middle lower (Swapped won) h ne = absurd (h)
other-lower upper middle lower NoneLeft h ne = absurd (h)

pub other-middle : (upper middle lower : Link) (seen : Seen) → Hears (Some (Reads middle.guard)) seen → seen ≢ Was middle.status → fork_differs upper middle lower Check seen
other-middle upper middle lower (Was v) h ne = λ e. ne (ap Was e)
other-middle upper middle lower Start h ne = absurd (h)
other-middle upper middle lower Stored h ne = absurd (h)
other-middle upper middle lower Flushed h ne = absurd (h)
other-middle upper middle lower (Swapped won) h ne = absurd (h)
other-middle upper middle lower NoneLeft h ne = absurd (h)

pub other-first : (upper middle lower : Link) (seen : Seen) → Hears (Some (Reads middle.guard)) seen → seen ≢ Was middle.status → fork_differs upper middle lower Room seen
other-first upper middle lower (Was v) h ne = λ e. ne (ap Was e)
other-first upper middle lower Start h ne = absurd (h)
other-first upper middle lower Stored h ne = absurd (h)
other-first upper middle lower Flushed h ne = absurd (h)
other-first upper middle lower (Swapped won) h ne = absurd (h)
other-first upper middle lower NoneLeft h ne = absurd (h)

-- where the node's words are not read
pub other-unread : (upper middle lower : Link) (seen : Seen) → Hears (Some (Reads lower.guard)) seen → seen ≢ Was lower.status → fork_differs upper middle lower Unread seen
other-unread upper middle lower (Was v) h ne = λ e. ne (ap Was e)
other-unread upper middle lower seen h ne = absurd (h)

pub other-tight : (upper middle lower : Link) (seen : Seen) → Hears (Some (Reads middle.guard)) seen → seen ≢ Was middle.status → fork_differs upper middle lower Tight seen
other-tight upper middle lower (Was v) h ne = λ e. ne (ap Was e)
other-tight upper middle lower seen h ne = absurd (h)

-- the first act is no end
pub first-ends : (c : Config) (r : Fork) (seen : Seen) (p : ForkPhase) (free : FreeSlots) → Hears (fork_asks c r Fresh) seen → fork_end p ≡ None → EndsWell r.upper r.middle r.lower seen Fresh p free
first-ends c r Start p free h none = goes-on r.upper r.middle r.lower Start Fresh p free none (λ e. absurd (cc))
first-ends c r (Was v) p free h none = absurd (h)
first-ends c r Stored p free h none = absurd (h)
first-ends c r Flushed p free h none = absurd (h)
first-ends c r (Swapped won) p free h none = absurd (h)
first-ends c r NoneLeft p free h none = absurd (h)
