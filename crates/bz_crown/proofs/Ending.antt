-- How a phase after an answer ends the task, if it does, and what answers to loads are.
use Rattle.std.proofs.Common.{◌≡◌, ◌≢◌, ℕ, ◌<◌, ◌⊎◌, true, false, refl, sym, ap, ◌∙◌, inr}
use Rattle.std.specs.Prelude.{◌≤◌, length, Some, None}
use Rattle.bz_call.specs.declared.replies.Spent.TheVariants.{Nodes as NoNodes, Swaps as NoSwaps}
use Rattle.bz_layout.specs.Slots.{FreeSlots}
use Rattle.bz_layout.specs.declared.config.Config.{Config}
use Rattle.bz_task.specs.OwnActs.{AreTakenFrom}
use Rattle.bz_task.specs.Requests.{Answers, Hears, Tells}
use Rattle.bz_task.specs.Scene.{Scene, Stage, Waiting, Took}
use Rattle.bz_task.specs.declared.path.Link.{Link}
use Rattle.bz_task.specs.declared.todo.Seen.{Seen}
use Rattle.bz_task.specs.declared.todo.Todo.TheVariants.{Read as Reads}
use Rattle.bz_task.specs.declared.todo.Outcome.TheVariants.{Done as IsDone, Restart as Restarts, Full as IsFull}
use Rattle.bz_task.specs.declared.todo.Seen.TheVariants.{Start, Read as Was, Stored, Flushed, Swapped, NoSwap as NoneLeft}
use Rattle.bz_crown.specs.Facts.{Crown, crown_asks, crown_differs, crown_end, crown_needs}
use Rattle.bz_crown.specs.declared.phase.CrownPhase.{CrownPhase}
use Rattle.bz_crown.specs.declared.phase.CrownPhase.TheVariants.{Fresh, Word, Again}

-- a phase after another one, told of how it ends
pub record EndsWell (upper lower : Link) (seen : Seen) (o p : CrownPhase) (free : FreeSlots) : Type 0 where
  pub done : crown_end p ≡ Some IsDone → seen ≡ Swapped true
  pub restart : crown_end p ≡ Some Restarts → (seen ≡ Swapped false) ⊎ crown_differs upper lower o seen
  pub no_swap : seen ≡ NoneLeft → crown_end p ≡ Some (IsFull NoSwaps)
  pub full_swaps : crown_end p ≡ Some (IsFull NoSwaps) → seen ≡ NoneLeft
  pub full_nodes : crown_end p ≡ Some (IsFull NoNodes) → length free.free < crown_needs o

-- an answer to a load
pub was-read : (a : ℕ) (seen : Seen) → Hears (Some (Reads a)) seen → (v : ℕ) × (seen ≡ Was v)
was-read a (Was v) h = (v, refl)
was-read a Start h = absurd (h)
was-read a Stored h = absurd (h)
was-read a Flushed h = absurd (h)
was-read a (Swapped won) h = absurd (h)
was-read a NoneLeft h = absurd (h)

pub read-answers : (a v : ℕ) (stage : Stage) (s : Scene) → Tells (Some (Reads a)) stage (Was v) s → (stage ≡ Waiting) × Answers s a v
read-answers a v Waiting s t = (refl, t)
read-answers a v Took s t = absurd (t)

pub takes-none : (o p : CrownPhase) (free : FreeSlots) → crown_needs p ≤ crown_needs o → AreTakenFrom (crown_needs o) (crown_needs p) free free
takes-none o p free fewer = inr (record { fewer = fewer; slots = refl })

-- no end
pub goes-on : (upper lower : Link) (seen : Seen) (o p : CrownPhase) (free : FreeSlots) → crown_end p ≡ None → seen ≢ NoneLeft → EndsWell upper lower seen o p free
goes-on upper lower seen o p free none heard = record {
  done = λ e. absurd (let h = sym none ∙ e in cc);
  restart = λ e. absurd (let h = sym none ∙ e in cc);
  no_swap = λ e. absurd (heard e);
  full_swaps = λ e. absurd (let h = sym none ∙ e in cc);
  full_nodes = λ e. absurd (let h = sym none ∙ e in cc);
}

pub was-no-swap : (a : ℕ) (seen : Seen) → Hears (Some (Reads a)) seen → seen ≢ NoneLeft
was-no-swap a seen h e = let w = was-read a seen h in let q = sym w.1 ∙ e in absurd (cc)

-- an answer that is not the value wanted is another one
pub other-lower : (upper lower : Link) (seen : Seen) → Hears (Some (Reads lower.guard)) seen → seen ≢ Was lower.status → crown_differs upper lower Again seen
other-lower upper lower (Was v) h ne = λ e. ne (ap Was e)
other-lower upper lower Start h ne = absurd (h)
other-lower upper lower Stored h ne = absurd (h)
other-lower upper lower Flushed h ne = absurd (h)
other-lower upper lower (Swapped won) h ne = absurd (h)
other-lower upper lower NoneLeft h ne = absurd (h)

pub first-ends : (c : Config) (r : Crown) (seen : Seen) (free : FreeSlots) → Hears (crown_asks c r Fresh) seen → EndsWell r.upper r.lower seen Fresh (Word 1) free
first-ends c r Start free h = goes-on r.upper r.lower Start Fresh (Word 1) free refl (λ e. absurd (cc))
first-ends c r (Was v) free h = absurd (h)
first-ends c r Stored free h = absurd (h)
first-ends c r Flushed free h = absurd (h)
first-ends c r (Swapped won) free h = absurd (h)
first-ends c r NoneLeft free h = absurd (h)
