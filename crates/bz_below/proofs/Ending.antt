-- How a phase after an answer ends the task, if it does, and what answers to loads are.
use Rattle.std.proofs.Common.{◌≡◌, ◌≢◌, ℕ, ◌<◌, ◌⊎◌, true, false, refl, sym, ap, subst, ◌∙◌, inr}
use Rattle.std.specs.Prelude.{◌≤◌, length, Some, None, ◌↔◌}
use Rattle.bz_call.specs.declared.replies.Spent.TheVariants.{Nodes as NoNodes, Swaps as NoSwaps}
use Rattle.bz_layout.specs.Slots.{FreeSlots}
use Rattle.bz_layout.specs.declared.config.Config.{Config}
use Rattle.bz_task.specs.OwnActs.{AreTakenFrom}
use Rattle.bz_task.specs.Requests.{Answers, Hears, Tells}
use Rattle.bz_task.specs.Scene.{Scene, Stage, Waiting, Took}
use Rattle.bz_task.specs.declared.path.Link.{Link}
use Rattle.bz_task.specs.declared.todo.Seen.{Seen}
use Rattle.bz_task.specs.declared.todo.Todo.TheVariants.{Read as Reads}
use Rattle.bz_task.specs.declared.todo.Outcome.TheVariants.{Done as IsDone, Restart as Restarts, Full as IsFull}
use Rattle.bz_task.specs.declared.todo.Seen.TheVariants.{Start, Read as Was, Stored, Flushed, Swapped, NoSwap as NoneLeft}
use Rattle.bz_below.specs.Facts.{Below, below_asks, below_differs, below_end, below_needs}
use Rattle.bz_below.specs.declared.phase.BelowPhase.{BelowPhase}
use Rattle.bz_below.specs.declared.phase.BelowPhase.TheVariants.{Fresh, Room, Word, Again, Guard, Store, Flush, Named, Swap, Done, Restart, NoRoom, NoSlot, NoSwap}

-- how phases end
ends-done : (p : BelowPhase) → below_end p ≡ Some IsDone → p ≡ Done
ends-done Done e = refl
ends-done Fresh e = absurd (cc)
ends-done (Word i) e = absurd (cc)
ends-done Room e = absurd (cc)
ends-done Again e = absurd (cc)
ends-done Guard e = absurd (cc)
ends-done (Store j) e = absurd (cc)
ends-done (Flush j) e = absurd (cc)
ends-done Named e = absurd (cc)
ends-done Swap e = absurd (cc)
ends-done Restart e = absurd (cc)
ends-done NoRoom e = absurd (cc)
ends-done NoSlot e = absurd (cc)
ends-done NoSwap e = absurd (cc)

ends-restart : (p : BelowPhase) → below_end p ≡ Some Restarts → p ≡ Restart
ends-restart Restart e = refl
ends-restart Fresh e = absurd (cc)
ends-restart (Word i) e = absurd (cc)
ends-restart Room e = absurd (cc)
ends-restart Again e = absurd (cc)
ends-restart Guard e = absurd (cc)
ends-restart (Store j) e = absurd (cc)
ends-restart (Flush j) e = absurd (cc)
ends-restart Named e = absurd (cc)
ends-restart Swap e = absurd (cc)
ends-restart Done e = absurd (cc)
ends-restart NoRoom e = absurd (cc)
ends-restart NoSlot e = absurd (cc)
ends-restart NoSwap e = absurd (cc)

ends-no-swap : (p : BelowPhase) → below_end p ≡ Some (IsFull NoSwaps) → p ≡ NoSwap
ends-no-swap NoSwap e = refl
ends-no-swap Fresh e = absurd (cc)
ends-no-swap (Word i) e = absurd (cc)
ends-no-swap Room e = absurd (cc)
ends-no-swap Again e = absurd (cc)
ends-no-swap Guard e = absurd (cc)
ends-no-swap (Store j) e = absurd (cc)
ends-no-swap (Flush j) e = absurd (cc)
ends-no-swap Named e = absurd (cc)
ends-no-swap Swap e = absurd (cc)
ends-no-swap Done e = absurd (cc)
ends-no-swap Restart e = absurd (cc)
ends-no-swap NoRoom e = absurd (cc)
ends-no-swap NoSlot e = absurd (cc)

ends-no-slot : (p : BelowPhase) → below_end p ≡ Some (IsFull NoNodes) → p ≡ NoSlot
ends-no-slot NoSlot e = refl
ends-no-slot Fresh e = absurd (cc)
ends-no-slot (Word i) e = absurd (cc)
ends-no-slot Room e = absurd (cc)
ends-no-slot Again e = absurd (cc)
ends-no-slot Guard e = absurd (cc)
ends-no-slot (Store j) e = absurd (cc)
ends-no-slot (Flush j) e = absurd (cc)
ends-no-slot Named e = absurd (cc)
ends-no-slot Swap e = absurd (cc)
ends-no-slot Done e = absurd (cc)
ends-no-slot Restart e = absurd (cc)
ends-no-slot NoRoom e = absurd (cc)
ends-no-slot NoSwap e = absurd (cc)

-- a phase after another one, told of how it ends
pub record EndsWell (lower : Link) (seen : Seen) (o p : BelowPhase) (free : FreeSlots) : Type 0 where
  pub done : below_end p ≡ Some IsDone → seen ≡ Swapped true
  pub restart : below_end p ≡ Some Restarts → (seen ≡ Swapped false) ⊎ below_differs lower o seen
  pub no_swap : seen ≡ NoneLeft → below_end p ≡ Some (IsFull NoSwaps)
  pub full_swaps : below_end p ≡ Some (IsFull NoSwaps) → seen ≡ NoneLeft
  pub full_nodes : below_end p ≡ Some (IsFull NoNodes) → length free.free < below_needs o

pub ends-well : (lower : Link) (seen : Seen) (o p : BelowPhase) (free : FreeSlots) → (p ≡ Done → seen ≡ Swapped true) → (p ≡ Restart → (seen ≡ Swapped false) ⊎ below_differs lower o seen) → (p ≡ NoSwap) ↔ (seen ≡ NoneLeft) → p ≢ NoSlot → EndsWell lower seen o p free
ends-well lower seen o p free done restart no_swap slots = record {
  done = λ e. done (ends-done p e);
  restart = λ e. restart (ends-restart p e);
  no_swap = λ e. ap below_end (no_swap.1 e);
  full_swaps = λ e. no_swap.0 (ends-no-swap p e);
  full_nodes = λ e. absurd (slots (ends-no-slot p e));
}

-- an answer to a load
pub was-read : (a : ℕ) (seen : Seen) → Hears (Some (Reads a)) seen → (v : ℕ) × (seen ≡ Was v)
was-read a (Was v) h = (v, refl)
was-read a Start h = absurd (h)
was-read a Stored h = absurd (h)
was-read a Flushed h = absurd (h)
was-read a (Swapped won) h = absurd (h)
was-read a NoneLeft h = absurd (h)

pub read-answers : (a v : ℕ) (stage : Stage) (s : Scene) → Tells (Some (Reads a)) stage (Was v) s → (stage ≡ Waiting) × Answers s a v
read-answers a v Waiting s t = (refl, t)
read-answers a v Took s t = absurd (t)

-- the word that a load found
pub word-answers : (a v : ℕ) (seen : Seen) (stage : Stage) (s : Scene) → ((w : ℕ) → seen ≡ Was w → v ≡ w) → Tells (Some (Reads a)) stage seen s → (seen ≡ Was v) × Answers s a v
word-answers a v (Was w) Waiting s found t = let e : v ≡ w = found w refl in (ap Was (sym e), subst (Answers s a) (sym e) t)
word-answers a v Start Waiting s found t = absurd (t)
word-answers a v Stored Waiting s found t = absurd (t)
word-answers a v Flushed Waiting s found t = absurd (t)
word-answers a v (Swapped won) Waiting s found t = absurd (t)
word-answers a v NoneLeft Waiting s found t = absurd (t)
word-answers a v seen Took s found t = absurd (t)

pub takes-none : (o p : BelowPhase) (free : FreeSlots) → below_needs p ≤ below_needs o → AreTakenFrom (below_needs o) (below_needs p) free free
takes-none o p free fewer = inr (record { fewer = fewer; slots = refl })

-- no end
pub goes-on : (lower : Link) (seen : Seen) (o p : BelowPhase) (free : FreeSlots) → below_end p ≡ None → seen ≢ NoneLeft → EndsWell lower seen o p free
goes-on lower seen o p free none heard = record {
  done = λ e. absurd (let h = sym none ∙ e in cc);
  restart = λ e. absurd (let h = sym none ∙ e in cc);
  no_swap = λ e. absurd (heard e);
  full_swaps = λ e. absurd (let h = sym none ∙ e in cc);
  full_nodes = λ e. absurd (let h = sym none ∙ e in cc);
}

pub was-no-swap : (a : ℕ) (seen : Seen) → Hears (Some (Reads a)) seen → seen ≢ NoneLeft
was-no-swap a seen h e = let w = was-read a seen h in let q = sym w.1 ∙ e in absurd (cc)

-- an answer that is not the value wanted is another one
pub other-lower : (lower : Link) (seen : Seen) → Hears (Some (Reads lower.guard)) seen → seen ≢ Was lower.status → below_differs lower Again seen
other-lower lower (Was v) h ne = λ e. ne (ap Was e)
other-lower lower Start h ne = absurd (h)
other-lower lower Stored h ne = absurd (h)
other-lower lower Flushed h ne = absurd (h)
other-lower lower (Swapped won) h ne = absurd (h)
other-lower lower NoneLeft h ne = absurd (h)

pub other-first : (lower : Link) (seen : Seen) → Hears (Some (Reads lower.guard)) seen → seen ≢ Was lower.status → below_differs lower Room seen
other-first lower (Was v) h ne = λ e. ne (ap Was e)
other-first lower Start h ne = absurd (h)
other-first lower Stored h ne = absurd (h)
other-first lower Flushed h ne = absurd (h)
other-first lower (Swapped won) h ne = absurd (h)
other-first lower NoneLeft h ne = absurd (h)

-- what the first act is: the load of the parent's status
pub first-ends : (c : Config) (r : Below) (seen : Seen) (free : FreeSlots) → Hears (below_asks c r Fresh) seen → EndsWell r.lower seen Fresh Room free
first-ends c r Start free h = goes-on r.lower Start Fresh Room free refl (λ e. absurd (cc))
first-ends c r (Was v) free h = absurd (h)
first-ends c r Stored free h = absurd (h)
first-ends c r Flushed free h = absurd (h)
first-ends c r (Swapped won) free h = absurd (h)
first-ends c r NoneLeft free h = absurd (h)
