-- What follows a store or a flush is nothing that ends a merge.
use Rattle.std.proofs.Common.{◌≡◌, ◌≢◌, ◌+◌, ◌<◌, ◌≤◌, ℕ, if◌then◌else◌, Bool, true, false, arith, sym, subst}
use Rattle.std.specs.Prelude.{nat_lt}
use Rattle.bz_task.specs.Scene.{Scene, Stage, Waiting, Took}
use Rattle.bz_merge.specs.Facts.{MERGE_WORDS, MERGE_LINES, merge_left, merge_steps, merge_needs, merge_facts, store_after, flush_after}
use Rattle.bz_merge.specs.Plans.{Merging}
use Rattle.bz_merge.specs.declared.phase.MergePhase.{MergePhase}
use Rattle.bz_merge.specs.declared.phase.MergePhase.TheVariants.{Fresh, Store, Flush, Swap, Done, Restart, NoSlot, NoSwap}

pub record GoesOn (right : Bool) (o q : MergePhase) : Type 0 where
  pub nearer : merge_left right q + merge_steps q ≤ merge_left right o
  pub needs : merge_needs q ≤ merge_needs o
  pub done : q ≢ Done
  pub restart : q ≢ Restart
  pub no_swap : q ≢ NoSwap
  pub slots : q ≢ NoSlot
  pub begun : q ≢ Fresh

stored-on : (right : Bool) (j : ℕ) (b : Bool) → j < MERGE_WORDS → GoesOn right (Store j) (if b then Store (j + 1) else Flush 0)
stored-on right j true less = record { nearer = omega (arith, less); needs = omega arith; done = λ e. absurd (cc); restart = λ e. absurd (cc); no_swap = λ e. absurd (cc); slots = λ e. absurd (cc); begun = λ e. absurd (cc) }
stored-on right j false less = record { nearer = omega (arith, less); needs = omega arith; done = λ e. absurd (cc); restart = λ e. absurd (cc); no_swap = λ e. absurd (cc); slots = λ e. absurd (cc); begun = λ e. absurd (cc) }

flushed-on : (right : Bool) (j : ℕ) (b : Bool) → j < MERGE_LINES → GoesOn right (Flush j) (if b then Flush (j + 1) else Swap)
flushed-on right j true less = record { nearer = omega (arith, less); needs = omega arith; done = λ e. absurd (cc); restart = λ e. absurd (cc); no_swap = λ e. absurd (cc); slots = λ e. absurd (cc); begun = λ e. absurd (cc) }
flushed-on right j false less = record { nearer = omega (arith, less); needs = omega arith; done = λ e. absurd (cc); restart = λ e. absurd (cc); no_swap = λ e. absurd (cc); slots = λ e. absurd (cc); begun = λ e. absurd (cc) }

pub store-within : (r : Merging) (j : ℕ) (stage : Stage) (s : Scene) → merge_facts r (Store j) stage s → j < MERGE_WORDS
store-within r j Waiting s f = f.1.0
store-within r j Took s f = f.1.0

pub flush-within : (r : Merging) (j : ℕ) (stage : Stage) (s : Scene) → merge_facts r (Flush j) stage s → j < MERGE_LINES
flush-within r j Waiting s f = f.1.0
flush-within r j Took s f = f.1.0

module _ (right : Bool) (o q : MergePhase) (j : ℕ) where
  pub stores-on : o ≡ Store j → q ≡ store_after j → j < MERGE_WORDS → GoesOn right o q
  stores-on is then_is less = subst (λ z. GoesOn right z q) (sym is) (subst (GoesOn right (Store j)) (sym then_is) (stored-on right j (nat_lt (j + 1) MERGE_WORDS) less))

  pub flushes-on : o ≡ Flush j → q ≡ flush_after j → j < MERGE_LINES → GoesOn right o q
  flushes-on is then_is less = subst (λ z. GoesOn right z q) (sym is) (subst (GoesOn right (Flush j)) (sym then_is) (flushed-on right j (nat_lt (j + 1) MERGE_LINES) less))
