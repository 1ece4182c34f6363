-- What a queue knows of a call beside which no other is open: it need not go back, and has taken a descriptor for its swap alone.
use Rattle.std.specs.Prelude.{◌≡◌, ℕ, ◌+◌, List, Option, Some, None}
use Rattle.bz_swap.specs.SwapMemory.{SwapMemory}
use Rattle.bz_ring.specs.declared.marks.QMark.{QMark}
use Rattle.bz_ring.specs.declared.ring.Ring.{Ring}
use Rattle.bz_ring.specs.Calls.{Open, open_call}
use Rattle.bz_ring.specs.Journal.{at_moment}
use Rattle.bz_ring.specs.Solitary.{IsSolitary, taken_in}
use Rattle.bz_queue.specs.Inside.Left.{rounds_left}
use Rattle.bz_queue.specs.declared.serving.OpenCall.{OpenCall}
use Rattle.bz_queue.specs.declared.serving.Place.{Place}
use Rattle.bz_queue.specs.declared.serving.Place.TheVariants.{Counter, Cell, Again, Swap}

-- the descriptors that a call has taken by its place
abbrev pub swaps_at : Place → ℕ
swaps_at Counter = 0
swaps_at (Cell counter) = 0
swaps_at (Again counter at) = 0
swaps_at (Swap counter word) = 1

pub record IsAlone (r : Ring) (m : SwapMemory) (past : List QMark) (w begun : ℕ) (x : OpenCall) : Type 0 where
  pub rounds : rounds_left m w x.call x.effect x.place ≡ 0
  pub taken : m.taken ≡ taken_in r (at_moment begun past) + swaps_at x.place

-- so it is of an open call that is solitary
abbrev pub IsSparingSlot : Ring → SwapMemory → List QMark → ℕ → Option OpenCall → Type 0
IsSparingSlot r m past w None = Unit {0}
IsSparingSlot r m past w (Some x) = (opened : Open) → open_call w past ≡ Some opened → IsSolitary w past → IsAlone r m past w opened.begun x
