-- The fuse of an armed cut: how many fences are made before the one at which the power is cut. No cut is armed where it is None.
use Rattle.std.specs.Prelude.{◌≡◌, ℕ, zero, ◌+◌, ◌-◌, not, Bool, true, false, List, Option, Some, None}
use Rattle.bz_ring.specs.declared.calls.QCall.{QCall}
use Rattle.bz_ring.specs.declared.marks.QMark.{QMark}
use Rattle.bz_qsched.specs.Points.{fences_of}
use Rattle.bz_qsched.specs.Queued.{Queued}

-- an act may be made: it is no fence, or the power is not cut at the next one
abbrev pub lets : Option ℕ → Bool → Bool
lets (Some zero) fence = not fence
lets fuse fence = true

-- after an act one fence fewer is made, if it was one
abbrev pub burnt : Bool → Option ℕ → Option ℕ
burnt false fuse = fuse
burnt true None = None
burnt true (Some left) = Some (left - 1)

-- where a cut is armed, the fences that were made and those that may still be made are as many as before
abbrev pub Burns : List QMark → Option ℕ → List QMark → Option ℕ → Type 0
Burns past None new left = left ≡ None
Burns past (Some some) new None = ⊥
Burns past (Some some) new (Some fewer) = fences_of new + fewer ≡ fences_of past + some

-- a queue in a run: the calls that wait, how many more may come, and the fuse of the run
pub record Fused : Type 0 where
  pub calls : List (ℕ × QCall)
  pub room : ℕ
  pub fuse : Option ℕ

abbrev pub with_fuse : Queued → Option ℕ → Fused
with_fuse queued fuse = record { calls = queued.calls; room = queued.room; fuse = fuse }
