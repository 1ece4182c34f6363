-- What callers see of the workers.
use Rattle.std.specs.Prelude.{◌≡◌, ℕ, zero, suc, List, [], ◌∷◌, map, get_or, ◌≢◌, true}
use Rattle.std.proofs.Common.{refl, sym}
use Rattle.bz_swap_machine.specs.declared.place.Place.{Place}
use Rattle.bz_swap_machine.specs.declared.place.Place.TheVariants as place
use Rattle.bz_swap_machine.specs.declared.worker.Operation.{Operation}
use Rattle.bz_swap_machine.specs.declared.worker.Operation.TheVariants as operation
use Rattle.bz_swap_machine.specs.declared.worker.Worker.{Worker}
use Rattle.bz_swap_machine.specs.declared.done.Done.{Done}
use Rattle.bz_swap_machine.specs.declared.done.Done.TheVariants.{Busy, Read, Swapped, Stored, Flushed}
use Rattle.bz_swap.specs.SwapMemory.{Doing, Idle, idle, worker_of, Flushing}
use Rattle.bz_swap.specs.Inside.Parts.{Parts, idle_worker, worker_at, working, doing_at, doing_operation, seen}
use Rattle.bz_swap.specs.Inside.Kept.{RestsAt, IsBusy}
use Rattle.bz_swap.specs.Steps.{doing_after}
use Rattle.bz_swap.proofs.Going.{IsGoing}
use Rattle.bz_swap_machine.specs.Fences.{is_fence}

pub working-idle : working idle_worker ≡ idle
unfolding idle_worker
working-idle = refl

-- a worker of a list, seen
pub get_or-working : (workers : List Worker) (w : ℕ) → get_or (map working workers) w idle ≡ working (get_or workers w idle_worker)
get_or-working [] w = sym working-idle
get_or-working (l ∷ workers) zero = refl
get_or-working (l ∷ workers) (suc w) = get_or-working workers w

pub worker-seen : (p : Parts) (w : ℕ) → worker_of (seen p) w ≡ working (worker_at p w)
worker-seen p w = get_or-working p.workers w

-- a worker on the way does its operation
pub doing-going : (x : Place) (o : Operation) → IsGoing x → doing_at x o ≡ doing_operation o
doing-going place.Idle o g = absurd g
doing-going (place.Prepare step) o g = refl
doing-going (place.Learn k) o g = refl
doing-going (place.Help step) o g = refl
doing-going (place.ReadWord a) o g = refl
doing-going (place.AskRead a v) o g = refl
doing-going (place.FenceRead a v) o g = refl
doing-going (place.ClearRead a v) o g = refl
doing-going (place.LoadWord a) o g = absurd g
doing-going (place.StoreWord a v) o g = absurd g
doing-going (place.AskLine line) o g = absurd g
doing-going (place.FenceLine line) o g = absurd g

-- no operation is a flush
no-flush : (o : Operation) (line : ℕ) → doing_operation o ≡ Flushing line → ⊥
no-flush operation.Nothing line is = absurd cc
no-flush (operation.Reading a) line is = absurd cc
no-flush (operation.Swapping s) line is = absurd cc

-- a flush that has asked for its line fences next
pub fences-next : (x : Place) (o : Operation) (line : ℕ) → ((k : ℕ) → x ≢ place.AskLine k) → doing_at x o ≡ Flushing line → is_fence x ≡ true
fences-next place.Idle o line asked is = absurd cc
fences-next (place.Prepare step) o line asked is = absurd (no-flush o line is)
fences-next (place.Learn k) o line asked is = absurd (no-flush o line is)
fences-next (place.Help step) o line asked is = absurd (no-flush o line is)
fences-next (place.ReadWord a) o line asked is = absurd (no-flush o line is)
fences-next (place.AskRead a v) o line asked is = absurd (no-flush o line is)
fences-next (place.FenceRead a v) o line asked is = refl
fences-next (place.ClearRead a v) o line asked is = absurd (no-flush o line is)
fences-next (place.LoadWord a) o line asked is = absurd cc
fences-next (place.StoreWord a v) o line asked is = absurd cc
fences-next (place.AskLine k) o line asked is = absurd (asked k refl)
fences-next (place.FenceLine k) o line asked is = refl

-- an operation that has answered is no longer done
pub done-idle : (d : Doing) (done : Done) → (done ≡ Busy → ⊥) → doing_after d done ≡ Idle
done-idle d Busy busy = absurd (busy refl)
done-idle d (Read v) busy = refl
done-idle d (Swapped b) busy = refl
done-idle d Stored busy = refl
done-idle d Flushed busy = refl

busy-not_idle : (o : Operation) → IsBusy o → doing_operation o ≡ Idle → ⊥
busy-not_idle operation.Nothing busy is = busy
busy-not_idle (operation.Reading a) busy is = absurd cc
busy-not_idle (operation.Swapping s) busy is = absurd cc

-- a worker is idle exactly where its place says so
pub idle-place : (x : Place) (o : Operation) → RestsAt x o → doing_at x o ≡ Idle → x ≡ place.Idle
idle-place place.Idle o h is = refl
idle-place (place.Prepare step) o h is = absurd (busy-not_idle o h is)
idle-place (place.Learn k) o h is = absurd (busy-not_idle o h is)
idle-place (place.Help step) o h is = absurd (busy-not_idle o h is)
idle-place (place.ReadWord a) o h is = absurd (busy-not_idle o h is)
idle-place (place.AskRead a v) o h is = absurd (busy-not_idle o h is)
idle-place (place.FenceRead a v) o h is = absurd (busy-not_idle o h is)
idle-place (place.ClearRead a v) o h is = absurd (busy-not_idle o h is)
idle-place (place.LoadWord a) o h is = absurd cc
idle-place (place.StoreWord a v) o h is = absurd cc
idle-place (place.AskLine line) o h is = absurd cc
idle-place (place.FenceLine line) o h is = absurd cc

pub place-idle : (x : Place) (o : Operation) → x ≡ place.Idle → doing_at x o ≡ Idle
place-idle x o is = rw is refl
