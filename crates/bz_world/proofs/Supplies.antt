-- What is taken and left, from one step to the next.
use Rattle.std.proofs.Common.{◌≡◌, ◌≢◌, ℕ, ◌+◌, ◌≤◌, List, ◌∷◌, length, drop, arith, refl, ap, ◌∙◌, inl, inr, Option, Some, None}
use Rattle.std.specs.Prelude.{get_or, IsSome}
use Rattle.std.proofs.lemmas.List.{length-drop}
use Rattle.bz_layout.specs.Slots.{FreeSlots}
use Rattle.bz_layout.specs.declared.thresholds.TheConstants.{SPLIT_SLOTS}
use Rattle.bz_any_task.specs.Duties.{end_of, needs_of}
use Rattle.bz_mark.specs.declared.power.Power.TheVariants as power
use Rattle.bz_task.specs.OwnActs.{AreTakenFrom}
use Rattle.bz_task.specs.declared.todo.Outcome.{Outcome}
use Rattle.bz_task.specs.declared.todo.Seen.{Seen}
use Rattle.bz_task.specs.declared.todo.Todo.{Todo}
use Rattle.bz_task.specs.declared.todo.Todo.TheVariants.{Finish}
use Rattle.bz_world.specs.Inside.Acted.{MustTell}
use Rattle.bz_world.specs.Inside.Beginning.{world_view, supply_of}
use Rattle.bz_world.specs.Inside.Going.{needs_in}
use Rattle.bz_world.specs.Inside.Telling.{HasToldIn, MustStart}
use Rattle.bz_world.specs.WorldView.{supply_by}
use Rattle.bz_world.specs.declared.parts.Parts.{Parts}
use Rattle.bz_world.specs.declared.serving.OpenCall.{OpenCall}
use Rattle.bz_world.proofs.Takings.{no-more-free}

-- it is told while the power is on
pub shown-on : (p : Parts) → p.power ≡ power.On → (world_view p).supply ≡ supply_of p
shown-on p on = ap (λ z. supply_by z (supply_of p)) on

-- and nothing of it before
pub shown-off : (p : Parts) → p.power ≡ power.Off → (world_view p).supply ≡ record { taken = 0; left = 0 }
shown-off p off = ap (λ z. supply_by z (supply_of p)) off

pub shown-recovering : (p : Parts) → p.power ≡ power.Recovering → (world_view p).supply ≡ record { taken = 0; left = 0 }
shown-recovering p recovering = ap (λ z. supply_by z (supply_of p)) recovering

-- no list is longer than itself
pub not-longer : {A : Type 0} (x : A) (xs : List A) → xs ≡ x ∷ xs → ⊥
not-longer x xs e = omega (arith, ap length e)

-- a task takes no more slots than it was still to take
taken-few : (needed left : ℕ) (old new : FreeSlots) → AreTakenFrom needed left old new → length old.free + left ≤ length new.free + needed
taken-few needed left old new (inl t) = omega (arith, t.enough, t.none_left, length-drop needed old.free, ap (λ (z : FreeSlots). length z.free) t.slots)
taken-few needed left old new (inr t) = omega (arith, t.fewer, ap (λ (z : FreeSlots). length z.free) t.slots)

pub told-few : (old new : Option OpenCall) (seen : Seen) (moment : ℕ) (free : FreeSlots) (todo : Todo) (left : FreeSlots) → HasToldIn old seen moment free todo new left → length free.free + needs_in new ≤ length left.free + needs_in old
told-few None new seen moment free todo left h = absurd h
told-few (Some x) None seen moment free todo left h = absurd h
told-few (Some x) (Some y) seen moment free todo left h = taken-few (needs_of x.task) (needs_of y.task) free left h.heard.goes.slots

pub told-fewer : (old new : Option OpenCall) (seen : Seen) (moment : ℕ) (free : FreeSlots) (todo : Todo) (left : FreeSlots) → HasToldIn old seen moment free todo new left → length left.free ≤ length free.free
told-fewer None new seen moment free todo left h = absurd h
told-fewer (Some x) None seen moment free todo left h = absurd h
told-fewer (Some x) (Some y) seen moment free todo left h = no-more-free (needs_of x.task) (needs_of y.task) free left h.heard.goes.slots

-- nor than a split does
pub few-told : (p : Parts) (w : ℕ) (seen : Seen) → MustTell p w seen → needs_in (get_or p.workers.items w None) ≤ SPLIT_SLOTS
few-told p w seen m = omega (arith, ap needs_in m.is, m.told.tasked.laws.few, m.told.tasked.laws.most)

pub few-asked : (p : Parts) (w : ℕ) (todo : Todo) → MustStart p w todo → needs_in (get_or p.workers.items w None) ≤ SPLIT_SLOTS
few-asked p w todo m = omega (arith, ap needs_in m.is, m.asking.tasked.laws.few, m.asking.tasked.laws.most)

-- it has ended so
some-end : (o : Option Outcome) → IsSome o → (outcome : Outcome) × (o ≡ Some outcome)
some-end None s = absurd (cc)
some-end (Some outcome) s = (outcome, refl)

-- a task takes none as it ends, and where it goes on no other comes after it: so no more are gone in all than a split takes
pub few-in-all : (old new : Option OpenCall) (seen : Seen) (moment : ℕ) (free : FreeSlots) (todo : Todo) (left : FreeSlots) (last : ℕ) → HasToldIn old seen moment free todo new left → needs_in old ≤ SPLIT_SLOTS
    → length left.free ≤ last + SPLIT_SLOTS → (todo ≢ Finish → length left.free ≤ last + needs_in new) → length free.free ≤ last + SPLIT_SLOTS
few-in-all None new seen moment free todo left last h most went on = absurd h
few-in-all (Some x) None seen moment free todo left last h most went on = absurd h
few-in-all (Some x) (Some y) seen moment free todo left last h most went on = elim h.heard.goes.slots [
  | inr none ↦ omega (arith, went, ap (λ (z : FreeSlots). length z.free) none.slots)
  | inl all ↦ (
      let gone : length left.free ≡ length (drop (needs_of x.task) free.free) = ap (λ (z : FreeSlots). length z.free) all.slots in
      let more : todo ≢ Finish = λ e.
      let end = some-end (end_of y.task) (h.laws.finish (h.heard.goes.asked ∙ ap Some e)) in
      omega (arith, gone, length-drop (needs_of x.task) free.free, all.some, all.enough, ap (λ (z : FreeSlots). length z.free) (h.heard.goes.kept end.0 end.1)) in
      omega (arith, gone, length-drop (needs_of x.task) free.free, all.enough, all.none_left, most, on more))
]
