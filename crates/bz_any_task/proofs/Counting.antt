-- Each read of a look-up is counted, and nothing else is asked of other tasks.
use Rattle.std.proofs.Common.{◌≡◌, ℕ, ◌+◌, ◌≤◌, Some, arith, refl, sym, subst, ◌∙◌}
use Rattle.bz_descend.specs.SeekDuties as seek
use Rattle.bz_descend.specs.SeekFacts.{seek_asks, asks_one}
use Rattle.bz_descend.specs.declared.seek.Seek.{Seek}
use Rattle.bz_descend.specs.declared.sight.Way.{Way}
use Rattle.bz_descend.specs.declared.sight.Way.TheVariants as way
use Rattle.bz_find.specs.Duties as find
use Rattle.bz_find.specs.Phases.{find_asks, reads_of}
use Rattle.bz_find.specs.declared.find.Find.{Find}
use Rattle.bz_find.specs.declared.phase.FindPhase.{FindPhase}
use Rattle.bz_find.specs.declared.phase.FindPhase.TheVariants as phase
use Rattle.bz_layout.specs.declared.config.Config.{Config}
use Rattle.std.specs.Prelude.{Option}
use Rattle.bz_task.specs.Requests.{steps_in}
use Rattle.bz_task.specs.declared.todo.Todo.{Todo}
use Rattle.bz_task.specs.declared.todo.Todo.TheVariants.{Read, Flush, Finish}
use Rattle.bz_any_task.specs.LookingUp.{NoLook, look_of, reads_in, HasCounted}
use Rattle.bz_any_task.specs.declared.running.AnyTask.{AnyTask}

read-counts : (a : ℕ) (todo : Todo) → Some (Read a) ≡ Some todo → reads_in todo ≡ 1
read-counts a todo e = let q : Read a ≡ todo = cc in subst (λ z. reads_in z ≡ 1) q refl

end-counts : (todo : Todo) → Some Finish ≡ Some todo → reads_in todo ≡ 0
end-counts todo e = let q : Finish ≡ todo = cc in subst (λ z. reads_in z ≡ 0) q refl

-- a phase of a descent asks for one read, or none
seek-asks : (c : Config) (p : Way) (todo : Todo) → seek_asks c p ≡ Some todo → reads_in todo ≡ asks_one p
seek-asks c way.Fresh todo e = absurd (cc)
seek-asks c way.Guard todo e = read-counts _ todo e
seek-asks c (way.Root st) todo e = read-counts _ todo e
seek-asks c (way.Header k) todo e = read-counts _ todo e
seek-asks c (way.Status k) todo e = read-counts _ todo e
seek-asks c (way.Meta r) todo e = read-counts _ todo e
seek-asks c (way.Word r x i) todo e = read-counts _ todo e
seek-asks c (way.First r) todo e = read-counts _ todo e
seek-asks c (way.Pointer r) todo e = read-counts _ todo e
seek-asks c way.Found todo e = end-counts todo e
seek-asks c way.Changed todo e = end-counts todo e

seek-few : (p : Way) → asks_one p ≤ 1
seek-few way.Fresh = omega arith
seek-few way.Guard = omega arith
seek-few (way.Root st) = omega arith
seek-few (way.Header k) = omega arith
seek-few (way.Status k) = omega arith
seek-few (way.Meta r) = omega arith
seek-few (way.Word r x i) = omega arith
seek-few (way.First r) = omega arith
seek-few (way.Pointer r) = omega arith
seek-few way.Found = omega arith
seek-few way.Changed = omega arith

-- whatever is asked for counts a step
some-steps : (asked : Option Todo) → 1 ≤ steps_in asked
some-steps (Some (Flush line)) = omega arith
some-steps asked = omega arith

-- what is left of its most reads falls only where each is counted
pub seek-counts : (t u : Seek) (todo : Todo) → seek.left_of u + steps_in (seek.asks_of u) ≤ seek.left_of t → seek.asks_of u ≡ Some todo → seek.asked_of t + reads_in todo ≤ seek.asked_of u
seek-counts t u todo near asks = omega (arith, near, some-steps (seek.asks_of u), seek-asks u.config u.phase todo asks, seek-few t.phase)

-- so does one of a look-up in a leaf
find-asks : (t : Find) (p : FindPhase) (todo : Todo) → find_asks t p ≡ Some todo → reads_in todo ≡ reads_of p
find-asks t phase.Fresh todo e = absurd (cc)
find-asks t phase.Status todo e = read-counts _ todo e
find-asks t phase.Header todo e = read-counts _ todo e
find-asks t phase.Searching todo e = read-counts _ todo e
find-asks t phase.Again todo e = read-counts _ todo e
find-asks t phase.Link todo e = read-counts _ todo e
find-asks t (phase.Guard at) todo e = read-counts _ todo e
find-asks t (phase.Viewed at) todo e = end-counts todo e
find-asks t phase.Changed todo e = end-counts todo e

find-few : (p : FindPhase) → reads_of p ≤ 1
find-few phase.Fresh = omega arith
find-few phase.Status = omega arith
find-few phase.Header = omega arith
find-few phase.Searching = omega arith
find-few phase.Again = omega arith
find-few phase.Link = omega arith
find-few (phase.Guard at) = omega arith
find-few (phase.Viewed at) = omega arith
find-few phase.Changed = omega arith

pub find-counts : (t u : Find) (todo : Todo) → find.left_of u + steps_in (find.asks_of u) ≤ find.left_of t → find.asks_of u ≡ Some todo → find.asked_of t + reads_in todo ≤ find.asked_of u
find-counts t u todo near asks = omega (arith, near, some-steps (find.asks_of u), find-asks u u.phase todo asks, find-few t.phase)

pub none-counts : (old new : AnyTask) (todo : Todo) → look_of old ≡ NoLook → look_of new ≡ NoLook → HasCounted old todo new
none-counts old new todo e f = record { look = f ∙ sym e; reads = λ l. absurd (l e) }
