-- What a task is told lowers its weight by the slots that are gone then, and by what the start of its next act takes.
use Rattle.std.proofs.Common.{◌≡◌, ℕ, ◌+◌, ◌-◌, ◌≤◌, arith, refl, sym, ap, ◌∙◌, inl, inr, length}
use Rattle.std.specs.Prelude.{Some}
use Rattle.std.proofs.lemmas.List.{length-drop}
use Rattle.bz_layout.specs.Slots.{FreeSlots}
use Rattle.bz_task.specs.OwnActs.{AreTakenFrom}
use Rattle.bz_task.specs.Requests.{swaps_in, steps_in}
use Rattle.bz_task.specs.declared.todo.Seen.{Seen}
use Rattle.bz_task.specs.declared.todo.Todo.{Todo}
use Rattle.bz_task.specs.declared.todo.Todo.TheVariants.{Read, Load, Store, Flush, Swap, Finish}
use Rattle.bz_any_task.specs.Duties.{asks_of}
use Rattle.bz_any_task.specs.Hearing.{HasHeard}
use Rattle.bz_any_task.specs.declared.running.AnyTask.{AnyTask}
use Rattle.bz_costs.proofs.Asked.{asked-counted}
use Rattle.bz_costs.specs.Laws.{HearingIsPaid}
use Rattle.bz_costs.specs.Resources.{Resource, Marks, Descriptors, Slots}
use Rattle.bz_costs.specs.Weights.{start_allows, weigh}

-- the swap that it asks for now is the one of its next act
asked-one : (old new : AnyTask) (seen : Seen) (moment : ℕ) (free left : FreeSlots) (todo more : Todo) → HasHeard old seen moment free todo new left → more ≡ todo → swaps_in (asks_of new) ≡ swaps_in (Some more)
asked-one old new seen moment free left todo more h e = ap swaps_in (h.goes.asked ∙ ap Some (sym e))

-- and so are its steps
asked-steps : (old new : AnyTask) (seen : Seen) (moment : ℕ) (free left : FreeSlots) (todo more : Todo) → HasHeard old seen moment free todo new left → more ≡ todo → steps_in (asks_of new) ≡ steps_in (Some more)
asked-steps old new seen moment free left todo more h e = ap steps_in (h.goes.asked ∙ ap Some (sym e))

-- told of the act, and of how many swaps it is
paid : (old new : AnyTask) (seen : Seen) (moment : ℕ) (free left : FreeSlots) (todo more : Todo) → HasHeard old seen moment free todo new left → more ≡ todo → weigh Marks new + (0 + start_allows more) ≤ weigh Marks old
paid old new seen moment free left todo (Read a) h e = omega (arith, h.goes.nearer, h.goes.fewer, asked-steps old new seen moment free left todo (Read a) h e)
paid old new seen moment free left todo (Load a) h e = omega (arith, h.goes.nearer, h.goes.fewer, asked-steps old new seen moment free left todo (Load a) h e)
paid old new seen moment free left todo (Store a v) h e = omega (arith, h.goes.nearer, h.goes.fewer, asked-steps old new seen moment free left todo (Store a v) h e)
paid old new seen moment free left todo (Flush line) h e = omega (arith, h.goes.nearer, h.goes.fewer, asked-steps old new seen moment free left todo (Flush line) h e)
paid old new seen moment free left todo (Swap entries) h e = omega (arith, h.goes.nearer, h.goes.fewer, asked-steps old new seen moment free left todo (Swap entries) h e, asked-counted new, asked-one old new seen moment free left todo (Swap entries) h e)
paid old new seen moment free left todo Finish h e = omega (arith, h.goes.nearer, h.goes.fewer)

-- the slots that are gone are those that it was still to take
gone : (before after : ℕ) (free left : FreeSlots) → AreTakenFrom before after free left → after + (length free.free - length left.free + 0) ≤ before
gone before after free left (inl all) = omega (arith, all.none_left, ap (λ (z : FreeSlots). length z.free) all.slots, length-drop before free.free)
gone before after free left (inr none) = omega (arith, none.fewer, ap (λ (z : FreeSlots). length z.free) none.slots)

pub hearing-paid : (r : Resource) → HearingIsPaid r
hearing-paid Marks old new seen moment free left todo h = paid old new seen moment free left todo todo h refl
hearing-paid Descriptors old new seen moment free left todo h = omega (arith, h.goes.fewer, asked-counted new, asked-one old new seen moment free left todo todo h refl)
hearing-paid Slots old new seen moment free left todo h = gone _ _ free left h.goes.slots
