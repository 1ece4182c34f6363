-- A change that goes on was found to have room, and its last swap is the one that makes it.
use Rattle.std.proofs.Common.{◌≡◌, ◌≢◌, ◌≤◌, ℕ, true, false, List, Some, arith, inl, inr, refl}
use Rattle.bz_insert.specs.Facts.{insert_asks, insert_facts, insert_publishes, insert_swaps}
use Rattle.bz_insert.specs.declared.phase.InsertPhase.{InsertPhase}
use Rattle.bz_insert.specs.declared.phase.InsertPhase.TheVariants.{Fresh, Reserve, Store, Flush, Publish}
use Rattle.bz_layout.specs.declared.config.Config.{Config}
use Rattle.bz_mutate.specs.DeleteFacts.{delete_asks, delete_facts, delete_publishes}
use Rattle.bz_mutate.specs.UpdateFacts.{update_asks, update_facts, update_publishes, update_swaps}
use Rattle.bz_mutate.specs.declared.delete_phase.DeletePhase.{DeletePhase}
use Rattle.bz_mutate.specs.declared.delete_phase.DeletePhase.TheVariants as delete
use Rattle.bz_mutate.specs.declared.update_phase.UpdatePhase.{UpdatePhase}
use Rattle.bz_mutate.specs.declared.update_phase.UpdatePhase.TheVariants as update
use Rattle.bz_insert.specs.FromRecord.Records.{size_of, HasRoom, LacksRoom}
use Rattle.bz_insert.specs.FromRecord.NewRecord.{NewRecord}
use Rattle.bz_task.specs.Scene.{Scene, Stage, Waiting, Took}
use Rattle.bz_task.specs.declared.todo.Outcome.TheVariants.{NeedsRoom}
use Rattle.bz_task.specs.declared.todo.Todo.{Todo}
use Rattle.bz_task.specs.declared.todo.Todo.TheVariants.{Swap, Finish}
use Rattle.bz_task.specs.declared.view.KeyView.{KeyView}
use Rattle.bz_word.specs.Statuses.{status}
use Rattle.bz_word.specs.declared.entry.Entry.{Entry}
use Rattle.bz_any_task.specs.Duties.{asks_of, swaps_of, publishing_of, facts_of, means_of, makes_no_change, view_of}
use Rattle.bz_any_task.specs.declared.running.AnyTask.{AnyTask}
use Rattle.bz_any_task.specs.declared.running.AnyTask.TheVariants.{Inserting, Updating, Deleting}

-- the swap that a change asks for where no other is left
last-of-insert : (c : Config) (r : NewRecord) (phase : InsertPhase) (es : List Entry) → insert_swaps phase ≤ 1 → insert_asks c r phase ≡ Some (Swap es) → insert_publishes phase ≡ true
last-of-insert c r Publish es few a = refl
last-of-insert c r Reserve es few a = absurd (omega (arith, few))
last-of-insert c r phase es few a = absurd (cc)

last-of-update : (c : Config) (r : NewRecord) (phase : UpdatePhase) (es : List Entry) → update_swaps phase ≤ 1 → update_asks c r phase ≡ Some (Swap es) → update_publishes phase ≡ true
last-of-update c r (update.Replace f) es few a = refl
last-of-update c r (update.Grow f) es few a = absurd (omega (arith, few))
last-of-update c r phase es few a = absurd (cc)

last-of-delete : (c : Config) (v : KeyView) (phase : DeletePhase) (es : List Entry) → delete_asks c v phase ≡ Some (Swap es) → delete_publishes phase ≡ true
last-of-delete c v (delete.Remove f) es a = refl
last-of-delete c v phase es a = absurd (cc)

pub last-swap-publishes : (t : AnyTask) (es : List Entry) → makes_no_change t ≡ false → swaps_of t ≤ 1 → asks_of t ≡ Some (Swap es) → publishing_of t ≡ true
unfolding makes_no_change view_of
last-swap-publishes (Inserting t) es e few a = last-of-insert t.config t.added t.phase es few a
last-swap-publishes (Updating t) es e few a = last-of-update t.config t.added t.phase es few a
last-swap-publishes (Deleting t) es e few a = last-of-delete t.config t.view t.phase es a
last-swap-publishes t es e few a = absurd (cc)

end-told : (todo : Todo) → Some Finish ≡ Some todo → todo ≢ Finish → ⊥
end-told todo a n = n (cc)

-- what a change knows while it goes on, of the leaf as it was viewed
insert-has-room : (c : Config) (r : NewRecord) (phase : InsertPhase) (stage : Stage) (s : Scene) (todo : Todo) → insert_asks c r phase ≡ Some todo → todo ≢ Finish → insert_facts r phase stage s → HasRoom r.status (size_of r)
insert-has-room c r Fresh stage s todo a n f = absurd (cc)
insert-has-room c r Reserve Waiting s todo a n f = f.1.room
insert-has-room c r Reserve Took s todo a n f = f.1.fits.room
insert-has-room c r (Store i) Waiting s todo a n f = f.1.1.fits.room
insert-has-room c r (Store i) Took s todo a n f = f.1.1.fits.room
insert-has-room c r (Flush i) Waiting s todo a n f = f.1.1.fits.room
insert-has-room c r (Flush i) Took s todo a n f = f.1.1.fits.room
insert-has-room c r Publish Waiting s todo a n f = f.1.fits.room
insert-has-room c r Publish Took s todo a n f = f.1.room
insert-has-room c r phase stage s todo a n f = absurd (end-told todo a n)

update-has-room : (c : Config) (v : KeyView) (r : NewRecord) (phase : UpdatePhase) (stage : Stage) (s : Scene) (todo : Todo) → update_asks c r phase ≡ Some todo → todo ≢ Finish → update_facts v r phase stage s → HasRoom r.status (size_of r)
update-has-room c v r update.Fresh stage s todo a n f = absurd (cc)
update-has-room c v r (update.Grow g) Waiting s todo a n f = f.1.pair.fits.room
update-has-room c v r (update.Grow g) Took s todo a n f = f.1.pair.fits.room
update-has-room c v r (update.Store g i) Waiting s todo a n f = f.1.1.pair.fits.room
update-has-room c v r (update.Store g i) Took s todo a n f = f.1.1.pair.fits.room
update-has-room c v r (update.Flush g i) Waiting s todo a n f = f.1.1.pair.fits.room
update-has-room c v r (update.Flush g i) Took s todo a n f = f.1.1.pair.fits.room
update-has-room c v r (update.Replace g) Waiting s todo a n f = f.1.pair.fits.room
update-has-room c v r (update.Replace g) Took s todo a n f = f.1.room
update-has-room c v r phase stage s todo a n f = absurd (end-told todo a n)

delete-was-thawed : (c : Config) (key : List ℕ) (v : KeyView) (phase : DeletePhase) (stage : Stage) (s : Scene) (todo : Todo) → delete_asks c v phase ≡ Some todo → todo ≢ Finish → delete_facts key v phase stage s → (status v.status).frozen ≡ false
delete-was-thawed c key v delete.Fresh stage s todo a n f = absurd (cc)
delete-was-thawed c key v (delete.Remove g) Waiting s todo a n f = f.1.thawed
delete-was-thawed c key v (delete.Remove g) Took s todo a n f = f.1.thawed
delete-was-thawed c key v phase stage s todo a n f = absurd (end-told todo a n)

thawed-or-frozen : (st : ℕ) → (status st).frozen ≡ false → (status st).frozen ≡ true → ⊥
thawed-or-frozen st f t = cc

room-or-none : (st words : ℕ) → HasRoom st words → LacksRoom st words → ⊥
room-or-none st words h (inl frozen) = thawed-or-frozen st h.thawed frozen
room-or-none st words h (inr few) = omega (arith, h.fits, few)

pub goes-on-in-room : (t : AnyTask) (todo : Todo) (stage : Stage) (s z : Scene) → makes_no_change t ≡ false → asks_of t ≡ Some todo → todo ≢ Finish → facts_of t stage s → means_of t NeedsRoom z → ⊥
unfolding makes_no_change view_of
goes-on-in-room (Inserting t) todo stage s z e a n f m = room-or-none t.added.status (size_of t.added) (insert-has-room t.config t.added t.phase stage s todo a n f) m
goes-on-in-room (Updating t) todo stage s z e a n f m = room-or-none t.added.status (size_of t.added) (update-has-room t.config t.view t.added t.phase stage s todo a n f) m
goes-on-in-room (Deleting t) todo stage s z e a n f m = thawed-or-frozen t.view.status (delete-was-thawed t.config t.key t.view t.phase stage s todo a n f) m
goes-on-in-room t todo stage s z e a n f m = absurd (cc)
