-- One descriptor more is taken: what the words and the workers have stays.
use Rattle.std.specs.Prelude.{ℕ, ◌+◌, ◌<◌}
use Rattle.std.proofs.Common.{arith, refl}
use Rattle.bz_swap_machine.specs.declared.worker.Worker.{Worker}
use Rattle.bz_swap_cells.specs.Store.{Store, HasRoom, IsStore}
use Rattle.bz_swap_acts.specs.Ready.{LiesOutside}
use Rattle.bz_swap.specs.Inside.Kept.{IsWorker}
use Rattle.bz_swap.proofs.StepLies.{worker-shape}

abbrev pub one_taken : Store → Store
one_taken st = record st { taken = st.taken + 1 }

pub room-taken : (st : Store) → HasRoom st → st.taken < st.swaps → HasRoom (one_taken st)
room-taken st h left = record { memory = h.memory; state = h.state; fit = h.fit; workers = h.workers; room = h.room; numbered = h.numbered; noted = h.noted; taken = omega (arith, left) }

pub store-taken : (st : Store) → IsStore st → st.taken < st.swaps → IsStore (one_taken st)
store-taken st h left = record { has_room = room-taken st h.has_room left; cached = h.cached; durable = h.durable; asked = h.asked }

pub lies-taken : (st : Store) (a : ℕ) → LiesOutside st a → LiesOutside (one_taken st) a
lies-taken st a h = record { outside = h.outside; within = h.within }

pub worker-taken : (st : Store) (l : Worker) → IsWorker st l → IsWorker (one_taken st) l
worker-taken st l h = worker-shape st (one_taken st) l (record { swaps = refl; size = refl; workers = refl }) h
