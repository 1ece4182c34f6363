-- The machine's act at a worker's place, over the memory that the words mean.
use Rattle.std.specs.Prelude.{ℕ}
use Rattle.bz_swap_machine.specs.declared.worker.Worker.{Worker}
use Rattle.bz_swap_machine.specs.Machine.{Memory}
use Rattle.bz_swap_machine.specs.Steps.{Stepped, act}
use Rattle.bz_swap_machine.specs.Workers.{local_of}
use Rattle.bz_swap_cells.specs.Store.{Store, Beside, typed}

-- what the act of worker w makes
abbrev pub made : Store → Beside → Worker → ℕ → Stepped
made st b l w = act (typed st b) w (local_of l) l.place

-- what is told of the past in a machine's memory
abbrev pub beside_in : Memory → Beside
beside_in m = record { owner = m.owner; named = m.named; published = m.published; answer = m.answer }
