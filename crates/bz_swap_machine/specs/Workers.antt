-- What the kept fields of a worker say of it.
use Rattle.std.specs.Prelude.{slice_index}
use Rattle.bz_swap_machine.specs.declared.worker.Worker.{Worker}
use Rattle.bz_swap_machine.specs.Steps.{Local}

-- the worker as the acts see it
abbrev pub local_of : Worker → Local
local_of w = record { operation = w.operation; place = w.place; current = w.current; back = w.back; list = slice_index w.list.words }
