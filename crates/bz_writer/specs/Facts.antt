-- What a writer asks for and what it knows, of a plan.
use Rattle.std.specs.Prelude.{◌≢◌, ℕ, ◌+◌, ◌*◌, ◌<◌, false, Option, Some, None}
use Rattle.bz_layout.specs.declared.config.Config.{Config}
use Rattle.bz_layout.specs.declared.sizes.TheConstants.{NODE_WORDS, NODE_LINES}
use Rattle.bz_task.specs.Scene.{Scene, Stage, Waiting, Took, HasFilled}
use Rattle.bz_task.specs.TaskView.{TaskView}
use Rattle.bz_task.specs.declared.todo.Seen.{Seen}
use Rattle.bz_task.specs.declared.todo.Seen.TheVariants.{Read as Was}
use Rattle.bz_task.specs.declared.todo.Todo.{Todo}
use Rattle.bz_task.specs.declared.todo.Todo.TheVariants.{Read as Reads, Store as Stores_at, Flush as Flushes_line, Swap as Swaps_for, Finish}
use Rattle.bz_renew.specs.Nodes.{ArePlain, AreWriting, HasFilledBegun, HaveSlots, word_address, word_value, line_number}
use Rattle.bz_writer.specs.Phases.{write_end, write_left, write_swaps, write_needs, means_of, no_change}
use Rattle.bz_writer.specs.Plans.{Plan}
use Rattle.bz_writer.specs.declared.phase.WritePhase.{WritePhase}
use Rattle.bz_writer.specs.declared.phase.WritePhase.TheVariants.{Fresh, Guard, Store, Flush, Swap, Done, Restart, NoSlot, NoSwap}

abbrev pub write_asks : Config → Plan → WritePhase → Option Todo
write_asks c P Fresh = None
write_asks c P Guard = Some (Reads P.guard)
write_asks c P (Store j) = Some (Stores_at (word_address c P.nodes j) (word_value P.nodes j))
write_asks c P (Flush j) = Some (Flushes_line (line_number c P.nodes j))
write_asks c P Swap = Some (Swaps_for (P.entries c))
write_asks c P phase = Some Finish

-- the nodes are being written: so many of their words are stored, and so many of their lines durable
pub record IsWriting (P : Plan) (stored lines : ℕ) (s : Scene) : Type 0 where
  pub ready : P.ready s.past
  pub plain : ArePlain P.nodes
  pub writing : AreWriting P.nodes stored lines s

abbrev pub write_facts : Plan → WritePhase → Stage → Scene → Type 0
write_facts P Fresh Waiting s = P.planned s.past
write_facts P Guard Waiting s = HasFilled s × P.planned s.past
write_facts P (Store j) Waiting s = HasFilledBegun P.nodes j s × ((j < NODE_WORDS * P.nodes.count) × IsWriting P j 0 s)
write_facts P (Store j) Took s = HasFilledBegun P.nodes (j + 1) s × ((j < NODE_WORDS * P.nodes.count) × IsWriting P (j + 1) 0 s)
write_facts P (Flush j) Waiting s = HasFilled s × ((j < NODE_LINES * P.nodes.count) × IsWriting P (NODE_WORDS * P.nodes.count) j s)
write_facts P (Flush j) Took s = HasFilled s × ((j < NODE_LINES * P.nodes.count) × IsWriting P (NODE_WORDS * P.nodes.count) (j + 1) s)
write_facts P Swap Waiting s = HasFilled s × IsWriting P (NODE_WORDS * P.nodes.count) (NODE_LINES * P.nodes.count) s
write_facts P Swap Took s = HasFilled s × P.done s.past
write_facts P Done Waiting s = HasFilled s × P.done s.past
write_facts P NoSlot Waiting s = HasFilled s × P.none s.past
write_facts P Restart Waiting s = HasFilled s
write_facts P NoSwap Waiting s = HasFilled s
write_facts P phase stage s = ⊥

-- the guard is another one than was read
abbrev pub write_differs : ℕ → WritePhase → Seen → Type 0
write_differs status Guard (Was v) = v ≢ status
write_differs status phase seen = ⊥

-- what is named is there
abbrev pub write_ready : Config → Plan → WritePhase → Type 0
write_ready c P (Store j) = HaveSlots c.nodes P.nodes × (j < NODE_WORDS * P.nodes.count)
write_ready c P (Flush j) = HaveSlots c.nodes P.nodes × (j < NODE_LINES * P.nodes.count)
write_ready c P Swap = HaveSlots c.nodes P.nodes × P.nameable c
write_ready c P phase = Unit {0}

-- a writer as a task
abbrev pub write_view : Config → Plan → WritePhase → TaskView
write_view c P phase = record {
  config = c;
  asks = write_asks c P phase;
  end = write_end phase;
  left = write_left P.nodes.count phase;
  swaps = write_swaps phase;
  -- its one swap is its last act where it takes effect: while it goes on it has made none
  made = 0;
  needs = write_needs P.nodes.count phase;
  change = no_change;
  basis = P.basis;
  publishing = false;
  facts = write_facts P phase;
  means = means_of P.done P.none;
  differs = write_differs P.status phase;
}
