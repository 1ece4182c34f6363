-- What a plan owes, so that a writer may carry it out.
use Rattle.std.specs.Prelude.{◌≡◌, ◌≢◌, ℕ, ◌<◌, ◌≤◌, ◌*◌, false, All}
use Rattle.bz_layout.specs.Slots.{FreeSlots}
use Rattle.bz_layout.specs.declared.sizes.TheConstants.{NODE_WORDS, NODE_LINES}
use Rattle.bz_layout.specs.declared.thresholds.TheConstants.{SPLIT_SLOTS}
use Rattle.bz_task.specs.Instant.{Instant}
use Rattle.bz_task.specs.Requests.{Answers, Differed, IsEntryToAsk, IsReadable}
use Rattle.bz_task.specs.Scene.{Past, Scene, IsScene, Continues, here}
use Rattle.bz_task.specs.Swaps.{Stand, SwapsTo, IsGoodSwap, Takes}
use Rattle.bz_renew.specs.Nodes.{AreSlotsTaken, ArePlain, HaveSlots}
use Rattle.bz_writer.specs.Facts.{IsWriting}
use Rattle.bz_writer.specs.Phases.{no_change}
use Rattle.bz_writer.specs.Plans.{Plan}

-- what is known of the past stays; and what is asked for may be asked for
pub record IsSoundPlan (P : Plan) : Type 0 where
  pub some : 0 < P.nodes.count
  pub few : P.nodes.count ≤ SPLIT_SLOTS
  pub planned : (p q : Past) → Continues p q → P.planned p → P.planned q
  pub ready : (p q : Past) → Continues p q → P.ready p → P.ready q
  pub done : (p q : Past) → Continues p q → P.done p → P.done q
  pub none : (p q : Past) → Continues p q → P.none p → P.none q
  -- the guard may be read; where it is another one, it has been changed since it was read
  pub readable : (s : Scene) → IsScene s → P.planned s.past → IsReadable s P.guard
  pub differed : (s : Scene) (v : ℕ) → P.planned s.past → v ≢ P.status → Differed s P.guard v
  pub nameable : (s : Scene) → IsScene s → P.ready s.past → HaveSlots s.past.config.nodes P.nodes → P.nameable s.past.config
  pub named : (s : Scene) → IsScene s → P.ready s.past → HaveSlots s.past.config.nodes P.nodes → All (IsEntryToAsk s) (P.entries s.past.config)

-- all nodes are written, and durable
abbrev pub IsWritten : Plan → Scene → Type 0
IsWritten P s = IsWriting P (NODE_WORDS * P.nodes.count) (NODE_LINES * P.nodes.count) s

-- then its swap is lawful for everybody, and leads to what it should
pub record IsGoodPlan (P : Plan) : Type 0 where
  pub effect : (s : Scene) (y : Instant) → IsScene s → IsWritten P s → Stand (P.entries s.past.config) (here s) → SwapsTo s.past.config (P.entries s.past.config) (here s) y → IsGoodSwap false no_change (P.entries s.past.config) s y
  pub took : (s after : Scene) → IsScene s → IsWritten P s → Takes false (P.entries s.past.config) s after → P.done after.past

-- where the guard is as it was read, and the slots are taken, the nodes may be written; and where there are too few
pub record LooksWell (P Q : Plan) (old new : FreeSlots) : Type 0 where
  pub ready : (s : Scene) → IsScene s → old.nodes ≡ s.past.config.nodes → P.planned s.past → Answers s P.guard P.status → AreSlotsTaken Q.nodes old new → Q.ready s.past × ArePlain Q.nodes
  pub none : (s : Scene) → IsScene s → P.planned s.past → Q.none s.past
