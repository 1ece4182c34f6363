-- What a writer knows stays.
use Rattle.std.proofs.Common.{ℕ, ◌+◌, ◌*◌, sym, ◌∙◌}
use Rattle.bz_layout.specs.Slots.{FreeSlots}
use Rattle.bz_layout.specs.declared.sizes.TheConstants.{NODE_WORDS, NODE_LINES}
use Rattle.bz_task.proofs.Proved.{nothing_is_gained}
use Rattle.bz_task.specs.OwnActs.{gained}
use Rattle.bz_task.specs.Scene.{Scene, Stage, Waiting, Took, IsLawful, HasFilled}
use Rattle.bz_renew.proofs.NodeWrites.{nodes-stay, begun-stays, nodes-no-slot, begun-no-slot}
use Rattle.bz_writer.specs.Facts.{IsWriting, write_facts}
use Rattle.bz_writer.specs.Laws.{IsSoundPlan}
use Rattle.bz_writer.specs.Plans.{Plan}
use Rattle.bz_writer.specs.declared.phase.WritePhase.{WritePhase}
use Rattle.bz_writer.specs.declared.phase.WritePhase.TheVariants.{Fresh, Guard, Store, Flush, Swap, Done, Restart, NoSlot, NoSwap}

-- after a lawful step
module _ (P : Plan) (sound : IsSoundPlan P) (s after : Scene) (l : IsLawful s after) where
  writing : (stored lines : ℕ) → IsWriting P stored lines s → IsWriting P stored lines after
  writing stored lines f = record { ready = sound.ready s.past after.past l.continues f.ready; plain = f.plain; writing = nodes-stay P.nodes stored lines s after f.writing l }

  filled : HasFilled s → HasFilled after
  filled f k t = l.filled k ∙ f k (sym (l.took k) ∙ t)

  pub stable : (phase : WritePhase) (stage : Stage) → write_facts P phase stage s → write_facts P phase stage after
  stable Fresh Waiting f = sound.planned s.past after.past l.continues f
  stable Guard Waiting f = (filled f.0, sound.planned s.past after.past l.continues f.1)
  stable (Store j) Waiting f = (begun-stays P.nodes j s after f.0 l, (f.1.0, writing j 0 f.1.1))
  stable (Store j) Took f = (begun-stays P.nodes (j + 1) s after f.0 l, (f.1.0, writing (j + 1) 0 f.1.1))
  stable (Flush j) Waiting f = (filled f.0, (f.1.0, writing (NODE_WORDS * P.nodes.count) j f.1.1))
  stable (Flush j) Took f = (filled f.0, (f.1.0, writing (NODE_WORDS * P.nodes.count) (j + 1) f.1.1))
  stable Swap Waiting f = (filled f.0, writing (NODE_WORDS * P.nodes.count) (NODE_LINES * P.nodes.count) f.1)
  stable Swap Took f = (filled f.0, sound.done s.past after.past l.continues f.1)
  stable Done Waiting f = (filled f.0, sound.done s.past after.past l.continues f.1)
  stable NoSlot Waiting f = (filled f.0, sound.none s.past after.past l.continues f.1)
  stable Restart Waiting f = filled f
  stable NoSwap Waiting f = filled f
  stable phase stage f = absurd (f)

-- where no slot is taken
module _ (P : Plan) (s : Scene) (free : FreeSlots) where
  writing-too : (stored lines : ℕ) → IsWriting P stored lines s → IsWriting P stored lines (gained s free free)
  writing-too stored lines f = record { ready = f.ready; plain = f.plain; writing = nodes-no-slot P.nodes stored lines s free f.writing }

  pub no-slot : (phase : WritePhase) → write_facts P phase Waiting s → write_facts P phase Waiting (gained s free free)
  no-slot Fresh f = f
  no-slot Guard f = (nothing_is_gained s free f.0, f.1)
  no-slot (Store j) f = (begun-no-slot P.nodes j s free f.0, (f.1.0, writing-too j 0 f.1.1))
  no-slot (Flush j) f = (nothing_is_gained s free f.0, (f.1.0, writing-too (NODE_WORDS * P.nodes.count) j f.1.1))
  no-slot Swap f = (nothing_is_gained s free f.0, writing-too (NODE_WORDS * P.nodes.count) (NODE_LINES * P.nodes.count) f.1)
  no-slot Done f = (nothing_is_gained s free f.0, f.1)
  no-slot NoSlot f = (nothing_is_gained s free f.0, f.1)
  no-slot Restart f = nothing_is_gained s free f
  no-slot NoSwap f = nothing_is_gained s free f
