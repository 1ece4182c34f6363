-- What a delete knows stays, and what it knows after its swap.
use Rattle.std.proofs.Common.{◌≡◌, ℕ, List, sym, ◌∙◌}
use Rattle.std.specs.Prelude.{Some}
use Rattle.bz_layout.specs.declared.config.Config.{Config}
use Rattle.bz_word.specs.declared.entry.Entry.{Entry}
use Rattle.bz_task.specs.Scene.{Scene, Stage, Waiting, Took, IsLawful, HasFilled}
use Rattle.bz_task.specs.Swaps.{Takes}
use Rattle.bz_task.specs.declared.todo.Todo.TheVariants.{Swap as Swaps_for}
use Rattle.bz_task.specs.declared.view.KeyView.{KeyView}
use Rattle.bz_task.proofs.Proved.{key_views_stay}
use Rattle.bz_record.proofs.Proved.{records_were}
use Rattle.bz_mutate.specs.DeleteFacts.{HasRemoved, delete_asks, delete_publishes, delete_learnt, delete_facts}
use Rattle.bz_mutate.specs.declared.delete_phase.DeletePhase.{DeletePhase}
use Rattle.bz_mutate.specs.declared.delete_phase.DeletePhase.TheVariants.{Fresh, Remove, Done, Restart, NeedsRoom, Full}

module _ (key : List ℕ) (v : KeyView) (s after : Scene) (l : IsLawful s after) where
  filled : HasFilled s → HasFilled after
  filled f k t = l.filled k ∙ f k (sym (l.took k) ∙ t)

  removed : HasRemoved v s → HasRemoved v after
  removed h = record { thawed = h.thawed; effected = l.effected ∙ h.effected }

  learnt : (phase : DeletePhase) (stage : Stage) → delete_learnt key v phase stage s → delete_learnt key v phase stage after
  learnt Fresh Waiting k = record { view = key_views_stay key v s.past after.past k.view l.continues; present = k.present; going = l.effected ∙ k.going }
  learnt (Remove f) Waiting k = record { payload = k.payload; said = k.said; was = records_were.found key k.payload v.slot v.status f.place f.extent s.past after.past k.was l.continues; size = k.size; thawed = k.thawed; going = l.effected ∙ k.going }
  learnt (Remove f) Took k = removed k
  learnt Done Waiting k = removed k
  learnt Restart Waiting k = k
  learnt Full Waiting k = k
  learnt NeedsRoom Waiting k = k
  learnt Fresh Took k = absurd (k)
  learnt Done Took k = absurd (k)
  learnt Restart Took k = absurd (k)
  learnt Full Took k = absurd (k)
  learnt NeedsRoom Took k = absurd (k)

  pub stable : (phase : DeletePhase) (stage : Stage) → delete_facts key v phase stage s → delete_facts key v phase stage after
  stable Fresh stage k = learnt Fresh stage k
  stable (Remove f) stage k = (filled k.0, learnt (Remove f) stage k.1)
  stable Done stage k = (filled k.0, learnt Done stage k.1)
  stable Restart stage k = (filled k.0, learnt Restart stage k.1)
  stable NeedsRoom stage k = (filled k.0, learnt NeedsRoom stage k.1)
  stable Full stage k = (filled k.0, learnt Full stage k.1)

-- the swap took effect
pub took : (c : Config) (key : List ℕ) (v : KeyView) (phase : DeletePhase) (s after : Scene) (entries : List Entry) → delete_facts key v phase Waiting s → delete_asks c v phase ≡ Some (Swaps_for entries)
    → Takes (delete_publishes phase) entries s after → delete_facts key v phase Took after
took c key v Fresh s after entries facts asks t = absurd (cc)
took c key v (Remove f) s after entries facts asks t = (λ k h. t.filled k ∙ facts.0 k (sym (t.took k) ∙ h), record { thawed = facts.1.thawed; effected = t.effected })
took c key v Done s after entries facts asks t = absurd (cc)
took c key v Restart s after entries facts asks t = absurd (cc)
took c key v NeedsRoom s after entries facts asks t = absurd (cc)
took c key v Full s after entries facts asks t = absurd (cc)
