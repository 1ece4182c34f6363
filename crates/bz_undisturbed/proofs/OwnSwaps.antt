-- What a task knows of its own swaps counts them among the effects since its look-up began.
use Rattle.std.proofs.Common.{ℕ, ◌+◌, ◌-◌, ◌≤◌, if◌then◌else◌, arith, sym, subst, inl, inr}
use Rattle.bz_insert.specs.Facts.{insert_facts, insert_made}
use Rattle.bz_insert.specs.declared.phase.InsertPhase.{InsertPhase}
use Rattle.bz_insert.specs.declared.phase.InsertPhase.TheVariants as insert
use Rattle.bz_any_task.specs.FromMerge.Counts.{merge_made, freezes_of, both_freezes}
use Rattle.bz_any_task.specs.FromMerge.Duties.{merging_of}
use Rattle.bz_any_task.specs.FromMerge.Facts.{merge_facts}
use Rattle.bz_any_task.specs.FromMerge.OwnFreezes.{BothWereFrozen}
use Rattle.bz_any_task.specs.FromMerge.Plans.{Merging, beside_leaf}
use Rattle.bz_any_task.specs.FromMerge.MergePhase.{MergePhase}
use Rattle.bz_any_task.specs.FromMerge.MergePhase.TheVariants as merge
use Rattle.bz_mutate.specs.UpdateFacts.{update_facts, update_made}
use Rattle.bz_mutate.specs.declared.update_phase.UpdatePhase.{UpdatePhase}
use Rattle.bz_mutate.specs.declared.update_phase.UpdatePhase.TheVariants as update
use Rattle.bz_record.specs.Leaves.{WasReserved}
use Rattle.bz_record.specs.declared.new_record.NewRecord.{NewRecord}
use Rattle.bz_task.specs.Scene.{Scene, Waiting, IsScene, here}
use Rattle.bz_task.specs.declared.view.KeyView.{KeyView}
use Rattle.bz_any_task.specs.Duties.{facts_of, made_of, view_of}
use Rattle.bz_any_task.specs.declared.running.AnyTask.{AnyTask}
use Rattle.bz_any_task.specs.declared.running.AnyTask.TheVariants as running
use Rattle.bz_undisturbed.specs.Counts.{OwnSwapsAreCounted}
use Rattle.bz_undisturbed.specs.Quiet.{HadEffects}
use Rattle.bz_undisturbed.proofs.OwnFreezes.{none-lost, had-then, own-least}
use Rattle.bz_undisturbed.proofs.Quiet.{never-fall}

module _ (s : Scene) (good : IsScene s) where
  -- none is undone
  none : (s.past.at s.past.since).effects + 0 ≤ (here s).effects
  none =
      let up : (s.past.at s.past.since).effects ≤ (here s).effects = never-fall s.past.config s.past.at s.past.since s.past.now s.past.since s.past.now good.history (record { since = omega arith; order = good.begun; until = omega arith }) in
      omega (arith, up)

  since-then : (made m : ℕ) → HadEffects made m s.past → (s.past.at s.past.since).effects + made ≤ (here s).effects
  since-then made m h =
      let up : (s.past.at m).effects ≤ (here s).effects = never-fall s.past.config s.past.at s.past.since s.past.now m s.past.now good.history (record { since = h.since; order = h.now; until = omega arith }) in
      omega (arith, up, h.effects)

  reserved : (r : NewRecord) → WasReserved r s.past → (s.past.at s.past.since).effects + 1 ≤ (here s).effects
  reserved r w = since-then 1 w.moment (record { since = w.leaf.leaf.since; now = w.leaf.leaf.now; effects = w.swapped })

  insert-counts : (r : NewRecord) (phase : InsertPhase) → insert_facts r phase Waiting s → (s.past.at s.past.since).effects + insert_made phase ≤ (here s).effects
  insert-counts r (insert.Store i) f = reserved r f.1.1.reserved
  insert-counts r (insert.Flush n) f = reserved r f.1.1.reserved
  insert-counts r insert.Publish f = reserved r f.1.reserved
  insert-counts r phase f = none

  update-counts : (v : KeyView) (r : NewRecord) (phase : UpdatePhase) → update_facts v r phase Waiting s → (s.past.at s.past.since).effects + update_made phase ≤ (here s).effects
  update-counts v r (update.Store f i) k = let g = k.1.1.grown in since-then 1 g.was.moment (record { since = g.was.leaf.leaf.since; now = g.was.leaf.leaf.now; effects = g.swapped })
  update-counts v r (update.Flush f n) k = let g = k.1.1.grown in since-then 1 g.was.moment (record { since = g.was.leaf.leaf.since; now = g.was.leaf.leaf.now; effects = g.swapped })
  update-counts v r (update.Replace f) k = let g = k.1.grown in since-then 1 g.was.moment (record { since = g.was.leaf.leaf.since; now = g.was.leaf.leaf.now; effects = g.swapped })
  update-counts v r phase k = none

  both-counts : (r : Merging) → BothWereFrozen r s.past → (s.past.at s.past.since).effects + both_freezes r ≤ (here s).effects
  both-counts r (inl e) =
      let own : (s.past.at s.past.since).effects + freezes_of r.status ≤ (here s).effects = own-least s good r e.1 none in
      subst (λ t. (s.past.at s.past.since).effects + (freezes_of r.status + (if t then 0 else 1)) ≤ (here s).effects) (sym e.0) (omega (arith, own))
  both-counts r (inr w) =
      let z = w.before in
      let least : (z.past.at z.past.since).effects + freezes_of r.status ≤ (here z).effects = own-least z w.froze.earlier.good r w.viewed (none-lost s good r (beside_leaf r) z w.froze) in
      let both : (s.past.at s.past.since).effects + (freezes_of r.status + 1) ≤ (here s).effects =
      since-then (freezes_of r.status + 1) (z.past.now + 1) (had-then s good r (beside_leaf r) z w.froze (freezes_of r.status) least) in
      subst (λ t. (s.past.at s.past.since).effects + (freezes_of r.status + (if t then 0 else 1)) ≤ (here s).effects) (sym w.froze.thawed) both

  merge-counts : (r : Merging) (phase : MergePhase) → merge_facts r phase Waiting s → (s.past.at s.past.since).effects + merge_made r phase ≤ (here s).effects
  merge-counts r merge.FreezeBeside f = own-least s good r f.1.1.1.1 none
  merge-counts r merge.Guard f = both-counts r f.1.froze
  merge-counts r (merge.Store j) f = both-counts r f.1.1.frozen.froze
  merge-counts r (merge.Flush j) f = both-counts r f.1.1.frozen.froze
  merge-counts r merge.Swap f = both-counts r f.1.frozen.froze
  merge-counts r phase f = none

  counts : (t : AnyTask) → facts_of t Waiting s → (s.past.at s.past.since).effects + made_of t ≤ (here s).effects
  unfolding view_of
  counts (running.Inserting t) f = insert-counts t.added t.phase f
  counts (running.Updating t) f = update-counts t.view t.added t.phase f
  counts (running.Merging t) f = merge-counts (merging_of t) t.phase f
  counts t f = none

pub own-counted : OwnSwapsAreCounted
own-counted t s good f =
    let least : (s.past.at s.past.since).effects + made_of t ≤ (here s).effects = counts s good t f in
    ((here s).effects - ((s.past.at s.past.since).effects + made_of t), omega (arith, least))
