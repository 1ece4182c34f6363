-- Why a task that ends for want of slots takes them: the leaf of its key had to be made anew.
use Rattle.std.proofs.Common.{◌≡◌, ◌≢◌, ℕ, ◌<◌, true, List, arith, refl, sym, ap, subst, ◌∙◌, inl, inr}
use Rattle.bz_call.specs.Map.{key_of}
use Rattle.bz_call.specs.declared.replies.Spent.TheVariants.{Nodes}
use Rattle.bz_content.specs.Content.{image_of}
use Rattle.bz_layout.specs.declared.thresholds.TheConstants.{MERGE_SLOTS}
use Rattle.bz_stage.specs.FromLeaves.Neighbours.{leaf_page, MayBeMerged}
use Rattle.bz_solo.specs.Errands.{words_asked}
use Rattle.bz_solo.specs.FromJoined.Neighbours.{WasMergeable, MergesLackSlotsRightly}
use Rattle.bz_any_task.specs.Duties.{wants_of}
use Rattle.bz_any_task.specs.Kinds as kinds
use Rattle.bz_any_task.specs.Kinds.{kind_of}
use Rattle.bz_any_task.specs.MadeFor.{IsMadeFor}
use Rattle.bz_any_task.specs.declared.running.AnyTask.{AnyTask}
use Rattle.bz_any_task.specs.declared.running.AnyTask.TheVariants.{Seeking, Finding, Reading, Inserting, Updating, Deleting, Freezing, Consolidating, Splitting, SplittingBelow, SplittingInner, SplittingInnerRoot, Merging, MergingInner, Lowering}
use Rattle.bz_sound.specs.Memory.Moments.{image_at}
use Rattle.bz_refinement.specs.Laws.{ScenesAreSeen}
use Rattle.bz_task.specs.Scene.{Past}
use Rattle.bz_task.specs.declared.todo.Outcome.TheVariants.{Full}
use Rattle.bz_world.specs.Inside.Going.{MustGoOn, HasEnded, known}
use Rattle.bz_world.specs.Inside.Serving.{NeedsAtLeast}
use Rattle.bz_world.specs.declared.parts.Parts.{Parts}
use Rattle.bz_world.proofs.Meant.{merges-want}
use Rattle.bz_world.proofs.TakingOn.{known-scene}

-- a task that was made for a key is none that merges
made-otherwise : (t : AnyTask) (key : List ℕ) (words : ℕ) (p : Past) → IsMadeFor t key words p → kind_of t ≢ kinds.Merge
unfolding IsMadeFor kind_of
made-otherwise (Seeking t) key words p m e = absurd m
made-otherwise (Finding t) key words p m e = absurd m
made-otherwise (Reading t) key words p m e = absurd m
made-otherwise (Inserting t) key words p m e = absurd m
made-otherwise (Updating t) key words p m e = absurd m
made-otherwise (Deleting t) key words p m e = absurd m
made-otherwise (Freezing t) key words p m e = absurd (cc e)
made-otherwise (Consolidating t) key words p m e = absurd (cc e)
made-otherwise (Splitting t) key words p m e = absurd (cc e)
made-otherwise (SplittingBelow t a) key words p m e = absurd (cc e)
made-otherwise (SplittingInner t a) key words p m e = absurd (cc e)
made-otherwise (SplittingInnerRoot t a) key words p m e = absurd (cc e)
made-otherwise (Merging t) key words p m e = absurd m
made-otherwise (MergingInner t) key words p m e = absurd m
made-otherwise (Lowering t) key words p m e = absurd m

-- a leaf that was frozen and could be merged takes the slots of a merge
module _ (p : Parts) (w : ℕ) (on : MustGoOn p w) (m : WasMergeable (key_of on.serving.call) (known p w on).past) where
  image-is : (on.between.story.at m.moment).image ≡ image_at p.journal.start m.moment p.journal.past
  image-is = on.between.living.images m.moment (omega (arith, m.since, on.between.call_open.look.after_begin, on.between.living.begins w on.between.opened on.between.call_open.is_open)) m.now

  key-is : key_of on.serving.call ≡ key_of on.between.opened.call
  key-is = ap key_of (sym on.between.call_open.call)

  may : MayBeMerged p.config (image_at p.journal.start m.moment p.journal.past) (key_of on.between.opened.call)
  may = subst (λ (i : ℕ → ℕ). MayBeMerged p.config i (key_of on.between.opened.call)) image-is (subst (λ (k : List ℕ). MayBeMerged p.config (on.between.story.at m.moment).image k) key-is m.may)

  frozen : (leaf_page p.config (image_of (image_at p.journal.start m.moment p.journal.past)) (key_of on.between.opened.call)).frozen ≡ true
  frozen = (λ t. (leaf_page p.config (image_of (sym image-is t)) (sym key-is t)).frozen) ∙ m.frozen

  merge-needs : NeedsAtLeast p.config p.journal.start p.journal.past on.between.opened MERGE_SLOTS
  merge-needs = record {
    slots = MERGE_SLOTS;
    enough = omega arith;
    needs = record {
      moment = m.moment;
      after_begin = omega (arith, m.since, on.between.call_open.look.after_begin);
      before_end = m.now;
      frozen = frozen;
      needed = inr (inl (may, refl));
    };
  }

pub needed-slots : MergesLackSlotsRightly → ScenesAreSeen → (p : Parts) (w : ℕ) (e : HasEnded p w (Full Nodes)) → 0 < wants_of e.on.serving.task → NeedsAtLeast p.config p.journal.start p.journal.past e.on.between.opened (wants_of e.on.serving.task)
needed-slots law scenes p w e some = elim (e.meant.meant e.quiet) [
  | inl none ↦ absurd (omega (arith, none.slots, some))
  | inr made ↦ elim made [
    | inl merge ↦ subst (NeedsAtLeast p.config p.journal.start p.journal.past e.on.between.opened) (sym (merges-want e.on.serving.task (key_of e.on.serving.call) (known p w e.on).past merge))
        (merge-needs p w e.on (law e.on.serving.task (key_of e.on.serving.call) (known p w e.on) (known-scene scenes p w e.on) merge (e.tasked.laws.sound.ends (known p w e.on) (Full Nodes) e.facts e.end).0))
    | inr other ↦ e.on.between.call_open.wanted (e.on.between.call_open.effect ∙ e.quiet) some (made-otherwise e.on.serving.task (key_of e.on.serving.call) (words_asked e.on.serving.call) (known p w e.on).past other)
  ]
]
