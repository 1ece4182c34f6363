-- Runs with a cut armed, and without.
use Rattle.std.proofs.Common.{◌≡◌, ◌≤◌, refl, inl, inr, ℕ, ◌-◌, List, [], sym, subst, ◌∙◌, arith, Option, Some, None}
use Rattle.bz_ring.specs.Content.{size_of}
use Rattle.bz_queue.specs.declared.open.Numbers.{Numbers}
use Rattle.bz_ring.specs.declared.calls.QCall.{QCall}
use Rattle.bz_qscript.specs.declared.item.QPlan.{QPlan}
use Rattle.bz_queue.specs.QueueView.{QueueView}
use Rattle.bz_queue.specs.declared.answers.QLimit.{QLimit}
use Rattle.bz_qsched.specs.Cuts.{CutsOff, CutsOffInPart}
use Rattle.bz_qsched.specs.Cutting.{IsCutRun}
use Rattle.bz_qsched.specs.Fuses.{with_fuse}
use Rattle.bz_qsched.specs.Plans.{RunsBy, RunsByInPart, IsDueInRun}
use Rattle.bz_qsched.specs.Queued.{Queued}
use Rattle.bz_qsched.specs.Runs.{point_of, point_with, IsAtLimit, IsStopped, Keeps, Leaves, HasRun}
use Rattle.bz_script.specs.declared.cut_plan.CutPlan.{CutPlan}
use Rattle.bz_qsched.specs.declared.running.RunEnd.{RunEnd}
use Rattle.bz_qsched.specs.declared.running.RunEnd.TheVariants as end
use Rattle.bz_qsched.specs.declared.turn.Stop.TheVariants.{Due, Limit}
use Rattle.bz_qsched.proofs.BurnLemmas.{before_cut, due_fences, never_due}

pub kept_leaves : (old new : QueueView) (queued left : Queued) (fuse burnt : Option ℕ) → Keeps old (with_fuse queued fuse) new (with_fuse left burnt) → Leaves old queued new left
kept_leaves old new queued left fuse burnt k = record {
  stays = record { numbers = k.numbers; start = k.start; most = k.most };
  room = omega (arith, k.room);
}

-- a run with no cut armed
module _ (plan : QPlan) (old new : QueueView) (queued left : Queued) (fuse : Option ℕ) where
  pub unarmed_ends : Keeps old (with_fuse queued None) new (with_fuse left fuse) × RunsBy plan (point_of old queued) (point_of new left) → HasRun None plan old queued end.Finished new left
  unarmed_ends (keeps, runs) = (kept_leaves old new queued left None fuse keeps, keeps.ready.powered, (runs, tt))

  pub unarmed_limit : (why : QLimit) → Keeps old (with_fuse queued None) new (with_fuse left fuse) × RunsByInPart (Limit why) plan (point_of old queued) (point_of new left) × IsAtLimit new why → HasRun None plan old queued (end.Limit why) new left
  unarmed_limit why (keeps, runs, met) = (record { numbers = keeps.numbers; start = keeps.start; most = keeps.most }, inl (runs, tt), met)

  pub unarmed_never : (w : ℕ) → Keeps old (with_fuse queued None) new (with_fuse left fuse) × RunsByInPart (Due w) plan (point_of old queued) (point_of new left) × IsStopped new fuse (Due w) → ⊥
  unarmed_never w (keeps, runs, due) = never_due old.log.past new.log.past None fuse refl due.1 keeps.fuse

-- a run with a cut armed
module _ (cut : CutPlan) (plan : QPlan) (old new : QueueView) (queued left : Queued) (fuse : Option ℕ) (some : 1 ≤ cut.flush) where
  pub armed_ends : Keeps old (with_fuse queued (Some (cut.flush - 1))) new (with_fuse left fuse) × RunsBy plan (point_of old queued) (point_of new left) → HasRun (Some cut) plan old queued end.Finished new left
  armed_ends (keeps, runs) = (
    kept_leaves old new queued left _ fuse keeps,
    keeps.ready.powered,
    (runs, before_cut cut old.log.past new.log.past _ fuse some refl keeps.fuse),
  )

  pub armed_limit : (why : QLimit) → Keeps old (with_fuse queued (Some (cut.flush - 1))) new (with_fuse left fuse) × RunsByInPart (Limit why) plan (point_of old queued) (point_of new left) × IsAtLimit new why
      → HasRun (Some cut) plan old queued (end.Limit why) new left
  armed_limit why (keeps, runs, met) = (
    record { numbers = keeps.numbers; start = keeps.start; most = keeps.most },
    inl (runs, before_cut cut old.log.past new.log.past _ fuse some refl keeps.fuse),
    met,
  )

  -- the fence is due
  pub armed_due : (w : ℕ) → Keeps old (with_fuse queued (Some (cut.flush - 1))) new (with_fuse left fuse) × RunsByInPart (Due w) plan (point_of old queued) (point_of new left) × IsStopped new fuse (Due w)
      → IsDueInRun cut plan w (point_of old queued) (point_of new left)
  armed_due w (keeps, runs, due) = record { runs = runs; flushes = due_fences cut old.log.past new.log.past _ fuse some refl due.1 keeps.fuse }

  -- and the power is cut
  pub armed_cut : (w : ℕ) (end : RunEnd) (after : QueueView) (dropped : Queued) → Keeps old (with_fuse queued (Some (cut.flush - 1))) new (with_fuse left fuse) → IsDueInRun cut plan w (point_of old queued) (point_of new left)
      → IsCutRun cut.seed new left end after dropped → HasRun (Some cut) plan old queued end after dropped
  armed_cut w end.Finished after dropped keeps due h = absurd h.0
  armed_cut w end.Cut after dropped keeps due ((stays, off, cuts), empty, room) = (
    record {
      stays = record { numbers = stays.numbers ∙ keeps.numbers; start = stays.start ∙ keeps.start; most = stays.most ∙ keeps.most };
      room = omega (arith, room, keeps.room);
    },
    off,
    (
      w,
      (
        point_of new left,
        due,
        subst (λ (calls : List (ℕ × QCall)). CutsOff old.log.start (size_of old.numbers.ring) cut.seed (point_of new left) (point_with after calls)) (sym empty)
            (subst (λ (start : List ℕ). CutsOff start (size_of old.numbers.ring) cut.seed (point_of new left) (point_with after [])) keeps.start
            (subst (λ (c : Numbers). CutsOff new.log.start (size_of c.ring) cut.seed (point_of new left) (point_with after [])) keeps.numbers (cuts left.calls))),
      ),
    ),
  )
  armed_cut w (end.Limit why) after dropped keeps due ((stays, is, cuts, met), same) = (
    record { numbers = stays.numbers ∙ keeps.numbers; start = stays.start ∙ keeps.start; most = stays.most ∙ keeps.most },
    inr (
      is,
      (
        point_of new left,
        (w, due),
        subst (λ (q : Queued). CutsOffInPart old.log.start (size_of old.numbers.ring) cut.seed (point_of new left) (point_of after q)) (sym same)
            (subst (λ (start : List ℕ). CutsOffInPart start (size_of old.numbers.ring) cut.seed (point_of new left) (point_with after left.calls)) keeps.start
            (subst (λ (c : Numbers). CutsOffInPart new.log.start (size_of c.ring) cut.seed (point_of new left) (point_with after left.calls)) keeps.numbers (cuts left.calls))),
      ),
    ),
    met,
  )
