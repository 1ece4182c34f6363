-- Runs with a cut armed, and without.
use Rattle.std.proofs.Common.{◌≡◌, ◌≤◌, refl, inl, inr, ℕ, ◌-◌, Bool, true, false, List, [], get_or, sym, ap, subst, ◌∙◌, arith, Option, Some, None}
use Rattle.bz_layout.specs.Addresses.{words_of}
use Rattle.bz_layout.specs.declared.config.Config.{Config}
use Rattle.bz_call.specs.declared.calls.Call.{Call}
use Rattle.bz_script.specs.declared.item.Plan.{Plan}
use Rattle.bz_world.specs.WorldView.{WorldView, flush_of}
use Rattle.bz_world.specs.declared.answers.LimitKind.{LimitKind}
use Rattle.bz_sched.specs.Cuts.{CutsOff, CutsOffInPart}
use Rattle.bz_sched.specs.Cutting.{IsCutRun}
use Rattle.bz_sched.specs.Fuses.{with_fuse}
use Rattle.bz_sched.specs.Plans.{RunsBy, RunsByInPart, IsDueInRun}
use Rattle.bz_sched.specs.Queued.{Queued}
use Rattle.bz_sched.specs.Runs.{point_of, point_with, IsAtLimit, IsStopped, Keeps, Leaves, HasRun}
use Rattle.bz_script.specs.declared.cut_plan.CutPlan.{CutPlan}
use Rattle.bz_sched.specs.declared.running.RunEnd.{RunEnd}
use Rattle.bz_sched.specs.declared.running.RunEnd.TheVariants as end
use Rattle.bz_sched.specs.declared.turn.Stop.TheVariants.{Due, Limit}
use Rattle.bz_sched.proofs.BurnLemmas.{before_cut, due_fences, never_due}

pub kept_leaves : (old new : WorldView) (queued left : Queued) (fuse burnt : Option ℕ) → Keeps old (with_fuse queued fuse) new (with_fuse left burnt) → Leaves old queued new left
kept_leaves old new queued left fuse burnt k = record {
  stays = record { config = k.config; at_start = k.at_start; start = k.start; limits = k.limits };
  room = omega (arith, k.room);
}

-- a run with no cut armed
module _ (plan : Plan) (old new : WorldView) (queued left : Queued) (fuse : Option ℕ) where
  pub unarmed_ends : Keeps old (with_fuse queued None) new (with_fuse left fuse) × RunsBy (words_of old.config) plan (point_of old queued) (point_of new left) → HasRun None plan old queued end.Finished new left
  unarmed_ends (keeps, runs) = (kept_leaves old new queued left None fuse keeps, keeps.ready.powered, (runs, tt))

  pub unarmed_limit : (why : LimitKind) → Keeps old (with_fuse queued None) new (with_fuse left fuse) × RunsByInPart (Limit why) (words_of old.config) plan (point_of old queued) (point_of new left) × IsAtLimit new why → HasRun None plan old queued (end.Limit why) new left
  unarmed_limit why (keeps, runs, met) = (record { config = keeps.config; at_start = keeps.at_start; start = keeps.start; limits = keeps.limits }, inl (runs, tt), met)

  pub unarmed_never : (w : ℕ) → Keeps old (with_fuse queued None) new (with_fuse left fuse) × RunsByInPart (Due w) (words_of old.config) plan (point_of old queued) (point_of new left) × IsStopped new fuse (Due w) → ⊥
  unarmed_never w (keeps, runs, due) = never_due old.log.past new.log.past None fuse refl due.1 keeps.fuse

-- a run with a cut armed
module _ (cut : CutPlan) (plan : Plan) (old new : WorldView) (queued left : Queued) (fuse : Option ℕ) (some : 1 ≤ cut.flush) where
  pub armed_ends : Keeps old (with_fuse queued (Some (cut.flush - 1))) new (with_fuse left fuse) × RunsBy (words_of old.config) plan (point_of old queued) (point_of new left) → HasRun (Some cut) plan old queued end.Finished new left
  armed_ends (keeps, runs) = (
    kept_leaves old new queued left _ fuse keeps,
    keeps.ready.powered,
    (runs, before_cut cut old.log.past new.log.past _ fuse some refl keeps.fuse),
  )

  pub armed_limit : (why : LimitKind) → Keeps old (with_fuse queued (Some (cut.flush - 1))) new (with_fuse left fuse) × RunsByInPart (Limit why) (words_of old.config) plan (point_of old queued) (point_of new left) × IsAtLimit new why
      → HasRun (Some cut) plan old queued (end.Limit why) new left
  armed_limit why (keeps, runs, met) = (
    record { config = keeps.config; at_start = keeps.at_start; start = keeps.start; limits = keeps.limits },
    inl (runs, before_cut cut old.log.past new.log.past _ fuse some refl keeps.fuse),
    met,
  )

  -- the fence is due
  pub armed_due : (w : ℕ) → Keeps old (with_fuse queued (Some (cut.flush - 1))) new (with_fuse left fuse) × RunsByInPart (Due w) (words_of old.config) plan (point_of old queued) (point_of new left) × IsStopped new fuse (Due w)
      → IsDueInRun (words_of old.config) cut plan w (point_of old queued) (point_of new left)
  armed_due w (keeps, runs, due) = record { runs = runs; flushes = due_fences cut old.log.past new.log.past _ fuse some refl due.1 keeps.fuse }

  -- and the power is cut
  pub armed_cut : (w : ℕ) (end : RunEnd) (after : WorldView) (dropped : Queued) → Keeps old (with_fuse queued (Some (cut.flush - 1))) new (with_fuse left fuse) → IsDueInRun (words_of old.config) cut plan w (point_of old queued) (point_of new left) → flush_of new w ≡ true
      → IsCutRun cut.seed new left end after dropped → HasRun (Some cut) plan old queued end after dropped
  armed_cut w end.Finished after dropped keeps due flush h = absurd h.0
  armed_cut w end.Cut after dropped keeps due flush ((stays, off, left_out, cuts), empty, room) = (
    record {
      stays = record { config = stays.config ∙ keeps.config; at_start = stays.at_start ∙ keeps.at_start; start = stays.start ∙ keeps.start; limits = stays.limits ∙ keeps.limits };
      room = omega (arith, room, keeps.room);
    },
    off,
    (
      w,
      (
        point_of new left,
        due,
        subst (λ (calls : List (ℕ × Call)). CutsOff old.log.start (words_of old.config) cut.seed (point_of new left) (point_with after calls)) (sym empty)
            (subst (λ (start : List ℕ). CutsOff start (words_of old.config) cut.seed (point_of new left) (point_with after [])) keeps.start
            (subst (λ (c : Config). CutsOff new.log.start (words_of c) cut.seed (point_of new left) (point_with after [])) keeps.config (cuts left.calls))),
      ),
      ap (λ (flags : List Bool). get_or flags w false) left_out ∙ flush,
    ),
  )
  armed_cut w (end.Limit why) after dropped keeps due flush ((stays, is, cuts, met), same) = (
    record { config = stays.config ∙ keeps.config; at_start = stays.at_start ∙ keeps.at_start; start = stays.start ∙ keeps.start; limits = stays.limits ∙ keeps.limits },
    inr (
      is,
      (
        point_of new left,
        (w, due),
        subst (λ (q : Queued). CutsOffInPart old.log.start (words_of old.config) cut.seed (point_of new left) (point_of after q)) (sym same)
            (subst (λ (start : List ℕ). CutsOffInPart start (words_of old.config) cut.seed (point_of new left) (point_with after left.calls)) keeps.start
            (subst (λ (c : Config). CutsOffInPart new.log.start (words_of c) cut.seed (point_of new left) (point_with after left.calls)) keeps.config (cuts left.calls))),
      ),
    ),
    met,
  )
