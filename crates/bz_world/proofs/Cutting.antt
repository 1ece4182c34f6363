-- The power fails: what a world keeps then.
use Rattle.std.proofs.Common.{◌≡◌, ◌≢◌, ℕ, ◌+◌, ◌≤◌, Bool, false, length, replicate, arith, refl, sym, ap, subst, ◌∙◌, Option, None}
use Rattle.std.specs.Prelude.{get_or, map}
use Rattle.arrayvec.specs.ArrayVec.{ArrayVec}
use Rattle.std.specs.Global.{Vec}
use Rattle.std.proofs.lemmas.List.{length-replicate}
use Rattle.bz_content.specs.Resolving.{resolve}
use Rattle.bz_mark.specs.Log.{with_mark}
use Rattle.bz_mark.specs.declared.marks.Mark.TheVariants.{Cut}
use Rattle.bz_mark.specs.declared.power.Power.{Power}
use Rattle.bz_mark.specs.declared.power.Power.TheVariants as power
use Rattle.bz_sound.specs.Memory.Moments.{map_at_start}
use Rattle.bz_sound.specs.Power.Laws.{CutsFollow, PowerTellsWhatFollows, IsAfterCut}
use Rattle.bz_sound.specs.Power.Sound.{IsSound}
use Rattle.bz_refinement.specs.Recovering.{Started}
use Rattle.bz_refinement.specs.Reviving.{CutsAreMarked}
use Rattle.bz_swap.specs.Power.{after_cut}
use Rattle.bz_swap.specs.SwapMemory.{Working, idle}
use Rattle.bz_world.specs.Inside.Beginning.{world_view, is_swap}
use Rattle.bz_world.specs.Inside.Kept.{IsTabled, IsAwake, IsOff, IsStarted, IsKept}
use Rattle.bz_world.specs.Inside.Paid.{begun_with}
use Rattle.bz_world.specs.Inside.Powering.{IsCut}
use Rattle.bz_world.specs.WorldView as lab
use Rattle.bz_world.specs.declared.parts.Parts.{Parts}
use Rattle.bz_world.specs.declared.serving.OpenCall.{OpenCall}
use Rattle.bz_world.proofs.LeavesKept.{same-leaves}
use Rattle.bz_world.proofs.Openings.{map-replicate}
use Rattle.bz_world.proofs.Powered.{awake-in, started-in, kept-off}
use Rattle.bz_world.proofs.Tabled.{tabled-plain}

-- the laws that these proofs stand on
pub record Laws : Type 0 where
  pub follow : CutsFollow
  pub tells : PowerTellsWhatFollows
  pub leave : CutsAreMarked

-- the world after it
abbrev cut-off : Parts → Vec (Option OpenCall) → ArrayVec Bool → Parts
cut-off p workers flags = record p { access = after_cut p.access; journal = with_mark p.journal Cut; power = power.Off; workers = workers; left_out = flags }

-- whatever the power was, if it was not off
module _ (b : Laws) (p : Parts) (t : IsTabled p) (sound : IsSound p.config p.at_start p.journal) (not-off : p.power ≢ power.Off) (room : length p.journal.past + 3 ≤ p.config.marks)
    (workers : Vec (Option OpenCall)) (size : length workers.items ≡ length p.workers.items) (flags : ArrayVec Bool) where
  tabled : IsTabled (cut-off p workers flags)
  tabled = tabled-plain p (cut-off p workers flags) Cut tt (record { room = omega (arith, room); workers = size; crew = length-replicate {A = Working} (length p.access.workers) idle; steps = omega (arith, t.steps); power = refl; rest = refl }) refl t

  no-cut : IsAfterCut p.at_start p.journal.past → ⊥
  no-cut after = not-off (sym t.power ∙ (b.tells p.at_start (map_at_start p.config p.journal.start) p.journal.past sound.once).off.1 after)

  sound-on : IsSound p.config p.at_start (with_mark p.journal Cut)
  sound-on = b.follow p.config p.at_start p.journal sound no-cut

  -- so it is seen
  lab-cut : flags.items ≡ map (λ (v : Working). v.flush_next) p.access.workers → world_view (cut-off p workers flags) ≡ lab.after_cut (world_view p)
  lab-cut same = λ t. record { config = p.config; at_start = p.at_start; log = with_mark p.journal Cut; flushes = flushes t; swapping = swapping t; left_out = same t; supply = record { taken = 0; left = 0 }; at_begin = begun_with p }
    where
      flushes : map (λ (v : Working). v.flush_next) (after_cut p.access).workers ≡ replicate (p.config.workers + 1) false
      flushes = map-replicate (λ (v : Working). v.flush_next) (length p.access.workers) idle ∙ ap (λ n. replicate n false) t.crew

      swapping : map (λ (v : Working). is_swap v.doing) (after_cut p.access).workers ≡ replicate (p.config.workers + 1) false
      swapping = map-replicate (λ (v : Working). is_swap v.doing) (length p.access.workers) idle ∙ ap (λ n. replicate n false) t.crew

module _ (b : Laws) (p : Parts) (room : length p.journal.past + 3 ≤ p.config.marks) (workers : Vec (Option OpenCall)) (size : length workers.items ≡ length p.workers.items) (flags : ArrayVec Bool) (none : (w : ℕ) → get_or workers.items w None ≡ None) where
  awake-off : IsAwake p → IsOff (cut-off p workers flags)
  unfolding tabled sound-on
  awake-off k = record {
    dark = record {
      tabled = tabled b p k.tabled k.sound (λ e. let on = k.on in absurd (cc (e, on))) room workers size flags;
      sound = sound-on b p k.tabled k.sound (λ e. let on = k.on in absurd (cc (e, on))) room workers size flags;
      leaves = (λ now. same-leaves _ _ _ _ refl, k.leaves);
      none = none;
      slots = k.free.nodes;
      values = resolve (k.story.at (length p.journal.past)).image;
    };
    memory = b.leave.living p.config p.access p.journal k.story k.living k.tabled.crew;
  }

  started-off : IsStarted p → p.power ≡ power.Recovering → IsOff (cut-off p workers flags)
  started-off k is = record {
    dark = record {
      tabled = tabled b p k.dark.tabled k.dark.sound (λ e. absurd (cc (e, is))) room workers size flags;
      sound = sound-on b p k.dark.tabled k.dark.sound (λ e. absurd (cc (e, is))) room workers size flags;
      leaves = (λ now. same-leaves _ _ _ _ refl, k.dark.leaves);
      none = none;
      slots = k.dark.slots;
      values = k.dark.values;
    };
    memory = b.leave.recovering p.config k.dark.values p.access p.journal Started p.recovery k.memory;
  }

off-by : Laws → (p : Parts) → IsKept p → length p.journal.past + 3 ≤ p.config.marks → (workers : Vec (Option OpenCall)) → length workers.items ≡ length p.workers.items → (flags : ArrayVec Bool) → ((w : ℕ) → get_or workers.items w None ≡ None) → p.power ≢ power.Off → IsOff (cut-off p workers flags)
off-by b p k room workers size flags none ne = go p.power refl
  where
    go : (z : Power) → p.power ≡ z → IsOff (cut-off p workers flags)
    go power.Off e = absurd (ne e)
    go power.On e = awake-off b p room workers size flags none (awake-in p k e)
    go power.Recovering e = started-off b p room workers size flags none (started-in p k e) e

pub cut-kept : Laws → (old new : Parts) → IsKept old → length old.journal.past + 3 ≤ old.config.marks → old.power ≢ power.Off → IsCut old new → IsKept new
cut-kept b old new k room ne cut = subst IsKept (sym cut.rest) (kept-off (cut-off old new.workers new.left_out) refl (off-by b old k room new.workers cut.size new.left_out cut.none ne))

pub cut-seen : Laws → (old new : Parts) → IsKept old → length old.journal.past + 3 ≤ old.config.marks → old.power ≢ power.Off → IsCut old new → world_view new ≡ lab.after_cut (world_view old)
cut-seen b old new k room ne cut = ap world_view cut.rest ∙ lab-cut b old k.tabled k.sound ne room new.workers cut.size new.left_out cut.flags
