-- A leaf that had room for a call's record when the call began has it still when its key was looked up, where nobody's swap took effect since: so its change does
-- not end for want of room.
use Rattle.std.proofs.Common.{◌≡◌, ◌<◌, ◌≤◌, ◌==◌, if◌then◌else◌, ℕ, suc, Bool, true, false, List, [], ◌∷◌, length, arith, refl, sym, ap, subst, ◌∙◌, Option, Some, None}
use Rattle.std.specs.Prelude.{option_map}
use Rattle.bz_call.specs.Map.{key_of}
use Rattle.bz_call.specs.declared.calls.Call.{Call}
use Rattle.bz_solo.specs.Errands.{words_asked}
use Rattle.bz_layout.specs.declared.config.Config.{Config}
use Rattle.bz_solo.specs.FromAlone.Counts.{HasOthers}
use Rattle.bz_solo.specs.FromRounds.Stands.{SameStage, StagesStand}
use Rattle.bz_mark.specs.Log.{Log}
use Rattle.bz_mark.specs.declared.marks.Mark.{Mark}
use Rattle.bz_mark.specs.declared.marks.Mark.TheVariants.{Begin, End, Load, Store, Cas, Ask, Fence, Evict, Cut, On, Ready, Effect}
use Rattle.bz_mark.proofs.MomentLaws.{at_moment-now, at_moment-before, at_moment-earlier}
use Rattle.bz_sound.specs.Calls.{Open, open_call, with_effect}
use Rattle.bz_sound.specs.Memory.Moments.{image_after, image_at}
use Rattle.bz_stage.specs.Stages.{stage_in}
use Rattle.bz_refinement.specs.Laws.{ScenesAreSeen}
use Rattle.bz_refinement.specs.Living.{IsLiving}
use Rattle.bz_refinement.specs.Story.{Story, scene}
use Rattle.bz_swap.specs.SwapMemory.{SwapMemory}
use Rattle.bz_world.specs.Inside.Going.{MustGoOn, known}
use Rattle.bz_world.specs.Inside.Serving.{IsOpened}
use Rattle.bz_world.specs.Roomy.{HadRoom}
use Rattle.bz_world.specs.declared.parts.Parts.{Parts}
use Rattle.bz_world.specs.declared.serving.OpenCall.{OpenCall}
use Rattle.bz_world.proofs.Powered.{begun-in}

-- the Begin of a call leaves the image
begun-later : (start : List ℕ) (m : Mark) (past : List Mark) (begun : ℕ) → begun < length past → image_at start (suc begun) past ≡ image_at start begun past → image_at start (suc begun) (m ∷ past) ≡ image_at start begun (m ∷ past)
begun-later start m past begun l same = ap (image_after start) (at_moment-earlier (suc begun) m past (omega (arith, l))) ∙ (same ∙ ap (image_after start) (sym (at_moment-earlier begun m past (omega (arith, l)))))

begun-now : (start : List ℕ) (w n : ℕ) (called : Call) (past : List Mark) → image_at start (suc (length past)) (Begin w n called ∷ past) ≡ image_at start (length past) (Begin w n called ∷ past)
begun-now start w n called past = ap (image_after start) (at_moment-now (Begin w n called ∷ past)) ∙ ap (image_after start) (sym (at_moment-before (Begin w n called) past))

record IsBegun (start : List ℕ) (past : List Mark) (opened : Open) : Type 0 where
  few : opened.begun < length past
  same : image_at start (suc opened.begun) past ≡ image_at start opened.begun past

one-later : (start : List ℕ) (m : Mark) (past : List Mark) (opened : Open) → IsBegun start past opened → IsBegun start (m ∷ past) opened
one-later start m past opened b = record { few = omega (arith, b.few); same = begun-later start m past opened.begun b.few b.same }

by-begin : (start : List ℕ) (t : Bool) (v n : ℕ) (called : Call) (past : List Mark) (o : Option Open) (opened : Open) → ((z : Open) → o ≡ Some z → IsBegun start past z) → (if t then Some (record { number = n; call = called; begun = length past; effect = None }) else o) ≡ Some opened → IsBegun start (Begin v n called ∷ past) opened
by-begin start true v n called past o opened earlier e =
    let new : Open = record { number = n; call = called; begun = length past; effect = None } in
    let same : new ≡ opened = cc e in
    subst (IsBegun start (Begin v n called ∷ past)) same (record { few = omega arith; same = begun-now start v n called past })
by-begin start false v n called past o opened earlier e = one-later start (Begin v n called) past opened (earlier opened e)

by-end : (start : List ℕ) (t : Bool) (m : Mark) (past : List Mark) (o : Option Open) (opened : Open) → ((z : Open) → o ≡ Some z → IsBegun start past z) → (if t then None else o) ≡ Some opened → IsBegun start (m ∷ past) opened
by-end start true m past o opened earlier e = absurd (cc e)
by-end start false m past o opened earlier e = one-later start m past opened (earlier opened e)

by-effect : (start : List ℕ) (t : Bool) (moment : ℕ) (m : Mark) (past : List Mark) (o : Option Open) (opened : Open) → ((z : Open) → o ≡ Some z → IsBegun start past z) → (if t then option_map (with_effect moment) o else o) ≡ Some opened → IsBegun start (m ∷ past) opened
by-effect start false moment m past o opened earlier e = one-later start m past opened (earlier opened e)
by-effect start true moment m past None opened earlier e = absurd (cc e)
by-effect start true moment m past (Some was) opened earlier e =
    let same : with_effect moment was ≡ opened = cc e in
    let b : IsBegun start past was = earlier was refl in
    subst (IsBegun start (m ∷ past)) same (one-later start m past (with_effect moment was) (record { few = b.few; same = b.same }))

begun-image : (start : List ℕ) (w : ℕ) (past : List Mark) (opened : Open) → open_call w past ≡ Some opened → IsBegun start past opened
begun-image start w [] opened e = absurd (cc e)
begun-image start w (Begin v n called ∷ past) opened e = by-begin start (v == w) v n called past (open_call w past) opened (begun-image start w past) e
begun-image start w (End v n reply moment ∷ past) opened e = by-end start (v == w) (End v n reply moment) past (open_call w past) opened (begun-image start w past) e
begun-image start w (Effect v n ∷ past) opened e = by-effect start (v == w) (length past) (Effect v n) past (open_call w past) opened (begun-image start w past) e
begun-image start w (Cut ∷ past) opened e = absurd (cc e)
begun-image start w (Load v a value ∷ past) opened e = one-later start (Load v a value) past opened (begun-image start w past opened e)
begun-image start w (Store v a value ∷ past) opened e = one-later start (Store v a value) past opened (begun-image start w past opened e)
begun-image start w (Cas v a old new found ∷ past) opened e = one-later start (Cas v a old new found) past opened (begun-image start w past opened e)
begun-image start w (Ask v line ∷ past) opened e = one-later start (Ask v line) past opened (begun-image start w past opened e)
begun-image start w (Fence v ∷ past) opened e = one-later start (Fence v) past opened (begun-image start w past opened e)
begun-image start w (Evict a ∷ past) opened e = one-later start (Evict a) past opened (begun-image start w past opened e)
begun-image start w (On ∷ past) opened e = one-later start On past opened (begun-image start w past opened e)
begun-image start w (Ready ∷ past) opened e = one-later start Ready past opened (begun-image start w past opened e)

-- so while nobody's swap takes effect since its first look-up began, its leaf is as it was at its begin
module _ (scenes : ScenesAreSeen) (stand : StagesStand) (c : Config) (m : SwapMemory) (log : Log) (story : Story) (w : ℕ) (x : OpenCall) (opened : Open) (living : IsLiving c m log story) (call_open : IsOpened c log w opened x)
    (first : call_open.look.since ≡ suc opened.begun) (alone : HasOthers 0 0 (scene c log.past story w call_open.look.since opened).past) where
  pub since-begin : SameStage c (story.at call_open.look.since) (story.at (length log.past)) (key_of opened.call)
  since-begin = stand (scene c log.past story w call_open.look.since opened) call_open.look.since call_open.look.since (length log.past) (key_of opened.call)
      (scenes c m log story w call_open.look.since opened living (begun-in living call_open)).scene (record { since = omega arith; now = call_open.look.by_now; effects = omega (arith, alone) })
      (record { from = omega arith; to = call_open.look.by_now }) (record { from = call_open.look.by_now; to = omega arith })

  begins : IsBegun log.start log.past opened
  begins = begun-image log.start w log.past opened call_open.is_open

  pub image-then : (story.at call_open.look.since).image ≡ image_at log.start opened.begun log.past
  image-then = living.images call_open.look.since (omega (arith, living.begins w opened call_open.is_open, call_open.look.after_begin)) call_open.look.by_now
      ∙ (ap (λ (n : ℕ). image_at log.start n log.past) first ∙ begins.same)

-- so the stage of its key is none
pub stage-none : ScenesAreSeen → StagesStand → (p : Parts) (w : ℕ) (on : MustGoOn p w) → HadRoom p.config p.journal.start p.journal.past on.between.opened → (known p w on).past.since ≡ suc on.between.opened.begun → HasOthers 0 0 (known p w on).past
    → stage_in p.config ((known p w on).past.at (known p w on).past.now).image (key_of on.serving.call) (words_asked on.serving.call) ≡ 0
stage-none scenes stand p w on room first alone = subst (λ called. stage_in p.config ((known p w on).past.at (length p.journal.past)).image (key_of called) (words_asked called) ≡ 0) on.between.call_open.call (still.stage (words_asked on.between.opened.call) ∙ at-begin)
  where
    still : SameStage p.config (on.between.story.at on.between.call_open.look.since) (on.between.story.at (length p.journal.past)) (key_of on.between.opened.call)
    still = since-begin scenes stand p.config p.access p.journal on.between.story w on.serving on.between.opened on.between.living on.between.call_open first alone

    at-begin : stage_in p.config (on.between.story.at on.between.call_open.look.since).image (key_of on.between.opened.call) (words_asked on.between.opened.call) ≡ 0
    at-begin = ap (λ (image : ℕ → ℕ). stage_in p.config image (key_of on.between.opened.call) (words_asked on.between.opened.call))
        (image-then scenes stand p.config p.access p.journal on.between.story w on.serving on.between.opened on.between.living on.between.call_open first alone) ∙ none
      where
        none : stage_in p.config (image_at p.journal.start on.between.opened.begun p.journal.past) (key_of on.between.opened.call) (words_asked on.between.opened.call) ≡ 0
        none = rw room.room refl
