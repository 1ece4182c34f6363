-- What a begin answers, and what it leaves.
use Rattle.std.proofs.Common.{◌≡◌, ℕ, ◌+◌, ◌<◌, ◌≤◌, ◌⊎◌, inl, ⊎_elim, Bool, true, false, refl, arith, ◌==◌, eqb-true, ltb-true, Option, Some, None}
use Rattle.std.specs.Prelude.{if◌then◌else◌, is_some, nat_le, nat_lt, ◌||◌}
use Rattle.bz_bus.specs.declared.TheConstants.{PASSES}
use Rattle.bz_call.specs.declared.calls.Call.{Call}
use Rattle.bz_index.proofs.Leaves.{Leaves, leaves-same, leaves-mark}
use Rattle.bz_index.proofs.OpenCalls.{begins_own}
use Rattle.bz_mark.specs.Log.{count_begins}
use Rattle.bz_mark.specs.declared.marks.Mark.TheVariants.{Begin}
use Rattle.bz_sound.specs.Calls.{Open, open_call, begun_calls}
use Rattle.bz_mark.specs.declared.power.Power.{Power}
use Rattle.bz_mark.specs.declared.power.Power.TheVariants as power
use Rattle.bz_world.specs.WorldView.{WorldView, is_short, lacks_page, power_in, powered_answer, answer_by, begin_answer, after_begin}
use Rattle.bz_world.specs.declared.answers.Begun.{Begun}
use Rattle.bz_world.specs.declared.answers.Begun.TheVariants as begun
use Rattle.bz_world.specs.declared.answers.LimitKind.TheVariants as which

-- what an answer to a begin of a worker at rest tells of the world
abbrev pub BeginTells : WorldView → ℕ → Call → Begun → Type 0
BeginTells lab w called (begun.Begun n) = open_call w lab.log.past ≡ None
BeginTells lab w called begun.NoWorker = ⊥
BeginTells lab w called begun.Busy = ⊥
BeginTells lab w called begun.Off = power_in lab ≡ power.Off
BeginTells lab w called begun.Recovering = power_in lab ≡ power.Recovering
BeginTells lab w called (begun.Limit which.Marks) = is_short lab.log ≡ true
BeginTells lab w called (begun.Limit which.Calls) = (is_short lab.log ≡ false) × (nat_le lab.log.limits.calls (count_begins lab.log.past) ≡ true)
BeginTells lab w called (begun.Limit which.Pages) = (is_short lab.log ≡ false) × (nat_le lab.log.limits.calls (count_begins lab.log.past) ≡ false) × (lacks_page lab.log called ≡ true)

module _ (lab : WorldView) (w : ℕ) (called : Call) where
  abbrev Tells : Begun → Type 0
  Tells answer = BeginTells lab w called answer

  by_pages : (b : Bool) (n : ℕ) → lacks_page lab.log called ≡ b → open_call w lab.log.past ≡ None → is_short lab.log ≡ false → nat_le lab.log.limits.calls (count_begins lab.log.past) ≡ false
      → Tells (if b then begun.Limit which.Pages else begun.Begun n)
  by_pages true n is none room few = (room, few, is)
  by_pages false n is none room few = none

  by_calls : (b : Bool) (rest : Begun) → nat_le lab.log.limits.calls (count_begins lab.log.past) ≡ b → is_short lab.log ≡ false → (nat_le lab.log.limits.calls (count_begins lab.log.past) ≡ false → Tells rest)
      → Tells (if b then begun.Limit which.Calls else rest)
  by_calls true rest is room tells = (room, is)
  by_calls false rest is room tells = tells is

  by_busy : (o : Option Open) (rest : Begun) → o ≡ None → Tells rest → Tells (if is_some o then begun.Busy else rest)
  by_busy None rest none tells = tells
  by_busy (Some opened) rest none tells = absurd cc

  when_powered : open_call w lab.log.past ≡ None → is_short lab.log ≡ false → Tells (powered_answer lab w called)
  when_powered none room =
      by_busy (open_call w lab.log.past) _ none
      (by_calls (nat_le lab.log.limits.calls (count_begins lab.log.past)) _ refl room (by_pages (lacks_page lab.log called) (begun_calls w lab.log.past + 1) refl none room))

  by_power : (p : Power) → power_in lab ≡ p → open_call w lab.log.past ≡ None → is_short lab.log ≡ false → Tells (answer_by p lab w called)
  by_power power.Off is none room = is
  by_power power.Recovering is none room = is
  by_power power.On is none room = when_powered none room

  by_room : (b : Bool) → is_short lab.log ≡ b → (open_call w lab.log.past ≡ None) ⊎ (is_short lab.log ≡ true) → Tells (if b then begun.Limit which.Marks else answer_by (power_in lab) lab w called)
  by_room true is rests = is
  by_room false is rests = by_power (power_in lab) refl (⊎_elim (λ none. none) (λ short. absurd cc) rests) is

  in_range : (zeroth : Bool) → (w == 0) ≡ zeroth → (zeroth || nat_lt lab.config.workers w) ≡ true → 0 < w → w ≤ lab.config.workers → ⊥
  in_range true is any some within = let zeroth : w ≡ 0 = eqb-true w 0 is in omega arith
  in_range false is any some within = let beyond : lab.config.workers < w = ltb-true lab.config.workers w any in omega arith

  by_worker : (b : Bool) → ((w == 0) || nat_lt lab.config.workers w) ≡ b → 0 < w → w ≤ lab.config.workers → (open_call w lab.log.past ≡ None) ⊎ (is_short lab.log ≡ true)
      → Tells (if b then begun.NoWorker else (if is_short lab.log then begun.Limit which.Marks else answer_by (power_in lab) lab w called))
  by_worker true is some within rests = absurd (in_range (w == 0) refl is some within)
  by_worker false is some within rests = by_room (is_short lab.log) refl rests

  pub begin_tells : 0 < w → w ≤ lab.config.workers → (open_call w lab.log.past ≡ None) ⊎ (is_short lab.log ≡ true) → Tells (begin_answer lab w called)
  begin_tells some within rests = by_worker ((w == 0) || nat_lt lab.config.workers w) refl some within rests

  -- a begin adds its mark or nothing
  pub leaves-begun : w < PASSES → (answer : Begun) → Leaves w lab.log (after_begin lab w called answer).log
  leaves-begun below (begun.Begun n) = leaves-mark w (Begin w n called) lab.log refl (inl (begins_own w below))
  leaves-begun below answer = leaves-same w lab.log lab.log refl
