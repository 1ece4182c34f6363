-- The begin of a call.
use Rattle.std.specs.Prelude.{◌≡◌, ◌<◌, ◌≤◌, ◌+◌, ℕ, if◌then◌else◌, Bool, true, false, length, map, get_or, Option, Some, None}
use Rattle.bz_call.specs.Pages.{is_page}
use Rattle.bz_call.specs.declared.calls.Call.{Call}
use Rattle.bz_mark.specs.declared.power.Power.TheVariants as power
use Rattle.bz_sound.specs.Calls.{begun_calls}
use Rattle.bz_swap.specs.SwapMemory.{Working, Doing, Swapping}
use Rattle.bz_world.specs.Inside.Kept.{IsAwake}
use Rattle.bz_world.specs.Inside.Paid.{begun_with}
use Rattle.bz_world.specs.WorldView.{WorldView, Supply, supply_by, powered_answer, begin_answer, after_begin}
use Rattle.bz_world.specs.declared.answers.Begun.{Begun}
use Rattle.bz_world.specs.declared.answers.Begun.TheVariants as begun
use Rattle.bz_world.specs.declared.parts.Parts.{Parts}

-- what is taken and left
abbrev pub supply_of : Parts → Supply
supply_of p = record { taken = p.access.taken; left = length p.slots.free }

-- what a worker does is a swap
abbrev pub is_swap : Doing → Bool
is_swap (Swapping s) = true
is_swap doing = false

-- what callers see of a world of these parts
abbrev pub world_view : Parts → WorldView
world_view p = record {
  config = p.config;
  at_start = p.at_start;
  log = p.journal;
  flushes = map (λ (v : Working). v.flush_next) p.access.workers;
  swapping = map (λ (v : Working). is_swap v.doing) p.access.workers;
  left_out = p.left_out.items;
  supply = supply_by p.power (supply_of p);
  at_begin = begun_with p;
}

-- how many pages a call asks for
abbrev pub pages_asked : Call → ℕ
pages_asked called = if is_page called then 1 else 0

-- the call may begin: no refusal applies
pub record MayBegin (p : Parts) (w : ℕ) (called : Call) : Type 0 where
  pub on : p.power ≡ power.On
  pub worker : 0 < w
  pub within : w ≤ p.config.workers
  pub room : length p.journal.past + 3 ≤ p.config.marks
  pub none_open : get_or p.workers.items w None ≡ None
  pub calls : p.begun < p.config.calls
  pub pages : p.pages_begun + pages_asked called ≤ p.config.pages

-- the refusal that is answered with the power on, if one applies
pub record IsPoweredRefusal (p : Parts) (w : ℕ) (called : Call) (refusal : Option Begun) : Type 0 where
  pub some : (answer : Begun) → refusal ≡ Some answer → (powered_answer (world_view p) w called ≡ answer) × (after_begin (world_view p) w called answer ≡ world_view p)
  pub none_open : refusal ≡ None → get_or p.workers.items w None ≡ None
  pub calls : refusal ≡ None → p.begun < p.config.calls
  pub pages : refusal ≡ None → p.pages_begun + pages_asked called ≤ p.config.pages
  pub begins : refusal ≡ None → powered_answer (world_view p) w called ≡ begun.Begun (begun_calls w p.journal.past + 1)

-- and with any power
pub record IsRefusal (p : Parts) (w : ℕ) (called : Call) (refusal : Option Begun) : Type 0 where
  pub some : (answer : Begun) → refusal ≡ Some answer → (begin_answer (world_view p) w called ≡ answer) × (after_begin (world_view p) w called answer ≡ world_view p)
  pub none : refusal ≡ None → MayBegin p w called
  pub begins : refusal ≡ None → begin_answer (world_view p) w called ≡ begun.Begun (begun_calls w p.journal.past + 1)

-- the call has begun with this number
pub record HasBegun (old : Parts) (w : ℕ) (called : Call) (n : ℕ) (new : Parts) : Type 0 where
  pub kept : IsAwake new
  pub number : n ≡ begun_calls w old.journal.past + 1
  pub after : world_view new ≡ after_begin (world_view old) w called (begun.Begun n)
