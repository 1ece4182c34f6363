-- What a judge knows after marks of calls, of the power and of the map. The newest mark stands first.
use Rattle.std.specs.Prelude.{◌≡◌, ◌<◌, ◌≤◌, ◌==◌, ℕ, Bool, true, false, List, [], ◌∷◌, length, slice_get, Option, Some, None, option_map, IfSome}
use Rattle.bz_call.specs.Map.{Map, apply}
use Rattle.bz_mark.specs.declared.marks.Mark.{Mark}
use Rattle.bz_mark.specs.declared.marks.Mark.TheVariants.{Begin, End, Load, Store, Cas, Ask, Fence, Effect}
use Rattle.bz_mark.specs.declared.power.Power.{Power}
use Rattle.bz_mark.specs.Times.{power_of}
use Rattle.bz_sound.specs.Calls.{Open, open_call, begun_calls}
use Rattle.bz_check.specs.declared.table.OpenCall.{OpenCall}
use Rattle.bz_check.specs.declared.verdict.JudgeRule.{JudgeRule}
use Rattle.bz_check.specs.declared.sights.Sight.{Sight}
use Rattle.bz_check.specs.declared.verdict.JudgeRule.TheVariants.{Truth, Calls, Reply}
use Rattle.bz_check.specs.Counts.{Counted}
use Rattle.bz_check.specs.Kept.{Kept}
use Rattle.bz_check.specs.Pairs.{found_in, may_change}
use Rattle.bz_check.specs.Sights.{replies_in}
use Rattle.bz_check.specs.Tables.{Known, caller_at, open_in, may_follow_in}

-- a call of the table, as the definitions have it
abbrev pub open_of : OpenCall → Open
open_of call = record { number = call.number; call = call.call; begun = call.begun; effect = call.effect }

abbrev pub newest_of : List Mark → Option Mark
newest_of [] = None
newest_of (mark ∷ past) = Some mark

-- each worker's open call and number, the power and the newest mark are those after the marks
pub record Knows (at_start : Power) (past : List Mark) (t : Known) : Type 0 where
  pub size : length t.callers ≡ 256
  pub now : t.cut ≤ length past
  pub begun : (w : ℕ) → w < 256 → (caller_at t w).begun ≡ begun_calls w past
  pub is_open : (w : ℕ) → w < 256 → option_map open_of (open_in t w) ≡ open_call w past
  pub before : (w : ℕ) → w < 256 → IfSome (caller_at t w).last (λ call. call.begun < length past)
  pub power : t.power ≡ power_of at_start past
  pub newest : t.newest ≡ newest_of past

-- the worker that a mark names is one of those
abbrev pub HasWorker : Mark → Type 0
HasWorker (Begin w n call) = w < 256
HasWorker (End w n reply at) = w < 256
HasWorker (Load w a v) = w < 256
HasWorker (Store w a v) = w < 256
HasWorker (Cas w a old new found) = w < 256
HasWorker (Ask w line) = w < 256
HasWorker (Fence w) = w < 256
HasWorker (Effect w n) = w < 256
HasWorker mark = Unit {0}

-- the call of an Effect changes the map whose pairs these are
abbrev pub open_changes : List (List ℕ × List ℕ) → Option OpenCall → Bool
open_changes pairs None = false
open_changes pairs (Some call) = may_change (found_in pairs call.call) call.call

abbrev pub effect_changes : Known → List (List ℕ × List ℕ) → Mark → Bool
effect_changes t pairs (Effect w n) = open_changes pairs (open_in t w)
effect_changes t pairs mark = false

-- the map after a mark
abbrev pub map_by : Option OpenCall → Map → Map
map_by None map = map
map_by (Some call) map = (apply map call.call).map

abbrev pub map_then : Known → Mark → Map → Map
map_then t (Effect w n) map = map_by (open_in t w) map
map_then t mark map = map

-- a load and a compare-and-swap find what they tell
abbrev pub is_word : Option ℕ → ℕ → Bool
is_word None v = false
is_word (Some word) v = word == v

abbrev pub finds : List ℕ → Mark → Bool
finds cached (Load w a v) = is_word (slice_get cached a) v
finds cached (Cas w a old new found) = is_word (slice_get cached a) found
finds cached mark = true

-- the first rule that a mark breaks, if it breaks one
abbrev pub fault_by : Bool → Bool → Bool → Option JudgeRule
fault_by false follows right = Some Truth
fault_by true false right = Some Calls
fault_by true true false = Some Reply
fault_by true true true = None

abbrev pub fault_in : Kept → Known → List (List ℕ × List ℕ) → List (Option Sight) → Counted → ℕ → Mark → Option JudgeRule
fault_in m t pairs seen k now mark = fault_by (finds m.cached mark) (may_follow_in t (effect_changes t pairs mark) mark) (replies_in t seen k now mark)
