-- What a table of calls says, and which mark it lets follow.
use Rattle.std.specs.Prelude.{◌==◌, ◌&&◌, ◌+◌, ◌-◌, ◌^◌, not, nat_lt, nat_le, min, if◌then◌else◌, cond, ℕ, Bool, true, false, List, replicate, slice_set, get_or, Option, Some, None, is_some, is_none, count_by}
use Rattle.std.specs.List.{range_with_len}
use Rattle.bz_call.specs.declared.calls.Call.{Call}
use Rattle.bz_mark.specs.declared.marks.Mark.{Mark}
use Rattle.bz_mark.specs.declared.marks.Mark.TheVariants.{Begin, End, Load, Store, Cas, Ask, Fence, Evict, Cut, On, Ready, Effect}
use Rattle.bz_mark.specs.declared.power.Power.{Power}
use Rattle.bz_mark.specs.declared.power.Power.TheVariants as power
use Rattle.bz_check.specs.declared.table.OpenCall.{OpenCall}
use Rattle.bz_check.specs.declared.table.Caller.{Caller}

-- each worker's calls, the power, the newest mark, and the moment after the last cut
pub record Known : Type 0 where
  pub callers : List Caller
  pub power : Power
  pub newest : Option Mark
  pub cut : ℕ

abbrev pub nobody : Caller
nobody = record { begun = 0; last = None }

-- before any mark
abbrev pub no_calls : Power → Known
no_calls at_start = record { callers = replicate 256 nobody; power = at_start; newest = None; cut = 0 }

abbrev pub caller_at : Known → ℕ → Caller
caller_at t w = get_or t.callers w nobody

-- a call that began after a moment, if there is one
abbrev pub begun_from : ℕ → Option OpenCall → Option OpenCall
begun_from cut None = None
begun_from cut (Some call) = if nat_le cut call.begun then Some call else None

-- a worker's open call
abbrev pub open_in : Known → ℕ → Option OpenCall
open_in t w = begun_from t.cut (caller_at t w).last

-- its call alone
abbrev pub call_in : Option OpenCall → Option Call
call_in None = None
call_in (Some call) = Some call.call

-- another worker than this one has an open call
abbrev pub is_other_in : Known → ℕ → ℕ → Bool
is_other_in t w v = not (v == w) && is_some (open_in t v)

abbrev pub one_if : Bool → ℕ
one_if other = cond other 1 0

-- how many of so many workers have an open call, beside this one
abbrev pub others_in : Known → ℕ → ℕ → ℕ
others_in t workers w = count_by (λ v. is_other_in t w v) (range_with_len 1 workers)

-- a call after its effect
abbrev pub took : ℕ → Option OpenCall → Option OpenCall
took now None = None
took now (Some call) = Some (record call { effect = Some now })

-- one more call is counted: the count stops at its last value
abbrev pub next_count : ℕ → ℕ
next_count n = min (n + 1) (2 ^ 32 - 1)

abbrev pub with_caller : Known → ℕ → Caller → Known
with_caller t w caller = record t { callers = slice_set t.callers w caller }

-- after a Begin, an End and an Effect
abbrev pub with_begin : Known → ℕ → ℕ → ℕ → Call → Known
with_begin t now w n call = with_caller t w (record { begun = next_count (caller_at t w).begun; last = Some (record { number = n; call = call; begun = now; effect = None }) })

abbrev pub with_end : Known → ℕ → Known
with_end t w = with_caller t w (record { begun = (caller_at t w).begun; last = None })

abbrev pub with_effect_of : Known → ℕ → ℕ → Known
with_effect_of t now w = with_caller t w (record { begun = (caller_at t w).begun; last = took now (caller_at t w).last })

-- after a mark at a moment, but for the newest mark
abbrev pub calls_after : Known → ℕ → Mark → Known
calls_after t now (Begin w n call) = with_begin t now w n call
calls_after t now (End w n reply at) = with_end t w
calls_after t now (Effect w n) = with_effect_of t now w
calls_after t now Cut = record t { power = power.Off; cut = now + 1 }
calls_after t now On = record t { power = power.Recovering }
calls_after t now Ready = record t { power = power.On }
calls_after t now mark = t

abbrev pub table_after : Known → ℕ → Mark → Known
table_after t now mark = record (calls_after t now mark) { newest = Some mark }

-- tests
abbrev pub is_on_in : Power → Bool
is_on_in power.On = true
is_on_in other = false

abbrev pub is_recovering_in : Power → Bool
is_recovering_in power.Recovering = true
is_recovering_in other = false

abbrev pub is_off_in : Power → Bool
is_off_in power.Off = true
is_off_in other = false

abbrev pub after_fence : Mark → Bool
after_fence (Fence w) = true
after_fence (Evict a) = true
after_fence mark = false

abbrev pub after_fence_in : Option Mark → Bool
after_fence_in None = false
after_fence_in (Some mark) = after_fence mark

abbrev pub after_recovering : Mark → Bool
after_recovering (Load w a v) = w == 0
after_recovering (Store w a v) = w == 0
after_recovering (Cas w a old new found) = w == 0
after_recovering (Ask w line) = w == 0
after_recovering (Fence w) = w == 0
after_recovering mark = false

abbrev pub after_recovering_in : Option Mark → Bool
after_recovering_in None = false
after_recovering_in (Some mark) = after_recovering mark

abbrev pub has_number_in : Option OpenCall → ℕ → Bool
has_number_in None n = false
has_number_in (Some call) n = call.number == n

abbrev pub may_effect_in : Option OpenCall → ℕ → Bool
may_effect_in None n = false
may_effect_in (Some call) n = call.number == n && is_none call.effect

abbrev pub may_act_in : Known → ℕ → Bool
may_act_in t w = if w == 0 then is_recovering_in t.power else is_some (open_in t w)

abbrev pub may_begin_in : Known → ℕ → ℕ → Bool
may_begin_in t w n = not (w == 0) && (is_on_in t.power && (not (is_some (open_in t w)) && (nat_lt 0 n && n - 1 == (caller_at t w).begun)))

-- a mark may follow, where an Effect's call changes the map as said
abbrev pub may_follow_in : Known → Bool → Mark → Bool
may_follow_in t changes (Begin w n call) = may_begin_in t w n
may_follow_in t changes (End w n reply at) = has_number_in (open_in t w) n
may_follow_in t changes (Load w a v) = may_act_in t w
may_follow_in t changes (Store w a v) = may_act_in t w
may_follow_in t changes (Cas w a old new found) = may_act_in t w
may_follow_in t changes (Ask w line) = may_act_in t w
may_follow_in t changes (Fence w) = may_act_in t w
may_follow_in t changes (Evict a) = not (is_off_in t.power)
may_follow_in t changes Cut = not (is_off_in t.power)
may_follow_in t changes On = is_off_in t.power
may_follow_in t changes Ready = after_recovering_in t.newest
may_follow_in t changes (Effect w n) = after_fence_in t.newest && (may_effect_in (open_in t w) n && changes)
