-- What loads and Effects see of the map: the payload at the key of their worker's open call. The newest mark stands first.
use Rattle.std.specs.Prelude.{◌==◌, ◌&&◌, ◌-◌, nat_lt, nat_le, ℕ, Bool, true, false, List, [], ◌∷◌, ◌++◌, slice_get, Option, Some, None}
use Rattle.std.specs.FinMap.{get}
use Rattle.bz_call.specs.Map.{Map, key_of}
use Rattle.bz_call.specs.declared.calls.Call.{Call}
use Rattle.bz_call.specs.declared.calls.Call.TheVariants as kind
use Rattle.bz_call.specs.declared.replies.Reply.{Reply}
use Rattle.bz_call.specs.declared.replies.Reply.TheVariants.{Page, Full}
use Rattle.bz_call.specs.declared.replies.Spent.{Spent}
use Rattle.bz_call.specs.declared.replies.Spent.TheVariants.{Swaps}
use Rattle.bz_mark.specs.declared.marks.Mark.{Mark}
use Rattle.bz_mark.specs.declared.marks.Mark.TheVariants.{End, Load, Effect}
use Rattle.bz_sound.specs.Calls.{Open, open_call, map_after}
use Rattle.bz_check.specs.declared.counter.Standing.{Standing}
use Rattle.bz_check.specs.declared.sights.Sight.{Sight}
use Rattle.bz_check.specs.declared.table.OpenCall.{OpenCall}
use Rattle.bz_check.specs.Answers.{answers_so, stays_in, is_write_in}
use Rattle.bz_check.specs.Counts.{Counted, standing_in}
use Rattle.bz_check.specs.Pairs.{found_in}
use Rattle.bz_check.specs.Tables.{Known, open_in}

-- what a mark sees, by the marks before it
abbrev pub sight_with : Bool → ℕ → Map → Call → Sight
sight_with load w map call = record { w = w; load = load; found = get map (key_of call) }

abbrev pub sight_by : Bool → ℕ → Map → Option Open → Option Sight
sight_by load w map None = None
sight_by load w map (Some opened) = Some (sight_with load w map opened.call)

abbrev pub sight_of : Map → List Mark → Mark → Option Sight
sight_of start past (Load w a v) = sight_by true w (map_after start past) (open_call w past)
sight_of start past (Effect w n) = sight_by false w (map_after start past) (open_call w past)
sight_of start past mark = None

-- what each mark saw, the oldest first
abbrev pub seen_after : Map → List Mark → List (Option Sight)
seen_after start [] = []
seen_after start (mark ∷ past) = seen_after start past ++ sight_of start past mark ∷ []

-- what a mark sees, by a table and the pairs of the map
abbrev pub sight_in_by : Bool → ℕ → List (List ℕ × List ℕ) → Option OpenCall → Option Sight
sight_in_by load w pairs None = None
sight_in_by load w pairs (Some call) = Some (record { w = w; load = load; found = found_in pairs call.call })

abbrev pub sight_in : Known → List (List ℕ × List ℕ) → Mark → Option Sight
sight_in t pairs (Load w a v) = sight_in_by true w pairs (open_in t w)
sight_in t pairs (Effect w n) = sight_in_by false w pairs (open_in t w)
sight_in t pairs mark = None

-- what the mark at a moment saw
abbrev pub shown : Option (Option Sight) → Option Sight
shown None = None
shown (Some sight) = sight

abbrev pub shown_at : List (Option Sight) → ℕ → Option Sight
shown_at seen moment = shown (slice_get seen moment)

abbrev pub found_of : Option Sight → Option (List ℕ)
found_of None = None
found_of (Some sight) = sight.found

-- a load of this worker saw what answers the call so, and leaves the map as it is
abbrev pub is_read_in : ℕ → Option Sight → Call → Reply → Bool
is_read_in w None call reply = false
is_read_in w (Some sight) call reply = (sight.load && sight.w == w) && (answers_so sight.found call reply && stays_in sight.found call)

-- a load of this worker is followed by a page with the next number, and the call asks for a page
abbrev pub paged_in : Bool → Call → Bool
paged_in right (kind.Page from) = right
paged_in right call = false

abbrev pub may_page_in : Standing → ℕ → Option Sight → Call → ℕ → Bool
may_page_in here w None call page = false
may_page_in here w (Some sight) call page = paged_in ((sight.load && sight.w == w) && page == here.page) call

-- the End of a Full is the moment, its call one that may change a map, and descriptors are spent where it says so
abbrev pub may_be_full_in : Standing → ℕ → Call → Spent → Bool
may_be_full_in here at call Swaps = (at == here.moment && is_write_in call) && here.spent
may_be_full_in here at call spent = at == here.moment && is_write_in call

-- a call without an Effect may be answered so
abbrev pub may_read_in : Standing → ℕ → ℕ → Option Sight → Call → Reply → Bool
may_read_in here w at before call (Page page next) = may_page_in here w before call page
may_read_in here w at before call (Full spent) = may_be_full_in here at call spent
may_read_in here w at before call reply = is_read_in w before call reply

-- the moment is that of the Effect, which saw what answers the call so
abbrev pub is_effective_in : ℕ → ℕ → Option Sight → Call → Reply → Bool
is_effective_in at effect here call reply = at == effect && answers_so (found_of here) call reply

abbrev pub answers_in : List (Option Sight) → Standing → ℕ → ℕ → Call → Reply → Option ℕ → Bool
answers_in seen here w at call reply (Some effect) = is_effective_in at effect (shown_at seen effect) call reply
answers_in seen here w at call reply None = may_read_in here w at (shown_at seen (at - 1)) call reply

-- the reply of an End is right, as far as the map and counts tell
abbrev pub reply_in : List (Option Sight) → Standing → ℕ → ℕ → Reply → Option OpenCall → Bool
reply_in seen here w at reply None = false
reply_in seen here w at reply (Some call) = nat_lt call.begun at && (nat_le at here.moment && answers_in seen here w at call.call reply call.effect)

abbrev pub replies_in : Known → List (Option Sight) → Counted → ℕ → Mark → Bool
replies_in t seen k now (End w n reply at) = reply_in seen (standing_in k t now w) w at reply (open_in t w)
replies_in t seen k now mark = true
