-- The ranges of what stands in the lines.
use Rattle.std.specs.Prelude.{◌<◌, ◌≤◌, ◌*◌, ◌^◌, ◌≡◌, ℕ, Bool, false, List, length, IfSome}
use Rattle.std.specs.List.{AllByRecursion}
use Rattle.bz_key.specs.Bytes.{IsKey, IsPayload}
use Rattle.bz_key.specs.declared.limits.TheConstants.{PAGE_PAIRS}
use Rattle.bz_call.specs.Pages.{names_page}
use Rattle.bz_call.specs.declared.calls.Call.{Call}
use Rattle.bz_call.specs.declared.calls.Call.TheVariants as call
use Rattle.bz_call.specs.declared.replies.Reply.{Reply}
use Rattle.bz_call.specs.declared.replies.Reply.TheVariants as reply
use Rattle.bz_layout.specs.declared.limits.TheConstants.{MAX_WORKERS}
use Rattle.bz_mark.specs.declared.marks.Mark.{Mark}
use Rattle.bz_mark.specs.declared.marks.Mark.TheVariants.{Begin, End, Load, Store, Cas, Ask, Fence, Evict, Effect}

-- a call's name: its worker and its number
pub record IsName (w n : ℕ) : Type 0 where
  pub worker : w ≤ MAX_WORKERS
  pub first : 1 ≤ n
  pub last : n < 2 ^ 32

abbrev pub IsCallInRange : Call → Type 0
IsCallInRange (call.Insert key payload) = IsKey key × IsPayload payload
IsCallInRange (call.Delete key) = IsKey key
IsCallInRange (call.Update key payload) = IsKey key × IsPayload payload
IsCallInRange (call.Upsert key payload) = IsKey key × IsPayload payload
IsCallInRange (call.Get key) = IsKey key
IsCallInRange (call.Page key) = IsKey key

abbrev pub IsReplyInRange : Reply → Type 0
IsReplyInRange (reply.Deleted payload) = IsPayload payload
IsReplyInRange (reply.Updated payload) = IsPayload payload
IsReplyInRange (reply.Value payload) = IsPayload payload
IsReplyInRange (reply.Page page next) = IfSome next IsKey
IsReplyInRange other = Unit {0}

-- a mark of a memory of so many words, with so many marks before it
abbrev pub IsInRange : ℕ → ℕ → Mark → Type 0
IsInRange words before (Begin w n call) = IsName w n × IsCallInRange call
IsInRange words before (End w n reply at) = IsName w n × IsReplyInRange reply × (at ≤ before)
IsInRange words before (Load w a v) = (w ≤ MAX_WORKERS) × (a < words) × (v < 2 ^ 64)
IsInRange words before (Store w a v) = (w ≤ MAX_WORKERS) × (a < words) × (v < 2 ^ 64)
IsInRange words before (Cas w a old new found) = (w ≤ MAX_WORKERS) × (a < words) × (old < 2 ^ 64) × (new < 2 ^ 64) × (found < 2 ^ 64)
IsInRange words before (Ask w line) = (w ≤ MAX_WORKERS) × (line * 8 < words)
IsInRange words before (Fence w) = w ≤ MAX_WORKERS
IsInRange words before (Evict a) = a < words
IsInRange words before (Effect w n) = IsName w n
IsInRange words before mark = Unit {0}

abbrev pub IsPair : (List ℕ × List ℕ) → Type 0
IsPair pair = IsKey pair.0 × IsPayload pair.1

-- the pairs of a page
pub record ArePairs (pairs : List (List ℕ × List ℕ)) : Type 0 where
  pub few : length pairs ≤ PAGE_PAIRS
  pub each : AllByRecursion IsPair pairs

-- the page of an End, if it names one, has this number
abbrev pub HasNumber : ℕ → Reply → Type 0
HasNumber number (reply.Page page next) = page ≡ number
HasNumber number other = Unit {0}

abbrev pub IsNumbered : ℕ → Mark → Type 0
IsNumbered number (End w n reply at) = HasNumber number reply
IsNumbered number mark = Unit {0}

-- the mark is an End that names a page
abbrev pub tells_page : Mark → Bool
tells_page (End w n reply at) = names_page reply
tells_page mark = false
