-- One history: the calls of a sound journal, in the order of their moments, are steps of one map. This is durable
-- linearizability (Izraelevitz, Mendes, Scott, DISC 2016), with the moments given.
use Rattle.std.specs.Prelude.{◌≡◌, ◌<◌, ◌+◌, ◌⊎◌, ℕ, false, List, length, slice_get, Option, Some}
use Rattle.bz_layout.specs.declared.config.Config.{Config}
use Rattle.bz_call.specs.Map.{Map, apply}
use Rattle.bz_call.specs.Pages.{names_page}
use Rattle.bz_call.specs.declared.calls.Call.{Call}
use Rattle.bz_call.specs.declared.calls.Call.TheVariants as calls
use Rattle.bz_call.specs.declared.replies.Reply.{Reply}
use Rattle.bz_call.specs.declared.replies.Reply.TheVariants.{Page, Full}
use Rattle.bz_mark.specs.Log.{Log}
use Rattle.bz_mark.specs.Moments.{at_moment, mark_at}
use Rattle.bz_mark.specs.declared.marks.Mark.{Mark}
use Rattle.bz_mark.specs.declared.marks.Mark.TheVariants.{End}
use Rattle.bz_sound.specs.Calls.{Open, open_call, map_at}
use Rattle.bz_sound.specs.Replies.{Pages}
use Rattle.bz_sound.specs.Memory.Moments.{map_at_start}
use Rattle.bz_sound.specs.Memory.Replies.{pairs_within}
use Rattle.bz_sound.specs.Memory.Sound.{IsSound}

-- a worker's call, as it is last open, and the moment at which it happens
pub record Happening : Type 0 where
  pub worker : ℕ
  pub opened : Open
  pub at : ℕ

-- the reply is not that something is spent
abbrev pub IsNoFull : Reply → Type 0
IsNoFull (Full spent) = ⊥
IsNoFull reply = Unit {0}

-- a call that ended with a reply, which is no Full, happened at the moment that its End names
pub record EndedCall (past : List Mark) (h : Happening) (moment : ℕ) (reply : Reply) : Type 0 where
  pub within : moment < length past
  pub is_open : open_call h.worker (at_moment moment past) ≡ Some h.opened
  pub ends : mark_at moment past ≡ Some (End h.worker h.opened.number reply h.at)
  pub no_full : IsNoFull reply

-- a call that is open and has an Effect happened there
pub record PendingCall (past : List Mark) (h : Happening) : Type 0 where
  pub is_open : open_call h.worker past ≡ Some h.opened
  pub took : h.opened.effect ≡ Some h.at

-- these are the calls that happened; no other has shown anything
abbrev pub Happens : List Mark → Happening → Type 0
Happens past h = ((moment : ℕ) × (reply : Reply) × EndedCall past h moment reply) ⊎ PendingCall past h

-- the call of an End is one that happened
pub record EndHappens (past : List Mark) (moment w n at : ℕ) (reply : Reply) : Type 0 where
  pub opened : Open
  pub number : opened.number ≡ n
  pub ended : EndedCall past (record { worker = w; opened = opened; at = at }) moment reply

-- the call asked for a page, and the page of this number has the map's pairs from its key on, up to the end
pub record ShowsRange (pages : Pages) (map : Map) (call : Call) (page : ℕ) (next : Option (List ℕ)) : Type 0 where
  pub from : List ℕ
  pub asked : call ≡ calls.Page from
  pub pairs : slice_get pages page ≡ Some (pairs_within map from next)

-- both are the same call of the same worker
pub record SameCall (h k : Happening) : Type 0 where
  pub worker : h.worker ≡ k.worker
  pub number : h.opened.number ≡ k.opened.number

-- these calls are steps of one map, in the order of their moments
pub record AreSteps (Happened : Happening → Type 0) (c : Config) (log : Log) : Type 0 where
  -- every End but that of a Full is one of a call that happened
  pub ends : (moment w n at : ℕ) (reply : Reply) → moment < length log.past → mark_at moment log.past ≡ Some (End w n reply at) → IsNoFull reply →
      EndHappens log.past moment w n at reply
  -- no two calls happen at one moment
  pub alone : (h k : Happening) → Happened h → Happened k → h.at ≡ k.at → SameCall h k
  -- a call takes the map from its moment to the next by its own step
  pub steps : (h : Happening) → Happened h →
      map_at (map_at_start c log.start) (h.at + 1) log.past ≡ (apply (map_at (map_at_start c log.start) h.at log.past) h.opened.call).map
  -- its reply is that of the step, and its page one of the map there
  pub replies : (h : Happening) (moment : ℕ) (reply : Reply) → EndedCall log.past h moment reply → names_page reply ≡ false →
      (apply (map_at (map_at_start c log.start) h.at log.past) h.opened.call).reply ≡ Some reply
  pub pages : (h : Happening) (moment page : ℕ) (next : Option (List ℕ)) → EndedCall log.past h moment (Page page next) →
      ShowsRange log.pages (map_at (map_at_start c log.start) h.at log.past) h.opened.call page next
  -- where none happens, the map stays
  pub still : (moment : ℕ) → moment < length log.past → ((h : Happening) → Happened h → h.at ≡ moment → ⊥) →
      map_at (map_at_start c log.start) (moment + 1) log.past ≡ map_at (map_at_start c log.start) moment log.past
  -- a call that ended before another began happened before it
  pub order : (h k : Happening) (moment : ℕ) (reply : Reply) → EndedCall log.past h moment reply → Happened k → moment < k.opened.begun → h.at < k.at

-- the calls that happened are
abbrev pub IsOneHistory : Config → Log → Type 0
IsOneHistory c log = AreSteps (Happens log.past) c log

-- so they are in every sound journal
abbrev pub OneHistory : Type 0
OneHistory = (c : Config) (log : Log) → IsSound c log → IsOneHistory c log
