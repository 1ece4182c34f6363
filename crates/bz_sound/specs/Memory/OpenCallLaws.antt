-- What an open call tells: that there is room for its End, and that its Effect stays what it is.
use Rattle.std.specs.Prelude.{◌≡◌, ◌<◌, ℕ, true, List, ◌∷◌, Some}
use Rattle.bz_layout.specs.declared.config.Config.{Config}
use Rattle.bz_call.specs.Map.{Map, apply}
use Rattle.bz_call.specs.Pages.{is_page}
use Rattle.bz_call.specs.declared.calls.Call.{Call}
use Rattle.bz_call.specs.declared.replies.Reply.{Reply}
use Rattle.bz_mark.specs.Log.{Log, count_begins, count_ends, count_page_calls, count_page_ends}
use Rattle.bz_mark.specs.declared.marks.Mark.{Mark}
use Rattle.bz_sound.specs.Calls.{Open, open_call, map_at}
use Rattle.bz_sound.specs.Memory.Sound.{IsSound}

-- fewer calls have ended than have begun, and fewer pages were named than calls ask for one, where this call does
pub record LeavesRoom (past : List Mark) (call : Call) : Type 0 where
  pub for_end : count_ends past < count_begins past
  pub for_page : is_page call ≡ true → count_page_ends past < count_page_calls past

abbrev pub OpenCallsLeaveRoom : Type 0
OpenCallsLeaveRoom = (c : Config) (log : Log) (w : ℕ) (opened : Open) → IsSound c log → open_call w log.past ≡ Some opened → LeavesRoom log.past opened.call

-- after one mark more the map directly before an Effect is what it was, and so is its reply
pub record EffectStays (start : Map) (past : List Mark) (mark : Mark) (call : Call) (at : ℕ) : Type 0 where
  pub same_map : map_at start at (mark ∷ past) ≡ map_at start at past
  pub same_reply : (reply : Reply) → (apply (map_at start at past) call).reply ≡ Some reply → (apply (map_at start at (mark ∷ past)) call).reply ≡ Some reply

abbrev pub EffectsStayOpen : Type 0
EffectsStayOpen =
    (start : Map) (past : List Mark) (mark : Mark) (w at : ℕ) (opened : Open) → open_call w past ≡ Some opened → opened.effect ≡ Some at →
    EffectStays start past mark opened.call at
