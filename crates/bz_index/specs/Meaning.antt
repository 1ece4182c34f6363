-- What the reply to a call means: at one moment of the call an ordered map answers so.
use Rattle.std.specs.Prelude.{◌≡◌, ℕ, true, List, ◌∷◌, ◌++◌, slice_get, Some}
use Rattle.bz_call.specs.Pages.{names_page}
use Rattle.bz_call.specs.declared.calls.Call.{Call}
use Rattle.bz_call.specs.declared.replies.Reply.{Reply}
use Rattle.bz_index.specs.Calls.{HasReply}
use Rattle.bz_index.specs.Entries.{marks_in, log_of}
use Rattle.bz_index.specs.Worlds.{IsSoundList}
use Rattle.bz_index.specs.declared.shared.IndexEntry.{IndexEntry}
use Rattle.bz_index.specs.declared.shared.Origin.{Origin}
use Rattle.bz_mark.specs.Log.{count_page_ends}
use Rattle.bz_mark.specs.declared.marks.Mark.TheVariants.{End}
use Rattle.bz_sound.specs.Calls.{Open, open_call}
use Rattle.bz_sound.specs.Power.History.{IsOneHistory}
use Rattle.bz_sound.specs.Power.Replies.{IsRightReply}

-- The End of a worker's call stands in the list, with this reply and page. Before it the call is open, and the reply is
-- right: at the moment that the End names, after the Begin and not after the End, an ordered map answers so. If the reply
-- names a page, the page has the number of its End among those that name one.
pub record IsEndOf (origin : Origin) (w number : ℕ) (call : Call) (reply : Reply) (moment : ℕ) (page : List (List ℕ × List ℕ)) (now : List IndexEntry) : Type 0 where
  pub later : List IndexEntry
  pub before : List IndexEntry
  pub is : now ≡ later ++ record { mark = End w number reply moment; page = page } ∷ before
  pub opened : Open
  pub is_open : open_call w (marks_in before) ≡ Some opened
  pub is_number : opened.number ≡ number
  pub is_call : opened.call ≡ call
  pub right : IsRightReply origin.config origin.start (log_of origin now).pages (marks_in before) (record { worker = w; opened = opened; reply = reply; at = moment })
  pub numbered : names_page reply ≡ true → slice_get (log_of origin now).pages (count_page_ends (marks_in before)) ≡ Some page

-- so does that of a call that was answered by a reply
abbrev pub AnswersAreRight : Type 0
AnswersAreRight = (origin : Origin) (w : ℕ) (call : Call) (first now : List IndexEntry) (reply : Reply) (page : List (List ℕ × List ℕ)) → IsSoundList origin now
    → (has : HasReply w call first now reply page) → IsEndOf origin w has.number call reply has.at has.its_page now

-- and all calls that happened are steps of one map, in the order of their moments, whichever threads made them
abbrev pub SeenIsOneHistory : Type 0
SeenIsOneHistory = (origin : Origin) (seen : List IndexEntry) → IsSoundList origin seen → IsOneHistory origin.config (log_of origin seen)
