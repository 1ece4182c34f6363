-- How a call of an index is answered, told by what its pass had seen and has seen now.
use Rattle.std.specs.Prelude.{◌≡◌, ◌<◌, ◌⊎◌, ℕ, true, false, List, [], ◌∷◌, ◌++◌, length, nat_le}
use Rattle.bz_bus.specs.Entries.{Extends, entries_of}
use Rattle.bz_call.specs.Pages.{names_page}
use Rattle.bz_call.specs.declared.calls.Call.{Call}
use Rattle.bz_call.specs.declared.replies.Reply.{Reply}
use Rattle.bz_index.specs.Entries.{owner_of, marks_in, log_of}
use Rattle.bz_index.specs.declared.answer.Answer.{Answer}
use Rattle.bz_index.specs.declared.answer.Answer.TheVariants as answer
use Rattle.bz_index.specs.declared.shared.IndexEntry.{IndexEntry}
use Rattle.bz_index.specs.declared.shared.Origin.{Origin}
use Rattle.bz_mark.specs.Log.{count_begins}
use Rattle.bz_mark.specs.declared.marks.Mark.{Mark}
use Rattle.bz_mark.specs.declared.marks.Mark.TheVariants.{Begin, End, Cut}
use Rattle.bz_mark.specs.Times.{power_of}
use Rattle.bz_mark.specs.declared.power.Power.TheVariants as power
use Rattle.bz_world.specs.Recoveries.{acts_recovering}
use Rattle.bz_world.specs.WorldView.{is_short, lacks_page, recovery_most}
use Rattle.bz_world.specs.declared.answers.LimitKind.TheVariants as which

-- the power was cut
abbrev pub HasCut : List Mark → Type 0
HasCut [] = ⊥
HasCut (Cut ∷ past) = Unit {0}
HasCut (mark ∷ past) = HasCut past

abbrev pub begin_entry : ℕ → ℕ → Call → IndexEntry
begin_entry w n call = record { mark = Begin w n call; page = [] }

-- the worker's call was answered: exactly its Begin and its End were added of the worker's, the End has the reply, its
-- moment lies after all that was seen before, and the page is the one that comes with it
pub record HasReply (w : ℕ) (call : Call) (first now : List IndexEntry) (reply : Reply) (page : List (List ℕ × List ℕ)) : Type 0 where
  pub number : ℕ
  pub at : ℕ
  pub its_page : List (List ℕ × List ℕ)
  pub own : entries_of owner_of w now ≡ record { mark = End w number reply at; page = its_page } ∷ begin_entry w number call ∷ entries_of owner_of w first
  pub later : length first < at
  pub shown : names_page reply ≡ true → page ≡ its_page

-- nothing of the worker's was added
abbrev pub HasNotBegun : ℕ → List IndexEntry → List IndexEntry → Type 0
HasNotBegun w first now = entries_of owner_of w now ≡ entries_of owner_of w first

-- of the worker's exactly the Begin of its call was added; `since` came after it
pub record HasBegunOnly (w : ℕ) (call : Call) (first now since : List IndexEntry) : Type 0 where
  pub number : ℕ
  pub found : List IndexEntry
  pub is : now ≡ since ++ begin_entry w number call ∷ found
  pub extends : Extends first found
  pub own : entries_of owner_of w now ≡ begin_entry w number call ∷ entries_of owner_of w first

-- so it was, whatever came since
abbrev pub HasOnlyBegun : ℕ → Call → List IndexEntry → List IndexEntry → Type 0
HasOnlyBegun w call first now = (since : List IndexEntry) × HasBegunOnly w call first now since

-- the power was off when the call would have begun, or was cut since it began
abbrev pub IsOff : Origin → ℕ → Call → List IndexEntry → List IndexEntry → Type 0
IsOff origin w call first now =
    (HasNotBegun w first now × (power_of origin.at_start (marks_in now) ≡ power.Off))
    ⊎ ((since : List IndexEntry) × HasBegunOnly w call first now since × HasCut (marks_in since))

-- fewer than three places were left, when the call would have begun or since then
abbrev pub IsOutOfMarks : Origin → ℕ → Call → List IndexEntry → List IndexEntry → Type 0
IsOutOfMarks origin w call first now =
    (is_short (log_of origin now) ≡ true) × (HasNotBegun w first now ⊎ HasOnlyBegun w call first now)

-- when the call would have begun as many had begun as may, and there were places for marks
abbrev pub IsOutOfCalls : Origin → ℕ → List IndexEntry → List IndexEntry → Type 0
IsOutOfCalls origin w first now =
    HasNotBegun w first now × (is_short (log_of origin now) ≡ false) × (nat_le origin.calls (count_begins (marks_in now)) ≡ true)

-- it asked for a page, as many of those had begun as may, and there were places for marks, and another call might have begun
abbrev pub IsOutOfPages : Origin → ℕ → Call → List IndexEntry → List IndexEntry → Type 0
IsOutOfPages origin w call first now =
    HasNotBegun w first now × (is_short (log_of origin now) ≡ false) × (nat_le origin.calls (count_begins (marks_in now)) ≡ false)
    × (lacks_page (log_of origin now) call ≡ true)

-- the recovery was under way when the call would have begun, and worker 0 had made fewer acts than one makes
abbrev pub IsRecovering : Origin → ℕ → List IndexEntry → List IndexEntry → Type 0
IsRecovering origin w first now =
    HasNotBegun w first now × (power_of origin.at_start (marks_in now) ≡ power.Recovering) × (acts_recovering (marks_in now) < recovery_most origin.config)

abbrev pub IsAnswer : Origin → ℕ → Call → List IndexEntry → List IndexEntry → List (List ℕ × List ℕ) → Answer → Type 0
IsAnswer origin w call first now page (answer.Reply reply) = HasReply w call first now reply page
IsAnswer origin w call first now page answer.Off = IsOff origin w call first now
IsAnswer origin w call first now page answer.Recovering = IsRecovering origin w first now
IsAnswer origin w call first now page (answer.Limit which.Marks) = IsOutOfMarks origin w call first now
IsAnswer origin w call first now page (answer.Limit which.Calls) = IsOutOfCalls origin w first now
IsAnswer origin w call first now page (answer.Limit which.Pages) = IsOutOfPages origin w call first now

-- what a call tells: the pass has seen a list that extends what it had seen, and the answer is right
pub record IsAnswered (origin : Origin) (w : ℕ) (call : Call) (first now : List IndexEntry) (page : List (List ℕ × List ℕ)) (answer : Answer) : Type 0 where
  pub extends : Extends first now
  pub right : IsAnswer origin w call first now page answer
