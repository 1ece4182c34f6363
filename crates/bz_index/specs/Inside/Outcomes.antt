-- How a turn of a call goes on.
use Rattle.std.specs.Prelude.{◌≡◌, ℕ, length, true, List, [], ◌∷◌, Option, Some, None}
use Rattle.bz_call.specs.Pages.{names_page}
use Rattle.bz_call.specs.declared.calls.Call.{Call}
use Rattle.bz_call.specs.declared.replies.Reply.{Reply}
use Rattle.bz_index.specs.Calls.{HasCut, HasReply, HasBegunOnly, HasOnlyBegun, IsAnswer}
use Rattle.bz_index.specs.Entries.{marks_in, log_of}
use Rattle.bz_index.specs.Inside.Running.{IsRunning}
use Rattle.bz_index.specs.Passes.{IsAtRest}
use Rattle.bz_index.specs.Worlds.{HasMade}
use Rattle.bz_index.specs.declared.answer.Answer.{Answer}
use Rattle.bz_index.specs.declared.answer.Answer.TheVariants as answer
use Rattle.bz_index.specs.declared.shared.IndexEntry.{IndexEntry}
use Rattle.bz_index.specs.declared.shared.Origin.{Origin}
use Rattle.bz_mark.specs.Log.{Log, count_page_ends}
use Rattle.bz_mark.specs.declared.marks.Mark.{Mark}
use Rattle.bz_mark.specs.declared.marks.Mark.TheVariants.{End}
use Rattle.bz_world.specs.WorldView.{is_short}
use Rattle.bz_world.specs.declared.answers.Applied.{Applied}
use Rattle.bz_world.specs.declared.answers.Applied.TheVariants as applied
use Rattle.bz_world.specs.declared.answers.Event.TheVariants as event
use Rattle.bz_world.specs.declared.answers.Begun.{Begun}
use Rattle.bz_world.specs.declared.answers.Begun.TheVariants as begun
use Rattle.bz_world.specs.declared.answers.LimitKind.TheVariants as which

-- the newest entry is an End with this reply, and if it names a page this is it
abbrev pub EndsWith : List IndexEntry → Reply → List (List ℕ × List ℕ) → Type 0
EndsWith [] reply page = ⊥
EndsWith (entry ∷ entries) reply page = (w : ℕ) × (n : ℕ) × (at : ℕ) × (entry.mark ≡ End w n reply at) × (names_page reply ≡ true → page ≡ entry.page)

-- the call has begun and the power was cut since then
abbrev pub WasCut : ℕ → Call → List IndexEntry → List IndexEntry → Type 0
WasCut w call first now = (since : List IndexEntry) × HasBegunOnly w call first now since × HasCut (marks_in since)

-- fewer than three places are left, and the call has not ended
abbrev pub RanOut : Origin → ℕ → Call → List IndexEntry → List IndexEntry → Type 0
RanOut origin w call first now = (is_short (log_of origin now) ≡ true) × HasOnlyBegun w call first now

-- what the answer to a step of a call that has begun tells
abbrev pub StepTells : Origin → ℕ → Call → List IndexEntry → List IndexEntry → Applied → Type 0
StepTells origin w call first now applied.Stepped = IsRunning w call first now
StepTells origin w call first now (applied.Ended n) = IsAtRest origin now w × ((reply : Reply) (page : List (List ℕ × List ℕ)) → EndsWith now reply page → HasReply w call first now reply page)
StepTells origin w call first now applied.Limit = IsAtRest origin now w × RanOut origin w call first now
StepTells origin w call first now applied.Off = IsAtRest origin now w × WasCut w call first now
StepTells origin w call first now applied.Recovering = IsAtRest origin now w × WasCut w call first now
StepTells origin w call first now applied.Idle = IsAtRest origin now w × WasCut w call first now
StepTells origin w call first now other = ⊥

-- the world refuses the step, but not for want of room
abbrev pub IsStop : Applied → Type 0
IsStop applied.Stepped = ⊥
IsStop (applied.Ended n) = ⊥
IsStop applied.Limit = ⊥
IsStop other = Unit {0}

-- what the world answered, as the call's answer: none while it goes on
abbrev pub IsRead : Applied → List IndexEntry → List (List ℕ × List ℕ) → Option Answer → Type 0
IsRead made left page None = made ≡ applied.Stepped
IsRead made left page (Some (answer.Reply reply)) = (n : ℕ) × (made ≡ applied.Ended n) × EndsWith left reply page
IsRead made left page (Some answer.Off) = IsStop made
IsRead made left page (Some (answer.Limit which.Marks)) = made ≡ applied.Limit
IsRead made left page (Some other) = ⊥

-- a turn that makes a step of a worker's call
pub record HasStepped (origin : Origin) (found : List IndexEntry) (w : ℕ) (left : List IndexEntry) (page : List (List ℕ × List ℕ)) (answer : Option Answer) : Type 0 where
  pub applied : Applied
  pub made : HasMade origin found (event.Step w) applied left
  pub read : IsRead applied left page answer

-- the call goes on, or it is answered and the worker is at rest
abbrev pub GoesOn : Origin → ℕ → Call → List IndexEntry → List IndexEntry → List (List ℕ × List ℕ) → Option Answer → Type 0
GoesOn origin w call first now page None = IsRunning w call first now
GoesOn origin w call first now page (Some answer) = IsAnswer origin w call first now page answer × IsAtRest origin now w

-- the newest mark is an End, and each page has one
pub record HasEnded (log : Log) : Type 0 where
  pub worker : ℕ
  pub number : ℕ
  pub reply : Reply
  pub at : ℕ
  pub past : List Mark
  pub is : log.past ≡ End worker number reply at ∷ past
  pub pages : length log.pages ≡ count_page_ends log.past

-- what a turn that begins a call leaves
abbrev pub BeginLeaves : Origin → ℕ → Call → List IndexEntry → List IndexEntry → Begun → Type 0
BeginLeaves origin w call first now (begun.Begun n) = IsRunning w call first now
BeginLeaves origin w call first now begun.NoWorker = ⊥
BeginLeaves origin w call first now begun.Busy = ⊥
BeginLeaves origin w call first now begun.Off = IsAnswer origin w call first now [] answer.Off × IsAtRest origin now w
BeginLeaves origin w call first now begun.Recovering = IsAnswer origin w call first now [] answer.Recovering × IsAtRest origin now w
BeginLeaves origin w call first now (begun.Limit which) = IsAnswer origin w call first now [] (answer.Limit which) × IsAtRest origin now w
