-- What the calls of a thread leave, told by what its pass had seen and has seen now. The newest entry stands first.
use Rattle.std.specs.Prelude.{◌≡◌, ℕ, List, [], ◌∷◌, ◌++◌, Option, Some, None}
use Rattle.bz_bus.specs.Entries.{Extends, entries_of}
use Rattle.bz_call.specs.declared.calls.Call.{Call}
use Rattle.bz_call.specs.declared.replies.Reply.{Reply}
use Rattle.bz_index.specs.Calls.{begin_entry, IsAnswer}
use Rattle.bz_index.specs.Entries.{owner_of}
use Rattle.bz_index.specs.declared.answer.Answer.{Answer}
use Rattle.bz_index.specs.declared.answer.Answer.TheVariants as answer
use Rattle.bz_index.specs.declared.shared.IndexEntry.{IndexEntry}
use Rattle.bz_index.specs.declared.shared.Origin.{Origin}
use Rattle.bz_mark.specs.declared.marks.Mark.TheVariants.{End}

-- a worker's own entries
abbrev pub own_of : ℕ → List IndexEntry → List IndexEntry
own_of w seen = entries_of owner_of w seen

-- a call was made and replied to: to the worker's entries exactly its Begin and its End were added
pub record IsMade (w : ℕ) (call : Call) (old new : List IndexEntry) : Type 0 where
  pub number : ℕ
  pub at : ℕ
  pub reply : Reply
  pub page : List (List ℕ × List ℕ)
  pub is : new ≡ record { mark = End w number reply at; page = page } ∷ begin_entry w number call ∷ old

-- so were these, one after the other
abbrev pub AreMade : ℕ → List Call → List IndexEntry → List IndexEntry → Type 0
AreMade w [] old new = new ≡ old
AreMade w (call ∷ calls) old new = (mid : List IndexEntry) × IsMade w call old mid × AreMade w calls mid new

-- the answer is no reply
abbrev pub IsNoReply : Answer → Type 0
IsNoReply (answer.Reply reply) = ⊥
IsNoReply other = Unit {0}

-- one call: it was made, or else answered so
abbrev pub MakesOne : Origin → ℕ → Call → List IndexEntry → List IndexEntry → Option Answer → Type 0
MakesOne origin w call first now None = IsMade w call (own_of w first) (own_of w now)
MakesOne origin w call first now (Some answer) = IsNoReply answer × ((page : List (List ℕ × List ℕ)) × IsAnswer origin w call first now page answer)

-- those before one were made, and that one was answered so
pub record StopsAt (origin : Origin) (w : ℕ) (calls : List Call) (first now : List IndexEntry) (answer : Answer) : Type 0 where
  pub made : List Call
  pub call : Call
  pub rest : List Call
  pub are : calls ≡ made ++ call ∷ rest
  pub seen : List IndexEntry
  pub before : Extends first seen
  pub replied : AreMade w made (own_of w first) (own_of w seen)
  pub stops : MakesOne origin w call seen now (Some answer)

-- the calls of a thread: each was made, or those before one that was answered otherwise
abbrev pub MakesAll : Origin → ℕ → List Call → List IndexEntry → List IndexEntry → Option Answer → Type 0
MakesAll origin w calls first now None = AreMade w calls (own_of w first) (own_of w now)
MakesAll origin w calls first now (Some answer) = StopsAt origin w calls first now answer
