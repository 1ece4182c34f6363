-- What holds between two turns of a call.
use Rattle.std.specs.Prelude.{◌≡◌, ◌⊎◌, ℕ, List, [], length, Some, None}
use Rattle.bz_bus.specs.Entries.{entries_of}
use Rattle.bz_call.specs.declared.calls.Call.{Call}
use Rattle.bz_index.specs.Calls.{HasCut, HasBegunOnly}
use Rattle.bz_index.specs.Entries.{owner_of, marks_in}
use Rattle.bz_index.specs.declared.shared.IndexEntry.{IndexEntry}
use Rattle.bz_mark.specs.declared.marks.Mark.{Mark}
use Rattle.bz_sound.specs.Calls.{Open, open_call}

-- the worker's call with this number is open since this moment
pub record StandsOpen (w n begun : ℕ) (past : List Mark) : Type 0 where
  pub opened : Open
  pub is_open : open_call w past ≡ Some opened
  pub number : opened.number ≡ n
  pub since : opened.begun ≡ begun

-- the call is open, or the power was cut since it began and the worker has no open call
abbrev pub OpenOrCut : ℕ → ℕ → ℕ → List Mark → List IndexEntry → Type 0
OpenOrCut w n begun past since = StandsOpen w n begun past ⊎ (HasCut (marks_in since) × (open_call w past ≡ None))

-- the call has begun and has not ended: `since` came after its Begin
pub record IsRunning (w : ℕ) (call : Call) (first now : List IndexEntry) : Type 0 where
  pub since : List IndexEntry
  pub begun : HasBegunOnly w call first now since
  pub none : entries_of owner_of w since ≡ []
  pub state : OpenOrCut w begun.number (length begun.found) (marks_in now) since
