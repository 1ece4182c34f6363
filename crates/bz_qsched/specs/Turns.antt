-- What the runs add to a journal, turn by turn. The newest mark stands first.
use Rattle.std.specs.Prelude.{◌≡◌, ℕ, zero, suc, ◌+◌, false, List, [], ◌∷◌, ◌⊎◌}
use Rattle.bz_script.specs.declared.turn_list.Turn.{Turn}
use Rattle.bz_script.specs.declared.turn_list.Turn.TheVariants.{Times}
use Rattle.bz_qsched.specs.Points.{Point, is_busy, IsTurn}

-- so many turns of a worker. The rest is left out once it has no open and no queued call.
abbrev pub TakesTurns : ℕ → ℕ → Point → Point → Type 0
TakesTurns w zero old new = new ≡ old
TakesTurns w (suc count) old new =
    ((is_busy w old ≡ false) × (new ≡ old)) ⊎ ((mid : Point) × IsTurn w old mid × TakesTurns w count mid new)

-- a turn word
abbrev pub TakesWord : Turn → Point → Point → Type 0
TakesWord (Times w count) old new = TakesTurns w count old new

-- `run list`: word after word
abbrev pub RunsList : List Turn → Point → Point → Type 0
RunsList [] old new = new ≡ old
RunsList (turn ∷ turns) old new = (mid : Point) × TakesWord turn old mid × RunsList turns mid new

-- turns of a worker until it has no open and no queued call
abbrev pub EndsOne : ℕ → Point → Point → Type 0
EndsOne w old new = (count : ℕ) × TakesTurns w count old new × (is_busy w new ≡ false)

-- the same of so many workers from one on, in ascending order
abbrev pub EndsFrom : ℕ → ℕ → Point → Point → Type 0
EndsFrom w zero old new = new ≡ old
EndsFrom w (suc more) old new = (mid : Point) × EndsOne w old mid × EndsFrom (w + 1) more mid new

-- `run alone`
abbrev pub EndsAlone : Point → Point → Type 0
EndsAlone old new = EndsFrom 1 64 old new
