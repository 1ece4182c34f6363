-- What the runs add to a journal, turn by turn. The newest mark stands first.
use Rattle.std.specs.Prelude.{◌≡◌, ◌≢◌, ℕ, zero, suc, ◌+◌, ◌%◌, ◌/◌, ◌==◌, Bool, true, false, if◌then◌else◌, List, [], ◌∷◌, ◌++◌, length, slice_index, ◌⊎◌}
use Rattle.bz_mark.specs.declared.marks.Mark.{Mark}
use Rattle.bz_mark.specs.declared.marks.Mark.TheVariants.{Evict}
use Rattle.bz_script.specs.Draws.{next_state, draw_of}
use Rattle.bz_script.specs.declared.turn_list.Turn.{Turn}
use Rattle.bz_script.specs.declared.turn_list.Turn.TheVariants.{Times}
use Rattle.bz_sched.specs.Points.{Point, IsUpToOneEffect, is_busy, IsTurn}

-- so many turns of a worker. The rest is left out once it has no open and no queued call.
abbrev pub TakesTurns : ℕ → ℕ → Point → Point → Type 0
TakesTurns w zero old new = new ≡ old
TakesTurns w (suc count) old new =
    ((is_busy w old ≡ false) × (new ≡ old)) ⊎ ((mid : Point) × IsTurn w old mid × TakesTurns w count mid new)

-- a turn word
abbrev pub TakesWord : Turn → Point → Point → Type 0
TakesWord (Times w count) old new = TakesTurns w count old new

-- `run list`: word after word
abbrev pub RunsList : List Turn → Point → Point → Type 0
RunsList [] old new = new ≡ old
RunsList (turn ∷ turns) old new = (mid : Point) × TakesWord turn old mid × RunsList turns mid new

-- turns of a worker until it has no open and no queued call
abbrev pub EndsOne : ℕ → Point → Point → Type 0
EndsOne w old new = (count : ℕ) × TakesTurns w count old new × (is_busy w new ≡ false)

-- the same of so many workers from one on, in ascending order
abbrev pub EndsFrom : ℕ → ℕ → Point → Point → Type 0
EndsFrom w zero old new = new ≡ old
EndsFrom w (suc more) old new = (mid : Point) × EndsOne w old mid × EndsFrom (w + 1) more mid new

-- `run alone`
abbrev pub EndsAlone : Point → Point → Type 0
EndsAlone old new = EndsFrom 1 64 old new

-- of so many workers from one on, in ascending order, those that pass a test
abbrev pub passing_from : (ℕ → Bool) → ℕ → ℕ → List ℕ
passing_from test w zero = []
passing_from test w (suc more) = if test w then w ∷ passing_from test (w + 1) more else passing_from test (w + 1) more

-- the workers that have an open or a queued call
abbrev pub busy_workers : Point → List ℕ
busy_workers point = passing_from (λ w. is_busy w point) 1 64

-- the worker whose turn a draw makes it, counted from 0 among those that have an open or a queued call
abbrev pub drawn_worker : ℕ → Point → ℕ
drawn_worker draw point = slice_index (busy_workers point) ((draw / 8) % length (busy_workers point))

-- a word becomes durable by itself, and with it at most one effect
pub record IsEviction (a : ℕ) (old new : Point) : Type 0 where
  pub effect : List Mark
  pub is : new.past ≡ effect ++ Evict a ∷ old.past
  pub one_effect : IsUpToOneEffect effect
  pub queue : new.queue ≡ old.queue

-- the draw from a state makes an eviction
abbrev pub evicts : ℕ → Bool
evicts state = draw_of state % 8 == 0

-- a round with the state after its first draw, over a memory of so many words: the eviction of the word that
-- a second draw names, or a turn of the worker that the first one names
abbrev pub IsRoundBy : Bool → ℕ → ℕ → Point → Point → Type 0
IsRoundBy true words state old new = IsEviction (draw_of (next_state state) % words) old new
IsRoundBy false words state old new = IsTurn (drawn_worker (draw_of state) old) old new

abbrev pub IsRound : ℕ → ℕ → Point → Point → Type 0
IsRound words state old new = IsRoundBy (evicts state) words state old new

-- the state after a round, from the state after its first draw
abbrev pub after_round : ℕ → ℕ
after_round state = if evicts state then next_state state else state

-- so many rounds from a state, each while some worker has an open or a queued call, and then none has
abbrev pub RunsRounds : ℕ → ℕ → ℕ → Point → Point → Type 0
RunsRounds words zero state old new = (busy_workers old ≡ []) × (new ≡ old)
RunsRounds words (suc rounds) state old new =
    (busy_workers old ≢ []) × ((mid : Point) × IsRound words (next_state state) old mid × RunsRounds words rounds (after_round (next_state state)) mid new)

-- `run turns SEED`
abbrev pub RunsTurns : ℕ → ℕ → Point → Point → Type 0
RunsTurns words seed old new = (rounds : ℕ) × RunsRounds words rounds seed old new
