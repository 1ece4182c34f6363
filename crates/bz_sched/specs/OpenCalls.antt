-- Turns that end the calls which are open, one worker after the other, and begin none. The newest mark stands first.
use Rattle.std.specs.Prelude.{◌≡◌, ℕ, zero, suc, ◌+◌, is_some, true, ◌⊎◌, None}
use Rattle.bz_sched.specs.Points.{Point, IsTurn}
use Rattle.bz_sched.specs.TurnsInPart.{StopsTurn}
use Rattle.bz_sched.specs.declared.turn.Stop.{Stop}
use Rattle.bz_sound.specs.Calls.{open_call}

-- so many turns of a worker, each while a call of it is open, and then none is
abbrev pub TurnsWhileOpen : ℕ → ℕ → Point → Point → Type 0
TurnsWhileOpen w zero old new = (open_call w old.past ≡ None) × (new ≡ old)
TurnsWhileOpen w (suc count) old new =
    (is_some (open_call w old.past) ≡ true) × ((mid : Point) × IsTurn w old mid × TurnsWhileOpen w count mid new)

-- turns of a worker until no call of it is open
abbrev pub EndsCall : ℕ → Point → Point → Type 0
EndsCall w old new = (count : ℕ) × TurnsWhileOpen w count old new

-- the same of so many workers from one on, in ascending order
abbrev pub EndsCallsFrom : ℕ → ℕ → Point → Point → Type 0
EndsCallsFrom w zero old new = new ≡ old
EndsCallsFrom w (suc more) old new = (mid : Point) × EndsCall w old mid × EndsCallsFrom (w + 1) more mid new

-- of all workers
abbrev pub EndsCalls : Point → Point → Type 0
EndsCalls old new = EndsCallsFrom 1 64 old new

-- these up to where they stop
abbrev pub TurnsWhileOpenInPart : Stop → ℕ → ℕ → Point → Point → Type 0
TurnsWhileOpenInPart why w zero old new = (is_some (open_call w old.past) ≡ true) × StopsTurn why w old new
TurnsWhileOpenInPart why w (suc count) old new =
    (is_some (open_call w old.past) ≡ true) × ((mid : Point) × IsTurn w old mid × TurnsWhileOpenInPart why w count mid new)

abbrev pub EndsCallInPart : Stop → ℕ → Point → Point → Type 0
EndsCallInPart why w old new = (count : ℕ) × TurnsWhileOpenInPart why w count old new

abbrev pub EndsCallsFromInPart : Stop → ℕ → ℕ → Point → Point → Type 0
EndsCallsFromInPart why w zero old new = ⊥
EndsCallsFromInPart why w (suc more) old new =
    EndsCallInPart why w old new ⊎ ((mid : Point) × EndsCall w old mid × EndsCallsFromInPart why (w + 1) more mid new)

abbrev pub EndsCallsInPart : Stop → Point → Point → Type 0
EndsCallsInPart why old new = EndsCallsFromInPart why 1 64 old new
