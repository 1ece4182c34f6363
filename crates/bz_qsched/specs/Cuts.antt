-- An armed cut: the words that the draws of its seed evict, and then the cut. The newest mark stands first.
use Rattle.std.specs.Prelude.{◌≡◌, ℕ, zero, suc, ◌+◌, ◌==◌, not, nat_le, if◌then◌else◌, Bool, true, false, List, [], ◌∷◌, ◌++◌, ◌⊎◌, slice_index}
use Rattle.bz_mark.specs.WordsAfter.{words_after_marks}
use Rattle.bz_ring.specs.declared.marks.QMark.{QMark}
use Rattle.bz_mark.specs.declared.marks.Mark.TheVariants.{Evict, Cut}
use Rattle.bz_ring.specs.declared.marks.QMark.TheVariants.{Memory}
use Rattle.bz_ring.specs.Journal.{memory_of}
use Rattle.bz_script.specs.Draws.{next_state, draw_of}
use Rattle.bz_qsched.specs.Points.{Point, IsUpToOneEffect}
use Rattle.bz_script.specs.declared.draw.TheConstants.{EVICTED_FROM}

-- the cached and the durable word at an address differ after these marks, over a memory with this start
abbrev pub differs_at : List ℕ → List QMark → ℕ → Bool
differs_at start past a = not (slice_index (words_after_marks start (memory_of past)).cached a == slice_index (words_after_marks start (memory_of past)).durable a)

-- the word of the draw from this state is evicted
abbrev pub is_drawn : ℕ → Bool
is_drawn state = nat_le EVICTED_FROM (draw_of state)

-- a word becomes durable by itself, and with it at most one effect
pub record Evicts (a : ℕ) (old new : List QMark) : Type 0 where
  pub effect : List QMark
  pub is : new ≡ effect ++ Memory (Evict a) ∷ old
  pub one_effect : IsUpToOneEffect effect

-- a word is passed, with the state before it: where it differs and its draw says so, it is evicted
abbrev pub PassesBy : Bool → Bool → ℕ → List QMark → List QMark → Type 0
PassesBy true true a old new = Evicts a old new
PassesBy true false a old new = new ≡ old
PassesBy false drawn a old new = new ≡ old

abbrev pub Passes : List ℕ → ℕ → ℕ → List QMark → List QMark → Type 0
Passes start a state old new = PassesBy (differs_at start old a) (is_drawn (next_state state)) a old new

-- the state behind it: a draw is made where it differs
abbrev pub state_behind : Bool → ℕ → ℕ
state_behind differs state = if differs then next_state state else state

-- so many words are passed from an address on
abbrev pub PassesFrom : List ℕ → ℕ → ℕ → ℕ → List QMark → List QMark → Type 0
PassesFrom start zero a state old new = new ≡ old
PassesFrom start (suc more) a state old new =
    (mid : List QMark) × Passes start a state old mid × PassesFrom start more (a + 1) (state_behind (differs_at start old a) state) mid new

-- the words of a memory of this size, from address 0 on; none where the seed is 0
abbrev pub EvictsBy : Bool → List ℕ → ℕ → ℕ → List QMark → List QMark → Type 0
EvictsBy true start words seed old new = new ≡ old
EvictsBy false start words seed old new = PassesFrom start words 0 seed old new

abbrev pub EvictsDrawn : List ℕ → ℕ → ℕ → List QMark → List QMark → Type 0
EvictsDrawn start words seed old new = EvictsBy (seed == 0) start words seed old new

-- they are passed up to a word that was to be evicted
abbrev pub PassesInPart : List ℕ → ℕ → ℕ → ℕ → List QMark → List QMark → Type 0
PassesInPart start zero a state old new = ⊥
PassesInPart start (suc more) a state old new =
    ((differs_at start old a ≡ true) × (is_drawn (next_state state) ≡ true) × (new ≡ old))
    ⊎ ((mid : List QMark) × Passes start a state old mid × PassesInPart start more (a + 1) (state_behind (differs_at start old a) state) mid new)

abbrev pub EvictsByInPart : Bool → List ℕ → ℕ → ℕ → List QMark → List QMark → Type 0
EvictsByInPart true start words seed old new = ⊥
EvictsByInPart false start words seed old new = PassesInPart start words 0 seed old new

abbrev pub EvictsInPart : List ℕ → ℕ → ℕ → List QMark → List QMark → Type 0
EvictsInPart start words seed old new = EvictsByInPart (seed == 0) start words seed old new

-- the power is cut, and the calls that wait are dropped
abbrev pub CutsOff : List ℕ → ℕ → ℕ → Point → Point → Type 0
CutsOff start words seed old new = (mid : List QMark) × EvictsDrawn start words seed old.past mid × (new ≡ record { past = Memory Cut ∷ mid; queue = [] })

-- the limit on marks forbade an eviction, or the cut
abbrev pub CutsOffInPart : List ℕ → ℕ → ℕ → Point → Point → Type 0
CutsOffInPart start words seed old new = (EvictsInPart start words seed old.past new.past ⊎ EvictsDrawn start words seed old.past new.past) × (new.queue ≡ old.queue)
