-- A simulated memory with what it keeps of the past: how many acts and how many asks were made, from when each durable word
-- dates, and what each worker asked for. A moment is a number of asks: an ask has the moment after it, and the first one has 1.
use Rattle.std.specs.Prelude.{◌≡◌, ◌==◌, if◌then◌else◌, ℕ, ◌+◌, ◌*◌, ◌^◌, ◌<◌, ◌≤◌, List, [], ◌∷◌, length, slice_index, get_or}
use Rattle.std.specs.declared.option.Option.{Option}
use Rattle.std.specs.declared.option.Option.TheVariants.{None, Some}
use Rattle.bz_pm.specs.Words.{Words, IsMemory}
use Rattle.bz_pm.specs.declared.asks.Ask.{Ask}

-- the words; how many asks were made since the last cut; for each word the moment from which its durable value dates; for
-- each worker the lines that it asked for since its last fence or the last cut
pub record State : Type 0 where
  pub words : Words
  pub count : ℕ
  pub since : List ℕ
  pub asks : List (List Ask)

-- the same memory, and how many acts of workers were made since the last cut
pub record Counted : Type 0 where
  pub state : State
  pub acts : ℕ

-- what a worker asked for
abbrev pub asks_of : State → ℕ → List Ask
asks_of m w = get_or m.asks w []

-- the ask for a line, if there is one
abbrev pub ask_for : List Ask → ℕ → Option Ask
ask_for [] line = None
ask_for (q ∷ qs) line = if q.line == line then Some q else ask_for qs line

-- an ask of a line of the memory, at no later moment, with the eight words of then
pub record IsAsk (size acts : ℕ) (q : Ask) : Type 0 where
  pub line : q.line * 8 + 8 ≤ size
  pub moment : q.moment ≤ acts
  pub eight : length q.words ≡ 8
  pub fit : (k : ℕ) → slice_index q.words k < 2 ^ 64

-- asks of lines that differ
abbrev pub AreAsks : ℕ → ℕ → List Ask → Type 0
AreAsks size acts [] = Unit {0}
AreAsks size acts (q ∷ qs) = IsAsk size acts q × (ask_for qs q.line ≡ None) × AreAsks size acts qs

-- a memory whose past is one: a moment for each word, none of them later than now, and asks of no later moments
pub record IsState (m : State) : Type 0 where
  pub memory : IsMemory m.words
  pub dated : length m.since ≡ length m.words.durable
  pub past : (a : ℕ) → slice_index m.since a ≤ m.count
  pub asks : (w : ℕ) → AreAsks (length m.words.durable) m.count (asks_of m w)
