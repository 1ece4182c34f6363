-- What an act changes of the words of a memory, by address, and that every other word is as it was.
use Rattle.std.specs.Prelude.{◌≡◌, ◌==◌, ◌&&◌, if◌then◌else◌, nat_lt, ℕ, ◌/◌, ◌%◌, ◌*◌, ◌^◌, ◌<◌, [], length, slice_index}
use Rattle.std.specs.declared.option.Option.{Option}
use Rattle.std.specs.declared.option.Option.TheVariants.{None, Some}
use Rattle.bz_pm.specs.Words.{Words, IsMemory, HoldsWords}
use Rattle.bz_pm.specs.Acts.{stored, compared, evicted, after_cut}
use Rattle.bz_pm.specs.State.{State, IsState, asks_of, ask_for}
use Rattle.bz_pm.specs.After.{ask_now, after_ask, after_fence}
use Rattle.bz_pm.specs.declared.asks.Ask.{Ask}

-- a memory stays one: as many words, all of them below 2^64
pub record StaysMemory (old new : Words) : Type 0 where
  pub cached : length new.cached ≡ length old.cached
  pub durable : length new.durable ≡ length old.durable
  pub memory : IsMemory new
  pub fit : HoldsWords old → HoldsWords new

-- the cached word of an address is this value, and nothing else changes
pub record StoresOnly (old new : Words) (a v : ℕ) : Type 0 where
  pub cached : (b : ℕ) → slice_index new.cached b ≡ (if b == a then v else slice_index old.cached b)
  pub durable : (b : ℕ) → slice_index new.durable b ≡ slice_index old.durable b
  pub stays : StaysMemory old new

-- the cached word of an address is the new value where it was the expected one, and nothing else changes
pub record ComparesOnly (old new : Words) (a expected v : ℕ) : Type 0 where
  pub cached : (b : ℕ) → slice_index new.cached b ≡ (if (b == a && slice_index old.cached a == expected) then v else slice_index old.cached b)
  pub durable : (b : ℕ) → slice_index new.durable b ≡ slice_index old.durable b
  pub stays : StaysMemory old new

-- the durable word of an address is the cached one, and nothing else changes
pub record EvictsOnly (old new : Words) (a : ℕ) : Type 0 where
  pub cached : (b : ℕ) → slice_index new.cached b ≡ slice_index old.cached b
  pub durable : (b : ℕ) → slice_index new.durable b ≡ (if b == a then slice_index old.cached b else slice_index old.durable b)
  pub stays : StaysMemory old new

-- each cached word is the durable one, and nothing else changes
pub record CutsOnly (old new : Words) : Type 0 where
  pub cached : (b : ℕ) → slice_index new.cached b ≡ slice_index old.durable b
  pub durable : (b : ℕ) → slice_index new.durable b ≡ slice_index old.durable b
  pub stays : StaysMemory old new

-- what each act leaves differs from what it found as said, at every memory and every address in it
abbrev pub StoredStoresOnly : Type 0
StoredStoresOnly = (m : Words) (a v : ℕ) → IsMemory m → a < length m.cached → v < 2 ^ 64 → StoresOnly m (stored m a v) a v

abbrev pub ComparedComparesOnly : Type 0
ComparedComparesOnly =
    (m : Words) (a expected v : ℕ) → IsMemory m → a < length m.cached → v < 2 ^ 64 → ComparesOnly m (compared m a expected v) a expected v

abbrev pub EvictedEvictsOnly : Type 0
EvictedEvictsOnly = (m : Words) (a : ℕ) → IsMemory m → a < length m.cached → EvictsOnly m (evicted m a) a

abbrev pub CutCutsOnly : Type 0
CutCutsOnly = (m : Words) → IsMemory m → CutsOnly m (after_cut m)

-- a word after a fence: the saved one where its line was asked for after the moment from which it dates
abbrev pub fenced_word : Option Ask → ℕ → ℕ → ℕ → ℕ
fenced_word None since word place = word
fenced_word (Some q) since word place = if nat_lt since q.moment then slice_index q.words place else word

-- the moment from which it dates then
abbrev pub fenced_since : Option Ask → ℕ → ℕ
fenced_since None since = since
fenced_since (Some q) since = if nat_lt since q.moment then q.moment else since

-- a fence of a worker changes durable words of the lines that it asked for alone, each into the saved one or not at all, and
-- forgets what it asked for
pub record FencesOnly (old new : State) (w : ℕ) : Type 0 where
  pub cached : (b : ℕ) → slice_index new.words.cached b ≡ slice_index old.words.cached b
  pub durable : (b : ℕ) → slice_index new.words.durable b ≡ fenced_word (ask_for (asks_of old w) (b / 8)) (slice_index old.since b) (slice_index old.words.durable b) (b % 8)
  pub since : (b : ℕ) → slice_index new.since b ≡ fenced_since (ask_for (asks_of old w) (b / 8)) (slice_index old.since b)
  pub asks : (v : ℕ) → asks_of new v ≡ (if v == w then [] else asks_of old v)
  pub state : IsState new
  pub stays : StaysMemory old.words new.words

-- an ask of a worker adds its line, as it is in the caches now, to what the worker asked for, and changes no word
pub record AsksOnly (old new : State) (w line : ℕ) : Type 0 where
  pub words : new.words ≡ old.words
  pub since : new.since ≡ old.since
  pub asks : (v l : ℕ) → ask_for (asks_of new v) l ≡ (if (v == w && line == l) then Some (ask_now old line) else ask_for (asks_of old v) l)
  pub state : IsState new

-- what each act leaves of what was asked for differs from what it found as said
abbrev pub FenceFencesOnly : Type 0
FenceFencesOnly = (m : State) (w : ℕ) → IsState m → w < length m.asks → FencesOnly m (after_fence m w) w

abbrev pub AskAsksOnly : Type 0
AskAsksOnly = (m : State) (w line : ℕ) → IsState m → HoldsWords m.words → m.count < 2 ^ 64 → w < length m.asks → line * 8 < length m.words.cached → AsksOnly m (after_ask m w line) w line
