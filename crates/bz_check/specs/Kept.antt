-- What a replay keeps of a memory, and what each mark makes of it.
use Rattle.std.specs.Prelude.{◌≡◌, ◌<◌, ◌==◌, ◌+◌, ◌*◌, ◌%◌, if◌then◌else◌, ℕ, List, [], ◌∷◌, ◌++◌, length, replicate, slice_index, slice_set, get_or}
use Rattle.std.specs.List.{AllByRecursion}
use Rattle.bz_pm.specs.After.{Dated, settled_word, settled_words, line_words}
use Rattle.bz_mark.specs.declared.marks.Mark.{Mark}
use Rattle.bz_mark.specs.declared.marks.Mark.TheVariants.{Store, Cas, Ask, Fence, Evict, Cut}
use Rattle.bz_check.specs.declared.asks.Asked.{Asked}
use Rattle.bz_check.specs.Asks.{AreWithin, settled}
use Rattle.bz_check.specs.Restored.{restored}

-- the cached and the durable words; for each word the moment from which the durable one dates, unless the last cut is later; for each
-- worker what it asked for; the addresses of stores since the last cut; and the moment after that
pub record Kept : Type 0 where
  pub cached : List ℕ
  pub durable : List ℕ
  pub since : List ℕ
  pub asks : List (List Asked)
  pub stored : List ℕ
  pub cut : ℕ

-- whole lines, lists of one length, as many workers as a mark may name, and addresses in the memory
pub record IsSized (m : Kept) : Type 0 where
  pub lines : length m.cached % 8 ≡ 0
  pub durable : length m.durable ≡ length m.cached
  pub since : length m.since ≡ length m.cached
  pub workers : length m.asks ≡ 256
  pub asks : (w : ℕ) → AreWithin (length m.cached) (get_or m.asks w [])
  pub stored : AllByRecursion (λ a. a < length m.cached) m.stored

-- before any mark
abbrev pub opened : List ℕ → Kept
opened start = record { cached = start; durable = start; since = replicate (length start) 0; asks = replicate 256 []; stored = []; cut = 0 }

-- other durable words, with their dates
abbrev pub dates_of : Kept → Dated
dates_of m = record { durable = m.durable; since = m.since }

abbrev pub with_dates : Kept → Dated → Kept
with_dates m d = record m { durable = d.durable; since = d.since }

-- after each act at a moment
abbrev pub with_store : Kept → ℕ → ℕ → Kept
with_store m a v = record m { cached = slice_set m.cached a v; stored = m.stored ++ a ∷ [] }

abbrev pub with_ask : Kept → ℕ → ℕ → ℕ → Kept
with_ask m now w line = record m { asks = slice_set m.asks w (get_or m.asks w [] ++ record { line = line; moment = now; words = line_words line m.cached } ∷ []) }

abbrev pub with_fence : Kept → ℕ → Kept
with_fence m w =
    let d = settled (get_or m.asks w []) (dates_of m) in
    record m { durable = d.durable; since = d.since; asks = slice_set m.asks w [] }

abbrev pub with_eviction : Kept → ℕ → ℕ → Kept
with_eviction m now a = with_dates m (settled_word a now (slice_index m.cached a) (dates_of m))

abbrev pub with_cut : Kept → ℕ → Kept
with_cut m now = record m { cached = restored m.stored m.cached m.durable; asks = replicate (length m.asks) []; stored = []; cut = now + 1 }

-- after a mark at a moment
abbrev pub kept_after : Kept → ℕ → Mark → Kept
kept_after m now (Store w a v) = with_store m a v
kept_after m now (Cas w a old new found) = if found == old then with_store m a new else m
kept_after m now (Ask w line) = with_ask m now w line
kept_after m now (Fence w) = with_fence m w
kept_after m now (Evict a) = with_eviction m now a
kept_after m now Cut = with_cut m now
kept_after m now mark = m
