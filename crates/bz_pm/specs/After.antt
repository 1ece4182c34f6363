-- What each act leaves of a memory and of what it keeps of the past.
use Rattle.std.specs.Prelude.{◌==◌, if◌then◌else◌, nat_lt, ℕ, ◌+◌, ◌-◌, ◌*◌, ◌^◌, List, [], ◌∷◌, length, take, drop, replicate, min, slice_index, slice_set}
use Rattle.bz_pm.specs.Acts.{stored, compared, evicted, after_cut}
use Rattle.bz_pm.specs.State.{State, Counted, asks_of}
use Rattle.bz_pm.specs.declared.asks.Ask.{Ask}

-- one more is counted, of asks or of acts: the count stops at its last value
abbrev pub next_moment : ℕ → ℕ
next_moment n = min (n + 1) (2 ^ 64 - 1)

-- a store, and a compare-and-swap, leave what was asked for and how old the durable words are
abbrev pub after_store : State → ℕ → ℕ → State
after_store m a v = record m { words = stored m.words a v }

abbrev pub after_cas : State → ℕ → ℕ → ℕ → State
after_cas m a old new = record m { words = compared m.words a old new }

-- after an eviction the durable word dates from now
abbrev pub after_eviction : State → ℕ → State
after_eviction m a = record m { words = evicted m.words a; since = slice_set m.since a m.count }

-- the eight words of a line
abbrev pub line_words : ℕ → List ℕ → List ℕ
line_words line words = take 8 (drop (line * 8) words)

-- these asks and one more, which replaces one of the same line
abbrev pub with_ask : List Ask → Ask → List Ask
with_ask [] q = q ∷ []
with_ask (r ∷ rs) q = if r.line == q.line then q ∷ rs else r ∷ with_ask rs q

-- the ask for a line that captures its cached words as they are now
abbrev pub ask_now : State → ℕ → Ask
ask_now m line = record { line = line; moment = next_moment m.count; words = line_words line m.words.cached }

-- after an ask the worker has asked for the line as it is now
abbrev pub after_ask : State → ℕ → ℕ → State
after_ask m w line = record m { count = next_moment m.count; asks = slice_set m.asks w (with_ask (asks_of m w) (ask_now m line)) }

-- the durable words, and the moment from which each dates
pub record Dated : Type 0 where
  pub durable : List ℕ
  pub since : List ℕ

-- a word that was asked for at a moment becomes durable, unless the durable one dates from then or later
abbrev pub settled_word : ℕ → ℕ → ℕ → Dated → Dated
settled_word a moment word d =
    if nat_lt (slice_index d.since a) moment
    then record { durable = slice_set d.durable a word; since = slice_set d.since a moment }
    else d

-- each of the words from an address on that were asked for at a moment
abbrev pub settled_words : ℕ → ℕ → List ℕ → Dated → Dated
settled_words a moment [] d = d
settled_words a moment (word ∷ words) d = settled_words (a + 1) moment words (settled_word a moment word d)

-- the words of each ask
abbrev pub settled : List Ask → Dated → Dated
settled [] d = d
settled (q ∷ qs) d = settled qs (settled_words (q.line * 8) q.moment q.words d)

-- after a fence of a worker what it asked for is durable, or something later is, and it has asked for nothing
abbrev pub after_fence : State → ℕ → State
after_fence m w =
    let d = settled (asks_of m w) (record { durable = m.words.durable; since = m.since }) in
    record m {
      words = record { cached = m.words.cached; durable = d.durable };
      since = d.since;
      asks = slice_set m.asks w [];
    }

-- a power cut forgets what was asked for, and asks are counted anew from it
abbrev pub after_power_cut : State → State
after_power_cut m = record {
  words = after_cut m.words;
  count = 0;
  since = replicate (length m.since) 0;
  asks = replicate (length m.asks) [];
}

-- a memory as it is opened: no worker from 0 to this one has asked for a line
abbrev pub opened : List ℕ → ℕ → State
opened start workers = record {
  words = record { cached = start; durable = start };
  count = 0;
  since = replicate (length start) 0;
  asks = replicate (workers + 1) [];
}

-- after one act more of a worker
abbrev pub acted : Counted → State → Counted
acted m after = record { state = after; acts = next_moment m.acts }

-- where no act was made yet
abbrev pub unacted : State → Counted
unacted m = record { state = m; acts = 0 }
