-- A memory stays one whose past is one.
use Rattle.std.specs.Prelude.{◌≡◌, ℕ, ◌*◌, ◌+◌, ◌^◌, ◌<◌, ◌≤◌, List, [], length, take, drop, replicate, slice_index, slice_set, get_or}
use Rattle.std.proofs.Common.{arith, refl, sym, ◌∙◌, inl, inr, zero, suc}
use Rattle.std.proofs.lemmas.List.{get_or-set_same, get_or-set_other, length-take, length-drop, length-replicate, get_or-take, get_or-drop, get_or_past}
use Rattle.std.proofs.lemmas.Bool.{cases_eq, cases_lt}
use Rattle.bz_pm.specs.Words.{Words, IsMemory}
use Rattle.bz_pm.specs.State.{State, IsState, IsAsk, AreAsks, asks_of}
use Rattle.bz_pm.specs.After.{Dated, with_ask, line_words, settled}
use Rattle.bz_pm.specs.declared.asks.Ask.{Ask}
use Rattle.bz_pm.proofs.Asked.{AreAsks-later, AreAsks-with_ask}
use Rattle.bz_pm.proofs.Lemmas.{IsMemory-same_lengths}
use Rattle.bz_pm.proofs.Settling.{long_asks, past_asks}

-- the words change in the caches alone
pub state-cached : (m : State) (into : List ℕ) → IsState m → length into ≡ length m.words.cached → IsState (record m { words = record { cached = into; durable = m.words.durable } })
state-cached m into i same = record {
  memory = IsMemory-same_lengths m.words _ i.memory same refl;
  dated = i.dated;
  past = i.past;
  asks = i.asks;
}

at_most-replicate : (n x a : ℕ) → slice_index (replicate n x) a ≤ x
at_most-replicate zero x a = omega arith
at_most-replicate (suc n) x zero = omega arith
at_most-replicate (suc n) x (suc a) = at_most-replicate n x a

-- one worker's asks are others
asks-set : (size acts : ℕ) (asks : List (List Ask)) (w : ℕ) (qs : List Ask) → ((v : ℕ) → AreAsks size acts (get_or asks v [])) → AreAsks size acts qs → w < length asks
    → (v : ℕ) → AreAsks size acts (get_or (slice_set asks w qs) v [])
asks-set size acts asks w qs all are lt v = elim (cases_eq v w) [
  | inl e ↦ rw (e, get_or-set_same asks w qs [] lt) are
  | inr ne ↦ rw (get_or-set_other asks w v qs [] ne) (all v)
]

-- the words of a line are below 2^64
pub fit_line : (words : List ℕ) (line k : ℕ) → ((a : ℕ) → slice_index words a < 2 ^ 64) → slice_index (line_words line words) k < 2 ^ 64
fit_line words line k fit = elim (cases_lt k 8) [
  | inl lt ↦ rw (get_or-take 8 (drop (line * 8) words) k 0 lt, get_or-drop (line * 8) words k 0) (fit (line * 8 + k))
  | inr le ↦ rw (get_or_past (take 8 (drop (line * 8) words)) k 0 (omega (arith, length-take 8 (drop (line * 8) words)))) (omega arith)
]

-- a line is asked for now
pub state-asked : (m : State) (w line later : ℕ) (was after : List Ask) (words : List ℕ) → IsState m → w < length m.asks → line * 8 < length m.words.cached
    → ((k : ℕ) → slice_index words k < 2 ^ 64) → m.count ≤ later → was ≡ get_or m.asks w [] → words ≡ line_words line m.words.cached
    → after ≡ with_ask was (record { line = line; moment = later; words = words })
    → IsState (record m { count = later; asks = slice_set m.asks w after })
state-asked m w line later was after words i lt within fit le is saved e = record {
  memory = i.memory;
  dated = i.dated;
  past = λ a. omega (arith, i.past a);
  asks = λ v. asks-set _ later m.asks w after (λ u. AreAsks-later _ m.count later _ le (i.asks u)) (rw (e, is) (AreAsks-with_ask _ later _ _ ask (AreAsks-later _ m.count later _ le (i.asks w)))) lt v;
}
  where
    ask : IsAsk (length m.words.durable) later (record { line = line; moment = later; words = words })
    ask = record {
      line = omega (arith, i.memory.same, i.memory.lines);
      moment = omega arith;
      eight = rw (saved, length-take 8 (drop (line * 8) m.words.cached), length-drop (line * 8) m.words.cached) (omega (arith, i.memory.same, i.memory.lines));
      fit = fit;
    }

-- what a worker asked for is durable
pub state-fenced : (m : State) (w : ℕ) (qs : List Ask) (d : Dated) → IsState m → w < length m.asks → qs ≡ get_or m.asks w []
    → d ≡ settled qs (record { durable = m.words.durable; since = m.since })
    → IsState (record { words = record { cached = m.words.cached; durable = d.durable }; count = m.count; since = d.since; asks = slice_set m.asks w [] })
state-fenced m w qs d i lt is e =
    let was : Dated = record { durable = m.words.durable; since = m.since } in
    let long = long_asks (asks_of m w) was in
    let past = past_asks _ m.count (asks_of m w) was (i.asks w) i.past in
    rw (e, is) (record {
      memory = IsMemory-same_lengths m.words _ i.memory refl long.durable;
      dated = long.since ∙ (i.dated ∙ sym long.durable);
      past = past;
      asks = λ v. rw long.durable (asks-set _ m.count m.asks w [] i.asks tt lt v);
    })

no_asks : (size acts n v : ℕ) → AreAsks size acts (get_or (replicate n []) v [])
no_asks size acts zero v = tt
no_asks size acts (suc n) zero = tt
no_asks size acts (suc n) (suc v) = no_asks size acts n v

-- nothing was asked for
pub state-begun : (words : Words) (moments workers : ℕ) → IsMemory words → moments ≡ length words.durable
    → IsState (record { words = words; count = 0; since = replicate moments 0; asks = replicate workers [] })
state-begun words moments workers i same = record {
  memory = i;
  dated = length-replicate moments 0 ∙ same;
  past = λ a. at_most-replicate moments 0 a;
  asks = λ w. no_asks _ 0 workers w;
}
