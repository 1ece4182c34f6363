-- The whole of a memory after an act, for the proofs of the crates above: it stays one whose past is one, and from when each word dates.
use Rattle.std.specs.Prelude.{◌≡◌, ◌==◌, if◌then◌else◌, Bool, true, false, ℕ, ◌+◌, ◌-◌, ◌*◌, ◌^◌, ◌<◌, ◌≤◌, List, [], ◌∷◌, length, slice_index, slice_set}
use Rattle.std.proofs.Common.{arith, refl, sym, ◌∙◌, inl, inr}
use Rattle.std.proofs.lemmas.List.{get_or-set_same, get_or-set_other, length-set}
use Rattle.std.proofs.lemmas.Bool.{cases_eq}
use Rattle.bz_pm.specs.Words.{HoldsWords}
use Rattle.bz_pm.specs.Acts.{after_cut}
use Rattle.bz_pm.specs.State.{State, IsState, asks_of}
use Rattle.bz_pm.specs.After.{with_ask, ask_now, after_eviction, after_ask, after_fence, after_power_cut}
use Rattle.bz_pm.specs.declared.asks.Ask.{Ask}
use Rattle.bz_pm.proofs.Fences.{ask}
use Rattle.bz_pm.proofs.Asked.{same_test, other_test}
use Rattle.bz_pm.proofs.Lemmas.{evict, cut}
use Rattle.bz_pm.proofs.States.{state-cached, state-fenced, state-begun}

-- the words change in the caches alone
pub state_cached : (m : State) (into : List ℕ) → IsState m → length into ≡ length m.words.cached → IsState (record m { words = record { cached = into; durable = m.words.durable } })
state_cached = state-cached

most_set : (xs : List ℕ) (a x b most : ℕ) → x ≤ most → ((c : ℕ) → slice_index xs c ≤ most) → a < length xs → slice_index (slice_set xs a x) b ≤ most
most_set xs a x b most le all within = elim (cases_eq b a) [
  | inl e ↦ rw (e, get_or-set_same xs a x 0 within) le
  | inr ne ↦ rw (get_or-set_other xs a b x 0 ne) (all b)
]

pub state_evicted : (m : State) (a : ℕ) → IsState m → a < length m.words.cached → IsState (after_eviction m a)
state_evicted m a i within =
    let long : length (slice_set m.words.durable a (slice_index m.words.cached a)) ≡ length m.words.durable = length-set m.words.durable a (slice_index m.words.cached a) in
    record {
      memory = (evict m.words a i.memory within).stays.memory;
      dated = length-set m.since a m.count ∙ i.dated ∙ sym long;
      past = λ b. most_set m.since a m.count b m.count (omega arith) i.past (omega (arith, i.memory.same, i.dated));
      asks = λ w. rw long (i.asks w);
    }

pub state_asked : (m : State) (w line : ℕ) → IsState m → HoldsWords m.words → m.count < 2 ^ 64 - 1 → w < length m.asks → line * 8 < length m.words.cached → IsState (after_ask m w line)
state_asked m w line i fit few lt within = (ask m w line i fit (omega (arith, few)) lt within).state

pub state_fenced : (m : State) (w : ℕ) → IsState m → w < length m.asks → IsState (after_fence m w)
state_fenced m w i lt = state-fenced m w (asks_of m w) _ i lt refl refl

pub state_cut : (m : State) → IsState m → IsState (after_power_cut m)
state_cut m i = state-begun (after_cut m.words) (length m.since) (length m.asks) (cut m.words i.memory).stays.memory i.dated

-- from when each word dates
pub dates_evicted : (m : State) (a b : ℕ) → IsState m → a < length m.words.cached → slice_index (after_eviction m a).since b ≡ (if b == a then m.count else slice_index m.since b)
dates_evicted m a b i within = elim (cases_eq b a) [
  | inl e ↦ rw (same_test b a e, e) (get_or-set_same m.since a m.count 0 (omega (arith, i.memory.same, i.dated)))
  | inr ne ↦ rw (other_test b a ne) (get_or-set_other m.since a b m.count 0 ne)
]

-- a worker has asked for at most one line more
more_test : (b : Bool) (r q : Ask) (rs : List Ask) → length (with_ask rs q) ≤ length rs + 1 → length (if b then q ∷ rs else r ∷ with_ask rs q) ≤ length (r ∷ rs) + 1
more_test true r q rs le = omega arith
more_test false r q rs le = omega (arith, le)

more_lines : (qs : List Ask) (q : Ask) → length (with_ask qs q) ≤ length qs + 1
more_lines [] q = omega arith
more_lines (r ∷ rs) q = more_test (r.line == q.line) r q rs (more_lines rs q)

pub lines_asked : (m : State) (w line v : ℕ) → w < length m.asks → length (asks_of (after_ask m w line) v) ≤ (if v == w then length (asks_of m w) + 1 else length (asks_of m v))
lines_asked m w line v lt = elim (cases_eq v w) [
  | inl e ↦ rw (same_test v w e, e, get_or-set_same m.asks w (with_ask (asks_of m w) (ask_now m line)) [] lt) (more_lines (asks_of m w) (ask_now m line))
  | inr ne ↦ rw (other_test v w ne, get_or-set_other m.asks w v (with_ask (asks_of m w) (ask_now m line)) [] ne) (omega arith)
]
