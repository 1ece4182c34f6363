-- Laws of asks and fences, by address, for the proofs of the crates above.
use Rattle.std.specs.Prelude.{◌≡◌, ◌==◌, ◌&&◌, if◌then◌else◌, ℕ, ◌/◌, ◌%◌, ◌^◌, ◌<◌, ◌≤◌, List, [], length, slice_index, slice_set, get_or}
use Rattle.std.specs.declared.option.Option.{Option}
use Rattle.std.specs.declared.option.Option.TheVariants.{None, Some}
use Rattle.std.proofs.Common.{arith, refl, inl, inr}
use Rattle.std.proofs.lemmas.List.{get_or-set_same, get_or-set_other}
use Rattle.std.proofs.lemmas.Bool.{cases_eq}
use Rattle.bz_pm.specs.State.{State, AreAsks, asks_of, ask_for}
use Rattle.bz_pm.specs.After.{Dated, with_ask, ask_now, next_moment, settled}
use Rattle.bz_pm.specs.Changes.{FenceFencesOnly, AskAsksOnly, fenced_word, fenced_since}
use Rattle.bz_pm.specs.declared.asks.Ask.{Ask}
use Rattle.bz_pm.proofs.Asked.{same_test, other_test, ask_for-with_ask_other, ask_for-with_ask_same, fit_ask}
use Rattle.bz_pm.proofs.Lemmas.{IsMemory-same_lengths, either_below}
use Rattle.bz_pm.proofs.Settling.{none_asks, some_asks, long_asks}
use Rattle.bz_pm.proofs.States.{state-asked, state-fenced, fit_line}

later : (n : ℕ) → n < 2 ^ 64 → n ≤ next_moment n
later n lt = omega arith

-- another worker's asks stay
asks_of-set : (asks : List (List Ask)) (w : ℕ) (qs : List Ask) (v : ℕ) → w < length asks → get_or (slice_set asks w qs) v [] ≡ (if v == w then qs else get_or asks v [])
asks_of-set asks w qs v lt = elim (cases_eq v w) [
  | inl e ↦ rw (same_test v w e, e) (get_or-set_same asks w qs [] lt)
  | inr ne ↦ rw (other_test v w ne) (get_or-set_other asks w v qs [] ne)
]

fenced : (o : Option Ask) (acts : ℕ) (qs : List Ask) (d : Dated) (b : ℕ) → AreAsks (length d.durable) acts qs → length d.since ≡ length d.durable → ask_for qs (b / 8) ≡ o
    → (slice_index (settled qs d).durable b ≡ fenced_word o (slice_index d.since b) (slice_index d.durable b) (b % 8)) × (slice_index (settled qs d).since b ≡ fenced_since o (slice_index d.since b))
fenced None acts qs d b are same told = let one = none_asks (length d.durable) acts qs d b are told in (one.durable, one.since)
fenced (Some q) acts qs d b are same told = let one = some_asks acts qs q d b are same told in (one.durable, one.since)

fit_fenced : (o : Option Ask) (acts : ℕ) (qs : List Ask) (size b since word : ℕ) → AreAsks size acts qs → ask_for qs (b / 8) ≡ o → word < 2 ^ 64 → fenced_word o since word (b % 8) < 2 ^ 64
fit_fenced None acts qs size b since word are told fit = fit
fit_fenced (Some q) acts qs size b since word are told fit = either_below _ _ _ (2 ^ 64) (fit_ask qs q acts size (b / 8) are told (b % 8)) fit

pub fence : FenceFencesOnly
fence m w i lt =
    let d : Dated = record { durable = m.words.durable; since = m.since } in
    let qs : List Ask = asks_of m w in
    let are : AreAsks (length d.durable) m.count qs = i.asks w in
    let word = λ (b : ℕ). fenced (ask_for qs (b / 8)) m.count qs d b are i.dated refl in
    let long = long_asks qs d in
    record {
      cached = λ b. refl;
      durable = λ b. (word b).0;
      since = λ b. (word b).1;
      asks = λ v. asks_of-set m.asks w [] v lt;
      state = state-fenced m w qs (settled qs d) i lt refl refl;
      stays = record {
        cached = refl;
        durable = long.durable;
        memory = IsMemory-same_lengths m.words _ i.memory refl long.durable;
        fit = λ h. record {
          cached = h.cached;
          durable = λ b. rw (word b).0 (fit_fenced (ask_for qs (b / 8)) m.count qs (length d.durable) b _ _ are refl (h.durable b));
        };
      };
    }

asked : (m : State) (w line : ℕ) (v l : ℕ) → w < length m.asks
    → ask_for (get_or (slice_set m.asks w (with_ask (asks_of m w) (ask_now m line))) v []) l ≡ (if (v == w && line == l) then Some (ask_now m line) else ask_for (asks_of m v) l)
asked m w line v l lt = elim (cases_eq v w) [
  | inr ne ↦ rw (other_test v w ne, get_or-set_other m.asks w v (with_ask (asks_of m w) (ask_now m line)) [] ne) refl
  | inl e ↦ rw (same_test v w e, e, get_or-set_same m.asks w (with_ask (asks_of m w) (ask_now m line)) [] lt) (elim (cases_eq line l) [
    | inl here ↦ rw (same_test line l here) (ask_for-with_ask_same (asks_of m w) (ask_now m line) l here)
    | inr away ↦ rw (other_test line l away) (ask_for-with_ask_other (asks_of m w) (ask_now m line) l away)
  ])
]

pub ask : AskAsksOnly
ask m w line i fit small lt within = record {
  words = refl;
  since = refl;
  asks = λ v l. asked m w line v l lt;
  state = state-asked m w line (next_moment m.count) (asks_of m w) _ _ i lt within (λ k. fit_line m.words.cached line k fit.cached) (later m.count small) refl refl refl;
}
