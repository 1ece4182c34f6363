-- An ask for a line and the fence after it make the line durable.
use Rattle.std.specs.Prelude.{◌≡◌, ◌==◌, if◌then◌else◌, nat_lt, ℕ, ◌+◌, ◌-◌, ◌*◌, ◌/◌, ◌%◌, ◌^◌, ◌<◌, ◌≤◌, Bool, true, false, [], length, slice_index}
use Rattle.std.specs.declared.option.Option.{Option}
use Rattle.std.specs.declared.option.Option.TheVariants.{None, Some}
use Rattle.std.proofs.Common.{arith, refl, ap, sym, ◌∙◌, inl, inr}
use Rattle.std.proofs.lemmas.Bool.{cases_eq}
use Rattle.std.proofs.lemmas.Grind.{common_steps}
use Rattle.std.proofs.lemmas.List.{length-set}
use Rattle.bz_layout.specs.declared.sizes.TheConstants.{LINE_WORDS}
use Rattle.bz_pm.specs.After.{ask_now, line_words, next_moment, after_ask, after_fence}
use Rattle.bz_pm.specs.Changes.{AsksOnly, FencesOnly, fenced_word}
use Rattle.bz_pm.specs.State.{State, IsState, ask_for, asks_of}
use Rattle.bz_pm.specs.Words.{HoldsWords}
use Rattle.bz_pm.specs.declared.asks.Ask.{Ask}
use Rattle.bz_pm.proofs.Proved.{ask, fence}
use Rattle.bz_swap_cells.proofs.Pasts.{line-word, one-more}
use Rattle.bz_sweep.specs.Memory.{memory_of, Flushes}

-- what a fence makes of a word that was asked for just now
saved-now : (m : State) (line b : ℕ) → m.count < 2 ^ 64 - 1 → slice_index m.since b ≤ m.count → b / 8 ≡ line
    → fenced_word (Some (ask_now m line)) (slice_index m.since b) (slice_index m.words.durable b) (b % 8) ≡ slice_index m.words.cached b
saved-now m line b few past here =
    let moment : next_moment m.count ≡ m.count + 1 = one-more m.count few in
    let later : nat_lt (slice_index m.since b) (next_moment m.count) ≡ true = rw moment (grind (arith, common_steps, past)) in
    rw later (ap (λ (l : ℕ). slice_index (line_words l m.words.cached) (b % 8)) (sym here) ∙ line-word m.words.cached b)

pub ask-flushes : (m : State) (w line : ℕ) → IsState m → HoldsWords m.words → m.count < 2 ^ 64 - 1 → w < length m.asks → asks_of m w ≡ [] → line * LINE_WORDS < length m.words.cached
    → Flushes (memory_of m.words) (memory_of (after_fence (after_ask m w line) w).words) line
ask-flushes m w line i fit few lt none within = record {
  cached = f.cached;
  durable = λ b. f.durable b ∙ elim (cases_eq (b / 8) line) [
    | inl here ↦
        let own : (w == w) ≡ true = grind (arith, common_steps) in
        let this : (line == b / 8) ≡ true = grind (arith, common_steps, here) in
        let test : (b / 8 == line) ≡ true = grind (arith, common_steps, here) in
        let asked : ask_for (asks_of (after_ask m w line) w) (b / 8) ≡ Some (ask_now m line) = only.asks w (b / 8) ∙ rw (own, this) refl in
        rw test (ap (λ (o : Option Ask). fenced_word o (slice_index m.since b) (slice_index m.words.durable b) (b % 8)) asked ∙ saved-now m line b few (i.past b) here)
    | inr away ↦
        let own : (w == w) ≡ true = grind (arith, common_steps) in
        let other : (line == b / 8) ≡ false = grind (arith, common_steps, away) in
        let test : (b / 8 == line) ≡ false = grind (arith, common_steps, away) in
        let asked : ask_for (asks_of (after_ask m w line) w) (b / 8) ≡ None = only.asks w (b / 8) ∙ rw (own, other, none) refl in
        rw test (ap (λ (o : Option Ask). fenced_word o (slice_index m.since b) (slice_index m.words.durable b) (b % 8)) asked)
  ];
}
  where
    only : AsksOnly m (after_ask m w line) w line
    only = ask m w line i fit (omega (arith, few)) lt within

    f : FencesOnly (after_ask m w line) (after_fence (after_ask m w line) w) w
    f = fence (after_ask m w line) w only.state (rw length-set lt)
