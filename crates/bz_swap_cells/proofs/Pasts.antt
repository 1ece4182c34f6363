-- What is kept of asks after an act of the simulated memory, by address.
use Rattle.std.specs.Prelude.{◌≡◌, ◌≢◌, if◌then◌else◌, ◌==◌, ◌&&◌, ℕ, ◌+◌, ◌-◌, ◌*◌, ◌/◌, ◌%◌, ◌^◌, ◌<◌, ◌≤◌, Bool, true, false, nat_lt, List, [], ◌∷◌, length, drop, slice_index, Some, None}
use Rattle.std.specs.declared.option.Option.{Option}
use Rattle.std.proofs.Common.{arith, refl, sym, ap, ◌∙◌, inl, inr}
use Rattle.std.proofs.lemmas.List.{get_or-take, get_or-drop}
use Rattle.std.proofs.lemmas.Grind.{common_steps}
use Rattle.std.proofs.lemmas.Bool.{cases_eq}
use Rattle.bz_word.specs.Kinds.{IsWord}
use Rattle.bz_layout.specs.Addresses.{swap_address}
use Rattle.bz_pm.specs.State.{State, IsState, AreAsks, asks_of, ask_for}
use Rattle.bz_pm.specs.After.{next_moment, line_words, ask_now, after_eviction, after_ask}
use Rattle.bz_pm.specs.Changes.{AsksOnly, FencesOnly, fenced_word, fenced_since}
use Rattle.bz_pm.specs.declared.asks.Ask.{Ask}
use Rattle.bz_pm.proofs.Dates.{dates_evicted}
use Rattle.bz_swap_machine.specs.Pending as pending
use Rattle.bz_swap_machine.specs.Pending.{Saved}
use Rattle.bz_swap_cells.specs.Store.{Past, IsStatusWord, AreWords, AreAsked, saved_word, word_pending}
use Rattle.bz_swap_cells.proofs.Places.{differ}
use Rattle.bz_swap_cells.proofs.Pendings.{AreDated, AreSaved, AreFenced}

-- what is kept of a memory
abbrev pub past_of : State → Past
past_of m = record { count = m.count; since = m.since; asks = m.asks }

pub dated-evict : (m : State) (a : ℕ) → IsState m → a < length m.words.cached → AreDated (λ b. b == a) m.count (word_pending (past_of m)) (word_pending (past_of (after_eviction m a)))
dated-evict m a i within b = λ k. record { since = dates_evicted m a b i within k; asked = (word_pending (past_of m) b).asked }

-- the words that an ask saves
pub line-word : (words : List ℕ) (b : ℕ) → slice_index (line_words (b / 8) words) (b % 8) ≡ slice_index words b
line-word words b =
    get_or-take 8 (drop (b / 8 * 8) words) (b % 8) 0 (omega arith) ∙ get_or-drop (b / 8 * 8) words (b % 8) 0 ∙ ap (slice_index words) (place b)
  where
    place : (b : ℕ) → b / 8 * 8 + b % 8 ≡ b
    place b = omega arith

same-test : (a b : ℕ) → a ≡ b → (a == b) ≡ true
same-test a b e = grind (arith, common_steps)

-- an ask of the line at hand, and of another one
saved-here : (b : Bool) (q : Ask) (o : Option Ask) (place moment word : ℕ) → q.moment ≡ moment → slice_index q.words place ≡ word
    → saved_word (if (b && true) then Some q else o) place ≡ (if b then Some (record { moment = moment; value = word }) else saved_word o place)
saved-here true q o place moment word m w = λ i. Some (record { moment = m i; value = w i })
saved-here false q o place moment word m w = refl

saved-away : (b : Bool) (q : Ask) (o : Option Ask) (place : ℕ) → saved_word (if (b && false) then Some q else o) place ≡ saved_word o place
saved-away true q o place = refl
saved-away false q o place = refl

pub one-more : (n : ℕ) → n < 2 ^ 64 - 1 → next_moment n ≡ n + 1
one-more n few = omega (arith, few)

pub saved-ask : (m : State) (w line : ℕ) → AsksOnly m (after_ask m w line) w line → m.count < 2 ^ 64 - 1
    → AreSaved (λ b. b / 8 == line) w (m.count + 1) (slice_index m.words.cached) (word_pending (past_of m)) (word_pending (past_of (after_ask m w line)))
saved-ask m w line q few b = elim (cases_eq (b / 8) line) [
  | inl here ↦ rw (same-test (b / 8) line here) (λ i. record { since = slice_index m.since b; asked = λ v. own v here i })
  | inr away ↦ rw (differ (b / 8) line away) (λ i. record { since = slice_index m.since b; asked = λ v. other v away i })
]
  where
    own : (v : ℕ) → b / 8 ≡ line → saved_word (ask_for (asks_of (after_ask m w line) v) (b / 8)) (b % 8)
        ≡ (if v == w then Some (record { moment = m.count + 1; value = slice_index m.words.cached b }) else saved_word (ask_for (asks_of m v) (b / 8)) (b % 8))
    own v here =
        ap (λ o. saved_word o (b % 8)) (q.asks v (b / 8) ∙ ap (λ (t : Bool). if (v == w && t) then Some (ask_now m line) else ask_for (asks_of m v) (b / 8)) (same-test line (b / 8) (sym here)))
        ∙ saved-here (v == w) (ask_now m line) (ask_for (asks_of m v) (b / 8)) (b % 8) (m.count + 1) (slice_index m.words.cached b) (one-more m.count few) (ap (λ (l : ℕ). slice_index (line_words l m.words.cached) (b % 8)) (sym here) ∙ line-word m.words.cached b)

    other : (v : ℕ) → b / 8 ≢ line → saved_word (ask_for (asks_of (after_ask m w line) v) (b / 8)) (b % 8) ≡ saved_word (ask_for (asks_of m v) (b / 8)) (b % 8)
    other v away =
        ap (λ o. saved_word o (b % 8)) (q.asks v (b / 8) ∙ ap (λ (t : Bool). if (v == w && t) then Some (ask_now m line) else ask_for (asks_of m v) (b / 8)) (differ line (b / 8) (λ e. away (sym e))))
        ∙ saved-away (v == w) (ask_now m line) (ask_for (asks_of m v) (b / 8)) (b % 8)

-- the machine's fence of a word is that of the memory
since-told : (o : Option Ask) (since place : ℕ) → fenced_since o since ≡ pending.fenced_since since (saved_word o place)
since-told None since place = refl
since-told (Some q) since place = refl

word-told : (o : Option Ask) (since word place : ℕ) → fenced_word o since word place ≡ pending.fenced_value word since (saved_word o place)
word-told None since word place = refl
word-told (Some q) since word place = refl

left-told : (b : Bool) (qs : List Ask) (line place : ℕ) → saved_word (ask_for (if b then [] else qs) line) place ≡ (if b then None else saved_word (ask_for qs line) place)
left-told true qs line place = refl
left-told false qs line place = refl

pub fenced-fence : (m n : State) (w : ℕ) → FencesOnly m n w → AreFenced w (word_pending (past_of m)) (word_pending (past_of n))
fenced-fence m n w f b = λ i. record {
  since = (f.since b ∙ since-told (ask_for (asks_of m w) (b / 8)) (slice_index m.since b) (b % 8)) i;
  asked = λ v. (ap (λ qs. saved_word (ask_for qs (b / 8)) (b % 8)) (f.asks v) ∙ left-told (v == w) (asks_of m v) (b / 8) (b % 8)) i;
}

pub settled-fence : (m n : State) (w : ℕ) → FencesOnly m n w → (b : ℕ) → slice_index n.words.durable b ≡ pending.fenced_value (slice_index m.words.durable b) (word_pending (past_of m) b).since ((word_pending (past_of m) b).asked w)
settled-fence m n w f b = f.durable b ∙ word-told (ask_for (asks_of m w) (b / 8)) (slice_index m.since b) (slice_index m.words.durable b) (b % 8)

-- what was asked for stays of words that mean something
some-ask : (q r : Ask) → Some q ≡ Some r → q ≡ r
some-ask q r e = cc

either-ask : (P : ℕ → Type 0) (b : Bool) (q : Ask) (o : Option Ask) (r : Ask) (place : ℕ) → (b ≡ true → P (slice_index q.words place)) → ((s : Ask) → o ≡ Some s → P (slice_index s.words place)) → (if b then Some q else o) ≡ Some r → P (slice_index r.words place)
either-ask P true q o r place here there e = rw (← some-ask q r e) (here refl)
either-ask P false q o r place here there e = there r e

line-told : (b : Bool) (line l : ℕ) → (b && line == l) ≡ true → line ≡ l
line-told true line l e = grind (arith, common_steps, e)
line-told false line l e = absurd (cc)

pub asked-ask : (swaps : ℕ) (m : State) (w line : ℕ) → AsksOnly m (after_ask m w line) w line → AreWords swaps m.words.cached → AreAsked swaps m.asks → AreAsked swaps (after_ask m w line).asks
asked-ask swaps m w line q words are = record {
  kinds = λ a v r out told. either-ask IsWord (v == w && line == a / 8) (ask_now m line) (ask_for (asks_of m v) (a / 8)) r (a % 8)
      (λ here. rw (line-told (v == w) line (a / 8) here, line-word m.words.cached a) (words.kinds a out)) (λ s is. are.kinds a v s out is) (sym (q.asks v (a / 8)) ∙ told);
  statuses = λ s v r lt told. either-ask IsStatusWord (v == w && line == swap_address s / 8) (ask_now m line) (ask_for (asks_of m v) (swap_address s / 8)) r (swap_address s % 8)
      (λ here. rw (line-told (v == w) line (swap_address s / 8) here, line-word m.words.cached (swap_address s)) (words.statuses s lt)) (λ y is. are.statuses s v y lt is) (sym (q.asks v (swap_address s / 8)) ∙ told);
}

either-left : (P : ℕ → Type 0) (b : Bool) (qs : List Ask) (line place : ℕ) (r : Ask) → ((s : Ask) → ask_for qs line ≡ Some s → P (slice_index s.words place)) → ask_for (if b then [] else qs) line ≡ Some r → P (slice_index r.words place)
either-left P true qs line place r all e = absurd (cc)
either-left P false qs line place r all e = all r e

pub asked-fence : (swaps : ℕ) (m n : State) (w : ℕ) → FencesOnly m n w → AreAsked swaps m.asks → AreAsked swaps n.asks
asked-fence swaps m n w f are = record {
  kinds = λ a v r out told. either-left IsWord (v == w) (asks_of m v) (a / 8) (a % 8) r (λ s is. are.kinds a v s out is) (ap (λ qs. ask_for qs (a / 8)) (sym (f.asks v)) ∙ told);
  statuses = λ s v r lt told. either-left IsStatusWord (v == w) (asks_of m v) (swap_address s / 8) (swap_address s % 8) r (λ y is. are.statuses s v y lt is) (ap (λ qs. ask_for qs (swap_address s / 8)) (sym (f.asks v)) ∙ told);
}

-- no ask is later than now
moment-first : (t : Bool) (r q : Ask) (o : Option Ask) (n : ℕ) → r.moment ≤ n → (o ≡ Some q → q.moment ≤ n) → (if t then Some r else o) ≡ Some q → q.moment ≤ n
moment-first true r q o n here there e = rw (← some-ask r q e) here
moment-first false r q o n here there e = there e

moment-for : (size n : ℕ) (qs : List Ask) (line : ℕ) (q : Ask) → AreAsks size n qs → ask_for qs line ≡ Some q → q.moment ≤ n
moment-for size n [] line q are e = absurd (cc)
moment-for size n (r ∷ rs) line q are e = moment-first (r.line == line) r q (ask_for rs line) n are.0.moment (moment-for size n rs line q are.2) e

same-saved : (q r : Saved ℕ) → Some q ≡ Some r → q ≡ r
same-saved q r e = cc

moment-saved : (o : Option Ask) (place n : ℕ) (q : Saved ℕ) → ((r : Ask) → o ≡ Some r → r.moment ≤ n) → saved_word o place ≡ Some q → q.moment ≤ n
moment-saved None place n q all e = absurd (cc)
moment-saved (Some r) place n q all e = rw (← same-saved (record { moment = r.moment; value = slice_index r.words place }) q e) (all r refl)

pub moment-asked : (m : State) → IsState m → (a v : ℕ) (q : Saved ℕ) → (word_pending (past_of m) a).asked v ≡ Some q → q.moment ≤ m.count
moment-asked m i a v q e = moment-saved (ask_for (asks_of m v) (a / 8)) (a % 8) m.count q (λ r is. moment-for (length m.words.durable) m.count (asks_of m v) (a / 8) r (i.asks v) is) e

-- and the words that it makes durable do so too
settled-word : (P : ℕ → Type 0) (o : Option Ask) (since word place : ℕ) → ((q : Ask) → o ≡ Some q → P (slice_index q.words place)) → P word → P (fenced_word o since word place)
settled-word P None since word place all here = here
settled-word P (Some q) since word place all here = by_test (nat_lt since q.moment)
  where
    by_test : (b : Bool) → P (if b then slice_index q.words place else word)
    by_test true = all q refl
    by_test false = here

pub words-fence : (swaps : ℕ) (m n : State) (w : ℕ) → FencesOnly m n w → AreWords swaps m.words.durable → AreAsked swaps m.asks → AreWords swaps n.words.durable
words-fence swaps m n w f words are = record {
  kinds = λ a out. rw (f.durable a) (settled-word IsWord (ask_for (asks_of m w) (a / 8)) (slice_index m.since a) (slice_index m.words.durable a) (a % 8) (λ q is. are.kinds a w q out is) (words.kinds a out));
  statuses = λ s lt. rw (f.durable (swap_address s)) (settled-word IsStatusWord (ask_for (asks_of m w) (swap_address s / 8)) (slice_index m.since (swap_address s)) (slice_index m.words.durable (swap_address s)) (swap_address s % 8) (λ q is. are.statuses s w q lt is) (words.statuses s lt));
}
