-- What settling words makes of durable words and of their dates, by address: a durable word stays the value of the moment from which
-- it dates, and its date is the later one.
use Rattle.std.specs.Prelude.{◌≡◌, ◌≢◌, if◌then◌else◌, ◌⊎◌, nat_lt, ◌==◌, ℕ, ◌*◌, ◌+◌, ◌/◌, ◌<◌, ◌≤◌, Bool, true, false, List, [], ◌∷◌, ◌++◌, length, slice_index, slice_set, max}
use Rattle.std.proofs.Common.{arith, refl, sym, ap, ◌∙◌, subst, inl, inr, suc}
use Rattle.std.proofs.lemmas.List.{get_or-set_same, get_or-set_other, length-set}
use Rattle.std.proofs.lemmas.Bool.{cases_eq, cases_lt}
use Rattle.bz_pm.specs.After.{Dated, settled_word, settled_words}
use Rattle.bz_mark.proofs.DateLaws.{before_it, after_it}
use Rattle.bz_check.specs.declared.asks.Asked.{Asked}
use Rattle.bz_check.specs.Asks.{newest, AreWithin, settled}
use Rattle.bz_check.proofs.Tests.{same_test, other_test}

-- as many words and dates as there were
pub record IsAsLong (d e : Dated) : Type 0 where
  pub durable : length e.durable ≡ length d.durable
  pub since : length e.since ≡ length d.since

long_choice : (t : Bool) (a moment word : ℕ) (d : Dated) → IsAsLong d (if t then record { durable = slice_set d.durable a word; since = slice_set d.since a moment } else d)
long_choice true a moment word d = record { durable = length-set d.durable a word; since = length-set d.since a moment }
long_choice false a moment word d = record { durable = refl; since = refl }

pub long_word : (a moment word : ℕ) (d : Dated) → IsAsLong d (settled_word a moment word d)
long_word a moment word d = long_choice (nat_lt (slice_index d.since a) moment) a moment word d

pub long_words : (words : List ℕ) (a moment : ℕ) (d : Dated) → IsAsLong d (settled_words a moment words d)
long_words [] a moment d = record { durable = refl; since = refl }
long_words (word ∷ words) a moment d =
    let one = long_word a moment word d in
    let rest = long_words words (a + 1) moment (settled_word a moment word d) in
    record { durable = rest.durable ∙ one.durable; since = rest.since ∙ one.since }

pub long_asks : (qs : List Asked) (d : Dated) → IsAsLong d (settled qs d)
long_asks [] d = record { durable = refl; since = refl }
long_asks (q ∷ qs) d =
    let one = long_words q.words (q.line * 8) q.moment d in
    let rest = long_asks qs (settled_words (q.line * 8) q.moment q.words d) in
    record { durable = rest.durable ∙ one.durable; since = rest.since ∙ one.since }

-- one word: its date
pub since_here : (a moment word : ℕ) (d : Dated) → a < length d.since → slice_index (settled_word a moment word d).since a ≡ max (slice_index d.since a) moment
since_here a moment word d lt = elim (cases_lt (slice_index d.since a) moment) [
  | inl less ↦ rw (after_it (slice_index d.since a) moment less, get_or-set_same d.since a moment 0 lt) (omega arith)
  | inr le ↦ rw (before_it (slice_index d.since a) moment le) (omega arith)
]

pub since_away : (a moment word : ℕ) (d : Dated) (b : ℕ) → b ≢ a → slice_index (settled_word a moment word d).since b ≡ slice_index d.since b
since_away a moment word d b ne = elim (cases_lt (slice_index d.since a) moment) [
  | inl less ↦ rw (after_it (slice_index d.since a) moment less) (get_or-set_other d.since a b moment 0 ne)
  | inr le ↦ rw (before_it (slice_index d.since a) moment le) refl
]

-- a durable word is the value of the moment from which it dates, or of the last cut where that is later
abbrev pub DatesAt : (ℕ → ℕ → ℕ) → ℕ → Dated → ℕ → Type 0
DatesAt value cut d b = slice_index d.durable b ≡ value (max (slice_index d.since b) cut) b

pub word_dates : (value : ℕ → ℕ → ℕ) (cut a moment word : ℕ) (d : Dated) (b : ℕ) → a < length d.durable → length d.since ≡ length d.durable → cut ≤ moment → word ≡ value moment a
    → DatesAt value cut d b → DatesAt value cut (settled_word a moment word d) b
word_dates value cut a moment word d b lt same late is h = elim (cases_lt (slice_index d.since a) moment) [
  | inl less ↦ rw (after_it (slice_index d.since a) moment less) (elim (cases_eq b a) [
    | inl e ↦ rw (e, get_or-set_same d.durable a word 0 lt, get_or-set_same d.since a moment 0 (omega arith)) (is ∙ ap (λ (n : ℕ). value n a) (omega arith))
    | inr ne ↦ rw (get_or-set_other d.durable a b word 0 ne, get_or-set_other d.since a b moment 0 ne) h
  ])
  | inr le ↦ rw (before_it (slice_index d.since a) moment le) h
]

-- the words from an address on
pub words_date : (words : List ℕ) (value : ℕ → ℕ → ℕ) (cut a moment : ℕ) (d : Dated) (b : ℕ) → a + length words ≤ length d.durable → length d.since ≡ length d.durable → cut ≤ moment
    → ((k : ℕ) → k < length words → slice_index words k ≡ value moment (a + k)) → DatesAt value cut d b → DatesAt value cut (settled_words a moment words d) b
words_date [] value cut a moment d b fits same late are h = h
words_date (word ∷ words) value cut a moment d b fits same late are h =
    let long = long_word a moment word d in
    words_date words value cut (a + 1) moment (settled_word a moment word d) b (omega (arith, long.durable)) (long.since ∙ (same ∙ sym long.durable)) late
    (λ k lt. are (suc k) (omega arith) ∙ ap (λ (n : ℕ). value moment n) (omega arith))
    (word_dates value cut a moment word d b (omega arith) same late (are 0 (omega arith) ∙ ap (λ (n : ℕ). value moment n) (omega arith)) h)

pub since_out : (words : List ℕ) (a moment : ℕ) (d : Dated) (b : ℕ) → (b < a) ⊎ (a + length words ≤ b) → slice_index (settled_words a moment words d).since b ≡ slice_index d.since b
since_out [] a moment d b out = refl
since_out (word ∷ words) a moment d b out =
    let ne : b ≢ a = λ e. elim out [ inl lt ↦ omega arith | inr le ↦ omega arith ] in
    let beyond : (b < a + 1) ⊎ (a + 1 + length words ≤ b) = elim out [ inl lt ↦ inl (omega arith) | inr le ↦ inr (omega arith) ] in
    since_out words (a + 1) moment (settled_word a moment word d) b beyond ∙ since_away a moment word d b ne

pub since_in : (words : List ℕ) (a moment : ℕ) (d : Dated) (b : ℕ) → a ≤ b → b < a + length words → a + length words ≤ length d.since → slice_index (settled_words a moment words d).since b ≡ max (slice_index d.since b) moment
since_in [] a moment d b low high fits = absurd (omega arith)
since_in (word ∷ words) a moment d b low high fits = elim (cases_eq b a) [
  | inl e ↦ rw e (since_out words (a + 1) moment (settled_word a moment word d) a (inl (omega arith)) ∙ since_here a moment word d (omega arith))
  | inr ne ↦
      let long = long_word a moment word d in
      since_in words (a + 1) moment (settled_word a moment word d) b (omega arith) (omega arith) (omega (arith, long.since)) ∙ ap (λ (n : ℕ). max n moment) (since_away a moment word d b ne)
]

-- each ask has the values of its moment, which is none before the last cut
pub record HasValues (value : ℕ → ℕ → ℕ) (cut : ℕ) (q : Asked) : Type 0 where
  pub late : cut ≤ q.moment
  pub words : (k : ℕ) → k < 8 → slice_index q.words k ≡ value q.moment (q.line * 8 + k)

abbrev pub HaveValues : (ℕ → ℕ → ℕ) → ℕ → List Asked → Type 0
HaveValues value cut [] = Unit {0}
HaveValues value cut (q ∷ qs) = HasValues value cut q × HaveValues value cut qs

pub asks_date : (qs : List Asked) (value : ℕ → ℕ → ℕ) (cut : ℕ) (d : Dated) (b : ℕ) → AreWithin (length d.durable) qs → length d.since ≡ length d.durable → HaveValues value cut qs
    → DatesAt value cut d b → DatesAt value cut (settled qs d) b
asks_date [] value cut d b within same have h = h
asks_date (q ∷ qs) value cut d b within same have h =
    let long = long_words q.words (q.line * 8) q.moment d in
    asks_date qs value cut (settled_words (q.line * 8) q.moment q.words d) b (subst (λ (n : ℕ). AreWithin n qs) (sym long.durable) within.1) (long.since ∙ (same ∙ sym long.durable)) have.1
    (words_date q.words value cut (q.line * 8) q.moment d b (omega (arith, within.0.line, within.0.eight)) same have.0.late (λ k lt. have.0.words k (omega (arith, within.0.eight))) h)

pub asks_since : (qs : List Asked) (d : Dated) (b : ℕ) → AreWithin (length d.since) qs → slice_index (settled qs d).since b ≡ max (slice_index d.since b) (newest qs (b / 8))
asks_since [] d b within = omega arith
asks_since (q ∷ qs) d b within =
    let e : Dated = settled_words (q.line * 8) q.moment q.words d in
    let long = long_words q.words (q.line * 8) q.moment d in
    let rest = asks_since qs e b (subst (λ (n : ℕ). AreWithin n qs) (sym long.since) within.1) in
    elim (cases_eq q.line (b / 8)) [
      | inl here ↦
          let one = since_in q.words (q.line * 8) q.moment d b (omega arith) (omega (arith, within.0.eight)) (omega (arith, within.0.line, within.0.eight)) in
          rw (same_test q.line (b / 8) here) (omega (arith, rest, one))
      | inr away ↦
          let out : (b < q.line * 8) ⊎ (q.line * 8 + length q.words ≤ b) = elim (cases_lt b (q.line * 8)) [ inl lt ↦ inl lt | inr le ↦ inr (omega (arith, within.0.eight)) ] in
          let one = since_out q.words (q.line * 8) q.moment d b out in
          rw (other_test q.line (b / 8) away) (omega (arith, rest, one))
    ]

-- an ask more
pub newest-push : (qs : List Asked) (q : Asked) (line : ℕ) → newest (qs ++ q ∷ []) line ≡ (if q.line == line then max (newest qs line) q.moment else newest qs line)
newest-push [] q line = elim (cases_eq q.line line) [
  | inl e ↦ rw (same_test q.line line e) (omega arith)
  | inr ne ↦ rw (other_test q.line line ne) refl
]
newest-push (r ∷ rs) q line =
    let rest = newest-push rs q line in
    elim (cases_eq q.line line) [
      | inl e ↦ rw (same_test q.line line e) (elim (cases_eq r.line line) [
        | inl f ↦ rw (same_test r.line line f) (omega (arith, rw (same_test q.line line e) at rest))
        | inr nf ↦ rw (other_test r.line line nf) (rw (same_test q.line line e) at rest)
      ])
      | inr ne ↦ rw (other_test q.line line ne) (elim (cases_eq r.line line) [
        | inl f ↦ rw (same_test r.line line f) (ap (λ (n : ℕ). max r.moment n) (rw (other_test q.line line ne) at rest))
        | inr nf ↦ rw (other_test r.line line nf) (rw (other_test q.line line ne) at rest)
      ])
    ]
