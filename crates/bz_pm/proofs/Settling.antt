-- Words that were asked for become durable, by address.
use Rattle.std.specs.Prelude.{◌≡◌, ◌≢◌, if◌then◌else◌, ◌⊎◌, nat_lt, ℕ, ◌*◌, ◌+◌, ◌/◌, ◌%◌, ◌<◌, ◌≤◌, Bool, true, false, List, [], ◌∷◌, length, slice_index, slice_set}
use Rattle.std.specs.declared.option.Option.TheVariants.{None, Some}
use Rattle.std.proofs.Common.{arith, refl, sym, ◌∙◌, inl, inr, zero, suc}
use Rattle.std.proofs.lemmas.List.{get_or-set_same, get_or-set_other, length-set, set_past}
use Rattle.std.proofs.lemmas.Bool.{cases_eq, cases_lt}
use Rattle.bz_pm.specs.State.{ask_for, IsAsk, AreAsks}
use Rattle.bz_pm.specs.After.{Dated, settled_word, settled_words, settled}
use Rattle.bz_pm.specs.declared.asks.Ask.{Ask}
use Rattle.bz_pm.proofs.Asked.{found, not_found}

-- as many words and moments as there were
pub record IsAsLong (d e : Dated) : Type 0 where
  pub durable : length e.durable ≡ length d.durable
  pub since : length e.since ≡ length d.since

-- a word and its moment are as they were
pub record IsSame (d e : Dated) (b : ℕ) : Type 0 where
  pub durable : slice_index e.durable b ≡ slice_index d.durable b
  pub since : slice_index e.since b ≡ slice_index d.since b

-- a word is the saved one where its moment was earlier than this, and has the later of the two moments
pub record IsSettled (d e : Dated) (b moment word : ℕ) : Type 0 where
  pub durable : slice_index e.durable b ≡ (if nat_lt (slice_index d.since b) moment then word else slice_index d.durable b)
  pub since : slice_index e.since b ≡ (if nat_lt (slice_index d.since b) moment then moment else slice_index d.since b)

long_word : (t : Bool) (a moment word : ℕ) (d : Dated) → IsAsLong d (if t then record { durable = slice_set d.durable a word; since = slice_set d.since a moment } else d)
long_word true a moment word d = record { durable = length-set d.durable a word; since = length-set d.since a moment }
long_word false a moment word d = record { durable = refl; since = refl }

same_word : (t : Bool) (a moment word : ℕ) (d : Dated) (b : ℕ) → b ≢ a → IsSame d (if t then record { durable = slice_set d.durable a word; since = slice_set d.since a moment } else d) b
same_word true a moment word d b ne = record { durable = get_or-set_other d.durable a b word 0 ne; since = get_or-set_other d.since a b moment 0 ne }
same_word false a moment word d b ne = record { durable = refl; since = refl }

chosen_word : (t : Bool) (a moment word : ℕ) (d : Dated) → a < length d.durable → length d.since ≡ length d.durable
    → let e : Dated = if t then record { durable = slice_set d.durable a word; since = slice_set d.since a moment } else d in
    (slice_index e.durable a ≡ (if t then word else slice_index d.durable a)) × (slice_index e.since a ≡ (if t then moment else slice_index d.since a))
chosen_word true a moment word d lt same = (get_or-set_same d.durable a word 0 lt, get_or-set_same d.since a moment 0 (omega arith))
chosen_word false a moment word d lt same = (refl, refl)

long_words : (words : List ℕ) (a moment : ℕ) (d : Dated) → IsAsLong d (settled_words a moment words d)
long_words [] a moment d = record { durable = refl; since = refl }
long_words (word ∷ words) a moment d =
    let one = long_word (nat_lt (slice_index d.since a) moment) a moment word d in
    let rest = long_words words (a + 1) moment (settled_word a moment word d) in
    record { durable = rest.durable ∙ one.durable; since = rest.since ∙ one.since }

same_words : (words : List ℕ) (a moment : ℕ) (d : Dated) (b : ℕ) → (b < a) ⊎ (a + length words ≤ b) → IsSame d (settled_words a moment words d) b
same_words [] a moment d b out = record { durable = refl; since = refl }
same_words (word ∷ words) a moment d b out =
    let ne : b ≢ a = λ e. elim out [ inl lt ↦ omega arith | inr le ↦ omega arith ] in
    let one = same_word (nat_lt (slice_index d.since a) moment) a moment word d b ne in
    let beyond : (b < a + 1) ⊎ (a + 1 + length words ≤ b) = elim out [ inl lt ↦ inl (omega arith) | inr le ↦ inr (omega arith) ] in
    let rest = same_words words (a + 1) moment (settled_word a moment word d) b beyond in
    record { durable = rest.durable ∙ one.durable; since = rest.since ∙ one.since }

settled_after : (d e f : Dated) (b moment word : ℕ) → IsSame d e b → IsSettled e f b moment word → IsSettled d f b moment word
settled_after d e f b moment word one rest = record {
  durable = rw (one.since, one.durable) at rest.durable;
  since = rw one.since at rest.since;
}

settled_first : (d e f : Dated) (b moment word : ℕ) → (slice_index e.durable b ≡ (if nat_lt (slice_index d.since b) moment then word else slice_index d.durable b))
    → (slice_index e.since b ≡ (if nat_lt (slice_index d.since b) moment then moment else slice_index d.since b)) → IsSame e f b → IsSettled d f b moment word
settled_first d e f b moment word durable since rest = record { durable = rest.durable ∙ durable; since = rest.since ∙ since }

settled_then : (d e f : Dated) (b moment word : ℕ) → IsSettled d e b moment word → IsSame e f b → IsSettled d f b moment word
settled_then d e f b moment word one rest = record { durable = rest.durable ∙ one.durable; since = rest.since ∙ one.since }

some_not_none : (q : Ask) → Some q ≡ None → ⊥
some_not_none q e = cc

some_same : (r q : Ask) → Some r ≡ Some q → r ≡ q
some_same r q e = cc

inside_words : (words : List ℕ) (a moment : ℕ) (d : Dated) (b k : ℕ) → b ≡ a + k → k < length words → a + length words ≤ length d.durable → length d.since ≡ length d.durable
    → IsSettled d (settled_words a moment words d) b moment (slice_index words k)
inside_words [] a moment d b k e lt fits same = absurd (omega arith)
inside_words (word ∷ words) a moment d b zero e lt fits same =
    let here : b ≡ a = omega arith in
    let one = chosen_word (nat_lt (slice_index d.since a) moment) a moment word d (omega arith) same in
    let rest = same_words words (a + 1) moment (settled_word a moment word d) a (inl (omega arith)) in
    rw here (settled_first d _ _ a moment word one.0 one.1 rest)
inside_words (word ∷ words) a moment d b (suc k) e lt fits same =
    let ne : b ≢ a = λ h. omega arith in
    let one = same_word (nat_lt (slice_index d.since a) moment) a moment word d b ne in
    let long = long_word (nat_lt (slice_index d.since a) moment) a moment word d in
    let rest = inside_words words (a + 1) moment (settled_word a moment word d) b k (omega arith) (omega arith) (omega (arith, long.durable)) (long.since ∙ (same ∙ sym long.durable)) in
    settled_after d _ _ b moment _ one rest

-- making what was asked for durable leaves the number of words
pub long_asks : (qs : List Ask) (d : Dated) → IsAsLong d (settled qs d)
long_asks [] d = record { durable = refl; since = refl }
long_asks (q ∷ qs) d =
    let one = long_words q.words (q.line * 8) q.moment d in
    let rest = long_asks qs (settled_words (q.line * 8) q.moment q.words d) in
    record { durable = rest.durable ∙ one.durable; since = rest.since ∙ one.since }

-- no later moment than this, where a word gets another
pub at_most-set : (xs : List ℕ) (a v b most : ℕ) → ((c : ℕ) → slice_index xs c ≤ most) → v ≤ most → slice_index (slice_set xs a v) b ≤ most
at_most-set xs a v b most all le = elim (cases_eq b a) [
  | inr ne ↦ rw (get_or-set_other xs a b v 0 ne) (all b)
  | inl e ↦ elim (cases_lt a (length xs)) [
    | inl lt ↦ rw (e, get_or-set_same xs a v 0 lt) le
    | inr past ↦ rw (set_past xs a v past) (all b)
  ]
]

past_word : (t : Bool) (a moment word : ℕ) (d : Dated) (most : ℕ) → ((c : ℕ) → slice_index d.since c ≤ most) → moment ≤ most
    → (b : ℕ) → let e : Dated = if t then record { durable = slice_set d.durable a word; since = slice_set d.since a moment } else d in slice_index e.since b ≤ most
past_word true a moment word d most all le b = at_most-set d.since a moment b most all le
past_word false a moment word d most all le b = all b

past_words : (words : List ℕ) (a moment : ℕ) (d : Dated) (most : ℕ) → ((c : ℕ) → slice_index d.since c ≤ most) → moment ≤ most
    → (b : ℕ) → slice_index (settled_words a moment words d).since b ≤ most
past_words [] a moment d most all le b = all b
past_words (word ∷ words) a moment d most all le b =
    past_words words (a + 1) moment (settled_word a moment word d) most (past_word (nat_lt (slice_index d.since a) moment) a moment word d most all le) le b

-- no durable word dates from later than now
pub past_asks : (size acts : ℕ) (qs : List Ask) (d : Dated) → AreAsks size acts qs → ((c : ℕ) → slice_index d.since c ≤ acts) → (b : ℕ) → slice_index (settled qs d).since b ≤ acts
past_asks size acts [] d are all b = all b
past_asks size acts (q ∷ qs) d are all b =
    past_asks size acts qs (settled_words (q.line * 8) q.moment q.words d) are.2 (past_words q.words (q.line * 8) q.moment d acts all are.0.moment) b

-- a word outside the line of an ask is as it was, one in it is settled
outside_ask : (size acts : ℕ) (q : Ask) (d : Dated) (b : ℕ) → IsAsk size acts q → q.line ≢ b / 8 → IsSame d (settled_words (q.line * 8) q.moment q.words d) b
outside_ask size acts q d b i ne = same_words q.words (q.line * 8) q.moment d b (elim (cases_lt b (q.line * 8)) [
  | inl lt ↦ inl lt
  | inr le ↦ inr (omega (arith, i.eight))
])

inside_ask : (acts : ℕ) (q : Ask) (d : Dated) (b : ℕ) → IsAsk (length d.durable) acts q → q.line ≡ b / 8 → length d.since ≡ length d.durable
    → IsSettled d (settled_words (q.line * 8) q.moment q.words d) b q.moment (slice_index q.words (b % 8))
inside_ask acts q d b i e same = inside_words q.words (q.line * 8) q.moment d b (b % 8) (omega arith) (omega (arith, i.eight)) (omega (arith, i.eight, i.line)) same

-- a word of no line that was asked for is as it was
pub none_asks : (size acts : ℕ) (qs : List Ask) (d : Dated) (b : ℕ) → AreAsks size acts qs → ask_for qs (b / 8) ≡ None → IsSame d (settled qs d) b
none_asks size acts [] d b are none = record { durable = refl; since = refl }
none_asks size acts (q ∷ qs) d b are none = elim (cases_eq q.line (b / 8)) [
  | inl e ↦ absurd (some_not_none _ (sym (found q qs (b / 8) e) ∙ none))
  | inr ne ↦ let one = outside_ask size acts q d b are.0 ne in
      let rest = none_asks size acts qs (settled_words (q.line * 8) q.moment q.words d) b are.2 (sym (not_found q qs (b / 8) ne) ∙ none) in
      record { durable = rest.durable ∙ one.durable; since = rest.since ∙ one.since }
]

-- a word of a line that was asked for is settled
pub some_asks : (acts : ℕ) (qs : List Ask) (q : Ask) (d : Dated) (b : ℕ) → AreAsks (length d.durable) acts qs → length d.since ≡ length d.durable
    → ask_for qs (b / 8) ≡ Some q → IsSettled d (settled qs d) b q.moment (slice_index q.words (b % 8))
some_asks acts [] q d b are same told = absurd (some_not_none _ (sym told))
some_asks acts (r ∷ rs) q d b are same told = elim (cases_eq r.line (b / 8)) [
  | inl e ↦ let is = some_same r q (sym (found r rs (b / 8) e) ∙ told) in
      let none : ask_for rs (b / 8) ≡ None = rw e at are.1 in
      let one = inside_ask acts r d b are.0 e same in
      let rest = none_asks (length d.durable) acts rs (settled_words (r.line * 8) r.moment r.words d) b are.2 none in
      rw (← is) (settled_then d _ _ b r.moment _ one rest)
  | inr ne ↦ let one = outside_ask (length d.durable) acts r d b are.0 ne in
      let long = long_words r.words (r.line * 8) r.moment d in
      let rest = some_asks acts rs q (settled_words (r.line * 8) r.moment r.words d) b (rw long.durable are.2) (long.since ∙ (same ∙ sym long.durable)) (sym (not_found r rs (b / 8) ne) ∙ told) in
      settled_after d _ _ b q.moment _ one rest
]
