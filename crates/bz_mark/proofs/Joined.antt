-- The memory after marks has the words by moments: acts that make words durable, asks, cuts, and the law.
use Rattle.std.proofs.Common.{◌≡◌, ◌≢◌, ◌<◌, ◌≤◌, ◌+◌, ◌-◌, ◌*◌, ◌/◌, ◌%◌, ◌^◌, ◌==◌, if◌then◌else◌, ℕ, Bool, true, false, zero, suc, List, [], ◌∷◌, length, slice_index, refl, sym, ap, ◌∙◌, subst, inl, inr, arith, Option, Some, None}
use Rattle.std.specs.Prelude.{nat_lt, max, replicate, drop, get_or, slice_set}
use Rattle.std.proofs.lemmas.Bool.{cases_eq, cases_lt}
use Rattle.std.proofs.lemmas.Bool.Decides.{nat_tests}
use Rattle.std.proofs.lemmas.List.{get_or-replicate, get_or_past, get_or-set_same, get_or-set_other, length-replicate, length-set, get_or-take, get_or-drop}
use Rattle.bz_layout.specs.declared.limits.TheConstants.{MAX_WORKERS}
use Rattle.bz_pm.specs.Acts.{evicted, after_cut}
use Rattle.bz_pm.specs.State.{State, IsState, AreAsks, asks_of, ask_for}
use Rattle.bz_pm.specs.After.{opened, after_ask, after_fence, line_words}
use Rattle.bz_pm.specs.Changes.{StaysMemory, EvictsOnly, CutsOnly, FencesOnly, AsksOnly, fenced_word, fenced_since}
use Rattle.bz_pm.specs.declared.asks.Ask.{Ask}
use Rattle.bz_pm.proofs.Proved as memory
use Rattle.bz_mark.specs.declared.marks.Mark.{Mark}
use Rattle.bz_mark.specs.declared.marks.Mark.TheVariants.{Store, Cas, Ask as Asks, Fence, Evict, Cut}
use Rattle.bz_mark.specs.Dates.{asked, since, cached_at}
use Rattle.bz_mark.specs.WordsAfter.{state_after, state_after_marks}
use Rattle.bz_mark.specs.Laws.{IsImage, IsOfMemory, AreOfMemory, WordsAreByMoments}
use Rattle.bz_mark.proofs.DateLaws.{IsNoCut, changed, cached-before, cached-now, cached-cut, since-within}
use Rattle.bz_mark.proofs.Counting.{counts, counted, cut_at, counted-before, counted-now, counted-newest, counted-rises}
use Rattle.bz_mark.proofs.Joining.{AskIs, DateIs, DateIs-later, Joins, state-by, counted_one, AskIs-later, stays_so, word-in, few_asks, store_joins, cas_joins}

cut-within : (past : List Mark) → cut_at past ≤ length past
cut-within [] = omega arith
cut-within (Cut ∷ past) = omega arith
cut-within (mark ∷ past) = omega (arith, cut-within past)

most_replicate : (n x a : ℕ) → slice_index (replicate n x) a ≤ x
most_replicate zero x a = omega arith
most_replicate (suc n) x zero = omega arith
most_replicate (suc n) x (suc a) = most_replicate n x a

-- an act that makes some words durable as they are now
record Settles (start : List ℕ) (past : List Mark) (mark : Mark) (here : ℕ → Bool) (m n : State) : Type 0 where
  no_cut : IsNoCut mark
  cut : cut_at (mark ∷ past) ≡ cut_at past
  since : (a : ℕ) → since (mark ∷ past) a ≡ (if here a then length past else since past a)
  asked : (w line : ℕ) → asked (mark ∷ past) w line ≡ asked past w line
  stays : StaysMemory m.words n.words
  none : counts mark ≡ 0
  count : n.count ≡ m.count
  quiet : (a x : ℕ) → x ≡ changed mark a x
  cached : (a : ℕ) → slice_index n.words.cached a ≡ slice_index m.words.cached a
  durable : (a : ℕ) → slice_index n.words.durable a ≡ (if here a then slice_index m.words.cached a else slice_index m.words.durable a)
  long : length n.since ≡ length m.since
  moments : (a : ℕ) → a < length m.since → slice_index n.since a ≡ (if here a then m.count else slice_index m.since a)
  same_asks : n.asks ≡ m.asks

-- a value of each word by whether it is made durable
by_here : (t : Bool) (P : ℕ → ℕ → Type 0) (x y u v : ℕ) → P x u → P y v → P (if t then x else y) (if t then u else v)
by_here true P x y u v p q = p
by_here false P x y u v p q = q

most_here : (t : Bool) (x y n : ℕ) → x ≤ n → y ≤ n → (if t then x else y) ≤ n
most_here true x y n p q = p
most_here false x y n p q = q

least_here : (t : Bool) (x y n : ℕ) → n ≤ x → n ≤ y → n ≤ (if t then x else y)
least_here true x y n p q = p
least_here false x y n p q = q

settled_past : (start : List ℕ) (past : List Mark) (mark : Mark) (here : ℕ → Bool) (m n : State) → IsState m → Settles start past mark here m n → (a : ℕ) → slice_index n.since a ≤ n.count
settled_past start past mark here m n i v a = elim (cases_lt a (length m.since)) [
  | inl within ↦ rw (v.moments a within) (most_here (here a) m.count (slice_index m.since a) n.count (omega (arith, v.count)) (omega (arith, i.past a, v.count)))
  | inr beyond ↦ rw (get_or_past n.since a 0 (omega (arith, v.long))) (omega arith)
]

plus_none : (n : ℕ) → n + 0 ≡ n
plus_none n = omega arith

settled_joins : (start : List ℕ) (past : List Mark) (mark : Mark) (here : ℕ → Bool) (m n : State) → Joins start past m → Settles start past mark here m n → Joins start (mark ∷ past) n
settled_joins start past mark here m n j v = record {
  state = state-by m n j.state v.stays v.long (settled_past start past mark here m n j.state v) (omega (arith, v.count)) v.same_asks;
  fit = v.stays.fit j.fit;
  size = v.stays.durable ∙ j.size;
  workers = ap (length {A = List Ask}) v.same_asks ∙ j.workers;
  count = v.count ∙ j.count ∙ sym (counted-now mark past v.no_cut ∙ ap (λ (k : ℕ). counted past (length past) + k) v.none ∙ plus_none (counted past (length past)));
  dated = λ a. rw (v.cut, v.since a) (least_here (here a) (length past) (since past a) (cut_at past) (cut-within past) (j.dated a));
  cached = λ a within. v.cached a ∙ j.cached a within ∙ v.quiet a (cached_at start past (length past) a) ∙ sym (cached-now start mark past a v.no_cut);
  durable = λ a within. rw (v.durable a, v.since a)
      (by_here (here a) (λ (word moment : ℕ). word ≡ cached_at start (mark ∷ past) moment a) (slice_index m.words.cached a) (slice_index m.words.durable a) (length past) (since past a)
      (j.cached a within ∙ sym (cached-before start mark past (length past) a (omega arith)))
      (j.durable a within ∙ sym (cached-before start mark past (since past a) a (since-within past a))));
  moments = λ a within. rw (v.moments a (omega (arith, j.state.dated, j.size)), v.since a)
      (by_here (here a) (λ (date moment : ℕ). DateIs (mark ∷ past) moment date) m.count (slice_index m.since a) (length past) (since past a)
      (inl (omega arith, omega (arith, j.count, v.none, counted-newest mark past v.no_cut)))
      (DateIs-later mark past (since past a) (slice_index m.since a) v.no_cut v.cut (j.moments a within)));
  asks = λ w line few. subst (λ (all : List (List Ask)). AskIs start (mark ∷ past) w line (ask_for (get_or all w []) line)) (sym v.same_asks)
      (AskIs-later start mark past w line (ask_for (asks_of m w) line) v.no_cut v.cut (v.asked w line) (j.asks w line few));
}

same_test : (a b : ℕ) → a ≡ b → (a == b) ≡ true
same_test a b e = grind (arith, nat_tests)

other_test : (a b : ℕ) → a ≢ b → (a == b) ≡ false
other_test a b ne = grind (arith, nat_tests)

set_word : (words : List ℕ) (b v a : ℕ) → b < length words → slice_index (slice_set words b v) a ≡ (if a == b then v else slice_index words a)
set_word words b v a within = elim (cases_eq a b) [
  | inl is ↦ rw (same_test a b is, is) (get_or-set_same words b v 0 within)
  | inr ne ↦ rw (other_test a b ne) (get_or-set_other words b a v 0 ne)
]

evict_joins : (start : List ℕ) (past : List Mark) (m : State) (b : ℕ) → Joins start past m → b < length start → Joins start (Evict b ∷ past) (state_after m (Evict b))
evict_joins start past m b j within =
    let e : EvictsOnly m.words (evicted m.words b) b = memory.evict m.words b j.state.memory (word-in start past m b j within) in
    settled_joins start past (Evict b) (λ a. a == b) m (state_after m (Evict b)) j (record {
      no_cut = tt;
      cut = refl;
      since = λ a. refl;
      asked = λ u line. refl;
      stays = e.stays;
      none = refl;
      count = refl;
      quiet = λ a x. refl;
      cached = e.cached;
      durable = e.durable;
      long = length-set m.since b m.count;
      moments = λ a inside. set_word m.since b m.count a (omega (arith, j.state.dated, j.size));
      same_asks = refl;
    })

-- the words that an ask saves
line_word : (words : List ℕ) (line k : ℕ) → k < 8 → slice_index (line_words line words) k ≡ slice_index words (line * 8 + k)
line_word words line k low = get_or-take 8 (drop (line * 8) words) k 0 low ∙ get_or-drop (line * 8) words k 0

ask_joins : (start : List ℕ) (past : List Mark) (m : State) (w line : ℕ) → Joins start past m → length past < 2 ^ 64 - 1 → w ≤ MAX_WORKERS → line * 8 < length start
    → Joins start (Asks w line ∷ past) (state_after m (Asks w line))
ask_joins start past m w line j few worker within =
    let acts = few_asks start past m j few in
    let q : AsksOnly m (after_ask m w line) w line = memory.ask m w line j.state j.fit (omega (arith, acts)) (omega (arith, j.workers)) (word-in start past m (line * 8) j within) in
    record {
      state = q.state;
      fit = j.fit;
      size = j.size;
      workers = length-set m.asks w _ ∙ j.workers;
      count = counted_one m.count acts ∙ ap (λ (n : ℕ). n + 1) j.count ∙ sym (counted-now (Asks w line) past tt);
      dated = j.dated;
      cached = λ a inside. j.cached a inside ∙ sym (cached-now start (Asks w line) past a tt);
      durable = j.durable;
      moments = λ a inside. DateIs-later (Asks w line) past (since past a) (slice_index m.since a) tt refl (j.moments a inside);
      asks = λ u other small. subst (AskIs start (Asks w line ∷ past) u other) (sym (q.asks u other)) (elim (cases_eq u w) [
        | inr ne ↦ rw (other_test u w ne) (kept u other small (rw (other_test w u (λ e. ne (sym e))) refl))
        | inl same ↦ rw (same_test u w same) (elim (cases_eq line other) [
          | inr away ↦ rw (other_test line other away) (kept u other small (rw (same_test w u (sym same), other_test line other away) refl))
          | inl here ↦ rw (same_test line other here) (
            counted_one m.count acts ∙ ap (λ (n : ℕ). n + 1) j.count ∙ sym (counted-newest (Asks w line) past tt) ∙ ap (λ (moment : ℕ). counted (Asks w line ∷ past) (moment + 1)) (sym (now u other same here)),
            rw (now u other same here) (cut-within past),
            rw (now u other same here) (omega arith),
            rw (now u other same here, counted-before (Asks w line) past (length past) tt (omega arith)) (omega (arith, j.count, counted_one m.count acts)),
            λ k low inside.
                line_word m.words.cached line k low ∙ j.cached (line * 8 + k) (omega (arith, here, inside))
                ∙ ap (λ (l : ℕ). cached_at start past (length past) (l * 8 + k)) here
                ∙ ap (λ (moment : ℕ). cached_at start past moment (other * 8 + k)) (sym (now u other same here)),
          )
        ])
      ]);
    }
  where
    now : (u other : ℕ) → u ≡ w → line ≡ other → asked (Asks w line ∷ past) u other ≡ length past
    now u other same here = rw (same_test w u (sym same), same_test line other here) refl

    kept : (u other : ℕ) → u ≤ MAX_WORKERS → asked (Asks w line ∷ past) u other ≡ asked past u other → AskIs start (Asks w line ∷ past) u other (ask_for (asks_of m u) other)
    kept u other small same = AskIs-later start (Asks w line) past u other (ask_for (asks_of m u) other) tt refl same (j.asks u other small)

-- a word after a fence
record IsFenced (start : List ℕ) (past : List Mark) (w a word date : ℕ) : Type 0 where
  word_is : word ≡ cached_at start past (max (since past a) (asked past w (a / 8))) a
  date_is : DateIs past (max (since past a) (asked past w (a / 8))) date

-- where the date of a word is before an ask, so is the moment from which it dates; and where it is not, neither is that
before-ask : (past : List Mark) (since date asked moment : ℕ) → moment ≡ counted past (asked + 1) → cut_at past ≤ asked → date < moment → DateIs past since date → since ≤ asked
before-ask past since date asked moment is cut lt (inr none) = omega (arith, none.0)
before-ask past since date asked moment is cut lt (inl dated) = elim (cases_lt asked since) [
  | inl late ↦ absurd (omega (arith, dated.1, counted-rises past (asked + 1) (since + 1) (omega (arith, late))))
  | inr early ↦ early
]

after-ask : (past : List Mark) (since date asked moment : ℕ) → counted past asked < moment → moment ≤ date → DateIs past since date → asked ≤ since
after-ask past since date asked moment before ge (inr none) = absurd (omega (arith, none.1))
after-ask past since date asked moment before ge (inl dated) = elim (cases_lt since asked) [
  | inl early ↦ absurd (omega (arith, dated.1, counted-rises past (since + 1) asked (omega (arith, early))))
  | inr late ↦ late
]

fenced-by : (start : List ℕ) (past : List Mark) (m : State) (w a : ℕ) (q : Option Ask) → Joins start past m → a < length start → AskIs start past w (a / 8) q
    → IsFenced start past w a (fenced_word q (slice_index m.since a) (slice_index m.words.durable a) (a % 8)) (fenced_since q (slice_index m.since a))
fenced-by start past m w a None j within is =
    let same : since past a ≡ max (since past a) (asked past w (a / 8)) = omega arith in
    record {
      word_is = j.durable a within ∙ ap (λ (moment : ℕ). cached_at start past moment a) same;
      date_is = subst (λ (moment : ℕ). DateIs past moment (slice_index m.since a)) same (j.moments a within);
    }
fenced-by start past m w a (Some q) j within is = elim (cases_lt (slice_index m.since a) q.moment) [
  | inl lt ↦
      let test : nat_lt (slice_index m.since a) q.moment ≡ true = grind (arith, nat_tests) in
      let same : asked past w (a / 8) ≡ max (since past a) (asked past w (a / 8)) = omega (arith, before-ask past (since past a) (slice_index m.since a) (asked past w (a / 8)) q.moment is.0 is.1 lt (j.moments a within)) in
      let place : a / 8 * 8 + a % 8 ≡ a = omega arith in
      rw test (record {
        word_is =
            is.4 (a % 8) (omega arith) (omega arith) ∙ ap (cached_at start past (asked past w (a / 8))) place ∙ ap (λ (moment : ℕ). cached_at start past moment a) same;
        date_is = subst (λ (moment : ℕ). DateIs past moment q.moment) same (inl (is.2, is.0));
      })
  | inr ge ↦
      let test : nat_lt (slice_index m.since a) q.moment ≡ false = grind (arith, nat_tests) in
      let same : since past a ≡ max (since past a) (asked past w (a / 8)) = omega (arith, after-ask past (since past a) (slice_index m.since a) (asked past w (a / 8)) q.moment is.3 ge (j.moments a within)) in
      rw test (record {
        word_is = j.durable a within ∙ ap (λ (moment : ℕ). cached_at start past moment a) same;
        date_is = subst (λ (moment : ℕ). DateIs past moment (slice_index m.since a)) same (j.moments a within);
      })
]

fence_joins : (start : List ℕ) (past : List Mark) (m : State) (w : ℕ) → Joins start past m → length past < 2 ^ 64 - 1 → w ≤ MAX_WORKERS → Joins start (Fence w ∷ past) (state_after m (Fence w))
fence_joins start past m w j few worker =
    let f : FencesOnly m (after_fence m w) w = memory.fence m w j.state (omega (arith, j.workers)) in
    let word = λ (a : ℕ) (within : a < length start). fenced-by start past m w a (ask_for (asks_of m w) (a / 8)) j within (j.asks w (a / 8) worker) in
    record {
      state = f.state;
      fit = f.stays.fit j.fit;
      size = f.stays.durable ∙ j.size;
      workers = length-set m.asks w [] ∙ j.workers;
      count = j.count ∙ sym (counted-now (Fence w) past tt ∙ plus_none (counted past (length past)));
      dated = λ a. omega (arith, j.dated a);
      cached = λ a within. j.cached a within ∙ sym (cached-now start (Fence w) past a tt);
      durable = λ a within. f.durable a ∙ (word a within).word_is;
      moments = λ a within. subst (DateIs (Fence w ∷ past) (since (Fence w ∷ past) a)) (sym (f.since a)) (DateIs-later (Fence w) past (since (Fence w ∷ past) a) (fenced_since (ask_for (asks_of m w) (a / 8)) (slice_index m.since a)) tt refl (word a within).date_is);
      asks = λ u line small. subst (λ (qs : List Ask). AskIs start (Fence w ∷ past) u line (ask_for qs line)) (sym (f.asks u)) (elim (cases_eq u w) [
        | inl same ↦ rw (same_test u w same, same_test w u (sym same)) refl
        | inr ne ↦ rw (other_test u w ne) (AskIs-later start (Fence w) past u line (ask_for (asks_of m u) line) tt refl (rw (other_test w u (λ e. ne (sym e))) refl) (j.asks u line small))
      ]);
    }

no_asks : (size acts n w : ℕ) → AreAsks size acts (get_or (replicate n []) w [])
no_asks size acts zero w = tt
no_asks size acts (suc n) zero = tt
no_asks size acts (suc n) (suc w) = no_asks size acts n w

no_line : (n w line : ℕ) → ask_for (get_or (replicate n []) w []) line ≡ None
no_line zero w line = refl
no_line (suc n) zero line = refl
no_line (suc n) (suc w) line = no_line n w line

cut_joins : (start : List ℕ) (past : List Mark) (m : State) → Joins start past m → Joins start (Cut ∷ past) (state_after m Cut)
cut_joins start past m j =
    let c : CutsOnly m.words (after_cut m.words) = memory.cut m.words j.state.memory in
    record {
      state = record {
        memory = c.stays.memory;
        dated = length-replicate (length m.since) 0 ∙ j.state.dated;
        past = λ a. most_replicate (length m.since) 0 a;
        asks = λ w. no_asks (length m.words.durable) 0 (length m.asks) w;
      };
      fit = c.stays.fit j.fit;
      size = j.size;
      workers = length-replicate {A = List Ask} (length m.asks) [] ∙ j.workers;
      count = refl;
      dated = λ a. omega arith;
      cached = λ a within. c.cached a ∙ j.durable a within ∙ sym (cached-cut start past (length (Cut ∷ past)) a (omega arith));
      durable = λ a within. c.durable a ∙ j.durable a within ∙ sym (cached-cut start past (length past + 1) a (omega arith));
      moments = λ a within. inr (refl, get_or-replicate (length m.since) a 0 0 (omega (arith, j.state.dated, j.size)));
      asks = λ w line small. subst (AskIs start (Cut ∷ past) w line) (sym (no_line (length m.asks) w line)) refl;
    }

opened_joins : (start : List ℕ) → IsImage start → Joins start [] (opened start MAX_WORKERS)
opened_joins start image = record {
  state = record {
    memory = record { same = refl; lines = image.lines; size = image.size };
    dated = length-replicate (length start) 0;
    past = λ a. most_replicate (length start) 0 a;
    asks = λ w. no_asks (length start) 0 (MAX_WORKERS + 1) w;
  };
  fit = record { cached = image.fit; durable = image.fit };
  size = refl;
  workers = length-replicate {A = List Ask} (MAX_WORKERS + 1) [];
  count = refl;
  dated = λ a. omega arith;
  cached = λ a within. refl;
  durable = λ a within. refl;
  moments = λ a within. inr (refl, get_or-replicate (length start) a 0 0 within);
  asks = λ w line small. subst (AskIs start [] w line) (sym (no_line (MAX_WORKERS + 1) w line)) refl;
}

-- one mark more
mark_joins : (start : List ℕ) (past : List Mark) (m : State) (mark : Mark) → Joins start past m → length past < 2 ^ 64 - 1 → IsOfMemory (length start) mark → Joins start (mark ∷ past) (state_after m mark)
mark_joins start past m (Store w a v) j few of = store_joins start past m w a v j few of.0 of.1
mark_joins start past m (Cas w a old new found) j few of = cas_joins start past m w a old new found j few of.0 of.1
mark_joins start past m (Asks w line) j few of = ask_joins start past m w line j few of.0 of.1
mark_joins start past m (Fence w) j few of = fence_joins start past m w j few of
mark_joins start past m (Evict a) j few of = evict_joins start past m a j of
mark_joins start past m Cut j few of = cut_joins start past m j
mark_joins start past m mark j few of = stays_so start past m mark tt refl (λ a. refl) (λ w line. refl) refl (λ a x. refl) j

joins : (start : List ℕ) (past : List Mark) → IsImage start → AreOfMemory (length start) past → length past < 2 ^ 64 - 1 → Joins start past (state_after_marks start past)
joins start [] image are few = opened_joins start image
joins start (mark ∷ past) image are few = mark_joins start past (state_after_marks start past) mark (joins start past image are.1 (omega arith)) (omega arith) are.0

pub words_are_by_moments : WordsAreByMoments
words_are_by_moments start past a image are few within =
    let j : Joins start past (state_after_marks start past) = joins start past image are few in
    (j.cached a within, j.durable a within)
