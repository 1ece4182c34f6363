-- The memory after marks has the words by moments, and dates them by its count of asks.
use Rattle.std.proofs.Common.{◌⊎◌, ◌≡◌, ◌<◌, ◌≤◌, ◌+◌, ◌-◌, ◌*◌, ◌^◌, ◌==◌, ◌&&◌, if◌then◌else◌, ℕ, Bool, true, false, List, [], ◌∷◌, length, slice_index, refl, sym, ap, ◌∙◌, subst, arith, inl, inr, Option, Some, None}
use Rattle.std.specs.Prelude.{get_or, slice_set}
use Rattle.bz_layout.specs.declared.limits.TheConstants.{MAX_WORKERS}
use Rattle.bz_pm.specs.Words.{Words, IsMemory, HoldsWords}
use Rattle.bz_pm.specs.Acts.{stored}
use Rattle.bz_pm.specs.State.{State, IsState, AreAsks, asks_of, ask_for}
use Rattle.bz_pm.specs.After.{next_moment}
use Rattle.bz_pm.specs.Changes.{StaysMemory, StoresOnly}
use Rattle.bz_pm.specs.declared.asks.Ask.{Ask}
use Rattle.bz_pm.proofs.Proved as memory
use Rattle.bz_mark.specs.declared.marks.Mark.{Mark}
use Rattle.bz_mark.specs.declared.marks.Mark.TheVariants.{Store, Cas}
use Rattle.bz_mark.specs.Dates.{asked, since, cached_at}
use Rattle.bz_mark.specs.WordsAfter.{state_after}
use Rattle.bz_mark.proofs.DateLaws.{IsNoCut, changed, cached-before, cached-now, asked-within, since-within}
use Rattle.bz_mark.proofs.Counting.{counts, counted, cut_at, counted-before, counted-now, counted-few}

-- what a worker asked for of a line, by moments
abbrev pub AskIs : List ℕ → List Mark → ℕ → ℕ → Option Ask → Type 0
AskIs start past w line None = asked past w line ≡ 0
AskIs start past w line (Some q) =
    (q.moment ≡ counted past (asked past w line + 1)) × (cut_at past ≤ asked past w line) × (asked past w line < length past) × (counted past (asked past w line) < q.moment)
    × ((k : ℕ) → k < 8 → line * 8 + k < length start → slice_index q.words k ≡ cached_at start past (asked past w line) (line * 8 + k))

-- the date of a word that dates from a moment: the asks up to the mark at it, or none since the last cut
abbrev pub DateIs : List Mark → ℕ → ℕ → Type 0
DateIs past moment date = ((moment < length past) × (date ≡ counted past (moment + 1))) ⊎ ((moment ≡ cut_at past) × (date ≡ 0))

pub DateIs-later : (mark : Mark) (past : List Mark) (moment date : ℕ) → IsNoCut mark → cut_at (mark ∷ past) ≡ cut_at past → DateIs past moment date → DateIs (mark ∷ past) moment date
DateIs-later mark past moment date go cut (inl is) = inl (omega (arith, is.0), is.1 ∙ sym (counted-before mark past (moment + 1) go (omega (arith, is.0))))
DateIs-later mark past moment date go cut (inr is) = inr (is.0 ∙ sym cut, is.1)

-- the memory after marks, by moments
pub record Joins (start : List ℕ) (past : List Mark) (m : State) : Type 0 where
  pub state : IsState m
  pub fit : HoldsWords m.words
  pub size : length m.words.durable ≡ length start
  pub workers : length m.asks ≡ MAX_WORKERS + 1
  pub count : m.count ≡ counted past (length past)
  pub dated : (a : ℕ) → cut_at past ≤ since past a
  pub cached : (a : ℕ) → a < length start → slice_index m.words.cached a ≡ cached_at start past (length past) a
  pub durable : (a : ℕ) → a < length start → slice_index m.words.durable a ≡ cached_at start past (since past a) a
  pub moments : (a : ℕ) → a < length start → DateIs past (since past a) (slice_index m.since a)
  pub asks : (w line : ℕ) → w ≤ MAX_WORKERS → AskIs start past w line (ask_for (asks_of m w) line)

pub later_asks : (size acts later : ℕ) (qs : List Ask) → acts ≤ later → AreAsks size acts qs → AreAsks size later qs
later_asks size acts later [] le are = tt
later_asks size acts later (q ∷ qs) le are =
    (record { line = are.0.line; moment = omega (arith, are.0.moment); eight = are.0.eight; fit = are.0.fit }, are.1, later_asks size acts later qs le are.2)

-- a memory stays one whose past is one where it has the same asks and no date is of later than now
pub state-by : (m n : State) → IsState m → StaysMemory m.words n.words → length n.since ≡ length m.since → ((a : ℕ) → slice_index n.since a ≤ n.count) → m.count ≤ n.count → n.asks ≡ m.asks → IsState n
state-by m n i stays long past le same = record {
  memory = stays.memory;
  dated = long ∙ i.dated ∙ sym stays.durable;
  past = past;
  asks = λ w. subst (λ (qs : List Ask). AreAsks (length n.words.durable) n.count qs) (ap (λ (all : List (List Ask)). get_or all w []) (sym same))
      (subst (λ (size : ℕ). AreAsks size n.count (get_or m.asks w [])) (sym stays.durable) (later_asks (length m.words.durable) m.count n.count (get_or m.asks w []) le (i.asks w)));
}

-- one ask more is counted, while there are few
pub counted_one : (n : ℕ) → n < 2 ^ 64 - 1 → next_moment n ≡ n + 1
counted_one n few = omega arith

-- asks stay where the worker's asks do and no older moment changes
pub AskIs-later : (start : List ℕ) (mark : Mark) (past : List Mark) (w line : ℕ) (q : Option Ask) → IsNoCut mark → cut_at (mark ∷ past) ≡ cut_at past → asked (mark ∷ past) w line ≡ asked past w line → AskIs start past w line q
    → AskIs start (mark ∷ past) w line q
AskIs-later start mark past w line None go cut same is = same ∙ is
AskIs-later start mark past w line (Some q) go cut same is = (
  is.0 ∙ sym (counted-before mark past (asked past w line + 1) go (omega (arith, is.2))) ∙ ap (λ (moment : ℕ). counted (mark ∷ past) (moment + 1)) (sym same),
  rw (cut, same) is.1,
  rw same (omega (arith, is.2)),
  rw (same, counted-before mark past (asked past w line) go (asked-within past w line)) is.3,
  λ k low within.
      is.4 k low within ∙ sym (cached-before start mark past (asked past w line) (line * 8 + k) (asked-within past w line))
      ∙ ap (λ (moment : ℕ). cached_at start (mark ∷ past) moment (line * 8 + k)) (sym same),
)

-- an act that changes neither durable words nor asks
pub record Moves (start : List ℕ) (past : List Mark) (mark : Mark) (m n : State) : Type 0 where
  pub no_cut : IsNoCut mark
  pub cut : cut_at (mark ∷ past) ≡ cut_at past
  pub since : (a : ℕ) → since (mark ∷ past) a ≡ since past a
  pub asked : (w line : ℕ) → asked (mark ∷ past) w line ≡ asked past w line
  pub stays : StaysMemory m.words n.words
  pub count : n.count ≡ m.count + counts mark
  pub cached : (a : ℕ) → a < length start → slice_index n.words.cached a ≡ changed mark a (slice_index m.words.cached a)
  pub durable : (a : ℕ) → slice_index n.words.durable a ≡ slice_index m.words.durable a
  pub same_since : n.since ≡ m.since
  pub same_asks : n.asks ≡ m.asks

pub moved : (start : List ℕ) (past : List Mark) (mark : Mark) (m n : State) → Joins start past m → Moves start past mark m n → Joins start (mark ∷ past) n
moved start past mark m n j v = record {
  state = state-by m n j.state v.stays (ap (length {A = ℕ}) v.same_since) (λ a. subst (λ (dates : List ℕ). slice_index dates a ≤ n.count) (sym v.same_since) (omega (arith, j.state.past a, v.count))) (omega (arith, v.count)) v.same_asks;
  fit = v.stays.fit j.fit;
  size = v.stays.durable ∙ j.size;
  workers = ap (length {A = List Ask}) v.same_asks ∙ j.workers;
  count = v.count ∙ ap (λ (n : ℕ). n + counts mark) j.count ∙ sym (counted-now mark past v.no_cut);
  dated = λ a. rw (v.cut, v.since a) (j.dated a);
  cached = λ a within. v.cached a within ∙ ap (changed mark a) (j.cached a within) ∙ sym (cached-now start mark past a v.no_cut);
  durable = λ a within.
      v.durable a ∙ j.durable a within ∙ sym (cached-before start mark past (since past a) a (since-within past a)) ∙ ap (λ (moment : ℕ). cached_at start (mark ∷ past) moment a) (sym (v.since a));
  moments = λ a within. subst (λ (dates : List ℕ). DateIs (mark ∷ past) (since (mark ∷ past) a) (slice_index dates a)) (sym v.same_since)
      (subst (λ (moment : ℕ). DateIs (mark ∷ past) moment (slice_index m.since a)) (sym (v.since a)) (DateIs-later mark past (since past a) (slice_index m.since a) v.no_cut v.cut (j.moments a within)));
  asks = λ w line few. subst (λ (all : List (List Ask)). AskIs start (mark ∷ past) w line (ask_for (get_or all w []) line)) (sym v.same_asks)
      (AskIs-later start mark past w line (ask_for (asks_of m w) line) v.no_cut v.cut (v.asked w line) (j.asks w line few));
}

-- a mark that is no act of the memory
pub kept_words : (w : Words) → IsMemory w → StaysMemory w w
kept_words w i = record { cached = refl; durable = refl; memory = i; fit = λ h. h }

pub stays_so : (start : List ℕ) (past : List Mark) (m : State) (mark : Mark) → IsNoCut mark → cut_at (mark ∷ past) ≡ cut_at past → ((a : ℕ) → since (mark ∷ past) a ≡ since past a)
    → ((w line : ℕ) → asked (mark ∷ past) w line ≡ asked past w line) → counts mark ≡ 0 → ((a x : ℕ) → x ≡ changed mark a x) → Joins start past m → Joins start (mark ∷ past) m
stays_so start past m mark go cut dates lines none same j = moved start past mark m m j (record {
  no_cut = go;
  cut = cut;
  since = dates;
  asked = lines;
  stays = kept_words m.words j.state.memory;
  count = omega (arith, none);
  cached = λ a within. same a (slice_index m.words.cached a);
  durable = λ a. refl;
  same_since = refl;
  same_asks = refl;
})

-- addresses, lines and workers are those of the memory
pub word-in : (start : List ℕ) (past : List Mark) (m : State) (n : ℕ) → Joins start past m → n < length start → n < length m.words.cached
word-in start past m n j within = omega (arith, j.state.memory.same, j.size)

pub few_asks : (start : List ℕ) (past : List Mark) (m : State) → Joins start past m → length past < 2 ^ 64 - 1 → m.count < 2 ^ 64 - 1
few_asks start past m j few = omega (arith, j.count, counted-few past)

pub store_joins : (start : List ℕ) (past : List Mark) (m : State) (w b v : ℕ) → Joins start past m → length past < 2 ^ 64 - 1 → b < length start → v < 2 ^ 64 → Joins start (Store w b v ∷ past) (state_after m (Store w b v))
store_joins start past m w b v j few within fits =
    let s : StoresOnly m.words (stored m.words b v) b v = memory.store m.words b v j.state.memory (word-in start past m b j within) fits in
    moved start past (Store w b v) m (state_after m (Store w b v)) j (record {
      no_cut = tt;
      cut = refl;
      since = λ a. refl;
      asked = λ u line. refl;
      stays = s.stays;
      count = omega arith;
      cached = λ a inside. s.cached a;
      durable = s.durable;
      same_since = refl;
      same_asks = refl;
    })

and_true : (s : Bool) (v x : ℕ) → (if s then v else x) ≡ (if (s && true) then v else x)
and_true true v x = refl
and_true false v x = refl

and_false : (s : Bool) (v x : ℕ) → x ≡ (if (s && false) then v else x)
and_false true v x = refl
and_false false v x = refl

-- the words of a compare-and-swap that found what it expected, or did not
abbrev swapped : Words → Bool → ℕ → ℕ → Words
swapped m t b new = record { cached = if t then slice_set m.cached b new else m.cached; durable = m.durable }

swapped-stays : (m : Words) (t : Bool) (b new : ℕ) → IsMemory m → StoresOnly m (stored m b new) b new → StaysMemory m (swapped m t b new)
swapped-stays m true b new i s = s.stays
swapped-stays m false b new i s = kept_words m i

swapped-word : (m : Words) (t : Bool) (b new a : ℕ) → StoresOnly m (stored m b new) b new → slice_index (swapped m t b new).cached a ≡ (if (a == b && t) then new else slice_index m.cached a)
swapped-word m true b new a s = s.cached a ∙ and_true (a == b) new (slice_index m.cached a)
swapped-word m false b new a s = and_false (a == b) new (slice_index m.cached a)

pub cas_joins : (start : List ℕ) (past : List Mark) (m : State) (w b old new found : ℕ) → Joins start past m → length past < 2 ^ 64 - 1 → b < length start → new < 2 ^ 64
    → Joins start (Cas w b old new found ∷ past) (state_after m (Cas w b old new found))
cas_joins start past m w b old new found j few within fits =
    let s : StoresOnly m.words (stored m.words b new) b new = memory.store m.words b new j.state.memory (word-in start past m b j within) fits in
    moved start past (Cas w b old new found) m (state_after m (Cas w b old new found)) j (record {
      no_cut = tt;
      cut = refl;
      since = λ a. refl;
      asked = λ u line. refl;
      stays = swapped-stays m.words (found == old) b new j.state.memory s;
      count = omega arith;
      cached = λ a inside. swapped-word m.words (found == old) b new a s;
      durable = λ a. refl;
      same_since = refl;
      same_asks = refl;
    })
