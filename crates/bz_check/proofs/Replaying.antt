-- A replay stays one after each mark.
use Rattle.std.proofs.Common.{◌≡◌, ◌⊎◌, ◌<◌, ◌≤◌, ◌+◌, ◌-◌, ◌*◌, ◌/◌, ◌%◌, ◌^◌, ◌==◌, ◌&&◌, if◌then◌else◌, ℕ, Bool, true, false, zero, suc, List, [], ◌∷◌, ◌++◌, length, slice_index, drop, refl, sym, ap, ◌∙◌, arith, inl, inr}
use Rattle.std.specs.Prelude.{get_or, slice_set, replicate, max}
use Rattle.std.specs.List.{AllByRecursion}
use Rattle.std.proofs.lemmas.Bool.{cases_eq, cases_lt}
use Rattle.std.proofs.lemmas.List.{get_or-set_same, get_or-set_other, get_or-replicate, get_or-take, get_or-drop, length-set, length-take, length-drop, length-replicate, ext_get_or}
use Rattle.bz_pm.specs.After.{Dated, line_words, settled_words}
use Rattle.bz_mark.specs.declared.marks.Mark.{Mark}
use Rattle.bz_mark.specs.declared.marks.Mark.TheVariants.{Store, Cas, Ask, Fence, Evict, Cut}
use Rattle.bz_mark.specs.Dates.{cached_at, since, asked, durable_word}
use Rattle.bz_mark.specs.Laws.{IsImage, IsOfMemory, AreOfMemory}
use Rattle.bz_mark.specs.WordsAfter.{words_after_marks, KeepsLength}
use Rattle.bz_mark.proofs.DateLaws.{IsNoCut, changed, cached-before, cached-after, cached-now, cached-cut, asked-within, since-within, either_most}
use Rattle.bz_mark.proofs.Proved as marks
use Rattle.bz_check.specs.declared.asks.Asked.{Asked}
use Rattle.bz_check.specs.Asks.{newest, AreWithin, settled}
use Rattle.bz_check.specs.Kept.{Kept, IsSized, opened, dates_of, with_store, with_ask, with_fence, with_eviction, with_cut, kept_after}
use Rattle.bz_check.specs.Replays.{IsTold, AreTold, Replays}
use Rattle.bz_check.specs.Restored.{IsAt}
use Rattle.bz_check.proofs.Tests.{same_test, other_test}
use Rattle.bz_check.proofs.Settling.{long_word, long_words, long_asks, since_here, since_away, since_in, since_out, word_dates, words_date, HaveValues, asks_date, asks_since, newest-push}
use Rattle.bz_check.proofs.Restoring.{length-restored, restored-word, at_more, at_end, below_more}

-- before a mark but a cut no word dates from later than the marks before it
since_low : (mark : Mark) (past : List Mark) (a : ℕ) → IsNoCut mark → since (mark ∷ past) a ≤ length past
since_low (Fence w) past a go = omega (arith, since-within past a, asked-within past w (a / 8))
since_low (Evict b) past a go = either_most (a == b) (length past) (since past a) (length past) (omega arith) (since-within past a)
since_low Cut past a go = absurd go
since_low mark past a go = since-within past a

-- a mark that leaves the cached value of a word leaves it at every moment
cached_stays : (start : List ℕ) (mark : Mark) (past : List Mark) (moment a : ℕ) → IsNoCut mark → ((x : ℕ) → changed mark a x ≡ x) → cached_at start (mark ∷ past) moment a ≡ cached_at start past moment a
cached_stays start mark past moment a go same = elim (cases_lt (length past) moment) [
  | inl after ↦ cached-after start mark past moment a go after ∙ same (cached_at start past moment a)
  | inr before ↦ cached-before start mark past moment a before
]

told_later : (start : List ℕ) (mark : Mark) (past : List Mark) (cut : ℕ) (qs : List Asked) → AreTold start past cut qs → AreTold start (mark ∷ past) cut qs
told_later start mark past cut [] told = tt
told_later start mark past cut (q ∷ qs) told = (
  record {
    line = told.0.line;
    eight = told.0.eight;
    late = told.0.late;
    within = omega (arith, told.0.within);
    words = λ k lt. told.0.words k lt ∙ sym (cached-before start mark past q.moment (q.line * 8 + k) told.0.within);
  },
  told_later start mark past cut qs told.1,
)

told_more : (start : List ℕ) (past : List Mark) (cut : ℕ) (qs : List Asked) (q : Asked) → AreTold start past cut qs → IsTold start past cut q → AreTold start past cut (qs ++ q ∷ [])
told_more start past cut [] q told one = (one, tt)
told_more start past cut (r ∷ rs) q told one = (told.0, told_more start past cut rs q told.1 one)

within_from : (start : List ℕ) (past : List Mark) (cut size : ℕ) (qs : List Asked) → length start ≡ size → AreTold start past cut qs → AreWithin size qs
within_from start past cut size [] same told = tt
within_from start past cut size (q ∷ qs) same told = (record { line = omega (arith, told.0.line); eight = told.0.eight }, within_from start past cut size qs same told.1)

values_from : (start : List ℕ) (past : List Mark) (cut : ℕ) (qs : List Asked) → AreTold start past cut qs → HaveValues (cached_at start past) cut qs
values_from start past cut [] told = tt
values_from start past cut (q ∷ qs) told = (record { late = told.0.late; words = told.0.words }, values_from start past cut qs told.1)

-- what a mark but a cut makes of a replay, with the moments of before
record Carries (start : List ℕ) (past : List Mark) (mark : Mark) (m n : Kept) : Type 0 where
  no_cut : IsNoCut mark
  cut : n.cut ≡ m.cut
  cached_size : length n.cached ≡ length start
  durable_size : length n.durable ≡ length start
  since_size : length n.since ≡ length start
  workers : length n.asks ≡ 256
  cached : (a : ℕ) → a < length start → slice_index n.cached a ≡ changed mark a (slice_index m.cached a)
  dated : (a : ℕ) → a < length start → slice_index n.durable a ≡ cached_at start past (max (slice_index n.since a) m.cut) a
  since : (a : ℕ) → a < length start → max (slice_index n.since a) m.cut ≡ since (mark ∷ past) a
  asked : (w line : ℕ) → w < 256 → newest (get_or n.asks w []) line ≡ asked (mark ∷ past) w line
  told : (w : ℕ) → AreTold start past m.cut (get_or n.asks w [])
  steady : (a : ℕ) → a < length start → IsAt a n.stored ⊎ ((IsAt a m.stored → IsAt a n.stored) × ((x : ℕ) → changed mark a x ≡ x))
  stored : AllByRecursion (λ (a : ℕ). a < length start) n.stored

carried : (start : List ℕ) (past : List Mark) (mark : Mark) (m n : Kept) → Replays start past m → Carries start past mark m n → Replays start (mark ∷ past) n
carried start past mark m n r c = record {
  cached_size = c.cached_size;
  durable_size = c.durable_size;
  since_size = c.since_size;
  workers = c.workers;
  now = omega (arith, r.now, c.cut);
  cached = λ a within. c.cached a within ∙ ap (changed mark a) (r.cached a within) ∙ sym (cached-now start mark past a c.no_cut);
  dated = λ a within. rw c.cut (c.dated a within ∙ sym (cached-before start mark past (max (slice_index n.since a) m.cut) a (omega (arith, c.since a within, since_low mark past a c.no_cut))));
  since = λ a within. rw c.cut (c.since a within);
  asked = c.asked;
  told = λ w. rw c.cut (told_later start mark past m.cut (get_or n.asks w []) (c.told w));
  steady = λ a within. elim (c.steady a within) [
    | inl at ↦ inl at
    | inr kept ↦ elim (r.steady a within) [
      | inl at ↦ inl (kept.0 at)
      | inr same ↦ inr (λ moment late. cached_stays start mark past moment a c.no_cut kept.1 ∙ same moment (omega (arith, late, c.cut)) ∙ sym (c.cached a within ∙ kept.1 (slice_index m.cached a)))
    ]
  ];
  stored = c.stored;
}

-- a mark that is no act of the memory
stays : (start : List ℕ) (past : List Mark) (mark : Mark) (m : Kept) → Replays start past m → IsNoCut mark → ((a x : ℕ) → changed mark a x ≡ x) → ((a : ℕ) → since (mark ∷ past) a ≡ since past a)
    → ((w line : ℕ) → asked (mark ∷ past) w line ≡ asked past w line) → Replays start (mark ∷ past) m
stays start past mark m r go same dates lines = carried start past mark m m r (record {
  no_cut = go;
  cut = refl;
  cached_size = r.cached_size;
  durable_size = r.durable_size;
  since_size = r.since_size;
  workers = r.workers;
  cached = λ a within. sym (same a (slice_index m.cached a));
  dated = r.dated;
  since = λ a within. r.since a within ∙ sym (dates a);
  asked = λ w line few. r.asked w line few ∙ sym (lines w line);
  told = r.told;
  steady = λ a within. inr (λ h. h, same a);
  stored = r.stored;
})

-- a store, also that of a compare-and-swap
set_word : (words : List ℕ) (b v a : ℕ) → b < length words → slice_index (slice_set words b v) a ≡ (if a == b then v else slice_index words a)
set_word words b v a lt = elim (cases_eq a b) [
  | inl e ↦ rw (same_test a b e, e) (get_or-set_same words b v 0 lt)
  | inr ne ↦ rw (other_test a b ne) (get_or-set_other words b a v 0 ne)
]

stores : (start : List ℕ) (past : List Mark) (mark : Mark) (m : Kept) (b v : ℕ) → Replays start past m → b < length start → IsNoCut mark → ((a x : ℕ) → changed mark a x ≡ (if a == b then v else x))
    → ((a : ℕ) → since (mark ∷ past) a ≡ since past a) → ((w line : ℕ) → asked (mark ∷ past) w line ≡ asked past w line) → Replays start (mark ∷ past) (with_store m b v)
stores start past mark m b v r lt go is dates lines = carried start past mark m (with_store m b v) r (record {
  no_cut = go;
  cut = refl;
  cached_size = length-set m.cached b v ∙ r.cached_size;
  durable_size = r.durable_size;
  since_size = r.since_size;
  workers = r.workers;
  cached = λ a within. set_word m.cached b v a (omega (arith, r.cached_size)) ∙ sym (is a (slice_index m.cached a));
  dated = r.dated;
  since = λ a within. r.since a within ∙ sym (dates a);
  asked = λ w line few. r.asked w line few ∙ sym (lines w line);
  told = r.told;
  steady = λ a within. elim (cases_eq a b) [
    | inl e ↦ inl (at_end a b m.stored e)
    | inr ne ↦ inr (at_more a b m.stored, λ x. is a x ∙ rw (other_test a b ne) refl)
  ];
  stored = below_more (length start) b m.stored lt r.stored;
})

and_true : (s : Bool) (v x : ℕ) → (if (s && true) then v else x) ≡ (if s then v else x)
and_true true v x = refl
and_true false v x = refl

and_false : (s : Bool) (v x : ℕ) → (if (s && false) then v else x) ≡ x
and_false true v x = refl
and_false false v x = refl

cas_replays : (start : List ℕ) (past : List Mark) (m : Kept) (w b old new found : ℕ) → Replays start past m → b < length start → Replays start (Cas w b old new found ∷ past) (if found == old then with_store m b new else m)
cas_replays start past m w b old new found r lt = elim (cases_eq found old) [
  | inl e ↦ rw (same_test found old e) (stores start past (Cas w b old new found) m b new r lt tt (λ a x. rw (same_test found old e) (and_true (a == b) new x)) (λ a. refl) (λ u line. refl))
  | inr ne ↦ rw (other_test found old ne) (stays start past (Cas w b old new found) m r tt (λ a x. rw (other_test found old ne) (and_false (a == b) new x)) (λ a. refl) (λ u line. refl))
]

-- the eight words of a line
length-line_words : (words : List ℕ) (line : ℕ) → line * 8 + 8 ≤ length words → length (line_words line words) ≡ 8
length-line_words words line fits = omega (arith, length-take 8 (drop (line * 8) words), length-drop (line * 8) words)

word-line_words : (words : List ℕ) (line k : ℕ) → k < 8 → slice_index (line_words line words) k ≡ slice_index words (line * 8 + k)
word-line_words words line k lt = get_or-take 8 (drop (line * 8) words) k 0 lt ∙ get_or-drop (line * 8) words k 0

-- durable words and dates change alone
redated : (start : List ℕ) (past : List Mark) (mark : Mark) (m : Kept) (d : Dated) → Replays start past m → IsNoCut mark → ((a x : ℕ) → changed mark a x ≡ x) → length d.durable ≡ length m.durable → length d.since ≡ length m.since
    → ((a : ℕ) → a < length start → slice_index d.durable a ≡ cached_at start past (max (slice_index d.since a) m.cut) a) → ((a : ℕ) → a < length start → max (slice_index d.since a) m.cut ≡ since (mark ∷ past) a)
    → (asks : List (List Asked)) → length asks ≡ 256 → ((w line : ℕ) → w < 256 → newest (get_or asks w []) line ≡ asked (mark ∷ past) w line) → ((w : ℕ) → AreTold start past m.cut (get_or asks w []))
    → Replays start (mark ∷ past) (record m { durable = d.durable; since = d.since; asks = asks })
redated start past mark m d r go same long late dated dates asks workers lines told = carried start past mark m (record m { durable = d.durable; since = d.since; asks = asks }) r (record {
  no_cut = go;
  cut = refl;
  cached_size = r.cached_size;
  durable_size = long ∙ r.durable_size;
  since_size = late ∙ r.since_size;
  workers = workers;
  cached = λ a within. sym (same a (slice_index m.cached a));
  dated = dated;
  since = dates;
  asked = lines;
  told = told;
  steady = λ a within. inr (λ h. h, same a);
  stored = r.stored;
})

line_fits : (line size : ℕ) → size % 8 ≡ 0 → line * 8 < size → line * 8 + 8 ≤ size
line_fits line size whole lt = omega arith

evict_replays : (start : List ℕ) (past : List Mark) (m : Kept) (b : ℕ) → Replays start past m → b < length start → Replays start (Evict b ∷ past) (with_eviction m (length past) b)
evict_replays start past m b r lt =
    let long = long_word b (length past) (slice_index m.cached b) (dates_of m) in
    redated start past (Evict b) m (settled_words b (length past) (slice_index m.cached b ∷ []) (dates_of m)) r tt (λ a x. refl) long.durable long.since
    (λ a within. word_dates (cached_at start past) m.cut b (length past) (slice_index m.cached b) (dates_of m) a (omega (arith, r.durable_size)) (r.since_size ∙ sym r.durable_size) r.now (r.cached b lt) (r.dated a within))
    (λ a within. elim (cases_eq a b) [
      | inl e ↦
          let one = since_here b (length past) (slice_index m.cached b) (dates_of m) (omega (arith, r.since_size)) in
          rw (same_test a b e, e) (omega (arith, one, r.since b lt, since-within past b))
      | inr ne ↦
          let one = since_away b (length past) (slice_index m.cached b) (dates_of m) a ne in
          rw (other_test a b ne) (omega (arith, one, r.since a within))
    ])
    m.asks r.workers r.asked r.told

-- asks
ask_replays : (start : List ℕ) (past : List Mark) (m : Kept) (w line : ℕ) → Replays start past m → length start % 8 ≡ 0 → line * 8 < length start → w < 256 → Replays start (Ask w line ∷ past) (with_ask m (length past) w line)
ask_replays start past m w line r whole lt few =
    let fits : line * 8 + 8 ≤ length start = line_fits line (length start) whole lt in
    let q : Asked = record { line = line; moment = length past; words = line_words line m.cached } in
    let qs : List Asked = get_or m.asks w [] in
    let one : IsTold start past m.cut q = record {
      line = fits;
      eight = length-line_words m.cached line (omega (arith, r.cached_size));
      late = r.now;
      within = omega arith;
      words = λ k small. word-line_words m.cached line k small ∙ r.cached (line * 8 + k) (omega arith);
    } in
    redated start past (Ask w line) m (dates_of m) r tt (λ a x. refl) refl refl r.dated r.since (slice_set m.asks w (qs ++ q ∷ [])) (length-set m.asks w (qs ++ q ∷ []) ∙ r.workers)
    (λ u other small. elim (cases_eq u w) [
      | inl e ↦ rw (e, get_or-set_same m.asks w (qs ++ q ∷ []) [] (omega (arith, r.workers)), newest-push qs q other, same_test w w refl) (elim (cases_eq line other) [
        | inl here ↦ rw (same_test line other here) (omega (arith, r.asked w other few, asked-within past w other))
        | inr away ↦ rw (other_test line other away) (r.asked w other few)
      ])
      | inr ne ↦ rw (get_or-set_other m.asks w u (qs ++ q ∷ []) [] ne, other_test w u (λ e. ne (sym e))) (r.asked u other small)
    ])
    (λ u. elim (cases_eq u w) [
      | inl e ↦ rw (e, get_or-set_same m.asks w (qs ++ q ∷ []) [] (omega (arith, r.workers))) (told_more start past m.cut qs q (r.told w) one)
      | inr ne ↦ rw (get_or-set_other m.asks w u (qs ++ q ∷ []) [] ne) (r.told u)
    ])

fence_replays : (start : List ℕ) (past : List Mark) (m : Kept) (w : ℕ) → Replays start past m → w < 256 → Replays start (Fence w ∷ past) (with_fence m w)
fence_replays start past m w r few =
    let qs : List Asked = get_or m.asks w [] in
    let long = long_asks qs (dates_of m) in
    let here : w < length m.asks = omega (arith, r.workers) in
    redated start past (Fence w) m (settled qs (dates_of m)) r tt (λ a x. refl) long.durable long.since
    (λ a within. asks_date qs (cached_at start past) m.cut (dates_of m) a (within_from start past m.cut (length m.durable) qs (sym r.durable_size) (r.told w)) (r.since_size ∙ sym r.durable_size)
    (values_from start past m.cut qs (r.told w)) (r.dated a within))
    (λ a within.
    let one = asks_since qs (dates_of m) a (within_from start past m.cut (length m.since) qs (sym r.since_size) (r.told w)) in
    omega (arith, one, r.since a within, r.asked w (a / 8) few))
    (slice_set m.asks w []) (length-set m.asks w [] ∙ r.workers)
    (λ u line small. elim (cases_eq u w) [
      | inl e ↦ rw (e, get_or-set_same m.asks w [] [] here, same_test w w refl) refl
      | inr ne ↦ rw (get_or-set_other m.asks w u [] [] ne, other_test w u (λ e. ne (sym e))) (r.asked u line small)
    ])
    (λ u. elim (cases_eq u w) [
      | inl e ↦ rw (e, get_or-set_same m.asks w [] [] here) tt
      | inr ne ↦ rw (get_or-set_other m.asks w u [] [] ne) (r.told u)
    ])

-- no worker asked for anything
newest_none : (n w line : ℕ) → newest (get_or (replicate n []) w []) line ≡ 0
newest_none zero w line = refl
newest_none (suc n) zero line = refl
newest_none (suc n) (suc w) line = newest_none n w line

told_none : (start : List ℕ) (past : List Mark) (cut n w : ℕ) → AreTold start past cut (get_or (replicate n []) w [])
told_none start past cut zero w = tt
told_none start past cut (suc n) zero = tt
told_none start past cut (suc n) (suc w) = told_none start past cut n w

cut_replays : (start : List ℕ) (past : List Mark) (m : Kept) → Replays start past m → Replays start (Cut ∷ past) (with_cut m (length past))
cut_replays start past m r =
    let left : (a : ℕ) → a < length start → slice_index m.durable a ≡ durable_word start past a = λ a within. r.dated a within ∙ ap (λ (n : ℕ). cached_at start past n a) (r.since a within) in
    let same : (a : ℕ) → a < length start → IsAt a m.stored ⊎ (slice_index m.cached a ≡ slice_index m.durable a) = λ a within. elim (r.steady a within) [
      | inl at ↦ inl at
      | inr stays ↦ inr (sym (stays (max (slice_index m.since a) m.cut) (omega arith)) ∙ sym (r.dated a within))
    ] in
    let word : (a : ℕ) → a < length start → slice_index (with_cut m (length past)).cached a ≡ durable_word start past a =
    λ a within. restored-word m.stored m.cached m.durable a (omega (arith, r.cached_size)) (same a within) ∙ left a within in
    record {
      cached_size = length-restored m.stored m.cached m.durable ∙ r.cached_size;
      durable_size = r.durable_size;
      since_size = r.since_size;
      workers = length-replicate {A = List Asked} (length m.asks) [] ∙ r.workers;
      now = omega arith;
      cached = λ a within. word a within ∙ sym (cached-cut start past (length (Cut ∷ past)) a (omega arith));
      dated = λ a within. left a within ∙ sym (cached-cut start past (max (slice_index m.since a) (length past + 1)) a (omega arith));
      since = λ a within. omega (arith, r.since a within, since-within past a);
      asked = λ w line few. newest_none (length m.asks) w line;
      told = λ w. told_none start (Cut ∷ past) (length past + 1) (length m.asks) w;
      steady = λ a within. inr (λ moment late. cached-cut start past moment a (omega arith) ∙ sym (word a within));
      stored = tt;
    }

pub opened_replays : (start : List ℕ) → Replays start [] (opened start)
opened_replays start = record {
  cached_size = refl;
  durable_size = refl;
  since_size = length-replicate (length start) 0;
  workers = length-replicate {A = List Asked} 256 [];
  now = omega arith;
  cached = λ a within. refl;
  dated = λ a within. refl;
  since = λ a within. omega (arith, get_or-replicate {A = ℕ} (length start) a 0 0 within);
  asked = λ w line few. newest_none 256 w line;
  told = λ w. told_none start [] 0 256 w;
  steady = λ a within. inr (λ moment late. refl);
  stored = tt;
}

-- one mark more
pub replays_more : (start : List ℕ) (past : List Mark) (m : Kept) (mark : Mark) → Replays start past m → length start % 8 ≡ 0 → IsOfMemory (length start) mark → Replays start (mark ∷ past) (kept_after m (length past) mark)
replays_more start past m (Store w a v) r whole of = stores start past (Store w a v) m a v r of.0 tt (λ b x. refl) (λ b. refl) (λ u line. refl)
replays_more start past m (Cas w a old new found) r whole of = cas_replays start past m w a old new found r of.0
replays_more start past m (Ask w line) r whole of = ask_replays start past m w line r whole of.1 (omega (arith, of.0))
replays_more start past m (Fence w) r whole of = fence_replays start past m w r (omega (arith, of))
replays_more start past m (Evict a) r whole of = evict_replays start past m a r of
replays_more start past m Cut r whole of = cut_replays start past m r
replays_more start past m mark r whole of = stays start past mark m r tt (λ a x. refl) (λ a. refl) (λ w line. refl)

-- it has the sizes that the replay asks for
pub sized : (start : List ℕ) (past : List Mark) (m : Kept) → Replays start past m → length start % 8 ≡ 0 → IsSized m
sized start past m r whole = record {
  lines = rw r.cached_size whole;
  durable = r.durable_size ∙ sym r.cached_size;
  since = r.since_size ∙ sym r.cached_size;
  workers = r.workers;
  asks = λ w. within_from start past m.cut (length m.cached) (get_or m.asks w []) (sym r.cached_size) (r.told w);
  stored = rw r.cached_size r.stored;
}

-- its words are those of the memory after the marks
pub cached_is : (start : List ℕ) (past : List Mark) (m : Kept) → Replays start past m → IsImage start → AreOfMemory (length start) past → length past < 2 ^ 64 - 1 → m.cached ≡ (words_after_marks start past).cached
cached_is start past m r image are few =
    let long : KeepsLength start (words_after_marks start past) = marks.lengths_stay start past in
    ext_get_or 0 m.cached (words_after_marks start past).cached (r.cached_size ∙ sym long.cached)
    (λ a within. r.cached a (omega (arith, r.cached_size)) ∙ sym (marks.words_are_by_moments start past a image are few (omega (arith, r.cached_size))).0)

pub durable_is : (start : List ℕ) (past : List Mark) (m : Kept) → Replays start past m → IsImage start → AreOfMemory (length start) past → length past < 2 ^ 64 - 1 → m.durable ≡ (words_after_marks start past).durable
durable_is start past m r image are few =
    let long : KeepsLength start (words_after_marks start past) = marks.lengths_stay start past in
    ext_get_or 0 m.durable (words_after_marks start past).durable (r.durable_size ∙ sym long.durable)
    (λ a within. r.dated a (omega (arith, r.durable_size)) ∙ ap (λ (n : ℕ). cached_at start past n a) (r.since a (omega (arith, r.durable_size))) ∙ sym (marks.words_are_by_moments start past a image are few (omega (arith, r.durable_size))).1)
