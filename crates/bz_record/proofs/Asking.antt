-- A metadata word that was in use, or the next one, can be named by a swap at every later moment.
use Rattle.std.proofs.Common.{◌≡◌, ◌≢◌, ℕ, zero, suc, ◌+◌, ◌-◌, ◌^◌, ◌<◌, ◌≤◌, true, [], ◌∷◌, arith, refl, sym, ap, subst, ◌∙◌, inl, inr}
use Rattle.std.proofs.lemmas.Bool.{cases_lt}
use Rattle.std.proofs.lemmas.List.Elements.{All-cons}
use Rattle.bz_layout.specs.declared.config.Config.{Config}
use Rattle.bz_layout.specs.declared.sizes.TheConstants.{HEADER_AT, STATUS_AT, META_AT, SHARED_WORDS, NODE_WORDS}
use Rattle.bz_slotted.specs.Page.{page}
use Rattle.bz_slotted.specs.Whole.{Whole}
use Rattle.bz_slotted.proofs.Proved.{leaf_rules_are_facts}
use Rattle.bz_word.specs.Headers.{header}
use Rattle.bz_word.specs.Statuses.{status}
use Rattle.bz_content.specs.Image.{node}
use Rattle.bz_task.specs.Good.{IsGood}
use Rattle.bz_task.specs.Instant.{Instant, words, durable, page_at, form_at}
use Rattle.bz_task.specs.Laws.{AreMoments, WasInside, IsLeafInTree}
use Rattle.bz_task.specs.Requests.{IsMetaPlace, IsEntryToAsk}
use Rattle.bz_task.specs.Scene.{Scene, IsScene, here}
use Rattle.bz_task.specs.Shown.{SameWords}
use Rattle.bz_task.specs.Steps.{IsStep, Moves}
use Rattle.bz_task.proofs.Proved.{fronts_stay, leaves_are_in_trees, nodes_were_inside, ranges_stay}
use Rattle.bz_record.specs.Laws.{IsPlaceIn, RecordSwapsMayBeAsked}
use Rattle.bz_record.specs.Leaves.{WasLeafThen}
use Rattle.bz_record.specs.Swaps.{status_entry, meta_entry}
use Rattle.bz_record.specs.declared.record_swap.RecordSwap.{RecordSwap}

climb : (P : ℕ → Type 0) (m last : ℕ) → P m → ((i : ℕ) → m ≤ i → i < last → P i → P (i + 1)) → (n : ℕ) → m + n ≤ last → P (m + n)
climb P m last base step zero le = let e : m ≡ m + 0 = omega arith in subst P e base
climb P m last base step (suc n) le =
    let e : m + n + 1 ≡ m + suc n = omega arith in
    subst P e (step (m + n) (omega arith) (omega arith) (climb P m last base step n (omega arith)))

walk : (P : ℕ → Type 0) (m last : ℕ) → P m → ((i : ℕ) → m ≤ i → i < last → P i → P (i + 1)) → (j : ℕ) → m ≤ j → j ≤ last → P j
walk P m last base step j from to =
    let e : m + (j - m) ≡ j = omega arith in
    subst P e (climb P m last base step (j - m) (omega arith))

-- a node has no fewer records than it had; while it has as many, a free word stays free
record Grown (c : Config) (x y : Instant) (k : ℕ) : Type 0 where
  reached : y.reached k ≡ true
  count : (page_at c x k).count ≤ (page_at c y k).count
  spare : (page_at c y k).count ≡ (page_at c x k).count → (page_at c x k).count + (page_at c x k).block < SHARED_WORDS → (page_at c y k).count + (page_at c y k).block < SHARED_WORDS

grown-same : (c : Config) (x y z : Instant) (k : ℕ) → z.reached k ≡ true → SameWords (words c y k) (words c z k) → Grown c x y k → Grown c x z k
grown-same c x y z k r s g =
    let e : words c z k STATUS_AT ≡ words c y k STATUS_AT = s STATUS_AT (inl (omega arith)) in
    let count : (page_at c z k).count ≡ (page_at c y k).count = ap (λ w. (status w).count) e in
    let block : (page_at c z k).block ≡ (page_at c y k).block = ap (λ w. (status w).block) e in
    record { reached = r; count = omega (arith, g.count, count); spare = λ q l. omega (arith, count, block, g.spare (sym count ∙ q) l) }

grown-moved : (c : Config) (x y z : Instant) (k : ℕ) → z.reached k ≡ true → Moves (words c y k) (words c z k) → Grown c x y k → Grown c x z k
grown-moved c x y z k r m g = record {
  reached = r;
  count = omega (arith, g.count, m.count);
  spare = λ q l.
      let back : (page_at c y k).count ≡ (page_at c x k).count = omega (arith, g.count, m.count, q) in
      m.spare (q ∙ sym back) (g.spare back l);
}

grown-step : (c : Config) (x y z : Instant) (k : ℕ) → IsStep c y z → Grown c x y k → Grown c x z k
grown-step c x y z k (inl q) g = grown-same c x y z k (q.reached k ∙ g.reached) (q.nodes k g.reached) g
grown-step c x y z k (inr e) g = elim (e.nodes k g.reached) [
  | inl s ↦ grown-same c x y z k (e.reached k g.reached) s g
  | inr m ↦ grown-moved c x y z k (e.reached k g.reached) m g
]

module _ (s : Scene) (k st moment : ℕ) (good : IsScene s) (w : WasLeafThen k st moment s.past) where
  moments : AreMoments s.past.since s.past.now moment s.past.now
  moments = record { since = w.since; order = w.now; until = omega arith }

  below : k ≢ s.past.config.nodes
  below e = omega (arith, e, w.slot)

  reached-then : (s.past.at moment).reached k ≡ true
  reached-then = (good.history.good moment w.since w.now).inside k w.inside below

  pub still-reached : (here s).reached k ≡ true
  still-reached = (fronts_stay s.past.config s.past.at s.past.since s.past.now moment s.past.now k good.history moments reached-then).reached

  grown : Grown s.past.config (s.past.at moment) (here s) k
  grown =
      walk (λ i. Grown s.past.config (s.past.at moment) (s.past.at i) k) moment s.past.now (record { reached = reached-then; count = omega arith; spare = λ q l. l })
      (λ i from to g. grown-step s.past.config (s.past.at moment) (s.past.at i) (s.past.at (i + 1)) k (good.history.step i (omega (arith, w.since, from)) to) g) s.past.now w.now (omega arith)

  was : WasInside s.past.config s.past.at moment s.past.now k
  was = nodes_were_inside s.past.config s.past.at s.past.since s.past.now moment s.past.now k good.history moments below w.inside

  good-was : IsGood s.past.config (s.past.at was.was)
  good-was = good.history.good was.was (omega (arith, w.since, was.since)) was.until

  leaf-was : IsLeafInTree s.past.config (s.past.at was.was) k
  leaf-was =
      let o : AreMoments s.past.since s.past.now moment was.was = record { since = w.since; order = was.since; until = was.until } in
      leaves_are_in_trees s.past.config (s.past.at was.was) k good-was w.slot was.inside ((ranges_stay s.past.config s.past.at s.past.since s.past.now moment was.was k good.history o below w.inside was.inside).level ∙ w.leaf)

  whole-was : Whole (node s.past.config (s.past.at was.was).image k) (page (durable s.past.config (s.past.at was.was) k)) ((form_at s.past.config (s.past.at was.was)).low k) ((form_at s.past.config (s.past.at was.was)).high k)
  whole-was = (leaf_rules_are_facts s.past.config.nodes (node s.past.config (s.past.at was.was).image k) (durable s.past.config (s.past.at was.was) k) _ _).0 leaf-was.whole

  room-was : (page_at s.past.config (s.past.at was.was) k).count + (page_at s.past.config (s.past.at was.was) k).block ≤ SHARED_WORDS
  room-was = subst (λ z. (status z).count + (status z).block ≤ SHARED_WORDS) (good-was.shown k STATUS_AT leaf-was.reached (inl (omega arith))) whole-was.filled.room

  room : (page_at s.past.config (here s) k).count + (page_at s.past.config (here s) k).block ≤ SHARED_WORDS
  room = omega (arith, room-was, was.same.count, was.same.block)

  then-count : (page_at s.past.config (s.past.at moment) k).count ≡ (status st).count
  then-count = ap (λ z. (status z).count) w.was

  then-block : (page_at s.past.config (s.past.at moment) k).block ≡ (status st).block
  then-block = ap (λ z. (status z).block) w.was

  flat : (page_at s.past.config (here s) k).level ≡ 0
  flat = ap (λ z. (header z).level) (was.same.words HEADER_AT (λ e. omega (arith, e)) (inl (omega arith))) ∙ leaf-was.flat

  pub meta-place : (place : ℕ) → IsPlaceIn st place → IsMetaPlace (page_at s.past.config (here s) k) (META_AT + place)
  meta-place place (inl h) = record { leaf = flat; from = omega arith; to = omega (arith, h, then-count, grown.count); free = omega (arith, h, then-count, grown.count, room) }
  meta-place place (inr h) = record {
    leaf = flat;
    from = omega arith;
    to = omega (arith, h.0, then-count, grown.count);
    free = elim (cases_lt place (page_at s.past.config (here s) k).count) [
      | inl l ↦ omega (arith, l, room)
      | inr l ↦ (
          let same : (page_at s.past.config (here s) k).count ≡ (page_at s.past.config (s.past.at moment) k).count = omega (arith, l, h.0, then-count, grown.count) in
          let free : (page_at s.past.config (here s) k).count + (page_at s.past.config (here s) k).block < SHARED_WORDS = grown.spare same (omega (arith, h.1, then-count, then-block)) in
          omega (arith, free, h.0, same, then-count))
    ];
  }

module _ (s : Scene) (w : RecordSwap) (moment : ℕ) (good : IsScene s) (leaf : WasLeafThen w.slot w.status moment s.past) (place : IsPlaceIn w.status w.place) where
  in-node : META_AT + w.place < NODE_WORDS
  in-node = let p = meta-place s w.slot w.status moment good leaf w.place place in omega (arith, p.free)

  asked-status : w.new_status < 2 ^ 61 → IsEntryToAsk s (status_entry s.past.config w)
  asked-status h = record {
    target = inr (inr (record { slot = w.slot; place = STATUS_AT; address = refl; within = omega arith; reached = still-reached s w.slot w.status moment good leaf; kind = inl refl }));
    expected = leaf.plain;
    new = h;
  }

  asked-meta : w.meta < 2 ^ 61 → w.new_meta < 2 ^ 61 → IsEntryToAsk s (meta_entry s.past.config w)
  asked-meta h l = record {
    target = inr (inr (record {
      slot = w.slot;
      place = META_AT + w.place;
      address = refl;
      within = in-node;
      reached = still-reached s w.slot w.status moment good leaf;
      kind = inr (inl (meta-place s w.slot w.status moment good leaf w.place place));
    }));
    expected = h;
    new = l;
  }

pub may-be-asked : RecordSwapsMayBeAsked
may-be-asked s w moment good leaf place plain meta new =
    All-cons (IsEntryToAsk s) (status_entry s.past.config w) (meta_entry s.past.config w ∷ []) (asked-status s w moment good leaf place plain)
    (All-cons (IsEntryToAsk s) (meta_entry s.past.config w) [] (asked-meta s w moment good leaf place meta new) (λ i d l. absurd (omega (arith, l))))
