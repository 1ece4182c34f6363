-- The numbers by which a search goes are those of its leaf.
use Rattle.std.proofs.Common.{◌≡◌, ◌≢◌, ℕ, ◌+◌, ◌<◌, ◌≤◌, if◌then◌else◌, Bool, true, false, List, Some, arith, refl, sym, ap, subst, ◌∙◌, inl}
use Rattle.std.specs.Prelude.{nat_lt, ◌==◌, slice_index, slice_set}
use Rattle.std.specs.declared.cmp.Ordering.{Ordering}
use Rattle.std.specs.declared.cmp.Ordering.TheVariants.{Less, Equal, Greater}
use Rattle.bz_key.specs.Packing.{packed_len}
use Rattle.bz_layout.specs.Addresses.{node_address}
use Rattle.bz_layout.specs.declared.sizes.TheConstants.{NODE_WORDS, STATUS_AT, HEADER_AT, META_AT}
use Rattle.bz_node.specs.Reading.{payload_len}
use Rattle.bz_slotted.specs.Page.{page}
use Rattle.bz_slotted.specs.Whole.{Whole}
use Rattle.bz_slotted.proofs.Proved.{leaf_rules_are_facts}
use Rattle.bz_content.specs.Image.{node}
use Rattle.bz_word.specs.Statuses.{status}
use Rattle.bz_leaf.proofs.Learning.{word-at}
use Rattle.bz_leaf.specs.Facts.{IsLastLink, Reading}
use Rattle.bz_task.specs.Good.{IsGood}
use Rattle.bz_task.specs.Instant.{words, durable, form_at}
use Rattle.bz_task.specs.Laws.{KeepsFront, IsLeafInTree, WasInside}
use Rattle.bz_task.specs.Requests.{Answers, Tells}
use Rattle.bz_task.specs.Scene.{Past, Scene, Stage, Waiting, Took, IsScene, Continues, here}
use Rattle.bz_task.specs.declared.path.Link.{Link}
use Rattle.bz_task.specs.declared.todo.Outcome.TheVariants.{Restart}
use Rattle.bz_task.specs.declared.todo.Seen.{Seen}
use Rattle.bz_task.specs.declared.todo.Seen.TheVariants.{Start, Read as Was, Stored, Flushed, Swapped, NoSwap}
use Rattle.bz_task.specs.declared.todo.Todo.TheVariants.{Read, Finish}
use Rattle.bz_task.proofs.Proved.{fronts_stay, leaves_are_in_trees, nodes_were_inside, ranges_stay}
use Rattle.bz_find.specs.Bounds.{IsSpot, IsStepOf}
use Rattle.bz_find.specs.Duties.{end_of, facts_of}
use Rattle.bz_find.specs.Facts.{HadCounts, GoesByLeaf, StopsIn, IsBounded, Opened, find_bounds, find_counts, find_facts, reads_at}
use Rattle.bz_find.specs.Phases.{find_asks, find_end, phase_after, search_of, told, counted}
use Rattle.bz_find.specs.Steps.{place_of, passed, matched, key_order, ordered, heard_at, heard}
use Rattle.bz_find.specs.Words.{lies, is_record, records_in, sorted_in}
use Rattle.bz_find.specs.declared.find.Find.{Find}
use Rattle.bz_find.specs.declared.phase.FindPhase.{FindPhase}
use Rattle.bz_find.specs.declared.phase.FindPhase.TheVariants.{Fresh, Status, Header, Searching, Again, Link as Of_link, Guard, Viewed, Changed}
use Rattle.bz_find.specs.declared.search.Search.{Search}
use Rattle.bz_find.specs.declared.search.Spot.{Spot}
use Rattle.bz_find.specs.declared.search.Spot.TheVariants.{Tail, Sorted}
use Rattle.bz_find.specs.declared.search.Step.{Step}
use Rattle.bz_find.specs.declared.search.Step.TheVariants.{Meta, Word, Payload, Done}
use Rattle.bz_find.proofs.Advancing.{advances}
use Rattle.bz_find.proofs.Begins.{count-is, sorted-is}

-- a leaf that was met was in the tree at a moment at which it had the numbers that its status and its header say
module _ (s : Scene) (good : IsScene s) (key : List ℕ) (link : Link) (ws : List ℕ) (r : Reading key link ws NODE_WORDS s.past) where
  below : link.slot ≢ s.past.config.nodes
  below e = omega (arith, e, r.known.slot)

  was : WasInside s.past.config s.past.at r.known.moment r.read_at link.slot
  was = nodes_were_inside s.past.config s.past.at s.past.since s.past.now r.known.moment r.read_at link.slot good.history (record { since = r.known.since; order = r.order; until = r.until }) below r.known.inside

  was-good : IsGood s.past.config (s.past.at was.was)
  was-good = good.history.good was.was (omega (arith, r.known.since, was.since)) (omega (arith, was.until, r.until))

  leaf : IsLeafInTree s.past.config (s.past.at was.was) link.slot
  leaf =
      let place = ranges_stay s.past.config s.past.at s.past.since s.past.now r.known.moment was.was link.slot good.history (record { since = r.known.since; order = was.since; until = omega (arith, was.until, r.until) }) below r.known.inside was.inside in
      leaves_are_in_trees s.past.config (s.past.at was.was) link.slot was-good r.known.slot was.inside (place.level ∙ r.known.leaf)

  whole : Whole (node s.past.config (s.past.at was.was).image link.slot) (page (durable s.past.config (s.past.at was.was) link.slot)) ((form_at s.past.config (s.past.at was.was)).low link.slot) ((form_at s.past.config (s.past.at was.was)).high link.slot)
  whole = (leaf_rules_are_facts s.past.config.nodes (node s.past.config (s.past.at was.was).image link.slot) (durable s.past.config (s.past.at was.was) link.slot) _ _).0 leaf.whole

  shown : (i : ℕ) → i < META_AT → durable s.past.config (s.past.at was.was) link.slot i ≡ words s.past.config (s.past.at was.was) link.slot i
  shown i l = was-good.shown link.slot i leaf.reached (inl (omega (arith, l)))

  met : KeepsFront s.past.config (s.past.at r.known.moment) (s.past.at r.read_at) link.slot
  met =
      fronts_stay s.past.config s.past.at s.past.since s.past.now r.known.moment r.read_at link.slot good.history (record { since = r.known.since; order = r.order; until = r.until })
      ((good.history.good r.known.moment r.known.since r.known.now).inside link.slot r.known.inside below)

  module _ (st v : ℕ) (first : slice_index ws 0 ≡ st) (a : Answers s (node_address s.past.config link.slot + HEADER_AT) v) where
    header-then : words s.past.config (s.past.at r.read_at) link.slot HEADER_AT ≡ v
    header-then =
        let later = fronts_stay s.past.config s.past.at s.past.since s.past.now r.read_at s.past.now link.slot good.history (record { since = omega (arith, r.known.since, r.order); order = r.until; until = omega arith }) met.reached in
        sym (later.front HEADER_AT (λ e. omega (arith, e)) (omega arith)) ∙ (sym (word-at s.past.config (here s) link.slot HEADER_AT (omega arith)) ∙ a.value)

    head : durable s.past.config (s.past.at was.was) link.slot HEADER_AT ≡ v
    head = shown HEADER_AT (omega arith) ∙ (sym (was.same.words HEADER_AT (λ e. omega (arith, e)) (inl (omega arith))) ∙ header-then)

    counts : (page (durable s.past.config (s.past.at was.was) link.slot)).count ≡ (status st).count
    counts = ap (λ z. (status z).count) (shown STATUS_AT (omega arith)) ∙ (sym was.same.count ∙ ap (λ z. (status z).count) (r.was ∙ first))

    pub had-counts : HadCounts s.past link.slot (records_in st) (sorted_in v (records_in st))
    had-counts =
        let n = durable s.past.config (s.past.at was.was) link.slot in
        record {
          moment = was.was;
          since = omega (arith, r.known.since, was.since);
          now = omega (arith, was.until, r.until);
          count = sym (count-is _ n _ _ whole key st v counts head);
          sorted = sym (sorted-is _ n _ _ whole key st v counts head);
        }

-- by a word a search meets one sorted record more at most, and none past the last
abbrev Few : Search → ℕ → Type 0
Few u most = u.dead ≤ most

either : (b : Bool) (x y : Search) (most : ℕ) → Few x most → Few y most → Few (if b then x else y) most
either true x y most f e = f
either false x y most f e = e

matched-few : (t : Search) (j w most : ℕ) → Few t most → Few (matched t j w) most
matched-few t j w most f = either (nat_lt 0 (packed_len (payload_len (lies w)))) _ _ most f f

ordered-few : (t : Search) (at : Spot) (w most : ℕ) (o : Ordering) → Few t most → Few (ordered t at w o) most
ordered-few t (Tail j) w most Less f = f
ordered-few t (Tail j) w most Equal f = matched-few t j w most f
ordered-few t (Tail j) w most Greater f = f
ordered-few t (Sorted r) w most Less f = f
ordered-few t (Sorted r) w most Equal f = matched-few t r.index w most f
ordered-few t (Sorted r) w most Greater f = f

passed-few : (t : Search) (at : Spot) → IsSpot t at → Few t t.sorted → Few (passed t at) t.sorted
passed-few t (Tail j) s f = f
passed-few t (Sorted r) s f = omega (arith, s.met, s.probe.some)

heard-few : (t : Search) (step : Step) (v : ℕ) → IsStepOf t step → Few t t.sorted → Few (heard_at t step v) t.sorted
heard-few t (Meta at) v s f = either (is_record v) _ _ t.sorted f (passed-few t at s f)
heard-few t (Word at w i) v s f =
    let u : Search = record t { words = slice_set t.words i v } in
    either (nat_lt (i + 1) (packed_len (lies w).key)) _ _ t.sorted f (ordered-few u at w t.sorted (key_order u w) f)
heard-few t (Payload j w i) v s f = either (nat_lt (i + 1) (packed_len (payload_len (lies w)))) _ _ t.sorted f f
heard-few t Done v s f = f

-- once the header was read it goes by its leaf, whatever comes next
after : (u : Find) (step : Step) (st : ℕ) (p : Past) → GoesByLeaf u p → find_counts u (phase_after step st) p
after u (Meta at) st p c = c
after u (Word at w i) st p c = c
after u (Payload j w i) st p c = c
after u Done st p c = go (status st).frozen
  where
    go : (b : Bool) → find_counts u (if b then Of_link else Again) p
    go true = c
    go false = c

module _ (t : Find) (s : Scene) (same : s.past.config ≡ t.config) (good : IsScene s) where
  abbrev Counts : FindPhase → Seen → ℕ → Type 0
  Counts phase seen now = find_counts (counted (told t phase seen now)) (told t phase seen now).phase s.past

  from-header : (v now : ℕ) → find_facts t Header Waiting s → Answers s (node_address t.config t.link.slot + HEADER_AT) v → Counts Header (Was v) now
  from-header v now f a =
      let o : Opened t.key t.link t.status s.past = f.1 in
      let u : Find = record t { search = search_of t v } in
      let at : Answers s (node_address s.past.config t.link.slot + HEADER_AT) v = subst (λ z. Answers s (node_address z t.link.slot + HEADER_AT) v) (sym same) a in
      after (counted (told t Header (Was v) now)) u.search.step t.status s.past (record { had = had-counts s good t.key t.link o.ws o.reading t.status v o.status at; met = omega arith })

  from-search : (v now : ℕ) → find_bounds t Searching → GoesByLeaf t s.past → Counts Searching (Was v) now
  from-search v now b c =
      let u : Search = heard t.search v in
      let h = advances t.search v b.1 b.2 in
      after (counted (told t Searching (Was v) now)) u.step t.status s.past (record {
        had = subst (λ z. HadCounts s.past t.link.slot z u.sorted) (sym h.count) (subst (λ z. HadCounts s.past t.link.slot t.search.count z) (sym h.sorted) c.had);
        met = subst (λ z. u.dead ≤ z) (sym h.sorted) (heard-few t.search t.search.step v b.1.of c.met);
      })

  validated : (b : Bool) (x y : FindPhase) → find_counts (counted (record t { phase = x })) x s.past → find_counts (counted (record t { phase = y })) y s.past → find_counts (counted (record t { phase = if b then x else y })) (if b then x else y) s.past
  validated true x y f e = f
  validated false x y f e = e

  kept : (u : Find) → u.link ≡ t.link → u.search ≡ t.search → GoesByLeaf t s.past → GoesByLeaf u s.past
  kept u l e c = record { had = rw (l, e) c.had; met = rw e c.met }

  -- an answer that tells something is one to a read
  by-read : (P : Seen → Type 0) (a : ℕ) → ((v : ℕ) → Answers s a v → P (Was v)) → (seen : Seen) → Tells (Some (Read a)) Waiting seen s → P seen
  by-read P a h Start e = absurd (e)
  by-read P a h (Was v) e = h v e
  by-read P a h Stored e = absurd (e)
  by-read P a h Flushed e = absurd (e)
  by-read P a h (Swapped won) e = absurd (e)
  by-read P a h NoSwap e = absurd (e)

  unasked : (P : Type 0) (seen : Seen) → Tells (Some Finish) Waiting seen s → P
  unasked P Start e = absurd (e)
  unasked P (Was v) e = absurd (e)
  unasked P Stored e = absurd (e)
  unasked P Flushed e = absurd (e)
  unasked P (Swapped won) e = absurd (e)
  unasked P NoSwap e = absurd (e)

  counts-at : (phase : FindPhase) (stage : Stage) (seen : Seen) (now : ℕ) → find_bounds t phase → find_facts t phase stage s → find_counts t phase s.past → Tells (find_asks t phase) stage seen s → Counts phase seen now
  counts-at phase Took seen now b f c h = absurd (f)
  counts-at Fresh Waiting seen now b f c h = tt
  counts-at Status Waiting seen now b f c h = by-read (λ z. Counts Status z now) (node_address t.config t.link.slot + STATUS_AT) (λ v a. tt) seen h
  counts-at Header Waiting seen now b f c h = by-read (λ z. Counts Header z now) (node_address t.config t.link.slot + HEADER_AT) (λ v a. from-header v now f a) seen h
  counts-at Searching Waiting seen now b f c h = by-read (λ z. Counts Searching z now) (node_address t.config t.link.slot + place_of t.search.step) (λ v a. from-search v now b c) seen h
  counts-at Again Waiting seen now b f c h = by-read (λ z. Counts Again z now) (node_address t.config t.link.slot + STATUS_AT) (λ v a. validated (v == t.status) (Viewed now) Changed (kept _ refl refl c) (kept _ refl refl c)) seen h
  counts-at Of_link Waiting seen now b f c h = by-read (λ z. Counts Of_link z now) t.link.link (λ v a. validated (v == t.link.slot + 1) (Guard now) Changed (kept _ refl refl c) (kept _ refl refl c)) seen h
  counts-at (Guard at) Waiting seen now b f c h = by-read (λ z. Counts (Guard at) z now) t.link.guard (λ v a. validated (status v).frozen Changed (Viewed at) (kept _ refl refl c) (kept _ refl refl c)) seen h
  counts-at (Viewed at) Waiting seen now b f c h = unasked (Counts (Viewed at) seen now) seen h
  counts-at Changed Waiting seen now b f c h = unasked (Counts Changed seen now) seen h

  pub counts-told : (stage : Stage) (seen : Seen) (now : ℕ) → IsBounded t → find_facts t t.phase stage s → find_counts t t.phase s.past → Tells (find_asks t t.phase) stage seen s → Counts t.phase seen now
  counts-told stage seen now b f c h = counts-at t.phase stage seen now b.bounds f c h

-- and what was stays so
module _ (p q : Past) (n : Continues p q) where
  had-still : (slot count sorted : ℕ) → HadCounts p slot count sorted → HadCounts q slot count sorted
  had-still slot count sorted h = record {
    moment = h.moment;
    since = omega (arith, h.since, n.since);
    now = omega (arith, h.now, n.now);
    count = rw (n.config, n.at h.moment h.now) h.count;
    sorted = rw (n.config, n.at h.moment h.now) h.sorted;
  }

  goes-still : (t : Find) → GoesByLeaf t p → GoesByLeaf t q
  goes-still t c = record { had = had-still t.link.slot t.search.count t.search.sorted c.had; met = c.met }

  pub counts-stay : (t : Find) (phase : FindPhase) → find_counts t phase p → find_counts t phase q
  counts-stay t Fresh c = tt
  counts-stay t Status c = tt
  counts-stay t Header c = tt
  counts-stay t Searching c = goes-still t c
  counts-stay t Again c = goes-still t c
  counts-stay t Of_link c = goes-still t c
  counts-stay t (Guard at) c = goes-still t c
  counts-stay t (Viewed at) c = goes-still t c
  counts-stay t Changed c = goes-still t c

-- where it has ended in vain
ended : (t : Find) (phase : FindPhase) → find_end t phase ≡ Some Restart → phase ≡ Changed
ended t Changed e = refl
ended t phase e = absurd (cc)

pub stops-in : (t : Find) (s : Scene) (link : Link) → facts_of t Waiting s → end_of t ≡ Some Restart → IsLastLink t.path link → StopsIn link.slot t.asked s.past
stops-in t s link facts e last =
    let at : t.phase ≡ Changed = ended t t.phase e in
    let c : GoesByLeaf t s.past = subst (λ z. find_counts t z s.past) at facts.4 in
    let both : Some t.link ≡ Some link = sym facts.3 ∙ last in
    let same : t.link ≡ link = cc both in
    let few : t.asked ≤ reads_at t.search Changed = subst (λ z. t.asked ≤ reads_at t.search z) at facts.2.reads in
    record {
      count = t.search.count;
      sorted = t.search.sorted;
      had = subst (λ z. HadCounts s.past z.slot t.search.count t.search.sorted) same c.had;
      few = omega (arith, few, c.met);
    }
