-- A word that is read of a leaf which is still as it was is the one that it had.
use Rattle.std.proofs.Common.{◌≡◌, ◌≢◌, ℕ, ◌+◌, ◌^◌, ◌<◌, ◌≤◌, ◌||◌, Bool, true, false, List, arith, refl, sym, ap, subst, ◌∙◌, inl, inr}
use Rattle.std.specs.Prelude.{nat_lt, nat_le, ◌==◌, map, slice_index, if◌then◌else◌}
use Rattle.std.specs.List.{range_with_len}
use Rattle.std.proofs.lemmas.Bool.{cases_lt}
use Rattle.std.proofs.lemmas.Bool.Decides.{nat_tests}
use Rattle.std.proofs.lemmas.List.{get_or_past}
use Rattle.std.proofs.lemmas.List.FromFn.{length-map-range_with_len, get_or-map-range_with_len}
use Rattle.bz_key.specs.Packing.{packed_len}
use Rattle.bz_layout.specs.Addresses.{node_address}
use Rattle.bz_layout.specs.declared.sizes.TheConstants.{NODE_WORDS, STATUS_AT, META_AT, SHARED_WORDS}
use Rattle.bz_node.specs.Reading.{payload_at, payload_len}
use Rattle.bz_slotted.specs.Page.{visible, meta_of, extent_of, page}
use Rattle.bz_slotted.specs.ReadingLaws.{node_of}
use Rattle.bz_slotted.specs.Records.{weight}
use Rattle.bz_slotted.specs.Whole.{IsInBlock}
use Rattle.bz_word.specs.Statuses.{status}
use Rattle.bz_leaf.proofs.Learning.{word-at}
use Rattle.bz_leaf.specs.Facts.{is_used, IsKnownLeaf, WasWord, Reading}
use Rattle.bz_task.specs.Instant.{words}
use Rattle.bz_task.specs.Requests.{Answers}
use Rattle.bz_task.specs.Scene.{Scene, here}
use Rattle.bz_task.specs.Shown.{IsShown}
use Rattle.bz_task.specs.declared.path.Link.{Link}
use Rattle.bz_find.specs.Bounds.{IsStepOf, IsStep}
use Rattle.bz_find.specs.Facts.{IsStill, Opened}
use Rattle.bz_find.specs.Knowing.{KnowsAt, Knows}
use Rattle.bz_find.specs.Steps.{index_of, place_of}
use Rattle.bz_find.specs.Words.{lies}
use Rattle.bz_find.specs.declared.search.Search.{Search}
use Rattle.bz_find.specs.declared.search.Spot.TheVariants.{Tail, Sorted}
use Rattle.bz_find.specs.declared.search.Step.{Step}
use Rattle.bz_find.specs.declared.search.Step.TheVariants.{Meta, Word, Payload, Done}
use Rattle.bz_find.proofs.Learning.{counted}
use Rattle.bz_find.proofs.Metas.{held-visible}

or-left : (a b : Bool) → a ≡ true → (a || b) ≡ true
or-left true b e = refl
or-left false b e = absurd (cc)

or-right : (a b : Bool) → b ≡ true → (a || b) ≡ true
or-right true b e = refl
or-right false b e = e

-- the words that a search wants lie in the node
step-within : (t : Search) (step : Step) → IsStepOf t step → t.count ≤ SHARED_WORDS → t.sorted ≤ t.count → place_of step < NODE_WORDS
step-within t (Meta (Tail j)) h c s = omega (arith, h.counted, c)
step-within t (Meta (Sorted r)) h c s = omega (arith, h.probe.index, h.probe.some, h.high, c, s)
step-within t (Word at w i) h c s = omega (arith, h.1.ends, h.2)
step-within t (Payload j w i) h c s = omega (arith, h.0.ends, h.1)
step-within t Done h c s = omega arith

module _ (s : Scene) (key : List ℕ) (link : Link) (ws : List ℕ) (r : Reading key link ws NODE_WORDS s.past) (still : IsStill s.past link ws r.read_at) where
  then-word : (i : ℕ) → 0 < i → i < NODE_WORDS → is_used (slice_index ws 0) i ≡ true → IsShown (words s.past.config (s.past.at r.read_at) link.slot) i → words s.past.config (s.past.at r.read_at) link.slot i ≡ node_of ws i
  then-word i some l u h =
      let v : WasWord link.slot i (slice_index ws i) r.read_at s.past = r.read i some l u in
      sym (still.same v.moment v.order v.now i h) ∙ v.word

  now-word : (i : ℕ) → 0 < i → i < NODE_WORDS → is_used (slice_index ws 0) i ≡ true → IsShown (words s.past.config (s.past.at r.read_at) link.slot) i → words s.past.config (here s) link.slot i ≡ node_of ws i
  now-word i some l u h = still.same s.past.now r.until (omega arith) i h ∙ then-word i some l u h

  front-used : (i : ℕ) → i < META_AT + (page (node_of ws)).count → is_used (slice_index ws 0) i ≡ true
  front-used i l = let t : nat_lt i (META_AT + (status (slice_index ws 0)).count) ≡ true = grind (arith, nat_tests, l) in or-left _ _ t

  front-shown : (i : ℕ) → i < META_AT + (page (node_of ws)).count → IsShown (words s.past.config (s.past.at r.read_at) link.slot) i
  front-shown i l = let e = ap (λ z. (status z).count) r.was in inl (omega (arith, l, e))

  -- header and metadata words
  pub front-word : (i : ℕ) → 0 < i → i < META_AT + (page (node_of ws)).count → words s.past.config (here s) link.slot i ≡ node_of ws i
  front-word i some l = now-word i some (omega (arith, l, still.whole.filled.room)) (front-used i l) (front-shown i l)

  module _ (j : ℕ) (c : j < (page (node_of ws)).count) (v : visible ((page (node_of ws)).meta j) ≡ true) where
    meta-then : meta_of (words s.past.config (s.past.at r.read_at) link.slot (META_AT + j)) ≡ (page (node_of ws)).meta j
    meta-then = ap meta_of (then-word (META_AT + j) (omega arith) (omega (arith, c, still.whole.filled.room)) (front-used (META_AT + j) (omega (arith, c))) (front-shown (META_AT + j) (omega (arith, c))))

    in-block : IsInBlock (page (node_of ws)) ((page (node_of ws)).meta j)
    in-block = still.whole.inside j c (held-visible ((page (node_of ws)).meta j) v)

    record-shown : (i : ℕ) → (extent_of ((page (node_of ws)).meta j)).offset ≤ i → i < (extent_of ((page (node_of ws)).meta j)).offset + weight ((page (node_of ws)).meta j) → IsShown (words s.past.config (s.past.at r.read_at) link.slot) i
    record-shown i from to =
        let e = ap (λ z. (status z).count) r.was in
        inr (inr (inr (
          j,
          record {
            counted = omega (arith, c, e);
            visible = rw meta-then v;
            from = rw meta-then from;
            to = rw meta-then to;
          },
        )))

    -- a word of a visible record
    pub record-word : (i : ℕ) → (extent_of ((page (node_of ws)).meta j)).offset ≤ i → i < (extent_of ((page (node_of ws)).meta j)).offset + weight ((page (node_of ws)).meta j) → words s.past.config (here s) link.slot i ≡ node_of ws i
    record-word i from to =
        let room = still.whole.filled.room in
        let u : nat_le NODE_WORDS (i + (status (slice_index ws 0)).block) ≡ true = (let q : NODE_WORDS ≤ i + (page (node_of ws)).block = omega (arith, in-block.starts, from) in grind (arith, nat_tests, q)) in
        now-word i (omega (arith, in-block.starts, from, room)) (omega (arith, in-block.ends, to)) (or-right _ _ u) (record-shown i from to)

  -- the word that a search wants
  pub wanted-word : (t : Search) (step : Step) → IsStep t → IsStepOf t step → KnowsAt (node_of ws) t step → step ≢ Done → words s.past.config (here s) link.slot (place_of step) ≡ node_of ws (place_of step)
  wanted-word t (Meta at) z h k d = front-word (META_AT + index_of at) (omega arith) (omega (arith, counted (node_of ws) t at z.sized h k))
  wanted-word t (Word at w i) z h k d =
      let j : ℕ = index_of at in
      let c : j < (page (node_of ws)).count = counted (node_of ws) t at z.sized h.0 k.spot in
      let v : visible ((page (node_of ws)).meta j) ≡ true = rw k.meta h.1.visible in
      subst (λ z. words s.past.config (here s) link.slot ((lies z).offset + i) ≡ node_of ws ((lies z).offset + i)) k.meta
      (record-word j c v ((lies (node_of ws (META_AT + j))).offset + i) (omega arith) (let l : i < packed_len (lies (node_of ws (META_AT + j))).key = rw k.meta h.2 in omega (arith, l)))
  wanted-word t (Payload j w i) z h k d =
      let c : j < (page (node_of ws)).count = k.of.counted in
      let v : visible ((page (node_of ws)).meta j) ≡ true = rw k.of.meta h.0.visible in
      subst (λ z. words s.past.config (here s) link.slot (payload_at (lies z) + i) ≡ node_of ws (payload_at (lies z) + i)) k.of.meta
      (record-word j c v (payload_at (lies (node_of ws (META_AT + j))) + i) (omega arith) (let l : i < packed_len (payload_len (lies (node_of ws (META_AT + j)))) = rw k.of.meta h.1 in omega (arith, l)))
  wanted-word t Done z h k d = absurd (d refl)

  pub wanted : (t : Search) (v : ℕ) → IsStep t → t.step ≢ Done → Knows (node_of ws) t → Answers s (node_address s.past.config link.slot + place_of t.step) v → v ≡ node_of ws (place_of t.step)
  wanted t v z d k a =
      sym a.value ∙ (word-at s.past.config (here s) link.slot (place_of t.step) (step-within t t.step z.of z.sized.count z.sized.sorted) ∙ wanted-word t t.step z z.of k d)

-- the status is read: the words in use now are those that will be read
module _ (s : Scene) (key : List ℕ) (link : Link) (k : IsKnownLeaf key link s.past) (v : ℕ) (a : Answers s (node_address s.past.config link.slot + STATUS_AT) v) where
  used-now : ℕ → ℕ
  used-now i = if i == 0 then v else (if is_used v i then words s.past.config (here s) link.slot i else 0)

  now : List ℕ
  now = map used-now (range_with_len 0 NODE_WORDS)

  at-place : (i : ℕ) → i < NODE_WORDS → slice_index now i ≡ used-now i
  unfolding now
  at-place i l = get_or-map-range_with_len used-now 0 NODE_WORDS i i 0 l (omega arith)

  past-end : (i : ℕ) → NODE_WORDS ≤ i → slice_index now i ≡ 0
  unfolding now
  past-end i l = get_or_past now i 0 (omega (arith, l, length-map-range_with_len used-now 0 NODE_WORDS))

  first : slice_index now 0 ≡ v
  unfolding used-now
  first = at-place 0 (omega arith)

  later : (i : ℕ) → 0 < i → used-now i ≡ (if is_used v i then words s.past.config (here s) link.slot i else 0)
  unfolding used-now
  later i l = let e : (i == 0) ≡ false = grind (arith, nat_tests) in rw e refl

  pub opens : Opened key link v s.past
  opens = record {
    ws = now;
    reading = record {
      known = k;
      read_at = s.past.now;
      order = k.now;
      hung_order = k.hung_now;
      until = omega arith;
      was = sym (word-at s.past.config (here s) link.slot STATUS_AT (omega arith)) ∙ (a.value ∙ sym first);
      plain = subst (λ z. z < 2 ^ 61) (sym first) a.plain;
      read = λ i some l u. record {
        moment = s.past.now;
        order = omega arith;
        now = omega arith;
        word = sym (at-place i l ∙ (later i some ∙ (let e : is_used v i ≡ true = ap (λ z. is_used z i) (sym first) ∙ u in rw e refl)));
      };
      rest = λ i some u. elim (cases_lt i NODE_WORDS) [
        | inl l ↦ at-place i l ∙ (later i some ∙ (let e : is_used v i ≡ false = ap (λ z. is_used z i) (sym first) ∙ u in rw e refl))
        | inr l ↦ past-end i l
      ];
    };
    status = first;
  }
