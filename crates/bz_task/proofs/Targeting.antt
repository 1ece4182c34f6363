-- What a swap may name stays so, and is nobody's own.
use Rattle.std.proofs.Common.{◌≡◌, ◌≢◌, ℕ, ◌+◌, ◌<◌, ◌≤◌, ◌⊎◌, true, arith, sym, ap, ◌∙◌, inl, inr}
use Rattle.std.proofs.lemmas.Bool.{cases_eq}
use Rattle.bz_layout.specs.declared.config.Config.{Config}
use Rattle.bz_layout.specs.declared.sizes.TheConstants.{META_AT, SHARED_WORDS, HEADER_AT}
use Rattle.bz_content.specs.FromSlotted.Reading.{payload_at}
use Rattle.bz_content.specs.FromSlotted.Page.{page, extent_of, meta_of, Page}
use Rattle.bz_content.specs.FromSlotted.Whole.{Whole}
use Rattle.bz_word.specs.Headers.{header}
use Rattle.bz_content.specs.Image.{node}
use Rattle.bz_content.proofs.FromSlotted.Proved.{leaf_rules_are_facts}
use Rattle.bz_task.specs.Good.{IsGood}
use Rattle.bz_task.specs.Instant.{Instant, words, durable, page_at, form_at}
use Rattle.bz_task.specs.Laws.{IsLeafInTree}
use Rattle.bz_task.specs.Requests.{IsNodeTarget, IsMetaPlace, IsPointerPlace}
use Rattle.bz_task.specs.Scene.{here}
use Rattle.bz_task.specs.Shown.{IsShown, SameShownNode, SameRecords, SameSeparators}
use Rattle.bz_task.specs.Steps.{Moves, NodeMoves}
use Rattle.bz_task.specs.Targets.{alone, TargetsAreOfTheMemory, TargetsStay, OwnWordsAreNoTargets}
use Rattle.bz_task.proofs.Sames.{SamePlaces, words-places}
use Rattle.bz_task.proofs.Ranges.{headers}
use Rattle.bz_task.proofs.Thawed.{in-tree}

pub of-memory : TargetsAreOfTheMemory
of-memory s a (inl e) = inl e
of-memory s a (inr (inl e)) = inr (inl e)
of-memory s a (inr (inr t)) = inr (inr (record { slot = t.slot; place = t.place; address = t.address; within = t.within; reached = t.reached; kind = t.kind }))

-- a target is a word that readers read
target-shown : (c : Config) (x : Instant) (a : ℕ) (t : IsNodeTarget (alone c x) a) → IsShown (words c x t.slot) t.place
target-shown c x a t = elim t.kind [
  | inl e ↦ inl (omega (arith, e))
  | inr o ↦ elim o [ inl m ↦ inr (inl m.free) | inr p ↦ inr (inr (inl p.inner)) ]
]

pub not-mine : OwnWordsAreNoTargets
not-mine s a good m (inl e) = omega (arith, e, (good.mine a m).0)
not-mine s a good m (inr (inl e)) = omega (arith, e, (good.mine a m).0)
not-mine s a good m (inr (inr t)) = m.hidden t.slot t.place t.reached t.within t.address (target-shown s.past.config (here s) a t)

-- the places that swaps name, in a page and in a later one
abbrev Kind : Page → ℕ → Type 0
Kind p i = IsMetaPlace p i ⊎ IsPointerPlace p i

-- a page with the same fields
meta-same : (n m : ℕ → ℕ) (i : ℕ) → SamePlaces n m → IsMetaPlace (page n) i → IsMetaPlace (page m) i
meta-same n m i p k = record {
  leaf = p.level ∙ k.leaf;
  from = k.from;
  to = omega (arith, p.count, k.to);
  free = omega (arith, p.block, k.free);
}

pointer-same : (n m : ℕ → ℕ) (i : ℕ) → (page m).level ≡ (page n).level → (page m).count ≡ (page n).count → ((j : ℕ) → j < (page n).count → (page m).meta j ≡ (page n).meta j) → IsPointerPlace (page n) i → IsPointerPlace (page m) i
pointer-same n m i level count meta k = record {
  inner = omega (arith, level, k.inner);
  child = k.child;
  counted = omega (arith, count, k.counted);
  place = k.place ∙ ap (λ e. payload_at (extent_of e)) (sym (meta k.child k.counted));
}

-- after a change of the leaf there is no less metadata, and what was free and named still is
meta-moved : (n m : ℕ → ℕ) (i : ℕ) → Moves n m → ((page m).frozen ≡ true) ⊎ ((page m).count + (page m).block ≤ SHARED_WORDS) → IsMetaPlace (page n) i → IsMetaPlace (page m) i
meta-moved n m i v room k = record {
  leaf = ap (λ w. (header w).level) (v.front HEADER_AT (λ e. omega (arith, e)) (omega arith)) ∙ k.leaf;
  from = k.from;
  to = omega (arith, v.count, k.to);
  free = elim room [
    | inl f ↦ (let r : SameRecords n m = v.freeze f in omega (arith, r.block, k.free))
    | inr fits ↦ elim (cases_eq (page m).count (page n).count) [
      | inl e ↦ elim (cases_eq i (META_AT + (page n).count)) [
        | inl last ↦ omega (arith, e, last, k.free, v.spare e (omega (arith, last, k.free)))
        | inr ne ↦ omega (arith, e, ne, k.to, fits)
      ]
      | inr ne ↦ omega (arith, ne, v.count, k.to, fits)
    ]
  ];
}

pointer-moved : (n m : ℕ → ℕ) (i : ℕ) → Moves n m → IsPointerPlace (page n) i → IsPointerPlace (page m) i
pointer-moved n m i v k =
    let q : SameSeparators n m = v.inner k.inner in
    pointer-same n m i (ap (λ w. (header w).level) (v.front HEADER_AT (λ e. omega (arith, e)) (omega arith))) q.count
    (λ j l. ap meta_of (q.front (META_AT + j) (λ e. omega (arith, e)) (omega (arith, l)))) k

module _ (c : Config) (x y : Instant) (gx : IsGood c x) (gy : IsGood c y) where
  -- a leaf that was reached is frozen, or has room for all that it says
  room-after : (k : ℕ) → y.reached k ≡ true → (page_at c y k).level ≡ 0 → ((page_at c y k).frozen ≡ true) ⊎ ((page_at c y k).count + (page_at c y k).block ≤ SHARED_WORDS)
  room-after k e flat = elim (gy.placed k e) [
    | inr f ↦ inl f
    | inl i ↦ (
        let ne : k ≢ c.nodes = λ q. omega (arith, q, gy.slots k e) in
        let l : (form_at c y).level k ≡ 0 = sym (headers c y k gy ne i).level ∙ flat in
        let is : IsLeafInTree c y k = in-tree c y k gy (gy.slots k e) i l in
        let w : Whole (node c y.image k) (page (durable c y k)) ((form_at c y).low k) ((form_at c y).high k) = (leaf_rules_are_facts c.nodes (node c y.image k) (durable c y k) _ _).0 is.whole in
        let p : SamePlaces (words c y k) (durable c y k) = words-places (words c y k) (durable c y k) (λ i h. gy.shown k i e h) in
        inr (omega (arith, p.count, p.block, w.filled.room)))
  ]

  kind-same : (k i : ℕ) → SameShownNode c x y k → Kind (page_at c x k) i → Kind (page_at c y k) i
  kind-same k i s (inl m) = inl (meta-same (words c x k) (words c y k) i (words-places (words c x k) (words c y k) s) m)
  kind-same k i s (inr q) =
      let p : SamePlaces (words c x k) (words c y k) = words-places (words c x k) (words c y k) s in
      inr (pointer-same (words c x k) (words c y k) i p.level p.count p.meta q)

  kind-moved : (k i : ℕ) → y.reached k ≡ true → NodeMoves c x y k → Kind (page_at c x k) i → Kind (page_at c y k) i
  kind-moved k i e v (inl m) =
      let flat : (page_at c y k).level ≡ 0 = ap (λ w. (header w).level) (v.front HEADER_AT (λ e. omega (arith, e)) (omega arith)) ∙ m.leaf in
      inl (meta-moved (words c x k) (words c y k) i v (room-after k e flat) m)
  kind-moved k i e v (inr q) = inr (pointer-moved (words c x k) (words c y k) i v q)

  stays : (a : ℕ) (t : IsNodeTarget (alone c x) a) → y.reached t.slot ≡ true → SameShownNode c x y t.slot ⊎ NodeMoves c x y t.slot → IsNodeTarget (alone c y) a
  stays a t e step = record {
    slot = t.slot;
    place = t.place;
    address = t.address;
    within = t.within;
    reached = e;
    kind = elim t.kind [
      | inl s ↦ inl s
      | inr k ↦ inr (elim step [ inl s ↦ kind-same t.slot t.place s k | inr v ↦ kind-moved t.slot t.place e v k ])
    ];
  }

pub targets-stay : TargetsStay
targets-stay c x y a gx gy step (inl e) = inl e
targets-stay c x y a gx gy step (inr (inl e)) = inr (inl e)
targets-stay c x y a gx gy (inl q) (inr (inr t)) = inr (inr (stays c x y gx gy a t (q.reached t.slot ∙ t.reached) (inl (q.nodes t.slot t.reached))))
targets-stay c x y a gx gy (inr q) (inr (inr t)) = inr (inr (stays c x y gx gy a t (q.reached t.slot t.reached) (q.nodes t.slot t.reached)))
