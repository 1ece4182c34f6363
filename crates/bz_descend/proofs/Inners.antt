-- What holds of the words of an inner node that was in the tree.
use Rattle.std.proofs.Common.{◌≡◌, ◌≢◌, ℕ, zero, suc, ◌+◌, ◌<◌, ◌≤◌, true, List, arith, refl, sym, ap, subst, ◌∙◌, inl, inr, Option}
use Rattle.std.specs.Prelude.{None, IsSome}
use Rattle.std.proofs.lemmas.List.{ext_get_or}
use Rattle.std.proofs.lemmas.List.FromFn.{length-map-range_with_len, get_or-map-range_with_len}
use Rattle.bz_key.specs.Packing.{packed_len, unpacked_key}
use Rattle.bz_layout.specs.declared.config.Config.{Config}
use Rattle.bz_layout.specs.declared.sizes.TheConstants.{HEADER_AT, META_AT}
use Rattle.bz_layout.specs.declared.thresholds.TheConstants.{MAX_LEVELS}
use Rattle.bz_tree.specs.Order.{is_at_least, is_below}
use Rattle.bz_slotted.specs.Page.{words_at, meta_of, extent_of, Page, page}
use Rattle.bz_slotted.specs.Records.{key_words, weight, shown, live_block}
use Rattle.bz_slotted.specs.Rules.{node_fault}
use Rattle.bz_slotted.specs.Whole.{Disjoint, IsInBlock, IsInnerRecord, WholeInner}
use Rattle.bz_slotted.proofs.Proved.{inner_rules_are_facts}
use Rattle.bz_word.specs.Headers.{header}
use Rattle.bz_content.specs.Image.{node}
use Rattle.bz_task.specs.Good.{IsGood}
use Rattle.bz_task.specs.Instant.{Instant, words, durable, page_at, form_at, is_inside}
use Rattle.bz_task.specs.Laws.{KeepsFront, SamePlace, WasInside}
use Rattle.bz_task.specs.Scene.{Scene, IsScene}
use Rattle.bz_task.specs.Shown.{SameRecords}
use Rattle.bz_task.proofs.Proved.{fronts_stay, headers_say_the_level, nodes_were_inside, ranges_stay}
use Rattle.bz_descend.specs.Ways.{HasKey}
use Rattle.bz_descend.specs.Inners.{most_records, IsInner}
use Rattle.bz_descend.proofs.Children.{fits, no, inner-same}

-- a node of the tree breaks no rule
pub whole-node : (c : Config) (x : Instant) (k : ℕ) → IsGood c x → k ≢ c.nodes → is_inside c x k ≡ true
    → node_fault c.nodes (node c x.image k) (durable c x k) ((form_at c x).level k) ((form_at c x).low k) ((form_at c x).high k) ≡ None
whole-node c x k g ne i = rw (no k c.nodes ne) at ((fits c x g).whole k i ne)

-- its level is one that a tree may have
pub level-few : (c : Config) (x : Instant) (k : ℕ) → IsGood c x → k ≢ c.nodes → is_inside c x k ≡ true → (page_at c x k).level < MAX_LEVELS
level-few c x k g ne i =
    let h : (page_at c x k).level ≡ (form_at c x).level k = (headers_say_the_level c x k g ne i).level in
    omega (arith, h, few ((form_at c x).level k) refl)
  where
    few : (l : ℕ) → (form_at c x).level k ≡ l → (form_at c x).level k < MAX_LEVELS
    few zero e = omega (arith, e)
    few (suc l) e =
        ((inner_rules_are_facts c.nodes (node c x.image k) (durable c x k) ((form_at c x).level k) ((form_at c x).low k) ((form_at c x).high k) (omega (arith, e))).0 (whole-node c x k g ne i)).level.lowest

-- an inner node of the tree, as readers read it
pub whole-inner : (c : Config) (x : Instant) (k : ℕ) → IsGood c x → k ≢ c.nodes → is_inside c x k ≡ true → 0 < (page_at c x k).level
    → WholeInner c.nodes (node c x.image k) (page_at c x k) ((form_at c x).level k) ((form_at c x).low k) ((form_at c x).high k)
whole-inner c x k g ne i l =
    let h : (page_at c x k).level ≡ (form_at c x).level k = (headers_say_the_level c x k g ne i).level in
    let same : durable c x k ≡ words c x k = inner-same c x k g (g.inside k i ne) l in
    (inner_rules_are_facts c.nodes (node c x.image k) (words c x k) ((form_at c x).level k) ((form_at c x).low k) ((form_at c x).high k) (omega (arith, h, l))).0
    (subst (λ n. node_fault c.nodes (node c x.image k) n ((form_at c x).level k) ((form_at c x).low k) ((form_at c x).high k) ≡ None) same (whole-node c x k g ne i))

-- a node that was met in the tree is, at a later moment, as it was at one between at which it was still in the tree
pub record Was (key : List ℕ) (s : Scene) (m j k : ℕ) : Type 0 where
  pub was : ℕ
  pub since : m ≤ was
  pub until : was ≤ j
  pub has : HasKey key s.past.config (s.past.at was) k
  pub level : (page_at s.past.config (s.past.at was) k).level ≡ (page_at s.past.config (s.past.at m) k).level
  pub same : SameRecords (words s.past.config (s.past.at was) k) (words s.past.config (s.past.at j) k)

pub was-inside : (key : List ℕ) (s : Scene) (m j k : ℕ) → IsScene s → s.past.since ≤ m → m ≤ j → j ≤ s.past.now → HasKey key s.past.config (s.past.at m) k → Was key s m j k
was-inside key s m j k good since order until h =
    let c = s.past.config in
    let ne : k ≢ c.nodes = λ e. omega (arith, e, h.slot) in
    let w : WasInside c s.past.at m j k = nodes_were_inside c s.past.at s.past.since s.past.now m j k good.history (record { since = since; order = order; until = until }) ne h.inside in
    let o : w.was ≤ s.past.now = omega (arith, w.until, until) in
    let p : SamePlace c (s.past.at m) (s.past.at w.was) k = ranges_stay c s.past.at s.past.since s.past.now m w.was k good.history (record { since = since; order = w.since; until = o }) ne h.inside w.inside in
    let g : IsGood c (s.past.at m) = good.history.good m since (omega (arith, order, until)) in
    let f : KeepsFront c (s.past.at m) (s.past.at w.was) k = fronts_stay c s.past.at s.past.since s.past.now m w.was k good.history (record { since = since; order = w.since; until = o }) (g.inside k h.inside ne) in
    record {
      was = w.was;
      since = w.since;
      until = w.until;
      has = record {
        slot = h.slot;
        inside = w.inside;
        low = subst (λ z. is_at_least key z ≡ true) (sym p.low) h.low;
        high = subst (λ z. is_below key z ≡ true) (sym p.high) h.high;
      };
      level = ap (λ z. (header z).level) (f.front HEADER_AT (λ e. omega (arith, e)) (omega arith));
      same = w.same;
    }

pub words_at-same : (n m : ℕ → ℕ) (from count : ℕ) → ((i : ℕ) → i < count → n (from + i) ≡ m (from + i)) → words_at n from count ≡ words_at m from count
unfolding words_at
words_at-same n m from count h =
    ext_get_or 0 _ _ (length-map-range_with_len n from count ∙ sym (length-map-range_with_len m from count)) (λ i l.
    let within : i < count = omega (arith, l, length-map-range_with_len n from count) in
    get_or-map-range_with_len n from count i (from + i) 0 within refl ∙ (h i within ∙ sym (get_or-map-range_with_len m from count i (from + i) 0 within refl)))

-- the first record of an inner node takes a word of its block, and each other one two
least-block : (nodes : ℕ) (raw : ℕ → ℕ) (p : Page) (l : ℕ) (lo hi : Option (List ℕ)) → WholeInner nodes raw p l lo hi → (n : ℕ) → n ≤ p.count → n + n ≤ live_block p.meta n + 1
unfolding live_block
least-block nodes raw p l lo hi w zero le = omega arith
least-block nodes raw p l lo hi w (suc n) le =
    let c : n < p.count = omega (arith, le) in
    let before : n + n ≤ live_block p.meta n + 1 = least-block nodes raw p l lo hi w n (omega (arith, c)) in
    let is : shown (p.meta n) ≡ weight (p.meta n) = rw (w.shows n c) refl in
    let r : IsInnerRecord n (p.meta n) = w.lengths n c in
    go n refl before is r
  where
    go : (k : ℕ) → n ≡ k → n + n ≤ live_block p.meta n + 1 → shown (p.meta n) ≡ weight (p.meta n) → IsInnerRecord n (p.meta n) → suc n + suc n ≤ live_block p.meta n + shown (p.meta n) + 1
    go zero e before is r = omega (arith, e, is, r.pointer)
    go (suc k) e before is r = let some : 0 < (extent_of (p.meta n)).key = r.some (omega (arith, e)) in omega (arith, before, is, r.pointer, some)

few-records : (nodes : ℕ) (raw : ℕ → ℕ) (p : Page) (l : ℕ) (lo hi : Option (List ℕ)) → WholeInner nodes raw p l lo hi → p.count ≤ most_records
few-records nodes raw p l lo hi w = omega (arith, least-block nodes raw p l lo hi w p.count (omega arith), w.filled.dead, w.filled.room)

-- where an inner node is the same but for its status, it is one
pub is-inner : (nodes : ℕ) (raw n m : ℕ → ℕ) (l : ℕ) (lo hi : Option (List ℕ)) → 0 < (page n).level → WholeInner nodes raw (page n) l lo hi → SameRecords n m → IsInner m
is-inner nodes raw n m l lo hi inner w s = record {
  some = omega (arith, w.settled.some, s.count);
  few = omega (arith, few-records nodes raw (page n) l lo hi w, s.count);
  room = omega (arith, w.filled.room, s.count, s.block);
  lengths = λ j c. subst (λ z. IsInnerRecord j z) (sym (meta j c)) (w.lengths j (counted j c));
  inside = λ j c. subst (λ z. IsInBlock (page m) z) (sym (meta j c)) (record { starts = omega (arith, (w.inside j (counted j c)).starts, s.block); ends = (w.inside j (counted j c)).ends });
  apart = λ i j c d ne. subst (λ z. Disjoint z ((page m).meta j)) (sym (meta i c)) (subst (λ z. Disjoint ((page n).meta i) z) (sym (meta j d)) (w.apart i j (counted i c) (counted j d) ne));
  key = λ j p c. subst (λ z. IsSome (unpacked_key (extent_of z).key (key_words m (extent_of z)))) (sym (meta j c))
      (subst (λ z. IsSome (unpacked_key (extent_of ((page n).meta j)).key z)) (key j c) (w.key j p (counted j c)).packs);
}
  where
    counted : (j : ℕ) → j < (page m).count → j < (page n).count
    counted j c = omega (arith, c, s.count)

    meta : (j : ℕ) → j < (page m).count → (page m).meta j ≡ (page n).meta j
    meta j c = ap meta_of (s.words (META_AT + j) (λ e. omega (arith, e)) (inl (omega (arith, c, s.count))))

    key : (j : ℕ) → j < (page m).count → key_words n (extent_of ((page n).meta j)) ≡ key_words m (extent_of ((page n).meta j))
    key j c = words_at-same n m (extent_of ((page n).meta j)).offset (packed_len (extent_of ((page n).meta j)).key) (λ t l.
        let b = w.inside j (counted j c) in
        sym (s.words ((extent_of ((page n).meta j)).offset + t) (λ e. omega (arith, e, b.starts, w.filled.room)) (inr (inr (inl inner)))))
