-- The link to a child, which its pointer tells.
use Rattle.std.proofs.Common.{◌≡◌, ◌≢◌, ℕ, ◌+◌, ◌-◌, ◌<◌, ◌≤◌, true, List, arith, refl, sym, ap, subst, ◌∙◌, inl, inr}
use Rattle.std.specs.Prelude.{nat_lt}
use Rattle.std.proofs.lemmas.Bool.Decides.{nat_tests}
use Rattle.bz_layout.specs.Addresses.{node_address}
use Rattle.bz_layout.specs.declared.config.Config.{Config}
use Rattle.bz_layout.specs.declared.sizes.TheConstants.{NODE_WORDS, STATUS_AT, HEADER_AT}
use Rattle.bz_slotted.specs.Records.{pointer_at}
use Rattle.bz_slotted.specs.Whole.{WholeInner}
use Rattle.bz_word.specs.Headers.{header}
use Rattle.bz_content.specs.Image.{node}
use Rattle.bz_task.specs.Good.{IsGood}
use Rattle.bz_task.specs.Instant.{Instant, words, page_at, form_at}
use Rattle.bz_task.specs.Laws.{KeepsFront}
use Rattle.bz_task.specs.Outcomes.{IsLink}
use Rattle.bz_task.specs.Requests.{Answers}
use Rattle.bz_task.specs.Scene.{Scene, IsScene, here}
use Rattle.bz_task.specs.Shown.{SameSeparators}
use Rattle.bz_task.specs.declared.path.Link.{Link}
use Rattle.bz_task.specs.declared.path.Path.{Path}
use Rattle.bz_task.proofs.Proved.{separators_stay, fronts_stay}
use Rattle.bz_descend.specs.Ways.{HasKey, Chooses, Arrives, ArrivesAtInner}
use Rattle.bz_descend.specs.Inners.{IsInner, Opened, HasChosen}
use Rattle.bz_descend.specs.declared.sight.Probe.{Probe}
use Rattle.bz_descend.proofs.Children.{HasChild, child-has-key}
use Rattle.bz_descend.proofs.Inners.{whole-inner, Was, was-inside, is-inner}
use Rattle.bz_descend.proofs.Separators.{records-separators, pointer-kept, chooses-later, chooses-earlier}

-- a word of a slot
pub word-of : (c : Config) (x : Instant) (k i : ℕ) → i < NODE_WORDS → x.value (node_address c k + i) ≡ words c x k i
unfolding node
word-of c x k i l = let t : nat_lt i NODE_WORDS ≡ true = grind (arith, nat_tests) in rw t refl

-- the link that a pointer of a record tells
abbrev pub link_to : Config → Probe → ℕ → Link
link_to c r to = record { slot = to; link = node_address c r.slot + r.pointer; guard = node_address c r.slot + STATUS_AT; status = r.status }

-- a node was in the tree, with the key in its range, a level lower, while the address led to it
pub record Led (key : List ℕ) (s : Scene) (address height v : ℕ) : Type 0 where
  pub some : 0 < v
  pub was : ℕ
  pub since : s.past.since ≤ was
  pub until : was ≤ s.past.now
  pub has : HasKey key s.past.config (s.past.at was) (v - 1)
  pub level : (page_at s.past.config (s.past.at was) (v - 1)).level + 1 ≡ height
  pub led : (s.past.at was).value address ≡ (v - 1) + 1

module _ (key : List ℕ) (path : Path) (s : Scene) (good : IsScene s) where
  -- a node that was met is reached, with its header, at any later moment
  pub front-later : (k j : ℕ) (a : Arrives key path k s.past) → a.met ≤ j → j ≤ s.past.now → KeepsFront s.past.config (s.past.at a.met) (s.past.at j) k
  front-later k j a order until =
      let g : IsGood s.past.config (s.past.at a.met) = good.history.good a.met a.since a.until in
      fronts_stay s.past.config s.past.at s.past.since s.past.now a.met j k good.history (record { since = a.since; order = order; until = until }) (g.inside k a.has.inside (λ e. omega (arith, e, a.has.slot)))

  pub level-later : (k j : ℕ) (a : Arrives key path k s.past) → a.met ≤ j → j ≤ s.past.now → (page_at s.past.config (s.past.at j) k).level ≡ (page_at s.past.config (s.past.at a.met) k).level
  level-later k j a order until = ap (λ z. (header z).level) ((front-later k j a order until).front HEADER_AT (λ e. omega (arith, e)) (omega arith))

  -- so an inner node is one
  pub inner-later : (k j : ℕ) (a : ArrivesAtInner key path k s.past) → a.node.met ≤ j → j ≤ s.past.now → IsInner (words s.past.config (s.past.at j) k)
  inner-later k j a order until =
      let w : Was key s a.node.met j k = was-inside key s a.node.met j k good a.node.since order until a.node.has in
      let g : IsGood s.past.config (s.past.at w.was) = good.history.good w.was (omega (arith, a.node.since, w.since)) (omega (arith, w.until, until)) in
      let l : 0 < (page_at s.past.config (s.past.at w.was) k).level = omega (arith, w.level, a.inner) in
      is-inner s.past.config.nodes (node s.past.config (s.past.at w.was).image k) (words s.past.config (s.past.at w.was) k) (words s.past.config (s.past.at j) k)
      ((form_at s.past.config (s.past.at w.was)).level k) ((form_at s.past.config (s.past.at w.was)).low k) ((form_at s.past.config (s.past.at w.was)).high k)
      l (whole-inner s.past.config (s.past.at w.was) k g (λ e. omega (arith, e, w.has.slot)) w.has.inside l) w.same

  -- separators are as they were when the status was read
  pub kept : (k st : ℕ) (o : Opened key path k st s.past) → SameSeparators (words s.past.config (s.past.at o.guarded) k) (words s.past.config (here s) k)
  kept k st o =
      let a = o.at_inner.node in
      separators_stay s.past.config s.past.at s.past.since s.past.now o.guarded s.past.now k good.history (record { since = omega (arith, a.since, o.order); order = o.until; until = omega arith })
      (front-later k o.guarded a o.order o.until).reached (omega (arith, o.at_inner.inner, level-later k o.guarded a o.order o.until))

  module _ (r : Probe) (h : HasChosen key path r s.past) (v : ℕ) (told : Answers s (node_address s.past.config r.slot + r.pointer) v) where
    within : r.pointer < NODE_WORDS
    within = omega (arith, h.place, (h.opened.inner.inside h.child h.chooses.counted).ends, (h.opened.inner.lengths h.child h.chooses.counted).pointer)

    pub led : Led key s (node_address s.past.config r.slot + r.pointer) (page_at s.past.config (s.past.at h.opened.at_inner.node.met) r.slot).level v
    led =
        let c = s.past.config in
        let a = h.opened.at_inner in
        let w : Was key s a.node.met s.past.now r.slot = was-inside key s a.node.met s.past.now r.slot good a.node.since a.node.until (omega arith) a.node.has in
        let g : IsGood c (s.past.at w.was) = good.history.good w.was (omega (arith, a.node.since, w.since)) w.until in
        let l : 0 < (page_at c (s.past.at w.was) r.slot).level = omega (arith, w.level, a.inner) in
        let ne : r.slot ≢ c.nodes = λ e. omega (arith, e, w.has.slot) in
        let whole : WholeInner c.nodes (node c (s.past.at w.was).image r.slot) (page_at c (s.past.at w.was) r.slot) ((form_at c (s.past.at w.was)).level r.slot) ((form_at c (s.past.at w.was)).low r.slot) ((form_at c (s.past.at w.was)).high r.slot) = whole-inner c (s.past.at w.was) r.slot g ne w.has.inside l in
        let inner : IsInner (words c (s.past.at w.was) r.slot) = inner-later r.slot w.was a w.since w.until in
        let after : SameSeparators (words c (s.past.at h.opened.guarded) r.slot) (words c (here s) r.slot) = kept r.slot r.status h.opened in
        let before : SameSeparators (words c (s.past.at w.was) r.slot) (words c (here s) r.slot) = records-separators (words c (s.past.at w.was) r.slot) (words c (here s) r.slot) l w.same in
        let chosen : Chooses key (words c (s.past.at w.was) r.slot) h.child = chooses-earlier (words c (s.past.at w.was) r.slot) (words c (here s) r.slot) inner before key h.child (chooses-later (words c (s.past.at h.opened.guarded) r.slot) (words c (here s) r.slot) h.opened.inner after key h.child h.chooses) in
        let place : r.pointer ≡ pointer_at (page_at c (s.past.at w.was) r.slot) h.child =
        h.place ∙ (sym (pointer-kept (words c (s.past.at h.opened.guarded) r.slot) (words c (here s) r.slot) h.opened.inner after h.child h.chooses.counted) ∙ pointer-kept (words c (s.past.at w.was) r.slot) (words c (here s) r.slot) inner before h.child chosen.counted) in
        let now : words c (here s) r.slot r.pointer ≡ v = sym (word-of c (here s) r.slot r.pointer within) ∙ told.value in
        let then : words c (s.past.at w.was) r.slot r.pointer ≡ v = sym (w.same.words r.pointer (λ e. omega (arith, e, h.place, (h.opened.inner.inside h.child h.chooses.counted).starts, h.opened.inner.room)) (inr (inr (inl l)))) ∙ now in
        let some : 0 < v = subst (λ z. 0 < z) (ap (words c (s.past.at w.was) r.slot) (sym place) ∙ then) (whole.links h.child chosen.counted).some in
        let again : v ≡ (v - 1) + 1 = omega (arith, some) in
        let d : HasChild key c (s.past.at w.was) r.slot (v - 1) =
        child-has-key key c (s.past.at w.was) r.slot h.child (v - 1) g w.has l chosen (ap (words c (s.past.at w.was) r.slot) (sym place) ∙ (then ∙ again)) in
        record {
          some = some;
          was = w.was;
          since = omega (arith, a.node.since, w.since);
          until = w.until;
          has = d.has;
          level = d.level ∙ w.level;
          led = word-of c (s.past.at w.was) r.slot r.pointer within ∙ (then ∙ again);
        }

    pub is-link : IsLink key s.past (link_to s.past.config r (v - 1))
    is-link =
        let o = h.opened in
        let d = led in record {
          was = d.was;
          since = d.since;
          now = d.until;
          inside = d.has.inside;
          slot = d.has.slot;
          range = rw (d.has.low, d.has.high) refl;
          led = d.led;
          guarded = record {
            guarded = o.guarded;
            read = s.past.now;
            since = omega (arith, o.at_inner.node.since, o.order);
            order = o.until;
            now = omega arith;
            under = inr (record {
              parent = r.slot;
              place = r.pointer;
              reached = (front-later r.slot o.guarded o.at_inner.node o.order o.until).reached;
              within = within;
              child = record {
                inner = omega (arith, o.at_inner.inner, level-later r.slot o.guarded o.at_inner.node o.order o.until);
                child = h.child;
                counted = h.chooses.counted;
                place = h.place;
              };
              pointer = refl;
              guard = refl;
            });
            status = word-of s.past.config (s.past.at o.guarded) r.slot STATUS_AT (omega arith) ∙ o.value;
            slot = told.value ∙ omega (arith, d.some);
          };
        }
