-- The swap that turns the root pointer without its guard, with nodes that are frozen besides.
use Rattle.std.proofs.Common.{◌≡◌, ◌≢◌, ℕ, ◌+◌, ◌-◌, ◌^◌, ◌<◌, ◌==◌, ◌||◌, ◌⊎◌, Bool, true, false, List, [], ◌∷◌, arith, refl, sym, ap, subst, ◌∙◌, inl, inr}
use Rattle.std.proofs.lemmas.Bool.{true≢false, cases_lt}
use Rattle.std.proofs.lemmas.Bool.Decides.{nat_tests}
use Rattle.bz_layout.specs.Addresses.{node_address}
use Rattle.bz_layout.specs.declared.sizes.TheConstants.{NODE_WORDS, STATUS_AT, ROOT_AT, ROOT_STATUS_AT}
use Rattle.bz_layout.proofs.Laws.{slots_apart}
use Rattle.bz_tree.specs.Form.{Fits, Stands}
use Rattle.bz_tree.specs.Walk.{is_among}
use Rattle.bz_word.specs.declared.entry.Entry.{Entry}
use Rattle.bz_word.proofs.Proved.{statuses}
use Rattle.bz_content.specs.Changes.{SameNode}
use Rattle.bz_content.specs.Content.{image_of, view_in}
use Rattle.bz_content.specs.Resolving.{resolve}
use Rattle.bz_content.specs.Swaps.{TurnsLink}
use Rattle.bz_task.specs.FromSwap.SwapMemory.{is_target}
use Rattle.bz_task.specs.Good.{IsGood}
use Rattle.bz_task.specs.Instant.{Instant, words, page_at, form_at}
use Rattle.bz_task.specs.Laws.{SlotWords}
use Rattle.bz_task.specs.Requests.{IsTarget}
use Rattle.bz_task.specs.Scene.{Scene, IsScene, here}
use Rattle.bz_task.specs.Swaps.{Stand, SwapsTo, swapped}
use Rattle.bz_task.proofs.Proved.{same_records_show_the_same, swaps_show_in_slots}
use Rattle.bz_renew.specs.Freezings.{Freezing, slots_of}
use Rattle.bz_renew.specs.LinkSwaps.{IsChanged}
use Rattle.bz_renew.specs.Turning.{AreGoing}
use Rattle.bz_renew.proofs.Freezings.{slot-far}
use Rattle.bz_renew.proofs.FrozenNodes.{IsFrozenNow, moves, now-frozen, records}
use Rattle.bz_renew.proofs.Words.{node-at}
use Rattle.bz_inner.specs.Relinks.{root_entry, relink_with, TurnsRootWith, RootsTurnWith}
use Rattle.bz_inner.proofs.Relinks.{IsFrozenBy, far-set, far-target, frozen-by, named-by, not-root, root-holds}
use Rattle.bz_inner.proofs.Roots.{form-fits, root-stamp}

is : (a : ℕ) → (a == a) ≡ true
is a = grind (arith, nat_tests)

-- the one target of the root's entry
only-root : (old to a : ℕ) → is_target (root_entry old to ∷ []) a ≡ true → ROOT_AT ≡ a
only-root old to a h = go (ROOT_AT == a) refl h
  where
    go : (t : Bool) → (ROOT_AT == a) ≡ t → t || false ≡ true → ROOT_AT ≡ a
    go true e q = grind (arith, nat_tests)
    go false e q = absurd (cc)

module _ (s : Scene) (y : Instant) (old to : ℕ) (fs : List Freezing) (gone : List ℕ) (good : IsScene s) (slot : to < s.past.config.nodes) (going : AreGoing fs gone s)
    (stand : Stand (relink_with s.past.config old to fs) (here s)) (swaps : SwapsTo s.past.config (relink_with s.past.config old to fs) (here s) y) where
  g : IsGood s.past.config (here s)
  g = good.history.good s.past.now good.begun (omega arith)

  pointer-now : (here s).value ROOT_AT ≡ old + 1
  pointer-now = root-holds s.past.config old to (λ (e : Entry). (here s).value e.target ≡ e.expected) fs stand

  fit : Fits (view_in s.past.config (here s).image) (form_at s.past.config (here s))
  fit = form-fits s.past.config (here s) g

  -- the slot is the root
  slot-stands : Stands (view_in s.past.config (here s).image) (form_at s.past.config (here s)) s.past.config.nodes 0 old
  slot-stands =
      let child : (view_in s.past.config (here s).image).child s.past.config.nodes 0 ≡ old = rw (is s.past.config.nodes) (omega (arith, g.root, pointer-now)) in
      subst (λ z. Stands (view_in s.past.config (here s).image) (form_at s.past.config (here s)) s.past.config.nodes 0 z) child
      (fit.down s.past.config.nodes 0 fit.top (omega (arith, fit.height, fit.tall)) (omega (arith, fit.top_one)))

  -- the root pointer is set, and the root status is left
  pointer-set : (f : ℕ → ℕ) → swapped (relink_with s.past.config old to fs) f ROOT_AT ≡ to + 1
  pointer-set f = far-set s.past.config old to fs f ROOT_AT (λ k e q. absurd (omega (arith, q)))

  status-left : (f : ℕ → ℕ) → swapped (relink_with s.past.config old to fs) f ROOT_STATUS_AT ≡ f ROOT_STATUS_AT
  status-left f = far-set s.past.config old to fs f ROOT_STATUS_AT (λ k e q. absurd (omega (arith, q)))

  -- what is left of slots: every word but the statuses of the nodes that are frozen
  left : (f : ℕ → ℕ) (k i : ℕ) → i < NODE_WORDS → (is_among (slots_of fs) k ≡ false) ⊎ (i ≢ STATUS_AT) → swapped (relink_with s.past.config old to fs) f (node_address s.past.config k + i) ≡ f (node_address s.past.config k + i)
  left f k i l far = far-set s.past.config old to fs f (node_address s.past.config k + i) (slot-far slots_apart s.past.config fs k i l far) ∙ rw (not-root s.past.config k i) refl

  kept-out : (k : ℕ) → is_among gone k ≡ false → is_among (slots_of fs) k ≡ false
  kept-out k out = go (is_among (slots_of fs) k) refl
    where
      go : (t : Bool) → is_among (slots_of fs) k ≡ t → is_among (slots_of fs) k ≡ false
      go false e = e
      go true e = absurd (true≢false (sym (going.go k e) ∙ out))

  slot-same : (k : ℕ) → is_among (slots_of fs) k ≡ false → SameNode s.past.config (image_of (here s).image) (image_of y.image) k
  slot-same k out = record {
    words = λ i l. swaps.resolved (node_address s.past.config k + i) (inr (omega arith)) ∙ left (resolve (here s).image) k i l (inl out);
    stands = λ i from free. (swaps_show_in_slots s.past.config (relink_with s.past.config old to fs) (here s) y k swaps).raw i;
  }

  frozen : (k : ℕ) → is_among (slots_of fs) k ≡ true → IsFrozenBy old to fs s k
  frozen k e = frozen-by old to s fs going.freezable stand k e

  turns-link : TurnsLink s.past.config (image_of (here s).image) (image_of y.image) s.past.config.nodes 0 to gone
  turns-link =
      let stamp : resolve y.image ROOT_STATUS_AT ≡ (here s).value ROOT_STATUS_AT = swaps.resolved ROOT_STATUS_AT (inl (omega arith)) ∙ (status-left (resolve (here s).image) ∙ g.root_status) in
      record {
        inside = fit.top;
        inner = omega (arith, fit.height, fit.tall);
        first = λ e. refl;
        at_root = λ e. record {
          pointer = swaps.resolved ROOT_AT (inl (omega arith)) ∙ pointer-set (resolve (here s).image);
          slot = slot;
          status = subst (λ w. w < 2 ^ 32) (sym stamp) (root-stamp s.past.config (here s) g);
        };
        below_root = λ ne. absurd (ne refl);
        others = λ j i ne far kept. slot-same j (kept-out j kept);
      }

  named : (a : ℕ) → is_target (relink_with s.past.config old to fs) a ≡ true → IsTarget s a
  named a t = elim (named-by s.past.config old to fs a t) [
    | inl r ↦ inl (sym (only-root old to a r))
    | inr w ↦ inr (inr (record { slot = w.0; place = STATUS_AT; address = sym w.1.1; within = omega arith; reached = (frozen w.0 w.1.0).freezable.reached; kind = inl refl }))
  ]

  -- a node that is frozen
  module _ (k : ℕ) (among : is_among (slots_of fs) k ≡ true) where
    words-of : SlotWords s.past.config (relink_with s.past.config old to fs) (here s) y k
    words-of = swaps_show_in_slots s.past.config (relink_with s.past.config old to fs) (here s) y k swaps

    w : IsFrozenBy old to fs s k
    w = frozen k among

    frozen-read : IsFrozenNow w.word (words s.past.config (here s) k) (words s.past.config y k)
    frozen-read = record {
      was = node-at s.past.config (here s).value k STATUS_AT (omega arith) ∙ w.stands;
      status = (words-of.within STATUS_AT (omega arith)).value ∙ w.sets (here s).value;
      others = λ i n. elim (cases_lt i NODE_WORDS) [
        | inl h ↦ (words-of.within i h).value ∙ (left (here s).value k i h (inr n) ∙ sym (words-of.within i h).before)
        | inr h ↦ words-of.past i h
      ];
    }

    frozen-after : (page_at s.past.config y k).frozen ≡ true
    frozen-after = now-frozen statuses w.word _ _ w.freezable.plain frozen-read

    frozen-changed : IsChanged s y k
    frozen-changed = record {
      reached = w.freezable.reached;
      moved = moves statuses w.word _ _ w.freezable.plain frozen-read w.freezable.thawed;
      shown = λ i h. (same_records_show_the_same (words s.past.config (here s) k) (words s.past.config y k) (records statuses w.word _ _ w.freezable.plain frozen-read) i).1 h;
    }

  old-slot : old ≡ (here s).value ROOT_AT - 1
  old-slot = omega (arith, pointer-now)

  turned : TurnsRootWith old to fs gone s y
  turned = record {
    pointer = pointer-now;
    inside = slot-stands.inside;
    up = slot-stands.up;
    index = slot-stands.index;
    turns = turns-link;
    targets = named;
    others = λ k i f l. far-target s.past.config old to fs (node_address s.past.config k + i) (slot-far slots_apart s.past.config fs k i l (inl f)) ∙ rw (not-root s.past.config k i) refl;
    changes = frozen-changed;
    root = λ is_frozen. inr (subst (λ k. (page_at s.past.config y k).frozen ≡ true) old-slot is_frozen);
    freezes = frozen-after;
  }

pub roots-turn : RootsTurnWith
roots-turn s y old to fs gone good slot going stand swaps = turned s y old to fs gone good slot going stand swaps
