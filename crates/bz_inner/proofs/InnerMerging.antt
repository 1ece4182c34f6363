-- The swap of a merge of two inner nodes under the root is lawful for everybody and changes no content.
use Rattle.std.proofs.Common.{◌≡◌, ◌≢◌, ℕ, ◌+◌, ◌<◌, ◌==◌, ◌||◌, ◌⊎◌, Bool, true, false, List, [], ◌∷◌, slice_index, arith, refl, sym, ap, subst, ◌∙◌, inl, inr, Option}
use Rattle.std.specs.Prelude.{None}
use Rattle.std.proofs.lemmas.Bool.Decides.{nat_tests}
use Rattle.bz_layout.specs.Addresses.{node_address}
use Rattle.bz_layout.specs.declared.config.Config.{Config}
use Rattle.bz_layout.specs.declared.sizes.TheConstants.{NODE_WORDS, STATUS_AT}
use Rattle.bz_tree.specs.Form.{Fits, Form, Stands}
use Rattle.bz_tree.specs.Outcomes.{Regrows}
use Rattle.bz_tree.specs.Slots.{Wider, Halves}
use Rattle.bz_tree.specs.View.{View}
use Rattle.bz_tree.specs.Walk.{is_among}
use Rattle.bz_tree.proofs.Trees.{among-first, among-later, not-among}
use Rattle.bz_slotted.specs.Readers.{count_of, child_of}
use Rattle.bz_slotted.specs.ReadingLaws.{node_of}
use Rattle.bz_slotted.specs.Rules.{node_fault}
use Rattle.bz_word.specs.declared.entry.Entry.{Entry}
use Rattle.bz_content.specs.Content.{image_of, view_in, IsWellFormed}
use Rattle.bz_content.specs.Image.{Image, node}
use Rattle.bz_content.specs.Resolving.{resolve}
use Rattle.bz_content.specs.Restructures.{children_of, StandsWhole}
use Rattle.bz_content.specs.Swaps.{TurnsLink}
use Rattle.bz_content.proofs.Proved.{plain_words_stand_for_themselves, well_formed_images_have_no_fault}
use Rattle.bz_levels.specs.Restructures.{JoinsInner}
use Rattle.bz_levels.proofs.Proved.{inner_joins_keep_the_content}
use Rattle.bz_task.specs.FromSwap.SwapMemory.{is_target}
use Rattle.bz_task.specs.Good.{IsGood}
use Rattle.bz_task.specs.Instant.{Instant, words, durable, page_at, form_at}
use Rattle.bz_task.specs.Scene.{Scene, IsScene, here}
use Rattle.bz_task.specs.Swaps.{Stand, SwapsTo}
use Rattle.bz_renew.specs.Freezings.{Freezing, freezing_entry}
use Rattle.bz_renew.specs.LinkSwaps.{IsFresh, IsLinkSwap}
use Rattle.bz_renew.specs.Turning.{AreGoing}
use Rattle.bz_renew.proofs.FreshSlots.{outside-tree, fresh-unchanged, raw-stays, durable-stays}
use Rattle.bz_renew.proofs.Inserting.{all-inserted-first, all-inserted-others}
use Rattle.bz_renew.proofs.Proved.{link_swaps_are_good}
use Rattle.bz_inner.specs.InnerMerges.{AreReadyJoined, InnerMergesAreGood, merge_swap, open_freezing, three_freezings}
use Rattle.bz_inner.specs.Relinks.{relink_with, TurnsRootWith}
use Rattle.bz_inner.proofs.Roots.{form-fits}
use Rattle.bz_inner.proofs.RootTurns.{roots-turn}
use Rattle.bz_inner.proofs.StillOpen.{StillOpen, still-open}

no : (a b : ℕ) → a ≢ b → (a == b) ≡ false
no a b ne = grind (arith, nat_tests)

-- a slot of a list of two
among-two : (q m k : ℕ) → is_among (q ∷ m ∷ []) k ≡ true → (q ≡ k) ⊎ (m ≡ k)
among-two q m k e = go (q == k) (m == k) refl refl e
  where
    go : (x z : Bool) → (q == k) ≡ x → (m == k) ≡ z → x || (z || false) ≡ true → (q ≡ k) ⊎ (m ≡ k)
    go true z p r h = inl (grind (arith, nat_tests))
    go false true p r h = inr (grind (arith, nat_tests))
    go false false p r h = absurd (cc)

module _ (s : Scene) (y : Instant) (a b p ma mb mp i q m : ℕ) (ra rb rp : List ℕ) (sep : List ℕ) (good : IsScene s) (f : AreReadyJoined a b p ma mb mp i q m ra rb rp sep s)
    (stand : Stand (merge_swap s.past.config a b p ra rb rp q) (here s)) (swaps : SwapsTo s.past.config (merge_swap s.past.config a b p ra rb rp q) (here s) y) where
  abbrev c : Config
  c = s.past.config

  abbrev form : Form
  form = form_at c (here s)

  abbrev view : View
  view = view_in c (here s).image

  abbrev stands : Entry → Type 0
  stands e = (here s).value e.target ≡ e.expected

  g : IsGood c (here s)
  g = good.history.good s.past.now good.begun (omega arith)

  -- the three statuses are as they were read, so the nodes are as they were
  abbrev rest_b : List Entry
  rest_b = relink_with c p q (open_freezing b rb ∷ open_freezing p rp ∷ [])

  abbrev rest_p : List Entry
  rest_p = relink_with c p q (open_freezing p rp ∷ [])

  abbrev rest_root : List Entry
  rest_root = relink_with c p q []

  stand-b : Stand rest_b (here s)
  stand-b = all-inserted-others stands (freezing_entry c (open_freezing a ra)) rest_b stand

  stand-p : Stand rest_p (here s)
  stand-p = all-inserted-others stands (freezing_entry c (open_freezing b rb)) rest_p stand-b

  left : StillOpen a ma ra s f.read.left
  left = still-open s a ma ra good f.read.left (all-inserted-first stands (freezing_entry c (open_freezing a ra)) rest_b stand)

  right : StillOpen b mb rb s f.read.right
  right = still-open s b mb rb good f.read.right (all-inserted-first stands (freezing_entry c (open_freezing b rb)) rest_p stand-b)

  parent : StillOpen p mp rp s f.read.parent
  parent = still-open s p mp rp good f.read.parent (all-inserted-first stands (freezing_entry c (open_freezing p rp)) rest_root stand-p)

  -- the two stand below the root, beside each other
  fit : Fits view form
  fit = form-fits c (here s) g

  parent-inner : 0 < form.level p
  parent-inner = omega (arith, parent.level, f.read.parent.node.node.inner)

  count-seen : view.count p ≡ count_of (node_of rp)
  count-seen = rw (no p c.nodes parent.below) (ap count_of parent.words)

  child-seen : (j : ℕ) → view.child p j ≡ child_of (node_of rp) j
  child-seen j = rw (no p c.nodes parent.below) (ap (λ n. child_of n j) parent.words)

  stands-a : Stands view form p i a
  stands-a = subst (λ k. Stands view form p i k) (child-seen i ∙ f.read.left_child) (fit.down p i parent.inside parent-inner (omega (arith, count-seen, f.read.within)))

  stands-b : Stands view form p (i + 1) b
  stands-b = subst (λ k. Stands view form p (i + 1) k) (child-seen (i + 1) ∙ f.read.right_child) (fit.down p (i + 1) parent.inside parent-inner (omega (arith, count-seen, f.read.within)))

  a-not-b : a ≢ b
  a-not-b e = absurd (omega (arith, stands-a.index, stands-b.index, ap form.index e))

  a-not-p : a ≢ p
  a-not-p e = absurd (omega (arith, stands-a.level, ap form.level e))

  b-not-p : b ≢ p
  b-not-p e = absurd (omega (arith, stands-b.level, ap form.level e))

  abbrev gone : List ℕ
  gone = a ∷ b ∷ p ∷ []

  abbrev frozen : List Freezing
  frozen = three_freezings a b p ra rb rp

  going : AreGoing frozen gone s
  going = record {
    freezable = (
      record { reached = left.reached; plain = f.read.left.plain; thawed = f.read.left.thawed },
      (
        not-among b a (p ∷ []) a-not-b (not-among p a [] a-not-p refl),
        (
          record { reached = right.reached; plain = f.read.right.plain; thawed = f.read.right.thawed },
          (
            not-among p b [] b-not-p refl,
            (record { reached = parent.reached; plain = f.read.parent.plain; thawed = f.read.parent.thawed }, (refl, tt)),
          ),
        ),
      ),
    );
    go = λ k e. e;
  }

  turns : TurnsRootWith p q frozen gone s y
  turns = roots-turn s y p q frozen gone good f.fresh_q.slot going stand swaps

  abbrev x : Image
  x = image_of (here s).image

  abbrev z : Image
  z = image_of y.image

  -- the words of a fresh slot afterwards are those that were stored
  module _ (k : ℕ) (fresh : IsFresh s k) where
    unnamed : (j : ℕ) → j < NODE_WORDS → is_target (merge_swap c a b p ra rb rp q) (node_address c k + j) ≡ false
    unnamed j n = turns.others k j (fresh-unchanged s y gone k good fresh turns.changes) n

    after : durable c y k ≡ words c (here s) k
    after = durable-stays plain_words_stand_for_themselves (merge_swap c a b p ra rb rp q) s y k good fresh unnamed swaps

    stands-after : (was now : ℕ) (low low_now high high_now : Option (List ℕ)) → now ≡ was → low_now ≡ low → high_now ≡ high → node_fault c.nodes (words c (here s) k) (words c (here s) k) was low high ≡ None → StandsWhole c z k now low_now high_now
    stands-after was now low low_now high high_now levels lows highs e =
        (λ j. node_fault c.nodes (raw-stays plain_words_stand_for_themselves (merge_swap c a b p ra rb rp q) s y k good fresh unnamed swaps j) (after j) (levels j) (lows j) (highs j)) ∙ e

  link : TurnsLink c x z (form.up (form.up a)) (form.index (form.up a)) q (a ∷ b ∷ form.up a ∷ [])
  link =
      subst (λ j. TurnsLink c x z (form.up j) (form.index j) q (a ∷ b ∷ j ∷ [])) (sym stands-a.up)
      (subst (λ u. TurnsLink c x z u (form.index p) q gone) (sym turns.up) (subst (λ k. TurnsLink c x z c.nodes k q gone) (sym turns.index) turns.turns))

  narrower : Wider (children_of (durable c y q)) (children_of (durable c (here s) (form.up a))) (form.index a) a b sep
  narrower =
      subst (λ n. Wider (children_of n) (children_of (durable c (here s) (form.up a))) (form.index a) a b sep) (sym (after q f.fresh_q))
      (subst (λ j. Wider (children_of (words c (here s) q)) (children_of (durable c (here s) j)) (form.index a) a b sep) (sym stands-a.up)
      (subst (λ n. Wider (children_of (words c (here s) q)) (children_of n) (form.index a) a b sep) (sym parent.words)
      (subst (λ k. Wider (children_of (words c (here s) q)) (children_of (node_of rp)) k a b sep) (sym stands-a.index) f.narrower)))

  joined : Halves (children_of (durable c y m)) (children_of (durable c (here s) a)) (children_of (durable c (here s) b)) (count_of (durable c (here s) a)) sep
  joined =
      subst (λ n. Halves (children_of n) (children_of (durable c (here s) a)) (children_of (durable c (here s) b)) (count_of (durable c (here s) a)) sep) (sym (after m f.fresh_m))
      (subst (λ n. Halves (children_of (words c (here s) m)) (children_of n) (children_of (durable c (here s) b)) (count_of n) sep) (sym left.words)
      (subst (λ n. Halves (children_of (words c (here s) m)) (children_of (node_of ra)) (children_of n) (count_of (node_of ra)) sep) (sym right.words) f.joined))

  pub joins : JoinsInner c x z a b q m sep
  joins = record {
    inside = stands-a.inside;
    inside_b = stands-b.inside;
    inner = omega (arith, left.level, f.read.left.node.node.inner);
    same_up = stands-b.up ∙ sym stands-a.up;
    next = stands-b.index ∙ ap (λ k. k + 1) (sym stands-a.index);
    deep = λ e. parent.below (sym stands-a.up ∙ e);
    fresh_q = outside-tree s q good f.fresh_q;
    fresh_m = outside-tree s m good f.fresh_m;
    two = f.two;
    link = link;
    child = (λ t. child_of (after q f.fresh_q t) (stands-a.index t)) ∙ f.child;
    narrower = narrower;
    joined = joined;
    whole_q = stands-after q f.fresh_q _ _ _ _ _ _ (ap form.level stands-a.up ∙ parent.level) (ap form.low stands-a.up ∙ parent.low) (ap form.high stands-a.up ∙ parent.high) f.whole_q;
    whole_m = stands-after m f.fresh_m _ _ _ _ _ _ left.level left.low right.high f.whole_m;
  }

  regrows : Regrows view (view_in c y.image) gone (q ∷ m ∷ [])
  regrows =
      let w : IsWellFormed c (here s).image = (well_formed_images_have_no_fault c (here s).image).0 g.form in
      subst (λ j. Regrows view (view_in c y.image) (a ∷ b ∷ j ∷ []) (q ∷ m ∷ [])) stands-a.up (inner_joins_keep_the_content c x z a b q m sep w.tree joins)

  last-in : is_among gone p ≡ true
  last-in = among-later a p (b ∷ p ∷ []) (among-later b p (p ∷ []) (among-first p p [] refl))

  link-swap : IsLinkSwap (merge_swap c a b p ra rb rp q) s gone gone (q ∷ m ∷ []) y
  link-swap = record {
    swaps = swaps;
    targets = turns.targets;
    others = turns.others;
    changes = turns.changes;
    root = turns.root (turns.freezes p last-in);
    fresh = λ k e. elim (among-two q m k e) [ inl h ↦ subst (IsFresh s) h f.fresh_q | inr h ↦ subst (IsFresh s) h f.fresh_m ];
    frozen = λ k e. turns.freezes k e;
    regrows = regrows;
  }

pub inner-merges : InnerMergesAreGood
inner-merges change s y a b p ma mb mp i q m ra rb rp sep good f stand swaps =
    link_swaps_are_good change (merge_swap s.past.config a b p ra rb rp q) s (a ∷ b ∷ p ∷ []) (a ∷ b ∷ p ∷ []) (q ∷ m ∷ []) y good (link-swap s y a b p ma mb mp i q m ra rb rp sep good f stand swaps)
