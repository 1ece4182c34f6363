-- The key's leaf as it was read whole, while nobody's swap takes effect: it is so now.
use Rattle.std.proofs.Common.{◌≡◌, ℕ, ◌+◌, ◌<◌, true, List, arith, refl, sym, ap, ◌∙◌, inl}
use Rattle.std.specs.Prelude.{slice_index, nat_lt}
use Rattle.bz_layout.specs.declared.config.Config.{Config}
use Rattle.bz_layout.specs.declared.sizes.TheConstants.{STATUS_AT, META_AT}
use Rattle.bz_layout.specs.declared.thresholds.TheConstants.{SPLIT_ABOVE}
use Rattle.bz_tree.specs.Form.{Holds}
use Rattle.bz_tree.proofs.Proved.{leaves_tile_the_keys}
use Rattle.bz_slotted.specs.Page.{page, meta_of}
use Rattle.bz_slotted.specs.ReadingLaws.{node_of}
use Rattle.bz_slotted.specs.Readers.{live_of}
use Rattle.bz_slotted.specs.Records.{live_to, live_words}
use Rattle.bz_slotted.specs.Whole.{Whole}
use Rattle.bz_slotted.proofs.Proved.{leaf_rules_are_facts}
use Rattle.bz_word.specs.Statuses.{status}
use Rattle.bz_content.specs.Content.{image_of, leaf_in, view_in}
use Rattle.bz_content.proofs.Proved.{well_formed_images_have_no_fault}
use Rattle.bz_stage.specs.FromLeaves.Neighbours.{leaf_page}
use Rattle.bz_task.specs.Good.{IsGood}
use Rattle.bz_task.specs.Instant.{words, durable, form_at}
use Rattle.bz_task.specs.Outcomes.{IsView}
use Rattle.bz_task.specs.Scene.{Scene, IsScene, here}
use Rattle.bz_task.specs.declared.view.LeafView.{LeafView}
use Rattle.bz_undisturbed.specs.Quiet.{IsQuietSince}
use Rattle.bz_undisturbed.proofs.Proved.{undisturbed_times_are_quiet}
use Rattle.bz_rounds.specs.Stands.{UndisturbedViewsTellTheLeaf}
use Rattle.bz_tally.proofs.Lives.{live-same}
use Rattle.bz_rounds.proofs.Staying.{reached-at, good-then, same-tree, word-stays}

live-is : (n : ℕ → ℕ) → live_of n ≡ live_words (page n)
unfolding live_of
live-is n = refl

module _ (s : Scene) (good : IsScene s) (q : IsQuietSince s.past.since s.past) (key : List ℕ) (view : LeafView) (w : IsView key view s.past) where
  abbrev c : Config
  c = s.past.config

  now : IsGood s.past.config (here s)
  now = good.history.good s.past.now good.begun (omega arith)

  earlier : IsGood s.past.config (s.past.at view.at)
  earlier = good-then s good q view.at w.since w.now

  holds : Holds (form_at c (s.past.at view.at)) key view.slot
  holds = (leaves_tile_the_keys (view_in c (s.past.at view.at).image) ((well_formed_images_have_no_fault c (s.past.at view.at).image).0 earlier.form).tree key view.slot).1 w.leaf

  reached : (s.past.at view.at).reached view.slot ≡ true
  reached = reached-at c (s.past.at view.at) view.slot earlier w.slot holds.inside

  reached-now : (here s).reached view.slot ≡ true
  reached-now = reached-at c (here s) view.slot now w.slot ((same-tree s good q view.at w.since w.now).inside view.slot ∙ holds.inside)

  leaf : leaf_in c (here s).image key ≡ view.slot
  leaf = (same-tree s good q view.at w.since w.now).leaf key ∙ w.leaf

  -- a word of its front as it was viewed
  status-viewed : slice_index view.image.0 STATUS_AT ≡ words c (s.past.at view.at) view.slot STATUS_AT
  status-viewed = w.words STATUS_AT (omega arith) (inl (omega arith))

  status-now : durable c (here s) view.slot STATUS_AT ≡ slice_index view.image.0 STATUS_AT
  status-now =
      now.shown view.slot STATUS_AT reached-now (inl (omega arith))
      ∙ (word-stays s good q view.at w.since w.now view.slot STATUS_AT reached (inl (omega arith)) ∙ sym status-viewed)

  count-then : (status (words c (s.past.at view.at) view.slot STATUS_AT)).count ≡ (status (slice_index view.image.0 STATUS_AT)).count
  count-then = ap (λ z. (status z).count) (sym status-viewed)

  count-now : (status (words c (here s) view.slot STATUS_AT)).count ≡ (status (slice_index view.image.0 STATUS_AT)).count
  count-now = ap (λ z. (status z).count) (sym (now.shown view.slot STATUS_AT reached-now (inl (omega arith))) ∙ status-now)

  whole : Whole (node_of view.image.0) (page (node_of view.image.0)) ((form_at c (s.past.at view.at)).low view.slot) ((form_at c (s.past.at view.at)).high view.slot)
  whole = (leaf_rules_are_facts c.nodes (node_of view.image.0) (node_of view.image.0) ((form_at c (s.past.at view.at)).low view.slot) ((form_at c (s.past.at view.at)).high view.slot)).0 w.whole

  meta-now : (j : ℕ) → j < (page (node_of view.image.0)).count → durable c (here s) view.slot (META_AT + j) ≡ slice_index view.image.0 (META_AT + j)
  meta-now j l =
      now.shown view.slot (META_AT + j) reached-now (inl (omega (arith, l, count-now)))
      ∙ (word-stays s good q view.at w.since w.now view.slot (META_AT + j) reached (inl (omega (arith, l, count-then)))
      ∙ sym (w.words (META_AT + j) (omega (arith, l, whole.filled.room)) (inl (omega (arith, l, count-then)))))

  live : live_words (page (durable c (here s) view.slot)) ≡ live_of (node_of view.image.0)
  live =
      ap (live_to (page (durable c (here s) view.slot)).meta) (ap (λ z. (status z).count) status-now)
      ∙ (live-same (page (durable c (here s) view.slot)).meta (page (node_of view.image.0)).meta (page (node_of view.image.0)).count (λ j l. ap meta_of (meta-now j l)) ∙ sym (live-is (node_of view.image.0)))

  pub frozen-now : (leaf_page c (image_of (here s).image) key).frozen ≡ (status view.status).frozen
  frozen-now = ap (λ k. (page (durable c (here s) k)).frozen) leaf ∙ ap (λ z. (status z).frozen) (status-now ∙ (status-viewed ∙ w.status))

  pub live-now : live_words (leaf_page c (image_of (here s).image) key) ≡ live_of (node_of view.image.0)
  live-now = ap (λ k. live_words (page (durable c (here s) k))) leaf ∙ live

pub views-tell-leaf : UndisturbedViewsTellTheLeaf
views-tell-leaf key view s good alone v =
    let q : IsQuietSince s.past.since s.past = undisturbed_times_are_quiet.whole s good alone in
    record { frozen = frozen-now s good q key view v; crowded = ap (λ n. nat_lt SPLIT_ABOVE n) (live-now s good q key view v) }
