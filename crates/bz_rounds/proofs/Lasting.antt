-- In a quiet time the key's leaf has the status and the metadata words that it had, and the nodes above it have their statuses: so its live
-- words, the height of the tree and the stage of the key are what they were.
use Rattle.std.proofs.Common.{◌≡◌, ◌≢◌, ℕ, ◌+◌, ◌-◌, ◌<◌, if◌then◌else◌, ◌&&◌, Bool, true, List, arith, refl, sym, ap, ◌∙◌, inl, inr}
use Rattle.std.specs.Prelude.{not, nat_lt, nat_le}
use Rattle.std.proofs.lemmas.Bool.{cases_lt}
use Rattle.bz_layout.specs.Addresses.{node_address}
use Rattle.bz_layout.specs.declared.config.Config.{Config}
use Rattle.bz_layout.specs.declared.sizes.TheConstants.{NODE_WORDS, STATUS_AT, HEADER_AT, META_AT, SHARED_WORDS, ROOT_AT}
use Rattle.bz_layout.specs.declared.thresholds.TheConstants.{SPLIT_ABOVE, INNER_LIMIT}
use Rattle.bz_tree.proofs.TreeForms.{fits}
use Rattle.bz_tree.specs.Form.{Fits, Holds}
use Rattle.bz_tree.specs.Order.{is_at_least, is_below}
use Rattle.bz_tree.specs.Walk.{IsTree}
use Rattle.bz_tree.proofs.Proved.{leaves_tile_the_keys}
use Rattle.bz_slotted.specs.Page.{page, meta_of}
use Rattle.bz_slotted.specs.Readers.{level_of}
use Rattle.bz_slotted.specs.Records.{live_to, live_words}
use Rattle.bz_word.specs.Headers.{header}
use Rattle.bz_word.specs.Statuses.{status}
use Rattle.bz_content.proofs.Reached.{root-stands, root-below}
use Rattle.bz_content.specs.Content.{image_of, leaf_in, view_in}
use Rattle.bz_content.specs.Image.{root}
use Rattle.bz_content.specs.Resolving.{resolve}
use Rattle.bz_content.proofs.Proved.{well_formed_images_have_no_fault}
use Rattle.bz_stage.specs.FromLeaves.Neighbours.{leaf_page}
use Rattle.bz_task.specs.Good.{IsGood}
use Rattle.bz_task.specs.Instant.{Instant, words, durable, form_at, is_inside}
use Rattle.bz_task.specs.Laws.{SamePlace}
use Rattle.bz_task.specs.Scene.{Scene, IsScene}
use Rattle.bz_task.specs.Shown.{IsShown}
use Rattle.bz_renew.proofs.Words.{node-at, node-past}
use Rattle.bz_stage.proofs.Paths.{path-found, path-unique, below-top}
use Rattle.bz_stage.proofs.Runs.{run-same}
use Rattle.bz_stage.specs.Paths.{on_path, run_from, StandsOver}
use Rattle.bz_stage.specs.Rooms.{is_crowded, is_full, words_taken}
use Rattle.bz_stage.specs.Stages.{page_on_path, root_level, full_above}
use Rattle.bz_undisturbed.specs.Quiet.{IsQuietSince, IsIn}
use Rattle.bz_undisturbed.specs.Trees.{SameTree}
use Rattle.bz_undisturbed.proofs.Proved.{read_values_stand, trees_stand}
use Rattle.bz_rounds.specs.Stands.{SameStage, StagesStand}
use Rattle.bz_tally.proofs.Lives.{live-same}

-- the stage of a leaf by all that it depends on
abbrev stage_by : Bool → ℕ → Bool → ℕ → ℕ → ℕ
stage_by frozen taken crowded full need =
    if not frozen && nat_le (taken + need) SHARED_WORDS then 0
    else if frozen then 1 + (if crowded then full else 0)
    else 1 + (1 + (if crowded then full else 0))

module _ (s : Scene) (m i j : ℕ) (key : List ℕ) (good : IsScene s) (q : IsQuietSince m s.past) (in-i : IsIn m s.past i) (in-j : IsIn m s.past j) where
  abbrev c : Config
  c = s.past.config

  abbrev x : Instant
  x = s.past.at i

  abbrev y : Instant
  y = s.past.at j

  good-x : IsGood s.past.config (s.past.at i)
  good-x = good.history.good i (omega (arith, q.since, in-i.from)) in-i.to

  good-y : IsGood s.past.config (s.past.at j)
  good-y = good.history.good j (omega (arith, q.since, in-j.from)) in-j.to

  tree-x : IsTree (view_in s.past.config (s.past.at i).image)
  tree-x = ((well_formed_images_have_no_fault c x.image).0 good-x.form).tree

  tree-y : IsTree (view_in s.past.config (s.past.at j).image)
  tree-y = ((well_formed_images_have_no_fault c y.image).0 good-y.form).tree

  fits-x : Fits (view_in s.past.config (s.past.at i).image) (form_at s.past.config (s.past.at i))
  fits-x = fits (view_in c x.image) tree-x

  same : SameTree s.past.config (s.past.at i) (s.past.at j)
  same = trees_stand s m i j good q in-i in-j

  -- a node of the tree
  module _ (k : ℕ) (ne : k ≢ s.past.config.nodes) (inside : is_inside s.past.config (s.past.at i) k ≡ true) where
    reached-x : (s.past.at i).reached k ≡ true
    reached-x = good-x.inside k inside ne

    reached-y : (s.past.at j).reached k ≡ true
    reached-y = good-y.inside k (same.inside k ∙ inside) ne

    word-same : (p : ℕ) → IsShown (words c x k) p → words c y k p ≡ words c x k p
    word-same p h = elim (cases_lt p NODE_WORDS) [
      | inl l ↦
          node-at c y.value k p l
          ∙ (read_values_stand s m i (node_address c k + p) good q in-i (inr (inr (record { slot = k; place = p; address = refl; within = l; reached = reached-x; shown = h }))) j i in-j in-i ∙ sym (node-at c x.value k p l))
      | inr l ↦ node-past c y.value k p l ∙ sym (node-past c x.value k p l)
    ]

    -- a word that readers read at both moments, in the image
    durable-same : (p : ℕ) → IsShown (words c x k) p → IsShown (words c y k) p → durable c y k p ≡ durable c x k p
    durable-same p h g = good-y.shown k p reached-y g ∙ (word-same p h ∙ sym (good-x.shown k p reached-x h))

    front-same : (p : ℕ) → p < META_AT → durable c y k p ≡ durable c x k p
    front-same p l = durable-same p (inl (omega (arith, l))) (inl (omega (arith, l)))

    count-x : (page (durable c x k)).count ≡ (page (words c x k)).count
    count-x = ap (λ z. (status z).count) (good-x.shown k STATUS_AT reached-x (inl (omega arith)))

    count-y : (page (durable c x k)).count ≡ (page (words c y k)).count
    count-y = count-x ∙ ap (λ z. (status z).count) (sym (word-same STATUS_AT (inl (omega arith))))

    live-is : live_words (page (durable c y k)) ≡ live_words (page (durable c x k))
    live-is =
        ap (live_to (page (durable c y k)).meta) (ap (λ z. (status z).count) (front-same STATUS_AT (omega arith)))
        ∙ live-same (page (durable c y k)).meta (page (durable c x k)).meta (page (durable c x k)).count
        (λ t l. ap meta_of (durable-same (META_AT + t) (inl (omega (arith, l, count-x))) (inl (omega (arith, l, count-y)))))

  -- the key's leaf
  abbrev leaf : ℕ
  leaf = leaf_in s.past.config (s.past.at i).image key

  holds : Holds (form_at s.past.config (s.past.at i)) key (leaf_in s.past.config (s.past.at i).image key)
  holds = (leaves_tile_the_keys (view_in c x.image) tree-x key leaf).1 refl

  leaf-below : leaf_in s.past.config (s.past.at i).image key ≢ s.past.config.nodes
  leaf-below e = absurd (omega (arith, holds.leaf, fits-x.height, fits-x.tall, ap (form_at c x).level e))

  leaf-status : durable c y leaf STATUS_AT ≡ durable c x leaf STATUS_AT
  leaf-status = front-same leaf leaf-below holds.inside STATUS_AT (omega arith)

  frozen-same : (leaf_page c (image_of y.image) key).frozen ≡ (leaf_page c (image_of x.image) key).frozen
  frozen-same = ap (λ k. (page (durable c y k)).frozen) (same.leaf key) ∙ ap (λ z. (status z).frozen) leaf-status

  taken-same : words_taken (leaf_page c (image_of y.image) key) ≡ words_taken (leaf_page c (image_of x.image) key)
  taken-same = ap (λ k. words_taken (page (durable c y k))) (same.leaf key) ∙ ap (λ z. (status z).count + (status z).block) leaf-status

  live-stays : live_words (leaf_page c (image_of y.image) key) ≡ live_words (leaf_page c (image_of x.image) key)
  live-stays = ap (λ k. live_words (page (durable c y k))) (same.leaf key) ∙ live-is leaf leaf-below holds.inside

  crowded-same : is_crowded (leaf_page c (image_of y.image) key) ≡ is_crowded (leaf_page c (image_of x.image) key)
  crowded-same = ap (λ n. nat_lt SPLIT_ABOVE n) live-stays

  -- the root, and its level
  root-same : root (resolve y.image) ≡ root (resolve x.image)
  root-same = ap (λ z. z - 1) (good-y.root ∙ (read_values_stand s m i ROOT_AT good q in-i (inl refl) j i in-j in-i ∙ sym good-x.root))

  levels-same : root_level c (image_of y.image) ≡ root_level c (image_of x.image)
  unfolding level_of
  levels-same =
      ap (λ k. level_of (durable c y k)) root-same
      ∙ ap (λ z. (header z).level) (front-same (root (resolve x.image)) (root-below c (image_of x.image) fits-x) (root-stands c (image_of x.image) fits-x).inside HEADER_AT (omega arith))

  -- a node on the way to the key
  module _ (level : ℕ) (within : level < 1 + root_level s.past.config (image_of (s.past.at i).image)) where
    abbrev k : ℕ
    k = on_path (view_in s.past.config (s.past.at i).image) key level

    over : StandsOver (form_at c x) key level k
    over = path-found (view_in c x.image) (form_at c x) key level tree-x.honest fits-x (omega (arith, within))

    below : k ≢ s.past.config.nodes
    below = below-top (view_in c x.image) (form_at c x) key level k fits-x (omega (arith, within)) over

    path-same : on_path (view_in c y.image) key level ≡ k
    path-same =
        let p : SamePlace c x y k = same.place k below over.inside in
        path-unique (view_in c y.image) (form_at c y) key level k tree-y.honest (fits (view_in c y.image) tree-y) (omega (arith, within, levels-same))
        (record { inside = same.inside k ∙ over.inside; at_level = p.level ∙ over.at_level; low = ap (is_at_least key) p.low ∙ over.low; high = ap (is_below key) p.high ∙ over.high })

    full-same : is_full (page_on_path c (image_of y.image) key level) ≡ is_full (page_on_path c (image_of x.image) key level)
    full-same = ap (λ n. is_full (page (durable c y n))) path-same ∙ ap (λ z. nat_lt INNER_LIMIT ((status z).count + (status z).block)) (front-same k below over.inside STATUS_AT (omega arith))

  above-same : full_above c (image_of y.image) key ≡ full_above c (image_of x.image) key
  above-same =
      ap (run_from (λ level. is_full (page_on_path c (image_of y.image) key level)) 1) levels-same
      ∙ run-same (λ level. is_full (page_on_path c (image_of y.image) key level)) (λ level. is_full (page_on_path c (image_of x.image) key level)) 1 (root_level c (image_of x.image)) (λ level some within. full-same level within)

  pub same-stage : SameStage s.past.config (s.past.at i) (s.past.at j) key
  same-stage = record {
    frozen = frozen-same;
    crowded = crowded-same;
    live = live-stays;
    height = ap (λ n. n + 1) levels-same;
    stage = λ need t. stage_by (frozen-same t) (taken-same t) (crowded-same t) (above-same t) need;
  }

pub stages-stand : StagesStand
stages-stand s m i j key good q in-i in-j = same-stage s m i j key good q in-i in-j
