-- While nobody's swap takes effect, the nodes of the tree stand where they stood, and the words of them that readers read are what they were.
use Rattle.std.proofs.Common.{◌≡◌, ◌≢◌, ℕ, ◌+◌, ◌<◌, ◌≤◌, true, List, arith, refl, sym, ap, ◌∙◌, inl, inr}
use Rattle.std.specs.Prelude.{None}
use Rattle.std.proofs.lemmas.Bool.{cases_lt}
use Rattle.bz_layout.specs.Addresses.{node_address}
use Rattle.bz_layout.specs.declared.config.Config.{Config}
use Rattle.bz_layout.specs.declared.sizes.TheConstants.{NODE_WORDS}
use Rattle.bz_tree.proofs.TreeForms.{fits}
use Rattle.bz_tree.specs.Form.{Fits}
use Rattle.bz_tree.specs.Order.{is_at_least, is_below, is_within}
use Rattle.bz_tree.specs.Walk.{IsTree}
use Rattle.bz_slotted.specs.Rules.{node_fault}
use Rattle.bz_content.proofs.Honesty.{no}
use Rattle.bz_content.specs.Content.{view_in}
use Rattle.bz_content.specs.Image.{node}
use Rattle.bz_content.proofs.Proved.{well_formed_images_have_no_fault}
use Rattle.bz_task.specs.Good.{IsGood}
use Rattle.bz_task.specs.Instant.{Instant, words, durable, form_at, is_inside}
use Rattle.bz_task.specs.Laws.{SamePlace}
use Rattle.bz_task.specs.Scene.{Scene, IsScene, here}
use Rattle.bz_task.specs.Shown.{IsShown}
use Rattle.bz_task.proofs.Proved.{headers_say_the_level}
use Rattle.bz_renew.proofs.Words.{node-at, node-past, and-left, and-right}
use Rattle.bz_stage.specs.Paths.{StandsOver}
use Rattle.bz_undisturbed.specs.Quiet.{IsQuietSince, IsIn}
use Rattle.bz_undisturbed.specs.Trees.{SameTree}
use Rattle.bz_undisturbed.proofs.Proved.{read_values_stand, trees_stand}

-- a node of the tree, in a good memory
module _ (c : Config) (x : Instant) (k : ℕ) (g : IsGood c x) (within : k < c.nodes) (inside : is_inside c x k ≡ true) where
  pub tree-at : IsTree (view_in c x.image)
  tree-at = ((well_formed_images_have_no_fault c x.image).0 g.form).tree

  fits-at : Fits (view_in c x.image) (form_at c x)
  fits-at = fits (view_in c x.image) tree-at

  pub not-top : k ≢ c.nodes
  not-top e = absurd (omega (arith, e, within))

  pub reached-at : x.reached k ≡ true
  reached-at = g.inside k inside not-top

  pub below-height : (form_at c x).level k < (view_in c x.image).height
  below-height = (fits-at.hangs k inside not-top).lower

  pub no-fault : node_fault c.nodes (node c x.image k) (durable c x k) ((form_at c x).level k) ((form_at c x).low k) ((form_at c x).high k) ≡ None
  no-fault = rw (no k c.nodes not-top) at (fits-at.whole k inside not-top)

  -- all words of an inner node are read
  pub inner-shown : 0 < (form_at c x).level k → (i : ℕ) → IsShown (words c x k) i
  inner-shown high i = inr (inr (inl (omega (arith, high, (headers_say_the_level c x k g not-top inside).level))))

module _ (s : Scene) (good : IsScene s) (q : IsQuietSince s.past.since s.past) (m : ℕ) (from : s.past.since ≤ m) (to : m ≤ s.past.now) where
  abbrev c : Config
  c = s.past.config

  abbrev x : Instant
  x = s.past.at m

  in-time : IsIn s.past.since s.past m
  in-time = record { from = from; to = to }

  in-now : IsIn s.past.since s.past s.past.now
  in-now = record { from = good.begun; to = omega arith }

  pub good-then : IsGood c (s.past.at m)
  good-then = good.history.good m from to

  pub same-tree : SameTree c (s.past.at m) (here s)
  same-tree = trees_stand s s.past.since m s.past.now good q in-time in-now

  -- a word that is read
  pub word-stays : (k i : ℕ) → (s.past.at m).reached k ≡ true → IsShown (words c (s.past.at m) k) i → words c (here s) k i ≡ words c (s.past.at m) k i
  word-stays k i r h = elim (cases_lt i NODE_WORDS) [
    | inl l ↦
        node-at c (here s).value k i l
        ∙ (read_values_stand s s.past.since m (node_address c k + i) good q in-time (inr (inr (record { slot = k; place = i; address = refl; within = l; reached = r; shown = h }))) s.past.now m in-now in-time ∙ sym (node-at c (s.past.at m).value k i l))
    | inr l ↦ node-past c (here s).value k i l ∙ sym (node-past c (s.past.at m).value k i l)
  ]

  module _ (k : ℕ) (within : k < s.past.config.nodes) (inside : is_inside s.past.config (s.past.at m) k ≡ true) where
    pub inside-now : is_inside c (here s) k ≡ true
    inside-now = same-tree.inside k ∙ inside

    pub place-now : SamePlace c (s.past.at m) (here s) k
    place-now = same-tree.place k (not-top c x k good-then within inside) inside

    -- the words of an inner node, in the image
    pub inner-stays : 0 < (form_at c (s.past.at m)).level k → durable c (here s) k ≡ durable c (s.past.at m) k
    inner-stays high = λ t i. each i t
      where
        now : IsGood s.past.config (here s)
        now = good.history.good s.past.now good.begun (omega arith)

        each : (i : ℕ) → durable s.past.config (here s) k i ≡ durable s.past.config (s.past.at m) k i
        each i =
            now.shown k i (reached-at c (here s) k now within inside-now) (inner-shown c (here s) k now within inside-now (omega (arith, high, place-now.level)) i)
            ∙ (word-stays k i (reached-at c x k good-then within inside) (inner-shown c x k good-then within inside high i)
            ∙ sym (good-then.shown k i (reached-at c x k good-then within inside) (inner-shown c x k good-then within inside high i)))

    -- a node in whose range the key was
    pub stands-over : (key : List ℕ) (level : ℕ) → (form_at c (s.past.at m)).level k ≡ level → is_within key ((form_at c (s.past.at m)).low k) ((form_at c (s.past.at m)).high k) ≡ true → StandsOver (form_at c (here s)) key level k
    stands-over key level at range = record {
      inside = inside-now;
      at_level = place-now.level ∙ at;
      low = ap (is_at_least key) place-now.low ∙ and-left (is_at_least key ((form_at c (s.past.at m)).low k)) (is_below key ((form_at c (s.past.at m)).high k)) range;
      high = ap (is_below key) place-now.high ∙ and-right (is_at_least key ((form_at c (s.past.at m)).low k)) (is_below key ((form_at c (s.past.at m)).high k)) range;
    }
