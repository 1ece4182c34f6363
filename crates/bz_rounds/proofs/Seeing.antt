-- The key's leaf as it was looked at, while nobody's swap takes effect: it has its slot and its status now, and so much room.
use Rattle.std.proofs.Common.{◌≡◌, ℕ, ◌+◌, ◌<◌, ◌≤◌, Bool, true, false, List, None, arith, refl, sym, ap, subst, ◌∙◌, inl, inr}
use Rattle.bz_layout.specs.declared.config.Config.{Config}
use Rattle.bz_layout.specs.declared.sizes.TheConstants.{STATUS_AT, SHARED_WORDS}
use Rattle.bz_tally.specs.FromRecord.Records.{HasRoom, LacksRoom}
use Rattle.bz_tree.specs.Form.{Holds}
use Rattle.bz_tree.proofs.Proved.{leaves_tile_the_keys}
use Rattle.bz_slotted.specs.Page.{Page, page}
use Rattle.bz_slotted.specs.Rules.{node_fault}
use Rattle.bz_slotted.specs.Whole.{Whole}
use Rattle.bz_slotted.proofs.Proved.{leaf_rules_are_facts}
use Rattle.bz_word.specs.Statuses.{status}
use Rattle.bz_content.specs.Content.{image_of, leaf_in, view_in}
use Rattle.bz_content.specs.Image.{node}
use Rattle.bz_content.proofs.Proved.{well_formed_images_have_no_fault}
use Rattle.bz_stage.specs.FromLeaves.Neighbours.{leaf_page}
use Rattle.bz_task.specs.Good.{IsGood}
use Rattle.bz_task.specs.Instant.{Instant, words, durable, form_at}
use Rattle.bz_task.specs.Outcomes.{IsView, IsKeyView}
use Rattle.bz_task.specs.Scene.{Past, Scene, IsScene, here}
use Rattle.bz_task.specs.declared.view.KeyView.{KeyView}
use Rattle.bz_task.specs.declared.view.LeafView.{LeafView}
use Rattle.bz_stage.proofs.Leaves.{stage-lacking, stage-ready}
use Rattle.bz_stage.specs.Rooms.{words_taken}
use Rattle.bz_stage.specs.Stages.{full_above, frozen_stage, stage_of, stage_in}
use Rattle.bz_undisturbed.specs.Undisturbed.{IsUndisturbed}
use Rattle.bz_undisturbed.specs.FromRunning.MadeFor.{WasLeafOf}
use Rattle.bz_undisturbed.specs.Quiet.{IsQuietSince}
use Rattle.bz_undisturbed.proofs.Proved.{undisturbed_times_are_quiet}
use Rattle.bz_rounds.specs.Stands.{UndisturbedKeyViewsTellTheLeaf}
use Rattle.bz_rounds.specs.Viewed.{TellsTheStage, UndisturbedKeyViewsTellTheStage, UndisturbedViewsTellTheStage, UndisturbedViewsAgree}
use Rattle.bz_rounds.proofs.Lacking.{some}
use Rattle.bz_rounds.proofs.Staying.{reached-at, no-fault, good-then, same-tree, word-stays}

-- a leaf that lacks the words, frozen or not
lacking : (p : Page) (full words : ℕ) → SHARED_WORDS < words_taken p + words → 0 < stage_of p full words
lacking p full words h = by p.frozen refl
  where
    by : (frozen : Bool) → p.frozen ≡ frozen → 0 < stage_of p full words
    by true e = some p full words e
    by false e = let z : stage_of p full words ≡ 1 + frozen_stage p full = stage-lacking p full words e h in omega (arith, z)

-- the key's leaf was in this slot, and had this status, at a moment since the look-up began
pub record WasSeen (key : List ℕ) (slot st : ℕ) (p : Past) : Type 0 where
  pub was : WasLeafOf key slot p
  pub within : slot < p.config.nodes
  pub status : words p.config (p.at was.moment) slot STATUS_AT ≡ st

module _ (s : Scene) (good : IsScene s) (alone : IsUndisturbed 0 s.past) (key : List ℕ) (k st : ℕ) (w : WasSeen key k st s.past) where
  abbrev c : Config
  c = s.past.config

  abbrev then-it : Instant
  then-it = s.past.at w.was.moment

  q : IsQuietSince s.past.since s.past
  q = undisturbed_times_are_quiet.whole s good alone

  now : IsGood s.past.config (here s)
  now = good.history.good s.past.now good.begun (omega arith)

  earlier : IsGood s.past.config (s.past.at w.was.moment)
  earlier = good-then s good q w.was.moment w.was.since w.was.now

  holds : Holds (form_at c then-it) key k
  holds = (leaves_tile_the_keys (view_in c then-it.image) ((well_formed_images_have_no_fault c then-it.image).0 earlier.form).tree key k).1 w.was.leaf

  leaf-now : leaf_in s.past.config (here s).image key ≡ k
  leaf-now = (same-tree s good q w.was.moment w.was.since w.was.now).leaf key ∙ w.was.leaf

  holds-now : Holds (form_at c (here s)) key k
  holds-now = (leaves_tile_the_keys (view_in c (here s).image) ((well_formed_images_have_no_fault c (here s).image).0 now.form).tree key k).1 leaf-now

  status-now : durable s.past.config (here s) k STATUS_AT ≡ st
  status-now =
      now.shown k STATUS_AT (reached-at c (here s) k now w.within holds-now.inside) (inl (omega arith))
      ∙ (word-stays s good q w.was.moment w.was.since w.was.now k STATUS_AT (reached-at c then-it k earlier w.within holds.inside) (inl (omega arith)) ∙ w.status)

  -- its page, and how many nodes are full directly above it
  abbrev leaf : Page
  leaf = leaf_page s.past.config (image_of (here s).image) key

  abbrev full : ℕ
  full = full_above s.past.config (image_of (here s).image) key

  frozen-now : leaf.frozen ≡ (status st).frozen
  frozen-now = ap (λ j. (page (durable c (here s) j)).frozen) leaf-now ∙ ap (λ z. (status z).frozen) status-now

  pub taken-now : words_taken (leaf_page s.past.config (image_of (here s).image) key) ≡ (status st).count + (status st).block
  taken-now = ap (λ j. words_taken (page (durable c (here s) j))) leaf-now ∙ ap (λ z. (status z).count + (status z).block) status-now

  -- as it breaks no rule, it has taken no more words than there are
  whole : Whole (node c (here s).image k) (page (durable c (here s) k)) ((form_at c (here s)).low k) ((form_at c (here s)).high k)
  whole =
      (leaf_rules_are_facts c.nodes (node c (here s).image k) (durable c (here s) k) ((form_at c (here s)).low k) ((form_at c (here s)).high k)).0
      (subst (λ l. node_fault c.nodes (node c (here s).image k) (durable c (here s) k) l ((form_at c (here s)).low k) ((form_at c (here s)).high k) ≡ None) holds-now.leaf (no-fault c (here s) k now w.within holds-now.inside))

  fits-now : words_taken leaf ≤ SHARED_WORDS
  fits-now = subst (λ n. n ≤ SHARED_WORDS) (sym (ap (λ j. words_taken (page (durable c (here s) j))) leaf-now)) whole.filled.room

  lacks : (words : ℕ) → LacksRoom st words → 0 < stage_in s.past.config (here s).image key (words + 1)
  lacks words l = elim l [
    | inl frozen ↦ some leaf full (words + 1) (frozen-now ∙ frozen)
    | inr few ↦ lacking leaf full (words + 1) (omega (arith, few, taken-now))
  ]

  has : (words : ℕ) → HasRoom st words → stage_in s.past.config (here s).image key (words + 1) ≡ 0
  has words room = stage-ready leaf full (words + 1) (frozen-now ∙ room.thawed) (omega (arith, room.fits, taken-now))

  tells : TellsTheStage st key s
  tells = record {
    lacks = lacks;
    frozen = λ e words. some leaf full words (frozen-now ∙ e);
    has = has;
    thawed = λ e. stage-ready leaf full 0 (frozen-now ∙ e) (omega (arith, fits-now));
  }

-- where the key was looked up, and where the leaf was read whole
looked-up : (key : List ℕ) (view : KeyView) (p : Past) → IsKeyView key view p → WasSeen key view.slot view.status p
looked-up key view p v = record { was = record { moment = view.at; since = v.since; now = v.now; leaf = v.leaf }; within = v.slot; status = v.status }

read-whole : (key : List ℕ) (view : LeafView) (p : Past) → IsView key view p → WasSeen key view.slot view.status p
read-whole key view p v = record { was = record { moment = view.at; since = v.since; now = v.now; leaf = v.leaf }; within = v.slot; status = v.status }

pub key-views-tell : UndisturbedKeyViewsTellTheStage
key-views-tell key view s good alone v = tells s good alone key view.slot view.status (looked-up key view s.past v)

pub views-tell : UndisturbedViewsTellTheStage
views-tell key view s good alone v = tells s good alone key view.slot view.status (read-whole key view s.past v)

pub key-views-tell-leaf : UndisturbedKeyViewsTellTheLeaf
key-views-tell-leaf key view s good alone v = frozen-now s good alone key view.slot view.status (looked-up key view s.past v)

-- the leaf that was read whole is the key's leaf now
pub viewed-now : (s : Scene) → IsScene s → IsUndisturbed 0 s.past → (key : List ℕ) (view : LeafView) → IsView key view s.past → leaf_in s.past.config (here s).image key ≡ view.slot
viewed-now s good alone key view v = leaf-now s good alone key view.slot view.status (read-whole key view s.past v)

pub views-agree : UndisturbedViewsAgree
views-agree key view whole s good alone v w =
    let a : WasSeen key view.slot view.status s.past = looked-up key view s.past v in
    let d : WasSeen key whole.slot whole.status s.past = read-whole key whole s.past w in
    let slots : whole.slot ≡ view.slot = sym (leaf-now s good alone key whole.slot whole.status d) ∙ leaf-now s good alone key view.slot view.status a in
    record {
      slot = slots;
      status = sym (status-now s good alone key whole.slot whole.status d) ∙ (ap (λ j. durable s.past.config (here s) j STATUS_AT) slots ∙ status-now s good alone key view.slot view.status a);
    }
