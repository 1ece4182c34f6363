-- A leaf that was not frozen is as it was while its status is the one that was read, and a view shows such a leaf, of its words
-- or of one key.
use Rattle.std.proofs.Common.{◌≡◌, ℕ, ◌<◌, ◌+◌, ◌≤◌, ◌^◌, ◌&&◌, Bool, true, false, List, arith, refl, sym, ap, subst, ◌∙◌, inl, inr, Option}
use Rattle.bz_layout.specs.declared.config.Config.{Config}
use Rattle.bz_layout.specs.declared.sizes.TheConstants.{NODE_WORDS, STATUS_AT, SHARED_WORDS}
use Rattle.bz_tree.specs.Form.{Holds}
use Rattle.bz_tree.specs.Order.{is_at_least, is_below}
use Rattle.bz_tree.proofs.Proved.{leaves_tile_the_keys}
use Rattle.bz_slotted.specs.Page.{visible, held, page}
use Rattle.bz_slotted.specs.ReadingLaws.{node_of}
use Rattle.bz_slotted.specs.Readers.{found_of}
use Rattle.bz_slotted.specs.Whole.{Whole}
use Rattle.bz_slotted.proofs.Proved.{leaf_rules_are_facts}
use Rattle.bz_word.specs.Statuses.{status}
use Rattle.bz_word.specs.declared.meta.Meta.{Meta}
use Rattle.bz_word.specs.declared.meta.Meta.TheVariants.{Unused, Reserved, Visible, Deleted}
use Rattle.bz_content.specs.Content.{leaf_in, view_in, IsWellFormed}
use Rattle.bz_content.specs.Image.{node}
use Rattle.bz_content.proofs.Proved.{well_formed_images_have_no_fault}
use Rattle.bz_task.specs.Good.{IsGood}
use Rattle.bz_task.specs.Instant.{Instant, words, durable, form_at}
use Rattle.bz_task.specs.Laws.{AreMoments, StillLeaf, IsLeafInTree}
use Rattle.bz_task.specs.Outcomes.{payload_of, IsView, IsKeyView}
use Rattle.bz_task.specs.Scene.{Past, Scene, IsScene, here}
use Rattle.bz_task.specs.Shown.{IsShown, SameWords, SameRecords}
use Rattle.bz_task.specs.declared.view.KeyView.{KeyView}
use Rattle.bz_task.specs.declared.view.LeafView.{LeafView}
use Rattle.bz_task.proofs.Proved.{leaves_are_in_trees, ranges_stay, same_records_show_the_same, seen_leaves_are_whole, thawed_leaves_stay}
use Rattle.bz_record.specs.Laws.{SameLeaf, LeavesStay, IsViewed, ViewsShowLeaves, KeyViewsShowLeaves}
use Rattle.bz_record.specs.Leaves.{WasLeafThen, WasLeafOf}

pub same-records : (n m : ℕ → ℕ) → SameWords n m → SameRecords n m
same-records n m s = record {
  count = ap (λ z. (status z).count) (s STATUS_AT (inl (omega arith)));
  block = ap (λ z. (status z).block) (s STATUS_AT (inl (omega arith)));
  words = λ i ne h. s i h;
}

-- the image has what reads answer
pub durable-same : (c : Config) (x : Instant) (k : ℕ) → IsGood c x → x.reached k ≡ true → SameWords (words c x k) (durable c x k)
durable-same c x k g r i h = g.shown k i r h

-- so the image's words stay where those that reads answer do
durable-stay : (c : Config) (x y : Instant) (k : ℕ) → IsGood c x → IsGood c y → x.reached k ≡ true → y.reached k ≡ true → SameWords (words c x k) (words c y k) → SameWords (durable c x k) (durable c y k)
durable-stay c x y k gx gy rx ry s i h =
    let a : IsShown (words c x k) i = (same_records_show_the_same _ _ (same-records _ _ (durable-same c x k gx rx)) i).1 h in
    let b : IsShown (words c y k) i = (same_records_show_the_same _ _ (same-records _ _ s) i).0 a in
    gy.shown k i ry b ∙ (s i a ∙ sym (gx.shown k i rx a))

module _ (s : Scene) (k st moment : ℕ) (good : IsScene s) (w : WasLeafThen k st moment s.past) (t : (status st).frozen ≡ false) (e : words s.past.config (here s) k STATUS_AT ≡ st) where
  moments : AreMoments s.past.since s.past.now moment s.past.now
  moments = record { since = w.since; order = w.now; until = omega arith }

  was-good : IsGood s.past.config (s.past.at moment)
  was-good = good.history.good moment w.since w.now

  now-good : IsGood s.past.config (here s)
  now-good = good.history.good s.past.now good.begun (omega arith)

  was-leaf : IsLeafInTree s.past.config (s.past.at moment) k
  was-leaf = leaves_are_in_trees s.past.config (s.past.at moment) k was-good w.slot w.inside w.leaf

  still : StillLeaf s.past.config (s.past.at moment) (here s) k
  still = thawed_leaves_stay s.past.config s.past.at s.past.since s.past.now moment s.past.now k good.history moments w.slot w.inside w.leaf (ap (λ z. (status z).frozen) w.was ∙ t) (e ∙ sym w.was)

  stands : SameWords (durable s.past.config (s.past.at moment) k) (durable s.past.config (here s) k)
  stands = durable-stay s.past.config (s.past.at moment) (here s) k was-good now-good was-leaf.reached still.leaf.reached still.same

  same : SameLeaf s.past.config (s.past.at moment) (here s) k
  same = record {
    leaf = still.leaf;
    place = ranges_stay s.past.config s.past.at s.past.since s.past.now moment s.past.now k good.history moments (λ q. omega (arith, q, w.slot)) w.inside still.leaf.inside;
    shows = still.same;
    stands = stands;
    found = (seen_leaves_are_whole s.past.config.nodes (node s.past.config (s.past.at moment).image k) (durable s.past.config (s.past.at moment) k) (durable s.past.config (here s) k) _ _ was-leaf.whole stands).found;
  }

pub leaves-stay : LeavesStay
leaves-stay s k st moment good w t e = same s k st moment good w t e

pub held-visible : (m : Meta) → visible m ≡ true → held m ≡ true
unfolding visible held
held-visible (Visible e) h = refl
held-visible (Reserved e) h = refl
held-visible (Deleted k t) h = absurd (cc)
held-visible Unused h = absurd (cc)

-- a place of a whole leaf that is shown is one of the node
pub shown-within : (raw n : ℕ → ℕ) (lo hi : Option (List ℕ)) → Whole raw (page n) lo hi → (i : ℕ) → IsShown n i → i < NODE_WORDS
shown-within raw n lo hi w i (inl h) = omega (arith, h, w.filled.room)
shown-within raw n lo hi w i (inr (inl h)) = omega (arith, h)
shown-within raw n lo hi w i (inr (inr (inl h))) = absurd (omega (arith, h, w.level.level))
shown-within raw n lo hi w i (inr (inr (inr r))) = omega (arith, r.1.to, (w.inside r.0 r.1.counted (held-visible _ r.1.visible)).ends)

both : (a b : Bool) → a ≡ true → b ≡ true → (a && b) ≡ true
both a b e h = rw (e, h) refl

-- the leaf of a key at a moment, and its status
pub record IsSeen (key : List ℕ) (k st at : ℕ) (p : Past) : Type 0 where
  pub since : p.since ≤ at
  pub now : at ≤ p.now
  pub leaf : leaf_in p.config (p.at at).image key ≡ k
  pub slot : k < p.config.nodes
  pub status : words p.config (p.at at) k STATUS_AT ≡ st
  pub plain : st < 2 ^ 61

module _ (key : List ℕ) (k st at : ℕ) (s : Scene) (good : IsScene s) (v : IsSeen key k st at s.past) where
  pub then-good : IsGood s.past.config (s.past.at at)
  then-good = good.history.good at v.since v.now

  holds : Holds (form_at s.past.config (s.past.at at)) key k
  holds = let f : IsWellFormed s.past.config (s.past.at at).image = (well_formed_images_have_no_fault s.past.config (s.past.at at).image).0 then-good.form in
      (leaves_tile_the_keys (view_in s.past.config (s.past.at at).image) f.tree key k).1 v.leaf

  pub leaf : IsLeafInTree s.past.config (s.past.at at) k
  leaf = leaves_are_in_trees s.past.config (s.past.at at) k then-good v.slot holds.inside holds.leaf

  pub whole : Whole (node s.past.config (s.past.at at).image k) (page (durable s.past.config (s.past.at at) k)) ((form_at s.past.config (s.past.at at)).low k) ((form_at s.past.config (s.past.at at)).high k)
  whole = (leaf_rules_are_facts s.past.config.nodes (node s.past.config (s.past.at at).image k) (durable s.past.config (s.past.at at) k) _ _).0 leaf.whole

  pub durable-status : durable s.past.config (s.past.at at) k STATUS_AT ≡ st
  durable-status = then-good.shown k STATUS_AT leaf.reached (inl (omega arith)) ∙ v.status

  pub is-leaf-of : (said : Option (List ℕ)) → found_of (durable s.past.config (s.past.at at) k) key ≡ said → WasLeafOf key said k st at s.past
  is-leaf-of said e = record {
    leaf = record { since = v.since; now = v.now; slot = v.slot; inside = holds.inside; leaf = holds.leaf; was = v.status; plain = v.plain };
    range = both (is_at_least key ((form_at s.past.config (s.past.at at)).low k)) (is_below key ((form_at s.past.config (s.past.at at)).high k)) holds.low holds.high;
    found = e;
  }

  pub dead : (status st).dead ≤ (status st).block
  dead = subst (λ z. (status z).dead ≤ (status z).block) durable-status (omega (arith, whole.filled.dead))

  pub room : (status st).count + (status st).block ≤ SHARED_WORDS
  room = subst (λ z. (status z).count + (status z).block ≤ SHARED_WORDS) durable-status whole.filled.room

-- a view of a leaf
abbrev seen-leaf : (key : List ℕ) (view : LeafView) (p : Past) → IsView key view p → IsSeen key view.slot view.status view.at p
seen-leaf key view p v = record { since = v.since; now = v.now; leaf = v.leaf; slot = v.slot; status = v.status; plain = v.plain }

module _ (key : List ℕ) (view : LeafView) (s : Scene) (good : IsScene s) (v : IsView key view s.past) where
  abbrev is : IsSeen key view.slot view.status view.at s.past
  is = seen-leaf key view s.past v

  view-good : IsGood s.past.config (s.past.at view.at)
  view-good = then-good key view.slot view.status view.at s good is

  there : IsLeafInTree s.past.config (s.past.at view.at) view.slot
  there = leaf key view.slot view.status view.at s good is

  durable-view : SameWords (durable s.past.config (s.past.at view.at) view.slot) (node_of view.image.0)
  durable-view i h =
      let a : IsShown (words s.past.config (s.past.at view.at) view.slot) i = (same_records_show_the_same _ _ (same-records _ _ (durable-same s.past.config (s.past.at view.at) view.slot view-good there.reached)) i).1 h in
      v.words i (shown-within _ _ _ _ (whole key view.slot view.status view.at s good is) i h) a ∙ sym (view-good.shown view.slot i there.reached a)

  viewed : IsViewed key view s.past
  viewed = record {
    leaf = is-leaf-of key view.slot view.status view.at s good is (found_of (node_of view.image.0) key) (sym ((seen_leaves_are_whole s.past.config.nodes (node s.past.config (s.past.at view.at).image view.slot) (durable s.past.config (s.past.at view.at) view.slot) (node_of view.image.0) _ _ there.whole durable-view).found key));
    dead = dead key view.slot view.status view.at s good is;
    room = room key view.slot view.status view.at s good is;
  }

pub views-show : ViewsShowLeaves
views-show key view s good v = viewed key view s good v

-- a view of a key
abbrev pub seen-key : (key : List ℕ) (view : KeyView) (p : Past) → IsKeyView key view p → IsSeen key view.slot view.status view.at p
seen-key key view p v = record { since = v.since; now = v.now; leaf = v.leaf; slot = v.slot; status = v.status; plain = v.plain }

pub key-views-show : KeyViewsShowLeaves
key-views-show key view s good v = record {
  leaf = is-leaf-of key view.slot view.status view.at s good (seen-key key view s.past v) (payload_of view.found) v.says;
  dead = dead key view.slot view.status view.at s good (seen-key key view s.past v);
  room = room key view.slot view.status view.at s good (seen-key key view s.past v);
}
