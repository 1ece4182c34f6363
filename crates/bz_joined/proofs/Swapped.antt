-- The swap by which a merge turns the link to the parent: one leaf with room stands in the place of the two.
use Rattle.std.proofs.Common.{◌≡◌, ◌≢◌, ℕ, ◌<◌, ◌==◌, ◌⊎◌, Bool, true, false, List, Some, arith, sym, ap, subst, ◌∙◌, inl, inr}
use Rattle.std.proofs.lemmas.Bool.Decides.{nat_tests}
use Rattle.bz_layout.specs.declared.config.Config.{Config}
use Rattle.bz_layout.specs.declared.sizes.TheConstants.{STATUS_AT}
use Rattle.bz_merge.specs.Duties.{merging_of}
use Rattle.bz_merge.specs.Facts.{MERGE_WORDS, MERGE_LINES, IsMerging, merge_asks, merge_facts}
use Rattle.bz_merge.specs.Plans.{Merging, viewed_leaf, beside_leaf, first_of, second_of, sep_of}
use Rattle.bz_merge.specs.Siblings.{SeenLeaf}
use Rattle.bz_merge.specs.declared.phase.MergePhase.{MergePhase}
use Rattle.bz_merge.specs.declared.phase.MergePhase.TheVariants.{Swap}
use Rattle.bz_renew.proofs.Words.{and-left, and-right}
use Rattle.bz_tree.specs.Form.{Holds}
use Rattle.bz_tree.specs.TreeLaws.{LeavesTileTheKeys}
use Rattle.bz_slotted.specs.Page.{page}
use Rattle.bz_merge.specs.FromSplit.BelowSplits.{below_swap}
use Rattle.bz_word.specs.Statuses.{status}
use Rattle.bz_word.specs.declared.entry.Entry.{Entry}
use Rattle.bz_content.specs.Content.{image_of, leaf_in, view_in}
use Rattle.bz_content.proofs.Proved.{well_formed_images_have_no_fault}
use Rattle.bz_stage.specs.FromLeaves.Neighbours.{leaf_page}
use Rattle.bz_task.specs.Good.{IsGood}
use Rattle.bz_task.specs.Instant.{Instant, durable, form_at, is_inside}
use Rattle.bz_task.specs.Laws.{SamePlace}
use Rattle.bz_task.specs.Scene.{Scene, Waiting, IsScene, here}
use Rattle.bz_task.specs.Shown.{SameShownNode}
use Rattle.bz_task.specs.Swaps.{Stand, SwapsTo}
use Rattle.bz_task.specs.declared.todo.Todo.TheVariants.{Swap as Swaps_for}
use Rattle.bz_task.proofs.Proved.{frozen_nodes_stay, ranges_stay}
use Rattle.bz_stage.specs.Stages.{full_above}
use Rattle.bz_stage.specs.Swaps.{IsRoomy}
use Rattle.bz_rounds.specs.FromAlone.MadeFor.{WasLeafOf}
use Rattle.bz_rounds.proofs.Lacking.{some}
use Rattle.bz_rounds.proofs.Undisturbed.{same-entries}
use Rattle.bz_rounds.specs.FromTally.Counts.{IsLeafNow}
use Rattle.bz_rounds.proofs.FromTally.Links.{tree-now}
use Rattle.bz_rounds.proofs.FromTally.Merging.{first-leaf, second-leaf, merges, merged-words}
use Rattle.bz_rounds.proofs.FromTally.Pairs.{to-own}
use Rattle.bz_joined.specs.Laws.{MergesGiveRoom}
use Rattle.bz_joined.specs.Undisturbed.{MergeSwapsGiveRoom}
use Rattle.bz_joined.proofs.Roomy.{Laws as Roomy, joined-roomy}

-- the laws on which it rests
pub record Laws : Type 0 where
  pub tiles : LeavesTileTheKeys
  pub roomy : Roomy
  pub room : MergesGiveRoom

zero-is : (n : ℕ) → (n == 0) ≡ true → n ≡ 0
zero-is n e = grind (arith, nat_tests)

-- of the two in their order one is the viewed leaf
in-one : (right : Bool) (own other : SeenLeaf) (k : ℕ) → k ≡ own.slot → (k ≡ (first_of right own other).slot) ⊎ (k ≡ (second_of right own other).slot)
in-one true own other k e = inl e
in-one false own other k e = inr e

module _ (b : Laws) (r : Merging) (s : Scene) (y : Instant) (good : IsScene s) (f : IsMerging r MERGE_WORDS MERGE_LINES s) (stand : Stand (below_swap s.past.config r.upper r.lower (r.slot 0)) (here s))
    (swaps : SwapsTo s.past.config (below_swap s.past.config r.upper r.lower (r.slot 0)) (here s) y) where
  abbrev c : Config
  c = s.past.config

  abbrev k : ℕ
  k = r.lower.slot

  abbrev own : SeenLeaf
  own = viewed_leaf r

  abbrev other : SeenLeaf
  other = beside_leaf r

  g : IsGood s.past.config (here s)
  g = good.history.good s.past.now good.begun (omega arith)

  leaf : IsLeafNow s k
  leaf = to-own (λ l. IsLeafNow s l.slot) r.right own other (first-leaf r s good f stand) (second-leaf r s good f stand)

  inside : is_inside c (here s) k ≡ true
  inside = and-left (is_inside c (here s) k) ((form_at c (here s)).level k == 0) leaf

  flat : (form_at c (here s)).level k ≡ 0
  flat = zero-is ((form_at c (here s)).level k) (and-right (is_inside c (here s) k) ((form_at c (here s)).level k == 0) leaf)

  within : k < c.nodes
  within = to-own (λ l. l.slot < c.nodes) r.right own other f.frozen.planned.first.stood.slot f.frozen.planned.second.stood.slot

  below : k ≢ c.nodes
  below e = absurd (omega (arith, e, within))

  -- it is the key's leaf now, as it was one
  module _ (key : List ℕ) (was : WasLeafOf key r.lower.slot s.past) where
    earlier : IsGood s.past.config (s.past.at was.moment)
    earlier = good.history.good was.moment was.since was.now

    then-holds : Holds (form_at c (s.past.at was.moment)) key k
    then-holds = (b.tiles (view_in c (s.past.at was.moment).image) ((well_formed_images_have_no_fault c (s.past.at was.moment).image).0 earlier.form).tree key k).1 was.leaf

    place : SamePlace c (s.past.at was.moment) (here s) k
    place = ranges_stay c s.past.at s.past.since s.past.now was.moment s.past.now k good.history (record { since = was.since; order = was.now; until = omega arith }) below then-holds.inside inside

    holds : Holds (form_at c (here s)) key k
    holds = record { inside = inside; leaf = flat; low = rw place.low then-holds.low; high = rw place.high then-holds.high }

    leaf-is : leaf_in s.past.config (here s).image key ≡ r.lower.slot
    leaf-is = (b.tiles (view_in c (here s).image) (tree-now s good) key k).0 holds

    -- and frozen
    stays : SameShownNode c (s.past.at f.frozen.own.moment) (here s) k
    stays = frozen_nodes_stay c s.past.at s.past.since s.past.now f.frozen.own.moment s.past.now k good.history (record { since = f.frozen.own.since; order = f.frozen.own.now; until = omega arith }) f.frozen.own.reached f.frozen.own.frozen

    frozen : (leaf_page s.past.config (image_of (here s).image) key).frozen ≡ true
    frozen =
        ap (λ j. (page (durable c (here s) j)).frozen) leaf-is
        ∙ (ap (λ z. (status z).frozen) (g.shown k STATUS_AT (g.inside k inside below) (inl (omega arith)) ∙ stays STATUS_AT (inl (omega arith))) ∙ f.frozen.own.frozen)

    roomy : IsRoomy (page (durable s.past.config y (r.slot 1)))
    roomy = subst (λ n. IsRoomy (page n)) (sym (merged-words r s good f stand y swaps))
        (joined-roomy b.roomy (first_of r.right own other).image (second_of r.right own other).image (r.image 1) c.nodes f.frozen.planned.low (Some (sep_of r.read r.place)) f.frozen.planned.high
        f.frozen.planned.first.size f.frozen.planned.second.size f.one f.frozen.planned.first.whole f.frozen.planned.second.whole f.frozen.planned.room)

-- a merge that turns the link
planned : (r : Merging) (phase : MergePhase) (s : Scene) → phase ≡ Swap → merge_facts r phase Waiting s → IsMerging r MERGE_WORDS MERGE_LINES s
planned r phase s e f = (subst (λ z. merge_facts r z Waiting s) e f).1

asked : (c : Config) (r : Merging) (phase : MergePhase) (entries : List Entry) → phase ≡ Swap → merge_asks c r phase ≡ Some (Swaps_for entries) → below_swap c r.upper r.lower (r.slot 0) ≡ entries
asked c r phase entries e a = same-entries (below_swap c r.upper r.lower (r.slot 0)) entries (ap (merge_asks c r) (sym e) ∙ a)

pub merge-swaps : Laws → MergeSwapsGiveRoom
merge-swaps b t key words entries s y l e was few =
    let r : Merging = merging_of t in
    let f : IsMerging r MERGE_WORDS MERGE_LINES s = planned r t.phase s e l.knows in
    let is : below_swap s.past.config r.upper r.lower (r.slot 0) ≡ entries = ap (λ (z : Config). below_swap z r.upper r.lower (r.slot 0)) l.config ∙ asked t.config r t.phase entries e l.asks in
    let stand : Stand (below_swap s.past.config r.upper r.lower (r.slot 0)) (here s) = subst (λ z. Stand z (here s)) (sym is) l.stand in
    let swaps : SwapsTo s.past.config (below_swap s.past.config r.upper r.lower (r.slot 0)) (here s) y = subst (λ z. SwapsTo s.past.config z (here s) y) (sym is) l.leads in
    let now : leaf_in s.past.config (here s).image key ≡ r.lower.slot = leaf-is b r s y l.good f stand swaps key was in
    record {
      lacked = some (leaf_page s.past.config (image_of (here s).image) key) (full_above s.past.config (image_of (here s).image) key) words (frozen b r s y l.good f stand swaps key was);
      room = b.room s.past.config (image_of (here s).image) (image_of y.image) key words (first_of r.right (viewed_leaf r) (beside_leaf r)).slot (second_of r.right (viewed_leaf r) (beside_leaf r)).slot (r.slot 0) (r.slot 1) (sep_of r.read r.place)
          (tree-now s l.good) (merges r s l.good f stand y swaps) (in-one r.right (viewed_leaf r) (beside_leaf r) (leaf_in s.past.config (here s).image key) now)
          (roomy b r s y l.good f stand swaps key was) few;
    }
