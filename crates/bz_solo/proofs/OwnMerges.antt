-- The own swap of a merge that stands in the place of a copy: the freeze of the neighbour, which leaves the key's leaf as it is, or the last one,
-- after which the leaf has room.
use Rattle.std.proofs.Common.{◌≡◌, ◌⊎◌, ℕ, ◌+◌, ◌≤◌, true, false, List, Some, arith, refl, sym, ap, subst, ◌∙◌, inl, inr}
use Rattle.bz_joined.specs.FromAlone.Undisturbed.{IsUndisturbed}
use Rattle.bz_content.specs.Content.{image_of}
use Rattle.bz_joined.specs.FromStage.Neighbours.{leaf_page}
use Rattle.bz_layout.specs.declared.config.Config.{Config}
use Rattle.bz_layout.specs.declared.thresholds.TheConstants.{LEAF_RECORD_WORDS}
use Rattle.bz_costs.specs.FromMerge.Counts.{freezes_of, merge_made, merge_swaps}
use Rattle.bz_costs.specs.FromMerge.Duties.{merging_of}
use Rattle.bz_costs.specs.FromMerge.Facts.{merge_asks, merge_facts}
use Rattle.bz_costs.specs.FromMerge.Plans.{Merging as Plan}
use Rattle.bz_costs.specs.FromMerge.MergePhase.{MergePhase}
use Rattle.bz_costs.specs.FromMerge.MergePhase.TheVariants.{Freeze, FreezeBeside, Swap}
use Rattle.bz_costs.specs.FromRunning.Duties.{config_of, asks_of, facts_of, made_of, swaps_of, makes_no_change, view_of}
use Rattle.bz_costs.specs.FromRunning.Kinds.{Merge, kind_of}
use Rattle.bz_costs.specs.FromRunning.MadeFor.{IsMergeFor}
use Rattle.bz_costs.specs.FromRunning.AnyTask.{AnyTask}
use Rattle.bz_costs.specs.FromRunning.AnyTask.TheVariants.{Merging}
use Rattle.bz_joined.specs.FromStage.Stages.{stage_in}
use Rattle.bz_joined.proofs.Proved.{undisturbed_freezes_beside_keep_the_leaf, merge_swaps_give_room}
use Rattle.bz_task.specs.Instant.{Instant}
use Rattle.bz_task.specs.Scene.{Scene, Waiting, IsScene, here}
use Rattle.bz_task.specs.Swaps.{Stand, SwapsTo}
use Rattle.bz_task.specs.declared.todo.Todo.TheVariants.{Swap as Swaps_for}
use Rattle.bz_word.specs.Statuses.{status}
use Rattle.bz_word.specs.declared.entry.Entry.{Entry}

-- the swap is not the last one, and leaves the leaf as it is
pub record IsBeside (t : AnyTask) (key : List ℕ) (s : Scene) (y : Instant) : Type 0 where
  pub twice : 2 ≤ swaps_of t
  pub leaf : leaf_page s.past.config (image_of y.image) key ≡ leaf_page s.past.config (image_of (here s).image) key

-- it is, and gives room
pub record IsJoining (t : AnyTask) (key : List ℕ) (words : ℕ) (s : Scene) (y : Instant) : Type 0 where
  pub once : swaps_of t ≤ 1
  pub room : stage_in s.past.config y.image key words ≡ 0

pub record IsMerging (t : AnyTask) (key : List ℕ) (words : ℕ) (s : Scene) (y : Instant) : Type 0 where
  pub kind : kind_of t ≡ Merge
  pub silent : makes_no_change t ≡ true
  pub either : IsBeside t key s y ⊎ IsJoining t key words s y

-- which swap it asks for
phase-of : (c : Config) (r : Plan) (p : MergePhase) (entries : List Entry) → merge_asks c r p ≡ Some (Swaps_for entries) → (p ≡ Freeze) ⊎ ((p ≡ FreezeBeside) ⊎ (p ≡ Swap))
phase-of c r Freeze entries e = inl refl
phase-of c r FreezeBeside entries e = inr (inl refl)
phase-of c r Swap entries e = inr (inr refl)
phase-of c r p entries e = absurd (cc)

-- not the freeze of the key's leaf, which was frozen when it was viewed
thawed : (r : Plan) (p : MergePhase) (s : Scene) → p ≡ Freeze → merge_facts r p Waiting s → (status r.status).frozen ≡ false
thawed r p s e f = (subst (λ z. merge_facts r z Waiting s) e f).1.1

none-made : (r : Plan) (p : MergePhase) → p ≡ FreezeBeside → (status r.status).frozen ≡ true → merge_made r p ≡ 0
none-made r p e f = ap (merge_made r) e ∙ none f
  where
    none : (status r.status).frozen ≡ true → freezes_of r.status ≡ 0
    none f = rw f refl

true-false : {A : Type 0} → true ≡ false → A
true-false e = absurd (cc)

pub merging : (t : AnyTask) (key : List ℕ) (words : ℕ) (entries : List Entry) (s : Scene) (y : Instant) → IsMergeFor t key s.past → s.past.config ≡ config_of t → IsScene s → facts_of t Waiting s → asks_of t ≡ Some (Swaps_for entries) → Stand entries (here s) →
    SwapsTo s.past.config entries (here s) y → IsUndisturbed (made_of t) s.past → words ≤ LEAF_RECORD_WORDS + 1 → IsMerging t key words s y
unfolding IsMergeFor view_of makes_no_change kind_of
merging (Merging t) key words entries s y made config good knows asks stand leads alone few =
    record { kind = refl; silent = refl; either = go (phase-of t.config (merging_of t) t.phase entries asks) }
  where
    go : (t.phase ≡ Freeze) ⊎ ((t.phase ≡ FreezeBeside) ⊎ (t.phase ≡ Swap)) → IsBeside (Merging t) key s y ⊎ IsJoining (Merging t) key words s y
    go (inl e) = true-false (sym made.frozen ∙ thawed (merging_of t) t.phase s e knows)
    go (inr (inl e)) = inl (record {
      twice = omega (arith, ap merge_swaps e);
      leaf = undisturbed_freezes_beside_keep_the_leaf t key entries s y (record { config = config; good = good; knows = knows; asks = asks; alone = subst (λ n. IsUndisturbed n s.past) (none-made (merging_of t) t.phase e made.frozen) alone; leads = leads }) e made.frozen made.leaf;
    })
    go (inr (inr e)) = inr (record {
      once = omega (arith, ap merge_swaps e);
      room = (merge_swaps_give_room t key words entries s y (record { config = config; good = good; knows = knows; asks = asks; stand = stand; leads = leads }) e made.leaf few).room;
    })
merging t key words entries s y made config good knows asks stand leads alone few = absurd made
