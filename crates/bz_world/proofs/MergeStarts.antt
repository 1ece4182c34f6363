-- A delete that has had its effect, beside which no other call is open: its leaf, which may be merged, may be so still when it is looked at once more.
use Rattle.std.proofs.Common.{◌≡◌, ◌≢◌, ℕ, suc, true, length, arith, sym, ap, subst, ◌∙◌, inl, inr, ◌≤◌}
use Rattle.std.proofs.lemmas.Bool.{true≢false}
use Rattle.bz_call.specs.Map.{key_of}
use Rattle.bz_solo.specs.FromAlone.Counts.{HasOthers}
use Rattle.bz_solo.specs.FromJoined.Neighbours.{NeighboursStand}
use Rattle.bz_any_task.specs.Kinds as kinds
use Rattle.bz_any_task.specs.Kinds.{kind_of}
use Rattle.bz_refinement.specs.Laws.{ScenesAreSeen}
use Rattle.bz_refinement.specs.Story.{scene}
use Rattle.bz_task.specs.Scene.{IsScene}
use Rattle.bz_solo.specs.declared.rest.Rest.TheVariants as rest
use Rattle.bz_world.specs.Inside.Exact.{reach_idle}
use Rattle.bz_world.specs.Inside.Going.{MustGoOn, StandsForLookingAs, StandsToLook, StandsForReading, StoodFor, known}
use Rattle.bz_world.specs.Inside.Merging.{looks_on, HasToMerge, IsMerging, IsStanding, IsTellingFew, StoodSince}
use Rattle.bz_world.specs.Inside.Paid.{stock_of}
use Rattle.bz_world.specs.declared.parts.Parts.{Parts}
use Rattle.bz_stage.specs.FromLeaves.Neighbours.{MayBeMerged}

-- what is known of the memory since a moment of this life
pub since-then : ScenesAreSeen → (p : Parts) (w : ℕ) (on : MustGoOn p w) (m : ℕ) → on.between.opened.begun ≤ m → m ≤ length p.journal.past → IsScene (scene p.config p.journal.past on.between.story w m on.between.opened)
since-then scenes p w on m begun by_now = (scenes p.config p.access p.journal on.between.story w m on.between.opened on.between.living
    (record { from = omega (arith, on.between.living.begins w on.between.opened on.between.call_open.is_open, begun); by_now = by_now })).scene

pub may-now : ScenesAreSeen → NeighboursStand → (p : Parts) (w : ℕ) (on : MustGoOn p w) (at : ℕ) → on.between.opened.begun ≤ at → StoodSince (suc at) (known p w on).past → MayBeMerged p.config ((known p w on).past.at (suc at)).image (key_of on.serving.call)
    → MayBeMerged p.config ((known p w on).past.at (length p.journal.past)).image (key_of on.serving.call)
may-now scenes neighbours p w on at begun stood may = neighbours (scene p.config p.journal.past on.between.story w (suc at) on.between.opened) (suc at) (suc at) (length p.journal.past) (key_of on.serving.call)
    (since-then scenes p w on (suc at) (omega (arith, begun)) stood.by_now) (record { since = omega arith; now = stood.by_now; effects = stood.still })
    (record { from = omega arith; to = stood.by_now }) (record { from = stood.by_now; to = omega arith }) may

module _ (p : Parts) (w : ℕ) (on : MustGoOn p w) (first : on.serving.rest ≡ rest.Leaf) where
  -- while its task is no merge it stands
  stands-by : (kind_of on.serving.task ≢ kinds.Merge) → (at : ℕ) → IsMerging p.config p.journal at (known p w on).past (reach_idle p.access) (stock_of p) on.serving → IsStanding p.config p.journal at (known p w on).past (reach_idle p.access) (stock_of p)
  stands-by other at (inl s) = s.standing
  stands-by other at (inr (inl u)) = absurd (other u.kind)
  stands-by other at (inr (inr (inl d))) = absurd (other d.kind)
  stands-by other at (inr (inr (inr o))) = absurd (o.later first)

  stood-by : (kind_of on.serving.task ≢ kinds.Merge) → (at : ℕ) → HasToMerge p.config p.journal on.between.opened at (known p w on).past (reach_idle p.access) (stock_of p) on.serving → StoodFor p w on at
  stood-by other at m = record { after_begin = m.after_begin; by_now = m.by_now; standing = λ may. stands-by other at (m.merging may) }

  -- the delete told that it leaves little
  tells-by : kind_of on.serving.task ≡ kinds.Delete → (at : ℕ) → IsMerging p.config p.journal at (known p w on).past (reach_idle p.access) (stock_of p) on.serving → IsTellingFew (reach_idle p.access) on.serving
  tells-by delete at (inl s) = elim s.task [
    | inl tells ↦ tells
    | inr look ↦ absurd (true≢false (sym look.looks ∙ ap looks_on delete))
  ]
  tells-by delete at (inr (inl u)) = absurd (cc (delete, u.kind))
  tells-by delete at (inr (inr (inl d))) = absurd (cc (delete, d.kind))
  tells-by delete at (inr (inr (inr o))) = absurd (o.later first)

  pub stands-looking : kind_of on.serving.task ≡ kinds.Delete → StandsForLookingAs p w on rest.Leaf
  stands-looking delete solitary at is deletes = let m = (on.merges solitary).merging at is deletes in (stood-by (λ merge. cc (delete, merge)) at m, λ may. tells-by delete at (m.merging may))

  pub stands-as : (at : ℕ) → StandsToLook p w on at rest.Leaf → StandsToLook p w on at on.serving.rest
  stands-as at s = subst (StandsToLook p w on at) (sym first) s

  -- and nobody's swap took effect since it looks for its leaf
  undisturbed-by : looks_on (kind_of on.serving.task) ≡ true → (at : ℕ) → IsMerging p.config p.journal at (known p w on).past (reach_idle p.access) (stock_of p) on.serving → HasOthers 0 0 (known p w on).past
  undisturbed-by looks at (inl s) = elim s.task [
    | inl tells ↦ absurd (true≢false (sym looks ∙ ap looks_on tells.kind))
    | inr look ↦ look.alone
  ]
  undisturbed-by looks at (inr (inl u)) = absurd (true≢false (sym looks ∙ ap looks_on u.kind))
  undisturbed-by looks at (inr (inr (inl d))) = absurd (true≢false (sym looks ∙ ap looks_on d.kind))
  undisturbed-by looks at (inr (inr (inr o))) = absurd (o.later first)

  pub stands-reading : looks_on (kind_of on.serving.task) ≡ true → StandsForReading p w on
  stands-reading looks solitary at is deletes = let m = (on.merges solitary).merging at is deletes in (stood-by (λ merge. true≢false (sym looks ∙ ap looks_on merge)) at m, λ may. undisturbed-by looks at (m.merging may))
