-- What is tried once the merge of a leaf is over keeps the leaves.
use Rattle.std.proofs.Common.{◌≡◌, ◌≢◌, ◌⊎◌, ℕ, Bool, true, false, refl, sym, ap, ◌∙◌, inl, inr}
use Rattle.std.proofs.lemmas.Bool.{true≢false}
use Rattle.bz_any_task.specs.Kinds.{Kind, kind_of}
use Rattle.bz_any_task.specs.declared.running.AnyTask.{AnyTask}
use Rattle.bz_any_task.specs.declared.running.AnyTask.TheVariants.{Splitting, SplittingBelow}
use Rattle.bz_solo.specs.FromTally.Counts.{KeepsTheLeaves, leaves_now, leaves_then}
use Rattle.bz_solo.specs.FromTally.Laws.{Grows, IsSplitOf, Renews, Shrinks}
use Rattle.bz_task.specs.Instant.{Instant}
use Rattle.bz_task.specs.Scene.{Scene}
use Rattle.bz_solo.specs.declared.rest.Rest.{Rest}
use Rattle.bz_solo.specs.declared.rest.Rest.TheVariants as rest
use Rattle.bz_world.specs.Inside.Meant.{tries_later}
use Rattle.bz_world.proofs.LeavesStruck.{merge-kind}

-- what is tried where something was passed over
pub is-later : (k : Kind) (left : Rest) → (tries_later k ≡ false → left ≡ rest.Leaf) → left ≢ rest.Leaf → tries_later k ≡ true
is-later k left first other = by (tries_later k) refl
  where
    by : (b : Bool) → tries_later k ≡ b → tries_later k ≡ true
    by true e = e
    by false e = absurd (other (first e))

-- is no split of a leaf, and no merge of two
split-first : (t : AnyTask) (k : ℕ) → IsSplitOf t k → tries_later (kind_of t) ≡ false
unfolding kind_of
split-first (Splitting t) k split = refl
split-first (SplittingBelow t a) k split = refl
split-first t k split = absurd split

pub later-keeps : (t : AnyTask) (s : Scene) (y : Instant) → tries_later (kind_of t) ≡ true → KeepsTheLeaves s y ⊎ (Renews t s y ⊎ (Grows t s y ⊎ Shrinks t s y)) → leaves_then s y ≡ leaves_now s
later-keeps t s y later (inl keeps) = keeps.same
later-keeps t s y later (inr (inl renews)) = renews.renews.same
later-keeps t s y later (inr (inr (inl grows))) = absurd (true≢false (sym later ∙ split-first t grows.slot grows.is))
later-keeps t s y later (inr (inr (inr shrinks))) = absurd (true≢false (sym later ∙ ap tries_later (merge-kind t shrinks.slot shrinks.beside shrinks.own shrinks.other shrinks.is)))
