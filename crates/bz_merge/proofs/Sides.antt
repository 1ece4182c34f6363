-- A neighbour that is read next, or none.
use Rattle.std.proofs.Common.{◌≡◌, ◌≢◌, ℕ, Some, refl, Option}
use Rattle.std.specs.Prelude.{None}
use Rattle.bz_merge.specs.declared.phase.MergePhase.{MergePhase}
use Rattle.bz_merge.specs.declared.phase.MergePhase.TheVariants.{Beside, NoNeighbour}
use Rattle.bz_merge.specs.declared.sibling.Sibling.{Sibling}

pub side-kept : (o : Option Sibling) (phase : MergePhase) (side old : Sibling) → ((x : Sibling) → o ≡ Some x → (phase ≡ Beside 0) × (side ≡ x)) → (o ≡ None → (phase ≡ NoNeighbour) × (side ≡ old)) → ((i : ℕ) → phase ≢ Beside i) → side ≡ old
side-kept None phase side old some none ne = (none refl).1
side-kept (Some x) phase side old some none ne = absurd (ne 0 (some x refl).0)
