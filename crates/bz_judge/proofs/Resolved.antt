-- What a word stands for, by the kind that was read of it.
use Rattle.std.proofs.Common.{◌≡◌, ℕ, sym, ap, ◌∙◌, subst}
use Rattle.bz_content.specs.Resolving.{resolve, stands_for}
use Rattle.bz_word.specs.declared.kind.WordKind.{WordKind}
use Rattle.bz_word.specs.declared.kind.WordKind.TheVariants.{Swap}
use Rattle.bz_judge.specs.Inside.Kinds.{CanBeResolved, HasFewEntries, IsReadableKind}
use Rattle.bz_judge.proofs.ReadKinds.{IsKindRead}

pub resolved : (raw : ℕ → ℕ) (a x : ℕ) (k : WordKind) → IsKindRead k (raw a) → x ≡ stands_for raw a k → x ≡ resolve raw a
unfolding resolve
resolved raw a x k r e = e ∙ ap (stands_for raw a) r.kind

pub few-entries : (raw : ℕ → ℕ) (a s : ℕ) → CanBeResolved raw a → IsKindRead (Swap s) (raw a) → HasFewEntries raw s
few-entries raw a s h r = subst (IsReadableKind raw) (sym r.kind) h.readable
