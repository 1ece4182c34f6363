-- What a worker knows of its current swap stays true under the acts of others.
use Rattle.std.proofs.Common.{◌≡◌, ℕ, ◌≤◌, true, arith}
use Rattle.bz_swap_machine.specs.declared.status.Verdict.TheVariants.{Succeeded, Failed}
use Rattle.bz_swap_machine.specs.Machine.{Entries, Memory}
use Rattle.bz_swap_machine.specs.Changes.{fenced}
use Rattle.bz_swap_machine.specs.Facts.{Points, PointsDurably, Fact}
use Rattle.bz_swap_machine.specs.Keeps.{Keeps}
use Rattle.bz_swap_machine.specs.declared.place.HelpStep.{HelpStep}
use Rattle.bz_swap_machine.specs.declared.place.HelpStep.TheVariants.{Look, InstallTag, LookUnderTag, InstallPointer, RemoveTag, AskDirty, FenceDirty, ClearDirty, AskTarget, FenceTargets, Decide, AskStatus, FenceStatus, ClearStatus, PutFinal, AskFinal, FenceFinal, ClearFinal, SweepTag}

pub points-keeps : (e : ℕ → Entries) (m n : Memory) (s k : ℕ) → Keeps e m n → m.published s ≡ true → k ≤ (e s).count → Points e m s k → Points e n s k
points-keeps e m n s k h p le f = λ u i lt. h.pointer s i (omega arith) u (f (h.undecided s p u) i lt)

pub points_durably-keeps : (e : ℕ → Entries) (m n : Memory) (s k : ℕ) → Keeps e m n → m.published s ≡ true → k ≤ (e s).count → Points e m s k → PointsDurably e m s k → PointsDurably e n s k
points_durably-keeps e m n s k h p le f d = λ u i x lt may.
    h.pointer_durable s i (omega arith) u (f (h.undecided s p u) i lt) (λ y was. d (h.undecided s p u) i y lt was) x may

pub points-fewer : (e : ℕ → Entries) (m : Memory) (s j k : ℕ) → j ≤ k → Points e m s k → Points e m s j
points-fewer e m s j k le f = λ u i lt. f u i (omega arith)

pub fact-keeps : (e : ℕ → Entries) (m n : Memory) (w s : ℕ) (step : HelpStep) → Keeps e m n → Keeps e (fenced m w) (fenced n w) → m.published s ≡ true → Fact e m w s step → Fact e n w s step
fact-keeps e m n w s Look k after p f = tt
fact-keeps e m n w s (InstallTag i) k after p f = (f.0, points-keeps e m n s i k p (omega arith) f.1)
fact-keeps e m n w s (LookUnderTag i v q) k after p f = (f.0, points-keeps e m n s i k p (omega arith) f.1, omega (arith, k.numbers v))
fact-keeps e m n w s (InstallPointer i v q) k after p f =
    (f.0, points-keeps e m n s i k p (omega arith) f.1, omega (arith, k.numbers v), λ h. k.under_tag s i v q f.0 h (f.3 (k.old_tag _ s i v q f.2 h)))
fact-keeps e m n w s (RemoveTag i v q) k after p f = f
fact-keeps e m n w s (AskDirty i v) k after p f = (f.0, points-keeps e m n s i k p (omega arith) f.1)
fact-keeps e m n w s (FenceDirty i v) k after p f = (f.0, points-keeps e m n s i k p (omega arith) f.1)
fact-keeps e m n w s (ClearDirty i v) k after p f = (f.0, points-keeps e m n s i k p (omega arith) f.1)
fact-keeps e m n w s (AskTarget i) k after p f =
    (f.0, points-keeps e m n s _ k p (omega arith) f.1, points_durably-keeps e (fenced m w) (fenced n w) s i after p (omega arith) (points-fewer e m s i (e s).count (omega arith) f.1) f.2)
fact-keeps e m n w s FenceTargets k after p f = (points-keeps e m n s _ k p (omega arith) f.0, points_durably-keeps e (fenced m w) (fenced n w) s _ after p (omega arith) f.0 f.1)
fact-keeps e m n w s (Decide Succeeded) k after p f = (points-keeps e m n s _ k p (omega arith) f.0, points_durably-keeps e m n s _ k p (omega arith) f.0 f.1)
fact-keeps e m n w s (Decide Failed) k after p f = λ u. k.missed s (f (k.undecided s p u))
fact-keeps e m n w s (AskStatus d) k after p f = k.verdict s d f
fact-keeps e m n w s (FenceStatus d) k after p f = (k.verdict s d f.0, after.durable_verdict s d f.1)
fact-keeps e m n w s (ClearStatus d) k after p f = k.durable_verdict s d f
fact-keeps e m n w s (PutFinal i d) k after p f = (f.0, k.durable_verdict s d f.1)
fact-keeps e m n w s (AskFinal i d) k after p f = (f.0, k.durable_verdict s d f.1)
fact-keeps e m n w s (FenceFinal i d) k after p f = (f.0, k.durable_verdict s d f.1)
fact-keeps e m n w s (ClearFinal i d) k after p f = (f.0, k.durable_verdict s d f.1)
fact-keeps e m n w s (SweepTag i d v q) k after p f = (f.0, k.durable_verdict s d f.1)
