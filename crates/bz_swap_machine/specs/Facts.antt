-- What one worker knows at the place where its next act is due.
use Rattle.std.specs.Prelude.{◌≡◌, ℕ, ◌<◌, true, false}
use Rattle.bz_word.specs.declared.kind.WordKind.{WordKind}
use Rattle.bz_word.specs.declared.kind.WordKind.TheVariants.{Swap, Tag}
use Rattle.bz_swap_machine.specs.declared.status.SwapStatus.TheVariants.{Undecided}
use Rattle.bz_swap_machine.specs.declared.status.Verdict.TheVariants.{Succeeded, Failed}
use Rattle.bz_swap_machine.specs.declared.place.HelpStep.{HelpStep}
use Rattle.bz_swap_machine.specs.declared.place.HelpStep.TheVariants.{Look, InstallTag, LookUnderTag, InstallPointer, RemoveTag, AskDirty, FenceDirty, ClearDirty, AskTarget, FenceTargets, Decide, AskStatus, FenceStatus, ClearStatus, PutFinal, AskFinal, FenceFinal, ClearFinal, SweepTag}
use Rattle.bz_swap_machine.specs.declared.place.Next.{Next}
use Rattle.bz_swap_machine.specs.declared.place.Next.TheVariants.{Step, Meet, Complete}
use Rattle.bz_swap_machine.specs.Machine.{Entries, Memory, is_verdict, is_succeeded, MayLast}
use Rattle.bz_swap_machine.specs.Changes.{fenced}

-- while the swap is undecided, its first k targets hold its pointer
abbrev pub Points : (ℕ → Entries) → Memory → ℕ → ℕ → Type 0
Points e m s k = m.status s ≡ Undecided → (i : ℕ) → i < k → m.cached ((e s).target i) ≡ Swap s

-- and will hold it after a power cut
abbrev pub PointsDurably : (ℕ → Entries) → Memory → ℕ → ℕ → Type 0
PointsDurably e m s k = m.status s ≡ Undecided → (i : ℕ) (x : WordKind) → i < k → MayLast m ((e s).target i) x → x ≡ Swap s

-- what worker w knows of its current swap s, which is published; between an ask and the fence after it also of the memory as that
-- fence will leave it
abbrev pub Fact : (ℕ → Entries) → Memory → ℕ → ℕ → HelpStep → Type 0
Fact e m w s Look = Unit {0}
Fact e m w s (InstallTag i) = (i < (e s).count) × Points e m s i
Fact e m w s (LookUnderTag i v q) = (i < (e s).count) × Points e m s i × (q < m.next_tag v)
Fact e m w s (InstallPointer i v q) = (i < (e s).count) × Points e m s i × (q < m.next_tag v) × (m.cached ((e s).target i) ≡ Tag s i v q → is_succeeded (m.status s) ≡ false)
Fact e m w s (RemoveTag i v q) = i < (e s).count
Fact e m w s (AskDirty i v) = (i < (e s).count) × Points e m s i
Fact e m w s (FenceDirty i v) = (i < (e s).count) × Points e m s i
Fact e m w s (ClearDirty i v) = (i < (e s).count) × Points e m s i
Fact e m w s (AskTarget i) = (i < (e s).count) × Points e m s (e s).count × PointsDurably e (fenced m w) s i
Fact e m w s FenceTargets = Points e m s (e s).count × PointsDurably e (fenced m w) s (e s).count
Fact e m w s (Decide Succeeded) = Points e m s (e s).count × PointsDurably e m s (e s).count
Fact e m w s (Decide Failed) = m.status s ≡ Undecided → m.missed s ≡ true
Fact e m w s (AskStatus d) = is_verdict (m.status s) d ≡ true
Fact e m w s (FenceStatus d) = (is_verdict (m.status s) d ≡ true) × (is_verdict ((fenced m w).durable_status s) d ≡ true)
Fact e m w s (ClearStatus d) = is_verdict (m.durable_status s) d ≡ true
Fact e m w s (PutFinal i d) = (i < (e s).count) × (is_verdict (m.durable_status s) d ≡ true)
Fact e m w s (AskFinal i d) = (i < (e s).count) × (is_verdict (m.durable_status s) d ≡ true)
Fact e m w s (FenceFinal i d) = (i < (e s).count) × (is_verdict (m.durable_status s) d ≡ true)
Fact e m w s (ClearFinal i d) = (i < (e s).count) × (is_verdict (m.durable_status s) d ≡ true)
Fact e m w s (SweepTag i d v q) = (i < (e s).count) × (is_verdict (m.durable_status s) d ≡ true)

-- what it knows where this follows
abbrev pub FactNext : (ℕ → Entries) → Memory → ℕ → ℕ → Next → Type 0
FactNext e m w s (Step step) = Fact e m w s step
FactNext e m w s (Meet t) = m.published t ≡ true
FactNext e m w s (Complete d) = is_verdict (m.durable_status s) d ≡ true
