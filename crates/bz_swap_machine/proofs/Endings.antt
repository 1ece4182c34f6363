-- An act that completes a swap is none that makes its verdict durable: that was durable before.
use Rattle.std.proofs.Common.{◌≡◌, ℕ, ◌+◌, ◌==◌, ◌&&◌, if◌then◌else◌, Bool, true, false, arith}
use Rattle.bz_word.specs.declared.kind.WordKind.{WordKind}
use Rattle.bz_word.specs.declared.kind.WordKind.TheVariants.{Value, Dirty, Swap, Tag}
use Rattle.bz_swap_machine.specs.declared.status.SwapStatus.{SwapStatus}
use Rattle.bz_swap_machine.specs.declared.status.SwapStatus.TheVariants.{Free, Undecided, Deciding, Decided}
use Rattle.bz_swap_machine.specs.declared.status.Verdict.{Verdict}
use Rattle.bz_swap_machine.specs.declared.status.Verdict.TheVariants.{Failed}
use Rattle.bz_swap_machine.specs.Machine.{Entries, Memory, is_verdict}
use Rattle.bz_swap_machine.specs.Facts.{Fact}
use Rattle.bz_swap_machine.specs.declared.place.HelpStep.{HelpStep}
use Rattle.bz_swap_machine.specs.declared.place.HelpStep.TheVariants.{Look, InstallTag, LookUnderTag, InstallPointer, RemoveTag, AskDirty, FenceDirty, ClearDirty, AskTarget, FenceTargets, Decide, AskStatus, FenceStatus, ClearStatus, PutFinal, AskFinal, FenceFinal, ClearFinal, SweepTag}
use Rattle.bz_swap_machine.specs.declared.place.Next.{Next}
use Rattle.bz_swap_machine.specs.declared.place.Next.TheVariants.{Step, Meet, Complete}
use Rattle.bz_swap_machine.specs.HelpActs.{After, passed, finished, after_install_tag, after_untag, after_decide, after_put_final, help_act}

ended-if : (b : Bool) (x y : Next) (P : Type 0) (d : Verdict) → (x ≡ Complete d → P) → (y ≡ Complete d → P) → (if b then x else y) ≡ Complete d → P
ended-if true x y P d f g h = f h
ended-if false x y P d f g h = g h

after-if : (b : Bool) (x y : After) (P : Type 0) (d : Verdict) → (x.next ≡ Complete d → P) → (y.next ≡ Complete d → P) → (if b then x else y).next ≡ Complete d → P
after-if true x y P d f g h = f h
after-if false x y P d f g h = g h

goes_on : (step : HelpStep) (d : Verdict) (P : Type 0) → Step step ≡ Complete d → P
goes_on step d P h = absurd (grind (arith, h))

meets : (t : ℕ) (d : Verdict) (P : Type 0) → Meet t ≡ Complete d → P
meets t d P h = absurd (grind (arith, h))

-- the end of the last phase has the verdict of the phase
finished-verdict : (x : Entries) (i : ℕ) (c d : Verdict) (k : SwapStatus) → is_verdict k c ≡ true → finished x i c ≡ Complete d → is_verdict k d ≡ true
finished-verdict x i c d k v h = ended-if (i + 1 == x.count) (Complete c) (Step (PutFinal (i + 1) c)) (is_verdict k d ≡ true) d
    (λ h'. let same : c ≡ d = grind (arith, h') in rw (← same) v) (goes_on (PutFinal (i + 1) c) d (is_verdict k d ≡ true)) h

install-goes_on : (x : Entries) (m : Memory) (w s i : ℕ) (found : WordKind) (d : Verdict) (P : Type 0) → (after_install_tag x m w s i found).next ≡ Complete d → P
install-goes_on x m w s i (Value v) d P h = after-if (v == x.expected i) _ _ P d (goes_on (LookUnderTag i w (m.next_tag w)) d P) (goes_on (Decide Failed) d P) h
install-goes_on x m w s i (Dirty v) d P h = goes_on (AskDirty i v) d P h
install-goes_on x m w s i (Swap t) d P h = ended-if (t == s) _ _ P d (goes_on (passed x i) d P) (meets t d P) h
install-goes_on x m w s i (Tag t j v q) d P h = ended-if (t == s) _ _ P d (goes_on (LookUnderTag i v q) d P) (meets t d P) h

untag-ends : (x : Entries) (m : Memory) (s i v q : ℕ) (new : WordKind) (changed unchanged : Next) (found : WordKind) (d : Verdict) (P : Type 0)
    → (changed ≡ Complete d → P) → (unchanged ≡ Complete d → P) → (after_untag x m s i v q new changed unchanged found).next ≡ Complete d → P
untag-ends x m s i v q new changed unchanged (Value u) d P f g h = g h
untag-ends x m s i v q new changed unchanged (Dirty u) d P f g h = g h
untag-ends x m s i v q new changed unchanged (Swap t) d P f g h = g h
untag-ends x m s i v q new changed unchanged (Tag t j u p) d P f g h = after-if (((t == s) && (j == i)) && ((u == v) && (p == q))) _ _ P d f g h

decide-goes_on : (m : Memory) (s : ℕ) (c : Verdict) (found : SwapStatus) (d : Verdict) (P : Type 0) → (after_decide m s c found).next ≡ Complete d → P
decide-goes_on m s c Free d P h = goes_on _ d P h
decide-goes_on m s c Undecided d P h = goes_on _ d P h
decide-goes_on m s c (Deciding b) d P h = goes_on _ d P h
decide-goes_on m s c (Decided b) d P h = goes_on _ d P h

put_final-ends : (x : Entries) (m : Memory) (s i : ℕ) (c : Verdict) (found : WordKind) (d : Verdict) (k : SwapStatus) → is_verdict k c ≡ true → (after_put_final x m s i c found).next ≡ Complete d → is_verdict k d ≡ true
put_final-ends x m s i c (Value v) d k f h = finished-verdict x i c d k f h
put_final-ends x m s i c (Dirty v) d k f h = finished-verdict x i c d k f h
put_final-ends x m s i c (Swap t) d k f h = after-if (t == s) _ _ (is_verdict k d ≡ true) d (goes_on (AskFinal i c) d (is_verdict k d ≡ true)) (finished-verdict x i c d k f) h
put_final-ends x m s i c (Tag t j v q) d k f h = ended-if (t == s) _ _ (is_verdict k d ≡ true) d (goes_on (SweepTag i c v q) d (is_verdict k d ≡ true)) (finished-verdict x i c d k f) h

pub help_act-ends : (e : ℕ → Entries) (m : Memory) (w s : ℕ) (step : HelpStep) (d : Verdict) → Fact e m w s step → (help_act (e s) m w s step).next ≡ Complete d → is_verdict (m.durable_status s) d ≡ true
help_act-ends e m w s Look d f h = goes_on _ d _ h
help_act-ends e m w s (InstallTag i) d f h = install-goes_on (e s) m w s i (m.cached ((e s).target i)) d _ h
help_act-ends e m w s (LookUnderTag i v q) d f h = goes_on _ d _ h
help_act-ends e m w s (InstallPointer i v q) d f h = untag-ends (e s) m s i v q (Swap s) (Step (passed (e s) i)) (Step (InstallTag i)) (m.cached ((e s).target i)) d _ (goes_on _ d _) (goes_on _ d _) h
help_act-ends e m w s (RemoveTag i v q) d f h = untag-ends (e s) m s i v q (Value ((e s).expected i)) (Step Look) (Step Look) (m.cached ((e s).target i)) d _ (goes_on _ d _) (goes_on _ d _) h
help_act-ends e m w s (AskDirty i v) d f h = goes_on _ d _ h
help_act-ends e m w s (FenceDirty i v) d f h = goes_on _ d _ h
help_act-ends e m w s (ClearDirty i v) d f h = goes_on _ d _ h
help_act-ends e m w s (AskTarget i) d f h = goes_on _ d _ h
help_act-ends e m w s FenceTargets d f h = goes_on _ d _ h
help_act-ends e m w s (Decide c) d f h = decide-goes_on m s c (m.status s) d _ h
help_act-ends e m w s (AskStatus c) d f h = goes_on _ d _ h
help_act-ends e m w s (FenceStatus c) d f h = goes_on _ d _ h
help_act-ends e m w s (ClearStatus c) d f h = goes_on _ d _ h
help_act-ends e m w s (PutFinal i c) d f h = put_final-ends (e s) m s i c (m.cached ((e s).target i)) d (m.durable_status s) f.1 h
help_act-ends e m w s (AskFinal i c) d f h = goes_on _ d _ h
help_act-ends e m w s (FenceFinal i c) d f h = goes_on _ d _ h
help_act-ends e m w s (ClearFinal i c) d f h = finished-verdict (e s) i c d (m.durable_status s) f.1 h
help_act-ends e m w s (SweepTag i c v q) d f h =
    untag-ends (e s) m s i v q (Value ((e s).expected i)) (finished (e s) i c) (Step (PutFinal i c)) (m.cached ((e s).target i)) d _ (finished-verdict (e s) i c d (m.durable_status s) f.1) (goes_on _ d _) h
