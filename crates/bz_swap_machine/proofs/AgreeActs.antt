-- An act by entries that a worker has learnt is the act by the swap's own.
use Rattle.std.proofs.Common.{◌≡◌, ℕ, ◌<◌, refl, ap, ◌∙◌}
use Rattle.bz_word.specs.declared.kind.WordKind.{WordKind}
use Rattle.bz_word.specs.declared.kind.WordKind.TheVariants.{Value, Dirty, Swap, Tag}
use Rattle.bz_swap_machine.specs.declared.status.Verdict.{Verdict}
use Rattle.bz_swap_machine.specs.declared.status.Verdict.TheVariants.{Succeeded, Failed}
use Rattle.bz_swap_machine.specs.Machine.{Entries, Memory}
use Rattle.bz_swap_machine.specs.Facts.{Fact}
use Rattle.bz_swap_machine.specs.declared.place.HelpStep.{HelpStep}
use Rattle.bz_swap_machine.specs.declared.place.HelpStep.TheVariants.{Look, InstallTag, LookUnderTag, InstallPointer, RemoveTag, AskDirty, FenceDirty, ClearDirty, AskTarget, FenceTargets, Decide, AskStatus, FenceStatus, ClearStatus, PutFinal, AskFinal, FenceFinal, ClearFinal, SweepTag}
use Rattle.bz_swap_machine.specs.declared.place.Next.{Next}
use Rattle.bz_swap_machine.specs.declared.place.Next.TheVariants.{Step}
use Rattle.bz_swap_machine.specs.HelpActs.{passed, finished, final_value, after_install_tag, after_untag, cleared_word, after_put_final, help_act}
use Rattle.bz_swap_machine.specs.Agrees.{Agree}

passed-agrees : (x y : Entries) (i : ℕ) → Agree x y → passed x i ≡ passed y i
passed-agrees x y i a = rw a.count refl

finished-agrees : (x y : Entries) (i : ℕ) (d : Verdict) → Agree x y → finished x i d ≡ finished y i d
finished-agrees x y i d a = rw a.count refl

pub final-agrees : (x y : Entries) (i : ℕ) (d : Verdict) → Agree x y → i < y.count → final_value x i d ≡ final_value y i d
final-agrees x y i Succeeded a lt = a.value i lt
final-agrees x y i Failed a lt = a.expected i lt

install-agrees : (x y : Entries) (m : Memory) (w s i : ℕ) (found : WordKind) → Agree x y → i < y.count → after_install_tag x m w s i found ≡ after_install_tag y m w s i found
install-agrees x y m w s i (Value v) a lt = rw (a.expected i lt, a.target i lt) refl
install-agrees x y m w s i (Dirty v) a lt = refl
install-agrees x y m w s i (Swap t) a lt = rw (passed-agrees x y i a) refl
install-agrees x y m w s i (Tag t j v q) a lt = refl

untag-agrees : (x y : Entries) (m : Memory) (s i v q : ℕ) (new : WordKind) (changed unchanged : Next) (found : WordKind) → Agree x y → i < y.count
    → after_untag x m s i v q new changed unchanged found ≡ after_untag y m s i v q new changed unchanged found
untag-agrees x y m s i v q new changed unchanged (Value u) a lt = refl
untag-agrees x y m s i v q new changed unchanged (Dirty u) a lt = refl
untag-agrees x y m s i v q new changed unchanged (Swap t) a lt = refl
untag-agrees x y m s i v q new changed unchanged (Tag t j u p) a lt = rw (a.target i lt) refl

put_final-agrees : (x y : Entries) (m : Memory) (s i : ℕ) (d : Verdict) (found : WordKind) → Agree x y → i < y.count → after_put_final x m s i d found ≡ after_put_final y m s i d found
put_final-agrees x y m s i d (Value v) a lt = rw (finished-agrees x y i d a) refl
put_final-agrees x y m s i d (Dirty v) a lt = rw (finished-agrees x y i d a) refl
put_final-agrees x y m s i d (Swap t) a lt = rw (final-agrees x y i d a lt, a.target i lt, finished-agrees x y i d a) refl
put_final-agrees x y m s i d (Tag t j v q) a lt = rw (finished-agrees x y i d a) refl

pub help_act-agrees : (e : ℕ → Entries) (x : Entries) (m : Memory) (w s : ℕ) (step : HelpStep) → Agree x (e s) → Fact e m w s step → help_act x m w s step ≡ help_act (e s) m w s step
help_act-agrees e x m w s Look a f = refl
help_act-agrees e x m w s (InstallTag i) a f = ap (λ t. after_install_tag x m w s i (m.cached t)) (a.target i f.0) ∙ install-agrees x (e s) m w s i _ a f.0
help_act-agrees e x m w s (LookUnderTag i v q) a f = refl
help_act-agrees e x m w s (InstallPointer i v q) a f =
    ap (λ t. after_untag x m s i v q (Swap s) (Step (passed x i)) (Step (InstallTag i)) (m.cached t)) (a.target i f.0)
    ∙ ap (λ step. after_untag x m s i v q (Swap s) (Step step) (Step (InstallTag i)) (m.cached ((e s).target i))) (passed-agrees x (e s) i a)
    ∙ untag-agrees x (e s) m s i v q (Swap s) (Step (passed (e s) i)) (Step (InstallTag i)) (m.cached ((e s).target i)) a f.0
help_act-agrees e x m w s (RemoveTag i v q) a f =
    ap (λ t. after_untag x m s i v q (Value (x.expected i)) (Step Look) (Step Look) (m.cached t)) (a.target i f)
    ∙ ap (λ u. after_untag x m s i v q (Value u) (Step Look) (Step Look) (m.cached ((e s).target i))) (a.expected i f)
    ∙ untag-agrees x (e s) m s i v q (Value ((e s).expected i)) (Step Look) (Step Look) (m.cached ((e s).target i)) a f
help_act-agrees e x m w s (AskDirty i v) a f = rw (a.target i f.0) refl
help_act-agrees e x m w s (FenceDirty i v) a f = refl
help_act-agrees e x m w s (ClearDirty i v) a f = ap (λ t. record { memory = cleared_word m t v (m.cached t); next = Step (InstallTag i) }) (a.target i f.0)
help_act-agrees e x m w s (AskTarget i) a f = rw (a.target i f.0, a.count) refl
help_act-agrees e x m w s FenceTargets a f = refl
help_act-agrees e x m w s (Decide d) a f = refl
help_act-agrees e x m w s (AskStatus d) a f = refl
help_act-agrees e x m w s (FenceStatus d) a f = refl
help_act-agrees e x m w s (ClearStatus d) a f = refl
help_act-agrees e x m w s (PutFinal i d) a f = ap (λ t. after_put_final x m s i d (m.cached t)) (a.target i f.0) ∙ put_final-agrees x (e s) m s i d _ a f.0
help_act-agrees e x m w s (AskFinal i d) a f = rw (a.target i f.0) refl
help_act-agrees e x m w s (FenceFinal i d) a f = refl
help_act-agrees e x m w s (ClearFinal i d) a f =
    ap (λ t. record { memory = cleared_word m t (final_value x i d) (m.cached t); next = finished x i d }) (a.target i f.0)
    ∙ ap (λ u. record { memory = cleared_word m ((e s).target i) u (m.cached ((e s).target i)); next = finished x i d }) (final-agrees x (e s) i d a f.0)
    ∙ ap (λ next. record { memory = cleared_word m ((e s).target i) (final_value (e s) i d) (m.cached ((e s).target i)); next = next }) (finished-agrees x (e s) i d a)
help_act-agrees e x m w s (SweepTag i d v q) a f =
    ap (λ t. after_untag x m s i v q (Value (x.expected i)) (finished x i d) (Step (PutFinal i d)) (m.cached t)) (a.target i f.0)
    ∙ ap (λ u. after_untag x m s i v q (Value u) (finished x i d) (Step (PutFinal i d)) (m.cached ((e s).target i))) (a.expected i f.0)
    ∙ ap (λ next. after_untag x m s i v q (Value ((e s).expected i)) next (Step (PutFinal i d)) (m.cached ((e s).target i))) (finished-agrees x (e s) i d a)
    ∙ untag-agrees x (e s) m s i v q (Value ((e s).expected i)) (finished (e s) i d) (Step (PutFinal i d)) (m.cached ((e s).target i)) a f.0
