-- What follows an act: a clean status stays, and a worker comes to put a pointer only where it found the swap undecided.
use Rattle.std.proofs.Common.{◌≡◌, ◌==◌, ◌&&◌, if◌then◌else◌, ℕ, ◌+◌, ◌*◌, Bool, true, false, arith, refl, ap, sym, subst, ◌∙◌, Some, None}
use Rattle.std.proofs.lemmas.Grind.{common_steps}
use Rattle.std.specs.declared.option.Option.{Option}
use Rattle.bz_word.specs.declared.kind.WordKind.{WordKind}
use Rattle.bz_word.specs.declared.kind.WordKind.TheVariants.{Value, Dirty, Swap, Tag}
use Rattle.bz_swap_machine.specs.declared.status.SwapStatus.{SwapStatus}
use Rattle.bz_swap_machine.specs.declared.status.SwapStatus.TheVariants.{Free, Undecided, Deciding, Decided}
use Rattle.bz_swap_machine.specs.declared.status.Verdict.{Verdict}
use Rattle.bz_swap_machine.specs.declared.status.Verdict.TheVariants.{Succeeded, Failed}
use Rattle.bz_swap_machine.specs.declared.place.HelpStep.{HelpStep}
use Rattle.bz_swap_machine.specs.declared.place.HelpStep.TheVariants.{Look, InstallTag, LookUnderTag, InstallPointer, RemoveTag, AskDirty, FenceDirty, ClearDirty, AskTarget, FenceTargets, Decide, AskStatus, FenceStatus, ClearStatus, PutFinal, AskFinal, FenceFinal, ClearFinal, SweepTag}
use Rattle.bz_swap_machine.specs.declared.place.Place.{Place}
use Rattle.bz_swap_machine.specs.declared.place.Place.TheVariants.{Idle, Prepare, Learn, Help, ReadWord, AskRead, FenceRead, ClearRead, LoadWord, StoreWord, AskLine, FenceLine}
use Rattle.bz_swap_machine.specs.declared.place.PrepareStep.TheVariants.{WriteWord, WriteStatus, AskHead, AskTail, FenceDescriptor}
use Rattle.bz_swap_machine.specs.declared.place.Next.{Next}
use Rattle.bz_swap_machine.specs.declared.place.Next.TheVariants.{Step, Meet, Complete}
use Rattle.bz_swap_machine.specs.declared.worker.Operation.{Operation}
use Rattle.bz_swap_machine.specs.declared.worker.Operation.TheVariants.{Nothing, Reading, Swapping}
use Rattle.bz_swap_machine.specs.Changes.{put, with_word, with_tag, with_miss}
use Rattle.bz_swap_machine.specs.Ends.{IsClean, PutsPointer, IsAtPointer}
use Rattle.bz_swap_machine.specs.HelpActs.{After, by_status, final_value, finished, passed, after_install_tag, after_look_under, after_untag, cleared_word, cleared_status, after_decide, after_put_final, help_act}
use Rattle.bz_swap_machine.specs.Knows.{AtPlace}
use Rattle.bz_swap_machine.specs.Machine.{Entries, Memory, entries_in}
use Rattle.bz_swap_machine.specs.Sound.{IsUnset, Sound}
use Rattle.bz_swap_machine.specs.Steps.{Local, is_own, resumed, completed, after_help, read_act, act}
use Rattle.bz_swap_machine.proofs.WordChanges.{cleared-cases}

-- the statuses are the same
abbrev SameStatus : Memory → Memory → Type 0
SameStatus m n = (s : ℕ) → n.status s ≡ m.status s

pub status-help : (l : Local) (m : Memory) (next : Next) → (after_help l m next).memory.status ≡ m.status
status-help l m (Step step) = refl
status-help l m (Meet t) = refl
status-help l m (Complete d) = by_own (is_own l.operation l.current) refl
  where
    by_own : (b : Bool) → is_own l.operation l.current ≡ b → (completed m l d).memory.status ≡ m.status
    by_own true is = rw is refl
    by_own false is = rw is refl

same-if : (m : Memory) (t : Bool) (x y : After) → SameStatus m x.memory → SameStatus m y.memory → SameStatus m (if t then x else y).memory
same-if m true x y f g = f
same-if m false x y f g = g

same-install : (x : Entries) (m : Memory) (w s i : ℕ) (found : WordKind) → SameStatus m (after_install_tag x m w s i found).memory
same-install x m w s i (Value v) = same-if m (v == x.expected i) (record { memory = with_tag m (x.target i) s i w; next = Step (LookUnderTag i w (m.next_tag w)) }) (record { memory = with_miss m s; next = Step (Decide Failed) }) (λ t. refl) (λ t. refl)
same-install x m w s i (Dirty v) = λ t. refl
same-install x m w s i (Swap t) = λ u. refl
same-install x m w s i (Tag t j v q) = λ u. refl

same-untag : (x : Entries) (m : Memory) (s i v q : ℕ) (new : WordKind) (changed unchanged : Next) (found : WordKind) → SameStatus m (after_untag x m s i v q new changed unchanged found).memory
same-untag x m s i v q new changed unchanged (Value u) = λ t. refl
same-untag x m s i v q new changed unchanged (Dirty u) = λ t. refl
same-untag x m s i v q new changed unchanged (Swap u) = λ t. refl
same-untag x m s i v q new changed unchanged (Tag t j u p) =
    same-if m (((t == s) && (j == i)) && ((u == v) && (p == q))) (record { memory = with_word m (x.target i) new; next = changed }) (record { memory = m; next = unchanged }) (λ k. refl) (λ k. refl)

same-final : (x : Entries) (m : Memory) (s i : ℕ) (d : Verdict) (found : WordKind) → SameStatus m (after_put_final x m s i d found).memory
same-final x m s i d (Value v) = λ t. refl
same-final x m s i d (Dirty v) = λ t. refl
same-final x m s i d (Swap t) = same-if m (t == s) (record { memory = with_word m (x.target i) (Dirty (final_value x i d)); next = Step (AskFinal i d) }) (record { memory = m; next = finished x i d }) (λ k. refl) (λ k. refl)
same-final x m s i d (Tag t j v q) = λ k. refl

same-cleared : (m : Memory) (a v : ℕ) (found : WordKind) → SameStatus m (cleared_word m a v found)
same-cleared m a v found = cleared-cases m a v found (SameStatus m) (λ t. refl) (λ t. refl)

-- a clean status stays clean where another is put
clean-put : (status : ℕ → SwapStatus) (c s : ℕ) (new : SwapStatus) → (s ≡ c → IsClean (status s) → IsClean new) → IsClean (status s) → IsClean (put status c new s)
clean-put status c s new own clean = by_test (s == c) refl
  where
    by_test : (t : Bool) → (s == c) ≡ t → IsClean (if t then new else status s)
    by_test true told = own (grind (arith, common_steps, told)) clean
    by_test false told = clean

clean-decide : (m : Memory) (c s : ℕ) (d : Verdict) (found : SwapStatus) → m.status c ≡ found → IsClean (m.status s) → IsClean ((after_decide m c d found).memory.status s)
clean-decide m c s d Free is clean = clean
clean-decide m c s d Undecided is clean = clean-put m.status c s (Deciding d) (λ same k. absurd (subst IsClean (ap m.status same ∙ is) k)) clean
clean-decide m c s d (Deciding k) is clean = clean
clean-decide m c s d (Decided k) is clean = clean

clean-clear : (m : Memory) (c s : ℕ) (d : Verdict) (found : SwapStatus) → IsClean (m.status s) → IsClean ((cleared_status m c d found).status s)
clean-clear m c s d Free clean = clean
clean-clear m c s d Undecided clean = clean
clean-clear m c s Succeeded (Deciding Succeeded) clean = clean-put m.status c s (Decided Succeeded) (λ same k. tt) clean
clean-clear m c s Succeeded (Deciding Failed) clean = clean
clean-clear m c s Failed (Deciding Succeeded) clean = clean
clean-clear m c s Failed (Deciding Failed) clean = clean-put m.status c s (Decided Failed) (λ same k. tt) clean
clean-clear m c s d (Decided k) clean = clean

clean-same : (p q : SwapStatus) → q ≡ p → IsClean p → IsClean q
clean-same p q same clean = subst IsClean (sym same) clean

pub clean-help : (x : Entries) (m : Memory) (w c : ℕ) (step : HelpStep) (s : ℕ) → IsClean (m.status s) → IsClean ((help_act x m w c step).memory.status s)
clean-help x m w c Look s clean = clean
clean-help x m w c (InstallTag i) s clean = clean-same _ _ (same-install x m w c i (m.cached (x.target i)) s) clean
clean-help x m w c (LookUnderTag i v q) s clean = clean
clean-help x m w c (InstallPointer i v q) s clean = clean-same _ _ (same-untag x m c i v q (Swap c) (Step (passed x i)) (Step (InstallTag i)) (m.cached (x.target i)) s) clean
clean-help x m w c (RemoveTag i v q) s clean = clean-same _ _ (same-untag x m c i v q (Value (x.expected i)) (Step Look) (Step Look) (m.cached (x.target i)) s) clean
clean-help x m w c (AskDirty i v) s clean = clean
clean-help x m w c (FenceDirty i v) s clean = clean
clean-help x m w c (ClearDirty i v) s clean = clean-same _ _ (same-cleared m (x.target i) v (m.cached (x.target i)) s) clean
clean-help x m w c (AskTarget i) s clean = clean
clean-help x m w c FenceTargets s clean = clean
clean-help x m w c (Decide d) s clean = clean-decide m c s d (m.status c) refl clean
clean-help x m w c (AskStatus d) s clean = clean
clean-help x m w c (FenceStatus d) s clean = clean
clean-help x m w c (ClearStatus d) s clean = clean-clear m c s d (m.status c) clean
clean-help x m w c (PutFinal i d) s clean = clean-same _ _ (same-final x m c i d (m.cached (x.target i)) s) clean
clean-help x m w c (AskFinal i d) s clean = clean
clean-help x m w c (FenceFinal i d) s clean = clean
clean-help x m w c (ClearFinal i d) s clean = clean-same _ _ (same-cleared m (x.target i) (final_value x i d) (m.cached (x.target i)) s) clean
clean-help x m w c (SweepTag i d v q) s clean = clean-same _ _ (same-untag x m c i v q (Value (x.expected i)) (finished x i d) (Step (PutFinal i d)) (m.cached (x.target i)) s) clean

unset-clean : (k : SwapStatus) → IsUnset k → IsClean k → ⊥
unset-clean Free unset clean = clean
unset-clean Undecided unset clean = clean
unset-clean (Deciding d) unset clean = clean
unset-clean (Decided d) unset clean = unset

clean-read : (m : Memory) (l : Local) (a s : ℕ) (found : WordKind) → IsClean (m.status s) → IsClean ((read_act m l a found).memory.status s)
clean-read m l a s (Value v) clean = clean
clean-read m l a s (Dirty v) clean = clean
clean-read m l a s (Swap t) clean = clean
clean-read m l a s (Tag t j v q) clean = clean

pub clean-act : (e : ℕ → Entries) (m : Memory) (w : ℕ) (l : Local) (place : Place) (s : ℕ) → Sound e m → AtPlace e m w l place → IsClean (m.status s) → IsClean ((act m w l place).memory.status s)
clean-act e m w l Idle s sound at clean = clean
clean-act e m w l (Prepare (WriteWord k)) s sound at clean = clean
clean-act e m w l (Prepare WriteStatus) s sound at clean = clean-put m.status l.current s Undecided (λ same k. absurd (unset-clean (m.status s) (sound.unset s (ap m.published same ∙ at.1)) k)) clean
clean-act e m w l (Prepare AskHead) s sound at clean = clean
clean-act e m w l (Prepare AskTail) s sound at clean = clean
clean-act e m w l (Prepare FenceDescriptor) s sound at clean = clean
clean-act e m w l (Learn k) s sound at clean = clean
clean-act e m w l (Help step) s sound at clean =
    let n : Memory = (help_act (entries_in l.list) m w l.current step).memory in
    subst IsClean (ap (λ (f : ℕ → SwapStatus). f s) (sym (status-help l n (help_act (entries_in l.list) m w l.current step).next))) (clean-help (entries_in l.list) m w l.current step s clean)
clean-act e m w l (ReadWord a) s sound at clean = clean-read m l a s (m.cached a) clean
clean-act e m w l (AskRead a v) s sound at clean = clean
clean-act e m w l (FenceRead a v) s sound at clean = clean
clean-act e m w l (ClearRead a v) s sound at clean = clean-same _ _ (same-cleared m a v (m.cached a) s) clean
clean-act e m w l (LoadWord a) s sound at clean = clean
clean-act e m w l (StoreWord a v) s sound at clean = clean
clean-act e m w l (AskLine line) s sound at clean = clean
clean-act e m w l (FenceLine line) s sound at clean = clean

-- what follows puts a pointer
abbrev GoesTo : Next → ℕ → ℕ → ℕ → Type 0
GoesTo (Step step) i v q = PutsPointer step i v q
GoesTo (Meet t) i v q = ⊥
GoesTo (Complete d) i v q = ⊥

resumed-points : (l : Local) (back : Option ℕ) (operation : Operation) (i v q : ℕ) → IsAtPointer (resumed l back operation).place i v q → ⊥
resumed-points l (Some b) operation i v q at = at
resumed-points l None Nothing i v q at = at
resumed-points l None (Reading a) i v q at = at
resumed-points l None (Swapping s) i v q at = at

after-points : (l : Local) (n : Memory) (next : Next) (i v q : ℕ) → IsAtPointer (after_help l n next).local.place i v q → GoesTo next i v q × ((after_help l n next).local.current ≡ l.current)
after-points l n (Step step) i v q at = (at, refl)
after-points l n (Meet t) i v q at = absurd at
after-points l n (Complete d) i v q at = absurd (by_own (is_own l.operation l.current) refl at)
  where
    by_own : (b : Bool) → is_own l.operation l.current ≡ b → IsAtPointer (completed n l d).local.place i v q → ⊥
    by_own true is k = rw is at k
    by_own false is k = resumed-points l l.back l.operation i v q (rw is at k)

no-status : (found : SwapStatus) (i v q : ℕ) → PutsPointer (by_status found) i v q → ⊥
no-status Free i v q at = at
no-status Undecided i v q at = at
no-status (Deciding d) i v q at = at
no-status (Decided d) i v q at = at

under-points : (j u p : ℕ) (found : SwapStatus) (i v q : ℕ) → PutsPointer (after_look_under j u p found) i v q → found ≡ Undecided
under-points j u p Free i v q at = absurd at
under-points j u p Undecided i v q at = refl
under-points j u p (Deciding d) i v q at = absurd at
under-points j u p (Decided d) i v q at = absurd at

goes-if : (t : Bool) (x y : Next) (i v q : ℕ) → (GoesTo x i v q → ⊥) → (GoesTo y i v q → ⊥) → GoesTo (if t then x else y) i v q → ⊥
goes-if true x y i v q f g = f
goes-if false x y i v q f g = g

after-if : (t : Bool) (x y : After) (i v q : ℕ) → (GoesTo x.next i v q → ⊥) → (GoesTo y.next i v q → ⊥) → GoesTo (if t then x else y).next i v q → ⊥
after-if true x y i v q f g = f
after-if false x y i v q f g = g

step-if : (t : Bool) (x y : HelpStep) (i v q : ℕ) → (PutsPointer x i v q → ⊥) → (PutsPointer y i v q → ⊥) → PutsPointer (if t then x else y) i v q → ⊥
step-if true x y i v q f g = f
step-if false x y i v q f g = g

no-passed : (x : Entries) (j i v q : ℕ) → PutsPointer (passed x j) i v q → ⊥
no-passed x j i v q = step-if (j + 1 == x.count) (AskTarget 0) (InstallTag (j + 1)) i v q (λ k. k) (λ k. k)

no-finished : (x : Entries) (j : ℕ) (d : Verdict) (i v q : ℕ) → GoesTo (finished x j d) i v q → ⊥
no-finished x j d i v q = goes-if (j + 1 == x.count) (Complete d) (Step (PutFinal (j + 1) d)) i v q (λ k. k) (λ k. k)

no-install : (x : Entries) (m : Memory) (w s j : ℕ) (found : WordKind) (i v q : ℕ) → GoesTo (after_install_tag x m w s j found).next i v q → ⊥
no-install x m w s j (Value u) i v q =
    after-if (u == x.expected j) (record { memory = with_tag m (x.target j) s j w; next = Step (LookUnderTag j w (m.next_tag w)) }) (record { memory = with_miss m s; next = Step (Decide Failed) }) i v q (λ k. k) (λ k. k)
no-install x m w s j (Dirty u) i v q = λ k. k
no-install x m w s j (Swap t) i v q = goes-if (t == s) (Step (passed x j)) (Meet t) i v q (no-passed x j i v q) (λ k. k)
no-install x m w s j (Tag t k u p) i v q = goes-if (t == s) (Step (LookUnderTag j u p)) (Meet t) i v q (λ k'. k') (λ k'. k')

no-untag : (x : Entries) (m : Memory) (s j u p : ℕ) (new : WordKind) (changed unchanged : Next) (found : WordKind) (i v q : ℕ) → (GoesTo changed i v q → ⊥) → (GoesTo unchanged i v q → ⊥)
    → GoesTo (after_untag x m s j u p new changed unchanged found).next i v q → ⊥
no-untag x m s j u p new changed unchanged (Value y) i v q f g = g
no-untag x m s j u p new changed unchanged (Dirty y) i v q f g = g
no-untag x m s j u p new changed unchanged (Swap t) i v q f g = g
no-untag x m s j u p new changed unchanged (Tag t k y z) i v q f g =
    after-if (((t == s) && (k == j)) && ((y == u) && (z == p))) (record { memory = with_word m (x.target j) new; next = changed }) (record { memory = m; next = unchanged }) i v q f g

no-decide : (m : Memory) (s : ℕ) (d : Verdict) (found : SwapStatus) (i v q : ℕ) → GoesTo (after_decide m s d found).next i v q → ⊥
no-decide m s d Free i v q = λ k. k
no-decide m s d Undecided i v q = λ k. k
no-decide m s d (Deciding c) i v q = λ k. k
no-decide m s d (Decided c) i v q = λ k. k

no-final : (x : Entries) (m : Memory) (s j : ℕ) (d : Verdict) (found : WordKind) (i v q : ℕ) → GoesTo (after_put_final x m s j d found).next i v q → ⊥
no-final x m s j d (Value u) i v q = no-finished x j d i v q
no-final x m s j d (Dirty u) i v q = no-finished x j d i v q
no-final x m s j d (Swap t) i v q = after-if (t == s) (record { memory = with_word m (x.target j) (Dirty (final_value x j d)); next = Step (AskFinal j d) }) (record { memory = m; next = finished x j d }) i v q (λ k. k) (no-finished x j d i v q)
no-final x m s j d (Tag t k u p) i v q = goes-if (t == s) (Step (SweepTag j d u p)) (finished x j d) i v q (λ k'. k') (no-finished x j d i v q)

help-points : (x : Entries) (m : Memory) (w s : ℕ) (step : HelpStep) (i v q : ℕ) → GoesTo (help_act x m w s step).next i v q → m.status s ≡ Undecided
help-points x m w s Look i v q at = absurd (no-status (m.status s) i v q at)
help-points x m w s (InstallTag j) i v q at = absurd (no-install x m w s j (m.cached (x.target j)) i v q at)
help-points x m w s (LookUnderTag j u p) i v q at = under-points j u p (m.status s) i v q at
help-points x m w s (InstallPointer j u p) i v q at = absurd (no-untag x m s j u p (Swap s) (Step (passed x j)) (Step (InstallTag j)) (m.cached (x.target j)) i v q (no-passed x j i v q) (λ k. k) at)
help-points x m w s (RemoveTag j u p) i v q at = absurd (no-untag x m s j u p (Value (x.expected j)) (Step Look) (Step Look) (m.cached (x.target j)) i v q (λ k. k) (λ k. k) at)
help-points x m w s (AskDirty j u) i v q at = absurd at
help-points x m w s (FenceDirty j u) i v q at = absurd at
help-points x m w s (ClearDirty j u) i v q at = absurd at
help-points x m w s (AskTarget j) i v q at = absurd (step-if (j + 1 == x.count) FenceTargets (AskTarget (j + 1)) i v q (λ k. k) (λ k. k) at)
help-points x m w s FenceTargets i v q at = absurd at
help-points x m w s (Decide d) i v q at = absurd (no-decide m s d (m.status s) i v q at)
help-points x m w s (AskStatus d) i v q at = absurd at
help-points x m w s (FenceStatus d) i v q at = absurd at
help-points x m w s (ClearStatus d) i v q at = absurd at
help-points x m w s (PutFinal j d) i v q at = absurd (no-final x m s j d (m.cached (x.target j)) i v q at)
help-points x m w s (AskFinal j d) i v q at = absurd at
help-points x m w s (FenceFinal j d) i v q at = absurd at
help-points x m w s (ClearFinal j d) i v q at = absurd (no-finished x j d i v q at)
help-points x m w s (SweepTag j d u p) i v q at = absurd (no-untag x m s j u p (Value (x.expected j)) (finished x j d) (Step (PutFinal j d)) (m.cached (x.target j)) i v q (no-finished x j d i v q) (λ k. k) at)

-- a worker comes to put a pointer where it found its swap undecided
pub act-points : (m : Memory) (w : ℕ) (l : Local) (place : Place) (i v q : ℕ) → IsAtPointer (act m w l place).local.place i v q → ((act m w l place).local.current ≡ l.current) × (m.status l.current ≡ Undecided)
act-points m w l Idle i v q at = absurd at
act-points m w l (Prepare (WriteWord k)) i v q at = absurd at
act-points m w l (Prepare WriteStatus) i v q at = absurd at
act-points m w l (Prepare AskHead) i v q at = absurd at
act-points m w l (Prepare AskTail) i v q at = absurd at
act-points m w l (Prepare FenceDescriptor) i v q at = absurd at
act-points m w l (Learn k) i v q at = absurd (by_last (k == 3 * put l.list k (m.words l.current k) 0) at)
  where
    by_last : (b : Bool) → IsAtPointer (if b then Help Look else Learn (k + 1)) i v q → ⊥
    by_last true at = at
    by_last false at = at
act-points m w l (Help step) i v q at =
    let h = after-points l (help_act (entries_in l.list) m w l.current step).memory (help_act (entries_in l.list) m w l.current step).next i v q at in
    (h.1, help-points (entries_in l.list) m w l.current step i v q h.0)
act-points m w l (ReadWord a) i v q at = absurd (by_found (m.cached a) at)
  where
    by_found : (found : WordKind) → IsAtPointer (read_act m l a found).local.place i v q → ⊥
    by_found (Value u) at = at
    by_found (Dirty u) at = at
    by_found (Swap t) at = at
    by_found (Tag t j u p) at = at
act-points m w l (AskRead a u) i v q at = absurd at
act-points m w l (FenceRead a u) i v q at = absurd at
act-points m w l (ClearRead a u) i v q at = absurd at
act-points m w l (LoadWord a) i v q at = absurd at
act-points m w l (StoreWord a u) i v q at = absurd at
act-points m w l (AskLine line) i v q at = absurd at
act-points m w l (FenceLine line) i v q at = absurd at
