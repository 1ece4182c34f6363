-- The last phase of a swap leaves nothing of it behind, whatever may happen.
use Rattle.std.proofs.Common.{◌≡◌, ◌⊎◌, ◌==◌, ◌&&◌, if◌then◌else◌, ℕ, ◌+◌, ◌*◌, ◌<◌, ◌≤◌, Bool, true, false, arith, refl, ap, sym, subst, ◌∙◌, inl, inr, Some}
use Rattle.std.specs.declared.option.Option.{Option}
use Rattle.std.proofs.lemmas.Grind.{common_steps}
use Rattle.bz_word.specs.declared.kind.WordKind.{WordKind}
use Rattle.bz_word.specs.declared.kind.WordKind.TheVariants.{Value, Dirty, Swap, Tag}
use Rattle.bz_swap_machine.specs.declared.status.SwapStatus.{SwapStatus}
use Rattle.bz_swap_machine.specs.declared.status.SwapStatus.TheVariants.{Free, Undecided, Deciding, Decided}
use Rattle.bz_swap_machine.specs.declared.status.Verdict.{Verdict}
use Rattle.bz_swap_machine.specs.declared.status.Verdict.TheVariants.{Succeeded, Failed}
use Rattle.bz_swap_machine.specs.declared.place.HelpStep.{HelpStep}
use Rattle.bz_swap_machine.specs.declared.place.HelpStep.TheVariants.{Look, InstallTag, LookUnderTag, InstallPointer, RemoveTag, AskDirty, FenceDirty, ClearDirty, AskTarget, FenceTargets, Decide, AskStatus, FenceStatus, ClearStatus, PutFinal, AskFinal, FenceFinal, ClearFinal, SweepTag}
use Rattle.bz_swap_machine.specs.declared.place.Place.{Place}
use Rattle.bz_swap_machine.specs.declared.place.Place.TheVariants.{Idle, Prepare, Learn, Help, ReadWord, AskRead, FenceRead, ClearRead, LoadWord, StoreWord, AskLine, FenceLine}
use Rattle.bz_swap_machine.specs.declared.place.PrepareStep.{PrepareStep}
use Rattle.bz_swap_machine.specs.declared.place.PrepareStep.TheVariants.{WriteWord, WriteStatus, AskHead, AskTail, FenceDescriptor}
use Rattle.bz_swap_machine.specs.declared.place.Next.{Next}
use Rattle.bz_swap_machine.specs.declared.place.Next.TheVariants.{Step}
use Rattle.bz_swap_machine.specs.Agrees.{Agree, agree-spell}
use Rattle.bz_swap_machine.specs.Changes.{put, with_word, with_tag, with_miss}
use Rattle.bz_swap_machine.specs.Ends.{IsClean, IsAtPointer, IsDone, IsInLast, HasBehind, EndWhole, EndsStayWhole}
use Rattle.bz_swap_machine.specs.Fronts.{StandsFor}
use Rattle.bz_swap_machine.specs.HelpActs.{After, final_value, finished, passed, after_install_tag, after_untag, after_decide, after_put_final, cleared_word, cleared_status, help_act}
use Rattle.bz_swap_machine.specs.Knows.{AtPlace}
use Rattle.bz_swap_machine.specs.Machine.{Entries, Memory, entries_in, is_verdict}
use Rattle.bz_swap_machine.specs.Sound.{Sound}
use Rattle.bz_swap_machine.specs.State.{State, StartRead, StartStore, StartFlush, StartSwap, Act, Evict, EvictStatus, EvictField, stepped, swapping, happens, IsState}
use Rattle.bz_swap_machine.specs.Steps.{Local, Stepped, after_help, read_act, act}
use Rattle.bz_swap_machine.proofs.Ends.{clean-act}
use Rattle.bz_swap_machine.proofs.NextEnds.{NextEnds, OwnEnds, own-next, IsBefore, before-ends, behind-in_last, status-follows, passed-follows, install-follows, under-follows, untag-follows, decide-follows, final-follows, finished-ends}
use Rattle.bz_swap_machine.proofs.Published.{answered-published, durable_verdict-cached}
use Rattle.bz_swap_machine.proofs.TagHomes.{cached-help}
use Rattle.bz_swap_machine.proofs.TagsHome.{untag-gone}
use Rattle.bz_swap_machine.proofs.Through.{done-word, done-stays}
use Rattle.bz_swap_machine.proofs.WordChanges.{cleared-cases}

-- the status that had this verdict is clean when its dirty bit is taken away
cleared-clean : (m : Memory) (c : ℕ) (d : Verdict) (found : SwapStatus) → m.status c ≡ found → is_verdict found d ≡ true → IsClean ((cleared_status m c d found).status c)
cleared-clean m c d Free is verdict = absurd cc
cleared-clean m c d Undecided is verdict = absurd cc
cleared-clean m c Succeeded (Deciding Succeeded) is verdict = let here : (c == c) ≡ true = grind (arith, common_steps) in rw here tt
cleared-clean m c Succeeded (Deciding Failed) is verdict = absurd cc
cleared-clean m c Failed (Deciding Succeeded) is verdict = absurd cc
cleared-clean m c Failed (Deciding Failed) is verdict = let here : (c == c) ≡ true = grind (arith, common_steps) in rw here tt
cleared-clean m c d (Decided k) is verdict = subst IsClean (sym is) tt

if-case : {A : Type 0} (P : A → Type 0) (t : Bool) (x y : A) → P x → P y → P (if t then x else y)
if-case P true x y f g = f
if-case P false x y f g = g

-- an act on a swap answers nothing by itself
abbrev SameAnswer : Memory → Memory → Type 0
SameAnswer m n = n.answer ≡ m.answer

answer-install : (x : Entries) (m : Memory) (w s i : ℕ) (found : WordKind) → SameAnswer m (after_install_tag x m w s i found).memory
answer-install x m w s i (Value v) =
    if-case (λ (a : After). SameAnswer m a.memory) (v == x.expected i) (record { memory = with_tag m (x.target i) s i w; next = Step (LookUnderTag i w (m.next_tag w)) }) (record { memory = with_miss m s; next = Step (Decide Failed) }) refl refl
answer-install x m w s i (Dirty v) = refl
answer-install x m w s i (Swap t) = refl
answer-install x m w s i (Tag t j v q) = refl

answer-untag : (x : Entries) (m : Memory) (s i v q : ℕ) (new : WordKind) (changed unchanged : Next) (found : WordKind) → SameAnswer m (after_untag x m s i v q new changed unchanged found).memory
answer-untag x m s i v q new changed unchanged (Value u) = refl
answer-untag x m s i v q new changed unchanged (Dirty u) = refl
answer-untag x m s i v q new changed unchanged (Swap u) = refl
answer-untag x m s i v q new changed unchanged (Tag t j u p) =
    if-case (λ (a : After). SameAnswer m a.memory) (((t == s) && (j == i)) && ((u == v) && (p == q))) (record { memory = with_word m (x.target i) new; next = changed }) (record { memory = m; next = unchanged }) refl refl

answer-final : (x : Entries) (m : Memory) (s i : ℕ) (d : Verdict) (found : WordKind) → SameAnswer m (after_put_final x m s i d found).memory
answer-final x m s i d (Value v) = refl
answer-final x m s i d (Dirty v) = refl
answer-final x m s i d (Swap t) =
    if-case (λ (a : After). SameAnswer m a.memory) (t == s) (record { memory = with_word m (x.target i) (Dirty (final_value x i d)); next = Step (AskFinal i d) }) (record { memory = m; next = finished x i d }) refl refl
answer-final x m s i d (Tag t j v q) = refl

pub answer-cleared : (m : Memory) (a v : ℕ) (found : WordKind) → SameAnswer m (cleared_word m a v found)
answer-cleared m a v found = cleared-cases m a v found (SameAnswer m) refl refl

answer-decide : (m : Memory) (s : ℕ) (d : Verdict) (found : SwapStatus) → SameAnswer m (after_decide m s d found).memory
answer-decide m s d Free = refl
answer-decide m s d Undecided = refl
answer-decide m s d (Deciding c) = refl
answer-decide m s d (Decided c) = refl

answer-status : (m : Memory) (s : ℕ) (d : Verdict) (found : SwapStatus) → SameAnswer m (cleared_status m s d found)
answer-status m s d Free = refl
answer-status m s d Undecided = refl
answer-status m s Succeeded (Deciding Succeeded) = refl
answer-status m s Succeeded (Deciding Failed) = refl
answer-status m s Failed (Deciding Succeeded) = refl
answer-status m s Failed (Deciding Failed) = refl
answer-status m s d (Decided c) = refl

pub answer-help : (x : Entries) (m : Memory) (w s : ℕ) (step : HelpStep) → SameAnswer m (help_act x m w s step).memory
answer-help x m w s Look = refl
answer-help x m w s (InstallTag i) = answer-install x m w s i (m.cached (x.target i))
answer-help x m w s (LookUnderTag i v q) = refl
answer-help x m w s (InstallPointer i v q) = answer-untag x m s i v q (Swap s) (Step (passed x i)) (Step (InstallTag i)) (m.cached (x.target i))
answer-help x m w s (RemoveTag i v q) = answer-untag x m s i v q (Value (x.expected i)) (Step Look) (Step Look) (m.cached (x.target i))
answer-help x m w s (AskDirty i v) = refl
answer-help x m w s (FenceDirty i v) = refl
answer-help x m w s (ClearDirty i v) = answer-cleared m (x.target i) v (m.cached (x.target i))
answer-help x m w s (AskTarget i) = refl
answer-help x m w s FenceTargets = refl
answer-help x m w s (Decide d) = answer-decide m s d (m.status s)
answer-help x m w s (AskStatus d) = refl
answer-help x m w s (FenceStatus d) = refl
answer-help x m w s (ClearStatus d) = answer-status m s d (m.status s)
answer-help x m w s (PutFinal i d) = answer-final x m s i d (m.cached (x.target i))
answer-help x m w s (AskFinal i d) = refl
answer-help x m w s (FenceFinal i d) = refl
answer-help x m w s (ClearFinal i d) = answer-cleared m (x.target i) (final_value x i d) (m.cached (x.target i))
answer-help x m w s (SweepTag i d v q) = answer-untag x m s i v q (Value (x.expected i)) (finished x i d) (Step (PutFinal i d)) (m.cached (x.target i))

-- what the act at a place does to the current swap: what it is through with stays so, and a clean status stays clean
record Lasts (e : ℕ → Entries) (m : Memory) (l : Local) (local new : ℕ → Local) (place : Place) (z : Stepped) : Type 0 where
  stays : (j : ℕ) → j < (e l.current).count → IsClean (m.status l.current) → IsDone e m.cached local l.current j → IsDone e z.memory.cached new l.current j
  cleans : IsClean (m.status l.current) → IsClean (z.memory.status l.current)
  clean : IsInLast place → IsClean (m.status l.current)
  done : (j : ℕ) → HasBehind place j → j < (e l.current).count → IsDone e m.cached local l.current j

or-here : (P : ℕ → Type 0) (i j : ℕ) → j ≤ i → (j < i → P j) → (j ≡ i → P j) → P j
or-here P i j upto before here = by_test (j == i) refl
  where
    by_test : (b : Bool) → (j == i) ≡ b → P j
    by_test true told = here (grind (arith, common_steps, told))
    by_test false told = before (let other : (j ≡ i) → ⊥ = λ same. absurd (grind (arith, common_steps, told, same)) in omega (arith, upto, other))

-- neither a pointer nor a tag of the current swap is left at the target
left-word : (e : ℕ → Entries) (m : Memory) (l : Local) (new : ℕ → Local) (n : Memory) (next : Next) (i j : ℕ) → Agree (entries_in l.list) (e l.current) → j ≡ i → j < (e l.current).count
    → (StandsFor (n.cached (l.list (1 + 3 * i))) l.current → ⊥) → IsDone e (after_help l n next).memory.cached new l.current j
left-word e m l new n next i j agree same below none =
    done-word e (after_help l n next).memory.cached new l.current j
    (λ k. none (subst (λ y. StandsFor y l.current) (ap (λ (c : ℕ → WordKind). c ((e l.current).target j)) (cached-help l n next) ∙ ap n.cached (sym (agree.target j below) ∙ ap (λ u. l.list (1 + 3 * u)) same)) k))

-- what is known of the current swap's end after this act, where this follows
abbrev EndsAfter : (ℕ → Entries) → Memory → ℕ → Local → (ℕ → Local) → HelpStep → Next → Type 0
EndsAfter e m w l new step next = NextEnds e (act m w l (Help step)).memory.cached (act m w l (Help step)).memory.status new l.current next

before-after : (e : ℕ → Entries) (m : Memory) (w : ℕ) (l : Local) (new : ℕ → Local) (step k : HelpStep) → IsBefore k → EndsAfter e m w l new step (Step k)
before-after e m w l new step k before = before-ends e (act m w l (Help step)).memory.cached (act m w l (Help step)).memory.status new l.current k before

help-ends : (e : ℕ → Entries) (m : Memory) (w : ℕ) (l : Local) (local new : ℕ → Local) (step : HelpStep) → Sound e m → AtPlace e m w l (Help step) → Lasts e m l local new (Help step) (act m w l (Help step))
    → NextEnds e (act m w l (Help step)).memory.cached (act m w l (Help step)).memory.status new l.current (help_act (entries_in l.list) m w l.current step).next
help-ends e m w l local new Look sound at last =
    status-follows (m.status l.current) (EndsAfter e m w l new Look) (before-after e m w l new Look) (λ d clean. (λ k. last.cleans clean, λ j none. absurd (omega (arith, none))))
help-ends e m w l local new (InstallTag i) sound at last =
    install-follows (entries_in l.list) m w l.current i (m.cached (l.list (1 + 3 * i))) (EndsAfter e m w l new (InstallTag i)) (before-after e m w l new (InstallTag i)) (λ t. tt)
help-ends e m w l local new (LookUnderTag i v q) sound at last = under-follows i v q (m.status l.current) (EndsAfter e m w l new (LookUnderTag i v q)) (before-after e m w l new (LookUnderTag i v q))
help-ends e m w l local new (InstallPointer i v q) sound at last =
    untag-follows (entries_in l.list) m l.current i v q (Swap l.current) (Step (passed (entries_in l.list) i)) (Step (InstallTag i)) (m.cached (l.list (1 + 3 * i))) (EndsAfter e m w l new (InstallPointer i v q))
    (λ is. passed-follows (entries_in l.list) i (EndsAfter e m w l new (InstallPointer i v q)) (before-after e m w l new (InstallPointer i v q))) (before-after e m w l new (InstallPointer i v q) (InstallTag i) tt)
help-ends e m w l local new (RemoveTag i v q) sound at last =
    untag-follows (entries_in l.list) m l.current i v q (Value (l.list (2 + 3 * i))) (Step Look) (Step Look) (m.cached (l.list (1 + 3 * i))) (EndsAfter e m w l new (RemoveTag i v q))
    (λ is. before-after e m w l new (RemoveTag i v q) Look tt) (before-after e m w l new (RemoveTag i v q) Look tt)
help-ends e m w l local new (AskDirty i v) sound at last = before-after e m w l new (AskDirty i v) (FenceDirty i v) tt
help-ends e m w l local new (FenceDirty i v) sound at last = before-after e m w l new (FenceDirty i v) (ClearDirty i v) tt
help-ends e m w l local new (ClearDirty i v) sound at last = before-after e m w l new (ClearDirty i v) (InstallTag i) tt
help-ends e m w l local new (AskTarget i) sound at last =
    if-case (λ k. EndsAfter e m w l new (AskTarget i) (Step k)) (i + 1 == l.list 0) FenceTargets (AskTarget (i + 1)) (before-after e m w l new (AskTarget i) FenceTargets tt) (before-after e m w l new (AskTarget i) (AskTarget (i + 1)) tt)
help-ends e m w l local new FenceTargets sound at last = before-after e m w l new FenceTargets (Decide Succeeded) tt
help-ends e m w l local new (Decide d) sound at last =
    decide-follows m l.current d (m.status l.current) (EndsAfter e m w l new (Decide d)) (before-after e m w l new (Decide d)) (λ c clean. (λ k. last.cleans clean, λ j none. absurd (omega (arith, none))))
help-ends e m w l local new (AskStatus d) sound at last = before-after e m w l new (AskStatus d) (FenceStatus d) tt
help-ends e m w l local new (FenceStatus d) sound at last = before-after e m w l new (FenceStatus d) (ClearStatus d) tt
help-ends e m w l local new (ClearStatus d) sound at last = (λ k. cleared-clean m l.current d (m.status l.current) refl (durable_verdict-cached e m l.current d sound at.3), λ j none. absurd (omega (arith, none)))
help-ends e m w l local new (PutFinal i d) sound at last =
    let agree : Agree (entries_in l.list) (e l.current) = agree-spell (e l.current) l.list at.2 in
    let clean : IsClean (m.status l.current) = last.clean tt in
    let a : After = after_put_final (entries_in l.list) m l.current i d (m.cached (l.list (1 + 3 * i))) in
    let behind : (StandsFor (a.memory.cached (l.list (1 + 3 * i))) l.current → ⊥) → (j : ℕ) → j ≤ i → j < (e l.current).count → IsDone e (act m w l (Help (PutFinal i d))).memory.cached new l.current j =
    λ none j upto below. or-here (λ k. IsDone e (act m w l (Help (PutFinal i d))).memory.cached new l.current k) i j upto (λ lt. last.stays j below clean (last.done j lt below)) (λ same. left-word e m l new a.memory a.next i j agree same below none) in
    final-follows (entries_in l.list) m l.current i d (m.cached (l.list (1 + 3 * i))) (EndsAfter e m w l new (PutFinal i d)) refl
    (λ none. finished-ends e (act m w l (Help (PutFinal i d))).memory.cached (act m w l (Help (PutFinal i d))).memory.status new l.current (entries_in l.list) i d agree.count (last.cleans clean) (behind none))
    (λ none. (λ k. last.cleans clean, behind none))
    (λ v q. (λ k. last.cleans clean, λ j upto below. last.stays j below clean (last.done j upto below)))
help-ends e m w l local new (AskFinal i d) sound at last = (λ k. last.cleans (last.clean tt), λ j upto below. last.stays j below (last.clean tt) (last.done j upto below))
help-ends e m w l local new (FenceFinal i d) sound at last = (λ k. last.cleans (last.clean tt), λ j upto below. last.stays j below (last.clean tt) (last.done j upto below))
help-ends e m w l local new (ClearFinal i d) sound at last =
    let agree : Agree (entries_in l.list) (e l.current) = agree-spell (e l.current) l.list at.2 in
    finished-ends e (act m w l (Help (ClearFinal i d))).memory.cached (act m w l (Help (ClearFinal i d))).memory.status new l.current (entries_in l.list) i d agree.count (last.cleans (last.clean tt)) (λ j upto below. last.stays j below (last.clean tt) (last.done j upto below))
help-ends e m w l local new (SweepTag i d v q) sound at last =
    let agree : Agree (entries_in l.list) (e l.current) = agree-spell (e l.current) l.list at.2 in
    let clean : IsClean (m.status l.current) = last.clean tt in
    let x : Entries = entries_in l.list in
    let a : After = after_untag x m l.current i v q (Value (l.list (2 + 3 * i))) (finished x i d) (Step (PutFinal i d)) (m.cached (l.list (1 + 3 * i))) in
    let gone : m.cached (l.list (1 + 3 * i)) ≡ Tag l.current i v q → StandsFor (a.memory.cached (l.list (1 + 3 * i))) l.current → ⊥ =
    λ is k. subst (λ y. StandsFor y l.current) (untag-gone x m l.current i v q (Value (l.list (2 + 3 * i))) (finished x i d) (Step (PutFinal i d)) (m.cached (l.list (1 + 3 * i))) is) k in
    untag-follows x m l.current i v q (Value (l.list (2 + 3 * i))) (finished x i d) (Step (PutFinal i d)) (m.cached (l.list (1 + 3 * i))) (EndsAfter e m w l new (SweepTag i d v q))
    (λ is. finished-ends e (act m w l (Help (SweepTag i d v q))).memory.cached (act m w l (Help (SweepTag i d v q))).memory.status new l.current x i d agree.count (last.cleans clean)
    (λ j upto below. or-here (λ k. IsDone e (act m w l (Help (SweepTag i d v q))).memory.cached new l.current k) i j upto (λ lt. last.stays j below clean (last.done j lt below)) (λ same. left-word e m l new a.memory a.next i j agree same below (gone is))))
    (λ k. last.cleans clean, λ j lt below. last.stays j below clean (last.done j lt below))

-- of a worker that is not in a last phase after its act, and answers nothing
none-ends : (e : ℕ → Entries) (cached : ℕ → WordKind) (status : ℕ → SwapStatus) (new : ℕ → Local) (answer : ℕ → Option Verdict) (l : Local) → (IsInLast l.place → ⊥) → OwnEnds e cached status new answer answer l
none-ends e cached status new answer l none = record { clean = λ k. absurd (none k); done = λ j k. absurd (none (behind-in_last l.place j k)); answered = λ s d is. inl is }

own-ends : (e : ℕ → Entries) (m : Memory) (w : ℕ) (l : Local) (local new : ℕ → Local) (place : Place) → Sound e m → AtPlace e m w l place → Lasts e m l local new place (act m w l place)
    → OwnEnds e (act m w l place).memory.cached (act m w l place).memory.status new m.answer (act m w l place).memory.answer (act m w l place).local
own-ends e m w l local new Idle sound at last = none-ends e _ _ new m.answer _ (λ k. k)
own-ends e m w l local new (Prepare (WriteWord k)) sound at last = none-ends e _ _ new m.answer _ (if-case (λ (p : PrepareStep). IsInLast (Prepare p) → ⊥) (k == 3 * l.list 0) WriteStatus (WriteWord (k + 1)) (λ t. t) (λ t. t))
own-ends e m w l local new (Prepare WriteStatus) sound at last = none-ends e _ _ new m.answer _ (λ k. k)
own-ends e m w l local new (Prepare AskHead) sound at last = none-ends e _ _ new m.answer _ (λ k. k)
own-ends e m w l local new (Prepare AskTail) sound at last = none-ends e _ _ new m.answer _ (λ k. k)
own-ends e m w l local new (Prepare FenceDescriptor) sound at last = none-ends e _ _ new m.answer _ (λ k. k)
own-ends e m w l local new (Learn k) sound at last = none-ends e _ _ new m.answer _ (if-case (λ (p : Place). IsInLast p → ⊥) (k == 3 * put l.list k (m.words l.current k) 0) (Help Look) (Learn (k + 1)) (λ t. t) (λ t. t))
own-ends e m w l local new (Help step) sound at last =
    let n : Memory = (help_act (entries_in l.list) m w l.current step).memory in
    let next : Next = (help_act (entries_in l.list) m w l.current step).next in
    subst (λ (f : ℕ → Option Verdict). OwnEnds e (after_help l n next).memory.cached (after_help l n next).memory.status new f (after_help l n next).memory.answer (after_help l n next).local)
    (answer-help (entries_in l.list) m w l.current step)
    (own-next e (after_help l n next).memory.cached (after_help l n next).memory.status new l n next (help-ends e m w l local new step sound at last))
own-ends e m w l local new (ReadWord a) sound at last = by_found (m.cached a)
  where
    by_found : (found : WordKind) → OwnEnds e (read_act m l a found).memory.cached (read_act m l a found).memory.status new m.answer (read_act m l a found).memory.answer (read_act m l a found).local
    by_found (Value v) = none-ends e _ _ new m.answer _ (λ k. k)
    by_found (Dirty v) = none-ends e _ _ new m.answer _ (λ k. k)
    by_found (Swap t) = none-ends e _ _ new m.answer _ (λ k. k)
    by_found (Tag t i v q) = none-ends e _ _ new m.answer _ (λ k. k)
own-ends e m w l local new (AskRead a v) sound at last = none-ends e _ _ new m.answer _ (λ k. k)
own-ends e m w l local new (FenceRead a v) sound at last = none-ends e _ _ new m.answer _ (λ k. k)
own-ends e m w l local new (ClearRead a v) sound at last =
    subst (λ (f : ℕ → Option Verdict). OwnEnds e (cleared_word m a v (m.cached a)).cached (cleared_word m a v (m.cached a)).status new m.answer f (record l { place = ReadWord a })) (sym (answer-cleared m a v (m.cached a))) (none-ends e _ _ new m.answer _ (λ k. k))
own-ends e m w l local new (LoadWord a) sound at last = none-ends e _ _ new m.answer _ (λ k. k)
own-ends e m w l local new (StoreWord a v) sound at last = none-ends e _ _ new m.answer _ (λ k. k)
own-ends e m w l local new (AskLine line) sound at last = none-ends e _ _ new m.answer _ (λ k. k)
own-ends e m w l local new (FenceLine line) sound at last = none-ends e _ _ new m.answer _ (λ k. k)

lasts : (x : State) (w : ℕ) → IsState x → EndWhole x → Lasts x.entries x.memory (x.local w) x.local (put x.local w (stepped x w).local) (x.local w).place (stepped x w)
lasts x w state whole = record {
  stays = λ j below clean done. done-stays x w (x.local w).current j state below clean done;
  cleans = clean-act x.entries x.memory w (x.local w) (x.local w).place (x.local w).current state.sound (state.knows w).place;
  clean = whole.clean w;
  done = whole.done w;
}

own-acted : (x : State) (w : ℕ) → IsState x → EndWhole x
    → OwnEnds x.entries (stepped x w).memory.cached (stepped x w).memory.status (put x.local w (stepped x w).local) x.memory.answer (stepped x w).memory.answer (stepped x w).local
own-acted x w state whole = own-ends x.entries x.memory w (x.local w) x.local (put x.local w (stepped x w).local) (x.local w).place state.sound (state.knows w).place (lasts x w state whole)

act-whole : (x : State) (w : ℕ) → IsState x → EndWhole x
    → OwnEnds x.entries (stepped x w).memory.cached (stepped x w).memory.status (put x.local w (stepped x w).local) x.memory.answer (stepped x w).memory.answer (stepped x w).local → EndWhole (happens x (Act w))
act-whole x w state whole own = record {
  clean = λ v last. clean_of v (v == w) last;
  done = λ v j behind below. done_of v j (v == w) behind below;
  answered_clean = λ s d is. answered_clean_of s d (own.answered s d is);
  answered_done = λ s d j is below. answered_done_of s d j below (own.answered s d is);
}
  where
    clean_stays : (s : ℕ) → IsClean (x.memory.status s) → IsClean ((stepped x w).memory.status s)
    clean_stays s clean = clean-act x.entries x.memory w (x.local w) (x.local w).place s state.sound (state.knows w).place clean

    clean_of : (v : ℕ) (b : Bool) → IsInLast (if b then (stepped x w).local else x.local v).place → IsClean ((stepped x w).memory.status (if b then (stepped x w).local else x.local v).current)
    clean_of v true last = own.clean last
    clean_of v false last = clean_stays (x.local v).current (whole.clean v last)

    done_of : (v j : ℕ) (b : Bool) → HasBehind (if b then (stepped x w).local else x.local v).place j → j < (x.entries (if b then (stepped x w).local else x.local v).current).count
        → IsDone x.entries (stepped x w).memory.cached (put x.local w (stepped x w).local) (if b then (stepped x w).local else x.local v).current j
    done_of v j true behind below = own.done j behind below
    done_of v j false behind below = done-stays x w (x.local v).current j state below (whole.clean v (behind-in_last (x.local v).place j behind)) (whole.done v j behind below)

    answered_clean_of : (s : ℕ) (d : Verdict) → (x.memory.answer s ≡ Some d) ⊎ (IsClean ((stepped x w).memory.status s) × ((j : ℕ) → j < (x.entries s).count → IsDone x.entries (stepped x w).memory.cached (put x.local w (stepped x w).local) s j))
        → IsClean ((stepped x w).memory.status s)
    answered_clean_of s d (inl is) = clean_stays s (whole.answered_clean s d is)
    answered_clean_of s d (inr h) = h.0

    answered_done_of : (s : ℕ) (d : Verdict) (j : ℕ) → j < (x.entries s).count
        → (x.memory.answer s ≡ Some d) ⊎ (IsClean ((stepped x w).memory.status s) × ((j : ℕ) → j < (x.entries s).count → IsDone x.entries (stepped x w).memory.cached (put x.local w (stepped x w).local) s j))
        → IsDone x.entries (stepped x w).memory.cached (put x.local w (stepped x w).local) s j
    answered_done_of s d j below (inl is) = done-stays x w s j state below (whole.answered_clean s d is) (whole.answered_done s d j is below)
    answered_done_of s d j below (inr h) = h.1 j below

-- a worker that begins something else than an act on a swap
started-done : (e f : ℕ → Entries) (cached : ℕ → WordKind) (local : ℕ → Local) (w : ℕ) (l : Local) (s j : ℕ) → ((i v q : ℕ) → IsAtPointer l.place i v q → ⊥) → (f s).target j ≡ (e s).target j
    → IsDone e cached local s j → IsDone f cached (put local w l) s j
started-done e f cached local w l s j none same done = record {
  pointer = λ is. done.pointer (ap cached (sym same) ∙ is);
  late = λ u v q current at is. by_test u v q (u == w) current at (ap cached (sym same) ∙ is);
}
  where
    by_test : (u v q : ℕ) (b : Bool) → (if b then l else local u).current ≡ s → IsAtPointer (if b then l else local u).place j v q → cached ((e s).target j) ≡ Tag s j v q → ⊥
    by_test u v q true current at is = none j v q at
    by_test u v q false current at is = done.late u v q current at is

started-whole : (x : State) (w : ℕ) (l : Local) → ((i v q : ℕ) → IsAtPointer l.place i v q → ⊥) → (IsInLast l.place → ⊥) → EndWhole x → EndWhole (record x { local = put x.local w l })
started-whole x w l none before whole = record {
  clean = λ v last. clean_of v (v == w) last;
  done = λ v j behind below. done_of v j (v == w) behind below;
  answered_clean = whole.answered_clean;
  answered_done = λ s d j is below. started-done x.entries x.entries x.memory.cached x.local w l s j none refl (whole.answered_done s d j is below);
}
  where
    clean_of : (v : ℕ) (b : Bool) → IsInLast (if b then l else x.local v).place → IsClean (x.memory.status (if b then l else x.local v).current)
    clean_of v true last = absurd (before last)
    clean_of v false last = whole.clean v last

    done_of : (v j : ℕ) (b : Bool) → HasBehind (if b then l else x.local v).place j → j < (x.entries (if b then l else x.local v).current).count → IsDone x.entries x.memory.cached (put x.local w l) (if b then l else x.local v).current j
    done_of v j true behind below = absurd (before (behind-in_last l.place j behind))
    done_of v j false behind below = started-done x.entries x.entries x.memory.cached x.local w l (x.local v).current j none refl (whole.done v j behind below)

-- the entries of a published swap are not those of a swap that begins
kept-entries : (x : State) (new : Entries) (s : ℕ) → x.memory.published s ≡ true → IsState x → put x.entries x.memory.taken new s ≡ x.entries s
kept-entries x new s published state = by_test (s == x.memory.taken) refl
  where
    by_test : (b : Bool) → (s == x.memory.taken) ≡ b → (if b then new else x.entries s) ≡ x.entries s
    by_test false told = refl
    by_test true told = let same : s ≡ x.memory.taken = grind (arith, common_steps, told) in absurd (grind (arith, published, (state.sound.not_begun s (omega arith)).1))

last-published : (e : ℕ → Entries) (m : Memory) (w : ℕ) (l : Local) (place : Place) → AtPlace e m w l place → IsInLast place → m.published l.current ≡ true
last-published e m w l (Help step) at last = at.0
last-published e m w l place at last = absurd last

taken-whole : (x : State) (w : ℕ) (new : Entries) (targets : ℕ → Bool) → IsState x → EndWhole x → EndWhole (happens x (StartSwap w new targets))
taken-whole x w new targets state whole = record {
  clean = λ v last. clean_of v (v == w) last;
  done = λ v j behind below. done_of v j (v == w) behind below;
  answered_clean = whole.answered_clean;
  answered_done = λ s d j is below. by_kept s j (answered-published x.entries x.memory s d state.sound is) below (whole.answered_done s d j is);
}
  where
    by_kept : (s j : ℕ) → x.memory.published s ≡ true → j < (put x.entries x.memory.taken new s).count → (j < (x.entries s).count → IsDone x.entries x.memory.cached x.local s j)
        → IsDone (put x.entries x.memory.taken new) x.memory.cached (put x.local w (swapping (x.local w) x.memory.taken new)) s j
    by_kept s j published below done =
        let kept : put x.entries x.memory.taken new s ≡ x.entries s = kept-entries x new s published state in
        started-done x.entries (put x.entries x.memory.taken new) x.memory.cached x.local w (swapping (x.local w) x.memory.taken new) s j (λ i v q at. at) (ap (λ (y : Entries). y.target j) kept) (done (subst (λ (y : Entries). j < y.count) kept below))

    clean_of : (v : ℕ) (b : Bool) → IsInLast (if b then swapping (x.local w) x.memory.taken new else x.local v).place → IsClean (x.memory.status (if b then swapping (x.local w) x.memory.taken new else x.local v).current)
    clean_of v true last = absurd last
    clean_of v false last = whole.clean v last

    done_of : (v j : ℕ) (b : Bool) → HasBehind (if b then swapping (x.local w) x.memory.taken new else x.local v).place j
        → j < (put x.entries x.memory.taken new (if b then swapping (x.local w) x.memory.taken new else x.local v).current).count
        → IsDone (put x.entries x.memory.taken new) x.memory.cached (put x.local w (swapping (x.local w) x.memory.taken new)) (if b then swapping (x.local w) x.memory.taken new else x.local v).current j
    done_of v j true behind below = absurd behind
    done_of v j false behind below = by_kept (x.local v).current j (last-published x.entries x.memory v (x.local v) (x.local v).place (state.knows v).place (behind-in_last (x.local v).place j behind)) below (whole.done v j behind)

pub ends_stay_whole : EndsStayWhole
ends_stay_whole x (StartRead w b) may state whole = started-whole x w _ (λ i v q at. at) (λ k. k) whole
ends_stay_whole x (StartStore w b u) may state whole = started-whole x w _ (λ i v q at. at) (λ k. k) whole
ends_stay_whole x (StartFlush w line) may state whole = started-whole x w _ (λ i v q at. at) (λ k. k) whole
ends_stay_whole x (StartSwap w new targets) may state whole = taken-whole x w new targets state whole
ends_stay_whole x (Act w) may state whole = act-whole x w state whole (own-acted x w state whole)
ends_stay_whole x (Evict b) may state whole = assumption whole
ends_stay_whole x (EvictStatus t) may state whole = assumption whole
ends_stay_whole x (EvictField t k) may state whole = assumption whole
