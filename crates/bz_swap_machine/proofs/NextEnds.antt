-- What follows an act on a swap keeps what is known of the swap's end.
use Rattle.std.proofs.Common.{◌≡◌, ◌⊎◌, ◌==◌, ◌&&◌, if◌then◌else◌, ℕ, ◌+◌, ◌<◌, ◌≤◌, Bool, true, false, arith, refl, subst, inl, inr, Some, None}
use Rattle.std.proofs.lemmas.Grind.{common_steps}
use Rattle.std.specs.declared.option.Option.{Option}
use Rattle.bz_word.specs.declared.kind.WordKind.{WordKind}
use Rattle.bz_word.specs.declared.kind.WordKind.TheVariants.{Value, Dirty, Swap, Tag}
use Rattle.bz_swap_machine.specs.declared.status.SwapStatus.{SwapStatus}
use Rattle.bz_swap_machine.specs.declared.status.SwapStatus.TheVariants.{Free, Undecided, Deciding, Decided}
use Rattle.bz_swap_machine.specs.declared.status.Verdict.{Verdict}
use Rattle.bz_swap_machine.specs.declared.status.Verdict.TheVariants.{Failed}
use Rattle.bz_swap_machine.specs.declared.place.HelpStep.{HelpStep}
use Rattle.bz_swap_machine.specs.declared.place.HelpStep.TheVariants.{Look, InstallTag, LookUnderTag, InstallPointer, RemoveTag, AskDirty, FenceDirty, ClearDirty, AskTarget, FenceTargets, Decide, AskStatus, FenceStatus, ClearStatus, PutFinal, AskFinal, FenceFinal, ClearFinal, SweepTag}
use Rattle.bz_swap_machine.specs.declared.place.Next.{Next}
use Rattle.bz_swap_machine.specs.declared.place.Next.TheVariants.{Step, Meet, Complete}
use Rattle.bz_swap_machine.specs.declared.worker.Operation.{Operation}
use Rattle.bz_swap_machine.specs.declared.worker.Operation.TheVariants.{Nothing, Reading, Swapping}
use Rattle.bz_swap_machine.specs.declared.done.Done.TheVariants.{Busy, Swapped}
use Rattle.bz_swap_machine.specs.Changes.{put, with_word, with_tag, with_miss, with_answer}
use Rattle.bz_swap_machine.specs.Ends.{IsClean, IsDone, IsLast, IsBehind, IsInLast, HasBehind}
use Rattle.bz_swap_machine.specs.Fronts.{StandsFor}
use Rattle.bz_swap_machine.specs.HelpActs.{After, by_status, final_value, finished, passed, after_install_tag, after_look_under, after_untag, after_decide, after_put_final}
use Rattle.bz_swap_machine.specs.Machine.{Entries, Memory}
use Rattle.bz_swap_machine.specs.Steps.{Local, Stepped, is_own, is_success, answers, resumed, completed, after_help}

-- what is known of swap s where this follows, in these words and statuses
abbrev pub NextEnds : (ℕ → Entries) → (ℕ → WordKind) → (ℕ → SwapStatus) → (ℕ → Local) → ℕ → Next → Type 0
NextEnds e cached status local s (Step step) = (IsLast step → IsClean (status s)) × ((j : ℕ) → IsBehind step j → j < (e s).count → IsDone e cached local s j)
NextEnds e cached status local s (Meet t) = Unit {0}
NextEnds e cached status local s (Complete d) = IsClean (status s) × ((j : ℕ) → j < (e s).count → IsDone e cached local s j)

-- and of the worker after it, and of the answers
pub record OwnEnds (e : ℕ → Entries) (cached : ℕ → WordKind) (status : ℕ → SwapStatus) (local : ℕ → Local) (old new : ℕ → Option Verdict) (l : Local) : Type 0 where
  pub clean : IsInLast l.place → IsClean (status l.current)
  pub done : (j : ℕ) → HasBehind l.place j → j < (e l.current).count → IsDone e cached local l.current j
  pub answered : (s : ℕ) (d : Verdict) → new s ≡ Some d → (old s ≡ Some d) ⊎ (IsClean (status s) × ((j : ℕ) → j < (e s).count → IsDone e cached local s j))

pub completed-cases : (m : Memory) (l : Local) (d : Verdict) (P : Stepped → Type 0) → P (answers (with_answer m l.current d) l (Swapped (is_success d))) → P (record { memory = m; local = resumed l l.back l.operation; done = Busy }) → P (completed m l d)
completed-cases m l d P f g = by_own (is_own l.operation l.current)
  where
    by_own : (b : Bool) → P (if b then answers (with_answer m l.current d) l (Swapped (is_success d)) else record { memory = m; local = resumed l l.back l.operation; done = Busy })
    by_own true = f
    by_own false = g

resumed-last : (l : Local) (back : Option ℕ) (operation : Operation) → IsInLast (resumed l back operation).place → ⊥
resumed-last l (Some b) operation at = at
resumed-last l None Nothing at = at
resumed-last l None (Reading a) at = at
resumed-last l None (Swapping s) at = at

resumed-behind : (l : Local) (back : Option ℕ) (operation : Operation) (j : ℕ) → HasBehind (resumed l back operation).place j → ⊥
resumed-behind l (Some b) operation j at = at
resumed-behind l None Nothing j at = at
resumed-behind l None (Reading a) j at = at
resumed-behind l None (Swapping s) j at = at

own-answers : (e : ℕ → Entries) (cached : ℕ → WordKind) (status : ℕ → SwapStatus) (local : ℕ → Local) (old : ℕ → Option Verdict) (c : ℕ) (d : Verdict) → NextEnds e cached status local c (Complete d)
    → (s : ℕ) (k : Verdict) → put old c (Some d) s ≡ Some k → (old s ≡ Some k) ⊎ (IsClean (status s) × ((j : ℕ) → j < (e s).count → IsDone e cached local s j))
own-answers e cached status local old c d h s k is = by_test (s == c) refl is
  where
    by_test : (t : Bool) → (s == c) ≡ t → (if t then Some d else old s) ≡ Some k → (old s ≡ Some k) ⊎ (IsClean (status s) × ((j : ℕ) → j < (e s).count → IsDone e cached local s j))
    by_test true told same_answer = let same : c ≡ s = grind (arith, common_steps, told) in inr (subst (λ u. IsClean (status u) × ((j : ℕ) → j < (e u).count → IsDone e cached local u j)) same h)
    by_test false told same_answer = inl same_answer

pub own-next : (e : ℕ → Entries) (cached : ℕ → WordKind) (status : ℕ → SwapStatus) (local : ℕ → Local) (l : Local) (n : Memory) (next : Next) → NextEnds e cached status local l.current next
    → OwnEnds e cached status local n.answer (after_help l n next).memory.answer (after_help l n next).local
own-next e cached status local l n (Step step) h = record { clean = h.0; done = h.1; answered = λ s d is. inl is }
own-next e cached status local l n (Meet t) h = record { clean = λ k. absurd k; done = λ j k. absurd k; answered = λ s d is. inl is }
own-next e cached status local l n (Complete d) h =
    completed-cases n l d (λ z. OwnEnds e cached status local n.answer z.memory.answer z.local)
    (record { clean = λ k. absurd k; done = λ j k. absurd k; answered = own-answers e cached status local n.answer l.current d h })
    (record { clean = λ k. absurd (resumed-last l l.back l.operation k); done = λ j k. absurd (resumed-behind l l.back l.operation j k); answered = λ s d is. inl is })

-- an act that is none of the last phase
abbrev pub IsBefore : HelpStep → Type 0
IsBefore (PutFinal i d) = ⊥
IsBefore (AskFinal i d) = ⊥
IsBefore (FenceFinal i d) = ⊥
IsBefore (ClearFinal i d) = ⊥
IsBefore (SweepTag i d v q) = ⊥
IsBefore step = Unit {0}

before-last : (step : HelpStep) → IsBefore step → IsLast step → ⊥
before-last Look before at = at
before-last (InstallTag i) before at = at
before-last (LookUnderTag i v q) before at = at
before-last (InstallPointer i v q) before at = at
before-last (RemoveTag i v q) before at = at
before-last (AskDirty i v) before at = at
before-last (FenceDirty i v) before at = at
before-last (ClearDirty i v) before at = at
before-last (AskTarget i) before at = at
before-last FenceTargets before at = at
before-last (Decide d) before at = at
before-last (AskStatus d) before at = at
before-last (FenceStatus d) before at = at
before-last (ClearStatus d) before at = at
before-last (PutFinal i d) before at = before
before-last (AskFinal i d) before at = before
before-last (FenceFinal i d) before at = before
before-last (ClearFinal i d) before at = before
before-last (SweepTag i d v q) before at = before

behind-last : (step : HelpStep) (j : ℕ) → IsBehind step j → IsLast step
behind-last (PutFinal i d) j at = tt
behind-last (AskFinal i d) j at = tt
behind-last (FenceFinal i d) j at = tt
behind-last (ClearFinal i d) j at = tt
behind-last (SweepTag i d v q) j at = tt
behind-last step j at = at

pub behind-in_last : (place : Rattle.bz_swap_machine.specs.declared.place.Place.Place) (j : ℕ) → HasBehind place j → IsInLast place
behind-in_last (Rattle.bz_swap_machine.specs.declared.place.Place.TheVariants.Help step) j at = behind-last step j at
behind-in_last place j at = at

pub before-ends : (e : ℕ → Entries) (cached : ℕ → WordKind) (status : ℕ → SwapStatus) (local : ℕ → Local) (s : ℕ) (step : HelpStep) → IsBefore step → NextEnds e cached status local s (Step step)
before-ends e cached status local s step before = (λ k. absurd (before-last step before k), λ j k. absurd (before-last step before (behind-last step j k)))

if-case : {A : Type 0} (P : A → Type 0) (t : Bool) (x y : A) → P x → P y → P (if t then x else y)
if-case P true x y f g = f
if-case P false x y f g = g

-- what can follow each kind of act
pub status-follows : (found : SwapStatus) (P : Next → Type 0) → ((step : HelpStep) → IsBefore step → P (Step step)) → ((d : Verdict) → IsClean found → P (Step (PutFinal 0 d))) → P (Step (by_status found))
status-follows Free P before last = before (InstallTag 0) tt
status-follows Undecided P before last = before (InstallTag 0) tt
status-follows (Deciding d) P before last = before (AskStatus d) tt
status-follows (Decided d) P before last = last d tt

pub passed-follows : (x : Entries) (i : ℕ) (P : Next → Type 0) → ((step : HelpStep) → IsBefore step → P (Step step)) → P (Step (passed x i))
passed-follows x i P before = if-case (λ k. P (Step k)) (i + 1 == x.count) (AskTarget 0) (InstallTag (i + 1)) (before (AskTarget 0) tt) (before (InstallTag (i + 1)) tt)

pub install-follows : (x : Entries) (m : Memory) (w s i : ℕ) (found : WordKind) (P : Next → Type 0) → ((step : HelpStep) → IsBefore step → P (Step step)) → ((t : ℕ) → P (Meet t)) → P (after_install_tag x m w s i found).next
install-follows x m w s i (Value v) P before meet =
    if-case (λ (a : After). P a.next) (v == x.expected i) (record { memory = with_tag m (x.target i) s i w; next = Step (LookUnderTag i w (m.next_tag w)) }) (record { memory = with_miss m s; next = Step (Decide Failed) })
    (before (LookUnderTag i w (m.next_tag w)) tt) (before (Decide Failed) tt)
install-follows x m w s i (Dirty v) P before meet = before (AskDirty i v) tt
install-follows x m w s i (Swap t) P before meet = if-case P (t == s) (Step (passed x i)) (Meet t) (passed-follows x i P before) (meet t)
install-follows x m w s i (Tag t j v q) P before meet = if-case P (t == s) (Step (LookUnderTag i v q)) (Meet t) (before (LookUnderTag i v q) tt) (meet t)

pub under-follows : (i v q : ℕ) (found : SwapStatus) (P : Next → Type 0) → ((step : HelpStep) → IsBefore step → P (Step step)) → P (Step (after_look_under i v q found))
under-follows i v q Free P before = before (RemoveTag i v q) tt
under-follows i v q Undecided P before = before (InstallPointer i v q) tt
under-follows i v q (Deciding d) P before = before (RemoveTag i v q) tt
under-follows i v q (Decided d) P before = before (RemoveTag i v q) tt

pub untag-follows : (x : Entries) (m : Memory) (s i v q : ℕ) (new : WordKind) (changed unchanged : Next) (found : WordKind) (P : Next → Type 0) → (found ≡ Tag s i v q → P changed) → P unchanged
    → P (after_untag x m s i v q new changed unchanged found).next
untag-follows x m s i v q new changed unchanged (Value u) P f g = g
untag-follows x m s i v q new changed unchanged (Dirty u) P f g = g
untag-follows x m s i v q new changed unchanged (Swap t) P f g = g
untag-follows x m s i v q new changed unchanged (Tag t j u p) P f g = by_test (((t == s) && (j == i)) && ((u == v) && (p == q))) refl
  where
    after : Bool → After
    after b = if b then record { memory = with_word m (x.target i) new; next = changed } else record { memory = m; next = unchanged }

    by_test : (b : Bool) → (((t == s) && (j == i)) && ((u == v) && (p == q))) ≡ b → P (after b).next
    by_test true told = f (grind (arith, common_steps, told))
    by_test false told = g

pub decide-follows : (m : Memory) (s : ℕ) (d : Verdict) (found : SwapStatus) (P : Next → Type 0) → ((step : HelpStep) → IsBefore step → P (Step step)) → ((c : Verdict) → IsClean found → P (Step (PutFinal 0 c))) → P (after_decide m s d found).next
decide-follows m s d Free P before last = before (InstallTag 0) tt
decide-follows m s d Undecided P before last = before (AskStatus d) tt
decide-follows m s d (Deciding c) P before last = before (AskStatus c) tt
decide-follows m s d (Decided c) P before last = last c tt

-- after the compare-and-swap of the pointer to the final value nothing of the swap stands at the entry, or a tag that is swept
pub final-follows : (x : Entries) (m : Memory) (s i : ℕ) (d : Verdict) (found : WordKind) (P : Next → Type 0) → m.cached (x.target i) ≡ found
    → ((StandsFor ((after_put_final x m s i d found).memory.cached (x.target i)) s → ⊥) → P (finished x i d))
    → ((StandsFor ((after_put_final x m s i d found).memory.cached (x.target i)) s → ⊥) → P (Step (AskFinal i d)))
    → ((v q : ℕ) → P (Step (SweepTag i d v q))) → P (after_put_final x m s i d found).next
final-follows x m s i d (Value v) P is finish flush sweep = finish (λ k. subst (λ y. StandsFor y s) is k)
final-follows x m s i d (Dirty v) P is finish flush sweep = finish (λ k. subst (λ y. StandsFor y s) is k)
final-follows x m s i d (Swap t) P is finish flush sweep = by_test (t == s) refl finish flush
  where
    after : Bool → After
    after b = if b then record { memory = with_word m (x.target i) (Dirty (final_value x i d)); next = Step (AskFinal i d) } else record { memory = m; next = finished x i d }

    by_test : (b : Bool) → (t == s) ≡ b → ((StandsFor ((after b).memory.cached (x.target i)) s → ⊥) → P (finished x i d)) → ((StandsFor ((after b).memory.cached (x.target i)) s → ⊥) → P (Step (AskFinal i d))) → P (after b).next
    by_test true told fin put_dirty =
        let here : (x.target i == x.target i) ≡ true = grind (arith, common_steps) in
        put_dirty (λ k. subst (λ b. StandsFor (if b then Dirty (final_value x i d) else m.cached (x.target i)) s) here k)
    by_test false told fin put_dirty = fin (λ k. let same : t ≡ s = subst (λ y. StandsFor y s) is k in absurd (grind (arith, common_steps, told, same)))
final-follows x m s i d (Tag t j v q) P is finish flush sweep = by_test (t == s) refl
  where
    by_test : (b : Bool) → (t == s) ≡ b → P (if b then Step (SweepTag i d v q) else finished x i d)
    by_test true told = sweep v q
    by_test false told = finish (λ k. let same : t ≡ s = subst (λ y. StandsFor y s) is k in absurd (grind (arith, common_steps, told, same)))

-- all entries up to i are behind
pub finished-ends : (e : ℕ → Entries) (cached : ℕ → WordKind) (status : ℕ → SwapStatus) (local : ℕ → Local) (s : ℕ) (x : Entries) (i : ℕ) (d : Verdict) → x.count ≡ (e s).count → IsClean (status s)
    → ((j : ℕ) → j ≤ i → j < (e s).count → IsDone e cached local s j) → NextEnds e cached status local s (finished x i d)
finished-ends e cached status local s x i d count clean done = by_test (i + 1 == x.count) refl
  where
    by_test : (b : Bool) → (i + 1 == x.count) ≡ b → NextEnds e cached status local s (if b then Complete d else Step (PutFinal (i + 1) d))
    by_test true told = let last : i + 1 ≡ x.count = grind (arith, common_steps, told) in (clean, λ j below. done j (omega (arith, below, last, count)) below)
    by_test false told = (λ k. clean, λ j behind below. done j (omega (arith, behind)) below)
