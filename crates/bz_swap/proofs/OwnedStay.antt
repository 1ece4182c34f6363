-- A swap is one worker's operation at most, and a swap that is answered is settled.
use Rattle.std.specs.Prelude.{zero, suc, ◌≡◌, ◌≢◌, ◌⊎◌, ℕ, ◌+◌, ◌<◌, Bool, true, false, List, length, slice_set}
use Rattle.std.specs.declared.option.Option.{Option}
use Rattle.std.proofs.Common.{arith, refl, ap, sym, subst, ◌∙◌, inl, inr}
use Rattle.std.proofs.lemmas.Bool.{cases_eq, cases_lt}
use Rattle.std.proofs.lemmas.List.{get_or-set_same, get_or-set_other, get_or_past, length-set}
use Rattle.bz_word.specs.declared.entry.Entry.{Entry}
use Rattle.bz_swap_acts.specs.declared.acted.Act.{Act}
use Rattle.bz_swap_machine.specs.declared.done.Done.{Done}
use Rattle.bz_swap_machine.specs.declared.done.Done.TheVariants.{Busy, Read, Swapped, Stored, Flushed}
use Rattle.bz_swap.specs.Power.{after_cut, opened, renewed}
use Rattle.bz_swap.specs.Settled.{IsSettled, AreOwned, OwnedStay}
use Rattle.bz_swap.specs.declared.phase.Phase.TheVariants.{Running}
use Rattle.bz_swap.specs.Starts.{started, swapping}
use Rattle.bz_swap.specs.Steps.{IsOneAct, IsStep, IsAnswer, doing_after}
use Rattle.bz_swap.specs.SwapMemory.{SwapMemory, Doing, Idle, Swapping, Working, idle, has_effect, doing_of}
use Rattle.bz_swap.proofs.StillDone.{step-before, start-before, all-rest}

-- a worker that does nothing goes on so
rests-after : (d : Doing) (done : Done) → d ≡ Idle → doing_after d done ≡ Idle
rests-after d Busy is = is
rests-after d (Read v) is = refl
rests-after d (Swapped b) is = refl
rests-after d Stored is = refl
rests-after d Flushed is = refl

idle-after : (old new : SwapMemory) (w : ℕ) (made : Act) (done : Done) (v : ℕ) → IsOneAct old w made done new → doing_of old v ≡ Idle → doing_of new v ≡ Idle
idle-after old new w made done v one rests = elim (cases_eq v w) [
  | inl same ↦ (let was : doing_of old w ≡ Idle = rw same at rests in rw same (one.doing ∙ rests-after (doing_of old w) done was))
  | inr other ↦ ap (λ (u : Working). u.doing) (one.others.workers v other) ∙ rests
]

-- a start by worker 0 begins a recovery time, in which the others rest
others-idle : (m : SwapMemory) (w : ℕ) (doing : Doing) → (w ≡ 0 → m.phase ≢ Running) → AreOwned m → (started m w doing).phase ≢ Running → (v : ℕ) → 0 < v → doing_of (started m w doing) v ≡ Idle
others-idle m zero doing recovers owned not v some =
    ap (λ (u : Working). u.doing) (get_or-set_other m.workers 0 v (record { doing = doing; flush_next = false }) idle (omega (arith, some))) ∙ owned.alone (recovers refl) v some
others-idle m (suc w) doing recovers owned not v some = absurd (not refl)

owned-act : (old new : SwapMemory) (w : ℕ) (made : Act) (done : Done) → IsOneAct old w made done new → AreOwned old → AreOwned new
owned-act old new w made done one owned = record {
  alone = λ not v some. idle-after old new w made done v one (owned.alone (λ is. not (one.others.phase ∙ is)) v some);
  begun = λ v s doing. omega (arith, owned.begun v s (step-before old new w made done v s one doing), one.others.taken);
  one = λ v u s left right. owned.one v u s (step-before old new w made done v s one left) (step-before old new w made done u s one right);
}

owned-start : (m : SwapMemory) (w : ℕ) (doing : Doing) → ((s : ℕ) → doing ≢ Swapping s) → (w ≡ 0 → m.phase ≢ Running) → AreOwned m → AreOwned (started m w doing)
owned-start m w doing another recovers owned = record {
  begun = λ v s is. owned.begun v s (before v s is);
  one = λ v u s left right. owned.one v u s (before v s left) (before u s right);
  alone = others-idle m w doing recovers owned;
}
  where
    before : (v s : ℕ) → doing_of (started m w doing) v ≡ Swapping s → doing_of m v ≡ Swapping s
    before v s = start-before m w (record { doing = doing; flush_next = false }) v s (another s)

-- who does a swap after the next one has begun: worker w the next one, and the others what they did
abbrev NextOrBefore : SwapMemory → ℕ → ℕ → ℕ → Type 0
NextOrBefore m w v s = ((v ≡ w) × (s ≡ m.taken)) ⊎ ((v ≢ w) × (doing_of m v ≡ Swapping s))

next-or-before : (m : SwapMemory) (w v s : ℕ) (begins : Working) → begins.doing ≡ Swapping m.taken → doing_of (record m { workers = slice_set m.workers w begins }) v ≡ Swapping s → NextOrBefore m w v s
next-or-before m w v s begins is doing = elim (cases_eq v w) [
  | inl same ↦ elim (cases_lt w (length m.workers)) [
    | inl within ↦ (let both : Swapping m.taken ≡ Swapping s = sym is ∙ ap (λ (u : Working). u.doing) (sym (get_or-set_same m.workers w begins idle within)) ∙ rw same at doing in inl (same, cc))
    | inr past ↦ (let none : Idle ≡ Swapping s = ap (λ (u : Working). u.doing) (sym (get_or_past (slice_set m.workers w begins) w idle (rw (length-set m.workers w begins) past))) ∙ rw same at doing in absurd cc)
  ]
  | inr other ↦ inr (other, ap (λ (u : Working). u.doing) (sym (get_or-set_other m.workers w v begins idle other)) ∙ doing)
]

owned-swap : (m : SwapMemory) (w : ℕ) (entries : List Entry) → 0 < w → AreOwned m → AreOwned (swapping m w entries)
owned-swap m zero entries works owned = absurd (omega (arith, works))
owned-swap m (suc w) entries works owned = record {
  alone = λ not. absurd (not refl);
  begun = λ v s doing. by_begun v s (who v s doing);
  one = λ v u s left right. by_one v u s (who v s left) (who u s right);
}
  where
    who : (v s : ℕ) → doing_of (swapping m (suc w) entries) v ≡ Swapping s → NextOrBefore m (suc w) v s
    who v s = next-or-before m (suc w) v s (record { doing = Swapping m.taken; flush_next = false }) refl

    by_begun : (v s : ℕ) → NextOrBefore m (suc w) v s → s < m.taken + 1
    by_begun v s (inl next) = omega (arith, next.1)
    by_begun v s (inr before) = omega (arith, owned.begun v s before.1)

    by_one : (v u s : ℕ) → NextOrBefore m (suc w) v s → NextOrBefore m (suc w) u s → v ≡ u
    by_one v u s (inl left) (inl right) = left.0 ∙ sym right.0
    by_one v u s (inl left) (inr right) = absurd (omega (arith, left.1, owned.begun u s right.1))
    by_one v u s (inr left) (inl right) = absurd (omega (arith, right.1, owned.begun v s left.1))
    by_one v u s (inr left) (inr right) = owned.one v u s left.1 right.1

-- where no worker does anything
owned-none : (m : SwapMemory) → ((w : ℕ) → doing_of m w ≡ Idle) → AreOwned m
owned-none m rests = record { begun = λ w s doing. none w s doing; one = λ v w s left right. none v s left; alone = λ not w some. rests w }
  where
    none : {A : Type 0} (w s : ℕ) → doing_of m w ≡ Swapping s → A
    none w s doing = (let both : Idle ≡ Swapping s = sym (rests w) ∙ doing in absurd cc)

-- an answer says whether the swap had its effect
won-effect : (m : SwapMemory) (s : ℕ) (made : Act) (won : Bool) → IsAnswer m (Swapping s) made (Swapped won) → has_effect m s ≡ won
won-effect m s made true answer = answer
won-effect m s made false answer = answer.0

owned-answer : (old new : SwapMemory) (w s : ℕ) (made : Act) (told : Option ℕ) (won : Bool) → IsStep old w made (Swapped won) told new → doing_of old w ≡ Swapping s → AreOwned old
    → IsSettled new s × (has_effect new s ≡ won)
owned-answer old new w s made told won step mine owned = (
  record { begun = omega (arith, owned.begun w s mine, step.one.others.taken); undone = undone },
  won-effect new s made won (subst (λ d. IsAnswer new d made (Swapped won)) mine step.one.answer),
)
  where
    undone : (v : ℕ) → doing_of new v ≢ Swapping s
    undone v doing =
        let same : v ≡ w = owned.one v w s (step-before old new w made (Swapped won) v s step.one doing) mine in
        let none : Idle ≡ Swapping s = sym step.one.doing ∙ rw same at doing in
        absurd cc

pub owned_stay : OwnedStay
owned_stay = record {
  opening = λ phase start swaps workers. owned-none (opened phase start swaps workers) (all-rest (workers + 1) (opened phase start swaps workers));
  step = λ old new w made done told step owned. owned-act old new w made done step.one owned;
  recovery = λ old new w made done told step owned. owned-act old new w made done step.one owned;
  eviction = λ old new a told h owned. subst AreOwned (sym h.is) (record { begun = owned.begun; one = owned.one; alone = owned.alone });
  start = owned-start;
  swap = owned-swap;
  cut = λ m. owned-none (after_cut m) (all-rest (length m.workers) (after_cut m));
  renewal = λ m may. owned-none (renewed m) may.idle;
  answer = owned-answer;
}
