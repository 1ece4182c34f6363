-- The acts that change no word and no status, and go on with the same swap: each takes one from what is left in the visit.
use Rattle.std.proofs.Common.{◌≡◌, ◌==◌, ◌&&◌, not, if◌then◌else◌, ℕ, ◌+◌, ◌-◌, ◌*◌, ◌<◌, ◌≤◌, Bool, true, false, arith, refl, ap, sym, subst}
use Rattle.std.proofs.lemmas.Grind.{common_steps}
use Rattle.bz_swap_machine.specs.declared.place.Place.{Place}
use Rattle.bz_swap_machine.specs.declared.place.Place.TheVariants.{Idle, Prepare, Learn, Help, ReadWord, AskRead, FenceRead, ClearRead, AskLine, FenceLine}
use Rattle.bz_swap_machine.specs.declared.place.PrepareStep.TheVariants.{WriteWord, WriteStatus, AskHead, AskTail, FenceDescriptor}
use Rattle.bz_swap_machine.specs.declared.place.HelpStep.TheVariants.{Look, InstallTag, LookUnderTag, InstallPointer, RemoveTag, AskDirty, FenceDirty, ClearDirty, AskTarget, FenceTargets, Decide, AskStatus, FenceStatus, ClearStatus, PutFinal, AskFinal, FenceFinal, ClearFinal}
use Rattle.bz_word.specs.declared.kind.WordKind.TheVariants.{Value}
use Rattle.bz_swap_machine.specs.declared.worker.Operation.TheVariants.{Nothing, Reading}
use Rattle.bz_swap_machine.specs.declared.status.SwapStatus.{SwapStatus}
use Rattle.bz_swap_machine.specs.declared.status.SwapStatus.TheVariants.{Free, Undecided, Deciding, Decided}
use Rattle.bz_swap_machine.specs.declared.status.Verdict.{Verdict}
use Rattle.bz_swap_machine.specs.declared.status.Verdict.TheVariants.{Succeeded}
use Rattle.bz_swap_machine.specs.Changes.{put}
use Rattle.bz_swap_machine.specs.HelpActs.{by_status, after_look_under}
use Rattle.bz_swap_machine.specs.Machine.{Entries, Memory}
use Rattle.bz_swap_machine.specs.Steps.{Local, read_act, act}
use Rattle.bz_swap_machine.specs.Standing.{Scene, scene, is_dirty, is_decided}
use Rattle.bz_swap_machine.specs.Budget.{for_stale_entry, open_count, open_above, walk_at, if_any, reserve_by, reserve, detour, own_missing_by, own_missing, left_at, for_walks, left_by_others, fresh_of, fresh_budget, is_fresh_at, stale_at, budget_at}

-- what w meets in this memory
abbrev pub meets : (ℕ → Entries) → (ℕ → Local) → Memory → Scene
meets e local m = scene e m.cached m.status local

-- the act at a place takes one from w's budget
abbrev pub Spends : (ℕ → Entries) → (ℕ → Local) → Memory → ℕ → ℕ → Local → Place → Type 0
Spends e local m w n l place = budget_at (meets e local (act m w l place).memory) w n (act m w l place).local (act m w l place).local.place + 1 ≤ budget_at (meets e local m) w n l place

-- from a place where what w goes by holds to another one, in the same visit
pub fresh-falls : (x : Scene) (w n : ℕ) (l : Local) (p q : Place) → is_fresh_at x l.current p ≡ true → is_fresh_at x l.current q ≡ true → fresh_budget x w n l q + 1 ≤ fresh_budget x w n l p → budget_at x w n l q + 1 ≤ budget_at x w n l p
fresh-falls x w n l p q before after falls = rw (before, after) falls

-- where what w went by no longer held
pub stale-falls : (x : Scene) (w n : ℕ) (l : Local) (p q : Place) → is_fresh_at x l.current p ≡ false → is_fresh_at x l.current q ≡ false → stale_at x l.current q + 1 ≤ stale_at x l.current p → budget_at x w n l q + 1 ≤ budget_at x w n l p
stale-falls x w n l p q before after falls = rw (before, after) (omega (arith, falls))

-- only what is left in the visit falls
pub visit-falls : (x : Scene) (u : ℕ) (above : ℕ → ℕ) (rest : ℕ) (l k : Local) (p q : Place) → walk_at x u above k q ≡ walk_at x u above l p → reserve q k.operation u ≡ reserve p l.operation u → detour x u k q ≡ detour x u l p
    → own_missing x q k.operation ≡ own_missing x p l.operation → left_at q + 1 ≤ left_at p → fresh_of x u above rest k q + 1 ≤ fresh_of x u above rest l p
visit-falls x u above rest l k p q walk kept off own falls =
    sums (for_walks u) (walk_at x u above l p) (reserve p l.operation u) (detour x u l p) (own_missing x p l.operation) (walk_at x u above k q) (reserve q k.operation u) (detour x u k q) (own_missing x q k.operation) (left_at p) (left_at q) rest
    walk kept off own falls
  where
    sums : (a b c d e b' c' d' e' f f' r : ℕ) → b' ≡ b → c' ≡ c → d' ≡ d → e' ≡ e → f' + 1 ≤ f → a + b' + c' + d' + e' + f' + r + 1 ≤ a + b + c + d + e + f + r
    sums a b c d e b' c' d' e' f f' r h1 h2 h3 h4 h5 = omega (arith, h1, h2, h3, h4, h5)

-- both places are of the same kind in all but what is left
pub here-falls : (x : Scene) (w n : ℕ) (l k : Local) (p q : Place) → walk_at x (open_count x w n) (open_above x w n) k q ≡ walk_at x (open_count x w n) (open_above x w n) l p
    → reserve q k.operation (open_count x w n) ≡ reserve p l.operation (open_count x w n) → detour x (open_count x w n) k q ≡ detour x (open_count x w n) l p → own_missing x q k.operation ≡ own_missing x p l.operation
    → left_by_others x w n k q ≡ left_by_others x w n l p → left_at q + 1 ≤ left_at p → fresh_budget x w n k q + 1 ≤ fresh_budget x w n l p
here-falls x w n l k p q walk kept off own rest falls =
    subst (λ r. fresh_of x (open_count x w n) (open_above x w n) r k q + 1 ≤ fresh_budget x w n l p) (sym rest)
    (visit-falls x (open_count x w n) (open_above x w n) (left_by_others x w n l p) l k p q walk kept off own falls)

pub spends-learn : (e : ℕ → Entries) (local : ℕ → Local) (m : Memory) (w n : ℕ) (l : Local) (k : ℕ) → k < 13 → Spends e local m w n l (Learn k)
spends-learn e local m w n l k few = by_last (k == 3 * put l.list k (m.words l.current k) 0)
  where
    by_last : (b : Bool) → budget_at (meets e local m) w n (record l { place = if b then Help Look else Learn (k + 1); list = put l.list k (m.words l.current k) }) (if b then Help Look else Learn (k + 1)) + 1 ≤ budget_at (meets e local m) w n l (Learn k)
    by_last true = here-falls (meets e local m) w n l l (Learn k) (Help Look) refl refl refl refl refl (omega (arith, few))
    by_last false = here-falls (meets e local m) w n l l (Learn k) (Learn (k + 1)) refl refl refl refl refl (omega (arith, few))

pub spends-look : (e : ℕ → Entries) (local : ℕ → Local) (m : Memory) (w n : ℕ) (l : Local) → Spends e local m w n l (Help Look)
spends-look e local m w n l = by_found (m.status l.current) refl
  where
    by_found : (found : SwapStatus) → m.status l.current ≡ found → budget_at (meets e local m) w n l (Help (by_status found)) + 1 ≤ budget_at (meets e local m) w n l (Help Look)
    by_found Free is =
        fresh-falls (meets e local m) w n l (Help Look) (Help (InstallTag 0)) refl (ap (λ s. not (is_decided s)) is)
        (here-falls (meets e local m) w n l l (Help Look) (Help (InstallTag 0)) refl refl refl refl refl (omega arith))
    by_found Undecided is =
        fresh-falls (meets e local m) w n l (Help Look) (Help (InstallTag 0)) refl (ap (λ s. not (is_decided s)) is)
        (here-falls (meets e local m) w n l l (Help Look) (Help (InstallTag 0)) refl refl refl refl refl (omega arith))
    by_found (Deciding d) is =
        here-falls (meets e local m) w n l l (Help Look) (Help (AskStatus d)) refl refl refl refl refl (omega arith)
    by_found (Decided d) is =
        here-falls (meets e local m) w n l l (Help Look) (Help (PutFinal 0 d)) refl refl refl refl refl (omega arith)

decided-fresh : (found : SwapStatus) (b : Bool) → is_decided found ≡ true → (not (is_decided found) && b) ≡ true → ⊥
decided-fresh found b decided told = absurd (grind (arith, common_steps, rw decided at told))

dirty-falls : (k : ℕ) (b : Bool) → (k + (if b then 6 else 10)) + 1 ≤ k + (if b then 7 else 11)
dirty-falls k true = omega arith
dirty-falls k false = omega arith

fenced-falls : (k : ℕ) (b : Bool) → (k + (if b then 5 else 9)) + 1 ≤ k + (if b then 6 else 10)
fenced-falls k true = omega arith
fenced-falls k false = omega arith

pub spends-under : (e : ℕ → Entries) (local : ℕ → Local) (m : Memory) (w n : ℕ) (l : Local) (i v q : ℕ) → (m.status l.current ≡ Free → ⊥) → Spends e local m w n l (Help (LookUnderTag i v q))
spends-under e local m w n l i v q set = by_found (m.status l.current) refl (is_fresh_at (meets e local m) l.current (Help (LookUnderTag i v q))) refl
  where
    by_found : (found : SwapStatus) → m.status l.current ≡ found → (b : Bool) → is_fresh_at (meets e local m) l.current (Help (LookUnderTag i v q)) ≡ b
        → budget_at (meets e local m) w n l (Help (after_look_under i v q found)) + 1 ≤ budget_at (meets e local m) w n l (Help (LookUnderTag i v q))
    by_found Free is b told = absurd (set is)
    by_found Undecided is true told =
        fresh-falls (meets e local m) w n l (Help (LookUnderTag i v q)) (Help (InstallPointer i v q)) told told
        (here-falls (meets e local m) w n l l (Help (LookUnderTag i v q)) (Help (InstallPointer i v q)) refl refl refl refl refl (omega arith))
    by_found Undecided is false told = stale-falls (meets e local m) w n l (Help (LookUnderTag i v q)) (Help (InstallPointer i v q)) told told (rw is (omega arith))
    by_found (Deciding d) is true told = absurd (decided-fresh (m.status l.current) _ (ap is_decided is) told)
    by_found (Deciding d) is false told = stale-falls (meets e local m) w n l (Help (LookUnderTag i v q)) (Help (RemoveTag i v q)) told refl (omega arith)
    by_found (Decided d) is true told = absurd (decided-fresh (m.status l.current) _ (ap is_decided is) told)
    by_found (Decided d) is false told = stale-falls (meets e local m) w n l (Help (LookUnderTag i v q)) (Help (RemoveTag i v q)) told refl (omega arith)

-- an act that goes on by the same knowledge
pub spends-ask_dirty : (e : ℕ → Entries) (local : ℕ → Local) (m : Memory) (w n : ℕ) (l : Local) (i v : ℕ) → Spends e local m w n l (Help (AskDirty i v))
spends-ask_dirty e local m w n l i v = by_fresh (is_fresh_at (meets e local m) l.current (Help (AskDirty i v))) refl
  where
    by_fresh : (b : Bool) → is_fresh_at (meets e local m) l.current (Help (AskDirty i v)) ≡ b → budget_at (meets e local m) w n l (Help (FenceDirty i v)) + 1 ≤ budget_at (meets e local m) w n l (Help (AskDirty i v))
    by_fresh true told =
        fresh-falls (meets e local m) w n l (Help (AskDirty i v)) (Help (FenceDirty i v)) told told
        (here-falls (meets e local m) w n l l (Help (AskDirty i v)) (Help (FenceDirty i v)) refl refl refl refl refl (omega arith))
    by_fresh false told = stale-falls (meets e local m) w n l (Help (AskDirty i v)) (Help (FenceDirty i v)) told told (dirty-falls (for_stale_entry * (4 - i)) (is_dirty (m.cached ((e l.current).target i)) v))

pub spends-fence_dirty : (e : ℕ → Entries) (local : ℕ → Local) (m : Memory) (w n : ℕ) (l : Local) (i v : ℕ) → Spends e local m w n l (Help (FenceDirty i v))
spends-fence_dirty e local m w n l i v = by_fresh (is_fresh_at (meets e local m) l.current (Help (FenceDirty i v))) refl
  where
    by_fresh : (b : Bool) → is_fresh_at (meets e local m) l.current (Help (FenceDirty i v)) ≡ b → budget_at (meets e local m) w n l (Help (ClearDirty i v)) + 1 ≤ budget_at (meets e local m) w n l (Help (FenceDirty i v))
    by_fresh true told =
        fresh-falls (meets e local m) w n l (Help (FenceDirty i v)) (Help (ClearDirty i v)) told told
        (here-falls (meets e local m) w n l l (Help (FenceDirty i v)) (Help (ClearDirty i v)) refl refl refl refl refl (omega arith))
    by_fresh false told = stale-falls (meets e local m) w n l (Help (FenceDirty i v)) (Help (ClearDirty i v)) told told (fenced-falls (for_stale_entry * (4 - i)) (is_dirty (m.cached ((e l.current).target i)) v))

pub spends-ask_target : (e : ℕ → Entries) (local : ℕ → Local) (m : Memory) (w n : ℕ) (l : Local) (i : ℕ) → i < 4 → Spends e local m w n l (Help (AskTarget i))
spends-ask_target e local m w n l i few = by_last (i + 1 == l.list 0) (is_fresh_at (meets e local m) l.current (Help (AskTarget i))) refl
  where
    by_last : (t b : Bool) → is_fresh_at (meets e local m) l.current (Help (AskTarget i)) ≡ b
        → budget_at (meets e local m) w n l (Help (if t then FenceTargets else AskTarget (i + 1))) + 1 ≤ budget_at (meets e local m) w n l (Help (AskTarget i))
    by_last true true told =
        fresh-falls (meets e local m) w n l (Help (AskTarget i)) (Help FenceTargets) told told
        (here-falls (meets e local m) w n l l (Help (AskTarget i)) (Help FenceTargets) refl refl refl refl refl (omega (arith, few)))
    by_last true false told = stale-falls (meets e local m) w n l (Help (AskTarget i)) (Help FenceTargets) told told (omega (arith, few))
    by_last false true told =
        fresh-falls (meets e local m) w n l (Help (AskTarget i)) (Help (AskTarget (i + 1))) told told
        (here-falls (meets e local m) w n l l (Help (AskTarget i)) (Help (AskTarget (i + 1))) refl refl refl refl refl (omega (arith, few)))
    by_last false false told = stale-falls (meets e local m) w n l (Help (AskTarget i)) (Help (AskTarget (i + 1))) told told (omega (arith, few))

pub spends-fence_targets : (e : ℕ → Entries) (local : ℕ → Local) (m : Memory) (w n : ℕ) (l : Local) → Spends e local m w n l (Help FenceTargets)
spends-fence_targets e local m w n l = by_fresh (is_fresh_at (meets e local m) l.current (Help FenceTargets)) refl
  where
    by_fresh : (b : Bool) → is_fresh_at (meets e local m) l.current (Help FenceTargets) ≡ b → budget_at (meets e local m) w n l (Help (Decide Succeeded)) + 1 ≤ budget_at (meets e local m) w n l (Help FenceTargets)
    by_fresh true told =
        fresh-falls (meets e local m) w n l (Help FenceTargets) (Help (Decide Succeeded)) told told
        (here-falls (meets e local m) w n l l (Help FenceTargets) (Help (Decide Succeeded)) refl refl refl refl refl (omega arith))
    by_fresh false told = stale-falls (meets e local m) w n l (Help FenceTargets) (Help (Decide Succeeded)) told told (omega arith)

pub spends-ask_status : (e : ℕ → Entries) (local : ℕ → Local) (m : Memory) (w n : ℕ) (l : Local) (d : Verdict) → Spends e local m w n l (Help (AskStatus d))
spends-ask_status e local m w n l d = here-falls (meets e local m) w n l l (Help (AskStatus d)) (Help (FenceStatus d)) refl refl refl refl refl (omega arith)

pub spends-ask_final : (e : ℕ → Entries) (local : ℕ → Local) (m : Memory) (w n : ℕ) (l : Local) (i : ℕ) (d : Verdict) → Spends e local m w n l (Help (AskFinal i d))
spends-ask_final e local m w n l i d = here-falls (meets e local m) w n l l (Help (AskFinal i d)) (Help (FenceFinal i d)) refl refl refl refl refl (omega arith)

pub spends-fence_status : (e : ℕ → Entries) (local : ℕ → Local) (m : Memory) (w n : ℕ) (l : Local) (d : Verdict) → Spends e local m w n l (Help (FenceStatus d))
spends-fence_status e local m w n l d = here-falls (meets e local m) w n l l (Help (FenceStatus d)) (Help (ClearStatus d)) refl refl refl refl refl (omega arith)

pub spends-fence_final : (e : ℕ → Entries) (local : ℕ → Local) (m : Memory) (w n : ℕ) (l : Local) (i : ℕ) (d : Verdict) → Spends e local m w n l (Help (FenceFinal i d))
spends-fence_final e local m w n l i d = here-falls (meets e local m) w n l l (Help (FenceFinal i d)) (Help (ClearFinal i d)) refl refl refl refl refl (omega arith)

pub spends-write_word : (e : ℕ → Entries) (local : ℕ → Local) (m : Memory) (w n : ℕ) (l : Local) (k : ℕ) → k < 13 → Spends e local m w n l (Prepare (WriteWord k))
spends-write_word e local m w n l k few = by_last (k == 3 * l.list 0)
  where
    by_last : (b : Bool) → budget_at (meets e local m) w n l (Prepare (if b then WriteStatus else WriteWord (k + 1))) + 1 ≤ budget_at (meets e local m) w n l (Prepare (WriteWord k))
    by_last true = here-falls (meets e local m) w n l l (Prepare (WriteWord k)) (Prepare WriteStatus) refl refl refl refl refl (omega (arith, few))
    by_last false = here-falls (meets e local m) w n l l (Prepare (WriteWord k)) (Prepare (WriteWord (k + 1))) refl refl refl refl refl (omega (arith, few))

pub spends-ask_head : (e : ℕ → Entries) (local : ℕ → Local) (m : Memory) (w n : ℕ) (l : Local) → Spends e local m w n l (Prepare AskHead)
spends-ask_head e local m w n l = here-falls (meets e local m) w n l l (Prepare AskHead) (Prepare AskTail) refl refl refl refl refl (omega arith)

pub spends-ask_tail : (e : ℕ → Entries) (local : ℕ → Local) (m : Memory) (w n : ℕ) (l : Local) → Spends e local m w n l (Prepare AskTail)
spends-ask_tail e local m w n l = here-falls (meets e local m) w n l l (Prepare AskTail) (Prepare FenceDescriptor) refl refl refl refl refl (omega arith)

pub spends-ask_read : (e : ℕ → Entries) (local : ℕ → Local) (m : Memory) (w n : ℕ) (l : Local) (a v : ℕ) → Spends e local m w n l (AskRead a v)
spends-ask_read e local m w n l a v = by_fresh (is_fresh_at (meets e local m) l.current (AskRead a v)) refl
  where
    by_fresh : (b : Bool) → is_fresh_at (meets e local m) l.current (AskRead a v) ≡ b → budget_at (meets e local m) w n l (FenceRead a v) + 1 ≤ budget_at (meets e local m) w n l (AskRead a v)
    by_fresh true told = fresh-falls (meets e local m) w n l (AskRead a v) (FenceRead a v) told told (here-falls (meets e local m) w n l l (AskRead a v) (FenceRead a v) refl refl refl refl refl (omega arith))
    by_fresh false told = stale-falls (meets e local m) w n l (AskRead a v) (FenceRead a v) told told (omega arith)

pub spends-fence_read : (e : ℕ → Entries) (local : ℕ → Local) (m : Memory) (w n : ℕ) (l : Local) (a v : ℕ) → Spends e local m w n l (FenceRead a v)
spends-fence_read e local m w n l a v = by_fresh (is_fresh_at (meets e local m) l.current (FenceRead a v)) refl
  where
    by_fresh : (b : Bool) → is_fresh_at (meets e local m) l.current (FenceRead a v) ≡ b → budget_at (meets e local m) w n l (ClearRead a v) + 1 ≤ budget_at (meets e local m) w n l (FenceRead a v)
    by_fresh true told = fresh-falls (meets e local m) w n l (FenceRead a v) (ClearRead a v) told told (here-falls (meets e local m) w n l l (FenceRead a v) (ClearRead a v) refl refl refl refl refl (omega arith))
    by_fresh false told = stale-falls (meets e local m) w n l (FenceRead a v) (ClearRead a v) told told (omega arith)

pub spends-ask_line : (e : ℕ → Entries) (local : ℕ → Local) (m : Memory) (w n : ℕ) (l : Local) (line : ℕ) → Spends e local m w n l (AskLine line)
spends-ask_line e local m w n l line = here-falls (meets e local m) w n l l (AskLine line) (FenceLine line) refl refl refl refl refl (omega arith)

pub spends-fence_line : (e : ℕ → Entries) (local : ℕ → Local) (m : Memory) (w n : ℕ) (l : Local) (line : ℕ) → l.operation ≡ Nothing → Spends e local m w n l (FenceLine line)
spends-fence_line e local m w n l line rests =
    here-falls (meets e local m) w n l (record l { operation = Nothing; place = Idle }) (FenceLine line) Idle refl (ap (λ o. reserve_by o (if_any (open_count (meets e local m) w n))) (sym rests)) refl
    (ap (λ o. own_missing_by (meets e local m) o) (sym rests)) refl (omega arith)

-- the load of the word that is read, where it is a value
pub spends-read_value : (e : ℕ → Entries) (local : ℕ → Local) (m : Memory) (w n : ℕ) (l : Local) (a v : ℕ) → m.cached a ≡ Value v → l.operation ≡ Reading a → Spends e local m w n l (ReadWord a)
spends-read_value e local m w n l a v is reads =
    subst (λ f. budget_at (meets e local (read_act m l a f).memory) w n (read_act m l a f).local (read_act m l a f).local.place + 1 ≤ budget_at (meets e local m) w n l (ReadWord a)) (sym is)
    (here-falls (meets e local m) w n l (record l { operation = Nothing; place = Idle }) (ReadWord a) Idle refl (ap (λ o. reserve_by o (if_any (open_count (meets e local m) w n))) (sym reads)) refl
    (ap (λ o. own_missing_by (meets e local m) o) (sym reads)) refl (omega arith))
