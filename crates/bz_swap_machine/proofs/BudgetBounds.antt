-- A budget is at most what the workers that are not idle allow.
use Rattle.std.proofs.Common.{◌≡◌, ◌==◌, ◌&&◌, ◌||◌, not, nat_lt, if◌then◌else◌, ℕ, ◌+◌, ◌-◌, ◌*◌, ◌≤◌, Bool, true, false, arith, refl, mul-le-mul_left, Some, None}
use Rattle.std.proofs.lemmas.Grind.{common_steps}
use Rattle.std.specs.declared.option.Option.{Option}
use Rattle.bz_swap_machine.specs.declared.place.Place.{Place}
use Rattle.bz_swap_machine.specs.declared.place.Place.TheVariants.{Idle, Prepare, Learn, Help, ReadWord, AskRead, FenceRead, ClearRead, LoadWord, StoreWord, AskLine, FenceLine}
use Rattle.bz_swap_machine.specs.declared.place.PrepareStep.TheVariants.{WriteWord, WriteStatus, AskHead, AskTail, FenceDescriptor}
use Rattle.bz_swap_machine.specs.declared.place.HelpStep.{HelpStep}
use Rattle.bz_swap_machine.specs.declared.place.HelpStep.TheVariants.{Look, InstallTag, LookUnderTag, InstallPointer, RemoveTag, AskDirty, FenceDirty, ClearDirty, AskTarget, FenceTargets, Decide, AskStatus, FenceStatus, ClearStatus, PutFinal, AskFinal, FenceFinal, ClearFinal, SweepTag}
use Rattle.bz_swap_machine.specs.declared.worker.Operation.{Operation}
use Rattle.bz_swap_machine.specs.declared.worker.Operation.TheVariants.{Nothing, Reading, Swapping}
use Rattle.bz_swap_machine.specs.Steps.{Local, is_own}
use Rattle.bz_swap_machine.specs.Allowed.{counted, is_busy, for_worker}
use Rattle.bz_swap_machine.specs.Standing.{Scene, scene_of, target_at, is_through, missing, top, swap_of, is_open_by, is_open_at, is_open}
use Rattle.bz_swap_machine.specs.Budget.{level, for_first, for_sweep, for_return, for_tag, for_detour, for_pointer, for_dirty, for_stale, for_stale_entry, open_count, open_above, walk_from, walk_back, walk_on, walk_at, if_any, reserve_by, reserve, lags, lags_back, detour_on, detour, own_missing_by, own_missing, left_in_help, left_at, is_over_at, left_by_help, left_by_place, left_by, for_walks, left_by_others, fresh_budget, is_fresh_at, stale_in, stale_at, allowed_by_others, budget_at}
use Rattle.bz_swap_machine.specs.Sound.{AreShort}
use Rattle.bz_swap_machine.specs.Budgets.{BudgetsAreAllowed}
use Rattle.bz_swap_machine.proofs.Sums.{for_open, others-le, counted-le, counted-and, ones-le, others-ones-le, others-split, others-weigh}

-- what an open swap of another takes of the walks, and of what the worker itself counts; and the rest of what it counts itself
abbrev for_walk : ℕ
for_walk = 712

abbrev for_way : ℕ
for_way = 44

abbrev pub own_most : ℕ
own_most = 210

if-le : (b : Bool) (x y k : ℕ) → x ≤ k → y ≤ k → (if b then x else y) ≤ k
if-le true x y k f g = f
if-le false x y k f g = g

-- a swap has at most four pointers to put
missing-le : (x : Scene) (s : ℕ) → AreShort x.entries → missing x s ≤ 4
missing-le x s short = if-le (x.decided s) 0 _ 4 (omega arith) (omega (arith, ones-le (λ i. not (x.pointer (target_at x s i) s)) (x.entries s).count, short s))

pub above-le : (x : Scene) (w n s : ℕ) → open_above x w n s ≤ open_count x w n
above-le x w n s = others-le w (λ v. counted (is_open x v && nat_lt (top x s) (top x (swap_of (x.local v).operation))) 1) (λ v. counted (is_open x v) 1) n (λ v. counted-and (is_open x v) _ 1)

walk_from-le : (x : Scene) (u : ℕ) (above : ℕ → ℕ) (s : ℕ) → ((t : ℕ) → above t ≤ u) → walk_from x above s ≤ level * u
walk_from-le x u above s le = if-le (x.decided s) 0 (level * above s) (level * u) (omega arith) (omega (arith, le s))

walk_back-le : (x : Scene) (u : ℕ) (above : ℕ → ℕ) (l : Local) (back : Option ℕ) → ((t : ℕ) → above t ≤ u) → walk_back x u above l back ≤ level * u + for_return
walk_back-le x u above l None le = omega arith
walk_back-le x u above l (Some b) le = if-le (is_own l.operation b || is_through x b) (level * u + for_return) (walk_from x above b) (level * u + for_return) (omega arith) (omega (arith, walk_from-le x u above b le))

pub walk_on-le : (x : Scene) (u : ℕ) (above : ℕ → ℕ) (l : Local) → ((t : ℕ) → above t ≤ u) → walk_on x u above l ≤ level * u + for_return + for_sweep
walk_on-le x u above l le =
    if-le (is_own l.operation l.current) (level * u) _ (level * u + for_return + for_sweep) (omega arith)
    (if-le (is_through x l.current) (walk_back x u above l l.back + for_sweep) (walk_from x above l.current) (level * u + for_return + for_sweep)
    (omega (arith, walk_back-le x u above l l.back le)) (omega (arith, walk_from-le x u above l.current le)))

if_any-le : (u : ℕ) → if_any u ≤ for_first * u
if_any-le u = by_test (u == 0) refl
  where
    by_test : (b : Bool) → (u == 0) ≡ b → (if b then 0 else for_first) ≤ for_first * u
    by_test true told = omega arith
    by_test false told = let some : (u ≡ 0) → ⊥ = λ same. absurd (grind (arith, common_steps, told, same)) in omega (arith, some)

reserve_by-le : (o : Operation) (k : ℕ) → reserve_by o k ≤ for_first + k
reserve_by-le Nothing k = omega arith
reserve_by-le (Reading a) k = omega arith
reserve_by-le (Swapping s) k = omega arith

detour_on-le : (x : Scene) (u : ℕ) (l : Local) → detour_on x u l ≤ level * u + for_detour
detour_on-le x u l =
    if-le (not (is_own l.operation l.current) && (lags x l.operation l.current || lags_back x l.operation l.back)) (level * u + for_detour) 0 (level * u + for_detour) (omega arith) (omega arith)

own_missing_by-le : (x : Scene) (o : Operation) → AreShort x.entries → own_missing_by x o ≤ 8
own_missing_by-le x Nothing short = omega arith
own_missing_by-le x (Reading a) short = omega arith
own_missing_by-le x (Swapping s) short = omega (arith, missing-le x s short)

left_in_help-le : (step : HelpStep) → left_in_help step ≤ 40
left_in_help-le Look = omega arith
left_in_help-le (InstallTag i) = omega arith
left_in_help-le (LookUnderTag i v q) = omega arith
left_in_help-le (InstallPointer i v q) = omega arith
left_in_help-le (RemoveTag i v q) = omega arith
left_in_help-le (AskDirty i v) = omega arith
left_in_help-le (FenceDirty i v) = omega arith
left_in_help-le (ClearDirty i v) = omega arith
left_in_help-le (AskTarget i) = omega arith
left_in_help-le FenceTargets = omega arith
left_in_help-le (Decide d) = omega arith
left_in_help-le (AskStatus d) = omega arith
left_in_help-le (FenceStatus d) = omega arith
left_in_help-le (ClearStatus d) = omega arith
left_in_help-le (PutFinal i d) = omega arith
left_in_help-le (AskFinal i d) = omega arith
left_in_help-le (FenceFinal i d) = omega arith
left_in_help-le (ClearFinal i d) = omega arith
left_in_help-le (SweepTag i d v q) = omega arith

-- what another worker has left
open-busy : (x : Scene) (place : Place) (o : Operation) (k : ℕ) → counted (is_open_at x place o) k ≤ counted (is_busy place) k
open-busy x Idle o k = omega arith
open-busy x (Prepare step) o k = omega arith
open-busy x (Learn i) o k = counted-le (is_open_by x o) k
open-busy x (Help step) o k = counted-le (is_open_by x o) k
open-busy x (ReadWord a) o k = counted-le (is_open_by x o) k
open-busy x (AskRead a v) o k = counted-le (is_open_by x o) k
open-busy x (FenceRead a v) o k = counted-le (is_open_by x o) k
open-busy x (ClearRead a v) o k = counted-le (is_open_by x o) k
open-busy x (LoadWord a) o k = counted-le (is_open_by x o) k
open-busy x (StoreWord a v) o k = counted-le (is_open_by x o) k
open-busy x (AskLine line) o k = counted-le (is_open_by x o) k
open-busy x (FenceLine line) o k = counted-le (is_open_by x o) k

left_by_help-le : (x : Scene) (over : Bool) (l : Local) (place : Place) (v : ℕ) (k : Local) (step : HelpStep) → left_by_help x over l place v k step ≤ for_tag
left_by_help-le x over l place v k Look = omega arith
left_by_help-le x over l place v k (InstallTag i) = omega arith
left_by_help-le x over l place v k (LookUnderTag i u q) = counted-le _ for_tag
left_by_help-le x over l place v k (InstallPointer i u q) = counted-le _ for_tag
left_by_help-le x over l place v k (RemoveTag i u q) = counted-le _ for_tag
left_by_help-le x over l place v k (AskDirty i u) = omega arith
left_by_help-le x over l place v k (FenceDirty i u) = omega arith
left_by_help-le x over l place v k (ClearDirty i u) = omega arith
left_by_help-le x over l place v k (AskTarget i) = omega arith
left_by_help-le x over l place v k FenceTargets = omega arith
left_by_help-le x over l place v k (Decide d) = omega arith
left_by_help-le x over l place v k (AskStatus d) = omega arith
left_by_help-le x over l place v k (FenceStatus d) = omega arith
left_by_help-le x over l place v k (ClearStatus d) = omega arith
left_by_help-le x over l place v k (PutFinal i d) = omega arith
left_by_help-le x over l place v k (AskFinal i d) = few (counted-le _ for_dirty)
  where
    few : {k : ℕ} → k ≤ for_dirty → k ≤ for_tag
    few le = omega arith
left_by_help-le x over l place v k (FenceFinal i d) = few (counted-le _ for_dirty)
  where
    few : {k : ℕ} → k ≤ for_dirty → k ≤ for_tag
    few le = omega arith
left_by_help-le x over l place v k (ClearFinal i d) = few (counted-le _ for_dirty)
  where
    few : {k : ℕ} → k ≤ for_dirty → k ≤ for_tag
    few le = omega arith
left_by_help-le x over l place v k (SweepTag i d u q) = omega arith

left_by_place-le : (x : Scene) (over : Bool) (l : Local) (place : Place) (v : ℕ) (k : Local) (other : Place) → left_by_place x over l place v k other ≤ counted (is_busy other) for_tag
left_by_place-le x over l place v k Idle = omega arith
left_by_place-le x over l place v k (Prepare step) = omega arith
left_by_place-le x over l place v k (Learn i) = omega arith
left_by_place-le x over l place v k (Help step) = left_by_help-le x over l place v k step
left_by_place-le x over l place v k (ReadWord a) = omega arith
left_by_place-le x over l place v k (AskRead a u) = omega arith
left_by_place-le x over l place v k (FenceRead a u) = omega arith
left_by_place-le x over l place v k (ClearRead a u) = omega arith
left_by_place-le x over l place v k (LoadWord a) = omega arith
left_by_place-le x over l place v k (StoreWord a u) = omega arith
left_by_place-le x over l place v k (AskLine line) = omega arith
left_by_place-le x over l place v k (FenceLine line) = omega arith

-- for each other worker: its open swap and what it has left
each-sum : (opened busy : Bool) (a m : ℕ) → counted opened 1 ≤ counted busy 1 → a ≤ counted busy for_tag → m ≤ 4 → for_open * counted opened 1 + (a + counted opened (for_pointer * m)) ≤ counted busy 1024
each-sum true true a m open_busy left few = omega (arith, left, few)
each-sum true false a m open_busy left few = absurd (omega (arith, open_busy))
each-sum false true a m open_busy left few = omega (arith, left)
each-sum false false a m open_busy left few = omega (arith, left)

each-le : (x : Scene) (over : Bool) (l : Local) (place : Place) (v : ℕ) (k : Local) → AreShort x.entries → for_open * counted (is_open_at x k.place k.operation) 1 + left_by x over l place v k ≤ counted (is_busy k.place) for_worker
each-le x over l place v k short =
    each-sum (is_open_at x k.place k.operation) (is_busy k.place) (left_by_place x over l place v k k.place) (missing x (swap_of k.operation)) (open-busy x k.place k.operation 1)
    (left_by_place-le x over l place v k k.place) (missing-le x (swap_of k.operation) short)

all-le : (x : Scene) (w n : ℕ) (l : Local) (place : Place) → AreShort x.entries → for_open * open_count x w n + left_by_others x w n l place ≤ allowed_by_others x w n
all-le x w n l place short =
    others-weigh w (λ v. counted (is_open x v) 1) (λ v. left_by x (is_over_at x l place) l place v (x.local v)) (λ v. counted (is_busy (x.local v).place) for_worker) n (λ v. each-le x (is_over_at x l place) l place v (x.local v) short)

walks-le : (u : ℕ) → u ≤ 65 → for_walks u ≤ for_walk * u
walks-le u few =
    let most : u * (u + 1) ≤ u * 66 = mul-le-mul_left u (omega (arith, few)) in
    omega (arith, most)

-- what belongs to w itself
place-le : (x : Scene) (u : ℕ) (above : ℕ → ℕ) (l : Local) (place : Place) → ((t : ℕ) → above t ≤ u) → AreShort x.entries
    → (walk_at x u above l place + reserve place l.operation u) + ((detour x u l place + own_missing x place l.operation) + left_at place) ≤ for_way * u + counted (is_busy place) own_most
place-le x u above l Idle le short = omega (arith, if_any-le (u))
place-le x u above l (Prepare (WriteWord k)) le short = omega (arith, if_any-le (u), reserve_by-le l.operation (if_any (u)), own_missing_by-le x l.operation short)
place-le x u above l (Prepare WriteStatus) le short = omega (arith, if_any-le (u), reserve_by-le l.operation (if_any (u)), own_missing_by-le x l.operation short)
place-le x u above l (Prepare AskHead) le short = omega (arith, if_any-le (u), reserve_by-le l.operation (if_any (u)), own_missing_by-le x l.operation short)
place-le x u above l (Prepare AskTail) le short = omega (arith, if_any-le (u), reserve_by-le l.operation (if_any (u)), own_missing_by-le x l.operation short)
place-le x u above l (Prepare FenceDescriptor) le short = omega (arith, if_any-le (u), reserve_by-le l.operation (if_any (u)), own_missing_by-le x l.operation short)
place-le x u above l (Learn k) le short = omega (arith, walk_on-le x u above l le, detour_on-le x u l, reserve_by-le l.operation 0, own_missing_by-le x l.operation short)
place-le x u above l (Help step) le short = omega (arith, walk_on-le x u above l le, detour_on-le x u l, reserve_by-le l.operation 0, own_missing_by-le x l.operation short, left_in_help-le step)
place-le x u above l (ReadWord a) le short = omega (arith, if_any-le (u), reserve_by-le l.operation (if_any (u)), own_missing_by-le x l.operation short)
place-le x u above l (AskRead a v) le short = omega (arith, if_any-le (u), reserve_by-le l.operation (if_any (u)), own_missing_by-le x l.operation short)
place-le x u above l (FenceRead a v) le short = omega (arith, if_any-le (u), reserve_by-le l.operation (if_any (u)), own_missing_by-le x l.operation short)
place-le x u above l (ClearRead a v) le short = omega (arith, if_any-le (u), reserve_by-le l.operation (if_any (u)), own_missing_by-le x l.operation short)
place-le x u above l (LoadWord a) le short = omega (arith, if_any-le (u), reserve_by-le l.operation (if_any (u)), own_missing_by-le x l.operation short)
place-le x u above l (StoreWord a v) le short = omega (arith, if_any-le (u), reserve_by-le l.operation (if_any (u)), own_missing_by-le x l.operation short)
place-le x u above l (AskLine line) le short = omega (arith, if_any-le (u), reserve_by-le l.operation (if_any (u)), own_missing_by-le x l.operation short)
place-le x u above l (FenceLine line) le short = omega (arith, if_any-le (u), reserve_by-le l.operation (if_any (u)), own_missing_by-le x l.operation short)

-- while what w goes by holds, its budget is at most what the others allow, and a part of what w itself does
pub fresh-le : (x : Scene) (w n : ℕ) (l : Local) (place : Place) → n ≤ 65 → AreShort x.entries → fresh_budget x w n l place ≤ allowed_by_others x w n + counted (is_busy place) own_most
fresh-le x w n l place few short =
    let count : open_count x w n ≤ 65 = omega (arith, few, others-ones-le w (λ v. is_open x v) n) in
    let walks : for_walks (open_count x w n) ≤ for_walk * open_count x w n = walks-le (open_count x w n) count in
    let own = place-le x (open_count x w n) (open_above x w n) l place (above-le x w n) short in
    let others : for_open * open_count x w n + left_by_others x w n l place ≤ allowed_by_others x w n = all-le x w n l place short in
    total (for_walks (open_count x w n)) (open_count x w n) (walk_at x (open_count x w n) (open_above x w n) l place) (reserve place l.operation (open_count x w n)) (detour x (open_count x w n) l place)
    (own_missing x place l.operation) (left_at place) (left_by_others x w n l place) (allowed_by_others x w n) (counted (is_busy place) own_most) walks own others
  where
    total : (q u walk kept off own left s a b : ℕ) → q ≤ for_walk * u → (walk + kept) + ((off + own) + left) ≤ for_way * u + b → for_open * u + s ≤ a → q + walk + kept + off + own + left + s ≤ a + b
    total q u walk kept off own left s a b f g h = omega (arith, f, g, h)

stale_in-le : (x : Scene) (s : ℕ) (step : HelpStep) → stale_in x s step ≤ 100
stale_in-le x s Look = omega arith
stale_in-le x s (InstallTag i) = omega (arith, if-le (x.any_dirty (target_at x s i)) 8 4 8 (omega arith) (omega arith))
stale_in-le x s (LookUnderTag i v q) = omega arith
stale_in-le x s (InstallPointer i v q) = if-le (x.decided s) (for_stale_entry * (4 - i) + 9) 1 100 (omega arith) (omega arith)
stale_in-le x s (RemoveTag i v q) = omega arith
stale_in-le x s (AskDirty i v) = omega (arith, if-le (x.dirty (target_at x s i) v) 7 11 11 (omega arith) (omega arith))
stale_in-le x s (FenceDirty i v) = omega (arith, if-le (x.dirty (target_at x s i) v) 6 10 11 (omega arith) (omega arith))
stale_in-le x s (ClearDirty i v) = omega (arith, if-le (x.dirty (target_at x s i) v) 5 9 9 (omega arith) (omega arith))
stale_in-le x s (AskTarget i) = omega arith
stale_in-le x s FenceTargets = omega arith
stale_in-le x s (Decide d) = omega arith
stale_in-le x s (AskStatus d) = omega arith
stale_in-le x s (FenceStatus d) = omega arith
stale_in-le x s (ClearStatus d) = omega arith
stale_in-le x s (PutFinal i d) = omega arith
stale_in-le x s (AskFinal i d) = omega arith
stale_in-le x s (FenceFinal i d) = omega arith
stale_in-le x s (ClearFinal i d) = omega arith
stale_in-le x s (SweepTag i d v q) = omega arith

-- only a worker that does something goes by what no longer holds
stale-le : (x : Scene) (s : ℕ) (place : Place) → is_fresh_at x s place ≡ false → for_stale + stale_at x s place ≤ counted (is_busy place) 1024
stale-le x s Idle stale = absurd cc
stale-le x s (Prepare step) stale = absurd cc
stale-le x s (Learn k) stale = absurd cc
stale-le x s (Help step) stale = omega (arith, stale_in-le x s step)
stale-le x s (ReadWord a) stale = absurd cc
stale-le x s (AskRead a v) stale = omega arith
stale-le x s (FenceRead a v) stale = omega arith
stale-le x s (ClearRead a v) stale = omega arith
stale-le x s (LoadWord a) stale = absurd cc
stale-le x s (StoreWord a v) stale = absurd cc
stale-le x s (AskLine line) stale = absurd cc
stale-le x s (FenceLine line) stale = absurd cc

busy-more : (b : Bool) → counted b own_most ≤ counted b 1024
busy-more true = omega arith
busy-more false = omega arith

pub budget_at-le : (x : Scene) (w n : ℕ) (l : Local) (place : Place) → n ≤ 65 → AreShort x.entries → budget_at x w n l place ≤ allowed_by_others x w n + counted (is_busy place) 1024
budget_at-le x w n l place few short = by_fresh (is_fresh_at x l.current place) refl
  where
    by_fresh : (b : Bool) → is_fresh_at x l.current place ≡ b
        → (if b then fresh_budget x w n l place else allowed_by_others x w n + for_stale + stale_at x l.current place) ≤ allowed_by_others x w n + counted (is_busy place) 1024
    by_fresh true told = omega (arith, fresh-le x w n l place few short, busy-more (is_busy place))
    by_fresh false told = omega (arith, stale-le x l.current place told)

pub budgets_are_allowed : BudgetsAreAllowed
budgets_are_allowed x w n own few short = rw (others-split w (λ v. counted (is_busy (x.local v).place) for_worker) n own) (budget_at-le (scene_of x) w n (x.local w) (x.local w).place few short)
