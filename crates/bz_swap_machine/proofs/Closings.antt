-- A swap that becomes through pays for the walk that follows it.
use Rattle.std.proofs.Common.{◌≡◌, ◌==◌, not, nat_lt, ℕ, ◌+◌, ◌*◌, ◌≤◌, Bool, true, false, arith, refl, subst, Some, None}
use Rattle.std.proofs.lemmas.Grind.{common_steps}
use Rattle.std.specs.declared.option.Option.{Option}
use Rattle.bz_swap_machine.specs.declared.place.HelpStep.{HelpStep}
use Rattle.bz_swap_machine.specs.declared.place.Place.{Place}
use Rattle.bz_swap_machine.specs.declared.place.Place.TheVariants.{Idle, Prepare, Help}
use Rattle.bz_swap_machine.specs.declared.worker.Operation.{Operation}
use Rattle.bz_swap_machine.specs.declared.worker.Operation.TheVariants.{Swapping}
use Rattle.bz_swap_machine.specs.Budget.{level, for_sweep, for_return, for_close, open_count, open_above, walk_on, lags_back, detour_on, own_missing_by, left_at, for_walks, left_by_others, fresh_budget}
use Rattle.bz_swap_machine.specs.Budgets.{IsBounded}
use Rattle.bz_swap_machine.specs.Machine.{Entries, Memory}
use Rattle.bz_swap_machine.specs.Standing.{is_decided, is_through, top, is_open_at, scene_of}
use Rattle.bz_swap_machine.specs.State.{State}
use Rattle.bz_swap_machine.specs.Steps.{Local, is_own}
use Rattle.bz_swap_machine.proofs.BudgetBounds.{above-le, walk_on-le}
use Rattle.bz_swap_machine.proofs.Compared.{open-less, open-falls, walks-pay}
use Rattle.bz_swap_machine.proofs.Openers.{Opener, opener}
use Rattle.bz_swap_machine.proofs.Spends.{meets}
use Rattle.bz_swap_machine.proofs.Truths.{differ}
use Rattle.bz_swap_machine.proofs.Visits.{lags-implied, detour-less, walk-own, walk-decided, all-fall}

-- the visited swap is decided and not through, and no other comes to reach higher than an undecided one
pub record Closing (e : ℕ → Entries) (local : ℕ → Local) (m r : Memory) (c : ℕ) : Type 0 where
  pub settled : is_decided (m.status c) ≡ true
  pub unfinished : is_through (meets e local m) c ≡ false
  pub decided : (s : ℕ) → is_decided (m.status s) ≡ true → is_decided (r.status s) ≡ true
  pub through : (s : ℕ) → is_through (meets e local m) s ≡ true → is_through (meets e local r) s ≡ true
  pub higher : (s t : ℕ) → (s == c) ≡ false → nat_lt (top (meets e local r) s) (top (meets e local r) t) ≡ true → nat_lt (top (meets e local m) s) (top (meets e local m) t) ≡ true

-- an undecided swap is another than this one
pub undecided-apart : (r : Memory) (s c : ℕ) → is_decided (r.status c) ≡ true → is_decided (r.status s) ≡ false → (s == c) ≡ false
undecided-apart r s c settled unset = by_same (s == c) refl
  where
    by_same : (b : Bool) → (s == c) ≡ b → b ≡ false
    by_same false told = refl
    by_same true told =
        let same : s ≡ c = grind (arith, common_steps, told) in
        differ (is_decided (r.status c)) settled (subst (λ k. is_decided (r.status k) ≡ false) same unset)

back-closing : (e : ℕ → Entries) (local : ℕ → Local) (m r : Memory) (c : ℕ) (o : Operation) (back : Option ℕ) → Closing e local m r c → lags_back (meets e local r) o back ≡ true → lags_back (meets e local m) o back ≡ true
back-closing e local m r c o None closing is = is
back-closing e local m r c o (Some b) closing is = lags-implied e local m r o b (closing.decided b) (λ t at unset. closing.higher b t (undecided-apart r b c (closing.decided c closing.settled) unset)) is

detour-closing : (e : ℕ → Entries) (local : ℕ → Local) (m r : Memory) (w n : ℕ) (l : Local) → Closing e local m r l.current → detour_on (meets e local r) (open_count (meets e local r) w n) l ≤ detour_on (meets e local m) (open_count (meets e local m) w n) l
detour-closing e local m r w n l closing =
    detour-less e local m r (open_count (meets e local r) w n) (open_count (meets e local m) w n) l (open-less e local m r w n closing.through)
    (λ own. lags-implied e local m r l.operation l.current (closing.decided l.current) (λ t at unset. differ (is_decided (r.status l.current)) (closing.decided l.current closing.settled) unset))
    (λ own. back-closing e local m r l.current l.operation l.back closing)

-- a worker whose swap is through has no open one
closed-at : (e : ℕ → Entries) (local : ℕ → Local) (r : Memory) (c : ℕ) (o : Operation) (p : Place) → is_through (meets e local r) c ≡ true → o ≡ Swapping c → is_open_at (meets e local r) p o ≡ false
closed-at e local r c o Idle through at = refl
closed-at e local r c o (Prepare step) through at = refl
closed-at e local r c o p through at =
    let told : not (is_through (meets e local r) c) ≡ false = rw through refl in
    rw at told

-- a place that is not an end is compared by what is left, and what others have left
pub closing-falls : (x : State) (r : Memory) (w n : ℕ) (p q : HelpStep) → IsBounded x n → x.memory.published (x.local w).current ≡ true → Closing x.entries x.local x.memory r (x.local w).current
    → own_missing_by (meets x.entries x.local r) (x.local w).operation + left_at (Help q) + left_by_others (meets x.entries x.local r) w n (x.local w) (Help q) + 1
    ≤ own_missing_by (scene_of x) (x.local w).operation + left_at (Help p) + left_by_others (scene_of x) w n (x.local w) (Help p) → fresh_budget (meets x.entries x.local r) w n (x.local w) (Help q) + 1 ≤ fresh_budget (scene_of x) w n (x.local w) (Help p)
closing-falls x r w n p q bounded published closing rest = by_own (is_own (x.local w).operation (x.local w).current) refl (is_through (meets x.entries x.local r) (x.local w).current) refl
  where
    count : open_count (meets x.entries x.local r) w n ≤ open_count (scene_of x) w n
    count = open-less x.entries x.local x.memory r w n closing.through

    around : detour_on (meets x.entries x.local r) (open_count (meets x.entries x.local r) w n) (x.local w) ≤ detour_on (scene_of x) (open_count (scene_of x) w n) (x.local w)
    around = detour-closing x.entries x.local x.memory r w n (x.local w) closing

    quiet : walk_on (meets x.entries x.local r) (open_count (meets x.entries x.local r) w n) (open_above (meets x.entries x.local r) w n) (x.local w) ≤ walk_on (scene_of x) (open_count (scene_of x) w n) (open_above (scene_of x) w n) (x.local w)
        → fresh_budget (meets x.entries x.local r) w n (x.local w) (Help q) + 1 ≤ fresh_budget (scene_of x) w n (x.local w) (Help p)
    quiet walk = all-fall (scene_of x) (meets x.entries x.local r) w n (x.local w) (x.local w) (Help p) (Help q) count walk (omega arith) around rest

    by_own : (b : Bool) → is_own (x.local w).operation (x.local w).current ≡ b → (c : Bool) → is_through (meets x.entries x.local r) (x.local w).current ≡ c
        → fresh_budget (meets x.entries x.local r) w n (x.local w) (Help q) + 1 ≤ fresh_budget (scene_of x) w n (x.local w) (Help p)
    by_own true own c told =
        quiet
        (omega (arith, walk-own (meets x.entries x.local r) (open_count (meets x.entries x.local r) w n) (open_above (meets x.entries x.local r) w n) (x.local w) own, walk-own (scene_of x) (open_count (scene_of x) w n) (open_above (scene_of x) w n) (x.local w) own, count))
    by_own false own false told =
        quiet
        (omega (arith, walk-decided x.entries x.local r (open_count (meets x.entries x.local r) w n) (open_above (meets x.entries x.local r) w n) (x.local w) own told (closing.decided (x.local w).current closing.settled)))
    by_own false own true told =
        let o : Opener x w n (x.local w).current = opener x w n (x.local w).current bounded published closing.unfinished own in
        let less : open_count (meets x.entries x.local r) w n + 1 ≤ open_count (scene_of x) w n =
        open-falls x.entries x.local x.memory r w n o.worker closing.through o.other o.below (closed-at x.entries x.local r (x.local w).current (x.local o.worker).operation (x.local o.worker).place told o.operation) o.unfinished in
        let walk = walk_on-le (meets x.entries x.local r) (open_count (meets x.entries x.local r) w n) (open_above (meets x.entries x.local r) w n) (x.local w) (above-le (meets x.entries x.local r) w n) in
        sums (for_walks (open_count (scene_of x) w n)) (walk_on (scene_of x) (open_count (scene_of x) w n) (open_above (scene_of x) w n) (x.local w)) _ _ _ _ _ (for_walks (open_count (meets x.entries x.local r) w n)) (open_count (meets x.entries x.local r) w n) _ _ _ _ _
        (walks-pay (open_count (meets x.entries x.local r) w n) (open_count (scene_of x) w n) less) walk around rest
      where
        sums : (z a b c d f r z' u a' c' d' f' r' : ℕ) → z' + level * (u + 1) + for_close ≤ z → a' ≤ level * u + for_return + for_sweep → c' ≤ c → d' + f' + r' + 1 ≤ d + f + r → z' + a' + b + c' + d' + f' + r' + 1 ≤ z + a + b + c + d + f + r
        sums z a b c d f r z' u a' c' d' f' r' h1 h2 h3 h4 = omega (arith, h1, h2, h3, h4)
