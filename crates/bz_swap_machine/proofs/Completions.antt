-- A worker that goes on to the next entry of a swap that is decided, or that has completed it, spends one.
use Rattle.std.proofs.Common.{◌≡◌, ◌==◌, ◌&&◌, ◌||◌, not, if◌then◌else◌, ℕ, ◌+◌, ◌-◌, ◌*◌, ◌<◌, ◌≤◌, Bool, true, false, arith, refl, ap, sym, subst, ◌∙◌, Some, None}
use Rattle.std.proofs.lemmas.Bool.{ltb-true}
use Rattle.std.proofs.lemmas.Grind.{common_steps}
use Rattle.std.specs.Prelude.{nat_lt}
use Rattle.std.specs.declared.option.Option.{Option}
use Rattle.bz_word.specs.declared.kind.WordKind.{WordKind}
use Rattle.bz_word.specs.declared.kind.WordKind.TheVariants.{Tag}
use Rattle.bz_swap_machine.specs.declared.place.HelpStep.{HelpStep}
use Rattle.bz_swap_machine.specs.declared.place.HelpStep.TheVariants.{PutFinal}
use Rattle.bz_swap_machine.specs.declared.place.Place.{Place}
use Rattle.bz_swap_machine.specs.declared.place.Place.TheVariants.{Idle, Learn, Help, ReadWord}
use Rattle.bz_swap_machine.specs.declared.status.Verdict.{Verdict}
use Rattle.bz_swap_machine.specs.declared.worker.Operation.{Operation}
use Rattle.bz_swap_machine.specs.declared.worker.Operation.TheVariants.{Nothing, Reading, Swapping}
use Rattle.bz_swap_machine.specs.Budget.{level, for_first, for_sweep, for_return, for_detour, open_count, open_above, walk_home, walk_from, walk_back, walk_on, if_any, reserve_by, lags, lags_back, detour_on, left_in_help, left_at, is_over_at, left_by_others, fresh_budget}
use Rattle.bz_swap_machine.specs.Budgets.{IsBounded}
use Rattle.bz_swap_machine.specs.Owners.{RestsAt}
use Rattle.bz_swap_machine.specs.Standing.{Scene, is_through, scene_of}
use Rattle.bz_swap_machine.specs.State.{State}
use Rattle.bz_swap_machine.specs.Steps.{Local, is_own, helping, resumed}
use Rattle.bz_swap_machine.proofs.Compared.{no-more, open-less, walks-less}
use Rattle.bz_swap_machine.proofs.Finishing.{Finishing, Sweeps, with_cached, told-false, through-finishing, through-before, missing-finishing, lags-finishing, back-finishing, from-finishing, nothing-finishing}
use Rattle.bz_swap_machine.proofs.SpendPointers.{tag-told}
use Rattle.bz_swap_machine.proofs.Spends.{meets}
use Rattle.bz_swap_machine.proofs.Truths.{differ}
use Rattle.bz_swap_machine.proofs.Visits.{detour-less, own-less, walk-own, walk-decided, walk-through, all-fall}

-- the scene after the entry is done with
abbrev now : State → (ℕ → WordKind) → Scene
now x f = meets x.entries x.local (with_cached x.memory f)

count-less : (x : State) (f : ℕ → WordKind) (w n i : ℕ) (p : HelpStep) → Finishing x f w i p → open_count (now x f) w n ≤ open_count (scene_of x) w n
count-less x f w n i p finishing = open-less x.entries x.local x.memory (with_cached x.memory f) w n (through-finishing x f w i p finishing)

unfinished-now : (x : State) (f : ℕ → WordKind) (w i : ℕ) (p : HelpStep) → Finishing x f w i p → (s : ℕ) → is_through (scene_of x) s ≡ false → is_through (now x f) s ≡ false
unfinished-now x f w i p finishing s is = told-false (is_through (now x f) s) (λ through. differ (is_through (scene_of x) s) (through-before x f w i p finishing s through) is)

chosen-first : (b : Bool) (j k : ℕ) → b ≡ true → (if b then j else k) ≡ j
chosen-first b j k is = rw is refl

chosen-second : (b : Bool) (j k : ℕ) → b ≡ false → (if b then j else k) ≡ k
chosen-second b j k is = rw is refl

either-first : (a b : Bool) → a ≡ true → (a || b) ≡ true
either-first a b is = rw is refl

either-second : (a b : Bool) → b ≡ true → (a || b) ≡ true
either-second true b is = refl
either-second false b is = is

neither : (a b : Bool) → a ≡ false → b ≡ false → (a || b) ≡ false
neither a b f g = rw (f, g) refl

-- what is gone back to costs no more
back-home : (x : Scene) (u : ℕ) (above : ℕ → ℕ) (l : Local) (b : ℕ) → (is_own l.operation b || is_through x b) ≡ true → walk_back x u above l (Some b) ≡ level * u + for_return
back-home x u above l b is = chosen-first (is_own l.operation b || is_through x b) (walk_home u + for_return) (walk_from x above b) is

back-from : (x : Scene) (u : ℕ) (above : ℕ → ℕ) (l : Local) (b : ℕ) → (is_own l.operation b || is_through x b) ≡ false → walk_back x u above l (Some b) ≡ walk_from x above b
back-from x u above l b is = chosen-second (is_own l.operation b || is_through x b) (walk_home u + for_return) (walk_from x above b) is

back-less : (x : State) (f : ℕ → WordKind) (w n i : ℕ) (p : HelpStep) → Finishing x f w i p → is_through (scene_of x) (x.local w).current ≡ true → (back : Option ℕ)
    → walk_back (now x f) (open_count (now x f) w n) (open_above (now x f) w n) (x.local w) back ≤ walk_back (scene_of x) (open_count (scene_of x) w n) (open_above (scene_of x) w n) (x.local w) back
back-less x f w n i p finishing through None = let le : open_count (now x f) w n ≤ open_count (scene_of x) w n = count-less x f w n i p finishing in omega (arith, le)
back-less x f w n i p finishing through (Some b) = by_own (is_own (x.local w).operation b) refl (is_through (scene_of x) b) refl
  where
    le : open_count (now x f) w n ≤ open_count (scene_of x) w n
    le = count-less x f w n i p finishing

    by_own : (a : Bool) → is_own (x.local w).operation b ≡ a → (c : Bool) → is_through (scene_of x) b ≡ c
        → walk_back (now x f) (open_count (now x f) w n) (open_above (now x f) w n) (x.local w) (Some b) ≤ walk_back (scene_of x) (open_count (scene_of x) w n) (open_above (scene_of x) w n) (x.local w) (Some b)
    by_own true own c told =
        omega (arith, le, back-home (now x f) (open_count (now x f) w n) (open_above (now x f) w n) (x.local w) b (either-first _ _ own), back-home (scene_of x) (open_count (scene_of x) w n) (open_above (scene_of x) w n) (x.local w) b (either-first _ _ own))
    by_own false own true told =
        omega (
          arith,
          le,
          back-home (now x f) (open_count (now x f) w n) (open_above (now x f) w n) (x.local w) b (either-second _ _ (through-finishing x f w i p finishing b told)),
          back-home (scene_of x) (open_count (scene_of x) w n) (open_above (scene_of x) w n) (x.local w) b (either-second _ _ told),
        )
    by_own false own false told =
        omega (
          arith,
          back-from (now x f) (open_count (now x f) w n) (open_above (now x f) w n) (x.local w) b (neither _ _ own (unfinished-now x f w i p finishing b told)),
          back-from (scene_of x) (open_count (scene_of x) w n) (open_above (scene_of x) w n) (x.local w) b (neither _ _ own told),
          from-finishing x f w n i p finishing through b told,
        )

walk-next : (x : State) (f : ℕ → WordKind) (w n i : ℕ) (p : HelpStep) → Finishing x f w i p
    → walk_on (now x f) (open_count (now x f) w n) (open_above (now x f) w n) (x.local w) ≤ walk_on (scene_of x) (open_count (scene_of x) w n) (open_above (scene_of x) w n) (x.local w)
walk-next x f w n i p finishing = by_own (is_own (x.local w).operation (x.local w).current) refl (is_through (scene_of x) (x.local w).current) refl
  where
    by_own : (a : Bool) → is_own (x.local w).operation (x.local w).current ≡ a → (c : Bool) → is_through (scene_of x) (x.local w).current ≡ c
        → walk_on (now x f) (open_count (now x f) w n) (open_above (now x f) w n) (x.local w) ≤ walk_on (scene_of x) (open_count (scene_of x) w n) (open_above (scene_of x) w n) (x.local w)
    by_own true own c told =
        omega (arith, walk-own (now x f) (open_count (now x f) w n) (open_above (now x f) w n) (x.local w) own, walk-own (scene_of x) (open_count (scene_of x) w n) (open_above (scene_of x) w n) (x.local w) own, count-less x f w n i p finishing)
    by_own false own true told =
        omega (
          arith,
          walk-through (now x f) (open_count (now x f) w n) (open_above (now x f) w n) (x.local w) own (through-finishing x f w i p finishing (x.local w).current told),
          walk-through (scene_of x) (open_count (scene_of x) w n) (open_above (scene_of x) w n) (x.local w) own told,
          back-less x f w n i p finishing told (x.local w).back,
        )
    by_own false own false told =
        omega (arith, walk-decided x.entries x.local (with_cached x.memory f) (open_count (now x f) w n) (open_above (now x f) w n) (x.local w) own (unfinished-now x f w i p finishing (x.local w).current told) finishing.settled)

next-sweeps : (x : State) (f : ℕ → WordKind) (w i : ℕ) (d : Verdict) (p : HelpStep) → Finishing x f w i p → Sweeps x f w i p (is_over_at (now x f) (x.local w) (Help (PutFinal (i + 1) d))) (x.local w) (Help (PutFinal (i + 1) d))
next-sweeps x f w i d p finishing = record {
  ahead = λ v s j t is swept same through own.
      within j (by_test (not (is_own (x.local w).operation (x.local w).current) && is_through (now x f) (x.local w).current) (s == (x.local w).current) (nat_lt j (i + 1))
      (both (is_own (x.local w).operation (x.local w).current) (is_through (now x f) (x.local w).current) own (through-finishing x f w i p finishing (x.local w).current through)) same swept);
}
  where
    both : (a b : Bool) → a ≡ false → b ≡ true → (not a && b) ≡ true
    both a b g h = rw (g, h) refl

    by_test : (a b c : Bool) → a ≡ true → b ≡ true → (a && (b && not c)) ≡ false → c ≡ true
    by_test true true true g h is = refl
    by_test true true false g h is = differ true refl is
    by_test true false c g h is = differ false h refl
    by_test false b c g h is = differ false g refl

    within : (j : ℕ) → nat_lt j (i + 1) ≡ true → j ≤ i
    within j is = omega (arith, ltb-true j (i + 1) is)

-- on to the next entry
pub next-falls : (x : State) (f : ℕ → WordKind) (w n i : ℕ) (d : Verdict) (p : HelpStep) → Finishing x f w i p → 4 * (4 - (i + 1)) + 1 ≤ left_in_help p
    → fresh_budget (now x f) w n (x.local w) (Help (PutFinal (i + 1) d)) + 1 ≤ fresh_budget (scene_of x) w n (x.local w) (Help p)
next-falls x f w n i d p finishing left =
    all-fall (scene_of x) (now x f) w n (x.local w) (x.local w) (Help p) (Help (PutFinal (i + 1) d)) (count-less x f w n i p finishing) (walk-next x f w n i p finishing) (omega arith)
    (detour-less x.entries x.local x.memory (with_cached x.memory f) (open_count (now x f) w n) (open_count (scene_of x) w n) (x.local w) (count-less x f w n i p finishing)
    (λ own. lags-finishing x f w i p finishing (x.local w).operation (x.local w).current) (λ own. back-finishing x f w i p finishing (x.local w).operation (x.local w).back))
    (sums _ _ _ _ _ left (own-less x.entries x.local x.memory (with_cached x.memory f) (x.local w).operation (missing-finishing x f w i p finishing))
    (no-more x.entries x.local x.memory (with_cached x.memory f) w n (x.local w) (x.local w) (Help p) (Help (PutFinal (i + 1) d)) (nothing-finishing x f w i p (x.local w) (Help (PutFinal (i + 1) d)) finishing (next-sweeps x f w i d p finishing))))
  where
    sums : (a b c a' c' : ℕ) → 4 * (4 - (i + 1)) + 1 ≤ b → a' ≤ a → c' ≤ c → a' + 4 * (4 - (i + 1)) + c' + 1 ≤ a + b + c
    sums a b c a' c' g h k = omega (arith, g, h, k)

-- after the last entry no tag of the swap is ahead
last-sweeps : (x : State) (f : ℕ → WordKind) (w n i : ℕ) (p : HelpStep) (over : Bool) (k : Local) (q : Place) → IsBounded x n → Finishing x f w i p → i + 1 ≡ (x.entries (x.local w).current).count → Sweeps x f w i p over k q
last-sweeps x f w n i p over k q bounded finishing last = record {
  ahead = λ v s j t is swept same through own.
      let here : s ≡ (x.local w).current = grind (arith, common_steps, same) in
      let stood : x.memory.cached ((x.entries s).target j) ≡ Tag s j v t = tag-told (x.memory.cached ((x.entries s).target j)) s j v t (finishing.tags ((x.entries s).target j) s j v t is) in
      let below : j < (x.entries s).count = (bounded.state.sound.tag ((x.entries s).target j) s j v t stood).entry in
      let inside : j < (x.entries (x.local w).current).count = subst (λ c. j < (x.entries c).count) here below in
      omega (arith, inside, last);
}

rest-less : (x : State) (f : ℕ → WordKind) (w n i : ℕ) (p : HelpStep) (k : Local) (q : Place) → IsBounded x n → Finishing x f w i p → i + 1 ≡ (x.entries (x.local w).current).count → left_by_others (now x f) w n k q ≤ left_by_others (scene_of x) w n (x.local w) (Help p)
rest-less x f w n i p k q bounded finishing last =
    no-more x.entries x.local x.memory (with_cached x.memory f) w n (x.local w) k (Help p) q (nothing-finishing x f w i p k q finishing (last-sweeps x f w n i p (is_over_at (now x f) k q) k q bounded finishing last))

own-reserve : (o : Operation) (c : ℕ) → is_own o c ≡ true → reserve_by o 0 ≡ for_first
own-reserve Nothing c own = absurd cc
own-reserve (Reading a) c own = absurd cc
own-reserve (Swapping s) c own = refl

any-most : (u : ℕ) → if_any u ≤ for_first
any-most u = by_test (u == 0)
  where
    by_test : (b : Bool) → (if b then 0 else for_first) ≤ for_first
    by_test true = omega arith
    by_test false = omega arith

-- the own swap is answered
pub answer-falls : (x : State) (f : ℕ → WordKind) (w n i : ℕ) (p : HelpStep) → IsBounded x n → Finishing x f w i p → i + 1 ≡ (x.entries (x.local w).current).count → 1 ≤ left_in_help p → is_own (x.local w).operation (x.local w).current ≡ true
    → fresh_budget (now x f) w n (record (x.local w) { operation = Nothing; place = Idle }) Idle + 1 ≤ fresh_budget (scene_of x) w n (x.local w) (Help p)
answer-falls x f w n i p bounded finishing last left own =
    sums _ _ _ _ _ _ _ _ _ _ _ (walks-less (open_count (now x f) w n) (open_count (scene_of x) w n) (count-less x f w n i p finishing)) (count-less x f w n i p finishing)
    (walk-own (scene_of x) (open_count (scene_of x) w n) (open_above (scene_of x) w n) (x.local w) own) (own-reserve (x.local w).operation (x.local w).current own) (any-most (open_count (now x f) w n)) left
    (rest-less x f w n i p (record (x.local w) { operation = Nothing; place = Idle }) Idle bounded finishing last)
  where
    sums : (z u' u a b c d e r z' b' : ℕ) {r' : ℕ} → z' ≤ z → u' ≤ u → a ≡ level * u → b ≡ for_first → b' ≤ for_first → 1 ≤ e → r' ≤ r → z' + level * u' + b' + 0 + 0 + 0 + r' + 1 ≤ z + a + b + c + d + e + r
    sums z u' u a b c d e r z' b' f1 f2 f3 f4 f5 f6 f7 = omega (arith, f1, f2, f3, f4, f5, f6, f7)

-- the walk from one that is gone back to, as a visit to it
back-on : (x : State) (f : ℕ → WordKind) (w n i b : ℕ) (p : HelpStep) → Finishing x f w i p → is_through (scene_of x) (x.local w).current ≡ true
    → walk_on (now x f) (open_count (now x f) w n) (open_above (now x f) w n) (helping (x.local w) b None) ≤ walk_back (scene_of x) (open_count (scene_of x) w n) (open_above (scene_of x) w n) (x.local w) (Some b)
back-on x f w n i b p finishing through = by_own (is_own (x.local w).operation b) refl (is_through (scene_of x) b) refl
  where
    le : open_count (now x f) w n ≤ open_count (scene_of x) w n
    le = count-less x f w n i p finishing

    walk-open : (y : Scene) (u : ℕ) (above : ℕ → ℕ) (k : Local) → is_own k.operation k.current ≡ false → is_through y k.current ≡ false → walk_on y u above k ≡ walk_from y above k.current
    walk-open y u above k own unfinished = rw own (chosen-second (is_through y k.current) (walk_back y u above k k.back + for_sweep) (walk_from y above k.current) unfinished)

    by_own : (a : Bool) → is_own (x.local w).operation b ≡ a → (c : Bool) → is_through (scene_of x) b ≡ c
        → walk_on (now x f) (open_count (now x f) w n) (open_above (now x f) w n) (helping (x.local w) b None) ≤ walk_back (scene_of x) (open_count (scene_of x) w n) (open_above (scene_of x) w n) (x.local w) (Some b)
    by_own true own c told =
        omega (arith, le, walk-own (now x f) (open_count (now x f) w n) (open_above (now x f) w n) (helping (x.local w) b None) own, back-home (scene_of x) (open_count (scene_of x) w n) (open_above (scene_of x) w n) (x.local w) b (either-first _ _ own))
    by_own false own true told =
        omega (
          arith,
          le,
          walk-through (now x f) (open_count (now x f) w n) (open_above (now x f) w n) (helping (x.local w) b None) own (through-finishing x f w i p finishing b told),
          back-home (scene_of x) (open_count (scene_of x) w n) (open_above (scene_of x) w n) (x.local w) b (either-second _ _ told),
        )
    by_own false own false told =
        omega (
          arith,
          walk-open (now x f) (open_count (now x f) w n) (open_above (now x f) w n) (helping (x.local w) b None) own (unfinished-now x f w i p finishing b told),
          back-from (scene_of x) (open_count (scene_of x) w n) (open_above (scene_of x) w n) (x.local w) b (neither _ _ own told),
          from-finishing x f w n i p finishing through b told,
        )

detour-back : (a a' b b' c' : Bool) (k j : ℕ) → a' ≡ false → (b ≡ true → c' ≡ true) → k ≤ j → (if not a && (b || false) then k else 0) ≤ (if not a' && (b' || c') then j else 0)
detour-back true a' b b' c' k j own f le = omega arith
detour-back false a' false b' c' k j own f le = omega arith
detour-back false a' true b' c' k j own f le = let h : c' ≡ true = f refl in rw (own, either-second b' c' h) le

-- the swap of another is complete: a visit to the one that is gone back to begins
back-falls : (x : State) (f : ℕ → WordKind) (w n i b : ℕ) (p : HelpStep) → IsBounded x n → Finishing x f w i p → i + 1 ≡ (x.entries (x.local w).current).count → 1 ≤ left_in_help p → is_own (x.local w).operation (x.local w).current ≡ false
    → is_through (scene_of x) (x.local w).current ≡ true → (x.local w).back ≡ Some b → fresh_budget (now x f) w n (helping (x.local w) b None) (Learn 0) + 1 ≤ fresh_budget (scene_of x) w n (x.local w) (Help p)
back-falls x f w n i b p bounded finishing last left own through back =
    sums _ _ _ _ _ _ _ _ _ _ _ _ _ (walks-less (open_count (now x f) w n) (open_count (scene_of x) w n) (count-less x f w n i p finishing)) (back-on x f w n i b p finishing through)
    (walk-through (scene_of x) (open_count (scene_of x) w n) (open_above (scene_of x) w n) (x.local w) own through ∙ ap (λ k. walk_back (scene_of x) (open_count (scene_of x) w n) (open_above (scene_of x) w n) (x.local w) k + for_sweep) back)
    around (own-less x.entries x.local x.memory (with_cached x.memory f) (x.local w).operation (missing-finishing x f w i p finishing)) left (rest-less x f w n i p (helping (x.local w) b None) (Learn 0) bounded finishing last)
  where
    le : open_count (now x f) w n ≤ open_count (scene_of x) w n
    le = count-less x f w n i p finishing

    around : detour_on (now x f) (open_count (now x f) w n) (helping (x.local w) b None) ≤ detour_on (scene_of x) (open_count (scene_of x) w n) (x.local w)
    around =
        detour-back (is_own (x.local w).operation b) (is_own (x.local w).operation (x.local w).current) (lags (now x f) (x.local w).operation b) (lags (scene_of x) (x.local w).operation (x.local w).current)
        (lags_back (scene_of x) (x.local w).operation (x.local w).back) (level * open_count (now x f) w n + for_detour) (level * open_count (scene_of x) w n + for_detour) own
        (λ is. subst (λ k. lags_back (scene_of x) (x.local w).operation k ≡ true) (sym back) (lags-finishing x f w i p finishing (x.local w).operation b is)) (omega (arith, le))

    sums : (z a h c d e r z' a' c' d' r' b : ℕ) → z' ≤ z → a' ≤ h → a ≡ h + for_sweep → c' ≤ c → d' ≤ d → 1 ≤ e → r' ≤ r → z' + a' + b + c' + d' + left_at (Learn 0) + r' + 1 ≤ z + a + b + c + d + e + r
    sums z a h c d e r z' a' c' d' r' b f1 f2 f3 f4 f5 f6 f7 = omega (arith, f1, f2, f3, f4, f5, f6, f7)

-- or a visit to the own swap
home-falls : (x : State) (f : ℕ → WordKind) (w n i s : ℕ) (p : HelpStep) → IsBounded x n → Finishing x f w i p → i + 1 ≡ (x.entries (x.local w).current).count → 1 ≤ left_in_help p → is_own (x.local w).operation (x.local w).current ≡ false
    → is_through (scene_of x) (x.local w).current ≡ true → (x.local w).back ≡ None → (x.local w).operation ≡ Swapping s → fresh_budget (now x f) w n (helping (x.local w) s None) (Learn 0) + 1 ≤ fresh_budget (scene_of x) w n (x.local w) (Help p)
home-falls x f w n i s p bounded finishing last left own through back operation =
    sums _ _ _ _ _ _ _ _ _ _ _ _ _ _ (walks-less (open_count (now x f) w n) (open_count (scene_of x) w n) (count-less x f w n i p finishing)) (count-less x f w n i p finishing)
    (walk-own (now x f) (open_count (now x f) w n) (open_above (now x f) w n) (helping (x.local w) s None) mine)
    (walk-through (scene_of x) (open_count (scene_of x) w n) (open_above (scene_of x) w n) (x.local w) own through ∙ ap (λ k. walk_back (scene_of x) (open_count (scene_of x) w n) (open_above (scene_of x) w n) (x.local w) k + for_sweep) back)
    straight (own-less x.entries x.local x.memory (with_cached x.memory f) (x.local w).operation (missing-finishing x f w i p finishing)) left (rest-less x f w n i p (helping (x.local w) s None) (Learn 0) bounded finishing last)
  where
    mine : is_own (x.local w).operation s ≡ true
    mine = let self : (s == s) ≡ true = grind (arith, common_steps) in ap (λ o. is_own o s) operation ∙ self

    straight : detour_on (now x f) (open_count (now x f) w n) (helping (x.local w) s None) ≡ 0
    straight = rw mine refl

    sums : (z a u' u c d e r z' a' c' d' r' b : ℕ) → z' ≤ z → u' ≤ u → a' ≡ level * u' → a ≡ level * u + for_sweep → c' ≡ 0 → d' ≤ d → 1 ≤ e → r' ≤ r → z' + a' + b + c' + d' + left_at (Learn 0) + r' + 1 ≤ z + a + b + c + d + e + r
    sums z a u' u c d e r z' a' c' d' r' b f1 f2 f3 f4 f5 f6 f7 f8 = omega (arith, f1, f2, f3, f4, f5, f6, f7, f8)

-- or the own read goes on
read-falls : (x : State) (f : ℕ → WordKind) (w n i a : ℕ) (p : HelpStep) → IsBounded x n → Finishing x f w i p → i + 1 ≡ (x.entries (x.local w).current).count → is_own (x.local w).operation (x.local w).current ≡ false
    → is_through (scene_of x) (x.local w).current ≡ true → (x.local w).back ≡ None → (x.local w).operation ≡ Reading a → fresh_budget (now x f) w n (record (x.local w) { place = ReadWord a }) (ReadWord a) + 1 ≤ fresh_budget (scene_of x) w n (x.local w) (Help p)
read-falls x f w n i a p bounded finishing last own through back operation =
    sums _ _ _ _ _ _ _ _ _ _ _ _ _ (walks-less (open_count (now x f) w n) (open_count (scene_of x) w n) (count-less x f w n i p finishing)) (count-less x f w n i p finishing)
    (walk-through (scene_of x) (open_count (scene_of x) w n) (open_above (scene_of x) w n) (x.local w) own through ∙ ap (λ k. walk_back (scene_of x) (open_count (scene_of x) w n) (open_above (scene_of x) w n) (x.local w) k + for_sweep) back)
    any (own-less x.entries x.local x.memory (with_cached x.memory f) (x.local w).operation (missing-finishing x f w i p finishing)) (rest-less x f w n i p (record (x.local w) { place = ReadWord a }) (ReadWord a) bounded finishing last)
  where
    any : reserve_by (x.local w).operation (if_any (open_count (now x f) w n)) ≤ for_first
    any = subst (λ o. reserve_by o (if_any (open_count (now x f) w n)) ≤ for_first) (sym operation) (any-most (open_count (now x f) w n))

    sums : (z g u' u b c d e r z' b' d' r' : ℕ) → z' ≤ z → u' ≤ u → g ≡ level * u + for_sweep → b' ≤ for_first → d' ≤ d → r' ≤ r → z' + level * u' + b' + 0 + d' + 1 + r' + 1 ≤ z + g + b + c + d + e + r
    sums z g u' u b c d e r z' b' d' r' f1 f2 f3 f4 f5 f6 = omega (arith, f1, f2, f3, f4, f5, f6)

-- whatever is gone on with
pub resume-falls : (x : State) (f : ℕ → WordKind) (w n i : ℕ) (p : HelpStep) → IsBounded x n → Finishing x f w i p → i + 1 ≡ (x.entries (x.local w).current).count → 1 ≤ left_in_help p → is_own (x.local w).operation (x.local w).current ≡ false
    → is_through (scene_of x) (x.local w).current ≡ true → (x.local w).place ≡ Help p → (back : Option ℕ) → (x.local w).back ≡ back → (o : Operation) → (x.local w).operation ≡ o
    → fresh_budget (now x f) w n (resumed (x.local w) back o) (resumed (x.local w) back o).place + 1 ≤ fresh_budget (scene_of x) w n (x.local w) (Help p)
resume-falls x f w n i p bounded finishing last left own through at (Some b) back o operation = back-falls x f w n i b p bounded finishing last left own through back
resume-falls x f w n i p bounded finishing last left own through at None back Nothing operation =
    absurd (subst (λ (o : Operation). RestsAt (Help p) o) operation (subst (λ (q : Place). RestsAt q (x.local w).operation) at (bounded.owned.rests w)))
resume-falls x f w n i p bounded finishing last left own through at None back (Reading a) operation = read-falls x f w n i a p bounded finishing last own through back operation
resume-falls x f w n i p bounded finishing last left own through at None back (Swapping s) operation = home-falls x f w n i s p bounded finishing last left own through back operation
