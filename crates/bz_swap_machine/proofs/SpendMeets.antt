-- A worker that meets another swap, on its way through a swap or in a read, spends one.
use Rattle.std.proofs.Common.{◌≡◌, ◌==◌, ◌&&◌, ◌||◌, not, nat_lt, if◌then◌else◌, ℕ, ◌+◌, ◌-◌, ◌*◌, ◌<◌, ◌≤◌, Bool, true, false, arith, refl, ap, sym, subst, Some, None}
use Rattle.std.proofs.lemmas.Bool.{le-ltb}
use Rattle.std.proofs.lemmas.Grind.{common_steps}
use Rattle.std.specs.declared.option.Option.{Option}
use Rattle.bz_word.specs.declared.kind.WordKind.TheVariants.{Tag}
use Rattle.bz_swap_machine.specs.declared.place.HelpStep.TheVariants.{InstallTag}
use Rattle.bz_swap_machine.specs.declared.place.Place.{Place}
use Rattle.bz_swap_machine.specs.declared.place.Place.TheVariants.{Learn, Help, ReadWord}
use Rattle.bz_swap_machine.specs.declared.worker.Operation.{Operation}
use Rattle.bz_swap_machine.specs.declared.worker.Operation.TheVariants.{Nothing, Reading, Swapping}
use Rattle.bz_swap_machine.specs.Budget.{level, for_first, for_return, for_detour, open_count, open_above, walk_home, walk_from, walk_back, is_over, walk_on, if_any, reserve_by, lags, lags_back, detour_on, left_at, is_over_at, is_swept, cleans_at, for_walks, left_by_others, fresh_budget}
use Rattle.bz_swap_machine.specs.Budgets.{IsBounded}
use Rattle.bz_swap_machine.specs.HelpActs.{final_value}
use Rattle.bz_swap_machine.specs.Standing.{is_decided, is_through, top, scene_of}
use Rattle.bz_swap_machine.specs.State.{State}
use Rattle.bz_swap_machine.specs.Steps.{Local, is_own, helping, meeting}
use Rattle.bz_swap_machine.proofs.Compared.{NoMore, no-more}
use Rattle.bz_swap_machine.proofs.Meets.{lt-trans, above-count, above-above, walk-under, tag-pays}
use Rattle.bz_swap_machine.proofs.Openers.{Opener, opener}
use Rattle.bz_swap_machine.proofs.Visits.{undecided-through, not-over, lt-self, walk-own, walk-undecided, walk-through}

-- no more is counted in a visit that has just begun
begun-less : (x : State) (w : ℕ) (l k : Local) (p : Place) → ((s i : ℕ) → is_swept (is_over_at (scene_of x) l p) l p s i ≡ false) → ((a v : ℕ) → cleans_at (scene_of x) l.current p a v ≡ false) → NoMore x.entries x.local x.memory x.memory w l k p (Learn 0)
begun-less x w l k p kept none = record {
  through = λ s is. is;
  missing = λ s. omega arith;
  tags = λ v s i t other is swept. (is, kept s i);
  dirty = λ s i d is cleans. (is, none ((x.entries s).target i) (final_value (x.entries s) i d));
}

-- it takes away the tags of a swap that is through
swept-first : (over : Bool) (t i : ℕ) → over ≡ true → (over && ((t == t) && not (nat_lt i 0))) ≡ true
swept-first over t i is =
    let self : (t == t) ≡ true = grind (arith, common_steps) in
    let first : nat_lt i 0 ≡ false = le-ltb i 0 (omega arith) in
    rw (is, self, first) refl

over-true : (a b : Bool) → a ≡ false → b ≡ true → (not a && b) ≡ true
over-true a b f g = rw (f, g) refl

kept-in : (x : State) (l : Local) (i : ℕ) → is_through (scene_of x) l.current ≡ false → (s j : ℕ) → is_swept (is_over_at (scene_of x) l (Help (InstallTag i))) l (Help (InstallTag i)) s j ≡ false
kept-in x l i unfinished s j = none (is_over (scene_of x) l) (not-over x.entries x.local x.memory l unfinished)
  where
    none : (b : Bool) → b ≡ false → (b && ((s == l.current) && not (nat_lt j 0))) ≡ false
    none b is = rw is refl

detour-none : (a b c : Bool) (k : ℕ) → (b ≡ true → ⊥) → (c ≡ true → ⊥) → (if not a && (b || c) then k else 0) ≡ 0
detour-none true b c k f g = refl
detour-none false true c k f g = absurd (f refl)
detour-none false false true k f g = absurd (g refl)
detour-none false false false k f g = refl

detour-two : (a a' b c b' c' : Bool) (k : ℕ) → a' ≡ false → (b ≡ true → b' ≡ true) → (c ≡ true → b' ≡ true) → (if not a && (b || c) then k else 0) ≤ (if not a' && (b' || c') then k else 0)
detour-two true a' b c b' c' k own f g = omega arith
detour-two false a' true c b' c' k own f g = let h : b' ≡ true = f refl in rw (own, h) (omega arith)
detour-two false a' false true b' c' k own f g = let h : b' ≡ true = g refl in rw (own, h) (omega arith)
detour-two false a' false false b' c' k own f g = omega arith

-- the own swap, which another one is met from, does not lag; and where it does, it lagged before
lags-lower : (x : State) (o : Operation) (c t : ℕ) → is_own o c ≡ false → is_decided (x.memory.status c) ≡ false → nat_lt (top (scene_of x) c) (top (scene_of x) t) ≡ true → lags (scene_of x) o t ≡ true → lags (scene_of x) o c ≡ true
lags-lower x Nothing c t own undecided higher is = is
lags-lower x (Reading a) c t own undecided higher is = is
lags-lower x (Swapping s) c t own undecided higher is = rw (own, undecided) (lt-trans (top (scene_of x) c) (top (scene_of x) t) (top (scene_of x) s) higher (last (s == t) (is_decided (x.memory.status t)) (nat_lt (top (scene_of x) t) (top (scene_of x) s)) is))
  where
    last : (a b c : Bool) → (not a && (not b && c)) ≡ true → c ≡ true
    last true b c h = absurd cc
    last false true c h = absurd cc
    last false false c h = h

lags-never : (x : State) (o : Operation) (c t : ℕ) → is_own o c ≡ true → nat_lt (top (scene_of x) c) (top (scene_of x) t) ≡ true → lags (scene_of x) o t ≡ true → ⊥
lags-never x Nothing c t own higher is = absurd cc
lags-never x (Reading a) c t own higher is = absurd cc
lags-never x (Swapping s) c t own higher is =
    let same : s ≡ c = grind (arith, common_steps, own) in
    let back : nat_lt (top (scene_of x) t) (top (scene_of x) c) ≡ true = subst (λ k. nat_lt (top (scene_of x) t) (top (scene_of x) k) ≡ true) same (last (s == t) (is_decided (x.memory.status t)) (nat_lt (top (scene_of x) t) (top (scene_of x) s)) is) in
    lt-self (top (scene_of x) c) (lt-trans (top (scene_of x) c) (top (scene_of x) t) (top (scene_of x) c) higher back)
  where
    last : (a b c : Bool) → (not a && (not b && c)) ≡ true → c ≡ true
    last true b c h = absurd cc
    last false true c h = absurd cc
    last false false c h = h

-- the own swap is met: it lagged
lags-own : (x : State) (o : Operation) (c t : ℕ) → is_own o t ≡ true → is_own o c ≡ false → is_decided (x.memory.status c) ≡ false → nat_lt (top (scene_of x) c) (top (scene_of x) t) ≡ true → lags (scene_of x) o c ≡ true
lags-own x Nothing c t mine own undecided higher = absurd cc
lags-own x (Reading a) c t mine own undecided higher = absurd cc
lags-own x (Swapping s) c t mine own undecided higher =
    let same : s ≡ t = grind (arith, common_steps, mine) in
    rw (own, undecided) (subst (λ k. nat_lt (top (scene_of x) c) (top (scene_of x) k) ≡ true) (sym same) higher)

own-differs : (o : Operation) (t c : ℕ) → is_own o c ≡ true → (t == c) ≡ false → is_own o t ≡ false
own-differs Nothing t c mine apart = refl
own-differs (Reading a) t c mine apart = refl
own-differs (Swapping s) t c mine apart = grind (arith, common_steps, mine, apart)

-- where no more is left of the visit than it costs
meet-sum : (x : State) (w n i t : ℕ) (l : Local) (back : Option ℕ) → i < 4
    → walk_on (scene_of x) (open_count (scene_of x) w n) (open_above (scene_of x) w n) (helping l t back) + detour_on (scene_of x) (open_count (scene_of x) w n) (helping l t back) + left_by_others (scene_of x) w n (helping l t back) (Learn 0) + level
    ≤ walk_on (scene_of x) (open_count (scene_of x) w n) (open_above (scene_of x) w n) l + detour_on (scene_of x) (open_count (scene_of x) w n) l + left_by_others (scene_of x) w n l (Help (InstallTag i))
    → fresh_budget (scene_of x) w n (helping l t back) (Learn 0) + 1 ≤ fresh_budget (scene_of x) w n l (Help (InstallTag i))
meet-sum x w n i t l back inside le = sums (for_walks (open_count (scene_of x) w n)) _ _ _ _ _ _ _ _ le
  where
    sums : (z a b c d r a' c' r' : ℕ) → a' + c' + r' + level ≤ a + c + r → z + a' + b + c' + d + left_at (Learn 0) + r' + 1 ≤ z + a + b + c + d + (25 + (4 - i)) + r
    sums z a b c d r a' c' r' h = omega (arith, h, inside)

walk-back-open : (x : State) (u : ℕ) (above : ℕ → ℕ) (l : Local) (c : ℕ) → is_own l.operation c ≡ false → is_through (scene_of x) c ≡ false → is_decided (x.memory.status c) ≡ false → walk_back (scene_of x) u above l (Some c) ≡ level * above c
walk-back-open x u above l c own unfinished undecided = chosen (is_own l.operation c || is_through (scene_of x) c) (neither (is_own l.operation c) (is_through (scene_of x) c) own unfinished)
  where
    neither : (a b : Bool) → a ≡ false → b ≡ false → (a || b) ≡ false
    neither a b f g = rw (f, g) refl

    chosen : (b : Bool) → b ≡ false → (if b then walk_home u + for_return else walk_from (scene_of x) above c) ≡ level * above c
    chosen b is = rw (is, undecided) refl

-- from the own swap
meet-own : (x : State) (w n i t : ℕ) → IsBounded x n → (x.local w).place ≡ Help (InstallTag i) → i < 4 → is_decided (x.memory.status (x.local w).current) ≡ false → is_own (x.local w).operation (x.local w).current ≡ true
    → (t == (x.local w).current) ≡ false → nat_lt (top (scene_of x) (x.local w).current) (top (scene_of x) t) ≡ true → x.memory.published t ≡ true → (a j v q : ℕ) → (is_through (scene_of x) t ≡ true → x.memory.cached a ≡ Tag t j v q)
    → fresh_budget (scene_of x) w n (helping (x.local w) t None) (Learn 0) + 1 ≤ fresh_budget (scene_of x) w n (x.local w) (Help (InstallTag i))
meet-own x w n i t bounded at inside undecided mine apart higher published a j v q tagged = by_through (is_through (scene_of x) t) refl
  where
    l : Local
    l = x.local w

    u : ℕ
    u = open_count (scene_of x) w n

    above : ℕ → ℕ
    above = open_above (scene_of x) w n

    unfinished : is_through (scene_of x) l.current ≡ false
    unfinished = undecided-through x.entries x.local x.memory l.current undecided

    other : is_own l.operation t ≡ false
    other = own-differs l.operation t l.current mine apart

    straight : detour_on (scene_of x) u (helping l t None) ≡ 0
    straight = detour-none (is_own l.operation t) (lags (scene_of x) l.operation t) false (level * u + for_detour) (lags-never x l.operation l.current t mine higher) (λ is. absurd cc)

    fewer : NoMore x.entries x.local x.memory x.memory w l (helping l t None) (Help (InstallTag i)) (Learn 0)
    fewer = begun-less x w l (helping l t None) (Help (InstallTag i)) (kept-in x l i unfinished) (λ b s. refl)

    by_through : (b : Bool) → is_through (scene_of x) t ≡ b → fresh_budget (scene_of x) w n (helping l t None) (Learn 0) + 1 ≤ fresh_budget (scene_of x) w n l (Help (InstallTag i))
    by_through false told =
        meet-sum x w n i t l None inside
        (omega (
          arith,
          walk-under x u above (helping l t None) other told,
          straight,
          walk-own (scene_of x) u above l mine,
          above-count x w n t (opener x w n t bounded published told other),
          no-more x.entries x.local x.memory x.memory w n l (helping l t None) (Help (InstallTag i)) (Learn 0) fewer,
        ))
    by_through true told =
        meet-sum x w n i t l None inside
        (omega (
          arith,
          walk-through (scene_of x) u above (helping l t None) other told,
          straight,
          walk-own (scene_of x) u above l mine,
          tag-pays x w n t a j v q l (helping l t None) (Help (InstallTag i)) (Learn 0) bounded (tagged told) at (λ k. k) fewer (kept-in x l i unfinished t j) (swept-first _ t j (over-true (is_own l.operation t) (is_through (scene_of x) t) other told)),
        ))

-- from another's
meet-other : (x : State) (w n i t : ℕ) → IsBounded x n → (x.local w).place ≡ Help (InstallTag i) → i < 4 → is_decided (x.memory.status (x.local w).current) ≡ false → is_own (x.local w).operation (x.local w).current ≡ false
    → nat_lt (top (scene_of x) (x.local w).current) (top (scene_of x) t) ≡ true → x.memory.published t ≡ true → (a j v q : ℕ) → (is_through (scene_of x) t ≡ true → x.memory.cached a ≡ Tag t j v q)
    → fresh_budget (scene_of x) w n (helping (x.local w) t (Some (x.local w).current)) (Learn 0) + 1 ≤ fresh_budget (scene_of x) w n (x.local w) (Help (InstallTag i))
meet-other x w n i t bounded at inside undecided own higher published a j v q tagged = by_mine (is_own (x.local w).operation t) refl (is_through (scene_of x) t) refl
  where
    l : Local
    l = x.local w

    k : Local
    k = helping (x.local w) t (Some (x.local w).current)

    u : ℕ
    u = open_count (scene_of x) w n

    above : ℕ → ℕ
    above = open_above (scene_of x) w n

    unfinished : is_through (scene_of x) l.current ≡ false
    unfinished = undecided-through x.entries x.local x.memory l.current undecided

    fewer : NoMore x.entries x.local x.memory x.memory w l k (Help (InstallTag i)) (Learn 0)
    fewer = begun-less x w l k (Help (InstallTag i)) (kept-in x l i unfinished) (λ b s. refl)

    less : left_by_others (scene_of x) w n k (Learn 0) ≤ left_by_others (scene_of x) w n l (Help (InstallTag i))
    less = no-more x.entries x.local x.memory x.memory w n l k (Help (InstallTag i)) (Learn 0) fewer

    here : walk_on (scene_of x) u above l ≡ level * above l.current
    here = walk-undecided x.entries x.local x.memory u above l own undecided

    around : detour_on (scene_of x) u k ≤ detour_on (scene_of x) u l
    around =
        detour-two (is_own l.operation t) (is_own l.operation l.current) (lags (scene_of x) l.operation t) (lags (scene_of x) l.operation l.current) (lags (scene_of x) l.operation l.current) (lags_back (scene_of x) l.operation l.back) (level * u + for_detour) own
        (lags-lower x l.operation l.current t own undecided higher) (λ is. is)

    by_mine : (b : Bool) → is_own l.operation t ≡ b → (c : Bool) → is_through (scene_of x) t ≡ c → fresh_budget (scene_of x) w n k (Learn 0) + 1 ≤ fresh_budget (scene_of x) w n l (Help (InstallTag i))
    by_mine true mine c told =
        let lagged : lags (scene_of x) l.operation l.current ≡ true = lags-own x l.operation l.current t mine own undecided higher in
        let around' : detour_on (scene_of x) u l ≡ level * u + for_detour = rw (own, lagged) refl in
        let straight : detour_on (scene_of x) u k ≡ 0 = rw mine refl in
        meet-sum x w n i t l (Some l.current) inside (omega (arith, walk-own (scene_of x) u above k mine, straight, around', less))
    by_mine false mine false told =
        meet-sum x w n i t l (Some l.current) inside
        (omega (arith, walk-under x u above k mine told, here, around, less, above-above x w n l.current t (opener x w n t bounded published told mine) higher))
    by_mine false mine true told =
        meet-sum x w n i t l (Some l.current) inside
        (omega (
          arith,
          walk-through (scene_of x) u above k mine told,
          walk-back-open x u above k l.current own unfinished undecided,
          here,
          around,
          tag-pays x w n t a j v q l k (Help (InstallTag i)) (Learn 0) bounded (tagged told) at (λ h. h) fewer (kept-in x l i unfinished t j) (swept-first _ t j (over-true (is_own l.operation t) (is_through (scene_of x) t) mine told)),
        ))

-- the swap that stands in the way
pub meet-falls : (x : State) (w n i t : ℕ) → IsBounded x n → (x.local w).place ≡ Help (InstallTag i) → i < 4 → is_decided (x.memory.status (x.local w).current) ≡ false
    → (t == (x.local w).current) ≡ false → nat_lt (top (scene_of x) (x.local w).current) (top (scene_of x) t) ≡ true → x.memory.published t ≡ true → (a j v q : ℕ) → (is_through (scene_of x) t ≡ true → x.memory.cached a ≡ Tag t j v q)
    → fresh_budget (scene_of x) w n (meeting (x.local w) t) (Learn 0) + 1 ≤ fresh_budget (scene_of x) w n (x.local w) (Help (InstallTag i))
meet-falls x w n i t bounded at inside undecided apart higher published a j v q tagged = by_own (is_own (x.local w).operation (x.local w).current) refl
  where
    by_own : (b : Bool) → is_own (x.local w).operation (x.local w).current ≡ b
        → fresh_budget (scene_of x) w n (helping (x.local w) t (if b then None else Some (x.local w).current)) (Learn 0) + 1 ≤ fresh_budget (scene_of x) w n (x.local w) (Help (InstallTag i))
    by_own true own = meet-own x w n i t bounded at inside undecided own apart higher published a j v q tagged
    by_own false own = meet-other x w n i t bounded at inside undecided own higher published a j v q tagged

if-some : (u : ℕ) → 1 ≤ u → ◌≡◌ {A = ℕ} (if_any u) for_first
if-some u some = by_test (u == 0) refl
  where
    by_test : (b : Bool) → (u == 0) ≡ b → ◌≡◌ {A = ℕ} (if b then 0 else for_first) for_first
    by_test false told = refl
    by_test true told = let none : u ≡ 0 = grind (arith, common_steps, told) in absurd (omega (arith, some, none))

reading-own : (o : Operation) (a t : ℕ) → o ≡ Reading a → is_own o t ≡ false
reading-own o a t is = rw is refl

reading-lags : (x : State) (o : Operation) (a t : ℕ) → o ≡ Reading a → lags (scene_of x) o t ≡ true → ⊥
reading-lags x o a t is = rw is (λ h. absurd cc)

-- the swap that stands at the address that is read
pub read-falls : (x : State) (w n b t : ℕ) → IsBounded x n → (x.local w).place ≡ ReadWord b → (x.local w).operation ≡ Reading b → x.memory.published t ≡ true → (a j v q : ℕ) → (is_through (scene_of x) t ≡ true → x.memory.cached a ≡ Tag t j v q)
    → fresh_budget (scene_of x) w n (helping (x.local w) t None) (Learn 0) + 1 ≤ fresh_budget (scene_of x) w n (x.local w) (ReadWord b)
read-falls x w n b t bounded at reads published a j v q tagged = by_through (is_through (scene_of x) t) refl
  where
    l : Local
    l = x.local w

    u : ℕ
    u = open_count (scene_of x) w n

    above : ℕ → ℕ
    above = open_above (scene_of x) w n

    other : is_own l.operation t ≡ false
    other = reading-own l.operation b t reads

    straight : detour_on (scene_of x) u (helping l t None) ≡ 0
    straight = detour-none (is_own l.operation t) (lags (scene_of x) l.operation t) false (level * u + for_detour) (reading-lags x l.operation b t reads) (λ is. absurd cc)

    fewer : NoMore x.entries x.local x.memory x.memory w l (helping l t None) (ReadWord b) (Learn 0)
    fewer = begun-less x w l (helping l t None) (ReadWord b) (λ s i. refl) (λ c s. refl)

    sum : walk_on (scene_of x) u above (helping l t None) + left_by_others (scene_of x) w n (helping l t None) (Learn 0) + left_at (Learn 0) ≤ level * u + if_any u + left_by_others (scene_of x) w n l (ReadWord b)
        → fresh_budget (scene_of x) w n (helping l t None) (Learn 0) + 1 ≤ fresh_budget (scene_of x) w n l (ReadWord b)
    sum le =
        sums (for_walks u) _ _ _ _ _ _ _ _ _ (ap (λ o. reserve_by o 0) reads) (ap (λ o. reserve_by o (if_any u)) reads) straight le
      where
        sums : (z a g c d r a' b' r' g' : ℕ) → b' ≡ 0 → g ≡ g' → c ≡ 0 → a' + r' + left_at (Learn 0) ≤ a + g' + r → z + a' + b' + c + d + left_at (Learn 0) + r' + 1 ≤ z + a + g + 0 + d + 1 + r
        sums z a g c d r a' b' r' g' f1 f2 f3 f4 = omega (arith, f1, f2, f3, f4)

    by_through : (c : Bool) → is_through (scene_of x) t ≡ c → fresh_budget (scene_of x) w n (helping l t None) (Learn 0) + 1 ≤ fresh_budget (scene_of x) w n l (ReadWord b)
    by_through false told =
        let o : Opener x w n t = opener x w n t bounded published told other in
        let count : above t + 1 ≤ u = above-count x w n t o in
        sum (omega (arith, walk-under x u above (helping l t None) other told, count, if-some u (omega (arith, count)), no-more x.entries x.local x.memory x.memory w n l (helping l t None) (ReadWord b) (Learn 0) fewer))
    by_through true told =
        sum
        (omega (
          arith,
          walk-through (scene_of x) u above (helping l t None) other told,
          tag-pays x w n t a j v q l (helping l t None) (ReadWord b) (Learn 0) bounded (tagged told) at (λ h. h) fewer refl (swept-first _ t j (over-true (is_own l.operation t) (is_through (scene_of x) t) other told)),
        ))
