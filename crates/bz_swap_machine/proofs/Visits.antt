-- What a visit costs in two memories, compared: the walk that is still to come, the detour, and all together.
use Rattle.std.proofs.Common.{◌≡◌, ◌==◌, ◌&&◌, ◌||◌, not, nat_lt, if◌then◌else◌, ℕ, ◌+◌, ◌*◌, ◌<◌, ◌≤◌, Bool, true, false, arith, refl, sym, subst, ◌∙◌, Some, None}
use Rattle.std.proofs.lemmas.Bool.{lt-ltb, ltb-true}
use Rattle.std.proofs.lemmas.Grind.{common_steps}
use Rattle.std.specs.declared.option.Option.{Option}
use Rattle.bz_word.specs.declared.kind.WordKind.{WordKind}
use Rattle.bz_swap_machine.specs.declared.place.Place.{Place}
use Rattle.bz_swap_machine.specs.declared.status.SwapStatus.{SwapStatus}
use Rattle.bz_swap_machine.specs.declared.status.SwapStatus.TheVariants.{Free, Undecided, Deciding, Decided}
use Rattle.bz_swap_machine.specs.declared.worker.Operation.{Operation}
use Rattle.bz_swap_machine.specs.declared.worker.Operation.TheVariants.{Nothing, Reading, Swapping}
use Rattle.bz_swap_machine.specs.Allowed.{sum_below, counted}
use Rattle.bz_swap_machine.specs.Budget.{level, for_sweep, for_detour, open_count, open_above, walk_back, is_over, walk_on, walk_at, reserve, lags, lags_back, detour_on, detour, own_missing_by, own_missing, left_at, for_walks, left_by_others, fresh_budget}
use Rattle.bz_swap_machine.specs.Changes.{put}
use Rattle.bz_swap_machine.specs.Machine.{Entries, Memory}
use Rattle.bz_swap_machine.specs.Standing.{Scene, is_pointer, is_decided, is_clean, is_through, missing, top, swap_of, is_open}
use Rattle.bz_swap_machine.specs.Steps.{Local, is_own}
use Rattle.bz_swap_machine.proofs.Compared.{open-implied, open-less, walks-less}
use Rattle.bz_swap_machine.proofs.Spends.{meets}
use Rattle.bz_swap_machine.proofs.Sums.{others-le, counted-implied, sum-less}

-- a test of words that tells of the new word nothing that was not told of the old one
pub put-implied : (test : WordKind → Bool) (cached : ℕ → WordKind) (a : ℕ) (new : WordKind) (b : ℕ) → (test new ≡ true → test (cached a) ≡ true) → test (put cached a new b) ≡ true → test (cached b) ≡ true
put-implied test cached a new b implied = by_test (b == a) refl
  where
    by_test : (t : Bool) → (b == a) ≡ t → test (if t then new else cached b) ≡ true → test (cached b) ≡ true
    by_test false told is = is
    by_test true told is = let here : a ≡ b = grind (arith, common_steps, told) in subst (λ c. test (cached c) ≡ true) here (implied is)

-- nor less of the new word than of the old one
pub put-told : (test : WordKind → Bool) (cached : ℕ → WordKind) (a : ℕ) (new : WordKind) (b : ℕ) → (test (cached a) ≡ true → test new ≡ true) → test (cached b) ≡ true → test (put cached a new b) ≡ true
put-told test cached a new b implied is = by_test (b == a) refl
  where
    by_test : (t : Bool) → (b == a) ≡ t → test (if t then new else cached b) ≡ true
    by_test false told = is
    by_test true told = let here : b ≡ a = grind (arith, common_steps, told) in implied (subst (λ c. test (cached c) ≡ true) here is)

pub put-at : (cached : ℕ → WordKind) (a : ℕ) (new : WordKind) (b : ℕ) → b ≡ a → put cached a new b ≡ new
put-at cached a new b here = by_test (b == a) refl
  where
    by_test : (t : Bool) → (b == a) ≡ t → (if t then new else cached b) ≡ new
    by_test true told = refl
    by_test false told = absurd (grind (arith, common_steps, told, here))

pub undecided-clean : (k : SwapStatus) → is_decided k ≡ false → is_clean k ≡ false
undecided-clean Free is = refl
undecided-clean Undecided is = refl
undecided-clean (Deciding d) is = refl
undecided-clean (Decided d) is = absurd cc

pub clean-decided : (k : SwapStatus) → is_clean k ≡ true → is_decided k ≡ true
clean-decided Free is = absurd cc
clean-decided Undecided is = absurd cc
clean-decided (Deciding d) is = absurd cc
clean-decided (Decided d) is = refl

-- a swap whose status is not clean is not through
pub unclean-through : (e : ℕ → Entries) (local : ℕ → Local) (m : Memory) (s : ℕ) → is_clean (m.status s) ≡ false → is_through (meets e local m) s ≡ false
unclean-through e local m s is = rw is refl

pub undecided-through : (e : ℕ → Entries) (local : ℕ → Local) (m : Memory) (s : ℕ) → is_decided (m.status s) ≡ false → is_through (meets e local m) s ≡ false
undecided-through e local m s is = unclean-through e local m s (undecided-clean (m.status s) is)

-- a visit to a swap that is not through is not to one that is over
pub not-over : (e : ℕ → Entries) (local : ℕ → Local) (m : Memory) (l : Local) → is_through (meets e local m) l.current ≡ false → is_over (meets e local m) l ≡ false
not-over e local m l is = by_own (is_own l.operation l.current)
  where
    by_own : (b : Bool) → (not b && is_through (meets e local m) l.current) ≡ false
    by_own true = refl
    by_own false = is

pub lt-between : (a a' b b' : ℕ) → a ≤ a' → b' ≤ b → nat_lt a' b' ≡ true → nat_lt a b ≡ true
lt-between a a' b b' f g is = lt-ltb a b (omega (arith, f, g, ltb-true a' b' is))

pub lt-self : (a : ℕ) → nat_lt a a ≡ true → ⊥
lt-self a is = absurd (omega (arith, ltb-true a a is))

and-implied : (a b a' b' : Bool) → (a ≡ true → a' ≡ true) → (b ≡ true → b' ≡ true) → (a && b) ≡ true → (a' && b') ≡ true
and-implied true true a' b' f g is = let h : a' ≡ true = f refl in rw h (g refl)
and-implied true false a' b' f g is = absurd cc
and-implied false b a' b' f g is = absurd cc

-- no more open swaps reach higher than a swap
pub above-less : (e : ℕ → Entries) (local : ℕ → Local) (m r : Memory) (w n s : ℕ) → ((t : ℕ) → is_through (meets e local m) t ≡ true → is_through (meets e local r) t ≡ true)
    → ((t : ℕ) → nat_lt (top (meets e local r) s) (top (meets e local r) t) ≡ true → nat_lt (top (meets e local m) s) (top (meets e local m) t) ≡ true) → open_above (meets e local r) w n s ≤ open_above (meets e local m) w n s
above-less e local m r w n s through higher =
    others-le w (λ v. counted (is_open (meets e local r) v && nat_lt (top (meets e local r) s) (top (meets e local r) (swap_of (local v).operation))) 1)
    (λ v. counted (is_open (meets e local m) v && nat_lt (top (meets e local m) s) (top (meets e local m) (swap_of (local v).operation))) 1) n
    (λ v. counted-implied _ _ 1 1 (and-implied _ _ _ _ (open-implied e local m r (local v).place (local v).operation through) (higher (swap_of (local v).operation))) (omega arith))

not-implied : (a b : Bool) → (a ≡ true → b ≡ true) → not b ≡ true → not a ≡ true
not-implied false b f is = refl
not-implied true true f is = is
not-implied true false f is = f refl

not-first : (a b : Bool) → (a ≡ true → b ≡ true) → b ≡ false → a ≡ false
not-first false b f g = refl
not-first true b f g = sym (f refl) ∙ g

-- the own swap reaches higher in one only where it does in the other
pub lags-implied : (e : ℕ → Entries) (local : ℕ → Local) (m r : Memory) (o : Operation) (s : ℕ) → (is_decided (m.status s) ≡ true → is_decided (r.status s) ≡ true)
    → ((t : ℕ) → o ≡ Swapping t → is_decided (r.status s) ≡ false → nat_lt (top (meets e local r) s) (top (meets e local r) t) ≡ true → nat_lt (top (meets e local m) s) (top (meets e local m) t) ≡ true) → lags (meets e local r) o s ≡ true → lags (meets e local m) o s ≡ true
lags-implied e local m r Nothing s decided higher is = is
lags-implied e local m r (Reading a) s decided higher is = is
lags-implied e local m r (Swapping t) s decided higher is = by_same (t == s) refl is
  where
    by_same : (b : Bool) → (t == s) ≡ b → (not b && (not (is_decided (r.status s)) && nat_lt (top (meets e local r) s) (top (meets e local r) t))) ≡ true → (not b && (not (is_decided (m.status s)) && nat_lt (top (meets e local m) s) (top (meets e local m) t))) ≡ true
    by_same true told h = h
    by_same false told h = by_decided (is_decided (r.status s)) refl h
      where
        by_decided : (b : Bool) → is_decided (r.status s) ≡ b → (not b && nat_lt (top (meets e local r) s) (top (meets e local r) t)) ≡ true → (not (is_decided (m.status s)) && nat_lt (top (meets e local m) s) (top (meets e local m) t)) ≡ true
        by_decided true settled j = absurd cc
        by_decided false settled j = let before : is_decided (m.status s) ≡ false = not-first (is_decided (m.status s)) (is_decided (r.status s)) decided settled in rw before (higher t refl settled j)

pub detour-if : (a b c b' c' : Bool) (k j : ℕ) → (a ≡ false → b ≡ true → (b' || c') ≡ true) → (a ≡ false → c ≡ true → (b' || c') ≡ true) → k ≤ j → (if not a && (b || c) then k else 0) ≤ (if not a && (b' || c') then j else 0)
detour-if true b c b' c' k j f g le = omega arith
detour-if false true c b' c' k j f g le = let h : (b' || c') ≡ true = f refl refl in rw h le
detour-if false false true b' c' k j f g le = let h : (b' || c') ≡ true = g refl refl in rw h le
detour-if false false false b' c' k j f g le = omega arith

pub or-first : (a b : Bool) → a ≡ true → (a || b) ≡ true
or-first a b is = rw is refl

pub or-second : (a b : Bool) → b ≡ true → (a || b) ≡ true
or-second true b is = refl
or-second false b is = is

-- no detour comes
pub detour-less : (e : ℕ → Entries) (local : ℕ → Local) (m r : Memory) (u' u : ℕ) (l : Local) → u' ≤ u
    → (is_own l.operation l.current ≡ false → lags (meets e local r) l.operation l.current ≡ true → lags (meets e local m) l.operation l.current ≡ true)
    → (is_own l.operation l.current ≡ false → lags_back (meets e local r) l.operation l.back ≡ true → lags_back (meets e local m) l.operation l.back ≡ true) → detour_on (meets e local r) u' l ≤ detour_on (meets e local m) u l
detour-less e local m r u' u l le here there =
    detour-if (is_own l.operation l.current) _ _ (lags (meets e local m) l.operation l.current) (lags_back (meets e local m) l.operation l.back) (level * u' + for_detour) (level * u + for_detour) (λ own is. or-first _ _ (here own is)) (λ own is. or-second _ _ (there own is))
    (omega (arith, le))

-- no more pointers are missing
if-both : (c c' : Bool) (k k' : ℕ) → (c ≡ true → c' ≡ true) → k' ≤ k → (if c' then 0 else k') ≤ (if c then 0 else k)
if-both true true k k' f le = omega arith
if-both true false k k' f le = absurd (bad (f refl))
  where
    bad : false ≡ true → ⊥
    bad is = absurd cc
if-both false true k k' f le = omega arith
if-both false false k k' f le = le

pub missing-less : (e : ℕ → Entries) (local : ℕ → Local) (m r : Memory) (s : ℕ) → (is_decided (m.status s) ≡ true → is_decided (r.status s) ≡ true)
    → (is_decided (m.status s) ≡ false → (i : ℕ) → i < (e s).count → is_pointer (m.cached ((e s).target i)) s ≡ true → is_pointer (r.cached ((e s).target i)) s ≡ true) → missing (meets e local r) s ≤ missing (meets e local m) s
missing-less e local m r s decided more = by_decided (is_decided (m.status s)) refl
  where
    by_decided : (b : Bool) → is_decided (m.status s) ≡ b
        → (if is_decided (r.status s) then 0 else sum_below (λ i. counted (not (is_pointer (r.cached ((e s).target i)) s)) 1) (e s).count) ≤ (if b then 0 else sum_below (λ i. counted (not (is_pointer (m.cached ((e s).target i)) s)) 1) (e s).count)
    by_decided true told = let h : is_decided (r.status s) ≡ true = decided told in rw h (omega arith)
    by_decided false told =
        if-both false (is_decided (r.status s)) _ _ (λ is. absurd cc)
        (sum-less (λ i. counted (not (is_pointer (r.cached ((e s).target i)) s)) 1) (λ i. counted (not (is_pointer (m.cached ((e s).target i)) s)) 1) (e s).count (λ i below. counted-implied _ _ 1 1 (not-implied _ _ (more told i below)) (omega arith)))

pub own-less : (e : ℕ → Entries) (local : ℕ → Local) (m r : Memory) (o : Operation) → ((s : ℕ) → missing (meets e local r) s ≤ missing (meets e local m) s) → own_missing_by (meets e local r) o ≤ own_missing_by (meets e local m) o
own-less e local m r Nothing less = omega arith
own-less e local m r (Reading a) less = omega arith
own-less e local m r (Swapping s) less = omega (arith, less s)

-- a visit to an undecided swap, to one that is not through, and to one that is
pub walk-own : (x : Scene) (u : ℕ) (above : ℕ → ℕ) (l : Local) → is_own l.operation l.current ≡ true → walk_on x u above l ≡ level * u
walk-own x u above l own = rw own refl

pub walk-undecided : (e : ℕ → Entries) (local : ℕ → Local) (m : Memory) (u : ℕ) (above : ℕ → ℕ) (l : Local) → is_own l.operation l.current ≡ false → is_decided (m.status l.current) ≡ false → walk_on (meets e local m) u above l ≡ level * above l.current
walk-undecided e local m u above l own is =
    let clean : is_clean (m.status l.current) ≡ false = undecided-clean (m.status l.current) is in
    rw (own, clean, is) refl

pub walk-decided : (e : ℕ → Entries) (local : ℕ → Local) (m : Memory) (u : ℕ) (above : ℕ → ℕ) (l : Local) → is_own l.operation l.current ≡ false → is_through (meets e local m) l.current ≡ false → is_decided (m.status l.current) ≡ true
    → walk_on (meets e local m) u above l ≡ 0
walk-decided e local m u above l own through is =
    let chosen : (b : Bool) → b ≡ false → (j : ℕ) → (if b then j else (if is_decided (m.status l.current) then 0 else level * above l.current)) ≡ 0 = λ b no j. rw (no, is) refl in
    rw own (chosen (is_through (meets e local m) l.current) through _)

pub walk-through : (x : Scene) (u : ℕ) (above : ℕ → ℕ) (l : Local) → is_own l.operation l.current ≡ false → is_through x l.current ≡ true → walk_on x u above l ≡ walk_back x u above l l.back + for_sweep
walk-through x u above l own through =
    let chosen : (b : Bool) → b ≡ true → (j : ℕ) → (if b then walk_back x u above l l.back + for_sweep else j) ≡ walk_back x u above l l.back + for_sweep = λ b yes j. rw yes refl in
    rw own (chosen (is_through x l.current) through _)

-- the visited swap is undecided, in both memories, and no other comes to reach higher than it
pub record Quiet (e : ℕ → Entries) (local : ℕ → Local) (m r : Memory) (c : ℕ) : Type 0 where
  pub undecided : is_decided (m.status c) ≡ false
  pub still : is_decided (r.status c) ≡ false
  pub decided : (s : ℕ) → is_decided (m.status s) ≡ true → is_decided (r.status s) ≡ true
  pub through : (s : ℕ) → is_through (meets e local m) s ≡ true → is_through (meets e local r) s ≡ true
  pub above : (t : ℕ) → nat_lt (top (meets e local r) c) (top (meets e local r) t) ≡ true → nat_lt (top (meets e local m) c) (top (meets e local m) t) ≡ true
  pub others : (s t : ℕ) → (c == t) ≡ false → nat_lt (top (meets e local r) s) (top (meets e local r) t) ≡ true → nat_lt (top (meets e local m) s) (top (meets e local m) t) ≡ true

eighteen : {j k : ℕ} → j ≤ k → level * j ≤ level * k
eighteen le = omega (arith, le)

pub walk-quiet : (e : ℕ → Entries) (local : ℕ → Local) (m r : Memory) (w n : ℕ) (l : Local) → Quiet e local m r l.current
    → walk_on (meets e local r) (open_count (meets e local r) w n) (open_above (meets e local r) w n) l ≤ walk_on (meets e local m) (open_count (meets e local m) w n) (open_above (meets e local m) w n) l
walk-quiet e local m r w n l quiet = by_own (is_own l.operation l.current) refl
  where
    by_own : (b : Bool) → is_own l.operation l.current ≡ b
        → walk_on (meets e local r) (open_count (meets e local r) w n) (open_above (meets e local r) w n) l ≤ walk_on (meets e local m) (open_count (meets e local m) w n) (open_above (meets e local m) w n) l
    by_own true own =
        rw (walk-own (meets e local r) (open_count (meets e local r) w n) (open_above (meets e local r) w n) l own, walk-own (meets e local m) (open_count (meets e local m) w n) (open_above (meets e local m) w n) l own)
        (eighteen (open-less e local m r w n quiet.through))
    by_own false own =
        rw (walk-undecided e local r (open_count (meets e local r) w n) (open_above (meets e local r) w n) l own quiet.still, walk-undecided e local m (open_count (meets e local m) w n) (open_above (meets e local m) w n) l own quiet.undecided)
        (eighteen (above-less e local m r w n l.current quiet.through quiet.above))

own-apart : (o : Operation) (c t : ℕ) → is_own o c ≡ false → o ≡ Swapping t → (c == t) ≡ false
own-apart o c t own is =
    let h : (t == c) ≡ false = subst (λ k. is_own k c ≡ false) is own in
    grind (arith, common_steps, h)

back-quiet : (e : ℕ → Entries) (local : ℕ → Local) (m r : Memory) (c : ℕ) (o : Operation) (back : Option ℕ) → Quiet e local m r c → is_own o c ≡ false → lags_back (meets e local r) o back ≡ true → lags_back (meets e local m) o back ≡ true
back-quiet e local m r c o None quiet own is = is
back-quiet e local m r c o (Some b) quiet own is = lags-implied e local m r o b (quiet.decided b) (λ t at settled. quiet.others b t (own-apart o c t own at)) is

pub detour-quiet : (e : ℕ → Entries) (local : ℕ → Local) (m r : Memory) (w n : ℕ) (l : Local) → Quiet e local m r l.current → detour_on (meets e local r) (open_count (meets e local r) w n) l ≤ detour_on (meets e local m) (open_count (meets e local m) w n) l
detour-quiet e local m r w n l quiet =
    detour-less e local m r (open_count (meets e local r) w n) (open_count (meets e local m) w n) l (open-less e local m r w n quiet.through)
    (λ own. lags-implied e local m r l.operation l.current (quiet.decided l.current) (λ t at settled. quiet.above t))
    (λ own. back-quiet e local m r l.current l.operation l.back quiet own)

-- all together
pub all-fall : (x y : Scene) (w n : ℕ) (l k : Local) (p q : Place) → open_count y w n ≤ open_count x w n → walk_at y (open_count y w n) (open_above y w n) k q ≤ walk_at x (open_count x w n) (open_above x w n) l p
    → reserve q k.operation (open_count y w n) ≤ reserve p l.operation (open_count x w n) → detour y (open_count y w n) k q ≤ detour x (open_count x w n) l p
    → own_missing y q k.operation + left_at q + left_by_others y w n k q + 1 ≤ own_missing x p l.operation + left_at p + left_by_others x w n l p → fresh_budget y w n k q + 1 ≤ fresh_budget x w n l p
all-fall x y w n l k p q count walk kept off rest =
    sums (for_walks (open_count x w n)) _ _ _ _ _ _ (for_walks (open_count y w n)) _ _ _ _ _ _ (walks-less (open_count y w n) (open_count x w n) count) walk kept off rest
  where
    sums : (z a b c d f r z' a' b' c' d' f' r' : ℕ) → z' ≤ z → a' ≤ a → b' ≤ b → c' ≤ c → d' + f' + r' + 1 ≤ d + f + r → z' + a' + b' + c' + d' + f' + r' + 1 ≤ z + a + b + c + d + f + r
    sums z a b c d f r z' a' b' c' d' f' r' h1 h2 h3 h4 h5 = omega (arith, h1, h2, h3, h4, h5)
