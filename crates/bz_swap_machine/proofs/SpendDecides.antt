-- The decision of a swap spends one: nothing more stands in the way when a swap is decided.
use Rattle.std.proofs.Common.{◌≡◌, ◌==◌, ◌&&◌, ◌||◌, not, nat_lt, if◌then◌else◌, ℕ, ◌+◌, ◌*◌, ◌≤◌, Bool, true, false, arith, refl, ap, sym, subst, ◌∙◌, Some, None}
use Rattle.std.proofs.lemmas.Grind.{common_steps}
use Rattle.std.specs.declared.option.Option.{Option}
use Rattle.bz_swap_machine.specs.declared.place.HelpStep.TheVariants.{Decide, AskStatus, PutFinal}
use Rattle.bz_swap_machine.specs.declared.place.Place.{Place}
use Rattle.bz_swap_machine.specs.declared.place.Place.TheVariants.{Idle, Learn, Help}
use Rattle.bz_swap_machine.specs.declared.status.SwapStatus.{SwapStatus}
use Rattle.bz_swap_machine.specs.declared.status.SwapStatus.TheVariants.{Free, Undecided, Deciding, Decided}
use Rattle.bz_swap_machine.specs.declared.status.Verdict.{Verdict}
use Rattle.bz_swap_machine.specs.declared.worker.Operation.{Operation}
use Rattle.bz_swap_machine.specs.declared.worker.Operation.TheVariants.{Nothing, Reading, Swapping}
use Rattle.bz_swap_machine.specs.Allowed.{sum_below, counted, is_busy}
use Rattle.bz_swap_machine.specs.Budget.{level, for_sweep, for_return, for_detour, for_stale, open_count, open_above, walk_home, walk_from, walk_back, walk_on, walk_at, reserve, lags, lags_back, detour_on, detour, own_missing_by, own_missing, left_at, is_over_at, left_by, for_walks, left_by_others, fresh_budget, is_fresh_at, stale_at, allowed_by_others, budget_at}
use Rattle.bz_swap_machine.specs.Sound.{AreShort}
use Rattle.bz_swap_machine.specs.Changes.{put, with_status}
use Rattle.bz_swap_machine.specs.HelpActs.{after_decide}
use Rattle.bz_swap_machine.specs.Machine.{Entries, Memory}
use Rattle.bz_swap_machine.specs.Standing.{Scene, is_decided, is_clean, is_through, missing, top, swap_of, is_open_at, target_at}
use Rattle.bz_swap_machine.specs.Steps.{Local, is_own, after_help}
use Rattle.bz_swap_machine.proofs.BudgetBounds.{own_most, fresh-le}
use Rattle.bz_swap_machine.proofs.Spends.{meets, Spends, here-falls}
use Rattle.bz_swap_machine.proofs.Sums.{others-le}

-- more swaps are decided
abbrev More : (ℕ → Bool) → (ℕ → Bool) → Type 0
More d c = (s : ℕ) → c s ≡ true → d s ≡ true

abbrev with_decided : Scene → (ℕ → Bool) → Scene
with_decided x d = record x { decided = d }

if-less : (d c : Bool) (k : ℕ) → (c ≡ true → d ≡ true) → (if d then 0 else k) ≤ (if c then 0 else k)
if-less true c k f = omega arith
if-less false true k f = absurd (bad (f refl))
  where
    bad : false ≡ true → ⊥
    bad is = absurd cc
if-less false false k f = omega arith

missing-less : (x : Scene) (d : ℕ → Bool) (s : ℕ) → More d x.decided → missing (with_decided x d) s ≤ missing x s
missing-less x d s more = if-less (d s) (x.decided s) (sum_below (λ i. counted (not (x.pointer (target_at x s i) s)) 1) (x.entries s).count) (more s)

from-less : (x : Scene) (d : ℕ → Bool) (above : ℕ → ℕ) (s : ℕ) → More d x.decided → walk_from (with_decided x d) above s ≤ walk_from x above s
from-less x d above s more = if-less (d s) (x.decided s) (level * above s) (more s)

either-less : (b : Bool) (h j k : ℕ) → j ≤ k → (if b then h else j) ≤ (if b then h else k)
either-less true h j k le = omega arith
either-less false h j k le = le

back-less : (x : Scene) (d : ℕ → Bool) (u : ℕ) (above : ℕ → ℕ) (l : Local) (back : Option ℕ) → More d x.decided → walk_back (with_decided x d) u above l back ≤ walk_back x u above l back
back-less x d u above l None more = omega arith
back-less x d u above l (Some b) more = either-less (is_own l.operation b || is_through x b) (walk_home u + for_return) (walk_from (with_decided x d) above b) (walk_from x above b) (from-less x d above b more)

under-if : (a b : Bool) (h j j' k k' : ℕ) → j ≤ j' → k ≤ k' → (if a then h else if b then j + for_sweep else k) ≤ (if a then h else if b then j' + for_sweep else k')
under-if true b h j j' k k' f g = omega arith
under-if false true h j j' k k' f g = omega (arith, f)
under-if false false h j j' k k' f g = g

on-less : (x : Scene) (d : ℕ → Bool) (u : ℕ) (above : ℕ → ℕ) (l : Local) → More d x.decided → walk_on (with_decided x d) u above l ≤ walk_on x u above l
on-less x d u above l more =
    under-if (is_own l.operation l.current) (is_through x l.current) (walk_home u) (walk_back (with_decided x d) u above l l.back) (walk_back x u above l l.back) (walk_from (with_decided x d) above l.current) (walk_from x above l.current)
    (back-less x d u above l l.back more) (from-less x d above l.current more)

lags-if : (a d c b : Bool) → (c ≡ true → d ≡ true) → (a && (not d && b)) ≡ true → (a && (not c && b)) ≡ true
lags-if true false true b f is = absurd (bad (f refl))
  where
    bad : false ≡ true → ⊥
    bad k = absurd cc
lags-if true false false b f is = is
lags-if true true c b f is = absurd cc
lags-if false d c b f is = absurd cc

lags-less : (x : Scene) (d : ℕ → Bool) (o : Operation) (s : ℕ) → More d x.decided → lags (with_decided x d) o s ≡ true → lags x o s ≡ true
lags-less x d Nothing s more is = is
lags-less x d (Reading a) s more is = is
lags-less x d (Swapping o) s more is = lags-if (not (o == s)) (d s) (x.decided s) (nat_lt (top x s) (top x o)) (more s) is

lags_back-less : (x : Scene) (d : ℕ → Bool) (o : Operation) (back : Option ℕ) → More d x.decided → lags_back (with_decided x d) o back ≡ true → lags_back x o back ≡ true
lags_back-less x d o None more is = is
lags_back-less x d o (Some b) more is = lags-less x d o b more is

detour-if : (a b c b' c' : Bool) (k : ℕ) → (b ≡ true → b' ≡ true) → (c ≡ true → c' ≡ true) → (if a && (b || c) then k else 0) ≤ (if a && (b' || c') then k else 0)
detour-if false b c b' c' k f g = omega arith
detour-if true true c true c' k f g = omega arith
detour-if true true c false c' k f g = absurd (bad (f refl))
  where
    bad : false ≡ true → ⊥
    bad is = absurd cc
detour-if true false true true c' k f g = omega arith
detour-if true false true false true k f g = omega arith
detour-if true false true false false k f g = absurd (bad (g refl))
  where
    bad : false ≡ true → ⊥
    bad is = absurd cc
detour-if true false false b' c' k f g = omega arith

detour_on-less : (x : Scene) (d : ℕ → Bool) (u : ℕ) (l : Local) → More d x.decided → detour_on (with_decided x d) u l ≤ detour_on x u l
detour_on-less x d u l more =
    detour-if (not (is_own l.operation l.current)) (lags (with_decided x d) l.operation l.current) (lags_back (with_decided x d) l.operation l.back) (lags x l.operation l.current) (lags_back x l.operation l.back) (level * u + for_detour)
    (lags-less x d l.operation l.current more) (lags_back-less x d l.operation l.back more)

missing_by-less : (x : Scene) (d : ℕ → Bool) (o : Operation) → More d x.decided → own_missing_by (with_decided x d) o ≤ own_missing_by x o
missing_by-less x d Nothing more = omega arith
missing_by-less x d (Reading a) more = omega arith
missing_by-less x d (Swapping s) more = omega (arith, missing-less x d s more)

open-less : (b : Bool) (a j k : ℕ) → j ≤ k → a + counted b (2 * j) ≤ a + counted b (2 * k)
open-less true a j k le = omega (arith, le)
open-less false a j k le = omega arith

at-less : (x : Scene) (d : ℕ → Bool) (u : ℕ) (above : ℕ → ℕ) (l : Local) (place : Place) → More d x.decided → walk_at (with_decided x d) u above l place ≤ walk_at x u above l place
at-less x d u above l (Learn k) more = on-less x d u above l more
at-less x d u above l (Help step) more = on-less x d u above l more
at-less x d u above l place more = omega arith

detour-less : (x : Scene) (d : ℕ → Bool) (u : ℕ) (l : Local) (place : Place) → More d x.decided → detour (with_decided x d) u l place ≤ detour x u l place
detour-less x d u l (Learn k) more = detour_on-less x d u l more
detour-less x d u l (Help step) more = detour_on-less x d u l more
detour-less x d u l place more = omega arith

own-less : (x : Scene) (d : ℕ → Bool) (place : Place) (o : Operation) → More d x.decided → own_missing (with_decided x d) place o ≤ own_missing x place o
own-less x d Idle o more = omega arith
own-less x d place o more = missing_by-less x d o more

left-less : (x : Scene) (d : ℕ → Bool) (w n : ℕ) (l : Local) (place : Place) → More d x.decided → left_by_others (with_decided x d) w n l place ≤ left_by_others x w n l place
left-less x d w n l place more =
    others-le w (λ v. left_by (with_decided x d) (is_over_at x l place) l place v (x.local v)) (λ v. left_by x (is_over_at x l place) l place v (x.local v)) n
    (λ v. open-less (is_open_at x (x.local v).place (x.local v).operation) _ (missing (with_decided x d) (swap_of (x.local v).operation)) (missing x (swap_of (x.local v).operation)) (missing-less x d (swap_of (x.local v).operation) more))

-- where more swaps are decided, no more stands in the way
decided-less : (x : Scene) (d : ℕ → Bool) (w n : ℕ) (l : Local) (place : Place) → More d x.decided → fresh_budget (with_decided x d) w n l place ≤ fresh_budget x w n l place
decided-less x d w n l place more =
    sums (for_walks (open_count x w n)) (walk_at x (open_count x w n) (open_above x w n) l place) (reserve place l.operation (open_count x w n)) (detour x (open_count x w n) l place) (own_missing x place l.operation) (left_at place) (left_by_others x w n l place)
    _ _ _ _ (at-less x d (open_count x w n) (open_above x w n) l place more) (detour-less x d (open_count x w n) l place more) (own-less x d place l.operation more) (left-less x d w n l place more)
  where
    sums : (q a b c e f r a' c' e' r' : ℕ) → a' ≤ a → c' ≤ c → e' ≤ e → r' ≤ r → q + a' + b + c' + e' + f + r' ≤ q + a + b + c + e + f + r
    sums q a b c e f r a' c' e' r' h1 h2 h3 h4 = omega (arith, h1, h2, h3, h4)

clean-put : (status : ℕ → SwapStatus) (c s : ℕ) (d : Verdict) → status c ≡ Undecided → is_clean (put status c (Deciding d) s) ≡ is_clean (status s)
clean-put status c s d is = by_test (s == c) refl
  where
    by_test : (b : Bool) → (s == c) ≡ b → is_clean (if b then Deciding d else status s) ≡ is_clean (status s)
    by_test false told = refl
    by_test true told = let same : s ≡ c = grind (arith, common_steps, told) in sym (ap (λ k. is_clean (status k)) same ∙ ap is_clean is)

more-put : (status : ℕ → SwapStatus) (c : ℕ) (d : Verdict) → More (λ s. is_decided (put status c (Deciding d) s)) (λ s. is_decided (status s))
more-put status c d s is = by_test (s == c)
  where
    by_test : (b : Bool) → is_decided (if b then Deciding d else status s) ≡ true
    by_test false = is
    by_test true = refl

counted-most : (b : Bool) → counted b own_most ≤ own_most
counted-most true = omega arith
counted-most false = omega arith

-- the budget of a worker that goes by what holds is far below that of one that does not
pub fresh-again : (x : Scene) (w n : ℕ) (l : Local) (place : Place) → n ≤ 65 → AreShort x.entries → fresh_budget x w n l place + 1 ≤ allowed_by_others x w n + for_stale
fresh-again x w n l place few short = omega (arith, fresh-le x w n l place few short, counted-most (is_busy place))

again : (f a k : ℕ) → f + 1 ≤ a + for_stale → f + 1 ≤ a + for_stale + k
again f a k h = omega (arith, h)

-- from a place where what w goes by holds to another one, in another scene
pub falls-to : (x y : Scene) (w n : ℕ) (l k : Local) (p q : Place) → is_fresh_at x l.current p ≡ true → is_fresh_at y k.current q ≡ true → fresh_budget y w n k q + 1 ≤ fresh_budget x w n l p → budget_at y w n k q + 1 ≤ budget_at x w n l p
falls-to x y w n l k p q before after falls = rw (before, after) falls

-- w goes by what holds again
pub falls-again : (x : Scene) (w n : ℕ) (l : Local) (p q : Place) → is_fresh_at x l.current p ≡ false → is_fresh_at x l.current q ≡ true → n ≤ 65 → AreShort x.entries → budget_at x w n l q + 1 ≤ budget_at x w n l p
falls-again x w n l p q before after few short = rw (before, after) (again (fresh_budget x w n l q) (allowed_by_others x w n) (stale_at x l.current p) (fresh-again x w n l q few short))

both : (a b c : ℕ) → a + 1 ≤ b → b ≤ c → a + 1 ≤ c
both a b c f g = omega (arith, f, g)

pub spends-decide : (e : ℕ → Entries) (local : ℕ → Local) (m : Memory) (w n : ℕ) (l : Local) (d : Verdict) → n ≤ 65 → AreShort e → (m.status l.current ≡ Free → ⊥) → Spends e local m w n l (Help (Decide d))
spends-decide e local m w n l d few short set = by_found (m.status l.current) refl
  where
    by_found : (found : SwapStatus) → m.status l.current ≡ found
        → budget_at (meets e local (after_help l (after_decide m l.current d found).memory (after_decide m l.current d found).next).memory) w n
        (after_help l (after_decide m l.current d found).memory (after_decide m l.current d found).next).local
        (after_help l (after_decide m l.current d found).memory (after_decide m l.current d found).next).local.place + 1
        ≤ budget_at (meets e local m) w n l (Help (Decide d))
    by_found Free is = absurd (set is)
    by_found Undecided is =
        let decided : ℕ → Bool = λ s. is_decided (put m.status l.current (Deciding d) s) in
        let same : meets e local (with_status m l.current (Deciding d)) ≡ with_decided (meets e local m) decided = λ j. record (meets e local (with_status m l.current (Deciding d))) { clean = λ s. clean-put m.status l.current s d is j } in
        subst (λ y. budget_at y w n (record l { place = Help (AskStatus d) }) (Help (AskStatus d)) + 1 ≤ budget_at (meets e local m) w n l (Help (Decide d))) (sym same)
        (falls-to (meets e local m) (with_decided (meets e local m) decided) w n l (record l { place = Help (AskStatus d) }) (Help (Decide d)) (Help (AskStatus d)) (ap (λ k. not (is_decided k)) is) refl
        (both (fresh_budget (with_decided (meets e local m) decided) w n l (Help (AskStatus d))) (fresh_budget (with_decided (meets e local m) decided) w n l (Help (Decide d))) (fresh_budget (meets e local m) w n l (Help (Decide d))) (here-falls (with_decided (meets e local m) decided) w n l l (Help (Decide d)) (Help (AskStatus d)) refl refl refl refl refl (omega arith))
        (decided-less (meets e local m) decided w n l (Help (Decide d)) (more-put m.status l.current d))))
    by_found (Deciding c) is = falls-again (meets e local m) w n l (Help (Decide d)) (Help (AskStatus c)) (ap (λ k. not (is_decided k)) is) refl few short
    by_found (Decided c) is = falls-again (meets e local m) w n l (Help (Decide d)) (Help (PutFinal 0 c)) (ap (λ k. not (is_decided k)) is) refl few short
