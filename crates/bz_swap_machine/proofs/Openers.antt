-- A swap that is not through is unfinished by the worker that began it, and what stands of it can be met.
use Rattle.std.proofs.Common.{◌≡◌, ◌≢◌, ◌==◌, ◌&&◌, not, nat_lt, ℕ, ◌+◌, ◌<◌, ◌≤◌, Bool, true, false, arith, refl, ap, sym, subst, ◌∙◌, Some, None}
use Rattle.std.proofs.lemmas.Bool.{lt-ltb, ltb-true, ltb-false}
use Rattle.std.proofs.lemmas.Grind.{common_steps}
use Rattle.std.specs.declared.option.Option.{Option}
use Rattle.bz_word.specs.declared.kind.WordKind.{WordKind}
use Rattle.bz_word.specs.declared.kind.WordKind.TheVariants.{Value, Dirty, Swap, Tag}
use Rattle.bz_swap_machine.specs.declared.place.Place.{Place}
use Rattle.bz_swap_machine.specs.declared.place.Place.TheVariants.{Idle, Prepare}
use Rattle.bz_swap_machine.specs.declared.status.SwapStatus.{SwapStatus}
use Rattle.bz_swap_machine.specs.declared.status.SwapStatus.TheVariants.{Free, Undecided, Deciding, Decided}
use Rattle.bz_swap_machine.specs.declared.status.Verdict.{Verdict}
use Rattle.bz_swap_machine.specs.declared.worker.Operation.TheVariants.{Nothing, Swapping}
use Rattle.bz_swap_machine.specs.Allowed.{counted}
use Rattle.bz_swap_machine.specs.Budgets.{IsBounded}
use Rattle.bz_swap_machine.specs.Ends.{IsClean}
use Rattle.bz_swap_machine.specs.Fronts.{StandsFor}
use Rattle.bz_swap_machine.specs.Knows.{AtPlace}
use Rattle.bz_swap_machine.specs.Owners.{RestsAt}
use Rattle.bz_swap_machine.specs.Sound.{Follows, IsTarget, IsEntry}
use Rattle.bz_swap_machine.specs.Standing.{is_pointer, stands_for, is_decided, is_clean, pointers, is_through, top, is_open_at, is_open, scene_of}
use Rattle.bz_swap_machine.specs.State.{State}
use Rattle.bz_swap_machine.specs.Steps.{is_own}
use Rattle.bz_swap_machine.proofs.Sums.{sum-at, sum-none, greatest-ge, greatest-le}
use Rattle.bz_swap_machine.proofs.Truths.{differ}

-- another of n workers whose unfinished operation is swap s
pub record Opener (x : State) (w n s : ℕ) : Type 0 where
  pub worker : ℕ
  pub other : (worker == w) ≡ false
  pub below : worker < n
  pub operation : (x.local worker).operation ≡ Swapping s
  pub unfinished : is_open (scene_of x) worker ≡ true

clean-told : (k : SwapStatus) → IsClean k → is_clean k ≡ true
clean-told Free clean = absurd clean
clean-told Undecided clean = absurd clean
clean-told (Deciding d) clean = absurd clean
clean-told (Decided d) clean = refl

pub pointer-told : (k : WordKind) (s : ℕ) → is_pointer k s ≡ true → k ≡ Swap s
pointer-told (Value v) s is = absurd cc
pointer-told (Dirty v) s is = absurd cc
pointer-told (Swap t) s is = let same : t ≡ s = grind (arith, common_steps, is) in ap Swap same
pointer-told (Tag t i w q) s is = absurd cc

pub no-pointer : (k : WordKind) (s : ℕ) → k ≢ Swap s → is_pointer k s ≡ false
no-pointer k s none = by_test (is_pointer k s) refl
  where
    by_test : (b : Bool) → is_pointer k s ≡ b → b ≡ false
    by_test false told = refl
    by_test true told = absurd (none (pointer-told k s told))

none-counts : (b : Bool) → b ≡ false → counted b 1 ≡ 0
none-counts b is = rw is refl

-- a swap is through whose status is clean, and that is done with all entries
pub through-done : (x : State) (s : ℕ) → IsClean (x.memory.status s) → ((j : ℕ) → j < (x.entries s).count → x.memory.cached ((x.entries s).target j) ≢ Swap s) → is_through (scene_of x) s ≡ true
through-done x s clean done =
    let none : pointers (scene_of x) s ≡ 0 = sum-none (λ i. counted (is_pointer (x.memory.cached ((x.entries s).target i)) s) 1) (x.entries s).count (λ i below. none-counts _ (no-pointer (x.memory.cached ((x.entries s).target i)) s (done i below))) in
    let told : is_clean (x.memory.status s) ≡ true = clean-told (x.memory.status s) clean in
    rw (told, none) refl

-- a swap that is not through is not answered
unanswered : (x : State) (n s : ℕ) → IsBounded x n → is_through (scene_of x) s ≡ false → (a : Option Verdict) → x.memory.answer s ≡ a → a ≡ None
unanswered x n s bounded unfinished None is = refl
unanswered x n s bounded unfinished (Some d) is =
    differ (is_through (scene_of x) s) (through-done x s (bounded.ends.answered_clean s d is) (λ j below. (bounded.ends.answered_done s d j is below).pointer)) unfinished

begun : (x : State) (n s : ℕ) → IsBounded x n → x.memory.published s ≡ true → (b : Bool) → nat_lt s x.memory.taken ≡ b → s < x.memory.taken
begun x n s bounded published true told = ltb-true s x.memory.taken told
begun x n s bounded published false told = differ (x.memory.published s) published (bounded.state.sound.not_begun s (ltb-false s x.memory.taken told)).1

pub busy-below : (x : State) (n h : ℕ) → IsBounded x n → (x.local h).place ≢ Idle → (b : Bool) → nat_lt h n ≡ b → h < n
busy-below x n h bounded busy true told = ltb-true h n told
busy-below x n h bounded busy false told = absurd (busy (bounded.idle h (ltb-false h n told)))

nothing-swaps : (s : ℕ) → Nothing ≡ Swapping s → ⊥
nothing-swaps s is = absurd cc

same-swap : (s t : ℕ) → Swapping s ≡ Swapping t → s ≡ t
same-swap s t is = cc

open-at : (x : State) (n h s : ℕ) → IsBounded x n → x.memory.published s ≡ true → is_through (scene_of x) s ≡ false → (x.local h).operation ≡ Swapping s → (p : Place) → (x.local h).place ≡ p → is_open_at (scene_of x) p (x.local h).operation ≡ true
open-at x n h s bounded published unfinished at Idle is =
    absurd (nothing-swaps s (sym (subst (λ (p : Place). RestsAt p (x.local h).operation) is (bounded.owned.rests h)) ∙ at))
open-at x n h s bounded published unfinished at (Prepare step) is =
    let known : AtPlace x.entries x.memory h (x.local h) (Prepare step) = subst (λ p. AtPlace x.entries x.memory h (x.local h) p) is (bounded.state.knows h).place in
    let same : (x.local h).current ≡ s = same-swap (x.local h).current s (sym known.0 ∙ at) in
    differ (x.memory.published s) published (sym (ap x.memory.published same) ∙ known.1)
open-at x n h s bounded published unfinished at p is =
    let told : not (is_through (scene_of x) s) ≡ true = rw unfinished refl in
    rw at told

own-other : (x : State) (w h s : ℕ) → is_own (x.local w).operation s ≡ false → (x.local h).operation ≡ Swapping s → (b : Bool) → (h == w) ≡ b → b ≡ false
own-other x w h s own at false told = refl
own-other x w h s own at true told =
    let same : h ≡ w = grind (arith, common_steps, told) in
    let mine : (x.local w).operation ≡ Swapping s = subst (λ v. (x.local v).operation ≡ Swapping s) same at in
    let here : (s == s) ≡ true = grind (arith, common_steps) in
    differ (is_own (x.local w).operation s) (ap (λ o. is_own o s) mine ∙ here) own

-- a swap of another that is not through
pub opener : (x : State) (w n s : ℕ) → IsBounded x n → x.memory.published s ≡ true → is_through (scene_of x) s ≡ false → is_own (x.local w).operation s ≡ false → Opener x w n s
opener x w n s bounded published unfinished own =
    let h : ℕ = x.memory.owner s in
    let at : (x.local h).operation ≡ Swapping s = bounded.owned.owned s (begun x n s bounded published (nat_lt s x.memory.taken) refl) (unanswered x n s bounded unfinished (x.memory.answer s) refl) in
    let busy : (x.local h).place ≢ Idle = λ is. nothing-swaps s (sym (subst (λ (p : Place). RestsAt p (x.local h).operation) is (bounded.owned.rests h)) ∙ at) in
    record {
      worker = h;
      other = own-other x w h s own at (h == w) refl;
      below = busy-below x n h bounded busy (nat_lt h n) refl;
      operation = at;
      unfinished = open-at x n h s bounded published unfinished at (x.local h).place refl;
    }

-- a published swap that is not decided is undecided
pub undecided-told : (c k : SwapStatus) → Follows c k → is_decided c ≡ false → c ≡ Undecided
undecided-told Free k follows is = absurd follows
undecided-told Undecided k follows is = refl
undecided-told (Deciding d) k follows is = absurd cc
undecided-told (Decided d) k follows is = absurd cc

stands-told : (k : WordKind) (s : ℕ) → stands_for k s ≡ true → StandsFor k s
stands-told (Value v) s is = absurd cc
stands-told (Dirty v) s is = absurd cc
stands-told (Swap t) s is = grind (arith, common_steps, is)
stands-told (Tag t i w q) s is = grind (arith, common_steps, is)

stands-once : (k : WordKind) (s t : ℕ) → stands_for k s ≡ true → stands_for k t ≡ true → s ≡ t
stands-once (Value v) s t f g = absurd cc
stands-once (Dirty v) s t f g = absurd cc
stands-once (Swap u) s t f g = grind (arith, common_steps, f, g)
stands-once (Tag u i w q) s t f g = grind (arith, common_steps, f, g)

counts-under : (b : Bool) (a k : ℕ) → (b ≡ true → a ≤ k) → counted b a ≤ k
counts-under true a k f = f refl
counts-under false a k f = omega arith

-- where an entry of an undecided swap holds another's word, the swap reaches no higher
pub reaches-below : (x : State) (n c i t : ℕ) → IsBounded x n → x.memory.status c ≡ Undecided → i < (x.entries c).count → stands_for (x.memory.cached ((x.entries c).target i)) t ≡ true → (t == c) ≡ false
    → top (scene_of x) c ≤ (x.entries c).target i
reaches-below x n c i t bounded undecided inside word apart =
    greatest-le (λ j. counted (stands_for (x.memory.cached ((x.entries c).target j)) c) ((x.entries c).target j + 1)) (x.entries c).count ((x.entries c).target i)
    (λ j below. counts-under (stands_for (x.memory.cached ((x.entries c).target j)) c) ((x.entries c).target j + 1) ((x.entries c).target i) (λ stands. by_order j below stands (nat_lt j i) refl (nat_lt i j) refl))
  where
    other : stands_for (x.memory.cached ((x.entries c).target i)) c ≡ true → ⊥
    other own = let same : t ≡ c = stands-once (x.memory.cached ((x.entries c).target i)) t c word own in absurd (grind (arith, common_steps, same, apart))

    by_order : (j : ℕ) → j < (x.entries c).count → stands_for (x.memory.cached ((x.entries c).target j)) c ≡ true → (a : Bool) → nat_lt j i ≡ a → (b : Bool) → nat_lt i j ≡ b → (x.entries c).target j + 1 ≤ (x.entries c).target i
    by_order j below stands true before b told = omega (arith, bounded.rising c j i (ltb-true j i before) inside)
    by_order j below stands false before true after =
        let pointer : x.memory.cached ((x.entries c).target i) ≡ Swap c = bounded.fronts c j below (stands-told (x.memory.cached ((x.entries c).target j)) c stands) undecided i (ltb-true i j after) in
        let here : (c == c) ≡ true = grind (arith, common_steps) in
        absurd (other (ap (λ k. stands_for k c) pointer ∙ here))
    by_order j below stands false before false after =
        let same : j ≡ i = omega (arith, ltb-false j i before, ltb-false i j after) in
        absurd (other (subst (λ k. stands_for (x.memory.cached ((x.entries c).target k)) c ≡ true) same stands))

reaches-entry : (x : State) (t j a : ℕ) → j < (x.entries t).count → (x.entries t).target j ≡ a → stands_for (x.memory.cached a) t ≡ true → a + 1 ≤ top (scene_of x) t
reaches-entry x t j a below at stands =
    let here : stands_for (x.memory.cached ((x.entries t).target j)) t ≡ true = rw at stands in
    let most : counted (stands_for (x.memory.cached ((x.entries t).target j)) t) ((x.entries t).target j + 1) ≤ top (scene_of x) t = greatest-ge (λ i. counted (stands_for (x.memory.cached ((x.entries t).target i)) t) ((x.entries t).target i + 1)) (x.entries t).count j below in
    let counts : counted true ((x.entries t).target j + 1) ≤ top (scene_of x) t = rw here at most in
    omega (arith, counts, at)

-- a swap reaches where a word of it stands
pub reaches : (x : State) (n t a : ℕ) → IsBounded x n → (k : WordKind) → x.memory.cached a ≡ k → stands_for k t ≡ true → a + 1 ≤ top (scene_of x) t
reaches x n t a bounded (Value v) is stands = absurd cc
reaches x n t a bounded (Dirty v) is stands = absurd cc
reaches x n t a bounded (Swap u) is stands =
    let same : u ≡ t = grind (arith, common_steps, stands) in
    let target : IsTarget x.entries x.memory.published t a = bounded.state.sound.pointer a t (is ∙ ap Swap same) in
    reaches-entry x t ((x.entries t).index a) a target.entry target.target (ap (λ j. stands_for j t) is ∙ stands)
reaches x n t a bounded (Tag u i w q) is stands =
    let same : u ≡ t = grind (arith, common_steps, stands) in
    let entry : IsEntry x.entries x.memory.published t i a = bounded.state.sound.tag a t i w q (is ∙ ap (λ s. Tag s i w q) same) in
    reaches-entry x t i a entry.entry entry.target (ap (λ j. stands_for j t) is ∙ stands)

-- a swap with a word of it in the caches is published
pub met-published : (x : State) (n t a : ℕ) → IsBounded x n → (k : WordKind) → x.memory.cached a ≡ k → stands_for k t ≡ true → x.memory.published t ≡ true
met-published x n t a bounded (Value v) is stands = absurd cc
met-published x n t a bounded (Dirty v) is stands = absurd cc
met-published x n t a bounded (Swap u) is stands =
    let same : u ≡ t = grind (arith, common_steps, stands) in (bounded.state.sound.pointer a t (is ∙ ap Swap same)).standing
met-published x n t a bounded (Tag u i w q) is stands =
    let same : u ≡ t = grind (arith, common_steps, stands) in (bounded.state.sound.tag a t i w q (is ∙ ap (λ s. Tag s i w q) same)).standing

-- the swap that is met reaches higher
pub meets-higher : (x : State) (n c i t : ℕ) → IsBounded x n → x.memory.status c ≡ Undecided → i < (x.entries c).count → stands_for (x.memory.cached ((x.entries c).target i)) t ≡ true → (t == c) ≡ false
    → nat_lt (top (scene_of x) c) (top (scene_of x) t) ≡ true
meets-higher x n c i t bounded undecided inside word apart =
    lt-ltb (top (scene_of x) c) (top (scene_of x) t)
    (omega (arith, reaches-below x n c i t bounded undecided inside word apart, reaches x n t ((x.entries c).target i) bounded (x.memory.cached ((x.entries c).target i)) refl word))

-- a swap with a pointer in the caches is not through
pub pointer-unfinished : (x : State) (n t a : ℕ) → IsBounded x n → x.memory.cached a ≡ Swap t → is_through (scene_of x) t ≡ false
pointer-unfinished x n t a bounded is =
    let target : IsTarget x.entries x.memory.published t a = bounded.state.sound.pointer a t is in
    let here : (t == t) ≡ true = grind (arith, common_steps) in
    let stands : is_pointer (x.memory.cached ((x.entries t).target ((x.entries t).index a))) t ≡ true = ap (λ k. is_pointer k t) (ap x.memory.cached target.target ∙ is) ∙ here in
    let some : counted (is_pointer (x.memory.cached ((x.entries t).target ((x.entries t).index a))) t) 1 ≤ pointers (scene_of x) t =
    sum-at (λ i. counted (is_pointer (x.memory.cached ((x.entries t).target i)) t) 1) (x.entries t).count ((x.entries t).index a) target.entry in
    some-unfinished (is_clean (x.memory.status t)) (pointers (scene_of x) t) (rw stands at some)
  where
    some-unfinished : (c : Bool) (k : ℕ) → 1 ≤ k → (c && (k == 0)) ≡ false
    some-unfinished true k le = grind (arith, common_steps, le)
    some-unfinished false k le = refl
