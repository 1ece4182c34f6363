-- The compare-and-swaps that clean a dirty value which stands in the way: its price pays for them.
use Rattle.std.proofs.Common.{◌≡◌, ◌==◌, ◌&&◌, not, if◌then◌else◌, ℕ, ◌+◌, ◌-◌, ◌*◌, ◌<◌, ◌≤◌, Bool, true, false, arith, refl, ap, sym, subst, ◌∙◌}
use Rattle.std.proofs.lemmas.Grind.{common_steps}
use Rattle.bz_word.specs.declared.kind.WordKind.{WordKind}
use Rattle.bz_word.specs.declared.kind.WordKind.TheVariants.{Value, Dirty, Swap, Tag}
use Rattle.bz_swap_machine.specs.declared.place.HelpStep.TheVariants.{InstallTag, ClearDirty}
use Rattle.bz_swap_machine.specs.declared.place.Place.{Place}
use Rattle.bz_swap_machine.specs.declared.place.Place.TheVariants.{Help}
use Rattle.bz_swap_machine.specs.declared.status.Verdict.{Verdict}
use Rattle.bz_swap_machine.specs.Budget.{for_dirty, for_stale, for_stale_entry, open_count, open_above, walk_at, reserve, detour, own_missing, cleans_at, for_walks, left_by_others, fresh_budget, allowed_by_others, budget_at}
use Rattle.bz_swap_machine.specs.Sound.{AreShort}
use Rattle.bz_swap_machine.specs.Changes.{put, with_word}
use Rattle.bz_swap_machine.specs.DirtyHomes.{IsAtFinal}
use Rattle.bz_swap_machine.specs.HelpActs.{final_value, cleared_word}
use Rattle.bz_swap_machine.specs.Machine.{Entries, Memory}
use Rattle.bz_swap_machine.specs.Standing.{is_pointer, stands_for, is_tag, is_dirty, is_any_dirty, is_decided}
use Rattle.bz_swap_machine.specs.Steps.{Local}
use Rattle.bz_swap_machine.proofs.BudgetBounds.{fresh-le}
use Rattle.bz_swap_machine.proofs.DirtyDrops.{Fewer, with_dirty, dirty-drops}
use Rattle.bz_swap_machine.proofs.Spends.{meets, Spends}

-- another of n workers goes on to clean the value v at address a
pub record Home (e : ℕ → Entries) (local : ℕ → Local) (w n a v : ℕ) : Type 0 where
  pub worker : ℕ
  pub entry : ℕ
  pub verdict : Verdict
  pub other : (worker == w) ≡ false
  pub below : worker < n
  pub place : IsAtFinal (local worker).place entry verdict
  pub target : (e (local worker).current).target entry ≡ a
  pub value : final_value (e (local worker).current) entry verdict ≡ v

pub dirty-told : (k : WordKind) (v : ℕ) → is_dirty k v ≡ true → k ≡ Dirty v
dirty-told (Value u) v told = absurd cc
dirty-told (Dirty u) v told = let same : u ≡ v = grind (arith, common_steps, told) in ap Dirty same
dirty-told (Swap t) v told = absurd cc
dirty-told (Tag t i w q) v told = absurd cc

-- a test of words that tells the new word from the old one no more
pub test-put : (test : WordKind → Bool) (cached : ℕ → WordKind) (a : ℕ) (new : WordKind) (b : ℕ) → test new ≡ test (cached a) → test (put cached a new b) ≡ test (cached b)
test-put test cached a new b same = by_test (b == a) refl
  where
    by_test : (t : Bool) → (b == a) ≡ t → test (if t then new else cached b) ≡ test (cached b)
    by_test false told = refl
    by_test true told = let here : a ≡ b = grind (arith, common_steps, told) in same ∙ ap (λ c. test (cached c)) here

-- a clean value stands in place of a dirty one: nothing else is told otherwise
pub clean-scene : (e : ℕ → Entries) (local : ℕ → Local) (m : Memory) (a v : ℕ) → m.cached a ≡ Dirty v
    → meets e local (with_word m a (Value v)) ≡ record (meets e local m) { dirty = λ b u. is_dirty (put m.cached a (Value v) b) u; any_dirty = λ b. is_any_dirty (put m.cached a (Value v) b) }
clean-scene e local m a v is =
    let pointer : (b s : ℕ) → is_pointer (put m.cached a (Value v) b) s ≡ is_pointer (m.cached b) s = λ b s. test-put (λ k. is_pointer k s) m.cached a (Value v) b (ap (λ k. is_pointer k s) (sym is)) in
    let stands : (b s : ℕ) → stands_for (put m.cached a (Value v) b) s ≡ stands_for (m.cached b) s = λ b s. test-put (λ k. stands_for k s) m.cached a (Value v) b (ap (λ k. stands_for k s) (sym is)) in
    let tag : (b s i u q : ℕ) → is_tag (put m.cached a (Value v) b) s i u q ≡ is_tag (m.cached b) s i u q = λ b s i u q. test-put (λ k. is_tag k s i u q) m.cached a (Value v) b (ap (λ k. is_tag k s i u q) (sym is)) in
    λ j. record (meets e local (with_word m a (Value v))) { pointer = λ b s. pointer b s j; stands = λ b s. stands b s j; tag = λ b s i u q. tag b s i u q j }

pub fewer-put : (m : Memory) (a v : ℕ) → Fewer (λ b u. is_dirty (put m.cached a (Value v) b) u) (λ b u. is_dirty (m.cached b) u)
fewer-put m a v b u told = by_test (b == a) told
  where
    by_test : (t : Bool) → is_dirty (if t then Value v else m.cached b) u ≡ true → is_dirty (m.cached b) u ≡ true
    by_test true is = absurd cc
    by_test false is = is

gone-put : (m : Memory) (a v u : ℕ) → is_dirty (put m.cached a (Value v) a) u ≡ false
gone-put m a v u = let here : (a == a) ≡ true = grind (arith, common_steps) in rw here refl

-- by the home of the value so much less is left
home-drops : (e : ℕ → Entries) (local : ℕ → Local) (m : Memory) (w n : ℕ) (l : Local) (place : Place) (a v : ℕ) → Home e local w n a v → m.cached a ≡ Dirty v
    → ((b u : ℕ) → cleans_at (meets e local m) l.current place b u ≡ false)
    → left_by_others (with_dirty (meets e local m) (λ b u. is_dirty (put m.cached a (Value v) b) u)) w n l place + for_dirty ≤ left_by_others (meets e local m) w n l place
home-drops e local m w n l place a v home is none =
    let self : (v == v) ≡ true = grind (arith, common_steps) in
    dirty-drops (meets e local m) (λ b u. is_dirty (put m.cached a (Value v) b) u) w n l place home.worker home.entry home.verdict (fewer-put m a v) home.other home.below home.place
    (rw home.target (gone-put m a v (final_value (e (local home.worker).current) home.entry home.verdict)))
    (rw (home.target, home.value) (ap (λ k. is_dirty k v) is ∙ self))
    (none ((e (local home.worker).current).target home.entry) (final_value (e (local home.worker).current) home.entry home.verdict))

pub paid : (q a b c d f r f' r' : ℕ) → f' + 1 ≤ f + for_dirty → r' + for_dirty ≤ r → q + a + b + c + d + f' + r' + 1 ≤ q + a + b + c + d + f + r
paid q a b c d f r f' r' h1 h2 = omega (arith, h1, h2)

pub cleared-to : (m : Memory) (a v : ℕ) → m.cached a ≡ Dirty v → cleared_word m a v (m.cached a) ≡ with_word m a (Value v)
cleared-to m a v is =
    let self : (v == v) ≡ true = grind (arith, common_steps) in
    let told : cleared_word m a v (Dirty v) ≡ with_word m a (Value v) = rw self refl in
    ap (λ k. cleared_word m a v k) is ∙ told

pub cleared-same : (m : Memory) (a v : ℕ) (k : WordKind) → is_dirty k v ≡ false → cleared_word m a v k ≡ m
cleared-same m a v (Value u) told = refl
cleared-same m a v (Swap t) told = refl
cleared-same m a v (Tag t i w q) told = refl
cleared-same m a v (Dirty u) told = rw told refl

if-most : (b : Bool) → (if b then 8 else 4) ≤ 8
if-most true = omega arith
if-most false = omega arith

-- after a dirty value at a target is clean, the worker tries the entry again
pub spends-clear_dirty : (e : ℕ → Entries) (local : ℕ → Local) (m : Memory) (w n : ℕ) (l : Local) (i v : ℕ) → n ≤ 65 → AreShort e → l.list (1 + 3 * i) ≡ (e l.current).target i
    → (m.cached ((e l.current).target i) ≡ Dirty v → Home e local w n ((e l.current).target i) v) → i < 4 → Spends e local m w n l (Help (ClearDirty i v))
spends-clear_dirty e local m w n l i v few short target home inside =
    subst (λ a. budget_at (meets e local (cleared_word m a v (m.cached a))) w n (record l { place = Help (InstallTag i) }) (Help (InstallTag i)) + 1 ≤ budget_at (meets e local m) w n l (Help (ClearDirty i v))) (sym target)
    (by_dirty (is_dirty (m.cached ((e l.current).target i)) v) refl)
  where
    stood : (d : Bool) → is_decided (m.status l.current) ≡ d → m.cached ((e l.current).target i) ≡ Dirty v
        → (if not d then fresh_budget (record (meets e local m) { dirty = λ b u. is_dirty (put m.cached ((e l.current).target i) (Value v) b) u; any_dirty = λ b. is_any_dirty (put m.cached ((e l.current).target i) (Value v) b) }) w n l (Help (InstallTag i))
        else allowed_by_others (meets e local m) w n + for_stale + (for_stale_entry * (4 - i) + (if is_any_dirty (put m.cached ((e l.current).target i) (Value v) ((e l.current).target i)) then 8 else 4))) + 1
        ≤ (if not d && true then fresh_budget (meets e local m) w n l (Help (ClearDirty i v)) else allowed_by_others (meets e local m) w n + for_stale + (for_stale_entry * (4 - i) + 5))
    stood false told is =
        paid (for_walks (open_count (meets e local m) w n)) (walk_at (meets e local m) (open_count (meets e local m) w n) (open_above (meets e local m) w n) l (Help (ClearDirty i v)))
        (reserve (Help (ClearDirty i v)) l.operation (open_count (meets e local m) w n)) (detour (meets e local m) (open_count (meets e local m) w n) l (Help (ClearDirty i v))) (own_missing (meets e local m) (Help (ClearDirty i v)) l.operation)
        (22 + (4 - i)) (left_by_others (meets e local m) w n l (Help (ClearDirty i v))) (25 + (4 - i)) _ (omega arith)
        (home-drops e local m w n l (Help (ClearDirty i v)) ((e l.current).target i) v (home is) is (λ b u. refl))
    stood true told is =
        let here : ((e l.current).target i == (e l.current).target i) ≡ true = grind (arith, common_steps) in
        rw here (omega arith)

    other : (d : Bool) → is_decided (m.status l.current) ≡ d
        → (if not d then fresh_budget (meets e local m) w n l (Help (InstallTag i))
        else allowed_by_others (meets e local m) w n + for_stale + (for_stale_entry * (4 - i) + (if is_any_dirty (m.cached ((e l.current).target i)) then 8 else 4))) + 1
        ≤ (if not d && false then fresh_budget (meets e local m) w n l (Help (ClearDirty i v)) else allowed_by_others (meets e local m) w n + for_stale + (for_stale_entry * (4 - i) + 9))
    other false told = omega (arith, fresh-le (meets e local m) w n l (Help (InstallTag i)) few short)
    other true told = omega (arith, if-most (is_any_dirty (m.cached ((e l.current).target i))))

    by_dirty : (b : Bool) → is_dirty (m.cached ((e l.current).target i)) v ≡ b
        → budget_at (meets e local (cleared_word m ((e l.current).target i) v (m.cached ((e l.current).target i)))) w n (record l { place = Help (InstallTag i) }) (Help (InstallTag i)) + 1 ≤ budget_at (meets e local m) w n l (Help (ClearDirty i v))
    by_dirty true told =
        let is : m.cached ((e l.current).target i) ≡ Dirty v = dirty-told (m.cached ((e l.current).target i)) v told in
        rw told
        (subst (λ y. budget_at y w n (record l { place = Help (InstallTag i) }) (Help (InstallTag i)) + 1
        ≤ (if not (is_decided (m.status l.current)) && true then fresh_budget (meets e local m) w n l (Help (ClearDirty i v)) else allowed_by_others (meets e local m) w n + for_stale + (for_stale_entry * (4 - i) + 5)))
        (sym (ap (λ k. meets e local k) (cleared-to m ((e l.current).target i) v is) ∙ clean-scene e local m ((e l.current).target i) v is)) (stood (is_decided (m.status l.current)) refl is))
    by_dirty false told =
        rw told
        (subst (λ k. budget_at (meets e local k) w n (record l { place = Help (InstallTag i) }) (Help (InstallTag i)) + 1
        ≤ (if not (is_decided (m.status l.current)) && false then fresh_budget (meets e local m) w n l (Help (ClearDirty i v)) else allowed_by_others (meets e local m) w n + for_stale + (for_stale_entry * (4 - i) + 9)))
        (sym (cleared-same m ((e l.current).target i) v (m.cached ((e l.current).target i)) told)) (other (is_decided (m.status l.current)) refl))
