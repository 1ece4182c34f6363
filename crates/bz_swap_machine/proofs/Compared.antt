-- What the others have left in two memories, compared by what stands there.
use Rattle.std.proofs.Common.{◌≡◌, ◌==◌, ◌&&◌, not, ℕ, ◌+◌, ◌*◌, ◌<◌, ◌≤◌, Bool, true, false, arith, refl, mul-le-mul_left}
use Rattle.std.proofs.lemmas.Grind.{common_steps}
use Rattle.bz_swap_machine.specs.declared.place.HelpStep.{HelpStep}
use Rattle.bz_swap_machine.specs.declared.place.HelpStep.TheVariants.{LookUnderTag, InstallPointer, RemoveTag, AskFinal, FenceFinal, ClearFinal}
use Rattle.bz_swap_machine.specs.declared.place.Place.{Place}
use Rattle.bz_swap_machine.specs.declared.place.Place.TheVariants.{Idle, Prepare, Help}
use Rattle.bz_swap_machine.specs.declared.status.Verdict.{Verdict}
use Rattle.bz_swap_machine.specs.declared.worker.Operation.{Operation}
use Rattle.bz_swap_machine.specs.declared.worker.Operation.TheVariants.{Nothing, Reading, Swapping}
use Rattle.bz_swap_machine.specs.Allowed.{counted}
use Rattle.bz_swap_machine.specs.Budget.{level, for_tag, for_dirty, for_close, open_count, is_over_at, is_swept, cleans_at, left_by_help, left_by_place, left_by, for_walks, left_by_others}
use Rattle.bz_swap_machine.specs.HelpActs.{final_value}
use Rattle.bz_swap_machine.specs.Machine.{Entries, Memory}
use Rattle.bz_swap_machine.specs.Standing.{is_pointer, stands_for, is_tag, is_dirty, is_clean, pointers, is_through, missing, top, swap_of, is_open_by, is_open_at, is_open}
use Rattle.bz_swap_machine.specs.Steps.{Local}
use Rattle.bz_swap_machine.proofs.Spends.{meets}
use Rattle.bz_swap_machine.proofs.Sums.{others-le, others-apart, apart-drop, others-drop, counted-implied, sum-less, greatest-less}

-- no more swaps are open, none misses more pointers, and no tag of another and fewer dirty value comes to be counted, where w goes from a place to
-- another, and the memory from m to r
pub record NoMore (e : ℕ → Entries) (local : ℕ → Local) (m r : Memory) (w : ℕ) (l k : Local) (p q : Place) : Type 0 where
  pub through : (s : ℕ) → is_through (meets e local m) s ≡ true → is_through (meets e local r) s ≡ true
  pub missing : (s : ℕ) → missing (meets e local r) s ≤ missing (meets e local m) s
  pub tags : (v s i t : ℕ) → (v == w) ≡ false → is_tag (r.cached ((e s).target i)) s i v t ≡ true → is_swept (is_over_at (meets e local r) k q) k q s i ≡ false
      → (is_tag (m.cached ((e s).target i)) s i v t ≡ true) × (is_swept (is_over_at (meets e local m) l p) l p s i ≡ false)
  pub dirty : (s i : ℕ) (d : Verdict) → is_dirty (r.cached ((e s).target i)) (final_value (e s) i d) ≡ true → cleans_at (meets e local r) k.current q ((e s).target i) (final_value (e s) i d) ≡ false
      → (is_dirty (m.cached ((e s).target i)) (final_value (e s) i d) ≡ true) × (cleans_at (meets e local m) l.current p ((e s).target i) (final_value (e s) i d) ≡ false)

kept-le : (c a b a' b' : Bool) (k : ℕ) → (a' ≡ true → b' ≡ false → (a ≡ true) × (b ≡ false)) → counted (c && (a' && not b')) k ≤ counted (c && (a && not b)) k
kept-le false a b a' b' k f = omega arith
kept-le true a b false b' k f = omega arith
kept-le true a b true true k f = omega arith
kept-le true a b true false k f = let h : (a ≡ true) × (b ≡ false) = f refl refl in rw (h.0, h.1) (omega arith)

not-implied : (a b : Bool) → (a ≡ true → b ≡ true) → not b ≡ true → not a ≡ true
not-implied false b f is = refl
not-implied true true f is = is
not-implied true false f is = f refl

by-implied : (e : ℕ → Entries) (local : ℕ → Local) (m r : Memory) (o : Operation) → ((s : ℕ) → is_through (meets e local m) s ≡ true → is_through (meets e local r) s ≡ true) → is_open_by (meets e local r) o ≡ true → is_open_by (meets e local m) o ≡ true
by-implied e local m r Nothing through is = is
by-implied e local m r (Reading a) through is = is
by-implied e local m r (Swapping s) through is = not-implied _ _ (through s) is

pub open-implied : (e : ℕ → Entries) (local : ℕ → Local) (m r : Memory) (place : Place) (o : Operation) → ((s : ℕ) → is_through (meets e local m) s ≡ true → is_through (meets e local r) s ≡ true) → is_open_at (meets e local r) place o ≡ true
    → is_open_at (meets e local m) place o ≡ true
open-implied e local m r Idle o through is = is
open-implied e local m r (Prepare step) o through is = is
open-implied e local m r place o through is = by-implied e local m r o through is

help-le : (e : ℕ → Entries) (local : ℕ → Local) (m r : Memory) (w : ℕ) (l k : Local) (p q : Place) → NoMore e local m r w l k p q → (v : ℕ) (o : Local) (step : HelpStep) → (v == w) ≡ false
    → left_by_help (meets e local r) (is_over_at (meets e local r) k q) k q v o step ≤ left_by_help (meets e local m) (is_over_at (meets e local m) l p) l p v o step
help-le e local m r w l k p q fewer v o (LookUnderTag i u t) other = kept-le (u == v) _ _ _ _ for_tag (fewer.tags v o.current i t other)
help-le e local m r w l k p q fewer v o (InstallPointer i u t) other = kept-le (u == v) _ _ _ _ for_tag (fewer.tags v o.current i t other)
help-le e local m r w l k p q fewer v o (RemoveTag i u t) other = kept-le (u == v) _ _ _ _ for_tag (fewer.tags v o.current i t other)
help-le e local m r w l k p q fewer v o (AskFinal i d) other = kept-le true _ _ _ _ for_dirty (fewer.dirty o.current i d)
help-le e local m r w l k p q fewer v o (FenceFinal i d) other = kept-le true _ _ _ _ for_dirty (fewer.dirty o.current i d)
help-le e local m r w l k p q fewer v o (ClearFinal i d) other = kept-le true _ _ _ _ for_dirty (fewer.dirty o.current i d)
help-le e local m r w l k p q fewer v o step other = omega arith

pub place-le : (e : ℕ → Entries) (local : ℕ → Local) (m r : Memory) (w : ℕ) (l k : Local) (p q : Place) → NoMore e local m r w l k p q → (v : ℕ) (o : Local) (other : Place) → (v == w) ≡ false
    → left_by_place (meets e local r) (is_over_at (meets e local r) k q) k q v o other ≤ left_by_place (meets e local m) (is_over_at (meets e local m) l p) l p v o other
place-le e local m r w l k p q fewer v o (Help step) apart = help-le e local m r w l k p q fewer v o step apart
place-le e local m r w l k p q fewer v o other apart = omega arith

pub open-le : (e : ℕ → Entries) (local : ℕ → Local) (m r : Memory) (place : Place) (o : Operation) (i j : ℕ) → ((s : ℕ) → is_through (meets e local m) s ≡ true → is_through (meets e local r) s ≡ true) → i ≤ j
    → counted (is_open_at (meets e local r) place o) i ≤ counted (is_open_at (meets e local m) place o) j
open-le e local m r place o i j through le = counted-implied (is_open_at (meets e local r) place o) (is_open_at (meets e local m) place o) i j (open-implied e local m r place o through) le

two-le : {a b c d : ℕ} → a ≤ b → c ≤ d → a + c ≤ b + d
two-le f g = omega (arith, f, g)

twice-le : {a b : ℕ} → a ≤ b → 2 * a ≤ 2 * b
twice-le f = omega (arith, f)

-- no more is left by any other
pub each-le : (e : ℕ → Entries) (local : ℕ → Local) (m r : Memory) (w : ℕ) (l k : Local) (p q : Place) → NoMore e local m r w l k p q → (v : ℕ) → (v == w) ≡ false
    → left_by (meets e local r) (is_over_at (meets e local r) k q) k q v (local v) ≤ left_by (meets e local m) (is_over_at (meets e local m) l p) l p v (local v)
each-le e local m r w l k p q fewer v apart =
    two-le (place-le e local m r w l k p q fewer v (local v) (local v).place apart) (open-le e local m r (local v).place (local v).operation _ _ fewer.through (twice-le (fewer.missing (swap_of (local v).operation))))

pub no-more : (e : ℕ → Entries) (local : ℕ → Local) (m r : Memory) (w n : ℕ) (l k : Local) (p q : Place) → NoMore e local m r w l k p q → left_by_others (meets e local r) w n k q ≤ left_by_others (meets e local m) w n l p
no-more e local m r w n l k p q fewer =
    others-apart w (λ v. left_by (meets e local r) (is_over_at (meets e local r) k q) k q v (local v)) (λ v. left_by (meets e local m) (is_over_at (meets e local m) l p) l p v (local v)) n (each-le e local m r w l k p q fewer)

-- and less by one of them
pub one-less : (e : ℕ → Entries) (local : ℕ → Local) (m r : Memory) (w n : ℕ) (l k : Local) (p q : Place) (h j : ℕ) → NoMore e local m r w l k p q → (h == w) ≡ false → h < n
    → left_by (meets e local r) (is_over_at (meets e local r) k q) k q h (local h) + j ≤ left_by (meets e local m) (is_over_at (meets e local m) l p) l p h (local h)
    → left_by_others (meets e local r) w n k q + j ≤ left_by_others (meets e local m) w n l p
one-less e local m r w n l k p q h j fewer other below drops =
    apart-drop w h (λ v. left_by (meets e local r) (is_over_at (meets e local r) k q) k q v (local v)) (λ v. left_by (meets e local m) (is_over_at (meets e local m) l p) l p v (local v)) j n (each-le e local m r w l k p q fewer) other below drops

-- no more swaps are open
pub open-less : (e : ℕ → Entries) (local : ℕ → Local) (m r : Memory) (w n : ℕ) → ((s : ℕ) → is_through (meets e local m) s ≡ true → is_through (meets e local r) s ≡ true) → open_count (meets e local r) w n ≤ open_count (meets e local m) w n
open-less e local m r w n through =
    others-le w (λ v. counted (is_open (meets e local r) v) 1) (λ v. counted (is_open (meets e local m) v) 1) n (λ v. open-le e local m r (local v).place (local v).operation 1 1 through (omega arith))

one-counts : (a b : Bool) → a ≡ false → b ≡ true → counted a 1 + 1 ≤ counted b 1
one-counts a b f g = rw (f, g) (omega arith)

-- and that of one other fewer longer
pub open-falls : (e : ℕ → Entries) (local : ℕ → Local) (m r : Memory) (w n h : ℕ) → ((s : ℕ) → is_through (meets e local m) s ≡ true → is_through (meets e local r) s ≡ true) → (h == w) ≡ false → h < n
    → is_open (meets e local r) h ≡ false → is_open (meets e local m) h ≡ true → open_count (meets e local r) w n + 1 ≤ open_count (meets e local m) w n
open-falls e local m r w n h through other below closed stood =
    others-drop w h (λ v. counted (is_open (meets e local r) v) 1) (λ v. counted (is_open (meets e local m) v) 1) 1 n (λ v. open-le e local m r (local v).place (local v).operation 1 1 through (omega arith)) other below
    (one-counts (is_open (meets e local r) h) (is_open (meets e local m) h) closed stood)

-- the numbers that go by what stands at the targets of a swap
pub top-less : (e : ℕ → Entries) (local : ℕ → Local) (m r : Memory) (s : ℕ) → ((i : ℕ) → i < (e s).count → stands_for (r.cached ((e s).target i)) s ≡ true → stands_for (m.cached ((e s).target i)) s ≡ true)
    → top (meets e local r) s ≤ top (meets e local m) s
top-less e local m r s fewer =
    greatest-less (λ i. counted (stands_for (r.cached ((e s).target i)) s) ((e s).target i + 1)) (λ i. counted (stands_for (m.cached ((e s).target i)) s) ((e s).target i + 1)) (e s).count
    (λ i below. counted-implied _ _ _ _ (fewer i below) (omega arith))

pub pointers-less : (e : ℕ → Entries) (local : ℕ → Local) (m r : Memory) (s : ℕ) → ((i : ℕ) → i < (e s).count → is_pointer (r.cached ((e s).target i)) s ≡ true → is_pointer (m.cached ((e s).target i)) s ≡ true)
    → pointers (meets e local r) s ≤ pointers (meets e local m) s
pointers-less e local m r s fewer =
    sum-less (λ i. counted (is_pointer (r.cached ((e s).target i)) s) 1) (λ i. counted (is_pointer (m.cached ((e s).target i)) s) 1) (e s).count (λ i below. counted-implied _ _ 1 1 (fewer i below) (omega arith))

through-if : (c c' : Bool) (k k' : ℕ) → (c ≡ true → c' ≡ true) → k' ≤ k → (c && (k == 0)) ≡ true → (c' && (k' == 0)) ≡ true
through-if true true k k' f le is = let none : k ≡ 0 = grind (arith, common_steps, is) in let less : k' ≡ 0 = omega (arith, le, none) in rw less refl
through-if true false k k' f le is = f refl
through-if false c' k k' f le is = absurd cc

-- a swap that is through stays so, where its status stays clean and fewer pointer of it comes
pub through-stays : (e : ℕ → Entries) (local : ℕ → Local) (m r : Memory) (s : ℕ) → (is_clean (m.status s) ≡ true → is_clean (r.status s) ≡ true)
    → ((i : ℕ) → i < (e s).count → is_pointer (r.cached ((e s).target i)) s ≡ true → is_pointer (m.cached ((e s).target i)) s ≡ true) → is_through (meets e local m) s ≡ true → is_through (meets e local r) s ≡ true
through-stays e local m r s clean fewer is = through-if (is_clean (m.status s)) (is_clean (r.status s)) (pointers (meets e local m) s) (pointers (meets e local r) s) clean (pointers-less e local m r s fewer) is

-- walks along fewer open swaps
pub walks-less : (u' u : ℕ) → u' ≤ u → for_walks u' ≤ for_walks u
walks-less u' u le =
    let first : u' * (u' + 1) ≤ u' * (u + 1) = mul-le-mul_left u' (omega (arith, le)) in
    let second : (u + 1) * u' ≤ (u + 1) * u = mul-le-mul_left (u + 1) le in
    omega (arith, first, second, le)

-- a swap less pays for a walk
pub walks-pay : (u' u : ℕ) → u' + 1 ≤ u → for_walks u' + level * (u' + 1) + for_close ≤ for_walks u
walks-pay u' u le =
    let less : for_walks (u' + 1) ≤ for_walks u = walks-less (u' + 1) u le in
    let more : for_walks u' + level * (u' + 1) + for_close ≤ for_walks (u' + 1) = omega arith in
    omega (arith, less, more)
