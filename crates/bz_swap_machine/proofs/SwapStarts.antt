-- The start of a swap adds what it allows: no other worker works on a swap that had not begun.
use Rattle.std.proofs.Common.{◌≡◌, ◌==◌, ◌&&◌, not, if◌then◌else◌, ℕ, ◌+◌, ◌*◌, ◌<◌, ◌≤◌, Bool, true, false, arith, refl, ap, sym, subst}
use Rattle.std.proofs.lemmas.Grind.{common_steps}
use Rattle.bz_swap_machine.specs.declared.place.HelpStep.{HelpStep}
use Rattle.bz_swap_machine.specs.declared.place.HelpStep.TheVariants.{LookUnderTag, InstallPointer, RemoveTag, AskFinal, FenceFinal, ClearFinal}
use Rattle.bz_swap_machine.specs.declared.place.Place.{Place}
use Rattle.bz_swap_machine.specs.declared.place.Place.TheVariants.{Idle, Prepare, Help}
use Rattle.bz_swap_machine.specs.declared.place.PrepareStep.TheVariants.{WriteWord}
use Rattle.bz_swap_machine.specs.declared.worker.Operation.{Operation}
use Rattle.bz_swap_machine.specs.declared.worker.Operation.TheVariants.{Nothing, Reading, Swapping}
use Rattle.bz_swap_machine.specs.Allowed.{sum_below, counted}
use Rattle.bz_swap_machine.specs.Budget.{level, for_first, for_tag, for_pointer, for_dirty, open_count, left_at, left_by_help, left_by_place, left_by, left_by_others, budget_at, budget}
use Rattle.bz_swap_machine.specs.Budgets.{IsBounded, SwapsAddAllowed}
use Rattle.bz_swap_machine.specs.Changes.{put, with_taken}
use Rattle.bz_swap_machine.specs.HelpActs.{final_value}
use Rattle.bz_swap_machine.specs.Knows.{Owns, AtPlace}
use Rattle.bz_swap_machine.specs.Machine.{Entries}
use Rattle.bz_swap_machine.specs.Standing.{Scene, scene, is_pointer, is_tag, is_dirty, is_decided, is_clean, is_through, missing, swap_of, is_open_by, is_open_at, is_open, scene_of}
use Rattle.bz_swap_machine.specs.State.{State, StartSwap, happens, swapping}
use Rattle.bz_swap_machine.specs.Steps.{Local}
use Rattle.bz_swap_machine.proofs.Compared.{walks-less}
use Rattle.bz_swap_machine.proofs.Scenes.{budget-started}
use Rattle.bz_swap_machine.proofs.Sums.{others-le, ones-le}
use Rattle.bz_swap_machine.proofs.Truths.{differ}

-- what is met once the entries of the swap are known
abbrev begun : State → Entries → Scene
begun x new = scene (put x.entries x.memory.taken new) x.memory.cached x.memory.status x.local

put-other : (e : ℕ → Entries) (t : ℕ) (new : Entries) (s : ℕ) → (s == t) ≡ false → put e t new s ≡ e s
put-other e t new s apart = rw apart refl

-- a swap that has begun is another one
below-apart : (s t : ℕ) → s < t → (s == t) ≡ false
below-apart s t lt = by_test (s == t) refl
  where
    by_test : (b : Bool) → (s == t) ≡ b → b ≡ false
    by_test false told = refl
    by_test true told = absurd (grind (arith, common_steps, told, lt))

missing-same : (x : State) (new : Entries) (s : ℕ) → (s == x.memory.taken) ≡ false → missing (begun x new) s ≡ missing (scene_of x) s
missing-same x new s apart = ap (λ (k : Entries). if is_decided (x.memory.status s) then 0 else sum_below (λ i. counted (not (is_pointer (x.memory.cached (k.target i)) s)) 1) k.count) (put-other x.entries x.memory.taken new s apart)

through-same : (x : State) (new : Entries) (s : ℕ) → (s == x.memory.taken) ≡ false → is_through (begun x new) s ≡ is_through (scene_of x) s
through-same x new s apart = ap (λ (k : Entries). is_clean (x.memory.status s) && (sum_below (λ i. counted (is_pointer (x.memory.cached (k.target i)) s) 1) k.count == 0)) (put-other x.entries x.memory.taken new s apart)

open-same : (x : State) (new : Entries) (w : ℕ) (o : Operation) → Owns x.memory w o → is_open_by (begun x new) o ≡ is_open_by (scene_of x) o
open-same x new w Nothing owns = refl
open-same x new w (Reading a) owns = refl
open-same x new w (Swapping s) owns = ap not (through-same x new s (below-apart s x.memory.taken owns.1))

open_at-same : (x : State) (new : Entries) (w : ℕ) (p : Place) (o : Operation) → Owns x.memory w o → is_open_at (begun x new) p o ≡ is_open_at (scene_of x) p o
open_at-same x new w Idle o owns = refl
open_at-same x new w (Prepare step) o owns = refl
open_at-same x new w p o owns = open-same x new w o owns

misses-same : (x : State) (new : Entries) (w : ℕ) (p : Place) (o : Operation) → Owns x.memory w o → counted (is_open_at (begun x new) p o) (2 * missing (begun x new) (swap_of o)) ≡ counted (is_open_at (scene_of x) p o) (2 * missing (scene_of x) (swap_of o))
misses-same x new w p (Swapping s) owns =
    λ i. counted (open_at-same x new w p (Swapping s) owns i) (2 * missing-same x new s (below-apart s x.memory.taken owns.1) i)
misses-same x new w p Nothing owns = none (is_open_at (begun x new) p Nothing) (is_open_at (scene_of x) p Nothing) _ _ (closed (begun x new) p) (closed (scene_of x) p)
  where
    closed : (y : Scene) (p : Place) → is_open_at y p Nothing ≡ false
    closed y Idle = refl
    closed y (Prepare step) = refl
    closed y p = refl

    none : (a b : Bool) (j k : ℕ) → a ≡ false → b ≡ false → counted a j ≡ counted b k
    none a b j k f g = rw (f, g) refl
misses-same x new w p (Reading r) owns = none (is_open_at (begun x new) p (Reading r)) (is_open_at (scene_of x) p (Reading r)) _ _ (closed (begun x new) p) (closed (scene_of x) p)
  where
    closed : (y : Scene) (p : Place) → is_open_at y p (Reading r) ≡ false
    closed y Idle = refl
    closed y (Prepare step) = refl
    closed y p = refl

    none : (a b : Bool) (j k : ℕ) → a ≡ false → b ≡ false → counted a j ≡ counted b k
    none a b j k f g = rw (f, g) refl

-- the worker that begins
abbrev beginner : State → ℕ → Entries → Local
beginner x w new = swapping (x.local w) x.memory.taken new

help-same : (x : State) (new : Entries) (l k : Local) (v : ℕ) (o : Local) (step : HelpStep) → (o.current == x.memory.taken) ≡ false
    → left_by_help (begun x new) false k (Prepare (WriteWord 0)) v o step ≡ left_by_help (scene_of x) false l Idle v o step
help-same x new l k v o (LookUnderTag i u q) apart = ap (λ (e : Entries). counted ((u == v) && (is_tag (x.memory.cached (e.target i)) o.current i v q && true)) for_tag) (put-other x.entries x.memory.taken new o.current apart)
help-same x new l k v o (InstallPointer i u q) apart = ap (λ (e : Entries). counted ((u == v) && (is_tag (x.memory.cached (e.target i)) o.current i v q && true)) for_tag) (put-other x.entries x.memory.taken new o.current apart)
help-same x new l k v o (RemoveTag i u q) apart = ap (λ (e : Entries). counted ((u == v) && (is_tag (x.memory.cached (e.target i)) o.current i v q && true)) for_tag) (put-other x.entries x.memory.taken new o.current apart)
help-same x new l k v o (AskFinal i d) apart = ap (λ (e : Entries). counted (is_dirty (x.memory.cached (e.target i)) (final_value e i d) && true) for_dirty) (put-other x.entries x.memory.taken new o.current apart)
help-same x new l k v o (FenceFinal i d) apart = ap (λ (e : Entries). counted (is_dirty (x.memory.cached (e.target i)) (final_value e i d) && true) for_dirty) (put-other x.entries x.memory.taken new o.current apart)
help-same x new l k v o (ClearFinal i d) apart = ap (λ (e : Entries). counted (is_dirty (x.memory.cached (e.target i)) (final_value e i d) && true) for_dirty) (put-other x.entries x.memory.taken new o.current apart)
help-same x new l k v o step apart = refl

published-apart : (x : State) (n s : ℕ) → IsBounded x n → x.memory.published s ≡ true → (b : Bool) → (s == x.memory.taken) ≡ b → b ≡ false
published-apart x n s bounded published false told = refl
published-apart x n s bounded published true told =
    let same : s ≡ x.memory.taken = grind (arith, common_steps, told) in
    differ (x.memory.published s) published (bounded.state.sound.not_begun s (omega (arith, same))).1

place-same : (x : State) (n : ℕ) (new : Entries) (l k : Local) (v : ℕ) (p : Place) → IsBounded x n → AtPlace x.entries x.memory v (x.local v) p
    → left_by_place (begun x new) false k (Prepare (WriteWord 0)) v (x.local v) p ≡ left_by_place (scene_of x) false l Idle v (x.local v) p
place-same x n new l k v (Help step) bounded known = help-same x new l k v (x.local v) step (published-apart x n (x.local v).current bounded known.0 ((x.local v).current == x.memory.taken) refl)
place-same x n new l k v p bounded known = refl

same-le : {a b : ℕ} → a ≡ b → a ≤ b
same-le is = omega (arith, is)

left-same : (x : State) (w n : ℕ) (new : Entries) → IsBounded x n → left_by_others (begun x new) w n (beginner x w new) (Prepare (WriteWord 0)) ≤ left_by_others (scene_of x) w n (x.local w) Idle
left-same x w n new bounded =
    others-le w (λ v. left_by (begun x new) false (beginner x w new) (Prepare (WriteWord 0)) v (x.local v)) (λ v. left_by (scene_of x) false (x.local w) Idle v (x.local v)) n
    (λ v. both (left_by_place (begun x new) false (beginner x w new) (Prepare (WriteWord 0)) v (x.local v) (x.local v).place) _ _ _ (place-same x n new (x.local w) (beginner x w new) v (x.local v).place bounded (bounded.state.knows v).place)
    (misses-same x new v (x.local v).place (x.local v).operation (bounded.state.knows v).owns))
  where
    both : (a b c d : ℕ) → a ≡ b → c ≡ d → a + c ≤ b + d
    both a b c d f g = omega (arith, f, g)

count-same : (x : State) (w n : ℕ) (new : Entries) → IsBounded x n → open_count (begun x new) w n ≤ open_count (scene_of x) w n
count-same x w n new bounded =
    others-le w (λ v. counted (is_open (begun x new) v) 1) (λ v. counted (is_open (scene_of x) v) 1) n
    (λ v. same-le (ap (λ b. counted b 1) (open_at-same x new v (x.local v).place (x.local v).operation (bounded.state.knows v).owns)))

put-same : (e : ℕ → Entries) (t : ℕ) (new : Entries) → put e t new t ≡ new
put-same e t new = let self : (t == t) ≡ true = grind (arith, common_steps) in rw self refl

-- what the first visit takes, the acts of its own, and the pointers
adds : (x : State) (w n : ℕ) (new : Entries) → IsBounded x n → new.count ≤ 4 → budget_at (begun x new) w n (beginner x w new) (Prepare (WriteWord 0)) ≤ budget_at (scene_of x) w n (x.local w) Idle + 128
adds x w n new bounded few =
    sums _ _ _ _ _ _ _ _ (walks-less (open_count (begun x new) w n) (open_count (scene_of x) w n) (count-same x w n new bounded)) (count-same x w n new bounded) (few-missing (is_decided (x.memory.status x.memory.taken))) (left-same x w n new bounded)
  where
    few-missing : (b : Bool) → (if b then 0 else sum_below (λ i. counted (not (is_pointer (x.memory.cached ((put x.entries x.memory.taken new x.memory.taken).target i)) x.memory.taken)) 1) (put x.entries x.memory.taken new x.memory.taken).count) ≤ 4
    few-missing true = omega arith
    few-missing false =
        let count : (put x.entries x.memory.taken new x.memory.taken).count ≡ new.count = ap (λ (k : Entries). k.count) (put-same x.entries x.memory.taken new) in
        omega (arith, ones-le (λ i. not (is_pointer (x.memory.cached ((put x.entries x.memory.taken new x.memory.taken).target i)) x.memory.taken)) (put x.entries x.memory.taken new x.memory.taken).count, count, few)

    sums : (z u r z' u' r' g k : ℕ) → z' ≤ z → u' ≤ u → k ≤ 4 → r' ≤ r → z' + level * u' + for_first + 0 + for_pointer * k + left_at (Prepare (WriteWord 0)) + r' ≤ z + level * u + g + 0 + 0 + 0 + r + 128
    sums z u r z' u' r' g k f1 f2 f3 f4 = omega (arith, f1, f2, f3, f4)

pub swaps_add_allowed : SwapsAddAllowed
swaps_add_allowed x w n new targets bounded may few =
    subst (λ k. k ≤ budget x w n + 128) (sym started) (subst (λ (p : Place). budget_at (begun x new) w n (beginner x w new) (Prepare (WriteWord 0)) ≤ budget_at (scene_of x) w n (x.local w) p + 128) (sym may.0) (adds x w n new bounded few))
  where
    started : budget (happens x (StartSwap w new targets)) w n ≡ budget_at (begun x new) w n (beginner x w new) (Prepare (WriteWord 0))
    started = budget-started (record x { entries = put x.entries x.memory.taken new; memory = with_taken x.memory w targets }) w n (beginner x w new)
