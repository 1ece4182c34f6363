-- An entry that holds its final value: what stands of the swap there is gone, and nothing else of any other swap.
use Rattle.std.proofs.Common.{◌≡◌, ◌==◌, ◌&&◌, not, nat_lt, if◌then◌else◌, ℕ, ◌*◌, ◌<◌, ◌≤◌, Bool, true, false, arith, refl, subst, Some, None}
use Rattle.std.proofs.lemmas.Bool.{lt-ltb}
use Rattle.std.proofs.lemmas.Grind.{common_steps}
use Rattle.std.specs.declared.option.Option.{Option}
use Rattle.bz_word.specs.declared.kind.WordKind.{WordKind}
use Rattle.bz_swap_machine.specs.declared.place.HelpStep.{HelpStep}
use Rattle.bz_swap_machine.specs.declared.place.Place.{Place}
use Rattle.bz_swap_machine.specs.declared.place.Place.TheVariants.{Help}
use Rattle.bz_swap_machine.specs.declared.worker.Operation.{Operation}
use Rattle.bz_swap_machine.specs.Budget.{level, open_above, walk_from, is_over, lags, lags_back, swept_in, is_over_at, is_swept, cleans_in}
use Rattle.bz_swap_machine.specs.HelpActs.{final_value}
use Rattle.bz_swap_machine.specs.Machine.{Memory}
use Rattle.bz_swap_machine.specs.Standing.{is_pointer, stands_for, is_tag, is_dirty, is_decided, is_through, missing, top, scene_of}
use Rattle.bz_swap_machine.specs.State.{State}
use Rattle.bz_swap_machine.specs.Steps.{Local, is_own}
use Rattle.bz_swap_machine.proofs.Closings.{undecided-apart}
use Rattle.bz_swap_machine.proofs.Compared.{NoMore, through-stays, top-less}
use Rattle.bz_swap_machine.proofs.Spends.{meets}
use Rattle.bz_swap_machine.proofs.Truths.{differ}
use Rattle.bz_swap_machine.proofs.Visits.{above-less, lags-implied, lt-between, missing-less}

-- the memory with other cached words
abbrev pub with_cached : Memory → (ℕ → WordKind) → Memory
with_cached m f = record m { cached = f }

-- the words after worker w, at a place in the last phase of its swap, is done with entry i
pub record Finishing (x : State) (f : ℕ → WordKind) (w i : ℕ) (p : HelpStep) : Type 0 where
  pub settled : is_decided (x.memory.status (x.local w).current) ≡ true
  pub swept : i ≤ swept_in p
  pub fewer_pointers : (b s : ℕ) → is_pointer (f b) s ≡ true → is_pointer (x.memory.cached b) s ≡ true
  pub more_pointers : (b s : ℕ) → is_pointer (x.memory.cached b) s ≡ true → is_pointer (f b) s ≡ true
  pub fewer_stands : (b s : ℕ) → stands_for (f b) s ≡ true → stands_for (x.memory.cached b) s ≡ true
  pub more_stands : (b s : ℕ) → (s == (x.local w).current) ≡ false → stands_for (x.memory.cached b) s ≡ true → stands_for (f b) s ≡ true
  pub tags : (b s j v q : ℕ) → is_tag (f b) s j v q ≡ true → is_tag (x.memory.cached b) s j v q ≡ true
  pub gone : (v q : ℕ) → is_tag (f ((x.entries (x.local w).current).target i)) (x.local w).current i v q ≡ true → i < swept_in p
  pub dirty : (b u : ℕ) → is_dirty (f b) u ≡ true → is_dirty (x.memory.cached b) u ≡ true
  pub clean : (b u : ℕ) → cleans_in (scene_of x) (x.local w).current p b u ≡ true → is_dirty (f b) u ≡ true → ⊥

pub told-false : (b : Bool) → (b ≡ true → ⊥) → b ≡ false
told-false false f = refl
told-false true f = absurd (f refl)

pub through-finishing : (x : State) (f : ℕ → WordKind) (w i : ℕ) (p : HelpStep) → Finishing x f w i p → (s : ℕ) → is_through (scene_of x) s ≡ true → is_through (meets x.entries x.local (with_cached x.memory f)) s ≡ true
through-finishing x f w i p finishing s = through-stays x.entries x.local x.memory (with_cached x.memory f) s (λ is. is) (λ j below. finishing.fewer_pointers ((x.entries s).target j) s)

pub through-before : (x : State) (f : ℕ → WordKind) (w i : ℕ) (p : HelpStep) → Finishing x f w i p → (s : ℕ) → is_through (meets x.entries x.local (with_cached x.memory f)) s ≡ true → is_through (scene_of x) s ≡ true
through-before x f w i p finishing s = through-stays x.entries x.local (with_cached x.memory f) x.memory s (λ is. is) (λ j below. finishing.more_pointers ((x.entries s).target j) s)

pub missing-finishing : (x : State) (f : ℕ → WordKind) (w i : ℕ) (p : HelpStep) → Finishing x f w i p → (s : ℕ) → missing (meets x.entries x.local (with_cached x.memory f)) s ≤ missing (scene_of x) s
missing-finishing x f w i p finishing s = missing-less x.entries x.local x.memory (with_cached x.memory f) s (λ is. is) (λ unset j below. finishing.more_pointers ((x.entries s).target j) s)

-- no other swap comes to reach higher than one that is not the worker's
pub higher-finishing : (x : State) (f : ℕ → WordKind) (w i : ℕ) (p : HelpStep) → Finishing x f w i p → (s t : ℕ) → (s == (x.local w).current) ≡ false
    → nat_lt (top (meets x.entries x.local (with_cached x.memory f)) s) (top (meets x.entries x.local (with_cached x.memory f)) t) ≡ true → nat_lt (top (scene_of x) s) (top (scene_of x) t) ≡ true
higher-finishing x f w i p finishing s t apart =
    lt-between (top (scene_of x) s) (top (meets x.entries x.local (with_cached x.memory f)) s) (top (scene_of x) t) (top (meets x.entries x.local (with_cached x.memory f)) t)
    (top-less x.entries x.local (with_cached x.memory f) x.memory s (λ j below. finishing.more_stands ((x.entries s).target j) s apart))
    (top-less x.entries x.local x.memory (with_cached x.memory f) t (λ j below. finishing.fewer_stands ((x.entries t).target j) t))

pub lags-finishing : (x : State) (f : ℕ → WordKind) (w i : ℕ) (p : HelpStep) → Finishing x f w i p → (o : Operation) (s : ℕ) → lags (meets x.entries x.local (with_cached x.memory f)) o s ≡ true → lags (scene_of x) o s ≡ true
lags-finishing x f w i p finishing o s =
    lags-implied x.entries x.local x.memory (with_cached x.memory f) o s (λ is. is) (λ t at unset. higher-finishing x f w i p finishing s t (undecided-apart x.memory s (x.local w).current finishing.settled unset))

pub back-finishing : (x : State) (f : ℕ → WordKind) (w i : ℕ) (p : HelpStep) → Finishing x f w i p → (o : Operation) (back : Option ℕ) → lags_back (meets x.entries x.local (with_cached x.memory f)) o back ≡ true → lags_back (scene_of x) o back ≡ true
back-finishing x f w i p finishing o None is = is
back-finishing x f w i p finishing o (Some b) is = lags-finishing x f w i p finishing o b is

through-apart : (x : State) (s c : ℕ) → is_through (scene_of x) c ≡ true → is_through (scene_of x) s ≡ false → (s == c) ≡ false
through-apart x s c through unfinished =
    told-false (s == c)
    (λ told.
    let same : c ≡ s = grind (arith, common_steps, told) in
    differ (is_through (scene_of x) s) (subst (λ k. is_through (scene_of x) k ≡ true) same through) unfinished)

either-less : (t : Bool) (a b a' b' : ℕ) → a' ≤ a → (t ≡ false → b' ≤ b) → (if t then a' else b') ≤ (if t then a else b)
either-less true a b a' b' f g = f
either-less false a b a' b' f g = g refl

decided-less : (d : Bool) (a b : ℕ) → a ≤ b → (if d then 0 else level * a) ≤ (if d then 0 else level * b)
decided-less true a b le = omega arith
decided-less false a b le = omega (arith, le)

-- the walk from one that is gone back to, once the visited swap is through
pub from-finishing : (x : State) (f : ℕ → WordKind) (w n i : ℕ) (p : HelpStep) → Finishing x f w i p → is_through (scene_of x) (x.local w).current ≡ true → (b : ℕ) → is_through (scene_of x) b ≡ false
    → walk_from (meets x.entries x.local (with_cached x.memory f)) (open_above (meets x.entries x.local (with_cached x.memory f)) w n) b ≤ walk_from (scene_of x) (open_above (scene_of x) w n) b
from-finishing x f w n i p finishing through b unfinished =
    decided-less (is_decided (x.memory.status b)) _ _
    (above-less x.entries x.local x.memory (with_cached x.memory f) w n b (through-finishing x f w i p finishing) (λ t. higher-finishing x f w i p finishing b t (through-apart x b (x.local w).current through unfinished)))

-- what a dirty value or a tag of another is counted by
cleans-none : (x : State) (f : ℕ → WordKind) (w i : ℕ) (p : HelpStep) → Finishing x f w i p → (b u : ℕ) → is_dirty (f b) u ≡ true → cleans_in (scene_of x) (x.local w).current p b u ≡ false
cleans-none x f w i p finishing b u stands = told-false (cleans_in (scene_of x) (x.local w).current p b u) (λ is. finishing.clean b u is stands)

-- a tag that stands is none that the visit had yet to take away, but for those of the entries after this one
pub record Sweeps (x : State) (f : ℕ → WordKind) (w i : ℕ) (p : HelpStep) (over : Bool) (k : Local) (q : Place) : Type 0 where
  pub ahead : (v s j t : ℕ) → is_tag (f ((x.entries s).target j)) s j v t ≡ true → is_swept over k q s j ≡ false → (s == (x.local w).current) ≡ true → is_through (scene_of x) (x.local w).current ≡ true → is_own (x.local w).operation (x.local w).current ≡ false → j ≤ i

swept-none : (over same : Bool) (j k : ℕ) → (over ≡ true → same ≡ true → j < k) → (over && (same && not (nat_lt j k))) ≡ false
swept-none false same j k f = refl
swept-none true false j k f = refl
swept-none true true j k f = let h : nat_lt j k ≡ true = lt-ltb j k (f refl refl) in rw h refl

over-parts : (x : State) (l : Local) → is_over (scene_of x) l ≡ true → (is_own l.operation l.current ≡ false) × (is_through (scene_of x) l.current ≡ true)
over-parts x l is = parts (is_own l.operation l.current) (is_through (scene_of x) l.current) is
  where
    parts : (a b : Bool) → (not a && b) ≡ true → (a ≡ false) × (b ≡ true)
    parts false b h = (refl, h)
    parts true b h = absurd cc

swept-before : (x : State) (f : ℕ → WordKind) (w i : ℕ) (p : HelpStep) → Finishing x f w i p → (v s j t : ℕ) → is_tag (f ((x.entries s).target j)) s j v t ≡ true → s ≡ (x.local w).current → j ≤ i → (b : Bool) → (j == i) ≡ b → j < swept_in p
swept-before x f w i p finishing v s j t is same le true told =
    let here : j ≡ i = grind (arith, common_steps, told) in
    let there : is_tag (f ((x.entries (x.local w).current).target j)) (x.local w).current j v t ≡ true = subst (λ k. is_tag (f ((x.entries k).target j)) k j v t ≡ true) same is in
    let below : i < swept_in p = finishing.gone v t (subst (λ k. is_tag (f ((x.entries (x.local w).current).target k)) (x.local w).current k v t ≡ true) here there) in
    omega (arith, below, here)
swept-before x f w i p finishing v s j t is same le false told =
    let apart : (j ≡ i) → ⊥ = λ here. absurd (grind (arith, common_steps, told, here)) in
    omega (arith, le, apart, finishing.swept)

pub nothing-finishing : (x : State) (f : ℕ → WordKind) (w i : ℕ) (p : HelpStep) (k : Local) (q : Place) → Finishing x f w i p → Sweeps x f w i p (is_over_at (meets x.entries x.local (with_cached x.memory f)) k q) k q
    → NoMore x.entries x.local x.memory (with_cached x.memory f) w (x.local w) k (Help p) q
nothing-finishing x f w i p k q finishing sweeps = record {
  through = through-finishing x f w i p finishing;
  missing = missing-finishing x f w i p finishing;
  tags = λ v s j t other is swept. (
    finishing.tags ((x.entries s).target j) s j v t is,
    swept-none (is_over (scene_of x) (x.local w)) (s == (x.local w).current) j (swept_in p)
        (λ over same.
        let parts : (is_own (x.local w).operation (x.local w).current ≡ false) × (is_through (scene_of x) (x.local w).current ≡ true) = over-parts x (x.local w) over in
        let here : s ≡ (x.local w).current = grind (arith, common_steps, same) in
        swept-before x f w i p finishing v s j t is here (sweeps.ahead v s j t is swept same parts.1 parts.0) (j == i) refl),
  );
  dirty = λ s j d is cleans. (finishing.dirty ((x.entries s).target j) (final_value (x.entries s) j d) is, cleans-none x f w i p finishing ((x.entries s).target j) (final_value (x.entries s) j d) is);
}
