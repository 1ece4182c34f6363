-- How many pointers may still come: each stands at the target of an entry that no other has.
use Rattle.std.proofs.Common.{◌≡◌, ℕ, zero, suc, ◌+◌, ◌-◌, ◌*◌, ◌<◌, ◌≤◌, Bool, true, false, arith, refl, sym, ap, ◌∙◌, inl, inr}
use Rattle.std.specs.Prelude.{nat_le, if◌then◌else◌}
use Rattle.std.proofs.lemmas.Bool.{cases_eq, cases_lt}
use Rattle.std.proofs.lemmas.Bool.Decides.{nat_tests}
use Rattle.bz_content.specs.Resolving.{target_in}
use Rattle.bz_sweep.specs.Areas.{size_of}
use Rattle.bz_sweep.specs.declared.area.Area.{Area}
use Rattle.bz_layout.specs.declared.sizes.TheConstants.{MAX_ENTRIES}
use Rattle.bz_word.specs.Kinds.{kind}
use Rattle.bz_word.specs.declared.kind.WordKind.TheVariants.{Swap as ToSwap}
use Rattle.bz_sweep.proofs.Finding.{pointer-found}
use Rattle.bz_sweep.proofs.Named.{Pointed, of-entry}
use Rattle.bz_sweep.specs.Duties.{Stage, Asked, Made, knows_before, knows_after, knows_in}
use Rattle.bz_sweep.specs.Memory.{Memory, Copies}
use Rattle.bz_sweep.specs.Places.{IsPlaced, IsFalling, IsCounted, targets_from, all_targets, pointers_in, left_in, sweep_acts}
use Rattle.bz_sweep.specs.Words.{IsShared, IsOfSwap, IsSwept}
use Rattle.bz_sweep.specs.declared.phase.SweepPhase.{SweepPhase}
use Rattle.bz_sweep.specs.declared.phase.SweepPhase.TheVariants.{Fresh, Word, Status, Target, Value, Resolve, Flush, SwapStatus, Free, FlushFree, Done}

-- whether a target is counted
one-falls : (a b t : ℕ) → a ≤ b → (if nat_le b t then 1 else 0) ≤ (if nat_le a t then 1 else 0)
one-falls a b t l = elim (cases_lt t b) [
  | inl below ↦ (let p : nat_le b t ≡ false = grind (arith, nat_tests) in rw p (omega arith))
  | inr above ↦ (let p : nat_le b t ≡ true = grind (arith, nat_tests) in let q : nat_le a t ≡ true = grind (arith, nat_tests) in rw (p, q) (omega arith))
]

one-here : (a t : ℕ) → t ≡ a → (if nat_le (a + 1) t then 1 else 0) + 1 ≤ (if nat_le a t then 1 else 0)
one-here a t e = let p : nat_le (a + 1) t ≡ false = grind (arith, nat_tests) in let q : nat_le a t ≡ true = grind (arith, nat_tests) in rw (p, q) (omega arith)

one-most : (b : Bool) → (if b then 1 else 0) ≤ 1
one-most true = omega arith
one-most false = omega arith

-- those of one descriptor
targets-fall : (raw : ℕ → ℕ) (a b s n : ℕ) → a ≤ b → targets_from raw b s n ≤ targets_from raw a s n
unfolding targets_from
targets-fall raw a b s zero l = omega arith
targets-fall raw a b s (suc n) l = omega (arith, one-falls a b (target_in raw s n) l, targets-fall raw a b s n l)

target-here : (raw : ℕ → ℕ) (a s n i : ℕ) → i < n → target_in raw s i ≡ a → targets_from raw (a + 1) s n + 1 ≤ targets_from raw a s n
unfolding targets_from
target-here raw a s zero i l e = absurd (omega arith)
target-here raw a s (suc n) i l e = elim (cases_eq i n) [
  | inl same ↦ omega (arith, one-here a (target_in raw s n) (ap (target_in raw s) (sym same) ∙ e), targets-fall raw a (a + 1) s n (omega arith))
  | inr other ↦ omega (arith, one-falls a (a + 1) (target_in raw s n) (omega arith), target-here raw a s n i (omega (arith, l, other)) e)
]

few-targets : (raw : ℕ → ℕ) (a s n : ℕ) → targets_from raw a s n ≤ n
unfolding targets_from
few-targets raw a s zero = omega arith
few-targets raw a s (suc n) = omega (arith, one-most (nat_le a (target_in raw s n)), few-targets raw a s n)

same-targets : (x y : ℕ → ℕ) (a s n : ℕ) → ((i : ℕ) → i < n → target_in y s i ≡ target_in x s i) → targets_from y a s n ≡ targets_from x a s n
unfolding targets_from
same-targets x y a s zero same = refl
same-targets x y a s (suc n) same = rw (same n (omega arith), same-targets x y a s n (λ i l. same i (omega (arith, l)))) refl

-- and of all
all-fall : (raw : ℕ → ℕ) (a b n : ℕ) → a ≤ b → all_targets raw b n ≤ all_targets raw a n
unfolding all_targets
all-fall raw a b zero l = omega arith
all-fall raw a b (suc n) l = omega (arith, targets-fall raw a b n MAX_ENTRIES l, all-fall raw a b n l)

all-here : (raw : ℕ → ℕ) (a s i n : ℕ) → s < n → i < MAX_ENTRIES → target_in raw s i ≡ a → all_targets raw (a + 1) n + 1 ≤ all_targets raw a n
unfolding all_targets
all-here raw a s i zero l k e = absurd (omega arith)
all-here raw a s i (suc n) l k e = elim (cases_eq s n) [
  | inl same ↦ omega (arith, target-here raw a n MAX_ENTRIES i k (ap (λ z. target_in raw z i) (sym same) ∙ e), all-fall raw a (a + 1) n (omega arith))
  | inr other ↦ omega (arith, targets-fall raw a (a + 1) n MAX_ENTRIES (omega arith), all-here raw a s i n (omega (arith, l, other)) k e)
]

few-all : (raw : ℕ → ℕ) (a n : ℕ) → all_targets raw a n ≤ MAX_ENTRIES * n
unfolding all_targets
few-all raw a zero = omega arith
few-all raw a (suc n) = omega (arith, few-targets raw a n MAX_ENTRIES, few-all raw a n)

same-all : (x y : ℕ → ℕ) (a n : ℕ) → ((s i : ℕ) → s < n → i < MAX_ENTRIES → target_in y s i ≡ target_in x s i) → all_targets y a n ≡ all_targets x a n
unfolding all_targets
same-all x y a zero same = refl
same-all x y a (suc n) same = rw (same-targets x y a n MAX_ENTRIES (λ i l. same n i (omega arith) l), same-all x y a n (λ s i l k. same s i (omega (arith, l)) k)) refl

-- further on there are no more
pub pointers-fall : (r : Area) (raw : ℕ → ℕ) → IsFalling (pointers_in r raw)
pointers-fall r raw a b l = all-fall raw a b r.swaps l

-- a pointer that is known is one of them
pointer-counts : (r : Area) (v : ℕ → ℕ) (m : Memory) (u a s : ℕ) → IsShared r a → IsSwept r v m u a → kind (m.durable a) ≡ ToSwap s → pointers_in r m.durable (a + 1) < pointers_in r m.durable a
pointer-counts r v m u a s shared h k =
    let p : Pointed r m.durable a s = pointer-found r v m u a s shared h k in
    omega (arith, all-here m.durable a s p.entry r.swaps p.has.begun.number (omega (arith, p.has.entry, p.has.begun.few)) p.has.target)

-- where each word that comes is counted as one
pub each-counts : (r : Area) (p : SweepPhase) → IsPlaced r p → IsCounted (λ a. size_of r - a) p
each-counts r (Target p q i) at = let l = at.place.0.shared.within in omega (arith, l)
each-counts r Fresh at = tt
each-counts r (Word p) at = tt
each-counts r (Status p s) at = tt
each-counts r (Value p a) at = tt
each-counts r (Resolve p x) at = tt
each-counts r (Flush p) at = tt
each-counts r (SwapStatus s) at = tt
each-counts r (Free s) at = tt
each-counts r (FlushFree s) at = tt
each-counts r Done at = tt

pub is-counted : (r : Area) (v : ℕ → ℕ) (m : Memory) (p : SweepPhase) → IsPlaced r p → knows_after r v m p → IsCounted (pointers_in r m.durable) p
is-counted r v m (Target p q i) at k = pointer-counts r v m p.unflushed p.at q.swap at.place.0.shared k.0 k.1.pointer
is-counted r v m Fresh at k = tt
is-counted r v m (Word p) at k = tt
is-counted r v m (Status p s) at k = tt
is-counted r v m (Value p a) at k = tt
is-counted r v m (Resolve p x) at k = tt
is-counted r v m (Flush p) at k = tt
is-counted r v m (SwapStatus s) at k = tt
is-counted r v m (Free s) at k = tt
is-counted r v m (FlushFree s) at k = tt
is-counted r v m Done at k = tt

-- at the first word there are no more pointers than entries
pub few-acts : (r : Area) (raw : ℕ → ℕ) → left_in r (pointers_in r raw) Fresh ≤ sweep_acts r
few-acts r raw = omega (arith, few-all raw 0 r.swaps)

-- the descriptors stay by evictions and fences, as long as they are not made free
stays : (r : Area) (m n : Memory) (f : ℕ → Bool) → ((a : ℕ) → IsOfSwap r a → m.cached a ≡ m.durable a) → Copies m n f → (a : ℕ) → pointers_in r n.durable a ≡ pointers_in r m.durable a
stays r m n f same h a = same-all m.durable n.durable a r.swaps (λ s i l k. h.durable _ ∙ chosen (f _) (same _ (of-entry r s i 0 l k (omega arith))))
  where
    chosen : {x y : ℕ} (b : Bool) → x ≡ y → (if b then x else y) ≡ y
    chosen true e = e
    chosen false e = refl

pub stored-left : (r : Area) (m n : Memory) (p : SweepPhase) → ((b : ℕ) → n.durable b ≡ m.durable b) → left_in r (pointers_in r n.durable) p ≡ left_in r (pointers_in r m.durable) p
stored-left r m n p same = ap (λ (pointers : ℕ → ℕ). left_in r pointers p) (λ i a. same-all m.durable n.durable a r.swaps (λ s j l k. same _) i)

-- so what is left stays
by-pointers : (r : Area) (x y : ℕ → ℕ) (p : SweepPhase) → ((a : ℕ) → y a ≡ x a) → left_in r y p ≡ left_in r x p
by-pointers r x y p same = ap (λ (pointers : ℕ → ℕ). left_in r pointers p) (λ i a. same a i)

left-before : (r : Area) (v : ℕ → ℕ) (m n : Memory) (f : ℕ → Bool) (p : SweepPhase) → knows_before r v m p → Copies m n f → left_in r (pointers_in r n.durable) p ≡ left_in r (pointers_in r m.durable) p
left-before r v m n f Fresh k h = by-pointers r (pointers_in r m.durable) (pointers_in r n.durable) Fresh (stays r m n f (λ a s. k.same a s.within) h)
left-before r v m n f (Word p) k h = by-pointers r (pointers_in r m.durable) (pointers_in r n.durable) (Word p) (stays r m n f k.swaps h)
left-before r v m n f (Status p s) k h = by-pointers r (pointers_in r m.durable) (pointers_in r n.durable) (Status p s) (stays r m n f k.0.swaps h)
left-before r v m n f (Target p q i) k h = by-pointers r (pointers_in r m.durable) (pointers_in r n.durable) (Target p q i) (stays r m n f k.0.swaps h)
left-before r v m n f (Value p a) k h = by-pointers r (pointers_in r m.durable) (pointers_in r n.durable) (Value p a) (stays r m n f k.0.swaps h)
left-before r v m n f (Resolve p x) k h = by-pointers r (pointers_in r m.durable) (pointers_in r n.durable) (Resolve p x) (stays r m n f k.0.swaps h)
left-before r v m n f (Flush p) k h = by-pointers r (pointers_in r m.durable) (pointers_in r n.durable) (Flush p) (stays r m n f k.swaps h)
left-before r v m n f (SwapStatus s) k h = refl
left-before r v m n f (Free s) k h = refl
left-before r v m n f (FlushFree s) k h = refl
left-before r v m n f Done k h = refl

left-after : (r : Area) (v : ℕ → ℕ) (m n : Memory) (f : ℕ → Bool) (p : SweepPhase) → knows_after r v m p → Copies m n f → left_in r (pointers_in r n.durable) p ≡ left_in r (pointers_in r m.durable) p
left-after r v m n f (Resolve p x) k h = by-pointers r (pointers_in r m.durable) (pointers_in r n.durable) (Resolve p x) (stays r m n f k.swaps h)
left-after r v m n f (Flush p) k h = by-pointers r (pointers_in r m.durable) (pointers_in r n.durable) (Flush p) (stays r m n f k.swaps h)
left-after r v m n f Fresh k h = left-before r v m n f Fresh k h
left-after r v m n f (Word p) k h = left-before r v m n f (Word p) k h
left-after r v m n f (Status p s) k h = left-before r v m n f (Status p s) k h
left-after r v m n f (Target p q i) k h = left-before r v m n f (Target p q i) k h
left-after r v m n f (Value p a) k h = left-before r v m n f (Value p a) k h
left-after r v m n f (SwapStatus s) k h = refl
left-after r v m n f (Free s) k h = refl
left-after r v m n f (FlushFree s) k h = refl
left-after r v m n f Done k h = refl

pub copied-left : (r : Area) (v : ℕ → ℕ) (m n : Memory) (f : ℕ → Bool) (stage : Stage) (p : SweepPhase) → knows_in r v m stage p → Copies m n f → left_in r (pointers_in r n.durable) p ≡ left_in r (pointers_in r m.durable) p
copied-left r v m n f Asked p k h = left-before r v m n f p k h
copied-left r v m n f Made p k h = left-after r v m n f p k h
