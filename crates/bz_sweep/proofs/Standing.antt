-- What each phase knows stays by evictions, goes on by its own act, and says of the memory what it should.
use Rattle.std.proofs.Common.{◌≡◌, ◌≢◌, ℕ, ◌+◌, ◌*◌, ◌^◌, ◌<◌, ◌≤◌, Bool, true, false, arith, sym, ap, ◌∙◌, inl, inr, subst}
use Rattle.std.specs.Prelude.{if◌then◌else◌, ◌==◌, ◌%◌, Option, Some, None}
use Rattle.bz_content.specs.Resolving.{SUCCEEDED}
use Rattle.bz_word.specs.Kinds.{kind}
use Rattle.bz_word.specs.declared.kind.WordKind.TheVariants.{Swap}
use Rattle.bz_sweep.specs.declared.phase.Pointer.{Pointer}
use Rattle.bz_layout.specs.Addresses.{swap_address, line_of}
use Rattle.bz_sweep.specs.Areas.{size_of}
use Rattle.bz_sweep.specs.declared.area.Area.{Area}
use Rattle.bz_layout.specs.declared.sizes.TheConstants.{LINE_WORDS, MAX_ENTRIES, SWAP_STATUS_AT}
use Rattle.bz_sweep.proofs.Images.{plain-value}
use Rattle.bz_sweep.proofs.Finding.{pointer-found}
use Rattle.bz_sweep.proofs.Named.{Pointed, of-swap, of-entry}
use Rattle.bz_sweep.proofs.Freeings as freeing
use Rattle.bz_sweep.proofs.Sweeps as sweep
use Rattle.bz_sweep.specs.Duties.{Stage, Asked, Made, IsSought, IsValueAt, IsUnresolved, knows_before, knows_after, knows_in, asks_in}
use Rattle.bz_sweep.specs.Laws.{IsAskable}
use Rattle.bz_sweep.specs.Memory.{Memory, StoresWord, Copies, Flushes}
use Rattle.bz_sweep.specs.Places.{IsPlaced, IsPlace}
use Rattle.bz_sweep.specs.Words.{IsShared, IsOfSwap, IsImage, IsPoweredOn, IsSwept, IsRecovered}
use Rattle.bz_sweep.specs.declared.ask.Ask.{Ask}
use Rattle.bz_sweep.specs.declared.ask.Ask.TheVariants.{Load, Store, Flush as FlushLine, Finish}
use Rattle.bz_sweep.specs.declared.phase.SweepPhase.{SweepPhase}
use Rattle.bz_sweep.specs.declared.phase.SweepPhase.TheVariants.{Fresh, Word, Status, Target, Value, Resolve, Flush, SwapStatus, Free, FlushFree, Done}

-- the durable words resolve to the same values in every phase
pub image-before : (r : Area) (v : ℕ → ℕ) (m : Memory) (p : SweepPhase) → knows_before r v m p → IsImage r v m.durable
image-before r v m Fresh k = k.image
image-before r v m (Word p) k = k.image
image-before r v m (Status p s) k = k.0.image
image-before r v m (Target p q i) k = k.0.image
image-before r v m (Value p a) k = k.0.image
image-before r v m (Resolve p x) k = k.0.image
image-before r v m (Flush p) k = k.image
image-before r v m (SwapStatus s) k = k.image
image-before r v m (Free s) k = k.0.image
image-before r v m (FlushFree s) k = k.image
image-before r v m Done k = k.image

image-after : (r : Area) (v : ℕ → ℕ) (m : Memory) (p : SweepPhase) → knows_after r v m p → IsImage r v m.durable
image-after r v m Fresh k = k.image
image-after r v m (Word p) k = k.image
image-after r v m (Status p s) k = k.0.image
image-after r v m (Target p q i) k = k.0.image
image-after r v m (Value p a) k = k.0.image
image-after r v m (Resolve p x) k = k.image
image-after r v m (Flush p) k = k.image
image-after r v m (SwapStatus s) k = k.image
image-after r v m (Free s) k = k.image
image-after r v m (FlushFree s) k = k.image
image-after r v m Done k = k.image

pub image : (r : Area) (v : ℕ → ℕ) (m : Memory) (stage : Stage) (p : SweepPhase) → knows_in r v m stage p → IsImage r v m.durable
image r v m Asked p k = image-before r v m p k
image r v m Made p k = image-after r v m p k

-- a load changes nothing
pub loaded : (r : Area) (v : ℕ → ℕ) (m : Memory) (a : ℕ) (p : SweepPhase) → asks_in p ≡ Some (Load a) → knows_before r v m p → knows_after r v m p
loaded r v m a Fresh e k = k
loaded r v m a (Word p) e k = k
loaded r v m a (Status p s) e k = k
loaded r v m a (Target p q i) e k = k
loaded r v m a (Value p b) e k = k
loaded r v m a (Resolve p x) e k = absurd (cc)
loaded r v m a (Flush p) e k = absurd (cc)
loaded r v m a (SwapStatus s) e k = k
loaded r v m a (Free s) e k = absurd (cc)
loaded r v m a (FlushFree s) e k = absurd (cc)
loaded r v m a Done e k = k

-- a sweep that has ended
pub ends : (r : Area) (v : ℕ → ℕ) (m : Memory) (stage : Stage) (p : SweepPhase) → knows_in r v m stage p → asks_in p ≡ Some Finish → IsRecovered r v m
ends r v m Asked Done k e = freeing.ended r v m k
ends r v m Made Done k e = freeing.ended r v m k
ends r v m stage Fresh k e = absurd (cc)
ends r v m stage (Word p) k e = absurd (cc)
ends r v m stage (Status p s) k e = absurd (cc)
ends r v m stage (Target p q i) k e = absurd (cc)
ends r v m stage (Value p b) k e = absurd (cc)
ends r v m stage (Resolve p x) k e = absurd (cc)
ends r v m stage (Flush p) k e = absurd (cc)
ends r v m stage (SwapStatus s) k e = absurd (cc)
ends r v m stage (Free s) k e = absurd (cc)
ends r v m stage (FlushFree s) k e = absurd (cc)

-- to whom nothing has to be told
pub ended : (r : Area) (v : ℕ → ℕ) (m : Memory) (stage other : Stage) (p : SweepPhase) → asks_in p ≡ Some Finish → knows_in r v m stage p → knows_in r v m other p
ended r v m Asked Asked Done e k = k
ended r v m Asked Made Done e k = k
ended r v m Made Asked Done e k = k
ended r v m Made Made Done e k = k
ended r v m stage other Fresh e k = absurd (cc)
ended r v m stage other (Word p) e k = absurd (cc)
ended r v m stage other (Status p s) e k = absurd (cc)
ended r v m stage other (Target p q i) e k = absurd (cc)
ended r v m stage other (Value p b) e k = absurd (cc)
ended r v m stage other (Resolve p x) e k = absurd (cc)
ended r v m stage other (Flush p) e k = absurd (cc)
ended r v m stage other (SwapStatus s) e k = absurd (cc)
ended r v m stage other (Free s) e k = absurd (cc)
ended r v m stage other (FlushFree s) e k = absurd (cc)

-- a durable word that a copy does not change
alike : (b : Bool) (x y z : ℕ) → z ≡ (if b then x else y) → x ≡ y → z ≡ y
alike true x y z e p = e ∙ p
alike false x y z e p = e

pub first-of-swap : (r : Area) (s : ℕ) → s < r.swaps → IsOfSwap r (swap_address s)
first-of-swap r s number = record {
  within = omega arith;
  inside = λ o. elim o [ inl below ↦ omega arith | inr above ↦ omega arith ];
}

powered-stays : (r : Area) (v : ℕ → ℕ) (m n : Memory) (f : ℕ → Bool) → IsPoweredOn r v m → Copies m n f → IsPoweredOn r v n
powered-stays r v m n f h k =
    let g : IsSwept r v n 0 0 = sweep.copied r v m n f 0 0 (sweep.powered-on r v m h) k in
    record { image = g.image; same = λ a within. k.cached a ∙ (h.same a within ∙ sym (alike (f a) _ _ _ (k.durable a) (h.same a within))) }

sought : (r : Area) (v : ℕ → ℕ) (m n : Memory) (f : ℕ → Bool) (u a : ℕ) (q : Pointer) (i : ℕ) → IsShared r a → i ≤ MAX_ENTRIES → IsSwept r v m u a → Copies m n f → IsSought m a q i → IsSought n a q i
sought r v m n f u a q i shared few h k t =
    let p : Pointed r m.durable a q.swap = pointer-found r v m u a q.swap shared h t.pointer in
    let here : n.durable a ≡ m.durable a = alike (f a) _ _ _ (k.durable a) (h.ahead a shared (omega arith)) in
    let swaps = λ (b : ℕ) (s : IsOfSwap r b). alike (f b) (m.cached b) (m.durable b) (n.durable b) (k.durable b) (h.swaps b s) in
    record {
      pointer = ap kind here ∙ t.pointer;
      succeeded = t.succeeded ∙ ap (λ y. y % 2 ^ 63 == SUCCEEDED) (sym (swaps _ (of-swap r q.swap SWAP_STATUS_AT p.has.begun.number (omega arith))));
      others = λ j l e. t.others j l (sym (swaps _ (of-entry r q.swap j 0 p.has.begun.number (omega (arith, l, few)) (omega arith))) ∙ e);
    }

value : (r : Area) (v : ℕ → ℕ) (m n : Memory) (f : ℕ → Bool) (u a b : ℕ) → IsSwept r v m u a → Copies m n f → IsValueAt r v m a b → IsValueAt r v n a b
value r v m n f u a b h k t = record { place = t.place; value = alike (f b) _ _ _ (k.durable b) (h.swaps b t.place) ∙ t.value }

unresolved : (r : Area) (v : ℕ → ℕ) (m n : Memory) (f : ℕ → Bool) (u a : ℕ) → IsShared r a → IsSwept r v m u a → Copies m n f → IsUnresolved m a → IsUnresolved n a
unresolved r v m n f u a shared h k e = subst (λ x. 2 ^ 61 ≤ x) (sym (alike (f a) _ _ _ (k.durable a) (h.ahead a shared (omega arith)))) e

pointer : (r : Area) (v : ℕ → ℕ) (m n : Memory) (f : ℕ → Bool) (u a s : ℕ) → IsShared r a → IsSwept r v m u a → Copies m n f → kind (m.durable a) ≡ Swap s → kind (n.durable a) ≡ Swap s
pointer r v m n f u a s shared h k e = ap kind (alike (f a) _ _ _ (k.durable a) (h.ahead a shared (omega arith))) ∙ e

stable-before : (r : Area) (v : ℕ → ℕ) (m n : Memory) (f : ℕ → Bool) (p : SweepPhase) → IsPlace r p → Copies m n f → knows_before r v m p → knows_before r v n p
stable-before r v m n f Fresh at k h = powered-stays r v m n f h k
stable-before r v m n f (Word p) at k h = sweep.copied r v m n f _ _ h k
stable-before r v m n f (Status p s) at k h = (sweep.copied r v m n f _ _ h.0 k, pointer r v m n f _ _ s at.shared h.0 k h.1)
stable-before r v m n f (Target p q i) at k h = (sweep.copied r v m n f _ _ h.0 k, sought r v m n f _ _ q i at.0.shared (omega (arith, at.1)) h.0 k h.1)
stable-before r v m n f (Value p a) at k h = (sweep.copied r v m n f _ _ h.0 k, value r v m n f _ _ a h.0 k h.1, unresolved r v m n f _ _ at.shared h.0 k h.2)
stable-before r v m n f (Resolve p x) at k h = (sweep.copied r v m n f _ _ h.0 k, h.1, unresolved r v m n f _ _ at.shared h.0 k h.2)
stable-before r v m n f (Flush p) at k h = sweep.copied r v m n f _ _ h k
stable-before r v m n f (SwapStatus s) at k h = freeing.copied r v m n f s s (omega arith) h k
stable-before r v m n f (Free s) at k h = (freeing.copied r v m n f s s (omega arith) h.0 k, λ free. h.1 (sym (k.cached (swap_address s)) ∙ free))
stable-before r v m n f (FlushFree s) at k h = freeing.copied r v m n f s (s + 1) (omega arith) h k
stable-before r v m n f Done at k h = freeing.copied r v m n f r.swaps r.swaps (omega arith) h k

stable-after : (r : Area) (v : ℕ → ℕ) (m n : Memory) (f : ℕ → Bool) (p : SweepPhase) → IsPlace r p → Copies m n f → knows_after r v m p → knows_after r v n p
stable-after r v m n f Fresh at k h = powered-stays r v m n f h k
stable-after r v m n f (Word p) at k h = sweep.copied r v m n f _ _ h k
stable-after r v m n f (Status p s) at k h = (sweep.copied r v m n f _ _ h.0 k, pointer r v m n f _ _ s at.shared h.0 k h.1)
stable-after r v m n f (Target p q i) at k h = (sweep.copied r v m n f _ _ h.0 k, sought r v m n f _ _ q i at.0.shared (omega (arith, at.1)) h.0 k h.1)
stable-after r v m n f (Value p a) at k h = (sweep.copied r v m n f _ _ h.0 k, value r v m n f _ _ a h.0 k h.1, unresolved r v m n f _ _ at.shared h.0 k h.2)
stable-after r v m n f (Resolve p x) at k h = sweep.copied r v m n f _ _ h k
stable-after r v m n f (Flush p) at k h = sweep.copied r v m n f _ _ h k
stable-after r v m n f (SwapStatus s) at k h = freeing.copied r v m n f s s (omega arith) h k
stable-after r v m n f (Free s) at k h = freeing.copied r v m n f s (s + 1) (omega arith) h k
stable-after r v m n f (FlushFree s) at k h = freeing.copied r v m n f (s + 1) (s + 1) (omega arith) h k
stable-after r v m n f Done at k h = freeing.copied r v m n f r.swaps r.swaps (omega arith) h k

-- copies of any words change nothing of what is known
pub stable : (r : Area) (v : ℕ → ℕ) (m n : Memory) (f : ℕ → Bool) (stage : Stage) (p : SweepPhase) → IsPlaced r p → Copies m n f → knows_in r v m stage p → knows_in r v n stage p
stable r v m n f Asked p at k h = stable-before r v m n f p at.place k h
stable r v m n f Made p at k h = stable-after r v m n f p at.place k h

-- its own store
pub stored : (r : Area) (v : ℕ → ℕ) (m n : Memory) (a x : ℕ) (p : SweepPhase) → IsPlace r p → asks_in p ≡ Some (Store a x) → StoresWord m n a x → knows_before r v m p → knows_after r v n p
stored r v m n a x Fresh at e k h = absurd (cc)
stored r v m n a x (Word p) at e k h = absurd (cc)
stored r v m n a x (Status p s) at e k h = absurd (cc)
stored r v m n a x (Target p q i) at e k h = absurd (cc)
stored r v m n a x (Value p b) at e k h = absurd (cc)
stored r v m n a x (Resolve p y) at e k h =
    let place : a ≡ p.at = cc in
    let word : x ≡ y = cc in
    sweep.stored r v m n p.unflushed p.at y at.shared h.0 h.1 (subst (λ b. StoresWord m n b y) place (subst (StoresWord m n a) word k))
stored r v m n a x (Flush p) at e k h = absurd (cc)
stored r v m n a x (SwapStatus s) at e k h = absurd (cc)
stored r v m n a x (Free s) at e k h =
    let place : a ≡ swap_address s = cc in
    let word : x ≡ 0 = cc in
    freeing.stored r v m n s s (first-of-swap r s at) h.0 (subst (λ b. StoresWord m n b 0) place (subst (StoresWord m n a) word k))
stored r v m n a x (FlushFree s) at e k h = absurd (cc)
stored r v m n a x Done at e k h = absurd (cc)

-- its own flush
pub flushed : (r : Area) (v : ℕ → ℕ) (m n : Memory) (line : ℕ) (p : SweepPhase) → IsPlace r p → asks_in p ≡ Some (FlushLine line) → Flushes m n line → knows_before r v m p → knows_after r v n p
flushed r v m n line Fresh at e k h = absurd (cc)
flushed r v m n line (Word p) at e k h = absurd (cc)
flushed r v m n line (Status p s) at e k h = absurd (cc)
flushed r v m n line (Target p q i) at e k h = absurd (cc)
flushed r v m n line (Value p b) at e k h = absurd (cc)
flushed r v m n line (Resolve p y) at e k h = absurd (cc)
flushed r v m n line (Flush p) at e k h =
    let same : line ≡ line_of p.at = cc in
    sweep.flushed r v m n p.unflushed p.at at.0.order at.0.line h (subst (Flushes m n) same k)
flushed r v m n line (SwapStatus s) at e k h = absurd (cc)
flushed r v m n line (Free s) at e k h = absurd (cc)
flushed r v m n line (FlushFree s) at e k h =
    let same : line ≡ line_of (swap_address s) = cc in
    freeing.flushed r v m n s h (subst (Flushes m n) same k)
flushed r v m n line Done at e k h = absurd (cc)

line-within : (a words : ℕ) → a < words → line_of a * LINE_WORDS < words
line-within a words l = omega (arith, l)

asked : Area → Option Ask → Type 0
asked r None = Unit {0}
asked r (Some ask) = IsAskable r ask

told : (r : Area) (v : ℕ → ℕ) (m : Memory) (p : SweepPhase) → IsPlace r p → knows_before r v m p → asked r (asks_in p)
unfolding asked
told r v m Fresh at h = tt
told r v m (Word p) at h = at.shared.within
told r v m (Status p s) at h = let t : Pointed r m.durable p.at s = pointer-found r v m p.unflushed p.at s at.shared h.0 h.1 in (of-swap r s SWAP_STATUS_AT t.has.begun.number (omega arith)).within
told r v m (Target p q i) at h = let t : Pointed r m.durable p.at q.swap = pointer-found r v m p.unflushed p.at q.swap at.0.shared h.0 h.1.pointer in (of-entry r q.swap i 0 t.has.begun.number at.1 (omega arith)).within
told r v m (Value p a) at h = h.1.place.within
told r v m (Resolve p x) at h = (at.shared.within, rw h.1 (plain-value r v m.durable h.0.image p.at at.shared))
told r v m (Flush p) at h = line-within p.at (size_of r) at.0.shared.within
told r v m (SwapStatus s) at h = (first-of-swap r s at).within
told r v m (Free s) at h = ((first-of-swap r s at).within, omega arith)
told r v m (FlushFree s) at h = line-within (swap_address s) (size_of r) (first-of-swap r s at).within
told r v m Done at h = tt

-- what is asked for lies in the memory
pub askable : (r : Area) (v : ℕ → ℕ) (m : Memory) (p : SweepPhase) (ask : Ask) → IsPlace r p → knows_before r v m p → asks_in p ≡ Some ask → IsAskable r ask
unfolding asked
askable r v m p ask at h e = subst (asked r) e (told r v m p at h)

-- what is stored is another word than the one that stands
pub differs : (r : Area) (v : ℕ → ℕ) (m : Memory) (p : SweepPhase) (a x : ℕ) → IsPlace r p → knows_before r v m p → asks_in p ≡ Some (Store a x) → m.cached a ≢ x
differs r v m Fresh a x at h e = absurd (cc)
differs r v m (Word p) a x at h e = absurd (cc)
differs r v m (Status p s) a x at h e = absurd (cc)
differs r v m (Target p q i) a x at h e = absurd (cc)
differs r v m (Value p b) a x at h e = absurd (cc)
differs r v m (Resolve p y) a x at h e = λ same.
    let place : a ≡ p.at = cc in
    let word : x ≡ y = cc in
    let small : v p.at < 2 ^ 61 = plain-value r v m.durable h.0.image p.at at.shared in
    let stands : m.cached p.at ≡ m.durable p.at = h.0.ahead p.at at.shared (omega arith) in
    let is : m.cached p.at ≡ x = subst (λ b. m.cached b ≡ x) place same in
    omega (arith, small, stands, is, word, h.1, h.2)
differs r v m (Flush p) a x at h e = absurd (cc)
differs r v m (SwapStatus s) a x at h e = absurd (cc)
differs r v m (Free s) a x at h e = λ same.
    let place : a ≡ swap_address s = cc in
    let word : x ≡ 0 = cc in
    h.1 (subst (λ b. m.cached b ≡ x) place same ∙ word)
differs r v m (FlushFree s) a x at h e = absurd (cc)
differs r v m Done a x at h e = absurd (cc)
