-- Where each swap is one worker's at most, nothing but a foreign effect changes the number of rivals.
use Rattle.std.specs.Prelude.{◌≡◌, ◌≢◌, ◌==◌, ◌&&◌, ℕ, ◌+◌, ◌≤◌, Bool, true, false, not, length, Option, None, Some}
use Rattle.std.proofs.Common.{arith, refl, ap, ◌∙◌, inl, inr}
use Rattle.std.proofs.lemmas.Bool.{cases_eq, eqb-true, eq-eqb}
use Rattle.bz_swap_machine.specs.Allowed.{counted}
use Rattle.bz_swap.specs.Effects.{EffectIs, TakesEffect}
use Rattle.bz_swap.specs.Settled.{AreOwned}
use Rattle.bz_swap.specs.SwapMemory.{SwapMemory, Doing, Idle, Reading, Swapping, Loading, Storing, Flushing, has_effect, doing_of}
use Rattle.bz_rivals.specs.Laws.{RivalsAreExact}
use Rattle.bz_rivals.specs.Rivals.{is_pending, is_rival, rivals, is_own, foreign}
use Rattle.bz_rivals.proofs.Falls.{one, falls}
use Rattle.bz_rivals.proofs.Frames.{IsFrame, frame-act, frame-eviction, eviction-effect}
use Rattle.bz_rivals.proofs.Sums.{sum-same, sum-rise}

-- a worker counts as it did where the effect of its swap is as it was
same-pending : (old new : SwapMemory) (d : Doing) → ((s : ℕ) → d ≡ Swapping s → has_effect new s ≡ has_effect old s) → is_pending new d ≡ is_pending old d
same-pending old new Idle same = refl
same-pending old new (Reading a) same = refl
same-pending old new (Swapping s) same = ap not (same s refl)
same-pending old new (Loading a) same = refl
same-pending old new (Storing a v) same = refl
same-pending old new (Flushing line) same = refl

abbrev IsAsBefore : SwapMemory → SwapMemory → ℕ → ℕ → Type 0
IsAsBefore old new w v = v ≢ w → (s : ℕ) → doing_of old v ≡ Swapping s → has_effect new s ≡ has_effect old s

one-same : (old new : SwapMemory) (w v : ℕ) → IsFrame old new w → IsAsBefore old new w v → one new w v ≡ one old w v
one-same old new w v frame before = elim (cases_eq v w) [
  | inl same ↦ rw (eq-eqb v w same) refl
  | inr other ↦ ap (λ d. counted (not (v == w) && is_pending new d) 1) (frame.others v other) ∙ ap (λ p. counted (not (v == w) && p) 1) (same-pending old new (doing_of old v) (before other))
]

all-same : (old new : SwapMemory) (w : ℕ) → IsFrame old new w → ((v : ℕ) → IsAsBefore old new w v) → rivals new w ≡ rivals old w
all-same old new w frame before = rw frame.count (sum-same (one new w) (one old w) (length old.workers) (λ v. one-same old new w v frame (before v)))

-- who does another swap than the one that takes effect
apart : (old new : SwapMemory) (s v t : ℕ) → AreOwned old → (takes : TakesEffect old new s) → v ≢ takes.worker → doing_of old v ≡ Swapping t → has_effect new t ≡ has_effect old t
apart old new s v t owned takes other does = takes.other_swaps t (λ same. other (owned.one v takes.worker s (does ∙ ap Swapping same) takes.pending))

-- the worker's own effect changes nothing
own-doing : (d : Doing) (s : ℕ) → is_own d s ≡ true → d ≡ Swapping s
own-doing Idle s is = absurd cc
own-doing (Reading a) s is = absurd cc
own-doing (Swapping t) s is = ap Swapping (eqb-true t s is)
own-doing (Loading a) s is = absurd cc
own-doing (Storing a v) s is = absurd cc
own-doing (Flushing line) s is = absurd cc

-- another's changes what that one counts
counted-most : (b : Bool) (k : ℕ) → counted b 1 ≤ k + 1
counted-most true k = omega arith
counted-most false k = omega arith

same-le : {a b : ℕ} → a ≡ b → b ≤ a
same-le is = omega (arith, is)

one-more : (old new : SwapMemory) (w s : ℕ) → IsFrame old new w → AreOwned old → TakesEffect old new s → rivals old w ≤ rivals new w + 1
one-more old new w s frame owned takes = rw frame.count (sum-rise (one old w) (one new w) (length old.workers) takes.worker
    (λ v other. same-le (one-same old new w v frame (λ not t does. apart old new s v t owned takes other does)))
    (counted-most (is_rival old w takes.worker) (one new w takes.worker)))

exact-where : (old new : SwapMemory) (w s : ℕ) (own : Bool) → is_own (doing_of old w) s ≡ own → IsFrame old new w → AreOwned old → TakesEffect old new s → rivals new w + counted (not own) 1 ≤ rivals old w
    → rivals new w + counted (not own) 1 ≡ rivals old w
exact-where old new w s true told frame owned takes fall =
    let mine : takes.worker ≡ w = owned.one takes.worker w s takes.pending (own-doing (doing_of old w) s told) in
    omega (arith, all-same old new w frame (λ v other t does. apart old new s v t owned takes (λ is. other (is ∙ mine)) does))
exact-where old new w s false told frame owned takes fall = omega (arith, fall, one-more old new w s frame owned takes)

exact : (old new : SwapMemory) (w : ℕ) (told : Option ℕ) → IsFrame old new w → AreOwned old → EffectIs old new told → rivals new w + foreign old w told ≡ rivals old w
exact old new w None frame owned quiet = omega (arith, all-same old new w frame (λ v other s does. quiet.swaps s))
exact old new w (Some s) frame owned takes = exact-where old new w s (is_own (doing_of old w) s) refl frame owned takes (falls old new w (Some s) frame takes)

pub rivals-are-exact : RivalsAreExact
rivals-are-exact = record {
  step = λ old new w made done told owned step. exact old new w told (frame-act old new w made done step.one) owned step.effect;
  eviction = λ old new w a told not owned h. exact old new w told (frame-eviction old new w a told h) owned (eviction-effect old new a told not h);
}
