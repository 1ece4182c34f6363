-- The rivals of a worker fall with each foreign effect, and rise at no turn of its own.
use Rattle.std.specs.Prelude.{◌≡◌, ◌≢◌, ◌==◌, ◌&&◌, ℕ, ◌+◌, ◌<◌, ◌≤◌, Bool, true, false, not, length, Option, None, Some}
use Rattle.std.proofs.Common.{arith, refl, ap, sym, subst, ◌∙◌, inl, inr}
use Rattle.std.proofs.lemmas.Bool.{cases_eq, cases_lt, eqb-false, eq-eqb, ne_eqb}
use Rattle.std.proofs.lemmas.List.{get_or_past}
use Rattle.bz_swap_machine.specs.Allowed.{counted}
use Rattle.bz_swap.specs.Effects.{EffectIs, TakesEffect}
use Rattle.bz_swap.specs.Starts.{started}
use Rattle.bz_swap.specs.SwapMemory.{SwapMemory, Doing, Idle, Reading, Swapping, Loading, Storing, Flushing, Working, idle, has_effect, doing_of}
use Rattle.bz_rivals.specs.Laws.{RivalsFall}
use Rattle.bz_rivals.specs.Rivals.{is_pending, is_rival, rivals, is_own, foreign}
use Rattle.bz_rivals.proofs.Frames.{IsFrame, frame-act, frame-eviction, frame-start, eviction-effect, effect-stays}
use Rattle.bz_rivals.proofs.Sums.{sum-same, sum-le, sum-drop}

-- what one worker counts
abbrev pub one : SwapMemory → ℕ → ℕ → ℕ
one m w v = counted (is_rival m w v) 1

-- a swap that is pending was pending
pending-unless : (before after : Bool) → (before ≡ true → after ≡ true) → counted (not after) 1 ≤ counted (not before) 1
pending-unless before true stays = omega arith
pending-unless true false stays = (let none : false ≡ true = stays refl in absurd cc)
pending-unless false false stays = omega arith

pending-le : (old new : SwapMemory) (d : Doing) → ((s : ℕ) → has_effect old s ≡ true → has_effect new s ≡ true) → counted (is_pending new d) 1 ≤ counted (is_pending old d) 1
pending-le old new Idle stays = omega arith
pending-le old new (Reading a) stays = omega arith
pending-le old new (Swapping s) stays = pending-unless (has_effect old s) (has_effect new s) (stays s)
pending-le old new (Loading a) stays = omega arith
pending-le old new (Storing a v) stays = omega arith
pending-le old new (Flushing line) stays = omega arith

-- the worker itself is left out on both sides
but-one : (same p q : Bool) → (same ≡ false → counted p 1 ≤ counted q 1) → counted (not same && p) 1 ≤ counted (not same && q) 1
but-one true p q le = omega arith
but-one false p q le = le refl

one-le : (old new : SwapMemory) (w : ℕ) → IsFrame old new w → ((s : ℕ) → has_effect old s ≡ true → has_effect new s ≡ true) → (v : ℕ) → one new w v ≤ one old w v
one-le old new w frame stays v = but-one (v == w) (is_pending new (doing_of new v)) (is_pending old (doing_of old v))
    (λ other. subst (λ d. counted (is_pending new d) 1 ≤ counted (is_pending old (doing_of old v)) 1) (sym (frame.others v (eqb-false v w other))) (pending-le old new (doing_of old v) stays))

no-more : (old new : SwapMemory) (w : ℕ) → IsFrame old new w → ((s : ℕ) → has_effect old s ≡ true → has_effect new s ≡ true) → rivals new w ≤ rivals old w
no-more old new w frame stays = rw frame.count (sum-le (one new w) (one old w) (length old.workers) (one-le old new w frame stays))

-- who does a swap is one of the workers
pub does-within : (m : SwapMemory) (v s : ℕ) → doing_of m v ≡ Swapping s → v < length m.workers
does-within m v s does = elim (cases_lt v (length m.workers)) [
  | inl within ↦ within
  | inr past ↦ (let none : Idle ≡ Swapping s = sym (ap (λ (u : Working). u.doing) (get_or_past m.workers v idle past)) ∙ does in absurd cc)
]

-- the worker of a foreign effect counted before it, and counts no more
counted-before : (b : Bool) → b ≡ false → 1 ≤ counted (not false && not b) 1
counted-before true is = absurd cc
counted-before false is = omega arith

counted-after : (b : Bool) → b ≡ true → counted (not false && not b) 1 ≤ 0
counted-after true is = omega arith
counted-after false is = absurd cc

was-rival : (m : SwapMemory) (w v s : ℕ) → v ≢ w → doing_of m v ≡ Swapping s → has_effect m s ≡ false → 1 ≤ one m w v
was-rival m w v s other does before = rw (ne_eqb v w other) (rw does (counted-before (has_effect m s) before))

is-none : (m : SwapMemory) (w v s : ℕ) → v ≢ w → doing_of m v ≡ Swapping s → has_effect m s ≡ true → one m w v ≤ 0
is-none m w v s other does after = rw (ne_eqb v w other) (rw does (counted-after (has_effect m s) after))

one-fewer : (old new : SwapMemory) (w s : ℕ) → IsFrame old new w → (takes : TakesEffect old new s) → takes.worker ≢ w → rivals new w + 1 ≤ rivals old w
one-fewer old new w s frame takes other = rw frame.count (sum-drop (one new w) (one old w) (length old.workers) takes.worker
    (one-le old new w frame (λ t. effect-stays old new (Some s) t takes))
    (does-within old takes.worker s takes.pending)
    (omega (arith, was-rival old w takes.worker s other takes.pending takes.before, is-none new w takes.worker s other (frame.others takes.worker other ∙ takes.pending) takes.done)))

-- a swap that is not the worker's own is another's
pub own-swap : (d : Doing) (s : ℕ) → d ≡ Swapping s → is_own d s ≡ true
own-swap d s is = rw is (eq-eqb s s refl)

fewer-where : (old new : SwapMemory) (w s : ℕ) (own : Bool) → is_own (doing_of old w) s ≡ own → IsFrame old new w → TakesEffect old new s → rivals new w + counted (not own) 1 ≤ rivals old w
fewer-where old new w s true told frame takes = omega (arith, no-more old new w frame (λ t. effect-stays old new (Some s) t takes))
fewer-where old new w s false told frame takes = one-fewer old new w s frame takes other
  where
    other : takes.worker ≢ w
    other same = (let own : is_own (doing_of old w) s ≡ true = own-swap (doing_of old w) s (ap (doing_of old) (sym same) ∙ takes.pending) in absurd cc)

pub falls : (old new : SwapMemory) (w : ℕ) (told : Option ℕ) → IsFrame old new w → EffectIs old new told → rivals new w + foreign old w told ≤ rivals old w
falls old new w None frame quiet = omega (arith, no-more old new w frame (λ t. effect-stays old new None t quiet))
falls old new w (Some s) frame takes = fewer-where old new w s (is_own (doing_of old w) s) refl frame takes

-- a start of the worker leaves every effect as it is
one-start : (m : SwapMemory) (w : ℕ) (doing : Doing) (v : ℕ) → one (started m w doing) w v ≡ one m w v
one-start m w doing v = elim (cases_eq v w) [
  | inl same ↦ rw (eq-eqb v w same) refl
  | inr other ↦ ap (λ d. counted (not (v == w) && is_pending m d) 1) ((frame-start m w doing).others v other)
]

pub same-start : (m : SwapMemory) (w : ℕ) (doing : Doing) → rivals (started m w doing) w ≡ rivals m w
same-start m w doing = rw (frame-start m w doing).count (sum-same (one (started m w doing) w) (one m w) (length m.workers) (one-start m w doing))

pub rivals-fall : RivalsFall
rivals-fall = record {
  start = same-start;
  swap = λ m w entries. same-start m w (Swapping m.taken);
  step = λ old new w made done told step. falls old new w told (frame-act old new w made done step.one) step.effect;
  eviction = λ old new w a told not h. falls old new w told (frame-eviction old new w a told h) (eviction-effect old new a told not h);
}
