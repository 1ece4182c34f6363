-- What is known of the parent while its words are read, and that the next load may be asked for.
use Rattle.std.proofs.Common.{◌≡◌, ◌≢◌, ℕ, ◌+◌, ◌<◌, if◌then◌else◌, Bool, true, false, List, slice_set, arith, refl, sym, subst}
use Rattle.std.specs.Prelude.{nat_lt, ◌≤◌}
use Rattle.std.proofs.lemmas.Bool.Decides.{nat_tests}
use Rattle.bz_gaps.specs.FreeWords.{IsFree}
use Rattle.bz_layout.specs.Addresses.{node_address}
use Rattle.bz_layout.specs.Slots.{FreeSlots}
use Rattle.bz_layout.specs.declared.config.Config.{Config}
use Rattle.bz_layout.specs.declared.sizes.TheConstants.{NODE_WORDS}
use Rattle.bz_layout.specs.declared.thresholds.TheConstants.{SPLIT_SLOTS}
use Rattle.bz_slotted.specs.ReadingLaws.{node_of}
use Rattle.bz_task.specs.Requests.{Answers, Hears, Tells}
use Rattle.bz_task.specs.Scene.{Scene, Stage, Waiting, Took, IsScene, HasFilled}
use Rattle.bz_task.specs.declared.todo.Seen.{Seen}
use Rattle.bz_task.specs.declared.todo.Seen.TheVariants.{Start, Read as Was, Stored, Flushed, Swapped, NoSwap as NoneLeft}
use Rattle.bz_fork.specs.Facts.{Fork, IsReadingAbove, fork_asks, fork_left, fork_steps, fork_needs, fork_facts, above_after, IsReadyFork}
use Rattle.bz_branch.proofs.FromBelow.ReadWords.{kept}
use Rattle.bz_fork.specs.declared.phase.ForkPhase.{ForkPhase}
use Rattle.bz_fork.specs.declared.phase.ForkPhase.TheVariants.{Fresh, Above, Check}
use Rattle.bz_fork.proofs.Acting.{upper-slot}
use Rattle.bz_fork.proofs.Ending.{EndsWell, goes-on, was-no-swap}

-- the task with other words of the parent
abbrev pub with_above : Fork → List ℕ → Fork
with_above r words = record { upper = r.upper; middle = r.middle; lower = r.lower; slot = r.slot; image = r.image; read = r.read; above = words }

next-above : (r : Fork) (j : ℕ) (s : Scene) → HasFilled s → 0 < j → j ≤ NODE_WORDS → IsReadingAbove r j s.past → fork_facts r (above_after j) Waiting s
next-above r j s filled some l f = choose (nat_lt j NODE_WORDS) refl
  where
    choose : (b : Bool) → nat_lt j NODE_WORDS ≡ b → fork_facts r (if b then Above j else Check) Waiting s
    choose true e = (filled, (some, ((let k : j < NODE_WORDS = grind (arith, nat_tests) in k), f)))
    choose false e =
        let all : j ≡ NODE_WORDS = (let past : NODE_WORDS ≤ j = grind (arith, nat_tests) in omega (arith, past, l)) in
        (filled, subst (λ z. IsReadingAbove r z s.past) all f)

-- after a word of the parent; those between it and the next one that is read are free
pub above-known : (c : Config) (r : Fork) (i j v : ℕ) (seen : Seen) (stage : Stage) (s : Scene) → s.past.config ≡ c → IsScene s → i < j → j ≤ NODE_WORDS → ((q : ℕ) → i < q → q < j → IsFree (node_of (slice_set r.above i v)) q) →
    ((w : ℕ) → seen ≡ Was w → v ≡ w) → fork_facts r (Above i) stage s → Tells (fork_asks c r (Above i)) stage seen s → fork_facts (with_above r (slice_set r.above i v)) (above_after j) Waiting s
above-known c r i j v (Was w) Waiting s same good after within skipped found f t =
    let a : Answers s (node_address s.past.config r.upper.slot + i) v = subst (λ (z : Config). Answers s (node_address z r.upper.slot + i) v) (sym same) (subst (Answers s (node_address c r.upper.slot + i)) (sym (found w refl)) t) in
    let b : IsReadingAbove r i s.past = f.1.1.1 in
    let order : b.links.guarded ≤ s.past.now = omega (arith, b.links.down.guard.order, b.links.down.guard.now, b.links.is_guarded) in
    next-above (with_above r (slice_set r.above i v)) j s f.0 (omega (arith, after)) within
    (record { links = b.links; node = b.node; many = b.many; fits = b.fits; above = kept r.upper.slot b.links.guarded r.middle.status i j v r.above s order f.1.0 f.1.1.0 after b.above skipped a })
above-known c r i j v Start Waiting s same good after within skipped found f t = absurd (t)
above-known c r i j v Stored Waiting s same good after within skipped found f t = absurd (t)
above-known c r i j v Flushed Waiting s same good after within skipped found f t = absurd (t)
above-known c r i j v (Swapped won) Waiting s same good after within skipped found f t = absurd (t)
above-known c r i j v NoneLeft Waiting s same good after within skipped found f t = absurd (t)
above-known c r i j v seen Took s same good after within skipped found f t = absurd (f)

-- the load of a word leads to that of the next one
pub record Aboves (c : Config) (r : Fork) (i : ℕ) (seen : Seen) (p : ForkPhase) (free : FreeSlots) : Type 0 where
  pub begun : p ≢ Fresh
  pub ready : IsReadyFork c r p
  pub nearer : fork_left p + fork_steps p ≤ fork_left (Above i)
  pub fewer : fork_needs p ≤ SPLIT_SLOTS
  pub ends : EndsWell r.upper r.middle r.lower seen (Above i) p free

above-waits : (r : Fork) (i : ℕ) (stage : Stage) (s : Scene) → fork_facts r (Above i) stage s → (0 < i) × ((i < NODE_WORDS) × IsReadingAbove r i s.past)
above-waits r i Waiting s f = f.1
above-waits r i Took s f = absurd (f)

pub above-within : (r : Fork) (i : ℕ) (stage : Stage) (s : Scene) → fork_facts r (Above i) stage s → i < NODE_WORDS
above-within r i stage s f = (above-waits r i stage s f).1.0

pub aboves-on : (c : Config) (r : Fork) (i j : ℕ) → i < j → j ≤ NODE_WORDS → (seen : Seen) (stage : Stage) (s : Scene) (free : FreeSlots) → s.past.config ≡ c → IsScene s → Hears (fork_asks c r (Above i)) seen → fork_facts r (Above i) stage s → Aboves c r i seen (above_after j) free
aboves-on c r i j after within seen stage s free same good h f = choose (nat_lt j NODE_WORDS) refl
  where
    w : (0 < i) × ((i < NODE_WORDS) × IsReadingAbove r i s.past)
    w = above-waits r i stage s f

    slot : r.upper.slot < c.nodes
    slot = subst (λ (z : Config). r.upper.slot < z.nodes) same (upper-slot r.upper r.middle r.lower s good w.1.1.links)

    choose : (b : Bool) → nat_lt j NODE_WORDS ≡ b → Aboves c r i seen (if b then Above j else Check) free
    choose true e =
        let k : j < NODE_WORDS = grind (arith, nat_tests) in
        record { begun = λ q. absurd (cc); ready = (slot, k); nearer = omega (arith, k, after); fewer = omega arith; ends = goes-on r.upper r.middle r.lower seen (Above i) (Above j) free refl (was-no-swap (node_address c r.upper.slot + i) seen h) }
    choose false e = record { begun = λ q. absurd (cc); ready = tt; nearer = omega (arith, w.1.0); fewer = omega arith; ends = goes-on r.upper r.middle r.lower seen (Above i) Check free refl (was-no-swap (node_address c r.upper.slot + i) seen h) }

-- what is asked for next is the same whatever was read
pub above-ready : (c : Config) (r : Fork) (read : List ℕ) (j : ℕ) → IsReadyFork c r (above_after j) → IsReadyFork c (with_above r read) (above_after j)
above-ready c r read j f = choose (nat_lt j NODE_WORDS) f
  where
    choose : (b : Bool) → IsReadyFork c r (if b then Above j else Check) → IsReadyFork c (with_above r read) (if b then Above j else Check)
    choose true g = g
    choose false g = tt
