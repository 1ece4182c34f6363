-- What is known of the parent while its words are read, and that the next load may be asked for.
use Rattle.std.proofs.Common.{◌≡◌, ◌≢◌, ℕ, ◌+◌, ◌<◌, if◌then◌else◌, Bool, true, false, List, slice_set, arith, refl, sym, subst}
use Rattle.std.specs.Prelude.{nat_lt, ◌≤◌}
use Rattle.std.proofs.lemmas.Bool.Decides.{nat_tests}
use Rattle.bz_gaps.specs.FreeWords.{IsFree}
use Rattle.bz_layout.specs.Addresses.{node_address}
use Rattle.bz_layout.specs.Slots.{FreeSlots}
use Rattle.bz_layout.specs.declared.config.Config.{Config}
use Rattle.bz_layout.specs.declared.sizes.TheConstants.{NODE_WORDS}
use Rattle.bz_layout.specs.declared.thresholds.TheConstants.{SPLIT_SLOTS}
use Rattle.bz_slotted.specs.ReadingLaws.{node_of}
use Rattle.bz_task.specs.Requests.{Answers, Hears, Tells}
use Rattle.bz_task.specs.Scene.{Scene, Stage, Waiting, Took, IsScene, HasFilled}
use Rattle.bz_task.specs.declared.todo.Seen.{Seen}
use Rattle.bz_task.specs.declared.todo.Seen.TheVariants.{Start, Read as Was, Stored, Flushed, Swapped, NoSwap as NoneLeft}
use Rattle.bz_below.specs.Facts.{Below, IsReading, below_asks, below_left, below_steps, below_needs, below_facts, word_after, IsReadyBelow}
use Rattle.bz_below.specs.declared.phase.BelowPhase.{BelowPhase}
use Rattle.bz_below.specs.declared.phase.BelowPhase.TheVariants.{Fresh, Room, Word, Again}
use Rattle.bz_below.proofs.Acting.{upper-slot}
use Rattle.bz_below.proofs.Ending.{EndsWell, goes-on, was-no-swap}
use Rattle.bz_below.proofs.ReadWords.{kept}

-- the task with other words of the parent
abbrev pub with_read : Below → List ℕ → Below
with_read r read = record { upper = r.upper; lower = r.lower; slot = r.slot; image = r.image; read = read; sep = r.sep; guard = r.guard }

next-word : (r : Below) (j : ℕ) (s : Scene) → HasFilled s → 0 < j → j ≤ NODE_WORDS → IsReading r j s.past → below_facts r (word_after j) Waiting s
next-word r j s filled some l f = choose (nat_lt j NODE_WORDS) refl
  where
    choose : (b : Bool) → nat_lt j NODE_WORDS ≡ b → below_facts r (if b then Word j else Again) Waiting s
    choose true e = (filled, (some, ((let k : j < NODE_WORDS = grind (arith, nat_tests) in k), f)))
    choose false e =
        let all : j ≡ NODE_WORDS = (let past : NODE_WORDS ≤ j = grind (arith, nat_tests) in omega (arith, past, l)) in
        (filled, subst (λ z. IsReading r z s.past) all f)

-- what is known of the first phase is what the task was made with, and that all slots are filled
pub fresh-known : (c : Config) (r : Below) (seen : Seen) (stage : Stage) (s : Scene) → below_facts r Fresh stage s → Tells (below_asks c r Fresh) stage seen s → below_facts r Room Waiting s
fresh-known c r Start Waiting s f t = (t, f)
fresh-known c r (Was v) Waiting s f t = absurd (t)
fresh-known c r Stored Waiting s f t = absurd (t)
fresh-known c r Flushed Waiting s f t = absurd (t)
fresh-known c r (Swapped won) Waiting s f t = absurd (t)
fresh-known c r NoneLeft Waiting s f t = absurd (t)
fresh-known c r seen Took s f t = absurd (f)

-- after a word of the parent; those between it and the next one that is read are free
pub word-known : (c : Config) (r : Below) (i j v : ℕ) (seen : Seen) (stage : Stage) (s : Scene) → s.past.config ≡ c → IsScene s → i < j → j ≤ NODE_WORDS → ((q : ℕ) → i < q → q < j → IsFree (node_of (slice_set r.read i v)) q) →
    ((w : ℕ) → seen ≡ Was w → v ≡ w) → below_facts r (Word i) stage s → Tells (below_asks c r (Word i)) stage seen s → below_facts (with_read r (slice_set r.read i v)) (word_after j) Waiting s
word-known c r i j v (Was w) Waiting s same good after within skipped found f t =
    let a : Answers s (node_address s.past.config r.upper.slot + i) v = subst (λ (z : Config). Answers s (node_address z r.upper.slot + i) v) (sym same) (subst (Answers s (node_address c r.upper.slot + i)) (sym (found w refl)) t) in
    let b : IsReading r i s.past = f.1.1.1 in
    let order : b.parted.guarded ≤ s.past.now = omega (arith, b.parted.links.guard.order, b.parted.links.guard.now, b.parted.is_guarded) in
    next-word (with_read r (slice_set r.read i v)) j s f.0 (omega (arith, after)) within
    (record { parted = b.parted; room = b.room; were = kept r.upper.slot b.parted.guarded r.lower.status i j v r.read s order f.1.0 f.1.1.0 after b.were skipped a })
word-known c r i j v Start Waiting s same good after within skipped found f t = absurd (t)
word-known c r i j v Stored Waiting s same good after within skipped found f t = absurd (t)
word-known c r i j v Flushed Waiting s same good after within skipped found f t = absurd (t)
word-known c r i j v (Swapped won) Waiting s same good after within skipped found f t = absurd (t)
word-known c r i j v NoneLeft Waiting s same good after within skipped found f t = absurd (t)
word-known c r i j v seen Took s same good after within skipped found f t = absurd (f)

-- the load of a word leads to that of the next one
pub record Words (c : Config) (r : Below) (i j : ℕ) (seen : Seen) (p : BelowPhase) (free : FreeSlots) : Type 0 where
  pub begun : p ≢ Fresh
  pub ready : IsReadyBelow c r p
  pub nearer : below_left p + below_steps p + j ≤ below_left (Word i) + i + 1
  pub fewer : below_needs p ≤ SPLIT_SLOTS
  pub ends : EndsWell r.lower seen (Word i) p free

word-waits : (r : Below) (i : ℕ) (stage : Stage) (s : Scene) → below_facts r (Word i) stage s → (0 < i) × ((i < NODE_WORDS) × IsReading r i s.past)
word-waits r i Waiting s f = f.1
word-waits r i Took s f = absurd (f)

pub word-within : (r : Below) (i : ℕ) (stage : Stage) (s : Scene) → below_facts r (Word i) stage s → i < NODE_WORDS
word-within r i stage s f = (word-waits r i stage s f).1.0

pub words-on : (c : Config) (r : Below) (i j : ℕ) → i < j → j ≤ NODE_WORDS → (seen : Seen) (stage : Stage) (s : Scene) (free : FreeSlots) → s.past.config ≡ c → IsScene s → Hears (below_asks c r (Word i)) seen → below_facts r (Word i) stage s → Words c r i j seen (word_after j) free
words-on c r i j after within seen stage s free same good h f = choose (nat_lt j NODE_WORDS) refl
  where
    w : (0 < i) × ((i < NODE_WORDS) × IsReading r i s.past)
    w = word-waits r i stage s f

    slot : r.upper.slot < c.nodes
    slot = subst (λ (z : Config). r.upper.slot < z.nodes) same (upper-slot r.upper r.lower (r.image 1) (r.image 2) r.sep s good w.1.1.parted)

    choose : (b : Bool) → nat_lt j NODE_WORDS ≡ b → Words c r i j seen (if b then Word j else Again) free
    choose true e =
        let k : j < NODE_WORDS = grind (arith, nat_tests) in
        record { begun = λ q. absurd (cc); ready = (slot, k); nearer = omega (arith, k, w.1.0); fewer = omega arith; ends = goes-on r.lower seen (Word i) (Word j) free refl (was-no-swap (node_address c r.upper.slot + i) seen h) }
    choose false e = record { begun = λ q. absurd (cc); ready = tt; nearer = omega (arith, within, w.1.0); fewer = omega arith; ends = goes-on r.lower seen (Word i) Again free refl (was-no-swap (node_address c r.upper.slot + i) seen h) }

-- what is asked for next is the same whatever was read
pub word-ready : (c : Config) (r : Below) (read : List ℕ) (j : ℕ) → IsReadyBelow c r (word_after j) → IsReadyBelow c (with_read r read) (word_after j)
word-ready c r read j f = choose (nat_lt j NODE_WORDS) f
  where
    choose : (b : Bool) → IsReadyBelow c r (if b then Word j else Again) → IsReadyBelow c (with_read r read) (if b then Word j else Again)
    choose true g = g
    choose false g = tt
