-- The steps of a merge of two inner nodes that read: each word, and each status once more.
use Rattle.std.proofs.Common.{◌≡◌, ◌≢◌, ℕ, ◌+◌, ◌<◌, ◌≤◌, if◌then◌else◌, Bool, true, false, List, slice_set, arith, refl, sym, subst, inl}
use Rattle.std.specs.Prelude.{nat_lt, Some}
use Rattle.std.proofs.lemmas.Bool.Decides.{nat_tests}
use Rattle.bz_gaps.specs.FreeWords.{IsFree}
use Rattle.bz_layout.specs.Addresses.{node_address}
use Rattle.bz_layout.specs.Slots.{FreeSlots}
use Rattle.bz_layout.specs.declared.config.Config.{Config}
use Rattle.bz_layout.specs.declared.sizes.TheConstants.{NODE_WORDS}
use Rattle.bz_slotted.specs.ReadingLaws.{node_of}
use Rattle.bz_task.specs.Contract.{MayHear, GoesOn}
use Rattle.bz_task.specs.Requests.{Answers, Tells}
use Rattle.bz_task.specs.Scene.{Scene, Stage, Waiting, Took, HasFilled}
use Rattle.bz_task.specs.declared.todo.Seen.{Seen}
use Rattle.bz_task.specs.declared.todo.Seen.TheVariants.{Read as Was}
use Rattle.bz_task.specs.declared.todo.Todo.{Todo}
use Rattle.bz_task.specs.declared.todo.Todo.TheVariants.{Read as Reads}
use Rattle.bz_inner.specs.JoinDuties.{view_joining}
use Rattle.bz_inner.specs.JoinFacts.{above_after, own_after, beside_after, joining_asks, joining_facts, joining_ready}
use Rattle.bz_inner.specs.Joinings.{Joining, IsReadingAbove, IsReadingOwn, IsReadingBeside}
use Rattle.bz_inner.specs.declared.join_phase.JoinPhase.{JoinPhase}
use Rattle.bz_inner.specs.declared.join_phase.JoinPhase.TheVariants.{Fresh, Above, AboveAgain, Own, OwnAgain, Beside, BesideAgain}
use Rattle.bz_inner.proofs.JoinActing.{beside-slot}
use Rattle.bz_inner.proofs.JoinGoing.{Steps, goes-read, config-known}
use Rattle.bz_inner.proofs.JoinReading.{with_above, with_own, with_beside, link-slot, above-read, own-read, beside-read, above-next, own-next, beside-next}
use Rattle.bz_inner.proofs.JoinStaying.{no-slot}

-- what is asked for after a word
record Nexts (c : Config) (r q : Joining) (o p : JoinPhase) (v : ℕ) (free : FreeSlots) : Type 0 where
  begun : p ≢ Fresh
  ready : joining_ready c q p
  goes : (todo : Todo) → joining_asks c q p ≡ Some todo → GoesOn (view_joining c r o) (view_joining c q p) (Was v) free free todo

-- an answer to a load comes while it waits
answered : (a v : ℕ) (stage : Stage) (s : Scene) → Tells (Some (Reads a)) stage (Was v) s → (stage ≡ Waiting) × Answers s a v
answered a v Waiting s t = (refl, t)
answered a v Took s t = absurd (t)

-- the address of a word, in the scene's memory
answers-in : (c : Config) (s : Scene) (k i v w : ℕ) → s.past.config ≡ c → w ≡ v → Answers s (node_address c k + i) v → Answers s (node_address s.past.config k + i) w
answers-in c s k i v w same e a = subst (Answers s (node_address s.past.config k + i)) (sym e) (subst (λ (z : Config). Answers s (node_address z k + i) v) (sym same) a)

above-on : (c : Config) (r : Joining) (read : List ℕ) (i j v : ℕ) (free : FreeSlots) → i < j → i < NODE_WORDS → r.upper.slot < c.nodes → Nexts c r (with_above r read) (Above i) (above_after j) v free
above-on c r read i j v free after l slot = choose (nat_lt j NODE_WORDS) refl
  where
    choose : (b : Bool) → nat_lt j NODE_WORDS ≡ b → Nexts c r (with_above r read) (Above i) (if b then Above j else AboveAgain) v free
    choose true e =
        let k : j < NODE_WORDS = grind (arith, nat_tests) in
        record {
          begun = λ q. absurd (cc);
          ready = (slot, k);
          goes = goes-read c r (with_above r read) (Above i) (Above j) v free (record { nearer = omega (arith, k, after); one = refl; asks = refl; few = omega arith; slots = omega arith; step = refl; ends = inl refl; upper = refl; middle = refl; lower = refl });
        }
    choose false e = record {
      begun = λ q. absurd (cc);
      ready = tt;
      goes = goes-read c r (with_above r read) (Above i) AboveAgain v free (record { nearer = omega (arith, l); one = refl; asks = refl; few = omega arith; slots = omega arith; step = refl; ends = inl refl; upper = refl; middle = refl; lower = refl });
    }

own-on : (c : Config) (r : Joining) (read : List ℕ) (i j v : ℕ) (free : FreeSlots) → i < j → i < NODE_WORDS → r.middle.slot < c.nodes → Nexts c r (with_own r read) (Own i) (own_after j) v free
own-on c r read i j v free after l slot = choose (nat_lt j NODE_WORDS) refl
  where
    choose : (b : Bool) → nat_lt j NODE_WORDS ≡ b → Nexts c r (with_own r read) (Own i) (if b then Own j else OwnAgain) v free
    choose true e =
        let k : j < NODE_WORDS = grind (arith, nat_tests) in
        record {
          begun = λ q. absurd (cc);
          ready = (slot, k);
          goes = goes-read c r (with_own r read) (Own i) (Own j) v free (record { nearer = omega (arith, k, after); one = refl; asks = refl; few = omega arith; slots = omega arith; step = refl; ends = inl refl; upper = refl; middle = refl; lower = refl });
        }
    choose false e = record {
      begun = λ q. absurd (cc);
      ready = tt;
      goes = goes-read c r (with_own r read) (Own i) OwnAgain v free (record { nearer = omega (arith, l); one = refl; asks = refl; few = omega arith; slots = omega arith; step = refl; ends = inl refl; upper = refl; middle = refl; lower = refl });
    }

beside-on : (c : Config) (r : Joining) (read : List ℕ) (i j v : ℕ) (free : FreeSlots) → i < j → i < NODE_WORDS → r.beside_slot < c.nodes → Nexts c r (with_beside r read) (Beside i) (beside_after j) v free
beside-on c r read i j v free after l slot = choose (nat_lt j NODE_WORDS) refl
  where
    choose : (b : Bool) → nat_lt j NODE_WORDS ≡ b → Nexts c r (with_beside r read) (Beside i) (if b then Beside j else BesideAgain) v free
    choose true e =
        let k : j < NODE_WORDS = grind (arith, nat_tests) in
        record {
          begun = λ q. absurd (cc);
          ready = (slot, k);
          goes = goes-read c r (with_beside r read) (Beside i) (Beside j) v free (record { nearer = omega (arith, k, after); one = refl; asks = refl; few = omega arith; slots = omega arith; step = refl; ends = inl refl; upper = refl; middle = refl; lower = refl });
        }
    choose false e = record {
      begun = λ q. absurd (cc);
      ready = slot;
      goes = goes-read c r (with_beside r read) (Beside i) BesideAgain v free (record { nearer = omega (arith, l); one = refl; asks = refl; few = omega arith; slots = omega arith; step = refl; ends = inl refl; upper = refl; middle = refl; lower = refl });
    }

-- a word of the root
above-waits : (r : Joining) (i : ℕ) (stage : Stage) (s : Scene) → joining_facts r (Above i) stage s → HasFilled s × ((0 < i) × ((i < NODE_WORDS) × IsReadingAbove r i s.past))
above-waits r i Waiting s f = f
above-waits r i Took s f = absurd (f)

steps-above-at : (c : Config) (r : Joining) (i j w : ℕ) (seen : Seen) (moment : ℕ) (free : FreeSlots) → MayHear (view_joining c r (Above i)) seen moment free → i < j → j ≤ NODE_WORDS → ((q : ℕ) → i < q → q < j → IsFree (node_of (slice_set r.above i w)) q)
    → ((x : ℕ) → seen ≡ Was x → w ≡ x) → Steps c r (with_above r (slice_set r.above i w)) (Above i) (above_after j) seen moment free free
steps-above-at c r i j w (Was v) moment free may after within skipped found =
    let k = may.known in
    let f = above-waits r i k.stage k.scene k.holds in
    let n : Nexts c r (with_above r (slice_set r.above i w)) (Above i) (above_after j) v free = above-on c r (slice_set r.above i w) i j v free after f.1.1.0 (subst (λ (z : Config). r.upper.slot < z.nodes) k.config (link-slot k.scene r.upper.slot r.middle k.good f.1.1.1.links.parent)) in
    record {
      known = config-known c r (Above i) (Was v) moment free may;
      begun = n.begun;
      ready = n.ready;
      goes = n.goes;
      learns = λ stage s now same good unreached g t.
          let e = above-waits r i stage s g in
          no-slot (with_above r (slice_set r.above i w)) s free (above_after j)
          (above-next (with_above r (slice_set r.above i w)) j s e.0 (omega (arith, after)) within
          (above-read r i j w s e.1.0 e.1.1.0 after e.1.1.1 skipped (answers-in c s r.upper.slot i v w same (found v refl) (answered (node_address c r.upper.slot + i) v stage s t).1)));
    }
steps-above-at c r i j w seen moment free may after within skipped found = absurd (may.hears)

pub steps-above : (c : Config) (r : Joining) (o p : JoinPhase) (i j w : ℕ) (seen : Seen) (moment : ℕ) (free : FreeSlots) → o ≡ Above i → MayHear (view_joining c r o) seen moment free → i < j → j ≤ NODE_WORDS → ((q : ℕ) → i < q → q < j → IsFree (node_of (slice_set r.above i w)) q)
    → ((x : ℕ) → seen ≡ Was x → w ≡ x) → p ≡ above_after j → Steps c r (with_above r (slice_set r.above i w)) o p seen moment free free
steps-above c r o p i j w seen moment free is may after within skipped found next =
    subst (λ z. Steps c r (with_above r (slice_set r.above i w)) z p seen moment free free) (sym is)
    (subst (λ z. Steps c r (with_above r (slice_set r.above i w)) (Above i) z seen moment free free) (sym next)
    (steps-above-at c r i j w seen moment free (subst (λ z. MayHear (view_joining c r z) seen moment free) is may) after within skipped found))

-- a word of the node
own-waits : (r : Joining) (i : ℕ) (stage : Stage) (s : Scene) → joining_facts r (Own i) stage s → HasFilled s × ((0 < i) × ((i < NODE_WORDS) × IsReadingOwn r i s.past))
own-waits r i Waiting s f = f
own-waits r i Took s f = absurd (f)

steps-own-at : (c : Config) (r : Joining) (i j w : ℕ) (seen : Seen) (moment : ℕ) (free : FreeSlots) → MayHear (view_joining c r (Own i)) seen moment free → i < j → j ≤ NODE_WORDS → ((q : ℕ) → i < q → q < j → IsFree (node_of (slice_set r.own i w)) q)
    → ((x : ℕ) → seen ≡ Was x → w ≡ x) → Steps c r (with_own r (slice_set r.own i w)) (Own i) (own_after j) seen moment free free
steps-own-at c r i j w (Was v) moment free may after within skipped found =
    let k = may.known in
    let f = own-waits r i k.stage k.scene k.holds in
    let n : Nexts c r (with_own r (slice_set r.own i w)) (Own i) (own_after j) v free = own-on c r (slice_set r.own i w) i j v free after f.1.1.0 (subst (λ (z : Config). r.middle.slot < z.nodes) k.config (link-slot k.scene r.middle.slot r.lower k.good f.1.1.1.paired.links.own)) in
    record {
      known = config-known c r (Own i) (Was v) moment free may;
      begun = n.begun;
      ready = n.ready;
      goes = n.goes;
      learns = λ stage s now same good unreached g t.
          let e = own-waits r i stage s g in
          no-slot (with_own r (slice_set r.own i w)) s free (own_after j)
          (own-next (with_own r (slice_set r.own i w)) j s e.0 (omega (arith, after)) within
          (own-read r i j w s e.1.0 e.1.1.0 after e.1.1.1 skipped (answers-in c s r.middle.slot i v w same (found v refl) (answered (node_address c r.middle.slot + i) v stage s t).1)));
    }
steps-own-at c r i j w seen moment free may after within skipped found = absurd (may.hears)

pub steps-own : (c : Config) (r : Joining) (o p : JoinPhase) (i j w : ℕ) (seen : Seen) (moment : ℕ) (free : FreeSlots) → o ≡ Own i → MayHear (view_joining c r o) seen moment free → i < j → j ≤ NODE_WORDS → ((q : ℕ) → i < q → q < j → IsFree (node_of (slice_set r.own i w)) q)
    → ((x : ℕ) → seen ≡ Was x → w ≡ x) → p ≡ own_after j → Steps c r (with_own r (slice_set r.own i w)) o p seen moment free free
steps-own c r o p i j w seen moment free is may after within skipped found next =
    subst (λ z. Steps c r (with_own r (slice_set r.own i w)) z p seen moment free free) (sym is)
    (subst (λ z. Steps c r (with_own r (slice_set r.own i w)) (Own i) z seen moment free free) (sym next)
    (steps-own-at c r i j w seen moment free (subst (λ z. MayHear (view_joining c r z) seen moment free) is may) after within skipped found))

-- a word of the neighbour
beside-waits : (r : Joining) (i : ℕ) (stage : Stage) (s : Scene) → joining_facts r (Beside i) stage s → HasFilled s × ((0 < i) × ((i < NODE_WORDS) × IsReadingBeside r i s.past))
beside-waits r i Waiting s f = f
beside-waits r i Took s f = absurd (f)

steps-beside-at : (c : Config) (r : Joining) (i j w : ℕ) (seen : Seen) (moment : ℕ) (free : FreeSlots) → MayHear (view_joining c r (Beside i)) seen moment free → i < j → j ≤ NODE_WORDS → ((q : ℕ) → i < q → q < j → IsFree (node_of (slice_set r.beside i w)) q)
    → ((x : ℕ) → seen ≡ Was x → w ≡ x) → Steps c r (with_beside r (slice_set r.beside i w)) (Beside i) (beside_after j) seen moment free free
steps-beside-at c r i j w (Was v) moment free may after within skipped found =
    let k = may.known in
    let f = beside-waits r i k.stage k.scene k.holds in
    let n : Nexts c r (with_beside r (slice_set r.beside i w)) (Beside i) (beside_after j) v free = beside-on c r (slice_set r.beside i w) i j v free after f.1.1.0 (subst (λ (z : Config). r.beside_slot < z.nodes) k.config (beside-slot r k.scene k.good f.1.1.1.has.paired)) in
    record {
      known = config-known c r (Beside i) (Was v) moment free may;
      begun = n.begun;
      ready = n.ready;
      goes = n.goes;
      learns = λ stage s now same good unreached g t.
          let e = beside-waits r i stage s g in
          no-slot (with_beside r (slice_set r.beside i w)) s free (beside_after j)
          (beside-next (with_beside r (slice_set r.beside i w)) j s e.0 (omega (arith, after)) within
          (beside-read r i j w s e.1.0 e.1.1.0 after e.1.1.1 skipped (answers-in c s r.beside_slot i v w same (found v refl) (answered (node_address c r.beside_slot + i) v stage s t).1)));
    }
steps-beside-at c r i j w seen moment free may after within skipped found = absurd (may.hears)

pub steps-beside : (c : Config) (r : Joining) (o p : JoinPhase) (i j w : ℕ) (seen : Seen) (moment : ℕ) (free : FreeSlots) → o ≡ Beside i → MayHear (view_joining c r o) seen moment free → i < j → j ≤ NODE_WORDS → ((q : ℕ) → i < q → q < j → IsFree (node_of (slice_set r.beside i w)) q)
    → ((x : ℕ) → seen ≡ Was x → w ≡ x) → p ≡ beside_after j → Steps c r (with_beside r (slice_set r.beside i w)) o p seen moment free free
steps-beside c r o p i j w seen moment free is may after within skipped found next =
    subst (λ z. Steps c r (with_beside r (slice_set r.beside i w)) z p seen moment free free) (sym is)
    (subst (λ z. Steps c r (with_beside r (slice_set r.beside i w)) (Beside i) z seen moment free free) (sym next)
    (steps-beside-at c r i j w seen moment free (subst (λ z. MayHear (view_joining c r z) seen moment free) is may) after within skipped found))
