-- What is known after a store and after a flush, and that the next act may be asked for.
use Rattle.std.proofs.Common.{◌≡◌, ℕ, ◌+◌, ◌<◌, if◌then◌else◌, Bool, true, false, arith, refl, sym, subst}
use Rattle.std.specs.Prelude.{nat_lt, ◌≤◌}
use Rattle.std.proofs.lemmas.Bool.Decides.{nat_tests}
use Rattle.bz_layout.specs.declared.config.Config.{Config}
use Rattle.bz_task.specs.Requests.{Tells}
use Rattle.bz_task.specs.Scene.{Scene, Stage, Waiting, Took}
use Rattle.bz_task.specs.declared.todo.Seen.{Seen}
use Rattle.bz_task.specs.declared.todo.Seen.TheVariants.{Stored, Flushed}
use Rattle.bz_renew.specs.Nodes.{HaveSlots}
use Rattle.bz_renew.proofs.NodeWrites.{all-begun}
use Rattle.bz_below.specs.Facts.{Below, below_nodes, IsSplittingBelow, below_asks, below_facts, store_after, flush_after, IsReadyBelow}
use Rattle.bz_split.specs.Facts.{SPLIT_WORDS, SPLIT_LINES}
use Rattle.bz_below.specs.declared.phase.BelowPhase.{BelowPhase}
use Rattle.bz_below.specs.declared.phase.BelowPhase.TheVariants.{Store, Flush, Named}

-- after a store
pub next-stored : (r : Below) (j : ℕ) (s : Scene) → below_facts r (Store j) Took s → below_facts r (store_after j) Waiting s
next-stored r j s f = choose (nat_lt (j + 1) SPLIT_WORDS) refl
  where
    choose : (b : Bool) → nat_lt (j + 1) SPLIT_WORDS ≡ b → below_facts r (if b then Store (j + 1) else Flush 0) Waiting s
    choose true e = (f.0, ((let l : j + 1 < SPLIT_WORDS = grind (arith, nat_tests) in l), f.1.1))
    choose false e =
        let all : j + 1 ≡ SPLIT_WORDS = (let past : SPLIT_WORDS ≤ j + 1 = grind (arith, nat_tests) in omega (arith, past, f.1.0)) in
        (all-begun (below_nodes r) (j + 1) s f.0 (omega (arith, all)), (omega arith, subst (λ z. IsSplittingBelow r z 0 s) all f.1.1))

pub ready-stored : (c : Config) (r : Below) (j : ℕ) (s : Scene) → s.past.config ≡ c → below_facts r (Store j) Took s → IsReadyBelow c r (store_after j)
ready-stored c r j s same f = choose (nat_lt (j + 1) SPLIT_WORDS) refl
  where
    slots : HaveSlots c.nodes (below_nodes r)
    slots = subst (λ (z : Config). HaveSlots z.nodes (below_nodes r)) same f.1.1.writing.slots

    choose : (b : Bool) → nat_lt (j + 1) SPLIT_WORDS ≡ b → IsReadyBelow c r (if b then Store (j + 1) else Flush 0)
    choose true e = (slots, grind (arith, nat_tests))
    choose false e = (slots, omega arith)

-- after a flush
pub next-flushed : (r : Below) (j : ℕ) (s : Scene) → below_facts r (Flush j) Took s → below_facts r (flush_after j) Waiting s
next-flushed r j s f = choose (nat_lt (j + 1) SPLIT_LINES) refl
  where
    choose : (b : Bool) → nat_lt (j + 1) SPLIT_LINES ≡ b → below_facts r (if b then Flush (j + 1) else Named) Waiting s
    choose true e = (f.0, ((let l : j + 1 < SPLIT_LINES = grind (arith, nat_tests) in l), f.1.1))
    choose false e =
        let all : j + 1 ≡ SPLIT_LINES = (let past : SPLIT_LINES ≤ j + 1 = grind (arith, nat_tests) in omega (arith, past, f.1.0)) in
        (f.0, subst (λ z. IsSplittingBelow r SPLIT_WORDS z s) all f.1.1)

pub ready-flushed : (c : Config) (r : Below) (j : ℕ) (s : Scene) → s.past.config ≡ c → below_facts r (Flush j) Took s → IsReadyBelow c r (flush_after j)
ready-flushed c r j s same f = choose (nat_lt (j + 1) SPLIT_LINES) refl
  where
    slots : HaveSlots c.nodes (below_nodes r)
    slots = subst (λ (z : Config). HaveSlots z.nodes (below_nodes r)) same f.1.1.writing.slots

    choose : (b : Bool) → nat_lt (j + 1) SPLIT_LINES ≡ b → IsReadyBelow c r (if b then Flush (j + 1) else Named)
    choose true e = (slots, grind (arith, nat_tests))
    choose false e = tt

-- a store, or a flush, that was told of was made
store-took : (c : Config) (r : Below) (j : ℕ) (stage : Stage) (s : Scene) → below_facts r (Store j) stage s → Tells (below_asks c r (Store j)) stage Stored s → below_facts r (Store j) Took s
store-took c r j Took s f t = f
store-took c r j Waiting s f t = absurd (t)

flush-took : (c : Config) (r : Below) (j : ℕ) (stage : Stage) (s : Scene) → below_facts r (Flush j) stage s → Tells (below_asks c r (Flush j)) stage Flushed s → below_facts r (Flush j) Took s
flush-took c r j Took s f t = f
flush-took c r j Waiting s f t = absurd (t)

-- what comes after a store, and after a flush
module _ (c : Config) (r : Below) (p q : BelowPhase) (j : ℕ) (seen : Seen) (stage : Stage) (s : Scene) (same : s.past.config ≡ c) (f : below_facts r p stage s) (t : Tells (below_asks c r p) stage seen s) where
  at-store : p ≡ Store j → seen ≡ Stored → below_facts r (Store j) Took s
  at-store is e = store-took c r j stage s (subst (λ z. below_facts r z stage s) is f) (subst (λ z. Tells (below_asks c r (Store j)) stage z s) e (subst (λ z. Tells (below_asks c r z) stage seen s) is t))

  at-flush : p ≡ Flush j → seen ≡ Flushed → below_facts r (Flush j) Took s
  at-flush is e = flush-took c r j stage s (subst (λ z. below_facts r z stage s) is f) (subst (λ z. Tells (below_asks c r (Flush j)) stage z s) e (subst (λ z. Tells (below_asks c r z) stage seen s) is t))

  pub store-ready : p ≡ Store j → seen ≡ Stored → q ≡ store_after j → IsReadyBelow c r q
  store-ready is e then_is = subst (IsReadyBelow c r) (sym then_is) (ready-stored c r j s same (at-store is e))

  pub store-learns : p ≡ Store j → seen ≡ Stored → q ≡ store_after j → below_facts r q Waiting s
  store-learns is e then_is = subst (λ z. below_facts r z Waiting s) (sym then_is) (next-stored r j s (at-store is e))

  pub flush-ready : p ≡ Flush j → seen ≡ Flushed → q ≡ flush_after j → IsReadyBelow c r q
  flush-ready is e then_is = subst (IsReadyBelow c r) (sym then_is) (ready-flushed c r j s same (at-flush is e))

  pub flush-learns : p ≡ Flush j → seen ≡ Flushed → q ≡ flush_after j → below_facts r q Waiting s
  flush-learns is e then_is = subst (λ z. below_facts r z Waiting s) (sym then_is) (next-flushed r j s (at-flush is e))
