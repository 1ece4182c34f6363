-- A step of a lowering, whichever it is: what is asked for next is there, and is as the contract of a task says.
use Rattle.std.proofs.Common.{◌≡◌, ◌≢◌, ℕ, ◌+◌, ◌^◌, ◌<◌, ◌≤◌, ◌⊎◌, Bool, true, false, arith, refl, sym, ap, subst, inl, inr}
use Rattle.std.specs.Prelude.{Some, None}
use Rattle.std.proofs.lemmas.Bool.{true≢false}
use Rattle.bz_call.specs.declared.replies.Spent.TheVariants.{Nodes as NoNodes, Swaps as NoSwaps}
use Rattle.bz_layout.specs.Config.{IsConfig}
use Rattle.bz_layout.specs.Slots.{FreeSlots}
use Rattle.bz_layout.specs.declared.config.Config.{Config}
use Rattle.bz_word.specs.Statuses.{status}
use Rattle.bz_task.specs.Contract.{MayHear, GoesOn, Learns}
use Rattle.bz_task.specs.OwnActs.{gained}
use Rattle.bz_task.specs.Requests.{EndsAtOnce, IsKnown, Tells, steps_in, swaps_in, effects_in}
use Rattle.bz_task.specs.Scene.{Scene, Stage, Waiting, Took}
use Rattle.bz_task.specs.declared.todo.Outcome.{Outcome}
use Rattle.bz_task.specs.declared.todo.Outcome.TheVariants.{Done as IsDone, Restart as Restarts, NeedsRoom, Full as IsFull}
use Rattle.bz_task.specs.declared.todo.Seen.{Seen}
use Rattle.bz_task.specs.declared.todo.Seen.TheVariants.{Start, Read as Was, Swapped, NoSwap as NoneLeft}
use Rattle.bz_task.specs.declared.todo.Todo.{Todo}
use Rattle.bz_task.proofs.Proved.{nothing_is_gained}
use Rattle.bz_renew.specs.Due.{IsStatusOf}
use Rattle.bz_inner.specs.LowerDuties.{view_in_phase}
use Rattle.bz_inner.specs.LowerFacts.{Lowering, IsSwapReady, HasBegun, HasLooked, HasStepped, lower_asks, lower_begins, lower_differs, lower_end, lower_facts, lower_left, lower_ready, lower_swaps, swap_after}
use Rattle.bz_inner.specs.declared.lower_phase.LowerPhase.{LowerPhase}
use Rattle.bz_inner.specs.declared.lower_phase.LowerPhase.TheVariants.{Fresh, Status, Swap, Done, Restart, NotLone, NoSwap}
use Rattle.bz_inner.proofs.LowerActing.{swap-ready}

pub record Steps (c : Config) (r : Lowering) (o p : LowerPhase) (seen : Seen) (moment : ℕ) (free : FreeSlots) : Type 0 where
  pub known : IsConfig c
  pub begun : p ≢ Fresh
  pub ready : lower_ready c r p
  pub goes : (todo : Todo) → lower_asks c r p ≡ Some todo → GoesOn (view_in_phase c r o) (view_in_phase c r p) seen free free todo
  pub learns : Learns (view_in_phase c r o) (view_in_phase c r p) seen moment free free

-- what is so of one phase and the next
record Turns (r : Lowering) (o p : LowerPhase) (seen : Seen) : Type 0 where
  nearer : lower_left p + 1 ≤ lower_left o
  swaps : (c : Config) → lower_swaps p + swaps_in (lower_asks c r o) ≤ lower_swaps o
  counted : lower_end p ≡ None → 0 ≡ 0 + effects_in seen
  begins : (outcome : Outcome) → seen ≡ Start → lower_end p ≡ Some outcome → EndsAtOnce 0 outcome
  last : seen ≡ Swapped true → lower_end p ≡ Some IsDone
  only_last : lower_end p ≡ Some IsDone → lower_swaps o ≡ 1
  done : lower_end p ≡ Some IsDone → seen ≡ Swapped true
  restart : lower_end p ≡ Some Restarts → (seen ≡ Swapped false) ⊎ lower_differs r.lower.status o seen
  no_swap : seen ≡ NoneLeft → lower_end p ≡ Some (IsFull NoSwaps)
  full_swaps : lower_end p ≡ Some (IsFull NoSwaps) → seen ≡ NoneLeft
  full_nodes : lower_end p ≡ Some (IsFull NoNodes) → ⊥

-- nothing that it asks for is a flush
one-step : (c : Config) (r : Lowering) (p : LowerPhase) → steps_in (lower_asks c r p) ≡ 1
one-step c r Fresh = refl
one-step c r Status = refl
one-step c r Swap = refl
one-step c r p = refl

goes-on : (c : Config) (r : Lowering) (o p : LowerPhase) (seen : Seen) (free : FreeSlots) → Turns r o p seen → (todo : Todo) → lower_asks c r p ≡ Some todo → GoesOn (view_in_phase c r o) (view_in_phase c r p) seen free free todo
goes-on c r o p seen free t todo asked = record {
  asked = asked;
  nearer = omega (arith, t.nearer, one-step c r p);
  fewer = t.swaps c;
  counted = t.counted;
  config = refl;
  change = refl;
  basis = refl;
  meant = λ outcome s m. m;
  slots = inr (record { fewer = omega arith; slots = refl });
  kept = λ outcome e. refl;
  begins = t.begins;
  last = λ e one. t.last e;
  only_last = t.only_last;
  done = t.done;
  published = λ e. absurd (true≢false (sym e));
  restart = t.restart;
  no_swap = t.no_swap;
  full_swaps = t.full_swaps;
  full_nodes = λ e. absurd (t.full_nodes e);
}

one-outcome : (a b : Outcome) → Some a ≡ Some b → a ≡ b
one-outcome a b e = cc

config-known : (c : Config) (r : Lowering) (o : LowerPhase) (seen : Seen) (moment : ℕ) (free : FreeSlots) → MayHear (view_in_phase c r o) seen moment free → IsConfig c
config-known c r o seen moment free may = subst IsConfig may.known.config may.known.good.config

-- told to begin
turns-status : (r : Lowering) → Turns r Fresh Status Start
turns-status r = record {
  nearer = omega arith;
  swaps = λ c. omega arith;
  counted = λ e. refl;
  begins = λ outcome s e. absurd (cc);
  last = λ e. absurd (cc);
  only_last = λ e. absurd (cc);
  done = λ e. absurd (cc);
  restart = λ e. absurd (cc);
  no_swap = λ e. absurd (cc);
  full_swaps = λ e. absurd (cc);
  full_nodes = λ e. absurd (cc);
}

turns-other : (r : Lowering) → Turns r Fresh NotLone Start
turns-other r = record {
  nearer = omega arith;
  swaps = λ c. omega arith;
  counted = λ e. absurd (cc);
  begins = λ outcome s e. subst (EndsAtOnce 0) (one-outcome NeedsRoom outcome e) tt;
  last = λ e. absurd (cc);
  only_last = λ e. absurd (cc);
  done = λ e. absurd (cc);
  restart = λ e. absurd (cc);
  no_swap = λ e. absurd (cc);
  full_swaps = λ e. absurd (cc);
  full_nodes = λ e. absurd (cc);
}

begun-facts : (c : Config) (r : Lowering) (free : FreeSlots) (stage : Stage) (s : Scene) → r.lone ≡ true → lower_facts r Fresh stage s → Tells (lower_asks c r Fresh) stage Start s → lower_facts r Status Waiting (gained s free free)
begun-facts c r free Waiting s lone f t = (nothing_is_gained s free t, (lone, subst (λ z. lower_begins z r.upper r.lower s.past) lone f))
begun-facts c r free Took s lone f t = absurd (f)

other-facts : (c : Config) (r : Lowering) (free : FreeSlots) (stage : Stage) (s : Scene) → r.lone ≡ false → lower_facts r Fresh stage s → Tells (lower_asks c r Fresh) stage Start s → lower_facts r NotLone Waiting (gained s free free)
other-facts c r free Waiting s lone f t = (nothing_is_gained s free t, (lone, subst (λ z. lower_begins z r.upper r.lower s.past) lone f))
other-facts c r free Took s lone f t = absurd (f)

pub steps-begun : (c : Config) (r : Lowering) (o p : LowerPhase) (seen : Seen) (moment : ℕ) (free : FreeSlots) → o ≡ Fresh → MayHear (view_in_phase c r o) seen moment free → HasBegun r p → Steps c r o p seen moment free
steps-begun c r o p seen moment free is may h = subst (λ z. Steps c r z p seen moment free) (sym is) (go seen p (subst (λ z. MayHear (view_in_phase c r z) seen moment free) is may) h)
  where
    go : (seen : Seen) (p : LowerPhase) → MayHear (view_in_phase c r Fresh) seen moment free → HasBegun r p → Steps c r Fresh p seen moment free
    go Start Status may h = record {
      known = config-known c r Fresh Start moment free may;
      begun = λ e. absurd (cc);
      ready = tt;
      goes = goes-on c r Fresh Status Start free (turns-status r);
      learns = λ stage s now same good unreached f t. begun-facts c r free stage s h f t;
    }
    go Start NotLone may h = record {
      known = config-known c r Fresh Start moment free may;
      begun = λ e. absurd (cc);
      ready = tt;
      goes = goes-on c r Fresh NotLone Start free (turns-other r);
      learns = λ stage s now same good unreached f t. other-facts c r free stage s h f t;
    }
    go Start p may h = absurd (h)
    go seen p may h = absurd (may.hears)

-- another look at the root's own status
turns-swap : (r : Lowering) (v : ℕ) → Turns r Status Swap (Was v)
turns-swap r v = record {
  nearer = omega arith;
  swaps = λ c. omega arith;
  counted = λ e. refl;
  begins = λ outcome s e. absurd (cc);
  last = λ e. absurd (cc);
  only_last = λ e. absurd (cc);
  done = λ e. absurd (cc);
  restart = λ e. absurd (cc);
  no_swap = λ e. absurd (cc);
  full_swaps = λ e. absurd (cc);
  full_nodes = λ e. absurd (cc);
}

turns-away : (r : Lowering) (v : ℕ) → lower_differs r.lower.status Status (Was v) → Turns r Status Restart (Was v)
turns-away r v d = record {
  nearer = omega arith;
  swaps = λ c. omega arith;
  counted = λ e. absurd (cc);
  begins = λ outcome s e. absurd (cc);
  last = λ e. absurd (cc);
  only_last = λ e. absurd (cc);
  done = λ e. absurd (cc);
  restart = λ e. inr d;
  no_swap = λ e. absurd (cc);
  full_swaps = λ e. absurd (cc);
  full_nodes = λ e. absurd (cc);
}

looked-facts : (c : Config) (r : Lowering) (v : ℕ) (free : FreeSlots) (stage : Stage) (s : Scene) → IsStatusOf false r.lower.status → lower_facts r Status stage s → Tells (lower_asks c r Status) stage (Was v) s → lower_facts r Swap Waiting (gained s free free)
looked-facts c r v free Waiting s thawed f t = (nothing_is_gained s free f.0, (f.1.0, (f.1.1, thawed.is)))
looked-facts c r v free Took s thawed f t = absurd (f)

away-facts : (c : Config) (r : Lowering) (v : ℕ) (free : FreeSlots) (stage : Stage) (s : Scene) → lower_facts r Status stage s → Tells (lower_asks c r Status) stage (Was v) s → lower_facts r Restart Waiting (gained s free free)
away-facts c r v free Waiting s f t = (nothing_is_gained s free f.0, f.1.0)
away-facts c r v free Took s f t = absurd (f)

-- what was found is a value
plain-found : (c : Config) (r : Lowering) (v moment : ℕ) → IsKnown c (lower_facts r Status) (lower_asks c r Status) (Was v) moment → v < 2 ^ 61
plain-found c r v moment k = go k.stage k.tells
  where
    go : (stage : Stage) → Tells (lower_asks c r Status) stage (Was v) k.scene → v < 2 ^ 61
    go Waiting t = t.plain
    go Took t = absurd (t)

differs : (c : Config) (r : Lowering) (v moment : ℕ) → IsKnown c (lower_facts r Status) (lower_asks c r Status) (Was v) moment → (Was v ≡ Was r.lower.status → ¬ IsStatusOf false r.lower.status) → lower_differs r.lower.status Status (Was v)
differs c r v moment k none = go (status v).frozen refl
  where
    go : (b : Bool) → (status v).frozen ≡ b → lower_differs r.lower.status Status (Was v)
    go true e = inr e
    go false e = inl (λ same. none (ap Was same) (subst (IsStatusOf false) same (record { plain = plain-found c r v moment k; is = e })))

looked-ready : (c : Config) (r : Lowering) (v moment : ℕ) → IsKnown c (lower_facts r Status) (lower_asks c r Status) (Was v) moment → IsStatusOf false r.lower.status → IsSwapReady c r
looked-ready c r v moment k thawed = subst (λ z. IsSwapReady z r) k.config (go k.stage k.holds)
  where
    go : (stage : Stage) → lower_facts r Status stage k.scene → IsSwapReady k.scene.past.config r
    go Waiting f = swap-ready r k.scene k.good f.1.1 thawed.is
    go Took f = absurd (f)

pub steps-looked : (c : Config) (r : Lowering) (o p : LowerPhase) (seen : Seen) (moment : ℕ) (free : FreeSlots) → o ≡ Status → MayHear (view_in_phase c r o) seen moment free → HasLooked r seen p → Steps c r o p seen moment free
steps-looked c r o p seen moment free is may h = subst (λ z. Steps c r z p seen moment free) (sym is) (go seen p (subst (λ z. MayHear (view_in_phase c r z) seen moment free) is may) h)
  where
    go : (seen : Seen) (p : LowerPhase) → MayHear (view_in_phase c r Status) seen moment free → HasLooked r seen p → Steps c r Status p seen moment free
    go (Was v) Swap may h = record {
      known = config-known c r Status (Was v) moment free may;
      begun = λ e. absurd (cc);
      ready = looked-ready c r v moment may.known h.1;
      goes = goes-on c r Status Swap (Was v) free (turns-swap r v);
      learns = λ stage s now same good unreached f t. looked-facts c r v free stage s h.1 f t;
    }
    go (Was v) Restart may h = record {
      known = config-known c r Status (Was v) moment free may;
      begun = λ e. absurd (cc);
      ready = tt;
      goes = goes-on c r Status Restart (Was v) free (turns-away r v (differs c r v moment may.known h));
      learns = λ stage s now same good unreached f t. away-facts c r v free stage s f t;
    }
    go (Was v) p may h = absurd (h)
    go seen p may h = absurd (may.hears)

-- the swap
turns-done : (r : Lowering) → Turns r Swap Done (Swapped true)
turns-done r = record {
  nearer = omega arith;
  swaps = λ c. omega arith;
  counted = λ e. absurd (cc);
  begins = λ outcome s e. absurd (cc);
  last = λ e. refl;
  only_last = λ e. refl;
  done = λ e. refl;
  restart = λ e. absurd (cc);
  no_swap = λ e. absurd (cc);
  full_swaps = λ e. absurd (cc);
  full_nodes = λ e. absurd (cc);
}

turns-lost : (r : Lowering) → Turns r Swap Restart (Swapped false)
turns-lost r = record {
  nearer = omega arith;
  swaps = λ c. omega arith;
  counted = λ e. absurd (cc);
  begins = λ outcome s e. absurd (cc);
  last = λ e. absurd (cc);
  only_last = λ e. absurd (cc);
  done = λ e. absurd (cc);
  restart = λ e. inl refl;
  no_swap = λ e. absurd (cc);
  full_swaps = λ e. absurd (cc);
  full_nodes = λ e. absurd (cc);
}

turns-none : (r : Lowering) → Turns r Swap NoSwap NoneLeft
turns-none r = record {
  nearer = omega arith;
  swaps = λ c. omega arith;
  counted = λ e. absurd (cc);
  begins = λ outcome s e. absurd (cc);
  last = λ e. absurd (cc);
  only_last = λ e. absurd (cc);
  done = λ e. absurd (cc);
  restart = λ e. absurd (cc);
  no_swap = λ e. refl;
  full_swaps = λ e. refl;
  full_nodes = λ e. absurd (cc);
}

done-facts : (c : Config) (r : Lowering) (free : FreeSlots) (stage : Stage) (s : Scene) → lower_facts r Swap stage s → Tells (lower_asks c r Swap) stage (Swapped true) s → lower_facts r Done Waiting (gained s free free)
done-facts c r free Waiting s f t = absurd (true≢false t)
done-facts c r free Took s f t = (nothing_is_gained s free f.0, f.1)

lost-facts : (c : Config) (r : Lowering) (free : FreeSlots) (stage : Stage) (s : Scene) → lower_facts r Swap stage s → Tells (lower_asks c r Swap) stage (Swapped false) s → lower_facts r Restart Waiting (gained s free free)
lost-facts c r free Waiting s f t = (nothing_is_gained s free f.0, f.1.0)
lost-facts c r free Took s f t = absurd (true≢false (sym t))

none-facts : (c : Config) (r : Lowering) (free : FreeSlots) (stage : Stage) (s : Scene) → lower_facts r Swap stage s → Tells (lower_asks c r Swap) stage NoneLeft s → lower_facts r NoSwap Waiting (gained s free free)
none-facts c r free Waiting s f t = (nothing_is_gained s free f.0, f.1.0)
none-facts c r free Took s f t = absurd (t)

-- of a phase that is neither of the first two
pub steps-swapped : (c : Config) (r : Lowering) (o p : LowerPhase) (seen : Seen) (moment : ℕ) (free : FreeSlots) → o ≢ Fresh → o ≢ Status → MayHear (view_in_phase c r o) seen moment free → p ≡ swap_after seen → Steps c r o p seen moment free
steps-swapped c r o p seen moment free begun looked may is = subst (λ z. Steps c r o z seen moment free) (sym is) (go o seen begun looked may)
  where
    go : (o : LowerPhase) (seen : Seen) → o ≢ Fresh → o ≢ Status → MayHear (view_in_phase c r o) seen moment free → Steps c r o (swap_after seen) seen moment free
    go Fresh seen begun looked may = absurd (begun refl)
    go Status seen begun looked may = absurd (looked refl)
    go Swap (Swapped true) begun looked may = record {
      known = config-known c r Swap (Swapped true) moment free may;
      begun = λ e. absurd (cc);
      ready = tt;
      goes = goes-on c r Swap Done (Swapped true) free (turns-done r);
      learns = λ stage s now same good unreached f t. done-facts c r free stage s f t;
    }
    go Swap (Swapped false) begun looked may = record {
      known = config-known c r Swap (Swapped false) moment free may;
      begun = λ e. absurd (cc);
      ready = tt;
      goes = goes-on c r Swap Restart (Swapped false) free (turns-lost r);
      learns = λ stage s now same good unreached f t. lost-facts c r free stage s f t;
    }
    go Swap NoneLeft begun looked may = record {
      known = config-known c r Swap NoneLeft moment free may;
      begun = λ e. absurd (cc);
      ready = tt;
      goes = goes-on c r Swap NoSwap NoneLeft free (turns-none r);
      learns = λ stage s now same good unreached f t. none-facts c r free stage s f t;
    }
    go o seen begun looked may = absurd (may.hears)

-- whichever phase it is
pub steps : (c : Config) (r : Lowering) (o p : LowerPhase) (seen : Seen) (moment : ℕ) (free : FreeSlots) → MayHear (view_in_phase c r o) seen moment free → HasStepped r o seen p → Steps c r o p seen moment free
steps c r Fresh p seen moment free may h = steps-begun c r Fresh p seen moment free refl may h
steps c r Status p seen moment free may h = steps-looked c r Status p seen moment free refl may h
steps c r Swap p seen moment free may h = steps-swapped c r Swap p seen moment free (λ e. absurd (cc)) (λ e. absurd (cc)) may h
steps c r o p seen moment free may h = steps-swapped c r o p seen moment free (λ e. absurd (cc)) (λ e. absurd (cc)) may h

-- which that is
pub stepped-in : (r : Lowering) (o is p : LowerPhase) (seen : Seen) → o ≡ is → HasStepped r is seen p → HasStepped r o seen p
stepped-in r o is p seen e h = subst (λ z. HasStepped r z seen p) (sym e) h

pub stepped-later : (r : Lowering) (o p : LowerPhase) (seen : Seen) → o ≢ Fresh → o ≢ Status → p ≡ swap_after seen → HasStepped r o seen p
stepped-later r Fresh p seen begun looked h = absurd (begun refl)
stepped-later r Status p seen begun looked h = absurd (looked refl)
stepped-later r Swap p seen begun looked h = h
stepped-later r o p seen begun looked h = h
