-- A recovery is its sweep, and where that has ended its walk.
use Rattle.std.proofs.Common.{◌≡◌, ◌≢◌, ℕ, refl, sym, ap, ◌∙◌, subst, Option}
use Rattle.std.specs.Prelude.{Some, None}
use Rattle.bz_layout.specs.Slots.{FreeSlots}
use Rattle.bz_layout.specs.declared.config.Config.{Config}
use Rattle.bz_task.specs.declared.todo.Outcome.{Outcome}
use Rattle.bz_task.specs.declared.todo.Outcome.TheVariants.{Recovered as Ended}
use Rattle.bz_task.specs.declared.todo.Seen.{Seen}
use Rattle.bz_task.specs.declared.todo.Seen.TheVariants.{Start, Read, Stored, Flushed, Swapped, NoSwap}
use Rattle.bz_task.specs.declared.todo.Todo.{Todo}
use Rattle.bz_task.specs.declared.todo.Todo.TheVariants.{Load, Store, Flush, Read as ReadAt, Swap, Finish}
use Rattle.bz_sweep.specs.Duties.{HasEnded, asks_of as sweep_asks, hears_in as sweep_hears, tells_in as sweep_tells}
use Rattle.bz_sweep.specs.Memory.{Memory}
use Rattle.bz_sweep.specs.declared.ask.Ask.{Ask}
use Rattle.bz_sweep.specs.declared.ask.Ask.TheVariants.{Load as LoadWord, Store as StoreWord, Flush as FlushLine, Finish as NoMore}
use Rattle.bz_recover.specs.Duties.{answer_of, asks_in, asks_of, end_in, end_of, hears_in, tells_in, todo_of, IsReady, WalksIn}
use Rattle.bz_recover.specs.Sweep.{IsShared}
use Rattle.bz_recover.specs.Walking.{IsTreeOf, IsLoadOrEnd, AreReached, answers_in, asks_of_walk, end_in_walk, loads_in}
use Rattle.bz_recover.specs.declared.recover.Recover.{Recover}
use Rattle.bz_recover.specs.declared.walk.Step.{Step}
use Rattle.bz_recover.specs.declared.walk.Step.TheVariants.{Fresh as Unasked, Root, Header, Status as OfStatus, Meta, Pointer, Done}
use Rattle.bz_recover.proofs.Ending.{loads, ends, reached}

-- a walk asks for loads alone, or for nothing more
abbrev pub MayWalk : Config → Option Todo → Type 0
MayWalk c walks = (todo : Todo) → walks ≡ Some todo → IsLoadOrEnd c todo

pub may-walk : (t : Recover) → IsReady t → MayWalk t.config (asks_of_walk t.walk)
may-walk t ready todo e = subst (λ (d : Config). IsLoadOrEnd d todo) ready.sizes (loads t.walk.config t.walk.top t.walk.step todo ready.walk.walk.config ready.walk.step e)

-- an act of the sweep is not its end
pub no-end : (ask : Ask) (todo : Todo) → todo_of ask ≡ Some todo → ask ≢ NoMore
no-end (LoadWord a) todo e is = absurd (cc)
no-end (StoreWord a x) todo e is = absurd (cc)
no-end (FlushLine line) todo e is = absurd (cc)
no-end NoMore todo e is = absurd (cc)

-- what the sweep is told, until it has ended
pub tells : (o : Option Ask) (walks : Option Todo) (seen : Seen) (m : Memory) → o ≢ Some NoMore → tells_in (asks_in o walks) seen m → sweep_tells o (answer_of seen) m
tells None walks seen m ne h = tt
tells (Some (LoadWord a)) walks Start m ne h = tt
tells (Some (LoadWord a)) walks (Read x) m ne h = h
tells (Some (LoadWord a)) walks Stored m ne h = tt
tells (Some (LoadWord a)) walks Flushed m ne h = tt
tells (Some (LoadWord a)) walks (Swapped won) m ne h = tt
tells (Some (LoadWord a)) walks NoSwap m ne h = tt
tells (Some (StoreWord a y)) walks seen m ne h = tt
tells (Some (FlushLine line)) walks seen m ne h = tt
tells (Some NoMore) walks seen m ne h = absurd (ne refl)

-- where the recovery has ended, its sweep and its walk have
pub sweep-ends : (o : Option Ask) (ended : Option Outcome) → end_in o ended ≡ Some Ended → o ≡ Some NoMore
sweep-ends (Some NoMore) ended e = refl
sweep-ends None ended e = absurd (cc)
sweep-ends (Some (LoadWord a)) ended e = absurd (cc)
sweep-ends (Some (StoreWord a x)) ended e = absurd (cc)
sweep-ends (Some (FlushLine line)) ended e = absurd (cc)

walk-ends : (o : Option Ask) (ended : Option Outcome) → end_in o ended ≡ Some Ended → ended ≡ Some Ended
walk-ends (Some NoMore) ended e = e
walk-ends None ended e = absurd (cc)
walk-ends (Some (LoadWord a)) ended e = absurd (cc)
walk-ends (Some (StoreWord a x)) ended e = absurd (cc)
walk-ends (Some (FlushLine line)) ended e = absurd (cc)

-- a walk that asks for nothing more has ended
walk-finishes : (c : Config) (step : Step) → loads_in c step ≡ Some Finish → end_in_walk step ≡ Some Ended
walk-finishes c Done e = refl
walk-finishes c Unasked e = absurd (cc)
walk-finishes c Root e = absurd (cc)
walk-finishes c (Header slot) e = absurd (cc)
walk-finishes c (OfStatus l slot) e = absurd (cc)
walk-finishes c (Meta l way) e = absurd (cc)
walk-finishes c (Pointer l way place) e = absurd (cc)

-- so has a recovery
pub finishes : (o : Option Ask) (c : Config) (step : Step) → asks_in o (loads_in c step) ≡ Some Finish → end_in o (end_in_walk step) ≡ Some Ended
finishes (Some NoMore) c step e = walk-finishes c step e
finishes None c step e = absurd (cc)
finishes (Some (LoadWord a)) c step e = absurd (cc)
finishes (Some (StoreWord a x)) c step e = absurd (cc)
finishes (Some (FlushLine line)) c step e = absurd (cc)

-- and exactly the slots of the tree are held
pub held : (t : Recover) (values image : ℕ → ℕ) (slots : FreeSlots) → IsReady t → slots.nodes ≡ t.config.nodes → WalksIn t values slots → IsTreeOf t.config values image → end_of t ≡ Some Ended → AreReached t.config image slots
held t values image slots ready n walks tree e =
    let w = t.walk in
    let here : IsTreeOf w.config values image = subst (λ (c : Config). IsTreeOf c values image) (sym ready.sizes) tree in
    let nodes : slots.nodes ≡ w.config.nodes = n ∙ ap (λ (c : Config). c.nodes) (sym ready.sizes) in
    subst (λ (c : Config). AreReached c image slots) ready.sizes
    (reached w.config image slots nodes (ends w.config image w.top w.ways slots.free w.step (walk-ends (sweep_asks t.sweep) (end_in_walk w.step) e) (walks image here).0))
