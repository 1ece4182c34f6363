-- A step of a writer, whichever it is: what is asked for next is there, and is as the contract of a task says.
use Rattle.std.proofs.Common.{◌≡◌, ◌≢◌, ◌+◌, ◌*◌, ◌<◌, ℕ, Bool, true, false, if◌then◌else◌, arith, sym, subst}
use Rattle.std.specs.Prelude.{Some, nat_lt}
use Rattle.bz_layout.specs.Slots.{FreeSlots}
use Rattle.bz_layout.specs.declared.config.Config.{Config}
use Rattle.bz_layout.specs.declared.sizes.TheConstants.{NODE_WORDS, NODE_LINES}
use Rattle.bz_task.specs.Contract.{MayHear, GoesOn, Learns}
use Rattle.bz_task.specs.declared.todo.Seen.{Seen}
use Rattle.bz_task.specs.declared.todo.Seen.TheVariants.{Swapped, NoSwap as NoneLeft}
use Rattle.bz_task.specs.declared.todo.Todo.{Todo}
use Rattle.bz_writer.specs.Facts.{write_asks, write_ready, write_view}
use Rattle.bz_writer.specs.Laws.{IsSoundPlan, LooksWell}
use Rattle.bz_writer.specs.Phases.{HasLooked, swap_after, write_next}
use Rattle.bz_writer.specs.Plans.{Plan, IsSamePlan}
use Rattle.bz_writer.specs.declared.phase.WritePhase.{WritePhase}
use Rattle.bz_writer.specs.declared.phase.WritePhase.TheVariants.{Fresh, Guard, Store, Flush, Swap}
use Rattle.bz_writer.proofs.Going.{goes-after, goes-look}
use Rattle.bz_writer.proofs.Learning.{known-within, learns-after, learns-look, ready-after, ready-look}

pub record Steps (c : Config) (P Q : Plan) (o p : WritePhase) (seen : Seen) (moment : ℕ) (old new : FreeSlots) : Type 0 where
  pub begun : p ≢ Fresh
  pub ready : write_ready c Q p
  pub goes : (todo : Todo) → write_asks c Q p ≡ Some todo → GoesOn (write_view c P o) (write_view c Q p) seen old new todo
  pub learns : Learns (write_view c P o) (write_view c Q p) seen moment old new

if-begun : (b : Bool) (p q : WritePhase) → p ≢ Fresh → q ≢ Fresh → (if b then p else q) ≢ Fresh
if-begun true p q l r = l
if-begun false p q l r = r

swap-begun : (seen : Seen) → swap_after seen ≢ Fresh
swap-begun (Swapped true) = λ e. absurd (cc)
swap-begun NoneLeft = λ e. absurd (cc)
swap-begun seen = λ e. absurd (cc)

next-begun : (count : ℕ) (o : WritePhase) (seen : Seen) → write_next count o seen ≢ Fresh
next-begun count (Store j) seen = if-begun (nat_lt (j + 1) (NODE_WORDS * count)) (Store (j + 1)) (Flush 0) (λ e. absurd (cc)) (λ e. absurd (cc))
next-begun count (Flush j) seen = if-begun (nat_lt (j + 1) (NODE_LINES * count)) (Flush (j + 1)) Swap (λ e. absurd (cc)) (λ e. absurd (cc))
next-begun count o seen = swap-begun seen

-- after a store, a flush or the swap
pub steps-after : (c : Config) (P : Plan) → IsSoundPlan P → (o p : WritePhase) (seen : Seen) (moment : ℕ) (free : FreeSlots) → o ≢ Fresh → o ≢ Guard → MayHear (write_view c P o) seen moment free → p ≡ write_next P.nodes.count o seen → Steps c P P o p seen moment free free
steps-after c P sound o p seen moment free begun looked may is = subst (λ z. Steps c P P o z seen moment free free) (sym is) (record {
  begun = next-begun P.nodes.count o seen;
  ready = ready-after c P sound o seen moment begun looked may.known;
  goes = goes-after c P free o seen begun looked (known-within c P o seen moment may.known) may.hears;
  learns = λ stage s now same good unreached facts tells. learns-after c P sound.some o seen free stage s begun looked facts tells;
})

looked-begun : (count status : ℕ) (slot : ℕ → ℕ) (seen : Seen) (p : WritePhase) (old new : FreeSlots) → HasLooked count status slot seen p old new → p ≢ Fresh
looked-begun count status slot seen Fresh old new h = absurd (h)
looked-begun count status slot seen p old new h = λ e. absurd (cc)

-- after another look at the guard
pub steps-look : (c : Config) (P Q : Plan) → IsSoundPlan P → IsSamePlan P Q → (o p : WritePhase) (seen : Seen) (moment : ℕ) (old new : FreeSlots) → LooksWell P Q old new → o ≡ Guard → MayHear (write_view c P o) seen moment old → HasLooked P.nodes.count P.status Q.nodes.slot seen p old new
    → Steps c P Q o p seen moment old new
steps-look c P Q sound same o p seen moment old new well is may h = subst (λ z. Steps c P Q z p seen moment old new) (sym is) (from-guard (subst (λ z. MayHear (write_view c P z) seen moment old) is may))
  where
    some : 0 < Q.nodes.count
    some = omega (arith, sound.some, same.count)

    from-guard : MayHear (write_view c P Guard) seen moment old → Steps c P Q Guard p seen moment old new
    from-guard may =
        let nodes : old.nodes ≡ c.nodes = may.memory sound.some in record {
          begun = looked-begun P.nodes.count P.status Q.nodes.slot seen p old new h;
          ready = ready-look c P Q seen p old new some same.count nodes h;
          goes = goes-look c P Q seen old new same sound.some p h may.hears;
          learns = λ stage s now config good unreached facts tells. learns-look c P Q old new nodes well s config good (unreached sound.some) some same.count seen p h stage facts tells;
        }
