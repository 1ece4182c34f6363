-- What the parent's status tells, found once more: its words are those of one moment.
use Rattle.std.proofs.Common.{◌≡◌, ◌≢◌, ◌+◌, ◌≤◌, arith, refl, subst, inr}
use Rattle.bz_layout.specs.Slots.{FreeSlots}
use Rattle.bz_layout.specs.declared.config.Config.{Config}
use Rattle.bz_layout.specs.declared.sizes.TheConstants.{NODE_WORDS}
use Rattle.bz_layout.specs.declared.thresholds.TheConstants.{SPLIT_SLOTS}
use Rattle.bz_task.specs.OwnActs.{AreTakenFrom}
use Rattle.bz_task.specs.Requests.{Hears, Tells}
use Rattle.bz_task.specs.Scene.{Scene, Stage, Waiting, Took, IsScene, HasFilled, here}
use Rattle.bz_task.specs.declared.todo.Seen.{Seen}
use Rattle.bz_task.specs.declared.todo.Seen.TheVariants.{Read as Was}
use Rattle.bz_parted.specs.Laws.{ReadNodesHaveChildren}
use Rattle.bz_below.specs.Facts.{Below, IsReading, HasTold, below_asks, below_left, below_steps, below_needs, below_facts, IsReadyBelow}
use Rattle.bz_below.specs.Parents.{WasParent, ReadParentsWere}
use Rattle.bz_below.specs.declared.phase.BelowPhase.{BelowPhase}
use Rattle.bz_below.specs.declared.phase.BelowPhase.TheVariants.{Fresh, Room, Word, Again, Guard, Store, Flush, Named, Swap, Done, Restart, NoRoom, NoSlot, NoSwap}
use Rattle.bz_below.proofs.Ending.{EndsWell, goes-on, other-lower, read-answers, was-no-swap}
use Rattle.bz_below.proofs.ParentsThen.{taken, was-parent}

found-now : (c : Config) (r : Below) (seen : Seen) (stage : Stage) (s : Scene) → Tells (below_asks c r Again) stage seen s → seen ≡ Was r.lower.status → (here s).value r.lower.guard ≡ r.lower.status
found-now c r seen stage s t e = (read-answers r.lower.guard r.lower.status stage s (subst (λ z. Tells (below_asks c r Again) stage z s) e t)).1.value

waits : (r : Below) (stage : Stage) (s : Scene) → below_facts r Again stage s → HasFilled s × IsReading r NODE_WORDS s.past
waits r Waiting s f = f
waits r Took s f = absurd (f)

-- what the status of the parent, once more, teaches
pub told-learns : ReadParentsWere → ReadNodesHaveChildren → (c : Config) (r : Below) (p : BelowPhase) (seen : Seen) (stage : Stage) (s : Scene) → HasTold r seen p → IsScene s → below_facts r Again stage s → Tells (below_asks c r Again) stage seen s → below_facts r p Waiting s
told-learns law have c r Guard seen stage s h good f t =
    let g = waits r stage s f in
    let v = g.1.parted in
    let w : WasParent r.upper r.lower v.guarded v.child r.sep r.read s.past = was-parent r s good v law (found-now c r seen stage s t h) r.read g.1.were in
    (g.0, record { parted = v; parent = w; room = omega (arith, g.1.room, taken have s.past.config.nodes r.lower.slot r.sep r.read w.level v.child w.low w.high r.lower.status w.parent g.1.were.first) })
told-learns law have c r Restart seen stage s h good f t = (waits r stage s f).0
told-learns law have c r Fresh seen stage s h good f t = absurd (h)
told-learns law have c r (Word i) seen stage s h good f t = absurd (h)
told-learns law have c r Room seen stage s h good f t = absurd (h)
told-learns law have c r Again seen stage s h good f t = absurd (h)
told-learns law have c r (Store j) seen stage s h good f t = absurd (h)
told-learns law have c r (Flush j) seen stage s h good f t = absurd (h)
told-learns law have c r Named seen stage s h good f t = absurd (h)
told-learns law have c r Swap seen stage s h good f t = absurd (h)
told-learns law have c r Done seen stage s h good f t = absurd (h)
told-learns law have c r NoRoom seen stage s h good f t = absurd (h)
told-learns law have c r NoSlot seen stage s h good f t = absurd (h)
told-learns law have c r NoSwap seen stage s h good f t = absurd (h)

-- what it leads to
pub record Tolds (r : Below) (c : Config) (seen : Seen) (p : BelowPhase) (free : FreeSlots) : Type 0 where
  pub begun : p ≢ Fresh
  pub ready : IsReadyBelow c r p
  pub nearer : below_left p + below_steps p ≤ below_left Again
  pub taken : AreTakenFrom SPLIT_SLOTS (below_needs p) free free
  pub ends : EndsWell r.lower seen Again p free

pub tolds : (r : Below) (c : Config) (seen : Seen) (p : BelowPhase) (free : FreeSlots) → Hears (below_asks c r Again) seen → HasTold r seen p → Tolds r c seen p free
tolds r c seen Guard free hears h =
    record { begun = λ e. absurd (cc); ready = tt; nearer = omega arith; taken = inr (record { fewer = omega arith; slots = refl }); ends = goes-on r.lower seen Again Guard free refl (was-no-swap r.lower.guard seen hears) }
tolds r c seen Restart free hears h = record {
  begun = λ e. absurd (cc);
  ready = tt;
  nearer = omega arith;
  taken = inr (record { fewer = omega arith; slots = refl });
  ends = record {
    done = λ e. absurd (cc);
    restart = λ e. inr (other-lower r.lower seen hears h);
    no_swap = λ e. absurd (was-no-swap r.lower.guard seen hears e);
    full_swaps = λ e. absurd (cc);
    full_nodes = λ e. absurd (cc);
  };
}
tolds r c seen Fresh free hears h = absurd (h)
tolds r c seen (Word i) free hears h = absurd (h)
tolds r c seen Room free hears h = absurd (h)
tolds r c seen Again free hears h = absurd (h)
tolds r c seen (Store j) free hears h = absurd (h)
tolds r c seen (Flush j) free hears h = absurd (h)
tolds r c seen Named free hears h = absurd (h)
tolds r c seen Swap free hears h = absurd (h)
tolds r c seen Done free hears h = absurd (h)
tolds r c seen NoRoom free hears h = absurd (h)
tolds r c seen NoSlot free hears h = absurd (h)
tolds r c seen NoSwap free hears h = absurd (h)
