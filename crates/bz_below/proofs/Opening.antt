-- What the parent's status tells, before its words are read: they are, where it is as it was and leaves the room.
use Rattle.std.proofs.Common.{◌≡◌, ◌≢◌, ℕ, ◌+◌, ◌<◌, ◌≤◌, arith, refl, sym, subst, inr}
use Rattle.bz_layout.specs.Slots.{FreeSlots}
use Rattle.bz_layout.specs.declared.config.Config.{Config}
use Rattle.bz_layout.specs.declared.thresholds.TheConstants.{SPLIT_SLOTS}
use Rattle.bz_parted.specs.Laws.{ReadNodesHaveChildren}
use Rattle.bz_task.specs.Requests.{Answers, Hears, Tells}
use Rattle.bz_task.specs.Scene.{Scene, Stage, Waiting, Took, IsScene, HasFilled}
use Rattle.bz_task.specs.declared.todo.Seen.{Seen}
use Rattle.bz_task.specs.declared.todo.Seen.TheVariants.{Read as Was}
use Rattle.bz_below.specs.Facts.{Below, HasPartedBelow, HasStarted, IsUnread, IsReading, LeavesRoom, HasOpened, below_asks, below_left, below_steps, below_needs, below_facts, IsReadyBelow}
use Rattle.bz_below.specs.Parents.{ReadParentsWere}
use Rattle.bz_below.specs.declared.phase.BelowPhase.{BelowPhase}
use Rattle.bz_below.specs.declared.phase.BelowPhase.TheVariants.{Fresh, Room, Word, Again, Guard, Store, Flush, Named, Swap, Done, Restart, NoRoom, NoSlot, NoSwap}
use Rattle.bz_below.proofs.Acting.{upper-slot}
use Rattle.bz_below.proofs.Ending.{EndsWell, goes-on, other-first, read-answers, was-no-swap}
use Rattle.bz_below.proofs.ParentsThen.{lacked-room}

waits : (r : Below) (stage : Stage) (s : Scene) → below_facts r Room stage s → HasFilled s × HasStarted r s.past
waits r Waiting s f = f
waits r Took s f = absurd (f)

pub found : (c : Config) (r : Below) (seen : Seen) (stage : Stage) (s : Scene) → Tells (below_asks c r Room) stage seen s → seen ≡ Was r.lower.status → Answers s r.lower.guard r.lower.status
found c r seen stage s t e = (read-answers r.lower.guard r.lower.status stage s (subst (λ z. Tells (below_asks c r Room) stage z s) e t)).1

-- the parent's words are read from the first one after the status on
pub first-word : (r : Below) (s : Scene) → HasPartedBelow r.upper r.lower (r.image 1) (r.image 2) r.sep s.past → LeavesRoom r.lower.status r.sep → IsUnread r.lower.status r.read → IsReading r 1 s.past
first-word r s v room u = record { parted = v; room = room; were = record { size = u.size; first = u.first; rest = λ i some l. absurd (omega (arith, some, l)); blank = λ i some. u.blank i some } }

-- what the status of the parent teaches
pub opened-learns : ReadParentsWere → ReadNodesHaveChildren → (c : Config) (before after : ℕ) (r : Below) (p : BelowPhase) (seen : Seen) (stage : Stage) (s : Scene) → HasOpened before after r seen p → IsScene s → below_facts r Room stage s → Tells (below_asks c r Room) stage seen s → below_facts r p Waiting s
opened-learns law have c before after r (Word i) seen stage s h good f t =
    let g = waits r stage s f in
    (g.0, (omega (arith, h.0), (omega (arith, h.0), subst (λ z. IsReading r z s.past) (sym h.0) (first-word r s g.1.parted h.1.1.0 g.1.unread))))
opened-learns law have c before after r NoRoom seen stage s h good f t = let g = waits r stage s f in (g.0, lacked-room r s good g.1.parted law (found c r seen stage s t h.0).value have h.1.0)
opened-learns law have c before after r Restart seen stage s h good f t = (waits r stage s f).0
opened-learns law have c before after r Fresh seen stage s h good f t = absurd (h)
opened-learns law have c before after r Room seen stage s h good f t = absurd (h)
opened-learns law have c before after r Again seen stage s h good f t = absurd (h)
opened-learns law have c before after r Guard seen stage s h good f t = absurd (h)
opened-learns law have c before after r (Store j) seen stage s h good f t = absurd (h)
opened-learns law have c before after r (Flush j) seen stage s h good f t = absurd (h)
opened-learns law have c before after r Named seen stage s h good f t = absurd (h)
opened-learns law have c before after r Swap seen stage s h good f t = absurd (h)
opened-learns law have c before after r Done seen stage s h good f t = absurd (h)
opened-learns law have c before after r NoSlot seen stage s h good f t = absurd (h)
opened-learns law have c before after r NoSwap seen stage s h good f t = absurd (h)

-- what it leads to
pub record Opens (before after : ℕ) (r : Below) (c : Config) (seen : Seen) (p : BelowPhase) (free : FreeSlots) : Type 0 where
  pub begun : p ≢ Fresh
  pub ready : IsReadyBelow c r p
  pub nearer : after + (below_left p + below_steps p) ≤ before + below_left Room
  pub fewer : below_needs p ≤ SPLIT_SLOTS
  pub ends : EndsWell r.lower seen Room p free

pub opens : (before after : ℕ) (r : Below) (c : Config) (seen : Seen) (p : BelowPhase) (free : FreeSlots) (stage : Stage) (s : Scene) → s.past.config ≡ c → IsScene s → below_facts r Room stage s → Hears (below_asks c r Room) seen → HasOpened before after r seen p → Opens before after r c seen p free
opens before after r c seen (Word i) free stage s same good f hears h =
    let slot : r.upper.slot < c.nodes = subst (λ (z : Config). r.upper.slot < z.nodes) same (upper-slot r.upper r.lower (r.image 1) (r.image 2) r.sep s good (waits r stage s f).1.parted) in
    record { begun = λ e. absurd (cc); ready = (slot, omega (arith, h.0)); nearer = omega (arith, h.0, h.1.1.1); fewer = omega arith; ends = goes-on r.lower seen Room (Word i) free refl (was-no-swap r.lower.guard seen hears) }
opens before after r c seen NoRoom free stage s same good f hears h = record {
  begun = λ e. absurd (cc);
  ready = tt;
  nearer = omega (arith, h.1.1);
  fewer = omega arith;
  ends = record { done = λ e. absurd (cc); restart = λ e. absurd (cc); no_swap = λ e. absurd (was-no-swap r.lower.guard seen hears e); full_swaps = λ e. absurd (cc); full_nodes = λ e. absurd (cc) };
}
opens before after r c seen Restart free stage s same good f hears h = record {
  begun = λ e. absurd (cc);
  ready = tt;
  nearer = omega (arith, h.1);
  fewer = omega arith;
  ends = record {
    done = λ e. absurd (cc);
    restart = λ e. inr (other-first r.lower seen hears h.0);
    no_swap = λ e. absurd (was-no-swap r.lower.guard seen hears e);
    full_swaps = λ e. absurd (cc);
    full_nodes = λ e. absurd (cc);
  };
}
opens before after r c seen Fresh free stage s same good f hears h = absurd (h)
opens before after r c seen Room free stage s same good f hears h = absurd (h)
opens before after r c seen Again free stage s same good f hears h = absurd (h)
opens before after r c seen Guard free stage s same good f hears h = absurd (h)
opens before after r c seen (Store j) free stage s same good f hears h = absurd (h)
opens before after r c seen (Flush j) free stage s same good f hears h = absurd (h)
opens before after r c seen Named free stage s same good f hears h = absurd (h)
opens before after r c seen Swap free stage s same good f hears h = absurd (h)
opens before after r c seen Done free stage s same good f hears h = absurd (h)
opens before after r c seen NoSlot free stage s same good f hears h = absurd (h)
opens before after r c seen NoSwap free stage s same good f hears h = absurd (h)
