-- What the parent's status tells, before its words are read: they are, where it is as it was and leaves room for the separator.
use Rattle.std.proofs.Common.{◌≡◌, ◌≢◌, ◌<◌, ◌≤◌, ◌+◌, arith, refl, sym, subst, inr}
use Rattle.bz_layout.specs.Slots.{FreeSlots}
use Rattle.bz_layout.specs.declared.config.Config.{Config}
use Rattle.bz_layout.specs.declared.thresholds.TheConstants.{SPLIT_SLOTS}
use Rattle.bz_parted.specs.Laws.{ReadNodesHaveChildren}
use Rattle.bz_task.specs.Requests.{Answers, Hears, Tells}
use Rattle.bz_task.specs.Scene.{Scene, Stage, Waiting, Took, IsScene, HasFilled}
use Rattle.bz_task.specs.declared.todo.Seen.{Seen}
use Rattle.bz_task.specs.declared.todo.Seen.TheVariants.{Read as Was}
use Rattle.bz_branch.specs.Nodes.{ParentsOfNodesWere}
use Rattle.bz_branch.specs.Parts.{IsFullNode}
use Rattle.bz_fork.specs.Facts.{Fork, HasReadNode, IsReadingAbove, HasOpened, fork_asks, fork_left, fork_steps, fork_needs, fork_facts, IsReadyFork}
use Rattle.bz_writer.specs.declared.phase.WritePhase.TheVariants.{Restart}
use Rattle.bz_fork.specs.declared.phase.ForkPhase.{ForkPhase}
use Rattle.bz_fork.specs.declared.phase.ForkPhase.TheVariants.{Fresh, Room, Above, NoRoom, Writing}
use Rattle.bz_fork.proofs.Acting.{upper-slot}
use Rattle.bz_fork.proofs.Ending.{EndsWell, goes-on, other-first, read-answers, was-no-swap}
use Rattle.bz_fork.proofs.ParentsThen.{counted-since, counted-until, lacked-room}

waits : (r : Fork) (stage : Stage) (s : Scene) → fork_facts r Room stage s → HasFilled s × HasReadNode r s.past
waits r Waiting s f = f
waits r Took s f = absurd (f)

pub found : (c : Config) (r : Fork) (seen : Seen) (stage : Stage) (s : Scene) → Tells (fork_asks c r Room) stage seen s → seen ≡ Was r.middle.status → Answers s r.middle.guard r.middle.status
found c r seen stage s t e = (read-answers r.middle.guard r.middle.status stage s (subst (λ z. Tells (fork_asks c r Room) stage z s) e t)).1

-- the node that is split
pub full-node : (r : Fork) (stage : Stage) (s : Scene) → fork_facts r Room stage s → IsFullNode r.read
full-node r stage s f =
    let g = (waits r stage s f).1 in
    record { nodes = s.past.config.nodes; level = g.node.level; low = g.node.low; high = g.node.high; node = g.node.node; many = g.many }

-- what the status of the parent teaches
pub opened-learns : ParentsOfNodesWere → ReadNodesHaveChildren → (c : Config) (r : Fork) (p : ForkPhase) (seen : Seen) (stage : Stage) (s : Scene) → HasOpened r seen p → IsScene s → fork_facts r Room stage s → Tells (fork_asks c r Room) stage seen s → fork_facts r p Waiting s
opened-learns law have c r (Above i) seen stage s h good f t =
    let g = waits r stage s f in
    let first : IsReadingAbove r 1 s.past = record { links = g.1.links; node = g.1.node; many = g.1.many; fits = h.1.1; above = g.1.above } in
    (g.0, (omega (arith, h.0), (omega (arith, h.0), subst (λ z. IsReadingAbove r z s.past) (sym h.0) first)))
opened-learns law have c r NoRoom seen stage s h good f t =
    let g = waits r stage s f in
    let a = h.1.has in
    let n = g.1.node in
    let parts = a.parts s.past.config.nodes n.level n.low n.high n.node in (
      g.0,
      record {
        moment = g.1.links.counted;
        read = r.read;
        left = a.left;
        right = a.right;
        sep = a.sep;
        since = counted-since r s good g.1.links r.read n;
        now = counted-until r s good g.1.links r.read n;
        node = n;
        parts = parts;
        lacked = lacked-room r s good g.1.links r.read n law (found c r seen stage s t h.0).value have a.left a.right a.sep parts h.1.room;
      },
    )
opened-learns law have c r (Writing Restart) seen stage s h good f t = (waits r stage s f).0
opened-learns law have c r p seen stage s h good f t = absurd (h)

-- what it leads to
pub record Opens (r : Fork) (c : Config) (seen : Seen) (p : ForkPhase) (free : FreeSlots) : Type 0 where
  pub begun : p ≢ Fresh
  pub ready : IsReadyFork c r p
  pub nearer : fork_left p + fork_steps p ≤ fork_left Room
  pub fewer : fork_needs p ≤ SPLIT_SLOTS
  pub ends : EndsWell r.upper r.middle r.lower seen Room p free

pub opens : (r : Fork) (c : Config) (seen : Seen) (p : ForkPhase) (free : FreeSlots) (stage : Stage) (s : Scene) → s.past.config ≡ c → IsScene s → fork_facts r Room stage s → Hears (fork_asks c r Room) seen → HasOpened r seen p → Opens r c seen p free
opens r c seen (Above i) free stage s same good f hears h =
    let slot : r.upper.slot < c.nodes = subst (λ (z : Config). r.upper.slot < z.nodes) same (upper-slot r.upper r.middle r.lower s good (waits r stage s f).1.links) in
    record { begun = λ e. absurd (cc); ready = (slot, omega (arith, h.0)); nearer = omega (arith, h.0); fewer = omega arith; ends = goes-on r.upper r.middle r.lower seen Room (Above i) free refl (was-no-swap r.middle.guard seen hears) }
opens r c seen NoRoom free stage s same good f hears h = record {
  begun = λ e. absurd (cc);
  ready = tt;
  nearer = omega arith;
  fewer = omega arith;
  ends = record { done = λ e. absurd (cc); restart = λ e. absurd (cc); no_swap = λ e. absurd (was-no-swap r.middle.guard seen hears e); full_swaps = λ e. absurd (cc); full_nodes = λ e. absurd (cc) };
}
opens r c seen (Writing Restart) free stage s same good f hears h = record {
  begun = λ e. absurd (cc);
  ready = ((λ e. absurd (cc)), tt);
  nearer = omega arith;
  fewer = omega arith;
  ends = record {
    done = λ e. absurd (cc);
    restart = λ e. inr (other-first r.upper r.middle r.lower seen hears h);
    no_swap = λ e. absurd (was-no-swap r.middle.guard seen hears e);
    full_swaps = λ e. absurd (cc);
    full_nodes = λ e. absurd (cc);
  };
}
opens r c seen p free stage s same good f hears h = absurd (h)
