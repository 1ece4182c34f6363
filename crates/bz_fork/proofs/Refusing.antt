-- What the parent's status tells, found once more, where it has room for no child: it lacked the room for the separator of the node's halves.
use Rattle.std.proofs.Common.{◌≡◌, ◌≢◌, ℕ, ◌<◌, ◌≤◌, ◌+◌, List, arith, subst, inr}
use Rattle.bz_key.specs.Bytes.{IsKey}
use Rattle.bz_key.proofs.PackingLaws.{length-packed}
use Rattle.bz_layout.specs.Slots.{FreeSlots}
use Rattle.bz_layout.specs.declared.config.Config.{Config}
use Rattle.bz_layout.specs.declared.sizes.TheConstants.{SHARED_WORDS}
use Rattle.bz_layout.specs.declared.thresholds.TheConstants.{SPLIT_SLOTS}
use Rattle.bz_parted.specs.Laws.{ReadNodesHaveChildren}
use Rattle.bz_task.specs.Requests.{Hears, Tells}
use Rattle.bz_task.specs.Scene.{Scene, Stage, Waiting, Took, IsScene, HasFilled, here}
use Rattle.bz_task.specs.declared.todo.Seen.{Seen}
use Rattle.bz_task.specs.declared.todo.Seen.TheVariants.{Read as Was}
use Rattle.bz_branch.specs.FromBelow.Facts.{words_with}
use Rattle.bz_branch.specs.Nodes.{ParentsOfNodesWere}
use Rattle.bz_fork.specs.Facts.{Fork, HasPassedNode, TakesNoChild, HasRefused, LackedPart, IsReadyFork, fork_asks, fork_left, fork_steps, fork_needs, fork_facts}
use Rattle.bz_fork.specs.Halves.{HasHalves, FullNodesHaveHalves}
use Rattle.bz_writer.specs.declared.phase.WritePhase.TheVariants.{Restart}
use Rattle.bz_fork.specs.declared.phase.ForkPhase.{ForkPhase}
use Rattle.bz_fork.specs.declared.phase.ForkPhase.TheVariants.{Fresh, Tight, NoRoom, Writing}
use Rattle.bz_fork.proofs.Ending.{EndsWell, other-tight, read-answers, was-no-swap}
use Rattle.bz_fork.proofs.ParentsThen.{counted-since, counted-until, lacked-room}

-- a separator is never empty, so that its child takes no fewer words than the least
too-tight : (st : ℕ) (sep : List ℕ) → IsKey sep → TakesNoChild st → SHARED_WORDS < words_with st sep
too-tight st sep key tight = omega (arith, length-packed sep, key.some, tight)

found-now : (c : Config) (r : Fork) (seen : Seen) (stage : Stage) (s : Scene) → Tells (fork_asks c r Tight) stage seen s → seen ≡ Was r.middle.status → (here s).value r.middle.guard ≡ r.middle.status
found-now c r seen stage s t e = (read-answers r.middle.guard r.middle.status stage s (subst (λ z. Tells (fork_asks c r Tight) stage z s) e t)).1.value

waits : (r : Fork) (stage : Stage) (s : Scene) → fork_facts r Tight stage s → HasFilled s × HasPassedNode r s.past
waits r Waiting s f = f
waits r Took s f = absurd (f)

lacked : ParentsOfNodesWere → ReadNodesHaveChildren → FullNodesHaveHalves → (r : Fork) (s : Scene) → IsScene s → HasPassedNode r s.past → (here s).value r.middle.guard ≡ r.middle.status → LackedPart r.upper r.middle s.past
lacked law have halve r s good g now =
    let n = g.node in
    let a : HasHalves s.past.config.nodes g.unread n.level n.low n.high = halve s.past.config.nodes g.unread n.level n.low n.high n.node g.many in
    record {
      moment = g.links.counted;
      read = g.unread;
      left = a.left;
      right = a.right;
      sep = a.sep;
      since = counted-since r s good g.links g.unread n;
      now = counted-until r s good g.links g.unread n;
      node = n;
      parts = a.halves;
      lacked = lacked-room r s good g.links g.unread n law now have a.left a.right a.sep a.halves (too-tight r.middle.status a.sep a.halves.separator g.tight);
    }

-- what the status of the parent, once more, teaches
pub refused-learns : ParentsOfNodesWere → ReadNodesHaveChildren → FullNodesHaveHalves → (c : Config) (r : Fork) (p : ForkPhase) (seen : Seen) (stage : Stage) (s : Scene) → HasRefused r seen p → IsScene s → fork_facts r Tight stage s → Tells (fork_asks c r Tight) stage seen s → fork_facts r p Waiting s
refused-learns law have halve c r NoRoom seen stage s h good f t = let g = waits r stage s f in (g.0, lacked law have halve r s good g.1 (found-now c r seen stage s t h))
refused-learns law have halve c r (Writing Restart) seen stage s h good f t = (waits r stage s f).0
refused-learns law have halve c r p seen stage s h good f t = absurd (h)

-- what it leads to
pub record Refuses (r : Fork) (c : Config) (seen : Seen) (p : ForkPhase) (free : FreeSlots) : Type 0 where
  pub begun : p ≢ Fresh
  pub ready : IsReadyFork c r p
  pub nearer : fork_left p + fork_steps p ≤ fork_left Tight
  pub fewer : fork_needs p ≤ SPLIT_SLOTS
  pub ends : EndsWell r.upper r.middle r.lower seen Tight p free

pub refuses : (r : Fork) (c : Config) (seen : Seen) (p : ForkPhase) (free : FreeSlots) → Hears (fork_asks c r Tight) seen → HasRefused r seen p → Refuses r c seen p free
refuses r c seen NoRoom free hears h = record {
  begun = λ e. absurd (cc);
  ready = tt;
  nearer = omega arith;
  fewer = omega arith;
  ends = record { done = λ e. absurd (cc); restart = λ e. absurd (cc); no_swap = λ e. absurd (was-no-swap r.middle.guard seen hears e); full_swaps = λ e. absurd (cc); full_nodes = λ e. absurd (cc) };
}
refuses r c seen (Writing Restart) free hears h = record {
  begun = λ e. absurd (cc);
  ready = ((λ e. absurd (cc)), tt);
  nearer = omega arith;
  fewer = omega arith;
  ends = record {
    done = λ e. absurd (cc);
    restart = λ e. inr (other-tight r.upper r.middle r.lower seen hears h);
    no_swap = λ e. absurd (was-no-swap r.middle.guard seen hears e);
    full_swaps = λ e. absurd (cc);
    full_nodes = λ e. absurd (cc);
  };
}
refuses r c seen p free hears h = absurd (h)
