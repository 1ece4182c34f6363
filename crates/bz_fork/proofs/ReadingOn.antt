-- What the node's status tells, found once more: its words are those of one moment.
use Rattle.std.proofs.Common.{◌≡◌, ◌≢◌, ◌<◌, ◌≤◌, ◌+◌, List, ℕ, slice_index, arith, refl, sym, ap, subst, inr}
use Rattle.bz_layout.specs.Slots.{FreeSlots}
use Rattle.bz_layout.specs.declared.config.Config.{Config}
use Rattle.bz_layout.specs.declared.sizes.TheConstants.{NODE_WORDS, STATUS_AT}
use Rattle.bz_layout.specs.declared.thresholds.TheConstants.{INNER_LIMIT, SPLIT_SLOTS}
use Rattle.bz_node.specs.Reading.{children_in}
use Rattle.bz_parted.specs.Parting.{child_words}
use Rattle.bz_word.specs.Statuses.{status}
use Rattle.bz_task.specs.Requests.{Hears, Tells}
use Rattle.bz_task.specs.Scene.{Scene, Stage, Waiting, Took, IsScene, HasFilled, here}
use Rattle.bz_task.specs.declared.todo.Seen.{Seen}
use Rattle.bz_task.specs.declared.todo.Seen.TheVariants.{Read as Was}
use Rattle.bz_branch.specs.FromBelow.Parents.{WereRead}
use Rattle.bz_branch.specs.Nodes.{WasInner, ReadNodesWere}
use Rattle.bz_fork.specs.Facts.{Fork, HasLinks, IsReading, HasRead, fork_asks, fork_left, fork_steps, fork_needs, fork_facts, IsReadyFork}
use Rattle.bz_writer.specs.declared.phase.WritePhase.TheVariants.{Restart}
use Rattle.bz_fork.specs.declared.phase.ForkPhase.{ForkPhase}
use Rattle.bz_fork.specs.declared.phase.ForkPhase.TheVariants.{Fresh, Again, Room, Writing}
use Rattle.bz_fork.proofs.Ending.{EndsWell, goes-on, other-lower, read-answers, was-no-swap}

-- the node, where its status is found as it was
pub was-inner : ReadNodesWere → (r : Fork) (s : Scene) → IsScene s → (v : HasLinks r.upper r.middle r.lower s.past) (read : List ℕ) → WereRead r.middle.slot v.counted r.lower.status NODE_WORDS read s.past → (here s).value r.lower.guard ≡ r.lower.status →
    WasInner r.middle.slot v.counted read s.past
was-inner law r s good v read were now =
    let w : WasInner r.middle.slot v.node.guard.guarded read s.past = law s r.middle.slot r.lower read good v.node now
    (subst (λ z. WereRead r.middle.slot z r.lower.status NODE_WORDS read s.past) (sym v.is_counted) were) in
    subst (λ z. WasInner r.middle.slot z read s.past) v.is_counted w

-- it takes the words that its status counts
pub is-many : (r : Fork) (s : Scene) (v : HasLinks r.upper r.middle r.lower s.past) (read : List ℕ) → slice_index read STATUS_AT ≡ r.lower.status → WasInner r.middle.slot v.counted read s.past → INNER_LIMIT < child_words (children_in read)
is-many r s v read first w = omega (arith, w.node.node.taken, ap (λ z. (status z).count) first, ap (λ z. (status z).block) first, v.many)

found-now : (c : Config) (r : Fork) (seen : Seen) (stage : Stage) (s : Scene) → Tells (fork_asks c r Again) stage seen s → seen ≡ Was r.lower.status → (here s).value r.lower.guard ≡ r.lower.status
found-now c r seen stage s t e = (read-answers r.lower.guard r.lower.status stage s (subst (λ z. Tells (fork_asks c r Again) stage z s) e t)).1.value

waits : (r : Fork) (stage : Stage) (s : Scene) → fork_facts r Again stage s → HasFilled s × IsReading r NODE_WORDS s.past
waits r Waiting s f = f
waits r Took s f = absurd (f)

-- what the status of the node, once more, teaches
pub read-learns : ReadNodesWere → (c : Config) (r : Fork) (p : ForkPhase) (seen : Seen) (stage : Stage) (s : Scene) → HasRead r seen p → IsScene s → fork_facts r Again stage s → Tells (fork_asks c r Again) stage seen s → fork_facts r p Waiting s
read-learns law c r Room seen stage s h good f t =
    let g = waits r stage s f in
    let w = was-inner law r s good g.1.links r.read g.1.were (found-now c r seen stage s t h) in
    (g.0, record { links = g.1.links; node = w; many = is-many r s g.1.links r.read g.1.were.first w; above = g.1.above })
read-learns law c r (Writing Restart) seen stage s h good f t = (waits r stage s f).0
read-learns law c r p seen stage s h good f t = absurd (h)

-- what it leads to
pub record Ons (r : Fork) (c : Config) (seen : Seen) (p : ForkPhase) (free : FreeSlots) : Type 0 where
  pub begun : p ≢ Fresh
  pub ready : IsReadyFork c r p
  pub nearer : fork_left p + fork_steps p ≤ fork_left Again
  pub fewer : fork_needs p ≤ SPLIT_SLOTS
  pub ends : EndsWell r.upper r.middle r.lower seen Again p free

pub reads : (r : Fork) (c : Config) (seen : Seen) (p : ForkPhase) (free : FreeSlots) → Hears (fork_asks c r Again) seen → HasRead r seen p → Ons r c seen p free
reads r c seen Room free hears h =
    record { begun = λ e. absurd (cc); ready = tt; nearer = omega arith; fewer = omega arith; ends = goes-on r.upper r.middle r.lower seen Again Room free refl (was-no-swap r.lower.guard seen hears) }
reads r c seen (Writing Restart) free hears h = record {
  begun = λ e. absurd (cc);
  ready = ((λ e. absurd (cc)), tt);
  nearer = omega arith;
  fewer = omega arith;
  ends = record {
    done = λ e. absurd (cc);
    restart = λ e. inr (other-lower r.upper r.middle r.lower seen hears h);
    no_swap = λ e. absurd (was-no-swap r.lower.guard seen hears e);
    full_swaps = λ e. absurd (cc);
    full_nodes = λ e. absurd (cc);
  };
}
reads r c seen p free hears h = absurd (h)
