-- What the parent's status tells, found once more: its words are those of one moment.
use Rattle.std.proofs.Common.{◌≡◌, ◌≢◌, ◌+◌, ◌≤◌, arith, refl, subst, inr}
use Rattle.bz_layout.specs.Slots.{FreeSlots}
use Rattle.bz_layout.specs.declared.config.Config.{Config}
use Rattle.bz_layout.specs.declared.sizes.TheConstants.{NODE_WORDS}
use Rattle.bz_layout.specs.declared.thresholds.TheConstants.{SPLIT_SLOTS}
use Rattle.bz_task.specs.Laws.{RangesStay}
use Rattle.bz_task.specs.OwnActs.{AreTakenFrom}
use Rattle.bz_task.specs.Requests.{Hears, Tells}
use Rattle.bz_task.specs.Scene.{Scene, Stage, Waiting, Took, IsScene, HasFilled, here}
use Rattle.bz_task.specs.declared.todo.Seen.{Seen}
use Rattle.bz_task.specs.declared.todo.Seen.TheVariants.{Read as Was}
use Rattle.bz_renew.specs.Standing.{GuardedLinksStand}
use Rattle.bz_branch.specs.FromBelow.Parents.{WasParent}
use Rattle.bz_branch.specs.Nodes.{ParentsOfNodesWere}
use Rattle.bz_fork.specs.Facts.{Fork, IsReadingAbove, HasTold, fork_asks, fork_left, fork_steps, fork_needs, fork_facts, IsReadyFork}
use Rattle.bz_writer.specs.declared.phase.WritePhase.TheVariants.{Guard, Restart}
use Rattle.bz_fork.specs.declared.phase.ForkPhase.{ForkPhase}
use Rattle.bz_fork.specs.declared.phase.ForkPhase.TheVariants.{Fresh, Check, Writing}
use Rattle.bz_fork.proofs.Ending.{EndsWell, goes-on, other-middle, read-answers, was-no-swap}
use Rattle.bz_fork.proofs.ParentsThen.{was-parent, levels, two}
use Rattle.bz_branch.proofs.FromBelow.ParentsThen.{taken}
use Rattle.bz_parted.specs.Laws.{ReadNodesHaveChildren}

found-now : (c : Config) (r : Fork) (seen : Seen) (stage : Stage) (s : Scene) → Tells (fork_asks c r Check) stage seen s → seen ≡ Was r.middle.status → (here s).value r.middle.guard ≡ r.middle.status
found-now c r seen stage s t e = (read-answers r.middle.guard r.middle.status stage s (subst (λ z. Tells (fork_asks c r Check) stage z s) e t)).1.value

waits : (r : Fork) (stage : Stage) (s : Scene) → fork_facts r Check stage s → HasFilled s × IsReadingAbove r NODE_WORDS s.past
waits r Waiting s f = f
waits r Took s f = absurd (f)

-- what the status of the parent, once more, teaches
pub told-learns : ParentsOfNodesWere → GuardedLinksStand → RangesStay → ReadNodesHaveChildren → (c : Config) (r : Fork) (p : ForkPhase) (seen : Seen) (stage : Stage) (s : Scene) → HasTold r seen p → IsScene s → fork_facts r Check stage s → Tells (fork_asks c r Check) stage seen s → fork_facts r p Waiting s
told-learns law stand ranges have c r (Writing Guard) seen stage s h good f t =
    let g = waits r stage s f in
    let now = found-now c r seen stage s t h in
    let v = g.1.links in
    let n = g.1.node in
    let a = g.1.fits.has in
    let parts = a.parts s.past.config.nodes n.level n.low n.high n.node in
    let w : WasParent r.upper r.middle v.guarded v.child a.sep r.above s.past = was-parent r s good v r.read n law now r.above a.left a.right a.sep g.1.above parts in (
      g.0,
      record {
        links = v;
        node = n;
        many = g.1.many;
        left = a.left;
        right = a.right;
        sep = a.sep;
        parts = parts;
        parent = w;
        levels = levels r s good v r.read n stand ranges now v.child a.sep r.above w;
        two = two r s good v r.read n stand ranges now;
        room = omega (arith, g.1.fits.room, taken have s.past.config.nodes r.middle.slot a.sep r.above w.level v.child w.low w.high r.middle.status w.parent g.1.above.first);
      },
    )
told-learns law stand ranges have c r (Writing Restart) seen stage s h good f t = (waits r stage s f).0
told-learns law stand ranges have c r p seen stage s h good f t = absurd (h)

-- what it leads to
pub record Tolds (r : Fork) (c : Config) (seen : Seen) (p : ForkPhase) (free : FreeSlots) : Type 0 where
  pub begun : p ≢ Fresh
  pub ready : IsReadyFork c r p
  pub nearer : fork_left p + fork_steps p ≤ fork_left Check
  pub taken : AreTakenFrom SPLIT_SLOTS (fork_needs p) free free
  pub ends : EndsWell r.upper r.middle r.lower seen Check p free

pub tolds : (r : Fork) (c : Config) (seen : Seen) (p : ForkPhase) (free : FreeSlots) → Hears (fork_asks c r Check) seen → HasTold r seen p → Tolds r c seen p free
tolds r c seen (Writing Guard) free hears h =
    record { begun = λ e. absurd (cc); ready = ((λ e. absurd (cc)), tt); nearer = omega arith; taken = inr (record { fewer = omega arith; slots = refl }); ends = goes-on r.upper r.middle r.lower seen Check (Writing Guard) free refl (was-no-swap r.middle.guard seen hears) }
tolds r c seen (Writing Restart) free hears h = record {
  begun = λ e. absurd (cc);
  ready = ((λ e. absurd (cc)), tt);
  nearer = omega arith;
  taken = inr (record { fewer = omega arith; slots = refl });
  ends = record {
    done = λ e. absurd (cc);
    restart = λ e. inr (other-middle r.upper r.middle r.lower seen hears h);
    no_swap = λ e. absurd (was-no-swap r.middle.guard seen hears e);
    full_swaps = λ e. absurd (cc);
    full_nodes = λ e. absurd (cc);
  };
}
tolds r c seen p free hears h = absurd (h)
