-- What the first phase leads to: the node's words are read, unless the parent has room for no child.
use Rattle.std.proofs.Common.{◌≡◌, ◌≢◌, ◌^◌, ◌<◌, ◌≤◌, ◌+◌, arith, refl, sym, subst}
use Rattle.std.specs.Prelude.{None}
use Rattle.bz_layout.specs.Slots.{FreeSlots}
use Rattle.bz_layout.specs.declared.config.Config.{Config}
use Rattle.bz_layout.specs.declared.thresholds.TheConstants.{SPLIT_SLOTS}
use Rattle.bz_task.specs.Requests.{Hears, Tells}
use Rattle.bz_task.specs.Scene.{Scene, Stage, Waiting, Took, IsScene}
use Rattle.bz_task.specs.declared.todo.Seen.{Seen}
use Rattle.bz_renew.specs.Renewals.{IsTurnable, LinksMayBeTurned}
use Rattle.bz_fork.specs.Facts.{Fork, IsFirst, IsReadyFork, fork_asks, fork_end, fork_left, fork_steps, fork_needs, fork_facts}
use Rattle.bz_fork.specs.declared.phase.ForkPhase.{ForkPhase}
use Rattle.bz_fork.specs.declared.phase.ForkPhase.TheVariants.{Fresh, Unread, Word}
use Rattle.bz_fork.proofs.Ending.{EndsWell, first-ends}
use Rattle.bz_fork.proofs.Reading.{fresh-known, fresh-ready}

-- the parent's status is a plain word
pub plain : LinksMayBeTurned → (r : Fork) (stage : Stage) (s : Scene) → IsScene s → fork_facts r Fresh stage s → r.middle.status < 2 ^ 61
plain turned r Waiting s good f = let t : IsTurnable r.middle s = turned s r.middle good f.links.down.guard f.links.down.thawed in t.plain
plain turned r Took s good f = absurd (f)

-- what is known then
pub first-learns : (c : Config) (r : Fork) (p : ForkPhase) (seen : Seen) (stage : Stage) (s : Scene) → IsFirst r p → fork_facts r Fresh stage s → Tells (fork_asks c r Fresh) stage seen s → fork_facts r p Waiting s
first-learns c r Unread seen stage s h f t = let k = fresh-known c r seen stage s f t in (k.0, (k.1.1.1, h))
first-learns c r (Word i) seen stage s h f t = subst (λ z. fork_facts r (Word z) Waiting s) (sym h.0) (fresh-known c r seen stage s f t)
first-learns c r p seen stage s h f t = absurd (h)

-- what it leads to
pub record Firsts (r : Fork) (c : Config) (seen : Seen) (p : ForkPhase) (free : FreeSlots) : Type 0 where
  pub begun : p ≢ Fresh
  pub goes : fork_end p ≡ None
  pub ready : IsReadyFork c r p
  pub nearer : fork_left p + fork_steps p ≤ fork_left Fresh
  pub fewer : fork_needs p ≤ SPLIT_SLOTS
  pub ends : EndsWell r.upper r.middle r.lower seen Fresh p free

pub firsts : (r : Fork) (c : Config) (seen : Seen) (p : ForkPhase) (free : FreeSlots) (stage : Stage) (s : Scene) → s.past.config ≡ c → IsScene s → fork_facts r Fresh stage s → Hears (fork_asks c r Fresh) seen → IsFirst r p → Firsts r c seen p free
firsts r c seen Unread free stage s same good f hears h =
    record { begun = λ e. absurd (cc); goes = refl; ready = tt; nearer = omega arith; fewer = omega arith; ends = first-ends c r seen Unread free hears refl }
firsts r c seen (Word i) free stage s same good f hears h =
    record { begun = λ e. absurd (cc); goes = refl; ready = ((fresh-ready c r seen stage s same good f).0, omega (arith, h.0)); nearer = omega (arith, h.0); fewer = omega arith; ends = first-ends c r seen (Word i) free hears refl }
firsts r c seen p free stage s same good f hears h = absurd (h)
