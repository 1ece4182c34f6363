-- What the node's status tells, found once more, where its words are not read: they were those of one moment.
use Rattle.std.proofs.Common.{◌≡◌, ◌≢◌, ◌≤◌, List, ℕ, arith, refl, sym, ap, subst, ◌∙◌, ◌+◌, inr}
use Rattle.bz_layout.specs.Slots.{FreeSlots}
use Rattle.bz_layout.specs.declared.config.Config.{Config}
use Rattle.bz_layout.specs.declared.sizes.TheConstants.{NODE_WORDS, STATUS_AT}
use Rattle.bz_layout.specs.declared.thresholds.TheConstants.{SPLIT_SLOTS}
use Rattle.bz_task.specs.Instant.{Instant, words}
use Rattle.bz_task.specs.Requests.{Hears, Tells}
use Rattle.bz_task.specs.Scene.{Scene, Stage, Waiting, Took, IsScene, HasFilled, here}
use Rattle.bz_task.specs.declared.todo.Seen.{Seen}
use Rattle.bz_task.specs.declared.todo.Seen.TheVariants.{Read as Was}
use Rattle.bz_renew.proofs.Words.{node-at}
use Rattle.bz_branch.specs.FromBelow.Parents.{WereRead}
use Rattle.bz_branch.specs.Nodes.{WasInner, ReadNodesWere}
use Rattle.bz_branch.proofs.FromBelow.ReadWords.{listed, all-read}
use Rattle.bz_branch.proofs.Standing.{guard-is}
use Rattle.bz_fork.specs.Facts.{Fork, HasLinks, IsReading, HasPassedNode, TakesNoChild, HasPassed, IsReadyFork, fork_asks, fork_left, fork_steps, fork_needs, fork_facts}
use Rattle.bz_writer.specs.declared.phase.WritePhase.TheVariants.{Restart}
use Rattle.bz_fork.specs.declared.phase.ForkPhase.{ForkPhase}
use Rattle.bz_fork.specs.declared.phase.ForkPhase.TheVariants.{Fresh, Unread, Tight, Writing}
use Rattle.bz_fork.proofs.Ending.{EndsWell, goes-on, other-unread, read-answers, was-no-swap}
use Rattle.bz_fork.proofs.ReadingOn.{was-inner, is-many}

-- the node's status when it was read, and its words then
module _ (r : Fork) (s : Scene) (good : IsScene s) (v : HasLinks r.upper r.middle r.lower s.past) where
  status-was : words s.past.config (s.past.at v.counted) r.middle.slot STATUS_AT ≡ r.lower.status
  status-was =
      let was : Instant = s.past.at v.node.guard.guarded in
      subst (λ z. words s.past.config (s.past.at z) r.middle.slot STATUS_AT ≡ r.lower.status) v.is_counted
      (node-at s.past.config was.value r.middle.slot STATUS_AT (omega arith) ∙ (ap was.value (sym (guard-is s r.middle.slot r.lower good v.node)) ∙ v.node.guard.status))

  abbrev unread : List ℕ
  unread = listed (words s.past.config (s.past.at v.counted) r.middle.slot)

  were : WereRead r.middle.slot v.counted r.lower.status NODE_WORDS unread s.past
  were = all-read r.middle.slot v.counted r.lower.status s.past (omega (arith, v.node.guard.order, v.node.guard.now, v.is_counted)) status-was

  passed : ReadNodesWere → TakesNoChild r.middle.status → (here s).value r.lower.guard ≡ r.lower.status → HasPassedNode r s.past
  passed law tight now =
      let w : WasInner r.middle.slot v.counted unread s.past = was-inner law r s good v unread were now in
      record { links = v; unread = unread; node = w; many = is-many r s v unread were.first w; tight = tight }

found-now : (c : Config) (r : Fork) (seen : Seen) (stage : Stage) (s : Scene) → Tells (fork_asks c r Unread) stage seen s → seen ≡ Was r.lower.status → (here s).value r.lower.guard ≡ r.lower.status
found-now c r seen stage s t e = (read-answers r.lower.guard r.lower.status stage s (subst (λ z. Tells (fork_asks c r Unread) stage z s) e t)).1.value

waits : (r : Fork) (stage : Stage) (s : Scene) → fork_facts r Unread stage s → HasFilled s × (IsReading r 1 s.past × TakesNoChild r.middle.status)
waits r Waiting s f = f
waits r Took s f = absurd (f)

-- what the status of the node, once more, teaches
pub passed-learns : ReadNodesWere → (c : Config) (r : Fork) (p : ForkPhase) (seen : Seen) (stage : Stage) (s : Scene) → HasPassed r seen p → IsScene s → fork_facts r Unread stage s → Tells (fork_asks c r Unread) stage seen s → fork_facts r p Waiting s
passed-learns law c r Tight seen stage s h good f t = let g = waits r stage s f in (g.0, passed r s good g.1.0.links law g.1.1 (found-now c r seen stage s t h))
passed-learns law c r (Writing Restart) seen stage s h good f t = (waits r stage s f).0
passed-learns law c r p seen stage s h good f t = absurd (h)

-- what it leads to
pub record Passes (r : Fork) (c : Config) (seen : Seen) (p : ForkPhase) (free : FreeSlots) : Type 0 where
  pub begun : p ≢ Fresh
  pub ready : IsReadyFork c r p
  pub nearer : fork_left p + fork_steps p ≤ fork_left Unread
  pub fewer : fork_needs p ≤ SPLIT_SLOTS
  pub ends : EndsWell r.upper r.middle r.lower seen Unread p free

pub passes : (r : Fork) (c : Config) (seen : Seen) (p : ForkPhase) (free : FreeSlots) → Hears (fork_asks c r Unread) seen → HasPassed r seen p → Passes r c seen p free
passes r c seen Tight free hears h =
    record { begun = λ e. absurd (cc); ready = tt; nearer = omega arith; fewer = omega arith; ends = goes-on r.upper r.middle r.lower seen Unread Tight free refl (was-no-swap r.lower.guard seen hears) }
passes r c seen (Writing Restart) free hears h = record {
  begun = λ e. absurd (cc);
  ready = ((λ e. absurd (cc)), tt);
  nearer = omega arith;
  fewer = omega arith;
  ends = record {
    done = λ e. absurd (cc);
    restart = λ e. inr (other-unread r.upper r.middle r.lower seen hears h);
    no_swap = λ e. absurd (was-no-swap r.lower.guard seen hears e);
    full_swaps = λ e. absurd (cc);
    full_nodes = λ e. absurd (cc);
  };
}
passes r c seen p free hears h = absurd (h)
