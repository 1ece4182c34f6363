-- What the root's own status tells, found once more: its words are those of one moment, and there may be a level above it or not.
use Rattle.std.proofs.Common.{◌≡◌, ◌≢◌, ◌<◌, ◌+◌, ◌≤◌, arith, refl, sym, ap, subst, inr}
use Rattle.bz_layout.specs.Slots.{FreeSlots}
use Rattle.bz_layout.specs.declared.config.Config.{Config}
use Rattle.bz_layout.specs.declared.sizes.TheConstants.{NODE_WORDS}
use Rattle.bz_layout.specs.declared.thresholds.TheConstants.{INNER_LIMIT, SPLIT_SLOTS}
use Rattle.bz_node.specs.Reading.{children_in}
use Rattle.bz_parted.specs.Parting.{child_words}
use Rattle.bz_word.specs.Statuses.{status}
use Rattle.bz_task.specs.OwnActs.{AreTakenFrom}
use Rattle.bz_task.specs.Requests.{Hears, Tells}
use Rattle.bz_task.specs.Scene.{Scene, Stage, Waiting, Took, IsScene, HasFilled, here}
use Rattle.bz_task.specs.declared.todo.Seen.{Seen}
use Rattle.bz_task.specs.declared.todo.Seen.TheVariants.{Read as Was}
use Rattle.bz_branch.specs.FromBelow.Parents.{WereRead}
use Rattle.bz_branch.specs.Nodes.{WasInner, ReadNodesWere}
use Rattle.bz_crown.specs.Facts.{Crown, IsReading, HasTold, crown_asks, crown_left, crown_steps, crown_needs, crown_facts, IsReadyCrown}
use Rattle.bz_writer.specs.declared.phase.WritePhase.TheVariants.{Guard, Restart}
use Rattle.bz_crown.specs.declared.phase.CrownPhase.{CrownPhase}
use Rattle.bz_crown.specs.declared.phase.CrownPhase.TheVariants.{Fresh, Again, TooHigh, Writing}
use Rattle.bz_crown.proofs.Ending.{EndsWell, goes-on, other-lower, read-answers, was-no-swap}

-- the root, where its own status is found as it was
was-inner : ReadNodesWere → (r : Crown) (s : Scene) → IsScene s → (f : IsReading r NODE_WORDS s.past) → (here s).value r.lower.guard ≡ r.lower.status → WasInner r.upper.slot f.links.guarded r.read s.past
was-inner law r s good f now =
    let v = f.links in
    let w : WasInner r.upper.slot v.node.guard.guarded r.read s.past = law s r.upper.slot r.lower r.read good v.node now
    (subst (λ z. WereRead r.upper.slot z r.lower.status NODE_WORDS r.read s.past) (sym v.is_guarded) f.were) in
    subst (λ z. WasInner r.upper.slot z r.read s.past) v.is_guarded w

-- it takes the words that its status counts
is-many : (r : Crown) (s : Scene) (f : IsReading r NODE_WORDS s.past) → WasInner r.upper.slot f.links.guarded r.read s.past → INNER_LIMIT < child_words (children_in r.read)
is-many r s f w = omega (arith, w.node.node.taken, ap (λ z. (status z).count) f.were.first, ap (λ z. (status z).block) f.were.first, f.links.many)

found-now : (c : Config) (r : Crown) (seen : Seen) (stage : Stage) (s : Scene) → Tells (crown_asks c r Again) stage seen s → seen ≡ Was r.lower.status → (here s).value r.lower.guard ≡ r.lower.status
found-now c r seen stage s t e = (read-answers r.lower.guard r.lower.status stage s (subst (λ z. Tells (crown_asks c r Again) stage z s) e t)).1.value

waits : (r : Crown) (stage : Stage) (s : Scene) → crown_facts r Again stage s → HasFilled s × IsReading r NODE_WORDS s.past
waits r Waiting s f = f
waits r Took s f = absurd (f)

-- what the root's own status, once more, teaches
pub told-learns : ReadNodesWere → (c : Config) (r : Crown) (p : CrownPhase) (seen : Seen) (stage : Stage) (s : Scene) → HasTold r seen p → s.past.config ≡ c → IsScene s → crown_facts r Again stage s → Tells (crown_asks c r Again) stage seen s → crown_facts r p Waiting s
told-learns law c r (Writing Guard) seen stage s h same good f t =
    let g = waits r stage s f in
    let w = was-inner law r s good g.1 (found-now c r seen stage s t h.0) in
    (g.0, record { links = g.1.links; node = w; many = is-many r s g.1 w; low_enough = h.1 s.past.config.nodes w.node.raw w.level w.low w.high w.node.none })
told-learns law c r TooHigh seen stage s h same good f t =
    let g = waits r stage s f in
    let w = was-inner law r s good g.1 (found-now c r seen stage s t h.0) in (
      g.0,
      record {
        moment = g.1.links.guarded;
        read = r.read;
        since = omega (arith, g.1.links.node.guard.since, g.1.links.is_guarded);
        now = omega (arith, g.1.links.node.guard.order, g.1.links.node.guard.now, g.1.links.is_guarded);
        node = w;
        many = is-many r s g.1 w;
        highest = h.1 s.past.config.nodes w.node.raw w.level w.low w.high w.node.none;
      },
    )
told-learns law c r (Writing Restart) seen stage s h same good f t = (waits r stage s f).0
told-learns law c r p seen stage s h same good f t = absurd (h)

-- what it leads to
pub record Tolds (r : Crown) (c : Config) (seen : Seen) (p : CrownPhase) (free : FreeSlots) : Type 0 where
  pub begun : p ≢ Fresh
  pub ready : IsReadyCrown c r p
  pub nearer : crown_left p + crown_steps p ≤ crown_left Again
  pub taken : AreTakenFrom SPLIT_SLOTS (crown_needs p) free free
  pub ends : EndsWell r.upper r.lower seen Again p free

pub tolds : (r : Crown) (c : Config) (seen : Seen) (p : CrownPhase) (free : FreeSlots) → Hears (crown_asks c r Again) seen → HasTold r seen p → Tolds r c seen p free
tolds r c seen (Writing Guard) free hears h =
    record { begun = λ e. absurd (cc); ready = ((λ e. absurd (cc)), tt); nearer = omega arith; taken = inr (record { fewer = omega arith; slots = refl }); ends = goes-on r.upper r.lower seen Again (Writing Guard) free refl (was-no-swap r.lower.guard seen hears) }
tolds r c seen TooHigh free hears h = record {
  begun = λ e. absurd (cc);
  ready = tt;
  nearer = omega arith;
  taken = inr (record { fewer = omega arith; slots = refl });
  ends = record { done = λ e. absurd (cc); restart = λ e. absurd (cc); no_swap = λ e. absurd (was-no-swap r.lower.guard seen hears e); full_swaps = λ e. absurd (cc); full_nodes = λ e. absurd (cc) };
}
tolds r c seen (Writing Restart) free hears h = record {
  begun = λ e. absurd (cc);
  ready = ((λ e. absurd (cc)), tt);
  nearer = omega arith;
  taken = inr (record { fewer = omega arith; slots = refl });
  ends = record {
    done = λ e. absurd (cc);
    restart = λ e. inr (other-lower r.upper r.lower seen hears h);
    no_swap = λ e. absurd (was-no-swap r.lower.guard seen hears e);
    full_swaps = λ e. absurd (cc);
    full_nodes = λ e. absurd (cc);
  };
}
tolds r c seen p free hears h = absurd (h)
