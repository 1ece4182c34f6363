-- What a split of an inner node below a parent knows stays.
use Rattle.std.proofs.Common.{◌≡◌, ℕ, ◌+◌, ◌≤◌, List, arith, sym, ap, subst, ◌∙◌}
use Rattle.bz_layout.specs.Slots.{FreeSlots}
use Rattle.bz_layout.specs.declared.config.Config.{Config}
use Rattle.bz_layout.specs.declared.sizes.TheConstants.{NODE_WORDS}
use Rattle.bz_halves.specs.Parents.{parted_words}
use Rattle.bz_node.specs.Reading.{children_in}
use Rattle.bz_task.specs.Instant.{Instant}
use Rattle.bz_task.proofs.Proved.{nothing_is_gained}
use Rattle.bz_task.specs.OwnActs.{gained}
use Rattle.bz_task.specs.Scene.{Past, Scene, Stage, Waiting, Took, IsLawful, Continues, HasFilled}
use Rattle.bz_task.specs.declared.path.Link.{Link}
use Rattle.bz_renew.proofs.Guards.{as-read-stays}
use Rattle.bz_writer.specs.Laws.{IsSoundPlan}
use Rattle.bz_writer.proofs.Staying.{stable as writer-stable, no-slot as writer-no-slot}
use Rattle.bz_branch.proofs.FromSplit.Staying.{stood-stays}
use Rattle.bz_branch.specs.FromBelow.Facts.{LackedRoom}
use Rattle.bz_branch.specs.Parts.{AreHalvesOfNode}
use Rattle.bz_branch.proofs.Staying.{open-stays, open-guarded, links-stay, links-guarded, links-child, read-stays, inner-stays, parent-stays, halves-stay}
use Rattle.bz_fork.specs.Facts.{Fork, fork_plan, HasLinks, IsReading, HasPassedNode, HasReadNode, IsReadingAbove, IsPlan, LackedPart, AreClear, IsSplitting, WasSplitInner, fork_facts}
use Rattle.bz_fork.specs.declared.phase.ForkPhase.{ForkPhase}
use Rattle.bz_fork.specs.declared.phase.ForkPhase.TheVariants.{Fresh, Unread, Tight, Word, Again, Room, Above, Check, NoRoom, Writing}

module _ (p q : Past) (c : Continues p q) where
  unfoldable pub has-links-stay : (upper middle lower : Link) → HasLinks upper middle lower p → HasLinks upper middle lower q
  has-links-stay upper middle lower v = record {
    down = links-stay p q c upper middle v.down;
    node = open-stays p q c middle.slot lower v.node;
    guarded = v.guarded;
    is_guarded = links-guarded p q c upper middle v.down ∙ v.is_guarded;
    child = v.child;
    is_child = links-child p q c upper middle v.down ∙ v.is_child;
    counted = v.counted;
    is_counted = open-guarded p q c middle.slot lower v.node ∙ v.is_counted;
    many = v.many;
  }

  -- the moments at which the statuses of parent and node were read
  pub guarded-now : (upper middle lower : Link) (v : HasLinks upper middle lower p) → v.guarded ≤ p.now
  guarded-now upper middle lower v = omega (arith, v.down.guard.order, v.down.guard.now, v.is_guarded)

  pub counted-now : (upper middle lower : Link) (v : HasLinks upper middle lower p) → v.counted ≤ p.now
  counted-now upper middle lower v = omega (arith, v.node.guard.order, v.node.guard.now, v.is_counted)

  reading-stays : (r : Fork) (place : ℕ) → IsReading r place p → IsReading r place q
  unfolding has-links-stay
  reading-stays r place v = record {
    links = has-links-stay r.upper r.middle r.lower v.links;
    were = read-stays p q c r.middle.slot v.links.counted r.lower.status place r.read v.were;
    above = read-stays p q c r.upper.slot v.links.guarded r.middle.status 1 r.above v.above;
  }

  passed-stays : (r : Fork) → HasPassedNode r p → HasPassedNode r q
  unfolding has-links-stay
  passed-stays r v = record {
    links = has-links-stay r.upper r.middle r.lower v.links;
    unread = v.unread;
    node = inner-stays p q c r.middle.slot v.links.counted v.unread (counted-now r.upper r.middle r.lower v.links) v.node;
    many = v.many;
    tight = v.tight;
  }

  node-stays : (r : Fork) → HasReadNode r p → HasReadNode r q
  unfolding has-links-stay
  node-stays r v = record {
    links = has-links-stay r.upper r.middle r.lower v.links;
    node = inner-stays p q c r.middle.slot v.links.counted r.read (counted-now r.upper r.middle r.lower v.links) v.node;
    many = v.many;
    above = read-stays p q c r.upper.slot v.links.guarded r.middle.status 1 r.above v.above;
  }

  above-stays : (r : Fork) (place : ℕ) → IsReadingAbove r place p → IsReadingAbove r place q
  unfolding has-links-stay
  above-stays r place v = record {
    links = has-links-stay r.upper r.middle r.lower v.links;
    node = inner-stays p q c r.middle.slot v.links.counted r.read (counted-now r.upper r.middle r.lower v.links) v.node;
    many = v.many;
    fits = v.fits;
    above = read-stays p q c r.upper.slot v.links.guarded r.middle.status place r.above v.above;
  }

  unfoldable pub planned-stays : (upper middle lower : Link) (read above : List ℕ) → IsPlan upper middle lower read above p → IsPlan upper middle lower read above q
  unfolding has-links-stay inner-stays parent-stays
  planned-stays upper middle lower read above v = record {
    links = has-links-stay upper middle lower v.links;
    node = inner-stays p q c middle.slot v.links.counted read (counted-now upper middle lower v.links) v.node;
    many = v.many;
    left = v.left;
    right = v.right;
    sep = v.sep;
    parts = halves-stay p q c read v.left v.right v.sep v.node.level v.node.low v.node.high v.parts;
    parent = parent-stays p q c upper middle v.links.guarded v.links.child v.sep above (guarded-now upper middle lower v.links) v.parent;
    levels = v.levels;
    two = v.two;
    room = v.room;
  }

  -- the halves, and the parent with them, are those of the same nodes
  pub parts-stay : (upper middle lower : Link) (read above left right : List ℕ) (v : IsPlan upper middle lower read above p) → AreHalvesOfNode p.config.nodes read left right v.sep v.node.level v.node.low v.node.high
      → AreHalvesOfNode q.config.nodes read left right (planned-stays upper middle lower read above v).sep (planned-stays upper middle lower read above v).node.level (planned-stays upper middle lower read above v).node.low (planned-stays upper middle lower read above v).node.high
  unfolding planned-stays inner-stays
  parts-stay upper middle lower read above left right v h = halves-stay p q c read left right v.sep v.node.level v.node.low v.node.high h

  pub over-stays : (upper middle lower : Link) (read above : List ℕ) (v : IsPlan upper middle lower read above p) (parent : List ℕ) (left right : ℕ) → parent ≡ parted_words (children_in above) v.links.child left right v.sep v.parent.low v.parent.high v.parent.level
      → parent
      ≡ parted_words (children_in above) (planned-stays upper middle lower read above v).links.child left right (planned-stays upper middle lower read above v).sep (planned-stays upper middle lower read above v).parent.low (planned-stays upper middle lower read above v).parent.high (planned-stays upper middle lower read above v).parent.level
  unfolding planned-stays parent-stays has-links-stay
  over-stays upper middle lower read above v parent left right e = e

  pub clear-stays : (upper middle : Link) → AreClear p.config upper middle → AreClear q.config upper middle
  clear-stays upper middle v = subst (λ (z : Config). AreClear z upper middle) (sym c.config) v

  lacked-stays : (upper middle : Link) (sep : List ℕ) → LackedRoom upper middle sep p → LackedRoom upper middle sep q
  lacked-stays upper middle sep v = record {
    moment = v.moment;
    child = v.child;
    read = v.read;
    since = omega (arith, v.since, c.since);
    now = omega (arith, v.now, c.now);
    parent = parent-stays p q c upper middle v.moment v.child sep v.read v.now v.parent;
    room = v.room;
  }

  part-stays : (upper middle : Link) → LackedPart upper middle p → LackedPart upper middle q
  unfolding inner-stays
  part-stays upper middle v = record {
    moment = v.moment;
    read = v.read;
    left = v.left;
    right = v.right;
    sep = v.sep;
    since = omega (arith, v.since, c.since);
    now = omega (arith, v.now, c.now);
    node = inner-stays p q c middle.slot v.moment v.read v.now v.node;
    parts = halves-stay p q c v.read v.left v.right v.sep v.node.level v.node.low v.node.high v.parts;
    lacked = lacked-stays upper middle v.sep v.lacked;
  }

  pub split-stays : (upper middle : Link) → WasSplitInner upper middle p → WasSplitInner upper middle q
  unfolding inner-stays parent-stays
  split-stays upper middle t = record {
    parent_slot = t.parent_slot;
    left_slot = t.left_slot;
    right_slot = t.right_slot;
    read = t.read;
    above = t.above;
    left = t.left;
    right = t.right;
    sep = t.sep;
    child = t.child;
    moment = t.moment;
    counted = t.counted;
    before = t.before;
    since = omega (arith, c.since, t.since);
    order = t.order;
    counted_since = omega (arith, c.since, t.counted_since);
    counted_order = t.counted_order;
    now = omega (arith, c.now, t.now);
    old = parent-stays p q c upper middle t.moment t.child t.sep t.above (omega (arith, t.order, t.now)) t.old;
    node = inner-stays p q c middle.slot t.counted t.read (omega (arith, t.counted_order, t.now)) t.node;
    parts = halves-stay p q c t.read t.left t.right t.sep t.node.level t.node.low t.node.high t.parts;
    led = ap (λ (x : Instant). x.value upper.link) (c.at (t.before + 1) t.now) ∙ t.led;
    parent = stood-stays p q c upper t.left t.right t.sep t.parent_slot t.before _ t.now t.parent;
    left_half = stood-stays p q c upper t.left t.right t.sep t.left_slot t.before t.left t.now t.left_half;
    right_half = stood-stays p q c upper t.left t.right t.sep t.right_slot t.before t.right t.now t.right_half;
  }

pub splitting-stays : (p q : Past) → Continues p q → (r : Fork) → IsSplitting r p → IsSplitting r q
unfolding planned-stays has-links-stay
splitting-stays p q c r f = record {
  planned = planned-stays p q c r.upper r.middle r.lower r.read r.above f.planned;
  looked = as-read-stays p q c r.upper f.planned.links.counted f.looked;
  clear = clear-stays p q c r.upper r.middle f.clear;
  halves = parts-stay p q c r.upper r.middle r.lower r.read r.above (r.image 1) (r.image 2) f.planned f.halves;
  over = over-stays p q c r.upper r.middle r.lower r.read r.above f.planned (r.image 0) (r.slot 1) (r.slot 2) f.over;
}

module _ (r : Fork) (sound : IsSoundPlan (fork_plan r)) (s after : Scene) (l : IsLawful s after) where
  filled : HasFilled s → HasFilled after
  filled f k t = l.filled k ∙ f k (sym (l.took k) ∙ t)

  pub stable : (phase : ForkPhase) (stage : Stage) → fork_facts r phase stage s → fork_facts r phase stage after
  stable Fresh Waiting f = reading-stays s.past after.past l.continues r 1 f
  stable Unread Waiting f = (filled f.0, (reading-stays s.past after.past l.continues r 1 f.1.0, f.1.1))
  stable Tight Waiting f = (filled f.0, passed-stays s.past after.past l.continues r f.1)
  stable (Word i) Waiting f = (filled f.0, (f.1.0, (f.1.1.0, reading-stays s.past after.past l.continues r i f.1.1.1)))
  stable Again Waiting f = (filled f.0, reading-stays s.past after.past l.continues r NODE_WORDS f.1)
  stable Room Waiting f = (filled f.0, node-stays s.past after.past l.continues r f.1)
  stable (Above i) Waiting f = (filled f.0, (f.1.0, (f.1.1.0, above-stays s.past after.past l.continues r i f.1.1.1)))
  stable Check Waiting f = (filled f.0, above-stays s.past after.past l.continues r NODE_WORDS f.1)
  stable NoRoom Waiting f = (filled f.0, part-stays s.past after.past l.continues r.upper r.middle f.1)
  stable (Writing w) stage f = writer-stable (fork_plan r) sound s after l w stage f
  stable phase Took f = absurd (f)

-- it stays where no slot is taken
module _ (r : Fork) (s : Scene) (free : FreeSlots) where
  pub no-slot : (phase : ForkPhase) → fork_facts r phase Waiting s → fork_facts r phase Waiting (gained s free free)
  no-slot Fresh f = f
  no-slot (Writing w) f = writer-no-slot (fork_plan r) s free w f
  no-slot phase f = (nothing_is_gained s free f.0, f.1)
