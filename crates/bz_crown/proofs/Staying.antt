-- What a split of an inner root knows stays.
use Rattle.std.proofs.Common.{◌≡◌, ℕ, ◌+◌, ◌≤◌, List, arith, sym, ap, ◌∙◌}
use Rattle.bz_layout.specs.Slots.{FreeSlots}
use Rattle.bz_layout.specs.declared.sizes.TheConstants.{NODE_WORDS}
use Rattle.bz_parted.specs.Roots.{tall_root_words}
use Rattle.bz_task.specs.Instant.{Instant}
use Rattle.bz_task.proofs.Proved.{nothing_is_gained}
use Rattle.bz_task.specs.OwnActs.{gained}
use Rattle.bz_task.specs.Scene.{Past, Scene, Stage, Waiting, Took, IsLawful, Continues, HasFilled}
use Rattle.bz_task.specs.declared.path.Link.{Link}
use Rattle.bz_renew.proofs.Guards.{as-read-stays}
use Rattle.bz_writer.specs.Laws.{IsSoundPlan}
use Rattle.bz_writer.proofs.Staying.{stable as writer-stable, no-slot as writer-no-slot}
use Rattle.bz_renew.proofs.Staying.{guarded-stays}
use Rattle.bz_branch.proofs.FromSplit.Staying.{stood-stays}
use Rattle.bz_branch.specs.Parts.{AreHalvesOfNode}
use Rattle.bz_branch.proofs.Staying.{open-stays, open-guarded, read-stays, inner-stays, halves-stay}
use Rattle.bz_crown.specs.Facts.{Crown, crown_plan, HasLinks, IsReading, IsPlan, WasTooHigh, IsSplitting, WasSplitAtRoot, crown_facts}
use Rattle.bz_crown.specs.declared.phase.CrownPhase.{CrownPhase}
use Rattle.bz_crown.specs.declared.phase.CrownPhase.TheVariants.{Fresh, Word, Again, TooHigh, Writing}

module _ (p q : Past) (c : Continues p q) where
  unfoldable pub links-stay : (upper lower : Link) → HasLinks upper lower p → HasLinks upper lower q
  links-stay upper lower v = record {
    under = v.under;
    guard = guarded-stays p q c upper v.guard;
    thawed = v.thawed;
    node = open-stays p q c upper.slot lower v.node;
    guarded = v.guarded;
    is_guarded = open-guarded p q c upper.slot lower v.node ∙ v.is_guarded;
    many = v.many;
  }

  -- the moment at which the root's own status was read
  pub guarded-now : (upper lower : Link) (v : HasLinks upper lower p) → v.guarded ≤ p.now
  guarded-now upper lower v = omega (arith, v.node.guard.order, v.node.guard.now, v.is_guarded)

  reading-stays : (r : Crown) (place : ℕ) → IsReading r place p → IsReading r place q
  unfolding links-stay
  reading-stays r place v = record {
    links = links-stay r.upper r.lower v.links;
    were = read-stays p q c r.upper.slot v.links.guarded r.lower.status place r.read v.were;
  }

  unfoldable pub planned-stays : (upper lower : Link) (read : List ℕ) → IsPlan upper lower read p → IsPlan upper lower read q
  unfolding links-stay inner-stays
  planned-stays upper lower read v = record {
    links = links-stay upper lower v.links;
    node = inner-stays p q c upper.slot v.links.guarded read (guarded-now upper lower v.links) v.node;
    many = v.many;
    low_enough = v.low_enough;
  }

  -- the halves, and the root over them, are those of the same node
  pub parts-stay : (upper lower : Link) (read left right sep : List ℕ) (v : IsPlan upper lower read p) → AreHalvesOfNode p.config.nodes read left right sep v.node.level v.node.low v.node.high
      → AreHalvesOfNode q.config.nodes read left right sep (planned-stays upper lower read v).node.level (planned-stays upper lower read v).node.low (planned-stays upper lower read v).node.high
  unfolding planned-stays inner-stays
  parts-stay upper lower read left right sep v h = halves-stay p q c read left right sep v.node.level v.node.low v.node.high h

  pub over-stays : (upper lower : Link) (read : List ℕ) (v : IsPlan upper lower read p) (root : List ℕ) (left right : ℕ) (sep : List ℕ) → root ≡ tall_root_words left right sep (v.node.level + 1) → root ≡ tall_root_words left right sep ((planned-stays upper lower read v).node.level + 1)
  unfolding planned-stays inner-stays
  over-stays upper lower read v root left right sep e = e

  high-stays : (upper : Link) → WasTooHigh upper p → WasTooHigh upper q
  unfolding inner-stays
  high-stays upper v = record {
    moment = v.moment;
    read = v.read;
    since = omega (arith, v.since, c.since);
    now = omega (arith, v.now, c.now);
    node = inner-stays p q c upper.slot v.moment v.read v.now v.node;
    many = v.many;
    highest = v.highest;
  }

  pub split-stays : (upper : Link) → WasSplitAtRoot upper p → WasSplitAtRoot upper q
  unfolding inner-stays
  split-stays upper t = record {
    root_slot = t.root_slot;
    left_slot = t.left_slot;
    right_slot = t.right_slot;
    read = t.read;
    left = t.left;
    right = t.right;
    sep = t.sep;
    moment = t.moment;
    before = t.before;
    since = omega (arith, c.since, t.since);
    order = t.order;
    now = omega (arith, c.now, t.now);
    old = inner-stays p q c upper.slot t.moment t.read (omega (arith, t.order, t.now)) t.old;
    parts = halves-stay p q c t.read t.left t.right t.sep t.old.level t.old.low t.old.high t.parts;
    led = ap (λ (x : Instant). x.value upper.link) (c.at (t.before + 1) t.now) ∙ t.led;
    root = stood-stays p q c upper t.left t.right t.sep t.root_slot t.before _ t.now t.root;
    left_half = stood-stays p q c upper t.left t.right t.sep t.left_slot t.before t.left t.now t.left_half;
    right_half = stood-stays p q c upper t.left t.right t.sep t.right_slot t.before t.right t.now t.right_half;
  }

pub splitting-stays : (p q : Past) → Continues p q → (r : Crown) → IsSplitting r p → IsSplitting r q
unfolding planned-stays links-stay
splitting-stays p q c r f = record {
  planned = planned-stays p q c r.upper r.lower r.read f.planned;
  looked = as-read-stays p q c r.upper f.planned.links.guarded f.looked;
  sep = f.sep;
  parts = parts-stay p q c r.upper r.lower r.read (r.image 1) (r.image 2) f.sep f.planned f.parts;
  over = over-stays p q c r.upper r.lower r.read f.planned (r.image 0) (r.slot 1) (r.slot 2) f.sep f.over;
}

module _ (r : Crown) (sound : IsSoundPlan (crown_plan r)) (s after : Scene) (l : IsLawful s after) where
  filled : HasFilled s → HasFilled after
  filled f k t = l.filled k ∙ f k (sym (l.took k) ∙ t)

  pub stable : (phase : CrownPhase) (stage : Stage) → crown_facts r phase stage s → crown_facts r phase stage after
  stable Fresh Waiting f = reading-stays s.past after.past l.continues r 1 f
  stable (Word i) Waiting f = (filled f.0, (f.1.0, (f.1.1.0, reading-stays s.past after.past l.continues r i f.1.1.1)))
  stable Again Waiting f = (filled f.0, reading-stays s.past after.past l.continues r NODE_WORDS f.1)
  stable TooHigh Waiting f = (filled f.0, high-stays s.past after.past l.continues r.upper f.1)
  stable (Writing w) stage f = writer-stable (crown_plan r) sound s after l w stage f
  stable phase Took f = absurd (f)

-- it stays where no slot is taken
module _ (r : Crown) (s : Scene) (free : FreeSlots) where
  pub no-slot : (phase : CrownPhase) → crown_facts r phase Waiting s → crown_facts r phase Waiting (gained s free free)
  no-slot Fresh f = f
  no-slot (Writing w) f = writer-no-slot (crown_plan r) s free w f
  no-slot phase f = (nothing_is_gained s free f.0, f.1)
