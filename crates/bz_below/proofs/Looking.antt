-- What another look at the guard of the link to the parent leads to, and teaches.
use Rattle.std.proofs.Common.{◌≡◌, ◌≢◌, ℕ, ◌+◌, ◌<◌, ◌≤◌, true, false, List, arith, refl, sym, ap, subst, ◌∙◌, inl, inr}
use Rattle.std.specs.Prelude.{Some}
use Rattle.bz_layout.specs.Addresses.{SlotsApart}
use Rattle.bz_layout.specs.Slots.{FreeSlots}
use Rattle.bz_layout.specs.declared.config.Config.{Config}
use Rattle.bz_layout.specs.declared.sizes.TheConstants.{NODE_WORDS}
use Rattle.bz_layout.specs.declared.thresholds.TheConstants.{SPLIT_SLOTS}
use Rattle.bz_word.specs.Statuses.{status}
use Rattle.bz_task.specs.declared.todo.Outcome.{Outcome}
use Rattle.bz_task.specs.Laws.{NothingIsGained}
use Rattle.bz_task.specs.OwnActs.{AreTakenFrom, AreUnreached, gained}
use Rattle.bz_task.specs.Requests.{Answers}
use Rattle.bz_task.specs.Scene.{Scene, Stage, Waiting, Took, IsScene, HasFilled}
use Rattle.bz_task.specs.declared.path.Link.{Link}
use Rattle.bz_task.specs.declared.todo.Seen.{Seen}
use Rattle.bz_task.specs.declared.todo.Seen.TheVariants.{Read as Was, NoSwap as NoneLeft}
use Rattle.bz_halves.specs.Parents.{ChildrenMayBeParted}
use Rattle.bz_parted.specs.Laws.{ReadNodesHaveChildren}
use Rattle.bz_renew.specs.Nodes.{HaveSlots, AreSlotsTaken}
use Rattle.bz_below.specs.Facts.{Below, below_nodes, HasPartedBelow, IsPlan, IsPlanned, LeavesRoom, HasRoom, HasParent, HasBegunBelow, HasBegunOrWaits, HasLookedBelow, below_differs, below_end, below_left, below_steps, below_needs, below_facts, IsReadyBelow}
use Rattle.bz_below.specs.Guards.{WasThawed, LinksLeaveTheirNodes}
use Rattle.bz_below.specs.declared.phase.BelowPhase.{BelowPhase}
use Rattle.bz_below.specs.declared.phase.BelowPhase.TheVariants.{Fresh, Room, Word, Again, Guard, Store, Flush, Named, Swap, Done, Restart, NoRoom, NoSlot, NoSwap}
use Rattle.bz_below.proofs.Acting.{upper-slot}
use Rattle.bz_below.proofs.Ending.{EndsWell, goes-on}
use Rattle.bz_below.proofs.Making.{IsClear, begun-knows, clear-of}
use Rattle.bz_below.proofs.Opening.{first-word}
use Rattle.bz_below.proofs.ParentsThen.{leaves-room}

-- what another look at the upper guard leads to, of a task that may wait so many times before and after it
pub record Looks (before after : ℕ) (r : Below) (c : Config) (seen : Seen) (p : BelowPhase) (old new : FreeSlots) : Type 0 where
  pub begun : p ≢ Fresh
  pub ready : IsReadyBelow c r p
  pub nearer : after + (below_left p + below_steps p) ≤ before + below_left Guard
  pub taken : AreTakenFrom SPLIT_SLOTS (below_needs p) old new
  pub ends : EndsWell r.lower seen Guard p old

-- the slots are taken
begun-taken : (r : Below) (old new : FreeSlots) → AreSlotsTaken (below_nodes r) old new → AreTakenFrom SPLIT_SLOTS 0 old new
begun-taken r old new t = inl (record { some = omega arith; enough = t.enough; slots = t.rest; none_left = refl })

heard : (v : ℕ) (seen : Seen) → seen ≡ Was v → seen ≢ NoneLeft
heard v seen is e = let q = sym is ∙ e in absurd (cc)

begins : (nodes n : ℕ) (r : Below) (c : Config) (seen : Seen) (p : BelowPhase) (old new : FreeSlots) → seen ≢ NoneLeft → HasBegunBelow nodes r p old new → old.nodes ≡ c.nodes → Looks n n r c seen p old new
begins k n r c seen (Store j) old new some h nodes = record {
  begun = λ e. absurd (cc);
  ready = (subst (λ z. HaveSlots z (below_nodes r)) nodes h.1.0.slots, omega (arith, h.0));
  nearer = omega (arith, h.0);
  taken = begun-taken r old new h.1.0;
  ends = goes-on r.lower seen Guard (Store j) old refl some;
}
begins k n r c seen NoSlot old new some h nodes = record {
  begun = λ e. absurd (cc);
  ready = tt;
  nearer = omega arith;
  taken = subst (λ z. AreTakenFrom SPLIT_SLOTS 0 old z) (sym h.1) (inr (record { fewer = omega arith; slots = refl }));
  ends = record { done = λ e. absurd (cc); restart = λ e. absurd (cc); no_swap = λ e. absurd (some e); full_swaps = λ e. absurd (cc); full_nodes = λ e. h.0 };
}
begins k n r c seen Fresh old new some h nodes = absurd (h)
begins k n r c seen (Word i) old new some h nodes = absurd (h)
begins k n r c seen Room old new some h nodes = absurd (h)
begins k n r c seen Again old new some h nodes = absurd (h)
begins k n r c seen Guard old new some h nodes = absurd (h)
begins k n r c seen (Flush j) old new some h nodes = absurd (h)
begins k n r c seen Named old new some h nodes = absurd (h)
begins k n r c seen Swap old new some h nodes = absurd (h)
begins k n r c seen Done old new some h nodes = absurd (h)
begins k n r c seen Restart old new some h nodes = absurd (h)
begins k n r c seen NoRoom old new some h nodes = absurd (h)
begins k n r c seen NoSwap old new some h nodes = absurd (h)

-- or the parent is read anew
reads-anew : (before after : ℕ) (r : Below) (c : Config) (seen : Seen) (old : FreeSlots) → seen ≢ NoneLeft → r.upper.slot < c.nodes → after + (NODE_WORDS + 1) ≡ before → Looks before after r c seen (Word 1) old old
reads-anew before after r c seen old some slot e = record {
  begun = λ q. absurd (cc);
  ready = (slot, omega arith);
  nearer = omega (arith, e);
  taken = inr (record { fewer = omega arith; slots = refl });
  ends = goes-on r.lower seen Guard (Word 1) old refl some;
}

begins-or-waits : (nodes left before after : ℕ) (read : List ℕ) (r : Below) (c : Config) (seen : Seen) (p : BelowPhase) (old new : FreeSlots) → seen ≢ NoneLeft → r.upper.slot < c.nodes → HasBegunOrWaits nodes left before after read r p old new → old.nodes ≡ c.nodes → Looks before after r c seen p old new
begins-or-waits k left before after read r c seen p old new some slot h nodes = elim h [
  | inl b ↦ subst (λ z. Looks before z r c seen p old new) (sym b.1.0) (begins k before r c seen p old new some b.0 nodes)
  | inr w ↦ subst (λ z. Looks before after r c seen z old new) (sym w.0) (subst (λ z. Looks before after r c seen (Word 1) old z) (sym w.1.1.0) (reads-anew before after r c seen old some slot w.1.0))
]

-- where the guard is a frozen node's, the task ends, and takes nothing
frozen-ends : (n : ℕ) (r : Below) (c : Config) (v : ℕ) (seen : Seen) (old : FreeSlots) → seen ≡ Was v → (status v).frozen ≡ true → Looks n n r c seen Restart old old
frozen-ends n r c v seen old is frozen = record {
  begun = λ e. absurd (cc);
  ready = tt;
  nearer = omega arith;
  taken = inr (record { fewer = omega arith; slots = refl });
  ends = record {
    done = λ e. absurd (cc);
    restart = λ e. inr (subst (below_differs r.lower Guard) (sym is) frozen);
    no_swap = λ e. absurd (heard v seen is e);
    full_swaps = λ e. absurd (cc);
    full_nodes = λ e. absurd (cc);
  };
}

pub looks : (n left before after : ℕ) (read : List ℕ) (r : Below) (c : Config) (v : ℕ) (seen : Seen) (p : BelowPhase) (old new : FreeSlots) → r.upper.slot < c.nodes → seen ≡ Was v → HasLookedBelow n left before after read r v p old new → old.nodes ≡ c.nodes → Looks before after r c seen p old new
looks n left before after read r c v seen p old new slot is h nodes = elim h [
  | inl g ↦ begins-or-waits n left before after read r c seen p old new (heard v seen is) slot g.1 nodes
  | inr g ↦ subst (λ z. Looks before z r c seen p old new) (sym g.1.1.0)
      (subst (λ z. Looks before before r c seen z old new) (sym g.1.0) (subst (λ z. Looks before before r c seen Restart old z) (sym g.1.1.1) (frozen-ends before r c v seen old is g.0)))
]

-- the task before the look and after it
pub record SameParts (o r : Below) : Type 0 where
  pub upper : r.upper ≡ o.upper
  pub lower : r.lower ≡ o.lower
  pub left : r.image 1 ≡ o.image 1
  pub right : r.image 2 ≡ o.image 2
  pub sep : r.sep ≡ o.sep

moved : (o r : Below) → SameParts o r → (s : Scene) → HasPartedBelow o.upper o.lower (o.image 1) (o.image 2) o.sep s.past → HasPartedBelow r.upper r.lower (r.image 1) (r.image 2) r.sep s.past
moved o r same s f =
    subst (λ z. HasPartedBelow r.upper r.lower (r.image 1) (r.image 2) z s.past) (sym same.sep)
    (subst (λ z. HasPartedBelow r.upper r.lower (r.image 1) z o.sep s.past) (sym same.right) (subst (λ z. HasPartedBelow r.upper r.lower z (o.image 2) o.sep s.past) (sym same.left)
    (subst (λ z. HasPartedBelow r.upper z (o.image 1) (o.image 2) o.sep s.past) (sym same.lower) (subst (λ z. HasPartedBelow z o.lower (o.image 1) (o.image 2) o.sep s.past) (sym same.upper) f))))

moved-plan : (o r : Below) → SameParts o r → r.read ≡ o.read → (s : Scene) → IsPlanned o s.past → IsPlanned r s.past
moved-plan o r same read s f =
    subst (λ z. IsPlan r.upper r.lower (r.image 1) (r.image 2) r.sep z s.past) (sym read) (subst (λ z. IsPlan r.upper r.lower (r.image 1) (r.image 2) z o.read s.past) (sym same.sep)
    (subst (λ z. IsPlan r.upper r.lower (r.image 1) z o.sep o.read s.past) (sym same.right) (subst (λ z. IsPlan r.upper r.lower z (o.image 2) o.sep o.read s.past) (sym same.left)
    (subst (λ z. IsPlan r.upper z (o.image 1) (o.image 2) o.sep o.read s.past) (sym same.lower) (subst (λ z. IsPlan z o.lower (o.image 1) (o.image 2) o.sep o.read s.past) (sym same.upper) f)))))

plan-waits : (r : Below) (stage : Stage) (s : Scene) → below_facts r Guard stage s → HasFilled s × IsPlanned r s.past
plan-waits r Waiting s f = f
plan-waits r Took s f = absurd (f)

-- the parent that is parted, and its room
pub planned-parent : (c : Config) (r : Below) (stage : Stage) (s : Scene) → s.past.config ≡ c → below_facts r Guard stage s → HasParent c.nodes r.lower.slot r.sep r.read
planned-parent c r stage s same f =
    let g = (plan-waits r stage s f).1 in
    subst (λ (z : Config). HasParent z.nodes r.lower.slot r.sep r.read) same (record { level = g.parent.level; child = g.parted.child; low = g.parent.low; high = g.parent.high; is = g.parent.parent })

pub planned-room : (r : Below) (stage : Stage) (s : Scene) → below_facts r Guard stage s → HasRoom r.read r.sep
planned-room r stage s f = (plan-waits r stage s f).1.room

-- the slot of the parent
pub guard-within : (c : Config) (r : Below) (stage : Stage) (s : Scene) → s.past.config ≡ c → IsScene s → below_facts r Guard stage s → r.upper.slot < c.nodes
guard-within c r stage s same good f = subst (λ (z : Config). r.upper.slot < z.nodes) same (upper-slot r.upper r.lower (r.image 1) (r.image 2) r.sep s good (plan-waits r stage s f).1.parted)

-- its status leaves the room when it is read anew
still-room : ReadNodesHaveChildren → (o r : Below) → SameParts o r → (s : Scene) → IsScene s → IsPlanned o s.past → LeavesRoom r.lower.status r.sep
still-room have o r same s good f = subst (LeavesRoom r.lower.status) (sym same.sep) (subst (λ (z : Link). LeavesRoom z.status o.sep) (sym same.lower) (leaves-room have o s good f))

-- the guard as it was found now
thawed-now : (s : Scene) (link : Link) (v m : ℕ) → m ≤ s.past.now → Answers s link.guard v → (status v).frozen ≡ false → WasThawed link m s.past
thawed-now s link v m order a thawed = record { again = s.past.now; order = order; now = omega arith; loads = a.loads; thawed = ap (λ z. (status z).frozen) a.value ∙ thawed }

-- what another look at the upper guard teaches, of a task that had these facts and found this
pub looked-learns : SlotsApart → ChildrenMayBeParted → ReadNodesHaveChildren → LinksLeaveTheirNodes → NothingIsGained → (c : Config) (left before after : ℕ) (o r : Below) (q : BelowPhase) (v : ℕ) (old new : FreeSlots) → SameParts o r → HasLookedBelow c.nodes left before after o.read r v q old new → old.nodes ≡ c.nodes
    → (stage : Stage) (s : Scene) → s.past.config ≡ c → IsScene s → AreUnreached s old → below_facts o Guard stage s → Answers s o.upper.guard v → below_facts r q Waiting (gained s old new)
looked-learns apart parts have leave nothing c left before after o r q v old new same h nodes stage s config good free facts answers =
    let known = plan-waits o stage s facts in
    let a : Answers s r.upper.guard v = subst (λ (z : Link). Answers s z.guard v) (sym same.upper) answers in
    elim h [
      | inl g ↦ elim g.1 [
        | inl b ↦ (
            let plan : IsPlanned r s.past = moved-plan o r same b.1.1.1 s known.1 in
            let clear : IsClear s r.upper = clear-of leave apart s r.upper good plan.parted.links.upper_guard plan.parted.links.upper_thawed in
            begun-knows apart parts nothing r q s old new good (subst (λ (z : Config). HasBegunBelow z.nodes r q old new) (sym config) b.0) (nodes ∙ ap (λ (z : Config). z.nodes) (sym config)) free known.0 plan
            (thawed-now s r.upper v plan.parted.moment plan.parted.leaf.now a g.0) clear)
        | inr w ↦ subst (λ z. below_facts r z Waiting (gained s old new)) (sym w.0)
            (subst (λ z. below_facts r (Word 1) Waiting (gained s old z)) (sym w.1.1.0) (nothing s old known.0, (omega arith, (omega arith, first-word r s (moved o r same s known.1.parted) (still-room have o r same s good known.1) w.1.1.1))))
      ]
      | inr g ↦ subst (λ z. below_facts r z Waiting (gained s old new)) (sym g.1.0) (subst (λ z. HasFilled (gained s old z)) (sym g.1.1.1) (nothing s old known.0))
    ]

-- where it ends none was taken
begun-kept : (nodes : ℕ) (r : Below) (p : BelowPhase) (old new : FreeSlots) (outcome : Outcome) → HasBegunBelow nodes r p old new → below_end p ≡ Some outcome → new ≡ old
begun-kept nodes r (Store j) old new outcome h e = absurd (cc)
begun-kept nodes r NoSlot old new outcome h e = h.1
begun-kept nodes r p old new outcome h e = absurd (h)

pub looked-kept : (nodes left before after : ℕ) (read : List ℕ) (r : Below) (word : ℕ) (p : BelowPhase) (old new : FreeSlots) (outcome : Outcome) → HasLookedBelow nodes left before after read r word p old new → below_end p ≡ Some outcome → new ≡ old
looked-kept nodes left before after read r word p old new outcome (inl (thawed, inl h)) e = begun-kept nodes r p old new outcome h.0 e
looked-kept nodes left before after read r word p old new outcome (inl (thawed, inr h)) e = h.1.1.0
looked-kept nodes left before after read r word p old new outcome (inr h) e = h.1.1.1
