-- What a merge knows stays.
use Rattle.std.proofs.Common.{ℕ, ◌+◌, ◌≤◌, List, arith, sym, ap, subst, ◌∙◌}
use Rattle.bz_layout.specs.Addresses.{node_address}
use Rattle.bz_layout.specs.Slots.{FreeSlots}
use Rattle.bz_layout.specs.declared.sizes.TheConstants.{NODE_WORDS, STATUS_AT}
use Rattle.bz_task.specs.Instant.{Instant}
use Rattle.bz_task.specs.Laws.{NothingIsGained}
use Rattle.bz_task.specs.OwnActs.{gained}
use Rattle.bz_task.specs.Scene.{Past, Scene, Stage, Waiting, Took, IsLawful, Continues, HasFilled}
use Rattle.bz_task.specs.declared.path.Link.{Link}
use Rattle.bz_renew.proofs.Guards.{as-read-stays}
use Rattle.bz_renew.proofs.NodeWrites.{nodes-stay, begun-stays, nodes-no-slot, begun-no-slot}
use Rattle.bz_split.specs.Facts.{StoodFresh}
use Rattle.bz_split.proofs.Staying.{stood-stays}
use Rattle.bz_merge.specs.Facts.{MERGE_WORDS, MERGE_LINES, AreFrozen, IsMerging, WasMerged, NoneFitted, merge_facts}
use Rattle.bz_merge.specs.Plans.{Merging, merge_nodes}
use Rattle.bz_merge.specs.declared.phase.MergePhase.{MergePhase}
use Rattle.bz_merge.specs.declared.phase.MergePhase.TheVariants.{Fresh, Word, Again, Beside, Parent, Still, Freeze, FreezeBeside, Guard, Store, Flush, Swap, Done, Restart, NoNeighbour, NoSlot, NoSwap}
use Rattle.bz_merge.proofs.Lasting.{some-stays, reading-stays, parent-stays, lacked-stays, tried-stays, seen-stays, paired-stays, beside-stays, checked-stays, planned-stays, frozen-stays, frozen-moment, joined-stays}
use Rattle.bz_merge.proofs.OwnFreezes.{froze-viewed-stays, viewed-frozen-stays, both-frozen-stay}

module _ (p q : Past) (c : Continues p q) where
  pub both-stay : (r : Merging) → AreFrozen r p → AreFrozen r q
  both-stay r v = record { planned = planned-stays p q c r v.planned; own = frozen-stays p q c r.lower.slot r.leaf v.own; other = frozen-stays p q c r.beside_slot r.beside v.other; froze = both-frozen-stay p q c r v.froze }

  pub own-later : (r : Merging) (v : AreFrozen r p) (since : ℕ) → v.own.moment ≤ since → (both-stay r v).own.moment ≤ since
  unfolding both-stay
  own-later r v since l = omega (arith, l, frozen-moment p q c r.lower.slot r.leaf v.own)

  pub other-later : (r : Merging) (v : AreFrozen r p) (since : ℕ) → v.other.moment ≤ since → (both-stay r v).other.moment ≤ since
  unfolding both-stay
  other-later r v since l = omega (arith, l, frozen-moment p q c r.beside_slot r.beside v.other)

  merged-stays : (upper lower : Link) (leaf : List ℕ) → WasMerged upper lower leaf p → WasMerged upper lower leaf q
  merged-stays upper lower leaf w = record {
    parent_slot = w.parent_slot;
    leaf_slot = w.leaf_slot;
    read = w.read;
    right = w.right;
    place = w.place;
    other = w.other;
    other_at = w.other_at;
    low = w.low;
    high = w.high;
    merged = w.merged;
    moment = w.moment;
    before = w.before;
    since = omega (arith, c.since, w.since);
    order = w.order;
    now = omega (arith, c.now, w.now);
    old = parent-stays p q c upper.slot w.moment w.read (omega (arith, w.order, w.now)) w.old;
    pair = w.pair;
    tried = tried-stays p q c w.read leaf w.right w.place w.tried;
    seen = seen-stays p q c w.other w.other_at w.low w.high w.seen;
    room = w.room;
    one = w.one;
    led = ap (λ (x : Instant). x.value upper.link) (c.at (w.before + 1) w.now) ∙ w.led;
    parent = subst (λ z. StoodFresh w.parent_slot z w.before q) (joined-stays p q c upper.slot w.moment w.read (omega (arith, w.order, w.now)) w.old w.place w.leaf_slot) (stood-stays p q c upper leaf leaf leaf w.parent_slot w.before _ w.now w.parent);
    leaf_fresh = stood-stays p q c upper leaf leaf leaf w.leaf_slot w.before w.merged w.now w.leaf_fresh;
  }

  none-stays : (upper lower : Link) (leaf : List ℕ) → NoneFitted upper lower leaf p → NoneFitted upper lower leaf q
  none-stays upper lower leaf w = record {
    moment = w.moment;
    read = w.read;
    place = w.place;
    since = omega (arith, c.since, w.since);
    now = omega (arith, c.now, w.now);
    old = parent-stays p q c upper.slot w.moment w.read w.now w.old;
    own = w.own;
    right = λ l. lacked-stays p q c w.read leaf (w.place + 1) (w.right l);
    left = λ j e. lacked-stays p q c w.read leaf j (w.left j e);
  }

module _ (r : Merging) (s after : Scene) (l : IsLawful s after) where
  merging : (stored lines : ℕ) → IsMerging r stored lines s → IsMerging r stored lines after
  merging stored lines f = record {
    frozen = both-stay s.past after.past l.continues r f.frozen;
    since = f.since;
    own_first = own-later s.past after.past l.continues r f.frozen f.since f.own_first;
    other_first = other-later s.past after.past l.continues r f.frozen f.since f.other_first;
    looked = as-read-stays s.past after.past l.continues r.upper f.since f.looked;
    link_apart = λ e. f.link_apart (e ∙ ap (λ z. node_address z r.upper.slot + STATUS_AT) l.continues.config);
    guard_apart = λ e. f.guard_apart (e ∙ ap (λ z. node_address z r.upper.slot + STATUS_AT) l.continues.config);
    over = f.over;
    one = f.one;
    plain = f.plain;
    writing = nodes-stay (merge_nodes r) stored lines s after f.writing l;
  }

  filled : HasFilled s → HasFilled after
  filled f k t = l.filled k ∙ f k (sym (l.took k) ∙ t)

  pub stable : (phase : MergePhase) (stage : Stage) → merge_facts r phase stage s → merge_facts r phase stage after
  stable Fresh Waiting f = reading-stays s.past after.past l.continues r 1 f
  stable (Word i) Waiting f = (filled f.0, (f.1.0, (f.1.1.0, reading-stays s.past after.past l.continues r i f.1.1.1)))
  stable Again Waiting f = (filled f.0, reading-stays s.past after.past l.continues r NODE_WORDS f.1)
  stable (Beside i) Waiting f = (filled f.0, (f.1.0, (paired-stays s.past after.past l.continues r f.1.1.0, λ some. beside-stays s.past after.past l.continues r.beside_slot r.beside i (f.1.1.1 some))))
  stable Parent Waiting f = (filled f.0, (paired-stays s.past after.past l.continues r f.1.0, beside-stays s.past after.past l.continues r.beside_slot r.beside NODE_WORDS f.1.1))
  stable Still Waiting f = (filled f.0, checked-stays s.past after.past l.continues r f.1)
  stable Freeze Waiting f = (filled f.0, (planned-stays s.past after.past l.continues r f.1.0, f.1.1))
  stable Freeze Took f = (filled f.0, (planned-stays s.past after.past l.continues r f.1.0, (frozen-stays s.past after.past l.continues r.lower.slot r.leaf f.1.1.0, froze-viewed-stays s.past after.past l.continues r f.1.1.1)))
  stable FreezeBeside Waiting f = (filled f.0, (planned-stays s.past after.past l.continues r f.1.0, (frozen-stays s.past after.past l.continues r.lower.slot r.leaf f.1.1.0, (f.1.1.1.0, viewed-frozen-stays s.past after.past l.continues r f.1.1.1.1))))
  stable FreezeBeside Took f = (filled f.0, (both-stay s.past after.past l.continues r f.1.0, f.1.1))
  stable Guard Waiting f = (filled f.0, both-stay s.past after.past l.continues r f.1)
  stable (Store j) Waiting f = (begun-stays (merge_nodes r) j s after f.0 l, (f.1.0, merging j 0 f.1.1))
  stable (Store j) Took f = (begun-stays (merge_nodes r) (j + 1) s after f.0 l, (f.1.0, merging (j + 1) 0 f.1.1))
  stable (Flush j) Waiting f = (filled f.0, (f.1.0, merging MERGE_WORDS j f.1.1))
  stable (Flush j) Took f = (filled f.0, (f.1.0, merging MERGE_WORDS (j + 1) f.1.1))
  stable Swap Waiting f = (filled f.0, merging MERGE_WORDS MERGE_LINES f.1)
  stable Swap Took f = (filled f.0, merged-stays s.past after.past l.continues r.upper r.lower r.leaf f.1)
  stable Done Waiting f = (filled f.0, merged-stays s.past after.past l.continues r.upper r.lower r.leaf f.1)
  stable NoNeighbour Waiting f = (filled f.0, none-stays s.past after.past l.continues r.upper r.lower r.leaf f.1)
  stable Restart Waiting f = filled f
  stable NoSlot Waiting f = (filled f.0, some-stays s.past after.past l.continues r.lower r.status r.leaf f.1)
  stable NoSwap Waiting f = filled f
  stable Fresh Took f = absurd (f)
  stable (Word i) Took f = absurd (f)
  stable Again Took f = absurd (f)
  stable (Beside i) Took f = absurd (f)
  stable Parent Took f = absurd (f)
  stable Still Took f = absurd (f)
  stable Guard Took f = absurd (f)
  stable Done Took f = absurd (f)
  stable NoNeighbour Took f = absurd (f)
  stable Restart Took f = absurd (f)
  stable NoSlot Took f = absurd (f)
  stable NoSwap Took f = absurd (f)

-- it stays where no slot is taken
module _ (nothing : NothingIsGained) (r : Merging) (s : Scene) (free : FreeSlots) where
  merging-too : (stored lines : ℕ) → IsMerging r stored lines s → IsMerging r stored lines (gained s free free)
  merging-too stored lines f = record {
    frozen = f.frozen;
    since = f.since;
    own_first = f.own_first;
    other_first = f.other_first;
    looked = f.looked;
    link_apart = f.link_apart;
    guard_apart = f.guard_apart;
    over = f.over;
    one = f.one;
    plain = f.plain;
    writing = nodes-no-slot (merge_nodes r) stored lines s free f.writing;
  }

  pub no-slot : (phase : MergePhase) → merge_facts r phase Waiting s → merge_facts r phase Waiting (gained s free free)
  no-slot Fresh f = f
  no-slot (Word i) f = (nothing s free f.0, f.1)
  no-slot Again f = (nothing s free f.0, f.1)
  no-slot (Beside i) f = (nothing s free f.0, f.1)
  no-slot Parent f = (nothing s free f.0, f.1)
  no-slot Still f = (nothing s free f.0, f.1)
  no-slot Freeze f = (nothing s free f.0, f.1)
  no-slot FreezeBeside f = (nothing s free f.0, f.1)
  no-slot Guard f = (nothing s free f.0, f.1)
  no-slot (Store j) f = (begun-no-slot (merge_nodes r) j s free f.0, (f.1.0, merging-too j 0 f.1.1))
  no-slot (Flush j) f = (nothing s free f.0, (f.1.0, merging-too MERGE_WORDS j f.1.1))
  no-slot Swap f = (nothing s free f.0, merging-too MERGE_WORDS MERGE_LINES f.1)
  no-slot Done f = (nothing s free f.0, f.1)
  no-slot NoNeighbour f = (nothing s free f.0, f.1)
  no-slot Restart f = nothing s free f
  no-slot NoSlot f = (nothing s free f.0, f.1)
  no-slot NoSwap f = nothing s free f
