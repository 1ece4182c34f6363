-- What a split below a parent knows stays.
use Rattle.std.proofs.Common.{◌≡◌, ℕ, ◌+◌, ◌<◌, ◌≤◌, List, slice_index, arith, refl, sym, ap, subst, ◌∙◌, inl, inr}
use Rattle.std.specs.Prelude.{Some}
use Rattle.bz_layout.specs.Addresses.{node_address}
use Rattle.bz_layout.specs.declared.config.Config.{Config}
use Rattle.bz_layout.specs.declared.sizes.TheConstants.{NODE_WORDS, STATUS_AT}
use Rattle.bz_layout.specs.declared.thresholds.TheConstants.{SPLIT_ABOVE}
use Rattle.bz_layout.specs.Slots.{FreeSlots}
use Rattle.bz_halves.specs.Parents.{parted_words}
use Rattle.bz_node.specs.Reading.{children_in}
use Rattle.bz_node.specs.Records.{IsAbove, IsBelow}
use Rattle.bz_slotted.specs.Readers.{found_of, live_of}
use Rattle.bz_slotted.specs.ReadingLaws.{node_of}
use Rattle.bz_slotted.specs.Rules.{node_fault}
use Rattle.bz_slotted.specs.Page.{Page}
use Rattle.bz_slotted.specs.Records.{pointer_at}
use Rattle.bz_word.specs.Statuses.{status}
use Rattle.bz_task.specs.Instant.{Instant, words, durable, page_at, form_at, is_inside}
use Rattle.bz_task.specs.Laws.{NothingIsGained}
use Rattle.bz_task.specs.Outcomes.{IsUnderNode, IsGuarded}
use Rattle.bz_task.specs.OwnActs.{gained}
use Rattle.bz_task.specs.Requests.{IsPointerPlace}
use Rattle.bz_task.specs.Scene.{Past, Scene, Stage, Waiting, Took, IsLawful, Continues, HasFilled}
use Rattle.bz_task.specs.declared.path.Link.{Link}
use Rattle.bz_renew.specs.Nodes.{Nodes}
use Rattle.bz_renew.proofs.NodeWrites.{nodes-stay, begun-stays, nodes-no-slot, begun-no-slot}
use Rattle.bz_renew.proofs.Staying.{frozen-leaf-stays}
use Rattle.bz_below.specs.Facts.{Below, below_nodes, HasPartedBelow, HasStarted, IsReading, IsPlanned, LackedRoom, IsSplittingBelow, WasSplitBelow, parent_words, below_facts}
use Rattle.bz_split.specs.BelowSplits.{AreLinksDown}
use Rattle.bz_split.specs.Facts.{SPLIT_WORDS, SPLIT_LINES}
use Rattle.bz_below.specs.Guards.{WasThawed, WasNamed}
use Rattle.bz_below.specs.Parents.{WasWord, WasReadOrFree, WereRead, IsParentOf, WasParent}
use Rattle.bz_below.specs.declared.phase.BelowPhase.{BelowPhase}
use Rattle.bz_below.specs.declared.phase.BelowPhase.TheVariants.{Fresh, Room, Word, Again, Guard, Store, Flush, Named, Swap, Done, Restart, NoRoom, NoSlot, NoSwap}
use Rattle.bz_split.proofs.Staying.{stood-stays}

-- a child pointer stays one, of the same child
child-stays : (o n : Page) (place : ℕ) → o ≡ n → IsPointerPlace o place → IsPointerPlace n place
child-stays o n place same h = record {
  inner = subst (λ (z : Page). 0 < z.level) same h.inner;
  child = h.child;
  counted = subst (λ (z : Page). h.child < z.count) same h.counted;
  place = h.place ∙ ap (λ (z : Page). pointer_at z h.child) same;
}

module _ (p q : Past) (c : Continues p q) where
  under-stays : (link : Link) (m : ℕ) → m ≤ p.now → IsUnderNode p link m → IsUnderNode q link m
  under-stays link m l u = record {
    parent = u.parent;
    place = u.place;
    reached = ap (λ (x : Instant). x.reached u.parent) (c.at m l) ∙ u.reached;
    within = u.within;
    child = child-stays (page_at p.config (p.at m) u.parent) (page_at q.config (q.at m) u.parent) u.place (λ t. page_at (sym c.config t) (sym (c.at m l) t) u.parent) u.child;
    pointer = u.pointer ∙ ap (λ (z : Config). node_address z u.parent + u.place) (sym c.config);
    guard = u.guard ∙ ap (λ (z : Config). node_address z u.parent + STATUS_AT) (sym c.config);
  }

  -- the guard was read at the same moment
  guard-stays : (link : Link) → IsGuarded p link → IsGuarded q link
  guard-stays link g = record {
    guarded = g.guarded;
    read = g.read;
    since = omega (arith, g.since, c.since);
    order = g.order;
    now = omega (arith, g.now, c.now);
    under = elim g.under [ inl u ↦ inl u | inr u ↦ inr (under-stays link g.guarded (omega (arith, g.order, g.now)) u) ];
    status = ap (λ (x : Instant). x.value link.guard) (c.at g.guarded (omega (arith, g.order, g.now))) ∙ g.status;
    slot = ap (λ (x : Instant). x.value link.link) (c.at g.read g.now) ∙ g.slot;
  }

  links-stay : (upper lower : Link) → AreLinksDown upper lower p → AreLinksDown upper lower q
  unfolding guard-stays under-stays child-stays
  links-stay upper lower v = record {
    upper_guard = guard-stays upper v.upper_guard;
    upper_thawed = v.upper_thawed;
    guard = guard-stays lower v.guard;
    thawed = v.thawed;
    under = under-stays lower v.guard.guarded (omega (arith, v.guard.order, v.guard.now)) v.under;
    parent = v.parent;
  }

  pub below-stays : (upper lower : Link) (left right sep : List ℕ) → HasPartedBelow upper lower left right sep p → HasPartedBelow upper lower left right sep q
  unfolding links-stay guard-stays under-stays child-stays
  below-stays upper lower left right sep v = record {
    links = links-stay upper lower v.links;
    guarded = v.guarded;
    is_guarded = v.is_guarded;
    child = v.child;
    is_child = v.is_child;
    moment = v.moment;
    leaf = frozen-leaf-stays p q c lower.slot v.moment v.leaf;
    many = subst (λ n. SPLIT_ABOVE < n) (sym (λ t. live_of (durable (c.config t) (c.at v.moment v.leaf.now t) lower.slot))) v.many;
    separator = v.separator;
    above = subst (λ z. IsAbove z sep) (sym (λ t. (form_at (c.config t) (c.at v.moment v.leaf.now t)).low lower.slot)) v.above;
    below = subst (λ z. IsBelow z sep) (sym (λ t. (form_at (c.config t) (c.at v.moment v.leaf.now t)).high lower.slot)) v.below;
    left_whole = (λ t. node_fault (c.config t).nodes (node_of left) (node_of left) 0 ((form_at (c.config t) (c.at v.moment v.leaf.now t)).low lower.slot) (Some sep)) ∙ v.left_whole;
    right_whole = (λ t. node_fault (c.config t).nodes (node_of right) (node_of right) 0 (Some sep) ((form_at (c.config t) (c.at v.moment v.leaf.now t)).high lower.slot)) ∙ v.right_whole;
    before = λ key e. v.before key e ∙ sym (λ t. found_of (words (c.config t) (c.at v.moment v.leaf.now t) lower.slot) key);
    from = λ key e. v.from key e ∙ sym (λ t. found_of (words (c.config t) (c.at v.moment v.leaf.now t) lower.slot) key);
    left_size = v.left_size;
    right_size = v.right_size;
    left_plain = v.left_plain;
    right_plain = v.right_plain;
  }

  word-stays : (k i v m : ℕ) → WasWord k i v m p → WasWord k i v m q
  word-stays k i v m w = record { moment = w.moment; order = w.order; now = omega (arith, w.now, c.now); word = (λ t. words (c.config t) (c.at w.moment w.now t) k i) ∙ w.word }

  free-stays : (k i m : ℕ) (read : List ℕ) → WasReadOrFree k i m read p → WasReadOrFree k i m read q
  free-stays k i m read (inl w) = inl (word-stays k i (slice_index read i) m w)
  free-stays k i m read (inr f) = inr f

  read-stays : (k m status place : ℕ) (read : List ℕ) → WereRead k m status place read p → WereRead k m status place read q
  read-stays k m status place read v = record { size = v.size; first = v.first; rest = λ i some l. free-stays k i m read (v.rest i some l); blank = v.blank }

  started-stays : (r : Below) → HasStarted r p → HasStarted r q
  started-stays r v = record { parted = below-stays r.upper r.lower (r.image 1) (r.image 2) r.sep v.parted; unread = v.unread }

  reading-stays : (r : Below) (place : ℕ) → IsReading r place p → IsReading r place q
  unfolding below-stays
  reading-stays r place v = record {
    parted = below-stays r.upper r.lower (r.image 1) (r.image 2) r.sep v.parted;
    room = v.room;
    were = read-stays r.upper.slot v.parted.guarded r.lower.status place r.read v.were;
  }

  pub parent-stays : (upper lower : Link) (m i : ℕ) (sep read : List ℕ) → m ≤ p.now → WasParent upper lower m i sep read p → WasParent upper lower m i sep read q
  parent-stays upper lower m i sep read l v = record {
    level = v.level;
    low = v.low;
    high = v.high;
    parent = subst (λ (k : Config). IsParentOf k.nodes lower.slot sep read v.level i v.low v.high) (sym c.config) v.parent;
    reached = ap (λ (x : Instant). x.reached upper.slot) (c.at m l) ∙ v.reached;
    inside = (λ t. is_inside (c.config t) (c.at m l t) upper.slot) ∙ v.inside;
    were = (λ t. words (c.config t) (c.at m l t) upper.slot) ∙ v.were;
    level_is = (λ t. (form_at (c.config t) (c.at m l t)).level upper.slot) ∙ v.level_is;
    low_is = (λ t. (form_at (c.config t) (c.at m l t)).low upper.slot) ∙ v.low_is;
    high_is = (λ t. (form_at (c.config t) (c.at m l t)).high upper.slot) ∙ v.high_is;
  }

  -- and so do the words of the new one
  pub parted-stays : (upper lower : Link) (m i : ℕ) (sep read : List ℕ) (l : m ≤ p.now) (v : WasParent upper lower m i sep read p) (left right : ℕ)
      → parted_words (children_in read) i left right sep v.low v.high v.level
      ≡ parted_words (children_in read) i left right sep (parent-stays upper lower m i sep read l v).low (parent-stays upper lower m i sep read l v).high (parent-stays upper lower m i sep read l v).level
  unfolding parent-stays
  parted-stays upper lower m i sep read l v left right = refl

  pub planned-stays : (r : Below) → IsPlanned r p → IsPlanned r q
  unfolding below-stays
  planned-stays r v = record {
    parted = below-stays r.upper r.lower (r.image 1) (r.image 2) r.sep v.parted;
    parent = parent-stays r.upper r.lower v.parted.guarded v.parted.child r.sep r.read (omega (arith, v.parted.links.guard.order, v.parted.links.guard.now, v.parted.is_guarded)) v.parent;
    room = v.room;
  }

  thawed-stays : (link : Link) (m : ℕ) → WasThawed link m p → WasThawed link m q
  thawed-stays link m w = record {
    again = w.again;
    order = w.order;
    now = omega (arith, w.now, c.now);
    loads = c.loads w.again w.now ∙ w.loads;
    thawed = ap (λ (x : Instant). (status (x.value link.guard)).frozen) (c.at w.again w.now) ∙ w.thawed;
  }

  pub looked-stays : (r : Below) (v : IsPlanned r p) → WasThawed r.upper v.parted.moment p → WasThawed r.upper (planned-stays r v).parted.moment q
  unfolding planned-stays below-stays
  looked-stays r v w = thawed-stays r.upper v.parted.moment w

  named-stays : (link : Link) (word : ℕ) (nodes : Nodes) → WasNamed link word nodes p → WasNamed link word nodes q
  named-stays link word nodes w = record {
    named = w.named;
    since = omega (arith, w.since, c.since);
    now = omega (arith, w.now, c.now);
    loads = c.loads w.named w.now ∙ w.loads;
    plain = w.plain;
    thawed = w.thawed;
    value = ap (λ (x : Instant). x.value link.guard) (c.at w.named w.now) ∙ w.value;
    under = elim w.under [ inl u ↦ inl u | inr u ↦ inr (under-stays link w.named w.now u) ];
    durable = λ n i h l. (λ t. (c.at w.named w.now t).image (node_address (c.config t) (nodes.slot n) + i)) ∙ w.durable n i h l;
  }

  pub over-stays : (r : Below) (v : IsPlanned r p) → r.image 0 ≡ parent_words r v.parted.child v.parent.level v.parent.low v.parent.high
      → r.image 0 ≡ parent_words r (planned-stays r v).parted.child (planned-stays r v).parent.level (planned-stays r v).parent.low (planned-stays r v).parent.high
  unfolding planned-stays below-stays parent-stays
  over-stays r v e = e

  lacked-stays : (upper lower : Link) (sep : List ℕ) → LackedRoom upper lower sep p → LackedRoom upper lower sep q
  lacked-stays upper lower sep v = record {
    moment = v.moment;
    child = v.child;
    read = v.read;
    since = omega (arith, v.since, c.since);
    now = omega (arith, v.now, c.now);
    parent = parent-stays upper lower v.moment v.child sep v.read v.now v.parent;
    room = v.room;
  }

  split-stays : (upper lower : Link) (left right sep : List ℕ) → WasSplitBelow upper lower left right sep p → WasSplitBelow upper lower left right sep q
  unfolding parent-stays
  split-stays upper lower left right sep t = record {
    parent_slot = t.parent_slot;
    left_slot = t.left_slot;
    right_slot = t.right_slot;
    read = t.read;
    child = t.child;
    moment = t.moment;
    before = t.before;
    since = omega (arith, c.since, t.since);
    order = t.order;
    now = omega (arith, c.now, t.now);
    old = parent-stays upper lower t.moment t.child sep t.read (omega (arith, t.order, t.now)) t.old;
    led = ap (λ x. x.value upper.link) (c.at (t.before + 1) t.now) ∙ t.led;
    parent = stood-stays p q c upper left right sep t.parent_slot t.before _ t.now t.parent;
    left_half = stood-stays p q c upper left right sep t.left_slot t.before left t.now t.left_half;
    right_half = stood-stays p q c upper left right sep t.right_slot t.before right t.now t.right_half;
  }

module _ (r : Below) (s after : Scene) (l : IsLawful s after) where
  splitting : (stored lines : ℕ) → IsSplittingBelow r stored lines s → IsSplittingBelow r stored lines after
  splitting stored lines f = record {
    planned = planned-stays s.past after.past l.continues r f.planned;
    looked = looked-stays s.past after.past l.continues r f.planned f.looked;
    link_apart = λ e. f.link_apart (e ∙ ap (λ z. node_address z r.upper.slot + STATUS_AT) l.continues.config);
    guard_apart = λ e. f.guard_apart (e ∙ ap (λ z. node_address z r.upper.slot + STATUS_AT) l.continues.config);
    over = over-stays s.past after.past l.continues r f.planned f.over;
    plain = f.plain;
    writing = nodes-stay (below_nodes r) stored lines s after f.writing l;
  }

  filled : HasFilled s → HasFilled after
  filled f k t = l.filled k ∙ f k (sym (l.took k) ∙ t)

  pub stable : (phase : BelowPhase) (stage : Stage) → below_facts r phase stage s → below_facts r phase stage after
  stable Fresh Waiting f = started-stays s.past after.past l.continues r f
  stable Room Waiting f = (filled f.0, started-stays s.past after.past l.continues r f.1)
  stable (Word i) Waiting f = (filled f.0, (f.1.0, (f.1.1.0, reading-stays s.past after.past l.continues r i f.1.1.1)))
  stable Again Waiting f = (filled f.0, reading-stays s.past after.past l.continues r NODE_WORDS f.1)
  stable Guard Waiting f = (filled f.0, planned-stays s.past after.past l.continues r f.1)
  stable (Store j) Waiting f = (begun-stays (below_nodes r) j s after f.0 l, (f.1.0, splitting j 0 f.1.1))
  stable (Store j) Took f = (begun-stays (below_nodes r) (j + 1) s after f.0 l, (f.1.0, splitting (j + 1) 0 f.1.1))
  stable (Flush j) Waiting f = (filled f.0, (f.1.0, splitting SPLIT_WORDS j f.1.1))
  stable (Flush j) Took f = (filled f.0, (f.1.0, splitting SPLIT_WORDS (j + 1) f.1.1))
  stable Named Waiting f = (filled f.0, splitting SPLIT_WORDS SPLIT_LINES f.1)
  stable Swap Waiting f = (filled f.0, (splitting SPLIT_WORDS SPLIT_LINES f.1.0, named-stays s.past after.past l.continues r.upper r.guard (below_nodes r) f.1.1))
  stable Swap Took f = (filled f.0, split-stays s.past after.past l.continues r.upper r.lower (r.image 1) (r.image 2) r.sep f.1)
  stable Done Waiting f = (filled f.0, split-stays s.past after.past l.continues r.upper r.lower (r.image 1) (r.image 2) r.sep f.1)
  stable NoRoom Waiting f = (filled f.0, lacked-stays s.past after.past l.continues r.upper r.lower r.sep f.1)
  stable Restart Waiting f = filled f
  stable NoSlot Waiting f = filled f
  stable NoSwap Waiting f = filled f
  stable Fresh Took f = absurd (f)
  stable (Word i) Took f = absurd (f)
  stable Room Took f = absurd (f)
  stable Again Took f = absurd (f)
  stable Guard Took f = absurd (f)
  stable Named Took f = absurd (f)
  stable Done Took f = absurd (f)
  stable NoRoom Took f = absurd (f)
  stable Restart Took f = absurd (f)
  stable NoSlot Took f = absurd (f)
  stable NoSwap Took f = absurd (f)

-- it stays where no slot is taken
module _ (nothing : NothingIsGained) (r : Below) (s : Scene) (free : FreeSlots) where
  splitting-too : (stored lines : ℕ) → IsSplittingBelow r stored lines s → IsSplittingBelow r stored lines (gained s free free)
  splitting-too stored lines f = record {
    planned = f.planned;
    looked = f.looked;
    link_apart = f.link_apart;
    guard_apart = f.guard_apart;
    over = f.over;
    plain = f.plain;
    writing = nodes-no-slot (below_nodes r) stored lines s free f.writing;
  }

  pub no-slot : (phase : BelowPhase) → below_facts r phase Waiting s → below_facts r phase Waiting (gained s free free)
  no-slot Fresh f = f
  no-slot Room f = (nothing s free f.0, f.1)
  no-slot (Word i) f = (nothing s free f.0, f.1)
  no-slot Again f = (nothing s free f.0, f.1)
  no-slot Guard f = (nothing s free f.0, f.1)
  no-slot (Store j) f = (begun-no-slot (below_nodes r) j s free f.0, (f.1.0, splitting-too j 0 f.1.1))
  no-slot (Flush j) f = (nothing s free f.0, (f.1.0, splitting-too SPLIT_WORDS j f.1.1))
  no-slot Named f = (nothing s free f.0, splitting-too SPLIT_WORDS SPLIT_LINES f.1)
  no-slot Swap f = (nothing s free f.0, (splitting-too SPLIT_WORDS SPLIT_LINES f.1.0, f.1.1))
  no-slot Done f = (nothing s free f.0, f.1)
  no-slot NoRoom f = (nothing s free f.0, f.1)
  no-slot Restart f = nothing s free f
  no-slot NoSlot f = nothing s free f
  no-slot NoSwap f = nothing s free f
