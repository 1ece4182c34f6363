-- What a split below a parent asks for may be asked for, and what its acts lead to.
use Rattle.std.proofs.Common.{◌≡◌, ℕ, ◌+◌, ◌<◌, ◌≤◌, false, List, [], ◌∷◌, arith, refl, sym, ap, subst, ◌∙◌, inl, inr, Some, Option}
use Rattle.std.specs.Prelude.{All, None, slice_index}
use Rattle.std.proofs.lemmas.Bool.{cases_lt}
use Rattle.std.proofs.lemmas.List.{get_or_past}
use Rattle.bz_layout.specs.Addresses.{node_address, SlotsApart}
use Rattle.bz_layout.specs.declared.config.Config.{Config}
use Rattle.bz_layout.specs.declared.sizes.TheConstants.{NODE_WORDS, STATUS_AT}
use Rattle.bz_node.specs.Reading.{children_in}
use Rattle.bz_tree.specs.Slots.{Wider}
use Rattle.bz_tree.specs.Split.{AreThree}
use Rattle.bz_slotted.specs.Readers.{found_of}
use Rattle.bz_slotted.specs.ReadingLaws.{node_of}
use Rattle.bz_slotted.specs.Rules.{node_fault}
use Rattle.bz_task.proofs.FromSwap.EntryLists.{All-inserted}
use Rattle.bz_word.specs.Statements.{IsCodec}
use Rattle.bz_word.specs.Statuses.{status_word, status, IsStatus, IsStatusWord}
use Rattle.bz_word.specs.declared.entry.Entry.{Entry}
use Rattle.bz_word.specs.declared.status.Status.{Status}
use Rattle.bz_content.specs.Restructures.{children_of}
use Rattle.bz_halves.specs.Parents.{HasRoomToPart, IsPartedParent, ParentsOfHalvesAreWhole}
use Rattle.bz_task.specs.Instant.{Instant, words}
use Rattle.bz_task.specs.Outcomes.{IsGuarded}
use Rattle.bz_task.specs.OwnActs.{Stores, Flushes}
use Rattle.bz_task.specs.Requests.{IsEntryToAsk, IsAskable, IsReadable, IsTarget, IsCause}
use Rattle.bz_task.specs.Scene.{Scene, Waiting, Took, IsScene, HasFilled, here}
use Rattle.bz_task.specs.Swaps.{Stand, SwapsTo, IsGoodSwap, Takes}
use Rattle.bz_task.specs.declared.todo.Seen.{Seen}
use Rattle.bz_task.specs.declared.todo.Seen.TheVariants.{Start, Read as Was, Stored, Flushed, Swapped, NoSwap as NoneLeft}
use Rattle.bz_task.specs.declared.todo.Todo.{Todo}
use Rattle.bz_task.specs.declared.todo.Todo.TheVariants.{Store as Stores_at, Flush as Flushes_line, Swap as Swaps_for}
use Rattle.bz_task.specs.declared.path.Link.{Link}
use Rattle.bz_renew.specs.Freezings.{freezing_entry}
use Rattle.bz_renew.specs.LinkSwaps.{IsFresh}
use Rattle.bz_renew.specs.Nodes.{word_address, word_value, line_number}
use Rattle.bz_renew.specs.Renewals.{renewal, link_entry, guard_entry, IsTurnable, LinksMayBeTurned}
use Rattle.bz_renew.proofs.FreshSlots.{unreached}
use Rattle.bz_task.proofs.FrozenWords.{frozen-plain}
use Rattle.bz_task.proofs.Guards.{guard-is-status}
use Rattle.bz_renew.proofs.Freezings.{renewal-holds}
use Rattle.bz_renew.proofs.Guards.{guard-readable, guard-differed}
use Rattle.bz_renew.proofs.Inserting.{inserted-other}
use Rattle.bz_renew.proofs.NodeWrites.{nodes-store, nodes-flush, begun-store, node-may-store, node-may-flush}
use Rattle.bz_renew.proofs.Restamping.{restamped-plain}
use Rattle.bz_renew.proofs.TwoEntries.{all-two, sets-first, both-stand}
use Rattle.bz_renew.proofs.Words.{node-at, node-past}
use Rattle.bz_below.specs.Facts.{Below, below_nodes, HasPartedBelow, IsSplittingBelow, WasSplitBelow, parent_words, below_asks, below_facts, below_differs}
use Rattle.bz_split.specs.BelowSplits.{AreLinksDown, AreReadyBelow, IsBelowSplit, LeafSplitsBelowAreGood, parent_freezing, below_swap}
use Rattle.bz_split.specs.Facts.{SPLIT_WORDS, SPLIT_LINES, StoodFresh, split_change}
use Rattle.bz_split.specs.RootSplits.{StandsReady, AreFreshThree}
use Rattle.bz_below.specs.Guards.{with_guard, WasNamed}
use Rattle.bz_below.specs.Parents.{WasParent}
use Rattle.bz_below.specs.declared.phase.BelowPhase.{BelowPhase}
use Rattle.bz_below.specs.declared.phase.BelowPhase.TheVariants.{Fresh, Room, Word, Again, Guard, Store, Flush, Named, Swap, Done, Restart, NoRoom, NoSlot, NoSwap}
use Rattle.bz_below.proofs.Staying.{planned-stays, looked-stays, over-stays, parent-stays, parted-stays}

some-same : (a b : Todo) → Some a ≡ Some b → a ≡ b
some-same a b e = cc

-- the parent's slot, and the address of its status
module _ (upper lower : Link) (left right sep : List ℕ) (s : Scene) (good : IsScene s) (v : HasPartedBelow upper lower left right sep s.past) where
  pub upper-slot : upper.slot < s.past.config.nodes
  upper-slot =
      let g = v.links.guard in
      subst (λ z. z < s.past.config.nodes) v.links.parent ((good.history.good g.guarded g.since (omega (arith, g.order, g.now))).slots v.links.under.parent v.links.under.reached)

  pub guard-is : lower.guard ≡ node_address s.past.config upper.slot + STATUS_AT
  guard-is = v.links.under.guard ∙ ap (λ z. node_address s.past.config z + STATUS_AT) v.links.parent

  word-readable : (i : ℕ) → i < NODE_WORDS → IsReadable s (node_address s.past.config upper.slot + i)
  word-readable i l = record { outside = inr (omega arith); within = omega (arith, upper-slot, l) }

-- the entries of the swap
abbrev turned_by : Scene → Below → List Entry
turned_by s r = below_swap s.past.config (with_guard r.upper r.guard) r.lower (r.slot 0)

may-swap : LinksMayBeTurned → IsCodec Status IsStatus IsStatusWord status_word status → (r : Below) (s : Scene) → IsScene s → IsSplittingBelow r SPLIT_WORDS SPLIT_LINES s → WasNamed r.upper r.guard (below_nodes r) s.past → All (IsEntryToAsk s) (turned_by s r)
may-swap turned codec r s good f w =
    let v = f.planned.parted in
    let t : IsTurnable r.upper s = turned s r.upper good v.links.upper_guard v.links.upper_thawed in
    let u : IsTurnable r.lower s = turned s r.lower good v.links.guard v.links.thawed in
    let old : r.upper.slot < s.past.config.nodes = upper-slot r.upper r.lower (r.image 1) (r.image 2) r.sep s good v in
    let new : r.slot 0 < s.past.config.nodes = f.writing.slots.within 0 (omega arith) in
    let status_target : IsTarget s (node_address s.past.config r.upper.slot + STATUS_AT) = subst (IsTarget s) (guard-is r.upper r.lower (r.image 1) (r.image 2) r.sep s good v) u.guard_target in
    All-inserted (IsEntryToAsk s) (freezing_entry s.past.config (parent_freezing (with_guard r.upper r.guard) r.lower)) (renewal (with_guard r.upper r.guard) (r.slot 0))
    (record { target = status_target; expected = u.plain; new = frozen-plain r.lower.status u.plain })
    (all-two (IsEntryToAsk s) (link_entry (with_guard r.upper r.guard) (r.slot 0)) (guard_entry (with_guard r.upper r.guard))
    (record { target = t.link_target; expected = omega (arith, old, good.config.nodes_in_range.at_most); new = omega (arith, new, good.config.nodes_in_range.at_most) })
    (record { target = t.guard_target; expected = w.plain; new = restamped-plain codec r.guard w.plain }))

pub askable : LinksMayBeTurned → IsCodec Status IsStatus IsStatusWord status_word status → (c : Config) (r : Below) (phase : BelowPhase) (s : Scene) (todo : Todo) → s.past.config ≡ c → below_facts r phase Waiting s → IsScene s → below_asks c r phase ≡ Some todo → IsAskable s todo
askable turned codec c r Fresh s todo same f good e = absurd (cc)
askable turned codec c r (Word i) s todo same f good e =
    subst (IsAskable s) (some-same _ todo e)
    (subst (λ (z : Config). IsReadable s (node_address z r.upper.slot + i)) same (word-readable r.upper r.lower (r.image 1) (r.image 2) r.sep s good f.1.1.1.parted i f.1.1.0))
askable turned codec c r Room s todo same f good e = subst (IsAskable s) (some-same _ todo e) (guard-readable s r.lower good f.1.parted.links.guard)
askable turned codec c r Again s todo same f good e = subst (IsAskable s) (some-same _ todo e) (guard-readable s r.lower good f.1.parted.links.guard)
askable turned codec c r Guard s todo same f good e = subst (IsAskable s) (some-same _ todo e) (guard-readable s r.upper good f.1.parted.links.upper_guard)
askable turned codec c r (Store j) s todo same f good e =
    subst (IsAskable s) (some-same _ todo e)
    (subst (λ z. IsAskable s (Stores_at (word_address z (below_nodes r) j) (word_value (below_nodes r) j))) same (node-may-store (below_nodes r) j s (omega (arith, f.1.0)) f.1.1.plain f.1.1.writing))
askable turned codec c r (Flush j) s todo same f good e =
    subst (IsAskable s) (some-same _ todo e)
    (subst (λ z. IsAskable s (Flushes_line (line_number z (below_nodes r) j))) same (node-may-flush (below_nodes r) j s f.1.1.writing.slots (omega (arith, f.1.0))))
askable turned codec c r Named s todo same f good e = subst (IsAskable s) (some-same _ todo e) (guard-readable s r.upper good f.1.planned.parted.links.upper_guard)
askable turned codec c r Swap s todo same f good e =
    subst (IsAskable s) (some-same _ todo e)
    (subst (λ (z : Config). All (IsEntryToAsk s) (below_swap z (with_guard r.upper r.guard) r.lower (r.slot 0))) same (may-swap turned codec r s good f.1.0 f.1.1))
askable turned codec c r Done s todo same f good e = subst (IsAskable s) (some-same _ todo e) tt
askable turned codec c r Restart s todo same f good e = subst (IsAskable s) (some-same _ todo e) tt
askable turned codec c r NoRoom s todo same f good e = subst (IsAskable s) (some-same _ todo e) tt
askable turned codec c r NoSlot s todo same f good e = subst (IsAskable s) (some-same _ todo e) tt
askable turned codec c r NoSwap s todo same f good e = subst (IsAskable s) (some-same _ todo e) tt

-- the parent's status has been changed since it was read, or the upper guard is frozen
pub cause : (c : Config) (r : Below) (phase : BelowPhase) (s : Scene) (seen : Seen) → below_facts r phase Waiting s → below_differs r.lower phase seen → IsCause (below_asks c r phase) seen s
cause c r Room s (Was v) f d = inl (guard-differed s r.lower v f.1.parted.links.guard d)
cause c r Room s Start f d = absurd (d)
cause c r Room s Stored f d = absurd (d)
cause c r Room s Flushed f d = absurd (d)
cause c r Room s (Swapped won) f d = absurd (d)
cause c r Room s NoneLeft f d = absurd (d)
cause c r Again s (Was v) f d = inl (guard-differed s r.lower v f.1.parted.links.guard d)
cause c r Again s Start f d = absurd (d)
cause c r Again s Stored f d = absurd (d)
cause c r Again s Flushed f d = absurd (d)
cause c r Again s (Swapped won) f d = absurd (d)
cause c r Again s NoneLeft f d = absurd (d)
cause c r Guard s (Was v) f d = inr (record { guard = guard-is-status s r.upper f.1.parted.links.upper_guard; frozen = d })
cause c r Guard s Start f d = absurd (d)
cause c r Guard s Stored f d = absurd (d)
cause c r Guard s Flushed f d = absurd (d)
cause c r Guard s (Swapped won) f d = absurd (d)
cause c r Guard s NoneLeft f d = absurd (d)
cause c r Named s (Was v) f d = inr (record { guard = guard-is-status s r.upper f.1.planned.parted.links.upper_guard; frozen = d })
cause c r Named s Start f d = absurd (d)
cause c r Named s Stored f d = absurd (d)
cause c r Named s Flushed f d = absurd (d)
cause c r Named s (Swapped won) f d = absurd (d)
cause c r Named s NoneLeft f d = absurd (d)
cause c r Fresh s seen f d = absurd (d)
cause c r (Word i) s seen f d = absurd (d)
cause c r (Store j) s seen f d = absurd (d)
cause c r (Flush j) s seen f d = absurd (d)
cause c r Swap s seen f d = absurd (d)
cause c r Done s seen f d = absurd (d)
cause c r Restart s seen f d = absurd (d)
cause c r NoRoom s seen f d = absurd (d)
cause c r NoSlot s seen f d = absurd (d)
cause c r NoSwap s seen f d = absurd (d)

-- once all words are stored and durable, the slots hold the three nodes
module _ (wholes : ParentsOfHalvesAreWhole) (r : Below) (s : Scene) (good : IsScene s) (f : IsSplittingBelow r SPLIT_WORDS SPLIT_LINES s) where
  holds : (n : ℕ) → n < 3 → words s.past.config (here s) (r.slot n) ≡ node_of (r.image n)
  holds n h = λ t i. each i t
    where
      each : (i : ℕ) → words s.past.config (here s) (r.slot n) i ≡ node_of (r.image n) i
      each i = elim (cases_lt i NODE_WORDS) [
        | inl l ↦ node-at s.past.config (here s).value (r.slot n) i l ∙ f.writing.stored_is n i h l (omega (arith, h, l))
        | inr l ↦ node-past s.past.config (here s).value (r.slot n) i l ∙ sym (get_or_past (r.image n) i 0 (omega (arith, l, f.plain.size n h)))
      ]

  pub fresh : (n : ℕ) → n < 3 → IsFresh s (r.slot n)
  fresh n h = record {
    slot = f.writing.slots.within n h;
    own = λ i l. record { mine = f.writing.mine n i h l; flushed = f.writing.flushed n i h l (omega (arith, h, l)) };
  }

  three : AreThree (r.slot 0) (r.slot 1) (r.slot 2)
  three = record {
    q_l = λ e. absurd (omega (arith, f.writing.slots.apart 0 1 (omega arith) (omega arith) e));
    q_r = λ e. absurd (omega (arith, f.writing.slots.apart 0 2 (omega arith) (omega arith) e));
    l_r = λ e. absurd (omega (arith, f.writing.slots.apart 1 2 (omega arith) (omega arith) e));
  }

  fresh-three : AreFreshThree (r.slot 0) (r.slot 1) (r.slot 2) s
  fresh-three = record { three = three; root = fresh 0 (omega arith); left = fresh 1 (omega arith); right = fresh 2 (omega arith) }

  room : HasRoomToPart s.past.config.nodes (children_in r.read) f.planned.parent.level (r.slot 1) (r.slot 2) r.sep
  room = record {
    few = f.planned.parent.parent.few;
    slots = f.planned.parent.parent.partable.slots;
    left_slot = f.writing.slots.within 1 (omega arith);
    right_slot = f.writing.slots.within 2 (omega arith);
    inner = f.planned.parent.parent.inner;
    few_levels = f.planned.parent.parent.lowest;
    room = f.planned.room;
  }

  made : IsPartedParent s.past.config.nodes (node_of r.read) (children_in r.read) f.planned.parent.low f.planned.parent.high f.planned.parent.level f.planned.parted.child (r.slot 1) (r.slot 2) r.sep
  made = wholes s.past.config.nodes (node_of r.read) (children_in r.read) f.planned.parent.low f.planned.parent.high f.planned.parent.level f.planned.parted.child (r.slot 1) (r.slot 2) r.sep f.planned.parent.parent.partable.may room f.planned.parent.parent.partable.has

  holds-parent : words s.past.config (here s) (r.slot 0) ≡ node_of (parent_words r f.planned.parted.child f.planned.parent.level f.planned.parent.low f.planned.parent.high)
  holds-parent = holds 0 (omega arith) ∙ ap node_of f.over

  -- a node that breaks no rule as a list of words breaks none in its slot
  stands : (n : ℕ) (h : n < 3) (low high : Option (List ℕ)) → node_fault s.past.config.nodes (node_of (r.image n)) (node_of (r.image n)) 0 low high ≡ None → StandsReady s (r.slot n) 0 low high
  stands n h low high e = (λ t. node_fault s.past.config.nodes (holds n h t) (holds n h t) 0 low high) ∙ e

  ready : AreReadyBelow r.upper.slot r.lower.slot f.planned.parted.guarded f.planned.parted.child f.planned.parted.moment (r.slot 0) (r.slot 1) (r.slot 2) r.sep s
  ready = record {
    fresh = fresh-three;
    parent_whole = (λ t. node_fault s.past.config.nodes (holds-parent t) (holds-parent t) (f.planned.parent.level_is t) (f.planned.parent.low_is t) (f.planned.parent.high_is t)) ∙ made.inner.none;
    wider = subst (λ n. Wider (children_of n) (children_of (words s.past.config (here s) (r.slot 0))) f.planned.parted.child (r.slot 1) (r.slot 2) r.sep) (sym f.planned.parent.were)
        (subst (λ n. Wider (children_of (node_of r.read)) (children_of n) f.planned.parted.child (r.slot 1) (r.slot 2) r.sep) (sym holds-parent) made.wider);
    left_whole = stands 1 (omega arith) _ (Some r.sep) f.planned.parted.left_whole;
    right_whole = stands 2 (omega arith) (Some r.sep) _ f.planned.parted.right_whole;
    before = λ key e. ap (λ n. found_of n key) (holds 1 (omega arith)) ∙ f.planned.parted.before key e;
    from = λ key e. ap (λ n. found_of n key) (holds 2 (omega arith)) ∙ f.planned.parted.from key e;
  }

  -- the upper link with the guard that is named, where the swap finds what it names
  module _ (w : WasNamed r.upper r.guard (below_nodes r) s.past) (stand : Stand (turned_by s r) (here s)) where
    leads-now : (here s).value r.upper.link ≡ r.upper.slot + 1
    leads-now =
        let u : Link = with_guard r.upper r.guard in
        (both-stand (link_entry u (r.slot 0)) (guard_entry u) (here s)
        (renewal-holds s.past.config u (r.slot 0) (λ (e : Entry). (here s).value e.target ≡ e.expected) (parent_freezing u r.lower ∷ []) stand)).0

    guard-now : IsGuarded s.past (with_guard r.upper r.guard)
    guard-now = record {
      guarded = w.named;
      read = s.past.now;
      since = w.since;
      order = w.now;
      now = omega arith;
      under = elim w.under [
        | inl u ↦ inl (record { pointer = u.pointer; guard = u.guard })
        | inr u ↦ inr (record { parent = u.parent; place = u.place; reached = u.reached; within = u.within; child = u.child; pointer = u.pointer; guard = u.guard })
      ];
      status = w.value;
      slot = leads-now;
    }

    links-now : AreLinksDown (with_guard r.upper r.guard) r.lower s.past
    links-now = let l = f.planned.parted.links in record { upper_guard = guard-now; upper_thawed = w.thawed; guard = l.guard; thawed = l.thawed; under = l.under; parent = l.parent }

    pub below-split : IsBelowSplit (with_guard r.upper r.guard) r.lower (r.slot 0) (r.slot 1) (r.slot 2) f.planned.parted.moment r.sep s
    unfolding links-now
    below-split = record {
      links = links-now;
      leaf = f.planned.parted.leaf;
      ready = subst (λ z. AreReadyBelow r.upper.slot r.lower.slot z f.planned.parted.links.under.child.child f.planned.parted.moment (r.slot 0) (r.slot 1) (r.slot 2) r.sep s) (sym f.planned.parted.is_guarded)
          (subst (λ z. AreReadyBelow r.upper.slot r.lower.slot f.planned.parted.guarded z f.planned.parted.moment (r.slot 0) (r.slot 1) (r.slot 2) r.sep s) (sym f.planned.parted.is_child) ready);
    }

same-entries : (a b : List Entry) → Some (Swaps_for a) ≡ Some (Swaps_for b) → a ≡ b
same-entries a b e = cc

turned-is : (c : Config) (r : Below) (s : Scene) (entries : List Entry) → s.past.config ≡ c → below_asks c r Swap ≡ Some (Swaps_for entries) → turned_by s r ≡ entries
turned-is c r s entries same e = ap (λ (z : Config). below_swap z (with_guard r.upper r.guard) r.lower (r.slot 0)) same ∙ same-entries (below_swap c (with_guard r.upper r.guard) r.lower (r.slot 0)) entries e

-- the effect of the swap
pub effect : LeafSplitsBelowAreGood → ParentsOfHalvesAreWhole → (c : Config) (r : Below) (phase : BelowPhase) (s : Scene) (y : Instant) (entries : List Entry) → s.past.config ≡ c → below_facts r phase Waiting s → IsScene s → below_asks c r phase ≡ Some (Swaps_for entries) → Stand entries (here s)
    → SwapsTo s.past.config entries (here s) y → IsGoodSwap false split_change entries s y
effect law wholes c r Fresh s y entries same f good e stand swaps = absurd (cc)
effect law wholes c r (Word i) s y entries same f good e stand swaps = absurd (cc)
effect law wholes c r Room s y entries same f good e stand swaps = absurd (cc)
effect law wholes c r Again s y entries same f good e stand swaps = absurd (cc)
effect law wholes c r Guard s y entries same f good e stand swaps = absurd (cc)
effect law wholes c r (Store j) s y entries same f good e stand swaps = absurd (cc)
effect law wholes c r (Flush j) s y entries same f good e stand swaps = absurd (cc)
effect law wholes c r Named s y entries same f good e stand swaps = absurd (cc)
effect law wholes c r Swap s y entries same f good e stand swaps =
    let u : Link = with_guard r.upper r.guard in
    let is : turned_by s r ≡ entries = turned-is c r s entries same e in
    let stands : Stand (turned_by s r) (here s) = subst (λ z. Stand z (here s)) (sym is) stand in
    subst (λ z. IsGoodSwap false split_change z s y) is (law split_change s y u r.lower (r.slot 0) (r.slot 1) (r.slot 2) f.1.0.planned.parted.moment r.sep good (below-split wholes r s good f.1.0 f.1.1 stands)
    stands (subst (λ z. SwapsTo s.past.config z (here s) y) (sym is) swaps))
effect law wholes c r Done s y entries same f good e stand swaps = absurd (cc)
effect law wholes c r Restart s y entries same f good e stand swaps = absurd (cc)
effect law wholes c r NoRoom s y entries same f good e stand swaps = absurd (cc)
effect law wholes c r NoSlot s y entries same f good e stand swaps = absurd (cc)
effect law wholes c r NoSwap s y entries same f good e stand swaps = absurd (cc)

same-store : (a b v w : ℕ) → Some (Stores_at a v) ≡ Some (Stores_at b w) → (a ≡ b) × (v ≡ w)
same-store a b v w e = (cc, cc)

same-flush : (a b : ℕ) → Some (Flushes_line a) ≡ Some (Flushes_line b) → a ≡ b
same-flush a b e = cc

-- what is known once a store, or a flush, is made
pub stored : SlotsApart → (c : Config) (r : Below) (phase : BelowPhase) (s after : Scene) (a v : ℕ) → s.past.config ≡ c → below_facts r phase Waiting s → below_asks c r phase ≡ Some (Stores_at a v) → Stores a v s after → below_facts r phase Took after
stored apart c r (Store j) s after a v same f e t =
    let is = same-store (word_address c (below_nodes r) j) a (word_value (below_nodes r) j) v e in
    let at : a ≡ word_address s.past.config (below_nodes r) j = sym is.0 ∙ ap (λ z. word_address z (below_nodes r) j) (sym same) in
    let made : Stores (word_address s.past.config (below_nodes r) j) (word_value (below_nodes r) j) s after =
    subst (λ z. Stores z (word_value (below_nodes r) j) s after) at (subst (λ z. Stores a z s after) (sym is.1) t) in (
      begun-store (below_nodes r) j (word_value (below_nodes r) j) s after f.0 made,
      (
        f.1.0,
        record {
          planned = planned-stays s.past after.past t.continues r f.1.1.planned;
          looked = looked-stays s.past after.past t.continues r f.1.1.planned f.1.1.looked;
          link_apart = λ q. f.1.1.link_apart (q ∙ ap (λ (z : Config). node_address z r.upper.slot + STATUS_AT) t.continues.config);
          guard_apart = λ q. f.1.1.guard_apart (q ∙ ap (λ (z : Config). node_address z r.upper.slot + STATUS_AT) t.continues.config);
          over = over-stays s.past after.past t.continues r f.1.1.planned f.1.1.over;
          plain = f.1.1.plain;
          writing = nodes-store apart (below_nodes r) j s after (omega (arith, f.1.0)) f.1.1.writing made;
        },
      ),
    )
stored apart c r Fresh s after a v same f e t = absurd (cc)
stored apart c r (Word i) s after a v same f e t = absurd (cc)
stored apart c r Room s after a v same f e t = absurd (cc)
stored apart c r Again s after a v same f e t = absurd (cc)
stored apart c r Guard s after a v same f e t = absurd (cc)
stored apart c r (Flush j) s after a v same f e t = absurd (cc)
stored apart c r Named s after a v same f e t = absurd (cc)
stored apart c r Swap s after a v same f e t = absurd (cc)
stored apart c r Done s after a v same f e t = absurd (cc)
stored apart c r Restart s after a v same f e t = absurd (cc)
stored apart c r NoRoom s after a v same f e t = absurd (cc)
stored apart c r NoSlot s after a v same f e t = absurd (cc)
stored apart c r NoSwap s after a v same f e t = absurd (cc)

pub flushed : (c : Config) (r : Below) (phase : BelowPhase) (s after : Scene) (line : ℕ) → s.past.config ≡ c → below_facts r phase Waiting s → below_asks c r phase ≡ Some (Flushes_line line) → Flushes line s after → below_facts r phase Took after
flushed c r (Flush j) s after line same f e t =
    let is : line ≡ line_number s.past.config (below_nodes r) j = sym (same-flush (line_number c (below_nodes r) j) line e) ∙ ap (λ z. line_number z (below_nodes r) j) (sym same) in
    let made : Flushes (line_number s.past.config (below_nodes r) j) s after = subst (λ z. Flushes z s after) is t in (
      λ k h. t.filled k ∙ f.0 k (sym (t.took k) ∙ h),
      (
        f.1.0,
        record {
          planned = planned-stays s.past after.past t.continues r f.1.1.planned;
          looked = looked-stays s.past after.past t.continues r f.1.1.planned f.1.1.looked;
          link_apart = λ q. f.1.1.link_apart (q ∙ ap (λ (z : Config). node_address z r.upper.slot + STATUS_AT) t.continues.config);
          guard_apart = λ q. f.1.1.guard_apart (q ∙ ap (λ (z : Config). node_address z r.upper.slot + STATUS_AT) t.continues.config);
          over = over-stays s.past after.past t.continues r f.1.1.planned f.1.1.over;
          plain = f.1.1.plain;
          writing = nodes-flush (below_nodes r) j SPLIT_WORDS s after f.1.1.writing made;
        },
      ),
    )
flushed c r Fresh s after line same f e t = absurd (cc)
flushed c r (Word i) s after line same f e t = absurd (cc)
flushed c r Room s after line same f e t = absurd (cc)
flushed c r Again s after line same f e t = absurd (cc)
flushed c r Guard s after line same f e t = absurd (cc)
flushed c r (Store j) s after line same f e t = absurd (cc)
flushed c r Named s after line same f e t = absurd (cc)
flushed c r Swap s after line same f e t = absurd (cc)
flushed c r Done s after line same f e t = absurd (cc)
flushed c r Restart s after line same f e t = absurd (cc)
flushed c r NoRoom s after line same f e t = absurd (cc)
flushed c r NoSlot s after line same f e t = absurd (cc)
flushed c r NoSwap s after line same f e t = absurd (cc)

filled-after : (s after : Scene) → HasFilled s → {entries : List Entry} → Takes false entries s after → HasFilled after
filled-after s after f takes k t = takes.filled k ∙ f k (sym (takes.took k) ∙ t)

-- once the swap took effect, the upper link leads to the new parent; to none of the three a link had led before
module _ (may : LinksMayBeTurned) (wholes : ParentsOfHalvesAreWhole) (r : Below) (s after : Scene) (good : IsScene s) (f : IsSplittingBelow r SPLIT_WORDS SPLIT_LINES s) (takes : Takes false (turned_by s r) s after) where
  before-it : after.past.at s.past.now ≡ here s
  before-it = takes.continues.at s.past.now (omega arith)

  stood : (n : ℕ) → n < 3 → StoodFresh (r.slot n) (r.image n) s.past.now after.past
  stood n h = record {
    unreached = ap (λ (x : Instant). x.reached (r.slot n)) before-it ∙ unreached s (r.slot n) good (fresh wholes r s good f n h);
    copied = λ i l. subst (λ (m : ℕ). (after.past.at m).value (node_address after.past.config (r.slot n) + i) ≡ slice_index (r.image n) i) takes.continues.now
        (subst (λ (k : Config). (here after).value (node_address k (r.slot n) + i) ≡ slice_index (r.image n) i) (sym takes.continues.config)
        (takes.keeps (node_address s.past.config (r.slot n) + i) (f.writing.mine n i h l) ∙ f.writing.stored_is n i h l (omega (arith, h, l))));
  }

  led-after : (here after).value r.upper.link ≡ r.slot 0 + 1
  led-after =
      let t : IsTurnable r.upper s = may s r.upper good f.planned.parted.links.upper_guard f.planned.parted.links.upper_thawed in
      takes.swaps.value r.upper.link
      ∙ (inserted-other (freezing_entry s.past.config (parent_freezing (with_guard r.upper r.guard) r.lower)) (renewal (with_guard r.upper r.guard) (r.slot 0)) (here s).value r.upper.link (λ e. f.link_apart (sym e))
      ∙ sets-first (link_entry (with_guard r.upper r.guard) (r.slot 0)) (guard_entry (with_guard r.upper r.guard)) (here s).value r.upper.link refl (λ e. t.apart (sym e)))

  guarded-since : s.past.since ≤ f.planned.parted.guarded
  guarded-since = omega (arith, f.planned.parted.links.guard.since, f.planned.parted.is_guarded)

  guarded-now : f.planned.parted.guarded ≤ s.past.now
  guarded-now = omega (arith, f.planned.parted.links.guard.order, f.planned.parted.links.guard.now, f.planned.parted.is_guarded)

  -- what the old parent was stays known
  abbrev old : WasParent r.upper r.lower f.planned.parted.guarded f.planned.parted.child r.sep r.read after.past
  old = parent-stays s.past after.past takes.continues r.upper r.lower f.planned.parted.guarded f.planned.parted.child r.sep r.read guarded-now f.planned.parent

  made-of : r.image 0 ≡ parent_words r f.planned.parted.child old.level old.low old.high
  made-of = f.over ∙ parted-stays s.past after.past takes.continues r.upper r.lower f.planned.parted.guarded f.planned.parted.child r.sep r.read guarded-now f.planned.parent (r.slot 1) (r.slot 2)

  was-split : WasSplitBelow r.upper r.lower (r.image 1) (r.image 2) r.sep after.past
  was-split = record {
    parent_slot = r.slot 0;
    left_slot = r.slot 1;
    right_slot = r.slot 2;
    read = r.read;
    child = f.planned.parted.child;
    moment = f.planned.parted.guarded;
    before = s.past.now;
    since = omega (arith, guarded-since, takes.continues.since);
    order = guarded-now;
    now = omega (arith, takes.continues.now);
    old = old;
    led = subst (λ (m : ℕ). (after.past.at m).value r.upper.link ≡ r.slot 0 + 1) takes.continues.now led-after;
    parent = subst (λ z. StoodFresh (r.slot 0) z s.past.now after.past) made-of (stood 0 (omega arith));
    left_half = stood 1 (omega arith);
    right_half = stood 2 (omega arith);
  }

pub took : LinksMayBeTurned → ParentsOfHalvesAreWhole → (c : Config) (r : Below) (phase : BelowPhase) (s after : Scene) (entries : List Entry) → s.past.config ≡ c → below_facts r phase Waiting s → IsScene s → below_asks c r phase ≡ Some (Swaps_for entries) → Takes false entries s after → below_facts r phase Took after
took may wholes c r Swap s after entries same f good e takes =
    let is : turned_by s r ≡ entries = turned-is c r s entries same e in
    (filled-after s after f.0 takes, was-split may wholes r s after good f.1.0 (subst (λ (z : List Entry). Takes false z s after) (sym is) takes))
took may wholes c r Fresh s after entries same f good e takes = absurd (cc)
took may wholes c r (Word i) s after entries same f good e takes = absurd (cc)
took may wholes c r Room s after entries same f good e takes = absurd (cc)
took may wholes c r Again s after entries same f good e takes = absurd (cc)
took may wholes c r Guard s after entries same f good e takes = absurd (cc)
took may wholes c r (Store j) s after entries same f good e takes = absurd (cc)
took may wholes c r (Flush j) s after entries same f good e takes = absurd (cc)
took may wholes c r Named s after entries same f good e takes = absurd (cc)
took may wholes c r Done s after entries same f good e takes = absurd (cc)
took may wholes c r Restart s after entries same f good e takes = absurd (cc)
took may wholes c r NoRoom s after entries same f good e takes = absurd (cc)
took may wholes c r NoSlot s after entries same f good e takes = absurd (cc)
took may wholes c r NoSwap s after entries same f good e takes = absurd (cc)
