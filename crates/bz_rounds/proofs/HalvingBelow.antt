-- The swap of a leaf's split puts its halves in its place below a new parent.
use Rattle.std.proofs.Common.{◌≡◌, ℕ, ◌<◌, ◌==◌, List, [], ◌∷◌, Some, arith, refl, sym, ap, subst, ◌∙◌, inl, inr}
use Rattle.bz_layout.specs.declared.config.Config.{Config}
use Rattle.bz_layout.specs.declared.thresholds.TheConstants.{SPLIT_SLOTS}
use Rattle.bz_node.specs.Reading.{children_in}
use Rattle.bz_tree.specs.Slots.{Wider}
use Rattle.bz_tree.specs.Walk.{is_among}
use Rattle.bz_slotted.specs.Page.{page}
use Rattle.bz_slotted.specs.ReadingLaws.{node_of}
use Rattle.bz_slotted.specs.Rules.{node_fault}
use Rattle.bz_word.specs.declared.entry.Entry.{Entry}
use Rattle.bz_content.specs.Content.{image_of, leaf_in}
use Rattle.bz_content.specs.Restructures.{children_of, Splits}
use Rattle.bz_task.specs.Instant.{Instant, words, durable, form_at}
use Rattle.bz_task.specs.Laws.{SamePlace}
use Rattle.bz_task.specs.Scene.{Scene, Waiting, IsScene, here}
use Rattle.bz_task.specs.Swaps.{Stand, SwapsTo}
use Rattle.bz_task.specs.declared.todo.Todo.TheVariants.{Swap as Swaps_for}
use Rattle.bz_halves.specs.Parents.{HasRoomToPart, IsPartedParent}
use Rattle.bz_halves.proofs.Proved.{parents_of_halves_are_whole}
use Rattle.bz_renew.specs.FrozenLeaves.{StandsStill}
use Rattle.bz_renew.specs.Standing.{StillLeads}
use Rattle.bz_renew.specs.Turning.{TurnsWith, AreGoing}
use Rattle.bz_renew.proofs.Words.{or-right}
use Rattle.bz_renew.proofs.Proved.{child_links_turn_with, frozen_leaves_stand_still, root_links_turn_with}
use Rattle.bz_tally.specs.FromSplit.BelowSplits.{AreLinksDown, parent_freezing, below_swap}
use Rattle.bz_tally.specs.FromSplit.Facts.{SPLIT_WORDS, SPLIT_LINES}
use Rattle.bz_tally.specs.FromBelow.Duties.{below_of}
use Rattle.bz_tally.specs.FromBelow.Facts.{Below, below_nodes, IsSplittingBelow, below_asks, below_facts, parent_words}
use Rattle.bz_tally.specs.FromBelow.Guards.{with_guard, WasNamed}
use Rattle.bz_tally.specs.FromBelow.BelowPhase.{BelowPhase}
use Rattle.bz_tally.specs.FromBelow.BelowPhase.TheVariants.{Swap}
use Rattle.bz_ascent.specs.FromBranch.Nodes.{IsOpenLink}
use Rattle.bz_ascent.proofs.FromBranch.Standing.{node-below}
use Rattle.bz_stage.specs.Swaps.{IsRoomy, IsRoomyLeaf}
use Rattle.bz_stage.proofs.Proved.{leaf_splits_give_room}
use Rattle.bz_undisturbed.specs.Quiet.{IsQuietSince}
use Rattle.bz_undisturbed.proofs.Proved.{undisturbed_times_are_quiet, splits_below_go_on}
use Rattle.bz_rounds.specs.Laws.{UndisturbedLeafSplitsGiveRoom}
use Rattle.bz_rounds.proofs.Lacking.{lacks-room}
use Rattle.bz_rounds.proofs.Undisturbed.{tree-now, leaf-now, same-entries}
use Rattle.bz_rounds.proofs.Made.{HasRoom, left-has-room, right-has-room}
use Rattle.bz_rounds.proofs.Parents.{guard-at, node-leads, node-place, node-words, node-freezable, not-above}
use Rattle.bz_tally.proofs.Links.{in-parent, out-one}
use Rattle.bz_tally.proofs.Splitting.{Holds, IsReady, after, splits}
use Rattle.bz_tally.proofs.Stored.{node-held, node-fresh, are-three}

module _ (r : Below) (s : Scene) (y : Instant) (good : IsScene s) (quiet : IsQuietSince s.past.since s.past) (f : IsSplittingBelow r SPLIT_WORDS SPLIT_LINES s) where
  abbrev c : Config
  c = s.past.config

  abbrev p : ℕ
  p = r.upper.slot

  abbrev a : ℕ
  a = r.lower.slot

  abbrev d : AreLinksDown r.upper r.lower s.past
  d = f.planned.parted.links

  abbrev o : IsOpenLink r.upper.slot r.lower s.past
  o = in-parent s r.upper r.lower f.planned.parted.links

  leads : StillLeads r.lower s d.guard.guarded p d.under.child.child
  leads = node-leads s good quiet p r.lower o

  -- the parent as it was read
  place : SamePlace c (s.past.at f.planned.parted.guarded) (here s) p
  place = subst (λ m. SamePlace c (s.past.at m) (here s) p) f.planned.parted.is_guarded (node-place s good quiet p r.lower o)

  read-now : durable c (here s) p ≡ node_of r.read
  read-now = node-words s good quiet p r.lower o ∙ (ap (λ m. words c (s.past.at m) p) f.planned.parted.is_guarded ∙ f.planned.parent.were)

  room : HasRoomToPart c.nodes (children_in r.read) f.planned.parent.level (r.slot 1) (r.slot 2) r.sep
  room = record {
    few = f.planned.parent.parent.few;
    slots = f.planned.parent.parent.partable.slots;
    left_slot = f.writing.slots.within 1 (omega arith);
    right_slot = f.writing.slots.within 2 (omega arith);
    inner = f.planned.parent.parent.inner;
    few_levels = f.planned.parent.parent.lowest;
    room = f.planned.room;
  }

  made : IsPartedParent c.nodes (node_of r.read) (children_in r.read) f.planned.parent.low f.planned.parent.high f.planned.parent.level f.planned.parted.child (r.slot 1) (r.slot 2) r.sep
  made = parents_of_halves_are_whole c.nodes (node_of r.read) (children_in r.read) f.planned.parent.low f.planned.parent.high f.planned.parent.level f.planned.parted.child (r.slot 1) (r.slot 2) r.sep f.planned.parent.parent.partable.may room f.planned.parent.parent.partable.has

  wider : Wider (children_of (durable c (here s) p)) (children_of (node_of (r.image 0))) d.under.child.child (r.slot 1) (r.slot 2) r.sep
  wider = subst (λ n. Wider (children_of n) (children_of (node_of (r.image 0))) d.under.child.child (r.slot 1) (r.slot 2) r.sep) (sym read-now)
      (subst (λ w. Wider (children_of (node_of r.read)) (children_of (node_of w)) d.under.child.child (r.slot 1) (r.slot 2) r.sep) (sym f.over)
      (subst (λ i. Wider (children_of (node_of r.read)) (children_of (node_of (parent_words r f.planned.parted.child f.planned.parent.level f.planned.parent.low f.planned.parent.high))) i (r.slot 1) (r.slot 2) r.sep) (sym f.planned.parted.is_child) made.wider))

  -- the leaf
  leaf : StandsStill a f.planned.parted.moment s
  leaf = frozen_leaves_stand_still s a f.planned.parted.moment good f.planned.parted.leaf

  leaf-place : SamePlace c (s.past.at f.planned.parted.moment) (here s) a
  leaf-place = leaf.place leads.stands.inside

  flat : (form_at c (here s)).level a ≡ 0
  flat = leaf.leaf leads.stands.inside

  stored : (n : ℕ) → n < SPLIT_SLOTS → Holds s (r.slot n) (node_of (r.image n))
  stored n h = record { fresh = node-fresh r.slot r.image s f.plain f.writing n h; has = node-held r.slot r.image s f.plain f.writing n h }

  ready : IsReady s p a d.under.child.child (r.slot 0) (r.slot 1) (r.slot 2) 0 r.sep (node_of (r.image 0)) (node_of (r.image 1)) (node_of (r.image 2))
  ready = record {
    stands = leads.stands;
    parent = node-below s p r.lower good o;
    node = f.planned.parted.leaf.slot;
    three = are-three r.slot r.image s f.plain f.writing;
    above = stored 0 (omega arith);
    left = stored 1 (omega arith);
    right = stored 2 (omega arith);
    whole = (λ e. node_fault c.nodes (node_of (f.over e)) (node_of (f.over e)) ((place.level ∙ f.planned.parent.level_is) e) ((place.low ∙ f.planned.parent.low_is) e) ((place.high ∙ f.planned.parent.high_is) e)) ∙ made.inner.none;
    left_whole = (λ e. node_fault c.nodes (node_of (r.image 1)) (node_of (r.image 1)) (flat e) (leaf-place.low e) (Some r.sep)) ∙ f.planned.parted.left_whole;
    right_whole = (λ e. node_fault c.nodes (node_of (r.image 2)) (node_of (r.image 2)) (flat e) (Some r.sep) (leaf-place.high e)) ∙ f.planned.parted.right_whole;
    wider = wider;
    halves = λ deep. absurd (omega (arith, deep, flat));
    before = λ e key t. f.planned.parted.before key t ∙ sym (leaf.says leads.stands.inside key);
    from = λ e key t. f.planned.parted.from key t ∙ sym (leaf.says leads.stands.inside key);
  }

  going : AreGoing (parent_freezing r.upper r.lower ∷ []) (a ∷ p ∷ []) s
  going = record { freezable = (node-freezable s good quiet p r.lower o, (refl, tt)); go = λ k e. or-right (a == k) (is_among (p ∷ []) k) e }

  abbrev IsHalved : Type 0
  IsHalved = Splits c (image_of (here s).image) (image_of y.image) a (r.slot 0) (r.slot 1) (r.slot 2) 0 r.sep × (IsRoomyLeaf c (image_of y.image) (r.slot 1) × IsRoomyLeaf c (image_of y.image) (r.slot 2))

  module _ (swaps : SwapsTo c (below_swap c r.upper r.lower (r.slot 0)) (here s) y) (left : HasRoom (r.image 1)) (right : HasRoom (r.image 2)) where
    halved-at : (top j : ℕ) (changed : List ℕ) → TurnsWith r.upper (r.slot 0) (parent_freezing r.upper r.lower ∷ []) (a ∷ p ∷ []) s y top j changed → IsHalved
    halved-at top j changed t = (
      splits s y good r.upper (parent_freezing r.upper r.lower ∷ []) (r.slot 0) (a ∷ p ∷ []) top j changed t swaps a d.under.child.child (r.slot 1) (r.slot 2) 0 r.sep (node_of (r.image 0)) (node_of (r.image 1)) (node_of (r.image 2)) ready refl,
      (
        subst (λ n. IsRoomy (page n)) (sym (after s y good r.upper (parent_freezing r.upper r.lower ∷ []) (r.slot 0) (a ∷ p ∷ []) top j changed t swaps (r.slot 1) (node_of (r.image 1)) (stored 1 (omega arith)))) left,
        subst (λ n. IsRoomy (page n)) (sym (after s y good r.upper (parent_freezing r.upper r.lower ∷ []) (r.slot 0) (a ∷ p ∷ []) top j changed t swaps (r.slot 2) (node_of (r.image 2)) (stored 2 (omega arith)))) right,
      ),
    )

    -- where the upper link stands
    pub halved : Stand (below_swap c r.upper r.lower (r.slot 0)) (here s) → IsHalved
    halved stand = elim d.upper_guard.under [
      | inl root ↦ halved-at c.nodes 0 (p ∷ []) (root_links_turn_with s y r.upper (r.slot 0) (parent_freezing r.upper r.lower ∷ []) (a ∷ p ∷ []) good root (f.writing.slots.within 0 (omega arith)) going stand swaps)
      | inr node ↦ halved-at node.parent node.child.child (node.parent ∷ p ∷ [])
          (child_links_turn_with s y r.upper (r.slot 0) (parent_freezing r.upper r.lower ∷ []) (a ∷ p ∷ []) good d.upper_guard d.upper_thawed node
          (out-one p node.parent (λ e. absurd (omega (arith, ap (form_at c (here s)).level e, not-above s good quiet r.upper r.lower d node))))
          (f.writing.slots.within 0 (omega arith)) going stand swaps)
    ]

-- a split that asks for a swap has its nodes ready
swapping : (c : Config) (r : Below) (phase : BelowPhase) (s : Scene) (entries : List Entry) → below_facts r phase Waiting s → below_asks c r phase ≡ Some (Swaps_for entries)
    → IsSplittingBelow r SPLIT_WORDS SPLIT_LINES s × (WasNamed r.upper r.guard (below_nodes r) s.past × (below_swap c (with_guard r.upper r.guard) r.lower (r.slot 0) ≡ entries))
swapping c r Swap s entries f e = (f.1.0, (f.1.1, same-entries (below_swap c (with_guard r.upper r.guard) r.lower (r.slot 0)) entries e))
swapping c r phase s entries f e = absurd (cc)

pub halves-below : UndisturbedLeafSplitsGiveRoom
halves-below t key read words entries s y l was m few =
    let r : Below = below_of t in
    let f = swapping t.config r t.phase s entries l.knows l.asks in
    let quiet : IsQuietSince s.past.since s.past = undisturbed_times_are_quiet.whole s l.good l.alone in
    let named : r.guard ≡ r.upper.status = sym f.1.0.value ∙ guard-at s l.good quiet r.upper f.0.planned.parted.links.upper_guard f.1.0.named f.1.0.since f.1.0.now in
    let is : below_swap s.past.config r.upper r.lower (r.slot 0) ≡ entries =
    ap (λ (g : ℕ). below_swap s.past.config (with_guard r.upper g) r.lower (r.slot 0)) (sym named) ∙ (ap (λ (z : Config). below_swap z (with_guard r.upper r.guard) r.lower (r.slot 0)) l.config ∙ f.1.1) in
    let stand : Stand entries (here s) = (splits_below_go_on t s l.config l.good l.knows l.alone).stands entries l.asks in
    let leaf : leaf_in s.past.config (here s).image key ≡ t.lower.slot = leaf-now s l.good key t.lower.slot l.alone was in
    let d = halved r s y l.good quiet f.0 (subst (λ z. SwapsTo s.past.config z (here s) y) (sym is) l.leads) (left-has-room read t.halves.left.0 t.halves.right.0 t.halves.separator m) (right-has-room read t.halves.left.0 t.halves.right.0 t.halves.separator m)
    (subst (λ z. Stand z (here s)) (sym is) stand) in
    record {
      lacked = lacks-room s l.good key t.lower.slot l.alone was (frozen_leaves_stand_still s t.lower.slot f.0.planned.parted.moment l.good f.0.planned.parted.leaf).frozen words;
      room = leaf_splits_give_room s.past.config (image_of (here s).image) (image_of y.image) key words (r.slot 0) (r.slot 1) (r.slot 2) 0 r.sep (tree-now s l.good)
          (subst (λ (k : ℕ). Splits s.past.config (image_of (here s).image) (image_of y.image) k (r.slot 0) (r.slot 1) (r.slot 2) 0 r.sep) (sym leaf) d.0) d.1.0 d.1.1 few;
    }
