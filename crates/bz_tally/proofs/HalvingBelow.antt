-- The swap of a leaf's split below a parent puts its halves in its place.
use Rattle.std.proofs.Common.{◌≡◌, ◌≢◌, ℕ, ◌+◌, ◌<◌, ◌==◌, List, [], ◌∷◌, Some, arith, refl, sym, ap, subst, ◌∙◌, inl, inr}
use Rattle.bz_branch.specs.FromBelow.Duties.{below_of}
use Rattle.bz_branch.specs.FromBelow.Facts.{Below, below_nodes, IsSplittingBelow, below_asks, below_facts, parent_words}
use Rattle.bz_branch.specs.FromBelow.Guards.{with_guard, WasNamed}
use Rattle.bz_branch.specs.FromBelow.BelowPhase.{BelowPhase}
use Rattle.bz_branch.specs.FromBelow.BelowPhase.TheVariants.{Swap}
use Rattle.bz_branch.specs.Nodes.{IsOpenLink}
use Rattle.bz_branch.proofs.Standing.{node-below}
use Rattle.bz_halves.specs.Parents.{HasRoomToPart, IsPartedParent}
use Rattle.bz_halves.proofs.Proved.{parents_of_halves_are_whole}
use Rattle.bz_layout.specs.Addresses.{node_address}
use Rattle.bz_layout.specs.declared.config.Config.{Config}
use Rattle.bz_layout.specs.declared.sizes.TheConstants.{STATUS_AT}
use Rattle.bz_layout.specs.declared.thresholds.TheConstants.{SPLIT_SLOTS}
use Rattle.bz_leaves.proofs.Proved.{leaf_splits_add_one}
use Rattle.bz_node.specs.Reading.{children_in}
use Rattle.bz_renew.specs.Freezings.{freezing_entry}
use Rattle.bz_renew.specs.FrozenLeaves.{StandsStill}
use Rattle.bz_renew.specs.Renewals.{renewal, link_entry, guard_entry}
use Rattle.bz_renew.specs.Standing.{StillLeads}
use Rattle.bz_renew.specs.Turning.{TurnsWith, AreGoing}
use Rattle.bz_renew.proofs.Freezings.{renewal-holds}
use Rattle.bz_renew.proofs.Inserting.{all-inserted-first}
use Rattle.bz_renew.proofs.TwoEntries.{both-stand}
use Rattle.bz_renew.proofs.Words.{or-right}
use Rattle.bz_renew.proofs.Proved.{child_links_turn_with, frozen_leaves_stand_still, guarded_links_stand, root_links_turn_with}
use Rattle.bz_tree.proofs.Trees.{among-first}
use Rattle.bz_tree.specs.Slots.{Wider}
use Rattle.bz_tree.specs.Walk.{is_among}
use Rattle.bz_slotted.specs.ReadingLaws.{node_of}
use Rattle.bz_slotted.specs.Rules.{node_fault}
use Rattle.bz_split.specs.BelowSplits.{parent_freezing, below_swap}
use Rattle.bz_split.specs.Facts.{SPLIT_WORDS, SPLIT_LINES}
use Rattle.bz_word.specs.declared.entry.Entry.{Entry}
use Rattle.bz_content.specs.Content.{image_of}
use Rattle.bz_content.specs.Restructures.{children_of, Splits}
use Rattle.bz_content.proofs.Proved.{splits_keep_the_content}
use Rattle.bz_task.specs.Instant.{Instant, words, durable, form_at}
use Rattle.bz_task.specs.Laws.{SamePlace}
use Rattle.bz_task.specs.Outcomes.{IsGuarded, IsUnderNode}
use Rattle.bz_task.specs.Scene.{Scene, Waiting, IsScene, here}
use Rattle.bz_task.specs.Swaps.{Stand, SwapsTo}
use Rattle.bz_task.specs.declared.path.Link.{Link}
use Rattle.bz_task.specs.declared.todo.Todo.TheVariants.{Swap as Swaps_for}
use Rattle.bz_tally.proofs.Backs.{AreFresh, is-gone, none-back, three-fresh}
use Rattle.bz_tally.proofs.Changes.{same-entries}
use Rattle.bz_tally.proofs.Links.{in-parent, leaf-now, node-freezable, node-leads, node-place, node-words, out-one, tree-now}
use Rattle.bz_tally.proofs.Splitting.{Holds, IsReady, splits}
use Rattle.bz_tally.proofs.Stored.{node-held, node-fresh, are-three}
use Rattle.bz_tally.specs.Laws.{LeafSplitsCount}

-- the upper link with the guard that is named
abbrev named : Below → Link
named r = with_guard r.upper r.guard

module _ (r : Below) (s : Scene) (y : Instant) (good : IsScene s) (f : IsSplittingBelow r SPLIT_WORDS SPLIT_LINES s) (w : WasNamed r.upper r.guard (below_nodes r) s.past) (stand : Stand (below_swap s.past.config (named r) r.lower (r.slot 0)) (here s)) where
  abbrev c : Config
  c = s.past.config

  abbrev p : ℕ
  p = r.upper.slot

  abbrev a : ℕ
  a = r.lower.slot

  abbrev o : IsOpenLink r.upper.slot r.lower s.past
  o = in-parent s r.upper r.lower f.planned.parted.links

  abbrev i : ℕ
  i = f.planned.parted.links.under.child.child

  abbrev stands : Entry → Type 0
  stands e = (here s).value e.target ≡ e.expected

  -- the parent's status is as it was read, and the upper link leads to the parent
  parent-now : (here s).value (node_address c p + STATUS_AT) ≡ r.lower.status
  parent-now = all-inserted-first stands (freezing_entry c (parent_freezing (named r) r.lower)) (renewal (named r) (r.slot 0)) stand

  link-now : ((here s).value r.upper.link ≡ r.upper.slot + 1) × ((here s).value r.upper.guard ≡ r.guard)
  link-now = both-stand (link_entry (named r) (r.slot 0)) (guard_entry (named r)) (here s) (renewal-holds c (named r) (r.slot 0) stands (parent_freezing (named r) r.lower ∷ []) stand)

  leads : StillLeads r.lower s f.planned.parted.links.guard.guarded p i
  leads = node-leads s p r.lower good o parent-now

  place : SamePlace c (s.past.at f.planned.parted.guarded) (here s) p
  place = subst (λ m. SamePlace c (s.past.at m) (here s) p) f.planned.parted.is_guarded (node-place s p r.lower good o parent-now)

  read-now : durable c (here s) p ≡ node_of r.read
  read-now = node-words s p r.lower good o parent-now ∙ (ap (λ m. words c (s.past.at m) p) f.planned.parted.is_guarded ∙ f.planned.parent.were)

  room : HasRoomToPart c.nodes (children_in r.read) f.planned.parent.level (r.slot 1) (r.slot 2) r.sep
  room = record {
    few = f.planned.parent.parent.few;
    slots = f.planned.parent.parent.partable.slots;
    left_slot = f.writing.slots.within 1 (omega arith);
    right_slot = f.writing.slots.within 2 (omega arith);
    inner = f.planned.parent.parent.inner;
    few_levels = f.planned.parent.parent.lowest;
    room = f.planned.room;
  }

  made : IsPartedParent c.nodes (node_of r.read) (children_in r.read) f.planned.parent.low f.planned.parent.high f.planned.parent.level f.planned.parted.child (r.slot 1) (r.slot 2) r.sep
  made = parents_of_halves_are_whole c.nodes (node_of r.read) (children_in r.read) f.planned.parent.low f.planned.parent.high f.planned.parent.level f.planned.parted.child (r.slot 1) (r.slot 2) r.sep f.planned.parent.parent.partable.may room f.planned.parent.parent.partable.has

  wider : Wider (children_of (durable c (here s) p)) (children_of (node_of (r.image 0))) i (r.slot 1) (r.slot 2) r.sep
  wider = subst (λ n. Wider (children_of n) (children_of (node_of (r.image 0))) i (r.slot 1) (r.slot 2) r.sep) (sym read-now)
      (subst (λ w. Wider (children_of (node_of r.read)) (children_of (node_of w)) i (r.slot 1) (r.slot 2) r.sep) (sym f.over)
      (subst (λ j. Wider (children_of (node_of r.read)) (children_of (node_of (parent_words r f.planned.parted.child f.planned.parent.level f.planned.parent.low f.planned.parent.high))) j (r.slot 1) (r.slot 2) r.sep) (sym f.planned.parted.is_child) made.wider))

  -- the leaf
  leaf : StandsStill a f.planned.parted.moment s
  leaf = frozen_leaves_stand_still s a f.planned.parted.moment good f.planned.parted.leaf

  leaf-place : SamePlace c (s.past.at f.planned.parted.moment) (here s) a
  leaf-place = leaf.place leads.stands.inside

  flat : (form_at c (here s)).level a ≡ 0
  flat = leaf.leaf leads.stands.inside

  stored : (n : ℕ) → n < SPLIT_SLOTS → Holds s (r.slot n) (node_of (r.image n))
  stored n h = record { fresh = node-fresh r.slot r.image s f.plain f.writing n h; has = node-held r.slot r.image s f.plain f.writing n h }

  ready : IsReady s p a i (r.slot 0) (r.slot 1) (r.slot 2) 0 r.sep (node_of (r.image 0)) (node_of (r.image 1)) (node_of (r.image 2))
  ready = record {
    stands = leads.stands;
    parent = node-below s p r.lower good o;
    node = f.planned.parted.leaf.slot;
    three = are-three r.slot r.image s f.plain f.writing;
    above = stored 0 (omega arith);
    left = stored 1 (omega arith);
    right = stored 2 (omega arith);
    whole = (λ e. node_fault c.nodes (node_of (f.over e)) (node_of (f.over e)) ((place.level ∙ f.planned.parent.level_is) e) ((place.low ∙ f.planned.parent.low_is) e) ((place.high ∙ f.planned.parent.high_is) e)) ∙ made.inner.none;
    left_whole = (λ e. node_fault c.nodes (node_of (r.image 1)) (node_of (r.image 1)) (flat e) (leaf-place.low e) (Some r.sep)) ∙ f.planned.parted.left_whole;
    right_whole = (λ e. node_fault c.nodes (node_of (r.image 2)) (node_of (r.image 2)) (flat e) (Some r.sep) (leaf-place.high e)) ∙ f.planned.parted.right_whole;
    wider = wider;
    halves = λ deep. absurd (omega (arith, deep, flat));
    before = λ e key t. f.planned.parted.before key t ∙ sym (leaf.says leads.stands.inside key);
    from = λ e key t. f.planned.parted.from key t ∙ sym (leaf.says leads.stands.inside key);
  }

  going : AreGoing (parent_freezing (named r) r.lower ∷ []) (a ∷ p ∷ []) s
  going = record { freezable = (node-freezable s p r.lower good o parent-now, (refl, tt)); go = λ k e. or-right (a == k) (is_among (p ∷ []) k) e }

  module _ (swaps : SwapsTo c (below_swap c (named r) r.lower (r.slot 0)) (here s) y) where
    halved-at : (top j : ℕ) (changed : List ℕ) → TurnsWith (named r) (r.slot 0) (parent_freezing (named r) r.lower ∷ []) (a ∷ p ∷ []) s y top j changed
        → Splits c (image_of (here s).image) (image_of y.image) a (r.slot 0) (r.slot 1) (r.slot 2) 0 r.sep
    halved-at top j changed t =
        splits s y good (named r) (parent_freezing (named r) r.lower ∷ []) (r.slot 0) (a ∷ p ∷ []) top j changed t swaps a i (r.slot 1) (r.slot 2) 0 r.sep (node_of (r.image 0)) (node_of (r.image 1)) (node_of (r.image 2)) ready refl

    -- the guard that is named was read
    guard-now : IsGuarded s.past (named r)
    guard-now = record {
      guarded = w.named;
      read = s.past.now;
      since = w.since;
      order = w.now;
      now = omega arith;
      under = elim w.under [
        | inl u ↦ inl (record { pointer = u.pointer; guard = u.guard })
        | inr u ↦ inr (record { parent = u.parent; place = u.place; reached = u.reached; within = u.within; child = u.child; pointer = u.pointer; guard = u.guard })
      ];
      status = w.value;
      slot = link-now.0;
    }

    -- the parent is none of the nodes above it
    not-above : (under : IsUnderNode s.past (named r) guard-now.guarded) → p ≢ under.parent
    not-above under e = absurd (omega (arith, ap (form_at c (here s)).level e, (guarded_links_stand s (named r) good guard-now w.thawed under link-now.1).stands.level))

    -- where the upper link stands
    pub halved : Splits c (image_of (here s).image) (image_of y.image) r.lower.slot (r.slot 0) (r.slot 1) (r.slot 2) 0 r.sep
    halved = elim guard-now.under [
      | inl root ↦ halved-at c.nodes 0 (p ∷ []) (root_links_turn_with s y (named r) (r.slot 0) (parent_freezing (named r) r.lower ∷ []) (a ∷ p ∷ []) good root (f.writing.slots.within 0 (omega arith)) going stand swaps)
      | inr node ↦ halved-at node.parent node.child.child (node.parent ∷ p ∷ [])
          (child_links_turn_with s y (named r) (r.slot 0) (parent_freezing (named r) r.lower ∷ []) (a ∷ p ∷ []) good guard-now w.thawed node (out-one p node.parent (not-above node)) (f.writing.slots.within 0 (omega arith)) going stand swaps)
    ]

  pub is-flat : (form_at c (here s)).level r.lower.slot ≡ 0
  is-flat = flat

-- a split that asks for a swap has its nodes ready
swapping : (c : Config) (r : Below) (phase : BelowPhase) (s : Scene) (entries : List Entry) → below_facts r phase Waiting s → below_asks c r phase ≡ Some (Swaps_for entries)
    → IsSplittingBelow r SPLIT_WORDS SPLIT_LINES s × (WasNamed r.upper r.guard (below_nodes r) s.past × (below_swap c (with_guard r.upper r.guard) r.lower (r.slot 0) ≡ entries))
swapping c r Swap s entries f e = (f.1.0, (f.1.1, same-entries (below_swap c (with_guard r.upper r.guard) r.lower (r.slot 0)) entries e))
swapping c r phase s entries f e = absurd (cc)

pub halves-below : LeafSplitsCount
halves-below t entries s y l =
    let r : Below = below_of t in
    let f = swapping t.config r t.phase s entries l.knows l.asks in
    let is : below_swap s.past.config (named r) r.lower (r.slot 0) ≡ entries = ap (λ (z : Config). below_swap z (named r) r.lower (r.slot 0)) l.config ∙ f.1.1 in
    let stand : Stand (below_swap s.past.config (named r) r.lower (r.slot 0)) (here s) = subst (λ z. Stand z (here s)) (sym is) l.stand in
    let d = halved r s y l.good f.0 f.1.0 stand (subst (λ z. SwapsTo s.past.config z (here s) y) (sym is) l.leads) in
    let flat : (form_at s.past.config (here s)).level t.lower.slot ≡ 0 = is-flat r s y l.good f.0 f.1.0 stand in
    let fresh : AreFresh s (r.slot 0 ∷ r.slot 1 ∷ r.slot 2 ∷ []) = three-fresh s (r.slot 0) (r.slot 1) (r.slot 2) (node-fresh r.slot r.image s f.0.plain f.0.writing 0 (omega arith)) (node-fresh r.slot r.image s f.0.plain f.0.writing 1 (omega arith)) (node-fresh r.slot r.image s f.0.plain f.0.writing 2 (omega arith)) in
    let grows = splits_keep_the_content s.past.config (image_of (here s).image) (image_of y.image) t.lower.slot (r.slot 0) (r.slot 1) (r.slot 2) 0 r.sep (tree-now s l.good) d in
    record {
      more = (leaf_splits_add_one s.past.config (image_of (here s).image) (image_of y.image) t.lower.slot (r.slot 0) (r.slot 1) (r.slot 2) 0 r.sep (tree-now s l.good) d).leaf flat;
      leaf = leaf-now s t.lower.slot d.inside flat;
      crowded = record { moment = f.0.planned.parted.moment; frozen = f.0.planned.parted.leaf; many = f.0.planned.parted.many };
      gone = is-gone s y (t.lower.slot ∷ (form_at s.past.config (here s)).up t.lower.slot ∷ []) (r.slot 0 ∷ r.slot 1 ∷ r.slot 2 ∷ []) l.good grows fresh t.lower.slot d.inside (among-first t.lower.slot t.lower.slot ((form_at s.past.config (here s)).up t.lower.slot ∷ []) refl);
      back = none-back s y (t.lower.slot ∷ (form_at s.past.config (here s)).up t.lower.slot ∷ []) (r.slot 0 ∷ r.slot 1 ∷ r.slot 2 ∷ []) l.good grows fresh;
    }
