-- The swap of the split of an inner node below a parent puts its halves in its place.
use Rattle.std.proofs.Common.{◌≡◌, ◌≢◌, ℕ, ◌+◌, ◌<◌, List, [], ◌∷◌, Some, arith, refl, sym, ap, subst, ◌∙◌, inl, inr}
use Rattle.std.specs.Prelude.{All}
use Rattle.bz_branch.specs.FromSplit.BelowSplits.{AreLinksDown, parent_freezing}
use Rattle.bz_branch.specs.InnerSplits.{both_freezings, inner_swap}
use Rattle.bz_branch.specs.Nodes.{IsOpenLink}
use Rattle.bz_branch.proofs.Standing.{node-below}
use Rattle.bz_any_task.specs.FromFork.Duties.{fork_of}
use Rattle.bz_any_task.specs.FromFork.Facts.{Fork, fork_plan, fork_asks, fork_facts, parent_words}
use Rattle.bz_any_task.specs.FromFork.ForkPhase.{ForkPhase}
use Rattle.bz_any_task.specs.FromFork.ForkPhase.TheVariants.{Writing}
use Rattle.bz_writer.specs.Laws.{IsWritten}
use Rattle.bz_writer.specs.declared.phase.WritePhase.TheVariants.{Swap}
use Rattle.bz_halves.specs.Parents.{HasRoomToPart, IsPartedParent}
use Rattle.bz_halves.proofs.Proved.{parents_of_halves_are_whole}
use Rattle.bz_layout.specs.Addresses.{node_address}
use Rattle.bz_layout.specs.declared.config.Config.{Config}
use Rattle.bz_layout.specs.declared.sizes.TheConstants.{STATUS_AT}
use Rattle.bz_layout.specs.declared.thresholds.TheConstants.{SPLIT_SLOTS}
use Rattle.bz_node.specs.Reading.{children_in}
use Rattle.bz_renew.specs.Freezings.{freezing_entry, renewal_with}
use Rattle.bz_renew.specs.Renewals.{renewal, link_entry, guard_entry}
use Rattle.bz_renew.specs.Standing.{StillLeads}
use Rattle.bz_renew.specs.Turning.{TurnsWith, AreGoing}
use Rattle.bz_renew.proofs.Freezings.{renewal-holds}
use Rattle.bz_renew.proofs.Inserting.{all-inserted-first, all-inserted-others}
use Rattle.bz_renew.proofs.TwoEntries.{both-stand}
use Rattle.bz_renew.proofs.Proved.{child_links_turn_with, guarded_links_stand, root_links_turn_with}
use Rattle.bz_tree.specs.Slots.{Wider, Halves}
use Rattle.bz_slotted.specs.ReadingLaws.{node_of}
use Rattle.bz_slotted.specs.Rules.{node_fault}
use Rattle.bz_word.specs.declared.entry.Entry.{Entry}
use Rattle.bz_content.specs.Content.{image_of}
use Rattle.bz_content.specs.Restructures.{children_of, Splits}
use Rattle.bz_content.proofs.Proved.{splits_keep_the_content}
use Rattle.bz_task.specs.Instant.{Instant, words, durable, form_at}
use Rattle.bz_task.specs.Laws.{SamePlace}
use Rattle.bz_task.specs.Outcomes.{IsUnderNode}
use Rattle.bz_task.specs.Scene.{Scene, Waiting, IsScene, here}
use Rattle.bz_task.specs.Swaps.{Stand, SwapsTo}
use Rattle.bz_task.specs.declared.todo.Todo.TheVariants.{Swap as Swaps_for}
use Rattle.bz_leaves.proofs.Splits.{two-cases}
use Rattle.bz_leaves.proofs.Proved.{leaf_splits_add_one}
use Rattle.bz_tally.proofs.Backs.{AreFresh, leaves-stay, none-back, three-fresh}
use Rattle.bz_tally.proofs.Changes.{same-entries}
use Rattle.bz_tally.proofs.Links.{in-parent, node-freezable, node-leads, node-place, node-words, out-one, out-two, tree-now}
use Rattle.bz_tally.proofs.Splitting.{Holds, IsReady, splits}
use Rattle.bz_tally.proofs.Stored.{node-held, node-fresh, are-three}
use Rattle.bz_tally.specs.Laws.{InnerSplitsKeepTheLeaves}

module _ (r : Fork) (s : Scene) (y : Instant) (good : IsScene s) (f : IsWritten (fork_plan r) s) (stand : Stand (inner_swap s.past.config r.upper r.middle r.lower (r.slot 0)) (here s)) where
  abbrev c : Config
  c = s.past.config

  abbrev p : ℕ
  p = r.upper.slot

  abbrev a : ℕ
  a = r.middle.slot

  abbrev d : AreLinksDown r.upper r.middle s.past
  d = f.ready.planned.links.down

  abbrev above : IsOpenLink r.upper.slot r.middle s.past
  above = in-parent s r.upper r.middle f.ready.planned.links.down

  abbrev inside : IsOpenLink r.middle.slot r.lower s.past
  inside = f.ready.planned.links.node

  abbrev stands : Entry → Type 0
  stands e = (here s).value e.target ≡ e.expected

  -- the statuses of the node and of the parent are as they were read, and so is the guard of the upper link
  rest : All stands (renewal_with c r.upper (r.slot 0) (parent_freezing r.upper r.middle ∷ []))
  rest = all-inserted-others stands (freezing_entry c (parent_freezing r.middle r.lower)) (renewal_with c r.upper (r.slot 0) (parent_freezing r.upper r.middle ∷ [])) stand

  node-status : (here s).value (node_address c a + STATUS_AT) ≡ r.lower.status
  node-status = all-inserted-first stands (freezing_entry c (parent_freezing r.middle r.lower)) (renewal_with c r.upper (r.slot 0) (parent_freezing r.upper r.middle ∷ [])) stand

  parent-status : (here s).value (node_address c p + STATUS_AT) ≡ r.middle.status
  parent-status = all-inserted-first stands (freezing_entry c (parent_freezing r.upper r.middle)) (renewal r.upper (r.slot 0)) rest

  upper-now : (here s).value r.upper.guard ≡ r.upper.status
  upper-now = (both-stand (link_entry r.upper (r.slot 0)) (guard_entry r.upper) (here s) (renewal-holds c r.upper (r.slot 0) stands (both_freezings r.upper r.middle r.lower) stand)).1

  leads : StillLeads r.middle s d.guard.guarded p d.under.child.child
  leads = node-leads s p r.middle good above parent-status

  -- the parent, and the node, as they were read
  parent-place : SamePlace c (s.past.at f.ready.planned.links.guarded) (here s) p
  parent-place = subst (λ m. SamePlace c (s.past.at m) (here s) p) f.ready.planned.links.is_guarded (node-place s p r.middle good above parent-status)

  parent-now : durable c (here s) p ≡ node_of r.above
  parent-now = node-words s p r.middle good above parent-status ∙ (ap (λ m. words c (s.past.at m) p) f.ready.planned.links.is_guarded ∙ f.ready.planned.parent.were)

  own-place : SamePlace c (s.past.at f.ready.planned.links.counted) (here s) a
  own-place = subst (λ m. SamePlace c (s.past.at m) (here s) a) f.ready.planned.links.is_counted (node-place s a r.lower good inside node-status)

  own-now : durable c (here s) a ≡ node_of r.read
  own-now = node-words s a r.lower good inside node-status ∙ (ap (λ m. words c (s.past.at m) a) f.ready.planned.links.is_counted ∙ f.ready.planned.node.were)

  level : (form_at c (here s)).level a ≡ f.ready.planned.node.level
  level = own-place.level ∙ f.ready.planned.node.level_is

  pub high : 0 < (form_at c (here s)).level r.middle.slot
  high = omega (arith, level, f.ready.planned.node.node.inner)

  pub above-is : 0 < (form_at s.past.config (here s)).level ((form_at s.past.config (here s)).up r.middle.slot)
  above-is = subst (λ (j : ℕ). 0 < (form_at c (here s)).level j) (sym leads.stands.up) (omega (arith, leads.stands.level))

  room : HasRoomToPart c.nodes (children_in r.above) f.ready.planned.parent.level (r.slot 1) (r.slot 2) f.ready.planned.sep
  room = record {
    few = f.ready.planned.parent.parent.few;
    slots = f.ready.planned.parent.parent.partable.slots;
    left_slot = f.writing.slots.within 1 (omega arith);
    right_slot = f.writing.slots.within 2 (omega arith);
    inner = f.ready.planned.parent.parent.inner;
    few_levels = f.ready.planned.parent.parent.lowest;
    room = f.ready.planned.room;
  }

  made : IsPartedParent c.nodes (node_of r.above) (children_in r.above) f.ready.planned.parent.low f.ready.planned.parent.high f.ready.planned.parent.level f.ready.planned.links.child (r.slot 1) (r.slot 2) f.ready.planned.sep
  made = parents_of_halves_are_whole c.nodes (node_of r.above) (children_in r.above) f.ready.planned.parent.low f.ready.planned.parent.high f.ready.planned.parent.level f.ready.planned.links.child (r.slot 1) (r.slot 2) f.ready.planned.sep f.ready.planned.parent.parent.partable.may room f.ready.planned.parent.parent.partable.has

  wider : Wider (children_of (durable c (here s) p)) (children_of (node_of (r.image 0))) d.under.child.child (r.slot 1) (r.slot 2) f.ready.planned.sep
  wider = subst (λ n. Wider (children_of n) (children_of (node_of (r.image 0))) d.under.child.child (r.slot 1) (r.slot 2) f.ready.planned.sep) (sym parent-now)
      (subst (λ w. Wider (children_of (node_of r.above)) (children_of (node_of w)) d.under.child.child (r.slot 1) (r.slot 2) f.ready.planned.sep) (sym f.ready.over)
      (subst (λ i. Wider (children_of (node_of r.above)) (children_of (node_of (parent_words r f.ready.planned.sep f.ready.planned.links.child f.ready.planned.parent.level f.ready.planned.parent.low f.ready.planned.parent.high))) i (r.slot 1) (r.slot 2) f.ready.planned.sep)
      (sym f.ready.planned.links.is_child) made.wider))

  halves : Halves (children_of (durable c (here s) a)) (children_of (node_of (r.image 1))) (children_of (node_of (r.image 2))) f.ready.halves.cut f.ready.planned.sep
  halves = subst (λ n. Halves (children_of n) (children_of (node_of (r.image 1))) (children_of (node_of (r.image 2))) f.ready.halves.cut f.ready.planned.sep) (sym own-now) f.ready.halves.halves

  stored : (n : ℕ) → n < SPLIT_SLOTS → Holds s (r.slot n) (node_of (r.image n))
  stored n h = record { fresh = node-fresh r.slot r.image s f.plain f.writing n h; has = node-held r.slot r.image s f.plain f.writing n h }

  ready : IsReady s p a d.under.child.child (r.slot 0) (r.slot 1) (r.slot 2) f.ready.halves.cut f.ready.planned.sep (node_of (r.image 0)) (node_of (r.image 1)) (node_of (r.image 2))
  ready = record {
    stands = leads.stands;
    parent = node-below s p r.middle good above;
    node = node-below s a r.lower good inside;
    three = are-three r.slot r.image s f.plain f.writing;
    above = stored 0 (omega arith);
    left = stored 1 (omega arith);
    right = stored 2 (omega arith);
    whole = (λ e. node_fault c.nodes (node_of (f.ready.over e)) (node_of (f.ready.over e)) ((parent-place.level ∙ f.ready.planned.parent.level_is) e) ((parent-place.low ∙ f.ready.planned.parent.low_is) e) ((parent-place.high ∙ f.ready.planned.parent.high_is) e)) ∙ made.inner.none;
    left_whole = (λ e. node_fault c.nodes (node_of (r.image 1)) (node_of (r.image 1)) (level e) ((own-place.low ∙ f.ready.planned.node.low_is) e) (Some f.ready.planned.sep)) ∙ f.ready.halves.left_whole;
    right_whole = (λ e. node_fault c.nodes (node_of (r.image 2)) (node_of (r.image 2)) (level e) (Some f.ready.planned.sep) ((own-place.high ∙ f.ready.planned.node.high_is) e)) ∙ f.ready.halves.right_whole;
    wider = wider;
    halves = λ deep. halves;
    before = λ flat key e. absurd (omega (arith, flat, high));
    from = λ flat key e. absurd (omega (arith, flat, high));
  }

  apart : p ≢ a
  apart e = absurd (omega (arith, ap (form_at c (here s)).level e, leads.stands.level))

  going : AreGoing (both_freezings r.upper r.middle r.lower) (a ∷ p ∷ []) s
  going = record {
    freezable = (node-freezable s a r.lower good inside node-status, (out-one p a apart, (node-freezable s p r.middle good above parent-status, (refl, tt))));
    go = λ k e. e;
  }

  -- a node is none of those above it
  module _ (under : IsUnderNode s.past r.upper d.upper_guard.guarded) where
    over : StillLeads r.upper s d.upper_guard.guarded under.parent under.child.child
    over = guarded_links_stand s r.upper good d.upper_guard d.upper_thawed under upper-now

    not-parent : p ≢ under.parent
    not-parent e = absurd (omega (arith, ap (form_at c (here s)).level e, over.stands.level))

    not-node : a ≢ under.parent
    not-node e = absurd (omega (arith, ap (form_at c (here s)).level e, over.stands.level, leads.stands.level))

  module _ (swaps : SwapsTo c (inner_swap c r.upper r.middle r.lower (r.slot 0)) (here s) y) where
    halved-at : (top j : ℕ) (changed : List ℕ) → TurnsWith r.upper (r.slot 0) (both_freezings r.upper r.middle r.lower) (a ∷ p ∷ []) s y top j changed
        → Splits c (image_of (here s).image) (image_of y.image) a (r.slot 0) (r.slot 1) (r.slot 2) f.ready.halves.cut f.ready.planned.sep
    halved-at top j changed t =
        splits s y good r.upper (both_freezings r.upper r.middle r.lower) (r.slot 0) (a ∷ p ∷ []) top j changed t swaps a d.under.child.child (r.slot 1) (r.slot 2) f.ready.halves.cut f.ready.planned.sep (node_of (r.image 0)) (node_of (r.image 1)) (node_of (r.image 2)) ready refl

    -- where the upper link stands
    pub halved : Splits c (image_of (here s).image) (image_of y.image) r.middle.slot (r.slot 0) (r.slot 1) (r.slot 2) f.ready.halves.cut f.ready.planned.sep
    halved = elim d.upper_guard.under [
      | inl root ↦ halved-at c.nodes 0 (a ∷ p ∷ []) (root_links_turn_with s y r.upper (r.slot 0) (both_freezings r.upper r.middle r.lower) (a ∷ p ∷ []) good root (f.writing.slots.within 0 (omega arith)) going stand swaps)
      | inr node ↦ halved-at node.parent node.child.child (node.parent ∷ a ∷ p ∷ [])
          (child_links_turn_with s y r.upper (r.slot 0) (both_freezings r.upper r.middle r.lower) (a ∷ p ∷ []) good d.upper_guard d.upper_thawed node (out-two a p node.parent (not-node node) (not-parent node)) (f.writing.slots.within 0 (omega arith)) going stand swaps)
    ]

-- a split that asks for a swap has its nodes ready
swapping : (c : Config) (r : Fork) (phase : ForkPhase) (s : Scene) (entries : List Entry) → fork_facts r phase Waiting s → fork_asks c r phase ≡ Some (Swaps_for entries)
    → IsWritten (fork_plan r) s × (inner_swap c r.upper r.middle r.lower (r.slot 0) ≡ entries)
swapping c r (Writing Swap) s entries f e = (f.1, same-entries (inner_swap c r.upper r.middle r.lower (r.slot 0)) entries e)
swapping c r phase s entries f e = absurd (cc)

pub halves-inner : InnerSplitsKeepTheLeaves
halves-inner t entries s y l =
    let r : Fork = fork_of t in
    let f = swapping t.config r t.phase s entries l.knows l.asks in
    let is : inner_swap s.past.config r.upper r.middle r.lower (r.slot 0) ≡ entries = ap (λ (z : Config). inner_swap z r.upper r.middle r.lower (r.slot 0)) l.config ∙ f.1 in
    let stand : Stand (inner_swap s.past.config r.upper r.middle r.lower (r.slot 0)) (here s) = subst (λ z. Stand z (here s)) (sym is) l.stand in
    let d = halved r s y l.good f.0 stand (subst (λ z. SwapsTo s.past.config z (here s) y) (sym is) l.leads) in
    let high-up : 0 < (form_at s.past.config (here s)).level t.middle.slot = high r s y l.good f.0 stand in
    let above : 0 < (form_at s.past.config (here s)).level ((form_at s.past.config (here s)).up t.middle.slot) = above-is r s y l.good f.0 stand in
    let fresh : AreFresh s (r.slot 0 ∷ r.slot 1 ∷ r.slot 2 ∷ []) = three-fresh s (r.slot 0) (r.slot 1) (r.slot 2) (node-fresh r.slot r.image s f.0.plain f.0.writing 0 (omega arith)) (node-fresh r.slot r.image s f.0.plain f.0.writing 1 (omega arith)) (node-fresh r.slot r.image s f.0.plain f.0.writing 2 (omega arith)) in
    let grows = splits_keep_the_content s.past.config (image_of (here s).image) (image_of y.image) t.middle.slot (r.slot 0) (r.slot 1) (r.slot 2) f.0.ready.halves.cut f.0.ready.planned.sep (tree-now s l.good) d in
    record {
      same = (leaf_splits_add_one s.past.config (image_of (here s).image) (image_of y.image) t.middle.slot (r.slot 0) (r.slot 1) (r.slot 2) f.0.ready.halves.cut f.0.ready.planned.sep (tree-now s l.good) d).inner (high r s y l.good f.0 stand);
      back = none-back s y (t.middle.slot ∷ (form_at s.past.config (here s)).up t.middle.slot ∷ []) (r.slot 0 ∷ r.slot 1 ∷ r.slot 2 ∷ []) l.good grows fresh;
      stay = leaves-stay s y (t.middle.slot ∷ (form_at s.past.config (here s)).up t.middle.slot ∷ []) (r.slot 0 ∷ r.slot 1 ∷ r.slot 2 ∷ []) l.good grows fresh (λ k e. elim (two-cases t.middle.slot ((form_at s.past.config (here s)).up t.middle.slot) k e) [
        | inl p ↦ subst (λ (j : ℕ). 0 < (form_at s.past.config (here s)).level j) (sym p) high-up
        | inr p ↦ subst (λ (j : ℕ). 0 < (form_at s.past.config (here s)).level j) (sym p) above
      ]);
    }
