-- The swap of the split of an inner node puts its halves in its place below a new parent.
use Rattle.std.proofs.Common.{◌≡◌, ◌≢◌, ℕ, ◌<◌, List, [], ◌∷◌, Some, arith, refl, sym, ap, subst, ◌∙◌, inl, inr}
use Rattle.bz_ascent.specs.Ascents.{IsAscent}
use Rattle.bz_ascent.specs.declared.ascent.Ascent.{Ascent}
use Rattle.bz_layout.specs.declared.config.Config.{Config}
use Rattle.bz_layout.specs.declared.thresholds.TheConstants.{SPLIT_SLOTS}
use Rattle.bz_node.specs.Reading.{children_in}
use Rattle.bz_tree.specs.Slots.{Wider, Halves}
use Rattle.bz_slotted.specs.ReadingLaws.{node_of}
use Rattle.bz_slotted.specs.Rules.{node_fault}
use Rattle.bz_word.specs.declared.entry.Entry.{Entry}
use Rattle.bz_content.specs.Content.{image_of, view_in}
use Rattle.bz_content.specs.Restructures.{children_of, Splits}
use Rattle.bz_task.specs.Instant.{Instant, words, durable, form_at}
use Rattle.bz_task.specs.Laws.{SamePlace}
use Rattle.bz_task.specs.Scene.{Scene, Waiting, IsScene, here}
use Rattle.bz_task.specs.Swaps.{Stand, SwapsTo}
use Rattle.bz_task.specs.declared.todo.Todo.TheVariants.{Swap as Swaps_for}
use Rattle.bz_halves.specs.Parents.{HasRoomToPart, IsPartedParent}
use Rattle.bz_halves.proofs.Proved.{parents_of_halves_are_whole}
use Rattle.bz_renew.specs.Standing.{StillLeads}
use Rattle.bz_renew.specs.Turning.{TurnsWith, AreGoing}
use Rattle.bz_renew.proofs.Proved.{child_links_turn_with, root_links_turn_with}
use Rattle.bz_tally.specs.FromSplit.BelowSplits.{AreLinksDown}
use Rattle.bz_ascent.specs.FromBranch.InnerSplits.{both_freezings, inner_swap}
use Rattle.bz_ascent.specs.FromBranch.Nodes.{IsOpenLink}
use Rattle.bz_ascent.proofs.FromBranch.Standing.{node-below}
use Rattle.bz_undisturbed.specs.FromFork.Duties.{asks_fork, facts_fork, fork_of}
use Rattle.bz_undisturbed.specs.FromFork.Facts.{Fork, fork_plan, fork_asks, fork_facts, parent_words}
use Rattle.bz_undisturbed.specs.FromFork.ForkPhase.{ForkPhase}
use Rattle.bz_undisturbed.specs.FromFork.ForkPhase.TheVariants.{Writing}
use Rattle.bz_writer.specs.Laws.{IsWritten}
use Rattle.bz_writer.specs.declared.phase.WritePhase.TheVariants.{Swap}
use Rattle.bz_undisturbed.specs.FromFork.SplitInner.{SplitInner}
use Rattle.bz_stage.specs.Laws.{LeavesALevel}
use Rattle.bz_stage.specs.Paths.{on_path}
use Rattle.bz_stage.specs.Swaps.{IsRoomyInner}
use Rattle.bz_stage.proofs.Proved.{inner_splits_lower_the_stage, paths_are_of_keys, splits_leave_a_level}
use Rattle.bz_undisturbed.specs.Quiet.{IsQuietSince}
use Rattle.bz_undisturbed.specs.FromRunning.MadeFor.{HasComeTo, WasCrowded}
use Rattle.bz_undisturbed.proofs.Proved.{inner_splits_go_on, undisturbed_times_are_quiet}
use Rattle.bz_rounds.specs.Crowded.{IsRisen}
use Rattle.bz_rounds.specs.Falls.{Falls}
use Rattle.bz_rounds.specs.Laws.{UndisturbedInnerSplitsLowerTheStage}
use Rattle.bz_rounds.specs.Left.{UndisturbedInnerSplitsLeaveALevel}
use Rattle.bz_rounds.specs.Undisturbed.{IsUndisturbedSwap}
use Rattle.bz_rounds.proofs.Undisturbed.{tree-now, fits-now, same-entries}
use Rattle.bz_rounds.proofs.Made.{IsFew, left-few, right-few}
use Rattle.bz_rounds.proofs.Nodes.{SplitsNode}
use Rattle.bz_rounds.proofs.Parents.{node-leads, node-place, node-words, node-freezable, not-above}
use Rattle.bz_rounds.proofs.Rising.{ascents-are-crowded}
use Rattle.bz_tally.proofs.Links.{in-parent, out-one, out-two}
use Rattle.bz_tally.proofs.Splitting.{Holds, IsReady, after, splits}
use Rattle.bz_tally.proofs.Stored.{node-held, node-fresh, are-three}

module _ (r : Fork) (s : Scene) (y : Instant) (good : IsScene s) (quiet : IsQuietSince s.past.since s.past) (f : IsWritten (fork_plan r) s) where
  abbrev c : Config
  c = s.past.config

  abbrev p : ℕ
  p = r.upper.slot

  abbrev a : ℕ
  a = r.middle.slot

  abbrev d : AreLinksDown r.upper r.middle s.past
  d = f.ready.planned.links.down

  abbrev above : IsOpenLink r.upper.slot r.middle s.past
  above = in-parent s r.upper r.middle f.ready.planned.links.down

  abbrev inside : IsOpenLink r.middle.slot r.lower s.past
  inside = f.ready.planned.links.node

  leads : StillLeads r.middle s d.guard.guarded p d.under.child.child
  leads = node-leads s good quiet p r.middle above

  -- the parent, and the node, as they were read
  parent-place : SamePlace c (s.past.at f.ready.planned.links.guarded) (here s) p
  parent-place = subst (λ m. SamePlace c (s.past.at m) (here s) p) f.ready.planned.links.is_guarded (node-place s good quiet p r.middle above)

  parent-now : durable c (here s) p ≡ node_of r.above
  parent-now = node-words s good quiet p r.middle above ∙ (ap (λ m. words c (s.past.at m) p) f.ready.planned.links.is_guarded ∙ f.ready.planned.parent.were)

  own-place : SamePlace c (s.past.at f.ready.planned.links.counted) (here s) a
  own-place = subst (λ m. SamePlace c (s.past.at m) (here s) a) f.ready.planned.links.is_counted (node-place s good quiet a r.lower inside)

  own-now : durable c (here s) a ≡ node_of r.read
  own-now = node-words s good quiet a r.lower inside ∙ (ap (λ m. words c (s.past.at m) a) f.ready.planned.links.is_counted ∙ f.ready.planned.node.were)

  level : (form_at c (here s)).level a ≡ f.ready.planned.node.level
  level = own-place.level ∙ f.ready.planned.node.level_is

  pub high : 0 < (form_at c (here s)).level r.middle.slot
  high = omega (arith, level, f.ready.planned.node.node.inner)

  room : HasRoomToPart c.nodes (children_in r.above) f.ready.planned.parent.level (r.slot 1) (r.slot 2) f.ready.planned.sep
  room = record {
    few = f.ready.planned.parent.parent.few;
    slots = f.ready.planned.parent.parent.partable.slots;
    left_slot = f.writing.slots.within 1 (omega arith);
    right_slot = f.writing.slots.within 2 (omega arith);
    inner = f.ready.planned.parent.parent.inner;
    few_levels = f.ready.planned.parent.parent.lowest;
    room = f.ready.planned.room;
  }

  made : IsPartedParent c.nodes (node_of r.above) (children_in r.above) f.ready.planned.parent.low f.ready.planned.parent.high f.ready.planned.parent.level f.ready.planned.links.child (r.slot 1) (r.slot 2) f.ready.planned.sep
  made = parents_of_halves_are_whole c.nodes (node_of r.above) (children_in r.above) f.ready.planned.parent.low f.ready.planned.parent.high f.ready.planned.parent.level f.ready.planned.links.child (r.slot 1) (r.slot 2) f.ready.planned.sep f.ready.planned.parent.parent.partable.may room f.ready.planned.parent.parent.partable.has

  wider : Wider (children_of (durable c (here s) p)) (children_of (node_of (r.image 0))) d.under.child.child (r.slot 1) (r.slot 2) f.ready.planned.sep
  wider = subst (λ n. Wider (children_of n) (children_of (node_of (r.image 0))) d.under.child.child (r.slot 1) (r.slot 2) f.ready.planned.sep) (sym parent-now)
      (subst (λ w. Wider (children_of (node_of r.above)) (children_of (node_of w)) d.under.child.child (r.slot 1) (r.slot 2) f.ready.planned.sep) (sym f.ready.over)
      (subst (λ i. Wider (children_of (node_of r.above)) (children_of (node_of (parent_words r f.ready.planned.sep f.ready.planned.links.child f.ready.planned.parent.level f.ready.planned.parent.low f.ready.planned.parent.high))) i (r.slot 1) (r.slot 2) f.ready.planned.sep)
      (sym f.ready.planned.links.is_child) made.wider))

  halves : Halves (children_of (durable c (here s) a)) (children_of (node_of (r.image 1))) (children_of (node_of (r.image 2))) f.ready.halves.cut f.ready.planned.sep
  halves = subst (λ n. Halves (children_of n) (children_of (node_of (r.image 1))) (children_of (node_of (r.image 2))) f.ready.halves.cut f.ready.planned.sep) (sym own-now) f.ready.halves.halves

  stored : (n : ℕ) → n < SPLIT_SLOTS → Holds s (r.slot n) (node_of (r.image n))
  stored n h = record { fresh = node-fresh r.slot r.image s f.plain f.writing n h; has = node-held r.slot r.image s f.plain f.writing n h }

  ready : IsReady s p a d.under.child.child (r.slot 0) (r.slot 1) (r.slot 2) f.ready.halves.cut f.ready.planned.sep (node_of (r.image 0)) (node_of (r.image 1)) (node_of (r.image 2))
  ready = record {
    stands = leads.stands;
    parent = node-below s p r.middle good above;
    node = node-below s a r.lower good inside;
    three = are-three r.slot r.image s f.plain f.writing;
    above = stored 0 (omega arith);
    left = stored 1 (omega arith);
    right = stored 2 (omega arith);
    whole = (λ e. node_fault c.nodes (node_of (f.ready.over e)) (node_of (f.ready.over e)) ((parent-place.level ∙ f.ready.planned.parent.level_is) e) ((parent-place.low ∙ f.ready.planned.parent.low_is) e) ((parent-place.high ∙ f.ready.planned.parent.high_is) e)) ∙ made.inner.none;
    left_whole = (λ e. node_fault c.nodes (node_of (r.image 1)) (node_of (r.image 1)) (level e) ((own-place.low ∙ f.ready.planned.node.low_is) e) (Some f.ready.planned.sep)) ∙ f.ready.halves.left_whole;
    right_whole = (λ e. node_fault c.nodes (node_of (r.image 2)) (node_of (r.image 2)) (level e) (Some f.ready.planned.sep) ((own-place.high ∙ f.ready.planned.node.high_is) e)) ∙ f.ready.halves.right_whole;
    wider = wider;
    halves = λ deep. halves;
    before = λ flat key e. absurd (omega (arith, flat, high));
    from = λ flat key e. absurd (omega (arith, flat, high));
  }

  apart : p ≢ a
  apart e = absurd (omega (arith, ap (form_at c (here s)).level e, leads.stands.level))

  going : AreGoing (both_freezings r.upper r.middle r.lower) (a ∷ p ∷ []) s
  going = record {
    freezable = (node-freezable s good quiet a r.lower inside, (out-one p a apart, (node-freezable s good quiet p r.middle above, (refl, tt))));
    go = λ k e. e;
  }

  abbrev pub IsHalved : Type 0
  IsHalved = Splits c (image_of (here s).image) (image_of y.image) r.middle.slot (r.slot 0) (r.slot 1) (r.slot 2) f.ready.halves.cut f.ready.planned.sep × (IsRoomyInner c (image_of y.image) (r.slot 1) × IsRoomyInner c (image_of y.image) (r.slot 2))

  module _ (swaps : SwapsTo c (inner_swap c r.upper r.middle r.lower (r.slot 0)) (here s) y) where
    halved-at : (top j : ℕ) (changed : List ℕ) → TurnsWith r.upper (r.slot 0) (both_freezings r.upper r.middle r.lower) (a ∷ p ∷ []) s y top j changed → IsHalved
    halved-at top j changed t = (
      splits s y good r.upper (both_freezings r.upper r.middle r.lower) (r.slot 0) (a ∷ p ∷ []) top j changed t swaps a d.under.child.child (r.slot 1) (r.slot 2) f.ready.halves.cut f.ready.planned.sep (node_of (r.image 0)) (node_of (r.image 1)) (node_of (r.image 2)) ready refl,
      (
        subst IsFew (sym (after s y good r.upper (both_freezings r.upper r.middle r.lower) (r.slot 0) (a ∷ p ∷ []) top j changed t swaps (r.slot 1) (node_of (r.image 1)) (stored 1 (omega arith))))
            (left-few c.nodes r.read (r.image 1) (r.image 2) f.ready.planned.sep f.ready.planned.node.level f.ready.planned.node.low f.ready.planned.node.high f.ready.planned.node.node f.ready.planned.many f.ready.halves),
        subst IsFew (sym (after s y good r.upper (both_freezings r.upper r.middle r.lower) (r.slot 0) (a ∷ p ∷ []) top j changed t swaps (r.slot 2) (node_of (r.image 2)) (stored 2 (omega arith))))
            (right-few c.nodes r.read (r.image 1) (r.image 2) f.ready.planned.sep f.ready.planned.node.level f.ready.planned.node.low f.ready.planned.node.high f.ready.planned.node.node f.ready.planned.many f.ready.halves),
      ),
    )

    -- where the upper link stands
    pub halved : Stand (inner_swap c r.upper r.middle r.lower (r.slot 0)) (here s) → IsHalved
    halved stand = elim d.upper_guard.under [
      | inl root ↦ halved-at c.nodes 0 (a ∷ p ∷ []) (root_links_turn_with s y r.upper (r.slot 0) (both_freezings r.upper r.middle r.lower) (a ∷ p ∷ []) good root (f.writing.slots.within 0 (omega arith)) going stand swaps)
      | inr node ↦ halved-at node.parent node.child.child (node.parent ∷ a ∷ p ∷ [])
          (child_links_turn_with s y r.upper (r.slot 0) (both_freezings r.upper r.middle r.lower) (a ∷ p ∷ []) good d.upper_guard d.upper_thawed node
          (out-two a p node.parent (λ e. absurd (omega (arith, ap (form_at c (here s)).level e, not-above s good quiet r.upper r.middle d node, leads.stands.level)))
          (λ e. absurd (omega (arith, ap (form_at c (here s)).level e, not-above s good quiet r.upper r.middle d node))))
          (f.writing.slots.within 0 (omega arith)) going stand swaps)
    ]

-- a split that asks for a swap has its nodes ready
swapping : (c : Config) (r : Fork) (phase : ForkPhase) (s : Scene) (entries : List Entry) → fork_facts r phase Waiting s → fork_asks c r phase ≡ Some (Swaps_for entries)
    → IsWritten (fork_plan r) s × (inner_swap c r.upper r.middle r.lower (r.slot 0) ≡ entries)
swapping c r (Writing Swap) s entries f e = (f.1, same-entries (inner_swap c r.upper r.middle r.lower (r.slot 0)) entries e)
swapping c r phase s entries f e = absurd (cc)

-- the split of the node to which an ascent has come
halves-node : (t : SplitInner) (a : Ascent) (key : List ℕ) (entries : List Entry) (s : Scene) (y : Instant) → IsUndisturbedSwap t.config (asks_fork t) (facts_fork t) entries s y → IsAscent a s.past → HasComeTo key t.middle.slot a s.past
    → SplitsNode s.past.config (image_of (here s).image) (image_of y.image) a.key ((form_at s.past.config (here s)).level a.node.slot)
halves-node t a key entries s y l up-to come =
    let r : Fork = fork_of t in
    let f = swapping t.config r t.phase s entries l.knows l.asks in
    let quiet : IsQuietSince s.past.since s.past = undisturbed_times_are_quiet.whole s l.good l.alone in
    let is : inner_swap s.past.config r.upper r.middle r.lower (r.slot 0) ≡ entries = ap (λ (z : Config). inner_swap z r.upper r.middle r.lower (r.slot 0)) l.config ∙ f.1 in
    let stand : Stand entries (here s) = (inner_splits_go_on t s l.config l.good l.knows l.alone).stands entries l.asks in
    let crowded : WasCrowded a.key come.view s.past = subst (λ k. WasCrowded k come.view s.past) (sym come.key_is) come.leaf in
    let up : IsRisen a s = ascents-are-crowded a come.view s l.good l.alone up-to crowded in
    let n : ℕ = (form_at s.past.config (here s)).level a.node.slot in
    let below : a.node.slot ≢ s.past.config.nodes = λ e. absurd (omega (arith, e, come.node, node-below s t.middle.slot t.lower l.good f.0.ready.planned.links.node)) in
    let within : n < (view_in s.past.config (here s).image).height = ((fits-now s l.good).hangs a.node.slot up.stands.inside below).lower in
    let on : on_path (view_in s.past.config (here s).image) a.key n ≡ t.middle.slot = (paths_are_of_keys (view_in s.past.config (here s).image) a.key n a.node.slot (tree-now s l.good) (omega (arith, within))).0 up.stands ∙ come.node in
    let d = halved r s y l.good quiet f.0 (subst (λ z. SwapsTo s.past.config z (here s) y) (sym is) l.leads) (subst (λ z. Stand z (here s)) (sym is) stand) in
    record {
      tree = tree-now s l.good;
      some = subst (λ k. 0 < (form_at s.past.config (here s)).level k) (sym come.node) (high r s y l.good quiet f.0);
      crowded = up.crowded;
      above = r.slot 0;
      left = r.slot 1;
      right = r.slot 2;
      cut = f.0.ready.halves.cut;
      separator = f.0.ready.planned.sep;
      splits = subst (λ (k : ℕ). Splits s.past.config (image_of (here s).image) (image_of y.image) k (r.slot 0) (r.slot 1) (r.slot 2) f.0.ready.halves.cut f.0.ready.planned.sep) (sym on) d.0;
      left_roomy = d.1.0;
      right_roomy = d.1.1;
    }

pub inner-halves : UndisturbedInnerSplitsLowerTheStage
inner-halves t a key words entries s y l up-to come =
    let z : SplitsNode s.past.config (image_of (here s).image) (image_of y.image) a.key ((form_at s.past.config (here s)).level a.node.slot) = halves-node t a key entries s y l up-to come in
    subst (λ k. Falls s.past.config (here s) y k words) come.key_is
    (inner_splits_lower_the_stage s.past.config (image_of (here s).image) (image_of y.image) a.key words ((form_at s.past.config (here s)).level a.node.slot) z.above z.left z.right z.cut z.separator z.tree z.some z.crowded z.splits z.left_roomy z.right_roomy)

pub inner-halves-leave : UndisturbedInnerSplitsLeaveALevel
inner-halves-leave t a key words entries s y l up-to come =
    let z : SplitsNode s.past.config (image_of (here s).image) (image_of y.image) a.key ((form_at s.past.config (here s)).level a.node.slot) = halves-node t a key entries s y l up-to come in
    subst (λ k. LeavesALevel s.past.config (image_of y.image) k words ((form_at s.past.config (here s)).level a.node.slot)) come.key_is
    (splits_leave_a_level.inner s.past.config (image_of (here s).image) (image_of y.image) a.key words ((form_at s.past.config (here s)).level a.node.slot) z.above z.left z.right z.cut z.separator z.tree z.some z.crowded z.splits z.left_roomy z.right_roomy)
