-- The swap of the split of an inner root puts a new root over its halves.
use Rattle.std.proofs.Common.{◌≡◌, ℕ, ◌+◌, ◌-◌, ◌<◌, List, [], ◌∷◌, Some, arith, refl, sym, ap, subst, ◌∙◌}
use Rattle.std.specs.Prelude.{None}
use Rattle.bz_ascent.specs.Ascents.{IsAscent}
use Rattle.bz_ascent.specs.declared.ascent.Ascent.{Ascent}
use Rattle.bz_layout.specs.declared.config.Config.{Config}
use Rattle.bz_layout.specs.declared.sizes.TheConstants.{ROOT_AT}
use Rattle.bz_layout.specs.declared.thresholds.TheConstants.{SPLIT_SLOTS}
use Rattle.bz_tree.specs.Slots.{Halves, AreTwo}
use Rattle.bz_slotted.specs.ReadingLaws.{node_of}
use Rattle.bz_slotted.specs.Readers.{level_of}
use Rattle.bz_slotted.specs.Rules.{node_fault}
use Rattle.bz_word.specs.declared.entry.Entry.{Entry}
use Rattle.bz_content.proofs.Reached.{level-at}
use Rattle.bz_content.specs.Content.{image_of}
use Rattle.bz_content.specs.Image.{Image, node, root}
use Rattle.bz_content.specs.Resolving.{resolve}
use Rattle.bz_content.specs.Restructures.{children_of, SplitsRoot}
use Rattle.bz_content.specs.Swaps.{TurnsLink}
use Rattle.bz_task.specs.Good.{IsGood}
use Rattle.bz_task.specs.Instant.{Instant, words, durable, form_at}
use Rattle.bz_task.specs.Laws.{SamePlace, HasRoot}
use Rattle.bz_task.specs.Scene.{Scene, Waiting, IsScene, here}
use Rattle.bz_task.specs.Swaps.{Stand, SwapsTo}
use Rattle.bz_task.specs.declared.todo.Todo.TheVariants.{Swap as Swaps_for}
use Rattle.bz_task.proofs.Proved.{roots_are_reached}
use Rattle.bz_parted.specs.Laws.{IsTallRoot}
use Rattle.bz_parted.proofs.Proved.{roots_stand_at_levels}
use Rattle.bz_renew.specs.Renewals.{link_entry, guard_entry}
use Rattle.bz_renew.specs.Standing.{StillLeads}
use Rattle.bz_renew.specs.Turning.{TurnsWith, AreGoing}
use Rattle.bz_renew.proofs.Freezings.{renewal-holds}
use Rattle.bz_renew.proofs.FreshSlots.{outside-tree}
use Rattle.bz_renew.proofs.TwoEntries.{both-stand}
use Rattle.bz_renew.proofs.Proved.{root_links_turn_with}
use Rattle.bz_tally.specs.FromSplit.BelowSplits.{parent_freezing, below_swap}
use Rattle.bz_ascent.specs.FromBranch.Nodes.{IsOpenLink}
use Rattle.bz_ascent.proofs.FromBranch.Standing.{node-below}
use Rattle.bz_undisturbed.specs.FromCrown.Duties.{asks_crown, facts_crown, crown_of}
use Rattle.bz_undisturbed.specs.FromCrown.Facts.{Crown, crown_plan, crown_asks, crown_facts}
use Rattle.bz_undisturbed.specs.FromCrown.CrownPhase.{CrownPhase}
use Rattle.bz_undisturbed.specs.FromCrown.CrownPhase.TheVariants.{Writing}
use Rattle.bz_writer.specs.Laws.{IsWritten}
use Rattle.bz_writer.specs.declared.phase.WritePhase.TheVariants.{Swap}
use Rattle.bz_undisturbed.specs.FromCrown.SplitInnerRoot.{SplitInnerRoot}
use Rattle.bz_stage.specs.Laws.{LeavesALevel}
use Rattle.bz_stage.specs.Stages.{root_level}
use Rattle.bz_stage.specs.Swaps.{IsCrowdedBelow, IsRoomyInner}
use Rattle.bz_stage.proofs.Proved.{root_splits_lower_the_stage, splits_leave_a_level}
use Rattle.bz_undisturbed.specs.Quiet.{IsQuietSince}
use Rattle.bz_undisturbed.specs.FromRunning.MadeFor.{HasComeTo, WasCrowded}
use Rattle.bz_undisturbed.proofs.Proved.{inner_root_splits_go_on, undisturbed_times_are_quiet}
use Rattle.bz_rounds.specs.Crowded.{IsRisen}
use Rattle.bz_rounds.specs.Falls.{Falls}
use Rattle.bz_rounds.specs.Laws.{UndisturbedRootSplitsLowerTheStage}
use Rattle.bz_rounds.specs.Left.{UndisturbedRootSplitsLeaveALevel}
use Rattle.bz_rounds.specs.Undisturbed.{IsUndisturbedSwap}
use Rattle.bz_rounds.proofs.Undisturbed.{good-now, tree-now, fits-now, same-entries}
use Rattle.bz_rounds.proofs.Made.{IsFew, left-few, right-few}
use Rattle.bz_rounds.proofs.Nodes.{SplitsTop}
use Rattle.bz_rounds.proofs.Parents.{node-leads, node-place, node-words, node-freezable}
use Rattle.bz_rounds.proofs.Rising.{ascents-are-crowded}
use Rattle.bz_tally.proofs.Splitting.{Holds, raw-after, after}
use Rattle.bz_tally.proofs.Stored.{node-held, node-fresh, are-three}

module _ (r : Crown) (s : Scene) (y : Instant) (good : IsScene s) (quiet : IsQuietSince s.past.since s.past) (f : IsWritten (crown_plan r) s) (stand : Stand (below_swap s.past.config r.upper r.lower (r.slot 0)) (here s)) where
  abbrev c : Config
  c = s.past.config

  abbrev a : ℕ
  a = r.upper.slot

  abbrev inside : IsOpenLink r.upper.slot r.lower s.past
  inside = f.ready.planned.links.node

  abbrev x : Image
  x = image_of (here s).image

  g : IsGood s.past.config (here s)
  g = good-now s good

  leads : StillLeads r.lower s inside.guard.guarded a inside.under.child.child
  leads = node-leads s good quiet a r.lower inside

  -- the root, as it was read
  place : SamePlace c (s.past.at f.ready.planned.links.guarded) (here s) a
  place = subst (λ m. SamePlace c (s.past.at m) (here s) a) f.ready.planned.links.is_guarded (node-place s good quiet a r.lower inside)

  own-now : durable c (here s) a ≡ node_of r.read
  own-now = node-words s good quiet a r.lower inside ∙ (ap (λ m. words c (s.past.at m) a) f.ready.planned.links.is_guarded ∙ f.ready.planned.node.were)

  led : (here s).value ROOT_AT ≡ a + 1
  led =
      ap (here s).value (sym f.ready.planned.links.under.pointer)
      ∙ (both-stand (link_entry r.upper (r.slot 0)) (guard_entry r.upper) (here s) (renewal-holds c r.upper (r.slot 0) (λ (e : Entry). (here s).value e.target ≡ e.expected) (parent_freezing r.upper r.lower ∷ []) stand)).0

  pub root-is : root (resolve (here s).image) ≡ r.upper.slot
  root-is = omega (arith, g.root, led)

  holds-all : HasRoot c (here s) a
  holds-all =
      let at : (here s).value ROOT_AT - 1 ≡ a = omega (arith, led) in
      subst (HasRoot c (here s)) at (roots_are_reached c (here s) g)

  level-now : (form_at c (here s)).level a ≡ f.ready.planned.node.level
  level-now = place.level ∙ f.ready.planned.node.level_is

  pub at-top : root_level s.past.config (image_of (here s).image) ≡ (form_at s.past.config (here s)).level r.upper.slot
  at-top = ap (λ k. level_of (durable c (here s) k)) root-is ∙ level-at c x a (fits-now s good) leads.inside (λ e. absurd (omega (arith, e, node-below s a r.lower good inside)))

  level : root_level c x ≡ f.ready.planned.node.level
  level = at-top ∙ level-now

  pub high : 0 < root_level s.past.config (image_of (here s).image)
  high = omega (arith, level, f.ready.planned.node.node.inner)

  no-low : None ≡ f.ready.planned.node.low
  no-low = sym holds-all.low ∙ (place.low ∙ f.ready.planned.node.low_is)

  no-high : None ≡ f.ready.planned.node.high
  no-high = sym holds-all.high ∙ (place.high ∙ f.ready.planned.node.high_is)

  made : IsTallRoot c.nodes (r.slot 1) (r.slot 2) f.ready.sep (f.ready.planned.node.level + 1)
  made = roots_stand_at_levels c.nodes (r.slot 1) (r.slot 2) (f.ready.planned.node.level + 1) f.ready.sep good.config.nodes_in_range.at_most (f.writing.slots.within 1 (omega arith)) (f.writing.slots.within 2 (omega arith)) f.ready.parts.separator (omega arith) f.ready.planned.low_enough

  stored : (n : ℕ) → n < SPLIT_SLOTS → Holds s (r.slot n) (node_of (r.image n))
  stored n h = record { fresh = node-fresh r.slot r.image s f.plain f.writing n h; has = node-held r.slot r.image s f.plain f.writing n h }

  going : AreGoing (parent_freezing r.upper r.lower ∷ []) (a ∷ []) s
  going = record { freezable = (node-freezable s good quiet a r.lower inside, (refl, tt)); go = λ k e. e }

  module _ (swaps : SwapsTo c (below_swap c r.upper r.lower (r.slot 0)) (here s) y) where
    abbrev z : Image
    z = image_of y.image

    t : TurnsWith r.upper (r.slot 0) (parent_freezing r.upper r.lower ∷ []) (a ∷ []) s y c.nodes 0 (a ∷ [])
    t = root_links_turn_with s y r.upper (r.slot 0) (parent_freezing r.upper r.lower ∷ []) (a ∷ []) good f.ready.planned.links.under (f.writing.slots.within 0 (omega arith)) going stand swaps

    has : (n : ℕ) → n < SPLIT_SLOTS → durable c y (r.slot n) ≡ node_of (r.image n)
    has n h = after s y good r.upper (parent_freezing r.upper r.lower ∷ []) (r.slot 0) (a ∷ []) c.nodes 0 (a ∷ []) t swaps (r.slot n) (node_of (r.image n)) (stored n h)

    has-raw : (n : ℕ) → n < SPLIT_SLOTS → node c y.image (r.slot n) ≡ node_of (r.image n)
    has-raw n h = raw-after s y good r.upper (parent_freezing r.upper r.lower ∷ []) (r.slot 0) (a ∷ []) c.nodes 0 (a ∷ []) t swaps (r.slot n) (node_of (r.image n)) (stored n h)

    halves : Halves (children_of (durable c (here s) a)) (children_of (durable c y (r.slot 1))) (children_of (durable c y (r.slot 2))) f.ready.parts.cut f.ready.sep
    halves = subst (λ n. Halves (children_of n) (children_of (durable c y (r.slot 1))) (children_of (durable c y (r.slot 2))) f.ready.parts.cut f.ready.sep) (sym own-now)
        (subst (λ n. Halves (children_of (node_of r.read)) (children_of n) (children_of (durable c y (r.slot 2))) f.ready.parts.cut f.ready.sep) (sym (has 1 (omega arith)))
        (subst (λ n. Halves (children_of (node_of r.read)) (children_of (node_of (r.image 1))) (children_of n) f.ready.parts.cut f.ready.sep) (sym (has 2 (omega arith))) f.ready.parts.halves))

    two : AreTwo (children_of (durable c y (r.slot 0))) (r.slot 1) (r.slot 2) f.ready.sep
    two = subst (λ n. AreTwo (children_of n) (r.slot 1) (r.slot 2) f.ready.sep) (sym (has 0 (omega arith) ∙ ap node_of f.ready.over)) made.two

    pub parts-root : SplitsRoot c (image_of (here s).image) (image_of y.image) (r.slot 0) (r.slot 1) (r.slot 2) f.ready.parts.cut f.ready.sep
    parts-root = record {
      fresh_q = outside-tree s (r.slot 0) good (stored 0 (omega arith)).fresh;
      fresh_l = outside-tree s (r.slot 1) good (stored 1 (omega arith)).fresh;
      fresh_r = outside-tree s (r.slot 2) good (stored 2 (omega arith)).fresh;
      three = are-three r.slot r.image s f.plain f.writing;
      link = subst (λ k. TurnsLink c x z c.nodes 0 (r.slot 0) (k ∷ [])) (sym root-is) t.turns;
      two = two;
      halves = λ deep. subst (λ k. Halves (children_of (durable c (here s) k)) (children_of (durable c y (r.slot 1))) (children_of (durable c y (r.slot 2))) f.ready.parts.cut f.ready.sep) (sym root-is) halves;
      says = λ flat. absurd (omega (arith, flat, high));
      whole_q = (λ e. node_fault c.nodes ((has-raw 0 (omega arith) ∙ ap node_of f.ready.over) e) ((has 0 (omega arith) ∙ ap node_of f.ready.over) e) (level e + 1) None None) ∙ made.none;
      whole_l = (λ e. node_fault c.nodes (has-raw 1 (omega arith) e) (has 1 (omega arith) e) (level e) (no-low e) (Some f.ready.sep)) ∙ f.ready.parts.left_whole;
      whole_r = (λ e. node_fault c.nodes (has-raw 2 (omega arith) e) (has 2 (omega arith) e) (level e) (Some f.ready.sep) (no-high e)) ∙ f.ready.parts.right_whole;
    }

    pub left-roomy : IsRoomyInner c (image_of y.image) (r.slot 1)
    left-roomy = subst IsFew (sym (has 1 (omega arith)))
        (left-few c.nodes r.read (r.image 1) (r.image 2) f.ready.sep f.ready.planned.node.level f.ready.planned.node.low f.ready.planned.node.high f.ready.planned.node.node f.ready.planned.many f.ready.parts)

    pub right-roomy : IsRoomyInner c (image_of y.image) (r.slot 2)
    right-roomy = subst IsFew (sym (has 2 (omega arith)))
        (right-few c.nodes r.read (r.image 1) (r.image 2) f.ready.sep f.ready.planned.node.level f.ready.planned.node.low f.ready.planned.node.high f.ready.planned.node.node f.ready.planned.many f.ready.parts)

-- a split that asks for a swap has its nodes ready
swapping : (c : Config) (r : Crown) (phase : CrownPhase) (s : Scene) (entries : List Entry) → crown_facts r phase Waiting s → crown_asks c r phase ≡ Some (Swaps_for entries)
    → IsWritten (crown_plan r) s × (below_swap c r.upper r.lower (r.slot 0) ≡ entries)
swapping c r (Writing Swap) s entries f e = (f.1, same-entries (below_swap c r.upper r.lower (r.slot 0)) entries e)
swapping c r phase s entries f e = absurd (cc)

-- the split of the root, to which an ascent has come
parts-top : (t : SplitInnerRoot) (a : Ascent) (key : List ℕ) (entries : List Entry) (s : Scene) (y : Instant) → IsUndisturbedSwap t.config (asks_crown t) (facts_crown t) entries s y → IsAscent a s.past → HasComeTo key t.upper.slot a s.past
    → SplitsTop s.past.config (image_of (here s).image) (image_of y.image) a.key ((form_at s.past.config (here s)).level a.node.slot)
parts-top t a key entries s y l up-to come =
    let r : Crown = crown_of t in
    let f = swapping t.config r t.phase s entries l.knows l.asks in
    let quiet : IsQuietSince s.past.since s.past = undisturbed_times_are_quiet.whole s l.good l.alone in
    let is : below_swap s.past.config r.upper r.lower (r.slot 0) ≡ entries = ap (λ (z : Config). below_swap z r.upper r.lower (r.slot 0)) l.config ∙ f.1 in
    let stand : Stand (below_swap s.past.config r.upper r.lower (r.slot 0)) (here s) = subst (λ z. Stand z (here s)) (sym is) ((inner_root_splits_go_on t s l.config l.good l.knows l.alone).stands entries l.asks) in
    let swaps : SwapsTo s.past.config (below_swap s.past.config r.upper r.lower (r.slot 0)) (here s) y = subst (λ z. SwapsTo s.past.config z (here s) y) (sym is) l.leads in
    let crowded : WasCrowded a.key come.view s.past = subst (λ k. WasCrowded k come.view s.past) (sym come.key_is) come.leaf in
    let up : IsRisen a s = ascents-are-crowded a come.view s l.good l.alone up-to crowded in
    let top : (form_at s.past.config (here s)).level a.node.slot ≡ root_level s.past.config (image_of (here s).image) = ap (form_at s.past.config (here s)).level come.node ∙ sym (at-top r s y l.good quiet f.0 stand) in
    record {
      at_level = top;
      tree = tree-now s l.good;
      some = high r s y l.good quiet f.0 stand;
      crowded = subst (λ n. IsCrowdedBelow s.past.config (image_of (here s).image) a.key n) top up.crowded;
      above = r.slot 0;
      left = r.slot 1;
      right = r.slot 2;
      cut = f.0.ready.parts.cut;
      separator = f.0.ready.sep;
      splits = parts-root r s y l.good quiet f.0 stand swaps;
      left_roomy = left-roomy r s y l.good quiet f.0 stand swaps;
      right_roomy = right-roomy r s y l.good quiet f.0 stand swaps;
    }

pub root-parts : UndisturbedRootSplitsLowerTheStage
root-parts t a key words entries s y l up-to come =
    let z : SplitsTop s.past.config (image_of (here s).image) (image_of y.image) a.key ((form_at s.past.config (here s)).level a.node.slot) = parts-top t a key entries s y l up-to come in
    subst (λ k. Falls s.past.config (here s) y k words) come.key_is
    (root_splits_lower_the_stage s.past.config (image_of (here s).image) (image_of y.image) a.key words z.above z.left z.right z.cut z.separator z.tree z.some z.crowded z.splits z.left_roomy z.right_roomy)

pub root-parts-leave : UndisturbedRootSplitsLeaveALevel
root-parts-leave t a key words entries s y l up-to come =
    let z : SplitsTop s.past.config (image_of (here s).image) (image_of y.image) a.key ((form_at s.past.config (here s)).level a.node.slot) = parts-top t a key entries s y l up-to come in
    subst (λ k. LeavesALevel s.past.config (image_of y.image) k words ((form_at s.past.config (here s)).level a.node.slot)) come.key_is
    (subst (λ n. LeavesALevel s.past.config (image_of y.image) a.key words n) (sym z.at_level)
    (splits_leave_a_level.root s.past.config (image_of (here s).image) (image_of y.image) a.key words z.above z.left z.right z.cut z.separator z.tree z.some z.crowded z.splits z.left_roomy z.right_roomy))
