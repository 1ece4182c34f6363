-- The swap of the split of an inner root puts a new root over its halves.
use Rattle.std.proofs.Common.{◌≡◌, ℕ, ◌+◌, ◌-◌, ◌<◌, List, [], ◌∷◌, Some, arith, refl, sym, ap, subst, ◌∙◌}
use Rattle.std.specs.Prelude.{None}
use Rattle.bz_branch.specs.Nodes.{IsOpenLink}
use Rattle.bz_branch.proofs.Standing.{node-below}
use Rattle.bz_any_task.specs.FromCrown.Duties.{crown_of}
use Rattle.bz_any_task.specs.FromCrown.Facts.{Crown, crown_plan, crown_asks, crown_facts}
use Rattle.bz_any_task.specs.FromCrown.CrownPhase.{CrownPhase}
use Rattle.bz_any_task.specs.FromCrown.CrownPhase.TheVariants.{Writing}
use Rattle.bz_writer.specs.Laws.{IsWritten}
use Rattle.bz_writer.specs.declared.phase.WritePhase.TheVariants.{Swap}
use Rattle.bz_layout.specs.Addresses.{node_address}
use Rattle.bz_layout.specs.declared.config.Config.{Config}
use Rattle.bz_layout.specs.declared.sizes.TheConstants.{ROOT_AT, STATUS_AT}
use Rattle.bz_layout.specs.declared.thresholds.TheConstants.{SPLIT_SLOTS}
use Rattle.bz_parted.specs.Laws.{IsTallRoot}
use Rattle.bz_parted.proofs.Proved.{roots_stand_at_levels}
use Rattle.bz_renew.specs.Freezings.{freezing_entry}
use Rattle.bz_renew.specs.Renewals.{renewal, link_entry, guard_entry}
use Rattle.bz_renew.specs.Standing.{StillLeads}
use Rattle.bz_renew.specs.Turning.{TurnsWith, AreGoing}
use Rattle.bz_renew.proofs.Freezings.{renewal-holds}
use Rattle.bz_renew.proofs.FreshSlots.{outside-tree}
use Rattle.bz_renew.proofs.Inserting.{all-inserted-first}
use Rattle.bz_renew.proofs.TwoEntries.{both-stand}
use Rattle.bz_renew.proofs.Proved.{root_links_turn_with}
use Rattle.bz_tree.proofs.TreeForms.{fits}
use Rattle.bz_tree.specs.Slots.{Halves, AreTwo}
use Rattle.bz_slotted.specs.ReadingLaws.{node_of}
use Rattle.bz_slotted.specs.Readers.{level_of}
use Rattle.bz_slotted.specs.Rules.{node_fault}
use Rattle.bz_split.specs.BelowSplits.{parent_freezing, below_swap}
use Rattle.bz_word.specs.declared.entry.Entry.{Entry}
use Rattle.bz_content.proofs.Reached.{level-at}
use Rattle.bz_content.specs.Content.{image_of, view_in}
use Rattle.bz_content.specs.Image.{Image, node, root}
use Rattle.bz_content.specs.Resolving.{resolve}
use Rattle.bz_content.specs.Restructures.{children_of, SplitsRoot}
use Rattle.bz_content.specs.Swaps.{TurnsLink}
use Rattle.bz_content.proofs.Proved.{root_splits_keep_the_content}
use Rattle.bz_task.specs.Good.{IsGood}
use Rattle.bz_task.specs.Instant.{Instant, words, durable, form_at}
use Rattle.bz_task.specs.Laws.{SamePlace, HasRoot}
use Rattle.bz_task.specs.Scene.{Scene, Waiting, IsScene, here}
use Rattle.bz_task.specs.Swaps.{Stand, SwapsTo}
use Rattle.bz_task.specs.declared.todo.Todo.TheVariants.{Swap as Swaps_for}
use Rattle.bz_task.proofs.Proved.{roots_are_reached}
use Rattle.bz_leaves.proofs.Consolidations.{only-one}
use Rattle.bz_leaves.proofs.Proved.{root_leaf_splits_add_one}
use Rattle.bz_tally.proofs.Backs.{AreFresh, leaves-stay, none-back, three-fresh}
use Rattle.bz_tally.proofs.Changes.{same-entries}
use Rattle.bz_tally.proofs.Links.{node-freezable, node-leads, node-place, node-words, tree-now}
use Rattle.bz_tally.proofs.Splitting.{Holds, raw-after, after}
use Rattle.bz_tally.proofs.Stored.{node-held, node-fresh, are-three}
use Rattle.bz_tally.specs.Laws.{InnerRootSplitsKeepTheLeaves}

module _ (r : Crown) (s : Scene) (y : Instant) (good : IsScene s) (f : IsWritten (crown_plan r) s) (stand : Stand (below_swap s.past.config r.upper r.lower (r.slot 0)) (here s)) where
  abbrev c : Config
  c = s.past.config

  abbrev a : ℕ
  a = r.upper.slot

  abbrev inside : IsOpenLink r.upper.slot r.lower s.past
  inside = f.ready.planned.links.node

  abbrev x : Image
  x = image_of (here s).image

  g : IsGood s.past.config (here s)
  g = good.history.good s.past.now good.begun (omega arith)

  -- the root's status is as it was read
  node-status : (here s).value (node_address c a + STATUS_AT) ≡ r.lower.status
  node-status = all-inserted-first (λ (e : Entry). (here s).value e.target ≡ e.expected) (freezing_entry c (parent_freezing r.upper r.lower)) (renewal r.upper (r.slot 0)) stand

  leads : StillLeads r.lower s inside.guard.guarded a inside.under.child.child
  leads = node-leads s a r.lower good inside node-status

  -- the root, as it was read
  place : SamePlace c (s.past.at f.ready.planned.links.guarded) (here s) a
  place = subst (λ m. SamePlace c (s.past.at m) (here s) a) f.ready.planned.links.is_guarded (node-place s a r.lower good inside node-status)

  own-now : durable c (here s) a ≡ node_of r.read
  own-now = node-words s a r.lower good inside node-status ∙ (ap (λ m. words c (s.past.at m) a) f.ready.planned.links.is_guarded ∙ f.ready.planned.node.were)

  led : (here s).value ROOT_AT ≡ a + 1
  led =
      ap (here s).value (sym f.ready.planned.links.under.pointer)
      ∙ (both-stand (link_entry r.upper (r.slot 0)) (guard_entry r.upper) (here s) (renewal-holds c r.upper (r.slot 0) (λ (e : Entry). (here s).value e.target ≡ e.expected) (parent_freezing r.upper r.lower ∷ []) stand)).0

  pub root-is : root (resolve (here s).image) ≡ r.upper.slot
  root-is = omega (arith, g.root, led)

  holds-all : HasRoot c (here s) a
  holds-all =
      let at : (here s).value ROOT_AT - 1 ≡ a = omega (arith, led) in
      subst (HasRoot c (here s)) at (roots_are_reached c (here s) g)

  level-now : (form_at c (here s)).level a ≡ f.ready.planned.node.level
  level-now = place.level ∙ f.ready.planned.node.level_is

  pub at-top : level_of (durable s.past.config (here s) (root (resolve (here s).image))) ≡ (form_at s.past.config (here s)).level r.upper.slot
  at-top = ap (λ k. level_of (durable c (here s) k)) root-is ∙ level-at c x a (fits (view_in c (here s).image) (tree-now s good)) leads.inside (λ e. absurd (omega (arith, e, node-below s a r.lower good inside)))

  level : level_of (durable c (here s) (root (resolve (here s).image))) ≡ f.ready.planned.node.level
  level = at-top ∙ level-now

  pub high : 0 < level_of (durable s.past.config (here s) (root (resolve (here s).image)))
  high = omega (arith, level, f.ready.planned.node.node.inner)

  pub root-high : 0 < (form_at s.past.config (here s)).level (root (resolve (here s).image))
  root-high = subst (λ (j : ℕ). 0 < (form_at c (here s)).level j) (sym root-is) (omega (arith, level-now, f.ready.planned.node.node.inner))

  no-low : None ≡ f.ready.planned.node.low
  no-low = sym holds-all.low ∙ (place.low ∙ f.ready.planned.node.low_is)

  no-high : None ≡ f.ready.planned.node.high
  no-high = sym holds-all.high ∙ (place.high ∙ f.ready.planned.node.high_is)

  made : IsTallRoot c.nodes (r.slot 1) (r.slot 2) f.ready.sep (f.ready.planned.node.level + 1)
  made = roots_stand_at_levels c.nodes (r.slot 1) (r.slot 2) (f.ready.planned.node.level + 1) f.ready.sep good.config.nodes_in_range.at_most (f.writing.slots.within 1 (omega arith)) (f.writing.slots.within 2 (omega arith)) f.ready.parts.separator (omega arith) f.ready.planned.low_enough

  stored : (n : ℕ) → n < SPLIT_SLOTS → Holds s (r.slot n) (node_of (r.image n))
  stored n h = record { fresh = node-fresh r.slot r.image s f.plain f.writing n h; has = node-held r.slot r.image s f.plain f.writing n h }

  going : AreGoing (parent_freezing r.upper r.lower ∷ []) (a ∷ []) s
  going = record { freezable = (node-freezable s a r.lower good inside node-status, (refl, tt)); go = λ k e. e }

  module _ (swaps : SwapsTo c (below_swap c r.upper r.lower (r.slot 0)) (here s) y) where
    abbrev z : Image
    z = image_of y.image

    t : TurnsWith r.upper (r.slot 0) (parent_freezing r.upper r.lower ∷ []) (a ∷ []) s y c.nodes 0 (a ∷ [])
    t = root_links_turn_with s y r.upper (r.slot 0) (parent_freezing r.upper r.lower ∷ []) (a ∷ []) good f.ready.planned.links.under (f.writing.slots.within 0 (omega arith)) going stand swaps

    has : (n : ℕ) → n < SPLIT_SLOTS → durable c y (r.slot n) ≡ node_of (r.image n)
    has n h = after s y good r.upper (parent_freezing r.upper r.lower ∷ []) (r.slot 0) (a ∷ []) c.nodes 0 (a ∷ []) t swaps (r.slot n) (node_of (r.image n)) (stored n h)

    has-raw : (n : ℕ) → n < SPLIT_SLOTS → node c y.image (r.slot n) ≡ node_of (r.image n)
    has-raw n h = raw-after s y good r.upper (parent_freezing r.upper r.lower ∷ []) (r.slot 0) (a ∷ []) c.nodes 0 (a ∷ []) t swaps (r.slot n) (node_of (r.image n)) (stored n h)

    halves : Halves (children_of (durable c (here s) a)) (children_of (durable c y (r.slot 1))) (children_of (durable c y (r.slot 2))) f.ready.parts.cut f.ready.sep
    halves = subst (λ n. Halves (children_of n) (children_of (durable c y (r.slot 1))) (children_of (durable c y (r.slot 2))) f.ready.parts.cut f.ready.sep) (sym own-now)
        (subst (λ n. Halves (children_of (node_of r.read)) (children_of n) (children_of (durable c y (r.slot 2))) f.ready.parts.cut f.ready.sep) (sym (has 1 (omega arith)))
        (subst (λ n. Halves (children_of (node_of r.read)) (children_of (node_of (r.image 1))) (children_of n) f.ready.parts.cut f.ready.sep) (sym (has 2 (omega arith))) f.ready.parts.halves))

    two : AreTwo (children_of (durable c y (r.slot 0))) (r.slot 1) (r.slot 2) f.ready.sep
    two = subst (λ n. AreTwo (children_of n) (r.slot 1) (r.slot 2) f.ready.sep) (sym (has 0 (omega arith) ∙ ap node_of f.ready.over)) made.two

    pub parts-root : SplitsRoot c (image_of (here s).image) (image_of y.image) (r.slot 0) (r.slot 1) (r.slot 2) f.ready.parts.cut f.ready.sep
    parts-root = record {
      fresh_q = outside-tree s (r.slot 0) good (stored 0 (omega arith)).fresh;
      fresh_l = outside-tree s (r.slot 1) good (stored 1 (omega arith)).fresh;
      fresh_r = outside-tree s (r.slot 2) good (stored 2 (omega arith)).fresh;
      three = are-three r.slot r.image s f.plain f.writing;
      link = subst (λ k. TurnsLink c x z c.nodes 0 (r.slot 0) (k ∷ [])) (sym root-is) t.turns;
      two = two;
      halves = λ deep. subst (λ k. Halves (children_of (durable c (here s) k)) (children_of (durable c y (r.slot 1))) (children_of (durable c y (r.slot 2))) f.ready.parts.cut f.ready.sep) (sym root-is) halves;
      says = λ flat. absurd (omega (arith, flat, high));
      whole_q = (λ e. node_fault c.nodes ((has-raw 0 (omega arith) ∙ ap node_of f.ready.over) e) ((has 0 (omega arith) ∙ ap node_of f.ready.over) e) (level e + 1) None None) ∙ made.none;
      whole_l = (λ e. node_fault c.nodes (has-raw 1 (omega arith) e) (has 1 (omega arith) e) (level e) (no-low e) (Some f.ready.sep)) ∙ f.ready.parts.left_whole;
      whole_r = (λ e. node_fault c.nodes (has-raw 2 (omega arith) e) (has 2 (omega arith) e) (level e) (Some f.ready.sep) (no-high e)) ∙ f.ready.parts.right_whole;
    }

-- a split that asks for a swap has its nodes ready
swapping : (c : Config) (r : Crown) (phase : CrownPhase) (s : Scene) (entries : List Entry) → crown_facts r phase Waiting s → crown_asks c r phase ≡ Some (Swaps_for entries)
    → IsWritten (crown_plan r) s × (below_swap c r.upper r.lower (r.slot 0) ≡ entries)
swapping c r (Writing Swap) s entries f e = (f.1, same-entries (below_swap c r.upper r.lower (r.slot 0)) entries e)
swapping c r phase s entries f e = absurd (cc)

pub root-parts : InnerRootSplitsKeepTheLeaves
root-parts t entries s y l =
    let r : Crown = crown_of t in
    let f = swapping t.config r t.phase s entries l.knows l.asks in
    let is : below_swap s.past.config r.upper r.lower (r.slot 0) ≡ entries = ap (λ (z : Config). below_swap z r.upper r.lower (r.slot 0)) l.config ∙ f.1 in
    let stand : Stand (below_swap s.past.config r.upper r.lower (r.slot 0)) (here s) = subst (λ z. Stand z (here s)) (sym is) l.stand in
    let d = parts-root r s y l.good f.0 stand (subst (λ z. SwapsTo s.past.config z (here s) y) (sym is) l.leads) in
    let fresh : AreFresh s (r.slot 0 ∷ r.slot 1 ∷ r.slot 2 ∷ []) = three-fresh s (r.slot 0) (r.slot 1) (r.slot 2) (node-fresh r.slot r.image s f.0.plain f.0.writing 0 (omega arith)) (node-fresh r.slot r.image s f.0.plain f.0.writing 1 (omega arith)) (node-fresh r.slot r.image s f.0.plain f.0.writing 2 (omega arith)) in
    let grows = root_splits_keep_the_content s.past.config (image_of (here s).image) (image_of y.image) (r.slot 0) (r.slot 1) (r.slot 2) f.0.ready.parts.cut f.0.ready.sep (tree-now s l.good) d in
    record {
      same = (root_leaf_splits_add_one s.past.config (image_of (here s).image) (image_of y.image) (r.slot 0) (r.slot 1) (r.slot 2) f.0.ready.parts.cut f.0.ready.sep (tree-now s l.good) d).inner (high r s y l.good f.0 stand);
      back = none-back s y (root (resolve (here s).image) ∷ []) (r.slot 0 ∷ r.slot 1 ∷ r.slot 2 ∷ []) l.good grows fresh;
      stay = leaves-stay s y (root (resolve (here s).image) ∷ []) (r.slot 0 ∷ r.slot 1 ∷ r.slot 2 ∷ []) l.good grows fresh
          (λ k e. subst (λ (j : ℕ). 0 < (form_at s.past.config (here s)).level j) (sym (only-one (root (resolve (here s).image)) k e)) (root-high r s y l.good f.0 stand));
    }
