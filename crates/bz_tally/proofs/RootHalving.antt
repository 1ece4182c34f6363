-- The swap of a root leaf's split puts a new root over its halves.
use Rattle.std.proofs.Common.{◌≡◌, ℕ, ◌+◌, ◌-◌, ◌<◌, true, List, [], ◌∷◌, Some, arith, sym, ap, subst, ◌∙◌}
use Rattle.std.specs.Prelude.{None}
use Rattle.bz_halves.specs.Laws.{IsRootOver}
use Rattle.bz_halves.proofs.Proved.{roots_stand_over_two}
use Rattle.bz_layout.specs.declared.config.Config.{Config}
use Rattle.bz_layout.specs.declared.sizes.TheConstants.{ROOT_AT}
use Rattle.bz_layout.specs.declared.thresholds.TheConstants.{SPLIT_SLOTS}
use Rattle.bz_leaves.proofs.Proved.{root_leaf_splits_add_one}
use Rattle.bz_renew.specs.FrozenLeaves.{StandsStill}
use Rattle.bz_renew.specs.LinkSwaps.{IsFresh}
use Rattle.bz_renew.specs.Renewals.{renewal, link_entry, guard_entry}
use Rattle.bz_renew.specs.Turning.{TurnsAt}
use Rattle.bz_renew.proofs.FreshSlots.{outside-tree, raw-is, durable-is}
use Rattle.bz_renew.proofs.TwoEntries.{both-stand}
use Rattle.bz_renew.proofs.Proved.{frozen_leaves_stand_still, root_links_turn}
use Rattle.bz_tree.proofs.TreeForms.{fits}
use Rattle.bz_tree.proofs.Trees.{among-first}
use Rattle.bz_tree.specs.Slots.{AreTwo}
use Rattle.bz_slotted.specs.ReadingLaws.{node_of}
use Rattle.bz_slotted.specs.Readers.{level_of, found_of}
use Rattle.bz_slotted.specs.Rules.{node_fault}
use Rattle.bz_split.specs.Duties.{split_of}
use Rattle.bz_split.specs.Facts.{Split, split_plan, split_asks, split_facts}
use Rattle.bz_writer.specs.Laws.{IsWritten}
use Rattle.bz_writer.specs.declared.phase.WritePhase.{WritePhase}
use Rattle.bz_writer.specs.declared.phase.WritePhase.TheVariants.{Swap}
use Rattle.bz_word.specs.declared.entry.Entry.{Entry}
use Rattle.bz_content.proofs.Reached.{level-at}
use Rattle.bz_content.specs.Content.{image_of, view_in}
use Rattle.bz_content.specs.Image.{Image, node, root}
use Rattle.bz_content.specs.Resolving.{resolve}
use Rattle.bz_content.specs.Restructures.{children_of, SaysInHalves, SplitsRoot}
use Rattle.bz_content.specs.Swaps.{TurnsLink}
use Rattle.bz_content.proofs.Proved.{plain_words_stand_for_themselves, root_splits_keep_the_content}
use Rattle.bz_task.specs.Good.{IsGood}
use Rattle.bz_task.specs.Instant.{Instant, durable, form_at, is_inside}
use Rattle.bz_task.specs.Laws.{SamePlace, HasRoot}
use Rattle.bz_task.specs.Scene.{Scene, Waiting, IsScene, here}
use Rattle.bz_task.specs.Swaps.{Stand, SwapsTo}
use Rattle.bz_task.specs.declared.todo.Todo.TheVariants.{Swap as Swaps_for}
use Rattle.bz_task.proofs.Proved.{roots_are_reached}
use Rattle.bz_tally.proofs.Backs.{AreFresh, is-gone, none-back, three-fresh}
use Rattle.bz_tally.proofs.Changes.{same-entries}
use Rattle.bz_tally.proofs.Links.{leaf-now, tree-now}
use Rattle.bz_tally.proofs.Stored.{node-held, node-fresh, are-three}
use Rattle.bz_tally.specs.Counts.{IsLeafNow}
use Rattle.bz_tally.specs.Laws.{RootLeafSplitsCount}

module _ (r : Split) (s : Scene) (y : Instant) (good : IsScene s) (f : IsWritten (split_plan r) s) (stand : Stand (renewal r.link (r.slot 0)) (here s)) (swaps : SwapsTo s.past.config (renewal r.link (r.slot 0)) (here s) y) where
  abbrev c : Config
  c = s.past.config

  abbrev a : ℕ
  a = r.link.slot

  abbrev x : Image
  x = image_of (here s).image

  abbrev z : Image
  z = image_of y.image

  g : IsGood c (here s)
  g = good.history.good s.past.now good.begun (omega arith)

  t : TurnsAt r.link (r.slot 0) (a ∷ []) s y c.nodes 0 []
  t = root_links_turn s y r.link (r.slot 0) (a ∷ []) good f.ready.parted.under (f.writing.slots.within 0 (omega arith)) stand swaps

  -- the leaf is the root
  led : (here s).value ROOT_AT ≡ a + 1
  led = ap (here s).value (sym f.ready.parted.under.pointer) ∙ (both-stand (link_entry r.link (r.slot 0)) (guard_entry r.link) (here s) stand).0

  pub root-is : root (resolve (here s).image) ≡ a
  root-is = omega (arith, g.root, led)

  holds-all : HasRoot c (here s) a
  holds-all =
      let at : (here s).value ROOT_AT - 1 ≡ a = omega (arith, led) in
      subst (HasRoot c (here s)) at (roots_are_reached c (here s) g)

  leaf : StandsStill a f.ready.parted.moment s
  leaf = frozen_leaves_stand_still s a f.ready.parted.moment good f.ready.parted.leaf

  place : SamePlace c (s.past.at f.ready.parted.moment) (here s) a
  place = leaf.place t.inside

  flat : (form_at c (here s)).level a ≡ 0
  flat = leaf.leaf t.inside

  level : level_of (durable c (here s) (root (resolve (here s).image))) ≡ 0
  level =
      ap (λ k. level_of (durable c (here s) k)) root-is
      ∙ (level-at c x a (fits (view_in c (here s).image) (tree-now s good)) t.inside (λ e. absurd (omega (arith, e, f.ready.parted.leaf.slot))) ∙ flat)

  no-low : None ≡ (form_at c (s.past.at f.ready.parted.moment)).low a
  no-low = sym holds-all.low ∙ place.low

  no-high : None ≡ (form_at c (s.past.at f.ready.parted.moment)).high a
  no-high = sym holds-all.high ∙ place.high

  -- the new nodes
  made : IsRootOver c.nodes (r.slot 1) (r.slot 2) r.sep
  made = roots_stand_over_two c.nodes (r.slot 1) (r.slot 2) r.sep good.config.nodes_in_range.at_most (f.writing.slots.within 1 (omega arith)) (f.writing.slots.within 2 (omega arith)) f.ready.parted.separator

  fresh : (n : ℕ) → n < SPLIT_SLOTS → IsFresh s (r.slot n)
  fresh n h = node-fresh r.slot r.image s f.plain f.writing n h

  has : (n : ℕ) → n < SPLIT_SLOTS → durable c y (r.slot n) ≡ node_of (r.image n)
  has n h = durable-is plain_words_stand_for_themselves r.link (r.slot 0) (a ∷ []) s y c.nodes 0 [] (r.slot n) good (fresh n h) t swaps ∙ node-held r.slot r.image s f.plain f.writing n h

  has-raw : (n : ℕ) → n < SPLIT_SLOTS → node c y.image (r.slot n) ≡ node_of (r.image n)
  has-raw n h = raw-is plain_words_stand_for_themselves r.link (r.slot 0) (a ∷ []) s y c.nodes 0 [] (r.slot n) good (fresh n h) t swaps ∙ node-held r.slot r.image s f.plain f.writing n h

  says : SaysInHalves c x z a (r.slot 1) (r.slot 2) r.sep
  says = record {
    before = λ key e. ap (λ n. found_of n key) (has 1 (omega arith)) ∙ (f.ready.parted.before key e ∙ sym (leaf.says t.inside key));
    from = λ key e. ap (λ n. found_of n key) (has 2 (omega arith)) ∙ (f.ready.parted.from key e ∙ sym (leaf.says t.inside key));
  }

  pub halved : SplitsRoot c (image_of (here s).image) (image_of y.image) (r.slot 0) (r.slot 1) (r.slot 2) 0 r.sep
  halved = record {
    fresh_q = outside-tree s (r.slot 0) good (fresh 0 (omega arith));
    fresh_l = outside-tree s (r.slot 1) good (fresh 1 (omega arith));
    fresh_r = outside-tree s (r.slot 2) good (fresh 2 (omega arith));
    three = are-three r.slot r.image s f.plain f.writing;
    link = subst (λ k. TurnsLink c x z c.nodes 0 (r.slot 0) (k ∷ [])) (sym root-is) t.turns;
    two = subst (λ n. AreTwo (children_of n) (r.slot 1) (r.slot 2) r.sep) (sym (has 0 (omega arith) ∙ ap node_of f.ready.over)) made.two;
    halves = λ deep. absurd (omega (arith, deep, level));
    says = λ e. subst (λ k. SaysInHalves c x z k (r.slot 1) (r.slot 2) r.sep) (sym root-is) says;
    whole_q = (λ e. node_fault c.nodes ((has-raw 0 (omega arith) ∙ ap node_of f.ready.over) e) ((has 0 (omega arith) ∙ ap node_of f.ready.over) e) (level e + 1) None None) ∙ made.none;
    whole_l = (λ e. node_fault c.nodes (has-raw 1 (omega arith) e) (has 1 (omega arith) e) (level e) (no-low e) (Some r.sep)) ∙ f.ready.parted.left_whole;
    whole_r = (λ e. node_fault c.nodes (has-raw 2 (omega arith) e) (has 2 (omega arith) e) (level e) (Some r.sep) (no-high e)) ∙ f.ready.parted.right_whole;
  }

  pub at-foot : level_of (durable s.past.config (here s) (root (resolve (here s).image))) ≡ 0
  at-foot = level

  pub still-inside : is_inside s.past.config (here s) r.link.slot ≡ true
  still-inside = t.inside

  pub is-leaf : IsLeafNow s r.link.slot
  is-leaf = leaf-now s a t.inside flat

-- a split that asks for a swap has its nodes ready
swapping : (c : Config) (r : Split) (phase : WritePhase) (s : Scene) (entries : List Entry) → split_facts r phase Waiting s → split_asks c r phase ≡ Some (Swaps_for entries) → IsWritten (split_plan r) s × (renewal r.link (r.slot 0) ≡ entries)
swapping c r Swap s entries f e = (f.1, same-entries (renewal r.link (r.slot 0)) entries e)
swapping c r phase s entries f e = absurd (cc)

pub root-halves : RootLeafSplitsCount
root-halves t entries s y l =
    let r : Split = split_of t in
    let f = swapping t.config r t.phase s entries l.knows l.asks in
    let stand : Stand (renewal r.link (r.slot 0)) (here s) = subst (λ z. Stand z (here s)) (sym f.1) l.stand in
    let swaps : SwapsTo s.past.config (renewal r.link (r.slot 0)) (here s) y = subst (λ z. SwapsTo s.past.config z (here s) y) (sym f.1) l.leads in
    let d = halved r s y l.good f.0 stand swaps in
    let fresh : AreFresh s (r.slot 0 ∷ r.slot 1 ∷ r.slot 2 ∷ []) = three-fresh s (r.slot 0) (r.slot 1) (r.slot 2) (node-fresh r.slot r.image s f.0.plain f.0.writing 0 (omega arith)) (node-fresh r.slot r.image s f.0.plain f.0.writing 1 (omega arith)) (node-fresh r.slot r.image s f.0.plain f.0.writing 2 (omega arith)) in
    let grows = root_splits_keep_the_content s.past.config (image_of (here s).image) (image_of y.image) (r.slot 0) (r.slot 1) (r.slot 2) 0 r.sep (tree-now s l.good) d in
    record {
      more = (root_leaf_splits_add_one s.past.config (image_of (here s).image) (image_of y.image) (r.slot 0) (r.slot 1) (r.slot 2) 0 r.sep (tree-now s l.good) d).leaf (at-foot r s y l.good f.0 stand swaps);
      leaf = is-leaf r s y l.good f.0 stand swaps;
      crowded = record { moment = f.0.ready.parted.moment; frozen = f.0.ready.parted.leaf; many = f.0.ready.parted.many };
      gone = is-gone s y (root (resolve (here s).image) ∷ []) (r.slot 0 ∷ r.slot 1 ∷ r.slot 2 ∷ []) l.good grows fresh t.link.slot (still-inside r s y l.good f.0 stand swaps) (among-first (root (resolve (here s).image)) t.link.slot [] (sym (root-is r s y l.good f.0 stand swaps)));
      back = none-back s y (root (resolve (here s).image) ∷ []) (r.slot 0 ∷ r.slot 1 ∷ r.slot 2 ∷ []) l.good grows fresh;
    }
