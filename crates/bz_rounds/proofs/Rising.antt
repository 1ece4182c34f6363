-- Each node that was found full on the way up is full now, and the leaf is as it was viewed.
use Rattle.std.proofs.Common.{◌≡◌, ℕ, ◌<◌, true, List, map, arith, sym, ap, subst, ◌∙◌}
use Rattle.bz_ascent.specs.Full.{WasFull, WasLevelFull}
use Rattle.bz_layout.specs.declared.config.Config.{Config}
use Rattle.bz_layout.specs.declared.thresholds.TheConstants.{INNER_LIMIT, SPLIT_ABOVE}
use Rattle.bz_node.specs.Layout.{needed}
use Rattle.bz_node.specs.Reading.{children_in}
use Rattle.bz_node.specs.Records.{child_entry}
use Rattle.bz_slotted.specs.Page.{page}
use Rattle.bz_slotted.specs.ReadingLaws.{node_of}
use Rattle.bz_slotted.specs.Records.{live_words}
use Rattle.bz_slotted.specs.Rules.{node_fault}
use Rattle.bz_content.specs.Content.{image_of, view_in}
use Rattle.bz_content.specs.Image.{node}
use Rattle.bz_stage.specs.FromLeaves.Neighbours.{leaf_page}
use Rattle.bz_task.specs.Good.{IsGood}
use Rattle.bz_task.specs.Instant.{durable, form_at}
use Rattle.bz_task.specs.Outcomes.{IsLink}
use Rattle.bz_task.specs.Scene.{Scene, IsScene, here}
use Rattle.bz_task.specs.declared.view.LeafView.{LeafView}
use Rattle.bz_stage.specs.Paths.{StandsOver, on_path}
use Rattle.bz_stage.specs.Rooms.{words_taken}
use Rattle.bz_stage.specs.Stages.{page_on_path}
use Rattle.bz_stage.proofs.Proved.{entries_take_the_words, paths_are_of_keys}
use Rattle.bz_undisturbed.specs.Quiet.{IsQuietSince}
use Rattle.bz_undisturbed.specs.FromRunning.MadeFor.{WasCrowded}
use Rattle.bz_undisturbed.proofs.Proved.{undisturbed_times_are_quiet}
use Rattle.bz_rounds.specs.Crowded.{AscentsAreCrowded}
use Rattle.bz_rounds.proofs.Staying.{tree-at, below-height, no-fault, good-then, place-now, inner-stays, stands-over}
use Rattle.bz_rounds.proofs.Viewing.{frozen-now, live-now}

module _ (s : Scene) (good : IsScene s) (q : IsQuietSince s.past.since s.past) where
  abbrev c : Config
  c = s.past.config

  now : IsGood s.past.config (here s)
  now = good.history.good s.past.now good.begun (omega arith)

  -- a node that was full
  module _ (key : List ℕ) (slot level : ℕ) (f : WasFull key slot level s.past) (some : 0 < level) where
    over : StandsOver (form_at c (here s)) key level slot
    over = stands-over s good q f.moment f.since f.now slot f.within f.inside key level f.at_level f.range

    there : on_path (view_in c (here s).image) key level ≡ slot
    there = (paths_are_of_keys (view_in c (here s).image) key level slot (tree-at c (here s) slot now f.within over.inside) (omega (arith, below-height c (here s) slot now f.within over.inside, over.at_level))).0 over

    has : durable c (s.past.at f.moment) slot ≡ node_of f.words
    has = λ t i. f.has i t

    same : durable c (here s) slot ≡ node_of f.words
    same = inner-stays s good q f.moment f.since f.now slot f.within f.inside (omega (arith, some, f.at_level)) ∙ has

    taken : words_taken (page (node_of f.words)) ≡ needed (map child_entry (children_in f.words))
    taken =
        entries_take_the_words c.nodes (node c (s.past.at f.moment).image slot) f.words level ((form_at c (s.past.at f.moment)).low slot) ((form_at c (s.past.at f.moment)).high slot) good.config.nodes_in_range.at_most some f.size
        ((λ t. node_fault c.nodes (node c (s.past.at f.moment).image slot) (sym has t) (sym f.at_level t) ((form_at c (s.past.at f.moment)).low slot) ((form_at c (s.past.at f.moment)).high slot)) ∙ no-fault c (s.past.at f.moment) slot (good-then s good q f.moment f.since f.now) f.within f.inside)

    pub full-now : INNER_LIMIT < words_taken (page_on_path c (image_of (here s).image) key level)
    full-now =
        subst (λ n. INNER_LIMIT < n) (sym (ap (λ k. words_taken (page (durable c (here s) k))) there ∙ (ap (λ n. words_taken (page n)) same ∙ taken))) f.many

  -- the leaf
  module _ (key : List ℕ) (view : LeafView) (w : WasCrowded key view s.past) where
    pub frozen-leaf : (leaf_page c (image_of (here s).image) key).frozen ≡ true
    frozen-leaf = frozen-now s good q key view w.is ∙ w.frozen

    pub many-live : SPLIT_ABOVE < live_words (leaf_page c (image_of (here s).image) key)
    many-live = subst (λ n. SPLIT_ABOVE < n) (sym (live-now s good q key view w.is)) w.many

pub ascents-are-crowded : AscentsAreCrowded
ascents-are-crowded a view s good alone up w = record {
  stands = stands-over s good q on.was on.since on.now a.node.slot on.slot on.inside a.key ((form_at s.past.config (here s)).level a.node.slot) (sym (place-now s good q on.was on.since on.now a.node.slot on.slot on.inside).level) on.range;
  crowded = record {
    frozen = frozen-leaf s good q a.key view w;
    many = many-live s good q a.key view w;
    full = λ i some le. let f : WasLevelFull a.key i s.past = up.full.each i some (omega (arith, le, level)) in full-now s good q a.key f.slot i f.full some;
  };
}
  where
    q : IsQuietSince s.past.since s.past
    q = undisturbed_times_are_quiet.whole s good alone

    on : IsLink a.key s.past a.node
    on = up.path.links a.place a.node up.within up.node

    level : (form_at s.past.config (here s)).level a.node.slot ≡ up.full.level
    level = (place-now s good q up.full.stood.moment up.full.stood.since up.full.stood.now a.node.slot up.full.within up.full.stood.inside).level ∙ up.full.stood.at_level
