-- A leaf that was seen had the live words that were seen.
use Rattle.std.proofs.Common.{◌≡◌, ◌≢◌, ℕ, List, Option, arith, sym, ◌∙◌}
use Rattle.bz_renew.proofs.FrozenLeaves.{read-alike}
use Rattle.bz_slotted.specs.Readers.{live_of}
use Rattle.bz_slotted.specs.ReadingLaws.{node_of}
use Rattle.bz_slotted.proofs.Proved.{leaf_rules_are_facts}
use Rattle.bz_content.specs.Image.{node}
use Rattle.bz_task.specs.Good.{IsGood}
use Rattle.bz_task.specs.Instant.{words, durable, form_at}
use Rattle.bz_task.specs.Laws.{IsLeafInTree, SaysAlike}
use Rattle.bz_task.specs.Scene.{Scene, IsScene}
use Rattle.bz_task.proofs.Proved.{leaves_are_in_trees, same_records_show_the_same, seen_leaves_are_whole}
use Rattle.bz_merge.specs.Siblings.{SeenLeaf, WasSeen}
use Rattle.bz_joined.proofs.Alike.{live-alike}

module _ (s : Scene) (good : IsScene s) (l : SeenLeaf) (at : ℕ) (low high : Option (List ℕ)) (w : WasSeen l at low high s.past) where
  pub good-then : IsGood s.past.config (s.past.at at)
  good-then = good.history.good at w.stood.since w.stood.now

  pub below : l.slot ≢ s.past.config.nodes
  below e = absurd (omega (arith, e, w.stood.slot))

  pub leaf : IsLeafInTree s.past.config (s.past.at at) l.slot
  leaf = leaves_are_in_trees s.past.config (s.past.at at) l.slot good-then w.stood.slot w.stood.inside w.stood.leaf

  pub alike : SaysAlike s.past.config.nodes (durable s.past.config (s.past.at at) l.slot) (words s.past.config (s.past.at at) l.slot) ((form_at s.past.config (s.past.at at)).low l.slot) ((form_at s.past.config (s.past.at at)).high l.slot)
  alike = read-alike same_records_show_the_same seen_leaves_are_whole s.past.config (s.past.at at) l.slot good-then leaf

  pub live-then : live_of (durable s.past.config (s.past.at at) l.slot) ≡ live_of (node_of l.image)
  live-then =
      live-alike (node s.past.config (s.past.at at).image l.slot) (durable s.past.config (s.past.at at) l.slot) (node_of l.image) (node_of l.image)
      ((form_at s.past.config (s.past.at at)).low l.slot) ((form_at s.past.config (s.past.at at)).high l.slot) low high
      ((leaf_rules_are_facts s.past.config.nodes (node s.past.config (s.past.at at).image l.slot) (durable s.past.config (s.past.at at) l.slot) ((form_at s.past.config (s.past.at at)).low l.slot) ((form_at s.past.config (s.past.at at)).high l.slot)).0 leaf.whole)
      ((leaf_rules_are_facts s.past.config.nodes (node_of l.image) (node_of l.image) low high).0 w.whole)
      (λ key. sym (alike.found key) ∙ w.says key)
