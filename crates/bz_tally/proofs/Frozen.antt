-- A leaf that was frozen says what it said, where it is a leaf of the tree still.
use Rattle.std.proofs.Common.{◌≡◌, ℕ, ◌<◌, true, List, arith, sym, ◌∙◌}
use Rattle.bz_any_task.specs.FromMerge.Merges.{StoodFrozen}
use Rattle.bz_renew.proofs.FrozenLeaves.{read-alike, same-records}
use Rattle.bz_slotted.specs.Readers.{found_of}
use Rattle.bz_slotted.specs.ReadingLaws.{node_of}
use Rattle.bz_task.specs.Good.{IsGood}
use Rattle.bz_task.specs.Instant.{words, durable, form_at, is_inside}
use Rattle.bz_task.specs.Laws.{IsLeafInTree, SaysAlike}
use Rattle.bz_task.specs.Scene.{Scene, IsScene, here}
use Rattle.bz_task.specs.Shown.{SameShownNode, SameWords}
use Rattle.bz_task.proofs.Proved.{frozen_nodes_stay, leaves_are_in_trees, same_records_show_the_same, seen_leaves_are_whole}

pub still-says : (s : Scene) (k : ℕ) (image : List ℕ) → IsScene s → StoodFrozen k image s.past → k < s.past.config.nodes → is_inside s.past.config (here s) k ≡ true → (form_at s.past.config (here s)).level k ≡ 0
    → (key : List ℕ) → found_of (durable s.past.config (here s) k) key ≡ found_of (node_of image) key
still-says s k image good w slot inside flat key = sym (now.found key) ∙ (sym (then.found key) ∙ w.says key)
  where
    g : IsGood s.past.config (here s)
    g = good.history.good s.past.now good.begun (omega arith)

    same : SameShownNode s.past.config (s.past.at w.moment) (here s) k
    same = frozen_nodes_stay s.past.config s.past.at s.past.since s.past.now w.moment s.past.now k good.history (record { since = w.since; order = w.now; until = omega arith }) w.reached w.frozen

    l : IsLeafInTree s.past.config (here s) k
    l = leaves_are_in_trees s.past.config (here s) k g slot inside flat

    now : SaysAlike s.past.config.nodes (durable s.past.config (here s) k) (words s.past.config (here s) k) ((form_at s.past.config (here s)).low k) ((form_at s.past.config (here s)).high k)
    now = read-alike same_records_show_the_same seen_leaves_are_whole s.past.config (here s) k g l

    back : SameWords (words s.past.config (here s) k) (words s.past.config (s.past.at w.moment) k)
    back = λ i h. sym (same i ((same_records_show_the_same (words s.past.config (s.past.at w.moment) k) (words s.past.config (here s) k) (same-records _ _ same) i).1 h))

    then : SaysAlike s.past.config.nodes (words s.past.config (here s) k) (words s.past.config (s.past.at w.moment) k) ((form_at s.past.config (here s)).low k) ((form_at s.past.config (here s)).high k)
    then = seen_leaves_are_whole s.past.config.nodes (words s.past.config (here s) k) (words s.past.config (here s) k) (words s.past.config (s.past.at w.moment) k) _ _ now.whole back
