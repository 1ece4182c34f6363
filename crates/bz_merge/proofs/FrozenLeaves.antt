-- A leaf that was frozen is frozen still, and where it is a leaf of the tree it says what it said.
use Rattle.std.proofs.Common.{◌≡◌, ℕ, ◌<◌, true, List, arith, sym, ap, ◌∙◌, inl}
use Rattle.bz_layout.specs.declared.sizes.TheConstants.{STATUS_AT}
use Rattle.bz_slotted.specs.Readers.{found_of}
use Rattle.bz_slotted.specs.ReadingLaws.{node_of}
use Rattle.bz_word.specs.Statuses.{status}
use Rattle.bz_task.specs.Good.{IsGood}
use Rattle.bz_task.specs.Instant.{words, durable, page_at, form_at, is_inside}
use Rattle.bz_task.specs.Laws.{IsLeafInTree, SaysAlike, FrozenNodesStay, SameRecordsShowTheSame, SeenLeavesAreWhole, LeavesAreInTrees}
use Rattle.bz_task.specs.Scene.{Scene, IsScene, here}
use Rattle.bz_task.specs.Shown.{SameWords, SameShownNode}
use Rattle.bz_renew.proofs.FrozenLeaves.{same-records, read-alike}
use Rattle.bz_merge.specs.Merges.{StoodFrozen}

-- the laws that these proofs stand on
pub record Laws : Type 0 where
  pub frozen : FrozenNodesStay
  pub shown : SameRecordsShowTheSame
  pub seen : SeenLeavesAreWhole
  pub leaves : LeavesAreInTrees

module _ (b : Laws) (s : Scene) (k : ℕ) (image : List ℕ) (good : IsScene s) (w : StoodFrozen k image s.past) where
  now-good : IsGood s.past.config (here s)
  now-good = good.history.good s.past.now good.begun (omega arith)

  same : SameShownNode s.past.config (s.past.at w.moment) (here s) k
  same = b.frozen s.past.config s.past.at s.past.since s.past.now w.moment s.past.now k good.history (record { since = w.since; order = w.now; until = omega arith }) w.reached w.frozen

  pub still-frozen : (page_at s.past.config (here s) k).frozen ≡ true
  still-frozen = ap (λ z. (status z).frozen) (same STATUS_AT (inl (omega arith))) ∙ w.frozen

  pub still-says : k < s.past.config.nodes → is_inside s.past.config (here s) k ≡ true → (form_at s.past.config (here s)).level k ≡ 0 → (key : List ℕ) → found_of (durable s.past.config (here s) k) key ≡ found_of (node_of image) key
  still-says slot inside leaf key =
      let l : IsLeafInTree s.past.config (here s) k = b.leaves s.past.config (here s) k now-good slot inside leaf in
      let now : SaysAlike s.past.config.nodes (durable s.past.config (here s) k) (words s.past.config (here s) k) _ _ = read-alike b.shown b.seen s.past.config (here s) k now-good l in
      let back : SameWords (words s.past.config (here s) k) (words s.past.config (s.past.at w.moment) k) = λ i h. sym (same i ((b.shown (words s.past.config (s.past.at w.moment) k) (words s.past.config (here s) k) (same-records _ _ same) i).1 h)) in
      let then : SaysAlike s.past.config.nodes (words s.past.config (here s) k) (words s.past.config (s.past.at w.moment) k) _ _ = b.seen s.past.config.nodes _ (words s.past.config (here s) k) (words s.past.config (s.past.at w.moment) k) _ _ now.whole back in
      sym (now.found key) ∙ (sym (then.found key) ∙ w.says key)
