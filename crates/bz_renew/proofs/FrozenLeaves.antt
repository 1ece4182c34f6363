-- What a leaf that was frozen is now, where it is in the tree: it stands as it stood, and says what it said.
use Rattle.std.proofs.Common.{◌≡◌, ◌≢◌, ℕ, true, List, arith, sym, ap, ◌∙◌, inl}
use Rattle.bz_layout.specs.declared.config.Config.{Config}
use Rattle.bz_layout.specs.declared.sizes.TheConstants.{STATUS_AT}
use Rattle.bz_slotted.specs.Readers.{found_of}
use Rattle.bz_word.specs.Statuses.{status}
use Rattle.bz_task.specs.Good.{IsGood}
use Rattle.bz_task.specs.Instant.{Instant, words, durable, page_at, form_at, is_inside}
use Rattle.bz_task.specs.Laws.{AreMoments, SamePlace, IsLeafInTree, SaysAlike, FrozenNodesStay, RangesStay, SameRecordsShowTheSame, SeenLeavesAreWhole, LeavesAreInTrees}
use Rattle.bz_task.specs.Scene.{Scene, IsScene, here}
use Rattle.bz_task.specs.Shown.{SameWords, SameShownNode, SameRecords}
use Rattle.bz_renew.specs.FrozenLeaves.{WasFrozenLeaf, FrozenLeavesStandStill}

-- the laws that these proofs stand on
pub record Laws : Type 0 where
  pub frozen : FrozenNodesStay
  pub ranges : RangesStay
  pub shown : SameRecordsShowTheSame
  pub seen : SeenLeavesAreWhole
  pub leaves : LeavesAreInTrees

pub same-records : (n m : ℕ → ℕ) → SameWords n m → SameRecords n m
same-records n m s = record {
  count = ap (λ z. (status z).count) (s STATUS_AT (inl (omega arith)));
  block = ap (λ z. (status z).block) (s STATUS_AT (inl (omega arith)));
  words = λ i ne h. s i h;
}

-- of a leaf of the tree what reads answer is a leaf by itself, and says what the leaf says
pub read-alike : SameRecordsShowTheSame → SeenLeavesAreWhole → (c : Config) (x : Instant) (k : ℕ) → IsGood c x → IsLeafInTree c x k → SaysAlike c.nodes (durable c x k) (words c x k) ((form_at c x).low k) ((form_at c x).high k)
read-alike shown seen c x k g l =
    let there : SameWords (words c x k) (durable c x k) = λ i h. g.shown k i l.reached h in
    let back : SameWords (durable c x k) (words c x k) = λ i h. sym (there i ((shown (words c x k) (durable c x k) (same-records (words c x k) (durable c x k) there) i).1 h)) in
    seen c.nodes _ (durable c x k) (words c x k) _ _ l.whole back

module _ (b : Laws) (s : Scene) (k m : ℕ) (good : IsScene s) (w : WasFrozenLeaf k m s.past) where
  then-good : IsGood s.past.config (s.past.at m)
  then-good = good.history.good m w.since w.now

  now-good : IsGood s.past.config (here s)
  now-good = good.history.good s.past.now good.begun (omega arith)

  pub below : k ≢ s.past.config.nodes
  below e = absurd (omega (arith, w.slot, e))

  moments : AreMoments s.past.since s.past.now m s.past.now
  moments = record { since = w.since; order = w.now; until = omega arith }

  then-reached : (s.past.at m).reached k ≡ true
  then-reached = then-good.inside k w.inside below

  same : SameShownNode s.past.config (s.past.at m) (here s) k
  same = b.frozen s.past.config s.past.at s.past.since s.past.now m s.past.now k good.history moments then-reached w.frozen

  frozen : (page_at s.past.config (here s) k).frozen ≡ true
  frozen = ap (λ z. (status z).frozen) (same STATUS_AT (inl (omega arith))) ∙ w.frozen

  place : is_inside s.past.config (here s) k ≡ true → SamePlace s.past.config (s.past.at m) (here s) k
  place i = b.ranges s.past.config s.past.at s.past.since s.past.now m s.past.now k good.history moments below w.inside i

  leaf : is_inside s.past.config (here s) k ≡ true → (form_at s.past.config (here s)).level k ≡ 0
  leaf i = (place i).level ∙ w.leaf

  -- what the image says of each key there is what reads answered then
  says : is_inside s.past.config (here s) k ≡ true → (key : List ℕ) → found_of (durable s.past.config (here s) k) key ≡ found_of (words s.past.config (s.past.at m) k) key
  says i key =
      let l : IsLeafInTree s.past.config (here s) k = b.leaves s.past.config (here s) k now-good w.slot i (leaf i) in
      let t : IsLeafInTree s.past.config (s.past.at m) k = b.leaves s.past.config (s.past.at m) k then-good w.slot w.inside w.leaf in
      let now : SaysAlike s.past.config.nodes (durable s.past.config (here s) k) (words s.past.config (here s) k) _ _ = read-alike b.shown b.seen s.past.config (here s) k now-good l in
      let old : SaysAlike s.past.config.nodes (durable s.past.config (s.past.at m) k) (words s.past.config (s.past.at m) k) _ _ = read-alike b.shown b.seen s.past.config (s.past.at m) k then-good t in
      let since : SaysAlike s.past.config.nodes (words s.past.config (s.past.at m) k) (words s.past.config (here s) k) _ _ = b.seen s.past.config.nodes _ (words s.past.config (s.past.at m) k) (words s.past.config (here s) k) _ _ old.whole same in
      sym (now.found key) ∙ since.found key

pub stand-still : Laws → FrozenLeavesStandStill
stand-still b s k m good w = record { frozen = frozen b s k m good w; place = place b s k m good w; leaf = leaf b s k m good w; says = says b s k m good w }
