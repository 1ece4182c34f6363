-- A node that was read whole, whose status is as it was read, stands in the tree where it stood, with the words that were read.
use Rattle.std.proofs.Common.{◌≡◌, ◌≢◌, ℕ, ◌+◌, ◌<◌, ◌≤◌, true, false, List, slice_index, arith, sym, ap, ◌∙◌, inl, inr}
use Rattle.std.proofs.lemmas.Bool.{true≢false}
use Rattle.bz_layout.specs.Addresses.{node_address}
use Rattle.bz_layout.specs.declared.sizes.TheConstants.{STATUS_AT}
use Rattle.bz_slotted.specs.ReadingLaws.{node_of}
use Rattle.bz_word.specs.Statuses.{status}
use Rattle.bz_task.specs.Good.{IsGood}
use Rattle.bz_task.specs.Instant.{words, durable, page_at, form_at, is_inside}
use Rattle.bz_task.specs.Laws.{AreMoments, SamePlace}
use Rattle.bz_task.specs.Scene.{Scene, IsScene, here}
use Rattle.bz_task.specs.Shown.{SameShownNode}
use Rattle.bz_task.proofs.Proved.{fronts_stay, headers_say_the_level, nodes_stay, ranges_stay}
use Rattle.bz_renew.proofs.Words.{node-at}
use Rattle.bz_inner.specs.InnerMerges.{WasOpen}

pub record StillOpen (k m : ℕ) (read : List ℕ) (s : Scene) (w : WasOpen k m read s.past) : Type 0 where
  pub reached : (here s).reached k ≡ true
  pub inside : is_inside s.past.config (here s) k ≡ true
  pub below : k ≢ s.past.config.nodes
  pub level : (form_at s.past.config (here s)).level k ≡ w.node.level
  pub low : (form_at s.past.config (here s)).low k ≡ w.node.low
  pub high : (form_at s.past.config (here s)).high k ≡ w.node.high
  pub words : durable s.past.config (here s) k ≡ node_of read

module _ (s : Scene) (k m : ℕ) (read : List ℕ) (good : IsScene s) (w : WasOpen k m read s.past) (stands : (here s).value (node_address s.past.config k + STATUS_AT) ≡ slice_index read STATUS_AT) where
  g : IsGood s.past.config (here s)
  g = good.history.good s.past.now good.begun (omega arith)

  then-good : IsGood s.past.config (s.past.at m)
  then-good = good.history.good m w.since w.now

  below-top : k ≢ s.past.config.nodes
  below-top e = absurd (omega (arith, e, then-good.slots k w.node.reached))

  moments : AreMoments s.past.since s.past.now m s.past.now
  moments = record { since = w.since; order = w.now; until = omega arith }

  status-was : words s.past.config (s.past.at m) k STATUS_AT ≡ slice_index read STATUS_AT
  status-was = λ t. w.node.were t STATUS_AT

  status-same : words s.past.config (here s) k STATUS_AT ≡ words s.past.config (s.past.at m) k STATUS_AT
  status-same = node-at s.past.config (here s).value k STATUS_AT (omega arith) ∙ (stands ∙ sym status-was)

  same : SameShownNode s.past.config (s.past.at m) (here s) k
  same = nodes_stay s.past.config s.past.at s.past.since s.past.now m s.past.now s.past.now k good.history moments w.now (omega arith) w.node.reached status-same

  reached-now : (here s).reached k ≡ true
  reached-now = (fronts_stay s.past.config s.past.at s.past.since s.past.now m s.past.now k good.history moments w.node.reached).reached

  then-level : (page_at s.past.config (s.past.at m) k).level ≡ w.node.level
  then-level = (headers_say_the_level s.past.config (s.past.at m) k then-good below-top w.node.inside).level ∙ w.node.level_is

  then-inner : 0 < (page_at s.past.config (s.past.at m) k).level
  then-inner = omega (arith, then-level, w.node.node.inner)

  words-now : words s.past.config (here s) k ≡ node_of read
  words-now = (λ t j. same j (inr (inr (inl then-inner))) t) ∙ w.node.were

  thawed-now : (page_at s.past.config (here s) k).frozen ≡ false
  thawed-now = ap (λ n. (status (n STATUS_AT)).frozen) words-now ∙ w.thawed

  inside-now : is_inside s.past.config (here s) k ≡ true
  inside-now = elim (g.placed k reached-now) [ inl t ↦ t | inr f ↦ absurd (true≢false (sym f ∙ thawed-now)) ]

  place : SamePlace s.past.config (s.past.at m) (here s) k
  place = ranges_stay s.past.config s.past.at s.past.since s.past.now m s.past.now k good.history moments below-top w.node.inside inside-now

  level-now : (form_at s.past.config (here s)).level k ≡ w.node.level
  level-now = place.level ∙ w.node.level_is

  inner-now : 0 < (page_at s.past.config (here s) k).level
  inner-now = omega (arith, (headers_say_the_level s.past.config (here s) k g below-top inside-now).level, level-now, w.node.node.inner)

  pub still-open : StillOpen k m read s w
  still-open = record {
    reached = reached-now;
    inside = inside-now;
    below = below-top;
    level = level-now;
    low = place.low ∙ w.node.low_is;
    high = place.high ∙ w.node.high_is;
    words = (λ t j. g.shown k j reached-now (inr (inr (inl inner-now))) t) ∙ words-now;
  }
