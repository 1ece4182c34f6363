-- What a view of a frozen leaf shows.
use Rattle.std.proofs.Common.{◌≡◌, ℕ, true, List, sym, ap, ◌∙◌}
use Rattle.bz_page.specs.Laws.{ViewsSayWhatImagesSay}
use Rattle.bz_tree.specs.Form.{Holds}
use Rattle.bz_word.specs.Statuses.{status}
use Rattle.bz_task.specs.Good.{IsGood}
use Rattle.bz_task.specs.Instant.{words, durable, form_at}
use Rattle.bz_task.specs.Laws.{IsLeafInTree, LeavesAreInTrees, SeenLeavesAreWhole, SameRecordsShowTheSame, SaysAlike}
use Rattle.bz_task.specs.Outcomes.{IsView}
use Rattle.bz_task.specs.Scene.{Scene, IsScene}
use Rattle.bz_task.specs.declared.view.LeafView.{LeafView}
use Rattle.bz_renew.specs.FrozenLeaves.{WasFrozenLeaf, ShowsFrozenLeaf, ViewsShowFrozenLeaves}
use Rattle.bz_renew.proofs.FrozenLeaves.{read-alike}

-- the laws that these proofs stand on
pub record Laws : Type 0 where
  pub leaves : LeavesAreInTrees
  pub seen : SeenLeavesAreWhole
  pub shown : SameRecordsShowTheSame
  pub views : ViewsSayWhatImagesSay

module _ (b : Laws) (key : List ℕ) (view : LeafView) (s : Scene) (good : IsScene s) (v : IsView key view s.past) where
  g : IsGood s.past.config (s.past.at view.at)
  g = good.history.good view.at v.since v.now

  held : Holds (form_at s.past.config (s.past.at view.at)) key view.slot
  held = (b.views key view s.past v g).holds

  leaf : IsLeafInTree s.past.config (s.past.at view.at) view.slot
  leaf = b.leaves s.past.config (s.past.at view.at) view.slot g v.slot held.inside held.leaf

  was-frozen : (status view.status).frozen ≡ true → WasFrozenLeaf view.slot view.at s.past
  was-frozen f = record { since = v.since; now = v.now; slot = v.slot; inside = held.inside; leaf = held.leaf; frozen = ap (λ z. (status z).frozen) v.status ∙ f }

  -- reads of the leaf say what the image says of it
  reads-alike : SaysAlike s.past.config.nodes (durable s.past.config (s.past.at view.at) view.slot) (words s.past.config (s.past.at view.at) view.slot) ((form_at s.past.config (s.past.at view.at)).low view.slot) ((form_at s.past.config (s.past.at view.at)).high view.slot)
  reads-alike = read-alike b.shown b.seen s.past.config (s.past.at view.at) view.slot g leaf

  pub shows : (status view.status).frozen ≡ true → ShowsFrozenLeaf view s.past
  shows f = record { leaf = was-frozen f; whole = v.whole; says = λ k. (b.views key view s.past v g).says k ∙ sym (reads-alike.found k); live = (b.views key view s.past v g).live }

pub views-show : Laws → ViewsShowFrozenLeaves
views-show b key view s good v f = shows b key view s good v f
