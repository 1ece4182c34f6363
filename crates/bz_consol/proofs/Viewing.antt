-- What a path and a view of a frozen leaf show.
use Rattle.std.proofs.Common.{◌≡◌, ℕ, ◌-◌, ◌<◌, ◌^◌, true, List, length, arith, sym, subst, ◌∙◌, Some, Option}
use Rattle.std.specs.Prelude.{All, None, slice_get}
use Rattle.bz_layout.specs.declared.sizes.TheConstants.{NODE_WORDS}
use Rattle.bz_slotted.specs.ReadingLaws.{node_of}
use Rattle.bz_slotted.specs.Rules.{node_fault}
use Rattle.bz_word.specs.Statuses.{status}
use Rattle.bz_task.specs.Instant.{words, form_at}
use Rattle.bz_task.specs.Laws.{SaysAlike}
use Rattle.bz_task.specs.Outcomes.{IsPath, IsLink, IsView}
use Rattle.bz_task.specs.Scene.{Scene, IsScene}
use Rattle.bz_task.specs.declared.path.Link.{Link}
use Rattle.bz_task.specs.declared.path.Path.{Path}
use Rattle.bz_task.specs.declared.view.LeafView.{LeafView}
use Rattle.bz_renew.specs.FrozenLeaves.{WasFrozenLeaf, ShowsFrozenLeaf, ViewsShowFrozenLeaves}
use Rattle.bz_consol.specs.Facts.{HasViewed, LeadsTo}

pub has-viewed : ViewsShowFrozenLeaves → (key : List ℕ) (path : Path) (view : LeafView) (link : Link) (image : List ℕ) (s : Scene) → IsScene s → IsPath key path s.past → IsView key view s.past → (status view.status).frozen ≡ true → LeadsTo path view.slot
    → slice_get path.links (path.depth - 1) ≡ Some link → length image ≡ NODE_WORDS → All (λ v. v < 2 ^ 61) image
    → ((nodes : ℕ) (low high : Option (List ℕ)) → node_fault nodes (node_of view.image.0) (node_of view.image.0) 0 low high ≡ None → SaysAlike nodes (node_of view.image.0) (node_of image) low high) → HasViewed link image s.past
has-viewed views key path view link image s good p v f leads last size plain alike =
    let on : IsLink key s.past link = p.links (path.depth - 1) link (omega (arith, p.some)) last in
    let same : link.slot ≡ view.slot = (leads link last).0 in
    let shown : ShowsFrozenLeaf view s.past = views key view s good v f in
    let copy = alike s.past.config.nodes _ _ shown.whole in
    let said : SaysAlike s.past.config.nodes (words s.past.config (s.past.at view.at) view.slot) (node_of image) ((form_at s.past.config (s.past.at view.at)).low view.slot) ((form_at s.past.config (s.past.at view.at)).high view.slot) =
    record { whole = copy.whole; found = λ k. copy.found k ∙ shown.says k } in
    record {
      guard = on.guarded;
      thawed = (leads link last).1;
      moment = view.at;
      leaf = subst (λ z. WasFrozenLeaf z view.at s.past) (sym same) shown.leaf;
      alike = subst (λ z. SaysAlike s.past.config.nodes (words s.past.config (s.past.at view.at) z) (node_of image) ((form_at s.past.config (s.past.at view.at)).low z) ((form_at s.past.config (s.past.at view.at)).high z)) (sym same) said;
      size = size;
      plain = plain;
    }
