-- What a path of one link and a view of a frozen leaf show.
use Rattle.std.proofs.Common.{◌≡◌, ℕ, ◌-◌, ◌<◌, true, List, arith, sym, subst, ◌∙◌, Some}
use Rattle.std.specs.Prelude.{None, slice_get}
use Rattle.bz_layout.specs.declared.thresholds.TheConstants.{SPLIT_ABOVE}
use Rattle.bz_slotted.specs.Readers.{found_of, live_of}
use Rattle.bz_slotted.specs.ReadingLaws.{node_of}
use Rattle.bz_slotted.specs.Rules.{node_fault}
use Rattle.bz_word.specs.Statuses.{status}
use Rattle.bz_task.specs.Instant.{words, durable, form_at}
use Rattle.bz_task.specs.Outcomes.{IsPath, IsLink, IsView}
use Rattle.bz_task.specs.Scene.{Scene, IsScene}
use Rattle.bz_task.specs.declared.path.Link.{Link}
use Rattle.bz_task.specs.declared.path.Path.{Path}
use Rattle.bz_task.specs.declared.view.LeafView.{LeafView}
use Rattle.bz_renew.specs.Due.{LeadsTo}
use Rattle.bz_renew.specs.FrozenLeaves.{WasFrozenLeaf, ShowsFrozenLeaf, ViewsShowFrozenLeaves}
use Rattle.bz_split.specs.Facts.{HasParted}
use Rattle.bz_split.specs.Parts.{ArePartsOf}

pub has-parted : ViewsShowFrozenLeaves → (key : List ℕ) (path : Path) (view : LeafView) (link : Link) (left right sep : List ℕ) (s : Scene) → IsScene s → IsPath key path s.past → IsView key view s.past → (status view.status).frozen ≡ true → SPLIT_ABOVE < live_of (node_of view.image.0) → LeadsTo path view.slot
    → path.depth ≡ 1 → slice_get path.links (path.depth - 1) ≡ Some link → ArePartsOf view.image.0 left right sep → HasParted link left right sep s.past
has-parted views key path view link left right sep s good p v f many leads one last parts =
    let on : IsLink key s.past link = p.links (path.depth - 1) link (omega (arith, p.some)) last in
    let same : view.slot ≡ link.slot = sym (leads link last).0 in
    let first : path.depth - 1 ≡ 0 = omega (arith, one) in
    let shown : ShowsFrozenLeaf view s.past = views key view s good v f in
    record {
      under = p.first link (subst (λ i. slice_get path.links i ≡ Some link) first last);
      guard = on.guarded;
      thawed = (leads link last).1;
      moment = view.at;
      leaf = subst (λ z. WasFrozenLeaf z view.at s.past) same shown.leaf;
      many = subst (λ z. SPLIT_ABOVE < live_of (durable s.past.config (s.past.at view.at) z)) same (subst (λ n. SPLIT_ABOVE < n) shown.live many);
      separator = parts.separator;
      left_whole = subst (λ z. node_fault s.past.config.nodes (node_of left) (node_of left) 0 ((form_at s.past.config (s.past.at view.at)).low z) (Some sep) ≡ None) same (parts.left_whole s.past.config.nodes _ _ shown.whole);
      right_whole = subst (λ z. node_fault s.past.config.nodes (node_of right) (node_of right) 0 (Some sep) ((form_at s.past.config (s.past.at view.at)).high z) ≡ None) same (parts.right_whole s.past.config.nodes _ _ shown.whole);
      before = λ k e. subst (λ z. found_of (node_of left) k ≡ found_of (words s.past.config (s.past.at view.at) z) k) same (parts.before k e ∙ shown.says k);
      from = λ k e. subst (λ z. found_of (node_of right) k ≡ found_of (words s.past.config (s.past.at view.at) z) k) same (parts.from k e ∙ shown.says k);
      left_size = parts.left_size;
      right_size = parts.right_size;
      left_plain = parts.left_plain;
      right_plain = parts.right_plain;
    }
