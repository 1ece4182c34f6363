-- What a path of two links and more, and a view, show.
use Rattle.std.proofs.Common.{◌≡◌, ℕ, ◌+◌, ◌-◌, ◌<◌, ◌≤◌, List, length, arith, refl, sym, subst, ◌∙◌, inl, inr, Some, Option}
use Rattle.std.specs.Prelude.{slice_get}
use Rattle.bz_layout.specs.Addresses.{node_address, SlotsApart}
use Rattle.bz_layout.specs.declared.sizes.TheConstants.{NODE_WORDS, STATUS_AT}
use Rattle.bz_layout.specs.declared.thresholds.TheConstants.{MERGE_BELOW}
use Rattle.bz_page.specs.Laws.{ViewsSayWhatImagesSay}
use Rattle.bz_tree.specs.Form.{Holds}
use Rattle.bz_slotted.specs.ReadingLaws.{node_of}
use Rattle.bz_slotted.specs.Readers.{live_of}
use Rattle.bz_task.specs.Good.{IsGood}
use Rattle.bz_task.specs.Instant.{words, durable, form_at}
use Rattle.bz_task.specs.Laws.{IsLeafInTree, LeavesAreInTrees, SeenLeavesAreWhole, SameRecordsShowTheSame, SaysAlike}
use Rattle.bz_task.specs.Outcomes.{IsPath, IsLink, IsView, IsUnderNode}
use Rattle.bz_task.specs.Scene.{Scene, IsScene}
use Rattle.bz_task.specs.declared.path.Link.{Link}
use Rattle.bz_task.specs.declared.path.Path.{Path}
use Rattle.bz_task.specs.declared.view.LeafView.{LeafView}
use Rattle.bz_renew.specs.Due.{LeadsTo}
use Rattle.bz_renew.proofs.FrozenLeaves.{read-alike}
use Rattle.bz_merge.specs.Plans.{IsViewed}
use Rattle.bz_merge.specs.Siblings.{WasSeen}
use Rattle.bz_merge.specs.Thawed.{IsThawedAbove}

-- the laws on which it rests
pub record Laws : Type 0 where
  pub views : ViewsSayWhatImagesSay
  pub leaves : LeavesAreInTrees
  pub seen : SeenLeavesAreWhole
  pub shown : SameRecordsShowTheSame
  pub apart : SlotsApart

module _ (b : Laws) (key : List ℕ) (path : Path) (view : LeafView) (upper lower : Link) (s : Scene) (good : IsScene s) (p : IsPath key path s.past) (v : IsView key view s.past) (size : length view.image.0 ≡ NODE_WORDS) (few : live_of (node_of view.image.0) < MERGE_BELOW) (leads : LeadsTo path view.slot) (thawed : IsThawedAbove path) (deep : 2 ≤ path.depth)
    (first : slice_get path.links (path.depth - 2) ≡ Some upper) (last : slice_get path.links (path.depth - 1) ≡ Some lower) where
  on : IsLink key s.past lower
  on = p.links (path.depth - 1) lower (omega (arith, deep)) last

  above : IsLink key s.past upper
  above = p.links (path.depth - 2) upper (omega (arith, deep)) first

  guard-is : lower.guard ≡ node_address s.past.config upper.slot + STATUS_AT
  guard-is =
      let next : path.depth - 1 ≡ path.depth - 2 + 1 = omega (arith, deep) in
      p.below (path.depth - 2) upper lower (omega (arith, deep)) first (subst (λ i. slice_get path.links i ≡ Some lower) next last)

  down : (u : IsUnderNode s.past lower on.guarded.guarded) × (u.parent ≡ upper.slot)
  down = elim on.guarded.under [
    | inl root ↦ absurd (omega (arith, root.guard, guard-is))
    | inr u ↦ (u, (b.apart s.past.config u.parent upper.slot STATUS_AT STATUS_AT (omega arith) (omega arith) (sym u.guard ∙ guard-is)).0)
  ]

  same : view.slot ≡ lower.slot
  same = sym (leads lower last).0

  g : IsGood s.past.config (s.past.at view.at)
  g = good.history.good view.at v.since v.now

  held : Holds (form_at s.past.config (s.past.at view.at)) key view.slot
  held = (b.views key view s.past v g).holds

  leaf : IsLeafInTree s.past.config (s.past.at view.at) view.slot
  leaf = b.leaves s.past.config (s.past.at view.at) view.slot g v.slot held.inside held.leaf

  -- reads of the leaf say what the image says of it
  reads-alike : SaysAlike s.past.config.nodes (durable s.past.config (s.past.at view.at) view.slot) (words s.past.config (s.past.at view.at) view.slot) ((form_at s.past.config (s.past.at view.at)).low view.slot) ((form_at s.past.config (s.past.at view.at)).high view.slot)
  reads-alike = read-alike b.shown b.seen s.past.config (s.past.at view.at) view.slot g leaf

  abbrev low : Option (List ℕ)
  low = (form_at s.past.config (s.past.at view.at)).low view.slot

  abbrev high : Option (List ℕ)
  high = (form_at s.past.config (s.past.at view.at)).high view.slot

  seen-there : WasSeen (record { slot = view.slot; status = view.status; image = view.image.0 }) view.at low high s.past
  seen-there = record {
    stood = record { since = v.since; now = v.now; slot = v.slot; inside = held.inside; leaf = held.leaf; low_is = refl; high_is = refl };
    status = v.status;
    plain = v.plain;
    whole = v.whole;
    says = λ k. reads-alike.found k ∙ sym ((b.views key view s.past v g).says k);
    size = size;
  }

  pub is-viewed : IsViewed upper lower (record { slot = lower.slot; status = view.status; image = view.image.0 }) s.past
  is-viewed = record {
    links = record { upper_guard = above.guarded; upper_thawed = (thawed upper first).is; guard = on.guarded; thawed = (leads lower last).1; under = down.0; parent = down.1 };
    guarded = on.guarded.guarded;
    is_guarded = refl;
    slot = refl;
    at = view.at;
    low = low;
    high = high;
    seen = subst (λ z. WasSeen (record { slot = z; status = view.status; image = view.image.0 }) view.at low high s.past) same seen-there;
    few = subst (λ z. live_of (durable s.past.config (s.past.at view.at) z) < MERGE_BELOW) same (subst (λ n. n < MERGE_BELOW) (b.views key view s.past v g).live few);
  }
