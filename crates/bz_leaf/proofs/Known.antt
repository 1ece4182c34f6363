-- What a path says of its leaf.
use Rattle.std.proofs.Common.{◌≡◌, ◌≢◌, ℕ, zero, suc, ◌-◌, ◌≤◌, true, List, arith, refl, sym, ap, ◌∙◌, inl, inr}
use Rattle.std.specs.Prelude.{Some, slice_get, slice_index, replicate}
use Rattle.std.proofs.lemmas.Bool.{cases_lt}
use Rattle.bz_layout.specs.declared.sizes.TheConstants.{HEADER_AT}
use Rattle.bz_word.specs.Headers.{header}
use Rattle.bz_task.specs.Good.{IsGood}
use Rattle.bz_task.specs.Instant.{page_at}
use Rattle.bz_task.specs.Laws.{KeepsFront}
use Rattle.bz_task.specs.Outcomes.{IsLink, EndsAtLeaf, IsPath}
use Rattle.bz_task.specs.Scene.{Scene, IsScene}
use Rattle.bz_task.specs.declared.path.Link.{Link}
use Rattle.bz_task.specs.declared.path.Path.{Path}
use Rattle.bz_task.proofs.Proved.{fronts_stay, headers_say_the_level}
use Rattle.bz_leaf.specs.Facts.{IsKnownLeaf}

module _ (s : Scene) (good : IsScene s) where
  -- a node's level at two moments, the second not before the first
  level-later : (k m j : ℕ) → s.past.since ≤ m → m ≤ j → j ≤ s.past.now → (s.past.at m).reached k ≡ true → (page_at s.past.config (s.past.at j) k).level ≡ (page_at s.past.config (s.past.at m) k).level
  level-later k m j a b d r =
      let f : KeepsFront s.past.config (s.past.at m) (s.past.at j) k = fronts_stay s.past.config s.past.at s.past.since s.past.now m j k good.history (record { since = a; order = b; until = d }) r in
      ap (λ z. (header z).level) (f.front HEADER_AT (λ e. omega (arith, e)) (omega arith))

  known-leaf : (key : List ℕ) (link : Link) → IsLink key s.past link → EndsAtLeaf s.past link → IsKnownLeaf key link s.past
  known-leaf key link l e = record {
    moment = l.was;
    since = l.since;
    now = l.now;
    slot = l.slot;
    inside = l.inside;
    leaf = sym (headers_say_the_level s.past.config (s.past.at l.was) link.slot g below l.inside).level ∙ flat;
    range = l.range;
    led = l.led;
    hung = l.guarded.guarded;
    hung_since = l.guarded.since;
    hung_now = omega (arith, l.guarded.order, l.guarded.now);
    under = l.guarded.under;
  }
    where
      g : IsGood s.past.config (s.past.at l.was)
      g = good.history.good l.was l.since l.now

      below : link.slot ≢ s.past.config.nodes
      below q = omega (arith, q, l.slot)

      flat : (page_at s.past.config (s.past.at l.was) link.slot).level ≡ 0
      flat = elim (cases_lt l.was e.was) [
        | inl earlier ↦ sym (level-later link.slot l.was e.was l.since (omega (arith, earlier)) e.now (g.inside link.slot l.inside below)) ∙ e.leaf
        | inr later ↦ level-later link.slot e.was l.was e.since later l.now e.reached ∙ e.leaf
      ]

pub known-by-path : (s : Scene) → IsScene s → (key : List ℕ) (path : Path) (link : Link) → slice_get path.links (path.depth - 1) ≡ Some link → IsPath key path s.past → IsKnownLeaf key link s.past
known-by-path s good key path link at p =
    known-leaf s good key link (p.links (path.depth - 1) link (omega (arith, p.some)) at) (p.leaf (path.depth - 1) link (omega (arith, p.some)) at)

pub zeros : (n i : ℕ) → slice_index (replicate n 0) i ≡ 0
zeros zero i = refl
zeros (suc n) zero = refl
zeros (suc n) (suc i) = zeros n i
