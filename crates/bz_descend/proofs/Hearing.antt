-- What a descent names and reads is such as the nodes of a tree have.
use Rattle.std.proofs.Common.{◌≡◌, ℕ, ◌+◌, ◌^◌, ◌<◌, ◌≤◌, List, arith, sym, ap, subst, ◌∙◌}
use Rattle.bz_layout.specs.Addresses.{node_address}
use Rattle.bz_layout.specs.declared.sizes.TheConstants.{STATUS_AT, HEADER_AT}
use Rattle.bz_layout.specs.declared.thresholds.TheConstants.{MAX_LEVELS}
use Rattle.bz_slotted.specs.Page.{extent_of, page}
use Rattle.bz_word.specs.Headers.{header}
use Rattle.bz_word.specs.Statuses.{status}
use Rattle.bz_task.specs.Instant.{words, page_at}
use Rattle.bz_task.specs.Requests.{Answers}
use Rattle.bz_task.specs.Scene.{Scene, IsScene, here}
use Rattle.bz_task.specs.declared.path.Path.{Path}
use Rattle.bz_task.proofs.Proved.{headers_say_the_level}
use Rattle.bz_descend.specs.Facts.{IsInNode}
use Rattle.bz_descend.specs.Inners.{most_records, IsInner}
use Rattle.bz_descend.specs.Ways.{Arrives, ArrivesAtInner}
use Rattle.bz_descend.proofs.Leading.{word-of, front-later, inner-later}
use Rattle.bz_descend.proofs.Reading.{header-was}

-- a record of an inner node lies in it
pub record-in : (n : ℕ → ℕ) (j : ℕ) → IsInner n → j < (page n).count → IsInNode (extent_of ((page n).meta j))
record-in n j w c = record {
  key = (w.lengths j c).short;
  ends = omega (arith, (w.inside j c).ends, (w.lengths j c).pointer);
}

module _ (key : List ℕ) (path : Path) (s : Scene) (good : IsScene s) where
  -- the header is a plain one, and says of the levels what the path allows
  pub header-heard : (k v : ℕ) (a : Arrives key path k s.past) → Answers s (node_address s.past.config k + HEADER_AT) v → (v < 2 ^ 32) × ((header v).level + path.depth ≤ MAX_LEVELS)
  header-heard k v a t =
      let h = headers_say_the_level s.past.config (s.past.at a.met) k (good.history.good a.met a.since a.until) (λ e. omega (arith, e, a.has.slot)) a.has.inside in
      let w : words s.past.config (s.past.at a.met) k HEADER_AT ≡ v =
      sym ((front-later key path s good k s.past.now a a.until (omega arith)).front HEADER_AT (λ e. omega (arith, e)) (omega arith)) ∙ (sym (word-of s.past.config (here s) k HEADER_AT (omega arith)) ∙ t.value) in
      (subst (λ z. z < 2 ^ 32) w h.header, omega (arith, a.low, header-was key path s good k v a t))

  pub status-heard : (k v : ℕ) (a : ArrivesAtInner key path k s.past) → Answers s (node_address s.past.config k + STATUS_AT) v → (v < 2 ^ 61) × (0 < (status v).count) × ((status v).count ≤ most_records)
  status-heard k v a t =
      let w : IsInner (words s.past.config (here s) k) = inner-later key path s good k s.past.now a a.node.until (omega arith) in
      let n : (page_at s.past.config (here s) k).count ≡ (status v).count = ap (λ z. (status z).count) (sym (word-of s.past.config (here s) k STATUS_AT (omega arith)) ∙ t.value) in
      (t.plain, omega (arith, n, w.some), omega (arith, n, w.few))
