-- A descent goes on: each inner node to which it comes was in the tree when it was met, and is not frozen.
use Rattle.std.proofs.Common.{◌≡◌, ℕ, ◌+◌, List, refl, sym, subst, ◌∙◌, false}
use Rattle.std.proofs.lemmas.Bool.{true≢false}
use Rattle.bz_layout.specs.Addresses.{node_address}
use Rattle.bz_layout.specs.declared.sizes.TheConstants.{STATUS_AT}
use Rattle.bz_word.specs.Statuses.{status}
use Rattle.bz_task.specs.Instant.{words}
use Rattle.bz_task.specs.Requests.{Answers}
use Rattle.bz_task.specs.Scene.{Scene, Waiting, IsScene}
use Rattle.bz_task.specs.declared.path.Path.{Path}
use Rattle.bz_descend.specs.SeekFacts.{seek_asks, seek_facts, seek_differs}
use Rattle.bz_descend.specs.Ways.{ArrivesAtInner}
use Rattle.bz_descend.specs.declared.sight.Way.{Way}
use Rattle.bz_descend.specs.declared.sight.Way.TheVariants.{Status}
use Rattle.bz_undisturbed.specs.Undisturbed.{GoesOn}
use Rattle.bz_undisturbed.specs.Lookups.{SeeksGoOn}
use Rattle.bz_undisturbed.specs.Quiet.{IsQuietSince}
use Rattle.bz_undisturbed.proofs.Going.{idles, reads}
use Rattle.bz_undisturbed.proofs.Inners.{inner-thawed}
use Rattle.bz_undisturbed.proofs.Standing.{good-at, reached-in, status-stands}
use Rattle.bz_undisturbed.proofs.Quiet.{undisturbed}

module _ (s : Scene) (good : IsScene s) (q : IsQuietSince s.past.since s.past) where
  arrived-thawed : (key : List ℕ) (path : Path) (k v : ℕ) → ArrivesAtInner key path k s.past → Answers s (node_address s.past.config k + STATUS_AT) v → (status v).frozen ≡ false
  arrived-thawed key path k v h a =
      let n = h.node in
      let now : v ≡ words s.past.config (s.past.at n.met) k STATUS_AT =
      sym a.value ∙ status-stands s good s.past.since q k n.met (words s.past.config (s.past.at n.met) k STATUS_AT) n.since n.until (reached-in s good s.past.since q n.met k n.since n.until n.has.slot n.has.inside) refl in
      subst (λ z. (status z).frozen ≡ false) (sym now) (inner-thawed s.past.config (s.past.at n.met) k (good-at s good s.past.since q n.met n.since n.until) n.has.slot n.has.inside h.inner)

  goes : (key : List ℕ) (path : Path) (height : ℕ) (ws : List ℕ) (phase : Way) → seek_facts key path height ws phase Waiting s → GoesOn (seek_asks s.past.config phase) (seek_differs phase) s
  goes key path height ws (Status k) f = reads (node_address s.past.config k + STATUS_AT) (seek_differs (Status k)) s (λ v a d. true≢false (sym d ∙ arrived-thawed key path k v f.1.0 a))
  goes key path height ws phase f = idles _ (seek_differs phase) s (λ entries e. absurd (cc)) (λ seen d. d)

pub seeks-go-on : SeeksGoOn
seeks-go-on t s same good f a = subst (λ z. GoesOn (seek_asks z t.phase) (seek_differs t.phase) s) same (goes s good (undisturbed.whole s good a) t.key t.path t.height t.words t.phase f.0)
