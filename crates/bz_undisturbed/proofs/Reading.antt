-- A reading of a leaf goes on: what it looks at again is as it was.
use Rattle.std.proofs.Common.{ℕ, ◌+◌, List, sym, subst, ◌∙◌}
use Rattle.std.proofs.lemmas.Bool.{true≢false}
use Rattle.bz_layout.specs.Addresses.{node_address}
use Rattle.bz_layout.specs.declared.sizes.TheConstants.{STATUS_AT}
use Rattle.bz_node.specs.declared.image.NodeImage.{NodeImage}
use Rattle.bz_task.specs.Outcomes.{IsPath}
use Rattle.bz_task.specs.Scene.{Scene, Waiting, IsScene}
use Rattle.bz_task.specs.declared.path.Link.{Link}
use Rattle.bz_task.specs.declared.path.Path.{Path}
use Rattle.bz_leaf.specs.Facts.{IsLastLink, leaf_asks, leaf_facts, leaf_differs}
use Rattle.bz_leaf.specs.declared.phase.LeafPhase.{LeafPhase}
use Rattle.bz_leaf.specs.declared.phase.LeafPhase.TheVariants.{Again, Link as Of_link, Guard}
use Rattle.bz_undisturbed.specs.Undisturbed.{GoesOn}
use Rattle.bz_undisturbed.specs.Lookups.{ReadingsGoOn}
use Rattle.bz_undisturbed.specs.Quiet.{IsQuietSince}
use Rattle.bz_undisturbed.proofs.Going.{idles, reads}
use Rattle.bz_undisturbed.proofs.LastLinks.{status-again, link-again, guard-thawed}
use Rattle.bz_undisturbed.proofs.Quiet.{undisturbed}

module _ (s : Scene) (good : IsScene s) (q : IsQuietSince s.past.since s.past) (key : List ℕ) (path : Path) (link : Link) (is : IsPath key path s.past) (last : IsLastLink path link) where
  goes : (image : NodeImage) (phase : LeafPhase) → leaf_facts key link image.0 phase Waiting s → GoesOn (leaf_asks s.past.config link image phase) (leaf_differs link image.0 phase) s
  goes image Again f = reads (node_address s.past.config link.slot + STATUS_AT) (leaf_differs link image.0 Again) s (λ v a d. d (sym a.value ∙ status-again s good q key link image.0 _ f.1.all))
  goes image Of_link f = reads link.link (leaf_differs link image.0 Of_link) s (λ v a d. d (sym a.value ∙ link-again s good q key link f.1.all.known))
  goes image (Guard at) f = reads link.guard (leaf_differs link image.0 (Guard at)) s (λ v a d. true≢false (sym d ∙ guard-thawed s good q link v a key path is last))
  goes image phase f = idles _ (leaf_differs link image.0 phase) s (λ entries e. absurd (cc)) (λ seen d. d)

pub readings-go-on : ReadingsGoOn
readings-go-on t s same good f a =
    subst (λ z. GoesOn (leaf_asks z t.link t.image t.phase) (leaf_differs t.link t.image.0 t.phase) s) same (goes s good (undisturbed.whole s good a) t.key t.path t.link f.1 f.2 t.image t.phase f.0)
