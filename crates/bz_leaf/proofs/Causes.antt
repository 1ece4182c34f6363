-- What a validating load that differs says.
use Rattle.std.proofs.Common.{◌≡◌, ◌≢◌, ℕ, ◌+◌, arith, sym, subst, ◌∙◌, inl, inr, List}
use Rattle.std.specs.Prelude.{slice_index}
use Rattle.bz_layout.specs.Addresses.{node_address}
use Rattle.bz_layout.specs.declared.config.Config.{Config}
use Rattle.bz_node.specs.declared.image.NodeImage.{NodeImage}
use Rattle.bz_layout.specs.declared.sizes.TheConstants.{NODE_WORDS, STATUS_AT}
use Rattle.bz_task.specs.Instant.{words}
use Rattle.bz_task.specs.Requests.{Differed, IsStatusWord, IsCause}
use Rattle.bz_task.specs.Scene.{Scene, Waiting}
use Rattle.bz_task.specs.declared.path.Link.{Link}
use Rattle.bz_task.specs.declared.todo.Seen.{Seen}
use Rattle.bz_task.specs.declared.todo.Seen.TheVariants.{Start, Read as Was, Stored, Flushed, Swapped, NoSwap}
use Rattle.bz_leaf.specs.Facts.{Reading, leaf_asks, leaf_facts, leaf_differs}
use Rattle.bz_leaf.specs.declared.phase.LeafPhase.{LeafPhase}
use Rattle.bz_leaf.specs.declared.phase.LeafPhase.TheVariants.{Fresh, Status, Word, Again, Link as Of_link, Guard, Viewed, Changed}
use Rattle.bz_task.proofs.Guards.{guards-status}
use Rattle.bz_leaf.proofs.Viewing.{status-word}

-- the status was another one when it was read first
pub other-status : (c : Config) (key : List ℕ) (link : Link) (ws : List ℕ) (v : ℕ) (s : Scene) → s.past.config ≡ c → Reading key link ws NODE_WORDS s.past → v ≢ slice_index ws 0 → Differed s (node_address c link.slot + STATUS_AT) v
other-status c key link ws v s same r ne = record {
  moment = r.read_at;
  since = omega (arith, r.known.since, r.order);
  now = r.until;
  other = λ e. ne (sym e ∙ (status-word c (s.past.at r.read_at) link.slot ∙ subst (λ z. words z (s.past.at r.read_at) link.slot STATUS_AT ≡ slice_index ws 0) same r.was));
}

-- the link led to the leaf once
pub other-link : (key : List ℕ) (link : Link) (ws : List ℕ) (v : ℕ) (s : Scene) → Reading key link ws NODE_WORDS s.past → v ≢ link.slot + 1 → Differed s link.link v
other-link key link ws v s r ne = record { moment = r.known.moment; since = r.known.since; now = r.known.now; other = λ e. ne (sym e ∙ r.known.led) }

-- the guard of the link is a status word
pub guard-read : (key : List ℕ) (link : Link) (ws : List ℕ) (place : ℕ) (s : Scene) → Reading key link ws place s.past → IsStatusWord s link.guard
guard-read key link ws place s r = guards-status s link r.known.hung r.known.hung_since r.known.hung_now r.known.under

pub cause : (c : Config) (key : List ℕ) (link : Link) (image : NodeImage) (ws : List ℕ) (phase : LeafPhase) (s : Scene) (seen : Seen) → s.past.config ≡ c → leaf_facts key link ws phase Waiting s → leaf_differs link ws phase seen → IsCause (leaf_asks c link image phase) seen s
cause c key link image ws Fresh s (Was v) same f d = absurd (d)
cause c key link image ws Fresh s Start same f d = absurd (d)
cause c key link image ws Fresh s Stored same f d = absurd (d)
cause c key link image ws Fresh s Flushed same f d = absurd (d)
cause c key link image ws Fresh s (Swapped won) same f d = absurd (d)
cause c key link image ws Fresh s NoSwap same f d = absurd (d)
cause c key link image ws Status s (Was v) same f d = absurd (d)
cause c key link image ws Status s Start same f d = absurd (d)
cause c key link image ws Status s Stored same f d = absurd (d)
cause c key link image ws Status s Flushed same f d = absurd (d)
cause c key link image ws Status s (Swapped won) same f d = absurd (d)
cause c key link image ws Status s NoSwap same f d = absurd (d)
cause c key link image ws (Word i) s (Was v) same f d = absurd (d)
cause c key link image ws (Word i) s Start same f d = absurd (d)
cause c key link image ws (Word i) s Stored same f d = absurd (d)
cause c key link image ws (Word i) s Flushed same f d = absurd (d)
cause c key link image ws (Word i) s (Swapped won) same f d = absurd (d)
cause c key link image ws (Word i) s NoSwap same f d = absurd (d)
cause c key link image ws (Viewed at) s (Was v) same f d = absurd (d)
cause c key link image ws (Viewed at) s Start same f d = absurd (d)
cause c key link image ws (Viewed at) s Stored same f d = absurd (d)
cause c key link image ws (Viewed at) s Flushed same f d = absurd (d)
cause c key link image ws (Viewed at) s (Swapped won) same f d = absurd (d)
cause c key link image ws (Viewed at) s NoSwap same f d = absurd (d)
cause c key link image ws Changed s (Was v) same f d = absurd (d)
cause c key link image ws Changed s Start same f d = absurd (d)
cause c key link image ws Changed s Stored same f d = absurd (d)
cause c key link image ws Changed s Flushed same f d = absurd (d)
cause c key link image ws Changed s (Swapped won) same f d = absurd (d)
cause c key link image ws Changed s NoSwap same f d = absurd (d)
cause c key link image ws Again s (Was v) same f d = inl (other-status c key link ws v s same f.1.all d)
cause c key link image ws Of_link s (Was v) same f d = inl (other-link key link ws v s f.1.all d)
cause c key link image ws (Guard at) s (Was v) same f d = inr (record { guard = guard-read key link ws NODE_WORDS s f.1.leaf.all; frozen = d })
cause c key link image ws Again s Start same f d = absurd (d)
cause c key link image ws Again s Stored same f d = absurd (d)
cause c key link image ws Again s Flushed same f d = absurd (d)
cause c key link image ws Again s (Swapped won) same f d = absurd (d)
cause c key link image ws Again s NoSwap same f d = absurd (d)
cause c key link image ws Of_link s Start same f d = absurd (d)
cause c key link image ws Of_link s Stored same f d = absurd (d)
cause c key link image ws Of_link s Flushed same f d = absurd (d)
cause c key link image ws Of_link s (Swapped won) same f d = absurd (d)
cause c key link image ws Of_link s NoSwap same f d = absurd (d)
cause c key link image ws (Guard at) s Start same f d = absurd (d)
cause c key link image ws (Guard at) s Stored same f d = absurd (d)
cause c key link image ws (Guard at) s Flushed same f d = absurd (d)
cause c key link image ws (Guard at) s (Swapped won) same f d = absurd (d)
cause c key link image ws (Guard at) s NoSwap same f d = absurd (d)
