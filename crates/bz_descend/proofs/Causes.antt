-- A descent begins again where it reads a frozen status.
use Rattle.std.proofs.Common.{◌≡◌, ◌+◌, ℕ, List, sym, ap, inr}
use Rattle.bz_layout.specs.Addresses.{node_address}
use Rattle.bz_layout.specs.declared.config.Config.{Config}
use Rattle.bz_layout.specs.declared.sizes.TheConstants.{STATUS_AT}
use Rattle.bz_task.specs.Requests.{IsCause}
use Rattle.bz_task.specs.Scene.{Scene, Waiting}
use Rattle.bz_task.specs.declared.path.Path.{Path}
use Rattle.bz_task.specs.declared.todo.Seen.{Seen}
use Rattle.bz_task.specs.declared.todo.Seen.TheVariants.{Read as Was}
use Rattle.bz_descend.specs.SeekFacts.{seek_asks, seek_facts, seek_differs}
use Rattle.bz_descend.specs.declared.sight.Way.{Way}
use Rattle.bz_descend.specs.declared.sight.Way.TheVariants.{Status}

-- the answer is one to the read of a status
differs-by-status : (P : Way → Seen → Type 0) → ((k v : ℕ) → seek_differs (Status k) (Was v) → P (Status k) (Was v)) → (phase : Way) (seen : Seen) → seek_differs phase seen → P phase seen
differs-by-status P h (Status k) (Was v) d = h k v d
differs-by-status P h phase seen d = absurd (d)

pub cause : (c : Config) (key : List ℕ) (path : Path) (height : ℕ) (ws : List ℕ) (phase : Way) (s : Scene) (seen : Seen) → s.past.config ≡ c → seek_facts key path height ws phase Waiting s → seek_differs phase seen → IsCause (seek_asks c phase) seen s
cause c key path height ws phase s seen same facts differs =
    differs-by-status (λ at told. seek_facts key path height ws at Waiting s → IsCause (seek_asks c at) told s)
    (λ k v frozen f. inr (record {
      guard = inr (record {
        slot = k;
        address = ap (λ z. node_address z k + STATUS_AT) (sym same);
        moment = f.1.0.node.met;
        since = f.1.0.node.since;
        now = f.1.0.node.until;
        reached = f.1.0.node.reached;
      });
      frozen = frozen;
    })) phase seen differs facts
