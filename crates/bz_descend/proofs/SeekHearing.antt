-- What a descent by halving reads is such as the nodes of a tree have.
use Rattle.std.proofs.Common.{◌≡◌, ℕ, ◌+◌, ◌<◌, List, arith, sym, subst}
use Rattle.bz_layout.specs.Addresses.{node_address}
use Rattle.bz_layout.specs.declared.config.Config.{Config}
use Rattle.bz_layout.specs.declared.sizes.TheConstants.{META_AT}
use Rattle.bz_slotted.specs.Page.{meta_of, extent_of, page}
use Rattle.bz_task.specs.Instant.{words}
use Rattle.bz_task.specs.Requests.{Answers, Tells}
use Rattle.bz_task.specs.Scene.{Scene, Stage, Waiting, Took, IsScene}
use Rattle.bz_task.specs.declared.path.Path.{Path}
use Rattle.bz_task.specs.declared.todo.Seen.{Seen}
use Rattle.bz_task.specs.declared.todo.Seen.TheVariants.{Read as Was}
use Rattle.bz_descend.specs.Facts.{IsInNode}
use Rattle.bz_descend.specs.Halving.{Sees, SeesFirst}
use Rattle.bz_descend.specs.SeekFacts.{seek_asks, seek_facts, seek_heard}
use Rattle.bz_descend.specs.declared.sight.Probe.{Probe}
use Rattle.bz_descend.specs.declared.sight.Sight.{Sight}
use Rattle.bz_descend.specs.declared.sight.Way.{Way}
use Rattle.bz_descend.specs.declared.sight.Way.TheVariants.{Root, Header, Status, Meta, First, Pointer}
use Rattle.bz_descend.proofs.Arriving.{root-is}
use Rattle.bz_descend.proofs.Hearing.{record-in, header-heard, status-heard}
use Rattle.bz_descend.proofs.Leading.{led}
use Rattle.bz_descend.proofs.Separating.{meta-at}

module _ (key : List ℕ) (path : Path) (height : ℕ) (ws : List ℕ) (s : Scene) (good : IsScene s) where
  sight-heard : (r : Sight) (v : ℕ) (l : Sees key path r s.past) → Answers s (node_address s.past.config r.slot + (META_AT + r.part.index)) v → IsInNode (extent_of (meta_of v)) × (0 < (extent_of (meta_of v)).key)
  sight-heard r v l t =
      let n = words s.past.config (s.past.at l.opened.guarded) r.slot in
      let c : r.part.index < (page n).count = omega (arith, l.index, l.some, l.narrows.within) in
      let e = meta-at key path s good r.slot r.status l.opened r.part.index c v t in
      (subst IsInNode e (record-in n r.part.index l.opened.inner c), subst (λ z. 0 < z.key) e ((l.opened.inner.lengths r.part.index c).some (omega (arith, l.index, l.some, l.narrows.some))))

  first-heard : (r : Probe) (v : ℕ) (l : SeesFirst key path r s.past) → Answers s (node_address s.past.config r.slot + META_AT) v → IsInNode (extent_of (meta_of v))
  first-heard r v l t =
      let n = words s.past.config (s.past.at l.opened.guarded) r.slot in
      subst IsInNode (meta-at key path s good r.slot r.status l.opened 0 l.opened.inner.some v t) (record-in n 0 l.opened.inner l.opened.inner.some)

  heard-here : (stage : Stage) (phase : Way) (seen : Seen) → seek_facts key path height ws phase stage s → Tells (seek_asks s.past.config phase) stage seen s → seek_heard s.past.config path.depth phase seen
  heard-here Took phase seen f t = absurd (f)
  heard-here Waiting (Root st) (Was v) f t = let h = root-is key s good st v f.1 t in (omega (arith, h.pointer, t.value), omega (arith, h.slot))
  heard-here Waiting (Header k) (Was v) f t = header-heard key path s good k v f.1 t
  heard-here Waiting (Status k) (Was v) f t = status-heard key path s good k v f.1.0 t
  heard-here Waiting (Meta r) (Was v) f t = sight-heard r v f.1.0 t
  heard-here Waiting (First r) (Was v) f t = first-heard r v f.1.0 t
  heard-here Waiting (Pointer r) (Was v) f t = let d = led key path s good r f.1.0 v t in (d.some, omega (arith, d.some, d.has.slot))
  heard-here Waiting phase seen f t = tt

  pub seek-heard : (c : Config) (stage : Stage) (phase : Way) (seen : Seen) → s.past.config ≡ c → seek_facts key path height ws phase stage s → Tells (seek_asks c phase) stage seen s → seek_heard c path.depth phase seen
  seek-heard c stage phase seen same f t =
      subst (λ z. seek_heard z path.depth phase seen) same (heard-here stage phase seen f (subst (λ z. Tells (seek_asks z phase) stage seen s) (sym same) t))
