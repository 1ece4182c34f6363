-- The numbers of records by which reads are reckoned are those of the nodes on the way.
use Rattle.std.proofs.Common.{◌≡◌, ◌≤◌, ◌<◌, ◌+◌, ℕ, true, List, Some, arith, refl, sym, ap, subst, ◌∙◌, inl, inr}
use Rattle.std.specs.Prelude.{slice_get}
use Rattle.bz_layout.specs.Addresses.{node_address}
use Rattle.bz_layout.specs.declared.sizes.TheConstants.{STATUS_AT}
use Rattle.bz_word.specs.Statuses.{status}
use Rattle.bz_task.specs.Instant.{words}
use Rattle.bz_task.specs.Outcomes.{IsLink}
use Rattle.bz_task.specs.Scene.{Scene, IsScene, Waiting}
use Rattle.bz_task.specs.declared.path.Link.{Link}
use Rattle.bz_task.specs.declared.path.Path.{Path}
use Rattle.bz_task.specs.declared.todo.Outcome.TheVariants.{Path as IsAPath, Restart}
use Rattle.bz_descend.specs.SeekDuties.{end_of, facts_of}
use Rattle.bz_descend.specs.SeekFacts.{seek_end, seek_facts, reads_at, AreCountsOfNodes, StopsAfter}
use Rattle.bz_descend.specs.declared.seek.Seek.{Seek}
use Rattle.bz_descend.specs.declared.sight.Way.{Way}
use Rattle.bz_descend.specs.declared.sight.Way.TheVariants.{Found, Changed}
use Rattle.bz_descend.proofs.Leading.{word-of}
use Rattle.bz_descend.proofs.Moving.{restarts}

counts-are : (key : List ℕ) (s : Scene) (path : Path) → IsScene s → ((i : ℕ) (link : Link) → i < path.depth → slice_get path.links i ≡ Some link → IsLink key s.past link)
    → ((i : ℕ) (link next : Link) → i + 1 < path.depth → slice_get path.links i ≡ Some link → slice_get path.links (i + 1) ≡ Some next → next.guard ≡ node_address s.past.config link.slot + STATUS_AT)
    → AreCountsOfNodes path s.past
counts-are key s path good links below i above link lt e f =
    let g = (links (i + 1) link lt f).guarded in
    let guard : link.guard ≡ node_address s.past.config above.slot + STATUS_AT = below i above link lt e f in
    let until : g.guarded ≤ s.past.now = omega (arith, g.order, g.now) in
    elim g.under [
      | inl root ↦ absurd (omega (arith, root.guard, guard))
      | inr node ↦ (
          let same : node.parent ≡ above.slot = omega (arith, node.guard, guard) in
          let reached : (s.past.at g.guarded).reached above.slot ≡ true = subst (λ z. (s.past.at g.guarded).reached z ≡ true) same node.reached in
          let was : words s.past.config (s.past.at g.guarded) above.slot STATUS_AT ≡ link.status = sym (word-of s.past.config (s.past.at g.guarded) above.slot STATUS_AT (omega arith)) ∙ (ap (s.past.at g.guarded).value (sym guard) ∙ g.status) in
          record {
            moment = g.guarded;
            since = g.since;
            now = until;
            count = ap (λ z. (status z).count) ((good.history.good g.guarded g.since until).shown above.slot STATUS_AT reached (inl (omega arith)) ∙ was);
          })
    ]

-- it has ended with this path
found-path : (path other : Path) (phase : Way) → seek_end path phase ≡ Some (IsAPath other) → (phase ≡ Found) × (path ≡ other)
found-path path other Found e = (refl, (cc))
found-path path other phase e = absurd (cc)

pub found-counts : (t : Seek) (path : Path) (s : Scene) → IsScene s → facts_of t Waiting s → end_of t ≡ Some (IsAPath path) → AreCountsOfNodes path s.past
found-counts t path s good facts e =
    let at : (t.phase ≡ Found) × (t.path ≡ path) = found-path t.path path t.phase e in
    let f : seek_facts t.key t.path t.height t.words Found Waiting s = subst (λ z. seek_facts t.key t.path t.height t.words z Waiting s) at.0 facts.0 in
    subst (λ z. AreCountsOfNodes z s.past) at.1 (counts-are t.key s t.path good f.1.0.links f.1.0.below)

pub stops-after : (t : Seek) (s : Scene) → IsScene s → facts_of t Waiting s → end_of t ≡ Some Restart → StopsAfter t.key t.asked s.past
stops-after t s good facts e =
    let at : t.phase ≡ Changed = restarts t.path t.phase e in
    let f : seek_facts t.key t.path t.height t.words Changed Waiting s = subst (λ z. seek_facts t.key t.path t.height t.words z Waiting s) at facts.0 in
    record {
      path = t.path;
      frozen = f.1;
      counts = counts-are t.key s t.path good f.1.node.node.way.links f.1.node.node.way.below;
      few = subst (λ z. t.asked ≤ reads_at t.path z) at facts.1.reads;
    }
