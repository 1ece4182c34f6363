-- What a consolidation knows of the past stays.
use Rattle.std.proofs.Common.{◌≡◌, ℕ, ◌+◌, ◌≤◌, List, slice_index, arith, sym, ap, subst, ◌∙◌}
use Rattle.bz_layout.specs.Addresses.{node_address}
use Rattle.bz_layout.specs.declared.config.Config.{Config}
use Rattle.bz_slotted.specs.ReadingLaws.{node_of}
use Rattle.bz_task.specs.Instant.{Instant, words, form_at}
use Rattle.bz_task.specs.Laws.{SaysAlike}
use Rattle.bz_task.specs.Scene.{Past, Continues}
use Rattle.bz_task.specs.declared.path.Link.{Link}
use Rattle.bz_consol.specs.Facts.{WasTurned, HasViewed, IsCopying}
use Rattle.bz_renew.proofs.Guards.{as-read-stays}
use Rattle.bz_renew.proofs.Staying.{guarded-stays, frozen-leaf-stays}

module _ (p q : Past) (c : Continues p q) where
  pub viewed-stays : (link : Link) (image : List ℕ) → HasViewed link image p → HasViewed link image q
  viewed-stays link image v = record {
    guard = guarded-stays p q c link v.guard;
    thawed = v.thawed;
    moment = v.moment;
    leaf = frozen-leaf-stays p q c link.slot v.moment v.leaf;
    alike = alike-stays v.moment v.leaf.now v.alike;
    size = v.size;
    plain = v.plain;
  }
    where
      alike-stays : (m : ℕ) (l : m ≤ p.now) → SaysAlike p.config.nodes (words p.config (p.at m) link.slot) (node_of image) ((form_at p.config (p.at m)).low link.slot) ((form_at p.config (p.at m)).high link.slot)
          → SaysAlike q.config.nodes (words q.config (q.at m) link.slot) (node_of image) ((form_at q.config (q.at m)).low link.slot) ((form_at q.config (q.at m)).high link.slot)
      alike-stays m l a = subst (λ z. SaysAlike z.nodes (words z (q.at m) link.slot) (node_of image) ((form_at z (q.at m)).low link.slot) ((form_at z (q.at m)).high link.slot)) (sym c.config)
          (subst (λ z. SaysAlike p.config.nodes (words p.config z link.slot) (node_of image) ((form_at p.config z).low link.slot) ((form_at p.config z).high link.slot)) (sym (c.at m l)) a)

  pub copying-stays : (link : Link) (image : List ℕ) → IsCopying link image p → IsCopying link image q
  unfolding viewed-stays
  copying-stays link image v = record { viewed = viewed-stays link image v.viewed; looked = as-read-stays p q c link v.viewed.moment v.looked }

pub turned-stays : (p q : Past) → Continues p q → (link : Link) (image : List ℕ) → WasTurned link image p → WasTurned link image q
turned-stays p q c link image t = record {
  slot = t.slot;
  before = t.before;
  since = omega (arith, c.since, t.since);
  now = omega (arith, c.now, t.now);
  unreached = ap (λ (x : Instant). x.reached t.slot) (c.at t.before (omega (arith, t.now))) ∙ t.unreached;
  led = ap (λ (x : Instant). x.value link.link) (c.at (t.before + 1) t.now) ∙ t.led;
  copied = λ i l. subst (λ (k : Config). (q.at (t.before + 1)).value (node_address k t.slot + i) ≡ slice_index image i) (sym c.config)
      (ap (λ (x : Instant). x.value (node_address p.config t.slot + i)) (c.at (t.before + 1) t.now) ∙ t.copied i l);
}
