-- What a split knows of the past stays.
use Rattle.std.proofs.Common.{◌≡◌, ℕ, ◌+◌, ◌<◌, ◌≤◌, List, slice_index, arith, sym, ap, subst, ◌∙◌}
use Rattle.std.specs.Prelude.{Some}
use Rattle.bz_layout.specs.Addresses.{node_address}
use Rattle.bz_layout.specs.declared.config.Config.{Config}
use Rattle.bz_layout.specs.declared.thresholds.TheConstants.{SPLIT_ABOVE}
use Rattle.bz_slotted.specs.Readers.{found_of, live_of}
use Rattle.bz_slotted.specs.ReadingLaws.{node_of}
use Rattle.bz_slotted.specs.Rules.{node_fault}
use Rattle.bz_task.specs.Instant.{Instant, words, durable, form_at}
use Rattle.bz_task.specs.Scene.{Past, Continues}
use Rattle.bz_task.specs.declared.path.Link.{Link}
use Rattle.bz_renew.proofs.Guards.{as-read-stays}
use Rattle.bz_renew.proofs.Staying.{guarded-stays, frozen-leaf-stays}
use Rattle.bz_split.specs.Facts.{Split, HasParted, IsSplitting, StoodFresh, WasSplit}

module _ (p q : Past) (c : Continues p q) (link : Link) (left right sep : List ℕ) where
  pub parted-stays : HasParted link left right sep p → HasParted link left right sep q
  parted-stays v = record {
    under = v.under;
    guard = guarded-stays p q c link v.guard;
    thawed = v.thawed;
    moment = v.moment;
    leaf = frozen-leaf-stays p q c link.slot v.moment v.leaf;
    many = subst (λ n. SPLIT_ABOVE < n) (sym (λ t. live_of (durable (c.config t) (c.at v.moment v.leaf.now t) link.slot))) v.many;
    separator = v.separator;
    left_whole = (λ t. node_fault (c.config t).nodes (node_of left) (node_of left) 0 ((form_at (c.config t) (c.at v.moment v.leaf.now t)).low link.slot) (Some sep)) ∙ v.left_whole;
    right_whole = (λ t. node_fault (c.config t).nodes (node_of right) (node_of right) 0 (Some sep) ((form_at (c.config t) (c.at v.moment v.leaf.now t)).high link.slot)) ∙ v.right_whole;
    before = λ key e. v.before key e ∙ sym (λ t. found_of (words (c.config t) (c.at v.moment v.leaf.now t) link.slot) key);
    from = λ key e. v.from key e ∙ sym (λ t. found_of (words (c.config t) (c.at v.moment v.leaf.now t) link.slot) key);
    left_size = v.left_size;
    right_size = v.right_size;
    left_plain = v.left_plain;
    right_plain = v.right_plain;
  }

  pub stood-stays : (slot before : ℕ) (image : List ℕ) → before + 1 ≤ p.now → StoodFresh slot image before p → StoodFresh slot image before q
  stood-stays slot before image now f = record {
    unreached = ap (λ (x : Instant). x.reached slot) (c.at before (omega (arith, now))) ∙ f.unreached;
    copied = λ i l. subst (λ (k : Config). (q.at (before + 1)).value (node_address k slot + i) ≡ slice_index image i) (sym c.config)
        (ap (λ (x : Instant). x.value (node_address p.config slot + i)) (c.at (before + 1) now) ∙ f.copied i l);
  }

  pub split-stays : WasSplit link left right sep p → WasSplit link left right sep q
  split-stays t = record {
    root_slot = t.root_slot;
    left_slot = t.left_slot;
    right_slot = t.right_slot;
    before = t.before;
    since = omega (arith, c.since, t.since);
    now = omega (arith, c.now, t.now);
    led = ap (λ (x : Instant). x.value link.link) (c.at (t.before + 1) t.now) ∙ t.led;
    root = stood-stays t.root_slot t.before _ t.now t.root;
    left_half = stood-stays t.left_slot t.before left t.now t.left_half;
    right_half = stood-stays t.right_slot t.before right t.now t.right_half;
  }

pub splitting-stays : (p q : Past) → Continues p q → (r : Split) → IsSplitting r p → IsSplitting r q
unfolding parted-stays
splitting-stays p q c r f = record { parted = parted-stays p q c r.link (r.image 1) (r.image 2) r.sep f.parted; looked = as-read-stays p q c r.link f.parted.moment f.looked; over = f.over }
