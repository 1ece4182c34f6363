-- What a leaf and a record of it were, they were.
use Rattle.std.proofs.Common.{◌≡◌, ℕ, ◌+◌, ◌<◌, ◌≤◌, true, List, Option, arith, sym, subst}
use Rattle.std.specs.Prelude.{Some, None}
use Rattle.bz_layout.specs.declared.config.Config.{Config}
use Rattle.bz_layout.specs.declared.sizes.TheConstants.{NODE_WORDS, STATUS_AT, META_AT}
use Rattle.bz_tree.specs.Order.{is_within}
use Rattle.bz_slotted.specs.Page.{held, extent_of, page}
use Rattle.bz_slotted.specs.Readers.{found_of}
use Rattle.bz_slotted.specs.Records.{key_at}
use Rattle.bz_word.specs.Metas.{meta_word}
use Rattle.bz_word.specs.Statuses.{status}
use Rattle.bz_word.specs.declared.meta.Extent.{Extent}
use Rattle.bz_word.specs.declared.meta.Meta.TheVariants.{Reserved, Visible}
use Rattle.bz_task.specs.Instant.{Instant, words, durable, page_at, form_at, is_inside}
use Rattle.bz_task.specs.Scene.{Past, Continues}
use Rattle.bz_record.specs.Laws.{LeavesWere}
use Rattle.bz_record.specs.Leaves.{WasLeafThen, WasLeafOf, WasReserved}
use Rattle.bz_record.specs.Records.{place_of}
use Rattle.bz_record.specs.Replacing.{status_grown, WasRecord}
use Rattle.bz_record.specs.ReplacingLaws.{RecordsWere}
use Rattle.bz_record.specs.Swaps.{status_reserved}
use Rattle.bz_record.specs.declared.new_record.NewRecord.{NewRecord}
use Rattle.bz_record.proofs.Effects.{had-swapped}

-- what held of the sizes and the memory at a past moment
moved : (p q : Past) → Continues p q → (P : Config → Instant → Type 0) (m : ℕ) → m ≤ p.now → P p.config (p.at m) → P q.config (q.at m)
moved p q n P m h f = subst (λ c. P c (q.at m)) (sym n.config) (subst (λ x. P p.config x) (sym (n.at m h)) f)

abbrev leaf : (k st moment : ℕ) (p q : Past) → WasLeafThen k st moment p → Continues p q → WasLeafThen k st moment q
leaf k st moment p q w n = record {
  since = omega (arith, w.since, n.since);
  now = omega (arith, w.now, n.now);
  slot = subst (λ c. k < c.nodes) (sym n.config) w.slot;
  inside = moved p q n (λ c x. is_inside c x k ≡ true) moment w.now w.inside;
  leaf = moved p q n (λ c x. (form_at c x).level k ≡ 0) moment w.now w.leaf;
  was = moved p q n (λ c x. words c x k STATUS_AT ≡ st) moment w.now w.was;
  plain = w.plain;
}

abbrev leaf-of : (key : List ℕ) (said : Option (List ℕ)) (k st moment : ℕ) (p q : Past) → WasLeafOf key said k st moment p → Continues p q → WasLeafOf key said k st moment q
leaf-of key said k st moment p q w n = record {
  leaf = leaf k st moment p q w.leaf n;
  range = moved p q n (λ c x. is_within key ((form_at c x).low k) ((form_at c x).high k) ≡ true) moment w.leaf.now w.range;
  found = moved p q n (λ c x. found_of (durable c x k) key ≡ said) moment w.leaf.now w.found;
}

was-reserved : (r : NewRecord) (p q : Past) → WasReserved r p → Continues p q → WasReserved r q
was-reserved r p q w n = record {
  moment = w.moment;
  leaf = leaf-of r.key None r.slot (status_reserved r) w.moment p q w.leaf n;
  meta = moved p q n (λ c x. words c x r.slot (META_AT + (status r.status).count) ≡ meta_word (Reserved (place_of r))) w.moment w.leaf.leaf.now w.meta;
  unsorted = moved p q n (λ c x. (page_at c x r.slot).sorted ≤ (status r.status).count) w.moment w.leaf.leaf.now w.unsorted;
  swapped = had-swapped w.moment p q w.leaf.leaf.since w.leaf.leaf.now w.swapped n;
}

pub leaves-were : LeavesWere
leaves-were = record { leaf = leaf-of; reserved = was-reserved }

abbrev found : (key payload : List ℕ) (k st place : ℕ) (e : Extent) (p q : Past) → WasRecord key payload k st place e p → Continues p q → WasRecord key payload k st place e q
found key payload k st place e p q w n = record {
  moment = w.moment;
  leaf = leaves-were.leaf key (Some payload) k st w.moment p q w.leaf n;
  counted = w.counted;
  extent = w.extent;
  some = w.some;
  small = w.small;
  dead = w.dead;
  meta = moved p q n (λ c x. words c x k (META_AT + place) ≡ meta_word (Visible e)) w.moment w.leaf.leaf.now w.meta;
  is_key = moved p q n (λ c x. key_at (page (durable c x k)) place ≡ key) w.moment w.leaf.leaf.now w.is_key;
}

pub remembering : RecordsWere
remembering = record {
  found = found;
  grown = λ r old place e p q g n. record {
    was = found r.key old r.slot (status_grown r) place e p q g.was n;
    older = moved p q n (λ c x. (i : ℕ) → i < (status r.status).count → held ((page (durable c x r.slot)).meta i) ≡ true → NODE_WORDS ≤ (extent_of ((page (durable c x r.slot)).meta i)).offset + (status r.status).block) g.was.moment g.was.leaf.leaf.now g.older;
    swapped = had-swapped g.was.moment p q g.was.leaf.leaf.since g.was.leaf.leaf.now g.swapped n;
  };
}
