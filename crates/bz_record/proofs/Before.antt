-- The leaf of a record that a swap is to change, before the swap: its status and the record's metadata word are the expected ones.
use Rattle.std.proofs.Common.{◌≡◌, ℕ, ◌+◌, ◌<◌, true, arith, refl, ap, ◌∙◌, inl, inr}
use Rattle.bz_layout.specs.declared.sizes.TheConstants.{NODE_WORDS, STATUS_AT, META_AT}
use Rattle.bz_tree.specs.Order.{is_within}
use Rattle.bz_slotted.specs.Page.{page}
use Rattle.bz_slotted.specs.Readers.{found_of}
use Rattle.bz_slotted.specs.Whole.{Whole}
use Rattle.bz_slotted.proofs.Proved.{leaf_rules_are_facts}
use Rattle.bz_word.specs.Statuses.{status}
use Rattle.bz_word.specs.declared.meta.Meta.{Meta}
use Rattle.bz_content.specs.Image.{node}
use Rattle.bz_task.specs.FromSwap.SwapMemory.{is_target}
use Rattle.bz_task.specs.Instant.{words, durable, form_at}
use Rattle.bz_task.specs.Laws.{IsLeafInTree}
use Rattle.bz_task.specs.LeafSwaps.{IsWordOf}
use Rattle.bz_task.specs.Requests.{IsTarget}
use Rattle.bz_task.specs.Scene.{Scene, IsScene, here}
use Rattle.bz_task.specs.Swaps.{Change, Stand}
use Rattle.bz_record.specs.Laws.{SameLeaf, IsRewrite}
use Rattle.bz_record.specs.Swaps.{entries_of}
use Rattle.bz_record.specs.declared.record_swap.RecordSwap.{RecordSwap}
use Rattle.bz_record.proofs.Entries.{finds-meta, target-of, each-target, status-now, same-now, good-now, durable-status-now}

pub record IsBefore (w : RecordSwap) (change : Change) (s : Scene) : Type 0 where
  pub leaf : IsLeafInTree s.past.config (here s) w.slot
  pub whole : Whole (node s.past.config (here s).image w.slot) (page (durable s.past.config (here s) w.slot)) ((form_at s.past.config (here s)).low w.slot) ((form_at s.past.config (here s)).high w.slot)
  -- the status, and the counts in it
  pub was : words s.past.config (here s) w.slot STATUS_AT ≡ w.status
  pub was_durable : durable s.past.config (here s) w.slot STATUS_AT ≡ w.status
  pub count_was : (page (words s.past.config (here s) w.slot)).count ≡ (status w.status).count
  pub block_was : (page (words s.past.config (here s) w.slot)).block ≡ (status w.status).block
  pub count_durable : (page (durable s.past.config (here s) w.slot)).count ≡ (status w.status).count
  pub block_durable : (page (durable s.past.config (here s) w.slot)).block ≡ (status w.status).block
  -- the metadata word
  pub place : META_AT + w.place < NODE_WORDS
  pub meta : durable s.past.config (here s) w.slot (META_AT + w.place) ≡ w.meta
  -- the key
  pub range : is_within change.key ((form_at s.past.config (here s)).low w.slot) ((form_at s.past.config (here s)).high w.slot) ≡ true
  pub found : found_of (durable s.past.config (here s) w.slot) change.key ≡ change.old
  -- both words may be named
  pub targets : (a : ℕ) → is_target (entries_of s.past.config w) a ≡ true → IsTarget s a
  pub words_of : (a : ℕ) → is_target (entries_of s.past.config w) a ≡ true → IsWordOf s w.slot a

module _ (s : Scene) (w : RecordSwap) (mt : Meta) (change : Change) (good : IsScene s) (f : IsRewrite w mt change s) (stand : Stand (entries_of s.past.config w) (here s)) where
  now : SameLeaf s.past.config (s.past.at f.moment) (here s) w.slot
  now = same-now s w f.moment good f.leaf.leaf f.thawed stand

  was : words s.past.config (here s) w.slot STATUS_AT ≡ w.status
  was = status-now s w f.moment good f.leaf.leaf f.thawed stand

  was-durable : durable s.past.config (here s) w.slot STATUS_AT ≡ w.status
  was-durable = durable-status-now s w f.moment good f.leaf.leaf f.thawed stand

  whole : Whole (node s.past.config (here s).image w.slot) (page (durable s.past.config (here s) w.slot)) ((form_at s.past.config (here s)).low w.slot) ((form_at s.past.config (here s)).high w.slot)
  whole = (leaf_rules_are_facts s.past.config.nodes (node s.past.config (here s).image w.slot) (durable s.past.config (here s) w.slot) _ _).0 now.leaf.whole

  count-durable : (page (durable s.past.config (here s) w.slot)).count ≡ (status w.status).count
  count-durable = ap (λ z. (status z).count) was-durable

  block-durable : (page (durable s.past.config (here s) w.slot)).block ≡ (status w.status).block
  block-durable = ap (λ z. (status z).block) was-durable

  count-was : (page (words s.past.config (here s) w.slot)).count ≡ (status w.status).count
  count-was = ap (λ z. (status z).count) was

  block-was : (page (words s.past.config (here s) w.slot)).block ≡ (status w.status).block
  block-was = ap (λ z. (status z).block) was

  place : META_AT + w.place < NODE_WORDS
  place = omega (arith, f.counted, count-durable, whole.filled.room)

  named : (a : ℕ) → is_target (entries_of s.past.config w) a ≡ true → IsTarget s a
  named = each-target (IsTarget s) s.past.config w
      (inr (inr (record { slot = w.slot; place = STATUS_AT; address = refl; within = omega arith; reached = now.leaf.reached; kind = inl refl })))
      (inr (inr (record {
        slot = w.slot;
        place = META_AT + w.place;
        address = refl;
        within = place;
        reached = now.leaf.reached;
        kind = inr (inl (record { leaf = now.leaf.flat; from = omega arith; to = omega (arith, f.counted, count-was); free = omega (arith, f.counted, block-was, count-durable, block-durable, whole.filled.room) }));
      })))

  pub before : IsBefore w change s
  before = record {
    leaf = now.leaf;
    whole = whole;
    was = was;
    was_durable = was-durable;
    count_was = count-was;
    block_was = block-was;
    count_durable = count-durable;
    block_durable = block-durable;
    place = place;
    meta = (good-now s w f.moment good f.leaf.leaf f.thawed stand).shown w.slot (META_AT + w.place) now.leaf.reached (inl (omega (arith, f.counted, count-was))) ∙ finds-meta s.past.config w (here s) stand place;
    range = rw (now.place.low, now.place.high) f.leaf.range;
    found = now.found change.key ∙ f.leaf.found;
    targets = named;
    words_of = target-of s w place;
  }
