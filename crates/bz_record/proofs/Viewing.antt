-- The record that was found of a key is one of the key's leaf.
use Rattle.std.proofs.Common.{◌≡◌, ℕ, ◌+◌, List, arith, sym, ap, subst, ◌∙◌, inl}
use Rattle.std.specs.Prelude.{Some}
use Rattle.bz_layout.specs.declared.sizes.TheConstants.{META_AT}
use Rattle.bz_slotted.specs.Page.{meta_of, held, extent_of, page}
use Rattle.bz_slotted.specs.Records.{key_in}
use Rattle.bz_slotted.specs.Whole.{Whole, IsInBlock, IsLeafRecord}
use Rattle.bz_word.specs.Metas.{meta_word, IsMeta}
use Rattle.bz_word.specs.Statuses.{status}
use Rattle.bz_word.specs.declared.meta.Extent.{Extent}
use Rattle.bz_word.specs.declared.meta.Meta.TheVariants.{Visible}
use Rattle.bz_content.specs.Image.{node}
use Rattle.bz_task.specs.Instant.{words, durable, form_at}
use Rattle.bz_task.specs.Outcomes.{payload_of, IsKeyView, IsRecordOf}
use Rattle.bz_task.specs.Scene.{Scene, IsScene}
use Rattle.bz_task.specs.declared.view.Found.{Found}
use Rattle.bz_task.specs.declared.view.KeyView.{KeyView}
use Rattle.bz_record.specs.Laws.{IsKeyViewed}
use Rattle.bz_record.specs.Leaves.{WasLeafOf}
use Rattle.bz_record.specs.Replacing.{WasRecord}
use Rattle.bz_record.specs.ReplacingLaws.{KeyViewsShowRecords}
use Rattle.bz_record.proofs.Finding.{visible-is, visible-word}
use Rattle.bz_record.proofs.Leaves.{IsSeen, seen-key, then-good, leaf, whole, durable-status, held-visible, key-views-show}

module _ (key : List ℕ) (view : KeyView) (found : Found) (s : Scene) (good : IsScene s) (v : IsKeyView key view s.past) (is : view.found ≡ Some found) where
  abbrev e : Extent
  e = extent_of (meta_of found.meta)

  abbrev seen : IsSeen key view.slot view.status view.at s.past
  seen = seen-key key view s.past v

  shows : IsRecordOf key (durable s.past.config (s.past.at view.at) view.slot) found
  shows = v.shows found is

  says : meta_of found.meta ≡ Visible e
  says = visible-is (meta_of found.meta) shows.visible

  lawful : IsMeta (Visible e) × (meta_word (Visible e) ≡ found.meta)
  lawful = visible-word found.meta e says

  leaf-is : IsKeyViewed key view s.past
  leaf-is = key-views-show key view s good v

  its : Whole (node s.past.config (s.past.at view.at).image view.slot) (page (durable s.past.config (s.past.at view.at) view.slot)) ((form_at s.past.config (s.past.at view.at)).low view.slot) ((form_at s.past.config (s.past.at view.at)).high view.slot)
  its = whole key view.slot view.status view.at s good seen

  -- the metadata word, as it is read and in the image
  count-is : (page (durable s.past.config (s.past.at view.at) view.slot)).count ≡ (status view.status).count
  count-is = ap (λ z. (status z).count) (durable-status key view.slot view.status view.at s good seen)

  count-read : (page (words s.past.config (s.past.at view.at) view.slot)).count ≡ (status view.status).count
  count-read = ap (λ z. (status z).count) v.status

  meta-is : (page (durable s.past.config (s.past.at view.at) view.slot)).meta found.index ≡ meta_of found.meta
  meta-is = ap meta_of shows.word

  lengths : IsLeafRecord (meta_of found.meta)
  lengths = subst IsLeafRecord meta-is (its.lengths found.index shows.counted)

  inside : IsInBlock (page (durable s.past.config (s.past.at view.at) view.slot)) (meta_of found.meta)
  inside = subst (IsInBlock (page (durable s.past.config (s.past.at view.at) view.slot))) meta-is (its.inside found.index shows.counted (ap held meta-is ∙ held-visible (meta_of found.meta) shows.visible))

  record-is : WasRecord key found.payload view.slot view.status found.index e s.past
  record-is = record {
    moment = view.at;
    leaf = subst (λ z. WasLeafOf key (payload_of z) view.slot view.status view.at s.past) is leaf-is.leaf;
    counted = omega (arith, shows.counted, count-is);
    extent = lawful.0;
    some = lengths.some;
    small = omega (arith, inside.starts, inside.ends, its.filled.room);
    dead = omega (arith, leaf-is.dead, leaf-is.room);
    meta = sym ((then-good key view.slot view.status view.at s good seen).shown view.slot (META_AT + found.index) (leaf key view.slot view.status view.at s good seen).reached (inl (omega (arith, shows.counted, count-is, count-read)))) ∙ (shows.word ∙ sym lawful.1);
    is_key = ap (λ z. key_in (durable s.past.config (s.past.at view.at) view.slot) (extent_of z)) meta-is ∙ shows.same;
  }

pub key-views-show-records : KeyViewsShowRecords
key-views-show-records key view found s good v is = record-is key view found s good v is
