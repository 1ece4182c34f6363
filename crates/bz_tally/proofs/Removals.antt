-- The removal of a record from the leaf of its key: the tree stands as it stood, and of the leaf one metadata word says something else.
use Rattle.std.proofs.Common.{◌≡◌, ◌≢◌, ℕ, ◌+◌, ◌-◌, ◌<◌, ◌≤◌, ◌==◌, true, false, List, [], ◌∷◌, arith, refl, sym, ap, subst, ◌∙◌, inl, inr}
use Rattle.std.proofs.lemmas.Bool.{cases_lt}
use Rattle.std.proofs.lemmas.Bool.Decides.{nat_tests}
use Rattle.bz_layout.specs.Addresses.{node_address}
use Rattle.bz_layout.specs.declared.config.Config.{Config}
use Rattle.bz_layout.specs.declared.sizes.TheConstants.{NODE_WORDS, STATUS_AT, META_AT}
use Rattle.bz_layout.specs.declared.thresholds.TheConstants.{LEAF_RECORD_WORDS}
use Rattle.bz_leaves.specs.Laws.{KeepsSlots}
use Rattle.bz_any_task.specs.FromMerge.Merges.{WasLeafOnce}
use Rattle.bz_node.specs.Reading.{extent_words}
use Rattle.bz_record.specs.Laws.{SameLeaf}
use Rattle.bz_record.specs.Replacing.{WasRecord, removal}
use Rattle.bz_record.specs.Swaps.{entries_of, meta_entry, status_entry}
use Rattle.bz_record.specs.declared.record_swap.RecordSwap.{RecordSwap}
use Rattle.bz_record.proofs.Proved.{leaves_stay, removals_are_good}
use Rattle.bz_renew.proofs.Words.{and-left, and-right}
use Rattle.bz_tree.specs.Form.{Form, Holds}
use Rattle.bz_tree.specs.Order.{is_at_least, is_below}
use Rattle.bz_tree.specs.Walk.{IsTree}
use Rattle.bz_tree.proofs.Proved.{leaves_tile_the_keys}
use Rattle.bz_slotted.specs.Page.{page, meta_of}
use Rattle.bz_slotted.specs.Records.{live_block, live_to, live_words}
use Rattle.bz_slotted.specs.Whole.{Whole}
use Rattle.bz_slotted.proofs.Proved.{leaf_rules_are_facts}
use Rattle.bz_word.specs.Statuses.{IsStatus, status}
use Rattle.bz_word.specs.declared.entry.Entry.{Entry}
use Rattle.bz_word.specs.declared.meta.Extent.{Extent}
use Rattle.bz_word.specs.declared.status.Status.{Status}
use Rattle.bz_word.proofs.Lemmas.{statuses}
use Rattle.bz_content.specs.Content.{image_of, leaf_in, view_in}
use Rattle.bz_content.specs.Image.{node}
use Rattle.bz_content.specs.Resolving.{resolve}
use Rattle.bz_content.proofs.Proved.{well_formed_images_have_no_fault}
use Rattle.bz_task.specs.Good.{IsGood}
use Rattle.bz_task.specs.Instant.{Instant, words, durable, form_at}
use Rattle.bz_task.specs.Laws.{SlotWords}
use Rattle.bz_task.specs.Scene.{Scene, IsScene, here}
use Rattle.bz_task.specs.Steps.{next_stamp}
use Rattle.bz_task.specs.Swaps.{Stand, SwapsTo, swapped}
use Rattle.bz_task.proofs.Proved.{leaves_are_in_trees, swaps_show_in_slots}
use Rattle.bz_tally.proofs.LeafWords.{kept, names-record}
use Rattle.bz_tally.proofs.Lives.{block-live, live-put, record-fits}
use Rattle.bz_tally.specs.Deletes.{LosesOneRecord, live_of_key}

-- what the first of two entries sets, and what both leave
set-first : (e f : Entry) (g : ℕ → ℕ) (a : ℕ) → e.target ≡ a → swapped (e ∷ f ∷ []) g a ≡ e.new
set-first e f g a h = let t : (e.target == a) ≡ true = grind (arith, nat_tests) in rw t refl

leave-both : (e f : Entry) (g : ℕ → ℕ) (a : ℕ) → e.target ≢ a → f.target ≢ a → swapped (e ∷ f ∷ []) g a ≡ g a
leave-both e f g a n m =
    let t : (e.target == a) ≡ false = grind (arith, nat_tests) in
    let u : (f.target == a) ≡ false = grind (arith, nat_tests) in rw (t, u) refl

module _ (s : Scene) (y : Instant) (key payload : List ℕ) (k st place : ℕ) (e : Extent) (good : IsScene s) (w : WasRecord key payload k st place e s.past) (thawed : (status st).frozen ≡ false)
    (stand : Stand (entries_of s.past.config (removal k st place e)) (here s)) (swaps : SwapsTo s.past.config (entries_of s.past.config (removal k st place e)) (here s) y) where
  abbrev c : Config
  c = s.past.config

  abbrev r : RecordSwap
  r = removal k st place e

  slot : SlotWords s.past.config (entries_of s.past.config (removal k st place e)) (here s) y k
  slot = swaps_show_in_slots c (entries_of c r) (here s) y k swaps

  now : IsGood s.past.config (here s)
  now = good.history.good s.past.now good.begun (omega arith)

  -- the leaf is as it was when the record was found
  status-is : words s.past.config (here s) k STATUS_AT ≡ st
  status-is = (slot.within STATUS_AT (omega arith)).before ∙ stand 0 (status_entry c r) (omega arith)

  same : SameLeaf s.past.config (s.past.at w.moment) (here s) k
  same = leaves_stay s k st w.moment good w.leaf.leaf thawed status-is

  durable-status : durable s.past.config (here s) k STATUS_AT ≡ st
  durable-status = now.shown k STATUS_AT same.leaf.reached (inl (omega arith)) ∙ status-is

  whole : Whole (node s.past.config (here s).image k) (page (durable s.past.config (here s) k)) ((form_at s.past.config (here s)).low k) ((form_at s.past.config (here s)).high k)
  whole = (leaf_rules_are_facts c.nodes (node c (here s).image k) (durable c (here s) k) _ _).0 same.leaf.whole

  count-is : (page (durable s.past.config (here s) k)).count ≡ (status st).count
  count-is = ap (λ z. (status z).count) durable-status

  within : META_AT + place < NODE_WORDS
  within = omega (arith, w.counted, count-is, whole.filled.room)

  -- what the swap makes of its words
  status-after : durable s.past.config y k STATUS_AT ≡ r.new_status
  status-after = (slot.within STATUS_AT (omega arith)).durable_value ∙ set-first (status_entry c r) (meta_entry c r) (resolve (here s).image) (node_address c k + STATUS_AT) refl

  lawful : IsStatus (record (status st) { dead = (status st).dead + extent_words e; stamp = next_stamp (status st).stamp })
  lawful = let z : IsStatus (status st) = statuses.range st w.leaf.leaf.plain in record { count = z.count; block = z.block; dead = omega (arith, w.small, w.dead); stamp = omega arith }

  reads : status (durable s.past.config y k STATUS_AT) ≡ record (status st) { dead = (status st).dead + extent_words e; stamp = next_stamp (status st).stamp }
  reads = ap status status-after ∙ statuses.value _ lawful

  count-after : (page (durable s.past.config y k)).count ≡ (page (durable s.past.config (here s) k)).count
  count-after = ap (λ (z : Status). z.count) reads ∙ sym count-is

  others : (i : ℕ) → i ≢ STATUS_AT → i ≢ META_AT + place → durable s.past.config y k i ≡ durable s.past.config (here s) k i
  others i n m = elim (cases_lt i NODE_WORDS) [
    | inl l ↦
        (slot.within i l).durable_value
        ∙ (leave-both (status_entry c r) (meta_entry c r) (resolve (here s).image) (node_address c k + i) (λ q. n (omega (arith, q))) (λ q. m (omega (arith, q))) ∙ sym (slot.within i l).resolved)
    | inr l ↦ slot.durable_past i l
  ]

  pub metas-stay : (i : ℕ) → i ≢ place → (page (durable s.past.config y k)).meta i ≡ (page (durable s.past.config (here s) k)).meta i
  metas-stay i n = ap meta_of (others (META_AT + i) (λ q. omega (arith, q)) (λ q. n (omega (arith, q))))

  live : live_words (page (durable s.past.config (here s) k)) ≤ live_words (page (durable s.past.config y k)) + LEAF_RECORD_WORDS
  live =
      let most : live_to (page (durable c (here s) k)).meta (page (durable c (here s) k)).count ≤ live_to (page (durable c y k)).meta (page (durable c (here s) k)).count + LEAF_RECORD_WORDS =
      live-put (page (durable c (here s) k)).meta (page (durable c y k)).meta place (page (durable c (here s) k)).count LEAF_RECORD_WORDS (λ i l n. sym (metas-stay i n))
      (record-fits ((page (durable c (here s) k)).meta place) (whole.lengths place (omega (arith, w.counted, count-is)))) in
      omega (arith, most, ap (live_to (page (durable c y k)).meta) count-after)

  -- the leaf is that of the key, before and after
  once : WasLeafOnce k s.past
  once = let l = w.leaf.leaf in record { moment = w.moment; since = l.since; now = l.now; slot = l.slot; inside = l.inside; leaf = l.leaf }

  stays : KeepsSlots s.past.config (image_of (here s).image) (image_of y.image)
  stays = kept (entries_of c r) s y k good once (names-record c r within) swaps

  holds : Holds (form_at s.past.config (here s)) key k
  holds = record {
    inside = same.leaf.inside;
    leaf = same.leaf.leaf;
    low = ap (is_at_least key) same.place.low ∙ and-left (is_at_least key ((form_at c (s.past.at w.moment)).low k)) (is_below key ((form_at c (s.past.at w.moment)).high k)) w.leaf.range;
    high = ap (is_below key) same.place.high ∙ and-right (is_at_least key ((form_at c (s.past.at w.moment)).low k)) (is_below key ((form_at c (s.past.at w.moment)).high k)) w.leaf.range;
  }

  leaf-of : (x : Instant) → IsGood s.past.config x → Holds (form_at s.past.config x) key k → leaf_in s.past.config x.image key ≡ k
  leaf-of x g h = let t : IsTree (view_in c x.image) = ((well_formed_images_have_no_fault c x.image).0 g.form).tree in (leaves_tile_the_keys (view_in c x.image) t key k).0 h

  pub leaf-is : leaf_in s.past.config (here s).image key ≡ k
  leaf-is = leaf-of (here s) now holds

  after : IsGood s.past.config y
  after = (removals_are_good s y key payload k st place e good w thawed stand swaps).good

  holds-after : Holds (form_at s.past.config y) key k
  holds-after = subst (λ (f : Form). Holds f key k) (sym stays.form) holds

  pub leaf-after : leaf_in s.past.config y.image key ≡ k
  leaf-after = leaf-of y after holds-after

  pub loses : LosesOneRecord key s y
  loses = record {
    leaf = leaf-after ∙ sym leaf-is;
    height = stays.height;
    live = omega (arith, live, ap (λ j. live_words (page (durable c (here s) j))) leaf-is, ap (λ j. live_words (page (durable c y j))) leaf-after);
  }

  -- of the block all words but the dead ones are live, and those of the record are dead now
  whole-after : Whole (node s.past.config y.image k) (page (durable s.past.config y k)) ((form_at s.past.config y).low k) ((form_at s.past.config y).high k)
  whole-after = (leaf_rules_are_facts c.nodes (node c y.image k) (durable c y k) _ _).0 (leaves_are_in_trees c y k after w.leaf.leaf.slot holds-after.inside holds-after.leaf).whole

  pub left : (status st).block - (status st).dead - extent_words e ≤ live_of_key s.past.config y key
  left =
      let live : live_block (page (durable c y k)).meta (page (durable c y k)).count ≤ live_words (page (durable c y k)) = block-live (page (durable c y k)).meta (page (durable c y k)).count in
      omega (arith, live, whole-after.filled.dead, ap (λ (z : Status). z.block) reads, ap (λ (z : Status). z.dead) reads, ap (λ j. live_words (page (durable c y j))) leaf-after)
