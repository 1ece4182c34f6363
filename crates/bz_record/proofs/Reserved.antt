-- A leaf before and after the swap that reserves a place in it.
use Rattle.std.proofs.Common.{◌≡◌, ◌≢◌, ℕ, ◌+◌, ◌^◌, ◌<◌, ◌≤◌, Bool, true, false, arith, sym, ap, subst, ◌∙◌, inl, inr}
use Rattle.std.proofs.lemmas.Bool.{cases_lt, true≢false}
use Rattle.bz_layout.specs.declared.sizes.TheConstants.{NODE_WORDS, STATUS_AT, HEADER_AT, META_AT}
use Rattle.bz_slotted.specs.FromNode.Reading.{extent_words}
use Rattle.bz_slotted.specs.Changes.{Reserves}
use Rattle.bz_slotted.specs.LeafLaws.{AnswersAlike}
use Rattle.bz_slotted.specs.Page.{meta_of, visible, extent_of, page}
use Rattle.bz_slotted.specs.Records.{weight}
use Rattle.bz_slotted.proofs.Proved.{reservation_is_quiet}
use Rattle.bz_word.specs.Headers.{header}
use Rattle.bz_word.specs.Metas.{meta_word}
use Rattle.bz_word.specs.Statuses.{status}
use Rattle.bz_word.specs.declared.meta.Meta.TheVariants.{Reserved}
use Rattle.bz_word.specs.declared.status.Status.{Status}
use Rattle.bz_content.specs.Image.{node}
use Rattle.bz_task.specs.Instant.{Instant, words, durable, form_at}
use Rattle.bz_task.specs.Laws.{SlotWords}
use Rattle.bz_task.specs.Scene.{Scene, IsScene, here}
use Rattle.bz_task.specs.Shown.{IsOfRecord, IsShown}
use Rattle.bz_task.specs.Steps.{Moves, next_stamp}
use Rattle.bz_task.specs.Swaps.{Stand, SwapsTo}
use Rattle.bz_task.proofs.Proved.{swaps_show_in_slots}
use Rattle.bz_record.specs.Laws.{SameLeaf}
use Rattle.bz_record.specs.Leaves.{WasLeafThen}
use Rattle.bz_record.specs.Records.{size_of, place_of, Fits}
use Rattle.bz_record.specs.Swaps.{entries_of, reservation}
use Rattle.bz_record.specs.declared.new_record.NewRecord.{NewRecord}
use Rattle.bz_record.proofs.Coding.{reserved-plain, reserved-reads, reserved-says, sizes-agree, reserved-held, reserved-hidden, reserved-used, reserved-extent, leaf-record}
use Rattle.bz_record.proofs.Entries.{sets-status, sets-durable-status, sets-meta, sets-durable-meta, leaves-others, leaves-durable-others, leaves-raw, status-now, same-now, durable-status-now}

-- a word of a record whose metadata word stays
pub of-record : (n m : ℕ → ℕ) (i j : ℕ) → m (META_AT + j) ≡ n (META_AT + j) → j < (page n).count → IsOfRecord m i j → IsOfRecord n i j
of-record n m i j e l r = record {
  counted = l;
  visible = subst (λ z. visible (meta_of z) ≡ true) e r.visible;
  from = subst (λ z. (extent_of (meta_of z)).offset ≤ i) e r.from;
  to = subst (λ z. i < (extent_of (meta_of z)).offset + weight (meta_of z)) e r.to;
}

module _ (s : Scene) (y : Instant) (r : NewRecord) (moment : ℕ) (good : IsScene s) (f : Fits r) (leaf : WasLeafThen r.slot r.status moment s.past) (stand : Stand (entries_of s.past.config (reservation r)) (here s)) (swaps : SwapsTo s.past.config (entries_of s.past.config (reservation r)) (here s) y) where
  pub place : META_AT + (status r.status).count < NODE_WORDS
  place = omega (arith, f.room.fits)

  pub slot : SlotWords s.past.config (entries_of s.past.config (reservation r)) (here s) y r.slot
  slot = swaps_show_in_slots s.past.config (entries_of s.past.config (reservation r)) (here s) y r.slot swaps

  pub same : SameLeaf s.past.config (s.past.at moment) (here s) r.slot
  same = same-now s (reservation r) moment good leaf f.room.thawed stand

  pub was : words s.past.config (here s) r.slot STATUS_AT ≡ r.status
  was = status-now s (reservation r) moment good leaf f.room.thawed stand

  pub was-durable : durable s.past.config (here s) r.slot STATUS_AT ≡ r.status
  was-durable = durable-status-now s (reservation r) moment good leaf f.room.thawed stand

  reads : status ((reservation r).new_status) ≡ record (status r.status) { count = (status r.status).count + 1; block = (status r.status).block + size_of r; dead = (status r.status).dead + size_of r; stamp = next_stamp (status r.status).stamp }
  reads = reserved-reads r f

  pub is : words s.past.config y r.slot STATUS_AT ≡ (reservation r).new_status
  is = sets-status s.past.config (reservation r) (here s) y slot place

  is-durable : durable s.past.config y r.slot STATUS_AT ≡ (reservation r).new_status
  is-durable = sets-durable-status s.past.config (reservation r) (here s) y slot place

  -- a field of the status afterwards
  field-is : (A : Type 0) (g : Status → A) (n : ℕ → ℕ) → n STATUS_AT ≡ (reservation r).new_status → g (status (n STATUS_AT)) ≡ g (record (status r.status) { count = (status r.status).count + 1; block = (status r.status).block + size_of r; dead = (status r.status).dead + size_of r; stamp = next_stamp (status r.status).stamp })
  field-is A g n e = ap (λ z. g (status z)) e ∙ ap g reads

  pub others : (i : ℕ) → i ≢ STATUS_AT → i ≢ META_AT + (status r.status).count → words s.past.config y r.slot i ≡ words s.past.config (here s) r.slot i
  others = leaves-others s.past.config (reservation r) (here s) y slot place

  pub count-was : (page (words s.past.config (here s) r.slot)).count ≡ (status r.status).count
  count-was = ap (λ z. (status z).count) was

  pub block-was : (page (words s.past.config (here s) r.slot)).block ≡ (status r.status).block
  block-was = ap (λ z. (status z).block) was

  pub count-is : (page (words s.past.config y r.slot)).count ≡ (status r.status).count + 1
  count-is = field-is ℕ (λ z. z.count) (words s.past.config y r.slot) is

  pub block-is : (page (words s.past.config y r.slot)).block ≡ (status r.status).block + size_of r
  block-is = field-is ℕ (λ z. z.block) (words s.past.config y r.slot) is

  pub moves : Moves (words s.past.config (here s) r.slot) (words s.past.config y r.slot)
  moves = record {
    thawed = ap (λ z. (status z).frozen) was ∙ f.room.thawed;
    stamp = field-is ℕ (λ z. z.stamp) (words s.past.config y r.slot) is ∙ ap (λ z. next_stamp (status z).stamp) (sym was);
    front = λ i n l. others i n (λ e. omega (arith, e, l));
    freeze = λ h. absurd (true≢false (sym h ∙ (field-is Bool (λ z. z.frozen) (words s.past.config y r.slot) is ∙ f.room.thawed)));
    inner = λ l. absurd (omega (arith, l, same.leaf.flat));
    count = omega (arith, count-was, count-is);
    block = omega (arith, ap (λ z. (status z).block) was, block-is);
    spare = λ e l. absurd (omega (arith, e, count-was, count-is));
  }

  weighs : weight (Reserved (place_of r)) ≡ size_of r
  weighs = ap extent_words (reserved-extent (place_of r)) ∙ sizes-agree r f

  pub count-durable : (page (durable s.past.config (here s) r.slot)).count ≡ (status r.status).count
  count-durable = ap (λ z. (status z).count) was-durable

  pub block-durable : (page (durable s.past.config (here s) r.slot)).block ≡ (status r.status).block
  block-durable = ap (λ z. (status z).block) was-durable

  dead-durable : (page (durable s.past.config (here s) r.slot)).dead ≡ (status r.status).dead
  dead-durable = ap (λ z. (status z).dead) was-durable

  said : durable s.past.config y r.slot (META_AT + (status r.status).count) ≡ meta_word (Reserved (place_of r))
  said = sets-durable-meta s.past.config (reservation r) (here s) y slot place

  pub reserves : Reserves (node s.past.config (here s).image r.slot) (node s.past.config y.image r.slot) (durable s.past.config (here s) r.slot) (durable s.past.config y r.slot) (Reserved (place_of r))
  reserves = record {
    others = λ i n m. leaves-durable-others s.past.config (reservation r) (here s) y slot place i n (λ e. m (omega (arith, e, count-durable)));
    raw = λ i l. leaves-raw s.past.config (reservation r) (here s) y slot place i;
    status = subst (λ z. z < 2 ^ 61) (sym is-durable) (reserved-plain r f);
    count = omega (arith, count-durable, field-is ℕ (λ z. z.count) (durable s.past.config y r.slot) is-durable);
    block = omega (arith, block-durable, weighs, field-is ℕ (λ z. z.block) (durable s.past.config y r.slot) is-durable);
    dead = omega (arith, dead-durable, weighs, field-is ℕ (λ z. z.dead) (durable s.past.config y r.slot) is-durable);
    room = omega (arith, count-durable, block-durable, weighs, f.room.fits);
    said = ap (λ z. meta_of (durable s.past.config y r.slot (META_AT + z))) count-durable ∙ (ap meta_of said ∙ reserved-says r f);
    holds = reserved-held (place_of r);
    hidden = reserved-hidden (place_of r);
    taken = reserved-used (place_of r);
    lengths = leaf-record r (Reserved (place_of r)) f (reserved-extent (place_of r));
    place = subst (λ z. z.offset + weight (Reserved (place_of r)) + (page (durable s.past.config (here s) r.slot)).block ≡ NODE_WORDS) (sym (reserved-extent (place_of r))) (omega (arith, block-durable, weighs, f.room.fits));
  }

  pub alike : AnswersAlike s.past.config.nodes (node s.past.config y.image r.slot) (durable s.past.config (here s) r.slot) (durable s.past.config y r.slot) ((form_at s.past.config (here s)).low r.slot) ((form_at s.past.config (here s)).high r.slot)
  alike = reservation_is_quiet s.past.config.nodes (node s.past.config (here s).image r.slot) (node s.past.config y.image r.slot) (durable s.past.config (here s) r.slot) (durable s.past.config y r.slot) _ _ (Reserved (place_of r)) same.leaf.whole reserves

  -- the new record is not visible
  pub hidden : visible ((page (words s.past.config y r.slot)).meta (status r.status).count) ≡ false
  hidden = ap (λ z. visible (meta_of z)) (sets-meta s.past.config (reservation r) (here s) y slot place) ∙ (ap visible (reserved-says r f) ∙ reserved-hidden (place_of r))

  -- so a word of a visible record is one of a record that was visible
  pub record-before : (i j : ℕ) → IsOfRecord (words s.past.config y r.slot) i j → IsOfRecord (words s.past.config (here s) r.slot) i j
  record-before i j o = elim (cases_lt j (status r.status).count) [
    | inl l ↦ of-record (words s.past.config (here s) r.slot) (words s.past.config y r.slot) i j (others (META_AT + j) (λ e. omega (arith, e)) (λ e. omega (arith, e, l))) (omega (arith, l, count-was)) o
    | inr l ↦ (
        let last : j ≡ (status r.status).count = omega (arith, l, o.counted, count-is) in
        absurd (true≢false (sym o.visible ∙ (ap (λ z. visible ((page (words s.past.config y r.slot)).meta z)) last ∙ hidden))))
  ]

  -- what readers read afterwards they read before
  pub shown-before : (i : ℕ) → IsShown (words s.past.config y r.slot) i → IsShown (words s.past.config (here s) r.slot) i
  shown-before i (inl h) = elim (cases_lt i (META_AT + (status r.status).count)) [
    | inl l ↦ inl (omega (arith, l, count-was))
    | inr l ↦ inr (inl (omega (arith, l, h, count-is, block-was, f.room.fits)))
  ]
  shown-before i (inr (inl h)) = inr (inl (omega (arith, h, block-was, block-is)))
  shown-before i (inr (inr (inl h))) = inr (inr (inl (omega (arith, h, ap (λ z. (header z).level) (others HEADER_AT (λ e. omega (arith, e)) (λ e. omega (arith, e)))))))
  shown-before i (inr (inr (inr o))) = inr (inr (inr (o.0, record-before i o.0 o.1)))
