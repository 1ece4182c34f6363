-- The publication of a record whose words are stored and durable is a rewrite of its reserved place.
use Rattle.std.proofs.Common.{◌≡◌, ◌≢◌, ℕ, ◌+◌, ◌-◌, ◌^◌, ◌<◌, ◌≤◌, ◌⊎◌, true, false, List, arith, refl, sym, ap, subst, ◌∙◌, inl}
use Rattle.std.specs.Prelude.{Some, None}
use Rattle.std.proofs.lemmas.Bool.{true≢false}
use Rattle.bz_layout.specs.Addresses.{node_address}
use Rattle.bz_layout.specs.declared.sizes.TheConstants.{NODE_WORDS, STATUS_AT, HEADER_AT, META_AT}
use Rattle.bz_slotted.specs.FromNode.Reading.{extent_words}
use Rattle.bz_slotted.specs.Page.{meta_of, visible, held, extent_of, page}
use Rattle.bz_slotted.specs.Readers.{found_of}
use Rattle.bz_slotted.specs.Records.{key_in, payload_in, weight, shown, search_to}
use Rattle.bz_slotted.specs.Whole.{Whole, IsInBlock, IsPlainKey, IsPlainPayload, Disjoint}
use Rattle.bz_slotted.proofs.Proved.{leaf_rules_are_facts}
use Rattle.bz_word.specs.Headers.{header}
use Rattle.bz_word.specs.Metas.{meta_word}
use Rattle.bz_word.specs.Statuses.{status}
use Rattle.bz_word.specs.declared.meta.Meta.TheVariants.{Reserved, Visible}
use Rattle.bz_content.specs.Image.{node}
use Rattle.bz_content.specs.Resolving.{resolve}
use Rattle.bz_content.proofs.Proved.{plain_words_stand_for_themselves}
use Rattle.bz_task.specs.Good.{IsGood}
use Rattle.bz_task.specs.Instant.{words, durable, form_at}
use Rattle.bz_task.specs.Scene.{Scene, IsScene, here}
use Rattle.bz_task.specs.Steps.{next_stamp}
use Rattle.bz_task.specs.Swaps.{Stand, IsMineAndDurable}
use Rattle.bz_record.specs.Laws.{SameLeaf, Restates, IsRewriteOf, IsRewrite, inserts, PublicationsRewrite, PublicationsAreGood}
use Rattle.bz_record.specs.Leaves.{WasReserved}
use Rattle.bz_record.specs.Writing.{HasWritten}
use Rattle.bz_record.specs.Records.{size_of, offset_of, place_of, address_of, Fits}
use Rattle.bz_record.specs.Swaps.{entries_of, status_reserved, status_published, publication}
use Rattle.bz_record.specs.declared.new_record.NewRecord.{NewRecord}
use Rattle.bz_record.proofs.Coding.{reserved-reads, published-plain, published-reads, reserved-says, visible-says, sizes-agree, reserved-held, reserved-hidden, reserved-extent, visible-shown, visible-used, visible-extent, leaf-record}
use Rattle.bz_record.proofs.Entries.{node-at, finds-meta, status-now, same-now, good-now, durable-status-now}
use Rattle.bz_record.proofs.Reading.{Stands, word-plain, reads-key, reads-payload, plain-key, plain-payload, not-found}
use Rattle.bz_record.proofs.Rewriting.{rewriting}

-- what is found is what a search finds
absent-in : (n : ℕ → ℕ) (key : List ℕ) → found_of n key ≡ None → search_to n (page n).meta key (page n).count ≡ None
unfolding found_of
absent-in n key e = e

module _ (s : Scene) (r : NewRecord) (good : IsScene s) (f : Fits r) (w : WasReserved r s.past) (h : HasWritten r s) (stand : Stand (entries_of s.past.config (publication r)) (here s)) where
  reads : status (status_reserved r) ≡ record (status r.status) { count = (status r.status).count + 1; block = (status r.status).block + size_of r; dead = (status r.status).dead + size_of r; stamp = next_stamp (status r.status).stamp }
  reads = reserved-reads r f

  thawed : (status (status_reserved r)).frozen ≡ false
  thawed = ap (λ z. z.frozen) reads ∙ f.room.thawed

  now : SameLeaf s.past.config (s.past.at w.moment) (here s) r.slot
  now = same-now s (publication r) w.moment good w.leaf.leaf thawed stand

  now-good : IsGood s.past.config (here s)
  now-good = good-now s (publication r) w.moment good w.leaf.leaf thawed stand

  was : words s.past.config (here s) r.slot STATUS_AT ≡ status_reserved r
  was = status-now s (publication r) w.moment good w.leaf.leaf thawed stand

  was-durable : durable s.past.config (here s) r.slot STATUS_AT ≡ status_reserved r
  was-durable = durable-status-now s (publication r) w.moment good w.leaf.leaf thawed stand

  count-was : (page (words s.past.config (here s) r.slot)).count ≡ (status r.status).count + 1
  count-was = ap (λ z. (status z).count) was ∙ ap (λ z. z.count) reads

  count-durable : (page (durable s.past.config (here s) r.slot)).count ≡ (status r.status).count + 1
  count-durable = ap (λ z. (status z).count) was-durable ∙ ap (λ z. z.count) reads

  block-durable : (page (durable s.past.config (here s) r.slot)).block ≡ (status r.status).block + size_of r
  block-durable = ap (λ z. (status z).block) was-durable ∙ ap (λ z. z.block) reads

  whole : Whole (node s.past.config (here s).image r.slot) (page (durable s.past.config (here s) r.slot)) ((form_at s.past.config (here s)).low r.slot) ((form_at s.past.config (here s)).high r.slot)
  whole = (leaf_rules_are_facts s.past.config.nodes (node s.past.config (here s).image r.slot) (durable s.past.config (here s) r.slot) _ _).0 now.leaf.whole

  -- the words of the record stand in the image
  raw-stands : Stands (node s.past.config (here s).image r.slot) r
  raw-stands i l = node-at s.past.config (here s).image r.slot (offset_of r + i) (omega (arith, l, f.room.fits)) ∙ ((h.flushed i l).image ∙ h.stored i l)

  plain-raw : (i : ℕ) → i < size_of r → (here s).image (address_of s.past.config r i) < 2 ^ 61
  plain-raw i l = subst (λ z. z < 2 ^ 61) (sym ((h.flushed i l).image ∙ h.stored i l)) (word-plain r f i l)

  durable-stands : Stands (durable s.past.config (here s) r.slot) r
  durable-stands i l = node-at s.past.config (resolve (here s).image) r.slot (offset_of r + i) (omega (arith, l, f.room.fits)) ∙ (plain_words_stand_for_themselves (here s).image (address_of s.past.config r i) (plain-raw i l) ∙ ((h.flushed i l).image ∙ h.stored i l))

  -- its place is the reserved one
  reserved-meta : durable s.past.config (here s) r.slot (META_AT + (status r.status).count) ≡ meta_word (Reserved (place_of r))
  reserved-meta = now-good.shown r.slot (META_AT + (status r.status).count) now.leaf.reached (inl (omega (arith, count-was))) ∙ finds-meta s.past.config (publication r) (here s) stand (omega (arith, f.room.fits))

  reserved-there : (page (durable s.past.config (here s) r.slot)).meta (status r.status).count ≡ Reserved (place_of r)
  reserved-there = ap meta_of reserved-meta ∙ reserved-says r f

  hidden-there : visible ((page (durable s.past.config (here s) r.slot)).meta (status r.status).count) ≡ false
  hidden-there = ap visible reserved-there ∙ reserved-hidden (place_of r)

  -- the fields of a visible record there
  extent-is : extent_of (Visible (place_of r)) ≡ place_of r
  extent-is = visible-extent (place_of r)

  weighs : weight (Visible (place_of r)) ≡ size_of r
  weighs = ap extent_words extent-is ∙ sizes-agree r f

  in-block : IsInBlock (page (durable s.past.config (here s) r.slot)) (Visible (place_of r))
  in-block = record {
    starts = subst (λ z. NODE_WORDS ≤ z.offset + (page (durable s.past.config (here s) r.slot)).block) (sym extent-is) (omega (arith, block-durable, f.room.fits));
    ends = subst (λ z. z.offset + weight (Visible (place_of r)) ≤ NODE_WORDS) (sym extent-is) (omega (arith, weighs, f.room.fits));
  }

  apart : (i : ℕ) → i < (page (durable s.past.config (here s) r.slot)).count → i ≢ (status r.status).count → held ((page (durable s.past.config (here s) r.slot)).meta i) ≡ true → Disjoint ((page (durable s.past.config (here s) r.slot)).meta i) (Visible (place_of r))
  apart i l ne t =
      let d : Disjoint ((page (durable s.past.config (here s) r.slot)).meta i) ((page (durable s.past.config (here s) r.slot)).meta (status r.status).count) =
      whole.apart i (status r.status).count l (omega (arith, count-durable)) ne t (ap held reserved-there ∙ reserved-held (place_of r)) in
      let e : extent_of ((page (durable s.past.config (here s) r.slot)).meta (status r.status).count) ≡ extent_of (Visible (place_of r)) = ap extent_of reserved-there ∙ (reserved-extent (place_of r) ∙ sym extent-is) in
      subst (λ z. ((extent_of ((page (durable s.past.config (here s) r.slot)).meta i)).offset + weight ((page (durable s.past.config (here s) r.slot)).meta i) ≤ z.offset) ⊎ (z.offset + extent_words z ≤ (extent_of ((page (durable s.past.config (here s) r.slot)).meta i)).offset)) e d

  absent : search_to (durable s.past.config (here s) r.slot) (page (durable s.past.config (here s) r.slot)).meta r.key (page (durable s.past.config (here s) r.slot)).count ≡ None
  absent = absent-in (durable s.past.config (here s) r.slot) r.key (now.found r.key ∙ w.leaf.found)

  unsorted : (page (durable s.past.config (here s) r.slot)).sorted ≤ (status r.status).count
  unsorted =
      let e : durable s.past.config (here s) r.slot HEADER_AT ≡ words s.past.config (s.past.at w.moment) r.slot HEADER_AT = now-good.shown r.slot HEADER_AT now.leaf.reached (inl (omega arith)) ∙ now.shows HEADER_AT (inl (omega arith)) in
      omega (arith, w.unsorted, ap (λ z. (header z).sorted) e)

  rewrites : IsRewriteOf (node s.past.config (here s).image r.slot) (durable s.past.config (here s) r.slot) (status r.status).count (Visible (place_of r)) (inserts r)
  rewrites = record {
    used = visible-used (place_of r);
    lengths = leaf-record r (Visible (place_of r)) f extent-is;
    in_block = λ t. in-block;
    apart = λ i l ne t u. apart i l ne u;
    key = λ v. subst (IsPlainKey (node s.past.config (here s).image r.slot) (durable s.past.config (here s) r.slot)) (sym extent-is) (plain-key r f _ _ raw-stands durable-stands);
    payload = λ v. subst (IsPlainPayload (node s.past.config (here s).image r.slot) (durable s.past.config (here s) r.slot)) (sym extent-is) (plain-payload r f _ _ raw-stands durable-stands);
    is_key = λ v. ap (key_in (durable s.past.config (here s) r.slot)) extent-is ∙ reads-key r f _ durable-stands;
    is_new = λ v. ap Some (ap (payload_in (durable s.past.config (here s) r.slot)) extent-is ∙ reads-payload r f _ durable-stands);
    tail = λ v. inl unsorted;
    distinct = λ i l ne v u. not-found (durable s.past.config (here s) r.slot) (page (durable s.past.config (here s) r.slot)).meta r.key (page (durable s.past.config (here s) r.slot)).count absent i l u;
    was_key = λ v. absurd (true≢false (sym v ∙ hidden-there));
    gone = λ v. absurd (true≢false (sym (visible-shown (place_of r)) ∙ v));
  }

  states : Restates (status_reserved r) (status_published r)
  states =
      let p = published-reads r f in record {
        plain = published-plain r f;
        thawed = ap (λ z. z.frozen) p ∙ thawed;
        count = ap (λ z. z.count) p;
        block = ap (λ z. z.block) p;
        stamp = ap (λ z. z.stamp) p;
      }

  dead : (status (status_published r)).dead + shown (Visible (place_of r)) ≡ (status (status_reserved r)).dead + shown (meta_of (meta_word (Reserved (place_of r))))
  dead =
      let now-dead : (status (status_published r)).dead ≡ (status r.status).dead = ap (λ z. z.dead) (published-reads r f) in
      let old-dead : (status (status_reserved r)).dead ≡ (status r.status).dead + size_of r = ap (λ z. z.dead) reads in
      let all : shown (Visible (place_of r)) ≡ size_of r = rw (visible-shown (place_of r)) weighs in
      let none : shown (meta_of (meta_word (Reserved (place_of r)))) ≡ 0 = ap shown (reserved-says r f) ∙ rw (reserved-hidden (place_of r)) refl in
      omega (arith, now-dead, old-dead, all, none)

  own : (i : ℕ) → (extent_of (Visible (place_of r))).offset ≤ i → i < (extent_of (Visible (place_of r))).offset + weight (Visible (place_of r)) → IsMineAndDurable s (node_address s.past.config r.slot + i)
  own i from to =
      let o : (extent_of (Visible (place_of r))).offset ≡ offset_of r = ap (λ z. z.offset) extent-is in
      let l : i - offset_of r < size_of r = omega (arith, from, to, o, weighs) in
      let e : address_of s.past.config r (i - offset_of r) ≡ node_address s.past.config r.slot + i = omega (arith, from, o) in
      subst (IsMineAndDurable s) e (record { mine = h.mine (i - offset_of r) l; flushed = h.flushed (i - offset_of r) l })

  rewrite-of : IsRewrite (publication r) (Visible (place_of r)) (inserts r) s
  rewrite-of = record {
    moment = w.moment;
    leaf = w.leaf;
    thawed = thawed;
    states = states;
    dead = dead;
    counted = omega (arith, ap (λ z. z.count) reads);
    says = visible-says r f;
    rewrites = rewrites;
    own = λ i v from to. own i from to;
  }

pub publications-rewrite : PublicationsRewrite
publications-rewrite s r good f w h stand = rewrite-of s r good f w h stand

pub publishing : PublicationsAreGood
publishing s y r good f w h stand swaps = rewriting s y (publication r) (Visible (place_of r)) (inserts r) good (rewrite-of s r good f w h stand) stand swaps
