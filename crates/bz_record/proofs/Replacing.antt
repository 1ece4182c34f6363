-- The second swap of an update is a rewrite of its key's record.
use Rattle.std.proofs.Common.{◌≡◌, ℕ, ◌+◌, ◌-◌, ◌^◌, ◌<◌, ◌≤◌, true, false, List, arith, sym, ap, subst, ◌∙◌, inl, inr}
use Rattle.std.specs.Prelude.{Some}
use Rattle.std.proofs.lemmas.Bool.{true≢false}
use Rattle.bz_layout.specs.Addresses.{node_address}
use Rattle.bz_layout.specs.declared.sizes.TheConstants.{NODE_WORDS, STATUS_AT, META_AT}
use Rattle.bz_slotted.specs.FromNode.Reading.{extent_words}
use Rattle.bz_slotted.specs.Page.{meta_of, visible, held, extent_of, page}
use Rattle.bz_slotted.specs.Records.{key_in, payload_in, key_at, weight, shown}
use Rattle.bz_slotted.specs.Whole.{Whole, IsInBlock, IsPlainKey, IsPlainPayload, Disjoint}
use Rattle.bz_slotted.proofs.Proved.{leaf_rules_are_facts}
use Rattle.bz_word.specs.Metas.{meta_word}
use Rattle.bz_word.specs.Statuses.{status}
use Rattle.bz_word.specs.declared.meta.Extent.{Extent}
use Rattle.bz_word.specs.declared.meta.Meta.TheVariants.{Visible}
use Rattle.bz_content.specs.Image.{node}
use Rattle.bz_content.specs.Resolving.{resolve}
use Rattle.bz_content.proofs.Proved.{plain_words_stand_for_themselves}
use Rattle.bz_task.specs.Good.{IsGood}
use Rattle.bz_task.specs.Instant.{durable, form_at}
use Rattle.bz_task.specs.Scene.{Scene, IsScene, here}
use Rattle.bz_task.specs.Steps.{next_stamp}
use Rattle.bz_task.specs.Swaps.{Stand, IsMineAndDurable}
use Rattle.bz_record.specs.Laws.{SameLeaf, IsRewriteOf, IsRewrite}
use Rattle.bz_record.specs.Records.{size_of, offset_of, place_of, address_of, Fits}
use Rattle.bz_record.specs.Replacing.{status_grown, replacement, WasGrown}
use Rattle.bz_record.specs.ReplacingLaws.{updates, ReplacementsAreGood}
use Rattle.bz_record.specs.Swaps.{entries_of}
use Rattle.bz_record.specs.Writing.{HasWritten}
use Rattle.bz_record.specs.declared.new_record.NewRecord.{NewRecord}
use Rattle.bz_record.proofs.Coding.{visible-says, sizes-agree, visible-shown, visible-used, visible-extent, leaf-record}
use Rattle.bz_record.proofs.Entries.{node-at, same-now, durable-status-now}
use Rattle.bz_record.proofs.Found.{counted-plain, counted-reads, visible-reads, now-says, now-key}
use Rattle.bz_record.proofs.Growing.{grown-plain, grown-reads}
use Rattle.bz_record.proofs.Reading.{Stands, word-plain, reads-key, reads-payload, plain-key, plain-payload}
use Rattle.bz_record.proofs.Rewriting.{rewriting}

module _ (s : Scene) (r : NewRecord) (old : List ℕ) (place : ℕ) (e : Extent) (good : IsScene s) (f : Fits r) (g : WasGrown r old place e s.past) (h : HasWritten r s) (stand : Stand (entries_of s.past.config (replacement r place e)) (here s)) where
  reads : status (status_grown r) ≡ record (status r.status) { block = (status r.status).block + size_of r; dead = (status r.status).dead + size_of r; stamp = next_stamp (status r.status).stamp }
  reads = grown-reads r f

  thawed : (status (status_grown r)).frozen ≡ false
  thawed = ap (λ z. z.frozen) reads ∙ f.room.thawed

  now : SameLeaf s.past.config (s.past.at g.was.moment) (here s) r.slot
  now = same-now s (replacement r place e) g.was.moment good g.was.leaf.leaf thawed stand

  was-durable : durable s.past.config (here s) r.slot STATUS_AT ≡ status_grown r
  was-durable = durable-status-now s (replacement r place e) g.was.moment good g.was.leaf.leaf thawed stand

  count-durable : (page (durable s.past.config (here s) r.slot)).count ≡ (status r.status).count
  count-durable = ap (λ z. (status z).count) was-durable ∙ ap (λ z. z.count) reads

  block-durable : (page (durable s.past.config (here s) r.slot)).block ≡ (status r.status).block + size_of r
  block-durable = ap (λ z. (status z).block) was-durable ∙ ap (λ z. z.block) reads

  counted : place < (status r.status).count
  counted = omega (arith, g.was.counted, ap (λ z. z.count) reads)

  whole : Whole (node s.past.config (here s).image r.slot) (page (durable s.past.config (here s) r.slot)) ((form_at s.past.config (here s)).low r.slot) ((form_at s.past.config (here s)).high r.slot)
  whole = (leaf_rules_are_facts s.past.config.nodes (node s.past.config (here s).image r.slot) (durable s.past.config (here s) r.slot) _ _).0 now.leaf.whole

  -- the words of the record stand in the image
  raw-stands : Stands (node s.past.config (here s).image r.slot) r
  raw-stands i l = node-at s.past.config (here s).image r.slot (offset_of r + i) (omega (arith, l, f.room.fits)) ∙ ((h.flushed i l).image ∙ h.stored i l)

  plain-raw : (i : ℕ) → i < size_of r → (here s).image (address_of s.past.config r i) < 2 ^ 61
  plain-raw i l = subst (λ z. z < 2 ^ 61) (sym ((h.flushed i l).image ∙ h.stored i l)) (word-plain r f i l)

  durable-stands : Stands (durable s.past.config (here s) r.slot) r
  durable-stands i l = node-at s.past.config (resolve (here s).image) r.slot (offset_of r + i) (omega (arith, l, f.room.fits)) ∙ (plain_words_stand_for_themselves (here s).image (address_of s.past.config r i) (plain-raw i l) ∙ ((h.flushed i l).image ∙ h.stored i l))

  -- the old record is there, and of the key
  there : (page (durable s.past.config (here s) r.slot)).meta place ≡ Visible e
  there = now-says s r.key old r.slot (status_grown r) place e good g.was now

  there-visible : visible ((page (durable s.past.config (here s) r.slot)).meta place) ≡ true
  there-visible = ap visible there ∙ visible-shown e

  there-key : key_at (page (durable s.past.config (here s) r.slot)) place ≡ r.key
  there-key = now-key s r.key old r.slot (status_grown r) place e good g.was now

  -- the fields of the new record
  extent-is : extent_of (Visible (place_of r)) ≡ place_of r
  extent-is = visible-extent (place_of r)

  weighs : weight (Visible (place_of r)) ≡ size_of r
  weighs = ap extent_words extent-is ∙ sizes-agree r f

  in-block : IsInBlock (page (durable s.past.config (here s) r.slot)) (Visible (place_of r))
  in-block = record {
    starts = subst (λ z. NODE_WORDS ≤ z.offset + (page (durable s.past.config (here s) r.slot)).block) (sym extent-is) (omega (arith, block-durable, f.room.fits));
    ends = subst (λ z. z.offset + weight (Visible (place_of r)) ≤ NODE_WORDS) (sym extent-is) (omega (arith, weighs, f.room.fits));
  }

  -- every other record lies behind it
  then-good : IsGood s.past.config (s.past.at g.was.moment)
  then-good = good.history.good g.was.moment g.was.leaf.leaf.since g.was.leaf.leaf.now

  then-count : (page (durable s.past.config (s.past.at g.was.moment) r.slot)).count ≡ (status r.status).count
  then-count = ap (λ z. (status z).count) (then-good.shown r.slot STATUS_AT (then-good.inside r.slot g.was.leaf.leaf.inside (λ q. omega (arith, q, g.was.leaf.leaf.slot))) (inl (omega arith)) ∙ g.was.leaf.leaf.was) ∙ ap (λ z. z.count) reads

  apart : (i : ℕ) → i < (page (durable s.past.config (here s) r.slot)).count → held ((page (durable s.past.config (here s) r.slot)).meta i) ≡ true → Disjoint ((page (durable s.past.config (here s) r.slot)).meta i) (Visible (place_of r))
  apart i l t =
      let stays : durable s.past.config (here s) r.slot (META_AT + i) ≡ durable s.past.config (s.past.at g.was.moment) r.slot (META_AT + i) = now.stands (META_AT + i) (inl (omega (arith, l, count-durable, then-count))) in
      let older : NODE_WORDS ≤ (extent_of ((page (durable s.past.config (s.past.at g.was.moment) r.slot)).meta i)).offset + (status r.status).block = g.older i (omega (arith, l, count-durable)) (ap (λ z. held (meta_of z)) (sym stays) ∙ t) in
      inr (omega (arith, older, ap (λ z. (extent_of (meta_of z)).offset) stays, ap (λ z. z.offset) extent-is, weighs, f.room.fits))

  rewrites : IsRewriteOf (node s.past.config (here s).image r.slot) (durable s.past.config (here s) r.slot) place (Visible (place_of r)) (updates r old)
  rewrites = record {
    used = visible-used (place_of r);
    lengths = leaf-record r (Visible (place_of r)) f extent-is;
    in_block = λ t. in-block;
    apart = λ i l ne t u. apart i l u;
    key = λ v. subst (IsPlainKey (node s.past.config (here s).image r.slot) (durable s.past.config (here s) r.slot)) (sym extent-is) (plain-key r f _ _ raw-stands durable-stands);
    payload = λ v. subst (IsPlainPayload (node s.past.config (here s).image r.slot) (durable s.past.config (here s) r.slot)) (sym extent-is) (plain-payload r f _ _ raw-stands durable-stands);
    is_key = λ v. ap (key_in (durable s.past.config (here s) r.slot)) extent-is ∙ reads-key r f _ durable-stands;
    is_new = λ v. ap Some (ap (payload_in (durable s.past.config (here s) r.slot)) extent-is ∙ reads-payload r f _ durable-stands);
    tail = λ v. inr there-visible;
    distinct = λ i l ne v u q. whole.distinct i place l (omega (arith, counted, count-durable)) ne u there-visible (q ∙ sym there-key);
    was_key = λ v. there-key;
    gone = λ v. absurd (true≢false (sym (visible-shown (place_of r)) ∙ v));
  }

  dead-small : (status r.status).dead + extent_words e < 2 ^ 10
  dead-small = omega (arith, f.dead, f.room.fits, g.was.small)

  counts : status ((replacement r place e).new_status) ≡ record (status (status_grown r)) { dead = (status r.status).dead + extent_words e; stamp = next_stamp (status (status_grown r)).stamp }
  counts = counted-reads (status_grown r) ((status r.status).dead + extent_words e) (grown-plain r f) dead-small

  dead : (status ((replacement r place e).new_status)).dead + shown (Visible (place_of r)) ≡ (status (status_grown r)).dead + shown (meta_of (meta_word (Visible e)))
  dead =
      let new : shown (Visible (place_of r)) ≡ size_of r = rw (visible-shown (place_of r)) weighs in
      let gone : shown (meta_of (meta_word (Visible e))) ≡ extent_words e = ap shown (visible-reads e g.was.extent) ∙ rw (visible-shown e) (ap extent_words (visible-extent e)) in
      omega (arith, new, gone, ap (λ z. z.dead) counts, ap (λ z. z.dead) reads)

  own : (i : ℕ) → (extent_of (Visible (place_of r))).offset ≤ i → i < (extent_of (Visible (place_of r))).offset + weight (Visible (place_of r)) → IsMineAndDurable s (node_address s.past.config r.slot + i)
  own i from to =
      let o : (extent_of (Visible (place_of r))).offset ≡ offset_of r = ap (λ z. z.offset) extent-is in
      let l : i - offset_of r < size_of r = omega (arith, from, to, o, weighs) in
      let a : address_of s.past.config r (i - offset_of r) ≡ node_address s.past.config r.slot + i = omega (arith, from, o) in
      subst (IsMineAndDurable s) a (record { mine = h.mine (i - offset_of r) l; flushed = h.flushed (i - offset_of r) l })

  rewrite-of : IsRewrite (replacement r place e) (Visible (place_of r)) (updates r old) s
  rewrite-of = record {
    moment = g.was.moment;
    leaf = g.was.leaf;
    thawed = thawed;
    states = record {
      plain = counted-plain (status_grown r) ((status r.status).dead + extent_words e) (grown-plain r f) dead-small;
      thawed = ap (λ z. z.frozen) counts ∙ thawed;
      count = ap (λ z. z.count) counts;
      block = ap (λ z. z.block) counts;
      stamp = ap (λ z. z.stamp) counts;
    };
    dead = dead;
    counted = g.was.counted;
    says = visible-says r f;
    rewrites = rewrites;
    own = λ i v from to. own i from to;
  }

pub replacing : ReplacementsAreGood
replacing s y r old place e good f g h stand swaps = rewriting s y (replacement r place e) (Visible (place_of r)) (updates r old) good (rewrite-of s r old place e good f g h stand) stand swaps
