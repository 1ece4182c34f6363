-- A record moves within its leaf: a trade.
use Rattle.std.proofs.Common.{◌≡◌, ◌≢◌, ℕ, ◌+◌, ◌^◌, ◌<◌, ◌≤◌, ◌==◌, ◌||◌, ◌⊎◌, if◌then◌else◌, Bool, true, false, List, [], ◌∷◌, arith, refl, sym, ap, subst, ◌∙◌, inl, inr}
use Rattle.std.specs.Prelude.{bytes_eq, Some, None}
use Rattle.std.proofs.lemmas.Bool.{cases_eq, true≢false}
use Rattle.std.proofs.lemmas.Bool.Decides.{nat_tests}
use Rattle.std.proofs.lemmas.List.Elements.{All-cons, All-nil}
use Rattle.std.proofs.lemmas.Slice.Eq.{bytes_eq-Decides}
use Rattle.bz_layout.specs.Addresses.{node_address}
use Rattle.bz_layout.specs.declared.sizes.TheConstants.{STATUS_AT, HEADER_AT, META_AT}
use Rattle.bz_tree.specs.Order.{is_within}
use Rattle.bz_slotted.specs.FromNode.Reading.{extent_words}
use Rattle.bz_slotted.specs.Page.{meta_of, visible, extent_of, page}
use Rattle.bz_slotted.specs.Readers.{found_of}
use Rattle.bz_slotted.specs.Records.{key_in, key_at, weight}
use Rattle.bz_word.specs.Headers.{header}
use Rattle.bz_word.specs.Statuses.{status}
use Rattle.bz_word.specs.declared.entry.Entry.{Entry}
use Rattle.bz_word.specs.declared.meta.Extent.{Extent}
use Rattle.bz_word.specs.declared.meta.Meta.TheVariants.{Reserved, Visible, Deleted}
use Rattle.bz_content.specs.Image.{node}
use Rattle.bz_moved.specs.OneLeaf.{Trades, AnswersTraded}
use Rattle.bz_moved.proofs.Proved.{trades_change_two_keys}
use Rattle.bz_task.specs.FromSwap.SwapMemory.{is_target}
use Rattle.bz_task.specs.Instant.{Instant, words, durable, form_at}
use Rattle.bz_task.specs.Laws.{SlotWords}
use Rattle.bz_task.specs.LeafSwaps.{IsWordOf}
use Rattle.bz_task.specs.PairSwaps.{IsLeafChanged, IsPairSwap, LeafSays}
use Rattle.bz_task.specs.Requests.{IsTarget}
use Rattle.bz_task.specs.Scene.{Scene, IsScene, here}
use Rattle.bz_task.specs.Shown.{IsOfRecord, IsShown}
use Rattle.bz_task.specs.Steps.{Moves, next_stamp}
use Rattle.bz_task.specs.Swaps.{Stand, SwapsTo, IsMineAndDurable}
use Rattle.bz_task.proofs.Proved.{pair_swaps_make_changes, swaps_show_in_slots}
use Rattle.bz_record.specs.Laws.{IsRewrite, inserts}
use Rattle.bz_record.specs.Leaves.{WasReserved}
use Rattle.bz_record.specs.Moving.{moves, status_moved, moving, IsGoodMove}
use Rattle.bz_record.specs.Records.{size_of, place_of, Fits}
use Rattle.bz_record.specs.Replacing.{removal, WasRecord}
use Rattle.bz_record.specs.ReplacingLaws.{deletes}
use Rattle.bz_record.specs.Swaps.{status_entry, meta_entry, entries_of, status_reserved, publication}
use Rattle.bz_record.specs.Writing.{HasWritten}
use Rattle.bz_record.specs.declared.new_record.NewRecord.{NewRecord}
use Rattle.bz_record.specs.declared.record_swap.RecordSwap.{RecordSwap}
use Rattle.bz_record.proofs.Before.{IsBefore, before}
use Rattle.bz_record.proofs.Coding.{reserved-plain, reserved-reads, reserved-says, sizes-agree, reserved-hidden, visible-shown, visible-held, visible-extent}
use Rattle.bz_record.proofs.Found.{counted-plain, counted-reads, visible-reads}
use Rattle.bz_record.proofs.Publishing.{publications-rewrite}
use Rattle.bz_record.proofs.Removing.{deleted-hidden, deleted-loose, removals-rewrite}
use Rattle.bz_record.proofs.Reserved.{of-record}
use Rattle.bz_record.proofs.Three.{one-of, sets-status, sets-durable-status, sets-first, sets-durable-first, sets-second, sets-durable-second, leaves-others, leaves-durable-others}

-- the half that takes the old record out
abbrev goes_from : NewRecord → ℕ → Extent → RecordSwap
goes_from r place e = removal r.slot (status_reserved r) place e

-- the targets of two entries
first-named : (a b : Entry) → is_target (a ∷ b ∷ []) a.target ≡ true
first-named a b = let t : (a.target == a.target) ≡ true = grind (arith, nat_tests) in rw t refl

second-named : (a b : Entry) → is_target (a ∷ b ∷ []) b.target ≡ true
second-named a b = let t : (b.target == b.target) ≡ true = grind (arith, nat_tests) in go (a.target == b.target) t
  where
    go : (t : Bool) → (b.target == b.target) ≡ true → t || ((b.target == b.target) || false) ≡ true
    go true q = refl
    go false q = rw q refl

module _ (s : Scene) (y : Instant) (r : NewRecord) (key : List ℕ) (place : ℕ) (e : Extent) (good : IsScene s) (f : Fits r) (w : WasReserved r s.past) (h : HasWritten r s) (o : WasRecord key r.payload r.slot (status_reserved r) place e s.past)
    (stand : Stand (moving s.past.config r place e) (here s)) (swaps : SwapsTo s.past.config (moving s.past.config r place e) (here s) y) where
  abbrev at : ℕ
  at = (status r.status).count

  abbrev n : ℕ → ℕ
  n = durable s.past.config (here s) r.slot

  abbrev m : ℕ → ℕ
  m = durable s.past.config y r.slot

  reads : status (status_reserved r) ≡ record (status r.status) { count = (status r.status).count + 1; block = (status r.status).block + size_of r; dead = (status r.status).dead + size_of r; stamp = next_stamp (status r.status).stamp }
  reads = reserved-reads r f

  thawed : (status (status_reserved r)).frozen ≡ false
  thawed = ap (λ z. z.frozen) reads ∙ f.room.thawed

  -- both halves, before the swap
  stand-old : Stand (entries_of s.past.config (goes_from r place e)) (here s)
  stand-old = All-cons (λ (z : Entry). (here s).value z.target ≡ z.expected) (status_entry s.past.config (goes_from r place e)) (meta_entry s.past.config (goes_from r place e) ∷ []) (stand 0 (status_entry s.past.config (goes_from r place e)) (omega arith))
      (All-cons (λ (z : Entry). (here s).value z.target ≡ z.expected) (meta_entry s.past.config (goes_from r place e)) [] (stand 1 (status_entry s.past.config (goes_from r place e)) (omega arith)) (All-nil (λ (z : Entry). (here s).value z.target ≡ z.expected)))

  stand-new : Stand (entries_of s.past.config (publication r)) (here s)
  stand-new = All-cons (λ (z : Entry). (here s).value z.target ≡ z.expected) (status_entry s.past.config (publication r)) (meta_entry s.past.config (publication r) ∷ []) (stand 0 (status_entry s.past.config (goes_from r place e)) (omega arith))
      (All-cons (λ (z : Entry). (here s).value z.target ≡ z.expected) (meta_entry s.past.config (publication r)) [] (stand 2 (status_entry s.past.config (goes_from r place e)) (omega arith)) (All-nil (λ (z : Entry). (here s).value z.target ≡ z.expected)))

  old : IsRewrite (goes_from r place e) (Deleted e.key e.total) (deletes key r.payload) s
  old = removals-rewrite s key r.payload r.slot (status_reserved r) place e good o thawed stand-old

  new : IsRewrite (publication r) (Visible (place_of r)) (inserts r) s
  new = publications-rewrite s r good f w h stand-new

  was-old : IsBefore (goes_from r place e) (deletes key r.payload) s
  was-old = before s (goes_from r place e) (Deleted e.key e.total) (deletes key r.payload) good old stand-old

  was-new : IsBefore (publication r) (inserts r) s
  was-new = before s (publication r) (Visible (place_of r)) (inserts r) good new stand-new

  there-old : (page (durable s.past.config (here s) r.slot)).meta place ≡ Visible e
  there-old = ap meta_of was-old.meta ∙ visible-reads e o.extent

  there-new : (page (durable s.past.config (here s) r.slot)).meta (status r.status).count ≡ Reserved (place_of r)
  there-new = ap meta_of was-new.meta ∙ reserved-says r f

  two : place ≢ (status r.status).count
  two q = let a : Visible e ≡ Reserved (place_of r) = sym there-old ∙ (ap (λ k. (page (durable s.past.config (here s) r.slot)).meta k) q ∙ there-new) in cc

  seen-old : visible ((page (durable s.past.config (here s) r.slot)).meta place) ≡ true
  seen-old = ap visible there-old ∙ visible-shown e

  hidden-new : visible ((page (durable s.past.config (here s) r.slot)).meta (status r.status).count) ≡ false
  hidden-new = ap visible there-new ∙ reserved-hidden (place_of r)

  -- the words after it
  slot : SlotWords s.past.config (moving s.past.config r place e) (here s) y r.slot
  slot = swaps_show_in_slots s.past.config (moving s.past.config r place e) (here s) y r.slot swaps

  small : (status r.status).dead + extent_words e < 2 ^ 10
  small = omega (arith, f.dead, f.room.fits, o.small)

  counts : status (status_moved r e) ≡ record (status (status_reserved r)) { dead = (status r.status).dead + extent_words e; stamp = next_stamp (status (status_reserved r)).stamp }
  counts = counted-reads (status_reserved r) ((status r.status).dead + extent_words e) (reserved-plain r f) small

  is : words s.past.config y r.slot STATUS_AT ≡ status_moved r e
  is = sets-status s.past.config r.slot place (status r.status).count _ _ _ _ _ _ (here s) y slot two was-old.place was-new.place

  is-durable : durable s.past.config y r.slot STATUS_AT ≡ status_moved r e
  is-durable = sets-durable-status s.past.config r.slot place (status r.status).count _ _ _ _ _ _ (here s) y slot two was-old.place was-new.place

  others : (i : ℕ) → i ≢ STATUS_AT → i ≢ META_AT + place → i ≢ META_AT + (status r.status).count → words s.past.config y r.slot i ≡ words s.past.config (here s) r.slot i
  others = leaves-others s.past.config r.slot place (status r.status).count _ _ _ _ _ _ (here s) y slot two was-old.place was-new.place

  durable-others : (i : ℕ) → i ≢ STATUS_AT → i ≢ META_AT + place → i ≢ META_AT + (status r.status).count → durable s.past.config y r.slot i ≡ durable s.past.config (here s) r.slot i
  durable-others = leaves-durable-others s.past.config r.slot place (status r.status).count _ _ _ _ _ _ (here s) y slot two was-old.place was-new.place

  says-old : meta_of (words s.past.config y r.slot (META_AT + place)) ≡ Deleted e.key e.total
  says-old = ap meta_of (sets-first s.past.config r.slot place (status r.status).count _ _ _ _ _ _ (here s) y slot two was-old.place was-new.place) ∙ old.says

  says-new : meta_of (words s.past.config y r.slot (META_AT + (status r.status).count)) ≡ Visible (place_of r)
  says-new = ap meta_of (sets-second s.past.config r.slot place (status r.status).count _ _ _ _ _ _ (here s) y slot two was-old.place was-new.place) ∙ new.says

  durable-says-old : meta_of (durable s.past.config y r.slot (META_AT + place)) ≡ Deleted e.key e.total
  durable-says-old = ap meta_of (sets-durable-first s.past.config r.slot place (status r.status).count _ _ _ _ _ _ (here s) y slot two was-old.place was-new.place) ∙ old.says

  durable-says-new : meta_of (durable s.past.config y r.slot (META_AT + (status r.status).count)) ≡ Visible (place_of r)
  durable-says-new = ap meta_of (sets-durable-second s.past.config r.slot place (status r.status).count _ _ _ _ _ _ (here s) y slot two was-old.place was-new.place) ∙ new.says

  -- it is a trade
  shows : visible (Visible (place_of r)) ≡ true
  shows = visible-shown (place_of r)

  new-key : key_in (durable s.past.config (here s) r.slot) (extent_of (Visible (place_of r))) ≡ r.key
  new-key = new.rewrites.is_key shows

  old-key : key_at (page (durable s.past.config (here s) r.slot)) place ≡ key
  old-key = old.rewrites.was_key seen-old

  trades : Trades (node s.past.config (here s).image r.slot) (node s.past.config y.image r.slot) (durable s.past.config (here s) r.slot) (durable s.past.config y r.slot) ((form_at s.past.config (here s)).low r.slot) ((form_at s.past.config (here s)).high r.slot) place (status r.status).count (Deleted e.key e.total) (Visible (place_of r))
  trades = record {
    others = durable-others;
    raw = λ i l. slot.raw i;
    status = subst (λ z. z < 2 ^ 61) (sym is-durable) (counted-plain (status_reserved r) ((status r.status).dead + extent_words e) (reserved-plain r f) small);
    count = ap (λ z. (status z).count) is-durable ∙ (ap (λ z. z.count) counts ∙ ap (λ z. (status z).count) (sym was-old.was_durable));
    block = ap (λ z. (status z).block) is-durable ∙ (ap (λ z. z.block) counts ∙ ap (λ z. (status z).block) (sym was-old.was_durable));
    dead =
        let after : (page (durable s.past.config y r.slot)).dead ≡ (status r.status).dead + extent_words e = ap (λ z. (status z).dead) is-durable ∙ ap (λ z. z.dead) counts in
        let earlier : (page (durable s.past.config (here s) r.slot)).dead ≡ (status r.status).dead + size_of r = ap (λ z. (status z).dead) was-old.was_durable ∙ ap (λ z. z.dead) reads in
        let more : weight (Visible (place_of r)) ≡ size_of r = ap extent_words (visible-extent (place_of r)) ∙ sizes-agree r f in
        let less : weight ((page (durable s.past.config (here s) r.slot)).meta place) ≡ extent_words e = ap weight there-old ∙ ap extent_words (visible-extent e) in
        omega (arith, after, earlier, more, less);
    goes = record {
      inside = omega (arith, o.counted, was-old.count_durable);
      was = seen-old;
      said = durable-says-old;
      taken = old.rewrites.used;
      hidden = deleted-hidden e.key e.total;
      loose = deleted-loose e.key e.total;
      lengths = old.rewrites.lengths;
    };
    comes = record {
      inside = omega (arith, new.counted, was-new.count_durable);
      was = hidden-new;
      said = durable-says-new;
      taken = new.rewrites.used;
      shows = shows;
      lengths = new.rewrites.lengths;
      in_block = new.rewrites.in_block (visible-held (place_of r));
      apart = λ i l ne u. new.rewrites.apart i l ne (visible-held (place_of r)) u;
      key = new.rewrites.key shows;
      payload = new.rewrites.payload shows;
      tail = elim (new.rewrites.tail shows) [ inl l ↦ l | inr u ↦ absurd (true≢false (sym u ∙ hidden-new)) ];
      range = subst (λ z. is_within z ((form_at s.past.config (here s)).low r.slot) ((form_at s.past.config (here s)).high r.slot) ≡ true) (sym new-key) was-new.range;
      distinct = λ i l ne u q. new.rewrites.distinct i l ne shows u (q ∙ new-key);
    };
  }

  answers : AnswersTraded s.past.config.nodes (node s.past.config y.image r.slot) (durable s.past.config (here s) r.slot) (durable s.past.config y r.slot) ((form_at s.past.config (here s)).low r.slot) ((form_at s.past.config (here s)).high r.slot) place (Visible (place_of r))
  answers = trades_change_two_keys s.past.config.nodes (node s.past.config (here s).image r.slot) (node s.past.config y.image r.slot) (durable s.past.config (here s) r.slot) (durable s.past.config y r.slot) _ _ place (status r.status).count (Deleted e.key e.total) (Visible (place_of r)) was-old.leaf.whole trades

  differ : key ≢ r.key
  differ q = trades.comes.distinct place (omega (arith, o.counted, was-old.count_durable)) two seen-old (old-key ∙ (q ∙ sym new-key))

  says : LeafSays (moves r key) s r.slot y
  says = record {
    range = (was-old.range, (was-new.range, tt));
    before = (was-old.found, (was-new.found, tt));
    after = λ k. go k (bytes_eq k key) refl (bytes_eq k r.key) refl;
  }
    where
      go : (k : List ℕ) → (t : Bool) → bytes_eq k key ≡ t → (u : Bool) → bytes_eq k r.key ≡ u
          → found_of (durable s.past.config y r.slot) k ≡ if t then None else (if u then Some r.payload else found_of (durable s.past.config (here s) r.slot) k)
      go k true a u b = ap (found_of (durable s.past.config y r.slot)) ((bytes_eq-Decides k key).0 a ∙ sym old-key) ∙ answers.gone
      go k false a true b = ap (found_of (durable s.past.config y r.slot)) ((bytes_eq-Decides k r.key).0 b ∙ sym new-key) ∙ (answers.new ∙ new.rewrites.is_new shows)
      go k false a false b = answers.other k (λ q. true≢false (sym ((bytes_eq-Decides k r.key).1 (sym q ∙ new-key)) ∙ b)) (λ q. true≢false (sym ((bytes_eq-Decides k key).1 (sym q ∙ old-key)) ∙ a))

  -- the leaf is changed as nodes are
  count-is : (page (words s.past.config y r.slot)).count ≡ (status (status_reserved r)).count
  count-is = ap (λ z. (status z).count) is ∙ ap (λ z. z.count) counts

  block-is : (page (words s.past.config y r.slot)).block ≡ (status (status_reserved r)).block
  block-is = ap (λ z. (status z).block) is ∙ ap (λ z. z.block) counts

  as-nodes : Moves (words s.past.config (here s) r.slot) (words s.past.config y r.slot)
  as-nodes = record {
    thawed = ap (λ z. (status z).frozen) was-old.was ∙ thawed;
    stamp = ap (λ z. (status z).stamp) is ∙ (ap (λ z. z.stamp) counts ∙ ap (λ z. next_stamp (status z).stamp) (sym was-old.was));
    front = λ i ne l. others i ne (λ q. omega (arith, q, l)) (λ q. omega (arith, q, l));
    freeze = λ q. absurd (true≢false (sym q ∙ (ap (λ z. (status z).frozen) is ∙ (ap (λ z. z.frozen) counts ∙ thawed))));
    inner = λ l. absurd (omega (arith, l, was-old.leaf.flat));
    count = omega (arith, was-old.count_was, count-is);
    block = omega (arith, was-old.block_was, block-is);
    spare = λ q l. omega (arith, l, was-old.count_was, count-is, was-old.block_was, block-is);
  }

  -- a word of a visible record: one of the new record, or of one that was visible
  record-shown : (i j : ℕ) → IsOfRecord (words s.past.config y r.slot) i j → IsShown (words s.past.config (here s) r.slot) i ⊎ IsMineAndDurable s (node_address s.past.config r.slot + i)
  record-shown i j z = elim (cases_eq j place) [
    | inl q ↦ absurd (true≢false (sym z.visible ∙ (ap (λ k. visible (meta_of (words s.past.config y r.slot (META_AT + k)))) q ∙ (ap visible says-old ∙ deleted-hidden e.key e.total))))
    | inr ne ↦ elim (cases_eq j (status r.status).count) [
      | inl q ↦ (
          let it : meta_of (words s.past.config y r.slot (META_AT + j)) ≡ Visible (place_of r) = ap (λ k. meta_of (words s.past.config y r.slot (META_AT + k))) q ∙ says-new in
          inr (new.own i shows (subst (λ k. (extent_of k).offset ≤ i) it z.from) (subst (λ k. i < (extent_of k).offset + weight k) it z.to)))
      | inr far ↦ inl (inr (inr (inr (j, of-record (words s.past.config (here s) r.slot) (words s.past.config y r.slot) i j (others (META_AT + j) (λ q. omega (arith, q)) (λ q. ne (omega (arith, q))) (λ q. far (omega (arith, q)))) (omega (arith, z.counted, was-old.count_was, count-is)) z))))
    ]
  ]

  shown-after : (i : ℕ) → IsShown (words s.past.config y r.slot) i → IsShown (words s.past.config (here s) r.slot) i ⊎ IsMineAndDurable s (node_address s.past.config r.slot + i)
  shown-after i (inl q) = inl (inl (omega (arith, q, was-old.count_was, count-is)))
  shown-after i (inr (inl q)) = inl (inr (inl (omega (arith, q, was-old.block_was, block-is))))
  shown-after i (inr (inr (inl q))) = inl (inr (inr (inl (omega (arith, q, ap (λ z. (header z).level) (others HEADER_AT (λ p. omega (arith, p)) (λ p. omega (arith, p)) (λ p. omega (arith, p))))))))
  shown-after i (inr (inr (inr z))) = record-shown i z.0 z.1

  leaf-changed : IsLeafChanged s r.slot y
  leaf-changed = record {
    inside = was-old.leaf.inside;
    slot = was-old.leaf.slot;
    leaf = was-old.leaf.leaf;
    moves = as-nodes;
    whole = answers.none;
    shown = λ i l q. shown-after i q;
  }

  -- each word that is named is one of a half
  of-half : (P : ℕ → Type 0) → ((a : ℕ) → is_target (entries_of s.past.config (goes_from r place e)) a ≡ true → P a) → ((a : ℕ) → is_target (entries_of s.past.config (publication r)) a ≡ true → P a)
      → (a : ℕ) → is_target (moving s.past.config r place e) a ≡ true → P a
  of-half P p q a t = elim (one-of (status_entry s.past.config (goes_from r place e)) (meta_entry s.past.config (goes_from r place e)) (meta_entry s.past.config (publication r)) a t) [
    | inl z ↦ subst P (sym z) (p (node_address s.past.config r.slot + STATUS_AT) (first-named (status_entry s.past.config (goes_from r place e)) (meta_entry s.past.config (goes_from r place e))))
    | inr z ↦ elim z [
      | inl z ↦ subst P (sym z) (p (node_address s.past.config r.slot + (META_AT + place)) (second-named (status_entry s.past.config (goes_from r place e)) (meta_entry s.past.config (goes_from r place e))))
      | inr z ↦ subst P (sym z) (q (node_address s.past.config r.slot + (META_AT + (status r.status).count)) (second-named (status_entry s.past.config (publication r)) (meta_entry s.past.config (publication r))))
    ]
  ]

  pair : IsPairSwap (moving s.past.config r place e) s r.slot r.slot y
  pair = record {
    swaps = swaps;
    first = leaf-changed;
    second = leaf-changed;
    place = λ a t. inl (of-half (IsWordOf s r.slot) was-old.words_of was-new.words_of a t);
    targets = of-half (IsTarget s) was-old.targets was-new.targets;
  }

  pub moving-within : IsGoodMove r key (moving s.past.config r place e) s y
  moving-within = record {
    good = pair_swaps_make_changes.one (moving s.past.config r place e) s r.slot y (moves r key) good pair says;
    differ = differ;
  }
