-- A swap after which a record says something else is lawful for everybody, and makes its change.
use Rattle.std.proofs.Common.{◌≡◌, ◌≢◌, ℕ, ◌+◌, ◌^◌, ◌<◌, ◌≤◌, ◌⊎◌, if◌then◌else◌, Bool, true, false, List, arith, refl, sym, ap, subst, ◌∙◌, inl, inr, Option}
use Rattle.std.specs.Prelude.{bytes_eq, Some, None}
use Rattle.std.proofs.lemmas.Bool.{cases_eq, true≢false}
use Rattle.std.proofs.lemmas.Slice.Eq.{bytes_eq-Decides}
use Rattle.bz_layout.specs.Addresses.{node_address}
use Rattle.bz_layout.specs.declared.sizes.TheConstants.{STATUS_AT, HEADER_AT, META_AT}
use Rattle.bz_tree.specs.Order.{is_within}
use Rattle.bz_slotted.specs.Changes.{Rewrites}
use Rattle.bz_slotted.specs.LeafLaws.{AnswersRewritten}
use Rattle.bz_slotted.specs.Page.{meta_of, visible, extent_of, page}
use Rattle.bz_slotted.specs.Readers.{found_of}
use Rattle.bz_slotted.specs.Records.{key_in, payload_in, key_at, weight, shown}
use Rattle.bz_slotted.proofs.Proved.{rewrite_changes_one_key}
use Rattle.bz_word.specs.Headers.{header}
use Rattle.bz_word.specs.Statuses.{status}
use Rattle.bz_word.specs.declared.meta.Meta.{Meta}
use Rattle.bz_content.specs.Image.{node}
use Rattle.bz_task.specs.Instant.{Instant, words, durable, form_at}
use Rattle.bz_task.specs.Laws.{SlotWords}
use Rattle.bz_task.specs.LeafSwaps.{SaysChange}
use Rattle.bz_task.specs.Scene.{Scene, IsScene, here}
use Rattle.bz_task.specs.Shown.{IsOfRecord, IsShown}
use Rattle.bz_task.specs.Steps.{Moves, next_stamp}
use Rattle.bz_task.specs.Swaps.{Change, Stand, IsMineAndDurable}
use Rattle.bz_task.proofs.Proved.{leaf_swaps_are_good, swaps_show_in_slots}
use Rattle.bz_record.specs.Laws.{IsRewrite, IsRewritten, RewritesChangeTheirLeaf, RewritesAreGood}
use Rattle.bz_record.specs.Swaps.{entries_of}
use Rattle.bz_record.specs.declared.record_swap.RecordSwap.{RecordSwap}
use Rattle.bz_record.proofs.Before.{IsBefore, before}
use Rattle.bz_record.proofs.Entries.{sets-status, sets-durable-status, sets-meta, sets-durable-meta, leaves-others, leaves-durable-others, leaves-raw}
use Rattle.bz_record.proofs.Reserved.{of-record}

-- the answers after a rewrite are the change
says-change : (nodes : ℕ) (raw n m : ℕ → ℕ) (lo hi : Option (List ℕ)) (j : ℕ) (mt : Meta) (change : Change) → AnswersRewritten nodes raw n m lo hi j mt → (visible mt ≡ true → key_in n (extent_of mt) ≡ change.key)
    → (visible mt ≡ true → Some (payload_in n (extent_of mt)) ≡ change.new) → (visible ((page n).meta j) ≡ true → key_at (page n) j ≡ change.key) → (visible mt ≡ false → (visible ((page n).meta j) ≡ true) × (change.new ≡ None))
    → (key : List ℕ) → found_of m key ≡ if bytes_eq key change.key then change.new else found_of n key
says-change nodes raw n m lo hi j mt change a is_key is_new was_key gone key = go (bytes_eq key change.key) refl
  where
    new : (v : Bool) → visible mt ≡ v → found_of m change.key ≡ change.new
    new true v = ap (found_of m) (sym (is_key v)) ∙ (a.new v ∙ is_new v)
    new false v = ap (found_of m) (sym (was_key (gone v).0)) ∙ (a.gone (gone v).0 v ∙ sym (gone v).1)

    go : (t : Bool) → bytes_eq key change.key ≡ t → found_of m key ≡ if t then change.new else found_of n key
    go true e = ap (found_of m) ((bytes_eq-Decides key change.key).0 e) ∙ new (visible mt) refl
    go false e =
        let ne : change.key ≢ key = λ q. true≢false (sym ((bytes_eq-Decides key change.key).1 (sym q)) ∙ e) in
        a.other key (λ v q. ne (sym (is_key v) ∙ q)) (λ v q. ne (sym (was_key v) ∙ q))

module _ (s : Scene) (y : Instant) (w : RecordSwap) (mt : Meta) (change : Change) (good : IsScene s) (f : IsRewrite w mt change s) (stand : Stand (entries_of s.past.config w) (here s)) (slot : SlotWords s.past.config (entries_of s.past.config w) (here s) y w.slot) where
  b : IsBefore w change s
  b = before s w mt change good f stand

  is : words s.past.config y w.slot STATUS_AT ≡ w.new_status
  is = sets-status s.past.config w (here s) y slot b.place

  is-durable : durable s.past.config y w.slot STATUS_AT ≡ w.new_status
  is-durable = sets-durable-status s.past.config w (here s) y slot b.place

  others : (i : ℕ) → i ≢ STATUS_AT → i ≢ META_AT + w.place → words s.past.config y w.slot i ≡ words s.past.config (here s) w.slot i
  others = leaves-others s.past.config w (here s) y slot b.place

  count-is : (page (words s.past.config y w.slot)).count ≡ (status w.status).count
  count-is = ap (λ z. (status z).count) is ∙ f.states.count

  block-is : (page (words s.past.config y w.slot)).block ≡ (status w.status).block
  block-is = ap (λ z. (status z).block) is ∙ f.states.block

  rewrites : Rewrites (node s.past.config (here s).image w.slot) (node s.past.config y.image w.slot) (durable s.past.config (here s) w.slot) (durable s.past.config y w.slot) ((form_at s.past.config (here s)).low w.slot) ((form_at s.past.config (here s)).high w.slot) w.place mt
  rewrites = record {
    others = leaves-durable-others s.past.config w (here s) y slot b.place;
    raw = λ i l. leaves-raw s.past.config w (here s) y slot b.place i;
    status = subst (λ z. z < 2 ^ 61) (sym is-durable) f.states.plain;
    count = ap (λ z. (status z).count) is-durable ∙ (f.states.count ∙ sym b.count_durable);
    block = ap (λ z. (status z).block) is-durable ∙ (f.states.block ∙ sym b.block_durable);
    dead = ap (λ z. (status z).dead + shown mt) is-durable ∙ (f.dead ∙ (ap (λ z. (status z).dead + shown (meta_of w.meta)) (sym b.was_durable) ∙ ap (λ z. (page (durable s.past.config (here s) w.slot)).dead + shown (meta_of z)) (sym b.meta)));
    inside = omega (arith, f.counted, b.count_durable);
    said = ap meta_of (sets-durable-meta s.past.config w (here s) y slot b.place) ∙ f.says;
    taken = f.rewrites.used;
    lengths = f.rewrites.lengths;
    in_block = f.rewrites.in_block;
    apart = f.rewrites.apart;
    key = f.rewrites.key;
    payload = f.rewrites.payload;
    tail = λ v. elim (f.rewrites.tail v) [ inl l ↦ inl l | inr u ↦ inr (u, f.rewrites.is_key v ∙ sym (f.rewrites.was_key u)) ];
    range = λ v. subst (λ z. is_within z ((form_at s.past.config (here s)).low w.slot) ((form_at s.past.config (here s)).high w.slot) ≡ true) (sym (f.rewrites.is_key v)) b.range;
    distinct = λ i l ne v u e. f.rewrites.distinct i l ne v u (e ∙ f.rewrites.is_key v);
  }

  answers : AnswersRewritten s.past.config.nodes (node s.past.config y.image w.slot) (durable s.past.config (here s) w.slot) (durable s.past.config y w.slot) ((form_at s.past.config (here s)).low w.slot) ((form_at s.past.config (here s)).high w.slot) w.place mt
  answers = rewrite_changes_one_key s.past.config.nodes (node s.past.config (here s).image w.slot) (node s.past.config y.image w.slot) (durable s.past.config (here s) w.slot) (durable s.past.config y w.slot) _ _ w.place mt b.leaf.whole rewrites

  says : SaysChange change (durable s.past.config (here s) w.slot) (durable s.past.config y w.slot) ((form_at s.past.config (here s)).low w.slot) ((form_at s.past.config (here s)).high w.slot)
  says = record {
    range = b.range;
    before = b.found;
    after = says-change s.past.config.nodes (node s.past.config y.image w.slot) (durable s.past.config (here s) w.slot) (durable s.past.config y w.slot) _ _ w.place mt change answers f.rewrites.is_key f.rewrites.is_new f.rewrites.was_key f.rewrites.gone;
  }

  moves : Moves (words s.past.config (here s) w.slot) (words s.past.config y w.slot)
  moves = record {
    thawed = ap (λ z. (status z).frozen) b.was ∙ f.thawed;
    stamp = ap (λ z. (status z).stamp) is ∙ (f.states.stamp ∙ ap (λ z. next_stamp (status z).stamp) (sym b.was));
    front = λ i ne l. others i ne (λ e. omega (arith, e, l));
    freeze = λ h. absurd (true≢false (sym h ∙ (ap (λ z. (status z).frozen) is ∙ f.states.thawed)));
    inner = λ l. absurd (omega (arith, l, b.leaf.flat));
    count = omega (arith, b.count_was, count-is);
    block = omega (arith, b.block_was, block-is);
    spare = λ e l. omega (arith, l, b.count_was, count-is, b.block_was, block-is);
  }

  -- a word of a visible record: one of the record that changes, or of one that was visible
  record-shown : (i j : ℕ) → IsOfRecord (words s.past.config y w.slot) i j → IsShown (words s.past.config (here s) w.slot) i ⊎ IsMineAndDurable s (node_address s.past.config w.slot + i)
  record-shown i j o = elim (cases_eq j w.place) [
    | inl e ↦ (
        let q : meta_of (words s.past.config y w.slot (META_AT + j)) ≡ mt = ap (λ z. meta_of (words s.past.config y w.slot (META_AT + z))) e ∙ (ap meta_of (sets-meta s.past.config w (here s) y slot b.place) ∙ f.says) in
        inr (f.own i (sym (ap visible q) ∙ o.visible) (subst (λ z. (extent_of z).offset ≤ i) q o.from) (subst (λ z. i < (extent_of z).offset + weight z) q o.to)))
    | inr ne ↦ inl (inr (inr (inr (j, of-record (words s.past.config (here s) w.slot) (words s.past.config y w.slot) i j (others (META_AT + j) (λ e. omega (arith, e)) (λ e. ne (omega (arith, e)))) (omega (arith, o.counted, b.count_was, count-is)) o))))
  ]

  shown-after : (i : ℕ) → IsShown (words s.past.config y w.slot) i → IsShown (words s.past.config (here s) w.slot) i ⊎ IsMineAndDurable s (node_address s.past.config w.slot + i)
  shown-after i (inl h) = inl (inl (omega (arith, h, b.count_was, count-is)))
  shown-after i (inr (inl h)) = inl (inr (inl (omega (arith, h, b.block_was, block-is))))
  shown-after i (inr (inr (inl h))) = inl (inr (inr (inl (omega (arith, h, ap (λ z. (header z).level) (others HEADER_AT (λ e. omega (arith, e)) (λ e. omega (arith, e))))))))
  shown-after i (inr (inr (inr o))) = record-shown i o.0 o.1

  rewritten : IsRewritten w change s y
  rewritten = record {
    leaf = record {
      inside = b.leaf.inside;
      slot = f.leaf.leaf.slot;
      leaf = b.leaf.leaf;
      moves = moves;
      whole = answers.none;
      shown = λ i l h. shown-after i h;
    };
    says = says;
    place = b.words_of;
    targets = b.targets;
  }

pub rewriting-leaf : RewritesChangeTheirLeaf
rewriting-leaf s y w mt change good f stand slot = rewritten s y w mt change good f stand slot

pub rewriting : RewritesAreGood
rewriting s y w mt change good f stand swaps =
    let it = rewritten s y w mt change good f stand (swaps_show_in_slots s.past.config (entries_of s.past.config w) (here s) y w.slot swaps) in
    leaf_swaps_are_good true change (entries_of s.past.config w) s w.slot y good (record {
      swaps = swaps;
      inside = it.leaf.inside;
      slot = it.leaf.slot;
      leaf = it.leaf.leaf;
      place = it.place;
      targets = it.targets;
      moves = it.leaf.moves;
      whole = it.leaf.whole;
      says = it.says;
      shown = it.leaf.shown;
    })
