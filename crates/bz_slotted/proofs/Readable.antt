-- A leaf that breaks no rule can be read as pairs.
use Rattle.std.proofs.Common.{◌≡◌, ℕ, ◌+◌, ◌<◌, ◌≤◌, true, List, length, map, arith, refl, sym, ap, ◌∙◌, Option}
use Rattle.std.specs.Prelude.{IsSome}
use Rattle.std.specs.List.{range_with_len, sum_by, flat_map}
use Rattle.std.specs.FinMap.{find}
use Rattle.std.specs.Cmp.Lexicographic.{slice_cmp}
use Rattle.std.specs.Ordering.{nat_cmp}
use Rattle.bz_key.specs.Packing.{packed_len, unpacked_key, unpacked_payload}
use Rattle.bz_layout.specs.declared.sizes.TheConstants.{NODE_WORDS, META_AT, SHARED_WORDS}
use Rattle.bz_node.specs.Reading.{count_in, meta_in, metas_in, payload_at, payload_len, pairs_in, pair_in, live_in, shown, words_shown, extent_words, IsReadable, HasPair}
use Rattle.bz_word.specs.declared.meta.Extent.{Extent}
use Rattle.bz_word.specs.declared.meta.Meta.{Meta}
use Rattle.bz_word.specs.declared.meta.Meta.TheVariants.{Visible}
use Rattle.bz_slotted.specs.Page.{words_at, visible, used, extent_of, page}
use Rattle.bz_slotted.specs.Readers.{found_of, live_of}
use Rattle.bz_slotted.specs.ReadingLaws.{node_of, ReadsAsPairs, WholeLeavesAreReadable}
use Rattle.bz_slotted.specs.Records.{key_in, live_to, records}
use Rattle.bz_slotted.specs.Whole.{IsFilled, Whole}
use Rattle.bz_slotted.proofs.Faults.{whole-none, held-visible}
use Rattle.bz_slotted.proofs.Lists.{part-at, meta-unpacks, used-unpacks, metas-range, live-range}
use Rattle.bz_slotted.proofs.Lives.{live_to-le}
use Rattle.bz_slotted.proofs.Pairs.{pair-read, records-range, find-records}

pub node-readable : (words : List ℕ) → IsFilled (page (node_of words)) → ((j : ℕ) → j < (page (node_of words)).count → used ((page (node_of words)).meta j) ≡ true) → IsReadable words
node-readable words f u = record {
  status = f.status;
  room = omega (arith, f.room);
  metas = λ i l. used-unpacks (node_of words (META_AT + i)) (u i l);
}

-- what a metadata word says, as a reader of lists reads it
pub meta-read : (words : List ℕ) (i : ℕ) → used ((page (node_of words)).meta i) ≡ true → (page (node_of words)).meta i ≡ meta_in words i
meta-read words i u = meta-unpacks (node_of words (META_AT + i)) (used-unpacks (node_of words (META_AT + i)) u)

pub visible-sees : (m : Meta) (e : Extent) → m ≡ Visible e → visible m ≡ true
unfolding visible
visible-sees m e is = rw is refl

pub extent-sees : (m : Meta) (e : Extent) → m ≡ Visible e → extent_of m ≡ e
unfolding extent_of
extent-sees m e is = rw is refl

module _ (raw : ℕ → ℕ) (words : List ℕ) (lo hi : Option (List ℕ)) (size : length words ≡ NODE_WORDS) (w : Whole raw (page (node_of words)) lo hi) where
  readable : IsReadable words
  readable = node-readable words w.filled w.used

  room : count_in words ≤ SHARED_WORDS
  room = readable.room

  metas : metas_in words ≡ map (page (node_of words)).meta (range_with_len 0 (count_in words))
  metas = metas-range words size room readable.metas

  inside : (i : ℕ) → i < count_in words → visible ((page (node_of words)).meta i) ≡ true → (extent_of ((page (node_of words)).meta i)).offset + extent_words (extent_of ((page (node_of words)).meta i)) ≤ length words
  inside i l v = omega (arith, size, (w.inside i l (held-visible ((page (node_of words)).meta i) v)).ends)

  live : live_in words ≡ live_to (page (node_of words)).meta (count_in words)
  live = ap (sum_by words_shown) metas ∙ live-range (page (node_of words)).meta (count_in words)

  pairs : pairs_in words ≡ records (page (node_of words))
  pairs = ap (flat_map (shown words)) metas ∙ records-range words (page (node_of words)).meta (count_in words) inside

  seen : (i : ℕ) (e : Extent) → i < count_in words → meta_in words i ≡ Visible e → (page (node_of words)).meta i ≡ Visible e
  seen i e l is = meta-read words i (w.used i l) ∙ is

  has-pair : (i : ℕ) (e : Extent) → i < count_in words → meta_in words i ≡ Visible e → HasPair words e
  has-pair i e l is =
      let m : (page (node_of words)).meta i ≡ Visible e = seen i e l is in
      let v : visible ((page (node_of words)).meta i) ≡ true = visible-sees ((page (node_of words)).meta i) e m in
      let x : extent_of ((page (node_of words)).meta i) ≡ e = extent-sees ((page (node_of words)).meta i) e m in
      let b : e.offset + extent_words e ≤ length words = rw x at (inside i l v) in
      let k : IsSome (unpacked_key e.key (words_at (node_of words) e.offset (packed_len e.key))) = rw x at (w.key i l v).packs in
      let p : IsSome (unpacked_payload (payload_len e) (words_at (node_of words) (payload_at e) (packed_len (payload_len e)))) = rw x at (w.payload i l v).packs in
      record {
        inside = omega (arith, b, size);
        key = rw (← part-at words e.offset (packed_len e.key) (omega arith)) k;
        payload = rw (← part-at words (payload_at e) (packed_len (payload_len e)) (omega arith)) p;
      }

  key-seen : (i : ℕ) (e : Extent) → i < count_in words → meta_in words i ≡ Visible e → (pair_in words e).0 ≡ key_in (node_of words) (extent_of ((page (node_of words)).meta i))
  key-seen i e l is =
      let m : (page (node_of words)).meta i ≡ Visible e = seen i e l is in
      let x : extent_of ((page (node_of words)).meta i) ≡ e = extent-sees ((page (node_of words)).meta i) e m in
      let b : e.offset + extent_words e ≤ length words = rw x at (inside i l (visible-sees ((page (node_of words)).meta i) e m)) in
      ap (λ (r : List ℕ × List ℕ). r.0) (pair-read words e b) ∙ ap (key_in (node_of words)) (sym x)

  shown-at : (i : ℕ) (e : Extent) → i < count_in words → meta_in words i ≡ Visible e → visible ((page (node_of words)).meta i) ≡ true
  shown-at i e l is = visible-sees ((page (node_of words)).meta i) e (seen i e l is)

  pub leaf-reads : ReadsAsPairs words
  unfolding found_of live_of
  leaf-reads = record {
    readable = record {
      node = readable;
      live = omega (arith, live, live_to-le (page (node_of words)).meta (count_in words), w.filled.room, w.filled.dead);
      pairs = has-pair;
      distinct = λ i j e f less l a b same. w.distinct i j (omega arith) l (λ q. absurd (omega arith)) (shown-at i e (omega arith) a) (shown-at j f l b) (sym (key-seen i e (omega arith) a) ∙ same ∙ key-seen j f l b);
    };
    pairs = pairs;
    says = λ key. ap (find (slice_cmp nat_cmp) key) pairs ∙ find-records (node_of words) (page (node_of words)).meta key (count_in words) (λ i j li lj ne vi vj. w.distinct i j li lj ne vi vj);
    live = live;
  }

pub leaves-readable : WholeLeavesAreReadable
leaves-readable nodes raw words lo hi size none = leaf-reads raw words lo hi size (whole-none nodes raw (node_of words) lo hi none)
