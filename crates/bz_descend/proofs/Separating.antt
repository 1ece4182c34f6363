-- What is read of any record of an inner node is as it was when its status was read.
use Rattle.std.proofs.Common.{◌≡◌, ℕ, ◌+◌, ◌-◌, ◌<◌, ◌≤◌, List, length, take, set, arith, sym, ap, subst, ◌∙◌, inl, inr}
use Rattle.std.specs.Prelude.{Some, IsSome, slice_index}
use Rattle.std.proofs.lemmas.Bool.{cases_eq}
use Rattle.std.proofs.lemmas.List.{get_or-set_same, get_or-set_other}
use Rattle.bz_key.specs.Packing.{packed_len, unpacked, unpacked_key}
use Rattle.bz_key.specs.declared.limits.TheConstants.{KEY_BYTES}
use Rattle.bz_layout.specs.Addresses.{node_address}
use Rattle.bz_layout.specs.declared.sizes.TheConstants.{NODE_WORDS, META_AT, FENCE_WORDS}
use Rattle.bz_slotted.specs.Page.{meta_of, extent_of, page}
use Rattle.bz_slotted.specs.Readers.{key_of}
use Rattle.bz_slotted.specs.Records.{key_words}
use Rattle.bz_slotted.specs.Rules.{POINTER_BYTES}
use Rattle.bz_word.specs.declared.meta.Extent.{Extent}
use Rattle.bz_task.specs.Instant.{words}
use Rattle.bz_task.specs.Requests.{Answers}
use Rattle.bz_task.specs.Scene.{Scene, IsScene, here}
use Rattle.bz_task.specs.declared.path.Path.{Path}
use Rattle.bz_descend.specs.Inners.{Opened}
use Rattle.bz_descend.proofs.Leading.{word-of, kept}
use Rattle.bz_descend.proofs.Reading.{words-are, is-some}
use Rattle.bz_descend.proofs.Separators.{key-is, meta-kept, word-kept}

module _ (key : List ℕ) (path : Path) (s : Scene) (good : IsScene s) (k st : ℕ) (o : Opened key path k st s.past) (j : ℕ) (c : j < (page (words s.past.config (s.past.at o.guarded) k)).count) where
  -- its metadata word says where it lies
  pub meta-at : (v : ℕ) → Answers s (node_address s.past.config k + (META_AT + j)) v → extent_of ((page (words s.past.config (s.past.at o.guarded) k)).meta j) ≡ extent_of (meta_of v)
  meta-at v t =
      let m = meta-kept (words s.past.config (s.past.at o.guarded) k) (words s.past.config (here s) k) o.inner (kept key path s good k st o) j c in
      ap extent_of (sym m ∙ ap meta_of (sym (word-of s.past.config (here s) k (META_AT + j) (omega (arith, c, o.inner.room))) ∙ t.value))

  module _ (e : Extent) (says : extent_of ((page (words s.past.config (s.past.at o.guarded) k)).meta j) ≡ e) where
    -- a word of its key
    pub key-word-at : (i v : ℕ) → i < packed_len e.key → Answers s (node_address s.past.config k + (e.offset + i)) v → v ≡ words s.past.config (s.past.at o.guarded) k (e.offset + i)
    key-word-at i v l t =
        let n = words s.past.config (s.past.at o.guarded) k in
        let w : e.offset + i < NODE_WORDS = omega (arith, l, subst (λ z. z.offset + (packed_len z.key + packed_len (z.total - z.key)) ≤ NODE_WORDS) says (o.inner.inside j c).ends, subst (λ z. z.total ≡ z.key + POINTER_BYTES) says (o.inner.lengths j c).pointer) in
        sym t.value ∙ (word-of s.past.config (here s) k (e.offset + i) w
        ∙ subst (λ z. i < packed_len z.key → words s.past.config (here s) k (z.offset + i) ≡ n (z.offset + i)) says (word-kept n (words s.past.config (here s) k) o.inner (kept key path s good k st o) j i c) l)

    pub short-key : e.key ≤ KEY_BYTES
    short-key = subst (λ z. z.key ≤ KEY_BYTES) says (o.inner.lengths j c).short

    -- and one more than were read before
    pub more-read : (ws : List ℕ) (i v : ℕ) → length ws ≡ FENCE_WORDS → i < packed_len e.key → Answers s (node_address s.past.config k + (e.offset + i)) v → ((t : ℕ) → t < i → slice_index ws t ≡ words s.past.config (s.past.at o.guarded) k (e.offset + t))
        → (t : ℕ) → t < i + 1 → slice_index (set ws i v) t ≡ words s.past.config (s.past.at o.guarded) k (e.offset + t)
    more-read ws i v full w told h t l = elim (cases_eq t i) [
      | inl same ↦ subst (λ z. slice_index (set ws i v) z ≡ words s.past.config (s.past.at o.guarded) k (e.offset + z)) (sym same) (get_or-set_same ws i v 0 (omega (arith, full, w, short-key)) ∙ key-word-at i v w told)
      | inr other ↦ get_or-set_other ws i t v 0 other ∙ h t (omega (arith, l, other))
    ]

    -- all words of its key, where it is not the first
    pub all-read : (ws : List ℕ) → length ws ≡ FENCE_WORDS → 0 < j → ((t : ℕ) → t < packed_len e.key → slice_index ws t ≡ words s.past.config (s.past.at o.guarded) k (e.offset + t))
        → unpacked_key e.key (take (packed_len e.key) ws) ≡ Some (key_of (words s.past.config (s.past.at o.guarded) k) j)
    all-read ws full later h =
        let n = words s.past.config (s.past.at o.guarded) k in
        let same : take (packed_len e.key) ws ≡ key_words n e = words-are n e.offset (packed_len e.key) ws (omega (arith, full, short-key)) h in
        let plain : unpacked_key e.key (key_words n e) ≡ Some (unpacked e.key (key_words n e)) = is-some e.key (key_words n e) (subst (λ z. IsSome (unpacked_key z.key (key_words n z))) says (o.inner.key j later c)) in
        let own : key_of n j ≡ unpacked e.key (key_words n e) = key-is n j c ∙ ap (λ z. unpacked z.key (key_words n z)) says in
        ap (unpacked_key e.key) same ∙ (plain ∙ ap Some (sym own))
