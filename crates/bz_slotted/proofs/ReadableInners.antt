-- An inner node that breaks no rule can be read as children.
use Rattle.std.proofs.Common.{◌≡◌, ◌≢◌, ℕ, ◌+◌, ◌-◌, ◌<◌, ◌≤◌, ◌==◌, if◌then◌else◌, true, false, List, length, arith, refl, sym, ap, ◌∙◌, inl, inr, Option}
use Rattle.std.specs.Prelude.{Some, None, IsSome}
use Rattle.std.proofs.lemmas.Bool.{cases_Bool, cases_eq}
use Rattle.std.proofs.lemmas.Bool.Decides.{nat_tests}
use Rattle.std.proofs.lemmas.List.FromFn.{length-map-range_with_len, get_or-map-range_with_len}
use Rattle.bz_key.specs.Packing.{packed_len, unpacked_key}
use Rattle.bz_layout.specs.declared.limits.TheConstants.{MAX_NODES}
use Rattle.bz_layout.specs.declared.sizes.TheConstants.{NODE_WORDS, META_AT}
use Rattle.bz_node.specs.Reading.{count_in, meta_in, extent_in, payload_at, key_part, low_in, child_in, HasChild}
use Rattle.bz_word.specs.Fields.{field}
use Rattle.bz_word.specs.Metas.{meta, extent}
use Rattle.bz_word.specs.declared.meta.Extent.{Extent}
use Rattle.bz_word.specs.declared.meta.Meta.TheVariants.{Visible}
use Rattle.bz_slotted.specs.Page.{words_at, used, extent_of, page}
use Rattle.bz_slotted.specs.Readers.{count_of, child_of, key_of}
use Rattle.bz_slotted.specs.ReadingLaws.{node_of, child_read, ReadsAsChildren, WholeInnersAreReadable}
use Rattle.bz_slotted.specs.Whole.{WholeInner}
use Rattle.bz_slotted.proofs.Faults.{inner-whole-none}
use Rattle.bz_slotted.proofs.Honest.{lt-t}
use Rattle.bz_slotted.proofs.Lists.{part-at, visible-used, visible-is}
use Rattle.bz_slotted.proofs.Readable.{node-readable, meta-read}

-- a word that says a visible record has its extent
pub extent-said : (x : ℕ) (e : Extent) → meta x ≡ Visible e → extent x ≡ e
unfolding meta
extent-said x e is =
    elim (cases_Bool (x == 0)) [
      | inl zero_word ↦ (let h = rw zero_word at is in cc)
      | inr other ↦ elim (cases_Bool (field 60 1 x == 1)) [
        | inl shows ↦ (let h = rw (other, shows) at is in cc)
        | inr hidden ↦ elim (cases_Bool (field 32 28 x == 0)) [
          | inl deleted ↦ (let h = rw (other, hidden, deleted) at is in cc)
          | inr reserved ↦ (let h = rw (other, hidden, reserved) at is in cc)
        ]
      ]
    ]

module _ (nodes : ℕ) (raw : ℕ → ℕ) (words : List ℕ) (l : ℕ) (lo hi : Option (List ℕ)) (few : nodes ≤ MAX_NODES) (size : length words ≡ NODE_WORDS) (w : WholeInner nodes raw (page (node_of words)) l lo hi) where
  ext : ℕ → Extent
  ext i = extent_of ((page (node_of words)).meta i)

  taken : (i : ℕ) → i < count_in words → used ((page (node_of words)).meta i) ≡ true
  taken i li = visible-used ((page (node_of words)).meta i) (w.shows i li)

  said : (i : ℕ) → i < count_in words → meta_in words i ≡ Visible (ext i)
  unfolding ext
  said i li = sym (meta-read words i (taken i li)) ∙ visible-is ((page (node_of words)).meta i) (w.shows i li)

  ext-read : (i : ℕ) → i < count_in words → extent_in words i ≡ ext i
  ext-read i li = extent-said (node_of words (META_AT + i)) (ext i) (said i li)

  pub shown-in : (i : ℕ) → i < count_in words → meta_in words i ≡ Visible (extent_in words i)
  shown-in i li = said i li ∙ ap (λ (e : Extent). Visible e) (sym (ext-read i li))

  key-part : (i : ℕ) → i < count_in words → key_part words (ext i) ≡ words_at (node_of words) (ext i).offset (packed_len (ext i).key)
  unfolding ext
  key-part i li = sym (part-at words (ext i).offset (packed_len (ext i).key) (omega (arith, size, (w.inside i li).ends)))

  later : (i : ℕ) → i < count_in words → (ext i).key ≢ 0 → 0 < i
  unfolding ext
  later i li some = elim (cases_eq i 0) [ inl e ↦ absurd (some ((w.lengths i li).first e)) | inr ne ↦ omega (arith, ne) ]

  has-child : (i : ℕ) → i < count_in words → HasChild words (ext i)
  unfolding ext
  has-child i li = record {
    inside = omega (arith, (w.inside i li).ends, (w.lengths i li).pointer);
    key = λ some. let k : IsSome (unpacked_key (ext i).key (words_at (node_of words) (ext i).offset (packed_len (ext i).key))) = (w.key i (later i li some) li).packs in rw (key-part i li) k;
    pointer = (w.links i li).some;
    slot = omega (arith, (w.links i li).slot, few);
  }

  low-read : (i : ℕ) → i < count_in words → low_in words (ext i) ≡ if i == 0 then None else Some (key_of (node_of words) i)
  unfolding ext key_of
  low-read i li = elim (cases_eq i 0) [
    | inl e ↦ let a : ((ext i).key == 0) ≡ true = zero (ext i).key ((w.lengths i li).first e) in let b : (i == 0) ≡ true = zero i e in rw (a, b) refl
    | inr ne ↦ let pos : 0 < i = omega (arith, ne) in
        let a : ((ext i).key == 0) ≡ false = some (ext i).key ((w.lengths i li).some pos) in let b : (i == 0) ≡ false = some i pos in
        rw (a, b, lt-t i (page (node_of words)).count li, key-part i li) refl
  ]
    where
      zero : (k : ℕ) → k ≡ 0 → (k == 0) ≡ true
      zero k h = grind (arith, nat_tests)

      some : (k : ℕ) → 0 < k → (k == 0) ≡ false
      some k h = grind (arith, nat_tests)

  slot-read : (i : ℕ) → i < count_in words → node_of words (payload_at (ext i)) - 1 ≡ child_of (node_of words) i
  unfolding ext child_of
  slot-read i li = rw (lt-t i (page (node_of words)).count li) refl

  child-there : (i : ℕ) → i < count_in words → child_in words i ≡ child_read (node_of words) i
  child-there i li =
      ap (λ (e : Extent). record { low = low_in words e; slot = node_of words (payload_at e) - 1 }) (ext-read i li)
      ∙ (λ t. record { low = low-read i li t; slot = slot-read i li t })

  pub inner-reads : ReadsAsChildren words
  unfolding count_of
  inner-reads = record {
    readable = record { node = node-readable words w.filled taken; visible = shown-in; children = λ i li. rw (ext-read i li) (has-child i li) };
    count = length-map-range_with_len (child_in words) 0 (count_in words);
    children = λ i d li. get_or-map-range_with_len (child_in words) 0 (count_in words) i i d li (omega arith) ∙ child-there i li;
  }

pub inners-readable : WholeInnersAreReadable
inners-readable nodes raw words l lo hi few pos size none = inner-reads nodes raw words l lo hi few size (inner-whole-none nodes raw (node_of words) l lo hi pos none)
