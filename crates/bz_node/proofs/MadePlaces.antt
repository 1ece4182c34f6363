-- Where the records of a node made whole lie.
use Rattle.std.specs.Prelude.{◌≡◌, ℕ, suc, zero, ◌+◌, ◌-◌, ◌^◌, ◌<◌, ◌≤◌, ◌==◌, List, ◌∷◌, [], ◌++◌, length, get_or, replicate, All, Option}
use Rattle.std.proofs.Common.{arith, refl, ap, sym, ◌∙◌, subst, inl, inr}
use Rattle.std.proofs.lemmas.Bool.{cases_Bool}
use Rattle.std.proofs.lemmas.List.{length-append, get_or-drop, get_or_append_left, get_or-append_right, get_or-replicate, length-replicate}
use Rattle.bz_layout.specs.declared.sizes.TheConstants.{NODE_WORDS, SHARED_WORDS, META_AT}
use Rattle.bz_word.specs.Fields.{field}
use Rattle.bz_word.specs.Metas.{meta, extent}
use Rattle.bz_word.specs.declared.status.Status.{Status}
use Rattle.bz_word.specs.declared.meta.Extent.{Extent}
use Rattle.bz_word.specs.declared.meta.Meta.TheVariants.{Visible}
use Rattle.bz_node.specs.Layout.{Entry, IsEntry, block, metas as metas_of, needed, node_words}
use Rattle.bz_node.specs.Records.{IsBound}
use Rattle.bz_node.specs.Reading.{count_in, block_in, extent_in, extent_words}
use Rattle.bz_node.specs.Laws.{HasPlaces}
use Rattle.bz_node.proofs.Parts.{length-metas}
use Rattle.bz_node.proofs.Made.{extents, front_made, metas_made, rest_made, readable_made, count_made, meta_made}

-- a word that says a visible record has its extent
pub extent_said : (x : ℕ) (e : Extent) → meta x ≡ Visible e → extent x ≡ e
unfolding meta
extent_said x e is =
    elim (cases_Bool (x == 0)) [
      | inl zero_word ↦ (let h = rw zero_word at is in cc)
      | inr other ↦ elim (cases_Bool (field 60 1 x == 1)) [
        | inl visible ↦ (let h = rw (other, visible) at is in cc)
        | inr hidden ↦ elim (cases_Bool (field 32 28 x == 0)) [
          | inl deleted ↦ (let h = rw (other, hidden, deleted) at is in cc)
          | inr reserved ↦ (let h = rw (other, hidden, reserved) at is in cc)
        ]
      ]
    ]

-- an extent lies between the block's start and its end
in_block : (entries : List Entry) (end i : ℕ) (d : Extent) → length (block entries) ≤ end → All IsEntry entries → i < length (extents end entries) →
    (end ≤ (get_or (extents end entries) i d).offset + length (block entries)) × ((get_or (extents end entries) i d).offset + extent_words (get_or (extents end entries) i d) ≤ end)
unfolding extents block
in_block [] end i d room each within = absurd (omega arith)
in_block (e ∷ entries) end zero d room each within =
    let fits : IsEntry e = each 0 e (omega arith) in
    let long = length-append (block entries) e.words in
    (omega (arith, long), omega (arith, fits.counted, long))
in_block (e ∷ entries) end (suc i) d room each within =
    let long = length-append (block entries) e.words in
    let rest = in_block entries (end - length e.words) i d (omega (arith, long)) (λ k c inside. each (suc k) c (omega arith)) (omega arith) in
    (omega (arith, long, rest.0), omega (arith, rest.1))

-- and below those of the records before it
each_below : (entries : List Entry) (end i j : ℕ) (d : Extent) → length (block entries) ≤ end → All IsEntry entries → i < j → j < length (extents end entries) →
    (get_or (extents end entries) j d).offset + extent_words (get_or (extents end entries) j d) ≤ (get_or (extents end entries) i d).offset
unfolding extents block
each_below [] end i j d room each less within = absurd (omega arith)
each_below (e ∷ entries) end i zero d room each less within = absurd (omega arith)
each_below (e ∷ entries) end zero (suc j) d room each less within =
    (in_block entries (end - length e.words) j d (omega (arith, length-append (block entries) e.words)) (λ k c inside. each (suc k) c (omega arith)) (omega arith)).1
each_below (e ∷ entries) end (suc i) (suc j) d room each less within =
    each_below entries (end - length e.words) i j d (omega (arith, length-append (block entries) e.words)) (λ k c inside. each (suc k) c (omega arith)) (omega arith) (omega arith)

-- a word between metadata and block
free_read : (M B : List ℕ) (z k : ℕ) → length M ≤ k → k < length M + z → get_or (M ++ (replicate z 0 ++ B)) k 0 ≡ 0
free_read M B z k from below =
    get_or-append_right M (replicate z 0 ++ B) (length M) k 0 refl from
    ∙ get_or_append_left (replicate z 0) B 0 (k - length M) (omega (arith, length-replicate {A = ℕ} z 0))
    ∙ get_or-replicate {A = ℕ} z (k - length M) 0 0 (omega arith)

pub places_made : (level : ℕ) (low high : Option (List ℕ)) (entries : List Entry) → IsBound low → IsBound high → needed entries ≤ SHARED_WORDS → All IsEntry entries → level < 2 ^ 8 →
    HasPlaces (node_words level low high entries)
places_made level low high entries low_ok high_ok fits each small =
    let W = node_words level low high entries in
    let xs = extents NODE_WORDS entries in
    let none : Extent = record { offset = 0; key = 0; total = 0 } in
    let front = front_made level low high entries small low_ok high_ok fits in
    let node = readable_made level low high entries low_ok high_ok fits each in
    let place = meta_made W xs front.size node.room (metas_made level low high entries low_ok high_ok fits each) in
    let is = λ (i : ℕ) (within : i < count_in W). extent_said (get_or W (META_AT + i) 0) (get_or xs i none) (place i none within).1 in
    let count = count_made level low high entries fits in
    let blocked : block_in W ≡ length (block entries) = ap (λ (s : Status). s.block) front.status in
    let rest = rest_made level low high entries low_ok high_ok fits in
    let M = metas_of NODE_WORDS entries in
    let z = SHARED_WORDS - needed entries in
    record {
      visible = λ i within. (place i none within).1 ∙ ap (λ e. Visible e) (sym (is i within));
      inside = λ i within. (
          let at = (in_block entries NODE_WORDS i none (omega (arith, fits)) each (place i none within).0).0 in
          subst (λ (e : Extent). NODE_WORDS ≤ e.offset + block_in W) (sym (is i within)) (omega (arith, blocked, at)));
      ends = λ i within. subst (λ (e : Extent). e.offset + extent_words e ≤ NODE_WORDS) (sym (is i within)) (in_block entries NODE_WORDS i none (omega (arith, fits)) each (place i none within).0).1;
      below = λ i j less within. (
          let at = each_below entries NODE_WORDS i j none (omega (arith, fits)) each less (place j none within).0 in
          subst (λ (e : Extent). (extent_in W j).offset + extent_words (extent_in W j) ≤ e.offset) (sym (is i (omega arith)))
          (subst (λ (f : Extent). f.offset + extent_words f ≤ (get_or xs i none).offset) (sym (is j within)) at));
      free = λ i from under. (
          let k = i - META_AT in
          let e : META_AT + k ≡ i = omega (arith, from) in
          rw (← e) (sym (get_or-drop META_AT W k 0) ∙ ap (λ ys. get_or ys k 0) rest
          ∙ free_read M (block entries) z k (omega (arith, from, count, length-metas NODE_WORDS entries)) (omega (arith, under, blocked, from, count, length-metas NODE_WORDS entries))));
    }
