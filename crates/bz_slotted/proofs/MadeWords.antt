-- The words of a node made whole: its header, its fences, and the lengths in its metadata words.
use Rattle.std.proofs.Common.{◌≡◌, ℕ, zero, suc, ◌+◌, ◌-◌, ◌^◌, ◌<◌, ◌≤◌, List, [], ◌∷◌, ◌++◌, length, get_or, take, drop, replicate, arith, refl, sym, ap, ◌∙◌, Option}
use Rattle.std.specs.Prelude.{Some, None, All}
use Rattle.std.specs.List.{sum_by}
use Rattle.std.proofs.lemmas.List.{ext_get_or, get_or-take, get_or-drop, get_or_append_left, get_or-append_right, get_or-replicate, length-append, length-replicate, nil_from_length}
use Rattle.std.proofs.lemmas.List.Sums.{sum_by-cons}
use Rattle.bz_key.specs.Packing.{packed, packed_len}
use Rattle.bz_key.proofs.PackingLaws.{length-packed}
use Rattle.bz_key.proofs.UnpackingLaws.{unpacked_key-complete}
use Rattle.bz_key.specs.declared.limits.TheConstants.{KEY_BYTES}
use Rattle.bz_layout.specs.declared.sizes.TheConstants.{NODE_WORDS, FENCE_WORDS, META_AT, SHARED_WORDS}
use Rattle.bz_layout.specs.declared.thresholds.TheConstants.{MAX_LEVELS}
use Rattle.bz_node.specs.Layout.{Entry, IsEntry, block, metas, visible_word, needed, shared_part, bound_of, fence_words, made_status, made_header, node_words}
use Rattle.bz_node.specs.Reading.{part}
use Rattle.bz_node.specs.Records.{IsBound}
use Rattle.bz_word.specs.Fields.{field}
use Rattle.bz_word.specs.Headers.{header_word}
use Rattle.bz_word.proofs.Lemmas.{headers}
use Rattle.bz_word.specs.Statuses.{status_word}
use Rattle.bz_slotted.proofs.Words.{length-words_at, get_or-words_at}
use Rattle.bz_slotted.specs.Page.{words_at}
use Rattle.bz_slotted.specs.ReadingLaws.{node_of}
use Rattle.bz_slotted.specs.Whole.{IsFence}

pub bound-short : (bound : Option (List ℕ)) → IsBound bound → length (bound_of bound) ≤ KEY_BYTES
bound-short None h = omega arith
bound-short (Some key) h = h.fits

-- the word at a place of a fence
fence-word : (words : List ℕ) (at : ℕ) (fence : List ℕ) (i : ℕ) → i < FENCE_WORDS → part words at FENCE_WORDS ≡ fence → node_of words (at + i) ≡ get_or fence i 0
fence-word words at fence i l h =
    let width : at + FENCE_WORDS - at ≡ FENCE_WORDS = omega arith in
    let p : take FENCE_WORDS (drop at words) ≡ fence = rw width at h in
    sym (get_or-take FENCE_WORDS (drop at words) i 0 l ∙ get_or-drop at words i 0) ∙ ap (λ xs. get_or xs i 0) p

packed-none : packed [] ≡ []
packed-none = nil_from_length (packed []) (length-packed [])

-- a fence that was written is the bound
pub fence-made : (words : List ℕ) (at : ℕ) (bound : Option (List ℕ)) → IsBound bound → part words at FENCE_WORDS ≡ fence_words bound → IsFence (node_of words) at (length (bound_of bound)) bound
fence-made words at None ok h = (refl, λ i l. fence-word words at (fence_words None) i l h ∙ ap (λ xs. get_or (xs ++ replicate (FENCE_WORDS - length xs) 0) i 0) packed-none ∙ get_or-replicate FENCE_WORDS i 0 0 l)
fence-made words at (Some key) ok h =
    let long : length (packed key) ≡ packed_len (length key) = length-packed key in
    let same : words_at (node_of words) at (packed_len (length key)) ≡ packed key = read long in
    rw same (unpacked_key-complete key ok)
  where
    read : length (packed key) ≡ packed_len (length key) → words_at (node_of words) at (packed_len (length key)) ≡ packed key
    read long = ext_get_or 0 (words_at (node_of words) at (packed_len (length key))) (packed key) (length-words_at (node_of words) at (packed_len (length key)) ∙ sym long)
        (λ i l. let short : i < packed_len (length key) = omega (arith, length-words_at (node_of words) at (packed_len (length key))) in
        get_or-words_at (node_of words) at (packed_len (length key)) i short
        ∙ fence-word words at (fence_words (Some key)) i (omega (arith, ok.fits)) h
        ∙ get_or_append_left (packed key) (replicate (FENCE_WORDS - length (packed key)) 0) 0 i (omega (arith, long)))

-- the header of a node made whole unpacks
pub header-made : (l : ℕ) (lo hi : Option (List ℕ)) (entries : List Entry) → l < MAX_LEVELS → IsBound lo → IsBound hi → length entries ≤ SHARED_WORDS → header_word (made_header l lo hi entries) < 2 ^ 32
header-made l lo hi entries low_level lo_ok hi_ok few =
    headers.lawful (made_header l lo hi entries) (record { level = omega arith; low = omega (arith, bound-short lo lo_ok); high = omega (arith, bound-short hi hi_ok); sorted = omega arith })

pub length-metas_of : (entries : List Entry) (end : ℕ) → length (metas end entries) ≡ length entries
unfolding metas
length-metas_of [] end = refl
length-metas_of (e ∷ entries) end = ap (λ n. suc n) (length-metas_of entries (end - length e.words))

-- the lengths in a metadata word are those of its entry
pub record HasLengths (x : ℕ) (e : Entry) : Type 0 where
  pub key : field 16 16 x ≡ e.key
  pub total : field 0 16 x ≡ e.total

word-lengths : (offset : ℕ) (e : Entry) → IsEntry e → HasLengths (visible_word offset e) e
word-lengths offset e h = record { key = omega (arith, h.key, h.total); total = omega (arith, h.key, h.total) }

metas-lengths : (entries : List Entry) (end i : ℕ) (d : Entry) → All IsEntry entries → i < length entries → HasLengths (get_or (metas end entries) i 0) (get_or entries i d)
unfolding metas
metas-lengths [] end i d each l = absurd (omega arith)
metas-lengths (e ∷ entries) end zero d each l = word-lengths (end - length e.words) e (each 0 e (omega arith))
metas-lengths (e ∷ entries) end (suc i) d each l = metas-lengths entries (end - length e.words) i d (λ k c inside. each (suc k) c (omega arith)) (omega arith)

length-fence_of : (bound : Option (List ℕ)) → IsBound bound → length (fence_words bound) ≡ FENCE_WORDS
length-fence_of bound ok = omega (arith, length-append (packed (bound_of bound)) (replicate (FENCE_WORDS - length (packed (bound_of bound))) 0), length-replicate {A = ℕ} (FENCE_WORDS - length (packed (bound_of bound))) 0, length-packed (bound_of bound), bound-short bound ok)

abbrev front_words : ℕ → Option (List ℕ) → Option (List ℕ) → List Entry → List ℕ
front_words l lo hi entries = status_word (made_status entries) ∷ header_word (made_header l lo hi entries) ∷ (fence_words lo ++ fence_words hi)

-- metadata word i of a node made whole
pub meta-made : (l : ℕ) (lo hi : Option (List ℕ)) (entries : List Entry) (i : ℕ) (d : Entry) → IsBound lo → IsBound hi → All IsEntry entries → i < length entries → HasLengths (node_of (node_words l lo hi entries) (META_AT + i)) (get_or entries i d)
meta-made l lo hi entries i d lo_ok hi_ok each within = rw (at_front, at_metas) (metas-lengths entries NODE_WORDS i d each within)
  where
    back : META_AT + i - META_AT ≡ i
    back = omega arith

    at_front : node_of (node_words l lo hi entries) (META_AT + i) ≡ get_or (shared_part entries) i 0
    at_front = get_or-append_right (front_words l lo hi entries) (shared_part entries) META_AT (META_AT + i) 0 (omega (arith, length-append (fence_words lo) (fence_words hi), length-fence_of lo lo_ok, length-fence_of hi hi_ok)) (omega arith) ∙ ap (λ k. get_or (shared_part entries) k 0) back

    at_metas : get_or (shared_part entries) i 0 ≡ get_or (metas NODE_WORDS entries) i 0
    at_metas = get_or_append_left (metas NODE_WORDS entries) (replicate (SHARED_WORDS - needed entries) 0 ++ block entries) 0 i (omega (arith, length-metas_of entries NODE_WORDS))

-- the block has the words of all entries
pub length-block_of : (entries : List Entry) → length (block entries) ≡ sum_by (λ (e : Entry). length e.words) entries
unfolding block
length-block_of [] = refl
length-block_of (e ∷ entries) = length-append (block entries) e.words ∙ rw (length-block_of entries, sum_by-cons (λ (x : Entry). length x.words) e entries) (omega arith)
