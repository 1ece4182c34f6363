-- The words of a leaf, or of an inner node, made whole are plain values.
use Rattle.std.proofs.Common.{ℕ, suc, get_or, ◌+◌, ◌-◌, ◌^◌, ◌<◌, ◌≤◌, List, [], ◌∷◌, ◌++◌, length, map, arith, Option}
use Rattle.std.specs.Prelude.{All, Some, None}
use Rattle.std.proofs.lemmas.List.Elements.{All-nil, All-cons, All-append, All-replicate}
use Rattle.bz_key.specs.Bytes.{AreBytes}
use Rattle.bz_key.specs.Packing.{packed}
use Rattle.bz_key.proofs.PackingLaws.{packed-small}
use Rattle.bz_key.specs.declared.limits.TheConstants.{KEY_BYTES}
use Rattle.bz_layout.specs.declared.sizes.TheConstants.{NODE_WORDS, SHARED_WORDS}
use Rattle.bz_node.specs.Layout.{block, metas, needed, visible_word, bound_of, fence_words, made_status, made_header}
use Rattle.bz_word.specs.Statuses.{status_word}
use Rattle.bz_word.specs.Headers.{header_word}
use Rattle.bz_node.specs.Records.{pair_entry, child_entry, leaf_words, inner_words, IsPair, IsBound, IsChild}
use Rattle.bz_node.specs.declared.child.Child.{Child}

-- a word without control bits
abbrev pub IsPlain : ℕ → Type 0
IsPlain v = v < 2 ^ 61

packed-plain : (bytes : List ℕ) → AreBytes bytes → All IsPlain (packed bytes)
packed-plain bytes each i d l = let small : get_or (packed bytes) i d < 2 ^ 56 = packed-small bytes each i d l in omega (arith, small)

fence-plain : (fence : Option (List ℕ)) → IsBound fence → All IsPlain (fence_words fence)
fence-plain None b = All-append IsPlain (packed []) _ (packed-plain [] (All-nil (λ b. b < 256))) (All-replicate IsPlain _ 0 (omega arith))
fence-plain (Some key) b = All-append IsPlain (packed key) _ (packed-plain key b.each) (All-replicate IsPlain _ 0 (omega arith))

bound-plain : (bound : Option (List ℕ)) → IsBound bound → All IsPlain (packed (bound_of bound))
bound-plain None b = packed-plain [] (All-nil (λ b. b < 256))
bound-plain (Some key) b = packed-plain key b.each

block-plain : (rs : List (List ℕ × List ℕ)) → All IsPair rs → All IsPlain (block (map pair_entry rs))
unfolding block
block-plain [] each = All-nil IsPlain
block-plain (r ∷ rs) each =
    let pair : IsPair r = each 0 r (omega arith) in
    All-append IsPlain (block (map pair_entry rs)) _ (block-plain rs (λ i d l. each (suc i) d (omega arith)))
    (All-append IsPlain (packed r.0) (packed r.1) (packed-plain r.0 pair.key.each) (packed-plain r.1 pair.payload.each))

metas-plain : (end : ℕ) (rs : List (List ℕ × List ℕ)) → end ≤ NODE_WORDS → All IsPair rs → All IsPlain (metas end (map pair_entry rs))
unfolding metas
metas-plain end [] l each = All-nil IsPlain
metas-plain end (r ∷ rs) l each =
    let pair : IsPair r = each 0 r (omega arith) in
    let word : IsPlain (visible_word (end - length (pair_entry r).words) (pair_entry r)) = omega (arith, pair.key.fits, pair.payload.fits, l) in
    All-cons IsPlain _ (metas (end - length (pair_entry r).words) (map pair_entry rs)) word
    (metas-plain (end - length (pair_entry r).words) rs (omega (arith, l)) (λ i d l. each (suc i) d (omega arith)))

short : (fence : Option (List ℕ)) → IsBound fence → length (bound_of fence) ≤ KEY_BYTES
short None b = omega arith
short (Some key) b = b.fits

pub leaf-plain : (rs : List (List ℕ × List ℕ)) (low high : Option (List ℕ)) → All IsPair rs → IsBound low → IsBound high → needed (map pair_entry rs) ≤ SHARED_WORDS → All IsPlain (leaf_words rs low high)
leaf-plain rs low high each lo hi fits =
    let size : length (map pair_entry rs) + length (block (map pair_entry rs)) ≤ SHARED_WORDS = fits in
    let low_len : length (bound_of low) ≤ KEY_BYTES = short low lo in
    let high_len : length (bound_of high) ≤ KEY_BYTES = short high hi in
    let status_plain : IsPlain (status_word (made_status (map pair_entry rs))) = omega (arith, size) in
    let header_plain : IsPlain (header_word (made_header 0 low high (map pair_entry rs))) = omega (arith, size, low_len, high_len) in
    All-append IsPlain (status_word (made_status (map pair_entry rs)) ∷ header_word (made_header 0 low high (map pair_entry rs)) ∷ (fence_words low ++ fence_words high)) _
    (All-cons IsPlain _ (header_word (made_header 0 low high (map pair_entry rs)) ∷ (fence_words low ++ fence_words high)) status_plain (All-cons IsPlain _ (fence_words low ++ fence_words high) header_plain (All-append IsPlain (fence_words low) _ (fence-plain low lo) (fence-plain high hi))))
    (All-append IsPlain (metas NODE_WORDS (map pair_entry rs)) _ (metas-plain NODE_WORDS rs (omega arith) each) (All-append IsPlain _ (block (map pair_entry rs)) (All-replicate IsPlain _ 0 (omega arith)) (block-plain rs each)))

-- the same of an inner node
child-block-plain : (cs : List Child) → All IsChild cs → All IsPlain (block (map child_entry cs))
unfolding block
child-block-plain [] each = All-nil IsPlain
child-block-plain (c ∷ cs) each =
    let child : IsChild c = each 0 c (omega arith) in
    All-append IsPlain (block (map child_entry cs)) _ (child-block-plain cs (λ i d l. each (suc i) d (omega arith)))
    (All-append IsPlain (packed (bound_of c.low)) _ (bound-plain c.low child.low) (All-cons IsPlain (c.slot + 1) [] (omega (arith, child.slot)) (All-nil IsPlain)))

child-metas-plain : (end : ℕ) (cs : List Child) → end ≤ NODE_WORDS → All IsChild cs → All IsPlain (metas end (map child_entry cs))
unfolding metas
child-metas-plain end [] l each = All-nil IsPlain
child-metas-plain end (c ∷ cs) l each =
    let child : IsChild c = each 0 c (omega arith) in
    let bytes : length (bound_of c.low) ≤ KEY_BYTES = short c.low child.low in
    let word : IsPlain (visible_word (end - length (child_entry c).words) (child_entry c)) = omega (arith, bytes, l) in
    All-cons IsPlain _ (metas (end - length (child_entry c).words) (map child_entry cs)) word
    (child-metas-plain (end - length (child_entry c).words) cs (omega (arith, l)) (λ i d l. each (suc i) d (omega arith)))

pub inner-plain : (cs : List Child) (low high : Option (List ℕ)) (level : ℕ) → All IsChild cs → IsBound low → IsBound high → level < 2 ^ 8 → needed (map child_entry cs) ≤ SHARED_WORDS → All IsPlain (inner_words cs low high level)
inner-plain cs low high level each lo hi level_fits fits =
    let size : length (map child_entry cs) + length (block (map child_entry cs)) ≤ SHARED_WORDS = fits in
    let low_len : length (bound_of low) ≤ KEY_BYTES = short low lo in
    let high_len : length (bound_of high) ≤ KEY_BYTES = short high hi in
    let status_plain : IsPlain (status_word (made_status (map child_entry cs))) = omega (arith, size) in
    let header_plain : IsPlain (header_word (made_header level low high (map child_entry cs))) = omega (arith, size, low_len, high_len, level_fits) in
    All-append IsPlain (status_word (made_status (map child_entry cs)) ∷ header_word (made_header level low high (map child_entry cs)) ∷ (fence_words low ++ fence_words high)) _
    (All-cons IsPlain _ (header_word (made_header level low high (map child_entry cs)) ∷ (fence_words low ++ fence_words high)) status_plain (All-cons IsPlain _ (fence_words low ++ fence_words high) header_plain (All-append IsPlain (fence_words low) _ (fence-plain low lo) (fence-plain high hi))))
    (All-append IsPlain (metas NODE_WORDS (map child_entry cs)) _ (child-metas-plain NODE_WORDS cs (omega arith) each) (All-append IsPlain _ (block (map child_entry cs)) (All-replicate IsPlain _ 0 (omega arith)) (child-block-plain cs each)))
