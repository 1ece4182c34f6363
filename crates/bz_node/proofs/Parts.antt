-- What one more record adds to metadata, block and the words that are needed.
use Rattle.std.specs.Prelude.{◌≡◌, ℕ, suc, ◌+◌, ◌-◌, ◌<◌, ◌≤◌, List, ◌∷◌, [], ◌++◌, length, map, take, drop, get_or}
use Rattle.std.proofs.Common.{arith, refl, ap, sym, ◌∙◌}
use Rattle.std.proofs.lemmas.List.{length-append, append_assoc, append-nil, map_more, map-append, take-append-drop}
use Rattle.bz_node.specs.Layout.{Entry, block, metas, visible_word, needed}

pub block-append : (xs ys : List Entry) → block (xs ++ ys) ≡ block ys ++ block xs
unfolding block
block-append [] ys = sym (append-nil (block ys))
block-append (e ∷ xs) ys = rw (block-append xs ys) (append_assoc (block ys) (block xs) e.words)

pub block-one : (e : Entry) → block (e ∷ []) ≡ e.words
unfolding block
block-one e = refl

pub block_push : (xs : List Entry) (e : Entry) → block (xs ++ e ∷ []) ≡ e.words ++ block xs
block_push xs e = rw (block-append xs (e ∷ []), block-one e) refl

pub length-metas : (e : ℕ) (xs : List Entry) → length (metas e xs) ≡ length xs
unfolding metas
length-metas n [] = refl
length-metas n (e ∷ xs) = ap (λ k. suc k) (length-metas (n - length e.words) xs)

pub metas_push : (n : ℕ) (xs : List Entry) (e : Entry) → metas n (xs ++ e ∷ []) ≡ metas n xs ++ visible_word (n - length (block xs) - length e.words) e ∷ []
unfolding metas block
metas_push n [] e = let same : n - 0 - length e.words ≡ n - length e.words = omega arith in rw same refl
metas_push n (x ∷ xs) e =
    let same : n - length (block xs ++ x.words) - length e.words ≡ n - length x.words - length (block xs) - length e.words = omega (arith, length-append (block xs) x.words) in
    rw (metas_push (n - length x.words) xs e, same) refl

-- the front of a list of records needs no more than all of them
pub needed-append : (xs ys : List Entry) → needed (xs ++ ys) ≡ needed xs + needed ys
needed-append xs ys = rw block-append (omega (arith, length-append xs ys, length-append (block ys) (block xs)))

pub needed_push : (xs : List Entry) (e : Entry) → needed (xs ++ e ∷ []) ≡ needed xs + 1 + length e.words
needed_push xs e = rw block_push (omega (arith, length-append xs (e ∷ []), length-append e.words (block xs)))

pub needed_nil : needed [] ≡ 0
unfolding block
needed_nil = refl

-- what the records up to a place need, with the next one
pub needed_more : {R : Type 0} (entry : R → Entry) (xs : List R) (i : ℕ) (x : R) → i < length xs → x ≡ get_or xs i x →
    needed (map entry (take (i + 1) xs)) ≡ needed (map entry (take i xs)) + 1 + length (entry x).words
needed_more entry xs i x within is =
    let more = map_more entry xs i x within in
    rw (more, ← is) (needed_push (map entry (take i xs)) (entry x))

pub needed_front : {R : Type 0} (entry : R → Entry) (xs : List R) (i : ℕ) → needed (map entry (take i xs)) ≤ needed (map entry xs)
needed_front entry xs i =
    let parts : needed (map entry (take i xs ++ drop i xs)) ≡ needed (map entry (take i xs)) + needed (map entry (drop i xs)) =
    rw (map-append entry (take i xs) (drop i xs)) (needed-append (map entry (take i xs)) (map entry (drop i xs))) in
    let whole = rw (take-append-drop i xs) at parts in
    omega (arith, whole)

-- one record more
pub entries_more : {R : Type 0} (entry : R → Entry) (xs : List R) (i : ℕ) (x : R) → i < length xs → x ≡ get_or xs i x →
    map entry (take (i + 1) xs) ≡ map entry (take i xs) ++ entry x ∷ []
entries_more entry xs i x within is = map_more entry xs i x within ∙ ap (λ y. map entry (take i xs) ++ entry y ∷ []) (sym is)

pub length-block_nil : length (block []) ≡ 0
unfolding block
length-block_nil = refl
