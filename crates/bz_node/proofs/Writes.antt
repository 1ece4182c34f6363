-- What writes into the parts of a list leave.
use Rattle.std.specs.Prelude.{◌≡◌, ℕ, suc, ◌+◌, ◌-◌, ◌≤◌, List, ◌∷◌, [], ◌++◌, length, take, drop, set, replicate}
use Rattle.std.proofs.Common.{arith, refl, sym, ◌∙◌}
use Rattle.std.proofs.lemmas.List.{length-append, length-take, length-drop, append_assoc, length-replicate, replicate-append-replicate, set_at, take_at, drop_at, drop_all, take_all, drop-replicate, append-nil}
use borrow.Rule.Slice.PartMut.{put_mid}
use Rattle.bz_layout.specs.declared.sizes.TheConstants.{NODE_WORDS, SHARED_WORDS, META_AT}
use Rattle.bz_node.specs.Layout.{Entry, block, metas, visible_word, needed, shared_part}
use Rattle.bz_node.proofs.Parts.{length-metas, metas_push, block_push, needed_push}

-- a write to the middle part of three
pub put_into : (P Q B ys : List ℕ) (a k : ℕ) → length P ≡ a → length Q ≡ k → put_mid a k (P ++ (Q ++ B)) ys ≡ P ++ (ys ++ B)
put_into P Q B ys a k p q = rw (take_at P (Q ++ B) a p, drop_at P (Q ++ B) a p, drop_at Q B k q) refl

-- a metadata word at the front of the free words, and a record's words at their end
pub put_both : (M B ys : List ℕ) (w n r k z : ℕ) → length M ≡ n → z ≡ suc (r + k) →
    put_mid (n + 1 + r) k (set (M ++ (replicate z 0 ++ B)) n w) ys ≡ (M ++ w ∷ []) ++ (replicate r 0 ++ (ys ++ B))
put_both M B ys w n r k z m e =
    let parted : replicate {A = ℕ} z 0 ≡ 0 ∷ (replicate r 0 ++ replicate k 0) = rw (e, ← replicate-append-replicate {A = ℕ} r k 0) refl in
    let joined : set (M ++ (replicate z 0 ++ B)) n w ≡ ((M ++ w ∷ []) ++ replicate r 0) ++ (replicate k 0 ++ B) =
    rw (parted, set_at M 0 ((replicate r 0 ++ replicate k 0) ++ B) w n m) (simp append_assoc) in
    let front : length ((M ++ w ∷ []) ++ replicate r 0) ≡ n + 1 + r =
    omega (arith, length-append (M ++ w ∷ []) (replicate r 0), length-append M (w ∷ []), length-replicate {A = ℕ} r 0) in
    rw (joined, put_into ((M ++ w ∷ []) ++ replicate r 0) (replicate k 0) B ys (n + 1 + r) k front (length-replicate {A = ℕ} k 0)) (append_assoc (M ++ w ∷ []) (replicate r 0) (ys ++ B))

-- the shared words with one more record, whose words begin at `start` and end where the block began
pub record_put : (xs : List Entry) (e : Entry) (start stop n w : ℕ) → n ≡ length xs → stop + length (block xs) ≡ SHARED_WORDS → start + length e.words ≡ stop →
    needed xs + 1 + length e.words ≤ SHARED_WORDS → w ≡ visible_word (META_AT + start) e →
    put_mid start (stop - start) (set (shared_part xs) n w) e.words ≡ shared_part (xs ++ e ∷ [])
record_put xs e start stop n w counted ends starts fits is =
    let r : ℕ = SHARED_WORDS - (needed xs + 1 + length e.words) in
    let left : SHARED_WORDS - needed xs ≡ suc (r + length e.words) = omega arith in
    let place : start ≡ n + 1 + r = omega arith in
    let width : stop - start ≡ length e.words = omega arith in
    let here : META_AT + start ≡ NODE_WORDS - length (block xs) - length e.words = omega arith in
    let word : w ≡ visible_word (NODE_WORDS - length (block xs) - length e.words) e = rw (← here) is in
    let needs : needed (xs ++ e ∷ []) ≡ needed xs + 1 + length e.words = needed_push xs e in
    rw (width, place, put_both (metas NODE_WORDS xs) (block xs) e.words w n r (length e.words) (SHARED_WORDS - needed xs) (length-metas NODE_WORDS xs ∙ sym counted) left)
    (rw (needs, metas_push NODE_WORDS xs e, block_push xs e, word) refl)

-- the part of a list that a record's words go to
pub length-part : (xs : List ℕ) (start stop : ℕ) → start ≤ stop → stop ≤ length xs → length (take (stop - start) (drop start xs)) ≡ stop - start
length-part xs start stop below within = omega (arith, length-take {A = ℕ}, length-drop {A = ℕ})

-- with no record all words are free
pub shared_none : (xs : List ℕ) → xs ≡ replicate SHARED_WORDS 0 → xs ≡ shared_part []
unfolding block metas
shared_none xs e = e

-- a write to the last part of two
pub put_last : (P Q ys : List ℕ) (a k : ℕ) → length P ≡ a → length Q ≡ k → put_mid a k (P ++ Q) ys ≡ P ++ ys
put_last P Q ys a k p q = rw (take_at P Q a p, drop_at P Q a p, drop_all k Q (omega arith), append-nil) refl

-- where the front of a list of zeros has been written, the rest is still 0
pub rest_free : (X out : List ℕ) (a m : ℕ) → out ≡ replicate (a + m) 0 → length X ≡ a → take (length (X ++ drop a out) - a) (drop a (X ++ drop a out)) ≡ replicate m 0
rest_free X out a m e x =
    let left : a + m - a ≡ m = omega arith in
    let free : drop a out ≡ replicate m 0 = rw (e, drop-replicate {X = ℕ} a (a + m) 0, left) refl in
    rw (free, drop_at X (replicate m 0) a x) (take_all (length (X ++ replicate m 0) - a) (replicate m 0) (omega (arith, length-append X (replicate m 0))))

-- and is then written
pub rest_put : (X out ys : List ℕ) (a : ℕ) → length X ≡ a → a ≤ length out → put_mid a (length (X ++ drop a out) - a) (X ++ drop a out) ys ≡ X ++ ys
rest_put X out ys a x long = put_last X (drop a out) ys a (length (X ++ drop a out) - a) x (omega (arith, length-append X (drop a out), length-drop a out))
