-- Taking one slot after another off a list, into the places of another.
use Rattle.std.proofs.Common.{◌≡◌, ℕ, ◌+◌, ◌<◌, suc, List, [], ◌∷◌, ◌++◌, length, get_or, set, take, drop, sym, ◌∙◌, ap, arith, add-one, append_assoc, length-drop}
use Rattle.std.proofs.Math.Seq.{drop-cons, take-suc, set-append_seam}
use Rattle.std.proofs.lemmas.List.{length-take-le}

-- what is taken off at a place lies in the list
inside : (free rest : List ℕ) (i x : ℕ) → drop i free ≡ x ∷ rest → i < length free
inside free rest i x first = omega (arith, length-drop i free, ap length first)

-- the element at the place, and those after it
opened : (free rest : List ℕ) (i x : ℕ) → drop i free ≡ x ∷ rest → x ∷ rest ≡ get_or free i 0 ∷ drop (suc i) free
opened free rest i x first = sym first ∙ drop-cons free i 0 (inside free rest i x first)

-- what is left begins at the next place
pub rest_next : (free : List ℕ) (i x : ℕ) (rest : List ℕ) → drop i free ≡ x ∷ rest → rest ≡ drop (i + 1) free
rest_next free i x rest first =
    let both : x ∷ rest ≡ get_or free i 0 ∷ drop (suc i) free = opened free rest i x first in
    let tail : rest ≡ drop (suc i) free = cc in
    rw add-one tail

-- the places up to the next hold what was taken
pub out_next : (free out : List ℕ) (i x : ℕ) (rest : List ℕ) → drop i free ≡ x ∷ rest → i < length out → set (take i free ++ drop i out) i x ≡ take (i + 1) free ++ drop (i + 1) out
out_next free out i x rest first room =
    let both : x ∷ rest ≡ get_or free i 0 ∷ drop (suc i) free = opened free rest i x first in
    let head : get_or free i 0 ≡ x = cc in
    let size : length (take i free) ≡ i = length-take-le i free (omega (arith, inside free rest i x first)) in
    let written : set (take i free ++ get_or out i 0 ∷ drop (suc i) out) (length (take i free)) x ≡ take i free ++ x ∷ drop (suc i) out = set-append_seam (take i free) (get_or out i 0) (drop (suc i) out) x in
    let more : take (suc i) free ≡ take i free ++ (x ∷ []) = rw head at (take-suc free i 0 (inside free rest i x first)) in
    rw (add-one, more, append_assoc, drop-cons out i 0 room) (rw size at written)
