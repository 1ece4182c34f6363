-- The flat marks and the marks that they stand for.
use Rattle.std.proofs.Common.{◌≡◌, ◌<◌, ◌≤◌, ℕ, ◌-◌, map, get_or, ◌+◌, List, [], ◌∷◌, ◌++◌, length, refl, ap, sym, ◌∙◌, arith, length-append}
use Rattle.std.proofs.lemmas.Grind.{common_steps}
use Rattle.std.proofs.lemmas.List.{map_push, reverse-append, get_or-reverse, get_or-map}
use Rattle.std.proofs.lemmas.Option.{slice_get-get_or}
use Rattle.std.specs.Prelude.{Some}
use Rattle.bz_ring.specs.declared.flat.FlatMark.{FlatMark}
use Rattle.bz_ring.specs.Journal.{mark_at}
use Rattle.bz_ring.specs.Kept.{whole, past_of}

-- there are as many marks as flat ones
pub length-past : (marks : List FlatMark) → length (past_of marks) ≡ length marks
length-past marks = grind (arith, common_steps)

-- one flat mark more is one mark more, the newest
pub past-push : (marks marks' : List FlatMark) (mark : FlatMark) → marks' ≡ marks ++ mark ∷ [] → past_of marks' ≡ whole mark ∷ past_of marks
past-push marks marks' mark is = rw is (rw (map_push whole marks mark, reverse-append) refl)

-- a list with one item more still fits
pub fits_more : {A : Type 0} (xs xs' : List A) (x : A) (most : ℕ) → xs' ≡ xs ++ x ∷ [] → length xs < most → length xs' ≤ most
fits_more xs xs' x most is h = omega (arith, ap length is ∙ length-append xs (x ∷ []))

-- what stands at a place of the list is what the flat mark there stands for
pub mark_at-past : (marks : List FlatMark) (i : ℕ) (mark : FlatMark) → i < length marks → mark ≡ get_or marks i mark → mark_at i (past_of marks) ≡ Some (whole mark)
mark_at-past marks i mark within is =
    let all = length-past marks in
    let here : length (map whole marks) ≡ length marks = grind (arith, common_steps) in
    slice_get-get_or (past_of marks) (length (past_of marks) - (i + 1)) (whole mark) (omega arith)
    ∙ ap Some (get_or-reverse (map whole marks) (length (past_of marks) - (i + 1)) (whole mark) (omega arith)
    ∙ ap (λ (k : ℕ). get_or (map whole marks) k (whole mark)) (omega arith)
    ∙ get_or-map whole marks i mark (whole mark) within
    ∙ ap whole (sym is))
