-- The book of the tests tells an entry for each line.
use Rattle.std.proofs.Common.{◌≡◌, ℕ, suc, if◌then◌else◌, Bool, true, false, List, [], ◌∷◌, length, refl, ap, Option, Some, None}
use Rattle.bz_test_layers.specs.Books.{told}

either : {E : Type 0} (b : Bool) (x y : E) (xs ys : List E) (n : ℕ) → length xs ≡ n → length ys ≡ n → length (if b then x ∷ xs else y ∷ ys) ≡ suc n
either true x y xs ys n e f = ap suc e
either false x y xs ys n e f = ap suc f

pub length-told : {L E : Type 0} (paged : L → Bool) (with_page : L → Option ℕ → E) (lines : List L) (pages : List ℕ) → length (told paged with_page lines pages) ≡ length lines
length-told paged with_page [] pages = refl
length-told paged with_page (line ∷ lines) [] = ap suc (length-told paged with_page lines [])
length-told paged with_page (line ∷ lines) (page ∷ pages) =
    either (paged line) (with_page line (Some page)) (with_page line None) (told paged with_page lines pages) (told paged with_page lines (page ∷ pages)) (length lines) (length-told paged with_page lines pages) (length-told paged with_page lines (page ∷ pages))
