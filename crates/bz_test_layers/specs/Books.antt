-- What the book of the tests means.
use Rattle.std.specs.Prelude.{ℕ, if◌then◌else◌, Bool, List, [], ◌∷◌, Option, Some, None}

-- its lines, each with the page that came with it, if one did; lines and pages stand newest first
abbrev pub told : {L E : Type 0} → (L → Bool) → (L → Option ℕ → E) → List L → List ℕ → List E
told paged with_page [] pages = []
told paged with_page (line ∷ lines) [] = with_page line None ∷ told paged with_page lines []
told paged with_page (line ∷ lines) (page ∷ pages) =
    if paged line then with_page line (Some page) ∷ told paged with_page lines pages else with_page line None ∷ told paged with_page lines (page ∷ pages)
