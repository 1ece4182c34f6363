-- Which calls are open, and the list at a moment. The newest mark stands first.
use Rattle.std.specs.Prelude.{◌≡◌, ◌==◌, ◌&&◌, not, if◌then◌else◌, ℕ, ◌+◌, List, [], ◌∷◌, length, Option, Some, None, option_map, is_some, count_by}
use Rattle.std.specs.List.{range_with_len}
use Rattle.bz_layout.specs.declared.limits.TheConstants.{MAX_WORKERS}
use Rattle.bz_mark.specs.declared.marks.Mark.TheVariants.{Cut}
use Rattle.bz_ring.specs.declared.calls.QCall.{QCall}
use Rattle.bz_ring.specs.declared.marks.QMark.{QMark}
use Rattle.bz_ring.specs.declared.marks.QMark.TheVariants.{Begin, End, Effect, Memory}
use Rattle.bz_ring.specs.Journal.{at_moment}
use Rattle.bz_ring.specs.Lists.{apply, IsChange}

-- an open call: its number, the call, how many marks stood before its Begin, and before its Effect if it has one
pub record Open : Type 0 where
  pub number : ℕ
  pub call : QCall
  pub begun : ℕ
  pub effect : Option ℕ

abbrev pub with_effect : ℕ → Open → Open
with_effect moment opened = record opened { effect = Some moment }

-- the call of a worker that is open: from its Begin to its End or to the next power cut
abbrev pub open_call : ℕ → List QMark → Option Open
open_call w [] = None
open_call w (Begin v n call ∷ past) =
    if v == w then Some (record { number = n; call = call; begun = length past; effect = None }) else open_call w past
open_call w (End v n reply at ∷ past) = if v == w then None else open_call w past
open_call w (Effect v n ∷ past) = if v == w then option_map (with_effect (length past)) (open_call w past) else open_call w past
open_call w (Memory Cut ∷ past) = None
open_call w (Memory memory ∷ past) = open_call w past

-- how many calls of a worker have begun
abbrev pub begun_calls : ℕ → List QMark → ℕ
begun_calls w [] = 0
begun_calls w (Begin v n call ∷ past) = if v == w then begun_calls w past + 1 else begun_calls w past
begun_calls w (mark ∷ past) = begun_calls w past

-- how many calls have begun
abbrev pub count_begins : List QMark → ℕ
count_begins [] = 0
count_begins (Begin v n call ∷ past) = count_begins past + 1
count_begins (mark ∷ past) = count_begins past

-- how many workers have an open call beside this one
abbrev pub count_others : ℕ → List QMark → ℕ
count_others w past = count_by (λ v. not (v == w) && is_some (open_call v past)) (range_with_len 1 MAX_WORKERS)

-- the list after the call that is open, if one is
abbrev pub items_with : ℕ → Option Open → List ℕ → List ℕ
items_with capacity None items = items
items_with capacity (Some opened) items = (apply capacity items opened.call).items

-- the list after the marks: each Effect makes its call's change, and no other mark changes it. No word of the memory is looked
-- at after the start
abbrev pub items_after : ℕ → List ℕ → List QMark → List ℕ
items_after capacity first [] = first
items_after capacity first (Effect w n ∷ past) = items_with capacity (open_call w past) (items_after capacity first past)
items_after capacity first (mark ∷ past) = items_after capacity first past

-- the list at a moment
abbrev pub list_at : ℕ → List ℕ → ℕ → List QMark → List ℕ
list_at capacity first moment past = items_after capacity first (at_moment moment past)

-- a worker's calls have the numbers 1, 2, 3 and so on, and only one of them is open
pub record MayBegin (past : List QMark) (w n : ℕ) : Type 0 where
  pub numbered : n ≡ begun_calls w past + 1
  pub none_open : open_call w past ≡ None

-- an End names a call that is open
pub record MayEnd (past : List QMark) (w n : ℕ) : Type 0 where
  pub opened : Open
  pub is_open : open_call w past ≡ Some opened
  pub number : opened.number ≡ n

-- an Effect names a call that is open and has none yet, and the call changes the list
pub record MayEffect (capacity : ℕ) (first : List ℕ) (past : List QMark) (w n : ℕ) : Type 0 where
  pub opened : Open
  pub is_open : open_call w past ≡ Some opened
  pub number : opened.number ≡ n
  pub once : opened.effect ≡ None
  pub changes : IsChange (apply capacity (items_after capacity first past) opened.call).reply
