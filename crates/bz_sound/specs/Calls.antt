-- Which calls are open, the map at a moment, and what a mark of a call may name. The newest mark stands first.
use Rattle.std.specs.Prelude.{◌≡◌, ℕ, ◌+◌, ◌==◌, if◌then◌else◌, List, [], ◌∷◌, length, Option, Some, None, option_map}
use Rattle.bz_call.specs.Map.{Map, apply, IsChange}
use Rattle.bz_call.specs.declared.calls.Call.{Call}
use Rattle.bz_mark.specs.Moments.{at_moment}
use Rattle.bz_mark.specs.declared.marks.Mark.{Mark}
use Rattle.bz_mark.specs.declared.marks.Mark.TheVariants.{Begin, End, Cut, Effect}

-- an open call: its number, the call, how many marks stood before its Begin, and before its Effect if it has one
pub record Open : Type 0 where
  pub number : ℕ
  pub call : Call
  pub begun : ℕ
  pub effect : Option ℕ

abbrev pub with_effect : ℕ → Open → Open
with_effect moment opened = record { number = opened.number; call = opened.call; begun = opened.begun; effect = Some moment }

-- the call of a worker that is open: from its Begin to its End or to the next Cut
abbrev pub open_call : ℕ → List Mark → Option Open
open_call w [] = None
open_call w (Begin v n call ∷ past) =
    if v == w then Some (record { number = n; call = call; begun = length past; effect = None }) else open_call w past
open_call w (End v n reply at ∷ past) = if v == w then None else open_call w past
open_call w (Effect v n ∷ past) = if v == w then option_map (with_effect (length past)) (open_call w past) else open_call w past
open_call w (Cut ∷ past) = None
open_call w (mark ∷ past) = open_call w past

-- how many calls of a worker have begun
abbrev pub begun_calls : ℕ → List Mark → ℕ
begun_calls w [] = 0
begun_calls w (Begin v n call ∷ past) = if v == w then begun_calls w past + 1 else begun_calls w past
begun_calls w (mark ∷ past) = begun_calls w past

-- the map after the call that is open, if one is
abbrev pub map_with : Option Open → Map → Map
map_with None map = map
map_with (Some opened) map = (apply map opened.call).map

-- the map after the marks: each Effect puts its call into the map, and no other mark changes it. No word of
-- the memory is looked at after the start.
abbrev pub map_after : Map → List Mark → Map
map_after start [] = start
map_after start (Effect w n ∷ past) = map_with (open_call w past) (map_after start past)
map_after start (mark ∷ past) = map_after start past

-- the map at a moment
abbrev pub map_at : Map → ℕ → List Mark → Map
map_at start moment past = map_after start (at_moment moment past)

-- a worker's calls have the numbers 1, 2, 3 and so on, and only one of them is open
pub record MayBegin (past : List Mark) (w n : ℕ) : Type 0 where
  pub numbered : n ≡ begun_calls w past + 1
  pub none_open : open_call w past ≡ None

-- an End names a call that is open
pub record MayEnd (past : List Mark) (w n : ℕ) : Type 0 where
  pub opened : Open
  pub is_open : open_call w past ≡ Some opened
  pub number : opened.number ≡ n

-- an Effect names a call that is open and has none yet, and the call changes the map
pub record MayEffect (start : Map) (past : List Mark) (w n : ℕ) : Type 0 where
  pub opened : Open
  pub is_open : open_call w past ≡ Some opened
  pub number : opened.number ≡ n
  pub once : opened.effect ≡ None
  pub changes : IsChange (apply (map_after start past) opened.call).reply
