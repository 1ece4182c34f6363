-- The words at each moment, by the marks alone, and from when each durable word dates. A moment is a number of marks. The
-- newest mark stands first.
use Rattle.std.specs.Prelude.{◌==◌, ◌&&◌, if◌then◌else◌, nat_lt, ℕ, ◌+◌, ◌/◌, max, List, [], ◌∷◌, length, slice_index}
use Rattle.bz_mark.specs.declared.marks.Mark.{Mark}
use Rattle.bz_mark.specs.declared.marks.Mark.TheVariants.{Store, Cas, Ask, Fence, Evict, Cut}

-- the moment of a worker's last ask for a line since its last fence and the last cut, and 0 where there is none
abbrev pub asked : List Mark → ℕ → ℕ → ℕ
asked [] w line = 0
asked (Ask v other ∷ past) w line = if (v == w && other == line) then length past else asked past w line
asked (Fence v ∷ past) w line = if v == w then 0 else asked past w line
asked (Cut ∷ past) w line = 0
asked (mark ∷ past) w line = asked past w line

-- the moment from which the durable value of a word dates
abbrev pub since : List Mark → ℕ → ℕ
since [] a = 0
since (Fence w ∷ past) a = max (since past a) (asked past w (a / 8))
since (Evict b ∷ past) a = if a == b then length past else since past a
since (Cut ∷ past) a = length past + 1
since (mark ∷ past) a = since past a

-- the cached value of a word at a moment: a mark changes it from the moment after the mark on
abbrev pub cached_at : List ℕ → List Mark → ℕ → ℕ → ℕ
cached_at start [] moment a = slice_index start a
cached_at start (Store w b v ∷ past) moment a = if (nat_lt (length past) moment && a == b) then v else cached_at start past moment a
cached_at start (Cas w b old new found ∷ past) moment a = if (nat_lt (length past) moment && (a == b && found == old)) then new else cached_at start past moment a
cached_at start (Cut ∷ past) moment a = if nat_lt (length past) moment then cached_at start past (since past a) a else cached_at start past moment a
cached_at start (mark ∷ past) moment a = cached_at start past moment a

-- the durable value after all marks: the cached one at the moment from which it dates
abbrev pub durable_word : List ℕ → List Mark → ℕ → ℕ
durable_word start past a = cached_at start past (since past a) a
