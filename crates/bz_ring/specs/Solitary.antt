-- A call during which no other call is open, and the descriptors that it takes. The newest mark stands first.
use Rattle.std.specs.Prelude.{◌≡◌, ◌≢◌, ℕ, ◌+◌, List, [], ◌∷◌, Option, Some, None}
use Rattle.bz_mark.specs.Counts.{taken_among}
use Rattle.bz_mark.specs.Times.{since_on}
use Rattle.bz_ring.specs.declared.marks.QMark.{QMark}
use Rattle.bz_ring.specs.declared.marks.QMark.TheVariants.{Begin, End}
use Rattle.bz_ring.specs.declared.ring.Ring.{Ring}
use Rattle.bz_ring.specs.Calls.{Open, open_call}
use Rattle.bz_ring.specs.Journal.{EachMark, at_moment, memory_of}

-- the newest Begin is this worker's, and no call was open when it came
abbrev pub IsSolitary : ℕ → List QMark → Type 0
IsSolitary w [] = ⊥
IsSolitary w (Begin v n call ∷ past) = (v ≡ w) × ((u : ℕ) → open_call u past ≡ None)
IsSolitary w (mark ∷ past) = IsSolitary w past

-- so since then no other worker's call was open, nor is one now
abbrev pub NoneIsOpenBesideASolitaryCall : Type 0
NoneIsOpenBesideASolitaryCall = (w v : ℕ) (past : List QMark) → IsSolitary w past → v ≢ w → open_call v past ≡ None

-- how many descriptors were taken since the power came on
abbrev pub taken_in : Ring → List QMark → ℕ
taken_in r past = taken_among r.swaps (since_on (memory_of past))

-- one with an effect, and none without
abbrev pub one_with : Option ℕ → ℕ
one_with None = 0
one_with (Some effect) = 1

-- from its Begin to its End a solitary call takes one descriptor if it had an effect, and otherwise none
abbrev pub EndTakes : Ring → List QMark → QMark → Type 0
EndTakes r past (End w n answer at) = (opened : Open) → open_call w past ≡ Some opened → IsSolitary w past → taken_in r past ≡ taken_in r (at_moment opened.begun past) + one_with opened.effect
EndTakes r past mark = Unit {0}

-- each of the journal does
abbrev pub IsSparing : Ring → List QMark → Type 0
IsSparing r past = EachMark (EndTakes r) past
