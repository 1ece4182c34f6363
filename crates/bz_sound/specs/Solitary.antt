-- A call during which no other call is open, and the acts that its worker has made since it began. The newest mark stands first.
use Rattle.std.specs.Prelude.{◌≡◌, ◌≢◌, ℕ, ◌+◌, ◌==◌, if◌then◌else◌, List, [], ◌∷◌, None}
use Rattle.bz_mark.specs.declared.marks.Mark.{Mark}
use Rattle.bz_mark.specs.declared.marks.Mark.TheVariants.{Begin, Load, Store, Cas, Ask, Fence}
use Rattle.bz_sound.specs.Calls.{open_call}

-- the newest Begin is this worker's, and no call was open when it came
abbrev pub IsSolitary : ℕ → List Mark → Type 0
IsSolitary w [] = ⊥
IsSolitary w (Begin v n call ∷ past) = (v ≡ w) × ((u : ℕ) → open_call u past ≡ None)
IsSolitary w (mark ∷ past) = IsSolitary w past

-- how many acts a worker has made since its newest Begin
abbrev pub acts_since : ℕ → List Mark → ℕ
acts_since w [] = 0
acts_since w (Begin v n call ∷ past) = if v == w then 0 else acts_since w past
acts_since w (Load v a x ∷ past) = if v == w then acts_since w past + 1 else acts_since w past
acts_since w (Store v a x ∷ past) = if v == w then acts_since w past + 1 else acts_since w past
acts_since w (Cas v a old new found ∷ past) = if v == w then acts_since w past + 1 else acts_since w past
acts_since w (Ask v line ∷ past) = if v == w then acts_since w past + 1 else acts_since w past
acts_since w (Fence v ∷ past) = if v == w then acts_since w past + 1 else acts_since w past
acts_since w (mark ∷ past) = acts_since w past

-- so since then no other worker's call was open, nor is one now
abbrev pub NoneIsOpenBesideASolitaryCall : Type 0
NoneIsOpenBesideASolitaryCall = (w v : ℕ) (past : List Mark) → IsSolitary w past → v ≢ w → open_call v past ≡ None
