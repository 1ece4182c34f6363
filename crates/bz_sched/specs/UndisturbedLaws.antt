-- What a script leaves whose runs go one worker after the other, and in which no cut is armed for a run or a power on: each call that stands above a run has
-- ended, and where the power comes on at most at first no call has begun while another was open. The newest mark stands first.
use Rattle.std.specs.Prelude.{◌≡◌, ◌≤◌, ℕ, ◌+◌, ◌==◌, if◌then◌else◌, ◌&&◌, Bool, true, false, List, [], ◌∷◌, length, None}
use Rattle.bz_layout.specs.declared.limits.TheConstants.{MAX_WORKERS}
use Rattle.bz_mark.specs.declared.marks.Mark.{Mark}
use Rattle.bz_mark.specs.declared.marks.Mark.TheVariants.{End}
use Rattle.bz_script.specs.declared.item.Item.{Item}
use Rattle.bz_script.specs.declared.item.Item.TheVariants.{Queue, Run, Power}
use Rattle.bz_sound.specs.Calls.{open_call}
use Rattle.bz_sound.specs.Memory.Sound.{IsApart}
use Rattle.bz_mark.specs.Times.{power_of}
use Rattle.bz_mark.specs.declared.power.Power.{Power as State}
use Rattle.bz_mark.specs.declared.power.Power.TheVariants as power
use Rattle.bz_sched.specs.Enough.{AreClosed}
use Rattle.bz_sched.specs.Points.{Point}
use Rattle.bz_sched.specs.Queued.{calls_of}
use Rattle.bz_sched.specs.Scripts.{LeadsTo}
use Rattle.bz_sched.specs.Sums.{are_plain}

-- how many calls of a worker have ended
abbrev pub ended_calls : ℕ → List Mark → ℕ
ended_calls w [] = 0
ended_calls w (End v n reply at ∷ past) = if v == w then ended_calls w past + 1 else ended_calls w past
ended_calls w (mark ∷ past) = ended_calls w past

-- how many calls of a worker stand above a run, where so many wait already
abbrev pub calls_above : ℕ → ℕ → List Item → ℕ
calls_above w waiting [] = 0
calls_above w waiting (Queue v call ∷ items) = calls_above w (if v == w then waiting + 1 else waiting) items
calls_above w waiting (Run plan ∷ items) = waiting + calls_above w 0 items
calls_above w waiting (item ∷ items) = calls_above w waiting items

-- just these have ended: since a worker's calls are numbered from 1 on, and each ends once, each of them has its End
abbrev pub CallsAboveEnd : Type 0
CallsAboveEnd =
    (at_start : State) (start : List ℕ) (words w : ℕ) (old : Point) (items : List Item) (new : List Mark) → 1 ≤ w → w ≤ MAX_WORKERS → are_plain items ≡ true → open_call w old.past ≡ None →
    LeadsTo at_start start words None old items new → ended_calls w new ≡ ended_calls w old.past + calls_above w (length (calls_of w old.queue)) items

-- no item turns the power on
abbrev pub is_no_power : Item → Bool
is_no_power Power = false
is_no_power other = true

abbrev pub without_power : List Item → Bool
without_power [] = true
without_power (item ∷ items) = is_no_power item && without_power items

-- none does, but the first where the power is off: what a script without such a line comes to, over fresh memory or over an image
abbrev pub powers_first : State → List Item → Bool
powers_first power.Off (Power ∷ items) = without_power items
powers_first other items = without_power items

-- so the calls go one after the other
abbrev pub CallsGoApart : Type 0
CallsGoApart =
    (at_start : State) (start : List ℕ) (words : ℕ) (old : Point) (items : List Item) (new : List Mark) → are_plain items ≡ true → powers_first (power_of at_start old.past) items ≡ true → AreClosed old.past → IsApart old.past →
    LeadsTo at_start start words None old items new → IsApart new
