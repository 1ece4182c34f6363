-- The mark of an act.
use Rattle.std.proofs.Common.{◌≡◌, ◌≢◌, ℕ, List, ◌∷◌, length, refl, sym, ap, subst, ◌∙◌}
use Rattle.std.specs.Prelude.{slice_set, ◌==◌, if◌then◌else◌}
use Rattle.bz_swap_acts.specs.Rule.{IsWithin, FoundRightly}
use Rattle.bz_swap_acts.specs.declared.acted.Act.{Act}
use Rattle.bz_swap_acts.specs.declared.acted.Act.TheVariants.{Load, Store, Cas, Ask, Fence}
use Rattle.bz_mark.specs.Log.{Log}
use Rattle.bz_mark.proofs.WordLaws.{found-read}
use Rattle.bz_mark.specs.WordsAfter.{state_after, state_after_marks, words_after_marks, Found}
use Rattle.bz_mark.specs.declared.marks.Mark.{Mark}
use Rattle.bz_pm.specs.Words.{Words}
use Rattle.bz_sound.specs.Calls.{open_call}
use Rattle.bz_mark.specs.declared.power.Power.{Power}
use Rattle.bz_sound.specs.Power.Calls.{MayAct, MayFollow}
use Rattle.bz_call.specs.Map.{Map}
use Rattle.bz_swap_machine.specs.declared.done.Done.{Done}
use Rattle.bz_swap_marks.proofs.Pasts.{act-words, act-past}
use Rattle.bz_swap_marks.specs.Past.{SamePast}
use Rattle.bz_swap.specs.Steps.{IsOneAct}
use Rattle.bz_swap.specs.SwapMemory.{SwapMemory, memory_words}
use Rattle.bz_world.specs.WorldView.{mark_of}

-- the words after it, and what is kept of the past
pub act-marked : (w : ℕ) (old new : SwapMemory) (log : Log) (made : Act) (done : Done) → memory_words old ≡ words_after_marks log.start log.past → SamePast old (state_after_marks log.start log.past) → IsOneAct old w made done new
    → memory_words new ≡ words_after_marks log.start (mark_of w made ∷ log.past)
act-marked w old new log made done words past one =
    act-words old new (state_after_marks log.start log.past) w made done one words past

pub act-kept : (w : ℕ) (old new : SwapMemory) (log : Log) (made : Act) (done : Done) → memory_words old ≡ words_after_marks log.start log.past → SamePast old (state_after_marks log.start log.past) → IsOneAct old w made done new
    → SamePast new (state_after_marks log.start (mark_of w made ∷ log.past))
act-kept w old new log made done words past one =
    act-past old new (state_after_marks log.start log.past) w made done one words past

-- what it found
pub act-found : (w : ℕ) (old new : SwapMemory) (log : Log) (made : Act) → memory_words old ≡ words_after_marks log.start log.past → FoundRightly (memory_words old) made → IsWithin (length old.cached) made
    → Found (words_after_marks log.start log.past) (mark_of w made)
act-found w old new log (Load a v) same act within = subst (λ (z : Words). Found z (mark_of w (Load a v))) same (found-read old.cached a v within act)
act-found w old new log (Store a v) same act within = tt
act-found w old new log (Cas a before after found) same act within = subst (λ (z : Words). Found z (mark_of w (Cas a before after found))) same (found-read old.cached a found within act)
act-found w old new log (Ask line) same act within = tt
act-found w old new log Fence same act within = tt

-- it may follow where the worker may act, and leaves every open call
pub act-follows : (at_start : Power) (start : Map) (past : List Mark) (w : ℕ) (made : Act) → MayAct at_start past w → MayFollow at_start start past (mark_of w made)
act-follows at_start start past w (Load a v) h = h
act-follows at_start start past w (Store a v) h = h
act-follows at_start start past w (Cas a old new found) h = h
act-follows at_start start past w (Ask line) h = h
act-follows at_start start past w Fence h = h

pub act-calls : (v w : ℕ) (past : List Mark) (made : Act) → open_call v (mark_of w made ∷ past) ≡ open_call v past
act-calls v w past (Load a x) = refl
act-calls v w past (Store a x) = refl
act-calls v w past (Cas a old new found) = refl
act-calls v w past (Ask line) = refl
act-calls v w past Fence = refl
