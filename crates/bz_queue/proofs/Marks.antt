-- The mark of an act, and of an eviction: the words after it, what it found, that it may stand there, and that it leaves every call.
use Rattle.std.proofs.Common.{◌≡◌, ◌<◌, ℕ, zero, suc, List, ◌∷◌, length, refl, subst, arith}
use Rattle.bz_swap_acts.specs.Rule.{IsWithin, FoundRightly}
use Rattle.bz_swap_acts.specs.declared.acted.Act.{Act}
use Rattle.bz_swap_acts.specs.declared.acted.Act.TheVariants.{Load, Store, Cas, Ask, Fence}
use Rattle.bz_swap_cells.specs.FromPm.Words.{Words}
use Rattle.bz_swap_machine.specs.declared.done.Done.{Done}
use Rattle.bz_mark.specs.WordsAfter.{state_after_marks, words_after_marks, Found}
use Rattle.bz_mark.specs.declared.marks.Mark.{Mark}
use Rattle.bz_mark.specs.declared.marks.Mark.TheVariants as mark
use Rattle.bz_mark.proofs.WordLaws.{found-read}
use Rattle.bz_swap.specs.Steps.{IsOneAct}
use Rattle.bz_swap.specs.SwapMemory.{SwapMemory, memory_words}
use Rattle.bz_ring.specs.declared.marks.QMark.{QMark}
use Rattle.bz_ring.specs.declared.marks.QMark.TheVariants.{Memory}
use Rattle.bz_ring.specs.Calls.{open_call}
use Rattle.bz_ring.specs.Follows.{HasOpenCall, MayHappen, power_after}
use Rattle.bz_ring.specs.Journal.{IsOfMemory}
use Rattle.bz_swap_marks.specs.Marks.{mark_of}
use Rattle.bz_swap_marks.specs.Past.{SamePast}
use Rattle.bz_swap_marks.proofs.Pasts.{act-words, act-past}
use Rattle.bz_queue.specs.Acts.{IsPlain}

pub act-plain : (w : ℕ) (made : Act) → IsPlain (mark_of w made)
act-plain w (Load a v) = tt
act-plain w (Store a v) = tt
act-plain w (Cas a old new found) = tt
act-plain w (Ask line) = tt
act-plain w Fence = tt

pub plain-memory : (memory : Mark) → IsPlain memory → IsOfMemory memory
plain-memory (mark.Begin w n call) plain = plain
plain-memory (mark.End w n reply at) plain = plain
plain-memory (mark.Effect w n) plain = plain
plain-memory mark.Cut plain = tt
plain-memory mark.On plain = tt
plain-memory mark.Ready plain = tt
plain-memory other plain = tt

pub plain-calls : (v : ℕ) (past : List QMark) (memory : Mark) → IsPlain memory → open_call v (Memory memory ∷ past) ≡ open_call v past
plain-calls v past mark.Cut plain = absurd plain
plain-calls v past other plain = refl

pub plain-power : (past : List QMark) (memory : Mark) → IsPlain memory → power_after (Memory memory ∷ past) ≡ power_after past
plain-power past mark.Cut plain = absurd plain
plain-power past mark.On plain = absurd plain
plain-power past mark.Ready plain = absurd plain
plain-power past other plain = refl

-- the words after an act, and what is kept of the past
module _ (w : ℕ) (old new : SwapMemory) (start : List ℕ) (marks : List Mark) (made : Act) (done : Done) (words : memory_words old ≡ words_after_marks start marks) (past : SamePast old (state_after_marks start marks)) (one : IsOneAct old w made done new) where
  pub act-marked : memory_words new ≡ words_after_marks start (mark_of w made ∷ marks)
  act-marked = act-words old new (state_after_marks start marks) w made done one words past

  pub act-kept : SamePast new (state_after_marks start (mark_of w made ∷ marks))
  act-kept = act-past old new (state_after_marks start marks) w made done one words past

pub act-found : (w : ℕ) (old new : SwapMemory) (start : List ℕ) (marks : List Mark) (made : Act) → memory_words old ≡ words_after_marks start marks → FoundRightly (memory_words old) made → IsWithin (length old.cached) made
    → Found (words_after_marks start marks) (mark_of w made)
act-found w old new start marks (Load a v) same act within = subst (λ (z : Words). Found z (mark_of w (Load a v))) same (found-read old.cached a v within act)
act-found w old new start marks (Store a v) same act within = tt
act-found w old new start marks (Cas a before after found) same act within = subst (λ (z : Words). Found z (mark_of w (Cas a before after found))) same (found-read old.cached a found within act)
act-found w old new start marks (Ask line) same act within = tt
act-found w old new start marks Fence same act within = tt

pub act-follows : (past : List QMark) (w : ℕ) (made : Act) → 0 < w → HasOpenCall past w → MayHappen past (mark_of w made)
act-follows past zero made some h = absurd (omega arith)
act-follows past (suc w) (Load a v) some h = h
act-follows past (suc w) (Store a v) some h = h
act-follows past (suc w) (Cas a old new found) some h = h
act-follows past (suc w) (Ask line) some h = h
act-follows past (suc w) Fence some h = h
