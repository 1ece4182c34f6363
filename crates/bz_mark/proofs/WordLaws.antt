-- Laws of the words after marks: one mark more, lengths, and what was before a moment.
pub mod Settled
use Rattle.std.proofs.Common.{◌≡◌, ◌≤◌, ◌<◌, ◌+◌, ◌%◌, ◌^◌, ℕ, List, [], ◌∷◌, ◌++◌, length, slice_index, refl, sym, ap, ◌∙◌, subst, inl, inr, arith, length-append}
use Rattle.std.specs.Prelude.{Some, slice_get, ◌==◌, if◌then◌else◌}
use Rattle.std.proofs.lemmas.Bool.{cases_lt}
use Rattle.std.proofs.lemmas.List.{length-set}
use Rattle.std.proofs.lemmas.Option.{slice_get-get_or, get_or_from_slice_get}
use Rattle.std.proofs.lemmas.Grind.{common_steps}
use Rattle.bz_pm.specs.Words.{IsMemory}
use Rattle.bz_pm.specs.State.{State, asks_of}
use Rattle.bz_mark.specs.declared.marks.Mark.{Mark}
use Rattle.bz_mark.specs.declared.marks.Mark.TheVariants.{Store, Cas, Fence, Evict, Cut}
use Rattle.bz_mark.specs.Moments.{at_moment, mark_at}
use Rattle.bz_mark.proofs.MomentLaws.{at_moment-earlier, at_moment-next, at_moment-before, at_moment-now, mark_at-earlier, mark_at-newest}
use Rattle.bz_mark.specs.WordsAfter.{state_after, state_after_marks, words_after_marks, KeepsLength, Found, IsTruthful}
use Rattle.bz_mark.proofs.WordLaws.Settled.{length-settled}

-- a mark keeps the number of words
pub length-state_after : (start : List ℕ) (m : State) (mark : Mark) → KeepsLength start m.words → KeepsLength start (state_after m mark).words
length-state_after start m (Store w a v) same = record { cached = length-set m.words.cached a v ∙ same.cached; durable = same.durable }
length-state_after start m (Cas w a old new found) same = record { cached = grind (arith, common_steps, same.cached); durable = same.durable }
length-state_after start m (Fence w) same = record { cached = same.cached; durable = length-settled (asks_of m w) (record { durable = m.words.durable; since = m.since }) ∙ same.durable }
length-state_after start m (Evict a) same = record { cached = same.cached; durable = length-set m.words.durable a (slice_index m.words.cached a) ∙ same.durable }
length-state_after start m Cut same = record { cached = same.durable; durable = same.durable }
length-state_after start m mark same = same

-- whatever the marks name, the number of words stays
pub length-words_of : (start : List ℕ) (past : List Mark) → KeepsLength start (words_after_marks start past)
length-words_of start [] = record { cached = refl; durable = refl }
length-words_of start (mark ∷ past) = length-state_after start (state_after_marks start past) mark (length-words_of start past)

-- the words after marks are those of a memory
pub IsMemory-words_of : (start : List ℕ) (past : List Mark) → length start % 8 ≡ 0 → length start < 2 ^ 32 → IsMemory (words_after_marks start past)
IsMemory-words_of start past lines size =
    let keeps : KeepsLength start (words_after_marks start past) = length-words_of start past in
    record { same = keeps.cached ∙ sym keeps.durable; lines = rw keeps.durable lines; size = rw keeps.durable size }

-- marks that come later leave the marks before a moment
pub at_moment-later : (moment : ℕ) (more past : List Mark) → moment ≤ length past → at_moment moment (more ++ past) ≡ at_moment moment past
at_moment-later moment [] past h = refl
at_moment-later moment (mark ∷ more) past h =
    at_moment-earlier moment mark (more ++ past) (omega (arith, length-append more past)) ∙ at_moment-later moment more past h

-- the memory after all marks is that at the last moment
pub words_of-now : (start : List ℕ) (past : List Mark) → words_after_marks start (at_moment (length past) past) ≡ words_after_marks start past
words_of-now start past = ap (words_after_marks start) (at_moment-now past)

-- from a moment to the next
pub states_of-next : (start : List ℕ) (past : List Mark) (moment : ℕ) (mark : Mark) → moment < length past → mark_at moment past ≡ Some mark
    → state_after_marks start (at_moment (moment + 1) past) ≡ state_after (state_after_marks start (at_moment moment past)) mark
states_of-next start past moment mark h is = ap (state_after_marks start) (at_moment-next moment mark past is h)

-- a value read within the memory is found
pub found-read : (words : List ℕ) (a v : ℕ) → a < length words → v ≡ slice_index words a → slice_get words a ≡ Some v
found-read words a v within is = slice_get-get_or words a 0 within ∙ ap Some (sym is)

-- a value found is the one that stands there
pub read-found : (words : List ℕ) (a v : ℕ) → slice_get words a ≡ Some v → v ≡ slice_index words a
read-found words a v is = sym (get_or_from_slice_get words a v 0 is)

some_same : {A : Type 0} (x y : A) → Some x ≡ Some y → x ≡ y
some_same x y e = cc

-- the mark at the last moment is the newest
pub newest-mark_at : (newest mark : Mark) (past : List Mark) (moment : ℕ) → length past ≤ moment → moment < length (newest ∷ past) → mark_at moment (newest ∷ past) ≡ Some mark
    → newest ≡ mark
newest-mark_at newest mark past moment low high is =
    let now : length past ≡ moment = omega arith in
    some_same newest mark (sym (mark_at-newest newest past) ∙ ap (λ (k : ℕ). mark_at k (newest ∷ past)) now ∙ is)

-- each mark of a truthful journal found what stood there at its moment
pub found-mark_at : (start : List ℕ) (past : List Mark) (moment : ℕ) (mark : Mark) → IsTruthful start past → moment < length past → mark_at moment past ≡ Some mark
    → Found (words_after_marks start (at_moment moment past)) mark
found-mark_at start [] moment mark true h is = absurd (omega arith)
found-mark_at start (newest ∷ past) moment mark true h is = elim (cases_lt moment (length past)) [
  | inl earlier ↦ subst (λ (marks : List Mark). Found (words_after_marks start marks) mark) (sym (at_moment-earlier moment newest past (omega arith)))
      (found-mark_at start past moment mark true.1 earlier (sym (mark_at-earlier moment newest past earlier) ∙ is))
  | inr last ↦
      let now : moment ≡ length past = omega arith in
      let same : newest ≡ mark = newest-mark_at newest mark past moment last h is in
      subst (λ (marks : List Mark). Found (words_after_marks start marks) mark) (sym (ap (λ (k : ℕ). at_moment k (newest ∷ past)) now ∙ at_moment-before newest past))
      (subst (Found (words_after_marks start past)) same true.0)
]
