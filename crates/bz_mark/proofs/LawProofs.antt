-- The laws, from the lemmas on words, on what may be held, and on evictions.
use Rattle.std.proofs.Common.{◌≡◌, ◌<◌, ℕ, List, [], ◌∷◌, length, refl, sym, ap, ◌∙◌, subst, arith}
use Rattle.std.specs.Prelude.{Some, ◌==◌, if◌then◌else◌, slice_set, slice_get}
use Rattle.bz_mark.specs.declared.marks.Mark.{Mark}
use Rattle.bz_mark.specs.declared.marks.Mark.TheVariants.{Load, Cas}
use Rattle.bz_pm.specs.Words.{Words}
use Rattle.bz_pm.specs.State.{State}
use Rattle.bz_mark.specs.Dates.{since}
use Rattle.bz_mark.specs.Moments.{at_moment, mark_at}
use Rattle.bz_mark.proofs.MomentLaws.{at_moment-earlier, at_moment-before, mark_at-earlier, mark_at-newest}
use Rattle.bz_mark.specs.WordsAfter.{state_after_marks, words_after_marks, Found, IsTruthful}
use Rattle.bz_mark.proofs.WordLaws.{at_moment-later, read-found, found-mark_at}
use Rattle.bz_mark.specs.Evictions.{AddsEvictions, none, added, kept, MayBeLeft, HoldsEach, EvictionsLeaveWhatMayBeHeld}
use Rattle.bz_mark.specs.Laws.{StatesStay, SwapsAsFound, TruthfulAtEachMoment, TruthfulWithEvictions}
use Rattle.bz_mark.proofs.DateLaws.{since-within}
use Rattle.bz_mark.proofs.Renumbering.{Later, later, to-within}
use Rattle.bz_mark.proofs.Reached.{reached}
use Rattle.bz_mark.proofs.Steps.{same_cached}

pub states_stay : StatesStay
states_stay start more past moment h = ap (state_after_marks start) (at_moment-later moment more past h)

pub swaps_as_found : SwapsAsFound
swaps_as_found m w a old new found is =
    ap (λ (seen : ℕ). let after : State = record m {
      words = record { cached = if seen == old then slice_set m.words.cached a new else m.words.cached; durable = m.words.durable };
    } in after)
    (read-found m.words.cached a found is)

at_moments : (start : List ℕ) (past : List Mark)
    → ((moment : ℕ) (mark : Mark) → moment < length past → mark_at moment past ≡ Some mark → Found (words_after_marks start (at_moment moment past)) mark) → IsTruthful start past
at_moments start [] each = tt
at_moments start (newest ∷ past) each = (
  subst (λ (marks : List Mark). Found (words_after_marks start marks) newest) (at_moment-before newest past) (each (length past) newest (omega arith) (mark_at-newest newest past)),
  at_moments start past (λ moment mark h is.
      subst (λ (marks : List Mark). Found (words_after_marks start marks) mark) (at_moment-earlier moment newest past (omega arith))
      (each moment mark (omega arith) (mark_at-earlier moment newest past h ∙ is))),
)

pub truthful_at_each_moment : TruthfulAtEachMoment
truthful_at_each_moment start past = (λ true moment mark h is. found-mark_at start past moment mark true h is, at_moments start past)

-- added evictions leave the cached words
added-cached : (start : List ℕ) {past more : List Mark} → AddsEvictions (length start) past more → (words_after_marks start more).cached ≡ (words_after_marks start past).cached
added-cached start none = refl
added-cached start (added within adds) = added-cached start adds
added-cached start (kept {past = past} {more = more} {mark = mark} go adds) = same_cached (state_after_marks start more) (state_after_marks start past) mark go (added-cached start adds)

same_found : (old new : Words) (mark : Mark) → old.cached ≡ new.cached → Found old mark → Found new mark
same_found old new (Load w a v) same found = subst (λ (words : List ℕ). slice_get words a ≡ Some v) same found
same_found old new (Cas w a expected v value) same found = subst (λ (words : List ℕ). slice_get words a ≡ Some value) same found
same_found old new mark same found = tt

truthful_added : (start : List ℕ) {past more : List Mark} → AddsEvictions (length start) past more → IsTruthful start past → IsTruthful start more
truthful_added start none true = true
truthful_added start (added within adds) true = (tt, truthful_added start adds true)
truthful_added start (kept {past = past} {more = more} {mark = mark} go adds) true =
    (same_found (words_after_marks start past) (words_after_marks start more) mark (sym (added-cached start adds)) true.0, truthful_added start adds true.1)

pub truthful_with_evictions : TruthfulWithEvictions
truthful_with_evictions start past more adds true = truthful_added start adds true

left_each : (start image : List ℕ) (past : List Mark) → MayBeLeft start past image → HoldsEach start past image
left_each start image past left =
    let l : Later start past left.0 = later start left.1 in
    record {
      size = left.2.size;
      words = λ a within. record {
        moment = l.moments.to (since left.0 a);
        dated = l.dated a;
        within = to-within start past left.0 l.moments (since left.0 a) (since-within left.0 a);
        value = left.2.words a within ∙ l.moments.cached (since left.0 a) a (since-within left.0 a);
      };
    }

pub evictions_leave_what_may_be_held : EvictionsLeaveWhatMayBeHeld
evictions_leave_what_may_be_held start image past = (left_each start image past, λ each. reached start past image each)
