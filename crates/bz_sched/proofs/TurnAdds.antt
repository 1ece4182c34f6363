-- What a turn adds to a journal.
use Rattle.std.proofs.Common.{◌≡◌, ◌<◌, ℕ, zero, suc, ◌+◌, Bool, true, false, List, [], ◌∷◌, ◌++◌, refl, sym, ap, ◌∙◌, append_assoc, arith, Option, Some, None, inl, inr}
use Rattle.std.specs.Prelude.{is_some}
use Rattle.bz_call.specs.declared.calls.Call.{Call}
use Rattle.bz_mark.specs.declared.marks.Mark.{Mark}
use Rattle.bz_mark.specs.declared.marks.Mark.TheVariants.{Begin, End, Load, Store, Cas, Ask, Fence, Effect}
use Rattle.bz_sound.specs.Calls.{open_call}
use Rattle.bz_sched.specs.Queued.{calls_of}
use Rattle.bz_sched.specs.Points.{Point, actor, IsUpToOneEffect, IsUpToOneEnd, IsStep, ready_by, is_busy, IsTurn}
use Rattle.bz_sched.specs.TurnLaws.{one_more, count_acts, AreOwn, Adds, KeepsWord, WordsAreKept}

one_more-add : (who : Option ℕ) (all here there : ℕ) → all ≡ here + there → one_more who all ≡ one_more who here + there
one_more-add None all here there e = e
one_more-add (Some w) all here there e = omega arith

count_acts-append : (xs ys : List Mark) → count_acts (xs ++ ys) ≡ count_acts xs + count_acts ys
count_acts-append [] ys = omega arith
count_acts-append (mark ∷ xs) ys = one_more-add (actor mark) (count_acts (xs ++ ys)) (count_acts xs) (count_acts ys) (count_acts-append xs ys)

AreOwn-append : (w : ℕ) (xs ys : List Mark) → AreOwn w xs → AreOwn w ys → AreOwn w (xs ++ ys)
AreOwn-append w [] ys h k = k
AreOwn-append w (mark ∷ xs) ys h k = (h.0, AreOwn-append w xs ys h.1 k)

adds_none : (w : ℕ) (past : List Mark) → Adds w past past 0
adds_none w past = record { added = []; is = refl; own = tt; acts = refl }

adds_both : (w : ℕ) (a b c : List Mark) (m n : ℕ) → Adds w a b m → Adds w b c n → Adds w a c (m + n)
adds_both w a b c m n h k = record {
  added = k.added ++ h.added;
  is = k.is ∙ ap (λ (past : List Mark). k.added ++ past) h.is ∙ sym (append_assoc k.added h.added a);
  own = AreOwn-append w k.added h.added k.own h.own;
  acts = omega (arith, count_acts-append k.added h.added, h.acts, k.acts);
}

pub ready_adds : (w : ℕ) (opened : Bool) (calls : List (ℕ × Call)) (point : Point) → Adds w point.past (ready_by w opened calls point).past 0
ready_adds w true calls point = adds_none w point.past
ready_adds w false [] point = adds_none w point.past
ready_adds w false (call ∷ calls) point = record { added = Begin w _ call.1 ∷ []; is = refl; own = (refl, tt); acts = refl }

act_adds : (w : ℕ) (past : List Mark) (act : Mark) → actor act ≡ Some w → Adds w past (act ∷ past) 1
act_adds w past (Load v a x) own = record { added = Load v a x ∷ []; is = refl; own = (cc, tt); acts = refl }
act_adds w past (Store v a x) own = record { added = Store v a x ∷ []; is = refl; own = (cc, tt); acts = refl }
act_adds w past (Cas v a old new found) own = record { added = Cas v a old new found ∷ []; is = refl; own = (cc, tt); acts = refl }
act_adds w past (Ask v line) own = record { added = Ask v line ∷ []; is = refl; own = (cc, tt); acts = refl }
act_adds w past (Fence v) own = record { added = Fence v ∷ []; is = refl; own = (cc, tt); acts = refl }
act_adds w past other own = absurd cc

effect_adds : (w : ℕ) (past effect : List Mark) → IsUpToOneEffect effect → Adds w past (effect ++ past) 0
effect_adds w past [] one = adds_none w past
effect_adds w past (Effect v n ∷ []) one = record { added = Effect v n ∷ []; is = refl; own = (tt, tt); acts = refl }
effect_adds w past other one = absurd one

end_adds : (w : ℕ) (past ending : List Mark) → IsUpToOneEnd w ending → Adds w past (ending ++ past) 0
end_adds w past [] one = adds_none w past
end_adds w past (End v n reply at ∷ []) one = record { added = End v n reply at ∷ []; is = refl; own = (one, tt); acts = refl }
end_adds w past other one = absurd one

step_adds : (w : ℕ) (past new : List Mark) → IsStep w past new → Adds w past new 1
step_adds w past new step =
    let act = act_adds w past step.act step.own in
    let effect = effect_adds w (step.act ∷ past) step.effect step.one_effect in
    let ending = end_adds w (step.effect ++ step.act ∷ past) step.ending step.one_end in
    rw step.is (adds_both w _ _ _ 1 0 (adds_both w _ _ _ 1 0 act effect) ending)

-- a turn adds one act
pub turn_adds : (w : ℕ) (old new : Point) → IsTurn w old new → Adds w old.past new.past 1
turn_adds w old new turn =
    adds_both w _ _ _ 0 1 (ready_adds w (is_some (open_call w old.past)) (calls_of w old.queue) old) (step_adds w _ new.past turn.step.0)

nothing_done : (w count : ℕ) (old new : Point) → new ≡ old → (0 < count → is_busy w old ≡ false) → KeepsWord w count old new
nothing_done w count old new is idle = rw is (record { acts = 0; adds = adds_none w old.past; few = omega arith; fewer = idle })

-- a turn word keeps to its line
pub words-are-kept : WordsAreKept
words-are-kept w zero old new is = nothing_done w 0 old new is (λ h. absurd (omega arith))
words-are-kept w (suc count) old new (inl rest) = nothing_done w (suc count) old new rest.1 (λ h. rest.0)
words-are-kept w (suc count) old new (inr some) =
    let more = words-are-kept w count some.0 new some.2 in
    record {
      acts = 1 + more.acts;
      adds = adds_both w _ _ _ 1 more.acts (turn_adds w old some.0 some.1) more.adds;
      few = omega (arith, more.few);
      fewer = λ h. more.fewer (omega arith);
    }
