-- An open call that took effect, or finds something spent, is answered rightly.
use Rattle.std.proofs.Common.{◌≡◌, ◌<◌, ℕ, ◌==◌, suc, Bool, true, false, List, [], ◌∷◌, length, refl, sym, subst, arith, Option, Some, None}
use Rattle.std.specs.Prelude.{if◌then◌else◌, option_map}
use Rattle.bz_layout.specs.declared.config.Config.{Config}
use Rattle.bz_call.specs.Map.{apply}
use Rattle.bz_call.specs.declared.calls.Call.{Call}
use Rattle.bz_call.specs.declared.replies.Reply.{Reply}
use Rattle.bz_call.specs.declared.replies.Reply.TheVariants.{Full}
use Rattle.bz_call.specs.declared.replies.Spent.{Spent}
use Rattle.bz_mark.specs.Log.{Log}
use Rattle.bz_mark.specs.declared.marks.Mark.{Mark}
use Rattle.bz_mark.specs.declared.marks.Mark.TheVariants.{Begin, End, Cut, Effect}
use Rattle.bz_sound.proofs.CallLaws.{began_before}
use Rattle.bz_sound.specs.Calls.{Open, open_call, map_at, with_effect}
use Rattle.bz_sound.specs.Memory.ImageLaws.{EffectsAnswer, SpentAnswersFull}
use Rattle.bz_sound.specs.Memory.Moments.{map_at_start}
use Rattle.bz_sound.specs.Memory.Replies.{IsWrite, IsAnswerBy, IsRightReplyBy}
use Rattle.bz_sound.specs.Memory.Spent.{IsSpent}

-- an effect lies between the Begin of its call and now
pub record IsInside (now : ℕ) (opened : Open) (at : ℕ) : Type 0 where
  pub after_begin : opened.begun < at
  pub before_now : at < now

later : (now : ℕ) (opened : Open) (at : ℕ) → IsInside now opened at → IsInside (suc now) opened at
later now opened at h = record { after_begin = h.after_begin; before_now = omega (arith, h.before_now) }

begin-inside : (b : Bool) (n now : ℕ) (call : Call) (rest : Option Open) (opened : Open) (at : ℕ)
    → (if b then Some (record { number = n; call = call; begun = now; effect = None }) else rest) ≡ Some opened → opened.effect ≡ Some at
    → (rest ≡ Some opened → IsInside now opened at) → IsInside (suc now) opened at
begin-inside true n now call rest opened at is took before =
    let none : None ≡ opened.effect = cc in absurd (cc)
begin-inside false n now call rest opened at is took before = later now opened at (before is)

end-inside : (b : Bool) (now : ℕ) (rest : Option Open) (opened : Open) (at : ℕ) → (if b then None else rest) ≡ Some opened
    → (rest ≡ Some opened → IsInside now opened at) → IsInside (suc now) opened at
end-inside true now rest opened at is before = absurd (cc)
end-inside false now rest opened at is before = later now opened at (before is)

effect-inside : (b : Bool) (now : ℕ) (rest : Option Open) (opened : Open) (at : ℕ) → (if b then option_map (with_effect now) rest else rest) ≡ Some opened → opened.effect ≡ Some at
    → ((other : Open) → rest ≡ Some other → other.begun < now) → (rest ≡ Some opened → IsInside now opened at) → IsInside (suc now) opened at
effect-inside true now None opened at is took began before = absurd (cc)
effect-inside true now (Some other) opened at is took began before =
    let begun : other.begun ≡ opened.begun = cc in
    let effect : Some now ≡ opened.effect = cc in
    let moment : now ≡ at = cc in
    record { after_begin = omega (arith, began other refl); before_now = omega arith }
effect-inside false now rest opened at is took began before = later now opened at (before is)

-- the effect of an open call
pub inside : (w : ℕ) (past : List Mark) (opened : Open) (at : ℕ) → open_call w past ≡ Some opened → opened.effect ≡ Some at → IsInside (length past) opened at
inside w [] opened at is took = absurd (cc)
inside w (Begin v n call ∷ past) opened at is took = begin-inside (v == w) n (length past) call (open_call w past) opened at is took (λ here. inside w past opened at here took)
inside w (End v n reply moment ∷ past) opened at is took = end-inside (v == w) (length past) (open_call w past) opened at is (λ here. inside w past opened at here took)
inside w (Effect v n ∷ past) opened at is took =
    effect-inside (v == w) (length past) (open_call w past) opened at is took (λ other here. began_before w past other here) (λ here. inside w past opened at here took)
inside w (Cut ∷ past) opened at is took = absurd (cc)
inside w (mark ∷ past) opened at is took = later (length past) opened at (inside w past opened at is took)

-- whatever causes a Full, an Effect answers
pub effect-answers : (Cause : Spent → Type 0) (c : Config) (log : Log) (w at : ℕ) (opened : Open) (reply : Reply) → open_call w log.past ≡ Some opened → opened.effect ≡ Some at
    → (apply (map_at (map_at_start c log.start) at log.past) opened.call).reply ≡ Some reply
    → IsRightReplyBy Cause c log.start log.pages log.past (record { worker = w; opened = opened; reply = reply; at = at })
effect-answers Cause c log w at opened reply is took answers =
    let h : IsInside (length log.past) opened at = inside w log.past opened at is took in
    record {
      after_begin = h.after_begin;
      before_end = omega (arith, h.before_now);
      right = subst (λ (effect : Option ℕ). IsAnswerBy Cause c log.start log.pages log.past (record { worker = w; opened = opened; reply = reply; at = at }) effect reply) (sym took)
          (record { moment = refl; answers = answers });
    }

-- and each cause answers a Full
pub cause-answers : (Cause : Spent → Type 0) (c : Config) (log : Log) (w : ℕ) (opened : Open) (spent : Spent) → open_call w log.past ≡ Some opened → opened.effect ≡ None → IsWrite opened.call → Cause spent
    → IsRightReplyBy Cause c log.start log.pages log.past (record { worker = w; opened = opened; reply = Full spent; at = length log.past })
cause-answers Cause c log w opened spent is quiet writes cause = record {
  after_begin = began_before w log.past opened is;
  before_end = omega arith;
  right = subst
      (λ (effect : Option ℕ). IsAnswerBy Cause c log.start log.pages log.past (record { worker = w; opened = opened; reply = Full spent; at = length log.past }) effect (Full spent))
      (sym quiet) (record { now = refl; writes = writes; cause = cause });
}

pub effects-answer : EffectsAnswer
effects-answer c log w at opened reply is took answers = effect-answers (IsSpent c log.start log.past w opened) c log w at opened reply is took answers

pub spent-answers : SpentAnswersFull
spent-answers c log w opened spent is quiet writes cause = cause-answers (IsSpent c log.start log.past w opened) c log w opened spent is quiet writes cause
