-- What a sound journal tells of its calls.
use Rattle.std.proofs.Common.{◌≡◌, ◌≤◌, ◌<◌, ℕ, ◌+◌, ◌==◌, Bool, true, false, List, [], ◌∷◌, length, refl, sym, ap, ◌∙◌, arith, Option, Some, None}
use Rattle.std.specs.Prelude.{if◌then◌else◌, option_map}
use Rattle.std.proofs.lemmas.Bool.Decides.{nat_tests}
use Rattle.bz_layout.specs.declared.config.Config.{Config}
use Rattle.bz_call.specs.Map.{Map}
use Rattle.bz_call.specs.declared.calls.Call.{Call}
use Rattle.bz_call.specs.declared.replies.Reply.{Reply}
use Rattle.bz_call.specs.declared.replies.Reply.TheVariants.{Full}
use Rattle.bz_call.specs.declared.replies.Spent.{Spent}
use Rattle.bz_mark.specs.Log.{Log}
use Rattle.bz_mark.specs.Moments.{at_moment, mark_at}
use Rattle.bz_mark.proofs.MomentLaws.{length-at_moment, mark_at-at_moment}
use Rattle.bz_mark.specs.declared.marks.Mark.{Mark}
use Rattle.bz_mark.specs.declared.marks.Mark.TheVariants.{Begin, End, Load, Store, Cas, Ask, Fence, Cut, Effect}
use Rattle.bz_sound.proofs.CallLaws.{began_before, has_begin}
use Rattle.bz_sound.specs.Calls.{Open, open_call, begun_calls, with_effect}
use Rattle.bz_sound.specs.Replies.{Pages}
use Rattle.bz_sound.specs.Memory.Calls.{MayFollow}
use Rattle.bz_sound.specs.Memory.CallLaws.{LiesWithin, IsLastCall, OpenCallsAreLast, ActsAreOfOpenCalls, EffectsComeDirectly, EndsLieWithinTheirCalls, FullHasACause}
use Rattle.bz_sound.specs.Memory.Moments.{map_at_start}
use Rattle.bz_sound.specs.Memory.Replies.{IsAnswerBy, IsRightReplyBy, HasRightReplyBy}
use Rattle.bz_sound.specs.Memory.Spent.{IsSpent}
use Rattle.bz_sound.proofs.Memory.Marks.{each-at}
use Rattle.bz_sound.proofs.Memory.NeverTold.{never-full}
use Rattle.bz_sound.proofs.Memory.Settled.{after-fence}
use Rattle.bz_sound.proofs.Memory.Standing.{MayStand, CallsStand, Stands, unbroken-stands}

pub effects-directly : EffectsComeDirectly
effects-directly c log moment w n sound h is = after-fence _ log.past moment w n (unbroken-stands c log sound).once h is

pub acts-of-open-calls : ActsAreOfOpenCalls
acts-of-open-calls c log moment w sound h = record {
  load = λ a v is. each-at (MayFollow (map_at_start c log.start)) log.past moment (Load w a v) sound.once h is;
  store = λ a v is. each-at (MayFollow (map_at_start c log.start)) log.past moment (Store w a v) sound.once h is;
  compare_and_swap = λ a old new found is. each-at (MayFollow (map_at_start c log.start)) log.past moment (Cas w a old new found) sound.once h is;
  ask = λ line is. each-at (MayFollow (map_at_start c log.start)) log.past moment (Ask w line) sound.once h is;
  fence = λ is. each-at (MayFollow (map_at_start c log.start)) log.past moment (Fence w) sound.once h is;
}

-- a Begin opens the worker's next call
begin-last : (b : Bool) (v w n : ℕ) (past : List Mark) (call : Call) (opened : Open) → (v == w) ≡ b → 1 ≤ v → n ≡ begun_calls v past + 1
    → (if b then Some (record { number = n; call = call; begun = length past; effect = None }) else open_call w past) ≡ Some opened
    → (open_call w past ≡ Some opened → IsLastCall past w opened) → (1 ≤ w) × (opened.number ≡ (if b then begun_calls w past + 1 else begun_calls w past))
begin-last true v w n past call opened same worker numbered is before =
    let worker_is : v ≡ w = grind (arith, nat_tests) in
    let fresh : n ≡ opened.number = cc in
    (rw worker_is at worker, sym fresh ∙ (rw worker_is at numbered))
begin-last false v w n past call opened same worker numbered is before = ((before is).worker, (before is).last)

end-last : (b : Bool) (w : ℕ) (past : List Mark) (opened : Open) → (if b then None else open_call w past) ≡ Some opened
    → (open_call w past ≡ Some opened → IsLastCall past w opened) → IsLastCall past w opened
end-last true w past opened is before = absurd (cc)
end-last false w past opened is before = before is

effect-last : (b : Bool) (w : ℕ) (past : List Mark) (rest : Option Open) (opened : Open) → (if b then option_map (with_effect (length past)) rest else rest) ≡ Some opened
    → ((other : Open) → rest ≡ Some other → IsLastCall past w other) → IsLastCall past w opened
effect-last true w past None opened is before = absurd (cc)
effect-last true w past (Some other) opened is before =
    let number : other.number ≡ opened.number = cc in
    record { worker = (before other refl).worker; last = sym number ∙ (before other refl).last }
effect-last false w past rest opened is before = before opened is

pub last-call : (start : Map) (past : List Mark) (w : ℕ) (opened : Open) → CallsStand start past → open_call w past ≡ Some opened → IsLastCall past w opened
last-call start [] w opened once is = absurd (cc)
last-call start (Begin v n call ∷ past) w opened once is =
    let last : (1 ≤ w) × (opened.number ≡ (if v == w then begun_calls w past + 1 else begun_calls w past)) = begin-last (v == w) v w n past call opened refl once.0.0 once.0.1.numbered is (last-call start past w opened once.1) in
    record { worker = last.0; last = last.1 }
last-call start (End v n reply at ∷ past) w opened once is =
    let last : IsLastCall past w opened = end-last (v == w) w past opened is (last-call start past w opened once.1) in
    record { worker = last.worker; last = last.last }
last-call start (Effect v n ∷ past) w opened once is =
    let last : IsLastCall past w opened = effect-last (v == w) w past (open_call w past) opened is (λ other here. last-call start past w other once.1 here) in
    record { worker = last.worker; last = last.last }
last-call start (Cut ∷ past) w opened once is = absurd (cc)
last-call start (mark ∷ past) w opened once is =
    let last : IsLastCall past w opened = last-call start past w opened once.1 is in
    record { worker = last.worker; last = last.last }

pub calls-are-last : OpenCallsAreLast
calls-are-last c log w opened sound is = last-call _ log.past w opened (unbroken-stands c log sound).once is

-- the call that an End ends, with its reply
pub record EndsCall (Cause : List Mark → ℕ → Open → Spent → Type 0) (c : Config) (start : List ℕ) (pages : Pages) (past : List Mark) (w n : ℕ) (reply : Reply) (at : ℕ) : Type 0 where
  pub opened : Open
  pub is_open : open_call w past ≡ Some opened
  pub number : opened.number ≡ n
  pub right : IsRightReplyBy (Cause past w opened) c start pages past (record { worker = w; opened = opened; reply = reply; at = at })

pub ended : (Cause : List Mark → ℕ → Open → Spent → Type 0) (c : Config) (log : Log) (moment w n at : ℕ) (reply : Reply) → Stands Cause c log → moment < length log.past
    → mark_at moment log.past ≡ Some (End w n reply at) → EndsCall Cause c log.start log.pages (at_moment moment log.past) w n reply at
ended Cause c log moment w n at reply stands h is =
    let may = each-at (MayStand (map_at_start c log.start)) log.past moment (End w n reply at) stands.once h is in
    let right = each-at (HasRightReplyBy Cause c log.start log.pages) log.past moment (End w n reply at) stands.replies h is in
    record { opened = may.opened; is_open = may.is_open; number = may.number; right = rw may.is_open at right }

-- the moment that an End names lies within its call
pub lies-within : (Cause : List Mark → ℕ → Open → Spent → Type 0) (c : Config) (log : Log) (moment w n at : ℕ) (reply : Reply) → Stands Cause c log → moment < length log.past
    → mark_at moment log.past ≡ Some (End w n reply at) → LiesWithin log.past w n at moment
lies-within Cause c log moment w n at reply stands h is =
    let e : EndsCall Cause c log.start log.pages (at_moment moment log.past) w n reply at = ended Cause c log moment w n at reply stands h is in
    let size : length (at_moment moment log.past) ≡ moment = length-at_moment moment log.past (omega arith) in
    let early : e.opened.begun < moment = omega (arith, size, began_before w (at_moment moment log.past) e.opened e.is_open) in
    record {
      call = e.opened.call;
      begun = e.opened.begun;
      begin = sym (mark_at-at_moment e.opened.begun moment log.past early (omega arith)) ∙ has_begin w (at_moment moment log.past) e.opened e.is_open
          ∙ ap (λ (number : ℕ). Some (Begin w number e.opened.call)) e.number;
      after_begin = e.right.after_begin;
      before_end = rw size at e.right.before_end;
    }

pub ends-within : EndsLieWithinTheirCalls
ends-within c log moment w n at reply sound h is = lies-within (IsSpent c log.start) c log moment w n at reply (unbroken-stands c log sound) h is

pub full-cause : (Cause : Spent → Type 0) (c : Config) (start : List ℕ) (pages : Pages) (past : List Mark) (w at : ℕ) (spent : Spent) (opened : Open) (effect : Option ℕ)
    → IsAnswerBy Cause c start pages past (record { worker = w; opened = opened; reply = Full spent; at = at }) effect (Full spent) → (effect ≡ None) × Cause spent
full-cause Cause c start pages past w at spent opened None full = (refl, full.cause)
full-cause Cause c start pages past w at spent opened (Some effect) full = absurd (never-full _ _ opened.call spent full.answers)

pub full-has-cause : FullHasACause
full-has-cause c log moment w n at spent sound h is =
    let e : EndsCall (IsSpent c log.start) c log.start log.pages (at_moment moment log.past) w n (Full spent) at = ended (IsSpent c log.start) c log moment w n at (Full spent) (unbroken-stands c log sound) h is in
    let cause = full-cause (IsSpent c log.start (at_moment moment log.past) w e.opened) c log.start log.pages (at_moment moment log.past) w at spent e.opened e.opened.effect e.right.right in
    record { opened = e.opened; is_open = e.is_open; quiet = cause.0; cause = cause.1 }
