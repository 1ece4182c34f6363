-- A call that tells of a key inserted or deleted took effect: a map that it leaves as it is does not answer so.
use Rattle.std.proofs.Common.{◌≡◌, ◌<◌, ℕ, ◌==◌, Bool, true, false, List, [], ◌∷◌, length, refl, sym, ap, ◌∙◌, subst, arith, Option, Some, None, cond}
use Rattle.std.specs.Prelude.{if◌then◌else◌, option_map, bytes_eq}
use Rattle.std.specs.FinMap.{get, insert, remove}
use Rattle.std.proofs.lemmas.Bool.Decides.{nat_tests}
use Rattle.std.proofs.lemmas.Slice.Eq.{bytes_eq-Decides}
use Rattle.bz_layout.specs.declared.config.Config.{Config}
use Rattle.bz_call.specs.Map.{Map, key_of, apply_at}
use Rattle.bz_call.specs.declared.calls.Call.{Call}
use Rattle.bz_call.specs.declared.calls.Call.TheVariants.{Insert, Delete, Update, Upsert, Get, Page}
use Rattle.bz_call.specs.declared.replies.Reply.{Reply}
use Rattle.bz_call.specs.declared.replies.Reply.TheVariants.{Inserted, Exists, Deleted, Updated, Missing, Value}
use Rattle.bz_call.specs.declared.replies.Spent.{Spent}
use Rattle.bz_mark.specs.Log.{Log}
use Rattle.bz_mark.specs.Moments.{at_moment, mark_at}
use Rattle.bz_mark.proofs.MomentLaws.{length-at_moment, mark_at-at_moment, mark_at-earlier, mark_at-newest}
use Rattle.bz_mark.specs.declared.marks.Mark.{Mark}
use Rattle.bz_mark.specs.declared.marks.Mark.TheVariants.{Begin, End, Cut, Effect}
use Rattle.bz_sound.specs.Calls.{Open, open_call, with_effect}
use Rattle.bz_sound.specs.Replies.{Pages, AnswersOnly}
use Rattle.bz_sound.specs.Memory.CallLaws.{TellsAChange, ToldChangesTookEffect}
use Rattle.bz_sound.specs.Memory.Moments.{map_at_start}
use Rattle.bz_sound.specs.Memory.Replies.{Answer, IsAnswerBy}
use Rattle.bz_sound.specs.Memory.Spent.{IsSpent}
use Rattle.bz_sound.proofs.Memory.Changed.{with-inserted, with-removed}
use Rattle.bz_sound.proofs.Memory.Marks.{each-before}
use Rattle.bz_sound.proofs.Memory.Standing.{MayStand, CallsStand, Stands, unbroken-stands}
use Rattle.bz_sound.proofs.Memory.Told.{EndsCall, ended}

-- the Effect of an open call
pub record HasEffect (past : List Mark) (w : ℕ) (opened : Open) (at : ℕ) : Type 0 where
  pub before_now : at < length past
  pub mark : mark_at at past ≡ Some (Effect w opened.number)

pub later : (mark : Mark) (past : List Mark) (w : ℕ) (opened : Open) (at : ℕ) → HasEffect past w opened at → HasEffect (mark ∷ past) w opened at
later mark past w opened at h = record { before_now = omega (arith, h.before_now); mark = mark_at-earlier at mark past h.before_now ∙ h.mark }

pub begin-effect : (b : Bool) (n now : ℕ) (call : Call) (rest : Option Open) (opened : Open) (at : ℕ)
    → (if b then Some (record { number = n; call = call; begun = now; effect = None }) else rest) ≡ Some opened → opened.effect ≡ Some at → rest ≡ Some opened
begin-effect true n now call rest opened at is took = let none : None ≡ opened.effect = cc in absurd (cc)
begin-effect false n now call rest opened at is took = is

pub end-effect : (b : Bool) (rest : Option Open) (opened : Open) → (if b then None else rest) ≡ Some opened → rest ≡ Some opened
end-effect true rest opened is = absurd (cc)
end-effect false rest opened is = is

pub own-effect : (b : Bool) (v w n : ℕ) (past : List Mark) (opened : Open) (at : ℕ) → (v == w) ≡ b → ((other : Open) → open_call v past ≡ Some other → other.number ≡ n)
    → (if b then option_map (with_effect (length past)) (open_call w past) else open_call w past) ≡ Some opened → opened.effect ≡ Some at
    → (open_call w past ≡ Some opened → HasEffect past w opened at) → HasEffect (Effect v n ∷ past) w opened at
own-effect true v w n past opened at same number is took before = go (open_call w past) refl is
  where
    worker : v ≡ w
    worker = grind (arith, nat_tests)

    go : (rest : Option Open) → open_call w past ≡ rest → option_map (with_effect (length past)) rest ≡ Some opened → HasEffect (Effect v n ∷ past) w opened at
    go None e made = absurd (cc)
    go (Some other) e made =
        let effect : Some (length past) ≡ opened.effect = cc in
        let now : length past ≡ at = cc in
        let numbered : other.number ≡ opened.number = cc in
        let named : n ≡ opened.number = sym (number other (ap (λ (u : ℕ). open_call u past) worker ∙ e)) ∙ numbered in
        record {
          before_now = omega arith;
          mark = subst (λ (k : ℕ). mark_at k (Effect v n ∷ past) ≡ Some (Effect w opened.number)) now
              (mark_at-newest (Effect v n) past ∙ ap (λ (u : ℕ). Some (Effect u n)) worker ∙ ap (λ (m : ℕ). Some (Effect w m)) named);
        }
own-effect false v w n past opened at same number is took before = later (Effect v n) past w opened at (before is)

pub same-number : (a b : Open) (v n : ℕ) (past : List Mark) → open_call v past ≡ Some a → a.number ≡ n → open_call v past ≡ Some b → b.number ≡ n
same-number a b v n past is number also = let same : a ≡ b = cc in subst (λ (o : Open). o.number ≡ n) same number

pub has-effect : (start : Map) (past : List Mark) (w : ℕ) (opened : Open) (at : ℕ) → CallsStand start past → open_call w past ≡ Some opened → opened.effect ≡ Some at → HasEffect past w opened at
has-effect start [] w opened at once is took = absurd (cc)
has-effect start (Begin v n call ∷ past) w opened at once is took =
    later (Begin v n call) past w opened at (has-effect start past w opened at once.1 (begin-effect (v == w) n (length past) call (open_call w past) opened at is took) took)
has-effect start (End v n reply moment ∷ past) w opened at once is took =
    later (End v n reply moment) past w opened at (has-effect start past w opened at once.1 (end-effect (v == w) (open_call w past) opened is) took)
has-effect start (Effect v n ∷ past) w opened at once is took =
    own-effect (v == w) v w n past opened at refl (λ other here. same-number once.0.1.opened other v n past once.0.1.is_open once.0.1.number here) is took
    (λ here. has-effect start past w opened at once.1 here took)
has-effect start (Cut ∷ past) w opened at once is took = absurd (cc)
has-effect start (mark ∷ past) w opened at once is took = later mark past w opened at (has-effect start past w opened at once.1 is took)

-- a map that has what was put into it is another one
not-inserted : (map : Map) (key payload : List ℕ) → get map key ≡ None → insert map key payload ≡ map → ⊥
not-inserted map key payload was same =
    let gets : get (insert map key payload) key ≡ (if bytes_eq key key then Some payload else get map key) = (with-inserted map key payload (Some payload) refl).gets key in
    let own : bytes_eq key key ≡ true = (bytes_eq-Decides key key).1 refl in
    let found : get (insert map key payload) key ≡ Some payload = gets ∙ ap (λ (b : Bool). cond b (Some payload) (get map key)) own in
    let found_none : get (insert map key payload) key ≡ None = ap (λ (m : Map). get m key) same ∙ was in
    cc

not-removed : (map : Map) (key had : List ℕ) → get map key ≡ Some had → remove map key ≡ map → ⊥
not-removed map key had was same =
    let gets : get (remove map key) key ≡ (if bytes_eq key key then None else get map key) = (with-removed map key None refl).gets key in
    let own : bytes_eq key key ≡ true = (bytes_eq-Decides key key).1 refl in
    let found : get (remove map key) key ≡ None = gets ∙ ap (λ (b : Bool). cond b None (get map key)) own in
    let found_one : get (remove map key) key ≡ Some had = ap (λ (m : Map). get m key) same ∙ was in
    cc

not-that : (given reply : Reply) → Some given ≡ Some reply → TellsAChange reply → TellsAChange given
not-that given reply is told = let same : given ≡ reply = cc in subst TellsAChange (sym same) told

-- so a call that leaves the map as it is tells of no change
not-told : (map : Map) (call : Call) (found : Option (List ℕ)) (reply : Reply) → get map (key_of call) ≡ found → (apply_at found map call).reply ≡ Some reply
    → (apply_at found map call).map ≡ map → TellsAChange reply → ⊥
not-told map (Insert key payload) None reply was is stays told = not-inserted map key payload was stays
not-told map (Insert key payload) (Some had) reply was is stays told = not-that Exists reply is told
not-told map (Delete key) None reply was is stays told = not-that Missing reply is told
not-told map (Delete key) (Some had) reply was is stays told = not-removed map key had was stays
not-told map (Update key payload) None reply was is stays told = not-that Missing reply is told
not-told map (Update key payload) (Some had) reply was is stays told = not-that (Updated had) reply is told
not-told map (Upsert key payload) None reply was is stays told = not-inserted map key payload was stays
not-told map (Upsert key payload) (Some had) reply was is stays told = not-that (Updated had) reply is told
not-told map (Get key) None reply was is stays told = not-that Missing reply is told
not-told map (Get key) (Some had) reply was is stays told = not-that (Value had) reply is told
not-told map (Page key) found reply was is stays told = cc

quiet-not-told : (map : Map) (call : Call) (reply : Reply) → AnswersOnly map call reply → TellsAChange reply → ⊥
quiet-not-told map call reply h told = not-told map call (get map (key_of call)) reply refl h.answers h.stays told

-- an answer that tells a change is one of an effect
told-effect : (Cause : Spent → Type 0) (c : Config) (start : List ℕ) (pages : Pages) (past : List Mark) (answer : Answer) (effect : Option ℕ) (reply : Reply) → answer.reply ≡ reply → TellsAChange reply
    → IsAnswerBy Cause c start pages past answer effect reply → effect ≡ Some answer.at
told-effect Cause c start pages past answer (Some effect) reply same told h = ap Some (sym h.moment)
told-effect Cause c start pages past answer None Inserted same told h = absurd (quiet-not-told _ _ _ h.answers (subst TellsAChange (sym same) told))
told-effect Cause c start pages past answer None (Deleted had) same told h = absurd (quiet-not-told _ _ _ h.answers (subst TellsAChange (sym same) told))
told-effect Cause c start pages past answer None reply same told h = absurd told

pub told-took : (Cause : List Mark → ℕ → Open → Spent → Type 0) (c : Config) (log : Log) (moment w n at : ℕ) (reply : Reply) → Stands Cause c log → moment < length log.past
    → mark_at moment log.past ≡ Some (End w n reply at) → TellsAChange reply → mark_at at log.past ≡ Some (Effect w n)
told-took Cause c log moment w n at reply stands h is told =
    let e : EndsCall Cause c log.start log.pages (at_moment moment log.past) w n reply at = ended Cause c log moment w n at reply stands h is in
    let size : length (at_moment moment log.past) ≡ moment = length-at_moment moment log.past (omega arith) in
    let took : e.opened.effect ≡ Some at = told-effect (Cause (at_moment moment log.past) w e.opened) c log.start log.pages (at_moment moment log.past) (record { worker = w; opened = e.opened; reply = reply; at = at }) e.opened.effect reply refl told e.right.right in
    let effect : HasEffect (at_moment moment log.past) w e.opened at =
    has-effect (map_at_start c log.start) (at_moment moment log.past) w e.opened at (each-before (MayStand (map_at_start c log.start)) moment log.past stands.once) e.is_open took in
    sym (mark_at-at_moment at moment log.past (omega (arith, effect.before_now)) (omega arith)) ∙ effect.mark ∙ ap (λ (number : ℕ). Some (Effect w number)) e.number

pub told-took-effect : ToldChangesTookEffect
told-took-effect c log moment w n at reply sound h is told = told-took (IsSpent c log.start) c log moment w n at reply (unbroken-stands c log sound) h is told
