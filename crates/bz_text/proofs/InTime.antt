-- The calls of a report stand in the order of their moments: those of a part lie between its cuts, and are sorted.
use Rattle.std.proofs.Common.{◌≡◌, ◌≤◌, ◌<◌, ℕ, suc, Bool, true, false, List, [], ◌∷◌, ◌++◌, length, refl, arith, ◌==◌, Option, Some, None}
use Rattle.std.specs.Prelude.{nat_le, if◌then◌else◌, option_map}
use Rattle.std.proofs.lemmas.Bool.Decides.{nat_tests}
use Rattle.bz_call.specs.declared.calls.Call.{Call}
use Rattle.bz_call.specs.declared.replies.Reply.{Reply}
use Rattle.bz_layout.specs.declared.config.Config.{Config}
use Rattle.bz_mark.specs.declared.marks.Mark.{Mark}
use Rattle.bz_mark.specs.declared.marks.Mark.TheVariants.{Begin, End, Cut, Effect}
use Rattle.bz_sound.specs.Calls.{Open, open_call, with_effect, MayEnd}
use Rattle.bz_sound.specs.Memory.Moments.{EachMark, map_at_start}
use Rattle.bz_sound.specs.Power.Calls.{CallsOnce}
use Rattle.bz_sound.specs.Power.Replies.{IsRightReply, HasRightReply, RepliesAreRight}
use Rattle.bz_sound.specs.Replies.{Pages}
use Rattle.bz_mark.specs.declared.power.Power.{Power}
use Rattle.bz_text.specs.Report.{ended_by, ended_calls, rank, put, in_order}
use Rattle.bz_text.specs.RightLines.{calls_before}
use Rattle.bz_text.specs.InTime.{NoneBefore, AreInTime, EndsByWorker, ReportsAreInTime}
use Rattle.bz_text.specs.declared.ended.EndedCall.{EndedCall}

-- a call of a worker that is a byte, which happened between two moments
record LiesIn (from to : ℕ) (ended : EndedCall) : Type 0 where
  after : from ≤ ended.at
  before : ended.at ≤ to
  worker : ended.worker < 256

abbrev LieIn : ℕ → ℕ → List EndedCall → Type 0
LieIn from to [] = Unit {0}
LieIn from to (ended ∷ calls) = LiesIn from to ended × LieIn from to calls

wider : (from to more : ℕ) (calls : List EndedCall) → to ≤ more → LieIn from to calls → LieIn from more calls
wider from to more [] le h = tt
wider from to more (ended ∷ calls) le h = (record { after = h.0.after; before = omega (arith, h.0.before); worker = h.0.worker }, wider from to more calls le h.1)

both : (from to : ℕ) (calls more : List EndedCall) → LieIn from to calls → LieIn from to more → LieIn from to (calls ++ more)
both from to [] more h k = k
both from to (ended ∷ calls) more h k = (h.0, both from to calls more h.1 k)

put_lies : (from to : ℕ) (one : EndedCall) (calls : List EndedCall) → LiesIn from to one → LieIn from to calls → LieIn from to (put one calls)
put_lies from to one [] h k = (h, tt)
put_lies from to one (other ∷ calls) h k = elim (nat_le (rank one) (rank other)) as (λ b. LieIn from to (if b then one ∷ other ∷ calls else other ∷ put one calls)) [
  | true ↦ (h, k)
  | false ↦ (k.0, put_lies from to one calls h k.1)
]

in_order_lies : (from to : ℕ) (calls : List EndedCall) → LieIn from to calls → LieIn from to (in_order calls)
in_order_lies from to [] h = tt
in_order_lies from to (one ∷ calls) h = put_lies from to one (in_order calls) h.0 (in_order_lies from to calls h.1)

none_before : (less moment : ℕ) (calls : List EndedCall) → less ≤ moment → NoneBefore moment calls → NoneBefore less calls
none_before less moment [] le h = tt
none_before less moment (ended ∷ calls) le h = (omega (arith, h.0), none_before less moment calls le h.1)

none_from : (from to : ℕ) (calls : List EndedCall) → LieIn from to calls → NoneBefore from calls
none_from from to [] h = tt
none_from from to (ended ∷ calls) h = (h.0.after, none_from from to calls h.1)

-- a call of no greater rank happened no later
by_rank : (one other : EndedCall) → one.worker < 256 → other.worker < 256 → rank one ≤ rank other → one.at ≤ other.at
by_rank one other mine its le = omega arith

put_none_before : (moment : ℕ) (one : EndedCall) (calls : List EndedCall) → moment ≤ one.at → NoneBefore moment calls → NoneBefore moment (put one calls)
put_none_before moment one [] le h = (le, tt)
put_none_before moment one (other ∷ calls) le h = elim (nat_le (rank one) (rank other)) as (λ b. NoneBefore moment (if b then one ∷ other ∷ calls else other ∷ put one calls)) [
  | true ↦ (le, h)
  | false ↦ (h.0, put_none_before moment one calls le h.1)
]

put_one : (b : Bool) (one other : EndedCall) (calls : List EndedCall) → nat_le (rank one) (rank other) ≡ b → one.worker < 256 → other.worker < 256
    → AreInTime (other ∷ calls) → AreInTime (put one calls) → AreInTime (if b then one ∷ other ∷ calls else other ∷ put one calls)
put_one true one other calls is mine its h rest =
    let le : one.at ≤ other.at = by_rank one other mine its (grind (arith, nat_tests)) in
    ((le, none_before one.at other.at calls le h.0), h)
put_one false one other calls is mine its h rest =
    let le : other.at ≤ one.at = by_rank other one its mine (grind (arith, nat_tests)) in
    (put_none_before other.at one calls le h.0, rest)

put_in_time : (from to : ℕ) (one : EndedCall) (calls : List EndedCall) → LiesIn from to one → LieIn from to calls → AreInTime calls → AreInTime (put one calls)
put_in_time from to one [] o l h = (tt, tt)
put_in_time from to one (other ∷ calls) o l h = put_one (nat_le (rank one) (rank other)) one other calls refl o.worker l.0.worker h (put_in_time from to one calls o l.1 h.1)

in_order_in_time : (from to : ℕ) (calls : List EndedCall) → LieIn from to calls → AreInTime (in_order calls)
in_order_in_time from to [] l = tt
in_order_in_time from to (one ∷ calls) l = put_in_time from to one (in_order calls) l.0 (in_order_lies from to calls l.1) (in_order_in_time from to calls l.1)

-- calls up to a moment, and then calls from it on
before_these : (moment to : ℕ) (ended : EndedCall) (calls more : List EndedCall) → NoneBefore ended.at calls → ended.at ≤ moment → LieIn moment to more → NoneBefore ended.at (calls ++ more)
before_these moment to ended [] more h le k = none_before ended.at moment more le (none_from moment to more k)
before_these moment to ended (other ∷ calls) more h le k = (h.0, before_these moment to ended calls more h.1 le k)

one_after_the_other : (from moment to : ℕ) (calls more : List EndedCall) → LieIn from moment calls → LieIn moment to more → AreInTime calls → AreInTime more → AreInTime (calls ++ more)
one_after_the_other from moment to [] more l k h g = g
one_after_the_other from moment to (ended ∷ calls) more l k h g = (before_these moment to ended calls more h.0 l.0.before k, one_after_the_other from moment to calls more l.1 k h.1 g)

-- the moment directly after the last cut
last_cut : List Mark → ℕ
last_cut [] = 0
last_cut (Cut ∷ past) = suc (length past)
last_cut (mark ∷ past) = last_cut past

cut_by_now : (past : List Mark) → last_cut past ≤ length past
unfolding last_cut
cut_by_now [] = omega arith
cut_by_now (Cut ∷ past) = omega arith
cut_by_now (mark ∷ past) = omega (arith, cut_by_now past)

begun_one : (b : Bool) (n now cut : ℕ) (call : Call) (rest : Option Open) (opened : Open) → cut ≤ now → (if b then Some (record { number = n; call = call; begun = now; effect = None }) else rest) ≡ Some opened
    → (rest ≡ Some opened → cut ≤ opened.begun) → cut ≤ opened.begun
begun_one true n now cut call rest opened le is before = let same : now ≡ opened.begun = cc in omega arith
begun_one false n now cut call rest opened le is before = before is

ended_one : (b : Bool) (cut : ℕ) (rest : Option Open) (opened : Open) → (if b then None else rest) ≡ Some opened → (rest ≡ Some opened → cut ≤ opened.begun) → cut ≤ opened.begun
ended_one true cut rest opened is before = absurd (cc is)
ended_one false cut rest opened is before = before is

effect_one : (b : Bool) (now cut : ℕ) (rest : Option Open) (opened : Open) → (if b then option_map (with_effect now) rest else rest) ≡ Some opened → ((other : Open) → rest ≡ Some other → cut ≤ other.begun) → cut ≤ opened.begun
effect_one true now cut None opened is before = absurd (cc is)
effect_one true now cut (Some other) opened is before = let same : other.begun ≡ opened.begun = cc in omega (arith, before other refl)
effect_one false now cut rest opened is before = before opened is

-- an open call has begun since the last cut
begun_since : (w : ℕ) (past : List Mark) (opened : Open) → open_call w past ≡ Some opened → last_cut past ≤ opened.begun
unfolding last_cut
begun_since w [] opened is = absurd (cc is)
begun_since w (Begin v n call ∷ past) opened is = begun_one (v == w) n (length past) (last_cut past) call (open_call w past) opened (cut_by_now past) is (begun_since w past opened)
begun_since w (End v n reply at ∷ past) opened is = ended_one (v == w) (last_cut past) (open_call w past) opened is (begun_since w past opened)
begun_since w (Effect v n ∷ past) opened is = effect_one (v == w) (length past) (last_cut past) (open_call w past) opened is (begun_since w past)
begun_since w (Cut ∷ past) opened is = absurd (cc is)
begun_since w (mark ∷ past) opened is = begun_since w past opened is

module _ (c : Config) (start : List ℕ) (pages : Pages) where
  of_end : (past : List Mark) (w n at : ℕ) (reply : Reply) → w < 256 → MayEnd past w n → HasRightReply c start pages past (End w n reply at) → LieIn (last_cut past) (suc (length past)) (ended_by w reply at (open_call w past))
  of_end past w n at reply small may right =
      let told : IsRightReply c start pages past (record { worker = w; opened = may.opened; reply = reply; at = at }) = rw may.is_open at right in
      let since : last_cut past ≤ may.opened.begun = begun_since w past may.opened may.is_open in
      let begun : may.opened.begun < at = told.after_begin in
      let ended : at ≤ length past = told.before_end in
      rw may.is_open (record { after = omega arith; before = omega arith; worker = small }, tt)

  ended_lie : (at_start : Power) (past : List Mark) → CallsOnce at_start (map_at_start c start) past → RepliesAreRight c start pages past → EachMark EndsByWorker past → LieIn (last_cut past) (length past) (ended_calls past)
  unfolding last_cut
  ended_lie at_start [] once right small = tt
  ended_lie at_start (Cut ∷ past) once right small = tt
  ended_lie at_start (End w n reply at ∷ past) once right small =
      both (last_cut past) (suc (length past)) (ended_calls past) (ended_by w reply at (open_call w past))
      (wider (last_cut past) (length past) (suc (length past)) (ended_calls past) (omega arith) (ended_lie at_start past once.1 right.1 small.1)) (of_end past w n at reply small.0 once.0 right.0)
  ended_lie at_start (mark ∷ past) once right small = wider (last_cut past) (length past) (suc (length past)) (ended_calls past) (omega arith) (ended_lie at_start past once.1 right.1 small.1)

  part_lies : (at_start : Power) (past : List Mark) → CallsOnce at_start (map_at_start c start) past → RepliesAreRight c start pages past → EachMark EndsByWorker past → LieIn (last_cut past) (length past) (in_order (ended_calls past))
  part_lies at_start past once right small = in_order_lies (last_cut past) (length past) (ended_calls past) (ended_lie at_start past once right small)

  part_in_time : (at_start : Power) (past : List Mark) → CallsOnce at_start (map_at_start c start) past → RepliesAreRight c start pages past → EachMark EndsByWorker past → AreInTime (in_order (ended_calls past))
  part_in_time at_start past once right small = in_order_in_time (last_cut past) (length past) (ended_calls past) (ended_lie at_start past once right small)

  from_start : (from to : ℕ) (calls : List EndedCall) → LieIn from to calls → LieIn 0 to calls
  from_start from to [] h = tt
  from_start from to (ended ∷ calls) h = (record { after = omega arith; before = h.0.before; worker = h.0.worker }, from_start from to calls h.1)

  before_lie : (at_start : Power) (past : List Mark) → CallsOnce at_start (map_at_start c start) past → RepliesAreRight c start pages past → EachMark EndsByWorker past → LieIn 0 (last_cut past) (calls_before past)
  unfolding last_cut
  before_lie at_start [] once right small = tt
  before_lie at_start (Cut ∷ past) once right small =
      both 0 (suc (length past)) (calls_before past) (in_order (ended_calls past))
      (wider 0 (last_cut past) (suc (length past)) (calls_before past) (omega (arith, cut_by_now past)) (before_lie at_start past once.1 right.1 small.1))
      (wider 0 (length past) (suc (length past)) (in_order (ended_calls past)) (omega arith) (from_start (last_cut past) (length past) (in_order (ended_calls past)) (part_lies at_start past once.1 right.1 small.1)))
  before_lie at_start (mark ∷ past) once right small = before_lie at_start past once.1 right.1 small.1

  parts_in_time : (at_start : Power) (past : List Mark) → CallsOnce at_start (map_at_start c start) past → RepliesAreRight c start pages past → EachMark EndsByWorker past → AreInTime (calls_before past)
      → AreInTime (calls_before past ++ in_order (ended_calls past))
  parts_in_time at_start past once right small before =
      one_after_the_other 0 (last_cut past) (length past) (calls_before past) (in_order (ended_calls past)) (before_lie at_start past once right small) (part_lies at_start past once right small) before (part_in_time at_start past once right small)

  before_in_time : (at_start : Power) (past : List Mark) → CallsOnce at_start (map_at_start c start) past → RepliesAreRight c start pages past → EachMark EndsByWorker past → AreInTime (calls_before past)
  before_in_time at_start [] once right small = tt
  before_in_time at_start (Cut ∷ past) once right small = parts_in_time at_start past once.1 right.1 small.1 (before_in_time at_start past once.1 right.1 small.1)
  before_in_time at_start (mark ∷ past) once right small = before_in_time at_start past once.1 right.1 small.1

pub reports-are-in-time : ReportsAreInTime
reports-are-in-time c at_start log sound small =
    parts_in_time c log.start log.pages at_start log.past sound.once sound.replies small (before_in_time c log.start log.pages at_start log.past sound.once sound.replies small)
