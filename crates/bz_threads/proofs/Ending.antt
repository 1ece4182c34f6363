-- How a run on threads ends, once its index is closed.
use Rattle.std.proofs.Common.{◌≡◌, ◌≢◌, ◌<◌, ◌≤◌, ◌⊎◌, inl, inr, ⊎_elim, ℕ, ◌+◌, ◌==◌, Bool, true, false, List, [], ◌∷◌, ◌++◌, drop, refl, sym, ap, subst, ◌∙◌, arith, eqb-true, Option, Some, None}
use borrow.Author.Tests.{eqb-false}
use Rattle.std.specs.Prelude.{if◌then◌else◌, is_some}
use Rattle.std.proofs.lemmas.Bool.{cases_lt}
use Rattle.bz_call.specs.declared.calls.Call.{Call}
use Rattle.bz_index.specs.Entries.{has_page, told, entries_in, origin_of, marks_in}
use Rattle.bz_index.specs.Passes.{origin_in, seen_by}
use Rattle.bz_index.specs.declared.answer.Answer.TheVariants as answer
use Rattle.bz_index.specs.declared.index.Index.{Index}
use Rattle.bz_index.specs.declared.index.IndexPass.{IndexPass}
use Rattle.bz_index.specs.declared.shared.IndexEntry.{IndexEntry}
use Rattle.bz_index.specs.declared.shared.Origin.{Origin}
use Rattle.bz_layout.specs.declared.limits.TheConstants.{MAX_WORKERS}
use Rattle.bz_mark.specs.Log.{Limits}
use Rattle.bz_mark.specs.declared.marks.Mark.{Mark}
use Rattle.bz_sched.specs.AtLimit.{MeetsLimit}
use Rattle.bz_sched.specs.Points.{Point, is_busy}
use Rattle.bz_sched.specs.Queued.{Queued, calls_of, is_busy_by}
use Rattle.bz_sched.specs.Runs.{point_of, Stays, HasEndedCalls}
use Rattle.bz_sched.specs.Together.{AreOfCalls, begun_in, Mingles, StandsAt, HasMet, MeetsTogether, RunsThreads, RunsThreadsUpTo}
use Rattle.bz_sound.specs.Calls.{Open, open_call}
use Rattle.bz_mark.specs.Times.{power_of}
use Rattle.bz_sound.specs.Replies.{Pages}
use Rattle.bz_mark.specs.declared.power.Power.TheVariants as power
use Rattle.bz_threads.proofs.Fates.{limits_of, HasMetThen, Stopped, IsLeft, of_calls, begun_none, fate_leaves}
use Rattle.bz_threads.proofs.Grown.{Grown, grown_both, ends_grow}
use Rattle.bz_threads.proofs.Owns.{marks-append, power_quiet}
use Rattle.bz_threads.proofs.Queues.{collected}
use Rattle.bz_threads.specs.Ends.{HasRunThreads}
use Rattle.bz_threads.specs.Inside.Batches.{paired, MetNone, IsAbove, IsBack, IsLowest, IsJoined}
use Rattle.bz_threads.specs.Inside.Runs.{HasRunOn}
use Rattle.bz_threads.specs.declared.running.ThreadsEnd.{ThreadsEnd}
use Rattle.bz_threads.specs.declared.running.ThreadsEnd.TheVariants as end
use Rattle.bz_index.specs.FromWorld.WorldView.{WorldView, IsWorker, power_in}
use Rattle.bz_index.specs.FromWorld.LimitKind.{LimitKind}
use Rattle.bz_index.specs.FromWorld.LimitKind.TheVariants as which

marks-told : (past : List Mark) (pages : Pages) → marks_in (told past pages) ≡ past
marks-told [] pages = refl
marks-told (mark ∷ past) pages = ap (λ (marks : List Mark). mark ∷ marks) (marks-told past (if has_page mark then drop 1 pages else pages))

pub stays_both : (a b c : WorldView) → Stays a b → Stays b c → Stays a c
stays_both a b c p q = record { config = q.config ∙ p.config; at_start = q.at_start ∙ p.at_start; start = q.start ∙ p.start; limits = q.limits ∙ p.limits }

same_limits : (a b : Limits) → a.marks ≡ b.marks → a.calls ≡ b.calls → a.pages ≡ b.pages → a ≡ b
same_limits a b p q r = λ i. record { marks = p i; calls = q i; pages = r i }

same_world : (a b : WorldView) → origin_of b ≡ origin_of a → Stays a b
same_world a b is = record {
  config = ap (λ (o : Origin). o.config) is;
  at_start = ap (λ (o : Origin). o.at_start) is;
  start = ap (λ (o : Origin). o.start) is;
  limits = same_limits b.log.limits a.log.limits (ap (λ (o : Origin). o.marks) is) (ap (λ (o : Origin). o.calls) is) (ap (λ (o : Origin). o.pages) is);
}

idle_by : (opened : Option Open) (calls : List (ℕ × Call)) → opened ≡ None → calls ≡ [] → is_busy_by (is_some opened) calls ≡ false
idle_by opened calls none empty = rw (none, empty) refl

-- a world in which the open calls were ended, the index that was opened over it, and the world when it was closed
module _ (old mid new : WorldView) (queued behind left : Queued) (index : Index) (first now : IndexPass) (ends : HasEndedCalls old queued None mid behind) (origin : origin_in index ≡ origin_of mid) (seen : seen_by first ≡ entries_in mid.log)
    (closed : origin_of new ≡ origin_in index) (past : new.log.past ≡ marks_in (seen_by now)) where
  stays : Stays old new
  stays = stays_both old mid new ends.0.stays (same_world mid new (closed ∙ origin))

  past_first : marks_in (seen_by first) ≡ mid.log.past
  past_first = ap marks_in seen ∙ marks-told mid.log.past _

  -- no call was begun
  pub ended_only : seen_by now ≡ seen_by first → HasRunThreads old queued end.Memory new left
  ended_only same = (stays, (point_of mid behind, ends.3, sym (past ∙ ap marks_in same ∙ past_first)))

  module _ (others : (w : ℕ) → (IsWorker new.config w → ⊥) → open_call w new.log.past ≡ None) (lowest : Option (ℕ × LimitKind)) (j : IsJoined index behind.calls (seen_by first) now [] lowest) where
    abbrev added : List IndexEntry
    added = j.grown.0

    abbrev whole : List Mark
    whole = marks_in added ++ marks_in (seen_by first)

    whole_is : new.log.past ≡ whole
    whole_is = past ∙ ap marks_in j.grown.1 ∙ marks-append added (seen_by first)

    closed_first : (w : ℕ) → open_call w (marks_in (seen_by first)) ≡ None
    closed_first w = subst (λ (marks : List Mark). open_call w marks ≡ None) (sym past_first) (ends.2 w)

    on_first : power_of (origin_in index).at_start (marks_in (seen_by first)) ≡ power.On
    on_first = subst (λ (marks : List Mark). power_of (origin_in index).at_start marks ≡ power.On) (sym past_first)
        (subst (λ (o : Origin). power_of o.at_start mid.log.past ≡ power.On) (sym origin) ends.1)

    marks_of : AreOfCalls (marks_in added)
    marks_of = of_calls (origin_in index) 1 behind.calls (seen_by first) (seen_by now) added (omega arith) (omega arith) j.grown.1 j.quiet on_first (closed_first 1)

    none_else : (w : ℕ) → (w ≡ 0) ⊎ (MAX_WORKERS < w) → begun_in w (marks_in added) ≡ []
    none_else w none = begun_none (origin_in index) 1 behind.calls (seen_by first) (seen_by now) added (omega arith) (omega arith) j.grown.1 j.quiet on_first (closed_first 1) w (⊎_elim (λ zeroth. inl zeroth) (λ beyond. inr (omega (arith, beyond))) none)

    left_of : (w : ℕ) → 0 < w → w ≤ MAX_WORKERS → (back : IsBack index behind.calls (seen_by first) now lowest w) → IsLeft (origin_in index) w behind.calls (marks_in added) (marks_in (seen_by first)) back.met
    left_of w some most back = fate_leaves (origin_in index) w behind.calls (seen_by first) (seen_by now) added some (omega arith) j.grown.1 j.quiet on_first (closed_first w) back.met back.fate

    back_of : (w : ℕ) → 0 < w → w ≤ MAX_WORKERS → IsBack index behind.calls (seen_by first) now lowest w
    back_of w some most = ⊎_elim (λ none. absurd none) (λ back. back) (j.each w some most)

    on_now : power_in new ≡ power.On
    on_now =
        ap (power_of new.at_start) whole_is ∙ power_quiet new.at_start (marks_in added) (marks_in (seen_by first)) marks_of
        ∙ subst (λ (o : Origin). power_of o.at_start (marks_in (seen_by first)) ≡ power.On) (sym closed) on_first

    mingled : (queue : List (ℕ × Call)) → ((w : ℕ) → 1 ≤ w → w ≤ MAX_WORKERS → begun_in w (marks_in added) ++ calls_of w queue ≡ calls_of w behind.calls) → Mingles (point_of mid behind) (record { past = new.log.past; queue = queue })
    mingled queue begun = record {
      added = marks_in added;
      is = whole_is ∙ ap (λ (marks : List Mark). marks_in added ++ marks) past_first;
      of_calls = marks_of;
      begun = begun;
      others = none_else;
    }

    -- no call of a worker is open whose calls were all made, nor of one that is none
    open_none : (w : ℕ) → (0 < w → w ≤ MAX_WORKERS → open_call w whole ≡ None) → new.config.workers ≤ MAX_WORKERS → open_call w new.log.past ≡ None
    open_none w inside few = ⊎_elim
        (λ some. ⊎_elim
        (λ above. others w (λ worker. let most = worker.in_range in absurd (omega arith)))
        (λ most. subst (λ (marks : List Mark). open_call w marks ≡ None) (sym whole_is) (inside some most))
        (cases_lt MAX_WORKERS w))
        (λ none. others w (λ worker. let some = worker.some in absurd (omega arith)))
        (cases_lt 0 w)

    -- all calls were made
    module _ (all : lowest ≡ None) (few : new.config.workers ≤ MAX_WORKERS) (empty : left.calls ≡ []) where
      met_none : (w : ℕ) → (back : IsBack index behind.calls (seen_by first) now lowest w) → MetNone back.met
      met_none w back = subst (λ (low : Option (ℕ × LimitKind)). IsAbove low w back.met) all back.above

      none_at_end : (w : ℕ) → open_call w new.log.past ≡ None
      none_at_end w = open_none w (λ some most. let back = back_of w some most in ((left_of w some most back).idle (met_none w back)).0) few

      all_begun : (w : ℕ) → 1 ≤ w → w ≤ MAX_WORKERS → begun_in w (marks_in added) ++ calls_of w left.calls ≡ calls_of w behind.calls
      all_begun w some most =
          let back = back_of w (omega arith) most in
          let l = left_of w (omega arith) most back in
          ap (λ (xs : List (ℕ × Call)). begun_in w (marks_in added) ++ calls_of w xs) empty ∙ ap (λ (xs : List (ℕ × Call)). begun_in w (marks_in added) ++ xs) (sym (l.idle (met_none w back)).1) ∙ l.begun

      runs_whole : RunsThreads (point_of old queued) (point_of new left)
      runs_whole = (
        point_of mid behind,
        ends.3,
        record {
          mingles = mingled left.calls all_begun;
          idle = λ w. idle_by (open_call w new.log.past) (calls_of w left.calls) (none_at_end w) (ap (calls_of w) empty);
        },
      )

      pub ended_whole : queued.room ≤ left.room → HasRunThreads old queued end.Finished new left
      ended_whole room = (record { stays = stays; room = room }, on_now, (runs_whole, tt))

    -- a limit was met
    module _ (v : ℕ) (met : LimitKind) (low : lowest ≡ Some (v, met)) (few : new.config.workers ≤ MAX_WORKERS) where
      is_lowest : IsLowest index behind.calls (seen_by first) now (Some (v, met))
      is_lowest = subst (IsLowest index behind.calls (seen_by first) now) low j.limit

      abbrev IsPart : ℕ → List (ℕ × Call) → Type 0
      IsPart w rest =
          (begun_in w (marks_in added) ++ rest ≡ calls_of w behind.calls) × (w < v → is_busy_by (is_some (open_call w whole)) rest ≡ false)
          × (w ≡ v → Stopped (origin_in index) v (marks_in (seen_by first)) whole rest met)

      its_part : (rest : List Call) × IsPart v (paired v rest)
      its_part =
          let l = fate_leaves (origin_in index) v behind.calls (seen_by first) (seen_by now) added is_lowest.0 (let most = is_lowest.1 in omega arith) j.grown.1 j.quiet on_first (closed_first v) (Some (answer.Limit met)) is_lowest.3 in
          (l.rest, (l.begun, (λ below. absurd (omega arith)), (λ same. l.stopped met refl)))

      other_part : (w : ℕ) → 0 < w → w ≤ MAX_WORKERS → w ≢ v → (rest : List Call) × IsPart w (paired w rest)
      other_part w some most other =
          let back = back_of w some most in
          let l = left_of w some most back in (
            l.rest,
            (
              l.begun,
              (λ below. let idle = l.idle (subst (λ (low : Option (ℕ × LimitKind)). IsAbove low w back.met) low back.above below) in idle_by (open_call w whole) (paired w l.rest) idle.0 idle.1),
              (λ same. absurd (other same)),
            ),
          )

      part_by : (w : ℕ) (b : Bool) → (w == v) ≡ b → 0 < w → w ≤ MAX_WORKERS → (rest : List Call) × IsPart w (paired w rest)
      part_by w true is some most = subst (λ (u : ℕ). (rest : List Call) × IsPart u (paired u rest)) (sym (eqb-true w v is)) its_part
      part_by w false is some most = other_part w some most (eqb-false w v is)

      parts : (queue : List (ℕ × Call)) × ((w : ℕ) → w < 1 → calls_of w queue ≡ []) × ((w : ℕ) → 1 ≤ w → w < 1 + MAX_WORKERS → IsPart w (calls_of w queue))
      parts = collected IsPart 1 MAX_WORKERS (λ w some below. part_by w (w == v) refl (omega arith) (omega arith))

      abbrev at_end : Point
      at_end = record { past = new.log.past; queue = parts.0 }

      here : Stopped (origin_in index) v (marks_in (seen_by first)) whole (calls_of v parts.0) met
      here = (parts.2 v is_lowest.0 (let most = is_lowest.1 in omega arith)).2 refl

      stands_by : (kind : LimitKind) → Stopped (origin_in index) v (marks_in (seen_by first)) whole (calls_of v parts.0) kind → is_busy v at_end ≡ true → StandsAt kind v at_end
      stands_by which.Marks s busy = (busy, inl refl)
      stands_by which.Calls s busy = (busy, (subst (λ (marks : List Mark). open_call v marks ≡ None) (sym whole_is) s.here, refl))
      stands_by which.Pages s busy = (busy, (subst (λ (marks : List Mark). open_call v marks ≡ None) (sym whole_is) s.here.0, s.here.1, refl))

      idle_below : (w : ℕ) → w < v → is_busy w at_end ≡ false
      idle_below w below = ⊎_elim
          (λ some. subst (λ (marks : List Mark). is_busy_by (is_some (open_call w marks)) (calls_of w parts.0) ≡ false) (sym whole_is) ((parts.2 w some (let most = is_lowest.1 in omega arith)).1 below))
          (λ none. idle_by (open_call w new.log.past) (calls_of w parts.0) (others w (λ worker. let some = worker.some in absurd (omega arith))) (parts.1 w (omega arith)))
          (cases_lt 0 w)

      runs_in_part : RunsThreadsUpTo met (point_of old queued) at_end
      runs_in_part = inr (
        point_of mid behind,
        ends.3,
        record {
          mingles = mingled parts.0 (λ w some most. (parts.2 w some (omega arith)).0);
          worker = v;
          lowest = idle_below;
          stands = stands_by met here (subst (λ (marks : List Mark). is_busy_by (is_some (open_call v marks)) (calls_of v parts.0) ≡ true) (sym whole_is) here.busy);
        },
      )

      limits_are : old.log.limits ≡ limits_of (origin_in index)
      limits_are = sym stays.limits ∙ ap limits_of closed

      abbrev Then : LimitKind → Type 0
      Then kind = HasMetThen (origin_in index) v (marks_in (seen_by first)) whole (calls_of v parts.0) kind

      stands_then : (kind : LimitKind) → (m : Then kind) → StandsAt kind v (record { past = m.moment; queue = parts.0 })
      stands_then which.Marks m = (m.busy, inl refl)
      stands_then which.Calls m = (m.busy, (m.here, refl))
      stands_then which.Pages m = (m.busy, (m.here.0, m.here.1, refl))

      -- from before the calls that were open were ended
      since_old : (moment : List Mark) → Grown (marks_in (seen_by first)) moment → Grown old.log.past moment
      since_old moment since =
          let from : Grown mid.log.past moment = subst (λ (marks : List Mark). Grown marks moment) past_first since in
          grown_both old.log.past mid.log.past moment (ends_grow 1 64 (point_of old queued) (point_of mid behind) ends.3) from

      has_met : Then met → HasMet old.log.limits met (point_of old queued) at_end
      has_met m = record {
        past = m.moment;
        since = since_old m.moment m.since;
        later = (m.later.0, whole_is ∙ m.later.1);
        worker = v;
        lowest = idle_below;
        stands = stands_then met m;
        met = subst (λ (limits : Limits). MeetsLimit limits m.moment met) (sym limits_are) m.meets;
      }

      is_met : MeetsTogether old.log.limits met (point_of old queued) at_end
      is_met = ⊎_elim
          (λ meets. inl (subst (λ (marks : List Mark). MeetsLimit old.log.limits marks met) (sym whole_is) (subst (λ (limits : Limits). MeetsLimit limits whole met) (sym limits_are) meets)))
          (λ m. inr (has_met m))
          here.meets

      pub ended_limit : HasRunThreads old queued (end.Limit met) new left
      ended_limit = (stays, (at_end, runs_in_part, refl, is_met))

  -- how the run on the index ended
  pub ended : (others : (w : ℕ) → (IsWorker new.config w → ⊥) → open_call w new.log.past ≡ None) → new.config.workers ≤ MAX_WORKERS → left.calls ≡ [] → queued.room ≤ left.room
      → (how : ThreadsEnd) → HasRunOn index behind.calls (seen_by first) now how → HasRunThreads old queued how new left
  ended others few empty room end.Finished j = ended_whole others None j refl few empty room
  ended others few empty room (end.Limit met) (v, j) = ended_limit others (Some (v, met)) j v met refl few
  ended others few empty room end.Memory same = ended_only same

-- a limit was met before the index was opened
pub ended_before : (old new : WorldView) (queued left : Queued) (met : LimitKind) → HasEndedCalls old queued (Some met) new left → HasRunThreads old queued (end.Limit met) new left
ended_before old new queued left met (stays, part, is) = (stays, (point_of new left, inl part, refl, inl (subst (λ (limits : Limits). MeetsLimit limits new.log.past met) stays.limits is)))

-- there was no memory for an index
pub ended_early : (old new : WorldView) (queued left : Queued) → HasEndedCalls old queued None new left → HasRunThreads old queued end.Memory new left
ended_early old new queued left (leaves, on, shut, ends) = (leaves.stays, (point_of new left, ends, refl))
