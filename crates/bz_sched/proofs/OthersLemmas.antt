-- What a turn of one worker leaves the others: as much to do as they had.
use Rattle.std.proofs.Common.{◌≡◌, ◌≢◌, ℕ, Bool, true, false, List, [], ◌∷◌, ◌++◌, refl, sym, ◌∙◌, arith, Option, ◌==◌, inl, inr}
use Rattle.std.specs.Prelude.{if◌then◌else◌, is_some}
use Rattle.std.proofs.lemmas.Bool.Decides.{nat_tests}
use Rattle.bz_call.specs.declared.calls.Call.{Call}
use Rattle.bz_mark.specs.declared.marks.Mark.{Mark}
use Rattle.bz_mark.specs.declared.marks.Mark.TheVariants.{Begin, End, Load, Store, Cas, Ask, Fence, Effect}
use Rattle.bz_sound.specs.Calls.{Open, open_call}
use Rattle.bz_world.specs.declared.answers.LimitKind.TheVariants as which
use Rattle.bz_sched.specs.Points.{Point, ready, ready_by, is_busy, IsTurn}
use Rattle.bz_sched.proofs.QueueLaws.{not_same, same_owner, calls_of-without}
use Rattle.bz_sched.specs.Queued.{calls_of}
use Rattle.bz_sched.specs.TurnLaws.{AreOwn}
use Rattle.bz_sched.specs.Turns.{busy_workers}
use Rattle.bz_sched.specs.TurnsInPart.{StopsBy}
use Rattle.bz_sched.specs.declared.turn.Stop.{Stop}
use Rattle.bz_sched.specs.declared.turn.Stop.TheVariants.{Due, Limit}
use Rattle.bz_sched.proofs.BusyLemmas.{same_list}
use Rattle.bz_sched.proofs.ReadyLemmas.{changes_no}
use Rattle.bz_sched.proofs.TurnAdds.{ready_adds, turn_adds}

left_alone : (b : Bool) (fresh rest : Option Open) → b ≡ false → is_some (if b then fresh else rest) ≡ is_some rest
left_alone true fresh rest other = absurd (cc other)
left_alone false fresh rest other = refl

-- marks of another worker open and end no call of this one
opens_stay : (w v : ℕ) (added past : List Mark) → w ≢ v → AreOwn v added → is_some (open_call w (added ++ past)) ≡ is_some (open_call w past)
opens_stay w v [] past other own = refl
opens_stay w v (Begin u n call ∷ added) past other own = left_alone (u == w) _ (open_call w (added ++ past)) (not_same v w u own.0 other) ∙ opens_stay w v added past other own.1
opens_stay w v (End u n reply at ∷ added) past other own = left_alone (u == w) _ (open_call w (added ++ past)) (not_same v w u own.0 other) ∙ opens_stay w v added past other own.1
opens_stay w v (Effect u n ∷ added) past other own = changes_no (u == w) _ (open_call w (added ++ past)) ∙ opens_stay w v added past other own.1
opens_stay w v (Load u a x ∷ added) past other own = opens_stay w v added past other own.1
opens_stay w v (Store u a x ∷ added) past other own = opens_stay w v added past other own.1
opens_stay w v (Cas u a old new found ∷ added) past other own = opens_stay w v added past other own.1
opens_stay w v (Ask u line ∷ added) past other own = opens_stay w v added past other own.1
opens_stay w v (Fence u ∷ added) past other own = opens_stay w v added past other own.1
opens_stay w v (mark ∷ added) past other own = absurd own.0

ready_queue : (w v : ℕ) (opened : Bool) (calls : List (ℕ × Call)) (point : Point) → w ≢ v → calls_of w (ready_by v opened calls point).queue ≡ calls_of w point.queue
ready_queue w v true calls point other = refl
ready_queue w v false [] point other = refl
ready_queue w v false (call ∷ calls) point other = calls_of-without w v point.queue other

busy_by : (w : ℕ) (old new : Point) → is_some (open_call w new.past) ≡ is_some (open_call w old.past) → calls_of w new.queue ≡ calls_of w old.queue → is_busy w new ≡ is_busy w old
busy_by w old new opens calls = rw (opens, calls) refl

-- a turn of another worker
pub turn_others : (w v : ℕ) (old new : Point) → w ≢ v → IsTurn v old new → is_busy w new ≡ is_busy w old
turn_others w v old new other turn =
    let adds = turn_adds v old new turn in
    let opens : is_some (open_call w new.past) ≡ is_some (open_call w old.past) = rw adds.is (opens_stay w v adds.added old.past other adds.own) in
    let calls : calls_of w new.queue ≡ calls_of w old.queue = rw turn.step.1 (ready_queue w v (is_some (open_call v old.past)) (calls_of v old.queue) old other) in
    busy_by w old new opens calls

ready_others : (w v : ℕ) (old : Point) → w ≢ v → is_busy w (ready v old) ≡ is_busy w old
ready_others w v old other =
    let adds = ready_adds v (is_some (open_call v old.past)) (calls_of v old.queue) old in
    let opens : is_some (open_call w (ready v old).past) ≡ is_some (open_call w old.past) = rw adds.is (opens_stay w v adds.added old.past other adds.own) in
    busy_by w old (ready v old) opens (ready_queue w v (is_some (open_call v old.past)) (calls_of v old.queue) old other)

-- and one that stops
pub stop_others : (why : Stop) (w v : ℕ) (old new : Point) → w ≢ v → StopsBy why v old new → is_busy w new ≡ is_busy w old
stop_others (Limit which.Marks) w v old new other (inl same) = rw same refl
stop_others (Limit which.Marks) w v old new other (inr same) = rw same (ready_others w v old other)
stop_others (Limit which.Calls) w v old new other (none, same) = rw same refl
stop_others (Limit which.Pages) w v old new other (none, next, same) = rw same refl
stop_others (Due u) w v old new other (is, same) = rw same (ready_others w v old other)

-- where the worker still has something to do, the same workers have
pub list_stays : (old new : Point) (w : ℕ) → is_busy w old ≡ true → is_busy w new ≡ true → ((v : ℕ) → v ≢ w → is_busy v new ≡ is_busy v old) → busy_workers old ≡ busy_workers new
list_stays old new w works still others = same_list (λ v. is_busy v old) (λ v. is_busy v new) 1 64 (λ v. by_owner v (v == w) refl)
  where
    by_owner : (v : ℕ) (b : Bool) → (v == w) ≡ b → is_busy v old ≡ is_busy v new
    by_owner v true is = rw (same_owner v w is) (works ∙ sym still)
    by_owner v false is = sym (others v (λ same. grind (arith, nat_tests)))

-- where calls are open as before, and as many wait, too
pub list_same : (old new : Point) → ((v : ℕ) → is_some (open_call v new.past) ≡ is_some (open_call v old.past)) → new.queue ≡ old.queue → busy_workers old ≡ busy_workers new
list_same old new opens queue = same_list (λ v. is_busy v old) (λ v. is_busy v new) 1 64 (λ v. rw (opens v, queue) refl)
