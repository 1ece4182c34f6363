-- The call of a worker that steps alone stays paid for.
use Rattle.std.proofs.Common.{◌≡◌, ◌≢◌, ◌⊎◌, ℕ, zero, suc, ◌+◌, ◌*◌, ◌≤◌, ◌<◌, ◌==◌, ◌&&◌, if◌then◌else◌, Bool, true, false, List, [], ◌∷◌, length, arith, refl, sym, ap, subst, ◌∙◌, inl, inr, Option, Some, None, is_some, is_none}
use Rattle.std.proofs.lemmas.Bool.{cases_eq, true≢false}
use Rattle.std.proofs.lemmas.Bool.Decides.{nat_tests}
use Rattle.bz_swap_acts.specs.declared.acted.Act.{Act}
use Rattle.bz_swap_acts.specs.declared.acted.Act.TheVariants.{Load, Store, Cas, Ask, Fence}
use Rattle.bz_below.specs.Facts.{below_acts}
use Rattle.bz_solo.specs.FromCosts.Laws.{AskedSwapsAreCounted}
use Rattle.bz_solo.specs.FromCosts.Solo.{one_mark}
use Rattle.bz_solo.specs.FromCosts.Most.{IsWithinItsActs}
use Rattle.bz_solo.specs.FromCosts.Resources.{Resource, Marks, Descriptors, Slots}
use Rattle.bz_layout.specs.Slots.{FreeSlots}
use Rattle.bz_layout.specs.declared.config.Config.{Config}
use Rattle.bz_layout.specs.declared.thresholds.TheConstants.{MARKS_PER_CALL}
use Rattle.bz_call.specs.declared.calls.Call.{Call}
use Rattle.bz_call.specs.declared.calls.Call.TheVariants as call
use Rattle.bz_solo.specs.Errands.{Errand, is_read, IsLookOf}
use Rattle.bz_solo.specs.Steps.{IsNext}
use Rattle.bz_solo.specs.Sum.{Affords, own_by, own_left}
use Rattle.bz_mark.specs.declared.marks.Mark.{Mark}
use Rattle.bz_mark.specs.declared.marks.Mark.TheVariants as mark
use Rattle.bz_any_task.specs.Duties.{asks_of, left_of, swaps_of, view_of}
use Rattle.bz_any_task.specs.Hearing.{HasHeard}
use Rattle.bz_any_task.specs.Kinds as kinds
use Rattle.bz_any_task.specs.Kinds.{Kind, is_look, kind_of}
use Rattle.bz_any_task.specs.declared.running.AnyTask.{AnyTask}
use Rattle.bz_any_task.specs.declared.running.AnyTask.TheVariants.{Seeking, Finding, Reading, Inserting, Updating, Deleting, Freezing, Consolidating, Splitting, SplittingBelow, SplittingInner, SplittingInnerRoot, Merging, MergingInner, Lowering}
use Rattle.bz_sound.specs.Calls.{Open, open_call}
use Rattle.bz_sound.specs.Memory.Moments.{IsAfterFence}
use Rattle.bz_refinement.specs.Story.{Story, scene, and_then}
use Rattle.bz_swap.specs.SwapMemory.{SwapMemory, doing_of}
use Rattle.bz_task.specs.Instant.{Instant}
use Rattle.bz_task.specs.Scene.{Continues}
use Rattle.bz_task.specs.declared.todo.Seen.{Seen}
use Rattle.bz_task.specs.Requests.{swaps_in}
use Rattle.bz_task.specs.declared.todo.Todo.{Todo}
use Rattle.bz_task.specs.declared.todo.Todo.TheVariants.{Swap}
use Rattle.bz_word.specs.declared.entry.Entry.{Entry}
use Rattle.bz_world.specs.Inside.Alone.{untold}
use Rattle.bz_world.specs.Inside.Kept.{IsAwake}
use Rattle.bz_world.specs.Inside.Laws.{PaidLaws}
use Rattle.bz_world.specs.Inside.Paid.{bound_of, errand_of, no_extra, runner, stock_of, IsCounted, IsPaidIn}
use Rattle.bz_world.specs.Inside.Serving.{IsServing}
use Rattle.bz_world.specs.WorldView.{mark_of, stepper, is_stepper, before_run, are_closed, begins_solitary, run_marks, deadline_from, deadline, RunsWhole}
use Rattle.bz_world.specs.declared.parts.Parts.{Parts}
use Rattle.bz_world.specs.declared.serving.OpenCall.{OpenCall}
use Rattle.bz_world.proofs.Solitary.{now-is}

-- the worker of an act steps
pub act-steps : (w : ℕ) (made : Act) (past : List Mark) → stepper (mark_of w made ∷ past) ≡ Some w
act-steps w (Load a v) past = refl
act-steps w (Store a v) past = refl
act-steps w (Cas a old new found) past = refl
act-steps w (Ask line) past = refl
act-steps w Fence past = refl

-- and nobody else
pub one-steps : (v w : ℕ) → v ≢ w → (o : Option ℕ) → o ≡ Some w → o ≡ Some v → ⊥
one-steps v w ne o is other = let both : Some w ≡ Some v = sym is ∙ other in ne (sym (cc both))

pub who-steps : (v w : ℕ) (o : Option ℕ) → o ≡ Some w → o ≡ Some v → v ≡ w
who-steps v w o is other = let both : Some w ≡ Some v = sym is ∙ other in sym (cc both)

self-is : (w : ℕ) → (w == w) ≡ true
self-is w = grind (arith, nat_tests)

-- while it does, its run began where it did
pub before-on : (w : ℕ) (m : Mark) (past : List Mark) → stepper (m ∷ past) ≡ Some w → before_run w (m ∷ past) ≡ before_run w past
before-on w m past is = ap (λ (z : Option ℕ). if is_stepper w z then before_run w past else m ∷ past) is ∙ ap (λ (z : Bool). if z then before_run w past else m ∷ past) (self-is w)

pub run-on : (c : Config) (w : ℕ) (m : Mark) (past : List Mark) → stepper (m ∷ past) ≡ Some w → deadline c w (m ∷ past) ≡ deadline c w past
run-on c w m past is = ap (deadline_from c w) (before-on w m past is)

-- no run begins later than now
run-by-or : (b : Bool) (w : ℕ) (m : Mark) (past : List Mark) → length (before_run w past) ≤ length past → length (if b then before_run w past else m ∷ past) ≤ suc (length past)
run-by-or true w m past l = omega (arith, l)
run-by-or false w m past l = omega arith

pub run-by-now : (w : ℕ) (past : List Mark) → length (before_run w past) ≤ length past
run-by-now w [] = omega arith
run-by-now w (m ∷ past) = run-by-or (is_stepper w (stepper (m ∷ past))) w m past (run-by-now w past)

other-run : (w : ℕ) (o : Option ℕ) → o ≢ Some w → is_stepper w o ≡ false
other-run w None ne = refl
other-run w (Some v) ne = elim (cases_eq v w) [
  | inl e ↦ absurd (ne (ap Some e))
  | inr n ↦ (let t : (v == w) ≡ false = grind (arith, nat_tests) in t)
]

-- else it begins now
run-now : (w : ℕ) (past : List Mark) → stepper past ≢ Some w → before_run w past ≡ past
run-now w [] ne = refl
run-now w (m ∷ past) ne = ap (λ (z : Bool). if z then before_run w past else m ∷ past) (other-run w (stepper (m ∷ past)) ne)

-- the worker that steps is known to be paid for
pub steps-run : (c : Config) (w : ℕ) (past : List Mark) → stepper past ≡ Some w → runner c past ≡ Some w
steps-run c w [] is = is
steps-run c w (mark.Begin v n called ∷ past) is = absurd (cc is)
steps-run c w (m ∷ past) is = is

pub act-runs : (c : Config) (w : ℕ) (made : Act) (past : List Mark) → runner c (mark_of w made ∷ past) ≡ Some w
act-runs c w made past = steps-run c w (mark_of w made ∷ past) (act-steps w made past)

-- after a fence, or an eviction, it is the one that steps
pub flush-runs : (c : Config) (w : ℕ) (past : List Mark) → IsAfterFence past → runner c past ≡ Some w → stepper past ≡ Some w
flush-runs c w (mark.Ask v line ∷ past) flush is = is
flush-runs c w (mark.Fence v ∷ past) flush is = is
flush-runs c w (mark.Evict a ∷ past) flush is = is
flush-runs c w past flush is = absurd flush

-- after the begin of a call, the worker of that call
begin-or : (b : Bool) (v w : ℕ) → (if b then Some v else None) ≡ Some w → (b ≡ true) × (v ≡ w)
begin-or true v w is = (refl, cc is)
begin-or false v w is = absurd (cc is)

pub begin-runs : (c : Config) (v w n : ℕ) (called : Call) (past : List Mark) → runner c (mark.Begin v n called ∷ past) ≡ Some w → v ≡ w
begin-runs c v w n called past is = (begin-or (are_closed c.workers past) v w is).1

-- where no call was open it begins alone
closed-begin : (b : Bool) (v w : ℕ) → (if b then Some v else None) ≢ Some w → ((v == w) && b) ≡ false
closed-begin true v w ne = elim (cases_eq v w) [
  | inl e ↦ absurd (ne (ap Some e))
  | inr n ↦ (let t : (v == w) ≡ false = grind (arith, nat_tests) in ap (λ (z : Bool). z && true) t)
]
closed-begin false v w ne = neither (v == w)
  where
    neither : (z : Bool) → (z && false) ≡ false
    neither true = refl
    neither false = refl

begins-else : (c : Config) (w : ℕ) (past : List Mark) → runner c past ≢ Some w → begins_solitary c w past ≡ false
begins-else c w [] ne = refl
begins-else c w (mark.Begin v n called ∷ past) ne = closed-begin (are_closed c.workers past) v w ne
begins-else c w (m ∷ past) ne = refl

-- so the call of one of which nothing is known yet has all that is promised for any
all-left : (c : Config) (w : ℕ) (past : List Mark) → runner c past ≢ Some w → deadline c w past ≡ length past + MARKS_PER_CALL * (c.workers + 2)
all-left c w past ne = ap (deadline_from c w) (run-now w past (λ is. ne (steps-run c w past is))) ∙ ap (λ (b : Bool). length past + run_marks c b) (begins-else c w past ne)

none-open : (o : Option Open) → is_none o ≡ true → o ≡ None
none-open None e = refl
none-open (Some opened) e = absurd (true≢false (sym e))

first-of : (a b : Bool) → (a && b) ≡ true → a ≡ true
first-of true b e = refl
first-of false b e = e

pub second-of : (a b : Bool) → (a && b) ≡ true → b ≡ true
second-of true b e = e
second-of false b e = absurd (true≢false (sym e))

-- then no worker has an open call
pub each-closed : (n : ℕ) (past : List Mark) → are_closed n past ≡ true → (v : ℕ) → v ≤ n → open_call v past ≡ None
each-closed zero past closed v few = subst (λ (u : ℕ). open_call u past ≡ None) (omega (arith, few)) (none-open (open_call 0 past) closed)
each-closed (suc n) past closed v few = elim (cases_eq v (suc n)) [
  | inl e ↦ subst (λ (u : ℕ). open_call u past ≡ None) (sym e) (none-open (open_call (suc n) past) (first-of (is_none (open_call (suc n) past)) (are_closed n past) closed))
  | inr ne ↦ each-closed n past (second-of (is_none (open_call (suc n) past)) (are_closed n past) closed) v (omega (arith, few, ne))
]

-- whether it steps
pub steps-or : (w : ℕ) (o : Option ℕ) → (o ≡ Some w) ⊎ (o ≢ Some w)
steps-or w None = inr (λ e. cc e)
steps-or w (Some v) = elim (cases_eq v w) [
  | inl e ↦ inl (ap Some e)
  | inr ne ↦ inr (λ e. ne (cc e))
]

pub none-of : (o : Option ℕ) → is_some o ≡ false → o ≡ None
none-of None e = refl
none-of (Some at) e = absurd (true≢false e)

-- what is known of the acts of the split of a leaf below a parent, by the kind of the task
pub within-of : (t : AnyTask) → ((a : _) → kind_of t ≡ kinds.SplitLeaf a → left_of t ≤ below_acts) → IsWithinItsActs t
unfolding kind_of view_of
within-of (Seeking t) few = tt
within-of (Finding t) few = tt
within-of (Reading t) few = tt
within-of (Inserting t) few = tt
within-of (Updating t) few = tt
within-of (Deleting t) few = tt
within-of (Freezing t) few = tt
within-of (Consolidating t) few = tt
within-of (Splitting t) few = tt
within-of (SplittingBelow t a) few = few a refl
within-of (SplittingInner t a) few = tt
within-of (SplittingInnerRoot t a) few = tt
within-of (Merging t) few = tt
within-of (MergingInner t) few = tt
within-of (Lowering t) few = tt

left-within : (t : AnyTask) (a : _) → kind_of t ≡ kinds.SplitLeaf a → IsWithinItsActs t → left_of t ≤ below_acts
unfolding kind_of view_of
left-within (Seeking t) a e within = absurd (cc e)
left-within (Finding t) a e within = absurd (cc e)
left-within (Reading t) a e within = absurd (cc e)
left-within (Inserting t) a e within = absurd (cc e)
left-within (Updating t) a e within = absurd (cc e)
left-within (Deleting t) a e within = absurd (cc e)
left-within (Freezing t) a e within = absurd (cc e)
left-within (Consolidating t) a e within = absurd (cc e)
left-within (Splitting t) a e within = absurd (cc e)
left-within (SplittingBelow t b) a e within = within
left-within (SplittingInner t b) a e within = absurd (cc e)
left-within (SplittingInnerRoot t b) a e within = absurd (cc e)
left-within (Merging t) a e within = absurd (cc e)
left-within (MergingInner t) a e within = absurd (cc e)
left-within (Lowering t) a e within = absurd (cc e)

pub within-told : (old new : AnyTask) (seen : Seen) (moment : ℕ) (free : FreeSlots) (todo : Todo) (left : FreeSlots) → HasHeard old seen moment free todo new left → IsWithinItsActs old → IsWithinItsActs new
within-told old new seen moment free todo left h within = within-of new (λ a e. omega (arith, h.goes.nearer, left-within old a (sym h.kind ∙ e) within))

-- what may be used of a resource is what it was, while a worker steps, and it is known as before
pub bound-on : (r : Resource) (c : Config) (w : ℕ) (m : Mark) (past : List Mark) → stepper (m ∷ past) ≡ Some w → bound_of r c (m ∷ past) w ≡ bound_of r c past w
bound-on Marks c w m past is = run-on c w m past is
bound-on r c w m past is = refl

pub counted-on : (r : Resource) (c : Config) (w : ℕ) (m : Mark) (past : List Mark) → stepper (m ∷ past) ≡ Some w → IsCounted r c w (m ∷ past) → IsCounted r c w past
counted-on Marks c w m past is h = tt
counted-on Descriptors c w m past is h = sym (ap (begins_solitary c w) (before-on w m past is)) ∙ h
counted-on Slots c w m past is h = sym (ap (begins_solitary c w) (before-on w m past is)) ∙ h

-- a run of one of which nothing is known yet does not follow the begin of its call
pub not-whole : (c : Config) (w : ℕ) (past : List Mark) → runner c past ≢ Some w → RunsWhole c w past → ⊥
not-whole c w past ne h = true≢false (sym h ∙ (ap (begins_solitary c w) (run-now w past (λ is. ne (steps-run c w past is))) ∙ begins-else c w past ne))

-- the call of a worker is paid for, whoever stepped last
pub paid-here : PaidLaws → (p : Parts) (k : IsAwake p) (w : ℕ) (x : OpenCall) (s : IsServing p.config p.access p.journal k.story p.owners.items (stock_of p) w x) → 0 < w → w ≤ p.config.workers
    → IsPaidIn p.config p.access p.journal.past (stock_of p) w (errand_of x) x.task (untold p.access (doing_of p.access w)) no_extra (scene p.config p.journal.past k.story w s.call_open.look.since s.opened).past
paid-here b p k w x s some within = elim (steps-or w (runner p.config p.journal.past)) [ inl is ↦ s.paid is | inr ne ↦ else-paid ne ]
  where
    else-paid : runner p.config p.journal.past ≢ Some w → IsPaidIn p.config p.access p.journal.past (stock_of p) w (errand_of x) x.task (untold p.access (doing_of p.access w)) no_extra (scene p.config p.journal.past k.story w s.call_open.look.since s.opened).past
    else-paid ne Marks counted =
        b.any p.config p.access w (errand_of x) x.task (untold p.access (doing_of p.access w)) (deadline p.config w p.journal.past) (scene p.config p.journal.past k.story w s.call_open.look.since s.opened).past
        (record { config = k.tabled.config; size = k.tabled.crew; worker = some; within = within; zero = k.taken.notes.zero }) s.meant.within (λ quiet. s.meant.look (none-of x.effect quiet)) s.meant.fit.thawed (omega (arith, all-left p.config w p.journal.past ne, b.affordable p.config k.tabled.config))
    else-paid ne Descriptors counted = absurd (not-whole p.config w p.journal.past ne counted)
    else-paid ne Slots counted = absurd (not-whole p.config w p.journal.past ne counted)

-- one mark later so many swaps took effect
pub next-is : (c : Config) (past : List Mark) (m : Mark) (story after : Story) (v since : ℕ) (opened later : Open) (y : Instant) (more : ℕ) → after.at ≡ and_then story.at (length past) y → since ≤ length past → y.effects ≡ (story.at (length past)).effects + more
    → Continues (scene c past story v since opened).past (scene c (m ∷ past) after v since later).past → IsNext more (scene c past story v since opened).past (scene c (m ∷ past) after v since later).past
next-is c past m story after v since opened later y more is l up continues = record {
  adds = record {
    continues = continues;
    begun = l;
    effects = subst (λ (at : ℕ → Instant). (at (suc (length past))).effects ≡ (story.at (length past)).effects + more) (sym is) (ap (λ (x : Instant). x.effects) (now-is story.at (length past) y) ∙ up);
  };
  one = omega arith;
}

-- a call that reads looks for something, and asks for no swap
reads-look : (called : Call) (k : Kind) → is_read called ≡ true → IsLookOf called k → is_look k ≡ true
reads-look (call.Get key) k r (inl e) = ap is_look e
reads-look (call.Get key) k r (inr e) = ap is_look e
reads-look (call.Page key) k r (inl e) = ap is_look e
reads-look (call.Page key) k r (inr e) = ap is_look e
reads-look (call.Insert key payload) k r l = absurd (cc r)
reads-look (call.Update key payload) k r l = absurd (cc r)
reads-look (call.Upsert key payload) k r l = absurd (cc r)
reads-look (call.Delete key) k r l = absurd (cc r)

pub swaps-write : (called : Call) (k : Kind) → IsLookOf called k → (is_look k ≡ true → ⊥) → is_read called ≡ false
swaps-write called k l none = go (is_read called) refl
  where
    go : (r : Bool) → is_read called ≡ r → is_read called ≡ false
    go false e = e
    go true e = absurd (none (reads-look called k e l))

-- while something is afforded a mark is left for the end
pub affords-room : (r : Resource) (m : SwapMemory) (w : ℕ) (e : Errand) (used by n : ℕ) → Affords r m w e used by n → used + one_mark r ≤ by
affords-room r m w e used by n h = all _ (own_left r e) (some r e.effected) h.enough
  where
    some : (r : Resource) (done : Bool) → one_mark r ≤ own_by r done
    some Marks true = omega arith
    some Marks false = omega arith
    some Descriptors done = omega arith
    some Slots done = omega arith

    all : (kept own : ℕ) → one_mark r ≤ own → kept + own + used + n ≤ by → used + one_mark r ≤ by
    all kept own l enough = omega (arith, l, enough)

-- a task that may ask for no swap asks for none
pub swapless : AskedSwapsAreCounted → (t : AnyTask) (entries : List Entry) → asks_of t ≡ Some (Swap entries) → swaps_of t ≡ 0 → ⊥
swapless b t entries asks none = omega (arith, subst (λ (o : Option Todo). swaps_in o ≤ swaps_of t) asks (b t), none)

-- a call that had an effect had it at a moment
pub some-moment : (o : Option ℕ) → is_some o ≡ true → (at : ℕ) × (o ≡ Some at)
some-moment None e = absurd (true≢false (sym e))
some-moment (Some at) e = (at, refl)
