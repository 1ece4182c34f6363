-- The sums of a script whose runs go one worker after the other: each item leaves enough for those that follow.
use Rattle.std.proofs.Common.{◌≡◌, ℕ, ◌+◌, ◌*◌, ◌<◌, ◌≤◌, ◌&&◌, if◌then◌else◌, Bool, true, false, List, [], ◌∷◌, ◌++◌, length, drop, get_or, slice_index, refl, sym, ap, subst, ◌∙◌, arith, Option, Some, None}
use Rattle.std.proofs.lemmas.Bool.{true≢false}
use Rattle.bz_call.specs.Pages.{is_page}
use Rattle.bz_call.specs.declared.calls.Call.{Call}
use Rattle.bz_layout.specs.declared.config.Config.{Config}
use Rattle.bz_layout.specs.declared.thresholds.TheConstants.{SLOTS_PER_CALL}
use Rattle.bz_mark.specs.Log.{Limits, count_begins, count_page_calls}
use Rattle.bz_mark.specs.declared.marks.Mark.{Mark}
use Rattle.bz_script.specs.Order.{takes_no_cut}
use Rattle.bz_script.specs.declared.item.Item.{Item}
use Rattle.bz_script.specs.declared.item.Item.TheVariants.{Queue, Arm, Run, Power}
use Rattle.bz_script.specs.declared.item.Plan.{Plan}
use Rattle.bz_script.specs.declared.item.Plan.TheVariants.{Alone, List as Listed, Turns, Threads}
use Rattle.bz_sound.specs.Memory.Moments.{image_after}
use Rattle.bz_mark.specs.declared.power.Power.{Power as State}
use Rattle.bz_mark.specs.declared.power.Power.TheVariants as power
use Rattle.bz_sched.specs.Enough.{AreClosed, count_pages, count_wanting, free_by, free_slots, HasEnough, HasSupply, AreServed, AreSupplied, HasComeOn, ComesOn}
use Rattle.bz_sched.specs.FromWorld.WorldView.{WorldView, count_in, power_in}
use Rattle.bz_sched.specs.Queued.{Queued}
use Rattle.bz_sched.specs.Runs.{Stays, HasPower}
use Rattle.bz_sched.specs.Sums.{is_alone, are_idle, are_plain, calls_in, pages_in, marks_in, sum_of, SufficesFor, HasStockFor, IsStockedAtFirst, Supplies, SuppliesIf, IsUnarmed, Affords, WantsNothingIf}
use Rattle.bz_script.specs.declared.cut_plan.CutPlan.{CutPlan}
use Rattle.bz_sched.specs.declared.running.RunEnd.{RunEnd}
use Rattle.bz_sched.specs.declared.running.RunEnd.TheVariants.{Finished, Cut}
use Rattle.bz_top.specs.Endings.{items_from}
use Rattle.bz_top.specs.Items.{HasDone, end_in, left_after}
use Rattle.bz_top.specs.declared.items.ItemsEnd.{ItemsEnd}
use Rattle.bz_top.specs.declared.items.ItemsEnd.TheVariants as end
use Rattle.bz_top.proofs.FirstLemmas.{from_on, from_off}
use Rattle.bz_top.proofs.FollowLemmas.{here_is}

both-plain : (a b : Bool) → (a && b) ≡ true → (a ≡ true) × (b ≡ true)
both-plain true b e = (refl, e)
both-plain false b e = absurd (true≢false (sym e))

alone-is : (plan : Plan) → is_alone plan ≡ true → plan ≡ Alone
alone-is Alone e = refl
alone-is (Listed turns) e = absurd (true≢false (sym e))
alone-is (Turns seed) e = absurd (true≢false (sym e))
alone-is Threads e = absurd (true≢false (sym e))

pub not_on_threads : (plan : Plan) → plan ≡ Alone → takes_no_cut plan ≡ true → ⊥
not_on_threads plan is takes = true≢false (sym takes ∙ ap takes_no_cut is)

-- the numbers of the memory and the limits are the same
marks-same : (old new : WorldView) (items : List Item) → new.config ≡ old.config → sum_of (marks_in new.config) items ≡ sum_of (marks_in old.config) items
marks-same old new items same = ap (λ (c : Config). sum_of (marks_in c) items) same

-- a call is queued
one-more : (calls : List (ℕ × Call)) (x : ℕ × Call) → length (calls ++ x ∷ []) ≡ length calls + 1
one-more [] x = refl
one-more (y ∷ calls) x = omega (arith, one-more calls x)

page-on : (b : Bool) (m n k : ℕ) → m ≡ n + k → (if b then m + 1 else m) ≡ (if b then n + 1 else n) + k
page-on true m n k e = omega (arith, e)
page-on false m n k e = e

page-first : (b : Bool) → (if b then 0 + 1 else 0) ≡ 0 + (if b then 1 else 0)
page-first true = refl
page-first false = refl

pages-more : (calls : List (ℕ × Call)) (w : ℕ) (call : Call) → count_pages (calls ++ (w, call) ∷ []) ≡ count_pages calls + pages_in (Queue w call)
pages-more [] w call = page-first (is_page call)
pages-more (y ∷ calls) w call = page-on (is_page y.1) (count_pages (calls ++ (w, call) ∷ [])) (count_pages calls) (pages_in (Queue w call)) (pages-more calls w call)

-- no more is asked for in the sum
supplies-for : (supplied : Bool) (world : WorldView) (n m : ℕ) → n ≡ m → SuppliesIf supplied world n → SuppliesIf supplied world m
supplies-for supplied world n m same s = subst (SuppliesIf supplied world) same s

-- a cut that is never made waits on, and a run or a power on that stands here finds none
unarmed-on : (armed : Option CutPlan) (w : ℕ) (call : Call) (rest : List Item) → IsUnarmed armed (Queue w call ∷ rest) → IsUnarmed armed rest
unarmed-on None w call rest u = tt
unarmed-on (Some cut) w call rest u = u

unarmed-run : (armed : Option CutPlan) (plan : Plan) (rest : List Item) → IsUnarmed armed (Run plan ∷ rest) → armed ≡ None
unarmed-run None plan rest u = refl
unarmed-run (Some cut) plan rest u = absurd (true≢false (sym u))

unarmed-power : (armed : Option CutPlan) (rest : List Item) → IsUnarmed armed (Power ∷ rest) → armed ≡ None
unarmed-power None rest u = refl
unarmed-power (Some cut) rest u = absurd (true≢false (sym u))

idle-plain : (items : List Item) → are_idle items ≡ true → are_plain items ≡ true
idle-plain [] idle = refl
idle-plain (Queue w call ∷ items) idle = idle-plain items idle
idle-plain (Arm flush seed ∷ items) idle = idle
idle-plain (Run plan ∷ items) idle = absurd (true≢false (sym idle))
idle-plain (Power ∷ items) idle = absurd (true≢false (sym idle))

pub affords_queued : (supplied : Bool) (world : WorldView) (queue left : Queued) (armed : Option CutPlan) (w : ℕ) (call : Call) (rest : List Item) → left.calls ≡ queue.calls ++ (w, call) ∷ [] → Affords supplied world queue.calls armed (Queue w call ∷ rest) → Affords supplied world left.calls armed rest
affords_queued supplied world queue left armed w call rest is a = subst (λ (calls : List (ℕ × Call)). Affords supplied world calls armed rest) (sym is) (record {
  unarmed = unarmed-on armed w call rest a.unarmed;
  closed = a.closed;
  plain = a.plain;
  marks = omega (arith, a.marks, one-more queue.calls (w, call));
  calls = omega (arith, a.calls, one-more queue.calls (w, call));
  pages = omega (arith, a.pages, pages-more queue.calls w call);
  supplies = supplies-for supplied world _ _ (omega (arith, one-more queue.calls (w, call))) a.supplies;
})

-- a cut is armed that is never made
pub affords_armed : (supplied : Bool) (world : WorldView) (waiting : List (ℕ × Call)) (armed : Option CutPlan) (flush seed : ℕ) (rest : List Item) → Affords supplied world waiting armed (Arm flush seed ∷ rest)
    → Affords supplied world waiting (Some (record { flush = flush; seed = seed })) rest
affords_armed supplied world waiting armed flush seed rest a = record {
  unarmed = a.plain;
  closed = a.closed;
  plain = idle-plain rest a.plain;
  marks = omega (arith, a.marks);
  calls = omega (arith, a.calls);
  pages = omega (arith, a.pages);
  supplies = supplies-for supplied world _ _ (omega arith) a.supplies;
}

-- a run has enough, and leaves it
pub runs_alone : (supplied : Bool) (world : WorldView) (waiting : List (ℕ × Call)) (armed : Option CutPlan) (plan : Plan) (rest : List Item) → Affords supplied world waiting armed (Run plan ∷ rest) → plan ≡ Alone
runs_alone supplied world waiting armed plan rest a = alone-is plan (both-plain (is_alone plan) (are_plain rest) a.plain).0

pub has_enough : (supplied : Bool) (world : WorldView) (waiting : List (ℕ × Call)) (armed : Option CutPlan) (plan : Plan) (rest : List Item) → Affords supplied world waiting armed (Run plan ∷ rest) → HasEnough world waiting
has_enough supplied world waiting armed plan rest a = record { marks = omega (arith, a.marks); calls = omega (arith, a.calls); pages = omega (arith, a.pages) }

-- with the power on these are the free ones
free-on : (world : WorldView) → power_in world ≡ power.On → free_slots world ≡ world.supply.left
free-on world on = ap (λ (p : State). free_by p world) on

supplies-run : (supplied : Bool) (old new : WorldView) (queue left : Queued) (later : ℕ) → new.config ≡ old.config → power_in old ≡ power.On → power_in new ≡ power.On → (HasSupply old queue.calls → AreSupplied old queue new left) → SuppliesIf supplied old (length queue.calls + later)
    → SuppliesIf supplied new (length left.calls + later)
supplies-run false old new queue left later same before after serves s = tt
supplies-run true old new queue left later same before after serves s =
    let served = serves (record { swaps = omega (arith, s.swaps); slots = omega (arith, s.slots, free-on old before) }) in
    record {
      swaps = omega (arith, s.swaps, served.swaps, ap (λ (c : Config). c.swaps) same);
      slots = omega (arith, s.slots, served.slots, free-on old before, free-on new after);
      wanting = served.wanting ∙ s.wanting;
    }

record HasServed (old new : WorldView) (queue left : Queued) : Type 0 where
  stays : Stays old new
  before : power_in old ≡ power.On
  after : power_in new ≡ power.On
  served : AreServed old queue new left
  supplied : HasSupply old queue.calls → AreSupplied old queue new left

affords-run : (supplied : Bool) (old new : WorldView) (queue left : Queued) (armed : Option CutPlan) (plan : Plan) (rest : List Item) → HasServed old new queue left → Affords supplied old queue.calls armed (Run plan ∷ rest) → Affords supplied new left.calls None rest
affords-run supplied old new queue left armed plan rest h a = let stays = h.stays in let s = h.served in record {
  unarmed = tt;
  closed = s.closed;
  plain = (both-plain (is_alone plan) (are_plain rest) a.plain).1;
  marks = omega (arith, a.marks, s.marks, marks-same old new rest stays.config, ap (λ (l : Limits). l.marks) stays.limits);
  calls = omega (arith, a.calls, s.calls, ap (λ (l : Limits). l.calls) stays.limits);
  pages = omega (arith, a.pages, s.pages, ap (λ (l : Limits). l.pages) stays.limits);
  supplies = supplies-run supplied old new queue left (sum_of calls_in rest) stays.config h.before h.after h.supplied (supplies-for supplied old _ _ (omega arith) a.supplies);
}

-- so does power on
supplies-power : (supplied : Bool) (old new : WorldView) (calls : ℕ) → new.config ≡ old.config → power_in new ≡ power.On → HasComeOn old new → SuppliesIf supplied old calls → SuppliesIf supplied new calls
supplies-power false old new calls same after on s = tt
supplies-power true old new calls same after on s = record {
  swaps = omega (arith, s.swaps, on.taken, ap (λ (c : Config). c.swaps) same);
  slots = omega (arith, s.slots, on.left, free-on new after);
  wanting = on.wanting ∙ s.wanting;
}

affords-power : (supplied : Bool) (old new : WorldView) (waiting left : List (ℕ × Call)) (armed : Option CutPlan) (rest : List Item) → left ≡ waiting → Stays old new → power_in new ≡ power.On → HasComeOn old new → Affords supplied old waiting armed (Power ∷ rest) → Affords supplied new left None rest
affords-power supplied old new waiting left armed rest is stays after on a = subst (λ (calls : List (ℕ × Call)). Affords supplied new calls None rest) (sym is) (record {
  unarmed = tt;
  closed = on.closed a.closed;
  plain = a.plain;
  marks = omega (arith, a.marks, on.marks, marks-same old new rest stays.config, ap (λ (l : Limits). l.marks) stays.limits);
  calls = omega (arith, a.calls, on.calls, ap (λ (l : Limits). l.calls) stays.limits);
  pages = omega (arith, a.pages, on.pages, ap (λ (l : Limits). l.pages) stays.limits);
  supplies = supplies-power supplied old new (length waiting + sum_of calls_in rest) stays.config after on (supplies-for supplied old _ _ (omega arith) a.supplies);
})

-- at first
none-open : (past : List Mark) → past ≡ [] → AreClosed past
none-open past new = subst AreClosed (sym new) (λ v. refl)

pub affords_first : (supplied : Bool) (world : WorldView) (items : List Item) → world.log.past ≡ [] → SufficesFor world.config world.log.limits items → SuppliesIf supplied world (sum_of calls_in items) → Affords supplied world [] None items
affords_first supplied world items new s supplies = record {
  unarmed = tt;
  closed = none-open world.log.past new;
  plain = s.plain;
  marks = omega (arith, s.marks, ap length new);
  calls = omega (arith, s.calls, ap count_begins new);
  pages = omega (arith, s.pages, ap count_page_calls new);
  supplies = supplies-for supplied world _ _ (omega arith) supplies;
}

pub supplies_first : (world : WorldView) (calls : ℕ) → world.log.past ≡ [] → IsStockedAtFirst world → HasStockFor world.config world.log.start calls → Supplies world calls
supplies_first world calls new first h = record {
  swaps = omega (arith, first.taken, h.swaps);
  slots = by (power_in world) refl;
  wanting = ap count_wanting new;
}
  where
    image : count_in world.config (image_after world.log.start world.log.past) ≡ count_in world.config (slice_index world.log.start)
    image = ap (λ (past : List Mark). count_in world.config (image_after world.log.start past)) new

    by : (p : State) → power_in world ≡ p → SLOTS_PER_CALL * calls ≤ free_by p world
    by power.On is = omega (arith, h.slots, first.left is)
    by power.Off is = omega (arith, h.slots, image)
    by power.Recovering is = omega (arith, h.slots, image)

-- a script whose sums were beyond the limits of a world is so for the world as it is now
pub lacks_still : (old new : WorldView) (items : List Item) → Stays old new → (SufficesFor old.config old.log.limits (items_from old.at_start items) → ⊥) → SufficesFor new.config new.log.limits (items_from new.at_start items) → ⊥
lacks_still old new items stays lacks s =
    lacks (subst (λ (state : State). SufficesFor old.config old.log.limits (items_from state items)) stays.at_start
    (subst (λ (limits : Limits). SufficesFor old.config limits (items_from new.at_start items)) stays.limits
    (subst (λ (c : Config). SufficesFor c new.log.limits (items_from new.at_start items)) stays.config s)))

-- and one whose sums were within them, and for which there was enough, has left no call that ended for want
pub served_still : (old new : WorldView) (items : List Item) → Stays old new → (SufficesFor old.config old.log.limits (items_from old.at_start items) → HasStockFor old.config old.log.start (sum_of calls_in (items_from old.at_start items)) → count_wanting new.log.past ≡ 0)
    → SufficesFor new.config new.log.limits (items_from new.at_start items) → HasStockFor new.config new.log.start (sum_of calls_in (items_from new.at_start items)) → count_wanting new.log.past ≡ 0
served_still old new items stays served s stock = served
    (subst (λ (state : State). SufficesFor old.config old.log.limits (items_from state items)) stays.at_start
    (subst (λ (limits : Limits). SufficesFor old.config limits (items_from new.at_start items)) stays.limits
    (subst (λ (c : Config). SufficesFor c new.log.limits (items_from new.at_start items)) stays.config s)))
    (subst (λ (state : State). HasStockFor old.config old.log.start (sum_of calls_in (items_from state items))) stays.at_start
    (subst (λ (start : List ℕ). HasStockFor old.config start (sum_of calls_in (items_from new.at_start items))) stays.start
    (subst (λ (c : Config). HasStockFor c new.log.start (sum_of calls_in (items_from new.at_start items))) stays.config stock)))

-- an item was done
pub run_affords : (supplied : Bool) (old new : WorldView) (queue left : Queued) (armed : Option CutPlan) (plan : Plan) (rest : List Item) (how : ItemsEnd) → power_in old ≡ power.On → Affords supplied old queue.calls armed (Run plan ∷ rest) → HasDone armed old queue (Run plan) how None new left
    → (armed ≡ None → plan ≡ Alone → AreClosed old.log.past → HasEnough old queue.calls → (how ≡ end.Finished) × AreServed old queue new left × (HasSupply old queue.calls → AreSupplied old queue new left)) → (how ≡ end.Finished) × Affords supplied new left.calls None rest
run_affords supplied old new queue left armed plan rest how before a done serves =
    let none = unarmed-run armed plan rest a.unarmed in
    let served = serves none (runs_alone supplied old queue.calls armed plan rest a) a.closed (has_enough supplied old queue.calls armed plan rest a) in
    let whole : HasDone armed old queue (Run plan) end.Finished None new left = subst (λ (e : ItemsEnd). HasDone armed old queue (Run plan) e None new left) served.0 done in
    (served.0, affords-run supplied old new queue left armed plan rest (record { stays = whole.stays; before = before; after = whole.power none; served = served.1; supplied = served.2 }) a)

pub power_affords : (supplied : Bool) (old new : WorldView) (waiting left : List (ℕ × Call)) (armed : Option CutPlan) (rest : List Item) (how : RunEnd) → Affords supplied old waiting armed (Power ∷ rest) → HasPower armed old how new → ComesOn armed old how new → left ≡ left_after how waiting
    → (end_in how ≡ end.Finished) × Affords supplied new left None rest
power_affords supplied old new waiting left armed rest how a done comes is =
    let on = comes (unarmed-power armed rest a.unarmed) (omega (arith, a.marks)) in
    let whole : HasPower armed old Finished new = subst (λ (e : RunEnd). HasPower armed old e new) on.0 done in
    (ap end_in on.0, affords-power supplied old new waiting left armed rest (is ∙ ap (λ (e : RunEnd). left_after e waiting) on.0) whole.0 whole.1 on.1 a)

-- the power is on at first, or comes on
at-start : (world : WorldView) (state : State) → world.log.past ≡ [] → power_in world ≡ state → world.at_start ≡ state
at-start world state new is = rw new at is

pub on_affords : (supplied : Bool) (world : WorldView) (items : List Item) → world.log.past ≡ [] → power_in world ≡ power.On → Affords supplied world [] None (items_from world.at_start items) → Affords supplied world [] None items
on_affords supplied world items new on a = subst (Affords supplied world [] None) (from_on world.at_start items (at-start world power.On new on)) a

pub off_affords : (supplied : Bool) (old new : WorldView) (items : List Item) (how : RunEnd) → old.log.past ≡ [] → power_in old ≡ power.Off → Affords supplied old [] None (items_from old.at_start items) → HasPower None old how new → ComesOn None old how new → (end_in how ≡ end.Finished) × Affords supplied new [] None items
off_affords supplied old new items how first off a done comes =
    power_affords supplied old new [] [] None items how (subst (Affords supplied old [] None) (from_off old.at_start items (at-start old power.Off first off)) a) done comes (none how)
  where
    none : (how : RunEnd) → [] ≡ left_after how []
    none Cut = refl
    none how = refl

-- after the last item no call has ended for want
pub wants_nothing : (supplied : Bool) (world : WorldView) (waiting : List (ℕ × Call)) (armed : Option CutPlan) (items : List Item) → Affords supplied world waiting armed items → WantsNothingIf supplied world
wants_nothing supplied world waiting armed items a = by supplied a.supplies
  where
    by : (b : Bool) → SuppliesIf b world (length waiting + sum_of calls_in items) → WantsNothingIf b world
    by true s = s.wanting
    by false s = tt

-- the items that are left begin with this one
pub affords_here : (supplied : Bool) (items : List Item) (i : ℕ) (item : Item) (armed : Option CutPlan) (world : WorldView) (waiting : List (ℕ × Call)) → i < length items → item ≡ get_or items i item → Affords supplied world waiting armed (drop i items) → Affords supplied world waiting armed (item ∷ drop (i + 1) items)
affords_here supplied items i item armed world waiting lt is a = subst (Affords supplied world waiting armed) (here_is items i item lt is) a
