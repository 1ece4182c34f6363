-- What callers see of a world, and what it answers.
use Rattle.std.specs.Prelude.{◌≡◌, ◌≢◌, ◌<◌, ◌≤◌, ◌⊎◌, ℕ, zero, suc, ◌+◌, ◌-◌, ◌*◌, Bool, true, false, ◌==◌, ◌||◌, ◌&&◌, nat_lt, nat_le, if◌then◌else◌, is_some, is_none, get_or, slice_set, slice_index, replicate, count_by, List, [], ◌∷◌, ◌++◌, length, Option, Some, None, option_map, MatchOption}
use Rattle.std.specs.FinMap.{len}
use Rattle.std.specs.List.{range_with_len}
use Rattle.bz_swap_acts.specs.Rule.{is_fence_act}
use Rattle.bz_swap_acts.specs.declared.acted.Act.{Act}
use Rattle.bz_solo.specs.FromAlone.Reads.{get_reads}
use Rattle.bz_call.specs.Pages.{is_page}
use Rattle.bz_call.specs.declared.calls.Call.{Call}
use Rattle.bz_call.specs.declared.calls.Call.TheVariants as call
use Rattle.bz_call.specs.declared.replies.Reply.{Reply}
use Rattle.bz_call.specs.declared.replies.Reply.TheVariants.{Deleted, Exists, Inserted, Missing, Updated, Value, Page, Full}
use Rattle.bz_call.specs.declared.replies.Spent.{Spent}
use Rattle.bz_call.specs.declared.replies.Spent.TheVariants.{Nodes, Swaps, Height}
use Rattle.bz_content.specs.Content.{image_fault}
use Rattle.bz_solo.specs.FromCosts.Solo.{begin_marks}
use Rattle.bz_layout.specs.Addresses.{words_of}
use Rattle.bz_layout.specs.Config.{IsConfig, IsFirstOutOfRange}
use Rattle.bz_layout.specs.Fresh.{fresh_words}
use Rattle.bz_layout.specs.declared.config.Config.{Config}
use Rattle.bz_layout.specs.declared.thresholds.TheConstants.{MARKS_PER_CALL, SLOTS_PER_CALL, SPLIT_SLOTS, SWAPS_PER_CALL}
use Rattle.bz_mark.specs.Log.{Log, with_mark, count_begins, count_page_calls, count_page_ends}
use Rattle.bz_mark.specs.declared.marks.Mark.{Mark}
use Rattle.bz_mark.specs.declared.marks.Mark.TheVariants.{Begin, End, Load, Store, Cas, Ask, Fence, Evict, Cut, On, Ready, Effect}
use Rattle.bz_recover.specs.Places.{MOST_ACTS}
use Rattle.bz_mark.specs.declared.power.Power.{Power}
use Rattle.bz_mark.specs.declared.power.Power.TheVariants as power
use Rattle.bz_sound.specs.Calls.{Open, open_call, begun_calls, map_after}
use Rattle.bz_sound.specs.Solitary.{IsSolitary, acts_since}
use Rattle.bz_sound.specs.Memory.Moments.{map_at_start, image_after, image_at}
use Rattle.bz_sound.specs.Memory.Spent.{NeedsSlots, is_reached_in}
use Rattle.bz_mark.specs.Times.{power_of, since_on}
pub use Rattle.bz_swap_marks.specs.Marks.{mark_of}
use Rattle.bz_sound.specs.Power.Times.{image_at_on}
use Rattle.bz_sound.specs.Replies.{Pages}
use Rattle.bz_mark.specs.Counts.{acts_by}
use Rattle.bz_world.specs.Merges.{MergesFor}
use Rattle.bz_world.specs.Roomy.{HadRoom, swaps_told}
use Rattle.bz_world.specs.declared.answers.Applied.{Applied}
use Rattle.bz_world.specs.declared.answers.Applied.TheVariants as applied
use Rattle.bz_world.specs.declared.answers.Begun.{Begun}
use Rattle.bz_world.specs.declared.answers.Begun.TheVariants as begun
use Rattle.bz_world.specs.declared.answers.Event.{Event}
use Rattle.bz_world.specs.declared.answers.Event.TheVariants as event
use Rattle.bz_world.specs.declared.answers.BootError.{BootError}
use Rattle.bz_world.specs.declared.answers.BootError.TheVariants as boot_error
use Rattle.bz_world.specs.declared.answers.OpenError.{OpenError}
use Rattle.bz_world.specs.declared.answers.OpenError.TheVariants as open_error
use Rattle.bz_world.specs.declared.answers.LimitKind.TheVariants as which

-- how many descriptors were taken since the power came on, and how many slots of nodes are free
pub record Supply : Type 0 where
  pub taken : ℕ
  pub left : ℕ

-- with the power on; else nothing is told
abbrev pub supply_by : Power → Supply → Supply
supply_by power.On supply = supply
supply_by other supply = record { taken = 0; left = 0 }

-- the numbers that the world was made with, what the power was at first, its journal, and of each worker, from worker 0 on, whether its next act is a fence,
-- whether it has a swap under way, and whether its next act was a fence when the power was cut last; before the first cut nobody has a flag of that last kind;
-- what is taken and left; and what was when the newest call began
pub record WorldView : Type 0 where
  pub config : Config
  pub at_start : Power
  pub log : Log
  pub flushes : List Bool
  pub swapping : List Bool
  pub left_out : List Bool
  pub supply : Supply
  pub at_begin : Supply

-- whether the next act of a worker is a fence
abbrev pub flush_of : WorldView → ℕ → Bool
flush_of lab w = get_or lab.flushes w false

-- whether a worker has a swap under way: it has begun one, and has not been told what came of it
abbrev pub is_swapping : WorldView → ℕ → Bool
is_swapping lab w = get_or lab.swapping w false

-- whether the act of a worker that the last power cut left out was a fence
abbrev pub flush_left_out : WorldView → ℕ → Bool
flush_left_out lab w = get_or lab.left_out w false

-- a world over these words, in which nothing has happened: of fresh memory all slots are free but the root's
abbrev pub view_over : Config → List ℕ → Power → WorldView
view_over config start at_start = record {
  config = config;
  at_start = at_start;
  log = record { start = start; past = []; pages = []; limits = record { marks = config.marks; calls = config.calls; pages = config.pages } };
  flushes = replicate (config.workers + 1) false;
  swapping = replicate (config.workers + 1) false;
  left_out = [];
  supply = supply_by at_start (record { taken = 0; left = config.nodes - 1 });
  at_begin = record { taken = 0; left = 0 };
}

-- over fresh memory its power is on
abbrev pub new_view : Config → WorldView
new_view config = view_over config (fresh_words config) power.On

-- over an image, such as a power cut leaves, it is off
abbrev pub image_view : Config → List ℕ → WorldView
image_view config image = view_over config image power.Off

-- what the power is
abbrev pub power_in : WorldView → Power
power_in lab = power_of lab.at_start lab.log.past

-- how many acts worker 0 has made since the power came on last, and in a recovery fewer than this
abbrev pub recovery_acts : WorldView → ℕ
recovery_acts lab = acts_by 0 (since_on lab.log.past)

abbrev pub recovery_most : Config → ℕ
recovery_most c = MOST_ACTS * words_of c

-- the call deletes its key
abbrev pub is_delete : Call → Bool
is_delete (call.Delete key) = true
is_delete (call.Insert key payload) = false
is_delete (call.Update key payload) = false
is_delete (call.Upsert key payload) = false
is_delete (call.Get key) = false
is_delete (call.Page key) = false

-- an open call that has had its effect does nothing but finish the swap that made it, and ends when that is told: but for a delete, which may go on to have its leaf
-- merged. So none looks for its key again once its change stands
abbrev pub AreFinishing : WorldView → Type 0
AreFinishing lab = (w at : ℕ) (opened : Open) → open_call w lab.log.past ≡ Some opened → opened.effect ≡ Some at → is_delete opened.call ≡ false → is_swapping lab w ≡ true

-- the number of a worker's open call, if one is open
abbrev pub open_number : WorldView → ℕ → Option ℕ
open_number lab w = option_map (λ (opened : Open). opened.number) (open_call w lab.log.past)

-- the reply of the call with this number of a worker, if the marks have its End
abbrev pub reply_of : ℕ → ℕ → List Mark → Option Reply
reply_of w n [] = None
reply_of w n (End v m reply at ∷ past) = if (v == w) && (m == n) then Some reply else reply_of w n past
reply_of w n (mark ∷ past) = reply_of w n past

-- how many pairs the map has after all effects
abbrev pub pairs_in : WorldView → ℕ
pairs_in lab = len (map_after (map_at_start lab.config lab.log.start) lab.log.past)

-- why no world was opened: the first number out of its range, or want of memory, and then none is
abbrev pub IsOpenFault : Config → OpenError → Type 0
IsOpenFault config (open_error.Config error) = IsFirstOutOfRange config error
IsOpenFault config open_error.Memory = IsConfig config

-- why none was opened over an image: the first number out of its range, the first rule that the image breaks, or want of memory
abbrev pub IsBootFault : Config → List ℕ → BootError → Type 0
IsBootFault config image (boot_error.Config error) = IsFirstOutOfRange config error
IsBootFault config image (boot_error.Shape fault) = IsConfig config × (image_fault config (slice_index image) ≡ Some fault)
IsBootFault config image boot_error.Memory = IsConfig config

-- the workers that make calls
pub record IsWorker (config : Config) (w : ℕ) : Type 0 where
  pub some : 0 < w
  pub in_range : w ≤ config.workers

-- fewer than three places are left in the journal
abbrev pub is_short : Log → Bool
is_short log = nat_lt (log.limits.marks - length log.past) 3

-- the call asks for a page, and as many of these have begun as may
abbrev pub lacks_page : Log → Call → Bool
lacks_page log called = is_page called && nat_le log.limits.pages (count_page_calls log.past)

-- the answer to a begin with the power on: the first refusal that applies, or else the call's number
abbrev pub powered_answer : WorldView → ℕ → Call → Begun
powered_answer lab w called =
    if is_some (open_call w lab.log.past) then begun.Busy
    else (if nat_le lab.log.limits.calls (count_begins lab.log.past) then begun.Limit which.Calls
    else (if lacks_page lab.log called then begun.Limit which.Pages
    else begun.Begun (begun_calls w lab.log.past + 1)))

abbrev pub answer_by : Power → WorldView → ℕ → Call → Begun
answer_by power.Off lab w called = begun.Off
answer_by power.Recovering lab w called = begun.Recovering
answer_by power.On lab w called = powered_answer lab w called

-- and to any begin
abbrev pub begin_answer : WorldView → ℕ → Call → Begun
begin_answer lab w called =
    if (w == 0) || nat_lt lab.config.workers w then begun.NoWorker
    else (if is_short lab.log then begun.Limit which.Marks
    else answer_by (power_in lab) lab w called)

-- a begin adds its mark where it is no refusal, and changes nothing else: a call's first act is no fence
abbrev pub after_begin : WorldView → ℕ → Call → Begun → WorldView
after_begin lab w called (begun.Begun n) = record lab { log = with_mark lab.log (Begin w n called); flushes = slice_set lab.flushes w false; swapping = slice_set lab.swapping w false; at_begin = lab.supply }
after_begin lab w called refusal = lab

-- a worker without an open call makes no step
abbrev pub idle_refusal : WorldView → ℕ → Option Applied
idle_refusal lab w = if is_none (open_call w lab.log.past) then Some applied.Idle else None

-- in a recovery worker 0 alone acts
abbrev pub step_by : Power → WorldView → ℕ → Option Applied
step_by power.Off lab w = Some applied.Off
step_by power.Recovering lab zero = None
step_by power.Recovering lab (suc w) = Some applied.Recovering
step_by power.On lab w = idle_refusal lab w

-- the first refusal of a step that applies
abbrev pub step_refusal : WorldView → ℕ → Option Applied
step_refusal lab w =
    if nat_lt lab.config.workers w then Some applied.NoWorker
    else (if is_short lab.log then Some applied.Limit
    else step_by (power_in lab) lab w)

-- nothing else than power on happens while the power is off
abbrev pub off_refusal : Power → Option Applied
off_refusal power.Off = Some applied.Off
off_refusal other = None

-- and of an eviction
abbrev pub evict_refusal : WorldView → ℕ → Option Applied
evict_refusal lab a =
    if nat_le (words_of lab.config) a then Some applied.NoWord
    else (if is_short lab.log then Some applied.Limit
    else off_refusal (power_in lab))

-- and of a power cut
abbrev pub cut_refusal : WorldView → Option Applied
cut_refusal lab =
    if is_short lab.log then Some applied.Limit
    else off_refusal (power_in lab)

-- and of power on
abbrev pub on_by : Power → Option Applied
on_by power.Off = None
on_by other = Some applied.Powered

abbrev pub on_refusal : WorldView → Option Applied
on_refusal lab =
    if is_short lab.log then Some applied.Limit
    else on_by (power_in lab)

-- the worker that made the newest act, if nothing else came since but that act's effect
abbrev pub stepper : List Mark → Option ℕ
stepper [] = None
stepper (Load w a v ∷ past) = Some w
stepper (Store w a v ∷ past) = Some w
stepper (Cas w a old new found ∷ past) = Some w
stepper (Ask w line ∷ past) = Some w
stepper (Fence w ∷ past) = Some w
stepper (Effect w n ∷ past) = stepper past
stepper (mark ∷ past) = None

abbrev pub is_stepper : ℕ → Option ℕ → Bool
is_stepper w None = false
is_stepper w (Some v) = v == w

-- the marks before the run of acts in which a worker steps alone; where it did not make the newest act, all
abbrev pub before_run : ℕ → List Mark → List Mark
before_run w [] = []
before_run w (mark ∷ past) = if is_stepper w (stepper (mark ∷ past)) then before_run w past else mark ∷ past

-- none of the workers up to this one has an open call
abbrev pub are_closed : ℕ → List Mark → Bool
are_closed zero past = is_none (open_call 0 past)
are_closed (suc w) past = is_none (open_call (suc w) past) && are_closed w past

-- the newest mark is the begin of a call of this worker, and no call was open before it
abbrev pub begins_solitary : Config → ℕ → List Mark → Bool
begins_solitary c w (Begin v n called ∷ past) = (v == w) && are_closed c.workers past
begins_solitary c w other = false

-- how many marks a run may take until its call has ended: one that follows directly the begin of its call, with no other call open; and any
abbrev pub run_marks : Config → Bool → ℕ
run_marks c true = MARKS_PER_CALL - begin_marks
run_marks c false = MARKS_PER_CALL * (c.workers + 2)

-- by how many marks the call of a worker has ended, if it steps alone after these
abbrev pub deadline_from : Config → ℕ → List Mark → ℕ
deadline_from c w before = length before + run_marks c (begins_solitary c w before)

-- its present run follows directly the begin of its call, with no other call open
abbrev pub RunsWhole : Config → ℕ → List Mark → Type 0
RunsWhole c w past = begins_solitary c w (before_run w past) ≡ true

-- and from the begin of its present run on
abbrev pub deadline : Config → ℕ → List Mark → ℕ
deadline c w past = deadline_from c w (before_run w past)

-- at most an Effect follows, of any worker's call
abbrev pub IsStruck : List Mark → List Mark → Type 0
IsStruck past new = (new ≡ past) ⊎ ((w : ℕ) × ((n : ℕ) × (new ≡ Effect w n ∷ past)))

-- then the worker's call goes on, or its End follows, with the page that it names if it names one
pub record IsEnding (old : Log) (w n : ℕ) (new : Log) : Type 0 where
  pub reply : Reply
  pub at : ℕ
  pub added : Pages
  pub is : new ≡ record old { past = End w n reply at ∷ old.past; pages = old.pages ++ added }
  pub pages : count_page_ends new.past ≡ count_page_ends old.past + length added

abbrev pub GoesOn : Log → ℕ → Applied → Log → Type 0
GoesOn old w applied.Stepped new = new ≡ old
GoesOn old w (applied.Ended n) new = IsEnding old w n new
GoesOn old w other new = ⊥

-- at most one descriptor is taken, and at most so many slots; none comes back
pub record Spends (slots : ℕ) (old new : Supply) : Type 0 where
  pub taken : (new.taken ≡ old.taken) ⊎ (new.taken ≡ old.taken + 1)
  pub fewer : new.left ≤ old.left
  pub few : old.left ≤ new.left + slots

-- fewer slots are left than it took, at a moment of the worker's open call, to make the frozen leaf of its key anew
pub record LacksSlots (config : Config) (log : Log) (w left : ℕ) : Type 0 where
  pub opened : Open
  pub is_open : open_call w log.past ≡ Some opened
  pub slots : ℕ
  pub needs : NeedsSlots config log.start log.past opened slots
  pub lacks : left < slots

-- what a Full names has run out: every descriptor is taken, or the slots are not left. That a tree is too high shows in the journal
abbrev pub HasRunOut : Config → Log → ℕ → Supply → Spent → Type 0
HasRunOut config log w supply Swaps = supply.taken ≡ config.swaps
HasRunOut config log w supply Nodes = LacksSlots config log w supply.left
HasRunOut config log w supply Height = Unit {0}

-- a Full ends the worker's call only where what it names has run out
abbrev pub EndsFullRightly : Config → Log → ℕ → Log → Supply → Type 0
EndsFullRightly config old w new supply = (n at : ℕ) (spent : Spent) → new.past ≡ End w n (Full spent) at ∷ old.past → HasRunOut config old w supply spent

-- a call has taken no more than is promised for each, since its begin
pub record KeepsSupply (begun supply : Supply) : Type 0 where
  pub swaps : supply.taken ≤ begun.taken + SWAPS_PER_CALL
  pub slots : begun.left ≤ supply.left + SLOTS_PER_CALL

-- at its begin less was left of it than is promised for each
abbrev pub HadFew : Config → Supply → Spent → Type 0
HadFew config begun Swaps = config.swaps < begun.taken + SWAPS_PER_CALL
HadFew config begun Nodes = begun.left < SLOTS_PER_CALL
HadFew config begun Height = Unit {0}

-- a Full ends the worker's call, of something of which there was little at its begin
abbrev pub EndsFullOfLittle : Config → Log → ℕ → Log → Supply → Type 0
EndsFullOfLittle config old w new begun = (n at : ℕ) (spent : Spent) → new.past ≡ End w n (Full spent) at ∷ old.past → HadFew config begun spent

-- a solitary get, during which no other call was open, ends after at most twice as many acts as the reads that a get may ask for: of the
-- inner nodes above the leaf of its key and of that leaf, in the image of the moment that its reply is of. So none reads its leaf whole
abbrev pub GetsBriefly : Config → Log → ℕ → Log → Type 0
GetsBriefly config old w new =
    (n at : ℕ) (reply : Reply) (opened : Open) (key : List ℕ) → new.past ≡ End w n reply at ∷ old.past → open_call w old.past ≡ Some opened → opened.call ≡ call.Get key → IsSolitary w old.past →
    acts_since w old.past ≤ 2 * get_reads config (image_at old.start at old.past) key

-- a reply that tells of no change, and of no want
abbrev pub tells_only : Reply → Bool
tells_only Exists = true
tells_only Missing = true
tells_only (Value payload) = true
tells_only (Page page next) = true
tells_only Inserted = false
tells_only (Updated had) = false
tells_only (Deleted had) = false
tells_only (Full spent) = false

-- a call that is answered so, and beside which no other was open, has taken neither descriptors nor slots since its begin
abbrev pub EndsUnspent : Log → ℕ → Log → Supply → Supply → Type 0
EndsUnspent old w new begun supply = (n at : ℕ) (reply : Reply) → new.past ≡ End w n reply at ∷ old.past → tells_only reply ≡ true → IsSolitary w old.past → supply ≡ begun

-- so many descriptors were taken, and no slot, where the leaf had room; a Full is of no other than descriptors then, and at most one was taken
abbrev pub TakesAsTold : Supply → Supply → Reply → Type 0
TakesAsTold begun supply Inserted = supply ≡ record begun { taken = begun.taken + swaps_told Inserted }
TakesAsTold begun supply (Updated had) = supply ≡ record begun { taken = begun.taken + swaps_told (Updated had) }
TakesAsTold begun supply (Deleted had) = supply ≡ record begun { taken = begun.taken + swaps_told (Deleted had) }
TakesAsTold begun supply (Full Swaps) = (supply.taken ≤ begun.taken + 1) × (supply.left ≡ begun.left)
TakesAsTold begun supply (Full Nodes) = ⊥
TakesAsTold begun supply (Full Height) = ⊥
TakesAsTold begun supply Exists = Unit {0}
TakesAsTold begun supply Missing = Unit {0}
TakesAsTold begun supply (Value payload) = Unit {0}
TakesAsTold begun supply (Page page next) = Unit {0}

-- so is a call answered beside which no other was open, and whose leaf had room when it began
abbrev pub EndsAsTold : Config → Log → ℕ → Log → Supply → Supply → Type 0
EndsAsTold c old w new begun supply = (n at : ℕ) (reply : Reply) (opened : Open) → new.past ≡ End w n reply at ∷ old.past → open_call w old.past ≡ Some opened → IsSolitary w old.past → HadRoom c old.start old.past opened → TakesAsTold begun supply reply

-- and of a delete beside which no other was open the leaf is merged, where that has too few live words then and a neighbour has room; unless slots or descriptors are short
abbrev pub EndsMerged : Config → Log → ℕ → Log → Type 0
EndsMerged c old w new = (n at : ℕ) (reply : Reply) → new.past ≡ End w n reply at ∷ old.past → MergesFor c old.start old.past w reply

-- a step of a worker: exactly one act of it, a fence exactly where that was said before; at most one effect; at most its
-- call's End, which is a Full only where what that names has run out, and that of a solitary get only after few acts. At most as many
-- slots are taken as a split takes: a task that this act ends takes none, and where it goes on no other task comes. What the next acts of
-- the others are stays, and which of them have a swap under way.
pub record Steps (old : WorldView) (w : ℕ) (answer : Applied) (new : WorldView) : Type 0 where
  pub made : Act
  pub flush : is_fence_act made ≡ flush_of old w
  pub struck : List Mark
  pub effect : IsStruck (mark_of w made ∷ old.log.past) struck
  pub ends : GoesOn (record old.log { past = struck }) w answer new.log
  pub spends : Spends SPLIT_SLOTS old.supply new.supply
  pub full : EndsFullRightly new.config (record old.log { past = struck }) w new.log new.supply
  pub config : new.config ≡ old.config
  pub at_start : new.at_start ≡ old.at_start
  pub left_out : new.left_out ≡ old.left_out
  pub others : (v : ℕ) → v ≢ w → flush_of new v ≡ flush_of old v
  pub apart : (v : ℕ) → v ≢ w → is_swapping new v ≡ is_swapping old v
  pub brief : GetsBriefly new.config (record old.log { past = struck }) w new.log
  -- a worker that steps alone ends its call within so many marks, whatever the others have come to: their swaps under way, and words that
  -- they reserved; and within fewer where it has done so since the call's begin, and no other call was open then
  pub solo : length new.log.past ≤ deadline new.config w struck
  -- and then it takes no more descriptors and slots than are promised for each call, and is Full of them only where there were fewer at its begin
  pub at_begin : new.at_begin ≡ old.at_begin
  pub supplied : RunsWhole new.config w struck → KeepsSupply new.at_begin new.supply
  pub little : RunsWhole new.config w struck → EndsFullOfLittle new.config (record old.log { past = struck }) w new.log new.at_begin
  -- and where no other call was open beside it, whatever was evicted, it takes none for a reply that tells of no change
  pub unspent : EndsUnspent (record old.log { past = struck }) w new.log new.at_begin new.supply
  -- and of one that changes a record in a leaf with room for that as many descriptors as its reply tells
  pub exact : EndsAsTold new.config (record old.log { past = struck }) w new.log new.at_begin new.supply
  pub merged : EndsMerged new.config (record old.log { past = struck }) w new.log

-- the recovery goes on, or has ended with this act: its Ready follows directly
abbrev pub EndsRecovery : Log → Applied → Log → Type 0
EndsRecovery old applied.Stepped new = new ≡ old
EndsRecovery old applied.Ready new = new ≡ with_mark old Ready
EndsRecovery old other new = ⊥

-- how many slots of nodes the tree of an image reaches
abbrev pub count_in : Config → (ℕ → ℕ) → ℕ
count_in config image = count_by (λ slot. is_reached_in config image slot) (range_with_len 0 config.nodes)

-- and that of the image at power on
abbrev pub count_reached : Config → Log → ℕ
count_reached config log = count_in config (image_at_on log.start log.past)

-- while the power is on, none of the slots that the tree of the durable words reaches is free
abbrev pub KeepsApart : WorldView → Type 0
KeepsApart lab = power_in lab ≡ power.On → lab.supply.left + count_in lab.config (image_after lab.log.start lab.log.past) ≤ lab.config.nodes

-- then no descriptor is taken yet, and all slots are free but those
abbrev pub GivesBack : Config → Log → Applied → Supply → Supply → Type 0
GivesBack config log applied.Ready old new = (new.taken ≡ 0) × (new.left + count_reached config log ≡ config.nodes)
GivesBack config log other old new = new ≡ old

-- a step of the recovery: exactly one act of worker 0, a fence exactly where that was said before; and with it fewer have been made than so many a word
pub record Recovers (old : WorldView) (answer : Applied) (new : WorldView) : Type 0 where
  pub made : Act
  pub flush : is_fence_act made ≡ flush_of old 0
  pub few : acts_by 0 (since_on (mark_of 0 made ∷ old.log.past)) < recovery_most old.config
  pub ends : EndsRecovery (with_mark old.log (mark_of 0 made)) answer new.log
  pub supply : GivesBack new.config new.log answer old.supply new.supply
  pub at_begin : new.at_begin ≡ old.at_begin
  pub config : new.config ≡ old.config
  pub at_start : new.at_start ≡ old.at_start
  pub left_out : new.left_out ≡ old.left_out
  pub others : (v : ℕ) → v ≢ 0 → flush_of new v ≡ flush_of old v
  pub apart : (v : ℕ) → v ≢ 0 → is_swapping new v ≡ is_swapping old v

abbrev pub StepsBy : Power → WorldView → ℕ → Applied → WorldView → Type 0
StepsBy power.Recovering old w answer new = Recovers old answer new
StepsBy other old w answer new = Steps old w answer new

-- an eviction: its mark, and at most one effect
pub record Evicts (old : WorldView) (a : ℕ) (answer : Applied) (new : WorldView) : Type 0 where
  pub answered : answer ≡ applied.Evicted
  pub past : List Mark
  pub effect : IsStruck (Evict a ∷ old.log.past) past
  pub rest : new ≡ record old { log = record old.log { past = past } }

-- a power cut adds its mark, and nobody has a next act: which of them were fences is kept. What was taken is told no more
abbrev pub after_cut : WorldView → WorldView
after_cut lab = record lab { log = with_mark lab.log Cut; flushes = replicate (lab.config.workers + 1) false; swapping = replicate (lab.config.workers + 1) false; left_out = lab.flushes; supply = supply_by power.Off lab.supply }

-- power on adds its mark: the first act of a recovery is no fence
abbrev pub after_on : WorldView → WorldView
after_on lab = record lab { log = with_mark lab.log On; flushes = slice_set lab.flushes 0 false; swapping = slice_set lab.swapping 0 false }

-- the answer to an event: a refusal exactly where one applies, and then nothing changes
abbrev pub IsApplied : WorldView → Event → Applied → WorldView → Type 0
IsApplied old (event.Step w) answer new = MatchOption (step_refusal old w) (StepsBy (power_in old) old w answer new) (λ refusal. (answer ≡ refusal) × (new ≡ old))
IsApplied old (event.Evict a) answer new = MatchOption (evict_refusal old a) (Evicts old a answer new) (λ refusal. (answer ≡ refusal) × (new ≡ old))
IsApplied old event.Cut answer new = MatchOption (cut_refusal old) ((answer ≡ applied.Cut) × (new ≡ after_cut old)) (λ refusal. (answer ≡ refusal) × (new ≡ old))
IsApplied old event.On answer new = MatchOption (on_refusal old) ((answer ≡ applied.On) × (new ≡ after_on old)) (λ refusal. (answer ≡ refusal) × (new ≡ old))
