-- The budget of a worker: how many steps it takes at most while it steps alone, as a number that each of them lowers.
use Rattle.std.specs.Prelude.{if◌then◌else◌, ℕ, ◌+◌, ◌-◌, ◌*◌, ◌==◌, ◌&&◌, ◌||◌, not, nat_lt, Bool, true, false, Some, None}
use Rattle.std.specs.declared.option.Option.{Option}
use Rattle.bz_swap_machine.specs.declared.status.Verdict.{Verdict}
use Rattle.bz_swap_machine.specs.declared.place.Place.{Place}
use Rattle.bz_swap_machine.specs.declared.place.Place.TheVariants.{Idle, Prepare, Learn, Help, ReadWord, AskRead, FenceRead, ClearRead, LoadWord, StoreWord, AskLine, FenceLine}
use Rattle.bz_swap_machine.specs.declared.place.PrepareStep.{PrepareStep}
use Rattle.bz_swap_machine.specs.declared.place.PrepareStep.TheVariants.{WriteWord, WriteStatus, AskHead, AskTail, FenceDescriptor}
use Rattle.bz_swap_machine.specs.declared.place.HelpStep.{HelpStep}
use Rattle.bz_swap_machine.specs.declared.place.HelpStep.TheVariants.{Look, InstallTag, LookUnderTag, InstallPointer, RemoveTag, AskDirty, FenceDirty, ClearDirty, AskTarget, FenceTargets, Decide, AskStatus, FenceStatus, ClearStatus, PutFinal, AskFinal, FenceFinal, ClearFinal, SweepTag}
use Rattle.bz_swap_machine.specs.declared.worker.Operation.{Operation}
use Rattle.bz_swap_machine.specs.declared.worker.Operation.TheVariants.{Nothing, Reading, Swapping}
use Rattle.bz_swap_machine.specs.HelpActs.{final_value}
use Rattle.bz_swap_machine.specs.State.{State}
use Rattle.bz_swap_machine.specs.Steps.{Local, is_own}
use Rattle.bz_swap_machine.specs.Allowed.{sum_below, counted, is_busy, for_worker}
use Rattle.bz_swap_machine.specs.Sizes.{most_entries, descriptor_words}
use Rattle.bz_swap_machine.specs.Standing.{Scene, scene_of, target_at, is_through, missing, top, swap_of, is_open_at, is_open}

-- a visit that ends by meeting another swap: thirteen words to learn, the status, and four entries
abbrev pub level : ℕ
level = 18

abbrev pub half_level : ℕ
half_level = 9

-- what the first visit of a walk takes beyond its level
abbrev pub for_first : ℕ
for_first = 26

-- a visit to a swap that is through, which sweeps its tags; the visit back that follows; and both, to a tag that is met
abbrev pub for_sweep : ℕ
for_sweep = 43

abbrev pub for_return : ℕ
for_return = 44

abbrev pub for_tag : ℕ
for_tag = 92

-- a visit that comes by the own swap, on the way to a higher one
abbrev pub for_detour : ℕ
for_detour = 46

-- a pointer that a swap has yet to put
abbrev pub for_pointer : ℕ
for_pointer = 2

-- a dirty value: its ask, its fence, a compare-and-swap, and the act again
abbrev pub for_dirty : ℕ
for_dirty = 4

-- a swap that is completed, beside the walk along those that are left
abbrev pub for_close : ℕ
for_close = 118

-- what w goes by no longer holds: more than any budget without what the others allow; and each entry that it may yet try
abbrev pub for_stale : ℕ
for_stale = 400

abbrev pub for_stale_entry : ℕ
for_stale_entry = 20

-- the sum over the workers other than w, of so many
abbrev pub sum_others : ℕ → (ℕ → ℕ) → ℕ → ℕ
sum_others w f n = sum_below (λ v. if v == w then 0 else f v) n

-- how many others have an open swap, and how many of these reach higher than swap s
abbrev pub open_count : Scene → ℕ → ℕ → ℕ
open_count x w n = sum_others w (λ v. counted (is_open x v) 1) n

abbrev pub open_above : Scene → ℕ → ℕ → ℕ → ℕ
open_above x w n s = sum_others w (λ v. counted (is_open x v && nat_lt (top x s) (top x (swap_of (x.local v).operation))) 1) n

-- the walk along u open swaps that is still to come, where so many are above a swap: from the own operation; from a visit to another's swap s, by its
-- status; from one that is gone back to; and while a swap is visited
abbrev pub walk_home : ℕ → ℕ
walk_home u = level * u

abbrev pub walk_from : Scene → (ℕ → ℕ) → ℕ → ℕ
walk_from x above s = if x.decided s then 0 else level * above s

abbrev pub walk_back : Scene → ℕ → (ℕ → ℕ) → Local → Option ℕ → ℕ
walk_back x u above l None = walk_home u
walk_back x u above l (Some b) = if is_own l.operation b || is_through x b then walk_home u + for_return else walk_from x above b

-- the current swap is another's, and through
abbrev pub is_over : Scene → Local → Bool
is_over x l = not (is_own l.operation l.current) && is_through x l.current

abbrev pub walk_on : Scene → ℕ → (ℕ → ℕ) → Local → ℕ
walk_on x u above l =
    if is_own l.operation l.current then walk_home u
    else if is_through x l.current then walk_back x u above l l.back + for_sweep
    else walk_from x above l.current

abbrev pub walk_at : Scene → ℕ → (ℕ → ℕ) → Local → Place → ℕ
walk_at x u above l (Learn k) = walk_on x u above l
walk_at x u above l (Help step) = walk_on x u above l
walk_at x u above l place = walk_home u

-- kept for the first visit of the next walk
abbrev pub if_any : ℕ → ℕ
if_any u = if u == 0 then 0 else for_first

abbrev pub reserve_by : Operation → ℕ → ℕ
reserve_by Nothing k = k
reserve_by (Reading a) k = k
reserve_by (Swapping s) k = for_first

abbrev pub reserve : Place → Operation → ℕ → ℕ
reserve Idle o u = if_any u
reserve (Learn k) o u = reserve_by o 0
reserve (Help step) o u = reserve_by o 0
reserve place o u = reserve_by o (if_any u)

-- the own swap reaches higher than swap s, which is undecided: the walk can still come to it
abbrev pub lags : Scene → Operation → ℕ → Bool
lags x Nothing s = false
lags x (Reading a) s = false
lags x (Swapping o) s = not (o == s) && (not (x.decided s) && nat_lt (top x s) (top x o))

abbrev pub lags_back : Scene → Operation → Option ℕ → Bool
lags_back x o None = false
lags_back x o (Some b) = lags x o b

abbrev pub detour_on : Scene → ℕ → Local → ℕ
detour_on x u l =
    if not (is_own l.operation l.current) && (lags x l.operation l.current || lags_back x l.operation l.back) then level * u + for_detour
    else 0

abbrev pub detour : Scene → ℕ → Local → Place → ℕ
detour x u l (Learn k) = detour_on x u l
detour x u l (Help step) = detour_on x u l
detour x u l place = 0

-- pointers that the own swap has yet to put
abbrev pub own_missing_by : Scene → Operation → ℕ
own_missing_by x Nothing = 0
own_missing_by x (Reading a) = 0
own_missing_by x (Swapping s) = for_pointer * missing x s

abbrev pub own_missing : Scene → Place → Operation → ℕ
own_missing x Idle o = 0
own_missing x place o = own_missing_by x o

-- the acts left in this visit, where nothing stands in the way
abbrev pub left_in_prepare : PrepareStep → ℕ
left_in_prepare (WriteWord k) = 33 + (descriptor_words - k)
left_in_prepare WriteStatus = 33
left_in_prepare AskHead = 32
left_in_prepare AskTail = 31
left_in_prepare FenceDescriptor = 30

abbrev pub left_in_help : HelpStep → ℕ
left_in_help Look = 30
left_in_help (InstallTag i) = 25 + (most_entries - i)
left_in_help (LookUnderTag i v q) = 24 + (most_entries - i)
left_in_help (InstallPointer i v q) = 23 + (most_entries - i)
left_in_help (RemoveTag i v q) = 0
left_in_help (AskDirty i v) = 24 + (most_entries - i)
left_in_help (FenceDirty i v) = 23 + (most_entries - i)
left_in_help (ClearDirty i v) = 22 + (most_entries - i)
left_in_help (AskTarget i) = 21 + (most_entries - i)
left_in_help FenceTargets = 21
left_in_help (Decide d) = 20
left_in_help (AskStatus d) = 19
left_in_help (FenceStatus d) = 18
left_in_help (ClearStatus d) = 17
left_in_help (PutFinal i d) = 4 * (most_entries - i)
left_in_help (AskFinal i d) = 3 + 4 * (3 - i)
left_in_help (FenceFinal i d) = 2 + 4 * (3 - i)
left_in_help (ClearFinal i d) = 1 + 4 * (3 - i)
left_in_help (SweepTag i d v q) = 3 + 4 * (3 - i)

abbrev pub left_at : Place → ℕ
left_at Idle = 0
left_at (Prepare step) = left_in_prepare step
left_at (Learn k) = 30 + (descriptor_words - k)
left_at (Help step) = left_in_help step
left_at (ReadWord a) = 1
left_at (AskRead a v) = 4
left_at (FenceRead a v) = 3
left_at (ClearRead a v) = 2
left_at (LoadWord a) = 1
left_at (StoreWord a v) = 1
left_at (AskLine line) = 2
left_at (FenceLine line) = 1

-- the first entry at which this visit still takes tags away
abbrev pub swept_in : HelpStep → ℕ
swept_in (PutFinal i d) = i
swept_in (AskFinal i d) = i + 1
swept_in (FenceFinal i d) = i + 1
swept_in (ClearFinal i d) = i + 1
swept_in (SweepTag i d v q) = i
swept_in step = 0

abbrev pub swept_from : Place → ℕ
swept_from (Help step) = swept_in step
swept_from place = 0

abbrev pub is_visit : Place → Bool
is_visit (Learn k) = true
is_visit (Help step) = true
is_visit place = false

-- this is a visit to another's swap that is through: it takes away the tags of the swap
abbrev pub is_over_at : Scene → Local → Place → Bool
is_over_at x l place = is_visit place && is_over x l

-- a tag for entry i of swap s that such a visit of w takes away at no further cost
abbrev pub is_swept : Bool → Local → Place → ℕ → ℕ → Bool
is_swept over l place s i = over && ((s == l.current) && not (nat_lt i (swept_from place)))

-- a tag of worker v, which is k, that stands
abbrev pub tag_stands : Scene → Bool → Local → Place → ℕ → Local → ℕ → ℕ → ℕ → ℕ
tag_stands x over l place v k i u q =
    counted ((u == v) && (x.tag (target_at x k.current i) k.current i v q && not (is_swept over l place k.current i))) for_tag

abbrev pub cleans_in : Scene → ℕ → HelpStep → ℕ → ℕ → Bool
cleans_in x s (AskFinal i d) a v = ((x.entries s).target i == a) && (final_value (x.entries s) i d == v)
cleans_in x s (FenceFinal i d) a v = ((x.entries s).target i == a) && (final_value (x.entries s) i d == v)
cleans_in x s (ClearFinal i d) a v = ((x.entries s).target i == a) && (final_value (x.entries s) i d == v)
cleans_in x s step a v = false

-- worker w is about to clean this dirty value: its place counts what that takes
abbrev pub cleans_at : Scene → ℕ → Place → ℕ → ℕ → Bool
cleans_at x s (Help step) a v = cleans_in x s step a v
cleans_at x s (AskRead b u) a v = (b == a) && (u == v)
cleans_at x s (FenceRead b u) a v = (b == a) && (u == v)
cleans_at x s (ClearRead b u) a v = (b == a) && (u == v)
cleans_at x s place a v = false

-- a dirty value of worker v that stands
abbrev pub dirty_stands : Scene → Local → Place → ℕ → ℕ → Verdict → ℕ
dirty_stands x l place s i d =
    counted (x.dirty (target_at x s i) (final_value (x.entries s) i d) && not (cleans_at x l.current place ((x.entries s).target i) (final_value (x.entries s) i d))) for_dirty

abbrev pub left_by_help : Scene → Bool → Local → Place → ℕ → Local → HelpStep → ℕ
left_by_help x over l place v k (LookUnderTag i u q) = tag_stands x over l place v k i u q
left_by_help x over l place v k (InstallPointer i u q) = tag_stands x over l place v k i u q
left_by_help x over l place v k (RemoveTag i u q) = tag_stands x over l place v k i u q
left_by_help x over l place v k (AskFinal i d) = dirty_stands x l place k.current i d
left_by_help x over l place v k (FenceFinal i d) = dirty_stands x l place k.current i d
left_by_help x over l place v k (ClearFinal i d) = dirty_stands x l place k.current i d
left_by_help x over l place v k step = 0

abbrev pub left_by_place : Scene → Bool → Local → Place → ℕ → Local → Place → ℕ
left_by_place x over l place v k (Help step) = left_by_help x over l place v k step
left_by_place x over l place v k other = 0

-- what another worker has left for w: a tag or a dirty value, and the pointers of its swap
abbrev pub left_by : Scene → Bool → Local → Place → ℕ → Local → ℕ
left_by x over l place v k = left_by_place x over l place v k k.place + counted (is_open_at x k.place k.operation) (for_pointer * missing x (swap_of k.operation))

-- each open swap that is completed pays for one new walk along those that are left
abbrev pub for_walks : ℕ → ℕ
for_walks u = half_level * (u * (u + 1)) + for_close * u

-- what all others have left
abbrev pub left_by_others : Scene → ℕ → ℕ → Local → Place → ℕ
left_by_others x w n l place = sum_others w (λ v. left_by x (is_over_at x l place) l place v (x.local v)) n

-- while what w goes by still holds, with u open swaps, so many of them above a swap, and so much left by others
abbrev pub fresh_of : Scene → ℕ → (ℕ → ℕ) → ℕ → Local → Place → ℕ
fresh_of x u above rest l place = for_walks u + walk_at x u above l place + reserve place l.operation u + detour x u l place + own_missing x place l.operation + left_at place + rest

abbrev pub fresh_budget : Scene → ℕ → ℕ → Local → Place → ℕ
fresh_budget x w n l place = fresh_of x (open_count x w n) (open_above x w n) (left_by_others x w n l place) l place

-- whether what w goes by still holds: the swap is undecided, and the tag or the dirty value stands
abbrev pub is_fresh_in : Scene → ℕ → HelpStep → Bool
is_fresh_in x s (InstallTag i) = not (x.decided s)
is_fresh_in x s (LookUnderTag i v q) = not (x.decided s) && x.tag (target_at x s i) s i v q
is_fresh_in x s (InstallPointer i v q) = not (x.decided s) && x.tag (target_at x s i) s i v q
is_fresh_in x s (RemoveTag i v q) = false
is_fresh_in x s (AskDirty i v) = not (x.decided s) && x.dirty (target_at x s i) v
is_fresh_in x s (FenceDirty i v) = not (x.decided s) && x.dirty (target_at x s i) v
is_fresh_in x s (ClearDirty i v) = not (x.decided s) && x.dirty (target_at x s i) v
is_fresh_in x s (AskTarget i) = not (x.decided s)
is_fresh_in x s FenceTargets = not (x.decided s)
is_fresh_in x s (Decide d) = not (x.decided s)
is_fresh_in x s (SweepTag i d v q) = x.tag (target_at x s i) s i v q
is_fresh_in x s step = true

abbrev pub is_fresh_at : Scene → ℕ → Place → Bool
is_fresh_at x s (Help step) = is_fresh_in x s step
is_fresh_at x s (AskRead a v) = x.dirty a v
is_fresh_at x s (FenceRead a v) = x.dirty a v
is_fresh_at x s (ClearRead a v) = x.dirty a v
is_fresh_at x s place = true

-- the acts left until it goes by what holds
abbrev pub stale_in : Scene → ℕ → HelpStep → ℕ
stale_in x s (InstallTag i) = for_stale_entry * (most_entries - i) + (if x.any_dirty (target_at x s i) then 8 else 4)
stale_in x s (LookUnderTag i v q) = 2
stale_in x s (InstallPointer i v q) = if x.decided s then for_stale_entry * (most_entries - i) + 9 else 1
stale_in x s (RemoveTag i v q) = 1
stale_in x s (AskDirty i v) = for_stale_entry * (most_entries - i) + (if x.dirty (target_at x s i) v then 7 else 11)
stale_in x s (FenceDirty i v) = for_stale_entry * (most_entries - i) + (if x.dirty (target_at x s i) v then 6 else 10)
stale_in x s (ClearDirty i v) = for_stale_entry * (most_entries - i) + (if x.dirty (target_at x s i) v then 5 else 9)
stale_in x s (AskTarget i) = 7 + (most_entries - i)
stale_in x s FenceTargets = 6
stale_in x s (Decide d) = 1
stale_in x s (SweepTag i d v q) = 1
stale_in x s step = 0

abbrev pub stale_at : Scene → ℕ → Place → ℕ
stale_at x s (Help step) = stale_in x s step
stale_at x s (AskRead a v) = 3
stale_at x s (FenceRead a v) = 2
stale_at x s (ClearRead a v) = 1
stale_at x s place = 0

-- what the workers other than w allow
abbrev pub allowed_by_others : Scene → ℕ → ℕ → ℕ
allowed_by_others x w n = sum_others w (λ v. counted (is_busy (x.local v).place) for_worker) n

-- the budget of worker w, of n workers
abbrev pub budget_at : Scene → ℕ → ℕ → Local → Place → ℕ
budget_at x w n l place =
    if is_fresh_at x l.current place then fresh_budget x w n l place
    else allowed_by_others x w n + for_stale + stale_at x l.current place

abbrev pub budget : State → ℕ → ℕ → ℕ
budget x w n = budget_at (scene_of x) w n (x.local w) (x.local w).place
