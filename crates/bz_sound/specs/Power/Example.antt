-- Small journals with power cuts, worked out by hand over the memory of the worked insert: worker 1 inserts the key `a`,
-- whose swap in descriptor 1 is not decided yet. Its status stands at address 32. And the journals that differ
-- from them in one thing.
use Rattle.std.specs.Prelude.{◌≡◌, ℕ, true, false, List, [], ◌∷◌, map, slice_index, Some, None}
use Rattle.std.specs.List.{range_with_len}
use Rattle.std.specs.FinMap.{get}
use Rattle.bz_layout.specs.Addresses as layout
use Rattle.bz_content.specs.WorkedInsert.{small, undecided}
use Rattle.bz_call.specs.declared.calls.Call.TheVariants.{Insert, Get}
use Rattle.bz_call.specs.declared.replies.Reply.TheVariants.{Inserted, Value}
use Rattle.bz_mark.specs.Log.{Log}
use Rattle.bz_mark.specs.declared.marks.Mark.{Mark}
use Rattle.bz_mark.specs.declared.marks.Mark.TheVariants.{Begin, End, Load, Store, Fence, Evict, Cut, On, Ready, Effect}
use Rattle.bz_mark.specs.declared.power.Power.{Power}
use Rattle.bz_mark.specs.declared.power.Power.TheVariants as power
use Rattle.bz_sound.specs.Calls.{map_after}
use Rattle.bz_sound.specs.Memory.Example.{a_key}
use Rattle.bz_sound.specs.Memory.History.{Happening}
use Rattle.bz_sound.specs.Memory.Moments.{map_at_start, image_after}
use Rattle.bz_mark.specs.Counts.{is_taken}
use Rattle.bz_sound.specs.Memory.Spent.{is_stored_into}
use Rattle.bz_sound.specs.Power.History.{Happens}
use Rattle.bz_sound.specs.Power.Sound.{IsSound}
use Rattle.bz_mark.specs.Times.{power_of, since_on}
use Rattle.bz_sound.specs.Power.Times.{image_at_on}

-- the first words of an image
unfoldable pub words_below : (ℕ → ℕ) → ℕ → List ℕ
words_below image n = map image (range_with_len 0 n)

abbrev pub start : List ℕ
start = words_below undecided (layout.words_of small)

-- this memory, and these marks
abbrev pub journal : List Mark → Log
journal past = record { start = start; past = past; pages = []; limits = record { marks = 20; calls = 2; pages = 0 } }

-- the payload `1`
abbrev pub one : List ℕ
one = 49 ∷ []

-- the status says that the swap has succeeded, in the caches
abbrev pub decided : List Mark
decided = Store 1 32 2 ∷ Begin 1 1 (Insert a_key one) ∷ []

-- an eviction makes that durable, and so the effect of the call
abbrev pub took_effect : List Mark
took_effect = Effect 1 1 ∷ Evict 32 ∷ decided

-- the power fails directly after the effect, so that the call is never answered; or before the eviction
abbrev pub kept : List Mark
kept = Cut ∷ took_effect

abbrev pub lost : List Mark
lost = Cut ∷ decided

-- it comes on, worker 0 acts, and recovery ends
abbrev pub recovering : List Mark
recovering = Load 0 32 2 ∷ On ∷ kept

abbrev pub recovered : List Mark
recovered = Ready ∷ recovering

-- worker 1 asks for the key by its next call, and loads the root pointer
abbrev pub asking : List Mark
asking = Load 1 1 1 ∷ Begin 1 2 (Get a_key) ∷ recovered

-- the insert, which happened at its effect
abbrev pub the_insert : Happening
the_insert = record { worker = 1; opened = record { number = 1; call = Insert a_key one; begun = 0; effect = Some 3 }; at = 3 }

abbrev pub IsRight : Power → List Mark → Type 0
IsRight at_start past = IsSound small at_start (journal past)

abbrev pub IsRefused : Power → List Mark → Type 0
IsRefused at_start past = IsRight at_start past → ⊥

-- journals that are sound
pub record CutsAreRight : Type 0 where
  -- an effect became durable and its call was not answered: the map has it, and the next call finds it
  pub insert_kept : IsRight power.On kept
  pub kept_pair : get (map_after (map_at_start small start) kept) a_key ≡ Some one
  pub kept_call : Happens kept the_insert
  pub answered : IsRight power.On (End 1 2 (Value one) 10 ∷ asking)
  -- the power failed before it became durable: the map does not have it
  pub insert_lost : IsRight power.On lost
  pub lost_pair : get (map_after (map_at_start small start) lost) a_key ≡ None
  pub lost_word : IsRight power.On (Load 0 32 1 ∷ On ∷ lost)
  -- two cuts with an On between, a cut in recovery, and an eviction there
  pub twice : IsRight power.On (On ∷ Cut ∷ On ∷ kept)
  pub cut_again : IsRight power.On (On ∷ Cut ∷ recovering)
  pub evicted : IsRight power.On (Evict 32 ∷ recovering)
  -- an image that was read, with the power off: it comes on first
  pub booted : IsRight power.Off (Ready ∷ Load 0 32 1 ∷ On ∷ [])

-- and journals that no sound one is
pub record CutsAreRefused : Type 0 where
  -- a Begin while the power is off, and in recovery; one with a number that the worker has used, and one with a number too far
  pub begin_off : IsRefused power.On (Begin 1 2 (Get a_key) ∷ kept)
  pub begin_recovering : IsRefused power.On (Begin 1 2 (Get a_key) ∷ recovering)
  pub begun_anew : IsRefused power.On (Begin 1 1 (Get a_key) ∷ recovered)
  pub skipped : IsRefused power.On (Begin 1 3 (Get a_key) ∷ recovered)
  -- an act of worker 1 while the power is off, in recovery, and after it by the call that the cut ended
  pub act_off : IsRefused power.On (Load 1 1 1 ∷ kept)
  pub act_recovering : IsRefused power.On (Load 1 1 1 ∷ On ∷ kept)
  pub act_without_call : IsRefused power.On (Load 1 1 1 ∷ recovered)
  -- an act of worker 0 with the power on, off, and on again
  pub recovery_on : IsRefused power.On (Load 0 32 2 ∷ took_effect)
  pub recovery_off : IsRefused power.On (Load 0 32 2 ∷ kept)
  pub recovery_ended : IsRefused power.On (Load 0 32 2 ∷ recovered)
  -- the call that the cut ended is answered, and takes effect by recovery's fence
  pub answered_off : IsRefused power.On (End 1 1 Inserted 3 ∷ kept)
  pub answered_later : IsRefused power.On (End 1 1 Inserted 3 ∷ recovered)
  pub effect_later : IsRefused power.On (Effect 1 1 ∷ Fence 0 ∷ Load 0 32 1 ∷ On ∷ lost)
  -- a second effect of one call
  pub effect_again : IsRefused power.On (Effect 1 1 ∷ Fence 1 ∷ took_effect)
  -- On with the power on, in recovery and after it, and as the first mark of a world whose power is on
  pub on_on : IsRefused power.On (On ∷ took_effect)
  pub on_recovering : IsRefused power.On (On ∷ recovering)
  pub on_recovered : IsRefused power.On (On ∷ recovered)
  pub on_first : IsRefused power.On (On ∷ [])
  -- a cut while the power is off, and an eviction
  pub cut_off : IsRefused power.On (Cut ∷ kept)
  pub evicted_off : IsRefused power.On (Evict 32 ∷ kept)
  -- the end of recovery after an eviction, before any act, twice, with the power on and off
  pub ready_evicted : IsRefused power.On (Ready ∷ Evict 32 ∷ recovering)
  pub ready_at_once : IsRefused power.On (Ready ∷ On ∷ kept)
  pub ready_twice : IsRefused power.On (Ready ∷ recovered)
  pub ready_on : IsRefused power.On (Ready ∷ took_effect)
  pub ready_off : IsRefused power.On (Ready ∷ kept)
  -- what only the caches held is gone after a cut
  pub cached_word : IsRefused power.On (Load 0 32 2 ∷ On ∷ lost)
  -- before an image's power comes on nothing happens
  pub off_begin : IsRefused power.Off (Begin 1 1 (Get a_key) ∷ [])
  pub off_cut : IsRefused power.Off (Cut ∷ [])

-- worker 1 begins a swap in descriptor 1, and stores into slot 1, which begins at address 1296
abbrev pub begun_swap : List Mark
begun_swap = Store 1 1296 5 ∷ Store 1 32 1 ∷ Begin 1 1 (Insert a_key one) ∷ []

-- what is counted since the last On: a descriptor that is taken and a slot that is used stay so over the cut, and are free
-- again when the power is on; the stores of recovery count for nothing
pub record CountsBeginAnew : Type 0 where
  pub taken : is_taken 1 (since_on begun_swap) ≡ true
  pub stored : is_stored_into small 1 (since_on begun_swap) ≡ true
  pub taken_off : is_taken 1 (since_on (Cut ∷ begun_swap)) ≡ true
  pub free_again : is_taken 1 (since_on (Store 0 32 1 ∷ On ∷ Cut ∷ begun_swap)) ≡ false
  pub unused_again : is_stored_into small 1 (since_on (Store 0 1296 5 ∷ On ∷ Cut ∷ begun_swap)) ≡ false
  -- the image by which slots are reached is that of the last On
  pub at_start : image_at_on start (Cut ∷ took_effect) ≡ slice_index start
  pub at_on : image_at_on start (Load 0 32 2 ∷ On ∷ kept) ≡ image_after start took_effect

-- what the power is after some of these journals
pub record PowerIs : Type 0 where
  pub first : power_of power.On took_effect ≡ power.On
  pub failed : power_of power.On kept ≡ power.Off
  pub back : power_of power.On recovering ≡ power.Recovering
  pub ready : power_of power.On asking ≡ power.On
  pub image : power_of power.Off [] ≡ power.Off

pub record WorkedCuts : Type 0 where
  pub right : CutsAreRight
  pub refused : CutsAreRefused
  pub counts : CountsBeginAnew
  pub power : PowerIs
