-- What sound journals tell of their calls.
use Rattle.std.specs.Prelude.{◌≡◌, ◌≢◌, ◌<◌, ◌≤◌, ℕ, List, ◌∷◌, length, Some, None, option_map}
use Rattle.bz_layout.specs.declared.config.Config.{Config}
use Rattle.bz_call.specs.declared.calls.Call.{Call}
use Rattle.bz_call.specs.declared.replies.Reply.{Reply}
use Rattle.bz_call.specs.declared.replies.Reply.TheVariants.{Inserted, Deleted, Full}
use Rattle.bz_call.specs.declared.replies.Spent.{Spent}
use Rattle.bz_mark.specs.Log.{Log}
use Rattle.bz_mark.specs.Moments.{at_moment, mark_at}
use Rattle.bz_mark.specs.declared.marks.Mark.{Mark}
use Rattle.bz_mark.specs.declared.marks.Mark.TheVariants.{Begin, End, Load, Store, Cas, Ask, Fence, Evict, Effect}
use Rattle.bz_sound.specs.Calls.{Open, open_call, begun_calls, with_effect}
use Rattle.bz_sound.specs.Memory.Moments.{IsAfterFence}
use Rattle.bz_sound.specs.Memory.Calls.{HasOpenCall}
use Rattle.bz_sound.specs.Memory.Spent.{IsSpent}
use Rattle.bz_sound.specs.Memory.Sound.{IsSound, IsApart}

-- a worker's marks, acts and evictions leave the open call of another worker; its own acts leave its own
pub record OpenCallsStay (w : ℕ) (past : List Mark) : Type 0 where
  pub load : (v a value : ℕ) → open_call w (Load v a value ∷ past) ≡ open_call w past
  pub store : (v a value : ℕ) → open_call w (Store v a value ∷ past) ≡ open_call w past
  pub compare_and_swap : (v a old new found : ℕ) → open_call w (Cas v a old new found ∷ past) ≡ open_call w past
  pub ask : (v line : ℕ) → open_call w (Ask v line ∷ past) ≡ open_call w past
  pub fence : (v : ℕ) → open_call w (Fence v ∷ past) ≡ open_call w past
  pub eviction : (a : ℕ) → open_call w (Evict a ∷ past) ≡ open_call w past
  pub other_begin : (v n : ℕ) (call : Call) → v ≢ w → open_call w (Begin v n call ∷ past) ≡ open_call w past
  pub other_end : (v n at : ℕ) (reply : Reply) → v ≢ w → open_call w (End v n reply at ∷ past) ≡ open_call w past
  pub other_effect : (v n : ℕ) → v ≢ w → open_call w (Effect v n ∷ past) ≡ open_call w past
  pub own_begin : (n : ℕ) (call : Call) → open_call w (Begin w n call ∷ past) ≡ Some (record { number = n; call = call; begun = length past; effect = None })
  pub own_end : (n at : ℕ) (reply : Reply) → open_call w (End w n reply at ∷ past) ≡ None
  pub own_effect : (n : ℕ) → open_call w (Effect w n ∷ past) ≡ option_map (with_effect (length past)) (open_call w past)

abbrev pub OpenCallsAreKept : Type 0
OpenCallsAreKept = (w : ℕ) (past : List Mark) → OpenCallsStay w past

-- the call is one of a worker that is not 0, and the last that this worker began
pub record IsLastCall (past : List Mark) (w : ℕ) (opened : Open) : Type 0 where
  pub worker : 1 ≤ w
  pub last : opened.number ≡ begun_calls w past

abbrev pub OpenCallsAreLast : Type 0
OpenCallsAreLast = (c : Config) (log : Log) (w : ℕ) (opened : Open) → IsSound c log → open_call w log.past ≡ Some opened → IsLastCall log.past w opened

-- while calls run one after the other no two of them are open
abbrev pub ApartCallsAreSolitary : Type 0
ApartCallsAreSolitary = (past : List Mark) (v w : ℕ) (a b : Open) → IsApart past → open_call v past ≡ Some a → open_call w past ≡ Some b → v ≡ w

-- an act is one of a worker whose call is open
pub record ActsTell (c : Config) (log : Log) (moment w : ℕ) : Type 0 where
  pub load : (a v : ℕ) → mark_at moment log.past ≡ Some (Load w a v) → HasOpenCall (at_moment moment log.past) w
  pub store : (a v : ℕ) → mark_at moment log.past ≡ Some (Store w a v) → HasOpenCall (at_moment moment log.past) w
  pub compare_and_swap : (a old new found : ℕ) → mark_at moment log.past ≡ Some (Cas w a old new found) → HasOpenCall (at_moment moment log.past) w
  pub ask : (line : ℕ) → mark_at moment log.past ≡ Some (Ask w line) → HasOpenCall (at_moment moment log.past) w
  pub fence : mark_at moment log.past ≡ Some (Fence w) → HasOpenCall (at_moment moment log.past) w

abbrev pub ActsAreOfOpenCalls : Type 0
ActsAreOfOpenCalls = (c : Config) (log : Log) (moment w : ℕ) → IsSound c log → moment < length log.past → ActsTell c log moment w

-- an Effect stands directly after a fence or an eviction
abbrev pub EffectsComeDirectly : Type 0
EffectsComeDirectly =
    (c : Config) (log : Log) (moment w n : ℕ) → IsSound c log → moment < length log.past → mark_at moment log.past ≡ Some (Effect w n) →
    IsAfterFence (at_moment moment log.past)

-- no call takes effect twice
abbrev pub EffectsStandOnce : Type 0
EffectsStandOnce =
    (c : Config) (log : Log) (first second w n : ℕ) → IsSound c log → first < length log.past → second < length log.past →
    mark_at first log.past ≡ Some (Effect w n) → mark_at second log.past ≡ Some (Effect w n) → first ≡ second

-- the call that an End ends began earlier, and the moment that the End names lies between
pub record LiesWithin (past : List Mark) (w n at moment : ℕ) : Type 0 where
  pub call : Call
  pub begun : ℕ
  pub begin : mark_at begun past ≡ Some (Begin w n call)
  pub after_begin : begun < at
  pub before_end : at ≤ moment

abbrev pub EndsLieWithinTheirCalls : Type 0
EndsLieWithinTheirCalls =
    (c : Config) (log : Log) (moment w n at : ℕ) (reply : Reply) → IsSound c log → moment < length log.past →
    mark_at moment log.past ≡ Some (End w n reply at) → LiesWithin log.past w n at moment

-- the reply says that a key is there now that was not, or is there no more
abbrev pub TellsAChange : Reply → Type 0
TellsAChange Inserted = Unit {0}
TellsAChange (Deleted had) = Unit {0}
TellsAChange reply = ⊥

-- such a call took effect, at the moment that its End names
abbrev pub ToldChangesTookEffect : Type 0
ToldChangesTookEffect =
    (c : Config) (log : Log) (moment w n at : ℕ) (reply : Reply) → IsSound c log → moment < length log.past →
    mark_at moment log.past ≡ Some (End w n reply at) → TellsAChange reply → mark_at at log.past ≡ Some (Effect w n)

-- a call that is answered Full changed nothing, and what the reply names was spent
pub record HasCause (c : Config) (start : List ℕ) (past : List Mark) (w : ℕ) (spent : Spent) : Type 0 where
  pub opened : Open
  pub is_open : open_call w past ≡ Some opened
  pub quiet : opened.effect ≡ None
  pub cause : IsSpent c start past w opened spent

abbrev pub FullHasACause : Type 0
FullHasACause =
    (c : Config) (log : Log) (moment w n at : ℕ) (spent : Spent) → IsSound c log → moment < length log.past →
    mark_at moment log.past ≡ Some (End w n (Full spent) at) → HasCause c log.start (at_moment moment log.past) w spent
