-- What the image of a moment says of replies and effects.
use Rattle.std.specs.Prelude.{◌≡◌, ◌≢◌, false, ◌<◌, ◌≤◌, ◌||◌, ℕ, Bool, true, if◌then◌else◌, bytes_eq, List, [], ◌∷◌, ◌++◌, length, Option, Some, None}
use Rattle.std.specs.Ordering.{nat_cmp}
use Rattle.std.specs.Cmp.Lexicographic.{slice_cmp}
use Rattle.std.specs.FinMap.{find, is_sorted}
use Rattle.bz_layout.specs.declared.config.Config.{Config}
use Rattle.bz_layout.specs.declared.thresholds.TheConstants.{SPLIT_SLOTS}
use Rattle.bz_tree.specs.Walk.{is_among}
use Rattle.bz_content.specs.Content.{image_fault, content_in, leaf_end_in}
use Rattle.bz_call.specs.Map.{key_of, apply, apply_at}
use Rattle.bz_call.specs.declared.calls.Call.{Call}
use Rattle.bz_call.specs.declared.calls.Call.TheVariants as call
use Rattle.bz_call.specs.declared.replies.Reply.{Reply}
use Rattle.bz_call.specs.declared.replies.Reply.TheVariants.{Exists, Missing, Value, Page, Full}
use Rattle.bz_call.specs.declared.replies.Spent.{Spent}
use Rattle.bz_call.specs.declared.replies.Spent.TheVariants.{Swaps}
use Rattle.bz_mark.specs.Log.{Log}
use Rattle.bz_mark.specs.Moments.{at_moment}
use Rattle.bz_mark.specs.declared.marks.Mark.{Mark}
use Rattle.bz_mark.specs.declared.marks.Mark.TheVariants.{Effect}
use Rattle.bz_sound.specs.Calls.{Open, open_call, map_after, map_at}
use Rattle.bz_sound.specs.Memory.Moments.{image_after, image_at, map_at_start, Decodes, IsAfterLoad, IsAfterFence}
use Rattle.bz_sound.specs.Memory.Calls.{HasOpenCall, MayFollow}
use Rattle.bz_mark.specs.Counts.{is_taken}
use Rattle.bz_sound.specs.Memory.Spent.{is_used, count_used, LacksSlots, IsSpent}
use Rattle.bz_sound.specs.Memory.Replies.{IsWrite, IsRightReply, IsRightReplyBy, is_within}
use Rattle.bz_sound.specs.Memory.Sound.{IsSound}

-- an open call that has no Effect, and a moment of it that stands directly after a load of its worker
pub record ReadsAt (past : List Mark) (w : ℕ) (opened : Open) (at : ℕ) : Type 0 where
  pub is_open : open_call w past ≡ Some opened
  pub quiet : opened.effect ≡ None
  pub after_begin : opened.begun < at
  pub before_end : at ≤ length past
  pub loaded : IsAfterLoad w (at_moment at past)

-- the right reply there, by what the image has for the key, whatever causes a Full
pub record ImageAnswersBy (Cause : Spent → Type 0) (c : Config) (log : Log) (w : ℕ) (opened : Open) (at : ℕ) : Type 0 where
  pub exists : (key payload had : List ℕ) → opened.call ≡ call.Insert key payload → content_in c (image_at log.start at log.past) key ≡ Some had →
      IsRightReplyBy Cause c log.start log.pages log.past (record { worker = w; opened = opened; reply = Exists; at = at })
  pub value : (key had : List ℕ) → opened.call ≡ call.Get key → content_in c (image_at log.start at log.past) key ≡ Some had →
      IsRightReplyBy Cause c log.start log.pages log.past (record { worker = w; opened = opened; reply = Value had; at = at })
  pub no_value : (key : List ℕ) → opened.call ≡ call.Get key → content_in c (image_at log.start at log.past) key ≡ None →
      IsRightReplyBy Cause c log.start log.pages log.past (record { worker = w; opened = opened; reply = Missing; at = at })
  pub no_delete : (key : List ℕ) → opened.call ≡ call.Delete key → content_in c (image_at log.start at log.past) key ≡ None →
      IsRightReplyBy Cause c log.start log.pages log.past (record { worker = w; opened = opened; reply = Missing; at = at })
  pub no_update : (key payload : List ℕ) → opened.call ≡ call.Update key payload → content_in c (image_at log.start at log.past) key ≡ None →
      IsRightReplyBy Cause c log.start log.pages log.past (record { worker = w; opened = opened; reply = Missing; at = at })

abbrev pub ImageAnswers : Config → Log → ℕ → Open → ℕ → Type 0
ImageAnswers c log w opened at = ImageAnswersBy (IsSpent c log.start log.past w opened) c log w opened at

-- what the image has at such a moment answers a call
abbrev pub AnswersComeFromTheImage : Type 0
AnswersComeFromTheImage = (c : Config) (log : Log) (w at : ℕ) (opened : Open) → IsSound c log → ReadsAt log.past w opened at → ImageAnswers c log w opened at

-- pairs that an image has from a key on, up to the end of its leaf
pub record IsImagePage (c : Config) (image : ℕ → ℕ) (from : List ℕ) (next : Option (List ℕ)) (pairs : List (List ℕ × List ℕ)) : Type 0 where
  pub leaf_end : next ≡ leaf_end_in c image from
  pub rises : is_sorted (slice_cmp nat_cmp) pairs ≡ true
  pub finds : (key : List ℕ) → find (slice_cmp nat_cmp) key pairs ≡ (if is_within from next key then content_in c image key else None)

-- such pairs are the next page, and its reply is right
abbrev pub PagesComeFromTheImage : Type 0
PagesComeFromTheImage =
    (c : Config) (log : Log) (w at : ℕ) (opened : Open) (from : List ℕ) (next : Option (List ℕ)) (pairs : List (List ℕ × List ℕ)) →
    IsSound c log → ReadsAt log.past w opened at → opened.call ≡ call.Page from → IsImagePage c (image_at log.start at log.past) from next pairs →
    IsRightReply c log.start (log.pages ++ pairs ∷ []) log.past (record { worker = w; opened = opened; reply = Page (length log.pages) next; at = at })

-- one image has what the other has, but for a key, which has the new payload, or none, in place of the old one, or none
pub record ChangesKey (c : Config) (before after : ℕ → ℕ) (key : List ℕ) (old new : Option (List ℕ)) : Type 0 where
  pub was : content_in c before key ≡ old
  pub becomes : (other : List ℕ) → content_in c after other ≡ (if bytes_eq other key then new else content_in c before other)

-- a call puts this payload, or none, in place of that one, or none
abbrev pub IsChangeOf : Call → Option (List ℕ) → Option (List ℕ) → Type 0
IsChangeOf (call.Insert key payload) None new = new ≡ Some payload
IsChangeOf (call.Delete key) (Some had) new = new ≡ None
IsChangeOf (call.Update key payload) (Some had) new = new ≡ Some payload
IsChangeOf (call.Upsert key payload) old new = new ≡ Some payload
IsChangeOf call old new = ⊥

-- the Effect of an open call may follow, and the words then decode; the map answers the call by what it had
pub record EffectFollows (c : Config) (log : Log) (mark : Mark) (w : ℕ) (opened : Open) (old : Option (List ℕ)) : Type 0 where
  pub may_follow : MayFollow (map_at_start c log.start) (mark ∷ log.past) (Effect w opened.number)
  pub decodes : Decodes c log.start (Effect w opened.number ∷ mark ∷ log.past)
  pub step : apply (map_after (map_at_start c log.start) (mark ∷ log.past)) opened.call ≡ apply_at old (map_after (map_at_start c log.start) (mark ∷ log.past)) opened.call

-- so it is where a fence or an eviction changes the content as an open call does that has no Effect yet
abbrev pub ChangesFollow : Type 0
ChangesFollow =
    (c : Config) (log : Log) (mark : Mark) (w : ℕ) (opened : Open) (old new : Option (List ℕ)) →
    IsSound c log → IsAfterFence (mark ∷ log.past) → open_call w log.past ≡ Some opened → opened.effect ≡ None → IsChangeOf opened.call old new →
    image_fault c (image_after log.start (mark ∷ log.past)) ≡ None →
    ChangesKey c (image_after log.start log.past) (image_after log.start (mark ∷ log.past)) (key_of opened.call) old new →
    EffectFollows c log mark w opened old

-- an open call that has an Effect is answered as the map answers it directly before
abbrev pub EffectsAnswer : Type 0
EffectsAnswer =
    (c : Config) (log : Log) (w at : ℕ) (opened : Open) (reply : Reply) → open_call w log.past ≡ Some opened → opened.effect ≡ Some at →
    (apply (map_at (map_at_start c log.start) at log.past) opened.call).reply ≡ Some reply →
    IsRightReply c log.start log.pages log.past (record { worker = w; opened = opened; reply = reply; at = at })

-- one that may change the map and has none is answered Full now, where something is spent
abbrev pub SpentAnswersFull : Type 0
SpentAnswersFull =
    (c : Config) (log : Log) (w : ℕ) (opened : Open) (spent : Spent) → open_call w log.past ≡ Some opened → opened.effect ≡ None → IsWrite opened.call →
    IsSpent c log.start log.past w opened spent →
    IsRightReply c log.start log.pages log.past (record { worker = w; opened = opened; reply = Full spent; at = length log.past })

-- another worker, with an open call
pub record IsOther (c : Config) (past : List Mark) (w v : ℕ) : Type 0 where
  pub worker : 1 ≤ v
  pub configured : v ≤ c.workers
  pub other : v ≢ w
  pub calls : HasOpenCall past v

-- each descriptor that is not taken is held by such a worker, and each of these holds one at most
pub record AreHeldBy (taken : ℕ → Bool) (c : Config) (past : List Mark) (w : ℕ) (holder : ℕ → ℕ) : Type 0 where
  pub held : (swap : ℕ) → swap < c.swaps → taken swap ≡ false → IsOther c past w (holder swap)
  pub one_each : (swap other : ℕ) → swap < c.swaps → other < c.swaps → taken swap ≡ false → taken other ≡ false → holder swap ≡ holder other → swap ≡ other

abbrev pub AreHeld : Config → List Mark → ℕ → (ℕ → ℕ) → Type 0
AreHeld c past w holder = AreHeldBy (λ swap. is_taken swap past) c past w holder

-- then descriptors are spent
abbrev pub HeldSwapsAreSpent : Type 0
HeldSwapsAreSpent =
    (c : Config) (start : List ℕ) (past : List Mark) (w : ℕ) (opened : Open) (holder : ℕ → ℕ) → AreHeld c past w holder → IsSpent c start past w opened Swaps

-- each slot that is not used is held by another worker with an open call, at a place of its own, of as many as a split takes
pub record AreSlotsHeldBy (used : ℕ → Bool) (c : Config) (past : List Mark) (w : ℕ) (holder place : ℕ → ℕ) : Type 0 where
  pub held : (slot : ℕ) → slot < c.nodes → used slot ≡ false → IsOther c past w (holder slot)
  pub placed : (slot : ℕ) → slot < c.nodes → used slot ≡ false → place slot < SPLIT_SLOTS
  pub one_each : (slot other : ℕ) → slot < c.nodes → other < c.nodes → used slot ≡ false → used other ≡ false → holder slot ≡ holder other → place slot ≡ place other → slot ≡ other

-- the same of the slots that are not among the free ones either
abbrev pub AreOthersHeld : (ℕ → Bool) → List ℕ → Config → List Mark → ℕ → (ℕ → ℕ) → (ℕ → ℕ) → Type 0
AreOthersHeld used free c past w holder place = AreSlotsHeldBy (λ slot. used slot || is_among free slot) c past w holder place

-- then more slots are lacking than are free
abbrev pub HeldSlotsAreSpent : Type 0
HeldSlotsAreSpent =
    (c : Config) (start : List ℕ) (past : List Mark) (w slots : ℕ) (free : List ℕ) (holder place : ℕ → ℕ) → length free < slots → AreOthersHeld (λ slot. is_used c start past slot) free c past w holder place →
    LacksSlots c (count_used c start past) slots w past

-- where a fence or an eviction leaves the content, the words decode as before
abbrev pub SameContentDecodes : Type 0
SameContentDecodes =
    (c : Config) (log : Log) (mark : Mark) → IsSound c log → IsAfterFence (mark ∷ log.past) → image_fault c (image_after log.start (mark ∷ log.past)) ≡ None →
    ((key : List ℕ) → content_in c (image_after log.start (mark ∷ log.past)) key ≡ content_in c (image_after log.start log.past) key) →
    Decodes c log.start (mark ∷ log.past)
