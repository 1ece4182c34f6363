-- Without a Cut, an On and a Ready a journal is sound exactly where it is by the definitions that have none.
use Rattle.std.proofs.Common.{◌≡◌, ℕ, zero, suc, List, [], ◌∷◌, refl, sym, ap, ◌∙◌, arith, ◌||◌, slice_index, Option, Some, None}
use Rattle.std.specs.Prelude.{IsSomeAnd, count_by}
use Rattle.std.specs.List.{range_with_len}
use Rattle.bz_layout.specs.declared.config.Config.{Config}
use Rattle.bz_call.specs.Map.{Map}
use Rattle.bz_call.specs.declared.replies.Reply.{Reply}
use Rattle.bz_call.specs.declared.replies.Reply.TheVariants as reply
use Rattle.bz_call.specs.declared.replies.Spent.{Spent}
use Rattle.bz_call.specs.declared.replies.Spent.TheVariants.{Nodes, Swaps, Height}
use Rattle.bz_mark.specs.declared.marks.Mark.{Mark}
use Rattle.bz_mark.specs.declared.marks.Mark.TheVariants.{Begin, End, Load, Store, Cas, Ask, Fence, Evict, Cut, On, Ready, Effect}
use Rattle.bz_mark.specs.declared.power.Power.TheVariants as power
use Rattle.bz_sound.specs.Calls.{Open, open_call}
use Rattle.bz_sound.specs.Replies.{Pages}
use Rattle.bz_sound.specs.Memory.Calls as unbroken
use Rattle.bz_sound.specs.Memory.Calls.{HasOpenCall}
use Rattle.bz_sound.specs.Memory.Moments.{map_at_start}
use Rattle.bz_sound.specs.Memory.Replies.{Answer, IsAnswerBy, IsRightReplyBy, HasRightReplyBy}
use Rattle.bz_sound.specs.Memory.Replies as unbroken_replies
use Rattle.bz_sound.specs.Memory.Spent as unbroken_spent
use Rattle.bz_sound.specs.Memory.Spent.{is_reached_in, is_stored_into}
use Rattle.bz_sound.specs.Power.Calls.{MayAct, MayFollow, CallsOnce}
use Rattle.bz_mark.specs.Times.{LeavesPower}
use Rattle.bz_sound.specs.Power.Laws.{IsUnbroken, SoundAsBefore}
use Rattle.bz_sound.specs.Power.Replies.{RepliesAreRight}
use Rattle.bz_sound.specs.Power.Spent.{count_used, IsSpent}
use Rattle.bz_mark.specs.Times.{power_of, since_on}
use Rattle.bz_sound.specs.Power.Times.{image_at_on}
use Rattle.bz_sound.proofs.Memory.Standing.{unbroken-stand}
use Rattle.bz_sound.proofs.Memory.Told.{last-call}

-- the power stays on
pub still-on : (past : List Mark) → IsUnbroken past → power_of power.On past ≡ power.On
still-on [] h = refl
still-on (Cut ∷ past) h = absurd h.0
still-on (On ∷ past) h = absurd h.0
still-on (Ready ∷ past) h = absurd h.0
still-on (mark ∷ past) h = still-on past h.1

-- and all marks lie since it came on
pub since-start : (past : List Mark) → IsUnbroken past → since_on past ≡ past
since-start [] h = refl
since-start (Cut ∷ past) h = absurd h.0
since-start (On ∷ past) h = absurd h.0
since-start (Ready ∷ past) h = absurd h.0
since-start (mark ∷ past) h = ap (λ (marks : List Mark). mark ∷ marks) (since-start past h.1)

-- what stood then is the start
image-start : (start : List ℕ) (past : List Mark) → IsUnbroken past → image_at_on start past ≡ slice_index start
image-start start [] h = refl
image-start start (Cut ∷ past) h = absurd h.0
image-start start (On ∷ past) h = absurd h.0
image-start start (Ready ∷ past) h = absurd h.0
image-start start (mark ∷ past) h = image-start start past h.1

-- who calls may act
acts-open : (start : Map) (past : List Mark) (w : ℕ) → unbroken.CallsOnce start past → HasOpenCall past w → MayAct power.On past w
acts-open start past zero once h = absurd (omega (arith, (last-call start past 0 h.opened (unbroken-stand start past once) h.is_open).worker))
acts-open start past (suc w) once h = h

-- and who acts calls
open-acts : (past : List Mark) (w : ℕ) → IsUnbroken past → MayAct power.On past w → HasOpenCall past w
open-acts past zero h act = let both : power.On ≡ power.Recovering = sym (still-on past h) ∙ act in absurd (cc)
open-acts past (suc w) h act = act

not-off : (past : List Mark) → IsUnbroken past → power_of power.On past ≡ power.Off → ⊥
not-off past h off = let both : power.On ≡ power.Off = sym (still-on past h) ∙ off in cc

pub unbroken-once : (start : Map) (past : List Mark) → unbroken.CallsOnce start past → IsUnbroken past
unbroken-once start [] once = tt
unbroken-once start (Cut ∷ past) once = absurd once.0
unbroken-once start (On ∷ past) once = absurd once.0
unbroken-once start (Ready ∷ past) once = absurd once.0
unbroken-once start (mark ∷ past) once = (tt, unbroken-once start past once.1)

-- one mark
follows : (start : Map) (past : List Mark) (mark : Mark) → unbroken.CallsOnce start past → unbroken.MayFollow start past mark → MayFollow power.On start past mark
follows start past (Begin w n call) once may = record { worker = may.0; powered = still-on past (unbroken-once start past once); begins = may.1 }
follows start past (End w n reply at) once may = may
follows start past (Load w a v) once may = acts-open start past w once may
follows start past (Store w a v) once may = acts-open start past w once may
follows start past (Cas w a old new found) once may = acts-open start past w once may
follows start past (Ask w line) once may = acts-open start past w once may
follows start past (Fence w) once may = acts-open start past w once may
follows start past (Evict a) once may = not-off past (unbroken-once start past once)
follows start past (Effect w n) once may = may
follows start past Cut once may = absurd may
follows start past On once may = absurd may
follows start past Ready once may = absurd may

followed : (start : Map) (past : List Mark) (mark : Mark) → IsUnbroken past → LeavesPower past mark → MayFollow power.On start past mark → unbroken.MayFollow start past mark
followed start past (Begin w n call) h leaves may = (may.worker, may.begins)
followed start past (End w n reply at) h leaves may = may
followed start past (Load w a v) h leaves may = open-acts past w h may
followed start past (Store w a v) h leaves may = open-acts past w h may
followed start past (Cas w a old new found) h leaves may = open-acts past w h may
followed start past (Ask w line) h leaves may = open-acts past w h may
followed start past (Fence w) h leaves may = open-acts past w h may
followed start past (Evict a) h leaves may = tt
followed start past (Effect w n) h leaves may = may
followed start past Cut h leaves may = absurd leaves
followed start past On h leaves may = absurd leaves
followed start past Ready h leaves may = absurd leaves

once-after : (start : Map) (past : List Mark) → unbroken.CallsOnce start past → CallsOnce power.On start past
once-after start [] once = tt
once-after start (mark ∷ past) once = (follows start past mark once.1 once.0, once-after start past once.1)

once-before : (start : Map) (past : List Mark) → IsUnbroken past → CallsOnce power.On start past → unbroken.CallsOnce start past
once-before start [] h once = tt
once-before start (mark ∷ past) h once = (followed start past mark h.1 h.0 once.0, once-before start past h.1 once.1)

-- an answer stays right where each cause stays one
answer-by : (A B : Spent → Type 0) (c : Config) (start : List ℕ) (pages : Pages) (past : List Mark) (answer : Answer) (effect : Option ℕ) (reply : Reply) → ((spent : Spent) → A spent → B spent)
    → IsAnswerBy A c start pages past answer effect reply → IsAnswerBy B c start pages past answer effect reply
answer-by A B c start pages past answer (Some effect) reply causes h = h
answer-by A B c start pages past answer None (reply.Full spent) causes h = record { now = h.now; writes = h.writes; cause = causes spent h.cause }
answer-by A B c start pages past answer None reply causes h = h

end-by : (A B : List Mark → ℕ → Open → Spent → Type 0) (c : Config) (start : List ℕ) (pages : Pages) (past : List Mark) (w at : ℕ) (reply : Reply) (opened : Option Open)
    → ((w : ℕ) (opened : Open) (spent : Spent) → A past w opened spent → B past w opened spent)
    → IsSomeAnd opened (λ opened. IsRightReplyBy (A past w opened) c start pages past (record { worker = w; opened = opened; reply = reply; at = at }))
    → IsSomeAnd opened (λ opened. IsRightReplyBy (B past w opened) c start pages past (record { worker = w; opened = opened; reply = reply; at = at }))
end-by A B c start pages past w at reply None causes h = h
end-by A B c start pages past w at reply (Some opened) causes h = record {
  after_begin = h.after_begin;
  before_end = h.before_end;
  right = answer-by (A past w opened) (B past w opened) c start pages past (record { worker = w; opened = opened; reply = reply; at = at }) opened.effect reply (causes w opened) h.right;
}

pub reply-by : (A B : List Mark → ℕ → Open → Spent → Type 0) (c : Config) (start : List ℕ) (pages : Pages) (past : List Mark) (mark : Mark)
    → ((w : ℕ) (opened : Open) (spent : Spent) → A past w opened spent → B past w opened spent) → HasRightReplyBy A c start pages past mark → HasRightReplyBy B c start pages past mark
reply-by A B c start pages past (End w n reply at) causes h = end-by A B c start pages past w at reply (open_call w past) causes h
reply-by A B c start pages past mark causes h = tt

-- what is spent is counted since the start
used-since : (c : Config) (start : List ℕ) (past : List Mark) → IsUnbroken past → count_used c start past ≡ unbroken_spent.count_used c start past
used-since c start past h =
    ap (λ (image : ℕ → ℕ). count_by (λ slot. is_reached_in c image slot || is_stored_into c slot (since_on past)) (range_with_len 0 c.nodes)) (image-start start past h)
    ∙ ap (λ (marks : List Mark). count_by (λ slot. is_reached_in c (slice_index start) slot || is_stored_into c slot marks) (range_with_len 0 c.nodes)) (since-start past h)

spent-after : (c : Config) (start : List ℕ) (past : List Mark) → IsUnbroken past → (w : ℕ) (opened : Open) (spent : Spent) → unbroken_spent.IsSpent c start past w opened spent → IsSpent c start past w opened spent
spent-after c start past h w opened Nodes spent = record { slots = spent.slots; needs = spent.needs; lacks = omega (arith, spent.lacks, used-since c start past h) }
spent-after c start past h w opened Swaps cause = rw (since-start past h) cause
spent-after c start past h w opened Height cause = cause

spent-before : (c : Config) (start : List ℕ) (past : List Mark) → IsUnbroken past → (w : ℕ) (opened : Open) (spent : Spent) → IsSpent c start past w opened spent → unbroken_spent.IsSpent c start past w opened spent
spent-before c start past h w opened Nodes spent = record { slots = spent.slots; needs = spent.needs; lacks = omega (arith, spent.lacks, used-since c start past h) }
spent-before c start past h w opened Swaps cause = rw (since-start past h) at cause
spent-before c start past h w opened Height cause = cause

replies-after : (c : Config) (start : List ℕ) (pages : Pages) (past : List Mark) → IsUnbroken past → unbroken_replies.RepliesAreRight c start pages past → RepliesAreRight c start pages past
replies-after c start pages [] h right = tt
replies-after c start pages (mark ∷ past) h right = (
  reply-by (unbroken_spent.IsSpent c start) (IsSpent c start) c start pages past mark (spent-after c start past h.1) right.0,
  replies-after c start pages past h.1 right.1,
)

replies-before : (c : Config) (start : List ℕ) (pages : Pages) (past : List Mark) → IsUnbroken past → RepliesAreRight c start pages past → unbroken_replies.RepliesAreRight c start pages past
replies-before c start pages [] h right = tt
replies-before c start pages (mark ∷ past) h right = (
  reply-by (IsSpent c start) (unbroken_spent.IsSpent c start) c start pages past mark (spent-before c start past h.1) right.0,
  replies-before c start pages past h.1 right.1,
)

pub sound-as-before : SoundAsBefore
sound-as-before c log = (
  λ sound. (
    unbroken-once (map_at_start c log.start) log.past sound.once,
    record {
      size = sound.size;
      truthful = sound.truthful;
      once = once-after (map_at_start c log.start) log.past sound.once;
      replies = replies-after c log.start log.pages log.past (unbroken-once (map_at_start c log.start) log.past sound.once) sound.replies;
      pages = sound.pages;
      durable = sound.durable;
    },
  ),
  λ both. record {
    size = both.1.size;
    truthful = both.1.truthful;
    once = once-before (map_at_start c log.start) log.past both.0 both.1.once;
    replies = replies-before c log.start log.pages log.past both.0 both.1.replies;
    pages = both.1.pages;
    durable = both.1.durable;
  },
)
