-- What is taken for a call whose leaf had room when it began, from one moment to the next.
use Rattle.std.proofs.Common.{◌≡◌, ◌≢◌, ◌⊎◌, ℕ, suc, ◌+◌, ◌≤◌, Bool, true, false, List, ◌∷◌, length, arith, refl, sym, ap, subst, ◌∙◌, inl, inr, Option, Some, None}
use Rattle.std.specs.Prelude.{IsSome}
use Rattle.std.proofs.lemmas.Bool.{true≢false}
use Rattle.bz_call.specs.Map.{key_of}
use Rattle.bz_call.specs.declared.calls.Call.{Call}
use Rattle.bz_call.specs.declared.calls.Call.TheVariants as call
use Rattle.bz_call.specs.declared.replies.Spent.TheVariants.{Swaps}
use Rattle.bz_content.specs.Content.{image_of}
use Rattle.bz_stage.specs.FromLeaves.Neighbours.{leaf_page}
use Rattle.bz_layout.specs.declared.config.Config.{Config}
use Rattle.bz_layout.specs.declared.thresholds.TheConstants.{LEAF_RECORD_WORDS}
use Rattle.bz_solo.specs.Errands.{is_read, words_asked}
use Rattle.bz_solo.specs.FromAlone.Counts.{HasOthers}
use Rattle.bz_mark.specs.Log.{Log, with_mark}
use Rattle.bz_mark.specs.declared.marks.Mark.{Mark}
use Rattle.bz_mark.proofs.MomentLaws.{at_moment-earlier}
use Rattle.bz_any_task.specs.Duties.{asks_of, end_of, made_of, swaps_of, wants_of, change_swaps, makes_no_change}
use Rattle.bz_any_task.specs.Kinds as kinds
use Rattle.bz_any_task.specs.Kinds.{Kind, is_look, kind_of}
use Rattle.bz_any_task.specs.Laws.{AreLaws}
use Rattle.bz_any_task.specs.declared.running.AnyTask.{AnyTask}
use Rattle.bz_any_task.specs.declared.running.AnyTask.TheVariants.{Deleting, Inserting, Updating}
use Rattle.bz_sound.specs.Calls.{Open}
use Rattle.bz_sound.specs.Solitary.{IsSolitary}
use Rattle.bz_sound.specs.Memory.Moments.{image_after}
use Rattle.bz_stage.specs.Rooms.{has_room}
use Rattle.bz_refinement.specs.Story.{Story, scene, and_then}
use Rattle.bz_swap.specs.SwapMemory.{Doing, Idle, Reading, Swapping, Loading, Storing, Flushing}
use Rattle.bz_task.specs.Instant.{Instant}
use Rattle.bz_task.specs.Scene.{Past}
use Rattle.bz_task.specs.declared.todo.Outcome.{Outcome}
use Rattle.bz_task.specs.declared.todo.Outcome.TheVariants.{Full}
use Rattle.bz_task.specs.declared.todo.Todo.{Todo}
use Rattle.bz_task.specs.declared.todo.Todo.TheVariants.{Finish}
use Rattle.bz_world.specs.Inside.Exact.{Reach, reach, CountsExactly, HasChanged, HasCounted, HasStood, IsChanging, IsExact, seeks, puts, underway}
use Rattle.bz_world.specs.Inside.Due.{only_looks}
use Rattle.bz_world.specs.Inside.Paid.{Stock}
use Rattle.bz_world.specs.Inside.Serving.{effect_reply, tells_of}
use Rattle.bz_world.specs.Roomy.{HadRoom, KeepsEnough, swaps_told}
use Rattle.bz_world.specs.WorldView.{Supply, TakesAsTold}
use Rattle.bz_world.specs.declared.serving.OpenCall.{OpenCall}
use Rattle.bz_world.proofs.Alone.{others-on}
use Rattle.bz_world.proofs.Solitary.{before-is, now-is}

-- a call that had room at its begin had it before a mark that came later
pub had-room-on : (c : Config) (log : Log) (mark : Mark) (opened : Open) → opened.begun ≤ length log.past → HadRoom c log.start (mark ∷ log.past) opened → HadRoom c log.start log.past opened
had-room-on c log mark opened before h = record {
  writes = h.writes;
  room = subst (λ (past : List Mark). has_room (leaf_page c (image_of (image_after log.start past)) (key_of opened.call)) (words_asked opened.call) ≡ true) (at_moment-earlier opened.begun mark log.past before) h.room;
  enough = subst (λ (past : List Mark). KeepsEnough c (image_after log.start past) opened.call LEAF_RECORD_WORDS) (at_moment-earlier opened.begun mark log.past before) h.enough;
}

pub seek-seeks : (k : Kind) → k ≡ kinds.Seek → seeks k ≡ true
seek-seeks k e = ap seeks e

-- a look-up is one, and a change of a record is none
pub seeks-look : (k : Kind) → seeks k ≡ true → is_look k ≡ true
seeks-look kinds.Seek e = refl
seeks-look kinds.Find e = refl
seeks-look k e = absurd (true≢false (sym e))

pub puts-change : (t : AnyTask) → puts (kind_of t) ≡ true → makes_no_change t ≡ false
unfolding kind_of makes_no_change
puts-change (Inserting t) e = refl
puts-change (Updating t) e = refl
puts-change (Deleting t) e = refl
puts-change t e = absurd (true≢false (sym e))

-- a task that asks for something more has not ended
pub none-ended : (o : Option Outcome) → (IsSome o → ⊥) → o ≡ None
none-ended None never = refl
none-ended (Some outcome) never = absurd (never refl)

pub still-asks : (t : AnyTask) → AreLaws t → (asked : Todo) → asks_of t ≡ Some asked → (asked ≡ Finish → ⊥) → end_of t ≡ None
still-asks t laws asked is more = none-ended (end_of t) (λ some. let both : Some asked ≡ Some Finish = sym is ∙ laws.only some in more (cc both))

-- what is no swap is not under way
pub none-underway : (d : Doing) → ((s : ℕ) → d ≢ Swapping s) → underway d ≡ 0
none-underway Idle none = refl
none-underway (Reading a) none = refl
none-underway (Swapping s) none = absurd (none s refl)
none-underway (Loading a) none = refl
none-underway (Storing a u) none = refl
none-underway (Flushing line) none = refl

-- where all is the same
pub reach-same : (taken untold way taken_then untold_then way_then : ℕ) → taken ≡ taken_then → untold ≡ untold_then → way ≡ way_then → reach taken untold way ≡ reach taken_then untold_then way_then
reach-same taken untold way taken_then untold_then way_then e f g = cc (e, f, g)

-- nor one since its own
pub stood-on : (c : Config) (past : List Mark) (mark : Mark) (story after : Story) (w since : ℕ) (opened : Open) (y : Instant) → after.at ≡ and_then story.at (length past) y → y.effects ≡ (story.at (length past)).effects
    → HasStood opened (scene c past story w since opened).past → HasStood opened (scene c (mark ∷ past) after w since opened).past
stood-on c past mark story after w since opened y is same h = record {
  at = h.at;
  effect = h.effect;
  after_begin = h.after_begin;
  by_now = omega (arith, h.by_now);
  still = subst (λ (at : ℕ → Instant). (at (suc (length past))).effects ≡ (at (suc h.at)).effects) (sym is)
      (ap (λ (z : Instant). z.effects) (now-is story.at (length past) y) ∙ (same ∙ (h.still ∙ ap (λ (z : Instant). z.effects) (sym (before-is story.at (length past) (suc h.at) y h.by_now)))));
  enough = subst (λ (at : ℕ → Instant). KeepsEnough c (at (suc h.at)).image opened.call 0) (sym is) (subst (λ (z : Instant). KeepsEnough c z.image opened.call 0) (sym (before-is story.at (length past) (suc h.at) y h.by_now)) h.enough);
}

changed-still : (opened : Open) (p q : Past) (r : Reach) (stock : Stock) (tells : ℕ) (x : OpenCall) → (HasStood opened p → HasStood opened q) → HasChanged opened p r stock tells x → HasChanged opened q r stock tells x
changed-still opened p q r stock tells x stands done = record {
  effected = done.effected;
  kind = done.kind;
  tells_swaps = done.tells_swaps;
  wants = done.wants;
  same_left = done.same_left;
  least = done.least;
  most = done.most;
  stood = stands done.stood;
  unpassed = done.unpassed;
}

pub counted-still : (opened : Open) (p q : Past) (r : Reach) (stock : Stock) (tells : ℕ) (x : OpenCall) → (HasStood opened p → HasStood opened q) → HasCounted opened p r stock tells x → HasCounted opened q r stock tells x
counted-still opened p q r stock tells x stands counted = record { effected = counted.effected; same_taken = counted.same_taken; same_left = counted.same_left; stood = stands counted.stood; unpassed = counted.unpassed }

-- the same is known one moment later, at which no swap took effect
pub exact-still : (opened : Open) (p q : Past) (r : Reach) (stock : Stock) (tells : ℕ) (x : OpenCall) → q.since ≡ p.since → ((k : ℕ) → HasOthers 0 k p → HasOthers 0 k q) → (HasStood opened p → HasStood opened q) → IsExact opened p r stock tells x → IsExact opened q r stock tells x
exact-still opened p q r stock tells x since on stands (inl look) = inl (record { quiet = look.quiet; looks = look.looks; thawed = look.thawed; same_taken = look.same_taken; same_left = look.same_left; first = since ∙ look.first; alone = on 0 look.alone })
exact-still opened p q r stock tells x since on stands (inr (inl ch)) = inr (inl (record {
  quiet = ch.quiet;
  first = since ∙ ch.first;
  kind = ch.kind;
  wants = ch.wants;
  tells_swaps = ch.tells_swaps;
  same_left = ch.same_left;
  alone = λ goes. on (made_of x.task + r.untold) (ch.alone goes);
  before = ch.before;
  least = ch.least;
  most = ch.most;
  short = ch.short;
  ends = ch.ends;
  roomy = ch.roomy;
  unpassed = ch.unpassed;
}))
exact-still opened p q r stock tells x since on stands (inr (inr (inl done))) = inr (inr (inl (changed-still opened p q r stock tells x stands done)))
exact-still opened p q r stock tells x since on stands (inr (inr (inr after))) = inr (inr (inr (record { looks = after.looks; counted = counted-still opened p q r stock tells x stands after.counted; alone = on 0 after.alone })))

-- so it is of a call that has made its change, where a look-up begins
pub exact-anew : (opened : Open) (p q : Past) (r : Reach) (stock : Stock) (tells : ℕ) (x : OpenCall) → x.effect ≢ None → (HasStood opened p → HasStood opened q) → HasOthers 0 0 q → IsExact opened p r stock tells x → IsExact opened q r stock tells x
exact-anew opened p q r stock tells x effected stands alone (inl look) = absurd (effected look.quiet)
exact-anew opened p q r stock tells x effected stands alone (inr (inl ch)) = absurd (effected ch.quiet)
exact-anew opened p q r stock tells x effected stands alone (inr (inr (inl done))) = inr (inr (inl (changed-still opened p q r stock tells x stands done)))
exact-anew opened p q r stock tells x effected stands alone (inr (inr (inr after))) = inr (inr (inr (record { looks = after.looks; counted = counted-still opened p q r stock tells x stands after.counted; alone = alone })))

-- at which its own swap took effect that makes no change: it is one that comes before
pub exact-struck : (opened : Open) (p q : Past) (r z : Reach) (stock : Stock) (tells : ℕ) (x : OpenCall) → z.taken ≡ r.taken → r.untold ≡ 0 → z.untold ≡ 1 → z.underway ≡ r.underway → r.underway ≡ 1 → q.since ≡ p.since → ((k : ℕ) → HasOthers 0 k p → HasOthers 0 (k + 1) q)
    → (is_look (kind_of x.task) ≡ true → ⊥) → (puts (kind_of x.task) ≡ true → swaps_of x.task ≤ 1 → ⊥) → IsExact opened p r stock tells x → IsExact opened q z stock tells x
exact-struck opened p q r z stock tells x taken none one way now since on swaps earlier (inl look) = absurd (swaps (seeks-look (kind_of x.task) look.looks))
exact-struck opened p q r z stock tells x taken none one way now since on swaps earlier (inr (inl ch)) = inr (inl (record {
  quiet = ch.quiet;
  first = since ∙ ch.first;
  kind = ch.kind;
  wants = ch.wants;
  tells_swaps = ch.tells_swaps;
  same_left = ch.same_left;
  alone = λ goes. let sum : made_of x.task + r.untold + 1 ≡ made_of x.task + z.untold = omega (arith, none, one) in subst (λ k. HasOthers 0 k q) sum (on (made_of x.task + r.untold) (ch.alone goes));
  before = λ few. absurd (earlier ch.kind few);
  least = λ goes. omega (arith, ch.least goes, taken, way);
  most = omega (arith, ch.most, taken, way);
  short = λ ends. omega (arith, ch.short ends, taken);
  ends = ch.ends;
  roomy = ch.roomy;
  unpassed = ch.unpassed;
}))
exact-struck opened p q r z stock tells x taken none one way now since on swaps earlier (inr (inr (inl done))) = absurd (earlier done.kind (omega (arith, done.least, done.most, now)))
exact-struck opened p q r z stock tells x taken none one way now since on swaps earlier (inr (inr (inr after))) = absurd (swaps after.looks)

-- or the one that makes it
pub exact-published : (opened later : Open) (p q : Past) (r z : Reach) (stock : Stock) (tells : ℕ) (x y : OpenCall) → y.task ≡ x.task → y.rest ≡ x.rest → y.effect ≢ None → z.taken ≡ r.taken → r.underway ≡ 1 → z.underway ≡ 1 → made_of x.task + 1 ≡ change_swaps x.task → end_of x.task ≡ None
    → (is_look (kind_of x.task) ≡ true → ⊥) → x.effect ≡ None → (IsChanging opened p r stock tells x → HasStood later q) → IsExact opened p r stock tells x → IsExact later q z stock tells y
exact-published opened later p q r z stock tells x y same rests effected taken way now last goes swaps quiet stands (inl look) = absurd (swaps (seeks-look (kind_of x.task) look.looks))
exact-published opened later p q r z stock tells x y same rests effected taken way now last goes swaps quiet stands (inr (inl ch)) = inr (inr (inl (record {
  effected = effected;
  kind = ap (λ (t : AnyTask). puts (kind_of t)) same ∙ ch.kind;
  tells_swaps = ap change_swaps same ∙ ch.tells_swaps;
  wants = ap wants_of same ∙ ch.wants;
  same_left = ch.same_left;
  least = omega (arith, ap change_swaps same, ch.least goes, taken, way, last);
  most = omega (arith, ap change_swaps same, ap swaps_of same, ch.most, taken, way, now);
  stood = stands ch;
  unpassed = rests ∙ ch.unpassed;
})))
exact-published opened later p q r z stock tells x y same rests effected taken way now last goes swaps quiet stands (inr (inr (inl done))) = absurd (done.effected quiet)
exact-published opened later p q r z stock tells x y same rests effected taken way now last goes swaps quiet stands (inr (inr (inr after))) = absurd (after.counted.effected quiet)

-- or at which it begins one
pub exact-swaps : (opened : Open) (p : Past) (r z : Reach) (stock : Stock) (tells : ℕ) (x : OpenCall) → z.taken ≡ r.taken + 1 → r.untold ≡ 0 → z.untold ≡ 0 → r.underway ≡ 0 → z.underway ≡ 1 → end_of x.task ≡ None
    → (swaps_of x.task ≡ 0 → ⊥) → (is_look (kind_of x.task) ≡ true → swaps_of x.task ≡ 0) → IsExact opened p r stock tells x → IsExact opened p z stock tells x
exact-swaps opened p r z stock tells x taken none still way now goes swaps looks (inl look) = absurd (swaps (looks (seeks-look (kind_of x.task) look.looks)))
exact-swaps opened p r z stock tells x taken none still way now goes swaps looks (inr (inl ch)) = inr (inl (record {
  quiet = ch.quiet;
  first = ch.first;
  kind = ch.kind;
  wants = ch.wants;
  tells_swaps = ch.tells_swaps;
  same_left = ch.same_left;
  alone = λ goes. let sum : made_of x.task + r.untold ≡ made_of x.task + z.untold = omega (arith, none, still) in subst (λ k. HasOthers 0 k p) sum (ch.alone goes);
  before = λ few. still;
  least = λ goes. omega (arith, ch.least goes, taken, way, now);
  most = omega (arith, ch.most, taken, way, now);
  short = λ ends. absurd (cc (goes, ends));
  ends = ch.ends;
  roomy = ch.roomy;
  unpassed = ch.unpassed;
}))
exact-swaps opened p r z stock tells x taken none still way now goes swaps looks (inr (inr (inl done))) = let no_more : swaps_of x.task ≡ 0 = omega (arith, done.least, done.most, way) in absurd (swaps no_more)
exact-swaps opened p r z stock tells x taken none still way now goes swaps looks (inr (inr (inr after))) = absurd (swaps (looks after.looks))

-- whether its leaf is copied alone is nothing to it
pub exact-unmerged : (opened : Open) (p : Past) (r : Reach) (stock : Stock) (tells : ℕ) (x : OpenCall) (alone : Bool) → IsExact opened p r stock tells x → IsExact opened p r stock tells (record x { alone = alone })
exact-unmerged opened p r stock tells x alone (inl look) = inl (assumption look)
exact-unmerged opened p r stock tells x alone (inr (inl ch)) = inr (inl (assumption ch))
exact-unmerged opened p r stock tells x alone (inr (inr (inl done))) = inr (inr (inl (assumption done)))
exact-unmerged opened p r stock tells x alone (inr (inr (inr after))) = inr (inr (inr (record { looks = after.looks; counted = assumption after.counted; alone = after.alone })))

-- nor is whether its own freeze was the last to end, which comes after no look-up
pub seeks-only : (called : Call) (k : Kind) → seeks k ≡ true → only_looks called k ≡ true
seeks-only called kinds.Seek e = refl
seeks-only called kinds.Find e = refl
seeks-only called k e = absurd (true≢false (sym e))

unfrozen : (froze : Bool) → (froze ≡ true → ⊥) → froze ≡ false
unfrozen true never = absurd (never refl)
unfrozen false never = refl

pub exact-froze : (opened : Open) (p : Past) (r : Reach) (stock : Stock) (tells : ℕ) (x : OpenCall) (froze : Bool) → (froze ≡ true → seeks (kind_of x.task) ≡ true → ⊥) → IsExact opened p r stock tells x → IsExact opened p r stock tells (record x { froze = froze })
exact-froze opened p r stock tells x froze never (inl look) = inl (record { quiet = look.quiet; looks = look.looks; thawed = unfrozen froze (λ f. never f look.looks); same_taken = look.same_taken; same_left = look.same_left; first = look.first; alone = look.alone })
exact-froze opened p r stock tells x froze never (inr (inl ch)) = inr (inl (assumption ch))
exact-froze opened p r stock tells x froze never (inr (inr (inl done))) = inr (inr (inl (assumption done)))
exact-froze opened p r stock tells x froze never (inr (inr (inr after))) = inr (inr (inr (record { looks = after.looks; counted = assumption after.counted; alone = after.alone })))

-- a call whose task has ended for want of a descriptor took at most one before
few-told : (called : Call) (had : Option (List ℕ)) → swaps_told (effect_reply called had) ≤ 2
few-told (call.Delete key) (Some had) = omega arith
few-told (call.Update key payload) (Some had) = omega arith
few-told (call.Upsert key payload) (Some had) = omega arith
few-told called had = omega arith

pub full-told : (opened : Open) (p : Past) (taken : ℕ) (stock : Stock) (x : OpenCall) → x.effect ≡ None → end_of x.task ≡ Some (Full Swaps) → (seeks (kind_of x.task) ≡ true → ⊥) → IsExact opened p (reach taken 0 0) stock (tells_of x) x → (taken ≤ stock.begun.taken + 1) × (stock.left ≡ stock.begun.left)
full-told opened p taken stock x quiet ended seek (inl look) = absurd (seek look.looks)
full-told opened p taken stock x quiet ended seek (inr (inl ch)) = (omega (arith, ch.short ended, ch.tells_swaps, few-told x.call x.had), ch.same_left)
full-told opened p taken stock x quiet ended seek (inr (inr (inl done))) = absurd (done.effected quiet)
full-told opened p taken stock x quiet ended seek (inr (inr (inr after))) = absurd (after.counted.effected quiet)

-- and one that has made its change as many as that tells
same-supply : (begun supply : Supply) (n : ℕ) → supply.taken ≡ n → supply.left ≡ begun.left → supply ≡ record begun { taken = n }
same-supply begun supply n taken left = ap (λ (t : ℕ). record supply { taken = t }) taken ∙ ap (λ (l : ℕ). record begun { taken = n; left = l }) left

pub effect-told : (called : Call) (had : Option (List ℕ)) (begun supply : Supply) → is_read called ≡ false → supply.taken ≡ begun.taken + swaps_told (effect_reply called had) → supply.left ≡ begun.left → TakesAsTold begun supply (effect_reply called had)
effect-told (call.Insert key payload) had begun supply writes taken left = same-supply begun supply _ taken left
effect-told (call.Delete key) None begun supply writes taken left = same-supply begun supply _ taken left
effect-told (call.Delete key) (Some had) begun supply writes taken left = same-supply begun supply _ taken left
effect-told (call.Update key payload) None begun supply writes taken left = same-supply begun supply _ taken left
effect-told (call.Update key payload) (Some had) begun supply writes taken left = same-supply begun supply _ taken left
effect-told (call.Upsert key payload) None begun supply writes taken left = same-supply begun supply _ taken left
effect-told (call.Upsert key payload) (Some had) begun supply writes taken left = same-supply begun supply _ taken left
effect-told called had begun supply writes taken left = absurd (true≢false writes)

pub has-counted : (opened : Open) (p : Past) (taken : ℕ) (stock : Stock) (x : OpenCall) → x.effect ≢ None → IsExact opened p (reach taken 0 0) stock (tells_of x) x → HasCounted opened p (reach taken 0 0) stock (tells_of x) x
has-counted opened p taken stock x effected (inl look) = absurd (effected look.quiet)
has-counted opened p taken stock x effected (inr (inl ch)) = absurd (effected ch.quiet)
has-counted opened p taken stock x effected (inr (inr (inl done))) = record { effected = effected; same_taken = omega (arith, done.least, done.most, done.tells_swaps); same_left = done.same_left; stood = done.stood; unpassed = done.unpassed }
has-counted opened p taken stock x effected (inr (inr (inr after))) = after.counted

module _ (c : Config) (log : Log) (mark : Mark) (story after : Story) (w since : ℕ) (opened : Open) (y : Instant) (is : after.at ≡ and_then story.at (length log.past) y) (l : since ≤ length log.past) (begun : opened.begun ≤ length log.past) where
  -- so by a mark at which no swap took effect
  pub exact-on : y.effects ≡ (story.at (length log.past)).effects → (r z : Reach) (stock : Stock) (tells : ℕ) (x : OpenCall) → z ≡ r → (IsSolitary w (mark ∷ log.past) → IsSolitary w log.past)
      → CountsExactly c log w opened (scene c log.past story w since opened).past r stock tells x → CountsExactly c (with_mark log mark) w opened (scene c (mark ∷ log.past) after w since opened).past z stock tells x
  exact-on same r z stock tells x e solitary-before counts solitary room = subst (λ k. IsExact opened (scene c (mark ∷ log.past) after w since opened).past k stock tells x) (sym e)
      (exact-still opened (scene c log.past story w since opened).past (scene c (mark ∷ log.past) after w since opened).past r stock tells x refl
      (λ k. others-on c log.past mark story after w since opened opened y 0 k 0 k 0 is l (omega (arith, same)) (omega arith))
      (stood-on c log.past mark story after w since opened y is same)
      (counts (solitary-before solitary) (had-room-on c log mark opened begun room)))
