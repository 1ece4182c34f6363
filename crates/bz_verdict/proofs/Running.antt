-- The pass over the marks: what is known before a mark, after it, and once the moment behind it was looked at.
use Rattle.std.specs.Prelude.{◌≡◌, ◌<◌, ◌≤◌, ◌+◌, ◌^◌, ◌||◌, ◌&&◌, ◌↔◌, ℕ, Bool, true, false, List, [], ◌∷◌, length, slice_index, slice_set, get_or, Option, Some, None}
use Rattle.std.proofs.Common.{arith, sym, ◌∙◌, subst}
use Rattle.std.proofs.lemmas.Option.{slice_get-get_or}
use Rattle.bz_layout.specs.Addresses.{words_of}
use Rattle.bz_layout.specs.Config.{IsConfig}
use Rattle.bz_layout.specs.declared.config.Config.{Config}
use Rattle.bz_call.specs.Map.{Map}
use Rattle.bz_content.specs.Content.{image_fault}
use Rattle.bz_judge.specs.Held.{IsImageOf, IsImage as IsHeld}
use Rattle.bz_mark.specs.declared.marks.Mark.{Mark}
use Rattle.bz_mark.specs.declared.power.Power.{Power}
use Rattle.bz_mark.specs.Laws.{IsImage, AreOfMemory}
use Rattle.bz_mark.specs.Moments.{at_moment, mark_at, IsInner}
use Rattle.bz_mark.proofs.MomentLaws.{at_moment-next, length-at_moment}
use Rattle.bz_sound.specs.Calls.{Open, open_call, map_after}
use Rattle.bz_sound.specs.Memory.Moments.{map_at_start, Decodes}
use Rattle.bz_sound.specs.Replies.{Pages}
use Rattle.bz_check.specs.Pairs.{Holds}
use Rattle.bz_check.specs.Passes.{Passed, Passes}
use Rattle.bz_check.specs.Rules.{FollowsJudged}
use Rattle.bz_check.specs.Tables.{Known}
use Rattle.bz_check.specs.Verdicts.{TellsFirst, first_of}
use Rattle.bz_check.specs.declared.verdict.JudgeRule.{JudgeRule}
use Rattle.bz_check.specs.declared.verdict.JudgeRule.TheVariants.{Calls}
use Rattle.bz_check.proofs.Following.{none_some, some_same}
use Rattle.bz_check.proofs.Judging.{none_yet, of_memory_at}
use Rattle.bz_verdict.specs.Images.{TellsMoment}
use Rattle.bz_verdict.specs.Pages.{ShowsMark}
use Rattle.bz_verdict.specs.Questions.{AreAsked, AreCalls, is_shown_in, with_page}
use Rattle.bz_verdict.specs.Rules.{may_change_image, FollowsMarks}
use Rattle.bz_verdict.proofs.Answered.{Answered, IsAnswer, answered_first, answered_more, end_outer, page_tells}
use Rattle.bz_verdict.proofs.Going.{Sees, Seen, Looked, sees_first, sees_now, sees_on, seen_more, looked, decodes_now}

-- before a mark
pub record Runs (c : Config) (at_start : Power) (start : List ℕ) (pages : Pages) (past : List Mark) (i : ℕ) (pass : Passed) (broken : Option JudgeRule) (stale : Bool) (asked : List ℕ) : Type 0 where
  pub passes : Passes c at_start start (map_at_start c start) (at_moment i past) pass
  pub sees : Sees c at_start start pages past i broken stale
  pub answered : Answered c start pages past i asked

pub runs_first : (c : Config) (at_start : Power) (start : List ℕ) (pages : Pages) (past : List Mark) (pass : Passed) (asked : List ℕ) → image_fault c (slice_index start) ≡ None → Passes c at_start start (map_at_start c start) [] pass
    → AreAsked past (length past) asked → Runs c at_start start pages past 0 pass None false asked
runs_first c at_start start pages past pass asked none passes table = record {
  passes = subst (λ (marks : List Mark). Passes c at_start start (map_at_start c start) marks pass) (sym (none_yet past)) passes;
  sees = sees_first c at_start start pages past none;
  answered = answered_first c start pages past asked table;
}

-- after it
pub record Ran (c : Config) (at_start : Power) (start : List ℕ) (pages : Pages) (past : List Mark) (i : ℕ) (pass : Passed) (broken : Option JudgeRule) (changed : Bool) (asked : List ℕ) : Type 0 where
  pub passes : Passes c at_start start (map_at_start c start) (at_moment (i + 1) past) pass
  pub seen : Seen c at_start start pages past (i + 1) broken changed
  pub look : Looked c start (at_moment (i + 1) past) pass.words.durable pass.pairs
  pub answered : Answered c start pages past i asked

pub ran : (c : Config) (at_start : Power) (start : List ℕ) (pages : Pages) (past : List Mark) (i : ℕ) (mark : Mark) (old new : Passed) (broken plain fault next : Option JudgeRule) (stale changed : Bool) (asked : List ℕ) → IsImage start
    → AreOfMemory (length start) past → length past < 2 ^ 32 → i < length past → mark_at i past ≡ Some mark → Passes c at_start start (map_at_start c start) (mark ∷ at_moment i past) new
    → TellsFirst (FollowsJudged c at_start start (map_at_start c start) (at_moment i past) mark) plain → fault ≡ with_page plain (is_shown_in asked i mark) → next ≡ first_of broken fault → changed ≡ (stale || may_change_image mark)
    → Runs c at_start start pages past i old broken stale asked → Ran c at_start start pages past i new next changed asked
ran c at_start start pages past i mark old new broken plain fault next stale changed asked image are few lt is passes tells with first change r =
    let more : at_moment (i + 1) past ≡ mark ∷ at_moment i past = at_moment-next i mark past is lt in
    let passed : Passes c at_start start (map_at_start c start) (at_moment (i + 1) past) new = subst (λ (marks : List Mark). Passes c at_start start (map_at_start c start) marks new) (sym more) passes in
    let size : length (at_moment (i + 1) past) ≡ i + 1 = length-at_moment (i + 1) past (omega arith) in
    let told : TellsFirst (FollowsMarks c at_start start pages (at_moment i past) mark) (with_page plain (is_shown_in asked i mark)) =
    page_tells c at_start start pages past i mark asked plain lt is (λ ends. sees_now c at_start start pages past i broken stale r.sees (end_outer past i mark is ends) Calls) r.answered tells in
    record {
      passes = passed;
      seen = seen_more c at_start start pages past i mark broken fault next stale changed r.sees lt is
          (subst (λ (o : Option JudgeRule). TellsFirst (FollowsMarks c at_start start pages (at_moment i past) mark) o) (sym with) told) first change;
      look = looked c at_start start (at_moment (i + 1) past) new passed image (of_memory_at (length start) (i + 1) past are) (omega (arith, size));
      answered = r.answered;
    }

-- a word as it was read
pub read_at : (words : List ℕ) (i word : ℕ) → i < length words → word ≡ get_or words i word → word ≡ slice_index words i
read_at words i word lt is = is ∙ some_same (get_or words i word) (get_or words i 0) (sym (slice_get-get_or words i word lt) ∙ slice_get-get_or words i 0 lt)

-- by the table as it was lent
pub told_with : (asked lent : List ℕ) (i : ℕ) (mark : Mark) (plain fault : Option JudgeRule) → lent ≡ asked → fault ≡ with_page plain (is_shown_in lent i mark) → fault ≡ with_page plain (is_shown_in asked i mark)
told_with asked lent i mark plain fault same is = subst (λ (all : List ℕ). fault ≡ with_page plain (is_shown_in all i mark)) same is

-- the image of a moment at which no rule is told
quiet : (c : Config) (at_start : Power) (start : List ℕ) (pages : Pages) (past : List Mark) (n : ℕ) (durable : List ℕ) (pairs : List (List ℕ × List ℕ)) (broken : Option JudgeRule) (changed : Bool) → Seen c at_start start pages past n broken changed
    → Looked c start (at_moment n past) durable pairs → TellsMoment c (slice_index durable) pairs false broken changed None → Decodes c start (at_moment n past)
quiet c at_start start pages past n durable pairs (Some rule) changed s l t = absurd (none_some rule t)
quiet c at_start start pages past n durable pairs None changed s l t = decodes_now c at_start start pages past n durable pairs changed s l t

tells_outer : (c : Config) (durable : List ℕ) (pairs : List (List ℕ × List ℕ)) (inner : Bool) (broken told : Option JudgeRule) (changed : Bool) → TellsMoment c (slice_index durable) pairs inner broken changed told → told ≡ None → inner ≡ false
    → TellsMoment c (slice_index durable) pairs false broken changed None
tells_outer c durable pairs inner broken told changed t none outer =
    subst (λ (o : Option JudgeRule). TellsMoment c (slice_index durable) pairs false broken changed o) none
    (subst (λ (b : Bool). TellsMoment c (slice_index durable) pairs b broken changed told) outer t)

pub image_then : (c : Config) (at_start : Power) (start : List ℕ) (pages : Pages) (past : List Mark) (i : ℕ) (pass : Passed) (broken told : Option JudgeRule) (changed inner : Bool) (asked : List ℕ) → IsConfig c → length start ≡ words_of c
    → Ran c at_start start pages past i pass broken changed asked → TellsMoment c (slice_index pass.words.durable) pass.pairs inner broken changed told → told ≡ None → inner ≡ false → IsImageOf c pass.words.durable
image_then c at_start start pages past i pass broken told changed inner asked config size r t none outer =
    let d : Decodes c start (at_moment (i + 1) past) = quiet c at_start start pages past (i + 1) pass.words.durable pass.pairs broken changed r.seen r.look (tells_outer c pass.words.durable pass.pairs inner broken told changed t none outer) in
    record {
      config = config;
      size = omega (arith, r.passes.replays.durable_size, size);
      none = subst (λ (words : List ℕ). image_fault c (slice_index words) ≡ None) (sym r.look.words) d.well_formed;
    }

pub held_then : (c : Config) (image : List ℕ) → IsImageOf c image → IsHeld image
held_then c image is = record { config = c; whole = is }

-- what is answered of the moment's question
answer_is : (c : Config) (start : List ℕ) (pages : Pages) (past : List Mark) (at : ℕ) (durable : List ℕ) (pairs : List (List ℕ × List ℕ)) (table : Known) (inner : Bool) (question left : ℕ) → Looked c start (at_moment at past) durable pairs
    → (inner ≡ false → IsImageOf c durable) → AreCalls (λ w. open_call w (at_moment at past)) table → left ≤ question
    → ((numbers : Config) (map : Map) (calls : ℕ → Option Open) → inner ≡ false → IsImageOf numbers durable → Holds map pairs → AreCalls calls table → (e : ℕ) (mark : Mark) → question ≡ e + 1 → mark_at e past ≡ Some mark
    → (left ≡ e + 1 ↔ ShowsMark numbers (slice_index durable) map pages calls mark)) → IsAnswer c start pages past at inner question left
answer_is c start pages past at durable pairs table inner question left look image calls most shown = record {
  at_most = most;
  shown = λ outer e mark is there.
      let two : left ≡ e + 1 ↔ ShowsMark c (slice_index durable) (map_after (map_at_start c start) (at_moment at past)) pages (λ w. open_call w (at_moment at past)) mark =
      shown c (map_after (map_at_start c start) (at_moment at past)) (λ w. open_call w (at_moment at past)) outer (image outer) look.map calls e mark is there in
      subst (λ (words : List ℕ). left ≡ e + 1 ↔ ShowsMark c (slice_index words) (map_after (map_at_start c start) (at_moment at past)) pages (λ w. open_call w (at_moment at past)) mark) look.words two;
}

-- and so before the next mark
pub runs_on : (c : Config) (at_start : Power) (start : List ℕ) (pages : Pages) (past : List Mark) (i : ℕ) (pass : Passed) (broken told : Option JudgeRule) (changed inner stale : Bool) (asked new : List ℕ) (question left : ℕ) → IsConfig c
    → length start ≡ words_of c → i < length past → (inner ≡ true → IsInner (i + 1) past) → Ran c at_start start pages past i pass broken changed asked
    → TellsMoment c (slice_index pass.words.durable) pass.pairs inner broken changed told → told ≡ None → stale ≡ (changed && inner) → new ≡ slice_set asked (i + 1) left → question ≡ slice_index asked (i + 1) → left ≤ question
    → ((numbers : Config) (map : Map) (calls : ℕ → Option Open) → inner ≡ false → IsImageOf numbers pass.words.durable → Holds map pass.pairs → AreCalls calls pass.table → (e : ℕ) (mark : Mark) → question ≡ e + 1
    → mark_at e past ≡ Some mark → (left ≡ e + 1 ↔ ShowsMark numbers (slice_index pass.words.durable) map pages calls mark)) → Runs c at_start start pages past (i + 1) pass broken stale new
runs_on c at_start start pages past i pass broken told changed inner stale asked new question left config size lt is r t none waits made there most shown = record {
  passes = r.passes;
  sees = sees_on c at_start start pages past (i + 1) pass.words.durable pass.pairs inner broken told changed stale r.seen is r.look t none waits;
  answered = answered_more c start pages past i asked new inner left (omega arith) is made
      (subst (λ (n : ℕ). IsAnswer c start pages past (i + 1) inner n left) there
      (answer_is c start pages past (i + 1) pass.words.durable pass.pairs pass.table inner question left r.look
      (image_then c at_start start pages past i pass broken told changed inner asked config size r t none) r.passes.knows.is_open most shown)) r.answered;
}
