-- The five rules, mark by mark: what the marks break is known as ever, and what images break by the image of each moment that is not inner.
use Rattle.std.specs.Prelude.{◌≡◌, ◌<◌, ◌≤◌, ◌+◌, ◌-◌, ◌^◌, ◌||◌, ◌&&◌, ℕ, Bool, true, false, List, [], ◌∷◌, length, drop, slice_index, Option, Some, None}
use Rattle.std.proofs.Common.{arith, refl, sym, ap, ◌∙◌, subst, inl, inr}
use Rattle.std.proofs.lemmas.Bool.{cases_lt}
use Rattle.std.proofs.lemmas.List.{drop-drop}
use Rattle.bz_layout.specs.declared.config.Config.{Config}
use Rattle.bz_content.specs.Content.{image_fault, content_in}
use Rattle.bz_content.specs.Map.{map_in}
use Rattle.bz_mark.specs.declared.marks.Mark.{Mark}
use Rattle.bz_mark.specs.declared.marks.Mark.TheVariants.{Fence, Evict, Effect}
use Rattle.bz_mark.specs.declared.power.Power.{Power}
use Rattle.bz_mark.specs.Laws.{IsImage, AreOfMemory}
use Rattle.bz_mark.specs.Moments.{at_moment, mark_at, IsInner, AtEachMoment}
use Rattle.bz_mark.specs.WordsAfter.{words_after_marks}
use Rattle.bz_mark.proofs.MomentLaws.{at_moment-now, at_moment-next, length-at_moment, mark_at-at_moment}
use Rattle.bz_sound.specs.Calls.{map_after}
use Rattle.bz_sound.specs.Memory.Moments.{map_at_start, Decodes}
use Rattle.bz_sound.specs.Replies.{Pages}
use Rattle.bz_sound.proofs.Memory.Fresh.{decodes-start}
use Rattle.bz_sound.proofs.Memory.Marks.{holds-now, holds-last}
use Rattle.bz_check.specs.Pairs.{Holds}
use Rattle.bz_check.specs.Passes.{Passed, Passes}
use Rattle.bz_check.specs.Rules.{HasShape, HasContent}
use Rattle.bz_check.specs.Verdicts.{place_of, IsFirstBroken, TellsFirst, first_of, IsVerdict}
use Rattle.bz_check.specs.declared.verdict.JudgeRule.{JudgeRule}
use Rattle.bz_check.specs.declared.verdict.JudgeRule.TheVariants.{Truth, Calls, Reply, Shape, Content}
use Rattle.bz_check.specs.declared.verdict.Verdict.TheVariants.{Sound, Broken}
use Rattle.bz_check.proofs.Deciding.{IsByMarks, Goes, Went, begins, whole_if_outer, goes_on, goes_whole, goes_inner, no_mark}
use Rattle.bz_check.proofs.Following.{false_true, none_some, some_same}
use Rattle.bz_check.proofs.Judging.{none_yet}
use Rattle.bz_check.proofs.Replaying.{durable_is}
use Rattle.bz_verdict.specs.Images.{IsGood, HoldsOthers, AreOneMap, TellsMoment}
use Rattle.bz_verdict.specs.Rules.{KeepsSeen, KeepsMarks, FollowsMarks, may_change_image}

-- marks keep a rule of marks where each mark does
pub by_marks : (c : Config) (at_start : Power) (start : List ℕ) (pages : Pages) → IsByMarks (KeepsMarks c at_start start pages) (FollowsMarks c at_start start pages)
by_marks c at_start start pages Truth past mark = (λ h. h, λ h. h)
by_marks c at_start start pages Calls past mark = (λ h. h, λ h. h)
by_marks c at_start start pages Reply past mark = (λ h. h, λ h. h)
by_marks c at_start start pages Shape past mark = (λ h. (tt, tt), λ h. tt)
by_marks c at_start start pages Content past mark = (λ h. (tt, tt), λ h. tt)

keeps_none : (c : Config) (at_start : Power) (start : List ℕ) (pages : Pages) (rule : JudgeRule) → KeepsMarks c at_start start pages rule []
keeps_none c at_start start pages Truth = tt
keeps_none c at_start start pages Calls = tt
keeps_none c at_start start pages Reply = tt
keeps_none c at_start start pages Shape = tt
keeps_none c at_start start pages Content = tt

pub keeps_yet : (c : Config) (at_start : Power) (start : List ℕ) (pages : Pages) (past : List Mark) (rule : JudgeRule) → KeepsMarks c at_start start pages rule (at_moment 0 past)
keeps_yet c at_start start pages past rule = subst (λ (marks : List Mark). KeepsMarks c at_start start pages rule marks) (sym (none_yet past)) (keeps_none c at_start start pages rule)

-- moments of the marks before a moment
pub earlier_still : (past : List Mark) (m n : ℕ) → m ≤ n → n ≤ length past → at_moment m (at_moment n past) ≡ at_moment m past
earlier_still past m n le within =
    let size : length (at_moment n past) ≡ n = length-at_moment n past within in
    drop-drop (length (at_moment n past) - m) (length past - n) past ∙ ap (λ (k : ℕ). drop k past) (omega (arith, size))

pub inner_front : (past : List Mark) (m n : ℕ) → m < n → n ≤ length past → IsInner m past → IsInner m (at_moment n past)
inner_front past m n lt within (h, (w, k, is)) = (omega (arith, length-at_moment n past within), (w, k, mark_at-at_moment m n past lt within ∙ is))

pub each_so : (P : List Mark → Type 0) (past : List Mark) (n : ℕ) → n ≤ length past → ((m : ℕ) → m < n → (IsInner m past → ⊥) → P (at_moment m past)) → P (at_moment n past) → AtEachMoment P (at_moment n past)
each_so P past n within before here = λ m h outer. elim (cases_lt m n) [
  | inl earlier ↦ subst P (sym (earlier_still past m n (omega arith) within)) (before m earlier (λ inner. outer (inner_front past m n earlier within inner)))
  | inr late ↦
      let now : m ≡ length (at_moment n past) = omega (arith, h, length-at_moment n past within) in
      holds-last P (at_moment n past) m now here
]

-- all five rules are kept at each earlier moment that is not inner
abbrev pub Before : Config → Power → List ℕ → Pages → List Mark → ℕ → Type 0
Before c at_start start pages past moment = (m : ℕ) → m < moment → (IsInner m past → ⊥) → (rule : JudgeRule) → KeepsSeen c at_start start pages rule (at_moment m past)

shapes : (c : Config) (at_start : Power) (start : List ℕ) (pages : Pages) (past : List Mark) (n : ℕ) → Before c at_start start pages past n → (m : ℕ) → m < n → (IsInner m past → ⊥) → HasShape c start (at_moment m past)
shapes c at_start start pages past n before m lt outer = holds-now (HasShape c start) (at_moment m past) (before m lt outer Shape)

contents : (c : Config) (at_start : Power) (start : List ℕ) (pages : Pages) (past : List Mark) (n : ℕ) → Before c at_start start pages past n → (m : ℕ) → m < n → (IsInner m past → ⊥) → HasContent c start (at_moment m past)
contents c at_start start pages past n before m lt outer = holds-now (HasContent c start) (at_moment m past) (before m lt outer Content)

seen_now : (c : Config) (at_start : Power) (start : List ℕ) (pages : Pages) (past : List Mark) (n : ℕ) → n ≤ length past → Before c at_start start pages past n → ((rule : JudgeRule) → KeepsMarks c at_start start pages rule (at_moment n past)) → Decodes c start (at_moment n past)
    → (rule : JudgeRule) → KeepsSeen c at_start start pages rule (at_moment n past)
seen_now c at_start start pages past n within before three d Truth = three Truth
seen_now c at_start start pages past n within before three d Calls = three Calls
seen_now c at_start start pages past n within before three d Reply = three Reply
seen_now c at_start start pages past n within before three d Shape = each_so (HasShape c start) past n within (shapes c at_start start pages past n before) d.well_formed
seen_now c at_start start pages past n within before three d Content = each_so (HasContent c start) past n within (contents c at_start start pages past n before) d.content

-- what is known at a moment: as ever of what marks break; and where nothing has changed since an image was looked at, that it is good
pub record Sees (c : Config) (at_start : Power) (start : List ℕ) (pages : Pages) (past : List Mark) (moment : ℕ) (broken : Option JudgeRule) (stale : Bool) : Type 0 where
  pub goes : Goes (KeepsMarks c at_start start pages) past moment broken
  pub before : Before c at_start start pages past moment
  pub fresh : stale ≡ false → Decodes c start (at_moment moment past)
  pub rested : (IsInner moment past → ⊥) → stale ≡ false

-- after one mark more, before the image is looked at
pub record Seen (c : Config) (at_start : Power) (start : List ℕ) (pages : Pages) (past : List Mark) (moment : ℕ) (broken : Option JudgeRule) (changed : Bool) : Type 0 where
  pub went : Went (KeepsMarks c at_start start pages) past moment broken
  pub before : Before c at_start start pages past moment
  pub fresh : changed ≡ false → Decodes c start (at_moment moment past)

pub sees_now : (c : Config) (at_start : Power) (start : List ℕ) (pages : Pages) (past : List Mark) (moment : ℕ) (broken : Option JudgeRule) (stale : Bool) → Sees c at_start start pages past moment broken stale → (IsInner moment past → ⊥)
    → (rule : JudgeRule) → KeepsSeen c at_start start pages rule (at_moment moment past)
sees_now c at_start start pages past moment broken stale s outer =
    seen_now c at_start start pages past moment s.goes.within s.before (whole_if_outer (KeepsMarks c at_start start pages) past moment broken s.goes.tells s.goes.waits outer) (s.fresh (s.rested outer))

before_more : (c : Config) (at_start : Power) (start : List ℕ) (pages : Pages) (past : List Mark) (moment : ℕ) (broken : Option JudgeRule) (stale : Bool) → Sees c at_start start pages past moment broken stale → Before c at_start start pages past (moment + 1)
before_more c at_start start pages past moment broken stale s = λ m lt outer. elim (cases_lt m moment) [
  | inl earlier ↦ s.before m earlier outer
  | inr late ↦
      let now : moment ≡ m = omega arith in
      let out : IsInner moment past → ⊥ = λ inner. outer (subst (λ (k : ℕ). IsInner k past) now inner) in
      subst (λ (k : ℕ). (rule : JudgeRule) → KeepsSeen c at_start start pages rule (at_moment k past)) now (sees_now c at_start start pages past moment broken stale s out)
]

-- most marks leave the durable words and the map
image_stays : (c : Config) (start : List ℕ) (past : List Mark) (mark : Mark) → may_change_image mark ≡ false → Decodes c start past → Decodes c start (mark ∷ past)
image_stays c start past (Fence w) e d = absurd (false_true (sym e))
image_stays c start past (Evict a) e d = absurd (false_true (sym e))
image_stays c start past (Effect w n) e d = absurd (false_true (sym e))
image_stays c start past mark e d = record { well_formed = d.well_formed; content = d.content }

neither : (a b : Bool) → (a || b) ≡ false → (a ≡ false) × (b ≡ false)
neither false b e = (refl, e)
neither true b e = absurd (false_true (sym e))

pub seen_more : (c : Config) (at_start : Power) (start : List ℕ) (pages : Pages) (past : List Mark) (moment : ℕ) (mark : Mark) (broken fault next : Option JudgeRule) (stale changed : Bool) → Sees c at_start start pages past moment broken stale → moment < length past
    → mark_at moment past ≡ Some mark → TellsFirst (FollowsMarks c at_start start pages (at_moment moment past) mark) fault → next ≡ first_of broken fault → changed ≡ (stale || may_change_image mark)
    → Seen c at_start start pages past (moment + 1) next changed
seen_more c at_start start pages past moment mark broken fault next stale changed s lt is tells e f = record {
  went = subst (λ (b : Option JudgeRule). Went (KeepsMarks c at_start start pages) past (moment + 1) b) (sym e)
      (goes_on (KeepsMarks c at_start start pages) (FollowsMarks c at_start start pages) past moment mark broken fault (by_marks c at_start start pages) lt is s.goes tells);
  before = before_more c at_start start pages past moment broken stale s;
  fresh = λ no.
      let two = neither stale (may_change_image mark) (sym f ∙ no) in
      subst (Decodes c start) (sym (at_moment-next moment mark past is lt)) (image_stays c start (at_moment moment past) mark two.1 (s.fresh two.0));
}

-- an image that was looked at
pub record Looked (c : Config) (start : List ℕ) (marks : List Mark) (durable : List ℕ) (pairs : List (List ℕ × List ℕ)) : Type 0 where
  pub words : durable ≡ (words_after_marks start marks).durable
  pub map : Holds (map_after (map_at_start c start) marks) pairs

good_decodes : (c : Config) (start : List ℕ) (marks : List Mark) (durable : List ℕ) (pairs : List (List ℕ × List ℕ)) → Looked c start marks durable pairs → IsGood c (slice_index durable) pairs → Decodes c start marks
good_decodes c start marks durable pairs l g = record {
  well_formed = subst (λ (d : List ℕ). image_fault c (slice_index d) ≡ None) l.words g.shape;
  content = λ key. ap (λ (d : List ℕ). content_in c (slice_index d) key) (sym l.words) ∙ g.content key ∙ sym (l.map key);
}

-- an image that holds what a map of pairs holds, or other pairs
pub held_good : (c : Config) (image : List ℕ) (held pairs : List (List ℕ × List ℕ)) → image_fault c (slice_index image) ≡ None → Holds (map_in c (slice_index image)) held → AreOneMap held pairs → IsGood c (slice_index image) pairs
held_good c image held pairs none h same = record { shape = none; content = λ key. (decodes-start c image none).content key ∙ h key ∙ same key }

pub held_others : (c : Config) (image : List ℕ) (held pairs : List (List ℕ × List ℕ)) → image_fault c (slice_index image) ≡ None → Holds (map_in c (slice_index image)) held → (AreOneMap held pairs → ⊥) → HoldsOthers c (slice_index image) pairs
held_others c image held pairs none h other = record { shape = none; content = λ has. other (λ key. sym (h key) ∙ sym ((decodes-start c image none).content key) ∙ has key) }

pub looked : (c : Config) (at_start : Power) (start : List ℕ) (marks : List Mark) (p : Passed) → Passes c at_start start (map_at_start c start) marks p → IsImage start → AreOfMemory (length start) marks → length marks < 2 ^ 64 - 1
    → Looked c start marks p.words.durable p.pairs
looked c at_start start marks p h image are few = record { words = durable_is start marks p.words h.replays image are few; map = h.holds }

-- the verdict at a moment that is not inner
pub three_seen : (c : Config) (at_start : Power) (start : List ℕ) (pages : Pages) (marks : List Mark) (rule : JudgeRule) → place_of rule < 3 → KeepsMarks c at_start start pages rule marks → KeepsSeen c at_start start pages rule marks
three_seen c at_start start pages marks Truth lt h = h
three_seen c at_start start pages marks Calls lt h = h
three_seen c at_start start pages marks Reply lt h = h
three_seen c at_start start pages marks Shape lt h = absurd (omega arith)
three_seen c at_start start pages marks Content lt h = absurd (omega arith)

told_marks : (c : Config) (at_start : Power) (start : List ℕ) (pages : Pages) (marks : List Mark) (rule : JudgeRule) → IsFirstBroken (λ kept. KeepsMarks c at_start start pages kept marks) rule → IsFirstBroken (λ kept. KeepsSeen c at_start start pages kept marks) rule
told_marks c at_start start pages marks Truth f = record { broken = f.broken; earlier = λ other lt. absurd (omega arith) }
told_marks c at_start start pages marks Calls f = record { broken = f.broken; earlier = λ other lt. three_seen c at_start start pages marks other (omega arith) (f.earlier other lt) }
told_marks c at_start start pages marks Reply f = record { broken = f.broken; earlier = λ other lt. three_seen c at_start start pages marks other (omega arith) (f.earlier other lt) }
told_marks c at_start start pages marks Shape f = absurd (f.broken tt)
told_marks c at_start start pages marks Content f = absurd (f.broken tt)

broken_marks : (c : Config) (at_start : Power) (start : List ℕ) (pages : Pages) (past : List Mark) (n : ℕ) (rule : JudgeRule) (changed : Bool) → Seen c at_start start pages past n (Some rule) changed → (IsInner n past → ⊥) → IsVerdict (KeepsSeen c at_start start pages) past (Broken rule n)
broken_marks c at_start start pages past n rule changed s outer = record { within = s.went.within; outer = outer; before = s.before; this = told_marks c at_start start pages (at_moment n past) rule s.went.tells }

broken_shape : (c : Config) (at_start : Power) (start : List ℕ) (pages : Pages) (past : List Mark) (n : ℕ) (durable : List ℕ) (pairs : List (List ℕ × List ℕ)) (changed : Bool) → Seen c at_start start pages past n None changed → (IsInner n past → ⊥)
    → Looked c start (at_moment n past) durable pairs → (image_fault c (slice_index durable) ≡ None → ⊥) → IsVerdict (KeepsSeen c at_start start pages) past (Broken Shape n)
broken_shape c at_start start pages past n durable pairs changed s outer l bad = record {
  within = s.went.within;
  outer = outer;
  before = s.before;
  this = record {
    broken = λ kept. bad (subst (λ (d : List ℕ). image_fault c (slice_index d) ≡ None) (sym l.words) (holds-now (HasShape c start) (at_moment n past) kept));
    earlier = λ other lt. three_seen c at_start start pages (at_moment n past) other lt (s.went.tells other);
  };
}

content_earlier : (c : Config) (at_start : Power) (start : List ℕ) (pages : Pages) (past : List Mark) (n : ℕ) → n ≤ length past → Before c at_start start pages past n → ((rule : JudgeRule) → KeepsMarks c at_start start pages rule (at_moment n past)) → HasShape c start (at_moment n past)
    → (other : JudgeRule) → place_of other < 4 → KeepsSeen c at_start start pages other (at_moment n past)
content_earlier c at_start start pages past n within before three shape Truth lt = three Truth
content_earlier c at_start start pages past n within before three shape Calls lt = three Calls
content_earlier c at_start start pages past n within before three shape Reply lt = three Reply
content_earlier c at_start start pages past n within before three shape Shape lt = each_so (HasShape c start) past n within (shapes c at_start start pages past n before) shape
content_earlier c at_start start pages past n within before three shape Content lt = absurd (omega arith)

broken_content : (c : Config) (at_start : Power) (start : List ℕ) (pages : Pages) (past : List Mark) (n : ℕ) (durable : List ℕ) (pairs : List (List ℕ × List ℕ)) (changed : Bool) → Seen c at_start start pages past n None changed → (IsInner n past → ⊥)
    → Looked c start (at_moment n past) durable pairs → HoldsOthers c (slice_index durable) pairs → IsVerdict (KeepsSeen c at_start start pages) past (Broken Content n)
broken_content c at_start start pages past n durable pairs changed s outer l h = record {
  within = s.went.within;
  outer = outer;
  before = s.before;
  this = record {
    broken = λ kept. h.content (λ key. ap (λ (d : List ℕ). content_in c (slice_index d) key) l.words ∙ holds-now (HasContent c start) (at_moment n past) kept key ∙ l.map key);
    earlier = content_earlier c at_start start pages past n s.went.within s.before s.went.tells (subst (λ (d : List ℕ). image_fault c (slice_index d) ≡ None) l.words h.shape);
  };
}

by_image : (c : Config) (at_start : Power) (start : List ℕ) (pages : Pages) (past : List Mark) (n : ℕ) (durable : List ℕ) (pairs : List (List ℕ × List ℕ)) (changed : Bool) (rule : JudgeRule) → Seen c at_start start pages past n None changed → (IsInner n past → ⊥)
    → Looked c start (at_moment n past) durable pairs → TellsMoment c (slice_index durable) pairs false None changed (Some rule) → IsVerdict (KeepsSeen c at_start start pages) past (Broken rule n)
by_image c at_start start pages past n durable pairs false rule s outer l t = absurd (none_some rule (sym t))
by_image c at_start start pages past n durable pairs true Truth s outer l t = absurd t
by_image c at_start start pages past n durable pairs true Calls s outer l t = absurd t
by_image c at_start start pages past n durable pairs true Reply s outer l t = absurd t
by_image c at_start start pages past n durable pairs true Shape s outer l t = broken_shape c at_start start pages past n durable pairs true s outer l t
by_image c at_start start pages past n durable pairs true Content s outer l t = broken_content c at_start start pages past n durable pairs true s outer l t

pub verdict_told : (c : Config) (at_start : Power) (start : List ℕ) (pages : Pages) (past : List Mark) (n : ℕ) (durable : List ℕ) (pairs : List (List ℕ × List ℕ)) (inner : Bool) (broken : Option JudgeRule) (changed : Bool) (rule : JudgeRule)
    → Seen c at_start start pages past n broken changed → (IsInner n past → inner ≡ true) → Looked c start (at_moment n past) durable pairs → TellsMoment c (slice_index durable) pairs inner broken changed (Some rule)
    → IsVerdict (KeepsSeen c at_start start pages) past (Broken rule n)
verdict_told c at_start start pages past n durable pairs true broken changed rule s is l t = absurd (none_some rule (sym t))
verdict_told c at_start start pages past n durable pairs false (Some other) changed rule s is l t =
    subst (λ (r : JudgeRule). IsVerdict (KeepsSeen c at_start start pages) past (Broken r n)) (sym (some_same rule other t)) (broken_marks c at_start start pages past n other changed s (λ inner. false_true (is inner)))
verdict_told c at_start start pages past n durable pairs false None changed rule s is l t = by_image c at_start start pages past n durable pairs changed rule s (λ inner. false_true (is inner)) l t

-- no verdict yet
never_both : (b : Bool) → (b && false) ≡ false
never_both true = refl
never_both false = refl

and_so : (b : Bool) → (b && true) ≡ false → b ≡ false
and_so true e = e
and_so false e = refl

pub decodes_now : (c : Config) (at_start : Power) (start : List ℕ) (pages : Pages) (past : List Mark) (n : ℕ) (durable : List ℕ) (pairs : List (List ℕ × List ℕ)) (changed : Bool) → Seen c at_start start pages past n None changed
    → Looked c start (at_moment n past) durable pairs → TellsMoment c (slice_index durable) pairs false None changed None → Decodes c start (at_moment n past)
decodes_now c at_start start pages past n durable pairs false s l t = s.fresh refl
decodes_now c at_start start pages past n durable pairs true s l t = good_decodes c start (at_moment n past) durable pairs l t

sees_by : (c : Config) (at_start : Power) (start : List ℕ) (pages : Pages) (past : List Mark) (n : ℕ) (durable : List ℕ) (pairs : List (List ℕ × List ℕ)) (inner : Bool) (broken : Option JudgeRule) (changed : Bool) → Seen c at_start start pages past n broken changed
    → (inner ≡ true → IsInner n past) → Looked c start (at_moment n past) durable pairs → TellsMoment c (slice_index durable) pairs inner broken changed None → Sees c at_start start pages past n broken (changed && inner)
sees_by c at_start start pages past n durable pairs true broken changed s is l t = record {
  goes = goes_inner (KeepsMarks c at_start start pages) past n broken s.went (is refl);
  before = s.before;
  fresh = λ e. s.fresh (and_so changed e);
  rested = λ outer. absurd (outer (is refl));
}
sees_by c at_start start pages past n durable pairs false (Some rule) changed s is l t = absurd (none_some rule t)
sees_by c at_start start pages past n durable pairs false None changed s is l t = record {
  goes = goes_whole (KeepsMarks c at_start start pages) past n s.went;
  before = s.before;
  fresh = λ e. decodes_now c at_start start pages past n durable pairs changed s l t;
  rested = λ outer. never_both changed;
}

pub sees_on : (c : Config) (at_start : Power) (start : List ℕ) (pages : Pages) (past : List Mark) (n : ℕ) (durable : List ℕ) (pairs : List (List ℕ × List ℕ)) (inner : Bool) (broken told : Option JudgeRule) (changed stale : Bool)
    → Seen c at_start start pages past n broken changed → (inner ≡ true → IsInner n past) → Looked c start (at_moment n past) durable pairs → TellsMoment c (slice_index durable) pairs inner broken changed told → told ≡ None → stale ≡ (changed && inner)
    → Sees c at_start start pages past n broken stale
sees_on c at_start start pages past n durable pairs inner broken told changed stale s is l t none e =
    subst (λ (b : Bool). Sees c at_start start pages past n broken b) (sym e)
    (sees_by c at_start start pages past n durable pairs inner broken changed s is l (subst (λ (o : Option JudgeRule). TellsMoment c (slice_index durable) pairs inner broken changed o) none t))

-- at the start and at the end
pub sees_first : (c : Config) (at_start : Power) (start : List ℕ) (pages : Pages) (past : List Mark) → image_fault c (slice_index start) ≡ None → Sees c at_start start pages past 0 None false
sees_first c at_start start pages past none = record {
  goes = begins (KeepsMarks c at_start start pages) past (keeps_yet c at_start start pages past);
  before = λ m lt outer. absurd (omega arith);
  fresh = λ e. subst (Decodes c start) (sym (none_yet past)) (decodes-start c start none);
  rested = λ outer. refl;
}

pub sees_last : (c : Config) (at_start : Power) (start : List ℕ) (pages : Pages) (past : List Mark) (moment : ℕ) (broken : Option JudgeRule) (stale : Bool) → length past ≤ moment → Sees c at_start start pages past moment broken stale → IsVerdict (KeepsSeen c at_start start pages) past Sound
sees_last c at_start start pages past moment broken stale le s =
    let e : moment ≡ length past = omega (arith, s.goes.within) in
    subst (λ (marks : List Mark). (rule : JudgeRule) → KeepsSeen c at_start start pages rule marks) (ap (λ (n : ℕ). at_moment n past) e ∙ at_moment-now past)
    (sees_now c at_start start pages past moment broken stale s (no_mark past moment le))
