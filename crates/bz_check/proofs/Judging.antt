-- One mark judged by the rules of truth and of calls, and its reply as far as the map and counts tell.
use Rattle.std.specs.Prelude.{◌≡◌, ◌<◌, ◌+◌, ◌-◌, ◌↔◌, ◌^◌, ℕ, Bool, true, false, List, [], ◌∷◌, length, drop, slice_get, Option, Some, None, zero, suc}
use Rattle.std.proofs.Common.{arith, refl, sym, ap, ◌∙◌, subst}
use Rattle.std.proofs.lemmas.List.{drop_all}
use Rattle.bz_call.specs.Map.{Map}
use Rattle.bz_layout.specs.Config.{IsConfig}
use Rattle.bz_layout.specs.declared.config.Config.{Config}
use Rattle.bz_pm.specs.Words.{Words}
use Rattle.bz_mark.specs.declared.marks.Mark.{Mark}
use Rattle.bz_mark.specs.declared.marks.Mark.TheVariants.{Load, Cas}
use Rattle.bz_mark.specs.declared.power.Power.{Power}
use Rattle.bz_mark.specs.Laws.{IsImage, IsOfMemory, AreOfMemory}
use Rattle.bz_mark.specs.Moments.{at_moment, mark_at}
use Rattle.bz_mark.specs.WordsAfter.{words_after_marks, Found}
use Rattle.bz_mark.proofs.MomentLaws.{at_moment-next}
use Rattle.bz_sound.specs.Calls.{map_after}
use Rattle.bz_sound.specs.Power.Calls.{MayFollow}
use Rattle.bz_check.specs.declared.sights.Sight.{Sight}
use Rattle.bz_check.specs.declared.verdict.JudgeRule.{JudgeRule}
use Rattle.bz_check.specs.declared.verdict.JudgeRule.TheVariants.{Truth, Calls, Reply, Shape, Content}
use Rattle.bz_check.specs.Counts.{Counted, Counts}
use Rattle.bz_check.specs.Kept.{Kept}
use Rattle.bz_check.specs.Replays.{Replays}
use Rattle.bz_check.specs.Tables.{Known, may_follow_in}
use Rattle.bz_check.specs.Pairs.{Holds}
use Rattle.bz_check.specs.Knowing.{Knows, HasWorker, effect_changes, is_word, finds, fault_by, fault_in}
use Rattle.bz_check.specs.Rules.{KeepsJudged, FollowsJudged}
use Rattle.bz_check.specs.Replies.{HasPlainReply}
use Rattle.bz_check.specs.Sights.{seen_after, replies_in}
use Rattle.bz_check.specs.Verdicts.{place_of, TellsFirst}
use Rattle.bz_check.proofs.Tests.{same_test}
use Rattle.bz_check.proofs.Following.{false_true, eq_of, some_same, none_some, follows_of, follows_test}
use Rattle.bz_check.proofs.Mapping.{tells_change}
use Rattle.bz_check.proofs.Replying.{right_decides}
use Rattle.bz_check.proofs.Replaying.{cached_is}
use Rattle.bz_check.proofs.Deciding.{IsByMarks}

word_of : (o : Option ℕ) (v : ℕ) → is_word o v ≡ true → o ≡ Some v
word_of None v h = absurd (false_true h)
word_of (Some word) v h = ap (λ (n : ℕ). Some n) (eq_of word v h)

word_test : (o : Option ℕ) (v : ℕ) → o ≡ Some v → is_word o v ≡ true
word_test None v h = absurd (none_some v h)
word_test (Some word) v h = same_test word v (some_same word v h)

finds_of : (cached : List ℕ) (words : Words) (mark : Mark) → cached ≡ words.cached → finds cached mark ≡ true → Found words mark
finds_of cached words (Load w a v) is h = ap (λ (all : List ℕ). slice_get all a) (sym is) ∙ word_of (slice_get cached a) v h
finds_of cached words (Cas w a old new found) is h = ap (λ (all : List ℕ). slice_get all a) (sym is) ∙ word_of (slice_get cached a) found h
finds_of cached words mark is h = tt

finds_test : (cached : List ℕ) (words : Words) (mark : Mark) → cached ≡ words.cached → Found words mark → finds cached mark ≡ true
finds_test cached words (Load w a v) is h = word_test (slice_get cached a) v (ap (λ (all : List ℕ). slice_get all a) is ∙ h)
finds_test cached words (Cas w a old new found) is h = word_test (slice_get cached a) found (ap (λ (all : List ℕ). slice_get all a) is ∙ h)
finds_test cached words mark is h = refl

-- what the tests together tell
keeps_all : (c : Config) (at_start : Power) (start : List ℕ) (at : Map) (past : List Mark) (mark : Mark) → Found (words_after_marks start past) mark → MayFollow at_start at past mark → HasPlainReply c at past mark
    → (rule : JudgeRule) → FollowsJudged c at_start start at past mark rule
keeps_all c at_start start at past mark found follows right Truth = found
keeps_all c at_start start at past mark found follows right Calls = follows
keeps_all c at_start start at past mark found follows right Reply = right
keeps_all c at_start start at past mark found follows right Shape = tt
keeps_all c at_start start at past mark found follows right Content = tt

keeps_two : (c : Config) (at_start : Power) (start : List ℕ) (at : Map) (past : List Mark) (mark : Mark) → Found (words_after_marks start past) mark → MayFollow at_start at past mark
    → (rule : JudgeRule) → place_of rule < 2 → FollowsJudged c at_start start at past mark rule
keeps_two c at_start start at past mark found follows Truth lt = found
keeps_two c at_start start at past mark found follows Calls lt = follows
keeps_two c at_start start at past mark found follows Reply lt = absurd (omega arith)
keeps_two c at_start start at past mark found follows Shape lt = tt
keeps_two c at_start start at past mark found follows Content lt = tt

keeps_truth : (c : Config) (at_start : Power) (start : List ℕ) (at : Map) (past : List Mark) (mark : Mark) → Found (words_after_marks start past) mark → (rule : JudgeRule) → place_of rule < 1 → FollowsJudged c at_start start at past mark rule
keeps_truth c at_start start at past mark found Truth lt = found
keeps_truth c at_start start at past mark found Calls lt = absurd (omega arith)
keeps_truth c at_start start at past mark found Reply lt = absurd (omega arith)
keeps_truth c at_start start at past mark found Shape lt = tt
keeps_truth c at_start start at past mark found Content lt = tt

decided : (found follows right : Bool) (c : Config) (at_start : Power) (start : List ℕ) (at : Map) (past : List Mark) (mark : Mark) → (found ≡ true ↔ Found (words_after_marks start past) mark) → (follows ≡ true ↔ MayFollow at_start at past mark)
    → (right ≡ true ↔ HasPlainReply c at past mark) → TellsFirst (FollowsJudged c at_start start at past mark) (fault_by found follows right)
decided false follows right c at_start start at past mark truth calls replies = record { broken = λ h. false_true (truth.1 h); earlier = λ other lt. absurd (omega arith) }
decided true false right c at_start start at past mark truth calls replies = record { broken = λ h. false_true (calls.1 h); earlier = keeps_truth c at_start start at past mark (truth.0 refl) }
decided true true false c at_start start at past mark truth calls replies = record { broken = λ h. false_true (replies.1 h); earlier = keeps_two c at_start start at past mark (truth.0 refl) (calls.0 refl) }
decided true true true c at_start start at past mark truth calls replies = keeps_all c at_start start at past mark (truth.0 refl) (calls.0 refl) (replies.0 refl)

-- the fault that the judge finds is the first rule that the mark breaks
pub fault_tells : (c : Config) (at_start : Power) (start : List ℕ) (at : Map) (past : List Mark) (mark : Mark) (m : Kept) (t : Known) (pairs : List (List ℕ × List ℕ)) (seen : List (Option Sight)) (k : Counted) → IsConfig c → IsImage start
    → AreOfMemory (length start) past → length past < 2 ^ 64 - 1 → Replays start past m → Knows at_start past t → HasWorker mark → Holds (map_after at past) pairs → seen ≡ seen_after at past → Counts c past k
    → TellsFirst (FollowsJudged c at_start start at past mark) (fault_in m t pairs seen k (length past) mark)
fault_tells c at_start start at past mark m t pairs seen k config image are few replays knows has holds saw counts =
    let is = cached_is start past m replays image are few in
    let tells = tells_change t (map_after at past) pairs mark holds in
    decided (finds m.cached mark) (may_follow_in t (effect_changes t pairs mark) mark) (replies_in t seen k (length past) mark) c at_start start at past mark
    (finds_of m.cached (words_after_marks start past) mark is, finds_test m.cached (words_after_marks start past) mark is)
    (follows_of at_start at past t (effect_changes t pairs mark) mark knows has tells, follows_test at_start at past t (effect_changes t pairs mark) mark knows has tells)
    (right_decides c at_start at past t seen k mark config knows counts has saw)

-- marks keep a rule where each mark does
pub by_marks : (c : Config) (at_start : Power) (start : List ℕ) (at : Map) → IsByMarks (KeepsJudged c at_start start at) (FollowsJudged c at_start start at)
by_marks c at_start start at Truth past mark = (λ h. h, λ h. h)
by_marks c at_start start at Calls past mark = (λ h. h, λ h. h)
by_marks c at_start start at Reply past mark = (λ h. h, λ h. h)
by_marks c at_start start at Shape past mark = (λ h. (tt, tt), λ h. tt)
by_marks c at_start start at Content past mark = (λ h. (tt, tt), λ h. tt)

keeps_none : (c : Config) (at_start : Power) (start : List ℕ) (at : Map) (rule : JudgeRule) → KeepsJudged c at_start start at rule []
keeps_none c at_start start at Truth = tt
keeps_none c at_start start at Calls = tt
keeps_none c at_start start at Reply = tt
keeps_none c at_start start at Shape = tt
keeps_none c at_start start at Content = tt

-- before any mark
pub none_yet : (past : List Mark) → at_moment 0 past ≡ []
none_yet past = drop_all (length past - 0) past (omega arith)

pub keeps_yet : (c : Config) (at_start : Power) (start : List ℕ) (at : Map) (past : List Mark) (rule : JudgeRule) → KeepsJudged c at_start start at rule (at_moment 0 past)
keeps_yet c at_start start at past rule = subst (λ (marks : List Mark). KeepsJudged c at_start start at rule marks) (sym (none_yet past)) (keeps_none c at_start start at rule)

-- marks that a memory may have
of_memory_drop : (words k : ℕ) (past : List Mark) → AreOfMemory words past → AreOfMemory words (drop k past)
of_memory_drop words zero past are = are
of_memory_drop words (suc k) [] are = tt
of_memory_drop words (suc k) (mark ∷ past) are = of_memory_drop words k past are.1

pub of_memory_at : (words moment : ℕ) (past : List Mark) → AreOfMemory words past → AreOfMemory words (at_moment moment past)
of_memory_at words moment past are = of_memory_drop words (length past - moment) past are

pub of_memory_mark : (words moment : ℕ) (past : List Mark) (mark : Mark) → AreOfMemory words past → moment < length past → mark_at moment past ≡ Some mark → IsOfMemory words mark
of_memory_mark words moment past mark are lt is = (subst (AreOfMemory words) (at_moment-next moment mark past is lt) (of_memory_at words (moment + 1) past are)).0
