-- The pass over the marks: its start and one step of it.
use Rattle.std.specs.Prelude.{◌≡◌, ◌<◌, ◌+◌, ℕ, List, [], ◌∷◌, ◌++◌, length, Option, Some, Result, Ok, Err, OnOk}
use Rattle.std.proofs.Common.{sym, ap, ◌∙◌, subst}
use Rattle.bz_call.specs.Map.{Map}
use Rattle.bz_layout.specs.declared.config.Config.{Config}
use Rattle.bz_mark.specs.declared.marks.Mark.{Mark}
use Rattle.bz_mark.specs.declared.power.Power.{Power}
use Rattle.bz_mark.specs.Moments.{at_moment, mark_at}
use Rattle.bz_sound.specs.Calls.{map_after}
use Rattle.bz_check.specs.declared.sights.Sight.{Sight}
use Rattle.bz_check.specs.declared.verdict.JudgeRule.{JudgeRule}
use Rattle.bz_check.specs.Counts.{Counted, Counts, no_counts}
use Rattle.bz_check.specs.Kept.{Kept, opened}
use Rattle.bz_check.specs.Replays.{Replays}
use Rattle.bz_check.specs.Tables.{Known, no_calls}
use Rattle.bz_check.specs.Knowing.{Knows}
use Rattle.bz_check.specs.Pairs.{Holds}
use Rattle.bz_check.specs.Passes.{Passes}
use Rattle.bz_check.specs.Rules.{KeepsJudged, FollowsJudged}
use Rattle.bz_check.specs.Sights.{sight_of, seen_after}
use Rattle.bz_check.specs.Verdicts.{TellsFirst, first_of}
use Rattle.bz_check.proofs.Deciding.{Goes, Went, goes_on}
use Rattle.bz_check.proofs.Judging.{by_marks}
use Rattle.bz_check.proofs.Counting.{counts_none}
use Rattle.bz_check.proofs.Knowing.{knows_none}
use Rattle.bz_check.proofs.Replaying.{opened_replays}

-- one mark more
pub seen_more : (at : Map) (past : List Mark) (mark : Mark) (old new : List (Option Sight)) (sight : Option Sight) → new ≡ old ++ sight ∷ [] → old ≡ seen_after at past → sight ≡ sight_of at past mark → new ≡ seen_after at (mark ∷ past)
seen_more at past mark old new sight is saw sees = is ∙ ap (λ (all : List (Option Sight)). all ++ sight ∷ []) saw ∙ ap (λ (s : Option Sight). seen_after at past ++ s ∷ []) sees

pub went_more : (c : Config) (at_start : Power) (start : List ℕ) (at : Map) (past : List Mark) (i : ℕ) (mark : Mark) (broken fault next : Option JudgeRule) → i < length past → mark_at i past ≡ Some mark → Goes (KeepsJudged c at_start start at) past i broken
    → TellsFirst (FollowsJudged c at_start start at (at_moment i past) mark) fault → next ≡ first_of broken fault → Went (KeepsJudged c at_start start at) past (i + 1) next
went_more c at_start start at past i mark broken fault next lt is goes tells e =
    subst (λ (b : Option JudgeRule). Went (KeepsJudged c at_start start at) past (i + 1) b) (sym e)
    (goes_on (KeepsJudged c at_start start at) (FollowsJudged c at_start start at) past i mark broken fault (by_marks c at_start start at) lt is goes tells)

-- all that is kept
pub opened_passes : (c : Config) (at_start : Power) (start : List ℕ) (at : Map) (m : Kept) (t : Known) (pairs : List (List ℕ × List ℕ)) (seen : List (Option Sight)) (k : Counted) → m ≡ opened start → t ≡ no_calls at_start → Holds at pairs → seen ≡ []
    → k ≡ no_counts c → Passes c at_start start at [] (record { words = m; table = t; pairs = pairs; seen = seen; counts = k })
opened_passes c at_start start at m t pairs seen k words table holds none counts = record {
  replays = subst (λ (n : Kept). Replays start [] n) (sym words) (opened_replays start);
  knows = subst (λ (n : Known). Knows at_start [] n) (sym table) (knows_none at_start);
  holds = holds;
  sees = none;
  counts = subst (λ (n : Counted). Counts c [] n) (sym counts) (counts_none c);
}

pub all_ok : {E : Type 0} (c : Config) (at_start : Power) (start : List ℕ) (at : Map) (past : List Mark) (m : Kept) (t : Known) (pairs : List (List ℕ × List ℕ)) (seen : List (Option Sight)) (k : Counted) (r : Result (Option JudgeRule) E)
    → OnOk r (Replays start past m) → OnOk r (Knows at_start past t) → OnOk r (Holds (map_after at past) pairs) → OnOk r (seen ≡ seen_after at past) → OnOk r (Counts c past k)
    → OnOk r (Passes c at_start start at past (record { words = m; table = t; pairs = pairs; seen = seen; counts = k }))
all_ok c at_start start at past m t pairs seen k (Ok fault) words table holds sees counts = record { replays = words; knows = table; holds = holds; sees = sees; counts = counts }
all_ok c at_start start at past m t pairs seen k (Err want) words table holds sees counts = tt
