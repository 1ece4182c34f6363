-- One mark more is summed up.
use Rattle.std.proofs.Common.{◌≡◌, ◌≤◌, ◌<◌, ℕ, ◌+◌, List, [], ◌∷◌, length, set, replicate, refl, sym, ap, ◌∙◌, arith, Option, Some, None}
use Rattle.std.proofs.lemmas.Grind.{common_steps}
use Rattle.bz_call.specs.Map.{Map, apply}
use Rattle.bz_call.specs.declared.calls.Call.{Call}
use Rattle.bz_call.specs.declared.replies.Reply.{Reply}
use Rattle.bz_mark.specs.Log.{count_ends}
use Rattle.bz_mark.specs.Moments.{at_moment, mark_at}
use Rattle.bz_mark.proofs.MomentLaws.{at_moment-next, mark_at-at_moment, length-at_moment}
use Rattle.bz_mark.specs.declared.marks.Mark.{Mark}
use Rattle.bz_mark.specs.declared.marks.Mark.TheVariants.{Begin, End, Cut, Effect}
use Rattle.bz_sound.specs.Calls.{Open, open_call, map_after}
use Rattle.bz_sound.proofs.CallLaws.{began_before, has_begin}
use Rattle.bz_text.specs.Report.{ended_calls}
use Rattle.bz_text.specs.RightSummary.{total}
use Rattle.bz_text.specs.Summary.{no_counts, counted, counts_of}
use Rattle.bz_text.specs.Summing.{AreBelow, AreKeysOf, IsCountedTo}
use Rattle.bz_text.specs.declared.counts.Counts.{Counts}
use Rattle.bz_text.proofs.RightSummaries.{counts-are-the-ends}
use Rattle.bz_text.proofs.ReadLemmas.{IsOther, read_none, read_begin, read_end, read_cut, read_other, settled}

ends_within : (past : List Mark) → count_ends past ≤ length past
ends_within [] = omega arith
ends_within (End w n reply at ∷ past) = omega (arith, ends_within past)
ends_within (mark ∷ past) = omega (arith, ends_within past)

-- no count is greater than the number of marks
pub counts_below : (past : List Mark) (moment : ℕ) (begins : List (Option ℕ)) (counts : Counts) (most : ℕ) → moment < most → moment ≤ length past → IsCountedTo past moment begins counts → AreBelow most counts
counts_below past moment begins counts most lt le h =
    let read = at_moment moment past in
    let all : total counts ≡ count_ends read = ap total h.so_far ∙ counts-are-the-ends read in
    let few : total counts < most = omega (arith, all, ends_within read, length-at_moment moment past le) in
    record {
      inserted = omega (arith, few);
      exists = omega (arith, few);
      deleted = omega (arith, few);
      updated = omega (arith, few);
      missing = omega (arith, few);
      value = omega (arith, few);
      page = omega (arith, few);
      full = omega (arith, few);
    }

-- nothing is summed up yet
pub counted-none : (past : List Mark) (begins : List (Option ℕ)) (counts : Counts) → begins ≡ replicate 256 None → counts ≡ no_counts → IsCountedTo past 0 begins counts
counted-none past begins counts none is =
    let start : at_moment 0 past ≡ [] = grind (arith, common_steps) in
    record { table = settled past 0 begins [] (read_none past begins [] none refl); so_far = is ∙ ap counts_of (sym start) }

pub keys-first : (start : Map) (past : List Mark) (keys : List (List ℕ)) → AreKeysOf start keys → AreKeysOf (map_after start (at_moment 0 past)) keys
keys-first start past keys h =
    let none : at_moment 0 past ≡ [] = grind (arith, common_steps) in
    rw none h

module _ (past : List Mark) (moment : ℕ) (begins : List (Option ℕ)) (counts : Counts) (lt : moment < length past) (h : IsCountedTo past moment begins counts) where
  pub counted-begin : (w n : ℕ) (call : Call) → w < 256 → mark_at moment past ≡ Some (Begin w n call) → IsCountedTo past (moment + 1) (set begins w (Some moment)) counts
  counted-begin w n call small is = record {
    table = settled past (moment + 1) _ _ (read_begin past moment begins (ended_calls (at_moment moment past)) w n call lt small is h.table);
    so_far = h.so_far ∙ ap counts_of (sym (at_moment-next moment (Begin w n call) past is lt));
  }

  pub counted-end : (w n at : ℕ) (reply : Reply) → w < 256 → mark_at moment past ≡ Some (End w n reply at) → IsCountedTo past (moment + 1) (set begins w None) (counted reply counts)
  counted-end w n at reply small is = record {
    table = settled past (moment + 1) _ _ (read_end past moment begins (ended_calls (at_moment moment past)) _ w n at reply lt small is h.table refl);
    so_far = ap (counted reply) h.so_far ∙ ap counts_of (sym (at_moment-next moment (End w n reply at) past is lt));
  }

  pub counted-cut : (after : List (Option ℕ)) → mark_at moment past ≡ Some Cut → after ≡ replicate 256 None → IsCountedTo past (moment + 1) after counts
  counted-cut after is none = record {
    table = settled past (moment + 1) _ _ (read_cut past moment begins after (ended_calls (at_moment moment past)) [] lt is h.table none refl);
    so_far = h.so_far ∙ ap counts_of (sym (at_moment-next moment Cut past is lt));
  }

  other_counts : (mark : Mark) (rest : List Mark) → IsOther mark → counts_of (mark ∷ rest) ≡ counts_of rest
  other_counts (Begin w n call) rest other = absurd other
  other_counts (End w n reply at) rest other = absurd other
  other_counts Cut rest other = absurd other
  other_counts mark rest other = refl

  pub counted-other : (mark : Mark) → mark_at moment past ≡ Some mark → IsOther mark → IsCountedTo past (moment + 1) begins counts
  counted-other mark is other = record {
    table = settled past (moment + 1) _ _ (read_other past moment begins (ended_calls (at_moment moment past)) mark lt is other h.table);
    so_far = h.so_far ∙ (sym (other_counts mark (at_moment moment past) other) ∙ ap counts_of (sym (at_moment-next moment mark past is lt)));
  }

-- the marks that leave the map
abbrev pub IsNoEffect : Mark → Type 0
IsNoEffect (Effect w n) = ⊥
IsNoEffect mark = Unit {0}

pub no_effect_from : (mark : Mark) → ((w n : ℕ) → mark ≡ Effect w n → ⊥) → IsNoEffect mark
no_effect_from (Effect w n) none = none w n refl
no_effect_from mark none = tt

same_map : (start : Map) (mark : Mark) (rest : List Mark) → IsNoEffect mark → map_after start (mark ∷ rest) ≡ map_after start rest
same_map start (Effect w n) rest none = absurd none
same_map start mark rest none = refl

pub map-stays : (start : Map) (past : List Mark) (moment : ℕ) (mark : Mark) → moment < length past → mark_at moment past ≡ Some mark → IsNoEffect mark
    → map_after start (at_moment (moment + 1) past) ≡ map_after start (at_moment moment past)
map-stays start past moment mark lt is none = ap (map_after start) (at_moment-next moment mark past is lt) ∙ same_map start mark (at_moment moment past) none

pub keys-stay : (start : Map) (past : List Mark) (moment : ℕ) (mark : Mark) (keys : List (List ℕ)) → moment < length past → mark_at moment past ≡ Some mark → IsNoEffect mark
    → AreKeysOf (map_after start (at_moment moment past)) keys → AreKeysOf (map_after start (at_moment (moment + 1) past)) keys
keys-stay start past moment mark keys lt is none h = rw (map-stays start past moment mark lt is none) h

-- an Effect of no open call
pub keys-alone : (start : Map) (past : List Mark) (moment w n : ℕ) (keys : List (List ℕ)) → moment < length past → mark_at moment past ≡ Some (Effect w n)
    → open_call w (at_moment moment past) ≡ None → AreKeysOf (map_after start (at_moment moment past)) keys → AreKeysOf (map_after start (at_moment (moment + 1) past)) keys
keys-alone start past moment w n keys lt is none h = rw (at_moment-next moment (Effect w n) past is lt, none) h

-- an Effect of a call that is open
pub keys-follow : (start : Map) (past : List Mark) (moment w n : ℕ) (opened : Open) (keys : List (List ℕ)) → moment < length past → mark_at moment past ≡ Some (Effect w n)
    → open_call w (at_moment moment past) ≡ Some opened → AreKeysOf (apply (map_after start (at_moment moment past)) opened.call).map keys → AreKeysOf (map_after start (at_moment (moment + 1) past)) keys
keys-follow start past moment w n opened keys lt is is_open h = rw (at_moment-next moment (Effect w n) past is lt, is_open) h

-- its Begin stands where it began
pub begin-found : (past : List Mark) (moment w : ℕ) (opened : Open) → moment ≤ length past → open_call w (at_moment moment past) ≡ Some opened
    → mark_at opened.begun past ≡ Some (Begin w opened.number opened.call)
begin-found past moment w opened le is =
    let before : opened.begun < moment = omega (arith, began_before w (at_moment moment past) opened is, length-at_moment moment past le) in
    sym (mark_at-at_moment opened.begun moment past before le) ∙ has_begin w (at_moment moment past) opened is
