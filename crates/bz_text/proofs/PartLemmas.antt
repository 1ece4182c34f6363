-- One mark more is reported.
use Rattle.std.proofs.Common.{◌≡◌, ◌<◌, ℕ, ◌+◌, List, [], ◌∷◌, ◌++◌, length, refl, sym, ap, ◌∙◌, append_assoc, arith, Option, Some, None}
use Rattle.std.specs.Prelude.{codes}
use Rattle.std.proofs.lemmas.Grind.{common_steps}
use Rattle.std.specs.List.{flat_map}
use Rattle.bz_call.specs.Map.{Map}
use Rattle.bz_layout.specs.declared.config.Config.{Config}
use Rattle.bz_mark.specs.Log.{Log}
use Rattle.bz_mark.specs.Moments.{at_moment, mark_at}
use Rattle.bz_mark.proofs.MomentLaws.{at_moment-next, at_moment-now}
use Rattle.bz_mark.specs.declared.marks.Mark.{Mark}
use Rattle.bz_mark.specs.declared.marks.Mark.TheVariants.{Cut, On}
use Rattle.bz_sound.specs.Calls.{map_after}
use Rattle.bz_sound.specs.Memory.Moments.{map_at_start}
use Rattle.bz_text.specs.Lines.{line_of, power_line}
use Rattle.bz_text.specs.Report.{ended_calls, in_order, pairs_at_on, open_lines, part_text, parts_text, report_of}
use Rattle.bz_text.specs.Summing.{AreKeysOf}
use Rattle.bz_text.specs.declared.ended.EndedCall.{EndedCall}

abbrev cut_line : List ℕ
cut_line = codes "power cut" ++ 10 ∷ []

-- four texts one behind the other
in_a_row : (parts part opens last : List ℕ) → ((parts ++ part) ++ opens) ++ last ≡ parts ++ (part ++ (opens ++ last))
in_a_row parts part opens last = append_assoc (parts ++ part) opens last ∙ append_assoc parts part (opens ++ last)

-- the part that a cut ends is put
pub cut_parts : (c : Config) (log : Log) (moment : ℕ) (on : Option ℕ) (ended : List EndedCall) (old first second new : List ℕ) → moment < length log.past → mark_at moment log.past ≡ Some Cut
    → ended ≡ ended_calls (at_moment moment log.past) → first ≡ old ++ (power_line on ++ flat_map (line_of log.pages) (in_order ended)) → second ≡ first ++ open_lines 256 (at_moment moment log.past)
    → new ≡ second ++ cut_line → on ≡ pairs_at_on (map_at_start c log.start) (at_moment moment log.past) → old ≡ parts_text c log (at_moment moment log.past) → new ≡ parts_text c log (at_moment (moment + 1) log.past)
cut_parts c log moment on ended old first second new lt is calls one two three power before =
    let past = at_moment moment log.past in
    let part : power_line on ++ flat_map (line_of log.pages) (in_order ended) ≡ part_text c log past = rw (power, calls) refl in
    three
    ∙ ap (λ (xs : List ℕ). xs ++ cut_line) (two ∙ ap (λ (xs : List ℕ). xs ++ open_lines 256 past) (one ∙ ap (λ (xs : List ℕ). old ++ xs) part ∙ ap (λ (xs : List ℕ). xs ++ part_text c log past) before))
    ∙ in_a_row (parts_text c log past) (part_text c log past) (open_lines 256 past) cut_line
    ∙ ap (parts_text c log) (sym (at_moment-next moment Cut log.past is lt))

-- any other mark ends no part
abbrev pub IsNoCut : Mark → Type 0
IsNoCut Cut = ⊥
IsNoCut mark = Unit {0}

pub no_cut_from : (mark : Mark) → (mark ≡ Cut → ⊥) → IsNoCut mark
no_cut_from Cut never = never refl
no_cut_from mark never = tt

same_parts : (c : Config) (log : Log) (mark : Mark) (rest : List Mark) → IsNoCut mark → parts_text c log (mark ∷ rest) ≡ parts_text c log rest
same_parts c log Cut rest never = absurd never
same_parts c log mark rest never = refl

pub other_parts : (c : Config) (log : Log) (moment : ℕ) (mark : Mark) → moment < length log.past → mark_at moment log.past ≡ Some mark → IsNoCut mark
    → parts_text c log (at_moment moment log.past) ≡ parts_text c log (at_moment (moment + 1) log.past)
other_parts c log moment mark lt is never = sym (ap (parts_text c log) (at_moment-next moment mark log.past is lt) ∙ same_parts c log mark (at_moment moment log.past) never)

-- the power comes on, or is cut
pub pairs_on : (start : Map) (past : List Mark) (moment count : ℕ) (keys : List (List ℕ)) → moment < length past → mark_at moment past ≡ Some On → count ≡ length keys
    → AreKeysOf (map_after start (at_moment moment past)) keys → Some count ≡ pairs_at_on start (at_moment (moment + 1) past)
pairs_on start past moment count keys lt is counted h = ap Some (counted ∙ h.count) ∙ ap (pairs_at_on start) (sym (at_moment-next moment On past is lt))

pub pairs_cut : (start : Map) (past : List Mark) (moment : ℕ) → moment < length past → mark_at moment past ≡ Some Cut → None ≡ pairs_at_on start (at_moment (moment + 1) past)
pairs_cut start past moment lt is = ap (pairs_at_on start) (sym (at_moment-next moment Cut past is lt))

abbrev pub LeavesOn : Mark → Type 0
LeavesOn On = ⊥
LeavesOn Cut = ⊥
LeavesOn mark = Unit {0}

pub leaves_from : (mark : Mark) → (mark ≡ On → ⊥) → (mark ≡ Cut → ⊥) → LeavesOn mark
leaves_from On no_on no_cut = no_on refl
leaves_from Cut no_on no_cut = no_cut refl
leaves_from mark no_on no_cut = tt

same_pairs : (start : Map) (mark : Mark) (rest : List Mark) → LeavesOn mark → pairs_at_on start (mark ∷ rest) ≡ pairs_at_on start rest
same_pairs start On rest leaves = absurd leaves
same_pairs start Cut rest leaves = absurd leaves
same_pairs start mark rest leaves = refl

pub pairs_stay : (start : Map) (past : List Mark) (moment : ℕ) (mark : Mark) → moment < length past → mark_at moment past ≡ Some mark → LeavesOn mark
    → pairs_at_on start (at_moment moment past) ≡ pairs_at_on start (at_moment (moment + 1) past)
pairs_stay start past moment mark lt is leaves = sym (ap (pairs_at_on start) (at_moment-next moment mark past is lt) ∙ same_pairs start mark (at_moment moment past) leaves)

-- nothing is reported yet
pub text_none : (c : Config) (log : Log) (out : List ℕ) → out ≡ [] → out ≡ parts_text c log (at_moment 0 log.past)
text_none c log out empty = let start : at_moment 0 log.past ≡ [] = grind (arith, common_steps) in empty ∙ ap (parts_text c log) (sym start)

pub pairs_none : (start : Map) (past : List Mark) → None ≡ pairs_at_on start (at_moment 0 past)
pairs_none start past = let first : at_moment 0 past ≡ [] = grind (arith, common_steps) in ap (pairs_at_on start) (sym first)

-- all marks are reported, and then the last part
pub text_whole : (c : Config) (log : Log) (moment : ℕ) (on : Option ℕ) (ended : List EndedCall) (old new : List ℕ) → moment ≡ length log.past → ended ≡ ended_calls (at_moment moment log.past)
    → new ≡ old ++ (power_line on ++ flat_map (line_of log.pages) (in_order ended)) → on ≡ pairs_at_on (map_at_start c log.start) (at_moment moment log.past) → old ≡ parts_text c log (at_moment moment log.past) → new ≡ report_of c log
text_whole c log moment on ended old new now calls one power before =
    let all : at_moment moment log.past ≡ log.past = ap (λ (m : ℕ). at_moment m log.past) now ∙ at_moment-now log.past in
    let part : power_line on ++ flat_map (line_of log.pages) (in_order ended) ≡ part_text c log log.past = rw (power, calls, all) refl in
    one ∙ ap (λ (xs : List ℕ). old ++ xs) part ∙ ap (λ (xs : List ℕ). xs ++ part_text c log log.past) (before ∙ ap (parts_text c log) all)
