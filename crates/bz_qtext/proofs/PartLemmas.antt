-- One mark more is reported.
use Rattle.std.proofs.Common.{◌≡◌, ◌<◌, ℕ, ◌+◌, List, [], ◌∷◌, ◌++◌, length, refl, sym, ap, ◌∙◌, append_assoc, arith, Option, Some, None}
use Rattle.std.specs.Prelude.{codes}
use Rattle.std.proofs.lemmas.Grind.{common_steps}
use Rattle.std.specs.List.{flat_map}
use Rattle.bz_ring.specs.Journal.{at_moment, mark_at}
use Rattle.bz_qtext.proofs.MomentLaws.{at_moment-next}
use Rattle.bz_ring.proofs.EachMoment.{at_moment-now}
use Rattle.bz_ring.specs.declared.marks.QMark.{QMark}
use Rattle.bz_mark.specs.declared.marks.Mark.{Mark}
use Rattle.bz_mark.specs.declared.marks.Mark.TheVariants.{Cut, On}
use Rattle.bz_ring.specs.declared.marks.QMark.TheVariants.{Memory}
use Rattle.bz_ring.specs.Calls.{items_after}
use Rattle.bz_ring.specs.Fresh.{IsRing, fresh_words}
use Rattle.bz_ring.specs.Sound.{first_items, items_or_none}
use Rattle.bz_ring.specs.declared.ring.Ring.{Ring}
use Rattle.bz_ring.proofs.Proved.{fresh_memory_is_empty}
use Rattle.bz_qtext.specs.Lines.{line_of, power_line}
use Rattle.bz_qtext.specs.Report.{ended_calls, in_order, items_at_on, open_lines, part_text, parts_text, text_of, report_of}
use Rattle.bz_qtext.specs.declared.ended.QEnded.{QEnded}

abbrev cut_line : List ℕ
cut_line = codes "power cut" ++ 10 ∷ []

-- four texts one behind the other
in_a_row : (parts part opens last : List ℕ) → ((parts ++ part) ++ opens) ++ last ≡ parts ++ (part ++ (opens ++ last))
in_a_row parts part opens last = append_assoc (parts ++ part) opens last ∙ append_assoc parts part (opens ++ last)

-- a mark of the memory has one memory mark
pub memory_is : (one other : Mark) → Memory one ≡ Memory other → one ≡ other
memory_is one other same = cc

-- the part that a cut ends is put
pub cut_parts : (capacity : ℕ) (first : List ℕ) (past : List QMark) (moment : ℕ) (on : Option ℕ) (ended : List QEnded) (old one_text two_text new : List ℕ) → moment < length past → mark_at moment past ≡ Some (Memory Cut)
    → ended ≡ ended_calls (at_moment moment past) → one_text ≡ old ++ (power_line on ++ flat_map line_of (in_order ended)) → two_text ≡ one_text ++ open_lines 256 (at_moment moment past)
    → new ≡ two_text ++ cut_line → on ≡ items_at_on capacity first (at_moment moment past) → old ≡ parts_text capacity first (at_moment moment past) → new ≡ parts_text capacity first (at_moment (moment + 1) past)
cut_parts capacity first past moment on ended old one_text two_text new lt is calls one two three power before =
    let before_cut = at_moment moment past in
    let part : power_line on ++ flat_map line_of (in_order ended) ≡ part_text capacity first before_cut = rw (power, calls) refl in
    three
    ∙ ap (λ (xs : List ℕ). xs ++ cut_line) (two ∙ ap (λ (xs : List ℕ). xs ++ open_lines 256 before_cut) (one ∙ ap (λ (xs : List ℕ). old ++ xs) part ∙ ap (λ (xs : List ℕ). xs ++ part_text capacity first before_cut) before))
    ∙ in_a_row (parts_text capacity first before_cut) (part_text capacity first before_cut) (open_lines 256 before_cut) cut_line
    ∙ ap (parts_text capacity first) (sym (at_moment-next moment (Memory Cut) past is lt))

-- any other mark ends no part
abbrev pub IsNoCut : QMark → Type 0
IsNoCut (Memory Cut) = ⊥
IsNoCut mark = Unit {0}

pub no_cut_from : (mark : QMark) → (mark ≡ Memory Cut → ⊥) → IsNoCut mark
no_cut_from (Memory Cut) never = never refl
no_cut_from mark never = tt

same_parts : (capacity : ℕ) (first : List ℕ) (mark : QMark) (rest : List QMark) → IsNoCut mark → parts_text capacity first (mark ∷ rest) ≡ parts_text capacity first rest
same_parts capacity first (Memory Cut) rest never = absurd never
same_parts capacity first mark rest never = refl

pub other_parts : (capacity : ℕ) (first : List ℕ) (past : List QMark) (moment : ℕ) (mark : QMark) → moment < length past → mark_at moment past ≡ Some mark → IsNoCut mark
    → parts_text capacity first (at_moment moment past) ≡ parts_text capacity first (at_moment (moment + 1) past)
other_parts capacity first past moment mark lt is never = sym (ap (parts_text capacity first) (at_moment-next moment mark past is lt) ∙ same_parts capacity first mark (at_moment moment past) never)

-- the power comes on, or is cut
pub items_on : (capacity : ℕ) (first : List ℕ) (past : List QMark) (moment count : ℕ) → moment < length past → mark_at moment past ≡ Some (Memory On)
    → length (items_after capacity first (at_moment moment past)) ≡ count → Some count ≡ items_at_on capacity first (at_moment (moment + 1) past)
items_on capacity first past moment count lt is counted = ap Some (sym counted) ∙ ap (items_at_on capacity first) (sym (at_moment-next moment (Memory On) past is lt))

pub items_cut : (capacity : ℕ) (first : List ℕ) (past : List QMark) (moment : ℕ) → moment < length past → mark_at moment past ≡ Some (Memory Cut) → None ≡ items_at_on capacity first (at_moment (moment + 1) past)
items_cut capacity first past moment lt is = ap (items_at_on capacity first) (sym (at_moment-next moment (Memory Cut) past is lt))

abbrev pub LeavesOn : QMark → Type 0
LeavesOn (Memory On) = ⊥
LeavesOn (Memory Cut) = ⊥
LeavesOn mark = Unit {0}

pub leaves_from : (mark : QMark) → (mark ≡ Memory On → ⊥) → (mark ≡ Memory Cut → ⊥) → LeavesOn mark
leaves_from (Memory On) no_on no_cut = no_on refl
leaves_from (Memory Cut) no_on no_cut = no_cut refl
leaves_from mark no_on no_cut = tt

same_items : (capacity : ℕ) (first : List ℕ) (mark : QMark) (rest : List QMark) → LeavesOn mark → items_at_on capacity first (mark ∷ rest) ≡ items_at_on capacity first rest
same_items capacity first (Memory On) rest leaves = absurd leaves
same_items capacity first (Memory Cut) rest leaves = absurd leaves
same_items capacity first mark rest leaves = refl

pub items_stay : (capacity : ℕ) (first : List ℕ) (past : List QMark) (moment : ℕ) (mark : QMark) → moment < length past → mark_at moment past ≡ Some mark → LeavesOn mark
    → items_at_on capacity first (at_moment moment past) ≡ items_at_on capacity first (at_moment (moment + 1) past)
items_stay capacity first past moment mark lt is leaves = sym (ap (items_at_on capacity first) (at_moment-next moment mark past is lt) ∙ same_items capacity first mark (at_moment moment past) leaves)

-- nothing is reported yet
pub text_none : (capacity : ℕ) (first : List ℕ) (past : List QMark) (out : List ℕ) → out ≡ [] → out ≡ parts_text capacity first (at_moment 0 past)
text_none capacity first past out empty = let start : at_moment 0 past ≡ [] = grind (arith, common_steps) in empty ∙ ap (parts_text capacity first) (sym start)

pub items_none : (capacity : ℕ) (first : List ℕ) (past : List QMark) → None ≡ items_at_on capacity first (at_moment 0 past)
items_none capacity first past = let start : at_moment 0 past ≡ [] = grind (arith, common_steps) in ap (items_at_on capacity first) (sym start)

-- all marks are reported, and then the last part
pub text_whole : (capacity : ℕ) (first : List ℕ) (past : List QMark) (moment : ℕ) (on : Option ℕ) (ended : List QEnded) (old new : List ℕ) → moment ≡ length past → ended ≡ ended_calls (at_moment moment past)
    → new ≡ old ++ (power_line on ++ flat_map line_of (in_order ended)) → on ≡ items_at_on capacity first (at_moment moment past) → old ≡ parts_text capacity first (at_moment moment past) → new ≡ text_of capacity first past
text_whole capacity first past moment on ended old new now calls one power before =
    let all : at_moment moment past ≡ past = ap (λ (m : ℕ). at_moment m past) now ∙ at_moment-now past in
    let part : power_line on ++ flat_map line_of (in_order ended) ≡ part_text capacity first past = rw (power, calls, all) refl in
    one ∙ ap (λ (xs : List ℕ). old ++ xs) part ∙ ap (λ (xs : List ℕ). xs ++ part_text capacity first past) (before ∙ ap (parts_text capacity first) all)

-- fresh memory holds no item
pub fresh_text : (r : Ring) (start : List ℕ) (capacity : ℕ) (past : List QMark) (text : List ℕ) → IsRing r → capacity ≡ r.capacity → start ≡ fresh_words r → text ≡ text_of capacity [] past → text ≡ report_of r start past
fresh_text r start capacity past text ring same fresh is =
    let none : first_items r (fresh_words r) ≡ [] = ap items_or_none (fresh_memory_is_empty r ring) in
    is ∙ ap (λ (n : ℕ). text_of n [] past) same ∙ ap (λ (first : List ℕ). text_of r.capacity first past) (sym none) ∙ ap (λ (words : List ℕ). report_of r words past) (sym fresh)
