-- Of two journals with as many marks, whose lines stand at the front of the same bytes, one is the other.
use Rattle.std.proofs.Common.{◌≡◌, ◌<◌, ◌+◌, ◌^◌, ℕ, List, [], ◌∷◌, ◌++◌, length, refl, sym, ap, ◌∙◌, subst, arith, append_assoc}
use Rattle.bz_mark.specs.declared.marks.Mark.{Mark}
use Rattle.bz_traces.specs.Journals.{pages_with, IsNext, AreTold, none, more}
use Rattle.bz_lines.specs.Lines.{line_of, with_end}
use Rattle.bz_reading.proofs.Good.{cut_once}
use Rattle.bz_traces.proofs.Unique.{Pages, Pairs, text_back, one_line_more, next_bytes, next_once}

-- what follows a line
pub behind_line : (line t : List ℕ) → with_end line ++ t ≡ line ++ 10 ∷ t
behind_line line t = append_assoc line (10 ∷ []) t

regroup : (a l t : List ℕ) → (a ++ with_end l) ++ t ≡ a ++ (with_end l ++ t)
regroup a l t = append_assoc a (with_end l) t

-- all of one journal is that of the other, and so are the bytes behind
pub record Same (past past' : List Mark) (pages pages' : Pages) (t t' : List ℕ) : Type 0 where
  pub marks : past ≡ past'
  pub page_lists : pages ≡ pages'
  pub rest : t ≡ t'

step_once : (last : ℕ) (fits : last + 1 < 2 ^ 32) (past past' : List Mark) (pages pages' : Pages) (mark mark' : Mark) (pairs pairs' : Pairs) (t t' : List ℕ) → past ≡ past' → pages ≡ pages'
    → IsNext (last + 1) past pages mark pairs → IsNext (last + 1) past' pages' mark' pairs'
    → with_end (line_of (pages_with pages mark pairs) mark) ++ t ≡ with_end (line_of (pages_with pages' mark' pairs') mark') ++ t'
    → Same (mark ∷ past) (mark' ∷ past') (pages_with pages mark pairs) (pages_with pages' mark' pairs') t t'
step_once last fits past past' pages pages' mark mark' pairs pairs' t t' same_past same_pages next next' e =
    let next'' : IsNext (last + 1) past pages mark' pairs' = subst (λ (ms : List Mark). IsNext (last + 1) ms pages mark' pairs') (sym same_past) (subst (λ (ps : Pages). IsNext (last + 1) past' ps mark' pairs') (sym same_pages) next') in
    let moved : line_of (pages_with pages' mark' pairs') mark' ≡ line_of (pages_with pages mark' pairs') mark' = ap (λ (ps : Pages). line_of (pages_with ps mark' pairs') mark') (sym same_pages) in
    let cut = cut_once (line_of (pages_with pages mark pairs) mark) (line_of (pages_with pages mark' pairs') mark') t t' (next_bytes last fits past pages mark pairs next) (next_bytes last fits past pages mark' pairs' next'')
    (sym (behind_line (line_of (pages_with pages mark pairs) mark) t) ∙ e ∙ behind_line (line_of (pages_with pages' mark' pairs') mark') t' ∙ ap (λ (l : List ℕ). l ++ 10 ∷ t') moved) in
    let once = next_once last fits past pages mark mark' pairs pairs' next next'' cut.0 in
    record {
      marks = ap (λ (m : Mark). m ∷ past) once.0 ∙ ap (λ (ms : List Mark). mark' ∷ ms) same_past;
      page_lists = once.1 ∙ ap (λ (ps : Pages). pages_with ps mark' pairs') same_pages;
      rest = cut.1;
    }

pub told_once : (last : ℕ) (fits : last + 1 < 2 ^ 32) (past past' : List Mark) (pages pages' : Pages) (t t' : List ℕ) → AreTold (last + 1) past pages → AreTold (last + 1) past' pages' → length past ≡ length past'
    → text_back pages past ++ t ≡ text_back pages' past' ++ t' → Same past past' pages pages' t t'
unfolding text_back
told_once last fits _ _ _ _ t t' none none long e = record { marks = refl; page_lists = refl; rest = e }
told_once last fits _ _ _ _ t t' none (more told' next') long e = absurd (omega arith)
told_once last fits _ _ _ _ t t' (more told next) none long e = absurd (omega arith)
told_once last fits _ _ _ _ t t' (more {past} {pages} {mark} {pairs} told next) (more {past = past'} {pages = pages'} {mark = mark'} {pairs = pairs'} told' next') long e =
    let lines : text_back pages past ++ (with_end (line_of (pages_with pages mark pairs) mark) ++ t) ≡ text_back pages' past' ++ (with_end (line_of (pages_with pages' mark' pairs') mark') ++ t') =
    sym (regroup (text_back pages past) (line_of (pages_with pages mark pairs) mark) t) ∙ ap (λ (x : List ℕ). x ++ t) (sym (one_line_more (last + 1) past pages mark pairs told)) ∙ e
    ∙ ap (λ (x : List ℕ). x ++ t') (one_line_more (last + 1) past' pages' mark' pairs' told') ∙ regroup (text_back pages' past') (line_of (pages_with pages' mark' pairs') mark') t' in
    let before = told_once last fits past past' pages pages' (with_end (line_of (pages_with pages mark pairs) mark) ++ t) (with_end (line_of (pages_with pages' mark' pairs') mark') ++ t') told told' (omega (arith, long)) lines in
    step_once last fits past past' pages pages' mark mark' pairs pairs' t t' before.marks before.page_lists next next' before.rest
