-- Moments when a mark is added: what was before a moment stays.
use Rattle.std.proofs.Common.{◌≡◌, ◌≤◌, ◌<◌, ℕ, ◌+◌, ◌-◌, suc, List, ◌∷◌, length, get_or, refl, Some, sym, ap, ◌∙◌, arith}
use Rattle.std.proofs.lemmas.Option.{get_or_from_slice_get, slice_get-get_or}
use Rattle.std.proofs.lemmas.List.{get_or-drop}
use Rattle.std.proofs.Math.Seq.{drop-cons}
use Rattle.std.proofs.lemmas.Grind.{common_steps}
use Rattle.bz_mark.specs.declared.marks.Mark.TheVariants.{Cut}
use Rattle.bz_ring.specs.declared.marks.QMark.{QMark}
use Rattle.bz_ring.specs.declared.marks.QMark.TheVariants.{Memory}
use Rattle.bz_ring.specs.Journal.{at_moment, mark_at}

-- the marks before the next moment
pub at_moment-next : (moment : ℕ) (mark : QMark) (past : List QMark) → mark_at moment past ≡ Some mark → moment < length past → at_moment (moment + 1) past ≡ mark ∷ at_moment moment past
at_moment-next moment mark past is h =
    let here : get_or past (length past - (moment + 1)) mark ≡ mark = get_or_from_slice_get past (length past - (moment + 1)) mark mark is in
    let next : suc (length past - (moment + 1)) ≡ length past - moment = omega arith in
    drop-cons past (length past - (moment + 1)) mark (omega arith) ∙ rw (here, next) refl

pub length-at_moment : (at : ℕ) (past : List QMark) → at ≤ length past → length (at_moment at past) ≡ at
length-at_moment at past l = grind (arith, common_steps)

-- the marks before a moment keep their places
pub mark_at-at_moment : (moment at : ℕ) (past : List QMark) → moment < at → at ≤ length past → mark_at moment (at_moment at past) ≡ mark_at moment past
mark_at-at_moment moment at past h l =
    let size = length-at_moment at past l in
    slice_get-get_or (at_moment at past) (length (at_moment at past) - (moment + 1)) (Memory Cut) (omega arith)
    ∙ ap Some (get_or-drop (length past - at) past (length (at_moment at past) - (moment + 1)) (Memory Cut))
    ∙ ap (λ k. Some (get_or past k (Memory Cut))) (omega arith)
    ∙ sym (slice_get-get_or past (length past - (moment + 1)) (Memory Cut) (omega arith))
