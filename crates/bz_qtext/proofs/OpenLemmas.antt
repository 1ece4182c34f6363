-- The calls that are open before a moment, and whether each has taken effect.
use Rattle.std.proofs.Common.{◌≡◌, ◌<◌, inl, inr, ℕ, suc, ◌+◌, Bool, true, false, List, [], ◌∷◌, ◌++◌, length, set, get_or, replicate, refl, sym, ap, ◌∙◌, append_assoc, append-nil, add-one, arith, Option, Some, None, ◌==◌}
use Rattle.std.specs.Prelude.{option_map, if◌then◌else◌, is_some}
use Rattle.std.proofs.lemmas.Grind.{common_steps}
use Rattle.std.proofs.lemmas.List.{length-replicate}
use Rattle.bz_ring.specs.declared.calls.QCall.{QCall}
use Rattle.bz_ring.specs.Journal.{at_moment, mark_at}
use Rattle.bz_qtext.proofs.MomentLaws.{at_moment-next}
use Rattle.bz_ring.specs.declared.marks.QMark.{QMark}
use Rattle.bz_mark.specs.declared.marks.Mark.TheVariants.{Cut}
use Rattle.bz_ring.specs.declared.marks.QMark.TheVariants.{Begin, End, Effect, Memory}
use Rattle.bz_ring.specs.Calls.{Open, open_call, with_effect}
use Rattle.bz_qtext.specs.Lines.{open_line}
use Rattle.bz_qtext.specs.Reading.{AreTold, line_since}
use Rattle.bz_qtext.specs.Report.{open_lines}
use Rattle.bz_qtext.proofs.ReadLemmas.{Since, same_number, other_number, either, set_same, set_other}

-- nothing is told yet
pub told_none : (past : List QMark) (effects : List Bool) → effects ≡ replicate 256 false → AreTold past 0 effects
told_none past effects none =
    let start : at_moment 0 past ≡ [] = grind (arith, common_steps) in
    rw none (record {
      places = length-replicate {A = Bool} 256 false;
      told = λ w opened few is. let closed : ◌≡◌ {A = Option Open} None (Some opened) = rw start at is in absurd (cc closed);
    })

begun_effect : (w n now : ℕ) (call : QCall) (rest : Option Open) (b : Bool) (opened : Open) → b ≡ true
    → (if b then Some (record { number = n; call = call; begun = now; effect = None }) else rest) ≡ Some opened → false ≡ is_some opened.effect
begun_effect w n now call rest true opened mine is = let same : record { number = n; call = call; begun = now; effect = None } ≡ opened = cc in rw (← same) refl
begun_effect w n now call rest false opened mine is = absurd (cc mine)

taken_effect : (now : ℕ) (rest : Option Open) (b : Bool) (opened : Open) → b ≡ true → (if b then option_map (with_effect now) rest else rest) ≡ Some opened → true ≡ is_some opened.effect
taken_effect now None true opened mine is = absurd (cc is)
taken_effect now (Some was) true opened mine is = let same : with_effect now was ≡ opened = cc in rw (← same) refl
taken_effect now rest false opened mine is = absurd (cc mine)

other_way : (b : Bool) (one rest : Option Open) (opened : Open) → b ≡ false → (if b then one else rest) ≡ Some opened → rest ≡ Some opened
other_way true one rest opened other is = absurd (cc other)
other_way false one rest opened other is = is

module _ (past : List QMark) (moment : ℕ) (effects : List Bool) (lt : moment < length past) (h : AreTold past moment effects) where
  pub tell_begin : (w n : ℕ) (call : QCall) → w < 256 → mark_at moment past ≡ Some (Begin w n call) → AreTold past (moment + 1) (set effects w false)
  tell_begin w n call small is =
      let next = at_moment-next moment (Begin w n call) past is lt in
      record {
        places = grind (arith, common_steps, h.places);
        told = λ v opened few now. elim (either v w) [
          | inl e ↦ rw (e, set_same effects w false false (omega (arith, h.places))) (begun_effect w n _ call _ (w == w) opened (same_number w) (rw (e, next) at now))
          | inr ne ↦ rw (set_other effects v w false false ne) (h.told v opened few (other_way (w == v) _ _ opened (other_number w v ne) (rw next at now)))
        ];
      }

  pub tell_effect : (w n : ℕ) → w < 256 → mark_at moment past ≡ Some (Effect w n) → AreTold past (moment + 1) (set effects w true)
  tell_effect w n small is =
      let next = at_moment-next moment (Effect w n) past is lt in
      record {
        places = grind (arith, common_steps, h.places);
        told = λ v opened few now. elim (either v w) [
          | inl e ↦ rw (e, set_same effects w true false (omega (arith, h.places))) (taken_effect _ _ (w == w) opened (same_number w) (rw (e, next) at now))
          | inr ne ↦ rw (set_other effects v w true false ne) (h.told v opened few (other_way (w == v) _ _ opened (other_number w v ne) (rw next at now)))
        ];
      }

-- the marks that neither begin a call nor give it an effect
abbrev pub IsNeither : QMark → Type 0
IsNeither (Begin w n call) = ⊥
IsNeither (Effect w n) = ⊥
IsNeither mark = Unit {0}

pub neither_from : (mark : QMark) → ((w n : ℕ) (call : QCall) → mark ≡ Begin w n call → ⊥) → ((w n : ℕ) → mark ≡ Effect w n → ⊥) → IsNeither mark
neither_from (Begin w n call) no_begin no_effect = no_begin w n call refl
neither_from (Effect w n) no_begin no_effect = no_effect w n refl
neither_from mark no_begin no_effect = tt

closed_way : (b : Bool) (rest : Option Open) (opened : Open) → (if b then None else rest) ≡ Some opened → rest ≡ Some opened
closed_way true rest opened is = absurd (cc is)
closed_way false rest opened is = is

stays_open : (v : ℕ) (mark : QMark) (rest : List QMark) (opened : Open) → IsNeither mark → open_call v (mark ∷ rest) ≡ Some opened → open_call v rest ≡ Some opened
stays_open v (Begin w n call) rest opened never is = absurd never
stays_open v (Effect w n) rest opened never is = absurd never
stays_open v (End w n reply at) rest opened never is = closed_way (w == v) (open_call v rest) opened is
stays_open v (Memory Cut) rest opened never is = absurd (cc is)
stays_open v mark rest opened never is = is

pub tell_other : (past : List QMark) (moment : ℕ) (effects : List Bool) (mark : QMark) → moment < length past → AreTold past moment effects → mark_at moment past ≡ Some mark → IsNeither mark → AreTold past (moment + 1) effects
tell_other past moment effects mark lt h is never =
    let next = at_moment-next moment mark past is lt in
    record {
      places = h.places;
      told = λ v opened few now. h.told v opened few (stays_open v mark (at_moment moment past) opened never (rw next at now));
    }

-- the line of the call that began at the moment in the table, and none where there is no moment
pub line_some : (past : List QMark) (moment w begun : ℕ) (effects : List Bool) (found : Option QMark) → w < 256 → (since : Since past moment w begun) → AreTold past moment effects
    → found ≡ Some (Begin w since.opened.number since.opened.call) → line_since w (get_or effects w false) found ≡ open_line w (open_call w (at_moment moment past))
line_some past moment w begun effects found few since told is = rw (is, since.is, told.told w since.opened few since.is) refl

-- the lines of no workers, and of one more
pub lines_none : (out : List ℕ) (past : List QMark) → out ≡ out ++ open_lines 0 past
unfolding open_lines
lines_none out past = sym (append-nil out)

lines_step : (w : ℕ) (past : List QMark) → open_lines (suc w) past ≡ open_lines w past ++ open_line w (open_call w past)
unfolding open_lines
lines_step w past = refl

pub lines_more : (first old new : List ℕ) (w : ℕ) (past : List QMark) → old ≡ first ++ open_lines w past → new ≡ old ++ open_line w (open_call w past) → new ≡ first ++ open_lines (w + 1) past
lines_more first old new w past so_far added =
    rw (add-one w, lines_step w past) (added ∙ ap (λ (xs : List ℕ). xs ++ open_line w (open_call w past)) so_far ∙ append_assoc first (open_lines w past) (open_line w (open_call w past)))
