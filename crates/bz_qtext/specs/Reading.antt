-- How far a journal has been read for its calls.
use Rattle.std.specs.Prelude.{◌≡◌, ◌<◌, ℕ, Bool, false, List, [], ◌∷◌, length, Option, Some, None, option_map, is_some}
use Rattle.std.proofs.Common.{get_or}
use Rattle.bz_ring.specs.declared.calls.QReply.{QReply}
use Rattle.bz_ring.specs.Journal.{at_moment}
use Rattle.bz_ring.specs.declared.marks.QMark.{QMark}
use Rattle.bz_ring.specs.declared.marks.QMark.TheVariants.{Begin}
use Rattle.bz_ring.specs.Calls.{Open, open_call}
use Rattle.bz_qtext.specs.declared.ended.QEnded.{QEnded}
use Rattle.bz_qtext.specs.Lines.{fate_line}
use Rattle.bz_qtext.specs.Report.{ended_calls}

-- the moments at which the open calls began, and the calls that have ended since the last cut, before this moment
pub record IsReadTo (past : List QMark) (moment : ℕ) (begins : List (Option ℕ)) (calls : List QEnded) : Type 0 where
  pub places : length begins ≡ 256
  pub begun : (w : ℕ) → w < 256 → get_or begins w None ≡ option_map (λ opened. opened.begun) (open_call w (at_moment moment past))
  pub ended : calls ≡ ended_calls (at_moment moment past)

-- the ended call whose Begin this mark is
abbrev pub ended_since : ℕ → QReply → ℕ → Option QMark → List QEnded
ended_since w reply at (Some (Begin v n call)) = record { worker = w; number = n; call = call; reply = reply; at = at } ∷ []
ended_since w reply at other = []

-- of each worker whether its open call has taken effect, before this moment
pub record AreTold (past : List QMark) (moment : ℕ) (effects : List Bool) : Type 0 where
  pub places : length effects ≡ 256
  pub told : (w : ℕ) (opened : Open) → w < 256 → open_call w (at_moment moment past) ≡ Some opened → get_or effects w false ≡ is_some opened.effect

-- the line of the open call whose Begin this mark is
abbrev pub line_since : ℕ → Bool → Option QMark → List ℕ
line_since w effective (Some (Begin v n call)) = fate_line w n call effective
line_since w effective other = []
