-- Which line is that of a mark.
use Rattle.std.proofs.Common.{◌≡◌, ◌<◌, ℕ, ◌+◌, ◌-◌, List, reverse, length, get_or, sym, ap, ◌∙◌, arith, add-one}
use Rattle.std.specs.Prelude.{Some, slice_get}
use Rattle.std.proofs.lemmas.Grind.{common_steps}
use Rattle.std.proofs.lemmas.Option.{slice_get-get_or}
use Rattle.std.proofs.lemmas.List.{get_or-reverse, get_or-map}
use Rattle.bz_layout.specs.declared.config.Config.{Config}
use Rattle.bz_mark.specs.declared.marks.Mark.{Mark}
use Rattle.bz_mark.specs.Log.{Log}
use Rattle.bz_mark.specs.Moments.{mark_at}
use Rattle.bz_lines.specs.Lines.{lines_of, line_of}

pub count_lines : (c : Config) (log : Log) → length (lines_of c log) ≡ length log.past + 1
count_lines c log = grind (arith, common_steps)

found : {X : Type 0} (xs : List X) (k : ℕ) (x : X) → k < length xs → slice_get xs k ≡ Some x → get_or xs k x ≡ x
found xs k x within is = let e : Some (get_or xs k x) ≡ Some x = sym (slice_get-get_or xs k x within) ∙ is in cc

pub mark_of_moment : (past : List Mark) (i : ℕ) (mark : Mark) → i < length past → mark_at i past ≡ Some mark → get_or (reverse past) i mark ≡ mark
mark_of_moment past i mark within is =
    get_or-reverse past i mark within ∙ ap (λ (k : ℕ). get_or past k mark) (omega arith) ∙ found past (length past - (i + 1)) mark (omega arith) is

-- the line of a mark stands behind the first line and those of the marks before
pub line_at : (c : Config) (log : Log) (i : ℕ) (mark : Mark) → i < length log.past → mark_at i log.past ≡ Some mark → get_or (lines_of c log) (i + 1) (line_of log.pages mark) ≡ line_of log.pages mark
line_at c log i mark within is =
    let here : i < length (reverse log.past) = grind (arith, common_steps) in
    rw add-one (get_or-map (line_of log.pages) (reverse log.past) i mark (line_of log.pages mark) here ∙ ap (line_of log.pages) (mark_of_moment log.past i mark within is))
