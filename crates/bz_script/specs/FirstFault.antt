-- What it is to be the first fault, said for each part between line feeds by itself; only Order looks at the lines before it.
use Rattle.std.specs.Prelude.{◌≡◌, ◌<◌, ℕ, zero, suc, ◌+◌, ◌==◌, if◌then◌else◌, List, [], ◌∷◌, length, drop, Option, Some, None, Result, Ok, Err, MatchResult}
use Rattle.bz_script.specs.Words.{words_in_line, lines_of, word}
use Rattle.bz_script.specs.Order.{at_first}
use Rattle.bz_script.specs.Script.{Fault, Job, first_of, item_of, standing_by, unended, script_of}
use Rattle.bz_script.specs.declared.fault.ScriptRule.{ScriptRule}
use Rattle.bz_script.specs.declared.fault.ScriptRule.TheVariants.{NoEnd}
use Rattle.bz_script.specs.declared.order.Standing.{Standing}

-- the rule that was broken, if one was
abbrev pub rule_of : {Read : Type 0} → Result Read ScriptRule → Option ScriptRule
rule_of (Ok read) = None
rule_of (Err rule) = Some rule

-- the rule that what stands behind the last line feed breaks
abbrev pub rest_rule : List ℕ → Option ScriptRule
rest_rule [] = None
rest_rule (b ∷ bytes) = Some NoEnd

-- what the parts before a place leave for Order, where this was so before the first of them; a line that breaks a rule
-- leaves it as it was
abbrev pub standing_at : Standing → List (List ℕ) → ℕ → Standing
standing_at standing parts zero = standing
standing_at standing [] (suc place) = standing
standing_at standing (line ∷ parts) (suc place) = standing_at (standing_by standing (item_of standing (words_in_line line))) parts place

-- the rule that a part behind the first line breaks: the last one stands behind the last line feed, and the others are lines
abbrev pub later_rule : Standing → List (List ℕ) → ℕ → Option ScriptRule
later_rule standing parts place =
    if place + 1 == length parts then rest_rule (word parts place) else rule_of (item_of (standing_at standing parts place) (words_in_line (word parts place)))

-- the rule that the part at a place breaks, the first at 0; where it is the only one, there is no line feed
abbrev pub broken_at : Option (ℕ × ℕ) → List (List ℕ) → ℕ → Option ScriptRule
broken_at image parts zero =
    if length parts == 1 then Some (unended (word parts 0)) else rule_of (first_of image (words_in_line (word parts 0)))
broken_at image parts (suc place) = later_rule at_first (drop 1 parts) place

-- no part breaks a rule
abbrev pub BreaksNoRule : Option (ℕ × ℕ) → List (List ℕ) → Type 0
BreaksNoRule image parts = (place : ℕ) → place < length parts → broken_at image parts place ≡ None

-- the part at a place breaks the rule, and none before it breaks any; lines count from 1
pub record IsFirstFault (image : Option (ℕ × ℕ)) (parts : List (List ℕ)) (fault : Fault) : Type 0 where
  pub place : ℕ
  pub line : fault.line ≡ place + 1
  pub within : place < length parts
  pub broken : broken_at image parts place ≡ Some fault.rule
  pub before : (earlier : ℕ) → earlier < place → broken_at image parts earlier ≡ None

-- a script breaks no rule, and what is no script has this first fault
abbrev pub IsFirst : Option (ℕ × ℕ) → List (List ℕ) → Result Job Fault → Type 0
IsFirst image parts found = MatchResult found (λ job. BreaksNoRule image parts) (IsFirstFault image parts)

-- of any bytes, and for any image or none
abbrev pub FaultsAreFirst : Type 0
FaultsAreFirst = (image : Option (ℕ × ℕ)) (bytes : List ℕ) → IsFirst image (lines_of bytes) (script_of image bytes)
