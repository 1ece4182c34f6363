-- The first fault is the first one.
use Rattle.std.proofs.Common.{◌≡◌, ◌<◌, ℕ, zero, suc, ◌+◌, List, [], ◌∷◌, length, refl, ◌∙◌, ap, Option, Some, None, Result, Ok, Err, MatchResult, arith}
use Rattle.std.specs.Prelude.{◌==◌}
use Rattle.std.proofs.lemmas.Bool.Decides.{nat_tests}
use Rattle.std.proofs.lemmas.List.Splits.{length-slice_split}
use Rattle.bz_script.specs.Words.{words_in_line, lines_of}
use Rattle.bz_script.specs.Order.{at_first}
use Rattle.bz_script.specs.Script.{Fault, first_of, item_of, standing_by, items_of, then_items, then_job, script_of_lines, script_of}
use Rattle.bz_script.specs.FirstFault.{rule_of, later_rule, broken_at, IsFirst}
use Rattle.bz_script.specs.declared.fault.ScriptRule.{ScriptRule}
use Rattle.bz_script.specs.declared.forms.Sizes.{Sizes}
use Rattle.bz_script.specs.declared.item.Item.{Item}
use Rattle.bz_script.specs.declared.order.Standing.{Standing}

-- the first of these parts, which other parts follow
later_here : (s : Standing) (line : List ℕ) (rest : List (List ℕ)) → 0 < length rest → later_rule s (line ∷ rest) 0 ≡ rule_of (item_of s (words_in_line line))
later_here s line rest more = grind (arith, nat_tests)

-- the parts behind the first
later_behind : (s : Standing) (line : List ℕ) (rest : List (List ℕ)) (k : ℕ) → later_rule s (line ∷ rest) (suc k) ≡ later_rule (standing_by s (item_of s (words_in_line line))) rest k
later_behind s line rest k = grind (arith, nat_tests)

-- the first fault of later parts, the first of which has a number
record IsFirstFrom (number : ℕ) (s : Standing) (parts : List (List ℕ)) (fault : Fault) : Type 0 where
  place : ℕ
  line : fault.line ≡ number + place
  within : place < length parts
  broken : later_rule s parts place ≡ Some fault.rule
  before : (k : ℕ) → k < place → later_rule s parts k ≡ None

abbrev BreakNone : Standing → List (List ℕ) → Type 0
BreakNone s parts = (k : ℕ) → k < length parts → later_rule s parts k ≡ None

abbrev AreFirst : ℕ → Standing → List (List ℕ) → Result (List Item) Fault → Type 0
AreFirst number s parts found = MatchResult found (λ items. BreakNone s parts) (IsFirstFrom number s parts)

none_more : (s : Standing) (line : List ℕ) (rest : List (List ℕ)) (n : ℕ) → later_rule s (line ∷ rest) 0 ≡ None → ((k : ℕ) → k < n → later_rule (standing_by s (item_of s (words_in_line line))) rest k ≡ None) → (k : ℕ) → k < suc n → later_rule s (line ∷ rest) k ≡ None
none_more s line rest n here behind zero h = here
none_more s line rest n here behind (suc k) h = later_behind s line rest k ∙ behind k (omega arith)

first_more : (number : ℕ) (s : Standing) (line : List ℕ) (rest : List (List ℕ)) (read : Result Item ScriptRule) (found : Result (List Item) Fault) → 0 < length rest → item_of s (words_in_line line) ≡ read
    → AreFirst (number + 1) (standing_by s (item_of s (words_in_line line))) rest found → AreFirst number s (line ∷ rest) (then_items number read found)
first_more number s line rest (Err rule) found more is first = record {
  place = 0;
  line = omega arith;
  within = omega arith;
  broken = later_here s line rest more ∙ ap rule_of is;
  before = λ k h. absurd (omega arith);
}
first_more number s line rest (Ok item) (Err fault) more is first = record {
  place = suc first.place;
  line = omega (arith, first.line);
  within = omega (arith, first.within);
  broken = later_behind s line rest first.place ∙ first.broken;
  before = none_more s line rest first.place (later_here s line rest more ∙ ap rule_of is) first.before;
}
first_more number s line rest (Ok item) (Ok items) more is first = none_more s line rest (length rest) (later_here s line rest more ∙ ap rule_of is) first

one_only : (s : Standing) (k : ℕ) → k < 1 → later_rule s ([] ∷ []) k ≡ None
one_only s zero h = refl
one_only s (suc k) h = absurd (omega arith)

items_first : (number : ℕ) (s : Standing) (parts : List (List ℕ)) → AreFirst number s parts (items_of number s parts)
items_first number s [] = λ k h. absurd (omega arith)
items_first number s ([] ∷ []) = one_only s
items_first number s ((b ∷ bytes) ∷ []) = record {
  place = 0;
  line = omega arith;
  within = omega arith;
  broken = refl;
  before = λ k h. absurd (omega arith);
}
items_first number s (line ∷ next ∷ rest) =
    let behind = standing_by s (item_of s (words_in_line line)) in
    first_more number s line (next ∷ rest) (item_of s (words_in_line line)) (items_of (number + 1) behind (next ∷ rest)) (omega arith) refl (items_first (number + 1) behind (next ∷ rest))

-- the first part, which other parts follow
first_here : (image : Option (ℕ × ℕ)) (line : List ℕ) (rest : List (List ℕ)) → 0 < length rest → broken_at image (line ∷ rest) 0 ≡ rule_of (first_of image (words_in_line line))
first_here image line rest more = grind (arith, nat_tests)

none_behind : (image : Option (ℕ × ℕ)) (line : List ℕ) (rest : List (List ℕ)) (n : ℕ) → broken_at image (line ∷ rest) 0 ≡ None → ((k : ℕ) → k < n → later_rule at_first rest k ≡ None) → (k : ℕ) → k < suc n → broken_at image (line ∷ rest) k ≡ None
none_behind image line rest n here behind zero h = here
none_behind image line rest n here behind (suc k) h = behind k (omega arith)

script_more : (image : Option (ℕ × ℕ)) (line : List ℕ) (rest : List (List ℕ)) (read : Result Sizes ScriptRule) (found : Result (List Item) Fault) → 0 < length rest → first_of image (words_in_line line) ≡ read → AreFirst 2 at_first rest found → IsFirst image (line ∷ rest) (then_job read found)
script_more image line rest (Err rule) found more is first = record {
  place = 0;
  line = refl;
  within = omega arith;
  broken = first_here image line rest more ∙ ap rule_of is;
  before = λ k h. absurd (omega arith);
}
script_more image line rest (Ok sizes) (Err fault) more is first = record {
  place = suc first.place;
  line = omega (arith, first.line);
  within = omega (arith, first.within);
  broken = first.broken;
  before = none_behind image line rest first.place (first_here image line rest more ∙ ap rule_of is) first.before;
}
script_more image line rest (Ok sizes) (Ok items) more is first = none_behind image line rest (length rest) (first_here image line rest more ∙ ap rule_of is) first

parts_first : (image : Option (ℕ × ℕ)) (parts : List (List ℕ)) → 0 < length parts → IsFirst image parts (script_of_lines image parts)
parts_first image [] some = absurd (omega arith)
parts_first image (bytes ∷ []) some = record {
  place = 0;
  line = refl;
  within = omega arith;
  broken = refl;
  before = λ k h. absurd (omega arith);
}
parts_first image (line ∷ next ∷ rest) some = script_more image line (next ∷ rest) (first_of image (words_in_line line)) (items_of 2 at_first (next ∷ rest)) (omega arith) refl (items_first 2 at_first (next ∷ rest))

-- of any bytes
pub script_first : (image : Option (ℕ × ℕ)) (bytes : List ℕ) → IsFirst image (lines_of bytes) (script_of image bytes)
script_first image bytes = parts_first image (lines_of bytes) (omega (arith, length-slice_split (λ b. b == 10) bytes))
