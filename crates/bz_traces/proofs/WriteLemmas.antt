-- A sink that has taken lines, and one more.
use Rattle.std.proofs.Common.{◌≡◌, ◌<◌, ℕ, ◌+◌, List, [], ◌∷◌, ◌++◌, length, take, drop, get_or, sym, ap, ◌∙◌, arith, append_assoc, append-nil, length-append}
use Rattle.std.specs.Prelude.{Option}
use Rattle.std.specs.Io.KnownBytes.{Appends}
use Rattle.std.proofs.lemmas.Grind.{flat_map-append}
use Rattle.std.proofs.lemmas.List.{take-append-drop, take_more}
use Rattle.bz_io.specs.Transfers.{GrewByFront}
use Rattle.bz_io.proofs.Grown.{appends_twice}
use Rattle.bz_lines.specs.Lines.{text_of, with_end}
use Rattle.bz_traces.specs.Writes.{GrewByLines}

-- the text of the first lines and one more
text_of-more : (lines : List (List ℕ)) (i : ℕ) (line : List ℕ) → i < length lines → get_or lines i line ≡ line → text_of (take (i + 1) lines) ≡ text_of (take i lines) ++ with_end line
text_of-more lines i line within is =
    ap text_of (take_more lines i line within) ∙ flat_map-append with_end (take i lines) (get_or lines i line ∷ []) ∙ ap (λ (l : List ℕ). text_of (take i lines) ++ l) (append-nil (with_end (get_or lines i line)) ∙ ap with_end is)

text_of-split : (lines : List (List ℕ)) (i : ℕ) → text_of lines ≡ text_of (take i lines) ++ text_of (drop i lines)
text_of-split lines i = ap text_of (sym (take-append-drop i lines)) ∙ flat_map-append with_end (take i lines) (drop i lines)

-- a sink with one line more
pub appends_line : (a b c : Option (List ℕ)) (lines : List (List ℕ)) (i : ℕ) (line : List ℕ) → i < length lines → get_or lines i line ≡ line
    → Appends a b (text_of (take i lines)) → Appends b c (with_end line) → Appends a c (text_of (take (i + 1) lines))
appends_line a b c lines i line within is h k = rw (text_of-more lines i line within is) (appends_twice a b c _ _ h k)

-- the rest behind a line
rest_of : (lines : List (List ℕ)) (i : ℕ) (line : List ℕ) → i < length lines → get_or lines i line ≡ line → text_of lines ≡ text_of (take i lines) ++ (with_end line ++ text_of (drop (i + 1) lines))
rest_of lines i line within is = text_of-split lines (i + 1) ∙ ap (λ (t : List ℕ). t ++ text_of (drop (i + 1) lines)) (text_of-more lines i line within is) ∙ append_assoc (text_of (take i lines)) (with_end line) (text_of (drop (i + 1) lines))

-- a front part of the next line is one of all
pub grew_line : (a b c : Option (List ℕ)) (lines : List (List ℕ)) (i : ℕ) (line : List ℕ) → i < length lines → get_or lines i line ≡ line
    → Appends a b (text_of (take i lines)) → GrewByFront b c (with_end line) → GrewByFront a c (text_of lines)
grew_line a b c lines i line within is h grew = record {
  front = text_of (take i lines) ++ grew.front;
  back = grew.back ++ text_of (drop (i + 1) lines);
  whole = append_assoc (text_of (take i lines)) grew.front (grew.back ++ text_of (drop (i + 1) lines))
      ∙ ap (λ (t : List ℕ). text_of (take i lines) ++ t) (sym (append_assoc grew.front grew.back (text_of (drop (i + 1) lines))) ∙ ap (λ (t : List ℕ). t ++ text_of (drop (i + 1) lines)) grew.whole)
      ∙ sym (rest_of lines i line within is);
  some_back = omega (arith, length-append grew.back (text_of (drop (i + 1) lines)), grew.some_back);
  grew = appends_twice a b c _ _ h grew.grew;
}

-- the first line
pub grew_head : (a c : Option (List ℕ)) (head : List ℕ) (lines : List (List ℕ)) → GrewByFront a c (with_end head) → GrewByFront a c (text_of (head ∷ lines))
grew_head a c head lines grew = record {
  front = grew.front;
  back = grew.back ++ text_of lines;
  whole = sym (append_assoc grew.front grew.back (text_of lines)) ∙ ap (λ (t : List ℕ). t ++ text_of lines) grew.whole;
  some_back = omega (arith, length-append grew.back (text_of lines), grew.some_back);
  grew = grew.grew;
}

-- the sink stands where it stood after so many lines
pub grew_whole : {K : Type 0} (held : K → Option (List ℕ)) (a b c : K) (lines : List (List ℕ)) (i : ℕ) → i < length lines → Appends (held a) (held b) (text_of (take i lines)) → c ≡ b → GrewByLines (held a) (held c) lines
grew_whole held a b c lines i within h same = record { count = i; some_left = within; grew = rw same h }
