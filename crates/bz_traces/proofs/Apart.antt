-- A text is the lines of one journal, and no line breaks it.
use Rattle.std.proofs.Common.{◌≡◌, ◌<◌, ◌≤◌, ◌+◌, ◌-◌, nat_le, nat_lt, ℕ, zero, suc, List, [], ◌∷◌, ◌++◌, length, refl, sym, ap, ◌∙◌, subst, inl, inr, arith, append_assoc, append-nil, length-append}
use Rattle.std.proofs.lemmas.Bool.{cases_Bool}
use Rattle.std.proofs.lemmas.Bool.Decides.{nat_tests}
use Rattle.bz_layout.specs.Addresses.{words_of}
use Rattle.bz_layout.specs.declared.config.Config.{Config}
use Rattle.bz_mark.specs.declared.marks.Mark.{Mark}
use Rattle.bz_mark.specs.Log.{Log}
use Rattle.bz_lines.specs.Lines.{head_line, line_of, lines_of, text_of, with_end}
use Rattle.bz_reading.proofs.HeadAgain.{words_small}
use Rattle.bz_traces.specs.declared.error.ReadError.{ReadError}
use Rattle.bz_traces.specs.declared.error.ReadError.TheVariants.{Line, Memory}
use Rattle.bz_traces.specs.Journals.{pages_with, AreTold, none, more, HasLines, IsSameJournal, GoesOn, BreaksAt}
use Rattle.bz_traces.proofs.Fronts.{told_once}
use Rattle.bz_traces.proofs.Unique.{Pages, text_back, one_line_more}
use Rattle.bz_traces.proofs.Whole.{whole_text, head_once}

-- the first marks of some, and the text of those behind them
record Front (words k : ℕ) (past : List Mark) (pages : Pages) : Type 0 where
  pub marks : List Mark
  pub lists : Pages
  pub behind : List ℕ
  pub told : AreTold words marks lists
  pub long : length marks ≡ k
  pub text : text_back pages past ≡ text_back lists marks ++ behind
  pub some_left : k < length past → 0 < length behind

-- one line more behind, and a line more before
line_behind : (longer whole part behind line : List ℕ) → longer ≡ whole ++ line → whole ≡ part ++ behind → longer ≡ part ++ (behind ++ line)
line_behind longer whole part behind line is text = is ∙ ap (λ (t : List ℕ). t ++ line) text ∙ append_assoc part behind line

line_before : (all first line whole part behind : List ℕ) → all ≡ line ++ whole → first ≡ line ++ part → whole ≡ part ++ behind → all ≡ first ++ behind
line_before all first line whole part behind is begins text =
    is ∙ ap (λ (t : List ℕ). line ++ t) text ∙ sym (append_assoc line part behind) ∙ ap (λ (t : List ℕ). t ++ behind) (sym begins)

front : (words k : ℕ) (past : List Mark) (pages : Pages) → AreTold words past pages → k ≤ length past → Front words k past pages
front words k _ _ none few = record { marks = []; lists = []; behind = []; told = none; long = omega (arith, few); text = sym (append-nil (text_back [] [])); some_left = λ more_marks. absurd (omega arith) }
front words k _ _ (more {past} {pages} {mark} {pairs} told next) few = elim (cases_Bool (nat_le k (length past))) [
  | inl within ↦
      let small : k ≤ length past = grind (arith, nat_tests) in
      let line : List ℕ = with_end (line_of (pages_with pages mark pairs) mark) in
      let f = front words k past pages told small in
      record {
        marks = f.marks;
        lists = f.lists;
        behind = f.behind ++ line;
        told = f.told;
        long = f.long;
        text = line_behind (text_back (pages_with pages mark pairs) (mark ∷ past)) (text_back pages past) (text_back f.lists f.marks) f.behind line (one_line_more words past pages mark pairs told) f.text;
        some_left = λ more_marks. omega (arith, length-append f.behind line, length-append (line_of (pages_with pages mark pairs) mark) (10 ∷ []));
      }
  | inr beyond ↦
      let great : length past < k = grind (arith, nat_tests) in
      record {
        marks = mark ∷ past;
        lists = pages_with pages mark pairs;
        behind = [];
        told = more told next;
        long = omega (arith, great, few);
        text = sym (append-nil (text_back (pages_with pages mark pairs) (mark ∷ past)));
        some_left = λ more_marks. absurd (omega (arith, great, more_marks));
      }
]

-- bytes that begin with the lines of a journal of so many marks
record Begun (c : Config) (k marks : ℕ) (bytes rest : List ℕ) : Type 0 where
  pub log : Log
  pub lines : HasLines c log
  pub long : length log.past ≡ k
  pub behind : List ℕ
  pub text : bytes ≡ text_of (lines_of c log) ++ (behind ++ rest)
  pub some_left : k < marks → 0 < length behind

begun : (c : Config) (log : Log) (k : ℕ) (bytes rest : List ℕ) → HasLines c log → bytes ≡ text_of (lines_of c log) ++ rest → k ≤ length log.past → Begun c k (length log.past) bytes rest
begun c log k bytes rest h is few =
    let f = front (words_of c) k log.past log.pages h.marks few in
    let it : Log = record { start = log.start; past = f.marks; pages = f.lists; limits = log.limits } in
    let whole : text_of (lines_of c log) ≡ text_of (lines_of c it) ++ f.behind =
    line_before (text_of (lines_of c log)) (text_of (lines_of c it)) (with_end (head_line c log.start)) (text_back log.pages log.past) (text_back f.lists f.marks) f.behind (whole_text c log) (whole_text c it) f.text in
    record {
      log = it;
      lines = record { start = h.start; marks = f.told };
      long = f.long;
      behind = f.behind;
      text = is ∙ ap (λ (t : List ℕ). t ++ rest) whole ∙ append_assoc (text_of (lines_of c it)) f.behind rest;
      some_left = f.some_left;
    }

-- a text twice, and what stands behind it
two_texts : (bytes t all all' line line' rest rest' : List ℕ) → all ≡ line ++ rest → all' ≡ line' ++ rest' → bytes ≡ all → bytes ≡ all' ++ t → line ++ (rest ++ []) ≡ line' ++ (rest' ++ t)
two_texts bytes t all all' line line' rest rest' first second is is' =
    ap (λ (x : List ℕ). line ++ x) (append-nil rest) ∙ sym first ∙ sym is ∙ is' ∙ ap (λ (x : List ℕ). x ++ t) second ∙ append_assoc line' rest' t

-- two journals with as many marks, where the lines of one are all of the bytes
record Twice (c c' : Config) (log log' : Log) (t : List ℕ) : Type 0 where
  pub same : IsSameJournal c c' log log'
  pub rest : [] ≡ t

twice : (c c' : Config) (log log' : Log) (bytes t : List ℕ) → HasLines c log → HasLines c' log' → bytes ≡ text_of (lines_of c log) → bytes ≡ text_of (lines_of c' log') ++ t → length log.past ≡ length log'.past → Twice c c' log log' t
twice c c' log log' bytes t h h' is is' long =
    let e : with_end (head_line c log.start) ++ (text_back log.pages log.past ++ []) ≡ with_end (head_line c' log'.start) ++ (text_back log'.pages log'.past ++ t) =
    two_texts bytes t (text_of (lines_of c log)) (text_of (lines_of c' log')) (with_end (head_line c log.start)) (with_end (head_line c' log'.start)) (text_back log.pages log.past) (text_back log'.pages log'.past)
    (whole_text c log) (whole_text c' log') is is' in
    let heads = head_once c c' log.start log'.start (text_back log.pages log.past ++ []) (text_back log'.pages log'.past ++ t) h.start h'.start e in
    let small = words_small c h.start.config in
    let counted : words_of c ≡ (words_of c - 1) + 1 = omega arith in
    let told : AreTold ((words_of c - 1) + 1) log.past log.pages = subst (λ (k : ℕ). AreTold k log.past log.pages) counted h.marks in
    let told' : AreTold ((words_of c - 1) + 1) log'.past log'.pages = subst (λ (k : ℕ). AreTold k log'.past log'.pages) counted (subst (λ (d : Config). AreTold (words_of d) log'.past log'.pages) (sym heads.config) h'.marks) in
    let once = told_once (words_of c - 1) (omega arith) log.past log'.past log.pages log'.pages [] t told told' long heads.rest in
    record {
      same = record { config = heads.config; start = heads.image; marks = once.marks; pages = once.page_lists };
      rest = once.rest;
    }

-- more lines than those of the journal do not stand there
too_far : (c : Config) (log : Log) (bytes : List ℕ) (k : ℕ) → HasLines c log → bytes ≡ text_of (lines_of c log) → length log.past < k → GoesOn k bytes → ⊥
too_far c log bytes zero h is far goes = absurd (omega (arith, far))
too_far c log bytes (suc j) h is far (c', log', rest', h', long, is', further) =
    let f = begun c' log' (length log.past) bytes rest' h' is' (omega (arith, far, long)) in
    let empty : [] ≡ f.behind ++ rest' = (twice c c' log f.log bytes (f.behind ++ rest') h f.lines is f.text (sym f.long)).rest in
    absurd (omega (arith, further, length-append f.behind rest', ap length empty))

pub apart : (c : Config) (log : Log) (bytes : List ℕ) (line : ℕ) → HasLines c log → bytes ≡ text_of (lines_of c log) → BreaksAt bytes line → ⊥
apart c log bytes zero h is b = absurd (omega (arith, b.some))
apart c log bytes (suc k) h is b = elim (cases_Bool (nat_le k (length log.past))) [
  | inl within ↦
      let small : k ≤ length log.past = grind (arith, nat_tests) in
      let f = begun c log k bytes [] h (is ∙ sym (append-nil (text_of (lines_of c log)))) small in b.this (c, f.log, f.behind ++ [], f.lines, f.long, f.text)
  | inr beyond ↦
      let far : length log.past < k = grind (arith, nat_tests) in
      let before : suc k - 1 ≡ k = omega arith in
      too_far c log bytes k h is far (subst (λ (n : ℕ). GoesOn n bytes) before b.before)
]

-- a journal with more marks goes on behind so many
goes_on : (c : Config) (log : Log) (k : ℕ) (bytes : List ℕ) → HasLines c log → bytes ≡ text_of (lines_of c log) → k < length log.past → GoesOn (suc k) bytes
goes_on c log k bytes h is further =
    let f = begun c log k bytes [] h (is ∙ sym (append-nil (text_of (lines_of c log)))) (omega (arith, further)) in
    (c, f.log, f.behind ++ [], f.lines, f.long, f.text, omega (arith, length-append f.behind [], f.some_left further))

no_fewer : (c c' : Config) (log log' : Log) (bytes : List ℕ) → HasLines c log → HasLines c' log' → bytes ≡ text_of (lines_of c log) → bytes ≡ text_of (lines_of c' log') → length log.past < length log'.past → ⊥
no_fewer c c' log log' bytes h h' is is' fewer = too_far c log bytes (suc (length log.past)) h is (omega arith) (goes_on c' log' (length log.past) bytes h' is' fewer)

as_many : (c c' : Config) (log log' : Log) (bytes : List ℕ) → HasLines c log → HasLines c' log' → bytes ≡ text_of (lines_of c log) → bytes ≡ text_of (lines_of c' log') → length log.past ≡ length log'.past
as_many c c' log log' bytes h h' is is' = elim (cases_Bool (nat_lt (length log.past) (length log'.past))) [
  | inl fewer ↦
      let less : length log.past < length log'.past = grind (arith, nat_tests) in
      absurd (no_fewer c c' log log' bytes h h' is is' less)
  | inr no_less ↦ elim (cases_Bool (nat_lt (length log'.past) (length log.past))) [
    | inl more_marks ↦
        let great : length log'.past < length log.past = grind (arith, nat_tests) in
        absurd (no_fewer c' c log' log bytes h' h is' is great)
    | inr no_greater ↦
        let low : length log'.past ≤ length log.past = grind (arith, nat_tests) in
        let high : length log.past ≤ length log'.past = grind (arith, nat_tests) in
        omega (arith, low, high)
  ]
]

-- two journals with these lines are one
pub one_journal : (c c' : Config) (log log' : Log) (bytes : List ℕ) → HasLines c log → HasLines c' log' → bytes ≡ text_of (lines_of c log) → bytes ≡ text_of (lines_of c' log') → IsSameJournal c c' log log'
one_journal c c' log log' bytes h h' is is' =
    (twice c c' log log' bytes [] h h' is (is' ∙ sym (append-nil (text_of (lines_of c' log')))) (as_many c c' log log' bytes h h' is is')).same

-- a fault in reading the lines of a journal is want of memory
pub fault_is_memory : (c : Config) (log : Log) (bytes : List ℕ) (error : ReadError) → HasLines c log → bytes ≡ text_of (lines_of c log) → ((line : ℕ) → error ≡ Line line → BreaksAt bytes line) → error ≡ Memory
fault_is_memory c log bytes (Line line) h is broken = absurd (apart c log bytes line h is (broken line refl))
fault_is_memory c log bytes Memory h is broken = refl
