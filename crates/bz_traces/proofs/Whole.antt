-- The whole text: one line more of a journal, and the line that breaks it.
use Rattle.std.proofs.Common.{◌≡◌, ◌<◌, ◌≤◌, ◌+◌, ◌-◌, ℕ, zero, suc, List, [], ◌∷◌, ◌++◌, map, reverse, length, get_or, take, drop, drop-cons, add-one, Some, refl, sym, ap, ◌∙◌, subst, arith, append_assoc, append-nil}
use Rattle.std.proofs.lemmas.Grind.{common_steps, reverse_onto}
use Rattle.serde_json.specs.Read.{read}
use Rattle.bz_layout.specs.Addresses.{words_of}
use Rattle.bz_layout.specs.declared.config.Config.{Config}
use Rattle.bz_mark.specs.declared.marks.Mark.{Mark}
use Rattle.bz_layout.specs.declared.limits.TheConstants.{MAX_MARKS}
use Rattle.bz_mark.specs.Log.{Log, Limits, with_mark}
use Rattle.bz_reading.specs.Heads.{IsStart, config_in, start_in}
use Rattle.bz_traces.specs.Journals.{pages_with, IsNext, AreTold, none, more, HasLines, BeginWith, GoesOn, BreaksAt}
use Rattle.bz_lines.specs.Lines.{head_line, line_of, lines_of, text_of, with_end}
use Rattle.bz_lines.specs.Objects.{head_data}
use Rattle.bz_traces.specs.Steps.{MarkAdded, NoNext, HasRoomFor, with_pages}
use Rattle.bz_traces.specs.Opened.{IsOpened}
use Rattle.bz_traces.proofs.Fronts.{behind_line, told_once}
use Rattle.std.proofs.lemmas.List.{take-append-drop}
use Rattle.bz_reading.proofs.Good.{AreLineBytes, cut_once}
use Rattle.bz_reading.proofs.HeadAgain.{words_small, head_read, head_bytes, config_again, start_again}
use Rattle.bz_traces.proofs.Unique.{Pages, Pairs, text_back, one_line_more}

text_snoc : (f : Mark → List ℕ) (xs : List Mark) (m : Mark) → text_of (map f (xs ++ m ∷ [])) ≡ text_of (map f xs) ++ with_end (f m)
text_snoc f [] m = append-nil (with_end (f m))
text_snoc f (x ∷ xs) m = ap (λ (t : List ℕ). with_end (f x) ++ t) (text_snoc f xs m) ∙ sym (append_assoc (with_end (f x)) (text_of (map f xs)) (with_end (f m)))

text_marks : (pages : Pages) (past : List Mark) → text_of (map (line_of pages) (reverse past)) ≡ text_back pages past
unfolding text_back
text_marks pages [] = refl
text_marks pages (m ∷ past) =
    ap (λ (ms : List Mark). text_of (map (line_of pages) ms)) (reverse_onto past m []) ∙ text_snoc (line_of pages) (reverse past) m ∙ ap (λ (t : List ℕ). t ++ with_end (line_of pages m)) (text_marks pages past)

pub whole_text : (c : Config) (log : Log) → text_of (lines_of c log) ≡ with_end (head_line c log.start) ++ text_back log.pages log.past
whole_text c log = ap (λ (t : List ℕ). with_end (head_line c log.start) ++ t) (text_marks log.pages log.past)

-- the first line alone
pub head_alone : (c : Config) (log : Log) (bytes line rest : List ℕ) → log.past ≡ [] → bytes ≡ line ++ 10 ∷ rest → line ≡ head_line c log.start → bytes ≡ text_of (lines_of c log) ++ rest
unfolding text_back
head_alone c log bytes line rest fresh is same =
    let no_marks : text_back log.pages log.past ≡ [] = ap (text_back log.pages) fresh in
    is ∙ ap (λ (l : List ℕ). l ++ 10 ∷ rest) same ∙ sym (behind_line (head_line c log.start) rest)
    ∙ ap (λ (t : List ℕ). t ++ rest) (sym (append-nil (with_end (head_line c log.start))) ∙ ap (λ (t : List ℕ). with_end (head_line c log.start) ++ t) (sym no_marks) ∙ sym (whole_text c log))

-- a mark more is a line more
pub lines_more : (c : Config) (old new : Log) (line bytes rest rest' : List ℕ) → HasLines c old → MarkAdded (words_of c) line old new → bytes ≡ text_of (lines_of c old) ++ rest → rest ≡ line ++ 10 ∷ rest' → bytes ≡ text_of (lines_of c new) ++ rest'
lines_more c old new line bytes rest rest' h added is cut =
    let pages = pages_with old.pages added.mark added.pairs in
    let after : Log = with_mark (with_pages old pages) added.mark in
    let back : text_back pages (added.mark ∷ old.past) ≡ text_back old.pages old.past ++ with_end line =
    one_line_more (words_of c) old.past old.pages added.mark added.pairs h.marks ∙ ap (λ (l : List ℕ). text_back old.pages old.past ++ with_end l) (sym added.line) in
    let text : text_of (lines_of c after) ≡ text_of (lines_of c old) ++ with_end line =
    whole_text c after ∙ ap (λ (t : List ℕ). with_end (head_line c old.start) ++ t) back ∙ sym (append_assoc (with_end (head_line c old.start)) (text_back old.pages old.past) (with_end line))
    ∙ ap (λ (t : List ℕ). t ++ with_end line) (sym (whole_text c old)) in
    is ∙ ap (λ (r : List ℕ). text_of (lines_of c old) ++ r) (cut ∙ sym (behind_line line rest')) ∙ sym (append_assoc (text_of (lines_of c old)) (with_end line) rest')
    ∙ ap (λ (t : List ℕ). t ++ rest') (sym text) ∙ ap (λ (l : Log). text_of (lines_of c l) ++ rest') (sym added.log)

pub has_more : (c : Config) (old new : Log) (line : List ℕ) → HasLines c old → MarkAdded (words_of c) line old new → HasLines c new
has_more c old new line h added =
    subst (HasLines c) (sym added.log) (record { start = h.start; marks = more h.marks added.next })

-- two first lines at the front of the same bytes
pub record SameHead (c c' : Config) (start start' t t' : List ℕ) : Type 0 where
  pub config : c ≡ c'
  pub image : start ≡ start'
  pub rest : t ≡ t'

pub head_once : (c c' : Config) (start start' t t' : List ℕ) → IsStart c start → IsStart c' start' → with_end (head_line c start) ++ t ≡ with_end (head_line c' start') ++ t' → SameHead c c' start start' t t'
head_once c c' start start' t t' h h' e =
    let cut = cut_once (head_line c start) (head_line c' start') t t' (head_bytes c start h) (head_bytes c' start' h') (sym (behind_line (head_line c start) t) ∙ e ∙ behind_line (head_line c' start') t') in
    let object : Some (head_data c start) ≡ Some (head_data c' start') = sym (head_read c start h) ∙ ap read cut.0 ∙ head_read c' start' h' in
    let written : head_data c start ≡ head_data c' start' = cc in
    let configs : Some c ≡ Some c' = sym (config_again c start h) ∙ ap config_in written ∙ config_again c' start' h' in
    let config : c ≡ c' = cc in
    let images : Some start ≡ Some start' = sym (start_again c start h) ∙ ap (start_in (words_of c)) written ∙ ap (λ (d : Config). start_in (words_of d) (head_data c' start')) config ∙ start_again c' start' h' in
    let image : start ≡ start' = cc in
    record { config = config; image = image; rest = cut.1 }

-- the newest mark of a journal that has one
record Newest (words : ℕ) (all : List Mark) (lists : Pages) : Type 0 where
  pub past : List Mark
  pub pages : Pages
  pub mark : Mark
  pub pairs : Pairs
  pub told : AreTold words past pages
  pub next : IsNext words past pages mark pairs
  pub marks : all ≡ mark ∷ past
  pub page_lists : lists ≡ pages_with pages mark pairs

newest : (words : ℕ) (all : List Mark) (lists : Pages) (k : ℕ) → AreTold words all lists → length all ≡ suc k → Newest words all lists
newest words _ _ k none long = absurd (omega arith)
newest words _ _ k (more {past} {pages} {mark} {pairs} told next) long = record { past = past; pages = pages; mark = mark; pairs = pairs; told = told; next = next; marks = refl; page_lists = refl }

no_more : (c : Config) (log : Log) (bytes rest : List ℕ) → HasLines c log → bytes ≡ text_of (lines_of c log) ++ rest → NoNext (words_of c) log rest → BeginWith (suc (suc (length log.past))) bytes → ⊥
no_more c log bytes rest h is nothing (c', log', rest', h', long, is') =
    let it = newest (words_of c') log'.past log'.pages (length log.past) h'.marks long in
    let line : List ℕ = line_of (pages_with it.pages it.mark it.pairs) it.mark in
    let front : List ℕ = text_back it.pages it.past in
    let head : List ℕ = with_end (head_line c log.start) in
    let head' : List ℕ = with_end (head_line c' log'.start) in
    let text' : text_of (lines_of c' log') ≡ head' ++ (front ++ with_end line) =
    whole_text c' log' ∙ ap (λ (ms : List Mark). head' ++ text_back log'.pages ms) it.marks ∙ ap (λ (ps : Pages). head' ++ text_back ps (it.mark ∷ it.past)) it.page_lists
    ∙ ap (λ (t : List ℕ). head' ++ t) (one_line_more (words_of c') it.past it.pages it.mark it.pairs it.told) in
    let e : head ++ (text_back log.pages log.past ++ rest) ≡ head' ++ (front ++ (with_end line ++ rest')) =
    sym (append_assoc head (text_back log.pages log.past) rest) ∙ ap (λ (t : List ℕ). t ++ rest) (sym (whole_text c log)) ∙ sym is ∙ is' ∙ ap (λ (t : List ℕ). t ++ rest') text'
    ∙ append_assoc head' (front ++ with_end line) rest' ∙ ap (λ (t : List ℕ). head' ++ t) (append_assoc front (with_end line) rest') in
    let heads = head_once c c' log.start log'.start (text_back log.pages log.past ++ rest) (front ++ (with_end line ++ rest')) h.start h'.start e in
    let small = words_small c h.start.config in
    let counted : words_of c ≡ (words_of c - 1) + 1 = omega arith in
    let told : AreTold ((words_of c - 1) + 1) log.past log.pages = subst (λ (k : ℕ). AreTold k log.past log.pages) counted h.marks in
    let told' : AreTold ((words_of c - 1) + 1) it.past it.pages = subst (λ (k : ℕ). AreTold k it.past it.pages) counted (subst (λ (d : Config). AreTold (words_of d) it.past it.pages) (sym heads.config) it.told) in
    let as_long : length log.past ≡ length it.past = omega (arith, long, ap length it.marks) in
    let same = told_once (words_of c - 1) (omega arith) log.past it.past log.pages it.pages rest (with_end line ++ rest') told told' as_long heads.rest in
    let next : IsNext (words_of c) log.past log.pages it.mark it.pairs =
    subst (λ (ms : List Mark). IsNext (words_of c) ms log.pages it.mark it.pairs) (sym same.marks)
    (subst (λ (ps : Pages). IsNext (words_of c) it.past ps it.mark it.pairs) (sym same.page_lists) (subst (λ (d : Config). IsNext (words_of d) it.past it.pages it.mark it.pairs) (sym heads.config) it.next)) in
    nothing it.mark it.pairs rest' next (same.rest ∙ ap (λ (ps : Pages). with_end (line_of (pages_with ps it.mark it.pairs) it.mark) ++ rest') (sym same.page_lists))

pub breaks : (c : Config) (log : Log) (bytes rest : List ℕ) → HasLines c log → bytes ≡ text_of (lines_of c log) ++ rest → 0 < length rest → NoNext (words_of c) log rest → BreaksAt bytes (length log.past + 2)
breaks c log bytes rest h is further nothing = record {
  some = omega arith;
  before =
      let k : suc (length log.past) ≡ (length log.past + 2) - 1 = omega arith in
      subst (λ (n : ℕ). GoesOn n bytes) k (c, log, rest, h, refl, is, further);
  this = λ w.
      let k : length log.past + 2 ≡ suc (suc (length log.past)) = omega arith in
      no_more c log bytes rest h is nothing (subst (λ (n : ℕ). BeginWith n bytes) k w);
}

no_head : (bytes : List ℕ) → ((c : Config) (start behind : List ℕ) → IsStart c start → bytes ≡ with_end (head_line c start) ++ behind → ⊥) → BeginWith 1 bytes → ⊥
no_head bytes nothing (c, log, rest, h, long, is) =
    nothing c log.start (text_back log.pages log.past ++ rest) h.start (is ∙ ap (λ (t : List ℕ). t ++ rest) (whole_text c log) ∙ append_assoc (with_end (head_line c log.start)) (text_back log.pages log.past) rest)

pub head_breaks : (bytes : List ℕ) → ((c : Config) (start behind : List ℕ) → IsStart c start → bytes ≡ with_end (head_line c start) ++ behind → ⊥) → BreaksAt bytes 1
head_breaks bytes nothing = record { some = omega arith; before = tt; this = no_head bytes nothing }

-- ---- the first line feed

pub cut_at : (line behind : List ℕ) (end : ℕ) → AreLineBytes line → ((k : ℕ) → k < end → get_or (line ++ 10 ∷ behind) k 0 ≡ 10 → ⊥) → get_or (line ++ 10 ∷ behind) end 0 ≡ 10 → take end (line ++ 10 ∷ behind) ≡ line
cut_at [] behind zero h before feed = refl
cut_at [] behind (suc end) h before feed = absurd (before 0 (omega arith) refl)
cut_at (x ∷ line) behind zero h before feed = absurd (omega (arith, h.0.low, feed))
cut_at (x ∷ line) behind (suc end) h before feed = ap (λ (xs : List ℕ). x ∷ xs) (cut_at line behind end h.1 (λ k below is. before (suc k) (omega arith) is) feed)

pub feed_cut : (bytes : List ℕ) (end : ℕ) → end < length bytes → get_or bytes end 0 ≡ 10 → bytes ≡ take end bytes ++ 10 ∷ drop (end + 1) bytes
feed_cut bytes end within feed =
    sym (take-append-drop end bytes) ∙ ap (λ (xs : List ℕ). take end bytes ++ xs) (drop-cons bytes end 0 within ∙ ap (λ (b : ℕ). b ∷ drop (suc end) bytes) feed ∙ ap (λ (k : ℕ). 10 ∷ drop k bytes) (sym (add-one end)))

feed_within : (line behind : List ℕ) → (length line < length (line ++ 10 ∷ behind)) × (get_or (line ++ 10 ∷ behind) (length line) 0 ≡ 10)
feed_within [] behind = (omega arith, refl)
feed_within (x ∷ line) behind = let more_line = feed_within line behind in (omega (arith, more_line.0), more_line.1)

-- bytes without a line feed begin with no line
pub no_feed : (bytes line behind : List ℕ) → ((k : ℕ) → k < length bytes → get_or bytes k 0 ≡ 10 → ⊥) → bytes ≡ with_end line ++ behind → ⊥
no_feed bytes line behind none_there is =
    let whole : bytes ≡ line ++ 10 ∷ behind = is ∙ behind_line line behind in
    let there = feed_within line behind in
    none_there (length line) (omega (arith, there.0, ap length whole)) (ap (λ (bs : List ℕ). get_or bs (length line) 0) whole ∙ there.1)

-- the bytes up to the first line feed are the line with which they begin
pub first_line : (bytes line behind : List ℕ) (end : ℕ) → AreLineBytes line → ((k : ℕ) → k < end → get_or bytes k 0 ≡ 10 → ⊥) → get_or bytes end 0 ≡ 10 → bytes ≡ with_end line ++ behind → take end bytes ≡ line
first_line bytes line behind end h before feed is =
    let whole : bytes ≡ line ++ 10 ∷ behind = is ∙ behind_line line behind in
    ap (take end) whole
    ∙ cut_at line behind end h (λ k below at_k. before k below (ap (λ (bs : List ℕ). get_or bs k 0) whole ∙ at_k)) (ap (λ (bs : List ℕ). get_or bs end 0) (sym whole) ∙ feed)

-- ---- steps of the readers

pub told_few : (words : ℕ) (past : List Mark) (pages : Pages) → AreTold words past pages → length past ≤ MAX_MARKS
told_few words _ _ none = omega arith
told_few words _ _ (more told next) = omega (arith, next.marks)

pub room_more : (words : ℕ) (line : List ℕ) (old new : Log) (many few : ℕ) → MarkAdded words line old new → few < many → HasRoomFor many old → HasRoomFor few new
room_more words line old new many few added fewer room =
    let limits : new.limits ≡ old.limits = ap (λ (l : Log). l.limits) added.log in
    let longer : length new.past ≡ length (added.mark ∷ old.past) = ap (λ (l : Log). length l.past) added.log in
    record {
      marks = λ k below small. subst (λ (l : Limits). k < l.marks) (sym limits) (room.marks k (omega (arith, below, longer)) small);
      calls = ap (λ (l : Limits). l.calls) limits ∙ room.calls;
      pages = ap (λ (l : Limits). l.pages) limits ∙ room.pages;
    }

pub opened_lines : (c : Config) (start : List ℕ) (n : ℕ) (log : Log) → IsStart c start → IsOpened start n log → HasLines c log
opened_lines c start n log h opened = record {
  start = subst (IsStart c) (sym opened.image) h;
  marks = subst (λ (ms : List Mark). AreTold (words_of c) ms log.pages) (sym opened.fresh) (subst (λ (ps : Pages). AreTold (words_of c) [] ps) (sym opened.blank) none);
}

pub opened_room : (start : List ℕ) (n m : ℕ) (log : Log) → IsOpened start n log → m ≤ n → HasRoomFor m log
opened_room start n m log opened fewer = record {
  marks = λ k below small. opened.marks k (omega (arith, below, ap length opened.fresh)) small;
  calls = opened.calls;
  pages = opened.lists;
}

pub opened_text : (c : Config) (start : List ℕ) (n : ℕ) (log : Log) (bytes rest : List ℕ) → IsOpened start n log → bytes ≡ head_line c start ++ 10 ∷ rest → bytes ≡ text_of (lines_of c log) ++ rest
opened_text c start n log bytes rest opened is = head_alone c log bytes (head_line c start) rest opened.fresh is (ap (head_line c) (sym opened.image))

-- a part up to the end
pub to_end : (xs : List ℕ) (at : ℕ) → take (length xs - at) (drop at xs) ≡ drop at xs
to_end xs at = grind (arith, common_steps)
