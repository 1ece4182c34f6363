-- The lines of two journals that begin alike tell the same marks and pages.
use Rattle.std.proofs.Common.{◌≡◌, ◌<◌, ◌+◌, ◌^◌, ℕ, true, false, List, [], ◌∷◌, ◌++◌, map, length, get_or, Option, Some, None, refl, sym, ap, ◌∙◌, subst, inl, inr, cond, IsUtf8, arith, append_assoc, append-nil}
use Rattle.std.proofs.lemmas.Bool.{cases_Bool}
use Rattle.std.proofs.lemmas.Grind.{common_steps}
use Rattle.serde_json.specs.Data.{Data}
use Rattle.serde_json.specs.Read.{read}
use Rattle.bz_call.specs.declared.replies.Reply.TheVariants as reply
use Rattle.bz_mark.specs.declared.marks.Mark.{Mark}
use Rattle.bz_mark.specs.declared.marks.Mark.TheVariants.{Begin, End, Load, Store, Cas, Ask, Fence, Evict, Cut, On, Ready, Effect}
use Rattle.bz_traces.specs.Journals.{pages_with, IsNext, AreTold, none, more}
use Rattle.bz_lines.specs.Lines.{line_of, with_end}
use Rattle.bz_lines.specs.Objects.{pair_data, data_of}
use Rattle.bz_lines.specs.Ranges.{ArePairs, IsNumbered, tells_page}
use Rattle.bz_reading.specs.Reading.{mark_in, page_in, pairs_in}
use Rattle.bz_reading.proofs.Again.{mark_again, pairs_again}
use Rattle.serde_json.specs.Written.{compact_text}
use Rattle.bz_reading.proofs.Good.{read_again, AreLineBytes, good_bytes, bytes_utf8}
use Rattle.bz_reading.proofs.GoodLines.{mark_good, MarkHasPage}
use Rattle.bz_reading.proofs.ListLemmas.{listed-items_of}

abbrev pub Pages : Type 0
Pages = List (List (List ℕ × List ℕ))

abbrev pub Pairs : Type 0
Pairs = List (List ℕ × List ℕ)

last_page : (pages : Pages) (pairs : Pairs) (later : Pages) (number : ℕ) → number ≡ length pages → get_or ((pages ++ pairs ∷ []) ++ later) number [] ≡ pairs
last_page pages pairs later number is = rw is (grind (arith, common_steps))

-- the page of an End that may come next is one that may be told
has_page : (pages : Pages) (mark : Mark) (pairs : Pairs) → IsNumbered (length pages) mark → ArePairs pairs → MarkHasPage (pages_with pages mark pairs) mark
has_page pages (End w n (reply.Page page next) at) pairs is h =
    let P : Pairs → Type 0 = ArePairs in
    subst P (sym (ap (λ (ps : Pages). get_or ps page []) (sym (append-nil (pages ++ pairs ∷ []))) ∙ last_page pages pairs [] page is)) h
has_page pages (End w n reply.Inserted at) pairs is h = tt
has_page pages (End w n reply.Exists at) pairs is h = tt
has_page pages (End w n (reply.Deleted payload) at) pairs is h = tt
has_page pages (End w n (reply.Updated payload) at) pairs is h = tt
has_page pages (End w n reply.Missing at) pairs is h = tt
has_page pages (End w n (reply.Value payload) at) pairs is h = tt
has_page pages (End w n (reply.Full spent) at) pairs is h = tt
has_page pages (Begin w n call) pairs is h = tt
has_page pages (Load w a v) pairs is h = tt
has_page pages (Store w a v) pairs is h = tt
has_page pages (Cas w a old new found) pairs is h = tt
has_page pages (Ask w line) pairs is h = tt
has_page pages (Fence w) pairs is h = tt
has_page pages (Evict a) pairs is h = tt
has_page pages Cut pairs is h = tt
has_page pages On pairs is h = tt
has_page pages Ready pairs is h = tt
has_page pages (Effect w n) pairs is h = tt

-- the pairs of that page are read as they are
pub page_again : (pages : Pages) (mark : Mark) (pairs : Pairs) → IsNumbered (length pages) mark → ArePairs pairs → tells_page mark ≡ true → page_in (data_of (pages_with pages mark pairs) mark) ≡ Some pairs
page_again pages (End w n (reply.Page page next) at) pairs is h tells =
    ap (λ (ds : List Data). pairs_in ds []) (listed-items_of (map pair_data (get_or (pages ++ pairs ∷ []) page [])))
    ∙ ap (λ (ps : Pairs). pairs_in (map pair_data ps) []) (ap (λ (ps : Pages). get_or ps page []) (sym (append-nil (pages ++ pairs ∷ []))) ∙ last_page pages pairs [] page is)
    ∙ pairs_again pairs h
page_again pages (End w n reply.Inserted at) pairs is h tells = absurd (cc)
page_again pages (End w n reply.Exists at) pairs is h tells = absurd (cc)
page_again pages (End w n (reply.Deleted payload) at) pairs is h tells = absurd (cc)
page_again pages (End w n (reply.Updated payload) at) pairs is h tells = absurd (cc)
page_again pages (End w n reply.Missing at) pairs is h tells = absurd (cc)
page_again pages (End w n (reply.Value payload) at) pairs is h tells = absurd (cc)
page_again pages (End w n (reply.Full spent) at) pairs is h tells = absurd (cc)
page_again pages (Begin w n call) pairs is h tells = absurd (cc)
page_again pages (Load w a v) pairs is h tells = absurd (cc)
page_again pages (Store w a v) pairs is h tells = absurd (cc)
page_again pages (Cas w a old new found) pairs is h tells = absurd (cc)
page_again pages (Ask w line) pairs is h tells = absurd (cc)
page_again pages (Fence w) pairs is h tells = absurd (cc)
page_again pages (Evict a) pairs is h tells = absurd (cc)
page_again pages Cut pairs is h tells = absurd (cc)
page_again pages On pairs is h tells = absurd (cc)
page_again pages Ready pairs is h tells = absurd (cc)
page_again pages (Effect w n) pairs is h tells = absurd (cc)

module _ (last : ℕ) (fits : last + 1 < 2 ^ 32) (past : List Mark) (pages : Pages) where
  pub next_read : (mark : Mark) (pairs : Pairs) → IsNext (last + 1) past pages mark pairs → read (line_of (pages_with pages mark pairs) mark) ≡ Some (data_of (pages_with pages mark pairs) mark)
  next_read mark pairs h =
      read_again (data_of (pages_with pages mark pairs) mark) 4 (omega arith) (mark_good (pages_with pages mark pairs) (last + 1) (length past) mark fits (omega (arith, h.marks)) h.range (has_page pages mark pairs h.numbered h.told))

  pub next_bytes : (mark : Mark) (pairs : Pairs) → IsNext (last + 1) past pages mark pairs → AreLineBytes (line_of (pages_with pages mark pairs) mark)
  next_bytes mark pairs h =
      good_bytes (data_of (pages_with pages mark pairs) mark) 4 (mark_good (pages_with pages mark pairs) (last + 1) (length past) mark fits (omega (arith, h.marks)) h.range (has_page pages mark pairs h.numbered h.told))

  pub next_mark : (mark : Mark) (pairs : Pairs) → IsNext (last + 1) past pages mark pairs → mark_in last (length past) (length pages) (data_of (pages_with pages mark pairs) mark) ≡ Some mark
  next_mark mark pairs h = mark_again (pages_with pages mark pairs) last (length past) (length pages) mark h.range h.numbered

  pub next_page : (mark : Mark) (pairs : Pairs) → IsNext (last + 1) past pages mark pairs → tells_page mark ≡ true → page_in (data_of (pages_with pages mark pairs) mark) ≡ Some pairs
  next_page mark pairs h tells = page_again pages mark pairs h.numbered h.told tells

  -- one line tells one mark and one page
  pub next_once : (mark mark' : Mark) (pairs pairs' : Pairs) → IsNext (last + 1) past pages mark pairs → IsNext (last + 1) past pages mark' pairs'
      → line_of (pages_with pages mark pairs) mark ≡ line_of (pages_with pages mark' pairs') mark' → (mark ≡ mark') × (pages_with pages mark pairs ≡ pages_with pages mark' pairs')
  next_once mark mark' pairs pairs' h k e =
      let written : Some (data_of (pages_with pages mark pairs) mark) ≡ Some (data_of (pages_with pages mark' pairs') mark') = sym (next_read mark pairs h) ∙ ap read e ∙ next_read mark' pairs' k in
      let object : data_of (pages_with pages mark pairs) mark ≡ data_of (pages_with pages mark' pairs') mark' = cc in
      let told : Some mark ≡ Some mark' = sym (next_mark mark pairs h) ∙ ap (mark_in last (length past) (length pages)) object ∙ next_mark mark' pairs' k in
      let same : mark ≡ mark' = cc in (
        same,
        elim (cases_Bool (tells_page mark)) [
          | inl tells ↦
              let tells' : tells_page mark' ≡ true = ap tells_page (sym same) ∙ tells in
              let told_pairs : Some pairs ≡ Some pairs' = sym (next_page mark pairs h tells) ∙ ap page_in object ∙ next_page mark' pairs' k tells' in
              let same_pairs : pairs ≡ pairs' = cc in
              rw (tells, tells') (ap (λ (ps : Pairs). pages ++ ps ∷ []) same_pairs)
          | inr silent ↦
              let silent' : tells_page mark' ≡ false = ap tells_page (sym same) ∙ silent in
              rw (silent, silent')
        ],
      )

-- a value is that of no other mark than the one that it tells
pub next_told : (last before number : ℕ) (past : List Mark) (pages : Pages) (mark : Mark) (pairs : Pairs) (d : Data) (o : Option Mark) → before ≡ length past → number ≡ length pages
    → IsNext (last + 1) past pages mark pairs → d ≡ data_of (pages_with pages mark pairs) mark → o ≡ mark_in last before number d → o ≡ Some mark
next_told last before number past pages mark pairs d o b n h is found =
    found ∙ ap (λ (k : ℕ). mark_in last k number d) b ∙ ap (λ (k : ℕ). mark_in last (length past) k d) n ∙ ap (mark_in last (length past) (length pages)) is
    ∙ mark_again (pages_with pages mark pairs) last (length past) (length pages) mark h.range h.numbered

-- nor of another page
pub page_told : (last : ℕ) (past : List Mark) (pages : Pages) (mark : Mark) (pairs pairs' : Pairs) (d : Data) → IsNext (last + 1) past pages mark pairs → d ≡ data_of (pages_with pages mark pairs) mark
    → (tells_page mark ≡ true → page_in d ≡ Some pairs') → pages_with pages mark pairs' ≡ pages_with pages mark pairs
page_told last past pages mark pairs pairs' d h is read = elim (cases_Bool (tells_page mark)) [
  | inl tells ↦
      let both : Some pairs' ≡ Some pairs = sym (read tells) ∙ ap page_in is ∙ page_again pages mark pairs h.numbered h.told tells in
      let same : pairs' ≡ pairs = cc in
      rw (tells) (ap (λ (ps : Pairs). pages ++ ps ∷ []) same)
  | inr silent ↦ rw (silent)
]

-- a line of a mark that may come next spells a value
pub next_value : (last : ℕ) (fits : last + 1 < 2 ^ 32) (past : List Mark) (pages : Pages) (mark : Mark) (pairs : Pairs) (line : List ℕ) (d : Data) → IsNext (last + 1) past pages mark pairs
    → line ≡ line_of (pages_with pages mark pairs) mark → read line ≡ Some d → d ≡ data_of (pages_with pages mark pairs) mark
next_value last fits past pages mark pairs line d h is found =
    let e : Some d ≡ Some (data_of (pages_with pages mark pairs) mark) = sym found ∙ ap read is ∙ next_read last fits past pages mark pairs h in cc

pub next_no_value : (last : ℕ) (fits : last + 1 < 2 ^ 32) (past : List Mark) (pages : Pages) (mark : Mark) (pairs : Pairs) (line : List ℕ) → IsNext (last + 1) past pages mark pairs
    → line ≡ line_of (pages_with pages mark pairs) mark → (IsUtf8 line → read line ≡ None) → ⊥
next_no_value last fits past pages mark pairs line h is nothing =
    let utf8 : IsUtf8 line = subst IsUtf8 (sym is) (bytes_utf8 (line_of (pages_with pages mark pairs) mark) (next_bytes last fits past pages mark pairs h)) in
    let e : Some (data_of (pages_with pages mark pairs) mark) ≡ None = sym (next_read last fits past pages mark pairs h) ∙ ap read (sym is) ∙ nothing utf8 in
    absurd (cc)

-- ---- the text of all marks, a mark after another

unfoldable pub text_back : Pages → List Mark → List ℕ
text_back pages [] = []
text_back pages (mark ∷ past) = text_back pages past ++ with_end (line_of pages mark)

abbrev page_part : Mark → Pairs → Pages
page_part mark pairs = cond (tells_page mark) (pairs ∷ []) []

with_part : (pages : Pages) (mark : Mark) (pairs : Pairs) → pages_with pages mark pairs ≡ pages ++ page_part mark pairs
with_part pages mark pairs = elim (cases_Bool (tells_page mark)) [ inl tells ↦ rw (tells) refl | inr silent ↦ rw (silent) (sym (append-nil pages)) ]

-- the line of a mark stays when later pages come
line_stays : (pages : Pages) (mark : Mark) (pairs : Pairs) (later : Pages) → IsNumbered (length pages) mark → data_of (pages_with pages mark pairs ++ later) mark ≡ data_of (pages_with pages mark pairs) mark
line_stays pages (End w n (reply.Page page next) at) pairs later is =
    ap (λ (ps : Pairs). data_of (ps ∷ []) (End w n (reply.Page 0 next) at)) (last_page pages pairs later page is ∙ sym (ap (λ (ps : Pages). get_or ps page []) (sym (append-nil (pages ++ pairs ∷ []))) ∙ last_page pages pairs [] page is))
line_stays pages (End w n reply.Inserted at) pairs later is = refl
line_stays pages (End w n reply.Exists at) pairs later is = refl
line_stays pages (End w n (reply.Deleted payload) at) pairs later is = refl
line_stays pages (End w n (reply.Updated payload) at) pairs later is = refl
line_stays pages (End w n reply.Missing at) pairs later is = refl
line_stays pages (End w n (reply.Value payload) at) pairs later is = refl
line_stays pages (End w n (reply.Full spent) at) pairs later is = refl
line_stays pages (Begin w n call) pairs later is = refl
line_stays pages (Load w a v) pairs later is = refl
line_stays pages (Store w a v) pairs later is = refl
line_stays pages (Cas w a old new found) pairs later is = refl
line_stays pages (Ask w line) pairs later is = refl
line_stays pages (Fence w) pairs later is = refl
line_stays pages (Evict a) pairs later is = refl
line_stays pages Cut pairs later is = refl
line_stays pages On pairs later is = refl
line_stays pages Ready pairs later is = refl
line_stays pages (Effect w n) pairs later is = refl

pub stays : (words : ℕ) (past : List Mark) (pages later : Pages) → AreTold words past pages → text_back (pages ++ later) past ≡ text_back pages past
unfolding text_back
stays words past pages later none = refl
stays words _ _ later (more {past} {pages} {mark} {pairs} told next) =
    let before : text_back (pages_with pages mark pairs ++ later) past ≡ text_back pages past =
    ap (λ (ps : Pages). text_back (ps ++ later) past) (with_part pages mark pairs) ∙ ap (λ (ps : Pages). text_back ps past) (append_assoc pages (page_part mark pairs) later) ∙ stays words past pages (page_part mark pairs ++ later) told in
    let now : text_back (pages_with pages mark pairs) past ≡ text_back pages past = ap (λ (ps : Pages). text_back ps past) (with_part pages mark pairs) ∙ stays words past pages (page_part mark pairs) told in
    ap (λ (t : List ℕ). t ++ with_end (line_of (pages_with pages mark pairs ++ later) mark)) (before ∙ sym now)
    ∙ ap (λ (d : Data). text_back (pages_with pages mark pairs) past ++ with_end (compact_text d)) (line_stays pages mark pairs later next.numbered)

-- one mark more is one line more
pub one_line_more : (words : ℕ) (past : List Mark) (pages : Pages) (mark : Mark) (pairs : Pairs) → AreTold words past pages
    → text_back (pages_with pages mark pairs) (mark ∷ past) ≡ text_back pages past ++ with_end (line_of (pages_with pages mark pairs) mark)
unfolding text_back
one_line_more words past pages mark pairs told =
    ap (λ (t : List ℕ). t ++ with_end (line_of (pages_with pages mark pairs) mark))
    (ap (λ (ps : Pages). text_back ps past) (with_part pages mark pairs) ∙ stays words past pages (page_part mark pairs) told)
