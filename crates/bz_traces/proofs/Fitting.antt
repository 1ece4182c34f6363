-- A journal has lines exactly where its parts fit.
use Rattle.std.proofs.Common.{◌≡◌, ◌↔◌, ◌≤◌, ◌+◌, cond, ℕ, false, List, [], ◌∷◌, ◌++◌, length, refl, sym, ap, ◌∙◌, subst, inl, inr, arith, length-append}
use Rattle.std.specs.List.{AllByRecursion}
use Rattle.std.proofs.lemmas.Bool.{cases_Bool}
use Rattle.bz_layout.specs.Addresses.{words_of}
use Rattle.bz_layout.specs.declared.config.Config.{Config}
use Rattle.bz_layout.specs.declared.limits.TheConstants.{MAX_CALLS, MAX_PAGES}
use Rattle.bz_mark.specs.declared.marks.Mark.{Mark}
use Rattle.bz_mark.specs.declared.marks.Mark.TheVariants.{Begin, End, Load, Store, Cas, Ask, Fence, Evict, Cut, On, Ready, Effect}
use Rattle.bz_mark.specs.Log.{Log, count_begins, count_ends, count_page_ends}
use Rattle.bz_lines.specs.Ranges.{IsInRange, IsNumbered, ArePairs, tells_page}
use Rattle.bz_traces.specs.Fitting.{AreInRange, AreNumbered, AreFew, Fits}
use Rattle.bz_traces.specs.Journals.{pages_with, HasCallRoom, IsNext, AreTold, none, more, HasLines}
use Rattle.bz_traces.proofs.Unique.{Pages, Pairs}

-- one page more where the mark tells one
pages_count : (mark : Mark) (past : List Mark) → count_page_ends (mark ∷ past) ≡ cond (tells_page mark) (count_page_ends past + 1) (count_page_ends past)
pages_count (Begin w n call) past = refl
pages_count (End w n reply at) past = refl
pages_count (Load w a v) past = refl
pages_count (Store w a v) past = refl
pages_count (Cas w a old new found) past = refl
pages_count (Ask w line) past = refl
pages_count (Fence w) past = refl
pages_count (Evict a) past = refl
pages_count Cut past = refl
pages_count On past = refl
pages_count Ready past = refl
pages_count (Effect w n) past = refl

-- the counts of the calls with one mark more
record CallsMore (past : List Mark) (mark : Mark) : Type 0 where
  pub begins : count_begins past ≤ count_begins (mark ∷ past)
  pub ends : count_ends past ≤ count_ends (mark ∷ past)
  pub room : count_begins (mark ∷ past) ≤ MAX_CALLS → count_ends (mark ∷ past) ≤ MAX_CALLS → HasCallRoom past mark

calls_more : (past : List Mark) (mark : Mark) → CallsMore past mark
calls_more past (Begin w n call) = record { begins = omega arith; ends = omega arith; room = λ b e. omega (arith, b) }
calls_more past (End w n reply at) = record { begins = omega arith; ends = omega arith; room = λ b e. omega (arith, e) }
calls_more past (Load w a v) = record { begins = omega arith; ends = omega arith; room = λ b e. tt }
calls_more past (Store w a v) = record { begins = omega arith; ends = omega arith; room = λ b e. tt }
calls_more past (Cas w a old new found) = record { begins = omega arith; ends = omega arith; room = λ b e. tt }
calls_more past (Ask w line) = record { begins = omega arith; ends = omega arith; room = λ b e. tt }
calls_more past (Fence w) = record { begins = omega arith; ends = omega arith; room = λ b e. tt }
calls_more past (Evict a) = record { begins = omega arith; ends = omega arith; room = λ b e. tt }
calls_more past Cut = record { begins = omega arith; ends = omega arith; room = λ b e. tt }
calls_more past On = record { begins = omega arith; ends = omega arith; room = λ b e. tt }
calls_more past Ready = record { begins = omega arith; ends = omega arith; room = λ b e. tt }
calls_more past (Effect w n) = record { begins = omega arith; ends = omega arith; room = λ b e. tt }

-- the newest of some pages, and those before it
record Last (pages : Pages) (k : ℕ) : Type 0 where
  pub front : Pages
  pub newest : Pairs
  pub whole : front ++ newest ∷ [] ≡ pages
  pub long : length front ≡ k

last : (pages : Pages) (k : ℕ) → length pages ≡ k + 1 → Last pages k
last [] k long = absurd (omega (arith, long))
last (page ∷ []) k long = record { front = []; newest = page; whole = refl; long = omega (arith, long) }
last (page ∷ next ∷ pages) k long =
    let rest = last (next ∷ pages) (length pages) (omega arith) in
    record { front = page ∷ rest.front; newest = rest.newest; whole = ap (λ (ps : Pages). page ∷ ps) rest.whole; long = omega (arith, long, rest.long) }

-- and each of them
told_front : (front : Pages) (newest : Pairs) → AllByRecursion ArePairs (front ++ newest ∷ []) → AllByRecursion ArePairs front × ArePairs newest
told_front [] newest h = (tt, h.0)
told_front (page ∷ front) newest h = let rest = told_front front newest h.1 in ((h.0, rest.0), rest.1)

few_before : (past : List Mark) (mark : Mark) (pages front : Pages) → length front ≤ length pages → AreFew (mark ∷ past) pages → AreFew past front
few_before past mark pages front fewer few =
    let calls = calls_more past mark in
    record {
      marks = omega (arith, few.marks);
      begins = omega (arith, few.begins, calls.begins);
      ends = omega (arith, few.ends, calls.ends);
      lists = omega (arith, few.lists, fewer);
    }

-- a mark that tells no page may come next
next_silent : (words : ℕ) (past : List Mark) (mark : Mark) (pages : Pages) → tells_page mark ≡ false → IsInRange words (length past) mark → IsNumbered (count_page_ends past) mark → length pages ≡ count_page_ends past → AreFew (mark ∷ past) pages
    → IsNext words past pages mark []
next_silent words past mark pages silent range numbered long few = record {
  marks = omega (arith, few.marks);
  calls = (calls_more past mark).room few.begins few.ends;
  page = λ tells. absurd (cc);
  range = range;
  numbered = subst (λ (k : ℕ). IsNumbered k mark) (sym long) numbered;
  told = record { few = omega arith; each = tt };
}

-- and so may one that tells a page
next_page : (words : ℕ) (past : List Mark) (mark : Mark) (pages front : Pages) (newest : Pairs) → IsInRange words (length past) mark → IsNumbered (count_page_ends past) mark → length front ≡ count_page_ends past → length pages ≡ length front + 1
    → ArePairs newest → AreFew (mark ∷ past) pages → IsNext words past front mark newest
next_page words past mark pages front newest range numbered long longer told few = record {
  marks = omega (arith, few.marks);
  calls = (calls_more past mark).room few.begins few.ends;
  page = λ tells. omega (arith, few.lists, longer);
  range = range;
  numbered = subst (λ (k : ℕ). IsNumbered k mark) (sym long) numbered;
  told = told;
}

told : (words : ℕ) (past : List Mark) (pages : Pages) → AreInRange words past → AreNumbered past → length pages ≡ count_page_ends past → AllByRecursion ArePairs pages → AreFew past pages → AreTold words past pages
told words [] [] range numbered long each few = none
told words [] (page ∷ pages) range numbered long each few = absurd (omega (arith, long))
told words (mark ∷ past) pages range numbered long each few = elim (cases_Bool (tells_page mark)) [
  | inl tells ↦
      let counted : length pages ≡ count_page_ends past + 1 = long ∙ pages_count mark past ∙ ap (λ b. cond b (count_page_ends past + 1) (count_page_ends past)) tells in
      let it = last pages (count_page_ends past) counted in
      let parts = told_front it.front it.newest (subst (AllByRecursion ArePairs) (sym it.whole) each) in
      let before = told words past it.front range.1 numbered.1 it.long parts.0 (few_before past mark pages it.front (omega (arith, counted, it.long)) few) in
      let next = next_page words past mark pages it.front it.newest range.0 numbered.0 it.long (omega (arith, counted, it.long)) parts.1 few in
      subst (AreTold words (mark ∷ past)) (ap (λ b. cond b (it.front ++ it.newest ∷ []) it.front) tells ∙ it.whole) (more before next)
  | inr silent ↦
      let counted : length pages ≡ count_page_ends past = long ∙ pages_count mark past ∙ ap (λ b. cond b (count_page_ends past + 1) (count_page_ends past)) silent in
      let before = told words past pages range.1 numbered.1 counted each (few_before past mark pages pages (omega arith) few) in
      let next = next_silent words past mark pages silent range.0 numbered.0 counted few in
      subst (AreTold words (mark ∷ past)) (ap (λ b. cond b (pages ++ [] ∷ []) pages) silent) (more before next)
]

-- ---- and nothing else is asked of a journal

calls_few : (past : List Mark) (mark : Mark) → HasCallRoom past mark → count_begins past ≤ MAX_CALLS → count_ends past ≤ MAX_CALLS → (count_begins (mark ∷ past) ≤ MAX_CALLS) × (count_ends (mark ∷ past) ≤ MAX_CALLS)
calls_few past (Begin w n call) room b e = (omega (arith, room), e)
calls_few past (End w n reply at) room b e = (b, omega (arith, room))
calls_few past (Load w a v) room b e = (b, e)
calls_few past (Store w a v) room b e = (b, e)
calls_few past (Cas w a old new found) room b e = (b, e)
calls_few past (Ask w line) room b e = (b, e)
calls_few past (Fence w) room b e = (b, e)
calls_few past (Evict a) room b e = (b, e)
calls_few past Cut room b e = (b, e)
calls_few past On room b e = (b, e)
calls_few past Ready room b e = (b, e)
calls_few past (Effect w n) room b e = (b, e)

told_all : (front : Pages) (newest : Pairs) → AllByRecursion ArePairs front → ArePairs newest → AllByRecursion ArePairs (front ++ newest ∷ [])
told_all [] newest h k = (k, tt)
told_all (page ∷ front) newest h k = (h.0, told_all front newest h.1 k)

-- the pages with that of a mark
record PagesMore (past : List Mark) (mark : Mark) (pages : Pages) : Type 0 where
  pub counted : length pages ≡ count_page_ends (mark ∷ past)
  pub told : AllByRecursion ArePairs pages
  pub few : length pages ≤ MAX_PAGES

pages_more : (words : ℕ) (past : List Mark) (mark : Mark) (pages : Pages) (pairs : Pairs) → IsNext words past pages mark pairs → length pages ≡ count_page_ends past → AllByRecursion ArePairs pages → length pages ≤ MAX_PAGES → PagesMore past mark (pages_with pages mark pairs)
pages_more words past mark pages pairs next long each few = elim (cases_Bool (tells_page mark)) [
  | inl tells ↦
      let more_ends : count_page_ends (mark ∷ past) ≡ count_page_ends past + 1 = pages_count mark past ∙ ap (λ b. cond b (count_page_ends past + 1) (count_page_ends past)) tells in
      let same : pages ++ pairs ∷ [] ≡ pages_with pages mark pairs = sym (ap (λ b. cond b (pages ++ pairs ∷ []) pages) tells) in
      subst (PagesMore past mark) same (record {
        counted = omega (arith, length-append pages (pairs ∷ []), long, more_ends);
        told = told_all pages pairs each next.told;
        few = omega (arith, length-append pages (pairs ∷ []), next.page tells);
      })
  | inr silent ↦
      let as_many : count_page_ends (mark ∷ past) ≡ count_page_ends past = pages_count mark past ∙ ap (λ b. cond b (count_page_ends past + 1) (count_page_ends past)) silent in
      let same : pages ≡ pages_with pages mark pairs = sym (ap (λ b. cond b (pages ++ pairs ∷ []) pages) silent) in
      subst (PagesMore past mark) same (record { counted = long ∙ sym as_many; told = each; few = few })
]

-- what holds of marks that may stand one behind the other
record Parts (words : ℕ) (past : List Mark) (lists : Pages) : Type 0 where
  pub range : AreInRange words past
  pub numbered : AreNumbered past
  pub pages : length lists ≡ count_page_ends past
  pub told : AllByRecursion ArePairs lists
  pub few : AreFew past lists

parts : (words : ℕ) (past : List Mark) (pages : Pages) → AreTold words past pages → Parts words past pages
parts words _ _ none = record {
  range = tt;
  numbered = tt;
  pages = refl;
  told = tt;
  few = record { marks = omega arith; begins = omega arith; ends = omega arith; lists = omega arith };
}
parts words _ _ (more {past} {pages} {mark} {pairs} told next) =
    let before = parts words past pages told in
    let after = pages_more words past mark pages pairs next before.pages before.told before.few.lists in
    let calls = calls_few past mark next.calls before.few.begins before.few.ends in
    record {
      range = (next.range, before.range);
      numbered = (subst (λ (k : ℕ). IsNumbered k mark) before.pages next.numbered, before.numbered);
      pages = after.counted;
      told = after.told;
      few = record { marks = omega (arith, next.marks); begins = calls.0; ends = calls.1; lists = after.few };
    }

-- a journal has lines exactly where its parts fit
pub fitting_have_lines : (c : Config) (log : Log) → Fits c log ↔ HasLines c log
fitting_have_lines c log = (
  λ h. record { start = h.start; marks = told (words_of c) log.past log.pages h.range h.numbered h.pages h.told h.few },
  λ h.
      let it = parts (words_of c) log.past log.pages h.marks in
      record { start = h.start; range = it.range; numbered = it.numbered; pages = it.pages; told = it.told; few = it.few },
)
