-- The entries tell the journal.
use Rattle.std.proofs.Common.{◌≡◌, ℕ, suc, ◌+◌, Bool, true, false, List, [], ◌∷◌, ◌++◌, length, drop, get_or, reverse, refl, sym, ap, ◌∙◌, subst, arith, append-nil}
use Rattle.std.specs.Prelude.{if◌then◌else◌}
use Rattle.std.proofs.lemmas.List.{reverse-reverse, reverse-append, length-reverse}
use Rattle.bz_index.specs.Entries.{has_page, told, entries_in, origin_of, marks_in, pages_in, log_of}
use Rattle.bz_index.specs.Worlds.{IsSoundList, IsWorldOf}
use Rattle.bz_index.specs.declared.shared.Origin.{Origin}
use Rattle.bz_index.specs.declared.shared.IndexEntry.{IndexEntry}
use Rattle.bz_mark.specs.Log.{Log, count_page_ends}
use Rattle.bz_mark.specs.declared.marks.Mark.{Mark}
use Rattle.bz_mark.specs.declared.marks.Mark.TheVariants.{End}
use Rattle.bz_sound.specs.Power.Sound.{IsSound}
use Rattle.bz_sound.specs.Replies.{Pages}
use Rattle.bz_world.specs.WorldView.{WorldView}

pub marks-told : (past : List Mark) (pages : Pages) → marks_in (told past pages) ≡ past
marks-told [] pages = refl
marks-told (mark ∷ past) pages = ap (λ (marks : List Mark). mark ∷ marks) (marks-told past (if has_page mark then drop 1 pages else pages))

pub length-marks : (entries : List IndexEntry) → length (marks_in entries) ≡ length entries
length-marks [] = refl
length-marks (entry ∷ entries) = ap suc (length-marks entries)

-- there is an entry for each mark
pub length-told : (past : List Mark) (pages : Pages) → length (told past pages) ≡ length past
length-told past pages = sym (length-marks (told past pages)) ∙ ap length (marks-told past pages)

count_next : (mark : Mark) (past : List Mark) → count_page_ends (mark ∷ past) ≡ (if has_page mark then count_page_ends past + 1 else count_page_ends past)
count_next (End w n reply at) past = refl
count_next mark past = refl

one_page : (b : Bool) (past : List Mark) (pages : Pages) → length pages ≡ (if b then count_page_ends past + 1 else count_page_ends past)
    → ((ps : Pages) → length ps ≡ count_page_ends past → pages_in (told past ps) ≡ ps)
    → (if b then (if b then get_or pages 0 [] else []) ∷ pages_in (told past (if b then drop 1 pages else pages)) else pages_in (told past (if b then drop 1 pages else pages))) ≡ pages
one_page true past [] is rest = absurd (omega arith)
one_page true past (page ∷ pages) is rest = ap (λ (ps : Pages). page ∷ ps) (rest pages (omega arith))
one_page false past pages is rest = rest pages is

pub pages-told : (past : List Mark) (pages : Pages) → length pages ≡ count_page_ends past → pages_in (told past pages) ≡ pages
pages-told [] [] is = refl
pages-told [] (page ∷ pages) is = absurd (omega arith)
pages-told (mark ∷ past) pages is = one_page (has_page mark) past pages (is ∙ count_next mark past) (pages-told past)

same_log : (log : Log) (past : List Mark) (pages : Pages) → past ≡ log.past → pages ≡ log.pages → record log { past = past; pages = pages } ≡ log
same_log log past pages e f = λ i. record log { past = e i; pages = f i }

-- what the entries of a world tell is its journal
pub log-told : (origin : Origin) (entries : List IndexEntry) (lab : WorldView) → IsWorldOf origin entries lab → log_of origin entries ≡ lab.log
log-told origin entries lab is =
    let log : Log = lab.log in
    let pages : pages_in (entries_in log) ≡ reverse log.pages = pages-told log.past (reverse log.pages) (length-reverse log.pages ∙ is.sound.pages) in
    let same : log_of (origin_of lab) (entries_in log) ≡ log = same_log log _ _ (marks-told log.past (reverse log.pages)) (ap reverse pages ∙ reverse-reverse log.pages) in
    subst (λ (o : Origin). log_of o entries ≡ log) is.stays (subst (λ (es : List IndexEntry). log_of (origin_of lab) es ≡ log) is.told same)

-- so they are a sound journal
pub list_sound : (origin : Origin) (entries : List IndexEntry) (lab : WorldView) → IsWorldOf origin entries lab → IsSoundList origin entries
list_sound origin entries lab is =
    subst (λ (log : Log). IsSound origin.config origin.at_start log) (sym (log-told origin entries lab is))
    (subst (λ (o : Origin). IsSound o.config o.at_start lab.log) is.stays is.sound)

-- a mark without a page is one entry more
pub told-quiet : (mark : Mark) (past : List Mark) (pages : Pages) → has_page mark ≡ false → told (mark ∷ past) pages ≡ record { mark = mark; page = [] } ∷ told past pages
told-quiet mark past pages quiet = rw quiet refl

-- what an End adds to the pages
pub record Paged (mark : Mark) (old added : Pages) (past : List Mark) : Type 0 where
  pub page : List (List ℕ × List ℕ)
  pub is : told (mark ∷ past) (reverse (old ++ added)) ≡ record { mark = mark; page = page } ∷ told past (reverse old)
  pub one : has_page mark ≡ true → added ≡ page ∷ []

paged_by : (b : Bool) (mark : Mark) (old added : Pages) (past : List Mark) → has_page mark ≡ b → length added ≡ (if b then 1 else 0) → Paged mark old added past
paged_by true mark old [] past b is = absurd (omega arith)
paged_by true mark old (page ∷ []) past b is = record {
  page = page;
  is = rw b (rw (reverse-append old (page ∷ [])) refl);
  one = λ _. refl;
}
paged_by true mark old (page ∷ more ∷ rest) past b is = absurd (omega arith)
paged_by false mark old [] past b is = record {
  page = [];
  is = rw b (rw (append-nil old) refl);
  one = λ yes. absurd cc;
}
paged_by false mark old (page ∷ pages) past b is = absurd (omega arith)

only_added : (b : Bool) (before added : ℕ) → (if b then before + 1 else before) ≡ before + added → added ≡ (if b then 1 else 0)
only_added true before added is = omega arith
only_added false before added is = omega arith

pub paged : (mark : Mark) (old added : Pages) (past : List Mark) → count_page_ends (mark ∷ past) ≡ count_page_ends past + length added → Paged mark old added past
paged mark old added past is = paged_by (has_page mark) mark old added past refl (only_added (has_page mark) (count_page_ends past) (length added) (sym (count_next mark past) ∙ is))
