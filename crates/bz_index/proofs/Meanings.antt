-- The End of an answered call in the list that its pass has seen.
use Rattle.std.proofs.Common.{◌≡◌, ◌≢◌, ◌<◌, ℕ, ◌+◌, Bool, true, false, List, [], ◌∷◌, ◌++◌, length, length-append, append_assoc, reverse, refl, sym, ap, ◌∙◌, subst, arith, ◌==◌, eqb-true, Option, Some, None}
use Rattle.std.specs.Prelude.{if◌then◌else◌, option_map, slice_get}
use Rattle.std.proofs.lemmas.List.{reverse-append, length-reverse}
use Rattle.std.proofs.lemmas.Option.{slice_get-get_or}
use Rattle.std.proofs.Math.Seq.{get_or-append_seam}
use borrow.Author.Tests.{eqb-false}
use Rattle.bz_bus.specs.Entries.{entries_of}
use Rattle.bz_bus.specs.declared.TheConstants.{PASSES}
use Rattle.bz_call.specs.Pages.{names_page}
use Rattle.bz_call.specs.declared.calls.Call.{Call}
use Rattle.bz_call.specs.declared.replies.Reply.{Reply}
use Rattle.bz_index.proofs.OpenCalls.{begins_other, owns_below, skip_begin}
use Rattle.bz_index.proofs.Runs.{some_and}
use Rattle.bz_index.specs.Calls.{begin_entry}
use Rattle.bz_index.specs.Entries.{has_page, maker_of, owner_of, marks_in, pages_in, log_of}
use Rattle.bz_index.specs.Meaning.{AnswersAreRight}
use Rattle.bz_index.specs.declared.shared.IndexEntry.{IndexEntry}
use Rattle.bz_mark.specs.Log.{count_page_ends}
use Rattle.bz_mark.specs.declared.marks.Mark.{Mark}
use Rattle.bz_mark.specs.declared.marks.Mark.TheVariants.{Begin, End, Cut, Effect}
use Rattle.bz_sound.specs.Calls.{Open, open_call, with_effect, MayEnd}
use Rattle.bz_sound.specs.Memory.Moments.{EachMark, map_at_start}
use Rattle.bz_sound.specs.Power.Calls.{MayFollow}
use Rattle.bz_sound.specs.Power.Replies.{HasRightReply, IsRightReply}
use Rattle.bz_sound.specs.Replies.{Pages}

-- where an owner's newest entry stands
pub record Stands (w : ℕ) (entry : IndexEntry) (own now : List IndexEntry) : Type 0 where
  pub later : List IndexEntry
  pub before : List IndexEntry
  pub is : now ≡ later ++ entry ∷ before
  pub rest : entries_of owner_of w before ≡ own

stands_by : (b : Bool) (w : ℕ) (entry : IndexEntry) (own : List IndexEntry) (x : IndexEntry) (xs : List IndexEntry)
    → (if b then x ∷ entries_of owner_of w xs else entries_of owner_of w xs) ≡ entry ∷ own → (entries_of owner_of w xs ≡ entry ∷ own → Stands w entry own xs) → Stands w entry own (x ∷ xs)
stands_by true w entry own x xs is more =
    let head : x ≡ entry = cc in
    let tail : entries_of owner_of w xs ≡ own = cc in
    record { later = []; before = xs; is = ap (λ (e : IndexEntry). e ∷ xs) head; rest = tail }
stands_by false w entry own x xs is more =
    let there = more is in
    record { later = x ∷ there.later; before = there.before; is = ap (λ (l : List IndexEntry). x ∷ l) there.is; rest = there.rest }

stands : (w : ℕ) (entry : IndexEntry) (own now : List IndexEntry) → entries_of owner_of w now ≡ entry ∷ own → Stands w entry own now
stands w entry own [] is = absurd cc
stands w entry own (x ∷ xs) is = stands_by (owner_of x == w) w entry own x xs is (stands w entry own xs)

-- it is the owner's
head_owned : (w : ℕ) (entry : IndexEntry) (own now : List IndexEntry) → entries_of owner_of w now ≡ entry ∷ own → owner_of entry ≡ w
head_owned w entry own [] is = absurd cc
head_owned w entry own (x ∷ xs) is = by (owner_of x == w) refl is (head_owned w entry own xs)
  where
    by : (b : Bool) → (owner_of x == w) ≡ b → (if b then x ∷ entries_of owner_of w xs else entries_of owner_of w xs) ≡ entry ∷ own → (entries_of owner_of w xs ≡ entry ∷ own → owner_of entry ≡ w) → owner_of entry ≡ w
    by true mine is later = let head : x ≡ entry = cc in ap owner_of (sym head) ∙ eqb-true (owner_of x) w mine
    by false mine is later = later is

-- what holds of each mark holds of this one
each_of : (P : List Mark → Mark → Type 0) (later : List IndexEntry) (entry : IndexEntry) (before : List IndexEntry) → EachMark P (marks_in (later ++ entry ∷ before)) → P (marks_in before) entry.mark
each_of P [] entry before each = each.0
each_of P (x ∷ later) entry before each = each_of P later entry before each.1

effect_older : (b : Bool) (moment : ℕ) (rest : Option Open) (opened : Open) → (if b then option_map (with_effect moment) rest else rest) ≡ Some opened → (o : Open) × (rest ≡ Some o) × (o.call ≡ opened.call)
effect_older true moment None opened is = absurd cc
effect_older true moment (Some o) opened is = (let same : with_effect moment o ≡ opened = cc in (o, refl, ap (λ (x : Open). x.call) same))
effect_older false moment rest opened is = (opened, is, refl)

-- a call that is open after another's mark was open before
older : (w : ℕ) (mark : Mark) (past : List Mark) (opened : Open) → w < PASSES → maker_of mark ≢ w → open_call w (mark ∷ past) ≡ Some opened → (o : Open) × (open_call w past ≡ Some o) × (o.call ≡ opened.call)
older w (Begin v k call) past opened below ne is = (opened, sym (skip_begin (v == w) w v _ (open_call w past) refl (begins_other w v below ne)) ∙ is, refl)
older w (End v k reply at) past opened below ne is = (opened, sym (skip_begin (v == w) w v None (open_call w past) refl ne) ∙ is, refl)
older w (Effect v k) past opened below ne is = effect_older (v == w) (length past) (open_call w past) opened is
older w Cut past opened below ne is = absurd cc
older w mark past opened below ne is = (opened, is, refl)

begins : (b : Bool) (w : ℕ) (new rest : Option Open) → (w == w) ≡ b → (if b then new else rest) ≡ new
begins true w new rest is = refl
begins false w new rest is = absurd (eqb-false w w is refl)

module _ (w n : ℕ) (below : w < PASSES) (call : Call) (more : List IndexEntry) where
  abbrev IsCall : List IndexEntry → Open → Type 0
  IsCall entries opened = entries_of owner_of w entries ≡ begin_entry w n call ∷ more → open_call w (marks_in entries) ≡ Some opened → opened.call ≡ call

  call_by : (b : Bool) (x : IndexEntry) (entries : List IndexEntry) (opened : Open) → (owner_of x == w) ≡ b → (if b then x ∷ entries_of owner_of w entries else entries_of owner_of w entries) ≡ begin_entry w n call ∷ more
      → open_call w (x.mark ∷ marks_in entries) ≡ Some opened → ((o : Open) → IsCall entries o) → opened.call ≡ call
  call_by true x entries opened mine own is before =
      let head : x ≡ begin_entry w n call = cc in
      let begun : open_call w (Begin w n call ∷ marks_in entries) ≡ Some opened = ap (λ (e : IndexEntry). open_call w (e.mark ∷ marks_in entries)) (sym head) ∙ is in
      let here : Some (record { number = n; call = call; begun = length (marks_in entries); effect = None }) ≡ Some opened = sym (begins (w == w) w _ (open_call w (marks_in entries)) refl) ∙ begun in
      some_call _ opened here
    where
      some_call : (o opened : Open) → Some o ≡ Some opened → opened.call ≡ o.call
      some_call o opened is = let same : opened ≡ o = cc in ap (λ (x : Open). x.call) same
  call_by false x entries opened mine own is before =
      let (o, was, same) = older w x.mark (marks_in entries) opened below (eqb-false (owner_of x) w mine) is in
      sym same ∙ before o own was

  -- the open call is the one that the worker's newest entry began
  call_of : (entries : List IndexEntry) (opened : Open) → IsCall entries opened
  call_of [] opened own is = absurd cc
  call_of (x ∷ entries) opened own is = call_by (owner_of x == w) x entries opened refl own is (call_of entries)

page_joins : (b : Bool) (page : List (List ℕ × List ℕ)) (later before : Pages) → (if b then page ∷ (later ++ before) else later ++ before) ≡ (if b then page ∷ later else later) ++ before
page_joins true page later before = refl
page_joins false page later before = refl

pages-joined : (later before : List IndexEntry) → pages_in (later ++ before) ≡ pages_in later ++ pages_in before
pages-joined [] before = refl
pages-joined (x ∷ later) before = ap (λ (ps : Pages). if has_page x.mark then x.page ∷ ps else ps) (pages-joined later before) ∙ page_joins (has_page x.mark) x.page (pages_in later) (pages_in before)

one_more : (b : Bool) (page : List (List ℕ × List ℕ)) (pages : Pages) (count : ℕ) → length pages ≡ count → length (if b then page ∷ pages else pages) ≡ (if b then count + 1 else count)
one_more true page pages count is = omega arith
one_more false page pages count is = is

pages_counted : (mark : Mark) (page : List (List ℕ × List ℕ)) (entries : List IndexEntry) → length (pages_in entries) ≡ count_page_ends (marks_in entries) → length (pages_in (record { mark = mark; page = page } ∷ entries)) ≡ count_page_ends (mark ∷ marks_in entries)
pages_counted (End w n reply at) page entries is = one_more (names_page reply) page (pages_in entries) _ is
pages_counted mark page entries is = is

length-pages : (entries : List IndexEntry) → length (pages_in entries) ≡ count_page_ends (marks_in entries)
length-pages [] = refl
length-pages (x ∷ entries) = pages_counted x.mark x.page entries (length-pages entries)

get_middle : (first : Pages) (page : List (List ℕ × List ℕ)) (last : Pages) → slice_get (first ++ page ∷ last) (length first) ≡ Some page
get_middle first page last = slice_get-get_or (first ++ page ∷ last) (length first) [] (omega (arith, length-append first (page ∷ last))) ∙ ap Some (get_or-append_seam first page last [])

-- where the page of an End stands among the pages
page_stands : (later : List IndexEntry) (w n : ℕ) (reply : Reply) (moment : ℕ) (page : List (List ℕ × List ℕ)) (before : List IndexEntry) → names_page reply ≡ true
    → slice_get (reverse (pages_in (later ++ record { mark = End w n reply moment; page = page } ∷ before))) (count_page_ends (marks_in before)) ≡ Some page
page_stands later w n reply moment page before named =
    let entry : IndexEntry = record { mark = End w n reply moment; page = page } in
    let here : pages_in (entry ∷ before) ≡ page ∷ pages_in before = rw named refl in
    let all : pages_in (later ++ entry ∷ before) ≡ pages_in later ++ page ∷ pages_in before = pages-joined later (entry ∷ before) ∙ ap (λ (ps : Pages). pages_in later ++ ps) here in
    let turned : reverse (pages_in (later ++ entry ∷ before)) ≡ reverse (pages_in before) ++ page ∷ reverse (pages_in later) =
    ap reverse all ∙ (reverse-append (pages_in later) (page ∷ pages_in before) ∙ (ap (λ (ps : Pages). ps ++ reverse (pages_in later)) (reverse-append (page ∷ []) (pages_in before)) ∙ append_assoc (reverse (pages_in before)) (page ∷ []) (reverse (pages_in later)))) in
    let count : count_page_ends (marks_in before) ≡ length (reverse (pages_in before)) = sym (length-reverse (pages_in before) ∙ length-pages before) in
    subst (λ (ps : Pages). slice_get ps (count_page_ends (marks_in before)) ≡ Some page) (sym turned)
    (subst (λ (k : ℕ). slice_get (reverse (pages_in before) ++ page ∷ reverse (pages_in later)) k ≡ Some page) (sym count) (get_middle (reverse (pages_in before)) page (reverse (pages_in later))))

pub answers_right : AnswersAreRight
answers_right origin w call first now reply page sound has =
    let entry : IndexEntry = record { mark = End w has.number reply has.at; page = has.its_page } in
    let own = entries_of owner_of w first in
    let there = stands w entry (begin_entry w has.number call ∷ own) now has.own in
    let pages : Pages = (log_of origin now).pages in
    let follows = MayFollow origin.at_start (map_at_start origin.config origin.start) in
    let replies = HasRightReply origin.config origin.start pages in
    let ends : MayEnd (marks_in there.before) w has.number = each_of follows there.later entry there.before (subst (λ (l : List IndexEntry). EachMark follows (marks_in l)) there.is sound.once) in
    let right = each_of replies there.later entry there.before (subst (λ (l : List IndexEntry). EachMark replies (marks_in l)) there.is sound.replies) in
    record {
      later = there.later;
      before = there.before;
      is = there.is;
      opened = ends.opened;
      is_open = ends.is_open;
      is_number = ends.number;
      is_call = call_of w has.number (owns_below w (head_owned w (begin_entry w has.number call) own there.before there.rest)) call own there.before ends.opened there.rest ends.is_open;
      right = some_and (λ (opened : Open). IsRightReply origin.config origin.start pages (marks_in there.before) (record { worker = w; opened = opened; reply = reply; at = has.at })) _ _ ends.is_open right;
      numbered = λ named. subst (λ (l : List IndexEntry). slice_get (reverse (pages_in l)) (count_page_ends (marks_in there.before)) ≡ Some has.its_page) (sym there.is) (page_stands there.later w has.number reply has.at has.its_page there.before named);
    }
