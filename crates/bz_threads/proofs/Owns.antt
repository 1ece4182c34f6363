-- What the entries that were added tell of a worker: the calls that it began, and whether one is open.
use Rattle.std.proofs.Common.{◌≡◌, ◌≢◌, ◌<◌, ◌≤◌, ℕ, Bool, true, false, List, [], ◌∷◌, ◌++◌, refl, sym, ap, ◌∙◌, ◌==◌, ◌⊎◌, ⊎_elim, eqb-true, lt-ltb, ltb-true, arith, append_assoc, append-nil, Option, Some, None}
use borrow.Author.Tests.{eqb-false}
use Rattle.std.specs.Prelude.{if◌then◌else◌, is_some, nat_lt, option_map}
use Rattle.std.proofs.lemmas.Bool.Decides.{nat_tests}
use Rattle.std.proofs.lemmas.List.{append_cancel_right}
use Rattle.std.proofs.lemmas.List.Elements.{filter-append}
use Rattle.bz_bus.specs.Entries.{entries_of}
use Rattle.bz_bus.specs.declared.TheConstants.{PASSES}
use Rattle.bz_call.specs.declared.calls.Call.{Call}
use Rattle.bz_index.specs.Calls.{HasCut}
use Rattle.bz_index.specs.Entries.{beginner_of, maker_of, owner_of, marks_in}
use Rattle.bz_index.specs.declared.shared.IndexEntry.{IndexEntry}
use Rattle.bz_mark.specs.declared.marks.Mark.{Mark}
use Rattle.bz_mark.specs.declared.marks.Mark.TheVariants.{Begin, End, Evict, Cut, On, Ready, Effect}
use Rattle.bz_sound.specs.Calls.{Open, open_call, with_effect}
use Rattle.bz_mark.specs.Times.{power_of}
use Rattle.bz_mark.specs.declared.power.Power.{Power}
use Rattle.bz_sched.specs.Together.{IsOfCall, AreOfCalls, begun_in}
use Rattle.bz_threads.specs.Made.{own_of}

abbrev pub begins : Mark → Bool
begins (Begin w n call) = true
begins mark = false

-- the newest entry is a Begin
abbrev pub ends_open : List IndexEntry → Bool
ends_open [] = false
ends_open (entry ∷ entries) = begins entry.mark

pub marks-append : (xs ys : List IndexEntry) → marks_in (xs ++ ys) ≡ marks_in xs ++ marks_in ys
marks-append [] ys = refl
marks-append (x ∷ xs) ys = ap (λ (marks : List Mark). x.mark ∷ marks) (marks-append xs ys)

-- which worker's a Begin is
begins_own : (w : ℕ) → w < PASSES → beginner_of w ≡ w
begins_own w below = ap (λ (b : Bool). if b then w else 0) (lt-ltb w PASSES below)

begins_other : (w v : ℕ) → w < PASSES → beginner_of v ≢ w → v ≢ w
begins_other w v below ne same = ne (ap beginner_of same ∙ begins_own w below)

not_begins : (w v : ℕ) → w < PASSES → (beginner_of v == w) ≡ false → (v == w) ≡ false
not_begins w v below is = let ne : v ≢ w = begins_other w v below (eqb-false (beginner_of v) w is) in grind (arith, nat_tests)

begins_one : (w v : ℕ) → 0 < w → (beginner_of v == w) ≡ true → (v == w) ≡ true
begins_one w v some is = by (nat_lt v PASSES) (eqb-true (beginner_of v) w is)
  where
    by : (b : Bool) → (if b then v else 0) ≡ w → (v == w) ≡ true
    by true same = grind (arith, nat_tests)
    by false same = absurd (omega (arith, same, some))

begun_one : (w : ℕ) (mark : Mark) (page : List (List ℕ × List ℕ)) (b : Bool) (rest own : List IndexEntry) → w < PASSES → (maker_of mark == w) ≡ b → begun_in w (marks_in rest) ≡ begun_in w (marks_in own)
    → begun_in w (mark ∷ marks_in rest) ≡ begun_in w (marks_in (if b then record { mark = mark; page = page } ∷ own else own))
begun_one w (Begin v n call) page true rest own below is e = ap (λ (calls : List (ℕ × Call)). calls ++ (if v == w then (v, call) ∷ [] else [])) e
begun_one w (Begin v n call) page false rest own below is e = rw (not_begins w v below is) (append-nil (begun_in w (marks_in rest)) ∙ e)
begun_one w mark page true rest own below is e = e
begun_one w mark page false rest own below is e = e

-- the calls that a worker begins are told by its own entries
pub begun_own : (w : ℕ) (added : List IndexEntry) → w < PASSES → begun_in w (marks_in added) ≡ begun_in w (marks_in (own_of w added))
begun_own w [] below = refl
begun_own w (entry ∷ added) below = begun_one w entry.mark entry.page (maker_of entry.mark == w) added (own_of w added) below refl (begun_own w added below)

pub begun-append : (w : ℕ) (xs ys : List Mark) → begun_in w (xs ++ ys) ≡ begun_in w ys ++ begun_in w xs
begun-append w [] ys = sym (append-nil (begun_in w ys))
begun-append w (Begin v n call ∷ xs) ys =
    ap (λ (calls : List (ℕ × Call)). calls ++ (if v == w then (v, call) ∷ [] else [])) (begun-append w xs ys) ∙ append_assoc (begun_in w ys) (begun_in w xs) (if v == w then (v, call) ∷ [] else [])
begun-append w (mark ∷ xs) ys = begun-append w xs ys

same_some : (b : Bool) (moment : ℕ) (opened : Option Open) → is_some (if b then option_map (with_effect moment) opened else opened) ≡ is_some opened
same_some true moment None = refl
same_some true moment (Some opened) = refl
same_some false moment opened = refl

nobodys : {A : Type 0} (w : ℕ) → w < PASSES → (PASSES == w) ≡ true → A
nobodys w below is = absurd (omega (arith, eqb-true PASSES w is))

open_one : (w : ℕ) (mark : Mark) (page : List (List ℕ × List ℕ)) (b : Bool) (rest : List Mark) (own : List IndexEntry) → 0 < w → w < PASSES → IsOfCall mark → (maker_of mark == w) ≡ b → is_some (open_call w rest) ≡ ends_open own
    → is_some (open_call w (mark ∷ rest)) ≡ ends_open (if b then record { mark = mark; page = page } ∷ own else own)
open_one w (Begin v n call) page true rest own some below of is e = rw (begins_one w v some is) refl
open_one w (Begin v n call) page false rest own some below of is e = rw (not_begins w v below is) e
open_one w (End v n reply at) page true rest own some below of is e = rw is refl
open_one w (End v n reply at) page false rest own some below of is e = rw is e
open_one w (Effect v n) page true rest own some below of is e = nobodys w below is
open_one w (Effect v n) page false rest own some below of is e = same_some (v == w) _ (open_call w rest) ∙ e
open_one w (Evict a) page b rest own some below of is e = absurd of
open_one w Cut page b rest own some below of is e = absurd of
open_one w On page b rest own some below of is e = absurd of
open_one w Ready page b rest own some below of is e = absurd of
open_one w mark page true rest own some below of is e = nobodys w below is
open_one w mark page false rest own some below of is e = e

-- a call is open where none was and the newest of the worker's own entries is a Begin
pub open_own : (w : ℕ) (added : List IndexEntry) (past : List Mark) → 0 < w → w < PASSES → AreOfCalls (marks_in added) → open_call w past ≡ None → is_some (open_call w (marks_in added ++ past)) ≡ ends_open (own_of w added)
open_own w [] past some below of none = rw none refl
open_own w (entry ∷ added) past some below of none =
    open_one w entry.mark entry.page (maker_of entry.mark == w) (marks_in added ++ past) (own_of w added) some below of.0 refl (open_own w added past some below of.1 none)

quiet_one : (mark : Mark) (page : List (List ℕ × List ℕ)) (b : Bool) (own rest : List IndexEntry) → (maker_of mark == 0) ≡ b → (if b then record { mark = mark; page = page } ∷ own else own) ≡ []
    → (own ≡ [] → AreOfCalls (marks_in rest)) → IsOfCall mark × AreOfCalls (marks_in rest)
quiet_one mark page true own rest is none later = absurd (cc none)
quiet_one (Evict a) page false own rest is none later = absurd (cc is)
quiet_one Cut page false own rest is none later = absurd (cc is)
quiet_one On page false own rest is none later = absurd (cc is)
quiet_one Ready page false own rest is none later = absurd (cc is)
quiet_one mark page false own rest is none later = (tt, later none)

-- without an entry of the first pass all marks are those of calls
pub calls_quiet : (added : List IndexEntry) → entries_of owner_of 0 added ≡ [] → AreOfCalls (marks_in added)
calls_quiet [] none = tt
calls_quiet (entry ∷ added) none = quiet_one entry.mark entry.page (maker_of entry.mark == 0) (entries_of owner_of 0 added) added refl none (calls_quiet added)

-- and none of them is the begin of a call of a worker that has no pass
begin_by : (w v : ℕ) (b : Bool) (call : Call) → (beginner_of v == 0) ≡ b → (w ≡ 0) ⊎ (PASSES ≤ w) → (v == w) ≡ true → b ≡ false → ⊥
begin_by w v b call is none same other = by (nat_lt v PASSES) refl (λ e. eqb-false (beginner_of v) 0 (is ∙ other) e)
  where
    alike : v ≡ w
    alike = eqb-true v w same

    by : (c : Bool) → nat_lt v PASSES ≡ c → ((if c then v else 0) ≢ 0) → ⊥
    by true below ne = ⊎_elim (λ zeroth. ne (alike ∙ zeroth)) (λ beyond. let few : v < PASSES = ltb-true v PASSES below in absurd (omega (arith, alike, beyond, few))) none
    by false beyond ne = ne refl

stranger_one : (w : ℕ) (mark : Mark) (page : List (List ℕ × List ℕ)) (b : Bool) (own rest : List IndexEntry) → (w ≡ 0) ⊎ (PASSES ≤ w) → (maker_of mark == 0) ≡ b → (if b then record { mark = mark; page = page } ∷ own else own) ≡ []
    → (own ≡ [] → begun_in w (marks_in rest) ≡ []) → begun_in w (mark ∷ marks_in rest) ≡ []
stranger_one w mark page true own rest none is empty later = absurd (cc empty)
stranger_one w (Begin v n call) page false own rest none is empty later = by (v == w) refl
  where
    by : (c : Bool) → (v == w) ≡ c → begun_in w (marks_in rest) ++ (if c then (v, call) ∷ [] else []) ≡ []
    by true same = absurd (begin_by w v false call is none same refl)
    by false other = append-nil (begun_in w (marks_in rest)) ∙ later empty
stranger_one w mark page false own rest none is empty later = later empty

pub none_begun : (w : ℕ) (added : List IndexEntry) → (w ≡ 0) ⊎ (PASSES ≤ w) → entries_of owner_of 0 added ≡ [] → begun_in w (marks_in added) ≡ []
none_begun w [] none empty = refl
none_begun w (entry ∷ added) none empty = stranger_one w entry.mark entry.page (maker_of entry.mark == 0) (entries_of owner_of 0 added) added none refl empty (none_begun w added none)

-- they leave the power, and cut it never
pub power_quiet : (at_start : Power) (marks past : List Mark) → AreOfCalls marks → power_of at_start (marks ++ past) ≡ power_of at_start past
power_quiet at_start [] past of = refl
power_quiet at_start (Cut ∷ marks) past of = absurd of.0
power_quiet at_start (On ∷ marks) past of = absurd of.0
power_quiet at_start (Ready ∷ marks) past of = absurd of.0
power_quiet at_start (mark ∷ marks) past of = power_quiet at_start marks past of.1

pub cut_quiet : (marks : List Mark) → AreOfCalls marks → HasCut marks → ⊥
cut_quiet [] of cut = cut
cut_quiet (Cut ∷ marks) of cut = of.0
cut_quiet (mark ∷ marks) of cut = cut_quiet marks of.1 cut

-- what was added of a worker's own
pub own_added : (w : ℕ) (added first now own : List IndexEntry) → now ≡ added ++ first → own_of w now ≡ own ++ own_of w first → own_of w added ≡ own
own_added w added first now own is e = append_cancel_right (own_of w added) own (own_of w first) (sym (filter-append (λ (entry : IndexEntry). owner_of entry == w) added first) ∙ ap (own_of w) (sym is) ∙ e)
