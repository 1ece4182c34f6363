-- A call that begins while no other is open, and steps alone, meets no limit.
use Rattle.std.proofs.Common.{◌≡◌, ◌≢◌, ◌⊎◌, ℕ, zero, suc, ◌+◌, ◌-◌, ◌*◌, ◌≤◌, ◌==◌, ◌&&◌, if◌then◌else◌, Bool, true, false, List, [], ◌∷◌, length, refl, sym, ap, subst, ◌∙◌, arith, inl, inr, Option, Some, None, is_some, is_none}
use Rattle.std.specs.Prelude.{option_map}
use Rattle.std.proofs.lemmas.Bool.{cases_eq, true≢false}
use Rattle.std.proofs.lemmas.Bool.Decides.{nat_tests}
use Rattle.bz_swap_acts.specs.declared.acted.Act.{Act}
use Rattle.bz_swap_acts.specs.declared.acted.Act.TheVariants as act
use Rattle.bz_call.specs.Pages.{is_page}
use Rattle.bz_call.specs.declared.calls.Call.{Call}
use Rattle.bz_layout.specs.declared.config.Config.{Config}
use Rattle.bz_call.specs.declared.replies.Reply.{Reply}
use Rattle.bz_call.specs.declared.replies.Reply.TheVariants.{Full}
use Rattle.bz_call.specs.declared.replies.Spent.{Spent}
use Rattle.bz_call.specs.declared.replies.Spent.TheVariants.{Nodes, Swaps, Height}
use Rattle.bz_layout.specs.declared.thresholds.TheConstants.{MARKS_PER_CALL, SLOTS_PER_CALL, SWAPS_PER_CALL}
use Rattle.bz_mark.specs.Log.{Log, count_begins, count_page_calls}
use Rattle.bz_mark.specs.declared.marks.Mark.{Mark}
use Rattle.bz_mark.specs.declared.marks.Mark.TheVariants as mark
use Rattle.bz_sound.specs.Calls.{Open, open_call}
use Rattle.bz_world.specs.WorldView.{WorldView, Supply, is_short, mark_of, stepper, is_stepper, before_run, are_closed, begins_solitary, run_marks, deadline, HadFew, EndsFullOfLittle, IsStruck, KeepsSupply, RunsWhole, Steps, after_begin}
use Rattle.bz_world.specs.declared.answers.Applied.{Applied}
use Rattle.bz_world.specs.declared.answers.Applied.TheVariants as applied
use Rattle.bz_world.specs.declared.answers.Begun.TheVariants.{Begun}
use Rattle.bz_world.specs.declared.answers.LimitKind.{LimitKind}
use Rattle.bz_world.specs.declared.answers.LimitKind.TheVariants as which
use Rattle.bz_sched.specs.Enough.{count_pages, count_wanting, is_wanting, AreClosed, Bounds, Ration, KeepsRationIn, SupplyLastsIn, HasRoomFor, AwaitsCalls, IsInCall, GoesOnAlone, IsBetweenCalls, HasEnough, HasSupply, AreServed, AreSupplied}
use Rattle.bz_sched.specs.Fuses.{lets, burnt}
use Rattle.bz_sched.specs.Points.{Point}
use Rattle.bz_sched.specs.Queued.{Queued, calls_of, without_first, is_busy_by}
use Rattle.bz_sched.specs.Runs.{point_with, IsAtLimit}
use Rattle.bz_sched.specs.TurnsInPart.{IsPageNext, StopsBy}
use Rattle.bz_sched.specs.declared.turn.Stop.TheVariants as stop
use Rattle.bz_sched.proofs.BeginLemmas.{begun_is_open}
use Rattle.bz_sched.proofs.ReadyLemmas.{changes_no}

-- the call that is taken out is one fewer, and a page fewer if it asks for one
abbrev pub with_page : Call → ℕ → ℕ
with_page call n = if is_page call then n + 1 else n

record IsTakenOut (call : Call) (calls left : List (ℕ × Call)) : Type 0 where
  fewer : length left + 1 ≡ length calls
  pages : with_page call (count_pages left) ≡ count_pages calls

head-is : (w : ℕ) (call : Call) (x : ℕ × Call) (xs rest : List (ℕ × Call)) → x ∷ xs ≡ (w, call) ∷ rest → x.1 ≡ call
head-is w call x xs rest e = let first : x ≡ (w, call) = cc e in ap (λ (z : ℕ × Call). z.1) first

with-both : (call other : Call) (m n : ℕ) → with_page call m ≡ n → with_page call (with_page other m) ≡ with_page other n
with-both call other m n e = by (is_page call) (is_page other) e
  where
    by : (a b : Bool) → (if a then m + 1 else m) ≡ n → (if a then (if b then m + 1 else m) + 1 else (if b then m + 1 else m)) ≡ (if b then n + 1 else n)
    by true true e = omega (arith, e)
    by true false e = e
    by false true e = omega (arith, e)
    by false false e = e

taken-out : (w : ℕ) (call : Call) (calls rest : List (ℕ × Call)) → calls_of w calls ≡ (w, call) ∷ rest → IsTakenOut call calls (without_first w calls)
taken-out w call [] rest e = absurd (cc e)
taken-out w call (x ∷ calls) rest e = by (x.0 == w) (λ later. taken-out w call calls rest later) e
  where
    by : (b : Bool) → (calls_of w calls ≡ (w, call) ∷ rest → IsTakenOut call calls (without_first w calls)) → (if b then x ∷ calls_of w calls else calls_of w calls) ≡ (w, call) ∷ rest
        → IsTakenOut call (x ∷ calls) (if b then calls else x ∷ without_first w calls)
    by true out e = record { fewer = omega arith; pages = ap (λ (z : Call). with_page z (count_pages calls)) (sym (head-is w call x (calls_of w calls) rest e)) }
    by false out e =
        let later = out e in
        record { fewer = omega (arith, later.fewer); pages = with-both call x.1 (count_pages (without_first w calls)) (count_pages calls) later.pages }

-- no worker has an open call
all-closed : (n : ℕ) (past : List Mark) → AreClosed past → are_closed n past ≡ true
all-closed zero past closed = ap is_none (closed 0)
all-closed (suc n) past closed = ap (λ (o : Option Open). is_none o && are_closed n past) (closed (suc n)) ∙ all-closed n past closed

-- by when the call ends
due_is : (config : Config) (w : ℕ) (past : List Mark) → begins_solitary config w (before_run w past) ≡ true → deadline config w past ≡ length (before_run w past) + run_marks config true
due_is config w past begins = ap (λ (b : Bool). length (before_run w past) + run_marks config b) begins

-- what is said of descriptors and slots, of a world with as many
same-ration : (o : Option Ration) (old new : WorldView) → new.config ≡ old.config → count_wanting new.log.past ≡ count_wanting old.log.past → KeepsRationIn o old → KeepsRationIn o new
same-ration None old new config wanting r = tt
same-ration (Some ration) old new config wanting r = record { swaps = omega (arith, r.swaps, ap (λ (c : Config). c.swaps) config); wanting = wanting ∙ r.wanting }

-- it begins
other-begins : (b : Bool) (fresh : Open) (o : Option Open) → b ≡ false → o ≡ None → (if b then Some fresh else o) ≡ None
other-begins true fresh o other none = absurd (true≢false other)
other-begins false fresh o other none = none

page-fits : (call : Call) (pages queued left limit : ℕ) → with_page call left ≡ queued → pages + queued ≤ limit → with_page call pages + left ≤ limit
page-fits call pages queued left limit e l = by (is_page call) e
  where
    by : (b : Bool) → (if b then left + 1 else left) ≡ queued → (if b then pages + 1 else pages) + left ≤ limit
    by true e = omega (arith, e, l)
    by false e = omega (arith, e, l)

pub begins_well : (most : Bounds) (w n : ℕ) (world new : WorldView) (call : Call) (calls left rest : List (ℕ × Call)) → calls_of w calls ≡ (w, call) ∷ rest → new ≡ after_begin world w call (Begun n) → left ≡ without_first w calls
    → HasRoomFor most world calls → AwaitsCalls most world calls → HasRoomFor most new left × IsInCall most w new left
begins_well most w n world new call calls left rest first after gone r a =
    subst (λ (z : WorldView). HasRoomFor most z left × IsInCall most w z left) (sym after) (subst (λ (z : List (ℕ × Call)). HasRoomFor most (after_begin world w call (Begun n)) z × IsInCall most w (after_begin world w call (Begun n)) z) (sym gone) (room, inside))
  where
    out : IsTakenOut call calls (without_first w calls)
    out = taken-out w call calls rest first

    past : List Mark
    past = mark.Begin w n call ∷ world.log.past

    self : (w == w) ≡ true
    self = grind (arith, nat_tests)

    room : HasRoomFor most (after_begin world w call (Begun n)) (without_first w calls)
    room = record {
      marks = r.marks;
      calls = omega (arith, r.calls, out.fewer);
      pages = page-fits call (count_page_calls world.log.past) (count_pages calls) (count_pages (without_first w calls)) most.journal.pages out.pages r.pages;
      call_limit = r.call_limit;
      page_limit = r.page_limit;
      rationed = same-ration most.ration world (after_begin world w call (Begun n)) refl refl r.rationed;
    }

    begins : begins_solitary world.config w (mark.Begin w n call ∷ world.log.past) ≡ true
    begins = ap (λ (b : Bool). b && are_closed world.config.workers world.log.past) self ∙ all-closed world.config.workers world.log.past a.closed

    inside : IsInCall most w (after_begin world w call (Begun n)) (without_first w calls)
    inside = record {
      is_open = begun_is_open world w n call (after_begin world w call (Begun n)) refl;
      others = λ v ne. let other : (w == v) ≡ false = grind (arith, nat_tests, ne) in other-begins (w == v) _ (open_call v world.log.past) other (a.closed v);
      begins = begins;
      in_time = omega (arith, due_is world.config w (mark.Begin w n call ∷ world.log.past) begins);
      enough = omega (arith, out.fewer, a.enough);
      keeps = record { swaps = omega arith; slots = omega arith };
      lasts = subst (SupplyLastsIn most.ration world.supply) (sym out.fewer) a.lasts;
    }

-- and meets no limit at that
some-page : (w : ℕ) (call : Call) (calls rest : List (ℕ × Call)) → calls_of w calls ≡ (w, call) ∷ rest → IsPageNext (calls_of w calls) → 1 ≤ count_pages calls
some-page w call calls rest first page =
    let asks : is_page call ≡ true = subst IsPageNext first page in
    let one : count_pages (without_first w calls) + 1 ≡ count_pages calls = ap (λ (b : Bool). if b then count_pages (without_first w calls) + 1 else count_pages (without_first w calls)) (sym asks) ∙ (taken-out w call calls rest first).pages in
    omega (arith, one)

pub not_limited : (most : Bounds) (w : ℕ) (world new : WorldView) (call : Call) (calls rest : List (ℕ × Call)) (why : LimitKind) (end : Point) → calls_of w calls ≡ (w, call) ∷ rest → new ≡ world → HasRoomFor most world calls → AwaitsCalls most world calls
    → StopsBy (stop.Limit why) w (point_with world calls) end → IsAtLimit new why → ⊥
not_limited most w world new call calls rest which.Marks end first same r a stops met =
    let short : IsAtLimit world which.Marks = subst (λ (z : WorldView). IsAtLimit z which.Marks) same met in
    absurd (omega (arith, short, r.marks, a.enough, (taken-out w call calls rest first).fewer))
not_limited most w world new call calls rest which.Calls end first same r a stops met =
    let full : IsAtLimit world which.Calls = subst (λ (z : WorldView). IsAtLimit z which.Calls) same met in
    absurd (omega (arith, full.1, r.calls, r.call_limit, (taken-out w call calls rest first).fewer))
not_limited most w world new call calls rest which.Pages end first same r a stops met =
    let full : IsAtLimit world which.Pages = subst (λ (z : WorldView). IsAtLimit z which.Pages) same met in
    absurd (omega (arith, full.2, r.pages, r.page_limit, some-page w call calls rest first stops.1))

-- an act is one of its worker's run
act-steps : (w : ℕ) (made : Act) (past : List Mark) → stepper (mark_of w made ∷ past) ≡ Some w
act-steps w (act.Load a v) past = refl
act-steps w (act.Store a v) past = refl
act-steps w (act.Cas a old new found) past = refl
act-steps w (act.Ask line) past = refl
act-steps w act.Fence past = refl

before-on : (w : ℕ) (m : Mark) (past : List Mark) → stepper (m ∷ past) ≡ Some w → before_run w (m ∷ past) ≡ before_run w past
before-on w m past is =
    let self : (w == w) ≡ true = grind (arith, nat_tests) in
    ap (λ (z : Option ℕ). if is_stepper w z then before_run w past else m ∷ past) is ∙ ap (λ (z : Bool). if z then before_run w past else m ∷ past) self

act-calls : (v w : ℕ) (past : List Mark) (made : Act) → open_call v (mark_of w made ∷ past) ≡ open_call v past
act-calls v w past (act.Load a x) = refl
act-calls v w past (act.Store a x) = refl
act-calls v w past (act.Cas a old new found) = refl
act-calls v w past (act.Ask line) = refl
act-calls v w past act.Fence = refl

-- an act, and what follows it at once
record Moves (w : ℕ) (past struck : List Mark) : Type 0 where
  before : before_run w struck ≡ before_run w past
  opens : is_some (open_call w struck) ≡ is_some (open_call w past)
  others : (v : ℕ) → open_call v past ≡ None → open_call v struck ≡ None
  begins : count_begins struck ≡ count_begins past
  pages : count_page_calls struck ≡ count_page_calls past
  wanting : count_wanting struck ≡ count_wanting past

act-counts : (w : ℕ) (made : Act) (past : List Mark)
    → (count_begins (mark_of w made ∷ past) ≡ count_begins past) × (count_page_calls (mark_of w made ∷ past) ≡ count_page_calls past) × (count_wanting (mark_of w made ∷ past) ≡ count_wanting past)
act-counts w (act.Load a v) past = (refl, refl, refl)
act-counts w (act.Store a v) past = (refl, refl, refl)
act-counts w (act.Cas a old new found) past = (refl, refl, refl)
act-counts w (act.Ask line) past = (refl, refl, refl)
act-counts w act.Fence past = (refl, refl, refl)

none-changes : (b : Bool) (f : Open → Open) (o : Option Open) → o ≡ None → (if b then option_map f o else o) ≡ None
none-changes true f o none = ap (option_map f) none
none-changes false f o none = none

moves : (w : ℕ) (made : Act) (past struck : List Mark) → IsStruck (mark_of w made ∷ past) struck → Moves w past struck
moves w made past struck (inl same) = record {
  before = ap (before_run w) same ∙ before-on w (mark_of w made) past (act-steps w made past);
  opens = ap (λ (z : List Mark). is_some (open_call w z)) same ∙ ap is_some (act-calls w w past made);
  others = λ v none. ap (open_call v) same ∙ (act-calls v w past made ∙ none);
  begins = ap count_begins same ∙ (act-counts w made past).0;
  pages = ap count_page_calls same ∙ (act-counts w made past).1;
  wanting = ap count_wanting same ∙ (act-counts w made past).2;
}
moves w made past struck (inr (u, (n, is))) = record {
  before = ap (before_run w) is ∙ (before-on w (mark.Effect u n) (mark_of w made ∷ past) (act-steps w made past) ∙ before-on w (mark_of w made) past (act-steps w made past));
  opens = ap (λ (z : List Mark). is_some (open_call w z)) is ∙ (changes_no (u == w) _ (open_call w (mark_of w made ∷ past)) ∙ ap is_some (act-calls w w past made));
  others = λ v none. ap (open_call v) is ∙ none-changes (u == v) _ (open_call v (mark_of w made ∷ past)) (act-calls v w past made ∙ none);
  begins = ap count_begins is ∙ (act-counts w made past).0;
  pages = ap count_page_calls is ∙ (act-counts w made past).1;
  wanting = ap count_wanting is ∙ (act-counts w made past).2;
}

-- it has room for its step
pub has_places : (most : Bounds) (w : ℕ) (world : WorldView) (calls : List (ℕ × Call)) → HasRoomFor most world calls → IsInCall most w world calls → is_short world.log ≡ true → ⊥
has_places most w world calls r i short =
    let met : IsAtLimit world which.Marks = grind (arith, nat_tests, short) in
    absurd (omega (arith, met, r.marks, i.enough, i.in_time, due_is world.config w world.log.past i.begins))

-- the step is made
ended-closed : (w v : ℕ) (o : Option Open) → (v ≢ w → o ≡ None) → (if w == v then None else o) ≡ None
ended-closed w v o none = elim (cases_eq v w) [
  | inl e ↦ (let same : (w == v) ≡ true = grind (arith, nat_tests, e) in ap (λ (b : Bool). if b then None else o) same)
  | inr ne ↦ (let other : (w == v) ≡ false = grind (arith, nat_tests, ne) in ap (λ (b : Bool). if b then None else o) other ∙ none ne)
]

-- its end is for no want of what there was enough of at its begin
not-wanting : (reply : Reply) (c : Config) (begun : Supply) → ((spent : Spent) → reply ≡ Full spent → HadFew c begun spent) → begun.taken + SWAPS_PER_CALL ≤ c.swaps → SLOTS_PER_CALL ≤ begun.left → is_wanting reply ≡ false
not-wanting (Full Height) c begun had swaps slots = refl
not-wanting (Full Swaps) c begun had swaps slots = absurd (omega (arith, had Swaps refl, swaps))
not-wanting (Full Nodes) c begun had swaps slots = absurd (omega (arith, had Nodes refl, slots))
not-wanting other c begun had swaps slots = refl

record IsEndIn (w k : ℕ) (old new : WorldView) (struck : List Mark) : Type 0 where
  n : ℕ
  reply : Reply
  at : ℕ
  past : new.log.past ≡ mark.End w n reply at ∷ struck
  before : count_wanting struck ≡ count_wanting old.log.past
  config : new.config ≡ old.config
  at_begin : new.at_begin ≡ old.at_begin
  little : EndsFullOfLittle new.config (record old.log { past = struck }) w new.log new.at_begin

ended-ration : (o : Option Ration) (w k : ℕ) (old new : WorldView) (struck : List Mark) → IsEndIn w k old new struck → KeepsRationIn o old → SupplyLastsIn o old.at_begin (k + 1) → KeepsRationIn o new
ended-ration None w k old new struck e r lasts = tt
ended-ration (Some ration) w k old new struck e r lasts =
    let swaps : new.at_begin.taken + SWAPS_PER_CALL ≤ new.config.swaps = omega (arith, lasts.swaps, r.swaps, ap (λ (c : Config). c.swaps) e.config, ap (λ (s : Supply). s.taken) e.at_begin) in
    let slots : SLOTS_PER_CALL ≤ new.at_begin.left = omega (arith, lasts.slots, ap (λ (s : Supply). s.left) e.at_begin) in
    let none : is_wanting e.reply ≡ false = not-wanting e.reply new.config new.at_begin (λ spent is. e.little e.n e.at spent (e.past ∙ ap (λ (z : Reply). mark.End w e.n z e.at ∷ struck) is)) swaps slots in
    record {
      swaps = omega (arith, r.swaps, ap (λ (c : Config). c.swaps) e.config);
      wanting = ap count_wanting e.past ∙ (ap (λ (b : Bool). if b then count_wanting struck + 1 else count_wanting struck) none ∙ (e.before ∙ r.wanting));
    }

ended-lasts : (o : Option Ration) (k : ℕ) (old new : WorldView) → new.at_begin ≡ old.at_begin → KeepsSupply new.at_begin new.supply → SupplyLastsIn o old.at_begin (k + 1) → SupplyLastsIn o new.supply k
ended-lasts None k old new same keeps lasts = tt
ended-lasts (Some ration) k old new same keeps lasts = record {
  swaps = omega (arith, keeps.swaps, lasts.swaps, ap (λ (s : Supply). s.taken) same);
  slots = omega (arith, keeps.slots, lasts.slots, ap (λ (s : Supply). s.left) same);
}

goes-well : (most : Bounds) (w : ℕ) (old new : WorldView) (calls : List (ℕ × Call)) (answer : Applied) → HasRoomFor most old calls → IsInCall most w old calls → Steps old w answer new → HasRoomFor most new calls × (AwaitsCalls most new calls ⊎ IsInCall most w new calls)
goes-well most w old new calls applied.Stepped r i s =
    let m = moves w s.made old.log.past s.struck s.effect in
    let past : new.log.past ≡ s.struck = ap (λ (log : Log). log.past) s.ends in
    let before : before_run w new.log.past ≡ before_run w old.log.past = ap (before_run w) past ∙ m.before in
    let whole : RunsWhole new.config w s.struck = ap (begins_solitary new.config w) m.before ∙ (ap (λ (c : Config). begins_solitary c w (before_run w old.log.past)) s.config ∙ i.begins) in (
      record {
        marks = omega (arith, r.marks, ap (λ (log : Log). log.limits.marks) s.ends);
        calls = omega (arith, r.calls, ap count_begins past, m.begins);
        call_limit = omega (arith, r.call_limit, ap (λ (log : Log). log.limits.calls) s.ends);
        pages = omega (arith, r.pages, ap count_page_calls past, m.pages);
        page_limit = omega (arith, r.page_limit, ap (λ (log : Log). log.limits.pages) s.ends);
        rationed = same-ration most.ration old new s.config (ap count_wanting past ∙ m.wanting) r.rationed;
      },
      inr (record {
        is_open = ap (λ (z : List Mark). is_some (open_call w z)) past ∙ (m.opens ∙ i.is_open);
        others = λ v ne. ap (open_call v) past ∙ m.others v (i.others v ne);
        begins = ap (begins_solitary new.config w) before ∙ (ap (λ (c : Config). begins_solitary c w (before_run w old.log.past)) s.config ∙ i.begins);
        in_time = subst (λ (z : List Mark). length new.log.past ≤ deadline new.config w z) (sym past) s.solo;
        enough = omega (arith, i.enough, ap length before);
        keeps = s.supplied whole;
        lasts = subst (λ (z : Supply). SupplyLastsIn most.ration z (length calls + 1)) (sym s.at_begin) i.lasts;
      }),
    )
goes-well most w old new calls (applied.Ended n) r i s =
    let m = moves w s.made old.log.past s.struck s.effect in
    let past = ap (λ (log : Log). log.past) s.ends.is in
    let whole : RunsWhole new.config w s.struck = ap (begins_solitary new.config w) m.before ∙ (ap (λ (c : Config). begins_solitary c w (before_run w old.log.past)) s.config ∙ i.begins) in
    let by : length new.log.past ≤ deadline new.config w s.struck = s.solo in
    let end : IsEndIn w (length calls) old new s.struck = record { n = n; reply = s.ends.reply; at = s.ends.at; past = past; before = m.wanting; config = s.config; at_begin = s.at_begin; little = s.little whole } in (
      record {
        marks = omega (arith, r.marks, ap (λ (log : Log). log.limits.marks) s.ends.is);
        calls = omega (arith, r.calls, ap count_begins past, m.begins);
        call_limit = omega (arith, r.call_limit, ap (λ (log : Log). log.limits.calls) s.ends.is);
        pages = omega (arith, r.pages, ap count_page_calls past, m.pages);
        page_limit = omega (arith, r.page_limit, ap (λ (log : Log). log.limits.pages) s.ends.is);
        rationed = ended-ration most.ration w (length calls) old new s.struck end r.rationed i.lasts;
      },
      inl (record {
        closed = λ v. ap (open_call v) past ∙ ended-closed w v (open_call v s.struck) (λ ne. m.others v (i.others v ne));
        enough = omega (arith, i.enough, by, due_is new.config w s.struck whole, ap length m.before);
        lasts = ended-lasts most.ration (length calls) old new s.at_begin (s.supplied whole) i.lasts;
      }),
    )
goes-well most w old new calls other r i s = absurd s.ends

-- with no cut armed, none is armed after it
unarmed-on : (flush : Bool) (fuse left : Option ℕ) → fuse ≡ None → left ≡ burnt flush fuse → left ≡ None
unarmed-on true fuse left none is = is ∙ ap (burnt true) none
unarmed-on false fuse left none is = is ∙ none

pub steps_well : (most : Bounds) (w : ℕ) (old new : WorldView) (calls : List (ℕ × Call)) (answer : Applied) (flush : Bool) (fuse left : Option ℕ) → fuse ≡ None → left ≡ burnt flush fuse → HasRoomFor most old calls → IsInCall most w old calls → Steps old w answer new → GoesOnAlone most w new calls left
steps_well most w old new calls answer flush fuse left none is r i s =
    let on = goes-well most w old new calls answer r i s in
    record { room = on.0; unarmed = unarmed-on flush fuse left none is; state = on.1 }

pub never_due : (flush : Bool) (fuse : Option ℕ) → fuse ≡ None → lets fuse flush ≡ false → ⊥
never_due flush fuse none stops = true≢false (sym (ap (λ (f : Option ℕ). lets f flush) none) ∙ stops)

-- where its call is open, and where it is not
pub is_in : (most : Bounds) (w : ℕ) (world : WorldView) (calls : List (ℕ × Call)) → AwaitsCalls most world calls ⊎ IsInCall most w world calls → is_some (open_call w world.log.past) ≡ true → IsInCall most w world calls
is_in most w world calls (inl a) some = absurd (true≢false (sym some ∙ ap is_some (a.closed w)))
is_in most w world calls (inr i) some = i

pub is_out : (most : Bounds) (w : ℕ) (world : WorldView) (calls : List (ℕ × Call)) → AwaitsCalls most world calls ⊎ IsInCall most w world calls → is_some (open_call w world.log.past) ≡ false → AwaitsCalls most world calls
is_out most w world calls (inl a) none = a
is_out most w world calls (inr i) none = absurd (true≢false (sym i.is_open ∙ none))

pub idle_is_closed : (o : Bool) (calls : List (ℕ × Call)) → is_busy_by o calls ≡ false → o ≡ false
idle_is_closed true calls idle = absurd (true≢false idle)
idle_is_closed false calls idle = refl

-- what a run needs, and what it leaves
abbrev pub needed_for : Option Ration → WorldView → List (ℕ × Call) → Bounds
needed_for ration world calls = record {
  journal = record {
    marks = length world.log.past + MARKS_PER_CALL * length calls;
    calls = count_begins world.log.past + length calls;
    pages = count_page_calls world.log.past + count_pages calls;
  };
  ration = ration;
}

pub at_first : (ration : Option Ration) (world : WorldView) (calls : List (ℕ × Call)) → AreClosed world.log.past → HasEnough world calls → KeepsRationIn ration world → SupplyLastsIn ration world.supply (length calls)
    → IsBetweenCalls (needed_for ration world calls) world calls None
at_first ration world calls closed e rationed lasts = record {
  room = record { marks = e.marks; calls = omega arith; pages = omega arith; call_limit = e.calls; page_limit = e.pages; rationed = rationed };
  unarmed = refl;
  awaits = record { closed = closed; enough = omega arith; lasts = lasts };
}

pub are_served : (ration : Option Ration) (old new : WorldView) (queued left : Queued) (fuse : Option ℕ) → IsBetweenCalls (needed_for ration old queued.calls) new left.calls fuse → AreServed old queued new left
are_served ration old new queued left fuse b = record { closed = b.awaits.closed; marks = b.awaits.enough; calls = b.room.calls; pages = b.room.pages }

-- and of descriptors and slots
abbrev pub ration_for : WorldView → List (ℕ × Call) → Ration
ration_for world calls = record { swaps = world.supply.taken + SWAPS_PER_CALL * length calls; slots = world.supply.left - SLOTS_PER_CALL * length calls; wanting = count_wanting world.log.past }

pub rationed_first : (world : WorldView) (calls : List (ℕ × Call)) → AreClosed world.log.past → HasEnough world calls → HasSupply world calls → IsBetweenCalls (needed_for (Some (ration_for world calls)) world calls) world calls None
rationed_first world calls closed e h = at_first (Some (ration_for world calls)) world calls closed e (record { swaps = h.swaps; wanting = refl }) (record { swaps = omega arith; slots = omega (arith, h.slots) })

pub are_supplied : (old new : WorldView) (queued left : Queued) (fuse : Option ℕ) → IsBetweenCalls (needed_for (Some (ration_for old queued.calls)) old queued.calls) new left.calls fuse → AreSupplied old queued new left
are_supplied old new queued left fuse b = record { swaps = b.awaits.lasts.swaps; slots = omega (arith, b.awaits.lasts.slots); wanting = b.room.rationed.wanting }
