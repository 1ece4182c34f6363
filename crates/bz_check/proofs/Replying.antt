-- The test of a reply decides whether it is right as far as the map and counts tell.
use Rattle.std.specs.Prelude.{◌≡◌, ◌<◌, ◌≤◌, ◌+◌, ◌-◌, ◌==◌, ◌&&◌, ◌↔◌, nat_lt, nat_le, ℕ, Bool, true, false, List, ◌∷◌, length, get_or, Option, Some, None, option_map, IsSomeAnd}
use Rattle.std.proofs.Common.{arith, refl, sym, ap, ◌∙◌, subst}
use Rattle.std.proofs.lemmas.Bool.Decides.{nat_tests}
use Rattle.std.proofs.lemmas.Option.{slice_get-get_or}
use Rattle.std.specs.FinMap.{get}
use Rattle.bz_call.specs.Map.{Map, apply, key_of}
use Rattle.bz_call.specs.Pages.{is_page}
use Rattle.bz_call.specs.declared.calls.Call.{Call}
use Rattle.bz_call.specs.declared.calls.Call.TheVariants as kind
use Rattle.bz_call.specs.declared.replies.Reply.{Reply}
use Rattle.bz_call.specs.declared.replies.Reply.TheVariants.{Page, Full}
use Rattle.bz_call.specs.declared.replies.Spent.{Spent}
use Rattle.bz_call.specs.declared.replies.Spent.TheVariants.{Nodes, Swaps, Height}
use Rattle.bz_layout.specs.Config.{IsConfig}
use Rattle.bz_layout.specs.declared.config.Config.{Config}
use Rattle.bz_mark.specs.declared.marks.Mark.{Mark}
use Rattle.bz_mark.specs.declared.marks.Mark.TheVariants.{End, Load, Effect, Cut}
use Rattle.bz_mark.specs.declared.power.Power.{Power}
use Rattle.bz_mark.specs.Moments.{at_moment, mark_at}
use Rattle.bz_mark.proofs.MomentLaws.{at_moment-next}
use Rattle.bz_sound.specs.Calls.{Open, open_call, map_after, map_at}
use Rattle.bz_sound.specs.Memory.Moments.{IsAfterLoad}
use Rattle.bz_sound.specs.Memory.Replies.{Answer, IsWrite}
use Rattle.bz_sound.specs.Replies.{AnswersOnly}
use Rattle.bz_sound.proofs.Memory.Between.{StaysOpen, open-between}
use Rattle.bz_check.specs.declared.counter.Standing.{Standing}
use Rattle.bz_check.specs.declared.sights.Sight.{Sight}
use Rattle.bz_check.specs.declared.table.OpenCall.{OpenCall}
use Rattle.bz_check.specs.Answers.{answers_so, stays_in, is_write_in}
use Rattle.bz_check.specs.Counts.{Counted, Counts, standing_in}
use Rattle.bz_check.specs.Knowing.{open_of, Knows, HasWorker}
use Rattle.bz_check.specs.Replies.{IsReadOf, IsEffectiveOf, IsPageOf, IsFullOf, IsAnswerOf, IsPlainReply, HasPlainReply}
use Rattle.bz_check.specs.Sights.{sight_by, sight_of, seen_after, shown, shown_at, found_of, is_read_in, paged_in, may_page_in, may_be_full_in, is_effective_in, answers_in, reply_in, replies_in}
use Rattle.bz_check.specs.Tables.{Known, open_in}
use Rattle.bz_check.proofs.Tests.{same_test}
use Rattle.bz_check.proofs.Following.{false_true, none_some, some_same, eq_of, less_of, less_test, both_of, both}
use Rattle.bz_check.proofs.Answering.{answer_of, answer_test, stays_of, stays_test}
use Rattle.bz_check.proofs.Counting.{Stands, stands_so}
use Rattle.bz_check.proofs.Seeing.{sight_at, ShowsEffect, shows_effect}

most_of : (a b : ℕ) → nat_le a b ≡ true → a ≤ b
most_of a b h = grind (arith, nat_tests)

most_test : (a b : ℕ) → a ≤ b → nat_le a b ≡ true
most_test a b h = grind (arith, nat_tests)

-- what the newest mark saw, where a call is open after it
record Reads (map : Map) (w : ℕ) (mark : Mark) (past : List Mark) (call : Call) (reply : Reply) : Type 0 where
  loaded : IsAfterLoad w (mark ∷ past)
  answers : AnswersOnly (map_after map (mark ∷ past)) call reply

record IsOf (past : List Mark) (w : ℕ) (call : Call) : Type 0 where
  opened : Open
  is_open : open_call w past ≡ Some opened
  same : opened.call ≡ call

-- the open call of a load's worker is the one that is asked for
one_call : (past : List Mark) (v w : ℕ) (call : Call) (other : Open) → IsOf past w call → v ≡ w → open_call v past ≡ Some other → other.call ≡ call
one_call past v w call other of e is =
    let same : other ≡ of.opened = some_same other of.opened (sym is ∙ ap (λ (u : ℕ). open_call u past) e ∙ of.is_open) in
    ap (λ (o : Open). o.call) same ∙ of.same

load_of : (map : Map) (past : List Mark) (v w a x : ℕ) (call : Call) (reply : Reply) (o : Option Open) → open_call v past ≡ o → IsOf past w call → is_read_in w (sight_by true v (map_after map past) o) call reply ≡ true
    → Reads map w (Load v a x) past call reply
load_of map past v w a x call reply None is of h = absurd (false_true h)
load_of map past v w a x call reply (Some other) is of h =
    let at : Map = map_after map past in
    let two = both_of (v == w) (answers_so (get at (key_of other.call)) call reply && stays_in (get at (key_of other.call)) call) h in
    let three = both_of (answers_so (get at (key_of other.call)) call reply) (stays_in (get at (key_of other.call)) call) two.1 in
    let e : v ≡ w = eq_of v w two.0 in
    let same : other.call ≡ call = one_call past v w call other of e is in
    record {
      loaded = e;
      answers = record {
        answers = answer_of (get at (key_of call)) at call reply (subst (λ (c : Call). answers_so (get at (key_of c)) call reply ≡ true) same three.0);
        stays = stays_of (get at (key_of call)) at call refl (subst (λ (c : Call). stays_in (get at (key_of c)) call ≡ true) same three.1);
      };
    }

load_test : (map : Map) (past : List Mark) (v w a x : ℕ) (call : Call) (reply : Reply) (o : Option Open) → open_call v past ≡ o → IsOf past w call → Reads map w (Load v a x) past call reply
    → is_read_in w (sight_by true v (map_after map past) o) call reply ≡ true
load_test map past v w a x call reply None is of r = absurd (none_some of.opened (sym is ∙ ap (λ (u : ℕ). open_call u past) r.loaded ∙ of.is_open))
load_test map past v w a x call reply (Some other) is of r =
    let at : Map = map_after map past in
    let same : call ≡ other.call = sym (one_call past v w call other of r.loaded is) in
    both (v == w) (answers_so (get at (key_of other.call)) call reply && stays_in (get at (key_of other.call)) call) (same_test v w r.loaded)
    (both (answers_so (get at (key_of other.call)) call reply) (stays_in (get at (key_of other.call)) call)
    (subst (λ (c : Call). answers_so (get at (key_of c)) call reply ≡ true) same (answer_test (get at (key_of call)) at call reply r.answers.answers))
    (subst (λ (c : Call). stays_in (get at (key_of c)) call ≡ true) same (stays_test (get at (key_of call)) at call refl r.answers.stays)))

no_load : (w v : ℕ) (map : Map) (o : Option Open) (call : Call) (reply : Reply) → is_read_in w (sight_by false v map o) call reply ≡ true → ⊥
no_load w v map None call reply h = false_true h
no_load w v map (Some opened) call reply h = false_true h

newest_of : (map : Map) (past : List Mark) (mark : Mark) (w : ℕ) (call : Call) (reply : Reply) → IsOf (mark ∷ past) w call → is_read_in w (sight_of map past mark) call reply ≡ true → Reads map w mark past call reply
newest_of map past (Load v a x) w call reply of h = load_of map past v w a x call reply (open_call v past) refl (record { opened = of.opened; is_open = of.is_open; same = of.same }) h
newest_of map past (Effect v n) w call reply of h = absurd (no_load w v (map_after map past) (open_call v past) call reply h)
newest_of map past mark w call reply of h = absurd (false_true h)

newest_test : (map : Map) (past : List Mark) (mark : Mark) (w : ℕ) (call : Call) (reply : Reply) → IsOf (mark ∷ past) w call → Reads map w mark past call reply → is_read_in w (sight_of map past mark) call reply ≡ true
newest_test map past (Load v a x) w call reply of r = load_test map past v w a x call reply (open_call v past) refl (record { opened = of.opened; is_open = of.is_open; same = of.same }) r
newest_test map past mark w call reply of r = absurd r.loaded

-- the mark before a moment, with what it saw
record Before (map : Map) (past : List Mark) (at : ℕ) (w : ℕ) (call : Call) : Type 0 where
  mark : Mark
  marks : at_moment at past ≡ mark ∷ at_moment (at - 1) past
  saw : shown_at (seen_after map past) (at - 1) ≡ sight_of map (at_moment (at - 1) past) mark
  of : IsOf (mark ∷ at_moment (at - 1) past) w call

mark_before : (map : Map) (past : List Mark) (at w : ℕ) (opened : Open) → open_call w past ≡ Some opened → opened.begun < at → at ≤ length past → Before map past at w opened.call
mark_before map past at w opened is after within =
    let mark : Mark = get_or past (length past - (at - 1 + 1)) Cut in
    let there : mark_at (at - 1) past ≡ Some mark = slice_get-get_or past (length past - (at - 1 + 1)) Cut (omega arith) in
    let now : at ≡ at - 1 + 1 = omega arith in
    let next : at_moment at past ≡ mark ∷ at_moment (at - 1) past = ap (λ (k : ℕ). at_moment k past) now ∙ at_moment-next (at - 1) mark past there (omega arith) in
    let stays : StaysOpen past w opened at = open-between w past opened at is after within in
    record {
      mark = mark;
      marks = next;
      saw = ap (λ (s : Option (Option Sight)). shown s) (sight_at map past (at - 1) mark (omega arith) there);
      of = record { opened = stays.then_open; is_open = ap (λ (all : List Mark). open_call w all) (sym next) ∙ stays.is_open; same = stays.call };
    }

read_of : (map : Map) (past : List Mark) (answer : Answer) → Before map past answer.at answer.worker answer.opened.call
    → is_read_in answer.worker (shown_at (seen_after map past) (answer.at - 1)) answer.opened.call answer.reply ≡ true → IsReadOf map past answer
read_of map past answer b h =
    let r : Reads map answer.worker b.mark (at_moment (answer.at - 1) past) answer.opened.call answer.reply = newest_of map (at_moment (answer.at - 1) past) b.mark answer.worker answer.opened.call answer.reply b.of
    (subst (λ (s : Option Sight). is_read_in answer.worker s answer.opened.call answer.reply ≡ true) b.saw h) in
    record {
      loaded = subst (λ (all : List Mark). IsAfterLoad answer.worker all) (sym b.marks) r.loaded;
      answers = subst (λ (all : List Mark). AnswersOnly (map_after map all) answer.opened.call answer.reply) (sym b.marks) r.answers;
    }

read_test : (map : Map) (past : List Mark) (answer : Answer) → Before map past answer.at answer.worker answer.opened.call → IsReadOf map past answer
    → is_read_in answer.worker (shown_at (seen_after map past) (answer.at - 1)) answer.opened.call answer.reply ≡ true
read_test map past answer b r =
    subst (λ (s : Option Sight). is_read_in answer.worker s answer.opened.call answer.reply ≡ true) (sym b.saw)
    (newest_test map (at_moment (answer.at - 1) past) b.mark answer.worker answer.opened.call answer.reply b.of (record {
      loaded = subst (λ (all : List Mark). IsAfterLoad answer.worker all) b.marks r.loaded;
      answers = subst (λ (all : List Mark). AnswersOnly (map_after map all) answer.opened.call answer.reply) b.marks r.answers;
    }))

-- an answer at the Effect
found_there : (map : Map) (past : List Mark) (w : ℕ) (opened : Open) (effect : ℕ) → ShowsEffect map past w opened effect → found_of (shown_at (seen_after map past) effect) ≡ get (map_at map effect past) (key_of opened.call)
found_there map past w opened effect s = ap (λ (o : Option (Option Sight)). found_of (shown o)) s.shown

effective_of : (map : Map) (past : List Mark) (answer : Answer) (effect : ℕ) → ShowsEffect map past answer.worker answer.opened effect
    → is_effective_in answer.at effect (shown_at (seen_after map past) effect) answer.opened.call answer.reply ≡ true → IsEffectiveOf map past answer effect
effective_of map past answer effect s h =
    let call : Call = answer.opened.call in
    let at : Map = map_at map effect past in
    let two = both_of (answer.at == effect) _ h in
    let e : answer.at ≡ effect = eq_of answer.at effect two.0 in
    record {
      moment = e;
      answers = ap (λ (k : ℕ). (apply (map_at map k past) call).reply) e
          ∙ answer_of (get at (key_of call)) at call answer.reply (subst (λ (f : Option (List ℕ)). answers_so f call answer.reply ≡ true) (found_there map past answer.worker answer.opened effect s) two.1);
    }

effective_test : (map : Map) (past : List Mark) (answer : Answer) (effect : ℕ) → ShowsEffect map past answer.worker answer.opened effect → IsEffectiveOf map past answer effect
    → is_effective_in answer.at effect (shown_at (seen_after map past) effect) answer.opened.call answer.reply ≡ true
effective_test map past answer effect s r =
    let call : Call = answer.opened.call in
    let at : Map = map_at map effect past in
    both (answer.at == effect) _ (same_test answer.at effect r.moment)
    (subst (λ (f : Option (List ℕ)). answers_so f call answer.reply ≡ true) (sym (found_there map past answer.worker answer.opened effect s))
    (answer_test (get at (key_of call)) at call answer.reply (ap (λ (k : ℕ). (apply (map_at map k past) call).reply) (sym r.moment) ∙ r.answers)))

-- a Full, but for its cause
writes_of : (asked : Call) → is_write_in asked ≡ true → IsWrite asked
writes_of (kind.Insert key payload) h = tt
writes_of (kind.Delete key) h = tt
writes_of (kind.Update key payload) h = tt
writes_of (kind.Upsert key payload) h = tt
writes_of (kind.Get key) h = absurd (false_true h)
writes_of (kind.Page key) h = absurd (false_true h)

writes_test : (asked : Call) → IsWrite asked → is_write_in asked ≡ true
writes_test (kind.Insert key payload) h = refl
writes_test (kind.Delete key) h = refl
writes_test (kind.Update key payload) h = refl
writes_test (kind.Upsert key payload) h = refl
writes_test (kind.Get key) h = absurd h
writes_test (kind.Page key) h = absurd h

-- the moment of a Full, and its call
record IsFullNow (past : List Mark) (answer : Answer) : Type 0 where
  now : answer.at ≡ length past
  writes : IsWrite answer.opened.call

now_of : (c : Config) (past : List Mark) (answer : Answer) (here : Standing) → Stands c past answer.worker here → (answer.at == here.moment && is_write_in answer.opened.call) ≡ true → IsFullNow past answer
now_of c past answer here s h =
    let two = both_of (answer.at == here.moment) (is_write_in answer.opened.call) h in
    record { now = eq_of answer.at here.moment two.0 ∙ s.moment; writes = writes_of answer.opened.call two.1 }

now_test : (c : Config) (past : List Mark) (answer : Answer) (here : Standing) → Stands c past answer.worker here → answer.at ≡ length past → IsWrite answer.opened.call → (answer.at == here.moment && is_write_in answer.opened.call) ≡ true
now_test c past answer here s now writes = both (answer.at == here.moment) (is_write_in answer.opened.call) (same_test answer.at here.moment (now ∙ sym s.moment)) (writes_test answer.opened.call writes)

full_of : (c : Config) (past : List Mark) (answer : Answer) (here : Standing) (spent : Spent) → Stands c past answer.worker here → may_be_full_in here answer.at answer.opened.call spent ≡ true → IsFullOf c past answer spent
full_of c past answer here Nodes s h = let n = now_of c past answer here s h in record { now = n.now; writes = n.writes; cause = tt }
full_of c past answer here Swaps s h =
    let two = both_of (answer.at == here.moment && is_write_in answer.opened.call) here.spent h in
    let n = now_of c past answer here s two.0 in
    record { now = n.now; writes = n.writes; cause = s.spent.0 two.1 }
full_of c past answer here Height s h = let n = now_of c past answer here s h in record { now = n.now; writes = n.writes; cause = tt }

full_test : (c : Config) (past : List Mark) (answer : Answer) (here : Standing) (spent : Spent) → Stands c past answer.worker here → IsFullOf c past answer spent → may_be_full_in here answer.at answer.opened.call spent ≡ true
full_test c past answer here Nodes s r = now_test c past answer here s r.now r.writes
full_test c past answer here Swaps s r = both (answer.at == here.moment && is_write_in answer.opened.call) here.spent (now_test c past answer here s r.now r.writes) (s.spent.1 r.cause)
full_test c past answer here Height s r = now_test c past answer here s r.now r.writes

-- a page, but for what it shows
paged_of : (right : Bool) (call : Call) → paged_in right call ≡ true → (right ≡ true) × (is_page call ≡ true)
paged_of right (kind.Page from) h = (h, refl)
paged_of right (kind.Insert key payload) h = absurd (false_true h)
paged_of right (kind.Delete key) h = absurd (false_true h)
paged_of right (kind.Update key payload) h = absurd (false_true h)
paged_of right (kind.Upsert key payload) h = absurd (false_true h)
paged_of right (kind.Get key) h = absurd (false_true h)

paged_test : (right : Bool) (call : Call) → right ≡ true → is_page call ≡ true → paged_in right call ≡ true
paged_test right (kind.Page from) h is = h
paged_test right (kind.Insert key payload) h is = absurd (false_true is)
paged_test right (kind.Delete key) h is = absurd (false_true is)
paged_test right (kind.Update key payload) h is = absurd (false_true is)
paged_test right (kind.Upsert key payload) h is = absurd (false_true is)
paged_test right (kind.Get key) h is = absurd (false_true is)

-- the newest mark is a load of the worker, and the number and the call are right
record Pages (here : Standing) (w : ℕ) (mark : Mark) (past : List Mark) (call : Call) (page : ℕ) : Type 0 where
  loaded : IsAfterLoad w (mark ∷ past)
  number : page ≡ here.page
  asked : is_page call ≡ true

page_load : (map : Map) (past : List Mark) (here : Standing) (v w a x : ℕ) (call : Call) (page : ℕ) (o : Option Open) → may_page_in here w (sight_by true v map o) call page ≡ true → Pages here w (Load v a x) past call page
page_load map past here v w a x call page None h = absurd (false_true h)
page_load map past here v w a x call page (Some other) h =
    let paged = paged_of (v == w && page == here.page) call h in
    let two = both_of (v == w) (page == here.page) paged.0 in
    record { loaded = eq_of v w two.0; number = eq_of page here.page two.1; asked = paged.1 }

page_load_test : (map : Map) (past : List Mark) (here : Standing) (v w a x : ℕ) (call : Call) (page : ℕ) (o : Option Open) → open_call v past ≡ o → IsOf past w call → Pages here w (Load v a x) past call page
    → may_page_in here w (sight_by true v map o) call page ≡ true
page_load_test map past here v w a x call page None is of p = absurd (none_some of.opened (sym is ∙ ap (λ (u : ℕ). open_call u past) p.loaded ∙ of.is_open))
page_load_test map past here v w a x call page (Some other) is of p =
    paged_test (v == w && page == here.page) call (both (v == w) (page == here.page) (same_test v w p.loaded) (same_test page here.page p.number)) p.asked

no_page : (here : Standing) (w v : ℕ) (map : Map) (o : Option Open) (call : Call) (page : ℕ) → may_page_in here w (sight_by false v map o) call page ≡ true → ⊥
no_page here w v map None call page h = false_true h
no_page here w v map (Some opened) call page h = false_true (paged_of (false && page == here.page) call h).0

page_newest : (map : Map) (past : List Mark) (here : Standing) (mark : Mark) (w : ℕ) (call : Call) (page : ℕ) → may_page_in here w (sight_of map past mark) call page ≡ true → Pages here w mark past call page
page_newest map past here (Load v a x) w call page h = page_load (map_after map past) past here v w a x call page (open_call v past) h
page_newest map past here (Effect v n) w call page h = absurd (no_page here w v (map_after map past) (open_call v past) call page h)
page_newest map past here mark w call page h = absurd (false_true h)

page_newest_test : (map : Map) (past : List Mark) (here : Standing) (mark : Mark) (w : ℕ) (call : Call) (page : ℕ) → IsOf (mark ∷ past) w call → Pages here w mark past call page → may_page_in here w (sight_of map past mark) call page ≡ true
page_newest_test map past here (Load v a x) w call page of p =
    page_load_test (map_after map past) past here v w a x call page (open_call v past) refl (record { opened = of.opened; is_open = of.is_open; same = of.same }) p
page_newest_test map past here mark w call page of p = absurd p.loaded

page_of : (c : Config) (map : Map) (past : List Mark) (answer : Answer) (here : Standing) (page : ℕ) → Stands c past answer.worker here → Before map past answer.at answer.worker answer.opened.call
    → may_page_in here answer.worker (shown_at (seen_after map past) (answer.at - 1)) answer.opened.call page ≡ true → IsPageOf past answer page
page_of c map past answer here page s b h =
    let p : Pages here answer.worker b.mark (at_moment (answer.at - 1) past) answer.opened.call page = page_newest map (at_moment (answer.at - 1) past) here b.mark answer.worker answer.opened.call page
    (subst (λ (s : Option Sight). may_page_in here answer.worker s answer.opened.call page ≡ true) b.saw h) in
    record { asked = p.asked; loaded = subst (λ (all : List Mark). IsAfterLoad answer.worker all) (sym b.marks) p.loaded; number = p.number ∙ s.page }

page_test : (c : Config) (map : Map) (past : List Mark) (answer : Answer) (here : Standing) (page : ℕ) → Stands c past answer.worker here → Before map past answer.at answer.worker answer.opened.call → IsPageOf past answer page
    → may_page_in here answer.worker (shown_at (seen_after map past) (answer.at - 1)) answer.opened.call page ≡ true
page_test c map past answer here page s b r =
    subst (λ (s : Option Sight). may_page_in here answer.worker s answer.opened.call page ≡ true) (sym b.saw)
    (page_newest_test map (at_moment (answer.at - 1) past) here b.mark answer.worker answer.opened.call page b.of (record {
      loaded = subst (λ (all : List Mark). IsAfterLoad answer.worker all) b.marks r.loaded;
      number = r.number ∙ sym s.page;
      asked = r.asked;
    }))

-- an answer, by the Effect and the reply
abbrev answered : ℕ → Open → ℕ → Reply → Answer
answered w opened at reply = record { worker = w; opened = opened; reply = reply; at = at }

answers_of : (c : Config) (map : Map) (past : List Mark) (here : Standing) (w at : ℕ) (opened : Open) (effect : Option ℕ) (reply : Reply) → Stands c past w here → open_call w past ≡ Some opened → opened.effect ≡ effect → opened.begun < at → at ≤ length past
    → answers_in (seen_after map past) here w at opened.call reply effect ≡ true → IsAnswerOf c map past (answered w opened at reply) effect reply
answers_of c map past here w at opened (Some effect) reply s is took after within h = effective_of map past (answered w opened at reply) effect (shows_effect map past w opened effect is took) h
answers_of c map past here w at opened None (Page page next) s is took after within h = page_of c map past (answered w opened at (Page page next)) here page s (mark_before map past at w opened is after within) h
answers_of c map past here w at opened None (Full spent) s is took after within h = full_of c past (answered w opened at (Full spent)) here spent s h
answers_of c map past here w at opened None reply s is took after within h = read_of map past (answered w opened at reply) (mark_before map past at w opened is after within) h

answers_test : (c : Config) (map : Map) (past : List Mark) (here : Standing) (w at : ℕ) (opened : Open) (effect : Option ℕ) (reply : Reply) → Stands c past w here → open_call w past ≡ Some opened → opened.effect ≡ effect → opened.begun < at
    → at ≤ length past → IsAnswerOf c map past (answered w opened at reply) effect reply → answers_in (seen_after map past) here w at opened.call reply effect ≡ true
answers_test c map past here w at opened (Some effect) reply s is took after within r = effective_test map past (answered w opened at reply) effect (shows_effect map past w opened effect is took) r
answers_test c map past here w at opened None (Page page next) s is took after within r = page_test c map past (answered w opened at (Page page next)) here page s (mark_before map past at w opened is after within) r
answers_test c map past here w at opened None (Full spent) s is took after within r = full_test c past (answered w opened at (Full spent)) here spent s r
answers_test c map past here w at opened None reply s is took after within r = read_test map past (answered w opened at reply) (mark_before map past at w opened is after within) r

-- a reply to an open call
plain_of : (c : Config) (map : Map) (past : List Mark) (here : Standing) (w at : ℕ) (reply : Reply) (call : OpenCall) → Stands c past w here → open_call w past ≡ Some (open_of call) → reply_in (seen_after map past) here w at reply (Some call) ≡ true
    → IsPlainReply c map past (answered w (open_of call) at reply)
plain_of c map past here w at reply call s is h =
    let two = both_of (nat_lt call.begun at) _ h in
    let three = both_of (nat_le at here.moment) _ two.1 in
    let after : call.begun < at = less_of call.begun at two.0 in
    let within : at ≤ length past = subst (λ (n : ℕ). at ≤ n) s.moment (most_of at here.moment three.0) in
    record { after_begin = after; before_end = within; right = answers_of c map past here w at (open_of call) call.effect reply s is refl after within three.1 }

plain_test : (c : Config) (map : Map) (past : List Mark) (here : Standing) (w at : ℕ) (reply : Reply) (call : OpenCall) → Stands c past w here → open_call w past ≡ Some (open_of call) → IsPlainReply c map past (answered w (open_of call) at reply)
    → reply_in (seen_after map past) here w at reply (Some call) ≡ true
plain_test c map past here w at reply call s is r =
    both (nat_lt call.begun at) _ (less_test call.begun at r.after_begin)
    (both (nat_le at here.moment) _ (most_test at here.moment (subst (λ (n : ℕ). at ≤ n) (sym s.moment) r.before_end)) (answers_test c map past here w at (open_of call) call.effect reply s is refl r.after_begin r.before_end r.right))

abbrev IsPlainEnd : Config → Map → List Mark → ℕ → ℕ → Reply → Open → Type 0
IsPlainEnd c map past w at reply opened = IsPlainReply c map past (answered w opened at reply)

end_decides : (c : Config) (map : Map) (past : List Mark) (here : Standing) (w at : ℕ) (reply : Reply) (o : Option OpenCall) → Stands c past w here → option_map open_of o ≡ open_call w past
    → reply_in (seen_after map past) here w at reply o ≡ true ↔ IsSomeAnd (open_call w past) (IsPlainEnd c map past w at reply)
end_decides c map past here w at reply None s is = (λ h. absurd (false_true h), λ h. absurd (subst (λ (o : Option Open). IsSomeAnd o (IsPlainEnd c map past w at reply)) (sym is) h))
end_decides c map past here w at reply (Some call) s is = (
  λ h. subst (λ (o : Option Open). IsSomeAnd o (IsPlainEnd c map past w at reply)) is (plain_of c map past here w at reply call s (sym is) h),
  λ h. plain_test c map past here w at reply call s (sym is) (subst (λ (o : Option Open). IsSomeAnd o (IsPlainEnd c map past w at reply)) (sym is) h),
)

by_marks : (c : Config) (at_start : Power) (map : Map) (past : List Mark) (t : Known) (k : Counted) (mark : Mark) → IsConfig c → Knows at_start past t → Counts c past k → HasWorker mark
    → replies_in t (seen_after map past) k (length past) mark ≡ true ↔ HasPlainReply c map past mark
by_marks c at_start map past t k (End w n reply at) config knows counts has =
    end_decides c map past (standing_in k t (length past) w) w at reply (open_in t w) (stands_so c at_start past t k w config knows counts) (knows.is_open w has)
by_marks c at_start map past t k mark config knows counts has = (λ h. tt, λ h. refl)

pub right_decides : (c : Config) (at_start : Power) (map : Map) (past : List Mark) (t : Known) (seen : List (Option Sight)) (k : Counted) (mark : Mark) → IsConfig c → Knows at_start past t → Counts c past k → HasWorker mark → seen ≡ seen_after map past
    → replies_in t seen k (length past) mark ≡ true ↔ HasPlainReply c map past mark
right_decides c at_start map past t seen k mark config knows counts has is =
    subst (λ (s : List (Option Sight)). replies_in t s k (length past) mark ≡ true ↔ HasPlainReply c map past mark) (sym is) (by_marks c at_start map past t k mark config knows counts has)
