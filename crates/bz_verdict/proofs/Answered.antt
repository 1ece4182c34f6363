-- What pages show, moment by moment: of each moment that has passed and is not inner, the question stands exactly where the page of the
-- first End that asks shows what its call asks for.
use Rattle.std.specs.Prelude.{◌≡◌, ◌≢◌, ◌<◌, ◌≤◌, ◌+◌, ◌↔◌, if◌then◌else◌, ℕ, Bool, true, false, List, [], ◌∷◌, length, slice_get, slice_index, slice_set, Option, Some, None, IsSomeAnd}
use Rattle.std.proofs.Common.{arith, refl, sym, ap, ◌∙◌, subst, inl, inr}
use Rattle.std.proofs.lemmas.Bool.{cases_eq, cases_lt}
use Rattle.std.proofs.lemmas.List.{get_or-set_same, get_or-set_other, length-set}
use Rattle.std.proofs.lemmas.Option.{slice_get-get_or}
use Rattle.bz_layout.specs.declared.config.Config.{Config}
use Rattle.bz_call.specs.declared.calls.Call.{Call}
use Rattle.bz_call.specs.declared.replies.Reply.{Reply}
use Rattle.bz_call.specs.declared.replies.Reply.TheVariants.{Page}
use Rattle.bz_mark.specs.declared.marks.Mark.{Mark}
use Rattle.bz_mark.specs.declared.marks.Mark.TheVariants.{End, Load, Effect}
use Rattle.bz_mark.specs.declared.power.Power.{Power}
use Rattle.bz_mark.specs.Moments.{at_moment, mark_at, IsInner}
use Rattle.bz_mark.proofs.MomentLaws.{at_moment-next, length-at_moment, mark_at-at_moment}
use Rattle.bz_sound.specs.Calls.{Open, open_call, map_after, map_at}
use Rattle.bz_sound.specs.Memory.Moments.{image_after, image_at, map_at_start, IsAfterLoad, IsAfterFence}
use Rattle.bz_sound.specs.Power.Calls.{MayFollow, CallsOnce}
use Rattle.bz_sound.specs.Replies.{Pages}
use Rattle.bz_sound.proofs.Memory.Between.{StaysOpen, open-between}
use Rattle.bz_sound.proofs.Memory.Marks.{each-at}
use Rattle.bz_check.specs.Replies.{IsAnswerOf, IsPlainReply, HasPlainReply}
use Rattle.bz_check.specs.Rules.{FollowsJudged}
use Rattle.bz_check.specs.Verdicts.{place_of, TellsFirst}
use Rattle.bz_check.specs.declared.verdict.JudgeRule.{JudgeRule}
use Rattle.bz_check.specs.declared.verdict.JudgeRule.TheVariants.{Truth, Calls, Reply as Replies, Shape, Content}
use Rattle.bz_check.proofs.Following.{false_true, none_some, some_same, eq_of}
use Rattle.bz_verdict.specs.Pages.{ShowsNumber, ShowsMark}
use Rattle.bz_verdict.specs.Questions.{page_read, Asks, AsksFirst, AreAsked, stands_for, is_shown_in, with_page}
use Rattle.bz_verdict.specs.Rules.{FollowsMarks}
use Rattle.bz_verdict.proofs.Asking.{same_test, not_at_first, first_noted}
use Rattle.bz_verdict.proofs.Going.{earlier_still}
use Rattle.bz_verdict.proofs.Showing.{no_page_answer, ShowsIfEnd, seen_plain, seen_shows, plain_seen}

-- what the page of a mark shows at a moment
abbrev pub ShowsAt : Config → List ℕ → Pages → List Mark → ℕ → Mark → Type 0
ShowsAt c start pages past at mark = ShowsMark c (image_at start at past) (map_at (map_at_start c start) at past) pages (λ w. open_call w (at_moment at past)) mark

pub record Answered (c : Config) (start : List ℕ) (pages : Pages) (past : List Mark) (moment : ℕ) (asked : List ℕ) : Type 0 where
  pub size : length asked ≡ length past + 1
  pub few : (at : ℕ) → slice_index asked at ≤ length past
  pub open_still : (at e : ℕ) → moment < at → AsksFirst past e at → slice_index asked at ≡ e + 1
  pub told : (at e : ℕ) → at ≤ moment → (IsInner at past → ⊥) → (f : AsksFirst past e at) → (slice_index asked at ≡ e + 1) ↔ ShowsAt c start pages past at f.asks.mark

-- before any mark
pub answered_first : (c : Config) (start : List ℕ) (pages : Pages) (past : List Mark) (asked : List ℕ) → AreAsked past (length past) asked → Answered c start pages past 0 asked
answered_first c start pages past asked t = record {
  size = t.size;
  few = t.few;
  open_still = λ at e later f. first_noted past asked at e t f;
  told = λ at e le outer f. absurd (not_at_first f.asks.worker at past (omega arith) f.asks.loaded);
}

-- one moment more
set_here : (words : List ℕ) (x v s : ℕ) → x < length words → s ≡ x → slice_index (slice_set words x v) s ≡ v
set_here words x v s lt e = ap (λ (n : ℕ). slice_index (slice_set words x v) n) e ∙ get_or-set_same words x v 0 lt

set_apart : (words : List ℕ) (x v s : ℕ) → s ≢ x → slice_index (slice_set words x v) s ≡ slice_index words s
set_apart words x v s ne = get_or-set_other words x s v 0 ne

-- what is told of a moment's question
pub record IsAnswer (c : Config) (start : List ℕ) (pages : Pages) (past : List Mark) (at : ℕ) (inner : Bool) (question left : ℕ) : Type 0 where
  pub at_most : left ≤ question
  pub shown : inner ≡ false → (e : ℕ) (mark : Mark) → question ≡ e + 1 → mark_at e past ≡ Some mark → (left ≡ e + 1 ↔ ShowsAt c start pages past at mark)

told_here : (c : Config) (start : List ℕ) (pages : Pages) (past : List Mark) (moment : ℕ) (asked : List ℕ) (inner : Bool) (left e : ℕ) → moment + 1 ≤ length past → (inner ≡ true → IsInner (moment + 1) past)
    → IsAnswer c start pages past (moment + 1) inner (slice_index asked (moment + 1)) left → Answered c start pages past moment asked → (IsInner (moment + 1) past → ⊥) → (f : AsksFirst past e (moment + 1))
    → (left ≡ e + 1) ↔ ShowsAt c start pages past (moment + 1) f.asks.mark
told_here c start pages past moment asked true left e within is a h outer f = absurd (outer (is refl))
told_here c start pages past moment asked false left e within is a h outer f = a.shown refl e f.asks.mark (h.open_still (moment + 1) e (omega arith) f) f.asks.is

pub answered_more : (c : Config) (start : List ℕ) (pages : Pages) (past : List Mark) (moment : ℕ) (asked new : List ℕ) (inner : Bool) (left : ℕ) → moment + 1 ≤ length past → (inner ≡ true → IsInner (moment + 1) past)
    → new ≡ slice_set asked (moment + 1) left → IsAnswer c start pages past (moment + 1) inner (slice_index asked (moment + 1)) left → Answered c start pages past moment asked → Answered c start pages past (moment + 1) new
answered_more c start pages past moment asked new inner left within is made a h = subst (λ (all : List ℕ). Answered c start pages past (moment + 1) all) (sym made) (record {
  size = length-set asked (moment + 1) left ∙ h.size;
  few = λ at. elim (cases_eq at (moment + 1)) [
    | inl here ↦ omega (arith, set_here asked (moment + 1) left at place here, a.at_most, h.few (moment + 1))
    | inr apart ↦ omega (arith, set_apart asked (moment + 1) left at apart, h.few at)
  ];
  open_still = λ at e later f. let apart : at ≢ moment + 1 = omega arith in set_apart asked (moment + 1) left at apart ∙ h.open_still at e (omega arith) f;
  told = λ at e le outer f. elim (cases_lt moment at) [
    | inl last ↦
        let here : moment + 1 ≡ at = omega arith in
        let Told : ℕ → Type 0 = λ n. (IsInner n past → ⊥) → (g : AsksFirst past e n) → (slice_index (slice_set asked (moment + 1) left) n ≡ e + 1) ↔ ShowsAt c start pages past n g.asks.mark in
        subst Told here (λ out g.
        let set : slice_index (slice_set asked (moment + 1) left) (moment + 1) ≡ left = set_here asked (moment + 1) left (moment + 1) place refl in
        let two = told_here c start pages past moment asked inner left e within is a h out g in
        (λ same. two.0 (sym set ∙ same), λ shows. set ∙ two.1 shows)) outer f
    | inr earlier ↦
        let apart : at ≢ moment + 1 = omega arith in
        let two = h.told at e earlier outer f in
        (λ same. two.0 (sym (set_apart asked (moment + 1) left at apart) ∙ same), λ shows. set_apart asked (moment + 1) left at apart ∙ two.1 shows)
  ];
})
  where
    place : moment + 1 < length asked
    place = omega (arith, h.size)

-- two loads of which the one is the other
one_loader : (v w : ℕ) (past : List Mark) → IsAfterLoad v past → IsAfterLoad w past → v ≡ w
one_loader v w (Load u a value ∷ past) h g = sym h ∙ g
one_loader v w (mark ∷ past) h g = absurd h
one_loader v w [] h g = absurd h

no_fence : (w : ℕ) (past : List Mark) → IsAfterLoad w past → IsAfterFence past → ⊥
no_fence w (Load u a value ∷ past) h g = g
no_fence w (mark ∷ past) h g = h
no_fence w [] h g = h

-- the moment of a page is no inner one where calls stand once
no_effect : (w n u k at : ℕ) (reply : Reply) → Some (Effect u k) ≡ Some (End w n reply at) → ⊥
no_effect w n u k at reply e = absurd (cc)

pub outer_there : (c : Config) (at_start : Power) (start : List ℕ) (past : List Mark) (i w n at : ℕ) (reply : Reply) → i < length past → mark_at i past ≡ Some (End w n reply at) → at ≤ i → CallsOnce at_start (map_at_start c start) (at_moment i past)
    → IsAfterLoad w (at_moment at past) → IsInner at past → ⊥
outer_there c at_start start past i w n at reply lt is le once loaded (more, (u, k, effect)) = elim (cases_lt at i) [
  | inl earlier ↦
      let size : length (at_moment i past) ≡ i = length-at_moment i past (omega arith) in
      let follows = each-at (MayFollow at_start (map_at_start c start)) (at_moment i past) at (Effect u k) once (omega (arith, size)) (mark_at-at_moment at i past earlier (omega arith) ∙ effect) in
      no_fence w (at_moment at past) loaded (subst (λ (marks : List Mark). IsAfterFence marks) (earlier_still past at i (omega arith) (omega arith)) follows.0)
  | inr here ↦
      let same : at ≡ i = omega arith in
      no_effect w n u k at reply (sym effect ∙ ap (λ (m : ℕ). mark_at m past) same ∙ is)
]

-- an End that stands between the Begin and the End of a call is of another worker
pair_worker : (w n at : ℕ) (reply : Reply) (v m : ℕ) → page_read (End w n reply at) ≡ Some (v, m) → w ≡ v
pair_worker w n at (Page page next) v m e =
    let both : (w, at) ≡ (v, m) = some_same (w, at) (v, m) e in
    ap (λ (x : ℕ × ℕ). x.0) both
pair_worker w n at reply v m e = absurd (none_some (v, m) e)

own_end : (w n at : ℕ) (reply : Reply) (past : List Mark) (o : Open) → open_call w (End w n reply at ∷ past) ≡ Some o → ⊥
own_end w n at reply past o is = none_some o (sym (ap (λ (b : Bool). if b then None else open_call w past) (same_test w w refl)) ∙ is)

ended_by : (mark : Mark) (v w m : ℕ) (past : List Mark) (o : Open) → page_read mark ≡ Some (v, m) → v ≡ w → open_call w (mark ∷ past) ≡ Some o → ⊥
ended_by (End u n reply at) v w m past o reads e is =
    let worker : u ≡ w = pair_worker u n at reply v m reads ∙ e in
    own_end w n at reply past o (subst (λ (x : ℕ). open_call w (End x n reply at ∷ past) ≡ Some o) worker is)
ended_by mark v w m past o reads e is = absurd (none_some (v, m) reads)

pub is_first : (past : List Mark) (i w at : ℕ) (opened : Open) → i < length past → at ≤ i → open_call w (at_moment i past) ≡ Some opened → opened.begun < at → IsAfterLoad w (at_moment at past) → (f : ℕ) → f < i → Asks past f at → ⊥
is_first past i w at opened lt le is after loaded f less a =
    let size : length (at_moment i past) ≡ i = length-at_moment i past (omega arith) in
    let begun : opened.begun < f + 1 = omega (arith, a.before) in
    let stays : StaysOpen (at_moment i past) w opened (f + 1) = open-between w (at_moment i past) opened (f + 1) is begun (omega (arith, size)) in
    let next : at_moment (f + 1) (at_moment i past) ≡ a.mark ∷ at_moment f past = earlier_still past (f + 1) i (omega arith) (omega arith) ∙ at_moment-next f a.mark past a.is (omega arith) in
    ended_by a.mark a.worker w at (at_moment f past) stays.then_open a.names (one_loader a.worker w (at_moment at past) a.loaded loaded)
    (sym (ap (λ (marks : List Mark). open_call w marks) next) ∙ stays.is_open)

-- the question of a page's moment tells what the page shows, where the reply is right as far as the map and counts tell
stands_so : (asked : List ℕ) (at e : ℕ) → at < length asked → stands_for e (slice_get asked at) ≡ true ↔ slice_index asked at ≡ e + 1
stands_so asked at e lt =
    let there : slice_get asked at ≡ Some (slice_index asked at) = slice_get-get_or asked at 0 lt in (
      λ h. eq_of (slice_index asked at) (e + 1) (sym (ap (stands_for e) there) ∙ h),
      λ same. ap (stands_for e) there ∙ same_test (slice_index asked at) (e + 1) same,
    )

abbrev Number : Config → List ℕ → Pages → ℕ → Option (List ℕ) → List Mark → Option Open → Type 0
Number c start pages page next marks o = IsSomeAnd o (λ x. ShowsNumber c (image_after start marks) (map_after (map_at_start c start) marks) pages page next x.call)

same_number : (c : Config) (start : List ℕ) (pages : Pages) (page : ℕ) (next : Option (List ℕ)) (marks : List Mark) (o q : Option Open) (x y : Open) → o ≡ Some x → q ≡ Some y → x.call ≡ y.call → Number c start pages page next marks o
    → Number c start pages page next marks q
same_number c start pages page next marks o q x y is was same h =
    subst (λ (r : Option Open). Number c start pages page next marks r) (sym was)
    (subst (λ (call : Call). ShowsNumber c (image_after start marks) (map_after (map_at_start c start) marks) pages page next call) same (subst (λ (r : Option Open). Number c start pages page next marks r) is h))

page_stands : (c : Config) (at_start : Power) (start : List ℕ) (pages : Pages) (past : List Mark) (i w n at page : ℕ) (next : Option (List ℕ)) (asked : List ℕ) (opened : Open) → i < length past → mark_at i past ≡ Some (End w n (Page page next) at)
    → CallsOnce at_start (map_at_start c start) (at_moment i past) → Answered c start pages past i asked → open_call w (at_moment i past) ≡ Some opened → opened.begun < at → at ≤ i → IsAfterLoad w (at_moment at past)
    → stands_for i (slice_get asked at) ≡ true ↔ ShowsIfEnd c start pages (at_moment i past) (End w n (Page page next) at)
page_stands c at_start start pages past i w n at page next asked opened lt is once a open_now after le loaded = (
  λ h. subst (λ (marks : List Mark). Number c start pages page next marks (open_call w (at_moment i past))) (sym marks)
      (same_number c start pages page next (at_moment at past) (open_call w (at_moment at past)) (open_call w (at_moment i past)) stays.then_open opened there open_now stays.call (told.0 (stands.0 h))),
  λ s. stands.1 (told.1 (same_number c start pages page next (at_moment at past) (open_call w (at_moment i past)) (open_call w (at_moment at past)) opened stays.then_open open_now there (sym stays.call)
      (subst (λ (ms : List Mark). Number c start pages page next ms (open_call w (at_moment i past))) marks s))),
)
  where
    size : length (at_moment i past) ≡ i
    size = length-at_moment i past (omega arith)

    marks : at_moment at (at_moment i past) ≡ at_moment at past
    marks = earlier_still past at i le (omega arith)

    stays : StaysOpen (at_moment i past) w opened at
    stays = open-between w (at_moment i past) opened at open_now after (omega (arith, size))

    there : open_call w (at_moment at past) ≡ Some stays.then_open
    there = sym (ap (λ (ms : List Mark). open_call w ms) marks) ∙ stays.is_open

    first : AsksFirst past i at
    first = record {
      asks = record { within = lt; mark = End w n (Page page next) at; is = is; worker = w; names = refl; before = le; loaded = loaded };
      first = is_first past i w at opened lt le open_now after loaded;
    }

    told : (slice_index asked at ≡ i + 1) ↔ Number c start pages page next (at_moment at past) (open_call w (at_moment at past))
    told = a.told at i le (outer_there c at_start start past i w n at (Page page next) lt is le once loaded) first

    stands : stands_for i (slice_get asked at) ≡ true ↔ slice_index asked at ≡ i + 1
    stands = stands_so asked at i (omega (arith, a.size))

-- so of each mark whose reply is right as far as the map and counts tell
abbrev Said : Config → List ℕ → List Mark → ℕ → ℕ → Reply → Open → Type 0
Said c start marks w at reply opened = IsPlainReply c (map_at_start c start) marks (record { worker = w; opened = opened; reply = reply; at = at })

page_loaded : (c : Config) (start : List ℕ) (marks : List Mark) (w at page : ℕ) (next : Option (List ℕ)) (opened : Open) (effect : Option ℕ)
    → IsAnswerOf c (map_at_start c start) marks (record { worker = w; opened = opened; reply = Page page next; at = at }) effect (Page page next) → IsAfterLoad w (at_moment at marks)
page_loaded c start marks w at page next opened (Some effect) h = absurd (no_page_answer (map_at (map_at_start c start) at marks) opened.call page next h.answers)
page_loaded c start marks w at page next opened None h = h.loaded

page_said : (c : Config) (at_start : Power) (start : List ℕ) (pages : Pages) (past : List Mark) (i w n at page : ℕ) (next : Option (List ℕ)) (asked : List ℕ) (o : Option Open) → i < length past → mark_at i past ≡ Some (End w n (Page page next) at)
    → CallsOnce at_start (map_at_start c start) (at_moment i past) → Answered c start pages past i asked → open_call w (at_moment i past) ≡ o → IsSomeAnd o (Said c start (at_moment i past) w at (Page page next))
    → stands_for i (slice_get asked at) ≡ true ↔ ShowsIfEnd c start pages (at_moment i past) (End w n (Page page next) at)
page_said c at_start start pages past i w n at page next asked None lt is once a here h = absurd h
page_said c at_start start pages past i w n at page next asked (Some opened) lt is once a here h =
    let size : length (at_moment i past) ≡ i = length-at_moment i past (omega arith) in
    let le : at ≤ i = omega (arith, size, h.before_end) in
    page_stands c at_start start pages past i w n at page next asked opened lt is once a here h.after_begin le
    (subst (λ (marks : List Mark). IsAfterLoad w marks) (earlier_still past at i le (omega arith)) (page_loaded c start (at_moment i past) w at page next opened opened.effect h.right))

-- the mark ends a call, and is no Effect: the moment before it is no inner one
abbrev pub IsEnd : Mark → Type 0
IsEnd (End w n reply at) = Unit {0}
IsEnd mark = ⊥

pub end_outer : (past : List Mark) (i : ℕ) (mark : Mark) → mark_at i past ≡ Some mark → IsEnd mark → IsInner i past → ⊥
end_outer past i (End w n reply at) is h (more, (u, k, effect)) = no_effect w n u k at reply (sym effect ∙ is)
end_outer past i mark is h inner = h

mark_decides : (c : Config) (at_start : Power) (start : List ℕ) (pages : Pages) (past : List Mark) (i : ℕ) (mark : Mark) (asked : List ℕ) → i < length past → mark_at i past ≡ Some mark → (IsEnd mark → CallsOnce at_start (map_at_start c start) (at_moment i past))
    → Answered c start pages past i asked → HasPlainReply c (map_at_start c start) (at_moment i past) mark → is_shown_in asked i mark ≡ true ↔ ShowsIfEnd c start pages (at_moment i past) mark
mark_decides c at_start start pages past i (End w n (Page page next) at) asked lt is once a h = page_said c at_start start pages past i w n at page next asked (open_call w (at_moment i past)) lt is (once tt) a refl h
mark_decides c at_start start pages past i (End w n reply at) asked lt is once a h = (λ e. tt, λ s. refl)
mark_decides c at_start start pages past i mark asked lt is once a h = (λ e. tt, λ s. refl)

-- the first rule that a mark breaks, with what its page shows
all_but : (c : Config) (at_start : Power) (start : List ℕ) (pages : Pages) (marks : List Mark) (mark : Mark) → ((rule : JudgeRule) → FollowsJudged c at_start start (map_at_start c start) marks mark rule)
    → (rule : JudgeRule) → place_of rule < 2 → FollowsMarks c at_start start pages marks mark rule
all_but c at_start start pages marks mark all Truth lt = all Truth
all_but c at_start start pages marks mark all Calls lt = all Calls
all_but c at_start start pages marks mark all Replies lt = absurd (omega arith)
all_but c at_start start pages marks mark all Shape lt = tt
all_but c at_start start pages marks mark all Content lt = tt

earlier_but : (c : Config) (at_start : Power) (start : List ℕ) (pages : Pages) (marks : List Mark) (mark : Mark) (rule other : JudgeRule) → place_of rule < 3 → place_of other < place_of rule
    → FollowsJudged c at_start start (map_at_start c start) marks mark other → FollowsMarks c at_start start pages marks mark other
earlier_but c at_start start pages marks mark rule Truth few lt h = h
earlier_but c at_start start pages marks mark rule Calls few lt h = h
earlier_but c at_start start pages marks mark rule Replies few lt h = absurd (omega arith)
earlier_but c at_start start pages marks mark rule Shape few lt h = tt
earlier_but c at_start start pages marks mark rule Content few lt h = tt

tells_by : (c : Config) (at_start : Power) (start : List ℕ) (pages : Pages) (marks : List Mark) (mark : Mark) (fault : Option JudgeRule) (test : Bool)
    → (HasPlainReply c (map_at_start c start) marks mark → test ≡ true ↔ ShowsIfEnd c start pages marks mark) → TellsFirst (FollowsJudged c at_start start (map_at_start c start) marks mark) fault
    → TellsFirst (FollowsMarks c at_start start pages marks mark) (with_page fault test)
tells_by c at_start start pages marks mark (Some Truth) test decides t = record { broken = t.broken; earlier = λ other lt. absurd (omega arith) }
tells_by c at_start start pages marks mark (Some Calls) test decides t = record { broken = t.broken; earlier = λ other lt. earlier_but c at_start start pages marks mark Calls other (omega arith) lt (t.earlier other lt) }
tells_by c at_start start pages marks mark (Some Replies) test decides t =
    record { broken = λ h. t.broken (seen_plain c start pages marks mark h); earlier = λ other lt. earlier_but c at_start start pages marks mark Replies other (omega arith) lt (t.earlier other lt) }
tells_by c at_start start pages marks mark (Some Shape) test decides t = absurd (t.broken tt)
tells_by c at_start start pages marks mark (Some Content) test decides t = absurd (t.broken tt)
tells_by c at_start start pages marks mark None true decides t = λ rule. go rule
  where
    go : (rule : JudgeRule) → FollowsMarks c at_start start pages marks mark rule
    go Truth = t Truth
    go Calls = t Calls
    go Replies = plain_seen c start pages marks mark (t Replies) ((decides (t Replies)).0 refl)
    go Shape = tt
    go Content = tt
tells_by c at_start start pages marks mark None false decides t = record {
  broken = λ h. false_true ((decides (t Replies)).1 (seen_shows c start pages marks mark h));
  earlier = λ other lt. all_but c at_start start pages marks mark t other lt;
}

pub page_tells : (c : Config) (at_start : Power) (start : List ℕ) (pages : Pages) (past : List Mark) (i : ℕ) (mark : Mark) (asked : List ℕ) (fault : Option JudgeRule) → i < length past → mark_at i past ≡ Some mark
    → (IsEnd mark → CallsOnce at_start (map_at_start c start) (at_moment i past)) → Answered c start pages past i asked
    → TellsFirst (FollowsJudged c at_start start (map_at_start c start) (at_moment i past) mark) fault → TellsFirst (FollowsMarks c at_start start pages (at_moment i past) mark) (with_page fault (is_shown_in asked i mark))
page_tells c at_start start pages past i mark asked fault lt is once a t =
    tells_by c at_start start pages (at_moment i past) mark fault (is_shown_in asked i mark) (λ plain. mark_decides c at_start start pages past i mark asked lt is once a plain) t
