-- The worked verdicts.
use Rattle.std.specs.Prelude.{◌≡◌, ◌<◌, ◌≤◌, ◌+◌, ℕ, zero, suc, List, [], ◌∷◌, length, Option, Some, None}
use Rattle.std.proofs.Common.{arith, refl, sym, ap, ◌∙◌, subst}
use Rattle.std.specs.Cmp.Lexicographic.{slice_cmp}
use Rattle.std.specs.FinMap.{get, get-empty}
use Rattle.std.specs.Ordering.{nat_cmp}
use Rattle.bz_call.specs.Map.{apply, apply_at, IsChange}
use Rattle.bz_call.specs.declared.calls.Call.TheVariants.{Insert, Get}
use Rattle.bz_call.specs.declared.calls.Call.TheVariants as kind
use Rattle.bz_call.specs.declared.replies.Reply.{Reply as Answer}
use Rattle.bz_call.specs.declared.replies.Reply.TheVariants.{Inserted, Exists, Missing, Full, Page}
use Rattle.bz_call.specs.declared.replies.Spent.TheVariants.{Nodes, Swaps}
use Rattle.bz_mark.specs.declared.marks.Mark.{Mark}
use Rattle.bz_mark.specs.declared.marks.Mark.TheVariants.{Begin, End, Load, Store, Cas, Evict, Cut, On, Ready, Effect}
use Rattle.bz_mark.specs.declared.power.Power.TheVariants as power
use Rattle.bz_mark.specs.Counts.{count_taken}
use Rattle.bz_mark.specs.Moments.{at_moment, IsInner}
use Rattle.bz_mark.specs.Times.{since_on}
use Rattle.bz_mark.specs.WordsAfter.{IsTruthful}
use Rattle.bz_sound.specs.Calls.{Open}
use Rattle.bz_sound.specs.Memory.Calls.{HasOpenCall}
use Rattle.bz_sound.specs.Memory.Spent.{count_others}
use Rattle.bz_sound.specs.Power.Calls.{BeginsPowered, CallsOnce}
use Rattle.bz_check.specs.declared.verdict.JudgeRule.{JudgeRule}
use Rattle.bz_check.specs.declared.verdict.JudgeRule.TheVariants.{Truth, Calls, Reply, Shape, Content}
use Rattle.bz_check.specs.Example.{zeros, small, no_pairs, a_key, get_begun, insert_begun, page_begun, two_begun, insert_done, WorkedVerdicts}
use Rattle.bz_check.specs.Replies.{PlainRepliesAreRight}
use Rattle.bz_check.specs.Rules.{KeepsJudged}
use Rattle.bz_check.specs.Verdicts.{place_of, IsFirstBroken}
use Rattle.bz_check.proofs.Following.{none_some, some_same}
use Rattle.bz_check.proofs.Judging.{keeps_yet}

abbrev Keeps : JudgeRule → List Mark → Type 0
Keeps rule past = KeepsJudged small power.On zeros no_pairs rule past

all_kept : (past : List Mark) → IsTruthful zeros past → CallsOnce power.On no_pairs past → PlainRepliesAreRight small no_pairs past → (rule : JudgeRule) → Keeps rule past
all_kept past truth calls replies Truth = truth
all_kept past truth calls replies Calls = calls
all_kept past truth calls replies Reply = replies
all_kept past truth calls replies Shape = tt
all_kept past truth calls replies Content = tt

truth_kept : (past : List Mark) → IsTruthful zeros past → (rule : JudgeRule) → place_of rule < 1 → Keeps rule past
truth_kept past truth Truth lt = truth
truth_kept past truth Calls lt = absurd (omega arith)
truth_kept past truth Reply lt = absurd (omega arith)
truth_kept past truth Shape lt = tt
truth_kept past truth Content lt = tt

both_kept : (past : List Mark) → IsTruthful zeros past → CallsOnce power.On no_pairs past → (rule : JudgeRule) → place_of rule < 2 → Keeps rule past
both_kept past truth calls Truth lt = truth
both_kept past truth calls Calls lt = calls
both_kept past truth calls Reply lt = absurd (omega arith)
both_kept past truth calls Shape lt = tt
both_kept past truth calls Content lt = tt

breaks_truth : (past : List Mark) → (IsTruthful zeros past → ⊥) → IsFirstBroken (λ rule. Keeps rule past) Truth
breaks_truth past broken = record { broken = broken; earlier = λ other lt. absurd (omega arith) }

breaks_calls : (past : List Mark) → IsTruthful zeros past → (CallsOnce power.On no_pairs past → ⊥) → IsFirstBroken (λ rule. Keeps rule past) Calls
breaks_calls past truth broken = record { broken = broken; earlier = truth_kept past truth }

breaks_reply : (past : List Mark) → IsTruthful zeros past → CallsOnce power.On no_pairs past → (PlainRepliesAreRight small no_pairs past → ⊥) → IsFirstBroken (λ rule. Keeps rule past) Reply
breaks_reply past truth calls broken = record { broken = broken; earlier = both_kept past truth calls }

-- what is kept before a moment
before_one : (past : List Mark) (m : ℕ) → m < 1 → (IsInner m past → ⊥) → (rule : JudgeRule) → Keeps rule (at_moment m past)
before_one past zero lt outer = keeps_yet small power.On zeros no_pairs past
before_one past (suc m) lt outer = absurd (omega arith)

before_two : (past : List Mark) → ((rule : JudgeRule) → Keeps rule (at_moment 1 past)) → (m : ℕ) → m < 2 → (IsInner m past → ⊥) → (rule : JudgeRule) → Keeps rule (at_moment m past)
before_two past one zero lt outer = keeps_yet small power.On zeros no_pairs past
before_two past one (suc zero) lt outer = one
before_two past one (suc (suc m)) lt outer = absurd (omega arith)

before_three : (past : List Mark) → ((rule : JudgeRule) → Keeps rule (at_moment 1 past)) → IsInner 2 past → (m : ℕ) → m < 3 → (IsInner m past → ⊥) → (rule : JudgeRule) → Keeps rule (at_moment m past)
before_three past one inner zero lt outer = keeps_yet small power.On zeros no_pairs past
before_three past one inner (suc zero) lt outer = one
before_three past one inner (suc (suc zero)) lt outer = absurd (outer inner)
before_three past one inner (suc (suc (suc m))) lt outer = absurd (omega arith)

before_three_all : (past : List Mark) → ((rule : JudgeRule) → Keeps rule (at_moment 1 past)) → ((rule : JudgeRule) → Keeps rule (at_moment 2 past)) → (m : ℕ) → m < 3 → (IsInner m past → ⊥) → (rule : JudgeRule) → Keeps rule (at_moment m past)
before_three_all past one two zero lt outer = keeps_yet small power.On zeros no_pairs past
before_three_all past one two (suc zero) lt outer = one
before_three_all past one two (suc (suc zero)) lt outer = two
before_three_all past one two (suc (suc (suc m))) lt outer = absurd (omega arith)

before_four : (past : List Mark) → ((rule : JudgeRule) → Keeps rule (at_moment 1 past)) → IsInner 2 past → ((rule : JudgeRule) → Keeps rule (at_moment 3 past)) → (m : ℕ) → m < 4 → (IsInner m past → ⊥) → (rule : JudgeRule) → Keeps rule (at_moment m past)
before_four past one inner three zero lt outer = keeps_yet small power.On zeros no_pairs past
before_four past one inner three (suc zero) lt outer = one
before_four past one inner three (suc (suc zero)) lt outer = absurd (outer inner)
before_four past one inner three (suc (suc (suc zero))) lt outer = three
before_four past one inner three (suc (suc (suc (suc m)))) lt outer = absurd (omega arith)

at_end : (past : List Mark) (moment : ℕ) → length past ≤ moment → IsInner moment past → ⊥
at_end past moment le inner = omega (arith, inner.0)

no_effect : (w a v : ℕ) (u n : ℕ) → Some (Load w a v) ≡ Some (Effect u n) → ⊥
no_effect w a v u n e = cc

other : (x y : ℕ) → x ≡ 0 → y ≡ 5 → Some x ≡ Some y → ⊥
other x y p q e = omega (arith, p, q, some_same x y e)

not_off : power.On ≡ power.Off → ⊥
not_off e = cc

-- what the map without pairs answers
missing : get no_pairs a_key ≡ None
missing = get-empty (slice_cmp nat_cmp) a_key

get_misses : (apply no_pairs (Get a_key)).reply ≡ Some Missing
get_misses = ap (λ (found : Option (List ℕ)). (apply_at found no_pairs (Get a_key)).reply) missing

get_stays : (apply no_pairs (Get a_key)).map ≡ no_pairs
get_stays = ap (λ (found : Option (List ℕ)). (apply_at found no_pairs (Get a_key)).map) missing

insert_adds : (apply no_pairs (Insert a_key [])).reply ≡ Some Inserted
insert_adds = ap (λ (found : Option (List ℕ)). (apply_at found no_pairs (Insert a_key [])).reply) missing

not_exists : Some Missing ≡ Some Exists → ⊥
not_exists e = cc

-- the calls that begin
begins_one : BeginsPowered power.On [] 1 1
begins_one = record { worker = omega arith; powered = refl; begins = record { numbered = refl; none_open = refl } }

get_open : HasOpenCall get_begun 1
get_open = record { opened = record { number = 1; call = Get a_key; begun = 0; effect = None }; is_open = refl }

insert_open : HasOpenCall insert_begun 1
insert_open = record { opened = record { number = 1; call = Insert a_key []; begun = 0; effect = None }; is_open = refl }

get_kept : (rule : JudgeRule) → Keeps rule get_begun
get_kept = all_kept get_begun (tt, tt) (begins_one, tt) (tt, tt)

insert_kept : (rule : JudgeRule) → Keeps rule insert_begun
insert_kept = all_kept insert_begun (tt, tt) (begins_one, tt) (tt, tt)

loaded_kept : (rule : JudgeRule) → Keeps rule (Load 1 0 0 ∷ get_begun)
loaded_kept = all_kept (Load 1 0 0 ∷ get_begun) (refl, (tt, tt)) (get_open, (begins_one, tt)) (tt, (tt, tt))

cut_kept : (rule : JudgeRule) → Keeps rule (Cut ∷ [])
cut_kept = all_kept (Cut ∷ []) (tt, tt) (not_off, tt) (tt, tt)

-- an insert that took effect
done_once : CallsOnce power.On no_pairs insert_done
done_once = (
  (
    tt,
    record {
      opened = record { number = 1; call = Insert a_key []; begun = 0; effect = None };
      is_open = refl;
      number = refl;
      once = refl;
      changes = subst (λ (answer : Option Answer). IsChange answer) (sym insert_adds) tt;
    },
  ),
  (insert_open, (begins_one, tt)),
)

done_kept : (rule : JudgeRule) → Keeps rule insert_done
done_kept = all_kept insert_done (tt, (tt, (tt, tt))) done_once (tt, (tt, (tt, tt)))

-- an End with another number
other_end : (o : Open) → Some (record { number = 1; call = Get a_key; begun = 0; effect = None }) ≡ Some o → o.number ≡ 2 → ⊥
other_end o is number = omega (arith, ap (λ (x : Open). x.number) (some_same (record { number = 1; call = Get a_key; begun = 0; effect = None }) o is), number)

-- descriptors and pages
abbrev insert_one : Open
insert_one = record { number = 1; call = Insert a_key []; begun = 0; effect = None }

abbrev page_one : Open
page_one = record { number = 1; call = kind.Page a_key; begun = 0; effect = None }

none_spent : count_taken small (since_on insert_begun) + count_others small 1 insert_begun ≡ 0
none_spent = refl

taken_spent : count_taken small (since_on (Store 1 16 1 ∷ insert_begun)) + count_others small 1 (Store 1 16 1 ∷ insert_begun) ≡ 1
taken_spent = refl

held_spent : count_taken small (since_on two_begun) + count_others small 1 two_begun ≡ 1
held_spent = refl

page_kept : (rule : JudgeRule) → Keeps rule page_begun
page_kept = all_kept page_begun (tt, tt) (begins_one, tt) (tt, tt)

page_open : HasOpenCall page_begun 1
page_open = record { opened = page_one; is_open = refl }

page_loaded : (rule : JudgeRule) → Keeps rule (Load 1 0 0 ∷ page_begun)
page_loaded = all_kept (Load 1 0 0 ∷ page_begun) (refl, (tt, tt)) (page_open, (begins_one, tt)) (tt, (tt, tt))

begins_two : BeginsPowered power.On insert_begun 2 1
begins_two = record { worker = omega arith; powered = refl; begins = record { numbered = refl; none_open = refl } }

pub worked_verdicts : WorkedVerdicts
worked_verdicts = record {
  none = all_kept [] tt tt tt;
  asked = loaded_kept;
  ended = all_kept (End 1 1 Missing 2 ∷ Load 1 0 0 ∷ get_begun) (tt, (refl, (tt, tt)))
      (record { opened = record { number = 1; call = Get a_key; begun = 0; effect = None }; is_open = refl; number = refl }, (get_open, (begins_one, tt)))
      (record { after_begin = omega arith; before_end = omega arith; right = record { loaded = refl; answers = record { answers = get_misses; stays = get_stays } } }, (tt, (tt, tt)));
  other_word = record {
    within = omega arith;
    outer = at_end (Load 1 0 5 ∷ get_begun) 2 (omega arith);
    before = before_two (Load 1 0 5 ∷ get_begun) get_kept;
    this = breaks_truth (Load 1 0 5 ∷ get_begun) (λ h. other 0 5 refl refl h.0);
  };
  other_found = record {
    within = omega arith;
    outer = at_end (Cas 1 0 5 6 5 ∷ get_begun) 2 (omega arith);
    before = before_two (Cas 1 0 5 6 5 ∷ get_begun) get_kept;
    this = breaks_truth (Cas 1 0 5 6 5 ∷ get_begun) (λ h. other 0 5 refl refl h.0);
  };
  no_call = record {
    within = omega arith;
    outer = at_end (Load 1 0 0 ∷ []) 1 (omega arith);
    before = before_one (Load 1 0 0 ∷ []);
    this = breaks_calls (Load 1 0 0 ∷ []) (refl, tt) (λ h. none_some h.0.opened h.0.is_open);
  };
  both = record {
    within = omega arith;
    outer = at_end (Load 1 0 5 ∷ []) 1 (omega arith);
    before = before_one (Load 1 0 5 ∷ []);
    this = breaks_truth (Load 1 0 5 ∷ []) (λ h. other 0 5 refl refl h.0);
  };
  second = record {
    within = omega arith;
    outer = at_end (Begin 1 2 (Get a_key) ∷ []) 1 (omega arith);
    before = before_one (Begin 1 2 (Get a_key) ∷ []);
    this = breaks_calls (Begin 1 2 (Get a_key) ∷ []) (tt, tt) (λ h. omega (arith, h.0.begins.numbered));
  };
  recovery = record {
    within = omega arith;
    outer = at_end (Begin 0 1 (Get a_key) ∷ []) 1 (omega arith);
    before = before_one (Begin 0 1 (Get a_key) ∷ []);
    this = breaks_calls (Begin 0 1 (Get a_key) ∷ []) (tt, tt) (λ h. omega (arith, h.0.worker));
  };
  beside = record {
    within = omega arith;
    outer = at_end (Begin 1 2 (Get a_key) ∷ get_begun) 2 (omega arith);
    before = before_two (Begin 1 2 (Get a_key) ∷ get_begun) get_kept;
    this = breaks_calls (Begin 1 2 (Get a_key) ∷ get_begun) (tt, (tt, tt)) (λ h. none_some (record { number = 1; call = Get a_key; begun = 0; effect = None }) (sym h.0.begins.none_open));
  };
  other_number = record {
    within = omega arith;
    outer = at_end (End 1 2 Missing 1 ∷ get_begun) 2 (omega arith);
    before = before_two (End 1 2 Missing 1 ∷ get_begun) get_kept;
    this = breaks_calls (End 1 2 Missing 1 ∷ get_begun) (tt, (tt, tt)) (λ h. other_end h.0.opened h.0.is_open h.0.number);
  };
  twice_on = record {
    within = omega arith;
    outer = at_end (On ∷ []) 1 (omega arith);
    before = before_one (On ∷ []);
    this = breaks_calls (On ∷ []) (tt, tt) (λ h. not_off h.0);
  };
  not_recovering = record {
    within = omega arith;
    outer = at_end (Ready ∷ []) 1 (omega arith);
    before = before_one (Ready ∷ []);
    this = breaks_calls (Ready ∷ []) (tt, tt) (λ h. h.0);
  };
  dark = record {
    within = omega arith;
    outer = at_end (Evict 0 ∷ Cut ∷ []) 2 (omega arith);
    before = before_two (Evict 0 ∷ Cut ∷ []) cut_kept;
    this = breaks_calls (Evict 0 ∷ Cut ∷ []) (tt, (tt, tt)) (λ h. h.0 refl);
  };
  effect = record {
    within = omega arith;
    outer = at_end (Effect 1 1 ∷ Load 1 0 0 ∷ insert_begun) 3 (omega arith);
    before = before_three (Effect 1 1 ∷ Load 1 0 0 ∷ insert_begun) insert_kept (omega arith, (1, 1, refl));
    this = breaks_calls (Effect 1 1 ∷ Load 1 0 0 ∷ insert_begun) (tt, (refl, (tt, tt))) (λ h. h.0.0);
  };
  inner = record {
    within = omega arith;
    outer = at_end (Effect 1 1 ∷ Load 1 0 5 ∷ insert_begun) 3 (omega arith);
    before = before_three (Effect 1 1 ∷ Load 1 0 5 ∷ insert_begun) insert_kept (omega arith, (1, 1, refl));
    this = breaks_truth (Effect 1 1 ∷ Load 1 0 5 ∷ insert_begun) (λ h. other 0 5 refl refl h.1.0);
  };
  first = record {
    within = omega arith;
    outer = λ inner. no_effect 1 0 5 inner.1.0 inner.1.1 inner.1.2;
    before = before_one (Load 1 0 5 ∷ Load 1 0 0 ∷ []);
    this = breaks_calls (Load 1 0 0 ∷ []) (refl, tt) (λ h. none_some h.0.opened h.0.is_open);
  };
  other_reply = record {
    within = omega arith;
    outer = at_end (End 1 1 Exists 2 ∷ Load 1 0 0 ∷ get_begun) 3 (omega arith);
    before = before_three_all (End 1 1 Exists 2 ∷ Load 1 0 0 ∷ get_begun) get_kept loaded_kept;
    this = breaks_reply (End 1 1 Exists 2 ∷ Load 1 0 0 ∷ get_begun) (tt, (refl, (tt, tt)))
        (record { opened = record { number = 1; call = Get a_key; begun = 0; effect = None }; is_open = refl; number = refl }, (get_open, (begins_one, tt)))
        (λ h. not_exists (sym get_misses ∙ h.0.right.answers.answers));
  };
  unread = record {
    within = omega arith;
    outer = at_end (End 1 1 Missing 1 ∷ get_begun) 2 (omega arith);
    before = before_two (End 1 1 Missing 1 ∷ get_begun) get_kept;
    this = breaks_reply (End 1 1 Missing 1 ∷ get_begun) (tt, (tt, tt))
        (record { opened = record { number = 1; call = Get a_key; begun = 0; effect = None }; is_open = refl; number = refl }, (begins_one, tt)) (λ h. h.0.right.loaded);
  };
  early = record {
    within = omega arith;
    outer = at_end (End 1 1 Missing 0 ∷ Load 1 0 0 ∷ get_begun) 3 (omega arith);
    before = before_three_all (End 1 1 Missing 0 ∷ Load 1 0 0 ∷ get_begun) get_kept loaded_kept;
    this = breaks_reply (End 1 1 Missing 0 ∷ Load 1 0 0 ∷ get_begun) (tt, (refl, (tt, tt)))
        (record { opened = record { number = 1; call = Get a_key; begun = 0; effect = None }; is_open = refl; number = refl }, (get_open, (begins_one, tt)))
        (λ h. omega (arith, h.0.after_begin));
  };
  done = all_kept (End 1 1 Inserted 2 ∷ insert_done) (tt, (tt, (tt, (tt, tt))))
      (record { opened = record { number = 1; call = Insert a_key []; begun = 0; effect = Some 2 }; is_open = refl; number = refl }, done_once)
      (record { after_begin = omega arith; before_end = omega arith; right = record { moment = refl; answers = insert_adds } }, (tt, (tt, (tt, tt))));
  late = record {
    within = omega arith;
    outer = at_end (End 1 1 Inserted 3 ∷ insert_done) 4 (omega arith);
    before = before_four (End 1 1 Inserted 3 ∷ insert_done) insert_kept (omega arith, (1, 1, refl)) done_kept;
    this = breaks_reply (End 1 1 Inserted 3 ∷ insert_done) (tt, (tt, (tt, (tt, tt))))
        (record { opened = record { number = 1; call = Insert a_key []; begun = 0; effect = Some 2 }; is_open = refl; number = refl }, done_once) (λ h. omega (arith, h.0.right.moment));
  };
  full = all_kept (End 1 1 (Full Nodes) 1 ∷ insert_begun) (tt, (tt, tt))
      (record { opened = record { number = 1; call = Insert a_key []; begun = 0; effect = None }; is_open = refl; number = refl }, (begins_one, tt))
      (record { after_begin = omega arith; before_end = omega arith; right = record { now = refl; writes = tt; cause = tt } }, (tt, tt));
  full_get = record {
    within = omega arith;
    outer = at_end (End 1 1 (Full Nodes) 1 ∷ get_begun) 2 (omega arith);
    before = before_two (End 1 1 (Full Nodes) 1 ∷ get_begun) get_kept;
    this = breaks_reply (End 1 1 (Full Nodes) 1 ∷ get_begun) (tt, (tt, tt))
        (record { opened = record { number = 1; call = Get a_key; begun = 0; effect = None }; is_open = refl; number = refl }, (begins_one, tt)) (λ h. h.0.right.writes);
  };
  full_swaps = record {
    within = omega arith;
    outer = at_end (End 1 1 (Full Swaps) 1 ∷ insert_begun) 2 (omega arith);
    before = before_two (End 1 1 (Full Swaps) 1 ∷ insert_begun) insert_kept;
    this = breaks_reply (End 1 1 (Full Swaps) 1 ∷ insert_begun) (tt, (tt, tt)) (record { opened = insert_one; is_open = refl; number = refl }, (begins_one, tt)) (λ h. omega (arith, h.0.right.cause, none_spent));
  };
  full_taken = all_kept (End 1 1 (Full Swaps) 2 ∷ Store 1 16 1 ∷ insert_begun) (tt, (tt, (tt, tt)))
      (record { opened = insert_one; is_open = refl; number = refl }, (insert_open, (begins_one, tt)))
      (record { after_begin = omega arith; before_end = omega arith; right = record { now = refl; writes = tt; cause = omega (arith, taken_spent) } }, (tt, (tt, tt)));
  full_held = all_kept (End 1 1 (Full Swaps) 2 ∷ two_begun) (tt, (tt, (tt, tt)))
      (record { opened = insert_one; is_open = refl; number = refl }, (begins_two, (begins_one, tt)))
      (record { after_begin = omega arith; before_end = omega arith; right = record { now = refl; writes = tt; cause = omega (arith, held_spent) } }, (tt, (tt, tt)));
  paged = all_kept (End 1 1 (Page 0 None) 2 ∷ Load 1 0 0 ∷ page_begun) (tt, (refl, (tt, tt)))
      (record { opened = page_one; is_open = refl; number = refl }, (page_open, (begins_one, tt)))
      (record { after_begin = omega arith; before_end = omega arith; right = record { asked = refl; loaded = refl; number = refl } }, (tt, (tt, tt)));
  other_page = record {
    within = omega arith;
    outer = at_end (End 1 1 (Page 1 None) 2 ∷ Load 1 0 0 ∷ page_begun) 3 (omega arith);
    before = before_three_all (End 1 1 (Page 1 None) 2 ∷ Load 1 0 0 ∷ page_begun) page_kept page_loaded;
    this = breaks_reply (End 1 1 (Page 1 None) 2 ∷ Load 1 0 0 ∷ page_begun) (tt, (refl, (tt, tt))) (record { opened = page_one; is_open = refl; number = refl }, (page_open, (begins_one, tt))) (λ h. omega (arith, h.0.right.number));
  };
  unread_page = record {
    within = omega arith;
    outer = at_end (End 1 1 (Page 0 None) 1 ∷ page_begun) 2 (omega arith);
    before = before_two (End 1 1 (Page 0 None) 1 ∷ page_begun) page_kept;
    this = breaks_reply (End 1 1 (Page 0 None) 1 ∷ page_begun) (tt, (tt, tt)) (record { opened = page_one; is_open = refl; number = refl }, (begins_one, tt)) (λ h. h.0.right.loaded);
  };
}
