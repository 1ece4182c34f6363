-- Which moments Ends ask of: the table, and what it says after one mark more.
use Rattle.std.specs.Prelude.{◌≡◌, ◌≢◌, ◌<◌, ◌≤◌, ◌+◌, ◌-◌, ◌==◌, ◌↔◌, if◌then◌else◌, ℕ, zero, suc, Bool, true, false, List, ◌∷◌, length, replicate, slice_index, slice_set, Option, Some, None, IfSome}
use Rattle.std.proofs.Common.{arith, refl, sym, ap, ◌∙◌, subst, inl, inr}
use Rattle.std.proofs.lemmas.Bool.{cases_eq, cases_lt}
use Rattle.std.proofs.lemmas.Bool.Decides.{nat_tests}
use Rattle.std.proofs.lemmas.List.{get_or-set_same, get_or-set_other, length-set, length-replicate}
use Rattle.bz_mark.specs.declared.marks.Mark.{Mark}
use Rattle.bz_mark.specs.declared.marks.Mark.TheVariants.{Load}
use Rattle.bz_mark.specs.Moments.{at_moment, mark_at}
use Rattle.bz_mark.proofs.MomentLaws.{at_moment-next}
use Rattle.bz_sound.specs.Memory.Moments.{IsAfterLoad}
use Rattle.bz_check.proofs.Following.{false_true, none_some, some_same, eq_of}
use Rattle.bz_check.proofs.Judging.{none_yet}
use Rattle.bz_verdict.specs.Questions.{is_load_of, page_read, Asks, AsksFirst, AreAsked, noted}

pub same_test : (a b : ℕ) → a ≡ b → (a == b) ≡ true
same_test a b h = grind (arith, nat_tests)

-- the mark before a moment
newest_load : (w : ℕ) (past : List Mark) (mark : Mark) → is_load_of w mark ≡ true ↔ IsAfterLoad w (mark ∷ past)
newest_load w past (Load v a value) = (λ h. eq_of v w h, λ e. same_test v w e)
newest_load w past mark = (λ h. false_true h, λ h. absurd h)

pub not_at_first : (w at : ℕ) (past : List Mark) → at ≡ 0 → IsAfterLoad w (at_moment at past) → ⊥
not_at_first w at past none h = subst (λ (marks : List Mark). IsAfterLoad w marks) (ap (λ (n : ℕ). at_moment n past) none ∙ none_yet past) h

pub load_decides : (w at : ℕ) (past : List Mark) (mark : Mark) (test : Bool) → 0 < at → at ≤ length past → mark_at (at - 1) past ≡ Some mark → test ≡ is_load_of w mark → test ≡ true ↔ IsAfterLoad w (at_moment at past)
load_decides w at past mark test some within is told =
    let now : at ≡ at - 1 + 1 = omega arith in
    let next : at_moment at past ≡ mark ∷ at_moment (at - 1) past = ap (λ (k : ℕ). at_moment k past) now ∙ at_moment-next (at - 1) mark past is (omega arith) in (
      λ h. subst (λ (marks : List Mark). IsAfterLoad w marks) (sym next) ((newest_load w (at_moment (at - 1) past) mark).0 (sym told ∙ h)),
      λ h. told ∙ (newest_load w (at_moment (at - 1) past) mark).1 (subst (λ (marks : List Mark). IsAfterLoad w marks) next h),
    )

-- what a mark asks
asked_is : (past : List Mark) (e at : ℕ) (mark : Mark) (read : ℕ × ℕ) → mark_at e past ≡ Some mark → page_read mark ≡ Some read → (a : Asks past e at) → Some (a.worker, at) ≡ Some read
asked_is past e at mark read is reads a =
    let same : a.mark ≡ mark = some_same a.mark mark (sym a.is ∙ is) in
    sym a.names ∙ ap page_read same ∙ reads

pair_same : (x y : ℕ × ℕ) → Some x ≡ Some y → x ≡ y
pair_same x y e = some_same x y e

asked_moment : (past : List Mark) (e at : ℕ) (mark : Mark) (read : ℕ × ℕ) → mark_at e past ≡ Some mark → page_read mark ≡ Some read → Asks past e at → at ≡ read.1
asked_moment past e at mark read is reads a = ap (λ (x : ℕ × ℕ). x.1) (pair_same (a.worker, at) read (asked_is past e at mark read is reads a))

asked_worker : (past : List Mark) (e at : ℕ) (mark : Mark) (read : ℕ × ℕ) → mark_at e past ≡ Some mark → page_read mark ≡ Some read → (a : Asks past e at) → a.worker ≡ read.0
asked_worker past e at mark read is reads a = ap (λ (x : ℕ × ℕ). x.0) (pair_same (a.worker, at) read (asked_is past e at mark read is reads a))

none_asked : (past : List Mark) (e : ℕ) → ((at : ℕ) → Asks past e at → ⊥) → (at : ℕ) → Asks past e at ↔ None ≡ Some at
none_asked past e never at = (λ a. absurd (never at a), λ e. absurd (none_some at e))

pub asks_nothing : (past : List Mark) (e : ℕ) (mark : Mark) (read : Option (ℕ × ℕ)) → mark_at e past ≡ Some mark → read ≡ page_read mark → read ≡ None → (at : ℕ) → Asks past e at ↔ None ≡ Some at
asks_nothing past e mark read is reads none = none_asked past e (λ at a.
    let same : a.mark ≡ mark = some_same a.mark mark (sym a.is ∙ is) in
    let pair : ℕ × ℕ = (a.worker, at) in
    none_some pair (sym none ∙ reads ∙ sym (ap page_read same) ∙ a.names))

pub asks_late : (past : List Mark) (e : ℕ) (mark : Mark) (read : ℕ × ℕ) → mark_at e past ≡ Some mark → page_read mark ≡ Some read → e < read.1 → (at : ℕ) → Asks past e at ↔ None ≡ Some at
asks_late past e mark read is reads late = none_asked past e (λ at a. absurd (omega (arith, asked_moment past e at mark read is reads a, a.before)))

pub asks_unread : (past : List Mark) (e : ℕ) (mark : Mark) (read : ℕ × ℕ) → mark_at e past ≡ Some mark → page_read mark ≡ Some read → (IsAfterLoad read.0 (at_moment read.1 past) → ⊥) → (at : ℕ) → Asks past e at ↔ None ≡ Some at
asks_unread past e mark read is reads unread = none_asked past e (λ at a.
    unread (subst (λ (n : ℕ). IsAfterLoad n (at_moment read.1 past)) (asked_worker past e at mark read is reads a)
    (subst (λ (n : ℕ). IsAfterLoad a.worker (at_moment n past)) (asked_moment past e at mark read is reads a) a.loaded)))

pub asks_there : (past : List Mark) (e : ℕ) (mark : Mark) (read : ℕ × ℕ) → e < length past → mark_at e past ≡ Some mark → page_read mark ≡ Some read → read.1 ≤ e → IsAfterLoad read.0 (at_moment read.1 past) → (at : ℕ)
    → Asks past e at ↔ Some read.1 ≡ Some at
asks_there past e mark read within is reads before loaded at = (
  λ a. ap (λ (n : ℕ). Some n) (sym (asked_moment past e at mark read is reads a)),
  λ same. subst (λ (n : ℕ). Asks past e n) (some_same read.1 at same) (record { within = within; mark = mark; is = is; worker = read.0; names = reads; before = before; loaded = loaded }),
)

-- the table
set_same : (words : List ℕ) (x v : ℕ) → x < length words → slice_index (slice_set words x v) x ≡ v
set_same words x v lt = get_or-set_same words x v 0 lt

set_other : (words : List ℕ) (x v s : ℕ) → s ≢ x → slice_index (slice_set words x v) s ≡ slice_index words s
set_other words x v s ne = get_or-set_other words x s v 0 ne

zeros : (n s : ℕ) → slice_index (replicate n 0) s ≡ 0
zeros zero s = refl
zeros (suc n) zero = refl
zeros (suc n) (suc s) = zeros n s

pub none_asked_yet : (past : List Mark) (asked : List ℕ) (n : ℕ) → n ≡ length past + 1 → asked ≡ replicate n 0 → AreAsked past 0 asked
none_asked_yet past asked n size is = subst (λ (all : List ℕ). AreAsked past 0 all) (sym is) (record {
  size = length-replicate {A = ℕ} n 0 ∙ size;
  none = λ at e z lt a. omega arith;
  some = λ at e more. absurd (omega (arith, zeros n at, more));
  few = λ at. omega (arith, zeros n at);
})

-- a mark that asks nothing, or of a moment that was noted before
same_table : (past : List Mark) (e : ℕ) (asked : List ℕ) → ((at : ℕ) → slice_index asked at ≡ 0 → Asks past e at → ⊥) → AreAsked past e asked → AreAsked past (e + 1) asked
same_table past e asked never t = record {
  size = t.size;
  none = λ at f z lt a. elim (cases_lt f e) [
    | inl earlier ↦ t.none at f z earlier a
    | inr late ↦ let now : f ≡ e = omega arith in never at z (subst (λ (n : ℕ). Asks past n at) now a)
  ];
  some = t.some;
  few = λ at. omega (arith, t.few at);
}

-- and one that is the first to ask of a moment
new_table : (past : List Mark) (e m : ℕ) (asked : List ℕ) → m < length asked → ((at : ℕ) → Asks past e at ↔ Some m ≡ Some at) → slice_index asked m ≡ 0 → AreAsked past e asked → AreAsked past (e + 1) (slice_set asked m (e + 1))
new_table past e m asked lt asks z t = record {
  size = length-set asked m (e + 1) ∙ t.size;
  none = λ at f zero lt a. elim (cases_eq at m) [
    | inl here ↦ absurd (omega (arith, set_same asked m (e + 1) place, ap (λ (n : ℕ). slice_index (slice_set asked m (e + 1)) n) here, zero))
    | inr apart ↦ elim (cases_lt f e) [
      | inl earlier ↦ t.none at f (sym (set_other asked m (e + 1) at apart) ∙ zero) earlier a
      | inr late ↦ let now : f ≡ e = omega arith in apart (sym (some_same m at ((asks at).0 (subst (λ (n : ℕ). Asks past n at) now a))))
    ]
  ];
  some = λ at f more. elim (cases_eq at m) [
    | inl here ↦
        let now : e ≡ f = omega (arith, set_same asked m (e + 1) place, ap (λ (n : ℕ). slice_index (slice_set asked m (e + 1)) n) here, more) in
        subst (λ (n : ℕ). AsksFirst past n at) now (subst (λ (n : ℕ). AsksFirst past e n) (sym here) (record { asks = (asks m).1 refl; first = λ g less a. t.none m g z less a }))
    | inr apart ↦ t.some at f (sym (set_other asked m (e + 1) at apart) ∙ more)
  ];
  few = λ at. elim (cases_eq at m) [
    | inl here ↦ omega (arith, set_same asked m (e + 1) place, ap (λ (n : ℕ). slice_index (slice_set asked m (e + 1)) n) here)
    | inr apart ↦ omega (arith, set_other asked m (e + 1) at apart, t.few at)
  ];
}
  where
    place : m < length asked
    place = lt

noted_by : (past : List Mark) (e m : ℕ) (asked : List ℕ) (b : Bool) → (slice_index asked m == 0) ≡ b → m < length asked → ((at : ℕ) → Asks past e at ↔ Some m ≡ Some at) → AreAsked past e asked
    → AreAsked past (e + 1) (if b then slice_set asked m (e + 1) else asked)
noted_by past e m asked true is lt asks t = new_table past e m asked lt asks (eq_of (slice_index asked m) 0 is) t
noted_by past e m asked false is lt asks t = same_table past e asked (λ at z a.
    let here : m ≡ at = some_same m at ((asks at).0 a) in
    false_true (sym is ∙ same_test (slice_index asked m) 0 (ap (λ (n : ℕ). slice_index asked n) here ∙ z))) t

pub noted_more : (past : List Mark) (e : ℕ) (asked new : List ℕ) (o : Option ℕ) → IfSome o (λ m. m < length asked) → ((at : ℕ) → Asks past e at ↔ o ≡ Some at) → new ≡ noted asked o e → AreAsked past e asked → AreAsked past (e + 1) new
noted_more past e asked new None within asks is t = subst (λ (all : List ℕ). AreAsked past (e + 1) all) (sym is) (same_table past e asked (λ at z a. none_some at ((asks at).0 a)) t)
noted_more past e asked new (Some m) within asks is t = subst (λ (all : List ℕ). AreAsked past (e + 1) all) (sym is) (noted_by past e m asked (slice_index asked m == 0) refl within asks t)

pub noted_within : (o : Option ℕ) (e size : ℕ) → IfSome o (λ at. at ≤ e) → e < size → IfSome o (λ at. at < size)
noted_within None e size h lt = tt
noted_within (Some at) e size h lt = omega arith

-- the first End that asks of a moment is the one that is noted
one_first : (past : List Mark) (at e f : ℕ) → AsksFirst past e at → AsksFirst past f at → e ≡ f
one_first past at e f one other = elim (cases_lt e f) [
  | inl less ↦ absurd (other.first e less one.asks)
  | inr le ↦ elim (cases_lt f e) [
    | inl less ↦ absurd (one.first f less other.asks)
    | inr ge ↦ omega arith
  ]
]

first_by : (past : List Mark) (asked : List ℕ) (at e q : ℕ) → slice_index asked at ≡ q → AreAsked past (length past) asked → AsksFirst past e at → slice_index asked at ≡ e + 1
first_by past asked at e zero is t f = absurd (t.none at e is f.asks.within f.asks)
first_by past asked at e (suc k) is t f =
    let named : slice_index asked at ≡ k + 1 = omega (arith, is) in
    let same : k ≡ e = one_first past at k e (t.some at k named) f in
    named ∙ ap (λ (n : ℕ). n + 1) same

pub first_noted : (past : List Mark) (asked : List ℕ) (at e : ℕ) → AreAsked past (length past) asked → AsksFirst past e at → slice_index asked at ≡ e + 1
first_noted past asked at e t f = first_by past asked at e (slice_index asked at) refl t f

-- what is left of a question
marked : (past : List Mark) (question e : ℕ) (mark here : Mark) → question ≡ e + 1 → mark_at e past ≡ Some mark → mark_at (question - 1) past ≡ Some here → here ≡ mark
marked past question e mark here is there found =
    let same : question - 1 ≡ e = omega arith in
    some_same here mark (sym found ∙ ap (λ (n : ℕ). mark_at n past) same ∙ there)

pub question_kept : (past : List Mark) (question e : ℕ) (mark here : Mark) (P : Mark → Type 0) (test : Bool) → question ≡ e + 1 → mark_at e past ≡ Some mark → mark_at (question - 1) past ≡ Some here → (test ≡ true ↔ P here) → test ≡ true → question ≡ e + 1 ↔ P mark
question_kept past question e mark here P test is there found two yes_ = (λ h. subst P (marked past question e mark here is there found) (two.0 yes_), λ h. is)

pub question_struck : (past : List Mark) (question e : ℕ) (mark here : Mark) (P : Mark → Type 0) (test : Bool) → question ≡ e + 1 → mark_at e past ≡ Some mark → mark_at (question - 1) past ≡ Some here → (test ≡ true ↔ P here) → test ≡ false → 0 ≡ e + 1 ↔ P mark
question_struck past question e mark here P test is there found two no_ = (λ h. absurd (omega arith), λ h. absurd (false_true (sym no_ ∙ two.1 (subst P (sym (marked past question e mark here is there found)) h))))
