-- What is taken for a call beside which no other is open.
use Rattle.std.proofs.Common.{◌≡◌, ◌≢◌, ◌⊎◌, ◌<◌, ◌≤◌, ◌==◌, if◌then◌else◌, ℕ, Bool, true, false, List, [], ◌∷◌, length, arith, refl, sym, ap, subst, ◌∙◌, inl, inr, Option, Some, None}
use Rattle.std.specs.Prelude.{option_map}
use Rattle.std.proofs.lemmas.Bool.{cases_eq, true≢false}
use Rattle.std.proofs.lemmas.Bool.Decides.{nat_tests}
use Rattle.bz_swap_acts.specs.declared.acted.Act.{Act}
use Rattle.bz_swap_acts.specs.declared.acted.Act.TheVariants as act
use Rattle.bz_call.specs.Map.{Map, apply, IsChange}
use Rattle.bz_call.specs.Pages.{is_page}
use Rattle.bz_call.specs.declared.calls.Call.{Call}
use Rattle.bz_call.specs.declared.calls.Call.TheVariants as call
use Rattle.bz_layout.specs.declared.config.Config.{Config}
use Rattle.bz_solo.specs.Errands.{is_freeze, is_read}
use Rattle.bz_mark.specs.Log.{Log, with_mark}
use Rattle.bz_mark.specs.Moments.{at_moment}
use Rattle.bz_mark.specs.declared.marks.Mark.{Mark}
use Rattle.bz_mark.specs.declared.marks.Mark.TheVariants.{Begin, End, Load, Store, Cas, Ask, Fence, Evict, Cut, On, Ready, Effect}
use Rattle.bz_mark.proofs.MomentLaws.{at_moment-now, at_moment-earlier}
use Rattle.bz_any_task.specs.Kinds as kinds
use Rattle.bz_any_task.specs.Kinds.{Kind, is_look}
use Rattle.bz_sound.specs.Calls.{Open, open_call, with_effect, map_after, map_at, map_with}
use Rattle.bz_sound.specs.Solitary.{IsSolitary, NoneIsOpenBesideASolitaryCall}
use Rattle.bz_sound.specs.Memory.Moments.{IsAfterFence, map_at_start}
use Rattle.bz_world.specs.Inside.Due.{TakesRightly, only_looks}
use Rattle.bz_world.specs.Inside.Paid.{Stock}
use Rattle.bz_world.specs.WorldView.{mark_of}
use Rattle.bz_world.specs.declared.serving.OpenCall.{OpenCall}

-- a task that only looks is a look-up
pub looks-only : (called : Call) (k : Kind) → only_looks called k ≡ true → is_look k ≡ true
looks-only called kinds.ReadWhole looks = refl
looks-only called k looks = looks

-- and no freeze
pub freezes-no-look : (called : Call) (k : Kind) → is_freeze k ≡ true → only_looks called k ≡ true → ⊥
freezes-no-look called kinds.Freeze freezes looks = absurd (true≢false (sym looks))
freezes-no-look called k freezes looks = absurd (true≢false (sym freezes))

-- a page changes nothing
pub page-reads : (called : Call) → is_page called ≡ true → is_read called ≡ true
page-reads (call.Page from) is = refl
page-reads called is = absurd (true≢false (sym is))

-- beside an open call no other is alone
pub not-solitary : NoneIsOpenBesideASolitaryCall → (w v : ℕ) (past : List Mark) (opened : Open) → open_call w past ≡ Some opened → v ≢ w → IsSolitary v past → ⊥
not-solitary alone w v past opened is-open ne solitary = let never : None ≡ Some opened = sym (alone v w past solitary (λ e. ne (sym e))) ∙ is-open in cc never

-- neither an act nor an eviction changes the map
pub act-map : (w : ℕ) (made : Act) (past : List Mark) (start : Map) → map_after start (mark_of w made ∷ past) ≡ map_after start past
act-map w (act.Load a v) past start = refl
act-map w (act.Store a v) past start = refl
act-map w (act.Cas a old new found) past start = refl
act-map w (act.Ask line) past start = refl
act-map w act.Fence past start = refl

pub flush-map : (mark : Mark) (past : List Mark) → IsAfterFence (mark ∷ past) → (start : Map) → map_after start (mark ∷ past) ≡ map_after start past
flush-map (Ask w line) past flush start = refl
flush-map (Fence w) past flush start = refl
flush-map (Evict a) past flush start = refl
flush-map mark past flush start = absurd flush

-- nor begins a call
pub flush-solitary : (w : ℕ) (mark : Mark) (past : List Mark) → IsAfterFence (mark ∷ past) → IsSolitary w (mark ∷ past) → IsSolitary w past
flush-solitary w (Ask v line) past flush solitary = solitary
flush-solitary w (Fence v) past flush solitary = solitary
flush-solitary w (Evict a) past flush solitary = solitary
flush-solitary w mark past flush solitary = absurd flush

-- a mark that does neither leaves what a call has taken
pub rightly-on : (c : Config) (taken later : ℕ) (log : Log) (mark : Mark) (stock : Stock) (w : ℕ) (x : OpenCall) → later ≡ taken → ((start : Map) → map_after start (mark ∷ log.past) ≡ map_after start log.past) → (IsSolitary w (mark ∷ log.past) → IsSolitary w log.past)
    → TakesRightly c taken log stock w x → TakesRightly c later (with_mark log mark) stock w x
rightly-on c taken later log mark stock w x same map-same solitary-before rightly quiet solitary = elim (rightly quiet (solitary-before solitary)) [
  | inl due ↦ inl (subst (λ (map : Map). IsChange (apply map x.call).reply) (sym (map-same (map_at_start c log.start))) due)
  | inr none ↦ inr (record { looks = none.looks; thawed = none.thawed; same_taken = same ∙ none.same_taken; same_left = none.same_left })
]

-- what an open call was before a mark of calls
open-end : (t : Bool) (o : Option Open) (opened : Open) → (if t then None else o) ≡ Some opened → o ≡ Some opened
open-end true o opened e = absurd (cc e)
open-end false o opened e = e

open-begin : (t : Bool) → t ≡ true → (new : Open) (o : Option Open) (opened : Open) → (if t then Some new else o) ≡ Some opened → opened ≡ new
open-begin true is new o opened e = let same : new ≡ opened = cc e in sym same
open-begin false is new o opened e = absurd (true≢false (sym is))

record IsOther (t : Bool) (o : Option Open) (opened : Open) : Type 0 where
  other : t ≡ false
  is_open : o ≡ Some opened

open-effect : (t : Bool) (moment : ℕ) (o : Option Open) (opened : Open) → (if t then option_map (with_effect moment) o else o) ≡ Some opened → opened.effect ≡ None → IsOther t o opened
open-effect false moment o opened e quiet = record { other = refl; is_open = e }
open-effect true moment None opened e quiet = absurd (cc e)
open-effect true moment (Some was) opened e quiet = absurd (let same : with_effect moment was ≡ opened = cc e in let never : Some moment ≡ None = ap (λ (z : Open). z.effect) same ∙ quiet in cc never)

-- of a call without effect beside which no other is open, the map is at each moment what it is now: where it was so before a mark, it is after it
abbrev IsStill : Map → ℕ → ℕ → List Mark → Open → Type 0
IsStill start w at past opened = IsSolitary w past → open_call w past ≡ Some opened → at ≤ length past → map_after start (at_moment at past) ≡ map_after start past

still-by : NoneIsOpenBesideASolitaryCall → (start : Map) (w at : ℕ) (past : List Mark) (opened : Open) (m : Mark) → opened.effect ≡ None → opened.begun < at → IsStill start w at past opened → IsSolitary w (m ∷ past) → open_call w (m ∷ past) ≡ Some opened → at ≤ length past
    → map_after start (at_moment at past) ≡ map_after start (m ∷ past)
still-by alone start w at past opened (Begin v n called) quiet after earlier was was-open l =
    let same : (v == w) ≡ true = grind (arith, nat_tests, was.0) in
    let begun : opened.begun ≡ length past = ap (λ (z : Open). z.begun) (open-begin (v == w) same (record { number = n; call = called; begun = length past; effect = None }) (open_call w past) opened was-open) in
    absurd (omega (arith, begun, after, l))
still-by alone start w at past opened (End v n reply moment) quiet after earlier was was-open l = earlier was (open-end (v == w) (open_call w past) opened was-open) l
still-by alone start w at past opened (Effect v n) quiet after earlier was was-open l =
    let before-it : IsOther (v == w) (open_call w past) opened = open-effect (v == w) (length past) (open_call w past) opened was-open quiet in
    let none : open_call v past ≡ None = alone w v past was (λ e. true≢false (sym (let t : (v == w) ≡ true = grind (arith, nat_tests, e) in t) ∙ before-it.other)) in
    earlier was before-it.is_open l ∙ ap (λ (o : Option Open). map_with o (map_after start past)) (sym none)
still-by alone start w at past opened Cut quiet after earlier was was-open l = absurd (cc was-open)
still-by alone start w at past opened (Load v a value) quiet after earlier was was-open l = earlier was was-open l
still-by alone start w at past opened (Store v a value) quiet after earlier was was-open l = earlier was was-open l
still-by alone start w at past opened (Cas v a old new found) quiet after earlier was was-open l = earlier was was-open l
still-by alone start w at past opened (Ask v line) quiet after earlier was was-open l = earlier was was-open l
still-by alone start w at past opened (Fence v) quiet after earlier was was-open l = earlier was was-open l
still-by alone start w at past opened (Evict a) quiet after earlier was was-open l = earlier was was-open l
still-by alone start w at past opened On quiet after earlier was was-open l = earlier was was-open l
still-by alone start w at past opened Ready quiet after earlier was was-open l = earlier was was-open l

pub map-still : NoneIsOpenBesideASolitaryCall → (start : Map) (w at : ℕ) (past : List Mark) (opened : Open) → IsSolitary w past → open_call w past ≡ Some opened → opened.effect ≡ None → opened.begun < at → at ≤ length past → map_at start at past ≡ map_after start past
map-still alone start w at [] opened solitary is-open quiet after before = absurd solitary
map-still alone start w at (mark ∷ past) opened solitary is-open quiet after before = elim (cases_eq at (length (mark ∷ past))) [
  | inl now ↦ ap (λ k. map_at start k (mark ∷ past)) now ∙ ap (map_after start) (at_moment-now (mark ∷ past))
  | inr ne ↦ ap (map_after start) (at_moment-earlier at mark past (omega (arith, ne, before)))
      ∙ still-by alone start w at past opened mark quiet after (λ was was-open l. map-still alone start w at past opened was was-open quiet after l) solitary is-open (omega (arith, ne, before))
]
