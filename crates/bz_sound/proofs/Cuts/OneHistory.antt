-- The calls of a sound journal are one history of one map, whatever the power does and whatever causes a Full.
use Rattle.std.proofs.Common.{◌≡◌, ◌≤◌, ◌<◌, ◌+◌, ◌-◌, ◌⊎◌, ℕ, false, List, [], ◌∷◌, length, get_or, refl, sym, ap, ◌∙◌, subst, inl, inr, arith, Option, Some, None}
use Rattle.std.proofs.lemmas.Option.{slice_get-get_or}
use Rattle.bz_layout.specs.declared.config.Config.{Config}
use Rattle.bz_call.specs.Map.{Map, apply}
use Rattle.bz_call.specs.Pages.{names_page}
use Rattle.bz_call.specs.declared.calls.Call.{Call}
use Rattle.bz_call.specs.declared.replies.Reply.{Reply}
use Rattle.bz_call.specs.declared.replies.Reply.TheVariants.{Page, Full}
use Rattle.bz_call.specs.declared.replies.Spent.{Spent}
use Rattle.bz_mark.specs.Log.{Log}
use Rattle.bz_mark.specs.Moments.{at_moment, mark_at}
use Rattle.bz_mark.proofs.MomentLaws.{at_moment-next, length-at_moment, mark_at-at_moment}
use Rattle.bz_mark.specs.declared.marks.Mark.{Mark}
use Rattle.bz_mark.specs.declared.marks.Mark.TheVariants.{End, Load, Cut, Effect}
use Rattle.bz_sound.specs.Calls.{Open, open_call, map_after, map_at, map_with}
use Rattle.bz_sound.specs.Replies.{Pages}
use Rattle.bz_sound.specs.Memory.History.{Happening, IsNoFull, EndedCall, EndHappens, ShowsRange, SameCall}
use Rattle.bz_sound.specs.Memory.Moments.{map_at_start, IsAfterLoad}
use Rattle.bz_sound.specs.Memory.Replies.{Answer, IsRightReplyBy, HasRightReplyBy, IsAnswerBy}
use Rattle.bz_sound.specs.Power.History.{PendingCall, Happens, IsOneHistory, OneHistory}
use Rattle.bz_sound.specs.Power.Spent.{IsSpent}
use Rattle.bz_sound.proofs.Cuts.Happened.{Took, happened}
use Rattle.bz_sound.proofs.Memory.Acknowledged.{HasEffect, has-effect}
use Rattle.bz_sound.proofs.Memory.Between.{at_moment-twice, StaysOpen, open-between}
use Rattle.bz_sound.proofs.Memory.Ended.{IsInside, inside}
use Rattle.bz_sound.proofs.Memory.Marks.{each-at, each-before}
use Rattle.bz_sound.proofs.Memory.NeverTold.{never-page}
use Rattle.bz_sound.proofs.Memory.Settled.{not-both, after-fence}
use Rattle.bz_sound.proofs.Memory.Standing.{MayStand, CallsStand, Stands, powered-stands}

-- a call that happened directly after a load leaves the map as it is
record IsQuietly (start : Map) (past : List Mark) (w at : ℕ) (call : Call) : Type 0 where
  pub loaded : IsAfterLoad w (at_moment at past)
  pub stays : (apply (map_at start at past) call).map ≡ map_at start at past

-- where a call that happened stands: it is open at its moment, and its moment is one before now
record IsPlaced (start : Map) (past : List Mark) (h : Happening) : Type 0 where
  pub after_begin : h.opened.begun < h.at
  pub before_now : h.at < length past
  pub stays : StaysOpen past h.worker h.opened h.at
  pub how : (mark_at h.at past ≡ Some (Effect h.worker h.opened.number)) ⊎ IsQuietly start past h.worker h.at h.opened.call

-- an answer that is no Full is one of an Effect or after a load
answered : (Cause : Spent → Type 0) (c : Config) (start : List ℕ) (pages : Pages) (past : List Mark) (answer : Answer) (effect : Option ℕ) (reply : Reply) → IsNoFull reply
    → IsAnswerBy Cause c start pages past answer effect reply → (effect ≡ Some answer.at) ⊎ IsQuietly (map_at_start c start) past answer.worker answer.at answer.opened.call
answered Cause c start pages past answer (Some effect) reply full h = inl (ap Some (sym h.moment))
answered Cause c start pages past answer None (Page page next) full h =
    inr (record { loaded = h.loaded; stays = subst (λ (call : Call). (apply (map_at (map_at_start c start) answer.at past) call).map ≡ map_at (map_at_start c start) answer.at past) (sym h.asked) refl })
answered Cause c start pages past answer None (Full spent) full h = absurd full
answered Cause c start pages past answer None reply full h = inr (record { loaded = h.loaded; stays = h.answers.stays })

-- the right reply of an ended call
right-reply : (Cause : List Mark → ℕ → Open → Spent → Type 0) (c : Config) (log : Log) (h : Happening) (moment : ℕ) (reply : Reply) → Stands Cause c log → EndedCall log.past h moment reply
    → IsRightReplyBy (Cause (at_moment moment log.past) h.worker h.opened) c log.start log.pages (at_moment moment log.past) (record { worker = h.worker; opened = h.opened; reply = reply; at = h.at })
right-reply Cause c log h moment reply stands e =
    let right = each-at (HasRightReplyBy Cause c log.start log.pages) log.past moment (End h.worker h.opened.number reply h.at) stands.replies e.within e.ends in
    rw e.is_open at right

ended-placed : (Cause : List Mark → ℕ → Open → Spent → Type 0) (c : Config) (log : Log) (h : Happening) (moment : ℕ) (reply : Reply) → Stands Cause c log → EndedCall log.past h moment reply → IsPlaced (map_at_start c log.start) log.past h
ended-placed Cause c log h moment reply stands e =
    let right = right-reply Cause c log h moment reply stands e in
    let size : length (at_moment moment log.past) ≡ moment = length-at_moment moment log.past (omega (arith, e.within)) in
    let before : h.at ≤ moment = omega (arith, size, right.before_end) in
    let within : moment ≤ length log.past = omega (arith, e.within) in
    let twice : at_moment h.at (at_moment moment log.past) ≡ at_moment h.at log.past = at_moment-twice h.at moment log.past before within in
    let opened : StaysOpen (at_moment moment log.past) h.worker h.opened h.at = open-between h.worker (at_moment moment log.past) h.opened h.at e.is_open right.after_begin right.before_end in
    record {
      after_begin = right.after_begin;
      before_now = omega (arith, e.within);
      stays = record { then_open = opened.then_open; is_open = ap (open_call h.worker) (sym twice) ∙ opened.is_open; number = opened.number; call = opened.call };
      how = elim (answered (Cause (at_moment moment log.past) h.worker h.opened) c log.start log.pages (at_moment moment log.past) (record { worker = h.worker; opened = h.opened; reply = reply; at = h.at }) h.opened.effect reply e.no_full right.right) [
        | inl took ↦
            let effect : HasEffect (at_moment moment log.past) h.worker h.opened h.at =
            has-effect (map_at_start c log.start) (at_moment moment log.past) h.worker h.opened h.at (each-before (MayStand (map_at_start c log.start)) moment log.past stands.once) e.is_open took in
            inl (sym (mark_at-at_moment h.at moment log.past (omega (arith, effect.before_now)) within) ∙ effect.mark)
        | inr quiet ↦ inr (record {
          loaded = subst (IsAfterLoad h.worker) twice quiet.loaded;
          stays = subst (λ (marks : List Mark). (apply (map_after (map_at_start c log.start) marks) h.opened.call).map ≡ map_after (map_at_start c log.start) marks) twice quiet.stays;
        })
      ];
    }

pending-placed : (Cause : List Mark → ℕ → Open → Spent → Type 0) (c : Config) (log : Log) (h : Happening) → Stands Cause c log → PendingCall log.past h → IsPlaced (map_at_start c log.start) log.past h
pending-placed Cause c log h stands p = record {
  after_begin = here.after_begin;
  before_now = omega (arith, within, size, here.before_now);
  stays = record { then_open = opened.then_open; is_open = ap (open_call h.worker) (sym twice) ∙ opened.is_open; number = opened.number; call = opened.call };
  how = inl (sym (mark_at-at_moment h.at p.pending.moment log.past (omega (arith, size, here.before_now)) within) ∙ effect.mark);
}
  where
    marks : List Mark
    marks = at_moment p.pending.moment log.past

    within : p.pending.moment ≤ length log.past
    within = elim p.pending.breaks [ inl now ↦ omega arith | inr (before, cut) ↦ omega arith ]

    size : length marks ≡ p.pending.moment
    size = length-at_moment p.pending.moment log.past within

    here : IsInside (length marks) h.opened h.at
    here = inside h.worker marks h.opened h.at p.pending.is_open p.took

    opened : StaysOpen marks h.worker h.opened h.at
    opened = open-between h.worker marks h.opened h.at p.pending.is_open here.after_begin (omega (arith, here.before_now))

    twice : at_moment h.at marks ≡ at_moment h.at log.past
    twice = at_moment-twice h.at p.pending.moment log.past (omega (arith, size, here.before_now)) within

    effect : HasEffect marks h.worker h.opened h.at
    effect = has-effect (map_at_start c log.start) marks h.worker h.opened h.at (each-before (MayStand (map_at_start c log.start)) p.pending.moment log.past stands.once) p.pending.is_open p.took

placed : (Cause : List Mark → ℕ → Open → Spent → Type 0) (c : Config) (log : Log) (h : Happening) → Stands Cause c log → Happens log.past h → IsPlaced (map_at_start c log.start) log.past h
placed Cause c log h stands happens = elim happens [ inl (moment, reply, e) ↦ ended-placed Cause c log h moment reply stands e | inr p ↦ pending-placed Cause c log h stands p ]

-- one load is of one worker
same-load : (v w : ℕ) (past : List Mark) → IsAfterLoad v past → IsAfterLoad w past → v ≡ w
same-load v w [] a b = absurd a
same-load v w (Load u address value ∷ past) a b = sym a ∙ b
same-load v w (mark ∷ past) a b = absurd a

-- no Effect comes directly after a load
no-effect : (start : Map) (past : List Mark) (at v w n : ℕ) → CallsStand start past → at < length past → IsAfterLoad v (at_moment at past) → mark_at at past ≡ Some (Effect w n) → ⊥
no-effect start past at v w n once h load is = not-both v (at_moment at past) load (after-fence start past at w n once h is)

-- two open calls of one worker at one moment are one
one-call : (past : List Mark) (h k : Happening) → h.worker ≡ k.worker → h.at ≡ k.at → StaysOpen past h.worker h.opened h.at → StaysOpen past k.worker k.opened k.at → h.opened.number ≡ k.opened.number
one-call past h k worker at a b =
    let both : Some a.then_open ≡ Some b.then_open = sym a.is_open ∙ ap (λ (u : ℕ). open_call u (at_moment h.at past)) worker ∙ ap (λ (m : ℕ). open_call k.worker (at_moment m past)) at ∙ b.is_open in
    let one : a.then_open ≡ b.then_open = cc in
    sym a.number ∙ ap (λ (o : Open). o.number) one ∙ b.number

alone : (Cause : List Mark → ℕ → Open → Spent → Type 0) (c : Config) (log : Log) (h k : Happening) → Stands Cause c log → Happens log.past h → Happens log.past k → h.at ≡ k.at → SameCall h k
alone Cause c log h k stands hh hk at = elim p.how [
  | inl effect ↦ elim q.how [
    | inl other ↦
        let both : Some (Effect h.worker h.opened.number) ≡ Some (Effect k.worker k.opened.number) = sym effect ∙ ap (λ (m : ℕ). mark_at m log.past) at ∙ other in
        record { worker = cc; number = cc }
    | inr quiet ↦ absurd (no-effect (map_at_start c log.start) log.past k.at k.worker h.worker h.opened.number stands.once q.before_now quiet.loaded (ap (λ (m : ℕ). mark_at m log.past) (sym at) ∙ effect))
  ]
  | inr quiet ↦ elim q.how [
    | inl effect ↦ absurd (no-effect (map_at_start c log.start) log.past h.at h.worker k.worker k.opened.number stands.once p.before_now quiet.loaded (ap (λ (m : ℕ). mark_at m log.past) at ∙ effect))
    | inr other ↦
        let worker : h.worker ≡ k.worker = same-load h.worker k.worker (at_moment h.at log.past) quiet.loaded (subst (λ (m : ℕ). IsAfterLoad k.worker (at_moment m log.past)) (sym at) other.loaded) in
        record { worker = worker; number = one-call log.past h k worker at p.stays q.stays }
  ]
]
  where
    p : IsPlaced (map_at_start c log.start) log.past h
    p = placed Cause c log h stands hh

    q : IsPlaced (map_at_start c log.start) log.past k
    q = placed Cause c log k stands hk

-- the map after a mark that is no Effect
same-map : (start : Map) (mark : Mark) (past : List Mark) → ((w n : ℕ) → mark ≡ Effect w n → ⊥) → map_after start (mark ∷ past) ≡ map_after start past
same-map start (Effect w n) past none = absurd (none w n refl)
same-map start mark past none = refl

-- the map of the next moment, where the mark between is no Effect
still-map : (start : Map) (past : List Mark) (moment : ℕ) → moment < length past → ((w n : ℕ) → mark_at moment past ≡ Some (Effect w n) → ⊥) → map_at start (moment + 1) past ≡ map_at start moment past
still-map start past moment h none =
    let mark = get_or past (length past - (moment + 1)) Cut in
    let is : mark_at moment past ≡ Some mark = slice_get-get_or past (length past - (moment + 1)) Cut (omega arith) in
    ap (map_after start) (at_moment-next moment mark past is h) ∙ same-map start mark (at_moment moment past) (λ w n same. none w n (is ∙ ap Some same))

-- and where it is the Effect of a call that is open
effect-map : (start : Map) (past : List Mark) (h : Happening) → h.at < length past → mark_at h.at past ≡ Some (Effect h.worker h.opened.number) → StaysOpen past h.worker h.opened h.at
    → map_at start (h.at + 1) past ≡ (apply (map_at start h.at past) h.opened.call).map
effect-map start past h within is stays =
    ap (map_after start) (at_moment-next h.at (Effect h.worker h.opened.number) past is within)
    ∙ ap (λ (o : Option Open). map_with o (map_at start h.at past)) stays.is_open
    ∙ ap (λ (call : Call). (apply (map_at start h.at past) call).map) stays.call

steps : (Cause : List Mark → ℕ → Open → Spent → Type 0) (c : Config) (log : Log) (h : Happening) → Stands Cause c log → Happens log.past h
    → map_at (map_at_start c log.start) (h.at + 1) log.past ≡ (apply (map_at (map_at_start c log.start) h.at log.past) h.opened.call).map
steps Cause c log h stands happens =
    let p : IsPlaced (map_at_start c log.start) log.past h = placed Cause c log h stands happens in
    elim p.how [
      | inl effect ↦ effect-map (map_at_start c log.start) log.past h p.before_now effect p.stays
      | inr quiet ↦ still-map (map_at_start c log.start) log.past h.at p.before_now
          (λ w n is. no-effect (map_at_start c log.start) log.past h.at h.worker w n stands.once p.before_now quiet.loaded is) ∙ sym quiet.stays
    ]

-- the reply is that of the map
map-reply : (Cause : Spent → Type 0) (c : Config) (start : List ℕ) (pages : Pages) (past : List Mark) (answer : Answer) (effect : Option ℕ) (reply : Reply) → answer.reply ≡ reply → IsNoFull reply → names_page reply ≡ false
    → IsAnswerBy Cause c start pages past answer effect reply → (apply (map_at (map_at_start c start) answer.at past) answer.opened.call).reply ≡ Some reply
map-reply Cause c start pages past answer (Some effect) reply same full page h = h.answers ∙ ap Some same
map-reply Cause c start pages past answer None (Page number next) same full page h = absurd (cc)
map-reply Cause c start pages past answer None (Full spent) same full page h = absurd full
map-reply Cause c start pages past answer None reply same full page h = h.answers.answers ∙ ap Some same

replies : (Cause : List Mark → ℕ → Open → Spent → Type 0) (c : Config) (log : Log) (h : Happening) (moment : ℕ) (reply : Reply) → Stands Cause c log → EndedCall log.past h moment reply → names_page reply ≡ false
    → (apply (map_at (map_at_start c log.start) h.at log.past) h.opened.call).reply ≡ Some reply
replies Cause c log h moment reply stands e page =
    let right = right-reply Cause c log h moment reply stands e in
    let size : length (at_moment moment log.past) ≡ moment = length-at_moment moment log.past (omega (arith, e.within)) in
    let twice : at_moment h.at (at_moment moment log.past) ≡ at_moment h.at log.past = at_moment-twice h.at moment log.past (omega (arith, size, right.before_end)) (omega (arith, e.within)) in
    subst (λ (marks : List Mark). (apply (map_after (map_at_start c log.start) marks) h.opened.call).reply ≡ Some reply) twice
    (map-reply (Cause (at_moment moment log.past) h.worker h.opened) c log.start log.pages (at_moment moment log.past) (record { worker = h.worker; opened = h.opened; reply = reply; at = h.at }) h.opened.effect reply refl e.no_full page right.right)

-- a page is told by a load alone
page-shown : (Cause : Spent → Type 0) (c : Config) (start : List ℕ) (pages : Pages) (past : List Mark) (answer : Answer) (effect : Option ℕ) (page : ℕ) (next : Option (List ℕ)) → answer.reply ≡ Page page next
    → IsAnswerBy Cause c start pages past answer effect (Page page next) → ShowsRange pages (map_at (map_at_start c start) answer.at past) answer.opened.call page next
page-shown Cause c start pages past answer (Some effect) page next same h = absurd (never-page _ _ answer.opened.call page next (h.answers ∙ ap Some same))
page-shown Cause c start pages past answer None page next same h = record { from = h.from; asked = h.asked; pairs = h.pairs }

shown : (Cause : List Mark → ℕ → Open → Spent → Type 0) (c : Config) (log : Log) (h : Happening) (moment page : ℕ) (next : Option (List ℕ)) → Stands Cause c log → EndedCall log.past h moment (Page page next)
    → ShowsRange log.pages (map_at (map_at_start c log.start) h.at log.past) h.opened.call page next
shown Cause c log h moment page next stands e =
    let right = right-reply Cause c log h moment (Page page next) stands e in
    let size : length (at_moment moment log.past) ≡ moment = length-at_moment moment log.past (omega (arith, e.within)) in
    let twice : at_moment h.at (at_moment moment log.past) ≡ at_moment h.at log.past = at_moment-twice h.at moment log.past (omega (arith, size, right.before_end)) (omega (arith, e.within)) in
    subst (λ (marks : List Mark). ShowsRange log.pages (map_after (map_at_start c log.start) marks) h.opened.call page next) twice
    (page-shown (Cause (at_moment moment log.past) h.worker h.opened) c log.start log.pages (at_moment moment log.past) (record { worker = h.worker; opened = h.opened; reply = Page page next; at = h.at }) h.opened.effect page next refl right.right)

end-happens : (Cause : List Mark → ℕ → Open → Spent → Type 0) (c : Config) (log : Log) (moment w n at : ℕ) (reply : Reply) → Stands Cause c log → moment < length log.past → mark_at moment log.past ≡ Some (End w n reply at) → IsNoFull reply
    → EndHappens log.past moment w n at reply
end-happens Cause c log moment w n at reply stands within is full =
    let may = each-at (MayStand (map_at_start c log.start)) log.past moment (End w n reply at) stands.once within is in
    record {
      opened = may.opened;
      number = may.number;
      ended = record { within = within; is_open = may.is_open; ends = is ∙ ap (λ (m : ℕ). Some (End w m reply at)) (sym may.number); no_full = full };
    }

ended-before : (Cause : List Mark → ℕ → Open → Spent → Type 0) (c : Config) (log : Log) (h : Happening) (moment : ℕ) (reply : Reply) → Stands Cause c log → EndedCall log.past h moment reply → h.at ≤ moment
ended-before Cause c log h moment reply stands e =
    let right = right-reply Cause c log h moment reply stands e in
    omega (arith, length-at_moment moment log.past (omega (arith, e.within)), right.before_end)

no-call : (Cause : List Mark → ℕ → Open → Spent → Type 0) (c : Config) (log : Log) (moment w n : ℕ) → Stands Cause c log → moment < length log.past → ((h : Happening) → Happens log.past h → h.at ≡ moment → ⊥) → mark_at moment log.past ≡ Some (Effect w n) → ⊥
no-call Cause c log moment w n stands within none is =
    let t : Took log.past moment = happened Cause c log.start log.pages log.past moment w n stands.once stands.replies within is in
    none t.happening t.happens t.at

pub one-history : (Cause : List Mark → ℕ → Open → Spent → Type 0) (c : Config) (log : Log) → Stands Cause c log → IsOneHistory c log
one-history Cause c log stands = record {
  ends = λ moment w n at reply within is full. end-happens Cause c log moment w n at reply stands within is full;
  alone = λ h k hh hk at. alone Cause c log h k stands hh hk at;
  steps = λ h happens. steps Cause c log h stands happens;
  replies = λ h moment reply e page. replies Cause c log h moment reply stands e page;
  pages = λ h moment page next e. shown Cause c log h moment page next stands e;
  still = λ moment within none. still-map (map_at_start c log.start) log.past moment within (λ w n is. no-call Cause c log moment w n stands within none is);
  order = λ h k moment reply e hk before. omega (arith, ended-before Cause c log h moment reply stands e, (placed Cause c log k stands hk).after_begin);
}

pub powered-history : OneHistory
powered-history c at_start log sound = one-history (IsSpent c log.start) c log (powered-stands c at_start log sound)
