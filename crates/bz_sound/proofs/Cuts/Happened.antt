-- A call that took effect is pending or has ended.
use Rattle.std.proofs.Common.{◌≡◌, ◌<◌, ◌==◌, ℕ, Bool, true, false, List, [], ◌∷◌, length, refl, sym, ap, ◌∙◌, subst, inl, inr, arith, Option, Some, None}
use Rattle.std.specs.Prelude.{if◌then◌else◌, option_map}
use Rattle.std.proofs.lemmas.Bool.{cases_lt}
use Rattle.std.proofs.lemmas.Bool.Decides.{nat_tests}
use Rattle.std.specs.FinMap.{get}
use Rattle.bz_layout.specs.declared.config.Config.{Config}
use Rattle.bz_call.specs.Map.{Map, key_of, apply}
use Rattle.bz_call.specs.declared.calls.Call.{Call}
use Rattle.bz_call.specs.declared.replies.Reply.{Reply}
use Rattle.bz_call.specs.declared.replies.Reply.TheVariants.{Full}
use Rattle.bz_call.specs.declared.replies.Spent.{Spent}
use Rattle.bz_mark.specs.Moments.{mark_at}
use Rattle.bz_mark.proofs.MomentLaws.{at_moment-before, mark_at-earlier, mark_at-newest}
use Rattle.bz_mark.proofs.WordLaws.{newest-mark_at}
use Rattle.bz_mark.specs.declared.marks.Mark.{Mark}
use Rattle.bz_mark.specs.declared.marks.Mark.TheVariants.{Begin, End, Cut, Effect}
use Rattle.bz_sound.specs.Calls.{Open, open_call, with_effect}
use Rattle.bz_sound.specs.Replies.{Pages}
use Rattle.bz_sound.specs.Memory.History.{Happening, IsNoFull, EndedCall, PendingCall}
use Rattle.bz_sound.specs.Memory.Moments.{map_at_start, EachMark}
use Rattle.bz_sound.specs.Memory.Replies.{IsRightReplyBy, HasRightReplyBy, IsAnswerBy}
use Rattle.bz_sound.specs.Power.History.{Happens}
use Rattle.bz_sound.proofs.Cuts.Left.{later-ended, pending-now, open-now, pending-cut, happened-cut}
use Rattle.bz_sound.proofs.Memory.NeverTold.{never-full}
use Rattle.bz_sound.proofs.Memory.Standing.{MayStand, CallsStand}

-- a map's reply is no Full
no-full : (map : Map) (call : Call) (reply : Reply) → (apply map call).reply ≡ Some reply → IsNoFull reply
no-full map call (Full spent) is = never-full (get map (key_of call)) map call spent is
no-full map call reply is = tt

-- what an Effect leads to: a call that happens at its moment
pub record Took (past : List Mark) (moment : ℕ) : Type 0 where
  pub happening : Happening
  pub happens : Happens past happening
  pub at : happening.at ≡ moment

-- the End of a pending call
closes : (Cause : List Mark → ℕ → Open → Spent → Type 0) (c : Config) (start : List ℕ) (pages : Pages) (v n at : ℕ) (reply : Reply) (past : List Mark) (h : Happening) → v ≡ h.worker → MayStand (map_at_start c start) past (End v n reply at)
    → HasRightReplyBy Cause c start pages past (End v n reply at) → PendingCall past h → EndedCall (End v n reply at ∷ past) h (length past) reply
closes Cause c start pages v n at reply past h worker may right pending =
    let is_open : open_call v past ≡ Some h.opened = ap (λ (u : ℕ). open_call u past) worker ∙ pending.is_open in
    let fits : IsRightReplyBy (Cause past v h.opened) c start pages past (record { worker = v; opened = h.opened; reply = reply; at = at }) = rw is_open at right in
    let effective = subst (λ (effect : Option ℕ). IsAnswerBy (Cause past v h.opened) c start pages past (record { worker = v; opened = h.opened; reply = reply; at = at }) effect reply) pending.took fits.right in
    let number : h.opened.number ≡ n = numbered may.opened h.opened may.is_open is_open may.number in
    record {
      within = omega arith;
      is_open = ap (open_call h.worker) (at_moment-before (End v n reply at) past) ∙ pending.is_open;
      ends = mark_at-newest (End v n reply at) past ∙ ap (λ (u : ℕ). Some (End u n reply at)) worker ∙ ap (λ (m : ℕ). Some (End h.worker m reply at)) (sym number)
          ∙ ap (λ (k : ℕ). Some (End h.worker h.opened.number reply k)) effective.moment;
      no_full = no-full _ _ reply effective.answers;
    }
  where
    numbered : (a b : Open) → open_call v past ≡ Some a → open_call v past ≡ Some b → a.number ≡ n → b.number ≡ n
    numbered a b p q number = let same : a ≡ b = cc in subst (λ (o : Open). o.number ≡ n) same number

took-ended : (past : List Mark) (h : Happening) (moment : ℕ) (reply : Reply) → EndedCall past h moment reply → Took past h.at
took-ended past h moment reply e = record { happening = h; happens = inl (moment, reply, e); at = refl }

took-pending : (past : List Mark) (h : Happening) → PendingCall past h → Took past h.at
took-pending past h p = record { happening = h; happens = inr (record { pending = pending-now past h.worker h.opened p.is_open; took = p.took }); at = refl }

-- a Begin of another worker, and an Effect of one, leave a pending call
begin-pending : (b : Bool) (v n : ℕ) (call : Call) (past : List Mark) (h : Happening) → (v == h.worker) ≡ b → open_call v past ≡ None → PendingCall past h
    → (if b then Some (record { number = n; call = call; begun = length past; effect = None }) else open_call h.worker past) ≡ Some h.opened
begin-pending true v n call past h same none pending =
    let worker : v ≡ h.worker = grind (arith, nat_tests) in
    let both : Some h.opened ≡ None = sym pending.is_open ∙ ap (λ (u : ℕ). open_call u past) (sym worker) ∙ none in
    absurd (cc)
begin-pending false v n call past h same none pending = pending.is_open

effect-pending : (b : Bool) (v : ℕ) (past : List Mark) (h : Happening) (opened : Open) → (v == h.worker) ≡ b → open_call v past ≡ Some opened → opened.effect ≡ None → PendingCall past h
    → (if b then option_map (with_effect (length past)) (open_call h.worker past) else open_call h.worker past) ≡ Some h.opened
effect-pending true v past h opened same is quiet pending =
    let worker : v ≡ h.worker = grind (arith, nat_tests) in
    let both : Some opened ≡ Some h.opened = sym is ∙ ap (λ (u : ℕ). open_call u past) worker ∙ pending.is_open in
    let one : opened ≡ h.opened = cc in
    let took : None ≡ Some h.at = sym quiet ∙ ap (λ (o : Open). o.effect) one ∙ pending.took in
    absurd (cc)
effect-pending false v past h opened same is quiet pending = pending.is_open

end-pending : (b : Bool) (v : ℕ) (past : List Mark) (h : Happening) → b ≡ false → PendingCall past h → (if b then None else open_call h.worker past) ≡ Some h.opened
end-pending true v past h other pending = absurd (cc)
end-pending false v past h other pending = pending.is_open

-- one mark more after a pending call
pending-later : (Cause : List Mark → ℕ → Open → Spent → Type 0) (c : Config) (start : List ℕ) (pages : Pages) (mark : Mark) (past : List Mark) (h : Happening) → MayStand (map_at_start c start) past mark → HasRightReplyBy Cause c start pages past mark
    → PendingCall past h → Took (mark ∷ past) h.at
pending-later Cause c start pages (Begin v n call) past h may right pending =
    took-pending (Begin v n call ∷ past) h (record { is_open = begin-pending (v == h.worker) v n call past h refl may.1.none_open pending; took = pending.took })
pending-later Cause c start pages (End v n reply at) past h may right pending = go (v == h.worker) refl
  where
    go : (b : Bool) → (v == h.worker) ≡ b → Took (End v n reply at ∷ past) h.at
    go true same =
        let worker : v ≡ h.worker = grind (arith, nat_tests) in
        took-ended (End v n reply at ∷ past) h (length past) reply (closes Cause c start pages v n at reply past h worker may right pending)
    go false same = took-pending (End v n reply at ∷ past) h (record { is_open = end-pending (v == h.worker) v past h same pending; took = pending.took })
pending-later Cause c start pages (Effect v n) past h may right pending =
    took-pending (Effect v n ∷ past) h (record { is_open = effect-pending (v == h.worker) v past h may.1.opened refl may.1.is_open may.1.once pending; took = pending.took })
pending-later Cause c start pages Cut past h may right pending = record {
  happening = h;
  happens = happened-cut past h (inr (record { pending = pending-now past h.worker h.opened pending.is_open; took = pending.took }));
  at = refl;
}
pending-later Cause c start pages mark past h may right pending = took-pending (mark ∷ past) h (record { is_open = pending.is_open; took = pending.took })

took-later : (Cause : List Mark → ℕ → Open → Spent → Type 0) (c : Config) (start : List ℕ) (pages : Pages) (mark : Mark) (past : List Mark) (moment : ℕ) → MayStand (map_at_start c start) past mark → HasRightReplyBy Cause c start pages past mark
    → Took past moment → Took (mark ∷ past) moment
took-later Cause c start pages mark past moment may right t = elim t.happens [
  | inl (m, reply, e) ↦ record { happening = t.happening; happens = inl (m, reply, later-ended mark past t.happening m reply e); at = t.at }
  | inr p ↦ elim p.pending.breaks [
    | inl now ↦
        let here : open_call t.happening.worker past ≡ Some t.happening.opened = open-now past t.happening.worker t.happening.opened p.pending.moment now p.pending.is_open in
        subst (Took (mark ∷ past)) t.at (pending-later Cause c start pages mark past t.happening may right (record { is_open = here; took = p.took }))
    | inr (within, cut) ↦ record {
      happening = t.happening;
      happens = inr (record { pending = pending-cut mark past t.happening.worker t.happening.opened p.pending.moment within cut p.pending.is_open; took = p.took });
      at = t.at;
    }
  ]
]

own-effect : (b : Bool) (now : ℕ) (rest : Option Open) (opened : Open) → b ≡ true → rest ≡ Some opened → (if b then option_map (with_effect now) rest else rest) ≡ Some (with_effect now opened)
own-effect true now rest opened own is = ap (option_map (with_effect now)) is
own-effect false now rest opened own is = absurd (cc)

-- the newest mark is the Effect
took-now : (start : Map) (w n : ℕ) (past : List Mark) → MayStand start past (Effect w n) → Took (Effect w n ∷ past) (length past)
took-now start w n past may = record {
  happening = record { worker = w; opened = with_effect (length past) may.1.opened; at = length past };
  happens = inr (record {
    pending = pending-now (Effect w n ∷ past) w (with_effect (length past) may.1.opened) (own-effect (w == w) (length past) (open_call w past) may.1.opened (grind (arith, nat_tests)) may.1.is_open);
    took = refl;
  });
  at = refl;
}

pub happened : (Cause : List Mark → ℕ → Open → Spent → Type 0) (c : Config) (start : List ℕ) (pages : Pages) (past : List Mark) (moment w n : ℕ) → CallsStand (map_at_start c start) past → EachMark (HasRightReplyBy Cause c start pages) past
    → moment < length past → mark_at moment past ≡ Some (Effect w n) → Took past moment
happened Cause c start pages [] moment w n once right h is = absurd (omega arith)
happened Cause c start pages (mark ∷ past) moment w n once right h is = elim (cases_lt moment (length past)) [
  | inl earlier ↦ took-later Cause c start pages mark past moment once.0 right.0
      (happened Cause c start pages past moment w n once.1 right.1 earlier (sym (mark_at-earlier moment mark past earlier) ∙ is))
  | inr last ↦
      let now : length past ≡ moment = omega arith in
      let newest : mark ≡ Effect w n = newest-mark_at mark (Effect w n) past moment last h is in
      subst (λ (m : Mark). Took (m ∷ past) moment) (sym newest)
      (subst (Took (Effect w n ∷ past)) now (took-now (map_at_start c start) w n past (subst (MayStand (map_at_start c start) past) newest once.0)))
]
