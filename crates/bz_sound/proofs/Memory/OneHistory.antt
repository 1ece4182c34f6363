-- The calls of a journal without power cuts are one history: those that are pending are open at the end.
use Rattle.std.proofs.Common.{◌≡◌, ◌<◌, ℕ, List, length, inl, inr}
use Rattle.std.specs.Prelude.{Some}
use Rattle.bz_layout.specs.declared.config.Config.{Config}
use Rattle.bz_mark.specs.Log.{Log}
use Rattle.bz_mark.specs.Moments.{mark_at}
use Rattle.bz_mark.specs.declared.marks.Mark.{Mark}
use Rattle.bz_mark.specs.declared.marks.Mark.TheVariants.{Cut}
use Rattle.bz_sound.specs.Memory.History.{Happening, Happens, AreSteps, OneHistory}
use Rattle.bz_sound.specs.Memory.Moments.{map_at_start}
use Rattle.bz_sound.specs.Memory.Spent.{IsSpent}
use Rattle.bz_sound.specs.Power.History as powered
use Rattle.bz_mark.specs.Times.{LeavesPower}
use Rattle.bz_sound.specs.Power.Laws.{IsUnbroken}
use Rattle.bz_sound.proofs.Cuts.AsBefore.{unbroken-once}
use Rattle.bz_sound.proofs.Cuts.Left.{pending-now, open-now}
use Rattle.bz_sound.proofs.Cuts.OneHistory.{one-history}
use Rattle.bz_sound.proofs.Memory.Marks.{each-at}
use Rattle.bz_sound.proofs.Memory.Standing.{unbroken-stands}

no-cut : (past : List Mark) (moment : ℕ) → IsUnbroken past → moment < length past → mark_at moment past ≡ Some Cut → ⊥
no-cut past moment h within is = each-at LeavesPower past moment Cut h within is

-- a call that happened without cuts is one that happened, and the other way round
happens-powered : (past : List Mark) (h : Happening) → Happens past h → powered.Happens past h
happens-powered past h happens = elim happens [
  | inl e ↦ inl e
  | inr p ↦ inr (record { pending = pending-now past h.worker h.opened p.is_open; took = p.took })
]

happens-unbroken : (past : List Mark) (h : Happening) → IsUnbroken past → powered.Happens past h → Happens past h
happens-unbroken past h unbroken happens = elim happens [
  | inl e ↦ inl e
  | inr p ↦ elim p.pending.breaks [
    | inl now ↦ inr (record { is_open = open-now past h.worker h.opened p.pending.moment now p.pending.is_open; took = p.took })
    | inr (within, cut) ↦ absurd (no-cut past p.pending.moment unbroken within cut)
  ]
]

-- the same calls are the same steps
same-steps : (A B : Happening → Type 0) (c : Config) (log : Log) → ((h : Happening) → A h → B h) → ((h : Happening) → B h → A h) → AreSteps A c log → AreSteps B c log
same-steps A B c log there back s = record {
  ends = s.ends;
  alone = λ h k hh hk at. s.alone h k (back h hh) (back k hk) at;
  steps = λ h happens. s.steps h (back h happens);
  replies = s.replies;
  pages = s.pages;
  still = λ moment within none. s.still moment within (λ h happens at. none h (there h happens) at);
  order = λ h k moment reply e hk before. s.order h k moment reply e (back k hk) before;
}

pub unbroken-history : OneHistory
unbroken-history c log sound =
    let unbroken : IsUnbroken log.past = unbroken-once (map_at_start c log.start) log.past sound.once in
    same-steps (powered.Happens log.past) (Happens log.past) c log (λ h happens. happens-unbroken log.past h unbroken happens) (λ h happens. happens-powered log.past h happens)
    (one-history (IsSpent c log.start) c log (unbroken-stands c log sound))
