-- Which mark may follow, told by the power.
use Rattle.std.proofs.Common.{◌≡◌, ◌+◌, ℕ, zero, suc, List, [], ◌∷◌, refl, sym, ◌∙◌, subst, Some}
use Rattle.bz_call.specs.Map.{Map}
use Rattle.bz_mark.specs.Moments.{at_moment, mark_at}
use Rattle.bz_mark.proofs.MomentLaws.{at_moment-next}
use Rattle.bz_mark.specs.declared.marks.Mark.{Mark}
use Rattle.bz_mark.specs.declared.marks.Mark.TheVariants.{Begin, End, Load, Store, Cas, Ask, Fence, Evict, Cut, On, Ready, Effect}
use Rattle.bz_mark.specs.declared.power.Power.{Power}
use Rattle.bz_mark.specs.declared.power.Power.TheVariants as power
use Rattle.bz_sound.specs.Calls.{Open, open_call}
use Rattle.bz_sound.specs.Memory.Moments.{map_at_start}
use Rattle.bz_sound.specs.Power.Calls.{MayAct, IsAfterRecovering, MayFollow, CallsOnce}
use Rattle.bz_sound.specs.Power.Laws.{IsAfterCut, PowerTellsWhatFollows, PowerMarksStand}
use Rattle.bz_mark.specs.Times.{power_of}
use Rattle.bz_sound.proofs.Memory.Marks.{each-at, each-before}

-- a call is open only with the power on
pub open-on : (at_start : Power) (start : Map) (past : List Mark) (w : ℕ) (opened : Open) → CallsOnce at_start start past → open_call w past ≡ Some opened → power_of at_start past ≡ power.On
open-on at_start start [] w opened once is = absurd (cc)
open-on at_start start (Begin v n call ∷ past) w opened once is = once.0.powered
open-on at_start start (End v n reply at ∷ past) w opened once is = open-on at_start start past v once.0.opened once.1 once.0.is_open
open-on at_start start (Effect v n ∷ past) w opened once is = open-on at_start start past v once.0.1.opened once.1 once.0.1.is_open
open-on at_start start (Cut ∷ past) w opened once is = absurd (cc)
open-on at_start start (On ∷ past) w opened once is = let both : power.Off ≡ power.On = sym once.0 ∙ open-on at_start start past w opened once.1 is in absurd (cc)
open-on at_start start (Ready ∷ past) w opened once is = refl
open-on at_start start (mark ∷ past) w opened once is = open-on at_start start past w opened once.1 is

-- none while it is off
off-none : (at_start : Power) (start : Map) (past : List Mark) (w : ℕ) (opened : Open) → CallsOnce at_start start past → open_call w past ≡ Some opened → power_of at_start past ≡ power.Off → ⊥
off-none at_start start past w opened once is off = let both : power.On ≡ power.Off = sym (open-on at_start start past w opened once is) ∙ off in cc

-- and nobody acts then
off-idle : (at_start : Power) (start : Map) (past : List Mark) (w : ℕ) → CallsOnce at_start start past → MayAct at_start past w → power_of at_start past ≡ power.Off → ⊥
off-idle at_start start past zero once act off = let both : power.Recovering ≡ power.Off = sym act ∙ off in cc
off-idle at_start start past (suc w) once act off = off-none at_start start past (suc w) act.opened once act.is_open off

-- so nothing follows but an On
pub only-on : (at_start : Power) (start : Map) (past : List Mark) (mark : Mark) → CallsOnce at_start start past → power_of at_start past ≡ power.Off → MayFollow at_start start past mark → mark ≡ On
only-on at_start start past (Begin w n call) once off may = let both : power.On ≡ power.Off = sym may.powered ∙ off in absurd (cc)
only-on at_start start past (End w n reply at) once off may = absurd (off-none at_start start past w may.opened once may.is_open off)
only-on at_start start past (Load w a v) once off may = absurd (off-idle at_start start past w once may off)
only-on at_start start past (Store w a v) once off may = absurd (off-idle at_start start past w once may off)
only-on at_start start past (Cas w a old new found) once off may = absurd (off-idle at_start start past w once may off)
only-on at_start start past (Ask w line) once off may = absurd (off-idle at_start start past w once may off)
only-on at_start start past (Fence w) once off may = absurd (off-idle at_start start past w once may off)
only-on at_start start past (Evict a) once off may = absurd (may off)
only-on at_start start past (Effect w n) once off may = absurd (off-none at_start start past w may.1.opened once may.1.is_open off)
only-on at_start start past Cut once off may = absurd (may off)
only-on at_start start past On once off may = refl
only-on at_start start past Ready once off may = absurd (go past once off may)
  where
    go : (past : List Mark) → CallsOnce at_start start past → power_of at_start past ≡ power.Off → IsAfterRecovering past → ⊥
    go [] once off acted = acted
    go (Load w a v ∷ past) once off acted = off-idle at_start start past w once.1 once.0 off
    go (Store w a v ∷ past) once off acted = off-idle at_start start past w once.1 once.0 off
    go (Cas w a old new found ∷ past) once off acted = off-idle at_start start past w once.1 once.0 off
    go (Ask w line ∷ past) once off acted = off-idle at_start start past w once.1 once.0 off
    go (Fence w ∷ past) once off acted = off-idle at_start start past w once.1 once.0 off
    go (mark ∷ past) once off acted = acted

-- the power is off exactly after a Cut
pub cut-off : (at_start : Power) (past : List Mark) → IsAfterCut at_start past → power_of at_start past ≡ power.Off
cut-off at_start [] cut = cut
cut-off at_start (Cut ∷ past) cut = refl
cut-off at_start (mark ∷ past) cut = absurd cut

pub off-cut : (at_start : Power) (start : Map) (past : List Mark) → CallsOnce at_start start past → power_of at_start past ≡ power.Off → IsAfterCut at_start past
off-cut at_start start [] once off = off
off-cut at_start start (Cut ∷ past) once off = tt
off-cut at_start start (On ∷ past) once off = absurd (cc)
off-cut at_start start (Ready ∷ past) once off = absurd (cc)
off-cut at_start start (mark ∷ past) once off = let same : mark ≡ On = only-on at_start start past mark once.1 off once.0 in absurd (cc)

-- recovery is under way after an act of worker 0
recovers : (at_start : Power) (past : List Mark) (w : ℕ) → MayAct at_start past w → w ≡ 0 → power_of at_start past ≡ power.Recovering
recovers at_start past w act is = subst (MayAct at_start past) is act

pub acted-recovers : (at_start : Power) (start : Map) (past : List Mark) → CallsOnce at_start start past → IsAfterRecovering past → power_of at_start past ≡ power.Recovering
acted-recovers at_start start [] once acted = absurd acted
acted-recovers at_start start (Load w a v ∷ past) once acted = recovers at_start past w once.0 acted
acted-recovers at_start start (Store w a v ∷ past) once acted = recovers at_start past w once.0 acted
acted-recovers at_start start (Cas w a old new found ∷ past) once acted = recovers at_start past w once.0 acted
acted-recovers at_start start (Ask w line ∷ past) once acted = recovers at_start past w once.0 acted
acted-recovers at_start start (Fence w ∷ past) once acted = recovers at_start past w once.0 acted
acted-recovers at_start start (mark ∷ past) once acted = absurd acted

pub power-tells : PowerTellsWhatFollows
power-tells at_start start past once = record {
  off = (off-cut at_start start past once, cut-off at_start past);
  comes_on = (off-cut at_start start past once, cut-off at_start past);
  nothing_else = λ mark cut may. only-on at_start start past mark once (cut-off at_start past cut) may;
  fails = (λ may cut. may (cut-off at_start past cut), λ before off. before (off-cut at_start start past once off));
  begins = λ w n call may. may.powered;
  stays_open = λ w opened is. open-on at_start start past w opened once is;
  ends_recovery = λ acted. acted-recovers at_start start past once acted;
}

pub power-stands : PowerMarksStand
power-stands c at_start log moment sound within = record {
  on = λ is. off-cut at_start start before once (may On is);
  after_cut = λ mark cut later is.
      let here : at_moment (moment + 1) log.past ≡ Cut ∷ before = at_moment-next moment Cut log.past cut within in
      let next = each-at (MayFollow at_start start) log.past (moment + 1) mark sound.once later is in
      only-on at_start start (Cut ∷ before) mark (may Cut cut, once) refl (subst (λ (marks : List Mark). MayFollow at_start start marks mark) here next);
  ready = λ is. (may Ready is, acted-recovers at_start start before once (may Ready is));
  begin = λ w n call is. (may (Begin w n call) is).powered;
}
  where
    start : Map
    start = map_at_start c log.start

    before : List Mark
    before = at_moment moment log.past

    once : CallsOnce at_start start before
    once = each-before (MayFollow at_start start) moment log.past sound.once

    may : (mark : Mark) → mark_at moment log.past ≡ Some mark → MayFollow at_start start before mark
    may mark is = each-at (MayFollow at_start start) log.past moment mark sound.once within is
