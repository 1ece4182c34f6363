-- The marks of a world whose power is on, and the calls that began since.
use Rattle.std.proofs.Common.{◌≡◌, ◌≢◌, ℕ, zero, suc, ◌*◌, ◌<◌, Bool, List, ◌∷◌, arith, refl, sym, subst, ◌∙◌}
use Rattle.bz_swap_acts.specs.declared.acted.Act.{Act}
use Rattle.bz_swap_acts.specs.declared.acted.Act.TheVariants as act
use Rattle.bz_layout.specs.Addresses.{words_of}
use Rattle.bz_layout.specs.Slots.{FreeSlots}
use Rattle.bz_layout.specs.declared.config.Config.{Config}
use Rattle.bz_mark.specs.Log.{Log}
use Rattle.bz_mark.specs.declared.marks.Mark.{Mark}
use Rattle.bz_mark.specs.declared.marks.Mark.TheVariants.{Begin, End, Load, Store, Cas, Ask, Fence, Evict, Cut, On, Ready, Effect}
use Rattle.bz_mark.specs.declared.power.Power.{Power}
use Rattle.bz_mark.specs.declared.power.Power.TheVariants as power
use Rattle.bz_sound.specs.Calls.{Open}
use Rattle.bz_sound.specs.Memory.Calls.{HasOpenCall}
use Rattle.bz_sound.specs.Memory.Moments.{IsAfterFence}
use Rattle.bz_sound.specs.Power.Calls.{MayAct}
use Rattle.bz_mark.specs.Times.{LeavesPower}
use Rattle.bz_mark.specs.Times.{power_of, since_on}
use Rattle.bz_sound.specs.Power.Times.{image_at_on}
use Rattle.bz_recover.specs.Places.{MOST_ACTS}
use Rattle.bz_mark.specs.Counts.{acts_by}
use Rattle.bz_refinement.proofs.Powered.{image-as-it-was}
use Rattle.bz_refinement.specs.Laws.{HasBegun}
use Rattle.bz_refinement.specs.Living.{IsLiving}
use Rattle.bz_refinement.specs.Story.{Story}
use Rattle.bz_swap.specs.SwapMemory.{SwapMemory}
use Rattle.bz_world.specs.Inside.Kept.{IsTabled, AreFree, IsAwake, IsOff, IsStarted, IsKeptIn, IsKept}
use Rattle.bz_world.specs.declared.parts.Parts.{Parts}
use Rattle.bz_world.specs.Inside.Serving.{IsOpened, LookUp}
use Rattle.bz_world.specs.WorldView.{mark_of}
use Rattle.bz_world.specs.declared.serving.OpenCall.{OpenCall}

-- acts and evictions leave the power
pub leaves-power : (w : ℕ) (past : List Mark) (made : Act) → LeavesPower past (mark_of w made)
leaves-power w past (act.Load a v) = tt
leaves-power w past (act.Store a v) = tt
leaves-power w past (act.Cas a old new found) = tt
leaves-power w past (act.Ask line) = tt
leaves-power w past act.Fence = tt

pub flush-leaves : (mark : Mark) (past : List Mark) → IsAfterFence (mark ∷ past) → LeavesPower past mark
flush-leaves (Ask w line) past f = tt
flush-leaves (Fence w) past f = tt
flush-leaves (Evict a) past f = tt
flush-leaves (Begin w n call) past f = absurd f
flush-leaves (End w n reply at) past f = absurd f
flush-leaves (Load w a v) past f = absurd f
flush-leaves (Store w a v) past f = absurd f
flush-leaves (Cas w a old new found) past f = absurd f
flush-leaves Cut past f = absurd f
flush-leaves On past f = absurd f
flush-leaves Ready past f = absurd f
flush-leaves (Effect w n) past f = absurd f

-- a worker other than 0 may act while its call is open
pub may-act : (at_start : Power) (past : List Mark) (w : ℕ) → 0 < w → HasOpenCall past w → MayAct at_start past w
may-act at_start past zero some h = absurd (omega (arith, some))
may-act at_start past (suc w) some h = h

pub power-more : (at_start : Power) (past : List Mark) (mark : Mark) → LeavesPower past mark → power_of at_start (mark ∷ past) ≡ power_of at_start past
power-more at_start past Cut h = absurd h
power-more at_start past On h = absurd h
power-more at_start past Ready h = absurd h
power-more at_start past mark h = refl

-- the journal of a world whose power is on says so
pub is-on : (p : Parts) → IsTabled p → p.power ≡ power.On → power_of p.at_start p.journal.past ≡ power.On
is-on p t on = t.power ∙ on

pub is-not-off : (p : Parts) → IsTabled p → p.power ≡ power.On → power_of p.at_start p.journal.past ≢ power.Off
is-not-off p t on e = let says : power_of p.at_start p.journal.past ≡ power.On = is-on p t on in absurd (cc (says, e))

-- what is kept by the power
pub awake-in : (p : Parts) → IsKept p → p.power ≡ power.On → IsAwake p
awake-in p k on = subst (λ (z : Power). IsKeptIn z p) on k.state

pub off-in : (p : Parts) → IsKept p → p.power ≡ power.Off → IsOff p
off-in p k off = subst (λ (z : Power). IsKeptIn z p) off k.state

pub started-in : (p : Parts) → IsKept p → p.power ≡ power.Recovering → IsStarted p
started-in p k is = subst (λ (z : Power). IsKeptIn z p) is k.state

-- while it recovers worker 0 has acts left
pub few-acts : (p : Parts) → IsKept p → power_of p.at_start p.journal.past ≡ power.Recovering → acts_by 0 (since_on p.journal.past) < MOST_ACTS * words_of p.config
few-acts p k is = omega (arith, (started-in p k (sym k.tabled.power ∙ is)).memory.spent)

pub kept-awake : (p : Parts) → IsAwake p → IsKept p
kept-awake p a = record { tabled = a.tabled; sound = a.sound; leaves = a.leaves; words = a.living.words; state = subst (λ (z : Power). IsKeptIn z p) (sym a.on) a }

pub kept-off : (p : Parts) → p.power ≡ power.Off → IsOff p → IsKept p
kept-off p off o = record { tabled = o.dark.tabled; sound = o.dark.sound; leaves = o.dark.leaves; words = o.memory.words; state = subst (λ (z : Power). IsKeptIn z p) (sym off) o }

pub kept-started : (p : Parts) → p.power ≡ power.Recovering → IsStarted p → IsKept p
kept-started p is r = record { tabled = r.dark.tabled; sound = r.dark.sound; leaves = r.dark.leaves; words = r.memory.words; state = subst (λ (z : Power). IsKeptIn z p) (sym is) r }

-- a call that is open began in this life of the memory, and so did its look-up
pub begun-in : {c : Config} {m : SwapMemory} {log : Log} {story : Story} {w : ℕ} {opened : Open} {x : OpenCall} → IsLiving c m log story → (o : IsOpened c log w opened x) → HasBegun log story o.look.since
begun-in {w = w} {opened = opened} living o = record { from = omega (arith, living.begins w opened o.is_open, o.look.after_begin); by_now = o.look.by_now }

-- and it goes on with one mark more
abbrev pub looks-on : (past : List Mark) (mark : Mark) (opened : Open) → LookUp past opened → LookUp (mark ∷ past) opened
looks-on past mark opened l = record { since = l.since; after_begin = l.after_begin; by_now = omega (arith, l.by_now) }

-- slots are free as they were
pub free-on : (c : Config) (start : List ℕ) (past : List Mark) (mark : Mark) (slots : FreeSlots) (took : ℕ → ℕ → Bool) → LeavesPower past mark → AreFree c (image_at_on start past) slots took → AreFree c (image_at_on start (mark ∷ past)) slots took
free-on c start past mark slots took p free = subst (λ (image : ℕ → ℕ). AreFree c image slots took) (sym (image-as-it-was start past mark p)) free
