-- What a queue keeps by its power.
use Rattle.std.proofs.Common.{◌≡◌, sym, subst}
use Rattle.bz_mark.specs.declared.power.Power.{Power}
use Rattle.bz_mark.specs.declared.power.Power.TheVariants as power
use Rattle.bz_queue.specs.Inside.Kept.{IsAwake, IsKept, IsKeptIn, IsOff, IsStarted}
use Rattle.bz_queue.specs.declared.parts.Parts.{Parts}

pub awake-in : (p : Parts) → IsKept p → p.power ≡ power.On → IsAwake p
awake-in p k on = subst (λ (z : Power). IsKeptIn z p) on k.state

pub off-in : (p : Parts) → IsKept p → p.power ≡ power.Off → IsOff p
off-in p k off = subst (λ (z : Power). IsKeptIn z p) off k.state

pub started-in : (p : Parts) → IsKept p → p.power ≡ power.Recovering → IsStarted p
started-in p k is = subst (λ (z : Power). IsKeptIn z p) is k.state

pub kept-awake : (p : Parts) → IsAwake p → IsKept p
kept-awake p a = record { tabled = a.tabled; sound = a.sound; sparing = a.sparing; words = a.memory.words; state = subst (λ (z : Power). IsKeptIn z p) (sym a.on) a }

pub kept-off : (p : Parts) → p.power ≡ power.Off → IsOff p → IsKept p
kept-off p off o = record { tabled = o.dark.tabled; sound = o.dark.sound; sparing = o.dark.sparing; words = o.dark.words; state = subst (λ (z : Power). IsKeptIn z p) (sym off) o }

pub kept-started : (p : Parts) → p.power ≡ power.Recovering → IsStarted p → IsKept p
kept-started p is s = record { tabled = s.dark.tabled; sound = s.dark.sound; sparing = s.dark.sparing; words = s.dark.words; state = subst (λ (z : Power). IsKeptIn z p) (sym is) s }
