-- A worker that may make no act does nothing.
use Rattle.std.proofs.Common.{◌≡◌, ℕ, zero, suc, arith, Option, Some, None, List, sym, ◌∙◌, get_or, refl, inl}
use Rattle.bz_layout.specs.declared.config.Config.{Config}
use Rattle.bz_mark.specs.Log.{Log}
use Rattle.bz_mark.specs.declared.power.Power.{Power}
use Rattle.bz_mark.specs.declared.power.Power.TheVariants as power
use Rattle.bz_sound.specs.Memory.Calls.{HasOpenCall}
use Rattle.bz_sound.specs.Power.Calls.{MayAct}
use Rattle.bz_refinement.specs.Story.{Story}
use Rattle.bz_swap.specs.SwapMemory.{SwapMemory, Idle, doing_of}
use Rattle.bz_world.specs.Inside.Kept.{IsTabled, IsAwake, IsOff, IsStarted, IsKept}
use Rattle.bz_world.specs.Inside.Paid.{Stock, stock_of}
use Rattle.bz_world.specs.Inside.Serving.{IsSlot}
use Rattle.bz_world.specs.declared.parts.Parts.{Parts}
use Rattle.bz_world.specs.declared.serving.OpenCall.{OpenCall}
use Rattle.bz_world.proofs.Powered.{awake-in, off-in, started-in}

-- with the power on: its call is open, or it is at rest; worker 0 has no call
idle-slot : (c : Config) (m : SwapMemory) (log : Log) (story : Story) (owners : List ℕ) (stock : Stock) (w : ℕ) (slot : Option OpenCall) → IsSlot c m log story owners stock w slot → (HasOpenCall log.past w → ⊥) → doing_of m w ≡ Idle
idle-slot c m log story owners stock w None rest none = rest.idle
idle-slot c m log story owners stock w (Some x) serving none = absurd (none (record { opened = serving.opened; is_open = serving.call_open.is_open }))

has-none : (p : Parts) (w : ℕ) → IsTabled p → (MayAct p.at_start p.journal.past w → ⊥) → HasOpenCall p.journal.past w → ⊥
has-none p zero t none h = let never : None ≡ Some h.opened = sym (t.strangers 0 (inl refl)) ∙ h.is_open in absurd (cc never)
has-none p (suc w) t none h = none h

idle-on : (p : Parts) (w : ℕ) → IsAwake p → (MayAct p.at_start p.journal.past w → ⊥) → doing_of p.access w ≡ Idle
idle-on p w a none = idle-slot p.config p.access p.journal a.story p.owners.items (stock_of p) w (get_or p.workers.items w None) (a.workers w) (has-none p w a.tabled none)

-- with the power off nobody does anything, and in a recovery nobody but worker 0
idle-off : (p : Parts) (w : ℕ) → IsOff p → doing_of p.access w ≡ Idle
idle-off p zero o = o.memory.off.idle
idle-off p (suc w) o = o.memory.off.memory.others (suc w) (omega arith)

idle-recovering : (p : Parts) (w : ℕ) → p.power ≡ power.Recovering → IsStarted p → (MayAct p.at_start p.journal.past w → ⊥) → doing_of p.access w ≡ Idle
idle-recovering p zero is r none = absurd (none (r.dark.tabled.power ∙ is))
idle-recovering p (suc w) is r none = r.memory.recovering.memory.others (suc w) (omega arith)

does-nothing-in : (s : Power) (p : Parts) (w : ℕ) → p.power ≡ s → IsKept p → (MayAct p.at_start p.journal.past w → ⊥) → doing_of p.access w ≡ Idle
does-nothing-in power.On p w is k none = idle-on p w (awake-in p k is) none
does-nothing-in power.Off p w is k none = idle-off p w (off-in p k is)
does-nothing-in power.Recovering p w is k none = idle-recovering p w is (started-in p k is) none

pub does-nothing : (p : Parts) (w : ℕ) → IsKept p → (MayAct p.at_start p.journal.past w → ⊥) → doing_of p.access w ≡ Idle
does-nothing p w k none = does-nothing-in p.power p w refl k none
