-- A call whose change stands ends with the swap that made it, unless it is a delete.
use Rattle.std.proofs.Common.{◌≡◌, ◌⊎◌, ℕ, true, false, List, refl, sym, ap, ◌∙◌, inl, inr, Option, Some, None, get_or}
use Rattle.std.proofs.lemmas.Bool.{true≢false}
use Rattle.bz_layout.specs.declared.config.Config.{Config}
use Rattle.bz_mark.specs.Log.{Log}
use Rattle.bz_sound.specs.Calls.{Open, open_call}
use Rattle.bz_mark.specs.declared.power.Power.{Power}
use Rattle.bz_mark.specs.declared.power.Power.TheVariants as power
use Rattle.bz_refinement.specs.Story.{Story}
use Rattle.bz_swap.specs.SwapMemory.{SwapMemory, doing_of}
use Rattle.bz_world.specs.Inside.Beginning.{world_view, is_swap}
use Rattle.bz_world.specs.Inside.Kept.{IsKept}
use Rattle.bz_world.specs.Inside.Paid.{Stock, stock_of}
use Rattle.bz_world.specs.Inside.Serving.{IsServing, IsSlot, MayGoOn, IsFinishing}
use Rattle.bz_world.specs.WorldView.{AreFinishing, is_delete}
use Rattle.bz_world.specs.declared.parts.Parts.{Parts}
use Rattle.bz_world.specs.declared.serving.OpenCall.{OpenCall}
use Rattle.bz_world.proofs.Powered.{awake-in, off-in, started-in}
use Rattle.bz_world.proofs.Stepping.{swap-is}

-- the one that is served
swaps-serving : (c : Config) (m : SwapMemory) (log : Log) (story : Story) (owners : List ℕ) (stock : Stock) (w : ℕ) (x : OpenCall) (at : ℕ) (opened : Open) → IsServing c m log story owners stock w x → open_call w log.past ≡ Some opened
    → opened.effect ≡ Some at → is_delete opened.call ≡ false → is_swap (doing_of m w) ≡ true
swaps-serving c m log story owners stock w x at opened s is effect other = by-finishing s.finishing
  where
    same : s.opened ≡ opened
    same = let both : Some s.opened ≡ Some opened = sym s.call_open.is_open ∙ is in cc both

    by-finishing : MayGoOn x ⊎ IsFinishing m w x → is_swap (doing_of m w) ≡ true
    by-finishing (inl (inl none)) = let never : None ≡ Some at = sym none ∙ (sym s.call_open.effect ∙ (ap (λ (o : Open). o.effect) same ∙ effect)) in absurd (cc never)
    by-finishing (inl (inr deletes)) = absurd (true≢false (sym deletes ∙ (ap is_delete (sym s.call_open.call ∙ ap (λ (o : Open). o.call) same) ∙ other)))
    by-finishing (inr f) = ap is_swap f.doing

swaps-slot : (c : Config) (m : SwapMemory) (log : Log) (story : Story) (owners : List ℕ) (stock : Stock) (w : ℕ) (slot : Option OpenCall) (at : ℕ) (opened : Open) → IsSlot c m log story owners stock w slot → open_call w log.past ≡ Some opened
    → opened.effect ≡ Some at → is_delete opened.call ≡ false → is_swap (doing_of m w) ≡ true
swaps-slot c m log story owners stock w None at opened rest is effect other = let never : None ≡ Some opened = sym rest.none_open ∙ is in absurd (cc never)
swaps-slot c m log story owners stock w (Some x) at opened s is effect other = swaps-serving c m log story owners stock w x at opened s is effect other

no-call : (o : Option Open) (opened : Open) → o ≡ None → o ≡ Some opened → ⊥
no-call o opened none some = let never : None ≡ Some opened = sym none ∙ some in absurd (cc never)

are-finishing-in : (z : Power) (p : Parts) → p.power ≡ z → IsKept p → AreFinishing (world_view p)
are-finishing-in power.On p is k w at opened is-open effect other =
    let a = awake-in p k is in
    swap-is p w ∙ swaps-slot p.config p.access p.journal a.story p.owners.items (stock_of p) w (get_or p.workers.items w None) at opened (a.workers w) is-open effect other
are-finishing-in power.Off p is k w at opened is-open effect other = absurd (no-call (open_call w p.journal.past) opened ((off-in p k is).memory.calls w) is-open)
are-finishing-in power.Recovering p is k w at opened is-open effect other = absurd (no-call (open_call w p.journal.past) opened ((started-in p k is).memory.calls w) is-open)

pub are-finishing : (p : Parts) → IsKept p → AreFinishing (world_view p)
are-finishing p k = are-finishing-in p.power p refl k
