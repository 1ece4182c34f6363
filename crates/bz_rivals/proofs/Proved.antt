-- What this crate proves, as lemmas that other crates cite by these names.
use Rattle.bz_rivals.proofs.Exact.{rivals-are-exact}
use Rattle.bz_rivals.proofs.Examples.{rivals-are-told}
use Rattle.bz_rivals.proofs.Expected.{expected-stand}
use Rattle.bz_rivals.proofs.Falls.{rivals-fall}
use Rattle.bz_rivals.proofs.Few.{rivals-are-few}
use Rattle.bz_rivals.proofs.Notes.{notes-are-of-begun, zero-swaps-nothing}
use Rattle.bz_rivals.proofs.Runs.{solo-effects-are-few}
use Rattle.bz_rivals.proofs.Wins.{own-swaps-win, whole-swaps-win}
use Rattle.bz_rivals.specs.Examples.{RivalsAreTold}
use Rattle.bz_rivals.specs.Laws.{SoloEffectsAreFew, RivalsAreExact, RivalsAreFew, RivalsFall}
use Rattle.bz_rivals.specs.Notes.{NotesAreOfBegun, ZeroSwapsNothing}
use Rattle.bz_rivals.specs.Wins.{ExpectedStand, OwnSwapsWin, WholeSwapsWin}

-- the rivals of workers in a small memory
pub rivals_are_told : RivalsAreTold
rivals_are_told = rivals-are-told

-- there are at most as many rivals as other workers
pub rivals_are_few : RivalsAreFew
rivals_are_few = rivals-are-few

-- while a worker steps alone its rivals grow no more, and with each foreign effect they are one fewer
pub rivals_fall : RivalsFall
rivals_fall = rivals-fall

-- nothing but a foreign effect changes their number then
pub rivals_are_exact : RivalsAreExact
rivals_are_exact = rivals-are-exact

-- so over any run of one worker alone the foreign effects are at most as many as its rivals were at first
pub solo_effects_are_few : SoloEffectsAreFew
solo_effects_are_few = solo-effects-are-few

-- worker 0, which recovers, never does a swap
pub zero_swaps_nothing : ZeroSwapsNothing
zero_swaps_nothing = zero-swaps-nothing

-- only a swap that was begun is noted as missed
pub notes_are_of_begun : NotesAreOfBegun
notes_are_of_begun = notes-are-of-begun

-- a swap whose expected values stand until its effect is noted as missed by nobody, and is answered with true
pub own_swaps_win : OwnSwapsWin
own_swaps_win = own-swaps-win

-- where a swap may begin, the durable words stand for what readers see at its targets
pub expected_stand : ExpectedStand
expected_stand = expected-stand

-- so a swap that begins where its targets have the expected values is answered with true, if its worker steps alone to its end and no foreign effect comes
pub whole_swaps_win : WholeSwapsWin
whole_swaps_win = whole-swaps-win
