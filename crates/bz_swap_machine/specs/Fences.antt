-- Which acts are fences: the place where a worker is, with its act due, tells.
use Rattle.std.specs.Prelude.{Bool, true, false}
use Rattle.bz_swap_machine.specs.declared.place.Place.{Place}
use Rattle.bz_swap_machine.specs.declared.place.Place.TheVariants.{Idle, Prepare, Learn, Help, ReadWord, AskRead, FenceRead, ClearRead, LoadWord, StoreWord, AskLine, FenceLine}
use Rattle.bz_swap_machine.specs.declared.place.PrepareStep.{PrepareStep}
use Rattle.bz_swap_machine.specs.declared.place.PrepareStep.TheVariants.{WriteWord, WriteStatus, AskHead, AskTail, FenceDescriptor}
use Rattle.bz_swap_machine.specs.declared.place.HelpStep.{HelpStep}
use Rattle.bz_swap_machine.specs.declared.place.HelpStep.TheVariants.{Look, InstallTag, LookUnderTag, InstallPointer, RemoveTag, AskDirty, FenceDirty, ClearDirty, AskTarget, FenceTargets, Decide, AskStatus, FenceStatus, ClearStatus, PutFinal, AskFinal, FenceFinal, ClearFinal, SweepTag}

abbrev pub prepares_by_fence : PrepareStep → Bool
prepares_by_fence (WriteWord k) = false
prepares_by_fence WriteStatus = false
prepares_by_fence AskHead = false
prepares_by_fence AskTail = false
prepares_by_fence FenceDescriptor = true

abbrev pub helps_by_fence : HelpStep → Bool
helps_by_fence Look = false
helps_by_fence (InstallTag i) = false
helps_by_fence (LookUnderTag i w q) = false
helps_by_fence (InstallPointer i w q) = false
helps_by_fence (RemoveTag i w q) = false
helps_by_fence (AskDirty i v) = false
helps_by_fence (FenceDirty i v) = true
helps_by_fence (ClearDirty i v) = false
helps_by_fence (AskTarget i) = false
helps_by_fence FenceTargets = true
helps_by_fence (Decide d) = false
helps_by_fence (AskStatus d) = false
helps_by_fence (FenceStatus d) = true
helps_by_fence (ClearStatus d) = false
helps_by_fence (PutFinal i d) = false
helps_by_fence (AskFinal i d) = false
helps_by_fence (FenceFinal i d) = true
helps_by_fence (ClearFinal i d) = false
helps_by_fence (SweepTag i d w q) = false

abbrev pub is_fence : Place → Bool
is_fence Idle = false
is_fence (Prepare step) = prepares_by_fence step
is_fence (Learn k) = false
is_fence (Help step) = helps_by_fence step
is_fence (ReadWord a) = false
is_fence (AskRead a v) = false
is_fence (FenceRead a v) = true
is_fence (ClearRead a v) = false
is_fence (LoadWord a) = false
is_fence (StoreWord a v) = false
is_fence (AskLine line) = false
is_fence (FenceLine line) = true
