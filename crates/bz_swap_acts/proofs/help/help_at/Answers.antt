use Rattle.bz_swap_acts.proofs.help.help_at.Goals as goal

pub returns-in-Look : goal.returns-in-Look
returns-in-Look c = rw c.in-Look.is (c.look.ensures _ c.args.w)

pub returns-in-LookUnderTag : goal.returns-in-LookUnderTag
returns-in-LookUnderTag c = rw c.in-LookUnderTag.is (rw c.new.ensures at c.look_under_tag.ensures _ c.args.w)

pub returns-in-InstallPointer : goal.returns-in-InstallPointer
returns-in-InstallPointer c = rw c.in-InstallPointer.is (rw c.new-in-InstallPointer.ensures at c.install_pointer.ensures c.args.w)

pub returns-in-RemoveTag : goal.returns-in-RemoveTag
returns-in-RemoveTag c = rw c.in-RemoveTag.is (rw c.new-in-RemoveTag.ensures at c.remove_tag.ensures c.args.w)

pub returns-in-AskDirty : goal.returns-in-AskDirty
returns-in-AskDirty c = rw c.in-AskDirty.is (c.ask_dirty.ensures c.args.swap)

pub returns-in-FenceDirty : goal.returns-in-FenceDirty
returns-in-FenceDirty c = rw c.in-FenceDirty.is (record {
  memory = λ b. c.fence_then.ensures.memory b;
  next = λ b. c.fence_then.ensures.next;
  flush = c.fence_then.ensures.flush;
  writes = c.fence_then.ensures.told;
  made = c.fence_then.ensures.made;
})

pub returns-in-ClearDirty : goal.returns-in-ClearDirty
returns-in-ClearDirty c = rw c.in-ClearDirty.is (c.clear_dirty.ensures c.args.w c.args.swap)

pub returns-in-AskTarget : goal.returns-in-AskTarget
returns-in-AskTarget c = rw c.in-AskTarget.is (c.ask_target.ensures c.args.swap)

pub returns-in-FenceTargets : goal.returns-in-FenceTargets
returns-in-FenceTargets c = rw c.in-FenceTargets.is (record {
  memory = λ b. c.fence_then-in-FenceTargets.ensures.memory b;
  next = λ b. c.fence_then-in-FenceTargets.ensures.next;
  flush = c.fence_then-in-FenceTargets.ensures.flush;
  writes = c.fence_then-in-FenceTargets.ensures.told;
  made = c.fence_then-in-FenceTargets.ensures.made;
})

pub returns-in-Decide : goal.returns-in-Decide
returns-in-Decide c = rw c.in-Decide.is (c.decide.ensures _ c.args.w)

pub returns-in-AskStatus : goal.returns-in-AskStatus
returns-in-AskStatus c = rw c.in-AskStatus.is (c.ask_status.ensures _)

pub returns-in-FenceStatus : goal.returns-in-FenceStatus
returns-in-FenceStatus c = rw c.in-FenceStatus.is (record {
  memory = λ b. c.fence_then-in-FenceStatus.ensures.memory b;
  next = λ b. c.fence_then-in-FenceStatus.ensures.next;
  flush = c.fence_then-in-FenceStatus.ensures.flush;
  writes = c.fence_then-in-FenceStatus.ensures.told;
  made = c.fence_then-in-FenceStatus.ensures.made;
})

pub returns-in-ClearStatus : goal.returns-in-ClearStatus
returns-in-ClearStatus c = rw c.in-ClearStatus.is (c.clear_status.ensures _ c.args.w)

pub returns-in-PutFinal : goal.returns-in-PutFinal
returns-in-PutFinal c = rw c.in-PutFinal.is (c.put_final.ensures c.args.w)

pub returns-in-AskFinal : goal.returns-in-AskFinal
returns-in-AskFinal c = rw c.in-AskFinal.is (c.ask_final.ensures c.args.swap)

pub returns-in-FenceFinal : goal.returns-in-FenceFinal
returns-in-FenceFinal c = rw c.in-FenceFinal.is (record {
  memory = λ b. c.fence_then-in-FenceFinal.ensures.memory b;
  next = λ b. c.fence_then-in-FenceFinal.ensures.next;
  flush = c.fence_then-in-FenceFinal.ensures.flush;
  writes = c.fence_then-in-FenceFinal.ensures.told;
  made = c.fence_then-in-FenceFinal.ensures.made;
})

pub returns-in-ClearFinal : goal.returns-in-ClearFinal
returns-in-ClearFinal c = rw c.in-ClearFinal.is (c.clear_final.ensures c.args.w c.args.swap)

pub returns-in-SweepTag : goal.returns-in-SweepTag
returns-in-SweepTag c = rw c.in-SweepTag.is (rw c.new-in-SweepTag.ensures at c.sweep_tag.ensures c.args.w)
