use Rattle.bz_swap_acts.proofs.prepare.prepare.Goals as goal

pub returns-in-WriteWord : goal.returns-in-WriteWord
returns-in-WriteWord c = rw c.in-WriteWord.is (c.write_word.ensures c.args.w)

pub returns-in-WriteStatus : goal.returns-in-WriteStatus
returns-in-WriteStatus c = rw c.in-WriteStatus.is (c.write_status.ensures c.args.w)

pub returns-in-AskHead : goal.returns-in-AskHead
returns-in-AskHead c = rw c.in-AskHead.is c.ask_first.ensures

pub returns-in-AskTail : goal.returns-in-AskTail
returns-in-AskTail c = rw c.in-AskTail.is c.ask_second.ensures

pub returns-in-FenceDescriptor : goal.returns-in-FenceDescriptor
returns-in-FenceDescriptor c = rw c.in-FenceDescriptor.is c.fence_both.ensures
