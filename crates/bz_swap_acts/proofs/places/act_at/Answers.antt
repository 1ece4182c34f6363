use Rattle.bz_swap_acts.proofs.places.act_at.Goals as goal

pub returns-in-Prepare : goal.returns-in-Prepare
returns-in-Prepare c = rw c.in-Prepare.is c.prepare.ensures

pub returns-in-Learn : goal.returns-in-Learn
returns-in-Learn c = rw c.in-Learn.is (c.learn.ensures c.args.w)

pub returns-in-ReadWord : goal.returns-in-ReadWord
returns-in-ReadWord c = rw c.in-ReadWord.is (c.read_word.ensures c.args.w)

pub returns-in-AskRead : goal.returns-in-AskRead
returns-in-AskRead c = rw c.in-AskRead.is c.ask_read.ensures

pub returns-in-FenceRead : goal.returns-in-FenceRead
returns-in-FenceRead c = rw c.in-FenceRead.is c.fence_read.ensures

pub returns-in-ClearRead : goal.returns-in-ClearRead
returns-in-ClearRead c = rw c.in-ClearRead.is (c.clear_read.ensures c.args.w)

pub returns-in-StoreWord : goal.returns-in-StoreWord
returns-in-StoreWord c = rw c.in-StoreWord.is (c.store_word.ensures c.args.w)

pub returns-in-AskLine : goal.returns-in-AskLine
returns-in-AskLine c = rw c.in-AskLine.is c.ask_line.ensures

pub returns-in-FenceLine : goal.returns-in-FenceLine
returns-in-FenceLine c = rw c.in-FenceLine.is c.fence_line.ensures
