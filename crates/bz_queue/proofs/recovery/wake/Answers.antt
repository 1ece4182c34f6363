use Rattle.bz_queue.proofs.Waking.{may-renew, wakes}
use Rattle.bz_queue.proofs.recovery.wake.Goals as goal

pub renew-requires : goal.renew-requires
renew-requires c = may-renew c.args.parts.now c.requires.wakes c.requires.room

pub returns : goal.returns
returns c = wakes c.args.parts.now c.requires.wakes c.requires.room c.renew.new.self c.push.new.self c.renew.ensures.renewed c.renew.ensures.held c.push.ensures
