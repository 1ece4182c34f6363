use Rattle.bz_sound.proofs.Proved.{power_tells_what_follows, readys_follow}
use Rattle.bz_refinement.proofs.Proved.{recoveries_give_life, walks_end}
use Rattle.bz_world.proofs.Waking.{may-renew, wakes}
use Rattle.bz_world.proofs.recovery.wake.Goals as goal

pub renew-requires : goal.renew-requires
renew-requires c = may-renew recoveries_give_life c.args.parts.now c.requires.wakes

pub returns : goal.returns
returns c = wakes (record { follow = readys_follow; tells = power_tells_what_follows; revive = recoveries_give_life; end = walks_end; begun = c.begun_laws.ensures }) c.args.parts.now c.requires.wakes c.left.ensures.ordered c.requires.room
    c.renew.new.self c.push.new.self c.renew.ensures.renewed c.renew.ensures.held c.push.ensures
