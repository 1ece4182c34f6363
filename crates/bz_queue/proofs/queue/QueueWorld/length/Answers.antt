use Rattle.bz_queue.proofs.queue.QueueWorld.length.Goals as goal

pub returns-clause-sound : goal.returns-clause-sound
returns-clause-sound c = rw (← c.self.view_is) c.self.invariant.sound

pub returns-clause-sparing : goal.returns-clause-sparing
returns-clause-sparing c = rw (← c.self.view_is) c.self.invariant.sparing
