use Rattle.bz_top.proofs.queue.is_right.Goals as goal

pub returns-in-Some : goal.returns-in-Some
returns-in-Some c = rw c.in-Some.is (record { sound = c.length.ensures.sound; sparing = c.length.ensures.sparing })

pub returns-in-None : goal.returns-in-None
returns-in-None c = rw c.in-None.is tt
