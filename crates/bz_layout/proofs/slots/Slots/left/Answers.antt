use Rattle.bz_layout.proofs.FreePlaces.{slots_of_in_order}
use Rattle.bz_layout.proofs.slots.Slots.left.Goals as goal

pub returns-clause-ordered : goal.returns-clause-ordered
returns-clause-ordered c = rw (← c.self.view_is) (slots_of_in_order c.self.inside.is_free.items)
