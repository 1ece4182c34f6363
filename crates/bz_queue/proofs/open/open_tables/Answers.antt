use Rattle.bz_queue.proofs.open.open_tables.Goals as goal

pub returns-clause-owners : goal.returns-clause-owners
returns-clause-owners c = c.in_ok-owners.ensures.items_if_clones_equal (λ y e. e)

pub returns-clause-last : goal.returns-clause-last
returns-clause-last c = c.in_ok-last.ensures.items_if_clones_equal (λ y e. e)
