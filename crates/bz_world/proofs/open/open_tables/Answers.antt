use Rattle.bz_world.proofs.open.open_tables.Goals as goal

pub returns-clause-owners : goal.returns-clause-owners
returns-clause-owners c = c.in_ok-owners.ensures.items_if_clones_equal (λ y e. e)

pub returns-clause-numbers : goal.returns-clause-numbers
returns-clause-numbers c = c.in_ok-numbers.ensures.items_if_clones_equal (λ y e. e)
