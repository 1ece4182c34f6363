use Rattle.bz_swap_cells.specs.Store.{IsStore}
use Rattle.bz_test_layers.proofs.Zeros.{opened_store, zero_store}
use Rattle.bz_test_layers.proofs.tests.cells.zeros.Goals as goal

pub returns-clause-words : goal.returns-clause-words
returns-clause-words c = rw (c.deref.ensures.value, c.in_ok-words.ensures.items_if_clones_equal (λ y e. e)) at c.open.ensures.words

pub returns-clause-typed : goal.returns-clause-typed
returns-clause-typed c =
    let opened = rw (c.deref.ensures.value, c.in_ok-words.ensures.items_if_clones_equal (λ y e. e)) at c.open.ensures.words in
    opened_store c.open.result _ opened c.open.ensures.room (zero_store 2 64 3)
