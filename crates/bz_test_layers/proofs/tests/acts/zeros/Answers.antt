use Rattle.std.specs.Prelude.{◌≡◌, length}
use Rattle.std.proofs.Common.{refl}
use Rattle.bz_swap_cells.specs.Store.{Store, IsStore}
use Rattle.bz_test_layers.proofs.Zeros.{if_opened, opened_store, zero_store}
use Rattle.bz_test_layers.proofs.tests.acts.zeros.Goals as goal

pub returns-clause-typed : goal.returns-clause-typed
returns-clause-typed c =
    let opened = rw (c.deref.ensures.value, c.in_ok-words.ensures.items_if_clones_equal (λ y e. e)) at c.open.ensures.words in
    opened_store c.open.result _ opened c.open.ensures.room (zero_store 4 96 3)

pub returns-clause-swaps : goal.returns-clause-swaps
returns-clause-swaps c = if_opened (λ (st : Store). st.swaps ≡ 4) c.open.result _ c.open.ensures.words refl

pub returns-clause-size : goal.returns-clause-size
returns-clause-size c =
    let opened = rw (c.deref.ensures.value, c.in_ok-words.ensures.items_if_clones_equal (λ y e. e)) at c.open.ensures.words in
    if_opened (λ (st : Store). length st.cached ≡ 96) c.open.result _ opened refl

pub returns-clause-workers : goal.returns-clause-workers
returns-clause-workers c = if_opened (λ (st : Store). length st.next_tags ≡ 3) c.open.result _ c.open.ensures.words refl
