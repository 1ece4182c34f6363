use Rattle.std.proofs.Common.{ap}
use Rattle.bz_swap_cells.specs.Store.{store_state}
use Rattle.bz_swap_acts.proofs.Found.{kind-found, made-cas}
use Rattle.bz_swap_acts.proofs.words.cas_word.Goals as goal

pub returns-clause-made : goal.returns-clause-made
returns-clause-made c = made-cas _ _ c.args.a c.word_of.result c.word_of-2.result c.word_of-3.result c.cas_word-kind.ensures.typed c.cas_word-kind.ensures.shape c.requires.lies.within
    (rw (c.word_of.ensures, c.word_of-2.ensures) (ap store_state c.cas_word-kind.ensures.words))
    (rw (c.word_of-3.ensures, c.cas_word-kind.ensures.found) (kind-found _ c.args.a c.requires.typed c.requires.lies.outside))
