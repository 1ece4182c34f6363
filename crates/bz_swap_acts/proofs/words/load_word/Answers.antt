use Rattle.bz_swap_acts.proofs.Found.{kind-found, made-load}
use Rattle.bz_swap_acts.proofs.words.load_word.Goals as goal

pub returns-clause-made : goal.returns-clause-made
returns-clause-made c = made-load _ c.args.a c.word_of.result c.requires.typed c.requires.lies.within (rw (c.word_of.ensures, c.load_word-kind.ensures.found) (kind-found _ c.args.a c.requires.typed c.requires.lies.outside))
