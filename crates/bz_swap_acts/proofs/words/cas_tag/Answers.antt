use Rattle.bz_swap_acts.proofs.Found.{kind-found, kind-in_range, made-cas}
use Rattle.bz_swap_acts.proofs.words.cas_tag.Goals as goal

pub word_of-requires-2 : goal.word_of-requires-2
word_of-requires-2 c = rw c.cas_tag-kind.ensures.found (kind-in_range _ c.args.a c.requires.typed c.requires.lies.outside)

pub returns-clause-is_kind : goal.returns-clause-is_kind
returns-clause-is_kind c = rw c.cas_tag-kind.ensures.found (kind-in_range _ c.args.a c.requires.typed c.requires.lies.outside)

pub returns-clause-made : goal.returns-clause-made
returns-clause-made c = made-cas _ _ c.args.a c.args.expected c.word_of.result c.word_of-2.result c.cas_tag-kind.ensures.typed c.cas_tag-kind.ensures.shape c.requires.lies.within
    (rw (c.word_of.ensures, c.next_tag.ensures) c.cas_tag-kind.ensures.words)
    (rw (c.word_of-2.ensures, c.cas_tag-kind.ensures.found) (kind-found _ c.args.a c.requires.typed c.requires.lies.outside))
