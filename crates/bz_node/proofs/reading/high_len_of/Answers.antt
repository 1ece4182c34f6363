use Rattle.std.proofs.Common.{ap, get_or}
use Rattle.bz_layout.specs.declared.sizes.TheConstants.{HEADER_AT}
use Rattle.bz_word.specs.declared.header.Header.{Header}
use Rattle.bz_node.proofs.ReadWords.{header_is}
use Rattle.bz_node.proofs.reading.high_len_of.Goals as goal

pub returns : goal.returns
returns c = ap (λ (h : Header). h.high) (header_is c.in-Some.header (get_or c.args.words.now HEADER_AT 0) c.in-Some.ensures.word.0 c.in-Some.ensures.word.1)
