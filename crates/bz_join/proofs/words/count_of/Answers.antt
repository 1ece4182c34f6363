use Rattle.std.proofs.Common.{arith, ap, get_or}
use Rattle.bz_layout.specs.declared.sizes.TheConstants.{STATUS_AT}
use Rattle.bz_word.specs.declared.status.Status.{Status}
use Rattle.bz_node.proofs.ReadWords.{status_is}
use Rattle.bz_join.proofs.words.count_of.Goals as goal

pub returns-clause-count : goal.returns-clause-count
returns-clause-count c = ap (λ (s : Status). s.count) (status_is c.in-Some.status (get_or c.args.words.now STATUS_AT 0) c.in-Some.ensures.word.0 c.in-Some.ensures.word.1)

pub returns-clause-room : goal.returns-clause-room
returns-clause-room c =
    let count = ap (λ (s : Status). s.count) (status_is c.in-Some.status (get_or c.args.words.now STATUS_AT 0) c.in-Some.ensures.word.0 c.in-Some.ensures.word.1) in
    omega (arith, count, c.requires.readable.room)
