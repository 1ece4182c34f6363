use Rattle.std.proofs.Common.{arith, rules}
use Rattle.std.proofs.lemmas.Bool.Decides.{nat_tests}
use Rattle.bz_key.proofs.Readings.{decoded-end, takes_plain, decoded-short, takes_escape}
use Rattle.bz_key.proofs.reading.first_byte.Goals as goal

pub returns-then-is_empty : goal.returns-then-is_empty
returns-then-is_empty c = decoded-end c.args.word.now (search rules)

pub returns-then-word-ne37 : goal.returns-then-word-ne37
returns-then-word-ne37 c = takes_plain c.args.word.now (grind (arith, nat_tests)) c.if-word-ne37.true

pub returns-then-word-lt3 : goal.returns-then-word-lt3
returns-then-word-lt3 c = decoded-short c.args.word.now (grind (arith, nat_tests)) c.if-word-lt3.true c.if-word-ne37.false

pub returns : goal.returns
returns c = rw (c.value_of.ensures, c.value_of-2.ensures) (takes_escape c.args.word.now c.if-word-lt3.false c.if-word-ne37.false)
