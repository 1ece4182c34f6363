use Rattle.bz_gen.proofs.Decimals.{one_digit, two_digits, three_digits, four_digits, all_five}
use Rattle.bz_gen.proofs.names.leading_zeros.Goals as goal

pub returns-then-number-lt10-clause-zeros : goal.returns-then-number-lt10-clause-zeros
returns-then-number-lt10-clause-zeros c = one_digit c.args.number c.if-number-lt10.true

pub returns-then-number-lt100-clause-zeros : goal.returns-then-number-lt100-clause-zeros
returns-then-number-lt100-clause-zeros c = two_digits c.args.number c.if-number-lt10.false c.if-number-lt100.true

pub returns-then-number-lt1000-clause-zeros : goal.returns-then-number-lt1000-clause-zeros
returns-then-number-lt1000-clause-zeros c = three_digits c.args.number c.if-number-lt100.false c.if-number-lt1000.true

pub returns-then-number-lt10000-clause-zeros : goal.returns-then-number-lt10000-clause-zeros
returns-then-number-lt10000-clause-zeros c = four_digits c.args.number c.if-number-lt1000.false c.if-number-lt10000.true

pub returns-else-number-lt10000-clause-zeros : goal.returns-else-number-lt10000-clause-zeros
returns-else-number-lt10000-clause-zeros c = all_five c.args.number c.if-number-lt10000.false c.requires
