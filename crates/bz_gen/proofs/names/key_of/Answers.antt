use Rattle.std.proofs.Common.{arith}
use Rattle.bz_gen.proofs.Texts.{key_text}
use Rattle.bz_gen.proofs.names.key_of.Goals as goal

pub returns : goal.returns
returns c =
    key_text c.of.result c.unwrap.result c.five_digits.result c.args.number c.unwrap.ensures (c.of.ensures.fits (omega arith) (omega arith)) c.five_digits.ensures
