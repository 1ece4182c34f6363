use Rattle.bz_gen.proofs.Texts.{payload_text}
use Rattle.bz_gen.proofs.names.payload_of.Goals as goal

pub returns : goal.returns
returns c =
    let zeros = c.leading_zeros-zeros in
    payload_text c.of.result c.unwrap.result c.five_digits.result c.args.number zeros.result c.unwrap.ensures c.of.ensures.fits c.five_digits.ensures zeros.ensures.some zeros.ensures.zeros
