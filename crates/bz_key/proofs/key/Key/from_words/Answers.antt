use Rattle.std.proofs.Common.{arith, sym, ◌∙◌}
use Rattle.bz_key.proofs.Packings.{reads_key}
use Rattle.bz_key.proofs.key.Key.from_words.Goals as goal

pub of_short-requires : goal.of_short-requires
of_short-requires c =
    reads_key c.args.len c.args.words.now c.in_ok-bytes.bytes (omega arith) (omega arith) (sym c.in_ok-bytes.was ∙ c.packed_in.ensures)
