use Rattle.bz_key.proofs.Front.{padded_front, each_fits}
use Rattle.bz_key.proofs.short_bytes.ShortBytes.of.Goals as goal

pub invariant_of-result : goal.invariant_of-result
invariant_of-result c =
    rw c.copy_from_slice.ensures.after (padded_front c.args.bytes.now c.requires (each_fits c.args.bytes.now c.type_inv.bytes))
