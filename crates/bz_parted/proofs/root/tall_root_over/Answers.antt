use Rattle.std.proofs.Common.{arith}
use Rattle.bz_halves.proofs.Roots.{root-room}
use Rattle.bz_parted.proofs.root.tall_root_over.Goals as goal

pub unreachable-requires : goal.unreachable-requires
unreachable-requires c = absurd (let no = c.in-None.ensures.fits.1 (omega (arith, root-room c.args.left c.args.right c.args.separator c.bytes-key.ensures.is_key.fits)) in cc)
