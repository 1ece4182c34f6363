use Rattle.std.proofs.Common.{length}
use Rattle.bz_cli.proofs.arrangement.+say.Given as goal

abbrev pub decreases-say : goal.decreases-say
decreases-say l = length l.words.now
