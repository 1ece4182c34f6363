use Rattle.bz_cli.proofs.Proved as proved
use Rattle.bz_cli.proofs.laws.words_are_one_line.Goals as goal

pub returns : goal.returns
returns c = proved.words_are_one_line
