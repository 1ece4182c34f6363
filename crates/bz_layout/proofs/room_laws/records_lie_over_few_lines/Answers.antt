use Rattle.bz_layout.proofs.Laws as proved
use Rattle.bz_layout.proofs.room_laws.records_lie_over_few_lines.Goals as goal

pub returns : goal.returns
returns c = proved.records_lie_over_few_lines
