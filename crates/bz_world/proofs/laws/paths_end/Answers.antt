use Rattle.bz_world.proofs.laws.paths_end.Goals as goal

pub returns : goal.returns
returns c = (c.last_link-last.result, c.last_link-last.ensures)
