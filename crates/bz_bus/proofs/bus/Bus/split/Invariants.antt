use Rattle.bz_bus.proofs.bus.Bus.split.Given as goal

abbrev pub ghosts-cut : goal.ghosts-cut
ghosts-cut g a = record { number = a._number }
