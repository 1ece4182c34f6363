use Rattle.std.proofs.Common.{◌≡◌, ◌-◌}
use Rattle.std.specs.Prelude.{slice_index}
use Rattle.bz_layout.specs.Addresses.{words_of}
use Rattle.bz_content.specs.Lawful.{first_unlawful}
use Rattle.bz_judge.proofs.scan.first_unlawful.Given as goal

abbrev pub invariant-loop-a : goal.invariant-loop-a
invariant-loop-a l = first_unlawful l.config (slice_index l.image) 0 (words_of l.config) ≡ first_unlawful l.config (slice_index l.image) l.a (words_of l.config - l.a)
