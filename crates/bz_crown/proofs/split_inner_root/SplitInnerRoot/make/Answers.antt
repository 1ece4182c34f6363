use Rattle.std.proofs.Common.{ap, ◌∙◌, ◌+◌}
use Rattle.std.specs.Prelude.{slice_index}
use Rattle.bz_parted.specs.Roots.{tall_root_words}
use Rattle.bz_crown.proofs.split_inner_root.SplitInnerRoot.make.Goals as goal

pub returns : goal.returns
returns c = record {
  sep = c.parts_of-halves.result.separator;
  parts = c.parts_of-halves.ensures;
  over = λ nodes raw level low high none. c.tall_root_over-root.ensures ∙ ap (λ z. tall_root_words (slice_index c.args.slots 1) (slice_index c.args.slots 2) c.parts_of-halves.result.separator (z + 1)) (c.level_of-level.ensures nodes raw level low high none);
  size = c.is_whole.ensures;
}
