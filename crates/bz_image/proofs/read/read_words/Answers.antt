use Rattle.std.proofs.Common.{ℕ, ap, ◌∙◌}
use Rattle.bz_image.specs.Reads.{words_in}
use Rattle.bz_image.proofs.WordLemmas.{words_read}
use Rattle.bz_image.proofs.read.read_words.Goals as goal

pub returns : goal.returns
returns c = words_read _ _ c.read_u64_into.ensures ∙ ap (λ (i : ℕ). words_in i c.args.bytes.now) c.read_u64_into.auto.dst
