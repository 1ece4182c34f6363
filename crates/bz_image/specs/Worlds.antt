-- The image file of a world.
use Rattle.std.specs.Prelude.{ℕ, List}
use Rattle.bz_image.specs.Form.{file_of}
use Rattle.bz_mark.specs.WordsAfter.{words_after_marks}
use Rattle.bz_world.specs.WorldView.{WorldView}

-- the words that a power cut would leave
abbrev pub durable_words : WorldView → List ℕ
durable_words lab = (words_after_marks lab.log.start lab.log.past).durable

-- the file of these words
abbrev pub file_of_world : WorldView → List ℕ
file_of_world lab = file_of lab.config.nodes lab.config.swaps (durable_words lab)
