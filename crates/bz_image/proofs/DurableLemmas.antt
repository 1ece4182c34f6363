-- Words of a list, piece by piece.
use Rattle.std.proofs.Common.{◌≡◌, ◌<◌, ℕ, ◌+◌, List, [], ◌∷◌, ◌++◌, take, drop, length, sym, ap, ◌∙◌, arith}
use Rattle.std.specs.Prelude.{slice_index, slice_set}
use Rattle.std.proofs.lemmas.List.{take_more, take_more_set, length-drop, get_or-drop}
use Rattle.bz_image.specs.Worlds.{durable_words}
use Rattle.bz_layout.specs.Addresses.{words_of}
use Rattle.bz_mark.proofs.WordLaws.{length-words_of}
use Rattle.bz_sound.specs.Power.Sound.{IsSound}
use Rattle.bz_world.specs.WorldView.{WorldView}

-- a world has as many durable words as its memory has
pub durable_long : (world : WorldView) → IsSound world.config world.at_start world.log → length (durable_words world) ≡ words_of world.config
durable_long world sound = (length-words_of world.log.start world.log.past).durable ∙ sound.size

-- a word more of a piece
pub piece_more : (piece words : List ℕ) (first i v : ℕ) → i < length piece → first + i < length words → v ≡ slice_index words (first + i) → take i piece ≡ take i (drop first words) → take (i + 1) (slice_set piece i v) ≡ take (i + 1) (drop first words)
piece_more piece words first i v fits there is same =
    take_more_set piece i v fits
    ∙ ap (λ (front : List ℕ). front ++ v ∷ []) same
    ∙ ap (λ (x : ℕ). take i (drop first words) ++ x ∷ []) (is ∙ sym (get_or-drop first words i 0))
    ∙ sym (take_more (drop first words) i 0 (omega (arith, length-drop first words, there)))
