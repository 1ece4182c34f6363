-- What this crate proves, as lemmas that other crates cite by these names.
use Rattle.bz_sound.proofs.Proved.{one_history}
use Rattle.bz_index.proofs.Meanings.{answers_right}
use Rattle.bz_index.specs.Entries.{log_of}
use Rattle.bz_index.specs.Meaning.{AnswersAreRight, SeenIsOneHistory}

-- a reply that a call was answered is what an ordered map answers to it, at the moment that the call's End names, after its Begin and not after its End
pub answers_are_right : AnswersAreRight
answers_are_right = answers_right

-- the calls that ended, whichever threads made them, and those that took effect before a cut are steps of one map, in the order of their moments
pub seen_is_one_history : SeenIsOneHistory
seen_is_one_history = λ origin seen sound. one_history origin.config origin.at_start (log_of origin seen) sound
