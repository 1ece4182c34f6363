-- The status word of a frozen node is a plain word, and reads as the frozen status.
use Rattle.std.proofs.Common.{◌≡◌, ℕ, ◌^◌, ◌<◌, true, arith}
use Rattle.bz_word.specs.Statuses.{status, IsStatus}
use Rattle.bz_word.proofs.Lemmas.{statuses}
use Rattle.bz_task.specs.Steps.{next_stamp, frozen_word}

frozen-status : (st : ℕ) → st < 2 ^ 61 → IsStatus (record (status st) { frozen = true; stamp = next_stamp (status st).stamp })
frozen-status st l = let r = statuses.range st l in record { count = r.count; block = r.block; dead = r.dead; stamp = omega arith }

pub frozen-plain : (st : ℕ) → st < 2 ^ 61 → frozen_word st < 2 ^ 61
frozen-plain st l = statuses.lawful _ (frozen-status st l)

pub frozen-reads : (st : ℕ) → st < 2 ^ 61 → status (frozen_word st) ≡ record (status st) { frozen = true; stamp = next_stamp (status st).stamp }
frozen-reads st l = statuses.value _ (frozen-status st l)
