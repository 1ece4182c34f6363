-- A guard's word with the next stamp: of the fields the stamp alone is another. The root status is a stamp alone.
use Rattle.std.proofs.Common.{◌≡◌, ℕ, ◌^◌, ◌<◌, ◌==◌, ◌/◌, ◌%◌, false, arith, refl, ap, ◌∙◌}
use Rattle.bz_word.specs.Statements.{IsCodec}
use Rattle.bz_word.specs.Statuses.{status_word, status, IsStatus, IsStatusWord}
use Rattle.bz_word.specs.declared.status.Status.{Status}
use Rattle.bz_task.specs.Steps.{next_stamp}
use Rattle.bz_renew.specs.Renewals.{restamped}

-- the status with the next stamp
abbrev pub stamped : ℕ → Status
stamped st = record (status st) { stamp = next_stamp (status st).stamp }

is-status : IsCodec Status IsStatus IsStatusWord status_word status → (st : ℕ) → st < 2 ^ 61 → IsStatus (stamped st)
is-status codec st l = let r = codec.range st l in record { count = r.count; block = r.block; dead = r.dead; stamp = omega arith }

pub restamped-plain : IsCodec Status IsStatus IsStatusWord status_word status → (st : ℕ) → st < 2 ^ 61 → restamped st < 2 ^ 61
restamped-plain codec st l = codec.lawful _ (is-status codec st l)

pub restamped-reads : IsCodec Status IsStatus IsStatusWord status_word status → (st : ℕ) → st < 2 ^ 61 → status (restamped st) ≡ stamped st
restamped-reads codec st l = codec.value _ (is-status codec st l)

-- a word that is a stamp alone
fields : (st : ℕ) → st < 2 ^ 32 → status st ≡ record { frozen = false; count = 0; block = 0; dead = 0; stamp = st }
unfolding status
fields st l = λ t. record { frozen = no t; count = count t; block = block t; dead = dead t; stamp = stamp t }
  where
    no : (st / 2 ^ 60 % 2 ^ 1 == 1) ≡ false
    no = let e : st / 2 ^ 60 % 2 ^ 1 ≡ 0 = omega (arith, l) in rw e refl

    count : st / 2 ^ 52 % 2 ^ 8 ≡ 0
    count = omega (arith, l)

    block : st / 2 ^ 42 % 2 ^ 10 ≡ 0
    block = omega (arith, l)

    dead : st / 2 ^ 32 % 2 ^ 10 ≡ 0
    dead = omega (arith, l)

    stamp : st / 2 ^ 0 % 2 ^ 32 ≡ st
    stamp = omega (arith, l)

pub root-restamped : (st : ℕ) → st < 2 ^ 32 → restamped st ≡ next_stamp st
root-restamped st l = ap (λ z. status_word (record z { stamp = next_stamp z.stamp })) (fields st l) ∙ omega arith
