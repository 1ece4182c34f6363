use Rattle.std.proofs.Common.{arith, rules, sym, ◌∙◌, ◌≡◌, ◌<◌, length}
use Rattle.std.proofs.lemmas.Bool.Decides.{nat_tests}
use Rattle.bz_key.proofs.WordReads.{key_refused, key_read, key_empty}
use Rattle.bz_key.proofs.reading.read_key.Goals as goal

pub returns-in_err-bytes : goal.returns-in_err-bytes
returns-in_err-bytes c = c.from_residual.ensures ∙ key_refused c.args.word.now (sym c.in_err-bytes.was ∙ c.short_bytes_of.ensures)

pub returns-then-is_empty : goal.returns-then-is_empty
returns-then-is_empty c =
    let none : length c.as_slice.result.now ≡ 0 = search rules in
    key_empty c.args.word.now c.in_ok-bytes.bytes (sym c.in_ok-bytes.was ∙ c.short_bytes_of.ensures) (rw c.as_slice.ensures.same at none)

pub returns : goal.returns
returns c =
    let some : 0 < length c.as_slice.result.now = grind (arith, nat_tests) in
    rw c.of_short.ensures (key_read c.args.word.now c.in_ok-bytes.bytes (sym c.in_ok-bytes.was ∙ c.short_bytes_of.ensures) (rw c.as_slice.ensures.same at some))
