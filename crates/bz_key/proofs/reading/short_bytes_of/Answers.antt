use Rattle.std.proofs.Common.{arith, ◌∙◌}
use Rattle.bz_key.proofs.WordReads.{long_word, many_bytes, payload_read, payload_refused}
use Rattle.bz_key.proofs.reading.short_bytes_of.Goals as goal

pub returns-then-word-gt-SPELLED_BYTES : goal.returns-then-word-gt-SPELLED_BYTES
returns-then-word-gt-SPELLED_BYTES c = long_word c.args.word.now (omega arith)

pub returns-then-count-gt-LONGEST : goal.returns-then-count-gt-LONGEST
returns-then-count-gt-LONGEST c =
    many_bytes c.args.word.now c.decode-count.new.out c.decode-count.result c.decode-count.ensures.fits c.decode-count.ensures.bytes c.if-count-gt-LONGEST.true

pub returns-then-is_spelling : goal.returns-then-is_spelling
returns-then-is_spelling c =
    payload_read c.args.word.now c.of-bytes.result (c.of-bytes.ensures ∙ c.decode-count.ensures.bytes) c.as_slice.ensures.fits
    (rw c.as_slice.ensures.same at c.if-is_spelling.ensures)

pub returns-else-is_spelling : goal.returns-else-is_spelling
returns-else-is_spelling c =
    payload_refused c.args.word.now c.of-bytes.result (c.of-bytes.ensures ∙ c.decode-count.ensures.bytes)
    (rw c.as_slice.ensures.same at c.if-is_spelling.ensures)
