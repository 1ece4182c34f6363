use Rattle.std.proofs.Common.{◌≡◌, ◌==◌, false, refl, sym}
use Rattle.bz_slotted.proofs.Readings.{fence-long, fence-read, fence-absent, other-test, same-test}
use Rattle.bz_slotted.proofs.front.is_fence.Goals as goal

pub returns-then-len-gt-KEY_BYTES : goal.returns-then-len-gt-KEY_BYTES
returns-then-len-gt-KEY_BYTES c = rw c.in-Some.is (sym (fence-long c.args.words.now c.args.at c.args.len c.in-Some.key c.if-len-gt-KEY_BYTES.true))

pub returns-then-len-eq0 : goal.returns-then-len-eq0
returns-then-len-eq0 c = rw (c.in-None.is, fence-absent c.args.words.now c.args.at c.args.len, same-test c.args.len 0 c.if-len-eq0.true) c.is_blank.ensures

pub returns-else-len-eq0 : goal.returns-else-len-eq0
returns-else-len-eq0 c =
    let f : (c.args.len == 0) ≡ false = other-test c.args.len 0 c.if-len-eq0.false in
    rw (c.in-None.is, fence-absent c.args.words.now c.args.at c.args.len, f) refl

pub returns-in-Some-from_words : goal.returns-in-Some-from_words
returns-in-Some-from_words c =
    let o = rw c.words_for.ensures.words at c.from_words.ensures in
    rw (c.in-Some.is, fence-read c.args.words.now c.args.at c.args.len c.in-Some.key c.from_words.result c.requires c.if-len-gt-KEY_BYTES.false o, c.in-Some-from_words.is) c.eq.ensures

pub returns-in-None-from_words : goal.returns-in-None-from_words
returns-in-None-from_words c =
    let o = rw c.words_for.ensures.words at c.from_words.ensures in
    rw (c.in-Some.is, fence-read c.args.words.now c.args.at c.args.len c.in-Some.key c.from_words.result c.requires c.if-len-gt-KEY_BYTES.false o, c.in-None-from_words.is) refl
