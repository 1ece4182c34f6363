use Rattle.std.proofs.Common.{arith, ap, length, rules, ◌≡◌}
use Rattle.std.proofs.lemmas.Bool.Decides.{nat_tests}
use Rattle.bz_key.proofs.Spellings.{spelled-empty, one_place, written-none, written-next, written-all}
use Rattle.bz_key.proofs.spelling.spell.Goals as goal

pub returns-then-is_empty-clause-len : goal.returns-then-is_empty-clause-len
returns-then-is_empty-clause-len c = ap length (spelled-empty c.args.bytes.now (search rules))

pub returns-then-is_empty-clause-text : goal.returns-then-is_empty-clause-text
returns-then-is_empty-clause-text c =
    let none : length c.args.bytes.now ≡ 0 = search rules in
    rw (← spelled-empty c.args.bytes.now none) (one_place c.args.out.now 37 c.requires.some)

pub loop-byte-init : goal.loop-byte-init
loop-byte-init c = written-none c.args.bytes.now c.args.out.now

pub loop-byte-preserved : goal.loop-byte-preserved
loop-byte-preserved c =
    written-next c.args.bytes.now c.args.out.now c.loop-byte.out c.spell_byte-end.new.out c.loop-byte.byte-index c.loop-byte.end c.spell_byte-end.result
    c.loop-byte-test.true c.loop-byte.invariant c.spell_byte-end.ensures.end c.spell_byte-end.ensures.text

pub returns-clause-len : goal.returns-clause-len
returns-clause-len c =
    (written-all c.args.bytes.now c.args.out.now c.loop-byte.out c.loop-byte.byte-index c.loop-byte.end (grind (arith, nat_tests)) (omega arith) c.loop-byte.invariant).0

pub returns-clause-text : goal.returns-clause-text
returns-clause-text c =
    (written-all c.args.bytes.now c.args.out.now c.loop-byte.out c.loop-byte.byte-index c.loop-byte.end (grind (arith, nat_tests)) (omega arith) c.loop-byte.invariant).1
