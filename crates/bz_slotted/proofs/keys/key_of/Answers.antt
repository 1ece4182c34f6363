use Rattle.std.proofs.Common.{◌≢◌, ◌≤◌, ◌+◌, arith}
use Rattle.std.specs.Prelude.{IsSome}
use Rattle.bz_layout.specs.declared.sizes.TheConstants.{NODE_WORDS}
use Rattle.bz_key.specs.Packing.{unpacked_key}
use Rattle.bz_node.specs.Reading.{extent_words}
use Rattle.bz_slotted.specs.ReadingLaws.{node_of}
use Rattle.bz_slotted.specs.Records.{key_words}
use Rattle.bz_slotted.proofs.Plain.{key-empty, key-read}
use Rattle.bz_slotted.proofs.keys.key_of.Goals as goal

pub returns-then-extent-eq0 : goal.returns-then-extent-eq0
returns-then-extent-eq0 c = rw (← c.extent_of-extent.ensures.extent) (key-empty (node_of c.args.words.now) c.extent_of-extent.result c.if-extent-eq0.true)

pub returns : goal.returns
returns c =
    let e = c.extent_of-extent.result in
    let is = c.extent_of-extent.ensures.extent in
    let other : e.key ≢ 0 = c.if-extent-eq0.false in
    let ends : e.offset + extent_words e ≤ NODE_WORDS = rw is c.requires.key.ends in
    let packs = rw (← is) at c.requires.key.packs in
    let some : IsSome (unpacked_key e.key (key_words (node_of c.args.words.now) e)) = packs (omega (arith, other)) in
    let o = rw c.words_for.ensures.words at c.from_words.ensures in
    rw (← is) (key-read c.args.words.now e c.from_words.result (omega (arith, ends, c.requires.whole)) some o)
