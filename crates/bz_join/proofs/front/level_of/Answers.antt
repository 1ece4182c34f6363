use Rattle.std.specs.Prelude.{IsSome, None}
use Rattle.bz_slotted.specs.ReadingLaws.{node_of}
use Rattle.bz_word.specs.declared.header.Header.{Header}
use Rattle.bz_join.proofs.Fronts.{level-read, header-there}
use Rattle.bz_join.proofs.front.level_of.Goals as goal

pub returns-in-Some : goal.returns-in-Some
returns-in-Some c = level-read c.args.image.now.0 c.in-Some.header c.in-Some.ensures.word.0 c.in-Some.ensures.word.1

pub returns-in-None : goal.returns-in-None
returns-in-None c nodes raw level low high none =
    let some : IsSome {T = Header} None = c.in-None.ensures.lawful.1 (header-there nodes raw (node_of c.args.image.now.0) level low high none).header in absurd (cc)
