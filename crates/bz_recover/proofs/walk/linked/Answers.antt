use Rattle.std.proofs.Common.{◌+◌, arith, sym, ap, ◌∙◌}
use Rattle.bz_content.specs.Image.{node}
use Rattle.bz_content.specs.Resolving.{resolve}
use Rattle.bz_node.specs.Reading.{payload_at}
use Rattle.bz_recover.proofs.Reading.{meta-read, ReadsMeta}
use Rattle.bz_recover.proofs.walk.linked.Goals as goal

pub returns-then-place-lt-NODE_WORDS-clause-leads : goal.returns-then-place-lt-NODE_WORDS-clause-leads
returns-then-place-lt-NODE_WORDS-clause-leads c w free values image t left g told =
    let r : ReadsMeta (node w.config (resolve image) c.args.way.slot) c.args.way.next c.args.meta = meta-read w.config values image g.visit c.args.level c.args.way.slot c.args.way.next c.args.meta t g.on_way.inner g.on_way.slot (rw g.on_way.count c.requires) told in
    ((g, r.place ∙ (ap payload_at c.in-Some.ensures.some ∙ ap (λ n. c.in-Some.extent.offset + n) (sym c.words_for.ensures.words))), left)

pub returns-else-place-lt-NODE_WORDS-clause-leads : goal.returns-else-place-lt-NODE_WORDS-clause-leads
returns-else-place-lt-NODE_WORDS-clause-leads c w free values image t left g told =
    let r : ReadsMeta (node w.config (resolve image) c.args.way.slot) c.args.way.next c.args.meta = meta-read w.config values image g.visit c.args.level c.args.way.slot c.args.way.next c.args.meta t g.on_way.inner g.on_way.slot (rw g.on_way.count c.requires) told in
    absurd (omega (arith, r.inside, ap payload_at c.in-Some.ensures.some, c.words_for.ensures.words, c.if-place-lt-NODE_WORDS.false))

pub returns-in-None-clause-leads : goal.returns-in-None-clause-leads
returns-in-None-clause-leads c w free values image t left g told =
    let r : ReadsMeta (node w.config (resolve image) c.args.way.slot) c.args.way.next c.args.meta = meta-read w.config values image g.visit c.args.level c.args.way.slot c.args.way.next c.args.meta t g.on_way.inner g.on_way.slot (rw g.on_way.count c.requires) told in
    let some = c.in-None.ensures.is r.shows in
    absurd (cc)
