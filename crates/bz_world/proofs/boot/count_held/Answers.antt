use Rattle.std.proofs.Common.{ap, sym, arith, ◌∙◌, length, slice_index}
use Rattle.std.specs.FinMap.{len-entries}
use Rattle.bz_content.specs.Map.{map_in}
use Rattle.bz_world.proofs.boot.count_held.Goals as goal

pub pairs-requires : goal.pairs-requires
pairs-requires c = record { config = c.args.config.now; whole = record { config = c.requires.config; size = c.requires.whole; none = c.requires.form } }

pub returns-clause-counted : goal.returns-clause-counted
returns-clause-counted c =
    c.len.ensures ∙ (c.in_ok-held.held.ok.0 ∙ (ap length (c.in_ok-held.ensures c.args.config.now (record { config = c.requires.config; size = c.requires.whole; none = c.requires.form }))
    ∙ sym (len-entries (map_in c.args.config.now (slice_index c.args.image.now)))))

pub returns-clause-few : goal.returns-clause-few
returns-clause-few c = omega (arith, c.len.ensures, c.in_ok-held.held.ok.1, c.in_ok-held.held.small)
