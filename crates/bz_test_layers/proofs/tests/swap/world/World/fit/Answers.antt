use Rattle.std.proofs.Common.{All, subst}
use Rattle.std.proofs.lemmas.List.{take_all}
use Rattle.std.proofs.lemmas.List.Elements.{All-more}
use Rattle.bz_swap.specs.Starts.{IsEntry}
use Rattle.bz_test_layers.proofs.tests.swap.world.World.fit.Goals as goal

pub loop-entry-preserved : goal.loop-entry-preserved
loop-entry-preserved c = All-more (IsEntry c.args.self.now) c.args.entries.now c.loop-entry.entry-index _ c.loop-entry-test.true c.loop-entry.invariant (c.fits.ensures c.if-not-fits.false)

pub returns : goal.returns
returns c = λ is. subst (λ entries. All (IsEntry c.args.self.now) entries) (take_all c.loop-entry.entry-index c.args.entries.now c.loop-entry-test.false) c.loop-entry.invariant
