use Rattle.bz_page.proofs.Shows.{is-page}
use Rattle.bz_page.proofs.pages.collect.Goals as goal

pub returns-clause-page : goal.returns-clause-page
returns-clause-page c = is-page c.args.from.now c.args.view.now c.records.new.out c.drop_before.new.self c.high.result (record {
  size = c.is_whole.ensures;
  order = c.records.ensures;
  rest = c.drop_before.ensures;
  high = c.high.ensures;
})
