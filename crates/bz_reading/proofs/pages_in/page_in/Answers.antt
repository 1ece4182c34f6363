use Rattle.std.proofs.Common.{List, []}
use Rattle.serde_json.specs.Data.{Data}
use Rattle.serde_json.specs.View.{view}
use Rattle.bz_reading.specs.Reading.{pairs_in, page_items}
use Rattle.bz_reading.proofs.ListLemmas.{read_list}
use Rattle.bz_reading.proofs.pages_in.page_in.Goals as goal

pub returns-in-Some : goal.returns-in-Some
returns-in-Some c =
    let gathered = rw (c.deref.ensures.value, c.clear.ensures) at c.add_pairs.ensures in
    read_list (λ (ds : List Data). pairs_in ds []) (page_items (view c.args.value.now)) c.in-Some.list.now.items _ c.in-Some.ensures gathered
