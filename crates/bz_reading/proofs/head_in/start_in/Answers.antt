use Rattle.std.proofs.Common.{◌≡◌, List, sym, replicate, rules}
use Rattle.serde_json.specs.Data.{Data}
use Rattle.serde_json.specs.View.{view}
use Rattle.bz_reading.specs.Heads.{filled, start_items}
use Rattle.bz_reading.proofs.ListLemmas.{read_list}
use Rattle.bz_reading.proofs.head_in.start_in.Goals as goal

pub returns-then-put_words : goal.returns-then-put_words
returns-then-put_words c =
    let zeros : c.in_ok-start.start.items ≡ replicate c.args.words 0 = search rules in
    let whole = rw (c.deref.ensures.value, zeros, c.if-put_words.true) at c.put_words.ensures in
    sym (read_list (λ (ds : List Data). filled ds (replicate c.args.words 0)) (start_items (view c.args.value.now)) c.in-Some.pairs.now.items _ c.in-Some.ensures whole)

pub returns-else-put_words : goal.returns-else-put_words
returns-else-put_words c =
    let zeros : c.in_ok-start.start.items ≡ replicate c.args.words 0 = search rules in
    let whole = rw (c.deref.ensures.value, zeros, c.if-put_words.false) at c.put_words.ensures in
    sym (read_list (λ (ds : List Data). filled ds (replicate c.args.words 0)) (start_items (view c.args.value.now)) c.in-Some.pairs.now.items _ c.in-Some.ensures whole)
