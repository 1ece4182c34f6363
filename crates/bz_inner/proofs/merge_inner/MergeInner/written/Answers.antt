use Rattle.std.proofs.Common.{sym, ap, ◌∙◌, Some}
use Rattle.bz_layout.specs.declared.thresholds.TheConstants.{MERGE_SLOTS}
use Rattle.bz_renew.specs.Nodes.{word_address}
use Rattle.bz_task.specs.declared.todo.Todo.TheVariants.{Store as Stores_at}
use Rattle.bz_writer.specs.Facts.{write_asks}
use Rattle.bz_inner.specs.JoinDuties.{joining_of, two}
use Rattle.bz_inner.specs.JoinFacts.{joining_nodes, joining_plan}
use Rattle.bz_inner.proofs.merge_inner.MergeInner.written.Goals as goal

pub returns-in-Store : goal.returns-in-Store
returns-in-Store c =
    let t = c.args.self.now in
    ap (write_asks t.config (joining_plan (joining_of t))) c.in-Store.is ∙ (ap (λ z. Some (Stores_at (word_address t.config (joining_nodes (joining_of t)) c.in-Store.j) z)) (sym c.word.ensures) ∙ ap Some (sym (c.store_at.ensures MERGE_SLOTS (two t.root.0 t.joined.0))))

pub returns-in-Flush : goal.returns-in-Flush
returns-in-Flush c = let t = c.args.self.now in ap (write_asks t.config (joining_plan (joining_of t))) c.in-Flush.is ∙ ap Some (sym (c.flush_at.ensures MERGE_SLOTS (two t.root.0 t.joined.0)))
