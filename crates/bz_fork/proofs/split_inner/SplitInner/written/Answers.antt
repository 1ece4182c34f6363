use Rattle.std.proofs.Common.{sym, ap, ◌∙◌, Some}
use Rattle.bz_layout.specs.declared.thresholds.TheConstants.{SPLIT_SLOTS}
use Rattle.bz_renew.specs.Nodes.{word_address}
use Rattle.bz_task.specs.declared.todo.Todo.TheVariants.{Store as Stores_at}
use Rattle.bz_writer.specs.Facts.{write_asks}
use Rattle.bz_fork.specs.Duties.{fork_of, three}
use Rattle.bz_fork.specs.Facts.{fork_nodes, fork_plan}
use Rattle.bz_fork.proofs.split_inner.SplitInner.written.Goals as goal

pub returns-in-Store : goal.returns-in-Store
returns-in-Store c =
    let t = c.args.self.now in
    ap (write_asks t.config (fork_plan (fork_of t))) c.in-Store.is ∙ (ap (λ z. Some (Stores_at (word_address t.config (fork_nodes (fork_of t)) c.in-Store.j) z)) (sym c.word.ensures) ∙ ap Some (sym (c.store_at.ensures SPLIT_SLOTS (three t.parent.0 t.left.0 t.right.0))))

pub returns-in-Flush : goal.returns-in-Flush
returns-in-Flush c = let t = c.args.self.now in ap (write_asks t.config (fork_plan (fork_of t))) c.in-Flush.is ∙ ap Some (sym (c.flush_at.ensures SPLIT_SLOTS (three t.parent.0 t.left.0 t.right.0)))
