use Rattle.std.proofs.Common.{sym, ap, ◌∙◌, Some}
use Rattle.bz_layout.specs.declared.thresholds.TheConstants.{SPLIT_SLOTS}
use Rattle.bz_renew.specs.Nodes.{word_address}
use Rattle.bz_task.specs.declared.todo.Todo.TheVariants.{Store as Stores_at}
use Rattle.bz_split.specs.Duties.{image_in, split_of}
use Rattle.bz_split.specs.Facts.{nodes_in, split_asks}
use Rattle.bz_split.proofs.split_root.SplitRoot.asked.Goals as goal

pub returns-in-Store : goal.returns-in-Store
returns-in-Store c =
    let t = c.args.self.now in
    ap (split_asks t.config (split_of t)) c.in-Store.is ∙ (ap (λ z. Some (Stores_at (word_address t.config (nodes_in (split_of t)) c.in-Store.j) z)) (sym c.word.ensures) ∙ ap Some (sym (c.store_at.ensures SPLIT_SLOTS (image_in t))))

pub returns-in-Flush : goal.returns-in-Flush
returns-in-Flush c = let t = c.args.self.now in ap (split_asks t.config (split_of t)) c.in-Flush.is ∙ ap Some (sym (c.flush_at.ensures SPLIT_SLOTS (image_in t)))
