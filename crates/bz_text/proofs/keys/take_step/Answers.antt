use Rattle.bz_text.proofs.KeyLemmas.{step-insert, step-upsert, step-delete, step-update}
use Rattle.bz_text.proofs.keys.take_step.Goals as goal

pub returns-in_ok-insert-in-Insert : goal.returns-in_ok-insert-in-Insert
returns-in_ok-insert-in-Insert c map h =
    let e = c.in_ok-insert-in-Insert.ensures in
    rw c.in-Insert.is
    (step-insert map c.args.keys.now.keys c.insert.new.self.keys h c.in-Insert.key c.in-Insert.field-1 c.in_ok-insert-in-Insert.field-0
    (record { is = e.added; others = e.updates.0; longer = e.len; unchanged = λ no. rw no at e.unchanged }))

pub returns-in_ok-insert-in-Upsert : goal.returns-in_ok-insert-in-Upsert
returns-in_ok-insert-in-Upsert c map h =
    let e = c.in_ok-insert-in-Upsert.ensures in
    rw c.in-Upsert.is
    (step-upsert map c.args.keys.now.keys c.insert-in-Upsert.new.self.keys h c.in-Upsert.key c.in-Upsert.field-1 c.in_ok-insert-in-Upsert.field-0
    (record { is = e.added; others = e.updates.0; longer = e.len; unchanged = λ no. rw no at e.unchanged }))

pub returns-in-Delete : goal.returns-in-Delete
returns-in-Delete c map h =
    let e = c.remove.ensures in
    rw c.in-Delete.is (step-delete map c.args.keys.now.keys c.remove.new.self.keys h c.in-Delete.key c.remove.result e.test e.updates.0 e.len (λ no. rw no at e.unchanged))

pub returns-in-Update : goal.returns-in-Update
returns-in-Update c map h = rw c.in-Update.is (step-update map c.args.keys.now.keys h c.in-Update.field-0 c.in-Update.field-1)
