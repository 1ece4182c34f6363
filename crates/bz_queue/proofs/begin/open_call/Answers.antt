use Rattle.std.proofs.Common.{◌≡◌, ◌+◌, ℕ, length, refl, ap, subst, ◌∙◌, arith, Some}
use Rattle.std.specs.Vec.{with_item}
use Rattle.std.proofs.lemmas.List.{get_or_read_under}
use Rattle.bz_swap.specs.Held.{IsHeld, Holds}
use Rattle.bz_swap.specs.Starts.{started}
use Rattle.bz_swap.specs.SwapMemory.{SwapMemory, Reading}
use Rattle.bz_ring.specs.declared.marks.QMark.TheVariants.{Begin}
use Rattle.bz_ring.specs.Calls.{begun_calls}
use Rattle.bz_ring.specs.Journal.{QLog, with_mark}
use Rattle.bz_change.specs.Changes as change
use Rattle.bz_queue.specs.declared.parts.Parts.{Parts}
use Rattle.bz_queue.proofs.Acted.{started-held}
use Rattle.bz_queue.proofs.Beginning.{first-of, number-of, number-within, number-fits, answer-is, after-is, kept-begun}
use Rattle.bz_queue.proofs.begin.open_call.Goals as goal

pub overflow_add-n : goal.overflow_add-n
overflow_add-n c =
    let p = c.args.parts.now in
    let is : c.index.result.now ≡ begun_calls c.args.w p.journal.past =
    get_or_read_under p.last.items c.args.w (length p.last.items) c.index.result.now 0 c.index.ensures (number-within p c.args.w c.args.call c.requires.kept c.requires.may) refl ∙ number-of p c.args.w c.args.call c.requires.kept c.requires.may in
    omega (arith, is, number-fits p c.args.w c.args.call c.requires.kept c.requires.may)

pub returns : goal.returns
returns c =
    let p = c.args.parts.now in
    let w = c.args.w in
    let called = c.args.call in
    let k = c.requires.kept in
    let may = c.requires.may in
    let is : c.index.result.now ≡ begun_calls w p.journal.past =
    get_or_read_under p.last.items w (length p.last.items) c.index.result.now 0 c.index.ensures (number-within p w called k may) refl ∙ number-of p w called k may in
    let number : c.index.result.now + 1 ≡ begun_calls w p.journal.past + 1 = ap (λ (n : ℕ). n + 1) is in
    let m : c.start_read.new.self ≡ started p.access w (Reading (change.counter_of called)) = c.start_read.ensures.started ∙ ap (λ (a : ℕ). started p.access w (Reading a)) c.counter_at.ensures in
    let held : IsHeld (started p.access w (Reading (change.counter_of called))) = started-held p.access w (Reading (change.counter_of called)) may.worker (subst Holds m c.start_read.ensures.held) in
    let new : Parts = record p {
      access = c.start_read.new.self;
      journal = c.push.new.self;
      workers = with_item p.workers w (Some (first-of called));
      last = with_item p.last w (c.index.result.now + 1);
      begun = p.begun + 1;
    } in
    let rest : new ≡ record p {
      access = started p.access w (Reading (change.counter_of called));
      journal = with_mark p.journal (Begin w (c.index.result.now + 1) called);
      workers = new.workers;
      last = new.last;
      begun = p.begun + 1;
    } =
    ap (λ (it : SwapMemory). let after : Parts = record new { access = it } in after) m
    ∙ ap (λ (j : QLog). let after : Parts = record new { access = started p.access w (Reading (change.counter_of called)); journal = j } in after) c.push.ensures in
    record {
      kept = kept-begun p new w called (c.index.result.now + 1) k may number held rest refl refl;
      answer = answer-is p w called (c.index.result.now + 1) k may number;
      after = after-is p new w called (c.index.result.now + 1) rest;
    }
