use Rattle.std.proofs.Common.{◌≡◌, ℕ, List, [], refl, ap, subst, ◌∙◌}
use Rattle.bz_swap.specs.Power.{IsOpened}
use Rattle.bz_mark.specs.declared.power.Power.TheVariants as power
use Rattle.bz_ring.specs.Fresh.{fresh_words}
use Rattle.bz_ring.specs.Journal.{QLog}
use Rattle.bz_queue.specs.declared.parts.Parts.{Parts}
use Rattle.bz_queue.proofs.Opening.{fresh-kept, fresh-view}
use Rattle.bz_queue.proofs.Powered.{kept-awake}
use Rattle.bz_queue.proofs.Tables.{ring-of}
use Rattle.bz_queue.proofs.open.fresh_parts.Goals as goal

pub returns : goal.returns
returns c =
    let n = c.args.numbers.now in
    let first : c.deref.result.now ≡ fresh_words n.ring = c.deref.ensures.value ∙ c.in_ok-start.ensures in
    let second : c.deref-2.result.now ≡ fresh_words n.ring = c.deref-2.ensures.value ∙ c.in_ok-start.ensures in
    let log : c.in_ok-journal.journal ≡ record { start = fresh_words n.ring; past = []; most = n.marks } =
    c.in_ok-journal.ensures ∙ ap (λ (words : List ℕ). let it : QLog = record { start = words; past = []; most = n.marks } in it) second in
    let o : IsOpened c.in_ok-access.access (fresh_words n.ring) n.ring.swaps n.workers = subst (λ (words : List ℕ). IsOpened c.in_ok-access.access words n.ring.swaps n.workers) first c.in_ok-access.ensures.opened in
    let tables = c.in_ok-workers.ensures in
    let p : Parts = record {
      numbers = n;
      access = c.in_ok-access.access;
      journal = c.in_ok-journal.journal;
      workers = c.in_ok-workers.field-0.workers;
      owners = c.in_ok-workers.field-0.owners;
      last = c.in_ok-workers.field-0.last;
      begun = 0;
      power = power.On;
      sweep = c.new.result;
    } in
    record {
      kept = kept-awake p (fresh-kept n c.requires p log refl o c.in_ok-access.ensures.held tables.workers tables.owners tables.last refl refl);
      view = fresh-view n c.requires p log refl o c.in_ok-access.ensures.held tables.workers tables.owners tables.last refl refl;
    }

pub area_of-requires : goal.area_of-requires
area_of-requires c = ring-of c.args.numbers.now c.requires
