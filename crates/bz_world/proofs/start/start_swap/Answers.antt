use Rattle.std.proofs.Common.{refl, sym, ap, subst, ◌∙◌, inl, inr}
use Rattle.std.proofs.lemmas.Bool.{true≢false}
use Rattle.std.specs.Vec.{with_item}
use Rattle.bz_swap.specs.SwapMemory.{SwapMemory, worker_of}
use Rattle.bz_world.specs.Inside.Kept.{IsAwake}
use Rattle.bz_world.proofs.Started.{swaps-one, may-swap, swap-kept}
use Rattle.bz_world.proofs.start.start_swap.Goals as goal

pub start_swap-requires : goal.start_swap-requires
start_swap-requires c = may-swap c.start_laws.ensures c.args.parts.now c.args.w c.args.entries c.requires.asks

pub returns-in-Ok : goal.returns-in-Ok
returns-in-Ok c = record {
  started = λ e. subst (λ s. IsAwake (record c.args.parts.now { access = c.start_swap.new.self; owners = with_item c.args.parts.now.owners s c.args.w })) (sym c.in-Ok.ensures.begun.0)
      (swap-kept c.start_laws.ensures c.args.parts.now c.args.w c.args.entries c.requires.asks c.count-count.ensures.list c.in-Ok.ensures.begun.1 c.start_swap.new.self c.in-Ok.ensures.begun.2 c.start_swap.ensures.held);
  lacks = λ e. absurd (true≢false e);
  same = λ e. absurd (true≢false e);
  rest = refl;
  taken = inr (ap (λ (m : SwapMemory). m.taken) c.in-Ok.ensures.begun.2);
  others = swaps-one c.args.parts.now.access c.start_swap.new.self c.args.w c.args.entries c.in-Ok.ensures.begun.2;
}

-- there was no descriptor
pub returns-in-Err : goal.returns-in-Err
returns-in-Err c = record {
  started = λ e. absurd (true≢false (sym e));
  lacks = λ e. record { entries = c.args.entries; is = refl; spent = c.in-Err.ensures.begun.0 ∙ c.requires.asks.asking.between.living.seen.swaps };
  same = λ e. ap (λ (m : SwapMemory). record c.args.parts.now { access = m }) c.in-Err.ensures.begun.1;
  rest = refl;
  taken = inl (ap (λ (m : SwapMemory). m.taken) c.in-Err.ensures.begun.1);
  others = λ v ne. ap (λ (m : SwapMemory). worker_of m v) c.in-Err.ensures.begun.1;
}
