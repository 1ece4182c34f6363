use Rattle.std.proofs.Common.{refl, sym, subst, inl, inr}
use Rattle.std.proofs.lemmas.Bool.{true≢false}
use Rattle.bz_world.specs.Inside.Telling.{MustStart, LacksDescriptor}
use Rattle.bz_world.proofs.Started.{starts-one, may-read, may-store, may-flush, asks-no-load, read-kept, store-kept, flush-kept}
use Rattle.bz_world.proofs.start.start.Goals as goal

pub start_read-requires : goal.start_read-requires
start_read-requires c = may-read c.start_laws.ensures c.args.parts.now c.args.w c.in-Read.a (subst (MustStart c.args.parts.now c.args.w) c.in-Read.is c.requires.asks)

pub start_store-requires : goal.start_store-requires
start_store-requires c = may-store c.start_laws.ensures c.args.parts.now c.args.w c.in-Store.a c.in-Store.v (subst (MustStart c.args.parts.now c.args.w) c.in-Store.is c.requires.asks)

pub start_flush-requires : goal.start_flush-requires
start_flush-requires c = may-flush c.start_laws.ensures c.args.parts.now c.args.w c.in-Flush.line (subst (MustStart c.args.parts.now c.args.w) c.in-Flush.is c.requires.asks)

pub returns-in-Read : goal.returns-in-Read
returns-in-Read c =
    let only = starts-one c.args.parts.now.access c.start_read.new.self c.args.w _ c.start_read.ensures.started in
    record {
      started = λ e. read-kept c.start_laws.ensures c.args.parts.now c.args.w c.in-Read.a (subst (MustStart c.args.parts.now c.args.w) c.in-Read.is c.requires.asks) c.start_read.new.self c.start_read.ensures.started c.start_read.ensures.held;
      lacks = λ e. absurd (true≢false e);
      same = λ e. absurd (true≢false e);
      rest = refl;
      taken = inl only.taken;
      others = only.others;
    }

pub returns-in-Store : goal.returns-in-Store
returns-in-Store c =
    let only = starts-one c.args.parts.now.access c.start_store.new.self c.args.w _ c.start_store.ensures.started in
    record {
      started = λ e. store-kept c.start_laws.ensures c.args.parts.now c.args.w c.in-Store.a c.in-Store.v (subst (MustStart c.args.parts.now c.args.w) c.in-Store.is c.requires.asks) c.start_store.new.self c.start_store.ensures.started c.start_store.ensures.held;
      lacks = λ e. absurd (true≢false e);
      same = λ e. absurd (true≢false e);
      rest = refl;
      taken = inl only.taken;
      others = only.others;
    }

pub returns-in-Flush : goal.returns-in-Flush
returns-in-Flush c =
    let only = starts-one c.args.parts.now.access c.start_flush.new.self c.args.w _ c.start_flush.ensures.started in
    record {
      started = λ e. flush-kept c.start_laws.ensures c.args.parts.now c.args.w c.in-Flush.line (subst (MustStart c.args.parts.now c.args.w) c.in-Flush.is c.requires.asks) c.start_flush.new.self c.start_flush.ensures.started c.start_flush.ensures.held;
      lacks = λ e. absurd (true≢false e);
      same = λ e. absurd (true≢false e);
      rest = refl;
      taken = inl only.taken;
      others = only.others;
    }

pub returns-in-Swap : goal.returns-in-Swap
returns-in-Swap c = record {
  started = c.start_swap.ensures.started;
  lacks = λ e. subst (LacksDescriptor c.args.parts.now) (sym c.in-Swap.is) (c.start_swap.ensures.lacks e);
  same = c.start_swap.ensures.same;
  rest = c.start_swap.ensures.rest;
  taken = c.start_swap.ensures.taken;
  others = c.start_swap.ensures.others;
}

-- neither is asked for here
pub returns-in-Load : goal.returns-in-Load
returns-in-Load c = absurd (elim c.in-Load.is [
  | inl load ↦ asks-no-load c.start_laws.ensures c.args.parts.now c.args.w load.0 (subst (MustStart c.args.parts.now c.args.w) load.1 c.requires.asks)
  | inr ends ↦ c.requires.more ends
])
