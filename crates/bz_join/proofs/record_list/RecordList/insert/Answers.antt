use Rattle.std.proofs.Common.{◌≡◌, ◌+◌, ◌≤◌, ℕ, List, [], length, take, slice_set, arith, sym, ap, ◌∙◌}
use Rattle.std.specs.List.{insert}
use Rattle.std.proofs.lemmas.List.{length-take-le}
use Rattle.bz_join.proofs.Inserting.{inserted}
use Rattle.bz_join.proofs.record_list.RecordList.insert.Goals as goal

pub returns : goal.returns
returns c =
    let old = c.self.inside in
    let new = c.loop-free.self-inside in
    let v = c.loop-free.invariant in
    let few : old.count ≤ length old.pairs = omega (arith, c.self.invariant, v.full) in
    let long : length c.args.self.now ≡ old.count = ap length (sym c.self.view_is) ∙ length-take-le old.count old.pairs few in
    let there : c.loop-free.free ≡ c.args.place = omega (arith, v.from, c.loop-free-test.false) in
    let x : List ℕ × List ℕ = (c.args.key, c.args.payload) in
    let done : take (old.count + 1) (slice_set new.pairs c.args.place x) ≡ insert (take old.count old.pairs) c.args.place x =
    inserted old.pairs new.pairs old.count c.args.place x ([], []) v.size (omega (arith, c.requires.within, long)) (omega (arith, c.requires.room, long, v.full))
    (λ k l. v.before k (omega (arith, there, l))) (λ k l m. v.after k (omega (arith, there, l)) (omega (arith, v.count, m))) in
    ap (λ z. take (z + 1) (slice_set new.pairs c.args.place x)) v.count ∙ (done ∙ ap (λ z. insert z c.args.place x) c.self.view_is)
