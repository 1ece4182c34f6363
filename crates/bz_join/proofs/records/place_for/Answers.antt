use Rattle.std.proofs.Common.{ℕ, ◌≡◌, ◌≢◌, ◌-◌, [], length, get_or, arith, inl, inr}
use Rattle.std.proofs.lemmas.Bool.{cases_lt}
use Rattle.bz_node.specs.Records.{IsBefore, keys_of}
use Rattle.bz_node.proofs.Orders.{get_or-keys_of, length-keys_of, is_before_other, IsBefore-trans}
use Rattle.bz_join.proofs.records.place_for.Goals as goal

pub loop-place-preserved : goal.loop-place-preserved
loop-place-preserved c =
    let last : ℕ = c.loop-place.place - 1 in
    let here = get_or c.args.pairs.now last c.index-pairs-place.result in
    let key : get_or (keys_of c.args.pairs.now) last [] ≡ here.0 = get_or-keys_of c.args.pairs.now last c.index-pairs-place.result (omega arith) in
    record {
      within = omega arith;
      after = λ k from inside. elim (cases_lt last k) [
        | inl above ↦ c.loop-place.invariant.after k (omega arith) inside
        | inr below ↦ (let e : k ≡ last = omega arith in rw (e, key) (c.is_before.ensures.0 c.if-is_before.true))
      ];
    }

pub returns-else-is_before-clause-before : goal.returns-else-is_before-clause-before
returns-else-is_before-clause-before c k below =
    let last : ℕ = c.loop-place.place - 1 in
    let keys = keys_of c.args.pairs.now in
    let long : length keys ≡ length c.args.pairs.now = length-keys_of c.args.pairs.now in
    let here = get_or c.args.pairs.now last c.index-pairs-place.result in
    let key : get_or keys last [] ≡ here.0 = get_or-keys_of c.args.pairs.now last c.index-pairs-place.result (omega arith) in
    let other : here.0 ≢ c.args.key.now = rw key at (c.requires.new last [] (omega (arith, long))) in
    let at_last : IsBefore (get_or keys last []) c.args.key.now =
    rw key (is_before_other c.args.key.now here.0 other (λ h. (let t = c.is_before.ensures.1 h in cc))) in
    elim (cases_lt k last) [
      | inl less ↦ IsBefore-trans (get_or keys k []) (get_or keys last []) c.args.key.now (c.requires.rising k last less (omega (arith, long))) at_last
      | inr high ↦ (let e : k ≡ last = omega arith in rw e at_last)
    ]
