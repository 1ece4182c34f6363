-- Live words with one record more.
use Rattle.std.proofs.Common.{◌≡◌, ℕ, suc, ◌+◌, arith, refl, ap}
use Rattle.bz_word.specs.declared.meta.Meta.{Meta}
use Rattle.bz_slotted.specs.Records.{shown, live_block}

pub live-more : (meta : ℕ → Meta) (k : ℕ) → live_block meta (k + 1) ≡ live_block meta k + shown (meta k)
unfolding live_block
live-more meta k = ap (live_block meta) (one k)
  where
    one : (n : ℕ) → n + 1 ≡ suc n
    one n = omega arith

pub live-none : (meta : ℕ → Meta) → live_block meta 0 ≡ 0
unfolding live_block
live-none meta = refl
