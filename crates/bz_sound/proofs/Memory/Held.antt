-- Descriptors are spent where each is taken or held by another worker with an open call.
use Rattle.std.proofs.Common.{◌≡◌, ◌≢◌, ◌≤◌, ◌+◌, ◌==◌, ◌&&◌, ℕ, Bool, true, false, not, List, refl, ap, arith}
use Rattle.std.specs.Prelude.{is_some, count_by}
use Rattle.std.specs.List.{range_with_len}
use Rattle.std.proofs.lemmas.Bool.Decides.{nat_tests}
use Rattle.bz_layout.specs.declared.config.Config.{Config}
use Rattle.bz_mark.specs.declared.marks.Mark.{Mark}
use Rattle.bz_sound.specs.Calls.{open_call}
use Rattle.bz_sound.specs.Memory.ImageLaws.{IsOther, AreHeldBy, HeldSwapsAreSpent}
use Rattle.bz_mark.specs.Counts.{is_taken}
use Rattle.bz_sound.specs.Memory.Spent.{count_others}
use Rattle.bz_sound.proofs.Memory.Counts.{passing-count, all-passing, Lands, IsApartInto, no-fewer}

turned : (b : Bool) → not b ≡ true → b ≡ false
turned true is = absurd (cc)
turned false is = refl

passes-both : (a b : Bool) → a ≡ false → b ≡ true → (not a && b) ≡ true
passes-both false true is also = refl
passes-both true b is also = absurd (cc)
passes-both a false is also = absurd (cc)

-- another worker with an open call is counted
pub counted : (c : Config) (past : List Mark) (w v : ℕ) → IsOther c past w v → Lands (λ u. not (u == w) && is_some (open_call u past)) 1 c.workers v
counted c past w v h =
    let different : v ≢ w = h.other in
    let other : (v == w) ≡ false = grind (arith, nat_tests) in
    record { low = h.worker; high = omega (arith, h.configured); passes = passes-both (v == w) (is_some (open_call v past)) other (ap is_some h.calls.is_open) }

-- whatever is taken
pub held-count : (taken : ℕ → Bool) (c : Config) (past : List Mark) (w : ℕ) (holder : ℕ → ℕ) → AreHeldBy taken c past w holder
    → c.swaps ≤ count_by taken (range_with_len 0 c.swaps) + count_others c w past
held-count taken c past w holder h =
    omega (arith, all-passing taken 0 c.swaps, passing-count taken 0 c.swaps, passing-count others 1 c.workers, no-fewer (λ s. not (taken s)) others holder 0 c.swaps 1 c.workers into)
  where
    others : ℕ → Bool
    others v = not (v == w) && is_some (open_call v past)

    into : IsApartInto (λ s. not (taken s)) others holder 0 c.swaps 1 c.workers
    into = record {
      lands = λ s low high is. counted c past w (holder s) (h.held s (omega arith) (turned (taken s) is));
      apart = λ s t ls hs lt ht is also same. h.one_each s t (omega arith) (omega arith) (turned (taken s) is) (turned (taken t) also) same;
    }

pub held-spent : HeldSwapsAreSpent
held-spent c start past w opened holder h = held-count (λ s. is_taken s past) c past w holder h
