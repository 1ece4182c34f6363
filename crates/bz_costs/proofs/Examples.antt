-- The numbers, by computing.
use Rattle.std.proofs.Common.{refl}
use Rattle.bz_search.specs.Digits.{digits_in}
use Rattle.bz_costs.specs.Examples.{WeightsAreTold, CostsAreTold}

pub weights-are-told : WeightsAreTold
unfolding digits_in
weights-are-told = record { seek = refl; find = refl; leaf = refl; insert = refl; update = refl; delete = refl; freeze = refl; copy = refl; merge = refl; root = refl; below = refl; inner = refl; inner_root = refl; joining = refl; lowering = refl; lost_below = refl; lost_inner = refl }

pub costs-are-told : CostsAreTold
unfolding digits_in
costs-are-told = record { last_round = refl; one_more = refl; two_more = refl; top = refl; rest = refl; stretch = refl; descriptors = refl; slots = refl; one = refl; eight = refl; most = refl }
