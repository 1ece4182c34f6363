-- Behind a line there are fewer line feeds.
use Rattle.std.proofs.Common.{◌≡◌, ◌<◌, ◌+◌, ◌==◌, cond, ℕ, List, ◌∷◌, ◌++◌, ap, ◌∙◌, arith}
use Rattle.std.proofs.lemmas.List.Sums.{sum_by-cons, sum_by-append}
use Rattle.bz_traces.specs.Steps.{feeds}

pub feeds_less : (left line rest : List ℕ) → left ≡ line ++ 10 ∷ rest → feeds rest < feeds left
feeds_less left line rest is =
    let step : feeds (10 ∷ rest) ≡ 1 + feeds rest = sum_by-cons (λ (b : ℕ). cond (b == 10) 1 0) 10 rest in
    let whole : feeds left ≡ feeds line + feeds (10 ∷ rest) = ap feeds is ∙ sum_by-append (λ (b : ℕ). cond (b == 10) 1 0) line (10 ∷ rest) in
    omega (arith, step, whole)
