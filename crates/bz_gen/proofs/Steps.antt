-- One call more.
use Rattle.std.proofs.Common.{◌≡◌, ℕ, ◌+◌, [], ◌∷◌, ◌++◌, refl, add-one}
use Rattle.bz_gen.specs.Workload.{behind, draws_from, state_after, item_drawn, items_drawn}

pub state_after-more : (seed done : ℕ) → state_after seed (done + 1) ≡ behind (state_after seed done)
unfolding state_after
state_after-more seed done = rw (add-one done) refl

pub items_drawn-more : (seed calls workers done : ℕ) → items_drawn seed calls workers (done + 1) ≡ items_drawn seed calls workers done ++ item_drawn calls workers (done + 1) (draws_from (state_after seed done)) ∷ []
unfolding items_drawn
items_drawn-more seed calls workers done = rw (add-one done) refl

pub items_drawn-none : (seed calls workers : ℕ) → items_drawn seed calls workers 0 ≡ []
unfolding items_drawn
items_drawn-none seed calls workers = refl

pub state_after-none : (seed : ℕ) → state_after seed 0 ≡ seed
unfolding state_after
state_after-none seed = refl
