-- The pairs of a start image, a word after another.
use Rattle.std.proofs.Common.{◌≡◌, ◌<◌, ◌≤◌, ℕ, ◌+◌, List, [], ◌++◌, length, drop, get_or, refl, sym, ap, ◌∙◌, arith, append_assoc, append-nil, add-one, drop-cons}
use Rattle.std.proofs.lemmas.Grind.{common_steps}
use Rattle.serde_json.specs.Data.{Data}
use Rattle.bz_lines.specs.Objects.{pair_at, word_pairs}

next_pair : (words : List ℕ) (a : ℕ) → a < length words → word_pairs a (drop a words) ≡ pair_at a (get_or words a 0) ++ word_pairs (a + 1) (drop (a + 1) words)
next_pair words a within = rw (add-one, drop-cons words a 0) (rw (add-one) refl)

-- one word more
pub pairs_step : (done done' whole : List Data) (words : List ℕ) (a : ℕ) → a < length words → done ++ word_pairs a (drop a words) ≡ whole
    → done' ≡ done ++ pair_at a (get_or words a 0) → done' ++ word_pairs (a + 1) (drop (a + 1) words) ≡ whole
pairs_step done done' whole words a within before more =
    ap (λ (ds : List Data). ds ++ word_pairs (a + 1) (drop (a + 1) words)) more
    ∙ append_assoc done (pair_at a (get_or words a 0)) (word_pairs (a + 1) (drop (a + 1) words))
    ∙ ap (λ (ds : List Data). done ++ ds) (sym (next_pair words a within)) ∙ before

-- no word is left
pub pairs_end : (done whole : List Data) (words : List ℕ) (a : ℕ) → length words ≤ a → done ++ word_pairs a (drop a words) ≡ whole → done ≡ whole
pairs_end done whole words a past before =
    let none : drop a words ≡ [] = grind (arith, common_steps) in
    sym (append-nil done) ∙ ap (λ (ws : List ℕ). done ++ word_pairs a ws) (sym none) ∙ before
