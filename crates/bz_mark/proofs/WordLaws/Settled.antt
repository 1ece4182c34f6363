-- A fence leaves as many words as there were.
use Rattle.std.proofs.Common.{◌≡◌, ◌+◌, ◌*◌, if◌then◌else◌, ℕ, Bool, true, false, List, [], ◌∷◌, length, slice_index, refl, ◌∙◌}
use Rattle.std.specs.Prelude.{nat_lt, slice_set}
use Rattle.std.proofs.lemmas.List.{length-set}
use Rattle.bz_pm.specs.After.{Dated, settled_word, settled_words, settled}
use Rattle.bz_pm.specs.declared.asks.Ask.{Ask}

length-settled_word : (a moment word : ℕ) (d : Dated) → length (settled_word a moment word d).durable ≡ length d.durable
length-settled_word a moment word d = either (nat_lt (slice_index d.since a) moment) (record { durable = slice_set d.durable a word; since = slice_set d.since a moment }) (length-set d.durable a word)
  where
    either : (t : Bool) (set : Dated) → length set.durable ≡ length d.durable → length (if t then set else d).durable ≡ length d.durable
    either true set is = is
    either false set is = refl

length-settled_words : (a moment : ℕ) (words : List ℕ) (d : Dated) → length (settled_words a moment words d).durable ≡ length d.durable
length-settled_words a moment [] d = refl
length-settled_words a moment (word ∷ words) d = length-settled_words (a + 1) moment words (settled_word a moment word d) ∙ length-settled_word a moment word d

-- what was asked for makes no word more or fewer
pub length-settled : (asks : List Ask) (d : Dated) → length (settled asks d).durable ≡ length d.durable
length-settled [] d = refl
length-settled (q ∷ asks) d = length-settled asks (settled_words (q.line * 8) q.moment q.words d) ∙ length-settled_words (q.line * 8) q.moment q.words d
