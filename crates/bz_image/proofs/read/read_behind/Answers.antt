use Rattle.std.proofs.Common.{◌≡◌, ℕ, List, length, drop, ap, ◌∙◌, arith}
use Rattle.std.proofs.lemmas.List.{take_at}
use Rattle.bz_image.specs.Reads.{words_in}
use Rattle.bz_image.proofs.WordLemmas.{words_in-take}
use Rattle.bz_image.proofs.read.read_behind.Goals as goal

pub returns : goal.returns
returns c =
    let counted : length c.deref_mut.result.now ≡ c.count_words-count.result = omega (arith, c.deref_mut.ensures.len, c.in_ok-words.ensures.len) in
    let same : length c.read_words.new.words ≡ c.in_ok-words.words.len = omega (arith, c.deref_mut.ensures.len, c.read_words.auto.words) in
    let all : c.of.result ≡ c.read_words.new.words = c.of.ensures ∙ take_at c.read_words.new.words _ c.in_ok-words.words.len same in
    let read : c.read_words.new.words ≡ words_in (length c.deref_mut.result.now) (drop 20 c.args.bytes.now) =
    c.read_words.ensures ∙ words_in-take (length c.deref_mut.result.now) _ (drop 20 c.args.bytes.now) (omega (arith, counted)) in
    let count = ap (λ (i : ℕ). words_in i (drop 20 c.args.bytes.now)) (counted ∙ c.count_words-count.ensures) in
    ap (λ (ws : List ℕ). record { nodes = c.args.head.nodes; swaps = c.args.head.swaps; words = ws }) (all ∙ read ∙ count)
