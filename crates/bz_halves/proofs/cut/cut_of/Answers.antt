use Rattle.std.proofs.Common.{◌≡◌, ◌<◌, ◌*◌, take, length, arith, sym, ap, inl, inr}
use Rattle.std.proofs.lemmas.Bool.{cases_lt}
use Rattle.bz_node.proofs.Parts.{needed_nil}
use Rattle.bz_halves.specs.Halves.{record_words}
use Rattle.bz_halves.proofs.Cuts.{words-more}
use Rattle.bz_halves.proofs.cut.cut_of.Goals as goal

pub loop-i-init : goal.loop-i-init
loop-i-init c = record { words = sym needed_nil; fewest = λ k l. absurd (omega (arith, l)); small = omega arith }

pub loop-i-preserved : goal.loop-i-preserved
loop-i-preserved c =
    let rs = c.args.records.now in
    let i = c.loop-i.i in
    let v = c.loop-i.invariant in
    let within : i < length rs = c.loop-i-test.true in
    let too_few : 2 * c.loop-i.words < c.args.live = c.if-live-words.false in record {
      words = omega (arith, v.words, words-more rs i c.index-records-i.result within c.index-records-i.is, c.record_words-words.ensures.words);
      fewest = λ k l. elim (cases_lt k i) [
        | inl before ↦ v.fewest k before
        | inr last ↦ (
            let same : k ≡ i = omega (arith, l, last) in
            omega (arith, too_few, v.words, ap (λ z. record_words (take z rs)) same))
      ];
      small = omega (arith, too_few, c.requires.room, c.record_words-words.ensures.few);
    }
