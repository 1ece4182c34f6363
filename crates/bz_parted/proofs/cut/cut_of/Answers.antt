use Rattle.std.proofs.Common.{◌≡◌, ◌<◌, ◌*◌, take, length, get_or, arith, sym, ap, subst, ◌∙◌, inl, inr}
use Rattle.std.specs.Prelude.{None}
use Rattle.std.proofs.lemmas.Bool.{cases_lt}
use Rattle.std.proofs.lemmas.List.{take_all, get_or_default}
use Rattle.bz_node.specs.Reading.{children_in}
use Rattle.bz_node.proofs.Parts.{needed_nil}
use Rattle.bz_halves.proofs.PartedChildren.{children-count, child-read}
use Rattle.bz_parted.specs.Parting.{child_words}
use Rattle.bz_parted.proofs.Cuts.{words-more}
use Rattle.bz_parted.proofs.cut.cut_of.Goals as goal

pub loop-j-init : goal.loop-j-init
loop-j-init c = record { words = sym needed_nil; fewest = λ k l. absurd (omega (arith, l)); small = omega arith }

pub loop-j-preserved : goal.loop-j-preserved
loop-j-preserved c =
    let cs = children_in c.args.old.now.0 in
    let j = c.loop-j.j in
    let v = c.loop-j.invariant in
    let counted = children-count c.args.old.now.0 in
    let within : j < length cs = omega (arith, c.loop-j-test.true, c.child_count-count.ensures, counted) in
    let is : c.child.result ≡ get_or cs j c.child.result = c.child.ensures ∙ (sym (child-read c.args.old.now.0 j (omega (arith, within, counted))) ∙ get_or_default cs j (record { low = None; slot = 0 }) c.child.result within) in
    let too_few : 2 * c.loop-j.left < c.args.words = c.if-words-left.false in record {
      words = omega (arith, v.words, words-more cs j c.child.result within is, c.child_words-left.ensures.words);
      fewest = λ k l. elim (cases_lt k j) [
        | inl before ↦ v.fewest k before
        | inr last ↦ (
            let same : k ≡ j = omega (arith, l, last) in
            omega (arith, too_few, v.words, ap (λ z. child_words (take z cs)) same))
      ];
      small = omega (arith, too_few, c.requires.room, c.child_words-left.ensures.few);
    }

pub returns-clause-cut : goal.returns-clause-cut
returns-clause-cut c =
    let cs = children_in c.args.old.now.0 in
    let counted = children-count c.args.old.now.0 in
    let all : take c.child_count-count.result cs ≡ cs = take_all c.child_count-count.result cs (omega (arith, c.child_count-count.ensures, counted)) in
    let last : c.loop-j.j ≡ c.child_count-count.result = omega (arith, c.loop-j-test.false) in
    record {
      enough = omega (arith, ap child_words all);
      fewest = λ k l. subst (λ z. 2 * child_words (take k cs) < z) c.requires.words (c.loop-j.invariant.fewest k (omega (arith, l, last)));
    }
