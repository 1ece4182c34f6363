use Rattle.std.proofs.Common.{◌≡◌, false, ◌-◌, arith, ap, sym, ◌∙◌, inl, inr}
use Rattle.std.proofs.lemmas.Bool.{cases_eq}
use Rattle.bz_slotted.specs.Page.{page, visible}
use Rattle.bz_slotted.specs.ReadingLaws.{node_of}
use Rattle.bz_slotted.proofs.Neighbours.{after-last, after-none}
use Rattle.bz_slotted.proofs.entries.is_after_below.Goals as goal

pub returns-then-is_visible : goal.returns-then-is_visible
returns-then-is_visible c =
    after-last (page (node_of c.args.words.now)) (c.loop-i.i - 1) c.args.j c.in_order.result c.requires.rise (omega (arith, c.loop-i.invariant.within, c.loop-i-test.true)) (ap visible (sym c.meta_of.ensures.says) ∙ (sym c.is_visible.ensures ∙ c.if-is_visible.true))
    (λ k from to. c.loop-i.invariant.hidden k (omega (arith, from)) to) c.in_order.ensures

pub loop-i-preserved : goal.loop-i-preserved
loop-i-preserved c =
    let here : visible ((page (node_of c.args.words.now)).meta (c.loop-i.i - 1)) ≡ false = ap visible (sym c.meta_of.ensures.says) ∙ (sym c.is_visible.ensures ∙ c.if-is_visible.false) in
    record {
      within = omega (arith, c.loop-i.invariant.within);
      hidden = λ k from to. elim (cases_eq k (c.loop-i.i - 1)) [
        | inl e ↦ ap (λ m. visible ((page (node_of c.args.words.now)).meta m)) e ∙ here
        | inr ne ↦ c.loop-i.invariant.hidden k (omega (arith, ne, from)) to
      ];
    }

pub returns : goal.returns
returns c = sym (after-none (page (node_of c.args.words.now)) c.args.j (λ k l. c.loop-i.invariant.hidden k (omega (arith, c.loop-i-test.false)) l))
