use Rattle.std.proofs.Common.{◌≡◌, ◌≢◌, sym, ap, ◌∙◌, arith, inl, inr}
use Rattle.std.proofs.lemmas.Bool.{cases_eq}
use Rattle.bz_content.specs.Resolving.{target_in}
use Rattle.bz_word.specs.declared.kind.WordKind.TheVariants.{Swap}
use Rattle.bz_sweep.proofs.Finding.{of-descriptor, last-target, sought-value, unresolved-found, IsChoice}
use Rattle.bz_sweep.proofs.words.sought.Goals.{then-target-from-via-then-target-from, then-target-from-via-else-target-from+then-entry-eq-MAX_ENTRIES, then-pointer, else-pointer}
use Rattle.bz_sweep.proofs.words.sought.Goals as goal

pub returns-then-target-from-clause-learns : goal.returns-then-target-from-clause-learns
returns-then-target-from-clause-learns c r v m spot h k e =
    let choice : IsChoice c.args.pointer.succeeded c.if-pointer.word = elim c.if-pointer.branch [ then-pointer w ↦ inl (w.if-pointer.true, w.word-is) | else-pointer w ↦ inr (w.if-pointer.false, w.word-is) ] in
    let target : target_in m.durable c.args.pointer.swap c.args.entry ≡ c.args.spot.at = elim c.then-target-from.branch [
      | then-target-from-via-then-target-from w ↦
          of-descriptor r v m c.args.spot.unflushed c.args.spot.at c.args.pointer.swap c.args.entry 0 c.args.target spot.shared h k.pointer c.requires (omega arith) e ∙ (w.if-target-from.true ∙ c.from.ensures)
      | then-target-from-via-else-target-from+then-entry-eq-MAX_ENTRIES w ↦ last-target r v m c.args.spot.unflushed c.args.spot.at c.args.pointer c.args.entry spot.shared h k w.if-entry-eq-MAX_ENTRIES.true
    ] in
    (h, sought-value r v m c.args.spot.unflushed c.args.spot.at c.args.pointer c.args.entry c.if-pointer.word c.address_in_entry.result spot.shared h k c.requires target choice c.address_in_entry.ensures, unresolved-found (m.durable c.args.spot.at) (Swap c.args.pointer.swap) k.pointer (λ y is. cc))

pub returns-clause-learns : goal.returns-clause-learns
returns-clause-learns c r v m spot h k e =
    let now : target_in m.durable c.args.pointer.swap c.args.entry ≡ c.args.target = of-descriptor r v m c.args.spot.unflushed c.args.spot.at c.args.pointer.swap c.args.entry 0 c.args.target spot.shared h k.pointer c.requires (omega arith) e in
    let other : c.args.target ≢ c.args.spot.at = λ same. c.if-target-from.false (same ∙ sym c.from.ensures) in (
      h,
      record {
        pointer = k.pointer;
        succeeded = k.succeeded;
        others = λ j l. elim (cases_eq j c.args.entry) [
          | inl same ↦ (λ r. other (sym now ∙ (ap (target_in m.durable c.args.pointer.swap) (sym same) ∙ r)))
          | inr ne ↦ k.others j (omega (arith, l, ne))
        ];
      },
    )
