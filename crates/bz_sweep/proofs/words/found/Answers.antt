use Rattle.std.proofs.Common.{◌≡◌, ap, ◌∙◌, subst, ◌+◌, ◌*◌}
use Rattle.std.specs.Prelude.{None, IsSome}
use Rattle.bz_word.specs.Kinds.{word, IsKind}
use Rattle.bz_word.specs.declared.kind.WordKind.{WordKind}
use Rattle.bz_word.specs.declared.kind.WordKind.TheVariants.{Dirty, Swap, Tag}
use Rattle.bz_sweep.proofs.Finding.{kind-found, unresolved-found, value-found, plain-found, some-kind, tag-found}
use Rattle.bz_sweep.proofs.Sweeps.{passed}
use Rattle.bz_sweep.proofs.words.found.Goals as goal

pub returns-in-Some-Dirty-clause-learns : goal.returns-in-Some-Dirty-clause-learns
returns-in-Some-Dirty-clause-learns c v m h e = (
  h,
  value-found c.args.area.now v m c.args.spot.unflushed c.args.spot.at (Dirty c.in-Some-Dirty.value) c.requires.spot.shared h
      (kind-found c.args.area.now v m c.args.spot.unflushed c.args.spot.at c.args.word (Dirty c.in-Some-Dirty.value) c.requires.spot.shared h e
      (subst (λ k. IsKind k × (word k ≡ c.args.word)) c.in-Some-Dirty.field-0-is c.in-Some-Dirty.ensures.word)),
  unresolved-found (m.durable c.args.spot.at) (Dirty c.in-Some-Dirty.value)
      (kind-found c.args.area.now v m c.args.spot.unflushed c.args.spot.at c.args.word (Dirty c.in-Some-Dirty.value) c.requires.spot.shared h e
      (subst (λ k. IsKind k × (word k ≡ c.args.word)) c.in-Some-Dirty.field-0-is c.in-Some-Dirty.ensures.word)) (λ y is. cc),
)

pub returns-in-Some-Swap-clause-learns : goal.returns-in-Some-Swap-clause-learns
returns-in-Some-Swap-clause-learns c v m h e = (
  h,
  kind-found c.args.area.now v m c.args.spot.unflushed c.args.spot.at c.args.word (Swap c.in-Some-Swap.swap) c.requires.spot.shared h e
      (subst (λ k. IsKind k × (word k ≡ c.args.word)) c.in-Some-Swap.field-0-is c.in-Some-Swap.ensures.word),
)

pub returns-in-Some-Tag-clause-learns : goal.returns-in-Some-Tag-clause-learns
returns-in-Some-Tag-clause-learns c v m h e = (
  h,
  tag-found c.args.area.now v m c.args.spot.unflushed c.args.spot.at c.in-Some-Tag.swap c.in-Some-Tag.entry c.in-Some-Tag.field-0-2 c.in-Some-Tag.field-0-3 c.address_in_entry.result c.requires.spot.shared h
      (kind-found c.args.area.now v m c.args.spot.unflushed c.args.spot.at c.args.word (Tag c.in-Some-Tag.swap c.in-Some-Tag.entry c.in-Some-Tag.field-0-2 c.in-Some-Tag.field-0-3) c.requires.spot.shared h e
      (subst (λ k. IsKind k × (word k ≡ c.args.word)) c.in-Some-Tag.field-0-is c.in-Some-Tag.ensures.word))
      (c.address_in_entry.ensures ∙ ap (λ i. 16 + 16 * c.in-Some-Tag.swap + (2 + 3 * i) + 1) c.from.ensures),
  unresolved-found (m.durable c.args.spot.at) (Tag c.in-Some-Tag.swap c.in-Some-Tag.entry c.in-Some-Tag.field-0-2 c.in-Some-Tag.field-0-3)
      (kind-found c.args.area.now v m c.args.spot.unflushed c.args.spot.at c.args.word (Tag c.in-Some-Tag.swap c.in-Some-Tag.entry c.in-Some-Tag.field-0-2 c.in-Some-Tag.field-0-3) c.requires.spot.shared h e
      (subst (λ k. IsKind k × (word k ≡ c.args.word)) c.in-Some-Tag.field-0-is c.in-Some-Tag.ensures.word)) (λ y is. cc),
)

pub returns-in-Some-Value-clause-learns : goal.returns-in-Some-Value-clause-learns
returns-in-Some-Value-clause-learns c v m h e =
    let plain : m.durable c.args.spot.at ≡ v c.args.spot.at = plain-found c.args.area.now v m c.args.spot.unflushed c.args.spot.at c.args.word c.in-Some-Value.field-0-0 c.requires.spot.shared h e (subst (λ k. IsKind k × (word k ≡ c.args.word)) c.in-Some-Value.field-0-is c.in-Some-Value.ensures.word) in
    c.resolved.ensures.learns v m (passed c.args.area.now v m c.args.spot.unflushed c.args.spot.at c.requires.spot.shared h plain) (λ r. plain)

pub returns-in-None-clause-learns : goal.returns-in-None-clause-learns
returns-in-None-clause-learns c v m h e =
    let some : IsSome {T = WordKind} None = c.in-None.ensures.lawful.1 (some-kind c.args.area.now v m c.args.spot.unflushed c.args.spot.at c.args.word c.requires.spot.shared h e) in
    absurd (cc)
