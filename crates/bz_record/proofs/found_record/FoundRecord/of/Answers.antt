use Rattle.std.proofs.Common.{◌≡◌, ap, ◌∙◌}
use Rattle.bz_slotted.specs.Page.{meta_of, extent_of}
use Rattle.bz_word.specs.declared.meta.Meta.TheVariants.{Visible}
use Rattle.bz_record.proofs.Coding.{visible-extent}
use Rattle.bz_record.proofs.Finding.{unpacks-visible}
use Rattle.bz_record.proofs.found_record.FoundRecord.of.Goals as goal

pub unreachable-requires : goal.unreachable-requires
unreachable-requires c = let is = unpacks-visible c.args.found.now.meta c.unpack.result c.unpack.ensures.inverse c.requires in let none = c.in-None.is in absurd (cc)

pub returns : goal.returns
returns c =
    let is = unpacks-visible c.args.found.now.meta c.unpack.result c.unpack.ensures.inverse c.requires in
    let some = c.in-Some.is in
    let same : c.in-Some.meta ≡ Visible (extent_of (meta_of c.args.found.now.meta)) = cc in
    ap (λ z. record { place = c.args.found.now.index; extent = z }) (c.extent_of.ensures ∙ (ap extent_of same ∙ visible-extent (extent_of (meta_of c.args.found.now.meta))))
