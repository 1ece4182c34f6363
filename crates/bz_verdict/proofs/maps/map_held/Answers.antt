use Rattle.std.specs.Prelude.{slice_index}
use Rattle.std.proofs.Common.{◌∙◌}
use Rattle.bz_content.specs.Map.{map_in}
use Rattle.bz_verdict.proofs.Pairing.{holds_entries, if_ok}
use Rattle.bz_verdict.proofs.maps.map_held.Goals as goal

pub returns : goal.returns
returns c = λ numbers is.
    if_ok c.map_of.result _ _ (λ m h. holds_entries (map_in numbers (slice_index c.args.image.now)) c.deref.result.now m.entries (c.deref.ensures.value ∙ c.in_ok-held.ensures numbers is) h) c.map_of.ensures
