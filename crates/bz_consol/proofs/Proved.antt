-- What this crate proves, as lemmas that other crates cite by these names.
use Rattle.std.specs.Prelude.{◌≤◌}
use Rattle.std.proofs.Common.{arith}
use Rattle.bz_content.proofs.Proved.{consolidations_keep_the_content, plain_words_stand_for_themselves, well_formed_images_have_no_fault}
use Rattle.bz_layout.specs.declared.thresholds.TheConstants.{CONSOLIDATION_SLOTS}
use Rattle.bz_renew.proofs.Proved.{child_links_turn, frozen_leaves_stand_still, link_swaps_are_good, root_links_turn}
use Rattle.bz_writer.specs.Phases.{write_needs}
use Rattle.bz_writer.specs.declared.phase.WritePhase.{WritePhase}
use Rattle.bz_writer.specs.declared.phase.WritePhase.TheVariants.{Fresh, Guard}
use Rattle.bz_consol.proofs.Renewing.{renewals}
use Rattle.bz_consol.specs.Copies.{RenewalsAreGood}
use Rattle.bz_consol.specs.Duties.{needs_of}
use Rattle.bz_consol.specs.declared.consolidate.Consolidate.{Consolidate}

-- the swap by which a copy of a frozen leaf takes its place, below the root pointer or an inner node, is lawful for everybody and
-- changes no content
pub renewals_are_good : RenewalsAreGood
renewals_are_good = renewals (record {
  formed = well_formed_images_have_no_fault;
  plain = plain_words_stand_for_themselves;
  keep = consolidations_keep_the_content;
  root = root_links_turn;
  child = child_links_turn;
  still = frozen_leaves_stand_still;
  links = link_swaps_are_good;
})

few : (p : WritePhase) → write_needs CONSOLIDATION_SLOTS p ≤ CONSOLIDATION_SLOTS
few Fresh = omega arith
few Guard = omega arith
few p = omega arith

-- a consolidation takes no more than one slot
pub consolidations_take_one_slot : (t : Consolidate) → needs_of t ≤ CONSOLIDATION_SLOTS
consolidations_take_one_slot t = few t.phase
