use Rattle.bz_content.proofs.Proved as proved
use Rattle.bz_content.proofs.laws.well_formed_images_have_no_fault.Goals as goal

pub returns : goal.returns
returns c = proved.well_formed_images_have_no_fault
