use Rattle.bz_page.proofs.Proved as proved
use Rattle.bz_page.proofs.laws.views_say_what_images_say.Goals as goal

pub returns : goal.returns
returns c = proved.views_say_what_images_say
