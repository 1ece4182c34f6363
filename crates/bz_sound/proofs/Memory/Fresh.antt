-- A journal without marks is sound.
use Rattle.std.proofs.Common.{◌≡◌, ℕ, List, [], sym, refl, arith}
use Rattle.std.specs.Prelude.{slice_index, None}
use Rattle.bz_layout.specs.declared.config.Config.{Config}
use Rattle.bz_content.specs.Content.{image_fault, image_of}
use Rattle.bz_content.proofs.Proved.{map_is_the_content, well_formed_images_have_no_fault}
use Rattle.bz_sound.specs.Memory.Laws.{FreshJournalsAreSound}
use Rattle.bz_sound.specs.Memory.Moments.{Decodes}
use Rattle.bz_sound.proofs.Memory.Marks.{holds-last}

-- the start image holds the map at the start
pub decodes-start : (c : Config) (start : List ℕ) → image_fault c (slice_index start) ≡ None → Decodes c start []
decodes-start c start none = record {
  well_formed = none;
  content = λ key. sym (map_is_the_content c (image_of (slice_index start)) ((well_formed_images_have_no_fault c (slice_index start)).0 none).tree key);
}

pub fresh-sound : FreshJournalsAreSound
fresh-sound c start limits size none = record {
  size = size;
  truthful = tt;
  once = tt;
  replies = tt;
  pages = refl;
  durable = λ moment h outer. holds-last (Decodes c start) [] moment (omega arith) (decodes-start c start none);
}
