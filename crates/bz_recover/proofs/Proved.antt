-- What this crate proves, as lemmas that other crates cite by these names.
use Rattle.std.proofs.Common.{ap, ◌+◌}
use Rattle.bz_sweep.proofs.Proved.{acts_are_these as sweep_acts_are_these, acts_left_stay as sweep_acts_left_stay, cuts_keep_the_image as sweep_cuts_keep_the_image, recovered_memories_may_be_renewed as sweep_recovered_memories_may_be_renewed}
use Rattle.bz_sweep.specs.Areas.{area_of}
use Rattle.bz_sweep.specs.Duties.{asks_of as sweep_asks}
use Rattle.bz_sweep.specs.Laws.{ActsAreThese}
use Rattle.bz_recover.proofs.Images.{powered-of, to-area}
use Rattle.bz_recover.proofs.Joining.{finishes, held}
use Rattle.bz_recover.proofs.Keeping.{keeps-content}
use Rattle.bz_recover.proofs.Standing.{askable, ends, flushed, image, loaded, near, resolves, stable, stored, words}
use Rattle.bz_recover.specs.Contents.{ResolvingKeepsTheContent}
use Rattle.bz_recover.specs.Duties.{stage_of}
use Rattle.bz_recover.specs.Knowledge.{ActsLeftStay, RecoveriesKnow}
use Rattle.bz_recover.specs.Laws.{CutsKeepTheImage, RecoveredMemoriesMayBeRenewed}
use Rattle.bz_recover.specs.Walking.{walk_left}

-- a power cut, in a recovery too, leaves an image that resolves to the same values
pub cuts_keep_the_image : CutsKeepTheImage
cuts_keep_the_image = λ config v old new image cuts.
    powered-of config v new
    (sweep_cuts_keep_the_image (area_of config) v old new (to-area config v old.durable image) cuts)

-- the acts of a simulated memory are those of which a recovery's facts speak
pub acts_are_these : ActsAreThese
acts_are_these = sweep_acts_are_these

-- a swap memory whose words are recovered may be renewed
pub recovered_memories_may_be_renewed : RecoveredMemoriesMayBeRenewed
recovered_memories_may_be_renewed = λ config v m same cached durable idle h. sweep_recovered_memories_may_be_renewed (area_of config) v m same cached durable idle h

-- what every recovery knows of the memory, and what it knows after its own acts and those of others
pub recoveries_know : RecoveriesKnow
recoveries_know = record {
  stable = λ t v stage old new copied ready k h. stable t ready v stage old new copied k h;
  resolves = λ t v stage old new copied ready k h. resolves t ready v stage old new copied k h;
  loaded = λ t v m a ready e k. loaded t ready v m a e k;
  stored = λ t v old new a x ready e k s. stored t ready v old new a x e k s;
  flushed = λ t v old new line ready e k s. flushed t ready v old new line e k s;
  image = λ t v stage m ready k. image t ready v stage m k;
  near = λ t v stage m ready k. near t ready v stage m k;
  words = λ t v stage m a ready k within. words t ready v stage m a k within;
  askable = λ t v m todo ready k e. askable t ready v m todo k e;
  finishes = λ t e. finishes (sweep_asks t.sweep) t.walk.config t.walk.step e;
  ends = λ t v stage m ready k e. ends t ready v stage m k e;
  reached = λ t v image slots ready n walks tree e. held t v image slots ready n walks tree e;
}

-- no store, fence or eviction of anybody changes how many acts are left
pub acts_left_stay : ActsLeftStay
acts_left_stay = record {
  copied = λ t v stage old new copied k h. ap (λ n. n + walk_left t.walk.left t.walk.step) (sweep_acts_left_stay.copied t.sweep v (stage_of stage) old new copied k h);
  stored = λ t old new a x s. ap (λ n. n + walk_left t.walk.left t.walk.step) (sweep_acts_left_stay.stored t.sweep old new a x s);
}

-- where words outside the descriptors become what they stand for, the image breaks no rule anew and holds the same
pub resolving_keeps_the_content : ResolvingKeepsTheContent
resolving_keeps_the_content = keeps-content
