-- What this crate proves, as lemmas that other crates cite by these names.
use Rattle.std.proofs.Common.{arith, sym, ◌∙◌}
use Rattle.bz_pm.proofs.Proved.{cut, evict, store}
use Rattle.bz_sweep.proofs.Ahead.{copied-left, stored-left}
use Rattle.bz_sweep.proofs.Flushing.{ask-flushes}
use Rattle.bz_sweep.proofs.Images.{keeps}
use Rattle.bz_sweep.proofs.Lawful.{same}
use Rattle.bz_sweep.proofs.Nearness.{cached-word, copies-resolve, near}
use Rattle.bz_sweep.proofs.Renewing.{may-renew}
use Rattle.bz_sweep.proofs.Standing.{askable, ended, ends, flushed, image, loaded, stable, stored}
use Rattle.bz_sweep.specs.Knowledge.{ActsLeftStay, SweepsKnow}
use Rattle.bz_sweep.specs.Lawful.{LawfulWordsAreThese}
use Rattle.bz_sweep.specs.Laws.{ActsAreThese, ConfigsHaveAreas, CutsKeepTheImage, RecoveredMemoriesMayBeRenewed}

-- a configuration has an area
pub configs_have_areas : ConfigsHaveAreas
configs_have_areas = λ config is. record { some = omega (arith, is); few = omega (arith, is); lines = omega arith; size = omega (arith, is) }

-- which words of a memory are lawful does not hang on its node slots
pub lawful_words_are_these : LawfulWordsAreThese
lawful_words_are_these = same

-- a power cut, in a sweep too, leaves an image that resolves to the same values
pub cuts_keep_the_image : CutsKeepTheImage
cuts_keep_the_image = λ r v old new image cuts. record {
  image = keeps r v old.durable new.durable image cuts.durable;
  same = λ a within. cuts.cached a ∙ sym (cuts.durable a);
}

-- the acts of a simulated memory are those of which a sweep's facts speak
pub acts_are_these : ActsAreThese
acts_are_these = record {
  store = λ m a x is within small. (let h = store m a x is within small in record { cached = h.cached; durable = h.durable });
  flush = ask-flushes;
  evict = λ m a is within. (let h = evict m a is within in record { cached = h.cached; durable = h.durable });
  cut = λ m is. (let h = cut m is in record { cached = h.cached; durable = h.durable });
}

-- a swap memory whose words are recovered may be renewed
pub recovered_memories_may_be_renewed : RecoveredMemoriesMayBeRenewed
recovered_memories_may_be_renewed = may-renew

-- what every sweep knows of the memory, and what it knows after its own acts and those of others
pub sweeps_know : SweepsKnow
sweeps_know = record {
  stable = λ t v stage old new copied ready k h. stable t.area v old new copied stage t.phase ready h k;
  resolves = λ t v stage old new copied ready k h. copies-resolve t.area v old new copied stage t.phase ready k h;
  loaded = λ t v m a ready e k. loaded t.area v m a t.phase e k;
  stored = λ t v old new a x ready e k s. stored t.area v old new a x t.phase ready.place e s k;
  flushed = λ t v old new line ready e k s. flushed t.area v old new line t.phase ready.place e s k;
  image = λ t v stage m ready k. image t.area v m stage t.phase k;
  near = λ t v stage m ready k. near t.area v m stage t.phase k;
  words = λ t v stage m a ready k within. cached-word t.area v m (image t.area v m stage t.phase k) (near t.area v m stage t.phase k) a within;
  askable = λ t v m ask ready k e. askable t.area v m t.phase ask ready.place k e;
  ends = λ t v stage m ready k e. ends t.area v m stage t.phase k e;
  ended = λ t v stage other m e k. ended t.area v m stage other t.phase e k;
}

-- no store, fence or eviction of anybody changes how many acts are left
pub acts_left_stay : ActsLeftStay
acts_left_stay = record {
  copied = λ t v stage old new copied k h. copied-left t.area v old new copied stage t.phase k h;
  stored = λ t old new a x s. stored-left t.area old new t.phase s.durable;
}
