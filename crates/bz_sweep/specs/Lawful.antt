-- Which words of an area are lawful. This hangs on the descriptors alone, so it is told of a configuration that has these
-- descriptors, and no node slot.
use Rattle.std.specs.Prelude.{◌≡◌, ℕ, Bool}
use Rattle.bz_content.specs.Lawful.{is_begun as is_begun_in, is_named as is_named_in, is_in_descriptor as is_in_descriptor_in, is_lawful as is_lawful_in}
use Rattle.bz_layout.specs.declared.config.Config.{Config}
use Rattle.bz_word.specs.declared.kind.WordKind.{WordKind}
use Rattle.bz_sweep.specs.Areas.{area_of}
use Rattle.bz_sweep.specs.declared.area.Area.{Area}

abbrev pub without_nodes : Area → Config
without_nodes r = record { nodes = 0; swaps = r.swaps; workers = 0; marks = 0; calls = 0; pages = 0 }

abbrev pub is_begun : Area → (ℕ → ℕ) → ℕ → Bool
is_begun r = is_begun_in (without_nodes r)

abbrev pub is_named : Area → (ℕ → ℕ) → ℕ → WordKind → Bool
is_named r = is_named_in (without_nodes r)

abbrev pub is_in_descriptor : Area → ℕ → Bool
is_in_descriptor r = is_in_descriptor_in (without_nodes r)

-- the word at an address is lawful there
abbrev pub is_lawful : Area → (ℕ → ℕ) → ℕ → Bool
is_lawful r = is_lawful_in (without_nodes r)

-- node slots make no difference
abbrev pub LawfulWordsAreThese : Type 0
LawfulWordsAreThese = (c : Config) (raw : ℕ → ℕ) (a : ℕ) → is_lawful (area_of c) raw a ≡ is_lawful_in c raw a
