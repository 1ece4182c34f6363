-- Lists of entries in the rising order of their targets.
use Rattle.std.specs.Prelude.{if◌then◌else◌, nat_lt, ◌<◌, ◌≤◌, List, [], ◌∷◌, All, length}
use Rattle.bz_word.specs.declared.entry.Entry.{Entry}

-- the entries with one more, which stands before the first of them with a greater target
abbrev pub inserted : Entry → List Entry → List Entry
inserted a [] = a ∷ []
inserted a (e ∷ entries) = if nat_lt a.target e.target then a ∷ e ∷ entries else e ∷ inserted a entries

-- each target is below those of the entries after it
abbrev pub AreRising : List Entry → Type 0
AreRising [] = Unit {0}
AreRising (e ∷ entries) = All (λ (after : Entry). e.target < after.target) entries × AreRising entries

-- one to four entries whose targets rise
pub record IsEntryList (entries : List Entry) : Type 0 where
  pub some : 0 < length entries
  pub few : length entries ≤ 4
  pub rising : AreRising entries
