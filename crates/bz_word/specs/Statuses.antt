-- Status words: the bits of each field of a node's status.
use Rattle.std.specs.Prelude.{◌==◌, if◌then◌else◌, ℕ, ◌+◌, ◌^◌, ◌<◌}
use Rattle.bz_word.specs.Fields.{field, at}
use Rattle.bz_word.specs.declared.status.Status.{Status}

-- the word of a status: bits 61 to 63 are clear
abbrev pub status_word : Status → ℕ
status_word s = at 60 (if s.frozen then 1 else 0) + at 52 s.count + at 42 s.block + at 32 s.dead + at 0 s.stamp

-- each field fits its bits
pub record IsStatus (s : Status) : Type 0 where
  pub count : s.count < 2 ^ 8
  pub block : s.block < 2 ^ 10
  pub dead : s.dead < 2 ^ 10
  pub stamp : s.stamp < 2 ^ 32

-- no control bit is set
abbrev pub IsStatusWord : ℕ → Type 0
IsStatusWord x = x < 2 ^ 61

-- the status of a status word
unfoldable pub status : ℕ → Status
status x = record {
  frozen = field 60 1 x == 1;
  count = field 52 8 x;
  block = field 42 10 x;
  dead = field 32 10 x;
  stamp = field 0 32 x;
}
