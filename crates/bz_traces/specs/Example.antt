-- The lines of a small journal: fresh memory of 16 slots for nodes and 64 descriptors, and one insert that has begun.
use Rattle.std.specs.Prelude.{◌≡◌, [], ◌∷◌, codes}
use Rattle.bz_call.specs.declared.calls.Call.TheVariants as call
use Rattle.bz_layout.specs.Fresh.{fresh_words}
use Rattle.bz_layout.specs.declared.config.Config.{Config}
use Rattle.bz_mark.specs.declared.marks.Mark.TheVariants.{Begin}
use Rattle.bz_mark.specs.Log.{Log}
use Rattle.bz_lines.specs.Lines.{lines_of}

abbrev pub sizes : Config
sizes = record { nodes = 16; swaps = 64; workers = 1; marks = 1; calls = 1; pages = 0 }

abbrev pub begun_insert : Log
begun_insert = record {
  start = fresh_words sizes;
  past = Begin 1 1 (call.Insert (codes "a") (codes "1")) ∷ [];
  pages = [];
  limits = record { marks = 1; calls = 1; pages = 0 };
}

abbrev pub TwoLinesAreThese : Type 0
TwoLinesAreThese =
    lines_of sizes begun_insert ≡
    codes "{\"format\":2,\"nodes\":16,\"start\":[[0,2],[1,1],[3,16],[4,64]],\"swaps\":64}" ∷ codes "{\"call\":[\"insert\",\"a\",\"1\"],\"mark\":\"begin\",\"n\":1,\"w\":1}" ∷ []
