-- The report of a journal that is a world's.
use Rattle.std.proofs.Common.{◌≡◌, ℕ, List, Option, subst}
use Rattle.std.specs.Io.KnownBytes.{Appends}
use Rattle.bz_io.specs.Transfers.{GrewByFront}
use Rattle.bz_layout.specs.declared.config.Config.{Config}
use Rattle.bz_mark.specs.Log.{Log}
use Rattle.bz_text.specs.Report.{report_of}

pub report_written : (held after : Option (List ℕ)) (c : Config) (log journal : Log) → journal ≡ log → Appends held after (report_of c journal) → Appends held after (report_of c log)
report_written held after c log journal same h = subst (λ (l : Log). Appends held after (report_of c l)) same h

pub report_begun : (held after : Option (List ℕ)) (c : Config) (log journal : Log) → journal ≡ log → GrewByFront held after (report_of c journal) → GrewByFront held after (report_of c log)
report_begun held after c log journal same h = subst (λ (l : Log). GrewByFront held after (report_of c l)) same h
