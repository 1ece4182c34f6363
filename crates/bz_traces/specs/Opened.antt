-- A journal that was opened for reading.
use Rattle.std.specs.Prelude.{◌≡◌, ◌<◌, ℕ, List, []}
use Rattle.bz_layout.specs.declared.limits.TheConstants.{MAX_MARKS, MAX_CALLS, MAX_PAGES}
use Rattle.bz_mark.specs.Log.{Log}

-- no mark and no page, and room for so many marks, or as many as there may be
pub record IsOpened (start : List ℕ) (lines : ℕ) (log : Log) : Type 0 where
  pub image : log.start ≡ start
  pub fresh : log.past ≡ []
  pub blank : log.pages ≡ []
  pub calls : log.limits.calls ≡ MAX_CALLS
  pub lists : log.limits.pages ≡ MAX_PAGES
  pub marks : (k : ℕ) → k < lines → k < MAX_MARKS → k < log.limits.marks
