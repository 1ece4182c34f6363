-- Which Ends ask what a page shows at a moment, and what is made of them. The newest mark stands first.
use Rattle.std.specs.Prelude.{◌≡◌, ◌<◌, ◌≤◌, ◌+◌, ◌==◌, if◌then◌else◌, ℕ, Bool, true, false, List, length, slice_get, slice_index, slice_set, Option, Some, None, option_map}
use Rattle.bz_call.specs.declared.replies.Reply.{Reply}
use Rattle.bz_call.specs.declared.replies.Reply.TheVariants.{Page}
use Rattle.bz_mark.specs.Moments.{at_moment, mark_at}
use Rattle.bz_mark.specs.declared.marks.Mark.{Mark}
use Rattle.bz_mark.specs.declared.marks.Mark.TheVariants.{End, Load}
use Rattle.bz_sound.specs.Calls.{Open}
use Rattle.bz_sound.specs.Memory.Moments.{IsAfterLoad}
use Rattle.bz_check.specs.Knowing.{open_of}
use Rattle.bz_check.specs.Tables.{Known, open_in}
use Rattle.bz_check.specs.declared.verdict.JudgeRule.{JudgeRule}
use Rattle.bz_check.specs.declared.verdict.JudgeRule.TheVariants as rule

-- the mark is a load of this worker
abbrev pub is_load_of : ℕ → Mark → Bool
is_load_of w (Load v a value) = v == w
is_load_of w mark = false

-- the worker and the moment of an End with a page
abbrev pub page_read_by : ℕ → ℕ → Reply → Option (ℕ × ℕ)
page_read_by w at (Page page next) = Some (w, at)
page_read_by w at reply = None

abbrev pub page_read : Mark → Option (ℕ × ℕ)
page_read (End w n reply at) = page_read_by w at reply
page_read mark = None

-- an End with a page names a moment that is not after it, directly after a load of its worker: it asks what its page shows there
pub record Asks (past : List Mark) (e at : ℕ) : Type 0 where
  pub within : e < length past
  pub mark : Mark
  pub is : mark_at e past ≡ Some mark
  pub worker : ℕ
  pub names : page_read mark ≡ Some (worker, at)
  pub before : at ≤ e
  pub loaded : IsAfterLoad worker (at_moment at past)

-- and no earlier End asks that of the moment
pub record AsksFirst (past : List Mark) (e at : ℕ) : Type 0 where
  pub asks : Asks past e at
  pub first : (f : ℕ) → f < e → Asks past f at → ⊥

-- for each moment the first of so many marks that asks, counted from 1, and 0 where none does
pub record AreAsked (past : List Mark) (n : ℕ) (asked : List ℕ) : Type 0 where
  pub size : length asked ≡ length past + 1
  pub none : (at e : ℕ) → slice_index asked at ≡ 0 → e < n → Asks past e at → ⊥
  pub some : (at e : ℕ) → slice_index asked at ≡ e + 1 → AsksFirst past e at
  pub few : (at : ℕ) → slice_index asked at ≤ n

-- a moment that a mark asks of is noted, unless it was noted before
abbrev pub noted : List ℕ → Option ℕ → ℕ → List ℕ
noted asked None e = asked
noted asked (Some at) e = if slice_index asked at == 0 then slice_set asked at (e + 1) else asked

-- these are the open calls of a table
abbrev pub AreCalls : (ℕ → Option Open) → Known → Type 0
AreCalls calls t = (w : ℕ) → w < 256 → option_map open_of (open_in t w) ≡ calls w

-- an End with a page was answered yes: its question still stands
abbrev pub stands_for : ℕ → Option ℕ → Bool
stands_for e None = false
stands_for e (Some asked) = asked == e + 1

abbrev pub is_shown_by : List ℕ → ℕ → ℕ → Reply → Bool
is_shown_by asked e at (Page page next) = stands_for e (slice_get asked at)
is_shown_by asked e at reply = true

abbrev pub is_shown_in : List ℕ → ℕ → Mark → Bool
is_shown_in asked e (End w n reply at) = is_shown_by asked e at reply
is_shown_in asked e mark = true

-- the rule that a mark breaks, with what its page shows
abbrev pub with_page : Option JudgeRule → Bool → Option JudgeRule
with_page (Some broken) shown = Some broken
with_page None true = None
with_page None false = Some rule.Reply
