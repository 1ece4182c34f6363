-- The End that stands at the end of a journal.
use Rattle.std.proofs.Common.{◌≡◌, ℕ, ◌<◌, ◌≤◌, ⊎_elim, true, List, [], ◌∷◌, get_or, reverse, refl, sym, ap, subst}
use Rattle.bz_call.specs.Pages.{names_page}
use Rattle.bz_call.specs.declared.replies.Reply.{Reply}
use Rattle.bz_index.proofs.Steps.{read_step}
use Rattle.bz_index.specs.Entries.{entries_in, told}
use Rattle.bz_index.specs.Inside.Outcomes.{EndsWith, HasEnded}
use Rattle.bz_mark.specs.Log.{Log}
use Rattle.bz_mark.specs.declared.marks.Mark.{Mark}
use Rattle.bz_mark.specs.declared.marks.Mark.TheVariants.{End}
use Rattle.bz_sound.specs.Power.Sound.{IsSound}
use Rattle.bz_sound.specs.Replies.{Pages}
use Rattle.bz_world.specs.WorldView.{WorldView, IsApplied}
use Rattle.bz_world.specs.declared.answers.Applied.TheVariants as applied
use Rattle.bz_world.specs.declared.answers.Event.TheVariants as event

-- where a step answers that a call has ended
pub has_ended : (old : WorldView) (w n : ℕ) (new : WorldView) → 0 < w → w ≤ old.config.workers → IsApplied old (event.Step w) (applied.Ended n) new → IsSound new.config new.at_start new.log → HasEnded new.log
has_ended old w n new some within h sound = ⊎_elim
    (λ made. let s = made.steps in let ends = s.ends in record {
      worker = w;
      number = n;
      reply = ends.reply;
      at = ends.at;
      past = s.struck;
      is = ap (λ (log : Log). log.past) ends.is;
      pages = sound.pages;
    })
    (λ stays. absurd stays.1)
    (read_step old w (applied.Ended n) new some within h)

ends_told : (w n : ℕ) (reply : Reply) (moment : ℕ) (past : List Mark) (pages : Pages) (page : List (List ℕ × List ℕ))
    → (names_page reply ≡ true → page ≡ get_or pages 0 []) → EndsWith (told (End w n reply moment ∷ past) pages) reply page
ends_told w n reply moment past pages page shown = (w, n, moment, refl, (λ yes. rw yes (shown yes)))

-- what was read of it
pub ends_with : (log : Log) (w n : ℕ) (reply : Reply) (moment : ℕ) (past : List Mark) (page : List (List ℕ × List ℕ)) → log.past ≡ End w n reply moment ∷ past
    → (names_page reply ≡ true → page ≡ get_or (reverse log.pages) 0 []) → EndsWith (entries_in log) reply page
ends_with log w n reply moment past page is shown =
    subst (λ (marks : List Mark). EndsWith (told marks (reverse log.pages)) reply page) (sym is) (ends_told w n reply moment past (reverse log.pages) page shown)
