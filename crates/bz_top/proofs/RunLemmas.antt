-- A script that was run over a new world: to its end, to a limit, or to want of memory.
use Rattle.std.proofs.Common.{◌≡◌, ◌++◌, Option, Some, None, List, [], ℕ, refl, sym, subst, inl, inr}
use Rattle.std.specs.Prelude.{codes}
use Rattle.bz_layout.specs.Addresses.{words_of}
use Rattle.bz_layout.specs.declared.config.Config.{Config}
use Rattle.bz_mark.specs.Log.{Limits}
use Rattle.bz_script.specs.Script.{Job}
use Rattle.bz_sched.specs.Scripts.{LeadsTo, LeadsToInPart, LeadsToWant}
use Rattle.bz_sched.specs.Enough.{count_wanting}
use Rattle.bz_sched.specs.Sums.{calls_in, sum_of, SufficesFor, HasStockFor}
use Rattle.bz_sound.specs.Power.Sound.{IsSound}
use Rattle.bz_mark.specs.declared.power.Power.{Power as State}
use Rattle.bz_cli.specs.declared.command.Command.{Command}
use Rattle.bz_cli.specs.declared.command.Command.TheVariants.{Run, Dump, Load, Trace, Queue, Work}
use Rattle.bz_sched.specs.FromWorld.Numbers.{AreNumbersKept}
use Rattle.bz_sched.specs.FromWorld.WorldView.{WorldView}
use Rattle.bz_sched.specs.FromWorld.LimitKind.{LimitKind}
use Rattle.bz_top.specs.Bases.{Base}
use Rattle.bz_top.specs.Endings.{IsLab, IsMadeFor, IsFinished, IsCutShort, IsHeldUp, IsLeft, at_first, items_from, printed, printed_before}
use Rattle.bz_top.specs.Faults.{fault_line, limit_text}
use Rattle.bz_top.specs.Items.{ItemsRan}
use Rattle.bz_top.specs.Parts.{Sunk, Says, SaysOrWants, Prints, RanWorld}
use Rattle.bz_top.specs.declared.items.ItemsEnd.TheVariants.{Finished, Limit, Memory}
use Rattle.bz_top.proofs.BaseLemmas.{made_still}
use Rattle.bz_top.proofs.SumLemmas.{lacks_still, served_still}

-- nothing need be left of what a command writes
pub nothing-left : (command : Command) (world : WorldView) → IsLeft command world []
nothing-left Run world = refl
nothing-left Dump world = refl
nothing-left Load world = refl
nothing-left Trace world = (0, refl)
nothing-left Queue world = refl
nothing-left (Work seed calls workers) world = refl

-- so a text or want of memory is a command's
pub prints : (command : Command) (world : WorldView) (k : Sunk) (status answer : ℕ) (text : List ℕ) → SaysOrWants k status text answer → Prints command world k status text answer
prints command world k status answer text (inl said) = inl said
prints command world k status answer text (inr said) = inr ([], nothing-left command world, said)

module _ (marks : ℕ) (base : Base) (job : Job) (old new : WorldView) (made : IsMadeFor marks base job old) (sound : IsSound new.config new.at_start new.log) (numbers : AreNumbersKept new.config new.at_start new.log) where
  pub ran-finished : (command : Command) (k : Sunk) (status : ℕ) (lab : Option WorldView) → ItemsRan old job.items Finished new → (SufficesFor old.config old.log.limits (items_from old.at_start job.items) → HasStockFor old.config old.log.start (sum_of calls_in (items_from old.at_start job.items)) → count_wanting new.log.past ≡ 0) → lab ≡ Some new
      → Prints command new k 0 (printed command new) status → RanWorld command marks base job k status lab
  ran-finished command k status lab ran served is says =
      let right : IsLab marks base job new = record { made = made_still marks base job old new made ran.on; sound = sound; numbers = numbers } in
      let finished : IsFinished marks base job new = record {
        right = right;
        follows = subst (λ (s : State). LeadsTo s new.log.start (words_of new.config) None at_first (items_from s job.items) new.log.past) (sym ran.on.at_start)
            (subst (λ (start : List ℕ). LeadsTo old.at_start start (words_of new.config) None at_first (items_from old.at_start job.items) new.log.past) (sym ran.on.start)
            (subst (λ (c : Config). LeadsTo old.at_start old.log.start (words_of c) None at_first (items_from old.at_start job.items) new.log.past) (sym ran.on.config) ran.follows));
        served = served_still old new job.items ran.on served;
      } in
      elim says [
        | inl said ↦ inl (record { world = new; is_lab = is; finished = finished; said = said })
        | inr (before, left, said) ↦ inr (inr (record { world = new; is_lab = is; led = inl finished; before = before; left = left; said = said }))
      ]

  pub ran-limited : (command : Command) (k : Sunk) (status : ℕ) (lab : Option WorldView) (which : LimitKind) → ItemsRan old job.items (Limit which) new → (SufficesFor old.config old.log.limits (items_from old.at_start job.items) → ⊥) → lab ≡ Some new → Prints command new k 5 (printed_before command new ++ fault_line (limit_text which)) status
      → RanWorld command marks base job k status lab
  ran-limited command k status lab which ran lacks is says =
      let right : IsLab marks base job new = record { made = made_still marks base job old new made ran.on; sound = sound; numbers = numbers } in
      let cut_short : IsCutShort marks base job new which = record {
        right = right;
        follows = subst (λ (s : State). LeadsToInPart which new.log.limits s new.log.start (words_of new.config) None at_first (items_from s job.items) new.log.past) (sym ran.on.at_start)
            (subst (λ (start : List ℕ). LeadsToInPart which new.log.limits old.at_start start (words_of new.config) None at_first (items_from old.at_start job.items) new.log.past) (sym ran.on.start)
            (subst (λ (c : Config). LeadsToInPart which new.log.limits old.at_start old.log.start (words_of c) None at_first (items_from old.at_start job.items) new.log.past) (sym ran.on.config)
            (subst (λ (limits : Limits). LeadsToInPart which limits old.at_start old.log.start (words_of old.config) None at_first (items_from old.at_start job.items) new.log.past) (sym ran.on.limits) ran.follows)));
        lacks = lacks_still old new job.items ran.on lacks;
      } in
      elim says [
        | inl said ↦ inr (inl (record { world = new; which = which; is_lab = is; cut_short = cut_short; said = said }))
        | inr (before, left, said) ↦ inr (inr (record { world = new; is_lab = is; led = inr (inl (which, cut_short)); before = before; left = left; said = said }))
      ]

  -- memory was wanting for threads
  pub ran-held : (command : Command) (k : Sunk) (status : ℕ) (lab : Option WorldView) → ItemsRan old job.items Memory new → lab ≡ Some new → Says k 7 (fault_line (codes "memory")) status → RanWorld command marks base job k status lab
  ran-held command k status lab ran is said =
      let right : IsLab marks base job new = record { made = made_still marks base job old new made ran.on; sound = sound; numbers = numbers } in
      let held : IsHeldUp marks base job new = record {
        right = right;
        follows = subst (λ (s : State). LeadsToWant s new.log.start (words_of new.config) None at_first (items_from s job.items) new.log.past) (sym ran.on.at_start)
            (subst (λ (start : List ℕ). LeadsToWant old.at_start start (words_of new.config) None at_first (items_from old.at_start job.items) new.log.past) (sym ran.on.start)
            (subst (λ (c : Config). LeadsToWant old.at_start old.log.start (words_of c) None at_first (items_from old.at_start job.items) new.log.past) (sym ran.on.config) ran.follows));
      } in
      inr (inr (record { world = new; is_lab = is; led = inr (inr held); before = []; left = nothing-left command new; said = said }))
